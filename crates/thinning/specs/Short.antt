-- The short list for k: an accepted list on the same nodes, in which every division has the value that it has in the thinned list.
--
-- Why it is true: its rows are the rows of the given list that keep something, each once. So a sum over them is the sum over all rows of what is
-- kept, since rows that keep 0 add 0. Assumes nothing.
use Prim.Native.Nat.{ℕ, zero, suc, ◌+◌, ◌≤◌, ◌<◌}
use Rattle.std.specs.Prelude.{◌≡◌, Bool, false, List, [], ◌∷◌, ◌++◌, map, length, get_or}
use Rattle.std.proofs.Math.Path.{refl}
use Rattle.std.proofs.Common.{◌∙◌, ap, ap₂, length-append, arith, add-zero, add-one}
use Rattle.std.proofs.lemmas.List.{length-map}
use Rattle.std.proofs.Math.ListN.{get_or-append}
use Rattle.std.proofs.Math.Seq.{get_or-append_seam}
use Rattle.std.proofs.Math.Dec.{ltb}
use borrow.Author.Tests.{ltb-true, ltb-false}
use Rattle.meaning.specs.Sums.{sum, on, differ, those}
use Rattle.meaning.specs.Numbers.{fine}
use Rattle.meaning.specs.Links.{LinkList, list_of, links, Accepted, list_check}
use Rattle.meaning.specs.Forest.{kept, thinned, stays, short_of}
use Rattle.meaning.specs.Split.{cut}
use Rattle.laws.specs.Bools.{on-zero}
use Rattle.laws.specs.Choose.{size_most}
use Rattle.laws.specs.Sums.{sum-suc, sum_ext}
use Rattle.laws.specs.Accept.{accepted_fine}
use Rattle.laws.specs.Lists.{those_yes, those_no, length-those, those_below, those_pass}
use Rattle.thinning.specs.Place.{by_test}
use Rattle.thinning.specs.Kept.{kept-le}

-- ---- sums over the rows that stay

-- the sum over the members of a list
abbrev summed : List ℕ → (ℕ → ℕ) → ℕ
summed s f = sum (length s) (λ i. f (get_or s i 0))

summed-snoc : (s : List ℕ) (x : ℕ) (f : ℕ → ℕ) → summed (s ++ (x ∷ [])) f ≡ summed s f + f x
summed-snoc s x f =
    ap (λ m. sum m (λ i. f (get_or (s ++ (x ∷ [])) i 0))) (length-append s (x ∷ []) ∙ add-one (length s))
    ∙ sum-suc (length s) _
    ∙ ap₂ ◌+◌ (sum_ext (length s) _ _ (λ i h. ap f (get_or-append s (x ∷ []) 0 i h))) (ap f (get_or-append_seam s x [] 0))

summed-those : (n : ℕ) (t : ℕ → Bool) (f : ℕ → ℕ) → summed (those n t) f ≡ sum n (λ r. on (t r) (f r))
unfolding sum
summed-those zero t f = unfold those in refl
summed-those (suc n) t f =
    by_test (t n)
    (λ e. ap (λ s. summed s f) (those_yes n t e) ∙ summed-snoc (those n t) n f ∙ rw (e, summed-those n t f))
    (λ e. ap (λ s. summed s f) (those_no n t e) ∙ rw (e, add-zero, summed-those n t f))

get_or-map : (f : ℕ → ℕ) (s : List ℕ) (i : ℕ) → i < length s → get_or (map f s) i 0 ≡ f (get_or s i 0)
get_or-map f [] i h = absurd (omega arith)
get_or-map f (x ∷ s) zero h = refl
get_or-map f (x ∷ s) (suc i) h = get_or-map f s i (omega arith)

-- ---- the short list, row by row

-- row i of the short list is this row of the given one
abbrev pub stayed : LinkList → List ℕ → ℕ → ℕ → ℕ
stayed L o k i = get_or (stays L o k) i 0

module _ (L : LinkList) (o : List ℕ) (k : ℕ) where
  pub short_row_count : (list_of (short_of L o k)).rows ≡ length (stays L o k)
  short_row_count = length-map (stays L o k) L.a

  pub stayed_row : (i : ℕ) → i < length (stays L o k) → stayed L o k i < L.rows
  unfolding stays
  stayed_row i h = those_below L.rows (λ r. ltb 0 (kept L o k r)) i h

  pub stayed_keeps : (i : ℕ) → i < length (stays L o k) → 1 ≤ kept L o k (stayed L o k i)
  unfolding stays
  stayed_keeps i h = ltb-true 0 _ (those_pass L.rows (λ r. ltb 0 (kept L o k r)) i h)

  short_a : (i : ℕ) → i < length (stays L o k) → (list_of (short_of L o k)).a i ≡ L.a (stayed L o k i)
  short_a = get_or-map L.a (stays L o k)

  short_b : (i : ℕ) → i < length (stays L o k) → (list_of (short_of L o k)).b i ≡ L.b (stayed L o k i)
  short_b = get_or-map L.b (stays L o k)

  short_w : (i : ℕ) → i < length (stays L o k) → (list_of (short_of L o k)).w i ≡ kept L o k (stayed L o k i)
  short_w = get_or-map (kept L o k) (stays L o k)

  -- no more rows than were given
  pub short_rows : (list_of (short_of L o k)).rows ≤ L.rows
  unfolding stays
  short_rows =
      rw (short_row_count, length-those L.rows (λ r. ltb 0 (kept L o k r)))
      (omega (arith, size_most L.rows (λ r. ltb 0 (kept L o k r))))

  -- a sum over rows in which a weight of 0 counts for nothing is the same over both lists
  short_sum :
      (F : ℕ → ℕ → ℕ → ℕ) → ((x y : ℕ) → F x y 0 ≡ 0)
      → sum (list_of (short_of L o k)).rows (λ i. F ((list_of (short_of L o k)).a i) ((list_of (short_of L o k)).b i) ((list_of (short_of L o k)).w i))
      ≡ sum L.rows (λ r. F (L.a r) (L.b r) (kept L o k r))
  unfolding stays
  short_sum F none =
      rw short_row_count
      (sum_ext (length (stays L o k)) _ (λ i. row (stayed L o k i)) (λ i h.
      rw (short_a i h, short_b i h, short_w i h))
      ∙ summed-those L.rows (λ r. ltb 0 (kept L o k r)) row
      ∙ sum_ext L.rows _ _ (λ r h. nothing (L.a r) (L.b r) (kept L o k r)))
    where
      row : ℕ → ℕ
      row r = F (L.a r) (L.b r) (kept L o k r)

      nothing : (x y w : ℕ) → on (ltb 0 w) (F x y w) ≡ F x y w
      nothing x y w =
          by_test (ltb 0 w)
          (λ e. rw e)
          (λ e. rw e (let z : w ≡ 0 = omega (arith, ltb-false 0 w e) in rw (z, none)))

  -- every division has the same value
  pub short_cut : (S : ℕ → Bool) → cut (list_of (short_of L o k)) S ≡ cut (thinned L o k) S
  unfolding cut
  short_cut S = short_sum (λ x y w. on (differ (S x) (S y)) w) (λ x y. on-zero (differ (S x) (S y)))

  pub short_links : links (list_of (short_of L o k)) ≡ links (thinned L o k)
  short_links = short_sum (λ x y w. w) (λ x y. refl)

  -- ---- an accepted list

  -- each of its rows is a row of the given list that keeps something
  pub short_accepted : Accepted L → Accepted (list_of (short_of L o k))
  short_accepted h =
      record {
        some_node = h.some_node;
        few_nodes = h.few_nodes;
        few_rows = omega (arith, short_rows, h.few_rows);
        a_inside = λ i l. rw (short_a i (inside i l)) (h.a_inside (stayed L o k i) (stayed_row i (inside i l)));
        b_inside = λ i l. rw (short_b i (inside i l)) (h.b_inside (stayed L o k i) (stayed_row i (inside i l)));
        apart = λ i l. rw (short_a i (inside i l), short_b i (inside i l)) (h.apart (stayed L o k i) (stayed_row i (inside i l)));
        weighty = λ i l. rw (short_w i (inside i l)) (stayed_keeps i (inside i l));
        light = λ i l. rw (short_w i (inside i l))
            (omega (arith, kept-le L o k (stayed L o k i), h.light (stayed L o k i) (stayed_row i (inside i l))));
      }
    where
      inside : (i : ℕ) → i < (list_of (short_of L o k)).rows → i < length (stays L o k)
      inside i l = rw short_row_count at l

  -- so its checks find nothing
  pub short_fine : Accepted L → list_check (short_of L o k) false ≡ fine
  short_fine h = accepted_fine (short_of L o k) (short_accepted h) (record { as_b = simp length-map; as_w = simp length-map })
