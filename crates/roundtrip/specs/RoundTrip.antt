-- The round trip of the definitions: in the file of an accepted list the reader's definition finds that list, and its checks find nothing.
-- The trailer says start 0, the right row count and the mark. From 0 on the run finds the kind 1 record and then row after row, each whole, up to the trailer,
-- and two bytes of a number below 65,536 make that number again.
use Prim.Native.Nat.{ℕ, zero, suc, ◌+◌, ◌*◌, ◌/◌, ◌%◌, ◌≤◌, ◌<◌}
use Rattle.std.specs.Prelude.{◌≡◌, refl, true, List, [], ◌∷◌, ◌++◌, map}
use Rattle.std.proofs.Common.{sym, ◌∙◌}
use Rattle.std.proofs.Math.Path.{ap}
use Rattle.std.proofs.Math.Bool.{false}
use Rattle.std.proofs.lemmas.List.{map-append, length-map}
use native.Mathlib.Omega.{arith}
use Rattle.std.proofs.Math.ListN.{length, get_or}
use borrow.Author.Tests.{lt-ltb, le-ltb, eq-eqb}
use Rattle.meaning.specs.Sums.{listed}
use Rattle.meaning.specs.Numbers.{fine}
use Rattle.meaning.specs.Links.{Given, LinkList, list_of, list_check, Accepted}
use Rattle.meaning.specs.File.{get16, trailer_at, start_of, count_of, Row, nodes_item, row_item, item_at, Found, ran, run_from, nothing, run_of, rows_given, file_check, list_in, file_of, row_bytes}
use Rattle.laws.specs.Bools.{eqb_same}
use Rattle.laws.specs.Lists.{length-listed, listed-get_or}
use Rattle.laws.specs.Accept.{Words, Even, check_fine, size_even, fine_accepted}
use Rattle.roundtrip.specs.Layout.{length_file, trailer_place, row_byte, trailer_byte}

-- two bytes make the number again
pub number-back : (x : ℕ) → x < 65536 → x % 256 + 256 * (x / 256 % 256) ≡ x
number-back x h = omega arith

-- the numbers of a list are 16-bit numbers
pub record Small (L : LinkList) : Type 0 where
  pub nodes_small : L.nodes < 65536
  pub rows_small : L.rows < 65536
  pub a_small : (r : ℕ) → r < L.rows → L.a r < 65536
  pub b_small : (r : ℕ) → r < L.rows → L.b r < 65536
  pub w_small : (r : ℕ) → r < L.rows → L.w r < 65536

-- the first rows of a list, and what the run has found after them
abbrev pub row_of : LinkList → ℕ → Row
row_of L r = record { a = L.a r; b = L.b r; w = L.w r }

unfoldable pub first_rows : LinkList → ℕ → List Row
first_rows L zero = []
first_rows L (suc r) = first_rows L r ++ (row_of L r ∷ [])

abbrev pub found_at : LinkList → ℕ → Found
found_at L r = record { seen = true; n = L.nodes; rows = first_rows L r }

map_rows : (L : LinkList) (f : Row → ℕ) (m : ℕ) → map f (first_rows L m) ≡ listed m (λ r. f (row_of L r))
unfolding first_rows listed
map_rows L f zero = refl
map_rows L f (suc m) = map-append f (first_rows L m) (row_of L m ∷ []) ∙ ap (λ l. l ++ (f (row_of L m) ∷ [])) (map_rows L f m)

length-first : (L : LinkList) (m : ℕ) → length (first_rows L m) ≡ m
length-first L m = sym (length-map (first_rows L m) (λ r. r.a)) ∙ ap length (map_rows L (λ r. r.a) m) ∙ length-listed m L.a

module _ (L : LinkList) (small : Small L) where
  -- the trailer
  start_zero : start_of (file_of L) ≡ 0
  start_zero =
      let t = trailer_at (file_of L) in
      let b₀ : get_or (file_of L) t 0 ≡ 0 = trailer_byte L 0 t (omega (arith, trailer_place L)) in
      let b₁ : get_or (file_of L) (t + 1) 0 ≡ 0 = trailer_byte L 1 (t + 1) (omega (arith, trailer_place L)) in
      let b₂ : get_or (file_of L) (t + 2) 0 ≡ 0 = trailer_byte L 2 (t + 2) (omega (arith, trailer_place L)) in
      let b₃ : get_or (file_of L) (t + 2 + 1) 0 ≡ 0 = trailer_byte L 3 (t + 2 + 1) (omega (arith, trailer_place L)) in
      omega (arith, b₀, b₁, b₂, b₃)

  count_rows : count_of (file_of L) ≡ L.rows
  count_rows =
      let t = trailer_at (file_of L) in
      rw (trailer_byte L 4 (t + 4) (omega (arith, trailer_place L)), trailer_byte L 5 (t + 4 + 1) (omega (arith, trailer_place L)))
      (number-back L.rows small.rows_small)

  mark_low : get_or (file_of L) (trailer_at (file_of L) + 6) 0 ≡ 0x4C
  mark_low = trailer_byte L 6 (trailer_at (file_of L) + 6) (omega (arith, trailer_place L))

  mark_high : get_or (file_of L) (trailer_at (file_of L) + 7) 0 ≡ 0x54
  mark_high = trailer_byte L 7 (trailer_at (file_of L) + 7) (omega (arith, trailer_place L))

  -- the kind 1 record
  nodes_item_lem : item_at (file_of L) (trailer_at (file_of L)) 0 false ≡ nodes_item L.nodes 4
  unfolding item_at file_of
  nodes_item_lem = rw (le-ltb (trailer_at (file_of L)) 4 (omega (arith, trailer_place L)), number-back L.nodes small.nodes_small)

  -- row r
  row_item_lem : (r : ℕ) → r < L.rows → item_at (file_of L) (trailer_at (file_of L)) (4 + 8 * r) true ≡ row_item (row_of L r) (4 + 8 * r + 8)
  unfolding item_at
  row_item_lem r h =
      let s = file_of L in
      let at = 4 + 8 * r in
      let byte : (j i : ℕ) → j < 8 → i ≡ 4 + (8 * r + j) → get_or s i 0 ≡ get_or (row_bytes L r) j 0 = λ j i. row_byte L r j i h in
      let len : get_or s at 0 ≡ 8 = byte 0 at (omega arith) (omega arith) in
      let kind : get_or s (at + 1) 0 ≡ 2 = byte 1 (at + 1) (omega arith) (omega arith) in
      let a : get16 s (at + 2) ≡ L.a r = rw (byte 2 (at + 2) (omega arith) (omega arith), byte 3 (at + 2 + 1) (omega arith) (omega arith)) (number-back (L.a r) (small.a_small r h)) in
      let b : get16 s (at + 4) ≡ L.b r = rw (byte 4 (at + 4) (omega arith) (omega arith), byte 5 (at + 4 + 1) (omega arith) (omega arith)) (number-back (L.b r) (small.b_small r h)) in
      let w : get16 s (at + 6) ≡ L.w r = rw (byte 6 (at + 6) (omega arith) (omega arith), byte 7 (at + 6 + 1) (omega arith) (omega arith)) (number-back (L.w r) (small.w_small r h)) in
      rw (len, le-ltb (trailer_at s) (at + 8) (omega (arith, trailer_place L)), kind, a, b, w)

  -- from row r on the run finds all that are left
  rows_run : (k r turns : ℕ) → k + r ≡ L.rows → k ≤ turns
      → run_from turns (file_of L) (trailer_at (file_of L)) (4 + 8 * r) (found_at L r) ≡ ran (found_at L L.rows)
  unfolding run_from first_rows
  rows_run zero r zero e h = let all : r ≡ L.rows = omega arith in ap (λ m. ran (found_at L m)) all
  rows_run zero r (suc t) e h =
      let all : r ≡ L.rows = omega arith in
      rw (le-ltb (4 + 8 * r) (trailer_at (file_of L)) (omega (arith, trailer_place L))) (ap (λ m. ran (found_at L m)) all)
  rows_run (suc k) r zero e h = absurd (omega arith)
  rows_run (suc k) r (suc t) e h =
      let next : 4 + 8 * r + 8 ≡ 4 + 8 * suc r = omega arith in
      rw (lt-ltb (4 + 8 * r) (trailer_at (file_of L)) (omega (arith, trailer_place L)), row_item_lem r (omega arith), next)
      (rows_run k (suc r) t (omega arith) (omega arith))

  whole_run : (turns : ℕ) → L.rows < turns → run_from turns (file_of L) (trailer_at (file_of L)) 0 nothing ≡ ran (found_at L L.rows)
  unfolding run_from first_rows
  whole_run zero h = absurd (omega arith)
  whole_run (suc t) h = rw (lt-ltb 0 (trailer_at (file_of L)) (omega (arith, trailer_place L)), nodes_item_lem) (rows_run L.rows 0 t (omega arith) (omega arith))

  pub run_back : run_of (file_of L) ≡ ran (found_at L L.rows)
  unfolding run_of
  run_back = rw start_zero (whole_run (trailer_at (file_of L)) (omega (arith, trailer_place L)))

-- ---- an accepted list

module _ (g : Given) (words : Words g) (ok : list_check g false ≡ fine) where
  even : Even g
  even = size_even g (check_fine g false ok).size_good

  small : Small (list_of g)
  small =
      let acc : Accepted (list_of g) = fine_accepted g false words ok in
      record {
        nodes_small = omega (arith, acc.few_nodes);
        rows_small = omega (arith, acc.few_rows);
        a_small = λ r h. omega (arith, acc.a_inside r h, acc.few_nodes);
        b_small = λ r h. omega (arith, acc.b_inside r h, acc.few_nodes);
        w_small = λ r h. omega (arith, acc.light r h);
      }

  listed-back : (l : List ℕ) → length g.la ≡ length l → listed (length g.la) (λ r. get_or l r 0) ≡ l
  listed-back l e = rw e (listed-get_or l)

  -- the list found is the list given
  rows_back : rows_given (found_at (list_of g) (length g.la)) ≡ g
  rows_back =
      rw (map_rows (list_of g) (λ r. r.a) (length g.la), map_rows (list_of g) (λ r. r.b) (length g.la), map_rows (list_of g) (λ r. r.w) (length g.la))
      (rw (listed-back g.la refl, listed-back g.lb even.as_b, listed-back g.lw even.as_w))

  pub list_back : list_in (file_of (list_of g)) ≡ g
  list_back = rw (run_back (list_of g) small) rows_back

  pub check_back : (ra rb rc : ℕ) → length g.la ≤ ra → length g.la ≤ rb → length g.la ≤ rc → file_check (file_of (list_of g)) ra rb rc ≡ fine
  unfolding file_check
  check_back ra rb rc ha hb hc =
      let L = list_of g in
      let s = file_of L in
      let m = length g.la in
      let size : length s ≡ 12 + 8 * m = length_file L in
      let few : m ≤ 2048 = (fine_accepted g false words ok).few_rows in
      rw (le-ltb (length s) 8 (omega arith), le-ltb 32768 (length s) (omega arith), eq-eqb _ _ (mark_low L small), eq-eqb _ _ (mark_high L small))
      (rw (start_zero L small, le-ltb (trailer_at s) 0 (omega arith), run_back L small)
      (rw (length-first L m, count_rows L small, eqb_same m, le-ltb ra m ha, le-ltb rb m hb, le-ltb rc m hc)
      (ap (λ h. list_check h false) rows_back ∙ ok)))
