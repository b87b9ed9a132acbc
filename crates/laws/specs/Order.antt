-- Laws of `prefix`, the first k nodes of the order of the live nodes from a start.
--
-- In order: its parts by place (`length-prefix`, `take-prefix`, `get_or-prefix_start`, `get_or-prefix`); `Placed`, distinct live nodes
-- below n, and how many are left (`placed_free`, `placed_all`, `placed_length`); one node more (`placed_next`, `placed_snoc`); of every prefix that is not longer
-- than there are live nodes: it is placed (`prefix_placed`), each next node is the choice (`prefix_chosen`), and with as many nodes
-- as are live it has them all (`prefix-all`); all nodes live (`size_all`).
--
-- As long as fewer nodes are placed than live, the count of free nodes is not 0, so the choice is a free node. Assumes nothing.
use Prim.Native.Nat.{ℕ, zero, suc, ◌+◌, ◌≤◌, ◌<◌}
use Rattle.std.specs.Prelude.{◌≡◌, Bool, true, false, not, ◌&&◌, List, [], ◌∷◌, ◌++◌, length, get_or, take}
use Rattle.std.proofs.Math.Path.{refl, ap}
use Rattle.std.proofs.Common.{sym, ◌∙◌, subst, ⊎_elim, take_all, get_or-take}
use native.Mathlib.Omega.{arith}
use Rattle.std.proofs.Math.ListN.{length-append, get_or-append}
use Rattle.std.proofs.lemmas.List.{take-append-le, get_or_at}
use Rattle.std.proofs.Math.Seq.{take-length}
use Rattle.std.proofs.lemmas.Bool.{not-true}
use Rattle.meaning.specs.Sums.{sum, on, has}
use Rattle.meaning.specs.Links.{LinkList}
use Rattle.meaning.specs.Order.{back, next, prefix, all}
use Rattle.meaning.specs.Split.{size_of}
use Rattle.laws.specs.Bools.{bool_cases, cases_eq, same_test, and-true, and_left, and_right, and-false_left, and-false_right, on-false}
use Rattle.laws.specs.Sums.{sum_ext, sum-zero, sum_const}
use Rattle.laws.specs.Lists.{has-nil, has_at, Distinct, distinct_snoc, sum-has}
use Rattle.laws.specs.Choose.{Chosen, choose_chosen, size_split, size_some, size_has}

-- every node is live
pub size_all : (n : ℕ) → size_of n all ≡ n
size_all n = sum_const n 1 ∙ omega arith

-- the nodes of p differ, are live and below n
pub record Placed (L : LinkList) (live : ℕ → Bool) (p : List ℕ) : Type 0 where
  pub distinct : Distinct p
  pub below : (i : ℕ) → i < length p → get_or p i 0 < L.nodes
  pub alive : (i : ℕ) → i < length p → live (get_or p i 0) ≡ true

-- the live nodes that are not placed
abbrev pub free : (ℕ → Bool) → List ℕ → ℕ → Bool
free live p v = live v && not (has p v)

module _ (L : LinkList) (live : ℕ → Bool) where
  pub placed_live : (p : List ℕ) → Placed L live p → (v : ℕ) → has p v ≡ true → live v ≡ true
  placed_live p c v e =
      let r : (i : ℕ) × (i < length p) × (get_or p i 0 ≡ v) = has_at p v e in
      ap live (sym r.2) ∙ c.alive r.0 r.1

  -- every live node is placed or free
  pub placed_free : (p : List ℕ) → Placed L live p → size_of L.nodes live ≡ length p + size_of L.nodes (free live p)
  placed_free p c =
      let n = L.nodes in
      let same : (v : ℕ) → (live v && has p v) ≡ has p v = λ v.
      same_test (live v && has p v) (has p v) (and_right (live v) (has p v)) (λ e. and-true (live v) (has p v) (placed_live p c v e) e) in
      let count : size_of n (has (take (length p) p)) ≡ sum (length p) (λ i. 1) = sum-has n p (λ v. 1) c.distinct c.below (length p) (omega arith) in
      let here : size_of n (λ v. live v && has p v) ≡ length p =
      sum_ext n (λ v. on (live v && has p v) 1) (λ v. on (has p v) 1) (λ v h. ap (λ b. on b 1) (same v))
      ∙ ap (λ l. size_of n (has l)) (sym (take-length p))
      ∙ count
      ∙ sum_const (length p) 1
      ∙ omega arith in
      omega (arith, size_split n live (has p))

  -- and with every live node placed, as many are placed as live
  pub placed_length : (p : List ℕ) → Placed L live p → ((v : ℕ) → v < L.nodes → live v ≡ true → has p v ≡ true) → length p ≡ size_of L.nodes live
  placed_length p c each =
      let none : size_of L.nodes (free live p) ≡ 0 = sum-zero L.nodes (λ v. on (free live p v) 1) (λ v l. on-false (free live p v) 1 (go v l)) in
      omega (arith, placed_free p c)
    where
      go : (v : ℕ) → v < L.nodes → free live p v ≡ false
      go v l =
          ⊎_elim
          (λ e. and-false_right (live v) (not (has p v)) (ap not (each v l e)))
          (λ e. and-false_left (live v) (not (has p v)) e)
          (bool_cases (live v))

  pub placed_nil : Placed L live []
  placed_nil =
      record { distinct = λ i h. absurd (omega arith); below = λ i h. absurd (omega arith); alive = λ i h. absurd (omega arith) }

  -- with as many placed as live, every live node is placed
  pub placed_all : (p : List ℕ) → Placed L live p → length p ≡ size_of L.nodes live → (v : ℕ) → v < L.nodes → live v ≡ true → has p v ≡ true
  placed_all p c e v l a =
      ⊎_elim
      (λ t. t)
      (λ f.
      let some : 1 ≤ size_of L.nodes (free live p) =
      size_has L.nodes (free live p) v l (and-true (live v) (not (has p v)) a (ap not f)) in
      absurd (omega (arith, placed_free p c)))
      (bool_cases (has p v))

  -- while fewer are placed than live, the next node is the choice among the free
  pub placed_next : (p : List ℕ) → Placed L live p → length p < size_of L.nodes live
      → Chosen L.nodes (free live p) (back L (has p)) (next L live p)
  placed_next p c h =
      choose_chosen (free live p) (back L (has p)) L.nodes (size_some L.nodes (free live p) (omega (arith, placed_free p c)))

  -- a free node more
  pub placed_snoc : (p : List ℕ) (x : ℕ) → Placed L live p → x < L.nodes → free live p x ≡ true → Placed L live (p ++ (x ∷ []))
  placed_snoc p x c l f =
      record {
        distinct = distinct_snoc p x c.distinct (not-true (has p x) (and_right (live x) (not (has p x)) f));
        below = λ i h. at i h (λ v. v < L.nodes) l (c.below i);
        alive = λ i h. at i h (λ v. live v ≡ true) (and_left (live x) (not (has p x)) f) (c.alive i);
      }
    where
      at : (i : ℕ) → i < length (p ++ (x ∷ [])) → (Q : ℕ → Type 0) → Q x → (i < length p → Q (get_or p i 0)) → Q (get_or (p ++ (x ∷ [])) i 0)
      at i h Q qx qp =
          let n : length (p ++ (x ∷ [])) ≡ length p + 1 = length-append p (x ∷ []) in
          ⊎_elim
          (λ e. subst Q (sym (get_or_at p x [] 0 i (sym e))) qx)
          (λ ne. subst Q (sym (get_or-append p (x ∷ []) 0 i (omega arith))) (qp (omega arith)))
          (cases_eq i (length p))

module _ (L : LinkList) (live : ℕ → Bool) (s : ℕ) where
  -- ---- by place

  pub prefix_none : prefix L live s 0 ≡ []
  unfolding prefix
  prefix_none = refl

  pub prefix_one : prefix L live s 1 ≡ s ∷ []
  unfolding prefix
  prefix_one = refl

  pub prefix-suc : (k : ℕ) → 1 ≤ k → prefix L live s (suc k) ≡ prefix L live s k ++ (next L live (prefix L live s k) ∷ [])
  unfolding prefix
  prefix-suc zero h = absurd (omega arith)
  prefix-suc (suc k) h = refl

  pub length-prefix : (k : ℕ) → length (prefix L live s k) ≡ k
  unfolding prefix
  length-prefix zero = refl
  length-prefix (suc zero) = refl
  length-prefix (suc (suc k)) =
      length-append (prefix L live s (suc k)) (next L live (prefix L live s (suc k)) ∷ []) ∙ ap (λ m. m + 1) (length-prefix (suc k)) ∙ omega arith

  pub take-prefix : (j k : ℕ) → j ≤ k → take j (prefix L live s k) ≡ prefix L live s j
  take-prefix j zero h =
      let e : j ≡ 0 = omega arith in
      take_all j (prefix L live s 0) (omega (arith, length-prefix 0)) ∙ ap (prefix L live s) (sym e)
  take-prefix j (suc k) h =
      let whole : j ≡ suc k → take j (prefix L live s (suc k)) ≡ prefix L live s j = λ e.
      take_all j (prefix L live s (suc k)) (omega (arith, length-prefix (suc k))) ∙ ap (prefix L live s) (sym e) in
      let front : 1 ≤ k → j ≤ k → take j (prefix L live s (suc k)) ≡ prefix L live s j = λ one le.
      ap (take j) (prefix-suc k one)
      ∙ take-append-le j (prefix L live s k) (next L live (prefix L live s k) ∷ []) (omega (arith, length-prefix k))
      ∙ take-prefix j k le in
      let none : j ≡ 0 → take j (prefix L live s (suc k)) ≡ prefix L live s j = λ e.
      ap (λ i. take i (prefix L live s (suc k))) e ∙ sym prefix_none ∙ ap (prefix L live s) (sym e) in
      ⊎_elim whole (λ ne. ⊎_elim none (λ nz. front (omega arith) (omega arith)) (cases_eq j 0)) (cases_eq j (suc k))

  -- the start stands first
  pub get_or-prefix_start : (k : ℕ) → 1 ≤ k → get_or (prefix L live s k) 0 0 ≡ s
  get_or-prefix_start k h =
      sym (get_or-take 1 (prefix L live s k) 0 0 (omega arith)) ∙ ap (λ l. get_or l 0 0) (take-prefix 1 k h) ∙ ap (λ l. get_or l 0 0) prefix_one

  -- every other node is the next after those before it
  pub get_or-prefix : (j k : ℕ) → 1 ≤ j → j < k → get_or (prefix L live s k) j 0 ≡ next L live (prefix L live s j)
  get_or-prefix j k one h =
      sym (get_or-take (suc j) (prefix L live s k) j 0 (omega arith))
      ∙ ap (λ l. get_or l j 0) (take-prefix (suc j) k h ∙ prefix-suc j one)
      ∙ get_or_at (prefix L live s j) (next L live (prefix L live s j)) [] 0 j (length-prefix j)

  -- ---- what it holds

  module _ (live-start : live s ≡ true) (start_below : s < L.nodes) where
    pub prefix_placed : (k : ℕ) → k ≤ size_of L.nodes live → Placed L live (prefix L live s k)
    prefix_placed zero h = subst (Placed L live) (sym prefix_none) (placed_nil L live)
    prefix_placed (suc zero) h =
        subst
        (Placed L live)
        (sym prefix_one)
        (placed_snoc L live [] s (placed_nil L live) start_below (and-true (live s) (not (has [] s)) live-start (ap not (has-nil s))))
    prefix_placed (suc (suc k)) h =
        let p = prefix L live s (suc k) in
        let c : Placed L live p = prefix_placed (suc k) (omega arith) in
        let x : Chosen L.nodes (free live p) (back L (has p)) (next L live p) = placed_next L live p c (omega (arith, length-prefix (suc k))) in
        subst (Placed L live) (sym (prefix-suc (suc k) (omega arith))) (placed_snoc L live p (next L live p) c x.below x.open_node)

    -- the node at position j is the choice among those not before it
    pub prefix_chosen : (j k : ℕ) → 1 ≤ j → j < k → k ≤ size_of L.nodes live
        → Chosen L.nodes (free live (prefix L live s j)) (back L (has (prefix L live s j))) (get_or (prefix L live s k) j 0)
    prefix_chosen j k one h le =
        let p = prefix L live s j in
        subst
        (Chosen L.nodes (free live p) (back L (has p)))
        (sym (get_or-prefix j k one h))
        (placed_next L live p (prefix_placed j (omega arith)) (omega (arith, length-prefix j)))

    -- as many nodes as are live: each of them
    pub prefix-all : (v : ℕ) → v < L.nodes → live v ≡ true → has (prefix L live s (size_of L.nodes live)) v ≡ true
    prefix-all =
        placed_all
        L
        live
        (prefix L live s (size_of L.nodes live))
        (prefix_placed (size_of L.nodes live) (omega arith))
        (length-prefix (size_of L.nodes live))
