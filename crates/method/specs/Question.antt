-- "Fewer than k?": a split is given exactly when some division has fewer than k across, and none exactly when all have k or more.
--
-- Why it is true: the least split's value is that of a division, and no division has a smaller one, so comparing it with k compares every division with k.
-- Assumes nothing.
use Rattle.std.specs.Prelude.{ℕ, ◌≤◌, ◌<◌, ◌≡◌, ◌↔◌, Bool, true, false, eqb, leb}
use Rattle.std.proofs.Common.{sym, ap, ◌∙◌, subst, ⊎_elim, arith, eq-eqb, ne_eqb, leb-true, leb-false, le-leb}
use Rattle.std.proofs.lemmas.Bool.{lt-leb}
use Rattle.meaning.specs.Numbers.{fine, bad, when, ◌⟫◌, done, one_node, none_below}
use Rattle.meaning.specs.Links.{Given, LinkList, list_of, list_check, Accepted}
use Rattle.meaning.specs.Split.{Split, cut, least_of}
use Rattle.meaning.specs.Calls.{least0, split_fields, fewer_check, fewer_answer}
use Rattle.laws.specs.Bools.{bool_cases, cases_eq, true-false}
use Rattle.laws.specs.Accept.{Words, fine_accepted, when_fine, fine_when, bad_fine}
use Rattle.method.specs.Division.{Division}
use Rattle.method.specs.Least.{LeastSplit, least_split}

-- some division has fewer than k across; every division has k or more
abbrev pub SomeBelow : LinkList → ℕ → Type 0
SomeBelow L k = (S : ℕ → Bool) × Division L.nodes S × (cut L S < k)

abbrev pub NoneBelow : LinkList → ℕ → Type 0
NoneBelow L k = (S : ℕ → Bool) → Division L.nodes S → k ≤ cut L S

-- ---- the least value against k, from any start

module _ (L : LinkList) (s : ℕ) (p : Split) (c : LeastSplit L s p) (k : ℕ) where
  -- The least value is below k exactly when some division's is.
  pub least_below : (p.value < k) ↔ SomeBelow L k
  least_below = (λ h. (p.side, c.division, omega (arith, c.value_of)), λ d. omega (arith, c.least d.0 d.1, d.2))

  -- It is k or more exactly when every division's is.
  pub least_above : (k ≤ p.value) ↔ NoneBelow L k
  least_above = (λ h S d. omega (arith, c.least S d), λ h. omega (arith, h p.side c.division, c.value_of))

-- The least value is the same from every start.
pub least_any_start : (L : LinkList) → Accepted L → 2 ≤ L.nodes → (s t : ℕ) → s < L.nodes → t < L.nodes
    → (least_of L s).value ≡ (least_of L t).value
least_any_start L acc two s t ls lt =
    let a : LeastSplit L s (least_of L s) = least_split L acc two s ls in
    let b : LeastSplit L t (least_of L t) = least_split L acc two t lt in
    omega (arith, a.least (least_of L t).side b.division, b.value_of, b.least (least_of L s).side a.division, a.value_of)

-- one node cannot be parted
pub one_undivided : (S : ℕ → Bool) → Division 1 S → ⊥
one_undivided S d =
    let i : d.inside.0 ≡ 0 = omega (arith, d.inside.1) in
    let o : d.outside.0 ≡ 0 = omega (arith, d.outside.1) in
    true-false (S 0) (ap S (sym i) ∙ d.inside.2) (ap S (sym o) ∙ d.outside.2)

-- ---- the call, for every list of 16-bit numbers in which the checks find nothing

module _ (g : Given) (words : Words g) (ok : list_check g false ≡ fine) (k : ℕ) (pos : 1 ≤ k) where
  acc : Accepted (list_of g)
  acc = fine_accepted g false words ok

  -- of the checks only the last two are left
  fewer_rest : fewer_check g k ≡ (when (eqb g.n 1) one_node 0 ⟫ when (leb k (least0 g).value) none_below 0)
  fewer_rest = rw (ok, ne_eqb k 0 (λ e. omega arith))

  fewer_one : g.n ≡ 1 → fewer_check g k ≡ bad one_node 0
  fewer_one e = fewer_rest ∙ rw (eq-eqb g.n 1 e)

  fewer_more : (g.n ≡ 1 → ⊥) → fewer_check g k ≡ when (leb k (least0 g).value) none_below 0
  fewer_more ne = fewer_rest ∙ rw (ne_eqb g.n 1 ne)

  least : (g.n ≡ 1 → ⊥) → LeastSplit (list_of g) 0 (least0 g)
  least ne = least_split (list_of g) acc (omega (arith, acc.some_node)) 0 (omega (arith, acc.some_node))

  -- A split is given exactly when some division has fewer than k across ..
  pub fewer_given : (fewer_check g k ≡ fine) ↔ SomeBelow (list_of g) k
  fewer_given = (to, from)
    where
      to : fewer_check g k ≡ fine → SomeBelow (list_of g) k
      to e =
          ⊎_elim
          (λ one. bad_fine (sym (fewer_one one) ∙ e))
          (λ ne.
          (least_below (list_of g) 0 (least0 g) (least ne) k).0
          (leb-false k (least0 g).value (when_fine (leb k (least0 g).value) none_below 0 (sym (fewer_more ne) ∙ e))))
          (cases_eq g.n 1)

      from : SomeBelow (list_of g) k → fewer_check g k ≡ fine
      from d =
          ⊎_elim
          (λ one. absurd (one_undivided d.0 (subst (λ n. Division n d.0) one d.1)))
          (λ ne.
          fewer_more ne
          ∙ fine_when (leb k (least0 g).value) none_below 0 (lt-leb k (least0 g).value ((least_below (list_of g) 0 (least0 g) (least ne) k).1 d)))
          (cases_eq g.n 1)

  -- .. and 17 is answered exactly when there are two nodes or more and every division has k or more across.
  pub fewer_none : (fewer_check g k ≡ bad none_below 0) ↔ ((2 ≤ g.n) × NoneBelow (list_of g) k)
  fewer_none = (to, from)
    where
      to : fewer_check g k ≡ bad none_below 0 → (2 ≤ g.n) × NoneBelow (list_of g) k
      to e =
          ⊎_elim
          (λ one.
          let q : bad one_node 0 ≡ bad none_below 0 = sym (fewer_one one) ∙ e in
          let z : ◌≡◌ {A = ℕ} one_node none_below = cc in
          absurd (omega arith))
          (λ ne.
          let v = (least0 g).value in
          let over : leb k v ≡ true =
          ⊎_elim (λ t. t) (λ f. bad_fine (sym e ∙ fewer_more ne ∙ fine_when (leb k v) none_below 0 f)) (bool_cases (leb k v)) in
          (omega (arith, acc.some_node), (least_above (list_of g) 0 (least0 g) (least ne) k).0 (leb-true k v over)))
          (cases_eq g.n 1)

      from : (2 ≤ g.n) × NoneBelow (list_of g) k → fewer_check g k ≡ bad none_below 0
      from h =
          let ne : g.n ≡ 1 → ⊥ = λ e. omega arith in
          fewer_more ne ∙ rw (le-leb k (least0 g).value ((least_above (list_of g) 0 (least0 g) (least ne) k).1 h.1))

  -- The split given is the least split.
  pub fewer_split : fewer_check g k ≡ fine
      → (LeastSplit (list_of g) 0 (least0 g)) × ((least0 g).value < k) × (fewer_answer g k ≡ done (split_fields g.n (least0 g)))
  fewer_split e =
      ⊎_elim
      (λ one. bad_fine (sym (fewer_one one) ∙ e))
      (λ ne.
      (least ne, leb-false k (least0 g).value (when_fine (leb k (least0 g).value) none_below 0 (sym (fewer_more ne) ∙ e)), rw e))
      (cases_eq g.n 1)
