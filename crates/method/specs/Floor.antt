-- A number that no division is below, found by contracting: document 000's claim, used as the method of Nagamochi and Ibaraki uses it. In order: the runs of an
-- order (`runs`); a list whose nodes are sets of another's (`Gathers`); the list with a node for each run (`floor_step`).
--
-- Why it is true: a node has, in a max-back order, no more cables back than cross any division that parts it from the node before it. So a division
-- below `best` parts no node with `best` or more cables back from the node before it, and holds each run of the order whole or not at all: it is a
-- division, with the same value, of the list in which each run is one node. Where none of that list's divisions is below a number up to
-- `best`, none of the given list's is. Assumes nothing.
use Rattle.std.specs.Prelude.{ℕ, zero, suc, ◌≤◌, ◌<◌, ◌≡◌, refl, Bool, List, length, get_or, eqb, ltb}
use Rattle.std.proofs.Common.{sym, ap, ◌∙◌, ⊎_elim, arith, eqb-true, ltb-false}
use Rattle.meaning.specs.Sums.{differ}
use Rattle.meaning.specs.Links.{LinkList, Accepted}
use Rattle.meaning.specs.Order.{all, back_at, choose, order_of}
use Rattle.meaning.specs.Split.{cut, size_of}
use Rattle.laws.specs.Bools.{bool_cases, cases_lt, on-true, differ-false, eqb_same}
use Rattle.laws.specs.Lists.{has_at}
use Rattle.laws.specs.Rows.{cut_ends}
use Rattle.laws.specs.Choose.{choose_chosen, size_suc, size_longer}
use Rattle.method.specs.Division.{Division}
use Rattle.method.specs.Claim.{MaxBack, claim_cut}
use Rattle.method.specs.Order.{Ordered, order_ordered}
use Rattle.method.specs.Question.{NoneBelow}

-- ---- runs

-- the node at place i begins a run: it has fewer than `best` cables back
abbrev pub begins : List ℕ → ℕ → ℕ → Bool
begins back best i = ltb (get_or back i 0) best

-- how many runs the first p nodes begin
abbrev pub runs : List ℕ → ℕ → ℕ → ℕ
runs back best p = size_of p (begins back best)

-- where a node begins none its back count is not below
runs-on : (back : List ℕ) (best p : ℕ) → runs back best (suc p) ≡ runs back best p → best ≤ get_or back p 0
runs-on back best p e =
    ⊎_elim
    (λ t. absurd (omega (arith, size_suc p (begins back best), on-true (begins back best p) 1 t)))
    (λ f. ltb-false (get_or back p 0) best f)
    (bool_cases (begins back best p))

module _ (L : LinkList) (o back : List ℕ) (mb : MaxBack L o) (backs : (p : ℕ) → p < length o → get_or back p 0 ≡ back_at L o p)
    (best : ℕ) (S : ℕ → Bool) (low : cut L S < best) where
  -- a division below `best` does not part a node with as many cables back from the node before it
  neighbours : (p : ℕ) → suc p < length o → best ≤ get_or back (suc p) 0 → S (get_or o p 0) ≡ S (get_or o (suc p) 0)
  neighbours p l h =
      ⊎_elim
      (λ d. absurd (omega (arith, backs (suc p) l, claim_cut L o mb S p (suc p) (omega arith) l d)))
      (differ-false (S (get_or o p 0)) (S (get_or o (suc p) 0)))
      (bool_cases (differ (S (get_or o p 0)) (S (get_or o (suc p) 0))))

  -- nor two nodes of one run
  one_run : (p q : ℕ) → p ≤ q → q < length o → runs back best (suc p) ≡ runs back best (suc q) → S (get_or o p 0) ≡ S (get_or o q 0)
  one_run p zero le l e = let same : p ≡ 0 = omega arith in ap (λ i. S (get_or o i 0)) same
  one_run p (suc q) le l e =
      ⊎_elim
      (λ lt.
      let up = size_longer (suc p) (suc q) (begins back best) (omega arith) in
      let on = size_longer (suc q) (suc (suc q)) (begins back best) (omega arith) in
      one_run p q (omega arith) (omega arith) (omega arith)
      ∙ neighbours q l (runs-on back best (suc q) (omega arith)))
      (λ ge. let same : p ≡ suc q = omega arith in ap (λ i. S (get_or o i 0)) same)
      (cases_lt p (suc q))

-- ---- a list whose nodes are sets of the nodes of another

-- M has the named nodes of L, and the same cables across each set of names
pub record Gathers (L M : LinkList) (name : ℕ → ℕ) : Type 0 where
  pub inside : (v : ℕ) → v < L.nodes → name v < M.nodes
  pub same : (S : ℕ → Bool) → cut M S ≡ cut L (λ v. S (name v))

-- A division of L that parts no two nodes of one name is a division of M, with the same value.
module _ (L M : LinkList) (acc : Accepted L) (name : ℕ → ℕ) (gathers : Gathers L M name) where
  -- the set of names
  abbrev carried : (ℕ → Bool) → ℕ → Bool
  carried S i = S (choose L.nodes (λ v. eqb (name v) i) (λ v. 0))

  pub gathered_none : (x : ℕ) → NoneBelow M x → (S : ℕ → Bool) → ((u v : ℕ) → u < L.nodes → v < L.nodes → name u ≡ name v → S u ≡ S v)
      → Division L.nodes S → x ≤ cut L S
  gathered_none x none S whole d =
      let T = carried S in
      let i = d.inside in
      let o = d.outside in
      let value : cut L (λ v. T (name v)) ≡ cut L S =
      cut_ends L (λ v. T (name v)) S (λ r l. at (L.a r) (acc.a_inside r l)) (λ r l. at (L.b r) (acc.b_inside r l)) in
      let more =
      none T
      (record {
        inside = (name i.0, gathers.inside i.0 i.1, at i.0 i.1 ∙ i.2);
        outside = (name o.0, gathers.inside o.0 o.1, at o.0 o.1 ∙ o.2);
      }) in
      omega (arith, gathers.same T)
    where
      at : (v : ℕ) → v < L.nodes → carried S (name v) ≡ S v
      at v l =
          let c = choose_chosen (λ u. eqb (name u) (name v)) (λ u. 0) L.nodes (v, l, eqb_same (name v)) in
          whole (choose L.nodes (λ u. eqb (name u) (name v)) (λ u. 0)) v c.below l (eqb-true (name _) (name v) c.open_node)

-- ---- the list in which each run is one node

-- each node's name is the number of its run, from 0
abbrev pub Names : List ℕ → List ℕ → ℕ → (ℕ → ℕ) → Type 0
Names o back best name = (p : ℕ) → p < length o → suc (name (get_or o p 0)) ≡ runs back best (suc p)

module _ (L : LinkList) (acc : Accepted L) (s : ℕ) (s-below : s < L.nodes) (back : List ℕ)
    (backs : (p : ℕ) → p < length (order_of L s) → get_or back p 0 ≡ back_at L (order_of L s) p)
    (best : ℕ) (name : ℕ → ℕ) (names : Names (order_of L s) back best name) where
  ord : Ordered L all s (order_of L s)
  ord = order_ordered L s s-below

  -- a division below `best` does not part two nodes of one name
  pub same_name : (S : ℕ → Bool) → cut L S < best → (u v : ℕ) → u < L.nodes → v < L.nodes → name u ≡ name v → S u ≡ S v
  same_name S low u v lu lv e =
      let (p, lp, pu) = has_at (order_of L s) u (ord.each u lu refl) in
      let (q, lq, qv) = has_at (order_of L s) v (ord.each v lv refl) in
      let np = names p lp in
      let nq = names q lq in
      let runs_same : runs back best (suc p) ≡ runs back best (suc q) = sym np ∙ ap (λ x. suc (name x)) pu ∙ ap suc e ∙ ap (λ x. suc (name x)) (sym qv) ∙ nq in
      let along = one_run L (order_of L s) back ord.max_back backs best S low in
      ap S (sym pu)
      ∙ ⊎_elim (λ lt. along p q (omega arith) lq runs_same) (λ ge. sym (along q p ge lp (sym runs_same))) (cases_lt p q)
      ∙ ap S qv

  -- Where no division of the list with the runs as its nodes is below x, none of the given list is.
  pub floor_step : (M : LinkList) → Gathers L M name → (x : ℕ) → x ≤ best → NoneBelow M x → NoneBelow L x
  floor_step M gathers x le none S d =
      ⊎_elim
      (λ lt. gathered_none L M acc name gathers x none S (same_name S (omega arith)) d)
      (λ ge. ge)
      (cases_lt (cut L S) x)
