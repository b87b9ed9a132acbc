-- The first round alone. Its order is that of the list, its last node alone is the division that it notes, and where no division is below that one's
-- value no later round replaces it. Assumes nothing.
use mathlib.Core.Path.{◌≡◌, refl, sym, ap, ◌∙◌, subst, fun_ext}
use mathlib.Core.List.{List}
use Prim.Native.Nat.{ℕ, zero, suc, ◌-◌, ◌≤◌, ◌<◌}
use native.Mathlib.Omega.{arith}
use lib.ListN.{length, get_or, take}
use lib.Seq.{get_or-take, length-take-le}
use Rattle.answers.specs.declared.Side.{Side}
use Rattle.meaning.specs.Links.{LinkList, Accepted}
use Rattle.meaning.specs.Order.{all, prefix, order_of, back_at}
use Rattle.meaning.specs.Split.{merged, noted, group_order, rounds, least_of}
use Rattle.laws.specs.Bools.{eqb_same}
use Rattle.method.specs.Least.{Groups, accepted_ends, all_groups, last_of, before_of, noted_value, round_groups, rounds_real}
use Rattle.method.specs.Question.{NoneBelow}
use Rattle.sides.specs.Bits.{labelled, Sided}
use Rattle.table.specs.Table.{Numbered}
use Rattle.least.specs.Rounds.{Notes}
use Rattle.table.specs.Floor.{Along}
use Rattle.least.proofs.Noting.{better_no, noted_side}
use Rattle.least.proofs.Going.{real_division}

-- with every node its own group all are live
order_first : (L : LinkList) (m : ℕ) → prefix L all 0 m ≡ group_order L 0 (λ v. v) m
order_first L m = ap (λ l. prefix L l 0 m) (fun_ext (λ v. sym (eqb_same v)))

module _ (L : LinkList) (acc : Accepted L) (j : ℕ) (many : L.nodes ≡ suc (suc j)) where
  gs : Groups L.nodes all (suc (suc j)) (λ v. v)
  gs = subst (λ m. Groups L.nodes all m (λ v. v)) many (all_groups L.nodes)

  start : 0 < L.nodes
  start = acc.some_node

  abbrev t : ℕ
  t = last_of L 0 (λ v. v) j

  -- a first round that no division is below stands
  first_stands : NoneBelow L (noted L (λ v. v) t).value → least_of L 0 ≡ noted L (λ v. v) t
  unfolding rounds
  first_stands none = ap (λ k. rounds L 0 k (λ v. v)) left ∙ go j gs none
    where
      left : L.nodes - 2 ≡ j
      left = omega arith

      go : (i : ℕ) → Groups L.nodes all (suc (suc i)) (λ v. v) → NoneBelow L (noted L (λ v. v) (last_of L 0 (λ v. v) i)).value
          → rounds L 0 i (λ v. v) ≡ noted L (λ v. v) (last_of L 0 (λ v. v) i)
      go zero g h = refl
      go (suc i) g h =
          let ends = accepted_ends L acc in
          let q = merged (λ v. v) (before_of L 0 (λ v. v) (suc i)) (last_of L 0 (λ v. v) (suc i)) in
          let real = rounds_real L all ends 0 start refl i q (round_groups L all ends 0 start refl (suc i) (λ v. v) g) in
          better_no (noted L (λ v. v) (last_of L 0 (λ v. v) (suc i))) (rounds L 0 i q) (omega (arith, real.value_of, h (rounds L 0 i q).side (real_division real)))

  module _ {order back : List ℕ} (along : Along L order back) where
    abbrev n : ℕ
    n = L.nodes

    last_is : get_or order (n - 1) 0 ≡ t
    last_is =
        let place : n - 1 ≡ suc j = omega arith in
        along.order_is (n - 1) (omega arith)
        ∙ ap (λ p. get_or (order_of L 0) p 0) place
        ∙ ap (λ m. get_or (prefix L all 0 m) (suc j) 0) many
        ∙ ap (λ o. get_or o (suc j) 0) (order_first L (suc (suc j)))

    value_is : get_or back (n - 1) 0 ≡ (noted L (λ v. v) t).value
    value_is =
        let place : n - 1 ≡ suc j = omega arith in
        along.back_is (n - 1) (omega arith)
        ∙ ap (back_at L (order_of L 0)) place
        ∙ ap (λ m. back_at L (prefix L all 0 m) (suc j)) many
        ∙ ap (λ o. back_at L o (suc j)) (order_first L (suc (suc j)))
        ∙ sym (noted_value L all (accepted_ends L acc) 0 start refl j (λ v. v) gs)

    -- what the code notes then is the least split
    pub first_notes : (label : List ℕ) {w : Side} (low : ℕ) → length label ≡ 128 → Numbered label
        → Sided (length (take n label)) (labelled (take n label) (get_or order (n - 1) 0)) w → NoneBelow L low → get_or back (n - 1) 0 ≤ low
        → Notes n (least_of L 0) (record { value = get_or back (n - 1) 0; side = w })
    first_notes label {w} low size numbers made none le =
        let few = acc.few_nodes in
        let whole : length (take n label) ≡ n = length-take-le n label (omega arith) in
        let q = noted L (λ v. v) t in
        let side : (v : ℕ) → v < n → labelled (take n label) (get_or order (n - 1) 0) v ≡ q.side v = λ v h.
        rw (get_or-take n label v 0 h, numbers v (omega arith), last_is) refl in
        let least : least_of L 0 ≡ q = first_stands (λ S d. omega (arith, value_is, none S d)) in
        let parts : Sided n (labelled (take n label) (get_or order (n - 1) 0)) w =
        subst (λ k. Sided k (labelled (take n label) (get_or order (n - 1) 0)) w) whole made in
        rw least (noted_side q (labelled (take n label) (get_or order (n - 1) 0)) value_is few parts side)
