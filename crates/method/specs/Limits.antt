-- Number 18 is never answered.
--
-- Why it is true: the earlier checks answer other numbers, and where they find nothing the list is accepted, so that its cables are at most
-- 134,215,680. Assumes nothing.
use Rattle.std.specs.Prelude.{ℕ, zero, suc, ◌≡◌, refl, Bool, true, false, ◌||◌, length, eqb, ltb, leb}
use Rattle.std.proofs.Common.{sym, ◌∙◌, arith}
use Rattle.meaning.specs.Numbers.{Check, fine, bad, when, ◌⟫◌, node_count, list_size, end_outside, ends_equal, no_weight, short_room, over_sum}
use Rattle.meaning.specs.Links.{Given, LinkList, list_of, links, row_check, rows_check, bad_nodes, bad_size, list_check, Accepted}
use Rattle.laws.specs.Accept.{Words, bad_fine, when_fine, fine_when, good_accepted, never_over}

-- a finding has one number
other : {num num' at at' : ℕ} → (num ≡ num' → ⊥) → bad num at ≡ bad num' at' → ⊥
other ne e = ne (cc)

when_other : (t : Bool) (num num' at at' : ℕ) → (num ≡ num' → ⊥) → when t num at ≡ bad num' at' → ⊥
when_other true num num' at at' ne e = other ne e
when_other false num num' at at' ne e = bad_fine (sym e)

-- what one check after another finds, the second found where the first cannot
then_bad : (c d : Check) (num at : ℕ) → (c ≡ bad num at → ⊥) → (c ⟫ d) ≡ bad num at → (c ≡ fine) × (d ≡ bad num at)
then_bad fine d num at ne e = (refl, e)
then_bad (bad n a) d num at ne e = absurd (ne e)

-- a row answers 11, 12 or 13
row_other : (L : LinkList) (r at : ℕ) → row_check L r ≡ bad over_sum at → ⊥
row_other L r at e =
    let outside = leb L.nodes (L.a r) || leb L.nodes (L.b r) in
    let same = eqb (L.a r) (L.b r) in
    let none = eqb (L.w r) 0 in
    let c₁ = when outside end_outside r in
    let c₂ = when same ends_equal r in
    let c₃ = when none no_weight r in
    let e₂ = (then_bad c₁ (c₂ ⟫ c₃) over_sum at (when_other outside end_outside over_sum r at (λ q. omega arith)) e).1 in
    let e₃ = (then_bad c₂ c₃ over_sum at (when_other same ends_equal over_sum r at (λ q. omega arith)) e₂).1 in
    when_other none no_weight over_sum r at (λ q. omega arith) e₃

rows_other : (L : LinkList) (m at : ℕ) → rows_check L m ≡ bad over_sum at → ⊥
unfolding rows_check
rows_other L zero at e = bad_fine (sym e)
rows_other L (suc m) at e = row_other L m at (then_bad (rows_check L m) (row_check L m) over_sum at (rows_other L m at) e).1

-- Whatever 16-bit numbers are given, the checks never answer 18.
pub never_18 : (g : Given) (short : Bool) → Words g → (at : ℕ) → list_check g short ≡ bad over_sum at → ⊥
unfolding list_check
never_18 g short words at e =
    let c₁ = when (bad_nodes g.n) node_count 0 in
    let c₂ = when (bad_size g) list_size 0 in
    let c₃ = when short short_room 0 in
    let c₄ = rows_check (list_of g) (length g.la) in
    let c₅ = when (ltb 4294967295 (links (list_of g))) over_sum 0 in
    let r₁ = then_bad c₁ (c₂ ⟫ c₃ ⟫ c₄ ⟫ c₅) over_sum at (when_other (bad_nodes g.n) node_count over_sum 0 at (λ q. omega arith)) e in
    let r₂ = then_bad c₂ (c₃ ⟫ c₄ ⟫ c₅) over_sum at (when_other (bad_size g) list_size over_sum 0 at (λ q. omega arith)) r₁.1 in
    let r₃ = then_bad c₃ (c₄ ⟫ c₅) over_sum at (when_other short short_room over_sum 0 at (λ q. omega arith)) r₂.1 in
    let r₄ = then_bad c₄ c₅ over_sum at (rows_other (list_of g) (length g.la) at) r₃.1 in
    let acc : Accepted (list_of g) =
    good_accepted g words (when_fine (bad_nodes g.n) node_count 0 r₁.0) (when_fine (bad_size g) list_size 0 r₂.0) r₄.0 in
    bad_fine (sym r₄.1 ∙ fine_when (ltb 4294967295 (links (list_of g))) over_sum 0 (never_over (list_of g) acc))
