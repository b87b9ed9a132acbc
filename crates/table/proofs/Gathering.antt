-- Naming the nodes by their targets. The number of nodes before v that are their own target rises at each of those, so two of them have
-- different numbers, below the number of all. Assumes nothing.
use Prim.Native.Nat.{ℕ, ◌+◌, ◌<◌}
use mathlib.Core.Path.{◌≡◌, sym, ap, ◌∙◌}
use mathlib.Core.List.{List}
use mathlib.Core.Logic.{⊎_elim}
use native.Mathlib.Omega.{arith}
use native.Mathlib.Numerals.{add-one}
use lib.ListN.{get_or}
use borrow.Author.Tests.{eq-eqb}
use Rattle.meaning.specs.Sums.{on}
use Rattle.laws.specs.Bools.{cases_lt}
use Rattle.laws.specs.Choose.{size_suc, size_most, size_rises}
use Rattle.table.specs.Kept.{own, kept_below, Settled, KeptNumbered, RestNamed, Gathered}

pub own_more : (to : List ℕ) {c k : ℕ} (v : ℕ) → c ≡ kept_below to v → k ≡ on (own to v) 1 → c + k ≡ kept_below to (v + 1)
own_more to v e f = omega (arith, size_suc v (own to)) ∙ ap (kept_below to) (sym (add-one v))

own_apart : (to : List ℕ) (x y : ℕ) → get_or to x 0 ≡ x → get_or to y 0 ≡ y → kept_below to x ≡ kept_below to y → x ≡ y
own_apart to x y own_x own-y e =
    ⊎_elim
    (λ h. absurd (omega (arith, size_rises x y (own to) (eq-eqb (get_or to x 0) x own_x) h)))
    (λ h. ⊎_elim (λ g. absurd (omega (arith, size_rises y x (own to) (eq-eqb (get_or to y 0) y own-y) g))) (λ g. omega arith) (cases_lt y x))
    (cases_lt x y)

module _ {count c : ℕ} {to name₀ name name' : List ℕ} (k : KeptNumbered count to name₀ name c) (n : RestNamed count to name name')
    (inside : Settled count to) where
  name_is : (v : ℕ) → v < count → get_or name' v 0 ≡ kept_below to (get_or to v 0)
  name_is v h = n.names v h ∙ k.numbers (get_or to v 0) (inside v h).0

  below : (v : ℕ) → v < count → get_or name' v 0 < c
  below v h = omega (arith, name_is v h, k.kept, size_rises (get_or to v 0) count (own to) (eq-eqb _ _ (inside v h).1) (inside v h).0)

  pub gathered : Gathered count to name₀ name' c
  gathered =
      record {
        size = n.size ∙ k.size;
        few = omega (arith, k.kept, size_most count (own to));
        some = λ h. omega (arith, below 0 h);
        below = below;
        same = λ u v hu hv e.
            own_apart to (get_or to u 0) (get_or to v 0) (inside u hu).1 (inside v hv).1 (sym (name_is u hu) ∙ e ∙ name_is v hv);
      }
