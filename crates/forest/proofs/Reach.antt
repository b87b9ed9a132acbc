-- The cables that the rows of an accepted list bring to a node: at most 2,048 times twice 65,535, and none from the node itself.
use Prim.Native.Nat.{ℕ, ◌≤◌, ◌<◌}
use mathlib.Core.Path.{◌≡◌, sym, ◌∙◌}
use mathlib.Core.Bool.{Bool, false, ◌&&◌}
use mathlib.Core.Logic.{⊎_elim}
use native.Mathlib.Omega.{arith}
use lib.Dec.{eqb}
use borrow.Author.Tests.{ne_eqb}
use Rattle.meaning.specs.Sums.{sum}
use Rattle.meaning.specs.Links.{LinkList, Accepted}
use Rattle.meaning.specs.Order.{reach, back}
use Rattle.laws.specs.Bools.{cases_eq, on_most, and-false_left, and-false_right}
use Rattle.laws.specs.Sums.{sum-zero, sum_most}

-- two tests of which not both hold
pub not_both : (p q r s : ℕ) → (p ≡ q → r ≡ s → ⊥) → (eqb p q && eqb r s) ≡ false
not_both p q r s apart =
    ⊎_elim
    (λ e. and-false_right (eqb p q) (eqb r s) (ne_eqb r s (apart e)))
    (λ ne. and-false_left (eqb p q) (eqb r s) (ne_eqb p q ne))
    (cases_eq p q)

module _ (L : LinkList) (ok : Accepted L) where
  -- what the first k rows bring to z
  pub reach-sum : (P : ℕ → Bool) (z k : ℕ) → k ≤ L.rows → sum k (λ j. reach P z (L.a j) (L.b j) (L.w j)) ≤ 268431360
  reach-sum P z k h = omega (arith, sum_most k (λ j. reach P z (L.a j) (L.b j) (L.w j)) 131070 (λ j l. row j (omega arith)), ok.few_rows)
    where
      row : (j : ℕ) → j < L.rows → reach P z (L.a j) (L.b j) (L.w j) ≤ 131070
      row j l = omega (arith, on_most (eqb (L.a j) z && P (L.b j)) (L.w j), on_most (eqb (L.b j) z && P (L.a j)) (L.w j), ok.light j l)

  pub back_most : (P : ℕ → Bool) (z : ℕ) → back L P z ≤ 268431360
  unfolding back
  back_most P z = reach-sum P z L.rows (omega arith)

  -- no node has a cable to itself
  pub back_self : (z : ℕ) → back L (eqb z) z ≡ 0
  unfolding back
  back_self z = sum-zero L.rows (λ r. reach (eqb z) z (L.a r) (L.b r) (L.w r)) (λ r h. row r h)
    where
      row : (r : ℕ) → r < L.rows → reach (eqb z) z (L.a r) (L.b r) (L.w r) ≡ 0
      row r h =
          rw (not_both (L.a r) z z (L.b r) (λ e f. ok.apart r h (e ∙ f)), not_both (L.b r) z z (L.a r) (λ e f. ok.apart r h (sym (e ∙ f)))) (omega arith)
