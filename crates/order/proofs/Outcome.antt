-- When a list passes the call's check, both lent lists have room for its order. Any two outcomes that the promise allows are equal, since
-- each part is an equation with a definition of document 01.
use Prim.Native.Nat.{ℕ, ◌≤◌}
use mathlib.Core.Path.{◌≡◌, sym, ◌∙◌}
use mathlib.Core.Bool.{Bool, ◌||◌}
use mathlib.Core.List.{List}
use borrow.Author.Tests.{ltb-false}
use lib.ListN.{length}
use lib.Dec.{ltb}
use Rattle.std.specs.Prelude.{Result, ⊤}
use Rattle.meaning.specs.Numbers.{fine}
use Rattle.meaning.specs.Links.{Given, list_check}
use Rattle.laws.specs.Bools.{or-false_left, or-false_right}
use Rattle.laws.specs.Accept.{check_fine}
use Rattle.answers.specs.Unique.{told_unique}
use Rattle.answers.specs.declared.Refusal.{Refusal}
use Rattle.order.specs.Ordered.{Ordered}

-- a list that passes has room for its order
pub roomy : (g : Given) (short : Bool) (order back : List ℕ) → fine ≡ list_check g short
    → (short ≡ (ltb (length order) g.n || ltb (length back) g.n)) → (g.n ≤ length order) × (g.n ≤ length back)
roomy g short order back passes is =
    let room = sym is ∙ (check_fine g short (sym passes)).room_good in (
      ltb-false (length order) g.n (or-false_left (ltb (length order) g.n) (ltb (length back) g.n) room),
      ltb-false (length back) g.n (or-false_right (ltb (length order) g.n) (ltb (length back) g.n) room),
    )

-- one outcome for each input
pub order_unique : (g : Given) (order back : List ℕ) (t u : Result ⊤ Refusal) (order₁ order₂ back₁ back₂ : List ℕ)
    → Ordered g order back t order₁ back₁ → Ordered g order back u order₂ back₂ → (t ≡ u) × (order₁ ≡ order₂) × (back₁ ≡ back₂)
order_unique g order back t u order₁ order₂ back₁ back₂ p q =
    (told_unique t u (p.answer ∙ sym q.answer), p.order_is ∙ sym q.order_is, p.back_is ∙ sym q.back_is)
