-- Naming the nodes of an order by their runs. The nodes of an order differ, so the store for the next node leaves the earlier names.
-- Assumes nothing.
use Prim.Native.Nat.{ℕ, suc, ◌+◌, ◌-◌, ◌≤◌, ◌<◌}
use mathlib.Core.Path.{◌≡◌, refl, sym, ap, ◌∙◌}
use mathlib.Core.List.{List}
use native.Mathlib.Omega.{arith}
use native.Mathlib.Numerals.{add-one}
use lib.ListN.{length, get_or, set, length-set}
use lib.Seq.{get_or-set_same, get_or-set_other}
use lib.Dec.{ltb}
use borrow.Author.Count.{below_more}
use borrow.Author.Tests.{lt-ltb}
use Rattle.meaning.specs.Sums.{on}
use Rattle.laws.specs.Choose.{size_none, size_suc, size_most, size_has}
use Rattle.method.specs.Floor.{begins, runs}
use Rattle.table.specs.Floor.{Named}

pub named_none : (best : ℕ) (order back name : List ℕ) → Named 0 best order back name name 0
named_none best order back name = record { size = refl; begun = sym (size_none (begins back best)); names = λ p h. absurd (omega arith) }

module _ {p best c : ℕ} {order back name₀ name : List ℕ} (s : Named p best order back name₀ name c) (k : ℕ)
    (more : k ≡ on (ltb (get_or back p 0) best) 1) (first : get_or back 0 0 < best) where
  -- the runs begun with the node p
  begun_suc : c + k ≡ runs back best (suc p)
  begun_suc = omega (arith, s.begun, size_suc p (begins back best))

  pub some : 1 ≤ c + k
  some = omega (arith, begun_suc, size_has (suc p) (begins back best) 0 (omega arith) (lt-ltb (get_or back 0 0) best first))

  pub most : c + k ≤ p + 1
  most = omega (arith, begun_suc, size_most (suc p) (begins back best))

  pub named_more : (v : ℕ) → v ≡ get_or order p 0 → v < length name → ((q : ℕ) → q < p → get_or order q 0 ≡ get_or order p 0 → q ≡ p)
      → Named (p + 1) best order back name₀ (set name v (c + k - 1)) (c + k)
  named_more v e room distinct =
      record {
        size = length-set name v (c + k - 1) ∙ s.size;
        begun = begun_suc ∙ ap (runs back best) (sym (add-one p));
        names =
            below_more
            (λ q. suc (get_or (set name v (c + k - 1)) (get_or order q 0) 0) ≡ runs back best (suc q))
            p
            (λ q h.
            ap suc (get_or-set_other name v (get_or order q 0) (c + k - 1) 0 (λ f. let g : q ≡ p = distinct q h (f ∙ e) in omega arith))
            ∙ s.names q h)
            (ap (λ u. suc (get_or (set name v (c + k - 1)) u 0)) (sym e)
            ∙ ap suc (get_or-set_same name v (c + k - 1) 0 room)
            ∙ omega (arith, some, begun_suc));
      }
