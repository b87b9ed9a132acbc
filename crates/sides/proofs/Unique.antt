-- Any two results that a promise of this crate allows are equal: the paper's answer says which case of the result it is and each of its
-- fields, and the words and the size of a set of nodes are numbers that its definition gives. Assumes nothing.
use Prim.Native.Nat.{ℕ}
use mathlib.Core.Path.{◌≡◌, sym, ap, ◌∙◌}
use mathlib.Core.Bool.{Bool}
use mathlib.Core.List.{List}
use lib.ListN.{length}
use Rattle.std.specs.Prelude.{Result}
use Rattle.answers.specs.Paper.{wrote_paper}
use Rattle.answers.specs.Unique.{wrote_unique}
use Rattle.answers.specs.declared.Refusal.{Refusal}
use Rattle.answers.specs.declared.Side.{Side}
use Rattle.sides.specs.Bits.{members_answer, members_leaves, Sided}

pub members_unique : (low high : ℕ) (old : List ℕ) (t u : Result ℕ Refusal) (x y : List ℕ) → wrote_paper t ≡ members_answer low high (length old)
    → wrote_paper u ≡ members_answer low high (length old) → x ≡ members_leaves low high old → y ≡ members_leaves low high old → (t ≡ u) × (x ≡ y)
members_unique low high old t u x y p q e f = (wrote_unique t u (p ∙ sym q), e ∙ sym f)

abbrev made : ℕ → ℕ → ℕ → Side
made low high size = record { low = low; high = high; size = size }

pub side_unique : (n : ℕ) (S : ℕ → Bool) (r s : Side) → Sided n S r → Sided n S s → r ≡ s
side_unique n S r s p q =
    ap (λ x. made x r.high r.size) (p.low_word ∙ sym q.low_word)
    ∙ ap (λ x. made s.low x r.size) (p.high_word ∙ sym q.high_word)
    ∙ ap (λ x. made s.low s.high x) (p.right_size ∙ sym q.right_size)
