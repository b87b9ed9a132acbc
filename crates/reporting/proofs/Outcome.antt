-- Any two results that the report's promise allows are equal.
use Rattle.std.proofs.Common.{ℕ, ◌≡◌, sym, ◌∙◌, List, Result}
use Rattle.answers.specs.Unique.{wrote_unique}
use Rattle.answers.specs.declared.Refusal.{Refusal}
use Rattle.reporting.specs.Reported.{Reported}

pub report_unique : (s old : List ℕ) (t u : Result ℕ Refusal) (x y : List ℕ) → Reported s old t x → Reported s old u y → (t ≡ u) × (x ≡ y)
report_unique s old t u x y p q = (wrote_unique t u (p.answer ∙ sym q.answer), p.text_is ∙ sym q.text_is)
