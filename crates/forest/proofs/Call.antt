-- Any two results that the contract of `forest` allows are equal.
use Rattle.std.specs.Prelude.{ℕ, ◌≡◌, List, Result, ⊤}
use Rattle.std.proofs.Common.{sym, ◌∙◌}
use Rattle.meaning.specs.Links.{Given}
use Rattle.answers.specs.Unique.{told_unique}
use Rattle.answers.specs.declared.Refusal.{Refusal}
use Rattle.forest.specs.Forest.{FirstNumbers}

pub forest_unique : (g : Given) (first : List ℕ) (t u : Result ⊤ Refusal) (l k : List ℕ)
    → FirstNumbers g first t l → FirstNumbers g first u k → (t ≡ u) × (l ≡ k)
forest_unique g first t u l k p q =
    (told_unique t u (p.answer ∙ sym q.answer), p.numbers ∙ sym q.numbers)
