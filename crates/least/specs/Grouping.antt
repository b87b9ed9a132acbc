-- The groups of g in L as the struct holds them.
use Rattle.std.specs.Prelude.{ℕ}
use Rattle.meaning.specs.Links.{LinkList}
use Rattle.least.specs.declared.Groups.{Groups}
use Rattle.least.specs.Rounds.{Grouped}

abbrev pub Grouping : LinkList → (ℕ → ℕ) → Groups → Type 0
Grouping L g r = Grouped L g r.nodes r.count r.m r.label
