-- What a checked list has, for the split, and the answer that a split makes of it. Any two answers that a promise allows are equal, since the
-- paper's answer gives the case of the result and its fields. Assumes nothing.
use Prim.Native.Nat.{ℕ, ◌≤◌}
use mathlib.Core.Path.{◌≡◌, refl, sym, ◌∙◌}
use mathlib.Core.Bool.{false}
use lib.Dec.{eqb}
use borrow.Author.Tests.{ne_eqb}
use Rattle.std.specs.Prelude.{Result}
use Rattle.meaning.specs.Numbers.{fine, when, done, answered, one_node}
use Rattle.meaning.specs.Links.{Given, list_check}
use Rattle.meaning.specs.Calls.{split_fields, least0, least_answer, fewer_answer}
use Rattle.answers.specs.Paper.{parted_fields, parted_paper}
use Rattle.answers.specs.Unique.{parted_unique}
use Rattle.answers.specs.declared.Refusal.{Refusal}
use Rattle.answers.specs.declared.Split.{Split}
use Rattle.lists.proofs.Passed.{passed}
use Rattle.least.specs.Rounds.{Notes}

pub node_bounds : (g : Given) → list_check g false ≡ fine → (1 ≤ g.n) × (g.n ≤ 128)
node_bounds g passes = let p = passed g false passes in (p.some_node, p.few_nodes)

-- a split of two nodes or more is the answer after the checks of the list
pub gives : (g : Given) {r : Split} → (g.n ≡ 1 → ⊥) → Notes g.n (least0 g) r
    → done (parted_fields r) ≡ answered (when (eqb g.n 1) one_node 0) (split_fields g.n (least0 g))
gives g two s = rw (ne_eqb g.n 1 two, s.value_is, s.low_is, s.high_is, s.size_is) refl

-- ---- one answer for each input

pub least_unique : (g : Given) (t u : Result Split Refusal) → parted_paper t ≡ least_answer g → parted_paper u ≡ least_answer g → t ≡ u
least_unique g t u p q = parted_unique t u (p ∙ sym q)

pub fewer_unique : (g : Given) (k : ℕ) (t u : Result Split Refusal) → parted_paper t ≡ fewer_answer g k → parted_paper u ≡ fewer_answer g k → t ≡ u
fewer_unique g k t u p q = parted_unique t u (p ∙ sym q)
