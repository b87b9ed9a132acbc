-- What the call `forest` leaves, for every input: its answer, and every place of the lent list afterwards.
use Rattle.std.specs.Prelude.{ℕ, ◌≡◌, List, [], length, Result, ⊤}
use Rattle.meaning.specs.Numbers.{answered, after}
use Rattle.meaning.specs.Links.{Given, list_of}
use Rattle.meaning.specs.Forest.{firsts_of}
use Rattle.meaning.specs.Calls.{order0, forest_check}
use Rattle.answers.specs.Paper.{told_paper}
use Rattle.answers.specs.declared.Refusal.{Refusal}

-- the first forest numbers along the order from node 0
abbrev pub firsts0 : Given → List ℕ
firsts0 g = firsts_of (list_of g) (order0 g)

pub record FirstNumbers (g : Given) (first : List ℕ) (r : Result ⊤ Refusal) (first' : List ℕ) : Type 0 where
  pub answer : told_paper r ≡ answered (forest_check g (length first)) []
  pub numbers : first' ≡ after (forest_check g (length first)) (firsts0 g) first
