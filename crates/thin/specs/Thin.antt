-- What the calls `kept` and `short` leave, for every input: their answer, and every place of every lent list afterwards.
use Rattle.std.specs.Prelude.{ℕ, ◌≡◌, Bool, List, [], ◌∷◌, length, eqb, Result, ⊤}
use Rattle.meaning.specs.Sums.{laid}
use Rattle.meaning.specs.Numbers.{fine, when, ◌⟫◌, zero_k, answered, after}
use Rattle.meaning.specs.Links.{Given, list_of, list_check}
use Rattle.meaning.specs.Forest.{kepts_of}
use Rattle.meaning.specs.Calls.{order0, kept_check, short_check, short_given}
use Rattle.answers.specs.Paper.{told_check, told_paper, wrote_paper}
use Rattle.answers.specs.declared.Refusal.{Refusal}
use Rattle.lists.specs.declared.Checked.{Checked}
use Rattle.forest.specs.Forest.{firsts0}

-- `kept`
pub record KeptWeights (g : Given) (k : ℕ) (kept : List ℕ) (r : Result ⊤ Refusal) (kept' : List ℕ) : Type 0 where
  pub answer : told_paper r ≡ answered (kept_check g k (length kept)) []
  pub weights : kept' ≡ after (kept_check g k (length kept)) (kepts_of (list_of g) (order0 g) k) kept

-- `short`
pub record ShortList (g : Given) (k : ℕ) (a b w : List ℕ) (r : Result ℕ Refusal) (a' b' w' : List ℕ) : Type 0 where
  pub answer : wrote_paper r ≡ answered (short_check g k (length a) (length b) (length w)) (length (short_given g k).la ∷ [])
  pub ends_a : a' ≡ after (short_check g k (length a) (length b) (length w)) (short_given g k).la a
  pub ends_b : b' ≡ after (short_check g k (length a) (length b) (length w)) (short_given g k).lb b
  pub weights : w' ≡ after (short_check g k (length a) (length b) (length w)) (short_given g k).lw w

-- what both make of the list first: the checks, and where they find nothing the first forest numbers
pub record Thinnable (g : Given) (k : ℕ) (short : Bool) (first : List ℕ) (r : Result Checked Refusal) (first' : List ℕ) : Type 0 where
  pub found : told_check r ≡ (list_check g short ⟫ when (eqb k 0) zero_k 0)
  pub numbers : told_check r ≡ fine → first' ≡ laid (firsts0 g) first
