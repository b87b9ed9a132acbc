-- What `write` and `read` promise of a call, each as one record: what their contracts say of the answer and of every lent list.
use Rattle.std.specs.Prelude.{ℕ, ◌≡◌, List, length, Result}
use Rattle.meaning.specs.Numbers.{after}
use Rattle.meaning.specs.Links.{Given}
use Rattle.meaning.specs.File.{file_check, list_in}
use Rattle.meaning.specs.Calls.{read_answer, write_answer, write_leaves}
use Rattle.answers.specs.declared.Found.{Found}
use Rattle.answers.specs.declared.Refusal.{Refusal}
use Rattle.answers.specs.Paper.{found_paper, wrote_paper}

-- what `write` promises of a call: its answer, and the lent bytes afterwards
pub record Writes (g : Given) (old : List ℕ) (r : Result ℕ Refusal) (new : List ℕ) : Type 0 where
  pub answer : wrote_paper r ≡ write_answer g (length old)
  pub leaves : new ≡ write_leaves g old

-- what `read` promises of a call: its answer, and the three lent lists afterwards
pub record Reads (s a₀ b₀ w₀ : List ℕ) (r : Result Found Refusal) (a b w : List ℕ) : Type 0 where
  pub answer : found_paper r ≡ read_answer s (length a₀) (length b₀) (length w₀)
  pub leaves_a : a ≡ after (file_check s (length a₀) (length b₀) (length w₀)) (list_in s).la a₀
  pub leaves_b : b ≡ after (file_check s (length a₀) (length b₀) (length w₀)) (list_in s).lb b₀
  pub leaves_w : w ≡ after (file_check s (length a₀) (length b₀) (length w₀)) (list_in s).lw w₀
