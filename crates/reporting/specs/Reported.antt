-- What the report leaves, for every file and whatever the lent bytes hold: its answer, every byte afterwards, and that 1,024 bytes are
-- always enough.
use Rattle.std.specs.Prelude.{ℕ, ◌≤◌, ◌≡◌, List, length, Result}
use Rattle.meaning.specs.Numbers.{after}
use Rattle.meaning.specs.Report.{report_of}
use Rattle.meaning.specs.Calls.{report_check, report_answer}
use Rattle.answers.specs.Paper.{wrote_paper}
use Rattle.answers.specs.declared.Refusal.{Refusal}

pub record Reported (s old : List ℕ) (r : Result ℕ Refusal) (out : List ℕ) : Type 0 where
  pub answer : wrote_paper r ≡ report_answer s (length old)
  pub text_is : out ≡ after (report_check s (length old)) (report_of s) old
  pub short : length (report_of s) ≤ 1024
