-- Any two summaries that the promise allows are equal: the paper's answer says which case it is, and each of its fields.
use Rattle.std.specs.Prelude.{◌≡◌, Result}
use Rattle.meaning.specs.Links.{Given}
use Rattle.meaning.specs.Calls.{summary_answer}
use Rattle.answers.specs.Paper.{totals_paper}
use Rattle.answers.specs.Unique.{totals_unique}
use Rattle.answers.specs.declared.Refusal.{Refusal}
use Rattle.answers.specs.declared.Totals.{Totals}

pub summary_unique : (g : Given) (t u : Result Totals Refusal) → totals_paper t ≡ summary_answer g → totals_paper u ≡ summary_answer g → t ≡ u
summary_unique g t u p q = totals_unique t u (cc)
