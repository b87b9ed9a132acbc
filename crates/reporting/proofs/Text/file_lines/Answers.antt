-- Where the reader refused, the report is the refusal's line.
use Rattle.std.proofs.Common.{arith}
use Rattle.reporting.proofs.Reading.{report_refused}
use Rattle.reporting.proofs.Text.file_lines.Goals as goal

pub returns-in_default-clause-adds : goal.returns-in_default-clause-adds
returns-in_default-clause-adds c =
    rw (report_refused c.args.s.now c.read-found.ensures.leaves c.unwrap_err.ensures) c.refusal_line.ensures.adds

pub returns-in_default-clause-short : goal.returns-in_default-clause-short
returns-in_default-clause-short c =
    rw (report_refused c.args.s.now c.read-found.ensures.leaves c.unwrap_err.ensures) (omega (arith, c.refusal_line.ensures.short))
