-- What the calls answer are the report's lines, which are added one after the other.
use Rattle.std.proofs.Common.{arith}
use Rattle.std.proofs.lemmas.Grind.{common_steps}
use Rattle.meaning.specs.Report.{line, order_text}
use Rattle.meaning.specs.Calls.{order0}
use Rattle.lists.specs.Given.{given_by}
use Rattle.reporting.specs.Words.{summary_text, split_text}
use Rattle.reporting.proofs.Spaced.{all_short}
use Rattle.reporting.proofs.Listing.{report_is}
use Rattle.reporting.proofs.Text.list_lines.Goals as goal

pub returns-clause-adds : goal.returns-clause-adds
returns-clause-adds c =
    rw
    (report_is (given_by c.args.list.now.links) c.args.list.now.passed c.summary.result c.unwrap-totals.result c.least.result
    c.summary.ensures c.unwrap-totals.ensures c.least.ensures)
    (grind (arith, common_steps))

pub returns-clause-short : goal.returns-clause-short
returns-clause-short c =
    let g = given_by c.args.list.now.links in
    rw
    (report_is g c.args.list.now.passed c.summary.result c.unwrap-totals.result c.least.result c.summary.ensures c.unwrap-totals.ensures
    c.least.ensures)
    (all_short (summary_text c.unwrap-totals.result) (line order_text (order0 g)) (split_text c.least.result) c.summary_line.ensures.short
    c.order_line.ensures.short c.split_lines.ensures.short)
