-- In 128 places `order` never refuses a list that passed, and the front of what it leaves is the order (`Ordering.antt`).
use Rattle.std.proofs.Common.{ap, sym, ◌∙◌, length}
use Rattle.lists.specs.Given.{given_by}
use Rattle.reporting.proofs.Ordering.{order_fits, order_length, order_short, order_listed}
use Rattle.reporting.proofs.Text.order_line.Goals as goal

pub unwrap-requires : goal.unwrap-requires
unwrap-requires c = order_fits (given_by c.args.list.now.links) c.args.list.now.passed c.order.ensures

pub slice_bounds-list_line-end-2 : goal.slice_bounds-list_line-end-2
slice_bounds-list_line-end-2 c =
    let g = given_by c.args.list.now.links in
    let good = c.args.list.now.passed in
    rw c.nodes.ensures (sym (order_length g good) ∙ ap length (sym (order_listed g good c.order.ensures)))

pub returns-clause-adds : goal.returns-clause-adds
returns-clause-adds c =
    rw (← order_listed (given_by c.args.list.now.links) c.args.list.now.passed c.order.ensures, ← c.nodes.ensures) c.list_line.ensures

pub returns-clause-short : goal.returns-clause-short
returns-clause-short c = order_short (given_by c.args.list.now.links) c.args.list.now.passed
