-- `order` meets its contract: a list that passes has room for what `table::order_of` writes.
use Rattle.std.proofs.Common.{rules}
use Rattle.order.proofs.order.Goals as goal
use Rattle.lists.specs.Given.{given_by}
use Rattle.order.proofs.Outcome.{roomy}

pub order_of-requires : goal.order_of-requires
order_of-requires c =
    record {
      room =
          rw c.in_ok-list.ensures.same
          (roomy (given_by c.args.links.now) _ c.args.order.now c.args.back.now c.in_ok-list.ensures.found (search rules));
    }
