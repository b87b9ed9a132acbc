-- `reorder` meets its contract: the stored list is accepted, so it may be ordered.
use Rattle.laws.specs.Accept.{accepted_fine}
use Rattle.table.proofs.Storing.{few, stored_even, ran_along}
use Rattle.table.proofs.rest.Rest.reorder.Goals as goal

pub invariant_of-order_of : goal.invariant_of-order_of
invariant_of-order_of c =
    let s = c.args.self.now.stored in
    record {
      passed = accepted_fine _ s.accepted (stored_even s);
      words = λ r below. s.accepted.light r (rw (stored_even s).as_w below);
    }

pub returns : goal.returns
returns c = ran_along (few c.args.self.now.stored) c.told-order c.told-back c.order_of.ensures
