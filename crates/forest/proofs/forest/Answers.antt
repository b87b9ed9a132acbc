-- A list that passed its checks has a place in the lent list for each row.
use Rattle.std.proofs.Common.{ltb-false, sym}
use Rattle.lists.specs.Given.{given_by}
use Rattle.lists.proofs.Passed.{passed}
use Rattle.forest.proofs.forest.Goals as goal

pub number-requires : goal.number-requires
number-requires c =
    let p = passed (given_by c.args.links.now) _ (sym c.in_ok-list.ensures.found) in
    rw c.in_ok-list.ensures.same (record { room = ltb-false _ _ p.roomy })
