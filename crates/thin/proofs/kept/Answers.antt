-- `kept` meets its contract: after the checks the first numbers are at hand, and one pass keeps from each row what k allows.
use Rattle.lists.specs.Given.{given_by}
use Rattle.thin.proofs.Call.{kept_room, kept_done}
use Rattle.thin.proofs.kept.Goals as goal

pub keep-requires : goal.keep-requires
keep-requires c =
    rw c.in_ok-list.ensures.same (kept_room (given_by c.args.links.now) c.args.k c.args.kept.now c.in_ok-list.ensures.thinnable)

pub returns : goal.returns
returns c =
    kept_done (given_by c.args.links.now) c.args.k c.args.kept.now c.in_ok-list.ensures.thinnable
    (rw c.in_ok-list.ensures.same at c.keep.ensures)
