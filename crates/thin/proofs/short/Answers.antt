-- `short` meets its contract: after the checks the first numbers are at hand, and one pass puts the rows that stay into the three lists.
use Rattle.lists.specs.Given.{given_by}
use Rattle.thin.proofs.Call.{short_room, short_done}
use Rattle.thin.proofs.short.Goals as goal

pub shorten-requires : goal.shorten-requires
shorten-requires c =
    rw c.in_ok-list.ensures.same
    (short_room (given_by c.args.links.now) c.args.k c.args.out.now (rw c.lack.ensures at c.in_ok-list.ensures.thinnable))

pub returns-clause-leaves : goal.returns-clause-leaves
returns-clause-leaves c =
    short_done (given_by c.args.links.now) c.args.k c.args.out.now (rw c.lack.ensures at c.in_ok-list.ensures.thinnable)
    (rw c.in_ok-list.ensures.same at c.shorten.ensures.shortened)
