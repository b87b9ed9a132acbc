-- `gather` meets its contract: nodes that are their own target have different numbers, and every node gets its target's.
use Rattle.table.proofs.Gathering.{gathered}
use Rattle.table.proofs.rest.gather.Goals as goal

pub returns : goal.returns
returns c = gathered c.number_kept-c.ensures c.name_rest.ensures c.requires.settled
