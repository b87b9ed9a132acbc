-- `rename` meets its contract: the rows that are left are an accepted list on the names, with the same cables across each set of names.
use Rattle.table.proofs.Storing.{squeezed_stored, squeezed_gathers}
use Rattle.table.proofs.rest.Rest.rename.Goals as goal

pub invariant_of-self : goal.invariant_of-self
invariant_of-self c =
    let n = c.requires.some in
    record { stored = squeezed_stored c.args.self.now.stored c.requires.below n.0 n.1 c.squeeze-self.ensures }

pub returns-clause-gathers : goal.returns-clause-gathers
returns-clause-gathers c =
    let n = c.requires.some in
    squeezed_gathers c.args.self.now.stored c.requires.below n.0 n.1 c.squeeze-self.ensures
