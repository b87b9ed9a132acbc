-- `join_runs` meets its contract: the renamed rows are the list with one node for each run.
use Rattle.std.proofs.Common.{arith}
use Rattle.table.proofs.Sinking.{order_below, order_once, name_below, begins_low, few_runs, joined}
use Rattle.table.proofs.rest.Rest.join_runs.Goals as goal

pub name_runs-nodes-requires-clause-begun : goal.name_runs-nodes-requires-clause-begun
name_runs-nodes-requires-clause-begun c = begins_low c.requires

pub name_runs-nodes-requires-clause-nodes : goal.name_runs-nodes-requires-clause-nodes
name_runs-nodes-requires-clause-nodes c = order_below c.requires.shrinking

pub name_runs-nodes-requires-clause-once : goal.name_runs-nodes-requires-clause-once
name_runs-nodes-requires-clause-once c = order_once c.requires.shrinking

pub rename-requires-clause-some : goal.rename-requires-clause-some
rename-requires-clause-some c =
    let runs = few_runs c.requires in
    (omega (arith, c.name_runs-nodes.ensures.begun), omega (arith, c.name_runs-nodes.ensures.begun))

pub rename-requires-clause-below : goal.rename-requires-clause-below
rename-requires-clause-below c = name_below c.requires.shrinking c.name_runs-nodes.ensures

-- what `joined` says of the list that is left, with its nodes as `rename` counts them
pub returns-clause-smaller : goal.returns-clause-smaller
returns-clause-smaller c =
    let (q, small, fewer) = joined c.requires c.name_runs-nodes.ensures c.rename.ensures.squeezed in
    record {
      fewer = omega (arith, small.fewer, c.rename.ensures.count);
      lower = small.lower;
      none = λ x le h. small.none x le (rw c.rename.ensures.count at h);
    }

pub returns-clause-fewer : goal.returns-clause-fewer
returns-clause-fewer c =
    let (q, small, fewer) = joined c.requires c.name_runs-nodes.ensures c.rename.ensures.squeezed in
    omega (arith, fewer, c.rename.ensures.count)
