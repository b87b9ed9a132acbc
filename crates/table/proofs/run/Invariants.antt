-- The loop's invariant is `Turn`, for every list and every set of live nodes that the call was ready for: the nodes placed are a prefix of
-- the order.
use Rattle.std.proofs.Common.{Bool, ℕ}
use Rattle.meaning.specs.Links.{LinkList}
use Rattle.table.specs.Table.{Ready}
use Rattle.table.proofs.Running.{Turn}
use Rattle.table.proofs.run.Given as goal

abbrev pub invariant-loop-p : goal.invariant-loop-p
invariant-loop-p l =
    (L : LinkList) (live : ℕ → Bool) (ready : Ready L live l.n l.count l.start l.m l.fn.score)
    → Turn L live l.n l.count l.start l.fn.order l.fn.back l.score l.order l.back l.x l.p
