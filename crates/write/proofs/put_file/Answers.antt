-- Each record is stored after those before it (`begun_more`), and then the trailer (`begun_all`).
use Rattle.std.proofs.Common.{arith}
use Rattle.lists.specs.Given.{list_by}
use Rattle.write.proofs.Stores.{begun_none, begun_more, begun_all}
use Rattle.write.proofs.put_file.Goals as goal

pub loop-r-init : goal.loop-r-init
loop-r-init c =
    rw (c.copy_from_slice.ensures.after, c.nodes_record.ensures) (begun_none (list_by c.args.list.now.links) c.args.out.now)

pub loop-r-preserved : goal.loop-r-preserved
loop-r-preserved c =
    rw (c.copy_from_slice-in-loop-r.ensures.after, c.row_record.ensures, c.loop-r.invariant)
    (begun_more (list_by c.args.list.now.links) c.loop-r.r _ c.args.out.now (omega arith))

pub returns-clause-stored : goal.returns-clause-stored
returns-clause-stored c =
    rw (c.copy_from_slice-2.ensures.after, c.trailer.ensures, c.loop-r.invariant)
    (begun_all (list_by c.args.list.now.links) c.loop-r.r _ c.args.out.now (omega arith) (omega arith))
