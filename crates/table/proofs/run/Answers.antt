-- `run` meets its contract: the list and the live nodes that the caller names show that each step is safe, and each step keeps `Turn` for all.
use Rattle.table.proofs.Running.{turn_none, turn_safe, turn_more}
use Rattle.table.proofs.run.Goals as goal

pub loop-p-init : goal.loop-p-init
loop-p-init c = λ L live ready. turn_none L live _ _ _ _ _ ready _ _

pub overflow_sub-back : goal.overflow_sub-back
overflow_sub-back c =
    let r = c.requires.ready in
    (turn_safe r.0 r.1 _ _ _ _ _ r.2 (c.loop-p.invariant r.0 r.1 r.2) c.loop-p-test.true).marked

pub place-x-requires : goal.place-x-requires
place-x-requires c =
    let r = c.requires.ready in
    turn_safe r.0 r.1 _ _ _ _ _ r.2 (c.loop-p.invariant r.0 r.1 r.2) c.loop-p-test.true

pub loop-p-preserved : goal.loop-p-preserved
loop-p-preserved c = λ L live ready.
    turn_more L live _ _ _ _ _ ready (c.loop-p.invariant L live ready) c.loop-p-test.true c.requires.room.0 c.requires.room.1 c.place-x.ensures
