-- `degrees` meets its contract: a row adds its cables to the nodes that exactly one of its ends is, and before it no node has more than 65,535
-- for each row passed.
use Rattle.std.proofs.Common.{arith}
use Rattle.table.proofs.Storing.{few, a_below, b_below, ends_apart, weight_light}
use Rattle.table.proofs.Counting.{degrees_none, degrees_more, degrees_light, second}
use Rattle.table.proofs.rest.Rest.degrees.Goals as goal

pub loop-r-init : goal.loop-r-init
loop-r-init c = degrees_none _ _ _ _ (λ v h. c.requires v (omega arith))

pub overflow_add-deg : goal.overflow_add-deg
overflow_add-deg c =
    let s = c.args.self.now.stored in
    let r = c.loop-r.r in
    let light = degrees_light c.loop-r.invariant (λ j h. weight_light s j (omega arith)) c.from.result in
    omega (arith, light (omega (arith, a_below s r (omega arith), few s)), weight_light s r (omega arith), c.from-c.ensures, s.few_rows)

pub overflow_add-deg-in-loop-r : goal.overflow_add-deg-in-loop-r
overflow_add-deg-in-loop-r c =
    let s = c.args.self.now.stored in
    let r = c.loop-r.r in
    let apart = ends_apart s r (omega arith) in
    let light = degrees_light c.loop-r.invariant (λ j h. weight_light s j (omega arith)) c.from-in-loop-r.result in
    let there = second c.from.result c.from-in-loop-r.result c.from-c.result c.loop-r.deg (λ e. apart (rw (← c.from.ensures, ← c.from-in-loop-r.ensures) e)) in
    omega (arith, light (omega (arith, b_below s r (omega arith), few s)), weight_light s r (omega arith), c.from-c.ensures, s.few_rows, there)

pub bounds-deg-from-in-loop-r-3 : goal.bounds-deg-from-in-loop-r-3
bounds-deg-from-in-loop-r-3 c =
    let s = c.args.self.now.stored in
    omega (arith, b_below s c.loop-r.r (omega arith), few s)

pub loop-r-preserved : goal.loop-r-preserved
loop-r-preserved c =
    let s = c.args.self.now.stored in
    let r = c.loop-r.r in
    let a = a_below s r (omega arith) in
    let b = b_below s r (omega arith) in
    let n = few s in
    rw (c.from.ensures, c.from-in-loop-r.ensures, c.from-c.ensures)
    (degrees_more c.loop-r.invariant (ends_apart s r (omega arith)) (omega arith) (omega arith))
