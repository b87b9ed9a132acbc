-- `fasten` meets its contract: the degrees are the nodes' cables, so what hangs may be fastened, and `fastened` says what is left.
use Rattle.std.proofs.Common.{◌≤◌, ◌<◌, ℕ, get_or, take, length, refl, arith}
use Rattle.std.proofs.lemmas.List.{get_or-replicate}
use Rattle.std.proofs.Math.Seq.{get_or-take, length-take-le}
use Rattle.table.proofs.Storing.{few}
use Rattle.table.proofs.Fastening.{fold_first, fold_least, fastened}
use Rattle.table.proofs.rest.Rest.fasten.Goals as goal

pub degrees-requires : goal.degrees-requires
degrees-requires c = λ v h. get_or-replicate 128 v 0 0 h

pub gather-nodes-requires-clause-settled : goal.gather-nodes-requires-clause-settled
gather-nodes-requires-clause-settled c = λ v h. (c.hang.ensures.inside v h, c.hang.ensures.settled v h)

pub returns : goal.returns
returns c =
    let rest = c.args.self.now in
    let n = rest.nodes in
    let deg = c.degrees.new.deg in
    let room : n ≤ length deg = omega (arith, few rest.stored, c.degrees.array_long) in
    let low : (v : ℕ) → v < n → c.lowest-low.result ≤ get_or deg v 0 = λ v h.
    omega (arith, c.lowest-low.ensures, fold_least c.args.best (take n deg) v (omega (arith, length-take-le n deg room)), get_or-take n deg v 0 h) in
    let least : c.lowest-low.result ≤ c.args.best = omega (arith, c.lowest-low.ensures, fold_first c.args.best (take n deg)) in
    let (q, small) = fastened rest.stored refl c.degrees.ensures low c.hang.ensures least c.gather-nodes.ensures c.rename.ensures.squeezed in
    record {
      fewer = omega (arith, small.fewer, c.rename.ensures.count);
      lower = small.lower;
      none = λ x le h. small.none x le (rw c.rename.ensures.count at h);
    }
