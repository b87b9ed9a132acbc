-- `read` meets its contract: each refusal is the file's first (`Outcome`), and where none is left the filling pass lays the rows.
use Rattle.answers.specs.Paper.{found_fields}
use Rattle.answers.specs.Unique.{paper_err}
use Rattle.read.proofs.Trailer.{run_is}
use Rattle.read.proofs.Outcome.{framed, stopped_at, left, fits, counts, refuses, accepts}
use Rattle.read.proofs.read.Goals as goal

pub fill-requires : goal.fill-requires
fill-requires c =
    let r = c.in_ok-records.ensures in
    fits r.cut r.found _ _ _ (left r.cut r.found _ _ _ c.in_ok-scan.ensures c.lack.ensures c.in_ok-found.ensures.found)

pub returns-in_err-records-clause-leaves : goal.returns-in_err-records-clause-leaves
returns-in_err-records-clause-leaves c =
    refuses c.args.s.now _ _ _ _ (paper_err found_fields _ _ c.from_residual.ensures.1) (framed _ _ _ _ c.in_err-records.ensures.found)

pub returns-in_err-scan-clause-leaves : goal.returns-in_err-scan-clause-leaves
returns-in_err-scan-clause-leaves c =
    let r = c.in_ok-records.ensures in
    refuses c.args.s.now _ _ _ _ (paper_err found_fields _ _ c.from_residual-in_err-scan.ensures.1) (stopped_at r.cut r.found _ _ _ c.in_err-scan.ensures)

pub returns-in_err-found-clause-leaves : goal.returns-in_err-found-clause-leaves
returns-in_err-found-clause-leaves c =
    let r = c.in_ok-records.ensures in
    refuses c.args.s.now _ _ _ _ (paper_err found_fields _ _ c.from_residual-in_err-found.ensures.1)
    (left r.cut r.found _ _ _ c.in_ok-scan.ensures c.lack.ensures c.in_err-found.ensures.found)

pub returns-clause-leaves : goal.returns-clause-leaves
returns-clause-leaves c =
    let r = c.in_ok-records.ensures in
    let d = c.in_ok-found.ensures in
    let e = c.fill.ensures in
    accepts c.args.s.now _ _ _ _ _ _ _ (left r.cut r.found _ _ _ c.in_ok-scan.ensures c.lack.ensures d.found)
    (counts r.cut r.found c.in_ok-scan.ensures _ d.counts.0 d.counts.1)
    (rw (run_is r.cut) at e.a_after) (rw (run_is r.cut) at e.b_after) (rw (run_is r.cut) at e.w_after)
