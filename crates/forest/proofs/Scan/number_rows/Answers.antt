-- `number_rows` meets its contract: each row's number is read from its cell, and the rows from the next on may then be numbered.
use Rattle.std.proofs.Common.{refl, arith}
use Rattle.meaning.specs.Sums.{listed}
use Rattle.forest.proofs.Numbering.{room, goes_on, first_laid}
use Rattle.forest.proofs.Scan.number_rows.Goals as goal

pub loop-r-init : goal.loop-r-init
unfolding listed
loop-r-init c = record { scannable = c.requires.turned; laid_so_far = refl }

pub number_row-requires-clause-room : goal.number_row-requires-clause-room
number_row-requires-clause-room c = room c.loop-r.invariant.scannable (omega arith)

pub loop-r-preserved : goal.loop-r-preserved
loop-r-preserved c =
    let s = c.loop-r.invariant.scannable in
    record {
      scannable = rw c.number_row.ensures.places (goes_on s (omega arith) c.number_row.ensures.numbered);
      laid_so_far = first_laid s (omega arith) c.number_row.ensures.numbered _ _ c.loop-r.invariant.laid_so_far (omega arith);
    }
