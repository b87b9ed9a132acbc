-- `note` meets its contract: the test is that of `better`, and the side's words are made from the labels.
use Rattle.std.proofs.Common.{◌<◌, arith}
use Rattle.sides.specs.Bits.{labelled}
use Rattle.least.proofs.Noting.{note_smaller, yet_some, yet_none}
use Rattle.least.proofs.note.Goals as goal
use Rattle.least.proofs.note.Goals.{in_default-via-in-Some+else-split-value, in_default-via-in_default}

pub returns-in_default : goal.returns-in_default
returns-in_default c = λ p q notes is low same.
    let smaller : c.args.value < p.value =
    elim c.in_default.branch [
      | in_default-via-in-Some+else-split-value w ↦ omega (arith, yet_some _ p notes w.in-Some.is)
      | in_default-via-in_default w ↦ omega (arith, yet_none _ p notes w.in_default.is)
    ] in
    note_smaller p q is (labelled c.args.label.now c.args.t) c.requires c.side.ensures same smaller
