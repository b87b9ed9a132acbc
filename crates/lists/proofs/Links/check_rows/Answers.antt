-- The lemmas of `Checks` say what the rest of the checks is where a row is bad, and where none is.
use Rattle.std.proofs.Common.{refl, arith, add-one, ◌∙◌, sym}
use Rattle.meaning.specs.Sums.{sum}
use Rattle.meaning.specs.Links.{list_of, rows_check}
use Rattle.answers.specs.Unique.{told_err}
use Rattle.lists.specs.Given.{given_by}
use Rattle.lists.proofs.Checks.{rows_more, rest_stop}
use Rattle.lists.proofs.Links.check_rows.Goals as goal

pub loop-r-init : goal.loop-r-init
unfolding sum rows_check
loop-r-init c = record { within = omega arith; small = omega arith; adds = refl; sound = refl }

pub returns-in_err-row_check : goal.returns-in_err-row_check
returns-in_err-row_check c =
    told_err c.from_residual.result _ c.from_residual.ensures.1
    ∙ sym (rest_stop (list_of (given_by c.args.self.now)) c.loop-r.r (omega arith) c.loop-r.invariant.sound (sym c.in_err-row_check.ensures))

pub loop-r-preserved : goal.loop-r-preserved
unfolding sum
loop-r-preserved c =
    let L = list_of (given_by c.args.self.now) in
    record {
      within = omega arith;
      small = let fits = c.type_inv.w c.loop-r.r in omega (arith, c.from-total.ensures);
      adds = rw (add-one, c.loop-r.invariant.adds, c.from-total.ensures) refl;
      sound = rows_more L c.loop-r.r c.loop-r.invariant.sound (sym c.in_ok-row_check.ensures);
    }
