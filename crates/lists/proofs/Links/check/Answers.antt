-- A list's checks are its counts', then the rest (`list_parts`).
use Rattle.std.proofs.Common.{refl, sym, ◌∙◌}
use Rattle.answers.specs.Unique.{told_err}
use Rattle.lists.specs.Given.{given_by}
use Rattle.lists.proofs.Checks.{list_parts, passed_roomy}
use Rattle.lists.proofs.Links.check.Goals as goal

pub returns-in_err-size_check-clause-found : goal.returns-in_err-size_check-clause-found
returns-in_err-size_check-clause-found c =
    told_err c.from_residual.result _ c.from_residual.ensures.1
    ∙ rw (list_parts (given_by c.args.self.now) c.args.short, sym c.in_err-size_check.ensures) refl

pub returns-in_err-check_rows-clause-found : goal.returns-in_err-check_rows-clause-found
returns-in_err-check_rows-clause-found c =
    told_err c.from_residual-in_err-check_rows.result _ c.from_residual-in_err-check_rows.ensures.1
    ∙ rw (list_parts (given_by c.args.self.now) c.args.short, sym c.in_ok-size_check.ensures) c.in_err-check_rows.ensures

pub returns-clause-found : goal.returns-clause-found
returns-clause-found c =
    rw (list_parts (given_by c.args.self.now) c.args.short, sym c.in_ok-size_check.ensures) c.in_ok-check_rows.ensures

pub invariant_of-result : goal.invariant_of-result
invariant_of-result c =
    let g = given_by c.args.self.now in
    record {
      passed =
          passed_roomy g c.args.short
          (rw (list_parts g c.args.short, sym c.in_ok-size_check.ensures) (sym c.in_ok-check_rows.ensures));
      words = c.words.ensures;
    }
