-- `keep` meets its contract: a kept weight more stands in the list, and a store changes no other place.
use Rattle.std.proofs.Common.{refl, arith}
use Rattle.meaning.specs.Sums.{listed}
use Rattle.laws.specs.Filling.{filled_more}
use Rattle.lists.specs.Given.{list_by}
use Rattle.thin.specs.Passes.{kept_at}
use Rattle.thin.proofs.keep.Goals as goal

pub loop-r-init : goal.loop-r-init
unfolding listed
loop-r-init c = refl

pub loop-r-preserved : goal.loop-r-preserved
loop-r-preserved c =
    filled_more (kept_at c.args.k c.args.first.now (list_by c.args.list.now.links)) c.loop-r.r c.kept_of.result _ _ c.loop-r.invariant
    (omega arith) c.kept_of.ensures
