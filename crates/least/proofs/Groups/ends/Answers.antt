-- `ends` meets its contract: the scores are those of the live groups, so the run gives the groups' order and back counts.
use Rattle.std.proofs.Common.{refl}
use Rattle.meaning.specs.Split.{renamed, live}
use Rattle.least.proofs.Grouping.{ready, ran, ended}
use Rattle.least.proofs.Groups.ends.Goals as goal

pub returns : goal.returns
returns c = λ L g j many grouped.
    let at = c.from-s.ensures in
    let inside = c.requires.inside in
    let can = ready grouped c.args.start c.from-s.result inside at _ _ refl c.open.ensures in
    ended grouped c.args.start inside j many _ _ _ _
    (ran grouped c.args.start c.from-s.result inside at (c.run.ensures (renamed g L) (live g) can))
