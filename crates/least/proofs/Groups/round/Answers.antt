-- `round` meets its contract: what the order ends in is noted and merged, as the definition of a round has it.
use Rattle.std.proofs.Common.{◌≡◌, suc, ◌-◌, arith}
use Rattle.least.proofs.Grouping.{grouped_light, end_last, end_before, end_two, after_round}
use Rattle.least.proofs.Groups.round.Goals as goal

pub merge-requires-clause-apart : goal.merge-requires-clause-apart
merge-requires-clause-apart c =
    let g = c.requires.grouped.2 in
    let j = c.args.self.now.count - 2 in
    let many : c.args.self.now.count ≡ suc (suc j) = omega (arith, c.requires.two) in
    let end = c.ends-end.ensures c.requires.grouped.0 c.requires.grouped.1 j many g in
    let start = c.args.start in
    let inside = c.requires.inside in (
      end_before g start inside j many end,
      end_last g start inside j many end,
      end_two g start inside j many end,
    )

pub merge-requires-clause-light : goal.merge-requires-clause-light
merge-requires-clause-light c = grouped_light c.requires.grouped.2

pub returns-clause-after : goal.returns-clause-after
returns-clause-after c = λ L g j p many grouped notes.
    after_round grouped c.args.start c.requires.inside j many (c.ends-end.ensures L g j many grouped) c.args.noted c.note-next.ensures
    c.merge.ensures.folded c.merge.ensures.relabelled notes
