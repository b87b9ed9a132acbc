-- The loop's invariant: of every list whose table this was, what is noted and the groups that are left have the answer.
-- The measure is the number of groups.
use Rattle.std.proofs.Common.{◌≡◌, ◌≤◌}
use Rattle.meaning.specs.Links.{LinkList}
use Rattle.least.specs.Grouping.{Grouping}
use Rattle.least.proofs.Going.{Going}
use Rattle.least.proofs.Groups.rounds.Given as goal

abbrev pub invariant-loop-noted : goal.invariant-loop-noted
invariant-loop-noted l =
    record {
      same_nodes : l.self.nodes ≡ l.fn.self.nodes;
      some : 1 ≤ l.self.count;
      going : (L : LinkList) → Grouping L (λ v. v) l.fn.self
          → Going L l.start l.self.nodes l.self.count l.self.m l.self.label l.noted;
    }

abbrev pub decreases-loop-noted : goal.decreases-loop-noted
decreases-loop-noted l = l.self.count
