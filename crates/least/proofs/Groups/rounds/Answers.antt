-- `rounds` meets its contract: of every list whose table this is, what is noted and the groups that are left have the answer.
use Rattle.std.proofs.Common.{◌∙◌, sym, subst, arith}
use Rattle.meaning.specs.Split.{least_of}
use Rattle.least.specs.Rounds.{Notes}
use Rattle.least.proofs.Going.{Going, going_first, going_round, going_low, going_last}
use Rattle.least.proofs.Groups.rounds.Goals as goal

pub loop-noted-init : goal.loop-noted-init
loop-noted-init c =
    let r = c.round-noted in
    record {
      same_nodes = r.ensures.nodes;
      some = omega (arith, r.ensures.count);
      going = λ L g.
          subst (λ n. Going L c.args.start n r.new.self.count r.new.self.m r.new.self.label r.result) (sym r.ensures.nodes)
          (going_first g c.requires.two c.requires.all r.ensures.count r.ensures.after);
    }

pub loop-noted-preserved : goal.loop-noted-preserved
loop-noted-preserved c =
    let r = c.round-noted-in-loop-noted in
    record {
      same_nodes = r.ensures.nodes ∙ c.loop-noted.invariant.same_nodes;
      some = omega (arith, r.ensures.count);
      going = λ L g.
          subst (λ n. Going L c.args.start n r.new.self.count r.new.self.m r.new.self.label r.result) (sym r.ensures.nodes)
          (going_round (c.loop-noted.invariant.going L g) c.if-self-gt1.true r.ensures.count r.ensures.after);
    }

pub returns-else-self-gt1 : goal.returns-else-self-gt1
returns-else-self-gt1 c = λ L g none.
    subst (λ n. Notes n (least_of L c.args.start) c.loop-noted.noted) c.loop-noted.invariant.same_nodes
    (going_last (c.loop-noted.invariant.going L g) c.if-self-gt1.false)

pub returns-after-loop-noted : goal.returns-after-loop-noted
returns-after-loop-noted c = λ L g none.
    subst (λ n. Notes n (least_of L c.args.start) c.loop-noted.noted) c.loop-noted.invariant.same_nodes
    (going_low (c.loop-noted.invariant.going L g) (omega (arith, c.requires.inside)) c.args.low none c.loop-noted-test.false)
