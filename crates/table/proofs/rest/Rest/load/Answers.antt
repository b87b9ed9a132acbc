-- `load` meets its contract: a list that passed its checks is accepted, and its three columns are laid at the front of the arrays.
use Rattle.std.proofs.Common.{arith}
use Rattle.lists.specs.Given.{given_by}
use Rattle.lists.proofs.Passed.{passed}
use Rattle.laws.specs.Accept.{fine_accepted}
use Rattle.table.proofs.Storing.{laid_front, laid_stored}
use Rattle.table.proofs.rest.Rest.load.Goals as goal

pub lay-requires : goal.lay-requires
lay-requires c = (passed (given_by c.args.list.now.links) _ c.args.list.now.passed).few_rows

pub lay-requires-2 : goal.lay-requires-2
lay-requires-2 c =
    let p = passed (given_by c.args.list.now.links) _ c.args.list.now.passed in
    omega (arith, p.few_rows, p.even.as_b)

pub lay-requires-3 : goal.lay-requires-3
lay-requires-3 c =
    let p = passed (given_by c.args.list.now.links) _ c.args.list.now.passed in
    omega (arith, p.few_rows, p.even.as_w)

pub invariant_of-self : goal.invariant_of-self
invariant_of-self c =
    let list = c.args.list.now in
    let g = given_by list.links in
    let s = c.args.self.now.stored in
    let acc = fine_accepted g _ list.words list.passed in
    record {
      stored = rw (c.lay.ensures, c.lay-2.ensures, c.lay-3.ensures)
          (laid_stored _ _ _ acc (passed g _ list.passed).even s.a_size s.b_size s.w_size);
    }

pub returns : goal.returns
returns c =
    let list = c.args.list.now in
    let g = given_by list.links in
    let acc = fine_accepted g _ list.words list.passed in
    rw (c.lay.ensures, c.lay-2.ensures, c.lay-3.ensures) (laid_front _ _ _ acc (passed g _ list.passed).even)
