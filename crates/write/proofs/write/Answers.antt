-- A list that passed with the room that `too_short` says has room for its file.
use Rattle.std.proofs.Common.{sym}
use borrow.Author.Tests.{ltb-false}
use Rattle.lists.specs.Given.{given_by}
use Rattle.lists.proofs.Passed.{passed}
use Rattle.write.proofs.write.Goals as goal

pub put_file-requires : goal.put_file-requires
put_file-requires c =
    let good = passed (given_by c.args.links.now) c.too_short.result (sym c.in_ok-list.ensures.found) in
    rw c.in_ok-list.ensures.same (record { room = ltb-false _ _ (rw c.too_short.ensures at good.roomy) })
