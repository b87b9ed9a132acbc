-- `floor` meets its contract: the list that stands in `rest` is the one given, so what `sink` finds for it holds of the list.
use Rattle.std.proofs.Common.{◌≡◌, refl, sym, ap, subst, arith}
use Rattle.method.specs.Question.{NoneBelow}
use Rattle.table.specs.Floor.{Along}
use Rattle.table.proofs.Storing.{one_stored}
use Rattle.table.proofs.rest.floor.Goals as goal

pub invariant_of-rest : goal.invariant_of-rest
invariant_of-rest c = record { stored = one_stored refl refl refl }

pub sink-requires : goal.sink-requires
sink-requires c =
    let nodes : c.load.new.self.nodes ≡ c.args.list.now.links.n = ap (λ L. L.nodes) c.load.ensures in
    record {
      many = omega (arith, c.requires.many);
      along = subst (λ L. Along L c.args.order.now c.args.back.now) (sym c.load.ensures) c.requires.along;
    }

pub returns : goal.returns
returns c = subst (λ L. NoneBelow L c.sink.result) c.load.ensures c.sink.ensures
