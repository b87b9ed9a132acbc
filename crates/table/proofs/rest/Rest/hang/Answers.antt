-- `hang` meets its contract: a row joins its ends either way round, so `hanging_more` keeps the invariant through both tries, each whether it
-- hung a node or did nothing; and when no row is left the invariant is the contract.
use Rattle.std.proofs.Common.{◌≡◌, ◌+◌, ◌*◌, get_or, refl, inl, inr, arith}
use Rattle.table.proofs.Storing.{few}
use Rattle.table.proofs.Hanging.{hanging_none, hanging_suc, hanging_more}
use Rattle.table.proofs.rest.Rest.hang.Goals as goal

pub loop-r-init : goal.loop-r-init
loop-r-init c = hanging_none _ _ _ _ _ _ (few c.args.self.now.stored) (omega arith) refl c.requires

pub loop-r-preserved : goal.loop-r-preserved
loop-r-preserved c =
    let rest = c.args.self.now in
    let r = c.loop-r.r in
    let x = get_or rest.a r 0 in
    let y = get_or rest.b r 0 in
    let twice = 2 * c.from-twice.result in
    let is : twice ≡ get_or rest.w r 0 + get_or rest.w r 0 = omega (arith, c.from-twice.ensures) in
    let tried =
    hanging_more rest.stored r x y (omega arith) (inl (refl, refl)) (hanging_suc c.loop-r.invariant) twice is c.hang_on.ensures in
    hanging_more rest.stored r y x (omega arith) (inr (refl, refl)) tried twice is c.hang_on-in-loop-r.ensures

pub returns : goal.returns
returns c = let all : c.loop-r.r ≡ c.args.self.now.rows = omega arith in rw all at c.loop-r.invariant.hung
