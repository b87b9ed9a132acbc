-- A test as a number, as `usize::from` makes it of a `bool`, is at most 1.
use Rattle.std.proofs.Common.{◌≡◌, ℕ, ◌≤◌, Bool, true, false, arith}
use Rattle.std.specs.Int.{from_bool}

pub from_most : {k : ℕ} (b : Bool) → k ≡ from_bool b → k ≤ 1
from_most true e = omega arith
from_most false e = omega arith
