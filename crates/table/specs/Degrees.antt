-- What counting each node's cables promises.
use Rattle.std.specs.Prelude.{ℕ, ◌<◌, ◌≡◌, List, length, get_or, eqb}
use Rattle.table.specs.Floor.{across}

-- each node's cables: those of the rows with exactly one end there
pub record Degrees (rows : ℕ) (a b w deg deg' : List ℕ) : Type 0 where
  pub size : length deg' ≡ length deg
  pub degree : (v : ℕ) → v < length deg → get_or deg' v 0 ≡ across rows (eqb v) a b w
