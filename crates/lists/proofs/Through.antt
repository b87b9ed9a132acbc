-- How far the loop over the rows has come.
use Rattle.std.specs.Prelude.{ℕ, ◌≡◌, ◌≤◌, ◌*◌}
use Rattle.meaning.specs.Sums.{sum}
use Rattle.meaning.specs.Numbers.{fine}
use Rattle.meaning.specs.Links.{LinkList, rows_check}

-- the first r rows are fine, and their weights add up to `total`
pub record Through (L : LinkList) (total r : ℕ) : Type 0 where
  pub within : r ≤ L.rows
  pub small : total ≤ 65535 * r
  pub adds : total ≡ sum r L.w
  pub sound : rows_check L r ≡ fine
