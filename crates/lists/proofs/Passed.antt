-- What a list has whose checks found nothing: every call that goes on with a list leans on this. Each of the checks found nothing, as
-- `laws` shows, and a test that is false is its opposite.
use Prim.Native.Nat.{ℕ, ◌<◌, ◌≤◌}
use mathlib.Core.Path.{◌≡◌}
use mathlib.Core.Bool.{Bool, false}
use mathlib.Core.List.{List}
use lib.ListN.{length}
use Rattle.meaning.specs.Numbers.{fine}
use Rattle.meaning.specs.Links.{Given, given, list_of, list_check}
use Rattle.laws.specs.Accept.{Even, GoodRow, row_good, rows_fine, nodes_limit, size_even, size_limit, check_fine}

-- a list that passed, in a call whose lent outputs are too short where `short` says so
pub record Passed (g : Given) (short : Bool) : Type 0 where
  pub some_node : 1 ≤ g.n
  pub few_nodes : g.n ≤ 128
  pub even : Even g
  pub few_rows : length g.la ≤ 2048
  pub roomy : short ≡ false
  pub rows : (r : ℕ) → r < length g.la → GoodRow (list_of g) r

pub passed : (g : Given) (short : Bool) → list_check g short ≡ fine → Passed g short
passed g short e =
    let c = check_fine g short e in
    let nodes = nodes_limit g.n c.nodes_good in
    record {
      some_node = nodes.0;
      few_nodes = nodes.1;
      even = size_even g c.size_good;
      few_rows = size_limit g c.size_good;
      roomy = c.room_good;
      rows = λ r below. row_good (list_of g) r (rows_fine (list_of g) (length g.la) c.rows_good r below);
    }

-- ---- for `using`: what the ghost field of a `Checked` list says, each fact as a rule

pub nodes_fit : (n : ℕ) (a b w : List ℕ) → list_check (given n a b w) false ≡ fine → n ≤ 128
nodes_fit n a b w e = (passed (given n a b w) false e).few_nodes

pub rows_fit : (n : ℕ) (a b w : List ℕ) → list_check (given n a b w) false ≡ fine → length a ≤ 2048
rows_fit n a b w e = (passed (given n a b w) false e).few_rows

pub column_b : (n : ℕ) (a b w : List ℕ) → list_check (given n a b w) false ≡ fine → length a ≡ length b
column_b n a b w e = (passed (given n a b w) false e).even.as_b

pub column_w : (n : ℕ) (a b w : List ℕ) → list_check (given n a b w) false ≡ fine → length a ≡ length w
column_w n a b w e = (passed (given n a b w) false e).even.as_w

pub ruleset accepted = (nodes_fit, rows_fit, column_b, column_w)
