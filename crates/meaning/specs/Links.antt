-- "What the report covers": lists of links, their limits and their checks; the summary of "The least split".
use Rattle.std.specs.Prelude.{ℕ, zero, suc, ◌≤◌, ◌<◌, ◌≡◌, Bool, not, ◌&&◌, ◌||◌, List, length, get_or, eqb, ltb, leb}
use Rattle.meaning.specs.Sums.{sum, on}
use Rattle.meaning.specs.Numbers.{Check, fine, when, ◌⟫◌, node_count, list_size, end_outside, ends_equal, no_weight, short_room, over_sum}

-- what a caller hands over: n, and the two ends and the weight of each row, in three lists
pub record Given : Type 0 where
  pub n : ℕ
  pub la : List ℕ
  pub lb : List ℕ
  pub lw : List ℕ

abbrev pub given : ℕ → List ℕ → List ℕ → List ℕ → Given
given n la lb lw = record { n = n; la = la; lb = lb; lw = lw }

-- a list of links: nodes 0 to nodes - 1, and for each row number its ends a and b and its weight w
pub record LinkList : Type 0 where
  pub nodes : ℕ
  pub rows : ℕ
  pub a : ℕ → ℕ
  pub b : ℕ → ℕ
  pub w : ℕ → ℕ

abbrev pub list_of : Given → LinkList
list_of g =
    record {
      nodes = g.n;
      rows = length g.la;
      a = λ r. get_or g.la r 0;
      b = λ r. get_or g.lb r 0;
      w = λ r. get_or g.lw r 0;
    }

-- the sum of the weights
abbrev pub links : LinkList → ℕ
links L = sum L.rows L.w

-- ---- the checks of a list

-- row by row: 11, 12, 13
abbrev pub row_check : LinkList → ℕ → Check
row_check L r =
    when (leb L.nodes (L.a r) || leb L.nodes (L.b r)) end_outside r
    ⟫ when (eqb (L.a r) (L.b r)) ends_equal r
    ⟫ when (eqb (L.w r) 0) no_weight r

-- the first m rows: the first bad row decides
unfoldable pub rows_check : LinkList → ℕ → Check
rows_check L zero = fine
rows_check L (suc m) = rows_check L m ⟫ row_check L m

-- n is 0 or over 128
abbrev pub bad_nodes : ℕ → Bool
bad_nodes n = eqb n 0 || ltb 128 n

-- over 2,048 rows, or lists of unequal length
abbrev pub bad_size : Given → Bool
bad_size g =
    not (eqb (length g.la) (length g.lb))
    || not (eqb (length g.la) (length g.lw))
    || ltb 2048 (length g.la)

-- a list's checks in the document's order: 9, 10, then 14 where a lent output is too short, the rows, 18
unfoldable pub list_check : Given → Bool → Check
list_check g short =
    when (bad_nodes g.n) node_count 0
    ⟫ when (bad_size g) list_size 0
    ⟫ when short short_room 0
    ⟫ rows_check (list_of g) (length g.la)
    ⟫ when (ltb 4294967295 (links (list_of g))) over_sum 0

-- an accepted list: what the table of limits says of it
pub record Accepted (L : LinkList) : Type 0 where
  pub some_node : 1 ≤ L.nodes
  pub few_nodes : L.nodes ≤ 128
  pub few_rows : L.rows ≤ 2048
  pub a_inside : (r : ℕ) → r < L.rows → L.a r < L.nodes
  pub b_inside : (r : ℕ) → r < L.rows → L.b r < L.nodes
  pub apart : (r : ℕ) → r < L.rows → L.a r ≡ L.b r → ⊥
  pub weighty : (r : ℕ) → r < L.rows → 1 ≤ L.w r
  pub light : (r : ℕ) → r < L.rows → L.w r ≤ 65535

-- ---- the summary

-- rows before r with the same two ends as written
abbrev pub same_before : LinkList → ℕ → ℕ
same_before L r = sum r (λ j. on (eqb (L.a j) (L.a r) && eqb (L.b j) (L.b r)) 1)

-- the number of different (a, b) as written: each is counted at its first row
unfoldable pub pairs : LinkList → ℕ
pairs L = sum L.rows (λ r. on (eqb (same_before L r) 0) 1)
