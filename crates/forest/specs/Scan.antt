-- What the steps of `forest` do to a table of 128 x 128 cells, where the cell of x and y stands at x * 128 + y.
use Rattle.std.specs.Prelude.{ℕ, suc, ◌+◌, ◌*◌, ◌^◌, ◌≤◌, ◌<◌, ◌≡◌, cond, List, length, get_or, set, take, eqb, ltb}
use Rattle.meaning.specs.Sums.{sum, has}
use Rattle.meaning.specs.Links.{LinkList, Accepted}
use Rattle.meaning.specs.Order.{reach, back}
use Rattle.meaning.specs.Forest.{position}
use Rattle.thinning.specs.Place.{Lists}
use Rattle.table.specs.Table.{cell_at, Holds}

-- row x of the table and the sums are exchanged, and the row is added to the sums
pub record Exchanged (x : ℕ) (m m' sums sums' : List ℕ) : Type 0 where
  pub row : (y : ℕ) → y < 128 → cell_at m' x y ≡ get_or sums y 0
  pub others : (u y : ℕ) → (u ≡ x → ⊥) → u < 128 → y < 128 → cell_at m' u y ≡ cell_at m u y
  pub added : (y : ℕ) → y < 128 → get_or sums' y 0 ≡ get_or sums y 0 + cell_at m x y

-- what column y of the table has in the rows of the order's first p nodes
abbrev pub above : List ℕ → List ℕ → ℕ → ℕ → ℕ
above o m p y = sum p (λ q. cell_at m (get_or o q 0) y)

-- the table may be turned along o: each node of o stands there once and is below 128, and all sums stay below 2 ^ 32
pub record Turnable (o m : List ℕ) : Type 0 where
  pub few : length o ≤ 128
  pub inside : (p : ℕ) → p < length o → get_or o p 0 < 128
  pub once : (p q : ℕ) → p < length o → q < length o → get_or o p 0 ≡ get_or o q 0 → p ≡ q
  pub fits : (p y : ℕ) → p ≤ length o → y < 128 → above o m p y < 2 ^ 32

-- after the first p nodes of o: each has its position in place, and its row of m' holds what m had in the rows above it
pub record Spread (p : ℕ) (o m m' place : List ℕ) : Type 0 where
  pub rows : (q y : ℕ) → q < p → y < 128 → cell_at m' (get_or o q 0) y ≡ above o m q y
  pub places : (q : ℕ) → q < p → get_or place (get_or o q 0) 0 ≡ q

-- the cables that have reached y when x is scanned and has visited r rows
abbrev pub reached_by : LinkList → List ℕ → ℕ → ℕ → ℕ → ℕ
reached_by L o r x y = back L (has (take (position o x) o)) y + sum r (λ j. reach (eqb x) y (L.a j) (L.b j) (L.w j))

-- the table has them wherever x stands before y
abbrev pub Reached : LinkList → List ℕ → ℕ → List ℕ → Type 0
Reached L o r m =
    (x y : ℕ) → x < L.nodes → y < L.nodes → position o x < position o y → cell_at m x y ≡ reached_by L o r x y

-- m is the table of an accepted list
pub record Tabled (L : LinkList) (m : List ℕ) : Type 0 where
  pub accepted : Accepted L
  pub table : Holds L m

-- An accepted list may be numbered from row r on along o, which lists its nodes: place has the position of each node, and the table holds
-- what has reached each node y when each node x before it is scanned and has visited the rows before r.
pub record Scannable (L : LinkList) (o : List ℕ) (r : ℕ) (place m : List ℕ) : Type 0 where
  pub accepted : Accepted L
  pub lists : Lists o L.nodes
  pub places : (v : ℕ) → v < L.nodes → get_or place v 0 ≡ position o v
  pub cells : Reached L o r m

-- the cell of a row's ends, the one with the smaller place first
abbrev pub cell_of : List ℕ → ℕ → ℕ → ℕ
cell_of place x y = cond (ltb (get_or place x 0) (get_or place y 0)) (x * 128 + y) (y * 128 + x)

-- a row of weight w got the number f from the cell at `at`, which its cables advanced
pub record Numbered (at w : ℕ) (m m' : List ℕ) (f : ℕ) : Type 0 where
  pub inside : at < length m
  pub number : f ≡ suc (get_or m at 0)
  pub advanced : m' ≡ set m at (get_or m at 0 + w)
