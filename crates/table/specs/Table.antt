-- The dense table of a list's cables, what a run of the order needs to begin, and what each function of the crate leaves.
use Rattle.std.specs.Prelude.{ℕ, ◌+◌, ◌-◌, ◌*◌, ◌≤◌, ◌<◌, ◌≡◌, Bool, true, not, List, length, get_or, eqb}
use Rattle.meaning.specs.Sums.{on, laid}
use Rattle.meaning.specs.Links.{LinkList}
use Rattle.meaning.specs.Order.{reach, back, prefix, backs_of}
use Rattle.meaning.specs.Split.{size_of}

-- the mark of a free node in its score; every number of cables stays below it
abbrev pub mark : ℕ
mark = 1073741824

-- the cables between nodes p and q; 0 on the diagonal
abbrev pub cell : LinkList → ℕ → ℕ → ℕ
cell L p q = on (not (eqb p q)) (back L (eqb p) q)

-- what stands in the table between p and q
abbrev pub cell_at : List ℕ → ℕ → ℕ → ℕ
cell_at m p q = get_or m (p * 128 + q) 0

-- m is the table of L: the cables between p and q stand at p * 128 + q
pub record Holds (L : LinkList) (m : List ℕ) : Type 0 where
  pub size : length m ≡ 16384
  pub cells : (p q : ℕ) → p < 128 → q < 128 → cell_at m p q ≡ cell L p q

-- three lists that make rows between nodes below 128, no row with both ends equal
pub record Rows (a b w : List ℕ) : Type 0 where
  pub same_b : length b ≡ length a
  pub same_w : length w ≡ length a
  pub few : length a ≤ 2048
  pub a_inside : (r : ℕ) → r < length a → get_or a r 0 < 128
  pub b_inside : (r : ℕ) → r < length a → get_or b r 0 < 128
  pub apart : (r : ℕ) → r < length a → get_or a r 0 ≡ get_or b r 0 → ⊥

-- a run of `count` nodes from the start may begin: m is the table of L, whose weights are document 01's, the live nodes are
-- `count` many with the start among them, and each live node has its mark as its score
pub record Ready (L : LinkList) (live : ℕ → Bool) (n count start : ℕ) (m score : List ℕ) : Type 0 where
  pub table : Holds L m
  pub few_rows : L.rows ≤ 2048
  pub light : (r : ℕ) → r < L.rows → L.w r ≤ 65535
  pub nodes : L.nodes ≡ n
  pub few_nodes : n ≤ 128
  pub inside : start < n
  pub start_live : live start ≡ true
  pub count_live : size_of n live ≡ count
  pub size : length score ≡ 128
  pub marks : (v : ℕ) → v < n → get_or score v 0 ≡ on (live v) mark

-- the run's order and its back counts, laid at the front of the two lists
pub record Ran (L : LinkList) (live : ℕ → Bool) (count start : ℕ) (order order' back back' : List ℕ) : Type 0 where
  pub order_is : order' ≡ laid (prefix L live start count) order
  pub back_is : back' ≡ laid (backs_of L (prefix L live start count)) back

-- a row from x to y of c cables was added to the table
pub record Joined (x y c : ℕ) (m m' : List ℕ) : Type 0 where
  pub size : length m' ≡ length m
  pub more : (p q : ℕ) → p < 128 → q < 128 → cell_at m' p q ≡ cell_at m p q + reach (eqb p) q x y c

-- a row was added to the first n scores, of which `top` is the highest
pub record Added (n : ℕ) (row score score' : List ℕ) (top : ℕ) : Type 0 where
  pub size : length score' ≡ length score
  pub more : (v : ℕ) → v < n → get_or score' v 0 ≡ get_or score v 0 + get_or row v 0
  pub most : (v : ℕ) → v < n → get_or score' v 0 ≤ top
  pub reached : 0 < n → (v : ℕ) × (v < n) × (get_or score' v 0 ≡ top)

-- no node before v has the score `top`
abbrev pub NoneBefore : List ℕ → ℕ → ℕ → Type 0
NoneBefore score top v = (u : ℕ) → u < v → get_or score u 0 ≡ top → ⊥

-- x may be placed: it has its mark, and every score still fits when x's row is added
pub record Placeable (n x : ℕ) (m score : List ℕ) : Type 0 where
  pub few_nodes : n ≤ 128
  pub inside : x < n
  pub marked : mark ≤ get_or score x 0
  pub light : (v : ℕ) → v < n → get_or score v 0 + cell_at m x v < 4294967296

-- x lost its mark and its row was added; among the first n scores r is the first of the highest
pub record Placed (n x : ℕ) (m score score' : List ℕ) (r : ℕ) : Type 0 where
  pub size : length score' ≡ length score
  pub more : (v : ℕ) → v < n → get_or score' v 0 ≡ get_or score v 0 - on (eqb v x) mark + cell_at m x v
  pub inside : r < n
  pub most : (v : ℕ) → v < n → get_or score' v 0 ≤ get_or score' r 0
  pub first : (v : ℕ) → v < r → get_or score' v 0 < get_or score' r 0

-- every place holds its own number
abbrev pub Numbered : List ℕ → Type 0
Numbered label = (v : ℕ) → v < length label → get_or label v 0 ≡ v
