-- "Order, forests, thinning", second part: forest numbers along an order, kept weights, the short list. For any order o.
use Rattle.std.specs.Prelude.{ℕ, zero, suc, ◌+◌, ◌-◌, min, Bool, ◌&&◌, cond, List, [], ◌∷◌, map, take, eqb, ltb}
use Rattle.meaning.specs.Sums.{sum, on, has, listed, those}
use Rattle.meaning.specs.Links.{Given, given, LinkList}
use Rattle.meaning.specs.Order.{reach, back}

-- the position of x in the order o, from 0
unfoldable pub position : List ℕ → ℕ → ℕ
position [] x = 0
position (y ∷ ys) x = cond (eqb y x) 0 (suc (position ys x))

-- the end of row r that the order has first, and the other
abbrev pub a_first : LinkList → List ℕ → ℕ → Bool
a_first L o r = ltb (position o (L.a r)) (position o (L.b r))

abbrev pub earlier : LinkList → List ℕ → ℕ → ℕ
earlier L o r = cond (a_first L o r) (L.a r) (L.b r)

abbrev pub later : LinkList → List ℕ → ℕ → ℕ
later L o r = cond (a_first L o r) (L.b r) (L.a r)

-- The first forest number of row r, from x to the later y: one more than the cables that reached y before it in the scan. Those are y's
-- cables to the nodes scanned before x, and its cables to x in the rows before r.
unfoldable pub first : LinkList → List ℕ → ℕ → ℕ
first L o r =
    let x = earlier L o r in
    let y = later L o r in
    suc (back L (has (take (position o x) o)) y + sum r (λ j. reach (eqb x) y (L.a j) (L.b j) (L.w j)))

-- the first forest numbers, one per row
abbrev pub firsts_of : LinkList → List ℕ → List ℕ
firsts_of L o = listed L.rows (first L o)

-- ---- the same numbers by document 003's scan

-- where the scan stands: the cables that have reached each node, and the first number given to each row
pub record Scan : Type 0 where
  pub reached : ℕ → ℕ
  pub given_first : ℕ → ℕ

-- row r is visited from the node at position p: where it leads to a later node y, it is numbered from r(y) + 1
abbrev pub visit : LinkList → List ℕ → ℕ → ℕ → Scan → Scan
visit L o p r s =
    let y = later L o r in
    let f = suc (s.reached y) in
    let here = eqb (position o (earlier L o r)) p in
    record {
      reached = λ v. s.reached v + on (here && eqb v y) (L.w r);
      given_first = λ j. cond (here && eqb j r) f (s.given_first j);
    }

-- the first m rows are visited in row order from the node at position p
unfoldable pub visits : LinkList → List ℕ → ℕ → ℕ → Scan → Scan
visits L o p zero s = s
visits L o p (suc r) s = visit L o p r (visits L o p r s)

-- the nodes at the first p positions are scanned in turn
unfoldable pub scan : LinkList → List ℕ → ℕ → Scan
scan L o zero = record { reached = λ v. 0; given_first = λ r. 0 }
scan L o (suc p) = visits L o p L.rows (scan L o p)

-- ---- thinning for k

-- a row of weight w whose first cable has the number f keeps this many for k
abbrev pub kept_of : ℕ → ℕ → ℕ → ℕ
kept_of k f w = cond (ltb k f) 0 (min w (k + 1 - f))

-- the kept weight of row r
abbrev pub kept : LinkList → List ℕ → ℕ → ℕ → ℕ
kept L o k r = kept_of k (first L o r) (L.w r)

-- the kept weights, one per row
abbrev pub kepts_of : LinkList → List ℕ → ℕ → List ℕ
kepts_of L o k = listed L.rows (kept L o k)

-- the list with its kept weights, rows that keep 0 included
abbrev pub thinned : LinkList → List ℕ → ℕ → LinkList
thinned L o k = record { nodes = L.nodes; rows = L.rows; a = L.a; b = L.b; w = kept L o k }

-- the rows that keep something, in order
unfoldable pub stays : LinkList → List ℕ → ℕ → List ℕ
stays L o k = those L.rows (λ r. ltb 0 (kept L o k r))

-- the short list: those rows with their kept weights, on the same nodes
abbrev pub short_of : LinkList → List ℕ → ℕ → Given
short_of L o k =
    let s = stays L o k in
    given L.nodes (map L.a s) (map L.b s) (map (kept L o k) s)
