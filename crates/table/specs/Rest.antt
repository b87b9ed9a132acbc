-- The list that shrinks, as the struct that holds it, and what a step promises that shrinks it.
use Rattle.std.specs.Prelude.{ℕ, ◌-◌, ◌≤◌, ◌≡◌, List, get_or}
use Rattle.meaning.specs.Links.{LinkList}
use Rattle.method.specs.Question.{NoneBelow}
use Rattle.table.specs.Floor.{front, Stored, Along}
use Rattle.table.specs.declared.rest.Rest.{Rest}

-- the list that is left
abbrev pub left_of : Rest → LinkList
left_of r = front r.nodes r.rows r.a r.b r.w

-- an accepted list in the first rows of three lists, as that struct
abbrev pub rest_of : {n rows : ℕ} {a b w : List ℕ} → Stored n rows a b w → Rest
rest_of {n} {rows} {a} {b} {w} s = record { nodes = n; rows = rows; a = a; b = b; w = w; stored = s }

-- two or more nodes are left, and this is their order
pub record Shrinking (r : Rest) (order back : List ℕ) : Type 0 where
  pub many : 2 ≤ r.nodes
  pub along : Along (left_of r) order back

-- a turn may begin: `best` is not 0, and the order's last node has no fewer cables back
pub record Turn (best : ℕ) (r : Rest) (order back : List ℕ) : Type 0 where
  pub shrinking : Shrinking r order back
  pub some : best ≡ 0 → ⊥
  pub low : best ≤ get_or back (r.nodes - 1) 0

-- fewer nodes are left, or as many; what no division of them is below, up to `low`, no division of those before is below
pub record Smaller (best : ℕ) (old new : Rest) (low : ℕ) : Type 0 where
  pub fewer : new.nodes ≤ old.nodes
  pub lower : low ≤ best
  pub none : (x : ℕ) → x ≤ low → NoneBelow (left_of new) x → NoneBelow (left_of old) x
