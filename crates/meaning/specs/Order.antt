-- "Order, forests, thinning", first part: the max-back order from a start node, with the document's tie rule, and back counts.
-- For any start and any set of live nodes: the base's calls start at 0 with all nodes live.
use Rattle.std.specs.Prelude.{ℕ, zero, suc, ◌+◌, Bool, true, not, ◌&&◌, ◌||◌, cond, List, [], ◌∷◌, ◌++◌, length, take, get_or, eqb, ltb}
use Rattle.meaning.specs.Sums.{sum, on, has, listed}
use Rattle.meaning.specs.Links.{LinkList}

-- the cables of a row from x to y, c of them, that join the node z with the set P
abbrev pub reach : (ℕ → Bool) → ℕ → ℕ → ℕ → ℕ → ℕ
reach P z x y c = on (eqb x z && P y) c + on (eqb y z && P x) c

-- the cables from z to the set P
unfoldable pub back : LinkList → (ℕ → Bool) → ℕ → ℕ
back L P z = sum L.rows (λ r. reach P z (L.a r) (L.b r) (L.w r))

-- v is free, and u is not or has a lower score
abbrev pub beats : (ℕ → Bool) → (ℕ → ℕ) → ℕ → ℕ → Bool
beats free score v u = free v && (not (free u) || ltb (score u) (score v))

-- among the free nodes below n one with the highest score; ties go to the smallest number, also where the score is zero
unfoldable pub choose : ℕ → (ℕ → Bool) → (ℕ → ℕ) → ℕ
choose zero free score = 0
choose (suc v) free score = let u = choose v free score in cond (beats free score v u) v u

-- the next node after those placed: the free live node with the most cables to them
abbrev pub next : LinkList → (ℕ → Bool) → List ℕ → ℕ
next L live placed = choose L.nodes (λ v. live v && not (has placed v)) (back L (has placed))

-- the first k nodes of the order from the start s
unfoldable pub prefix : LinkList → (ℕ → Bool) → ℕ → ℕ → List ℕ
prefix L live s zero = []
prefix L live s (suc zero) = s ∷ []
prefix L live s (suc (suc k)) = let p = prefix L live s (suc k) in p ++ (next L live p ∷ [])

-- every node is live
abbrev pub all : ℕ → Bool
all v = true

-- the order of a list from the start s
abbrev pub order_of : LinkList → ℕ → List ℕ
order_of L s = prefix L all s L.nodes

-- the back count at position p of an order: the cables of its node there to the nodes before
abbrev pub back_at : LinkList → List ℕ → ℕ → ℕ
back_at L o p = back L (has (take p o)) (get_or o p 0)

-- the back counts by position
abbrev pub backs_of : LinkList → List ℕ → List ℕ
backs_of L o = listed (length o) (back_at L o)
