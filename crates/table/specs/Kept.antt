-- What the functions promise that name each node by its target: the nodes that are their own target are numbered, and the others have
-- the number of theirs.
use Rattle.std.specs.Prelude.{ℕ, ◌≤◌, ◌<◌, ◌≡◌, Bool, List, length, get_or, eqb}
use Rattle.meaning.specs.Split.{size_of}

-- a node is its own target
abbrev pub own : List ℕ → ℕ → Bool
own to u = eqb (get_or to u 0) u

-- how many of the first v nodes are
abbrev pub kept_below : List ℕ → ℕ → ℕ
kept_below to v = size_of v (own to)

-- each of the first `count` nodes has a target among them that is its own target
abbrev pub Settled : ℕ → List ℕ → Type 0
Settled count to = (v : ℕ) → v < count → (get_or to v 0 < count) × (get_or to (get_or to v 0) 0 ≡ get_or to v 0)

-- each of the first `count` nodes has the number of nodes before it that are their own target; c of all are
pub record KeptNumbered (count : ℕ) (to name name' : List ℕ) (c : ℕ) : Type 0 where
  pub size : length name' ≡ length name
  pub kept : c ≡ kept_below to count
  pub numbers : (v : ℕ) → v < count → get_or name' v 0 ≡ kept_below to v

-- each of the first `count` nodes has the name that its target had
pub record RestNamed (count : ℕ) (to name name' : List ℕ) : Type 0 where
  pub size : length name' ≡ length name
  pub names : (v : ℕ) → v < count → get_or name' v 0 ≡ get_or name (get_or to v 0) 0

-- nodes with one target have one name, nodes with two have two, and the names are below c
pub record Gathered (count : ℕ) (to name name' : List ℕ) (c : ℕ) : Type 0 where
  pub size : length name' ≡ length name
  pub few : c ≤ count
  pub some : 1 ≤ count → 1 ≤ c
  pub below : (v : ℕ) → v < count → get_or name' v 0 < c
  pub same : (u v : ℕ) → u < count → v < count → get_or name' u 0 ≡ get_or name' v 0 → get_or to u 0 ≡ get_or to v 0
