-- What hanging a node on a neighbour promises: that it was free to hang, or nothing was changed; and each node's target in the end.
use Rattle.std.specs.Prelude.{ℕ, ◌+◌, ◌≤◌, ◌<◌, ◌≡◌, Bool, true, false, List, ◌⊎◌, length, get_or, set}

-- ---- one node

-- nothing hangs on x, x hangs on nothing, nor does y, and x has at most `twice` cables
pub record Free (x y twice : ℕ) (deg to : List ℕ) (held : List Bool) : Type 0 where
  pub own : get_or to x 0 ≡ x
  pub bare : get_or held x false ≡ false
  pub top : get_or to y 0 ≡ y
  pub half : get_or deg x 0 ≤ twice

-- x was free and was hung on y
pub record Hooked (x y twice : ℕ) (deg to to' : List ℕ) (held held' : List Bool) : Type 0 where
  pub free : Free x y twice deg to held
  pub put_to : to' ≡ set to x y
  pub put_held : held' ≡ set held y true

-- x was hung on y, or all is as it was
abbrev pub HungOn : ℕ → ℕ → ℕ → List ℕ → List ℕ → List ℕ → List Bool → List Bool → Type 0
HungOn x y twice deg to to' held held' = Hooked x y twice deg to to' held held' ⊎ ((to' ≡ to) × (held' ≡ held))

-- ---- all rows

-- row r joins u and v, either way round
abbrev pub Joins : List ℕ → List ℕ → ℕ → ℕ → ℕ → Type 0
Joins a b r u v = ((get_or a r 0 ≡ u) × (get_or b r 0 ≡ v)) ⊎ ((get_or b r 0 ≡ u) × (get_or a r 0 ≡ v))

-- each node's target: itself, or a node that is its own target, where one of the first `rows` rows has at least half of the node's cables
pub record Hung (count rows : ℕ) (a b w deg to to' : List ℕ) : Type 0 where
  pub size : length to' ≡ length to
  pub inside : (v : ℕ) → v < count → get_or to' v 0 < count
  pub settled : (v : ℕ) → v < count → get_or to' (get_or to' v 0) 0 ≡ get_or to' v 0
  pub heavy : (v : ℕ) → v < count → (get_or to' v 0 ≡ v → ⊥)
      → (r : ℕ) × (r < rows) × Joins a b r v (get_or to' v 0) × (get_or deg v 0 ≤ get_or w r 0 + get_or w r 0)
