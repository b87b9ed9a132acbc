-- The few tools that the definitions are made of: sums and lists over the numbers below a bound, and tests as Bools.
-- Contents: `sum`, `on`, `differ`, `has`, `listed`, `those`, `laid`. Laws about them are in the crate `laws`.
use Rattle.std.specs.Prelude.{ℕ, zero, suc, ◌+◌, Bool, true, false, not, ◌||◌, cond, List, [], ◌∷◌, ◌++◌, length, drop, eqb}

-- f 0 + f 1 + .. + f (n - 1)
unfoldable pub sum : ℕ → (ℕ → ℕ) → ℕ
sum zero f = 0
sum (suc n) f = sum n f + f n

-- x where the test holds, else 0
abbrev pub on : Bool → ℕ → ℕ
on true x = x
on false x = 0

-- exactly one of the two holds
abbrev pub differ : Bool → Bool → Bool
differ true q = not q
differ false q = q

-- x is among xs
unfoldable pub has : List ℕ → ℕ → Bool
has [] x = false
has (y ∷ ys) x = eqb y x || has ys x

-- f 0, f 1, .., f (n - 1)
unfoldable pub listed : ℕ → (ℕ → ℕ) → List ℕ
listed zero f = []
listed (suc n) f = listed n f ++ (f n ∷ [])

-- the numbers below n that pass the test, rising
unfoldable pub those : ℕ → (ℕ → Bool) → List ℕ
those zero t = []
those (suc n) t = those n t ++ cond (t n) (n ∷ []) []

-- a lent list after `new` was laid at its front: places past that keep their contents
abbrev pub laid : List ℕ → List ℕ → List ℕ
laid new old = new ++ drop (length new) old
