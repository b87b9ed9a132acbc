-- New bytes laid into old ones at a place, whole or not at all.
use Rattle.std.specs.Prelude.{ℕ, ◌+◌, Bool, cond, List, ◌++◌, length, take, drop, leb}

-- they fit from the place on
abbrev pub fits : ℕ → List ℕ → List ℕ → Bool
fits at new old = leb (at + length new) (length old)

-- what stands there afterwards
abbrev pub put : ℕ → List ℕ → List ℕ → List ℕ
put at new old = cond (fits at new old) (take at old ++ new ++ drop (at + length new) old) old

-- the place after them; the same place where they do not fit
abbrev pub past : ℕ → List ℕ → List ℕ → ℕ
past at new old = cond (fits at new old) (at + length new) at
