-- A text that grows: a part is added at its end.
use Rattle.std.specs.Prelude.{ℕ, ◌+◌, ◌≤◌, ◌≡◌, List, ◌++◌, length}

-- where a text of at most 1,024 bytes has room for the part, `new` is `old` and then the part
abbrev pub Adds : List ℕ → List ℕ → List ℕ → Type 0
Adds old new part = length old + length part ≤ 1024 → new ≡ old ++ part
