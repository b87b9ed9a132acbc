-- The filling pass: what it needs of the run and of the lent lists, and, record by record, what is stored of a kind 2 record.
use Rattle.std.specs.Prelude.{ℕ, ◌≡◌, ◌+◌, ◌≤◌, ◌<◌, cond, List, length, get_or, set, eqb}
use Rattle.meaning.specs.File.{get16, Run, ran, found_in}

-- a run ran, and each lent list has a place for each of its rows
pub record Fits (r : Run) (ra rb rw : ℕ) : Type 0 where
  pub ran_it : r ≡ ran (found_in r)
  pub room_a : length (found_in r).rows ≤ ra
  pub room_b : length (found_in r).rows ≤ rb
  pub room_w : length (found_in r).rows ≤ rw

-- a kind 2 record at an offset is within the file, and each list has a place i
pub record LaysRow (s : List ℕ) (at i : ℕ) (a b w : List ℕ) : Type 0 where
  pub within : at + 7 < length s
  pub in_a : i < length a
  pub in_b : i < length b
  pub in_w : i < length w

-- a list where a kind 2 record's number, so many bytes after its start, was stored at i; other records store nothing
abbrev pub laid_at : List ℕ → ℕ → ℕ → ℕ → List ℕ → List ℕ
laid_at s at past i l = cond (eqb (get_or s (at + 1) 0) 2) (set l i (get16 s (at + past))) l
