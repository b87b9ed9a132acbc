-- The records of a file as the code holds them: the bytes before the trailer, and what the trailer says.
use Rattle.std.specs.Prelude.{ℕ, ◌≡◌, ◌+◌, not, ◌&&◌, ◌||◌, List, length, get_or, take, eqb, ltb}
use Rattle.meaning.specs.Numbers.{Check, when, ◌⟫◌, file_size, wrong_mark, start_past}
use Rattle.meaning.specs.File.{Run, trailer_at, start_of, count_of, run_from, nothing}
use Rattle.read.specs.declared.Records.{Records}

-- 1, 2 and 3
abbrev pub frame_check : List ℕ → Check
frame_check s =
    when (ltb (length s) 8 || ltb 32768 (length s)) file_size 0
    ⟫ when (not (eqb (get_or s (trailer_at s + 6) 0) 0x4C && eqb (get_or s (trailer_at s + 7) 0) 0x54)) wrong_mark 0
    ⟫ when (ltb (trailer_at s) (start_of s)) start_past 0

-- the trailer cut off
pub record Cut (s : List ℕ) (r : Records) : Type 0 where
  pub bytes : r.bytes.now ≡ take (trailer_at s) s
  pub start : r.start ≡ start_of s
  pub count : r.count ≡ count_of s

-- the run of these records
abbrev pub run_in : Records → Run
run_in r = run_from (length r.bytes.now) r.bytes.now (length r.bytes.now) r.start nothing
