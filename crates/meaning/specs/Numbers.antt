-- "Numbers a call may answer": the table, and what a check and a call answer in terms of it.
-- Each number has its name here and nowhere else. The order in which a call's checks are made is in `Links.antt` (a list's),
-- `File.antt` (a file's) and `Calls.antt` (each call's), always by `◌⟫◌`.
use Rattle.std.specs.Prelude.{ℕ, Bool, true, false, List, get_or}
use Rattle.meaning.specs.Sums.{laid}

-- the table, by name
abbrev pub file_size : ℕ
file_size = 1

abbrev pub wrong_mark : ℕ
wrong_mark = 2

abbrev pub start_past : ℕ
start_past = 3

abbrev pub record_length : ℕ
record_length = 4

abbrev pub record_passes : ℕ
record_passes = 5

abbrev pub record_kind : ℕ
record_kind = 6

abbrev pub nodes_record : ℕ
nodes_record = 7

abbrev pub row_count : ℕ
row_count = 8

abbrev pub node_count : ℕ
node_count = 9

abbrev pub list_size : ℕ
list_size = 10

abbrev pub end_outside : ℕ
end_outside = 11

abbrev pub ends_equal : ℕ
ends_equal = 12

abbrev pub no_weight : ℕ
no_weight = 13

abbrev pub short_room : ℕ
short_room = 14

abbrev pub zero_k : ℕ
zero_k = 15

abbrev pub one_node : ℕ
one_node = 16

abbrev pub none_below : ℕ
none_below = 17

abbrev pub over_sum : ℕ
over_sum = 18

-- a check finds nothing, or a number with its place
pub data Check : Type 0 where
  fine : Check
  bad : ℕ → ℕ → Check

-- the number at the place where the test holds
abbrev pub when : Bool → ℕ → ℕ → Check
when true num at = bad num at
when false num at = fine

-- one check after the other: the first that finds something decides
infixr 20 ◌⟫◌
abbrev pub ◌⟫◌ : Check → Check → Check
fine ⟫ d = d
bad num at ⟫ d = bad num at

-- what a call answers: number 0 with its fields in the document's order, or a number with its place
pub data Answer : Type 0 where
  done : List ℕ → Answer
  refused : ℕ → ℕ → Answer

-- the paper's number of an answer
abbrev pub number : Answer → ℕ
number (done fields) = 0
number (refused num at) = num

-- its place
abbrev pub place : Answer → ℕ
place (done fields) = 0
place (refused num at) = at

-- its field i, from 0: zero in every field of a refusal
abbrev pub field : Answer → ℕ → ℕ
field (done fields) i = get_or fields i 0
field (refused num at) i = 0

-- the answer of a call whose checks found this, and whose fields are these
abbrev pub answered : Check → List ℕ → Answer
answered fine fields = done fields
answered (bad num at) fields = refused num at

-- what a lent list holds afterwards: the new contents at its front, or all that it held where the call refuses
abbrev pub after : Check → List ℕ → List ℕ → List ℕ
after fine new old = laid new old
after (bad num at) new old = old
