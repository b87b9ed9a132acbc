-- The paper's answer for each case of an answer: what the promises of every call go through.
use Rattle.std.specs.Prelude.{ℕ, List, [], ◌∷◌, ◌++◌, Result, Ok, Err, ⊤, codes, decimal}
use Rattle.meaning.specs.Numbers.{Check, fine, bad, Answer, done, refused, file_size, wrong_mark, start_past, record_length, record_passes, record_kind, nodes_record, row_count, node_count, list_size, end_outside, ends_equal, no_weight, short_room, zero_k, one_node, none_below, over_sum}
use Rattle.answers.specs.declared.Refusal.{Refusal}
use Rattle.answers.specs.declared.Found.{Found}
use Rattle.answers.specs.declared.Split.{Split}
use Rattle.answers.specs.declared.Totals.{Totals}

-- the number of a refusal
abbrev pub number_of : Refusal → ℕ
number_of Refusal.FileSize = file_size
number_of Refusal.WrongMark = wrong_mark
number_of Refusal.StartPast = start_past
number_of (Refusal.RecordLength at) = record_length
number_of (Refusal.RecordPasses at) = record_passes
number_of (Refusal.RecordKind at) = record_kind
number_of (Refusal.NodesRecord at) = nodes_record
number_of Refusal.RowCount = row_count
number_of Refusal.NodeCount = node_count
number_of Refusal.ListSize = list_size
number_of (Refusal.EndOutside row) = end_outside
number_of (Refusal.EndsEqual row) = ends_equal
number_of (Refusal.NoWeight row) = no_weight
number_of Refusal.ShortRoom = short_room
number_of Refusal.ZeroK = zero_k
number_of Refusal.OneNode = one_node
number_of Refusal.NoneBelow = none_below
number_of Refusal.OverSum = over_sum

-- its place
abbrev pub place_of : Refusal → ℕ
place_of Refusal.FileSize = 0
place_of Refusal.WrongMark = 0
place_of Refusal.StartPast = 0
place_of (Refusal.RecordLength at) = at
place_of (Refusal.RecordPasses at) = at
place_of (Refusal.RecordKind at) = at
place_of (Refusal.NodesRecord at) = at
place_of Refusal.RowCount = 0
place_of Refusal.NodeCount = 0
place_of Refusal.ListSize = 0
place_of (Refusal.EndOutside row) = row
place_of (Refusal.EndsEqual row) = row
place_of (Refusal.NoWeight row) = row
place_of Refusal.ShortRoom = 0
place_of Refusal.ZeroK = 0
place_of Refusal.OneNode = 0
place_of Refusal.NoneBelow = 0
place_of Refusal.OverSum = 0

-- how it prints: the two in decimal
abbrev pub refusal_text : Refusal → List ℕ
refusal_text e = decimal (number_of e) ++ codes " at " ++ decimal (place_of e)

-- a check's finding
abbrev pub told_check : {A : Type 0} → Result A Refusal → Check
told_check (Ok x) = fine
told_check (Err e) = bad (number_of e) (place_of e)

-- an answer with these fields
abbrev pub paper : {A : Type 0} → (A → List ℕ) → Result A Refusal → Answer
paper fields (Ok x) = done (fields x)
paper fields (Err e) = refused (number_of e) (place_of e)

-- each call's: nothing to count; a number of bytes or of rows; what the reader found; a split; a summary
abbrev pub told_paper : Result ⊤ Refusal → Answer
told_paper = paper (λ _. [])

abbrev pub wrote_paper : Result ℕ Refusal → Answer
wrote_paper = paper (λ m. m ∷ [])

abbrev pub found_fields : Found → List ℕ
found_fields f = f.n ∷ f.rows ∷ []

abbrev pub found_paper : Result Found Refusal → Answer
found_paper = paper found_fields

abbrev pub parted_fields : Split → List ℕ
parted_fields p = p.value ∷ p.side.low ∷ p.side.high ∷ p.side.size ∷ []

abbrev pub parted_paper : Result Split Refusal → Answer
parted_paper = paper parted_fields

abbrev pub totals_fields : Totals → List ℕ
totals_fields t = t.n ∷ t.rows ∷ t.links ∷ t.pairs ∷ []

abbrev pub totals_paper : Result Totals Refusal → Answer
totals_paper = paper totals_fields
