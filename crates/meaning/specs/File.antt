-- "The file": the trailer, records and kinds, what reading any bytes finds, and the bytes that the writer makes.
use Rattle.std.specs.Prelude.{ℕ, zero, suc, ◌+◌, ◌-◌, ◌*◌, ◌/◌, ◌%◌, Bool, true, false, not, ◌&&◌, ◌||◌, cond, List, [], ◌∷◌, ◌++◌, map, length, get_or, eqb, ltb, leb}
use Rattle.meaning.specs.Numbers.{Check, bad, when, ◌⟫◌, file_size, wrong_mark, start_past, record_length, record_passes, record_kind, nodes_record, row_count}
use Rattle.meaning.specs.Links.{Given, given, LinkList, list_check}

-- ---- numbers in a file: little-endian

abbrev pub get16 : List ℕ → ℕ → ℕ
get16 s at = get_or s at 0 + 256 * get_or s (at + 1) 0

abbrev pub get32 : List ℕ → ℕ → ℕ
get32 s at = get16 s at + 65536 * get16 s (at + 2)

abbrev pub bytes16 : ℕ → List ℕ
bytes16 x = (x % 256) ∷ (x / 256 % 256) ∷ []

-- ---- the trailer: the last 8 bytes

abbrev pub trailer_at : List ℕ → ℕ
trailer_at s = length s - 8

abbrev pub start_of : List ℕ → ℕ
start_of s = get32 s (trailer_at s)

abbrev pub count_of : List ℕ → ℕ
count_of s = get16 s (trailer_at s + 4)

-- ---- one record

pub record Row : Type 0 where
  pub a : ℕ
  pub b : ℕ
  pub w : ℕ

-- what a record is, with the offset after it
pub data Item : Type 0 where
  broken : ℕ → ℕ → Item
  nodes_item : ℕ → ℕ → Item
  row_item : Row → ℕ → Item
  skipped : ℕ → Item

-- the record at an offset before the end, by its kind, where its length byte is good and it stays within the end; `seen`: a kind 1 came before
abbrev pub kind_at : List ℕ → ℕ → Bool → Item
kind_at s at seen =
    let len = get_or s at 0 in
    let kind = get_or s (at + 1) 0 in
    cond (leb 128 kind) (skipped (at + len))
    (cond (eqb kind 1)
    (cond (eqb len 4) (cond seen (broken nodes_record at) (nodes_item (get16 s (at + 2)) (at + len))) (broken record_kind at))
    (cond (eqb kind 2)
    (cond (eqb len 8)
    (cond seen (row_item (record { a = get16 s (at + 2); b = get16 s (at + 4); w = get16 s (at + 6) }) (at + len)) (broken nodes_record at))
    (broken record_kind at))
    (broken record_kind at)))

-- the record at an offset before the end: 4, 5, then its kind
unfoldable pub item_at : List ℕ → ℕ → ℕ → Bool → Item
item_at s end at seen =
    cond (ltb (get_or s at 0) 2) (broken record_length at)
    (cond (ltb end (at + get_or s at 0)) (broken record_passes at)
    (kind_at s at seen))

-- ---- a run of records

-- what the records read so far hold: whether a kind 1 came, its n, and the rows in order
pub record Found : Type 0 where
  pub seen : Bool
  pub n : ℕ
  pub rows : List Row

-- a run ends with what it found, or at the first record that is wrong
pub data Run : Type 0 where
  ran : Found → Run
  stopped : ℕ → ℕ → Run

-- one record is taken in, and the run goes on after it
abbrev pub follow : Item → Found → (ℕ → Found → Run) → Run
follow (broken num at) f go = stopped num at
follow (nodes_item n to) f go = go to (record { seen = true; n = n; rows = f.rows })
follow (row_item r to) f go = go to (record { seen = f.seen; n = f.n; rows = f.rows ++ (r ∷ []) })
follow (skipped to) f go = go to f

-- the run of records from an offset to the end; each takes two bytes or more, so that end - at turns are enough
unfoldable pub run_from : ℕ → List ℕ → ℕ → ℕ → Found → Run
run_from zero s end at f = ran f
run_from (suc turns) s end at f =
    cond (ltb at end) (follow (item_at s end at f.seen) f (λ to g. run_from turns s end to g)) (ran f)

-- nothing read yet
abbrev pub nothing : Found
nothing = record { seen = false; n = 0; rows = [] }

-- the records of a file
unfoldable pub run_of : List ℕ → Run
run_of s = run_from (trailer_at s) s (trailer_at s) (start_of s) nothing

-- ---- the whole file

-- the list that the records hold
abbrev pub rows_given : Found → Given
rows_given f = given f.n (map (λ r. r.a) f.rows) (map (λ r. r.b) f.rows) (map (λ r. r.w) f.rows)

-- a lent list of so many places has no place for each row
abbrev pub no_room : Found → ℕ → Bool
no_room f room = ltb room (length f.rows)

-- what the records are checked for: a wrong one, a missing kind 1, 8, then the list's own checks, with the lengths of the three lent lists
abbrev pub run_check : List ℕ → Run → ℕ → ℕ → ℕ → Check
run_check s (stopped num at) ra rb rw = bad num at
run_check s (ran f) ra rb rw =
    when (not f.seen) nodes_record (trailer_at s)
    ⟫ when (not (eqb (count_of s) (length f.rows))) row_count 0
    ⟫ list_check (rows_given f) (no_room f ra || no_room f rb || no_room f rw)

-- a file's checks in the document's order: 1, 2, 3, the records, and the rest
unfoldable pub file_check : List ℕ → ℕ → ℕ → ℕ → Check
file_check s ra rb rw =
    when (ltb (length s) 8 || ltb 32768 (length s)) file_size 0
    ⟫ when (not (eqb (get_or s (trailer_at s + 6) 0) 0x4C && eqb (get_or s (trailer_at s + 7) 0) 0x54)) wrong_mark 0
    ⟫ when (ltb (trailer_at s) (start_of s)) start_past 0
    ⟫ run_check s (run_of s) ra rb rw

-- what a run found; nothing where it stopped
abbrev pub found_in : Run → Found
found_in (ran f) = f
found_in (stopped num at) = nothing

-- the list that a file holds, where its checks find nothing
abbrev pub list_in : List ℕ → Given
list_in s = rows_given (found_in (run_of s))

-- ---- the writer

abbrev pub row_bytes : LinkList → ℕ → List ℕ
row_bytes L r = 8 ∷ 2 ∷ (bytes16 (L.a r) ++ (bytes16 (L.b r) ++ bytes16 (L.w r)))

-- the records of the first m rows
unfoldable pub rows_bytes : LinkList → ℕ → List ℕ
rows_bytes L zero = []
rows_bytes L (suc r) = rows_bytes L r ++ row_bytes L r

abbrev pub trailer_bytes : ℕ → List ℕ
trailer_bytes rows = 0 ∷ 0 ∷ 0 ∷ 0 ∷ (bytes16 rows ++ (0x4C ∷ 0x54 ∷ []))

-- the file of a list: start 0, the kind 1 record, the rows in order, the trailer
unfoldable pub file_of : LinkList → List ℕ
file_of L = 4 ∷ 1 ∷ (bytes16 L.nodes ++ (rows_bytes L L.rows ++ trailer_bytes L.rows))

-- its size in bytes
abbrev pub file_bytes : ℕ → ℕ
file_bytes rows = 12 + 8 * rows
