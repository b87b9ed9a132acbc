-- The reader's own types on paper: what a record, the running state and a run of the code stand for in `File.antt` of `meaning`.
-- `tally_of` is what the state holds of the records so far, and the other definitions follow it from record to record.
use Rattle.std.specs.Prelude.{ℕ, ◌+◌, ◌*◌, ◌≤◌, Bool, false, not, cond, List, length, eqb, Option, Some, None, Result, Ok, Err}
use Rattle.meaning.specs.Numbers.{Check, bad, when, ◌⟫◌, nodes_record, row_count}
use Rattle.meaning.specs.Links.{list_of, links, rows_check}
use Rattle.meaning.specs.File as File
use Rattle.meaning.specs.File.{get16, broken, nodes_item, row_item, skipped, Found, ran, stopped, rows_given}
use Rattle.lists.specs.declared.Row.{Row}
use Rattle.lists.specs.Parts.{size_check, row_numbers, sum_check}
use Rattle.answers.specs.declared.Refusal.{Refusal}
use Rattle.answers.specs.Paper.{number_of, place_of, told_check}
use Rattle.read.specs.declared.Item.{Item}
use Rattle.read.specs.declared.Scan.{Scan}

-- ---- one record

-- the row of the record at an offset
abbrev pub row_read : List ℕ → ℕ → Row
row_read s at = record { a = get16 s (at + 2); b = get16 s (at + 4); w = get16 s (at + 6) }

abbrev pub item_paper : Item → ℕ → File.Item
item_paper (Item.Nodes n) to = nodes_item n to
item_paper (Item.Row r) to = row_item (record { a = r.a; b = r.b; w = r.w }) to
item_paper Item.Skipped to = skipped to

-- a record as it is read, with the offset after it
abbrev pub record_paper : Result (Item × ℕ) Refusal → File.Item
record_paper (Ok p) = item_paper p.0 p.1
record_paper (Err e) = broken (number_of e) (place_of e)

-- the same where it stands; `seen`: a kind 1 came before
abbrev pub placed : Bool → ℕ → File.Item → File.Item
placed seen at (broken num place) = broken num place
placed seen at (nodes_item n to) = cond seen (broken nodes_record at) (nodes_item n to)
placed seen at (row_item r to) = cond seen (row_item r to) (broken nodes_record at)
placed seen at (skipped to) = skipped to

-- ---- the running state

-- what the state holds: n, where a kind 1 came, the number of rows, the sum of their weights, and their checks
pub record Tally : Type 0 where
  pub nodes : Option ℕ
  pub rows : ℕ
  pub sum : ℕ
  pub bad : Check

abbrev pub tally : Scan → Tally
tally c = record { nodes = c.nodes; rows = c.rows; sum = c.sum; bad = told_check c.bad }

-- the same of the records so far
abbrev pub tally_of : Found → Tally
tally_of f =
    record {
      nodes = cond f.seen (Some f.n) None;
      rows = length f.rows;
      sum = links (list_of (rows_given f));
      bad = rows_check (list_of (rows_given f)) (length f.rows);
    }

abbrev pub with_nodes : Tally → ℕ → Tally
with_nodes t n = record { nodes = Some n; rows = t.rows; sum = t.sum; bad = t.bad }

abbrev pub with_row : Tally → ℕ → Row → Tally
with_row t n r =
    record { nodes = t.nodes; rows = t.rows + 1; sum = t.sum + r.w; bad = t.bad ⟫ row_numbers n t.rows r.a r.b r.w }

-- a step's or a run's result, with what it holds where it is fine
abbrev pub held : {A : Type 0} → (A → Tally) → Result A Refusal → Result Tally Check
held f (Ok x) = Ok (f x)
held f (Err e) = Err (bad (number_of e) (place_of e))

-- one record is taken in, where it is in its place
abbrev pub taken : Item → ℕ → Option ℕ → Tally → Result Tally Check
taken (Item.Nodes n) at None t = Ok (with_nodes t n)
taken (Item.Nodes n) at (Some m) t = Err (bad nodes_record at)
taken (Item.Row r) at None t = Err (bad nodes_record at)
taken (Item.Row r) at (Some n) t = Ok (with_row t n r)
taken Item.Skipped at nodes t = Ok t

-- at an offset, the rows and their weights are few enough that no count overflows
pub record Light (at : ℕ) (c : Scan) : Type 0 where
  pub few : c.rows ≤ at
  pub low : c.sum ≤ 65535 * at

-- a run as the code holds it
abbrev pub judged : File.Run → Result Tally Check
judged (ran f) = Ok (tally_of f)
judged (stopped num at) = Err (bad num at)

-- what is left to check at the end of a run
abbrev pub left_check : Option ℕ → Tally → ℕ → ℕ → Bool → Check
left_check None t end count short = bad nodes_record end
left_check (Some n) t end count short =
    when (not (eqb count t.rows)) row_count 0 ⟫ size_check n t.rows false short ⟫ t.bad ⟫ sum_check t.sum
