-- What the functions between the table and the two calls promise: folding two groups of the table into one, what a round finds, and the
-- division noted so far. Groups are those of `meaning` and `method`: g gives each node the number of its group.
use Rattle.std.specs.Prelude.{ℕ, suc, ◌+◌, ◌≤◌, ◌<◌, ◌≡◌, false, List, Option, Some, None, length, get_or, eqb}
use Rattle.meaning.specs.Sums.{on}
use Rattle.meaning.specs.Links.{LinkList, Accepted}
use Rattle.meaning.specs.Order.{all}
use Rattle.meaning.specs.Split.{Split as PaperSplit, cut, renamed, group, merged, noted, better, word, size_of}
use Rattle.laws.specs.Rounds.{moved}
use Rattle.method.specs.Least.{Groups, last_of, before_of}
use Rattle.table.specs.Table.{cell_at, Holds, mark}
use Rattle.least.specs.declared.Last.{Last}
use Rattle.answers.specs.declared.Split.{Split}

-- ---- labels

-- the scores of the first n nodes: a live group's number has the mark
pub record Opened (n : ℕ) (label score score' : List ℕ) : Type 0 where
  pub size : length score' ≡ length score
  pub marks : (v : ℕ) → v < n → get_or score' v 0 ≡ on (eqb (get_or label v 0) v) mark

-- the first n labels moved
pub record Relabelled (n keep gone : ℕ) (label label' : List ℕ) : Type 0 where
  pub size : length label' ≡ length label
  pub moves : (v : ℕ) → v < n → get_or label' v 0 ≡ moved keep gone (get_or label v 0)

-- ---- the table

-- no two cells add up to 2 ^ 32
abbrev pub Light : List ℕ → Type 0
Light m = (p q : ℕ) → p < 128 → q < 128 → cell_at m p q < 2147483648

-- in the first c columns, row `gone` was added to row `keep` and cleared
pub record RowFolded (keep gone c : ℕ) (m m' : List ℕ) : Type 0 where
  pub size : length m' ≡ length m
  pub added : (q : ℕ) → q < c → cell_at m' keep q ≡ cell_at m keep q + cell_at m gone q
  pub cleared : (q : ℕ) → q < c → cell_at m' gone q ≡ 0
  pub other_rows : (p q : ℕ) → p < 128 → q < 128 → (p ≡ keep → ⊥) → (p ≡ gone → ⊥) → cell_at m' p q ≡ cell_at m p q
  pub other_columns : (p q : ℕ) → p < 128 → q < 128 → c ≤ q → cell_at m' p q ≡ cell_at m p q

-- in the first r rows, column `keep` was copied from row `keep`, and column `gone` cleared
pub record ColumnFolded (keep gone r : ℕ) (m m' : List ℕ) : Type 0 where
  pub size : length m' ≡ length m
  pub copied : (p : ℕ) → p < r → cell_at m' p keep ≡ cell_at m keep p
  pub cleared : (p : ℕ) → p < r → cell_at m' p gone ≡ 0
  pub other_columns : (p q : ℕ) → p < 128 → q < 128 → (q ≡ keep → ⊥) → (q ≡ gone → ⊥) → cell_at m' p q ≡ cell_at m p q
  pub other_rows : (p q : ℕ) → p < 128 → q < 128 → r ≤ p → cell_at m' p q ≡ cell_at m p q

-- the groups `keep` and `gone` became one, numbered `keep`
pub record Folded (keep gone : ℕ) (m m' : List ℕ) : Type 0 where
  pub size : length m' ≡ length m
  pub row : (q : ℕ) → q < 128 → (q ≡ keep → ⊥) → (q ≡ gone → ⊥) → cell_at m' keep q ≡ cell_at m keep q + cell_at m gone q
  pub column : (p : ℕ) → p < 128 → (p ≡ keep → ⊥) → (p ≡ gone → ⊥) → cell_at m' p keep ≡ cell_at m keep p + cell_at m gone p
  pub inner : cell_at m' keep keep ≡ 0
  pub gone_row : (q : ℕ) → q < 128 → cell_at m' gone q ≡ 0
  pub gone_column : (p : ℕ) → p < 128 → cell_at m' p gone ≡ 0
  pub rest : (p q : ℕ) → p < 128 → q < 128 → (p ≡ keep → ⊥) → (p ≡ gone → ⊥) → (q ≡ keep → ⊥) → (q ≡ gone → ⊥)
      → cell_at m' p q ≡ cell_at m p q

-- ---- rounds

-- the table and the labels are those of the groups of g in L, `count` of them
pub record Grouped (L : LinkList) (g : ℕ → ℕ) (n count : ℕ) (m label : List ℕ) : Type 0 where
  pub accepted : Accepted L
  pub nodes : L.nodes ≡ n
  pub groups : Groups n all count g
  pub table : Holds (renamed g L) m
  pub places : length label ≡ 128
  pub labels : (v : ℕ) → v < n → get_or label v 0 ≡ g v

-- the end of a round's order with j + 2 groups
pub record Ended (L : LinkList) (s : ℕ) (g : ℕ → ℕ) (j : ℕ) (r : Last) : Type 0 where
  pub last_is : r.last ≡ last_of L s g j
  pub before_is : r.before ≡ before_of L s g j
  pub value_is : r.value ≡ cut L (group g (last_of L s g j))

-- r is the division p of n nodes, by its value, its side's words and its size
pub record Notes (n : ℕ) (p : PaperSplit) (r : Split) : Type 0 where
  pub value_is : r.value ≡ p.value
  pub low_is : r.side.low ≡ word n p.side 0
  pub high_is : r.side.high ≡ word n p.side 1
  pub size_is : r.side.size ≡ size_of n p.side

-- before the first round nothing is noted, which counts as a value above all, of an empty side
abbrev pub above : PaperSplit
above = record { value = mark; side = λ v. false }

abbrev pub NotesYet : ℕ → PaperSplit → Option Split → Type 0
NotesYet n p None = p ≡ above
NotesYet n p (Some r) = Notes n p r

-- what a round with j + 2 groups leaves: one group less, and the better division noted
pub record After (L : LinkList) (s : ℕ) (g : ℕ → ℕ) (j n : ℕ) (p : PaperSplit) (m label : List ℕ) (r : Split) : Type 0 where
  pub grouped : Grouped L (merged g (before_of L s g j) (last_of L s g j)) n (suc j) m label
  pub notes : Notes n (better p (noted L g (last_of L s g j))) r
