-- Noting a division: the code's test is that of `better`, and the words of a side depend only on which nodes below n it holds.
-- Assumes nothing.
use mathlib.Core.Path.{◌≡◌, ap, ◌∙◌}
use mathlib.Core.Bool.{Bool, ◌&&◌}
use Rattle.std.specs.Prelude.{Option, Some, None}
use Prim.Native.Nat.{ℕ, ◌/◌, ◌%◌, ◌^◌, ◌≤◌, ◌<◌, min}
use native.Mathlib.Omega.{arith}
use lib.Dec.{eqb}
use borrow.Author.Tests.{lt-ltb, le-ltb}
use Rattle.meaning.specs.Sums.{on}
use Rattle.meaning.specs.Split.{Split as PaperSplit, size_of, better, word}
use Rattle.laws.specs.Sums.{sum_ext}
use Rattle.sides.specs.Bits.{Sided}
use Rattle.answers.specs.declared.Side.{Side}
use Rattle.answers.specs.declared.Split.{Split}
use Rattle.table.specs.Table.{mark}
use Rattle.least.specs.Rounds.{NotesYet, Notes}

-- ---- the better of two

pub better_yes : (now next : PaperSplit) → next.value < now.value → better now next ≡ next
better_yes now next h = rw (lt-ltb next.value now.value h)

pub better_no : (now next : PaperSplit) → now.value ≤ next.value → better now next ≡ now
better_no now next h = rw (le-ltb next.value now.value h)

-- ---- noting

module _ (n : ℕ) (S T : ℕ → Bool) (same : (v : ℕ) → v < n → S v ≡ T v) where
  word_ext : (i : ℕ) → word n S i ≡ word n T i
  unfolding word
  word_ext i =
      sum_ext n (λ v. on (S v && eqb (v / 64) i) (2 ^ (v % 64))) (λ v. on (T v && eqb (v / 64) i) (2 ^ (v % 64))) (λ v h. rw (same v h))

  size_ext : size_of n S ≡ size_of n T
  size_ext = sum_ext n (λ v. on (S v) 1) (λ v. on (T v) 1) (λ v h. rw (same v h))

-- a division by its value and the words of its side
pub noted_side : {n value : ℕ} {w : Side} (q : PaperSplit) (S : ℕ → Bool) → value ≡ q.value → n ≤ 128 → Sided n S w
    → ((v : ℕ) → v < n → S v ≡ q.side v) → Notes n q (record { value = value; side = w })
noted_side {n} {value} {w} q S is few made same =
    let all : min n 128 ≡ n = omega arith in
    record {
      value_is = is;
      low_is = made.low_word ∙ word_ext n S q.side same 0;
      high_is = made.high_word ∙ word_ext n S q.side same 1;
      size_is = made.right_size ∙ rw all (size_ext n S q.side same);
    }

module _ {n : ℕ} (p q : PaperSplit) {value : ℕ} (is : value ≡ q.value) where
  pub note_smaller : {w : Side} (S : ℕ → Bool) → n ≤ 128 → Sided n S w → ((v : ℕ) → v < n → S v ≡ q.side v) → value < p.value
      → Notes n (better p q) (record { value = value; side = w })
  note_smaller S few made same less = rw (better_yes p q (omega arith)) (noted_side q S is few made same)

  pub note_kept : {r : Split} → Notes n p r → r.value ≤ value → Notes n (better p q) r
  note_kept s more = rw (better_no p q (omega (arith, s.value_is))) s

-- the value that is noted, if any, is that of p
pub yet_some : (n : ℕ) (p : PaperSplit) {r : Option Split} {x : Split} → NotesYet n p r → r ≡ Some x → x.value ≡ p.value
yet_some n p notes is = (rw is at notes).value_is

pub yet_none : (n : ℕ) (p : PaperSplit) {r : Option Split} → NotesYet n p r → r ≡ None → p.value ≡ mark
yet_none n p notes is = ap (λ (d : PaperSplit). d.value) (rw is at notes)
