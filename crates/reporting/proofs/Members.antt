-- In 128 places `members` never refuses, since two words hold at most 64 nodes each.
use Rattle.std.proofs.Common.{ℕ, zero, suc, ◌/◌, ◌%◌, ◌≤◌, ◌≡◌, ◌∙◌, Bool, true, false, cond, List, [], ◌∷◌, arith, length, length-append, eqb, Result, IsOk}
use borrow.Author.Tests.{le-ltb}
use Rattle.answers.specs.declared.Refusal.{Refusal}
use Rattle.answers.specs.Paper.{wrote_paper}
use Rattle.sides.specs.Bits.{rising, nodes_in, members_answer}
use Rattle.reporting.proofs.Answered.{never_refused}

picked_few : (t : Bool) (v d : ℕ) (l : List ℕ) → length l ≤ d → length (cond t (v ∷ l) l) ≤ suc d
picked_few true v d l few = omega arith
picked_few false v d l few = omega arith

rising_few : (d from x : ℕ) → length (rising d from x) ≤ d
unfolding rising
rising_few zero from x = omega arith
rising_few (suc d) from x = picked_few (eqb (x % 2) 1) from d (rising d (suc from) (x / 2)) (rising_few d (suc from) (x / 2))

pub nodes_few : (low high : ℕ) → length (nodes_in low high) ≤ 128
nodes_few low high = simp length-append (omega (arith, rising_few 64 0 low, rising_few 64 64 high))

pub members_fit : (low high : ℕ) (t : Result ℕ Refusal) → wrote_paper t ≡ members_answer low high 128 → IsOk t
members_fit low high t wrote =
    never_refused (λ m. m ∷ []) t (length (nodes_in low high) ∷ [])
    (wrote ∙ rw (le-ltb 128 (length (nodes_in low high)) (nodes_few low high)))
