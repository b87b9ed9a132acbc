-- The digits of a number, written from the end: while 10 or more is left, its last digit is put before those written, and the number's
-- decimal stays the rest's decimal with the digits written after it.
use Prim.Native.Nat.{ℕ, zero, suc, ◌+◌, ◌-◌, ◌/◌, ◌%◌, ◌^◌, ◌≤◌, ◌<◌}
use mathlib.Core.Path.{◌≡◌, refl, sym, ap, ◌∙◌}
use mathlib.Core.List.{List, [], ◌∷◌, ◌++◌, append_assoc, append-nil}
use mathlib.Core.Logic.{⊎_elim}
use native.Mathlib.Nat.{pow-succ'}
use native.Mathlib.Omega.{arith}
use borrow.Author.Tests.{lt-ltb, le-ltb}
use lib.ListN.{length, length-append, take, drop, set, length-set, length-drop, drop_of_length-le}
use lib.Seq.{take_all, drop-cons, drop-set-lt, get_or-set_same}
use Rattle.laws.specs.Bools.{cases_lt}
use Rattle.meaning.specs.Report.{digits, decimal, spaced}

-- one digit
pub digits_last : (d x : ℕ) → x < 10 → digits d x ≡ (48 + x) ∷ []
unfolding digits
digits_last zero x small = ap (λ (r : ℕ). (48 + r) ∷ []) (omega arith)
digits_last (suc d) x small = rw (lt-ltb x 10 small)

-- the digits before the last, and the last
pub digits_more : (d x : ℕ) → 10 ≤ x → digits (suc d) x ≡ digits d (x / 10) ++ ((48 + x % 10) ∷ [])
unfolding digits
digits_more d x large = rw (le-ltb x 10 large)

-- a byte put just before the place where the written ones start
drop_before : (l : List ℕ) (from v : ℕ) → 1 ≤ from → from ≤ length l → drop (from - 1) (set l (from - 1) v) ≡ v ∷ drop from l
drop_before l from v some within =
    let i = from - 1 in
    let below : i < length l = omega arith in
    let up : suc i ≡ from = omega arith in
    drop-cons (set l i v) i 0 (simp length-set below)
    ∙ rw (get_or-set_same l i v 0 below, drop-set-lt (suc i) l i v (omega arith), up)

-- the digits of x are those of `rest`, for which there is room, and then those that stand from `from` on
pub record Written (x : ℕ) (space : List ℕ) (rest from : ℕ) : Type 0 where
  pub d : ℕ
  pub start : from ≡ suc (suc d)
  pub small : rest < 10 ^ suc d
  pub whole : length space ≡ 21
  pub within : from ≤ 21
  pub same : decimal x ≡ digits d rest ++ drop from space

pub begins : (x : ℕ) (space : List ℕ) → x < 2 ^ 64 → length space ≡ 21 → Written x space x 21
begins x space fits whole =
    record {
      d = 19;
      start = refl;
      small = omega arith;
      whole = whole;
      within = omega arith;
      same = sym (ap (λ (l : List ℕ). decimal x ++ l) (drop_of_length-le space {i = 21} (omega arith)) ∙ append-nil (decimal x));
    }

more : (x : ℕ) (space : List ℕ) (rest from d : ℕ) → from ≡ suc (suc d) → rest < 10 ^ suc d → length space ≡ 21
    → from ≤ 21 → decimal x ≡ digits d rest ++ drop from space → 10 ≤ rest
    → Written x (set space (from - 1) (48 + rest % 10)) (rest / 10) (from - 1)
more x space rest from zero start small whole within same large = absurd (omega arith)
more x space rest from (suc d) start small whole within same large =
    record {
      d = d;
      start = omega arith;
      small = omega (arith, pow-succ' 10 (suc d));
      whole = simp length-set whole;
      within = omega arith;
      same =
          same
          ∙ ap (λ (l : List ℕ). l ++ drop from space) (digits_more d rest large)
          ∙ append_assoc (digits d (rest / 10)) ((48 + rest % 10) ∷ []) (drop from space)
          ∙ ap (λ (l : List ℕ). digits d (rest / 10) ++ l) (sym (drop_before space from (48 + rest % 10) (omega arith) (omega arith)));
    }

pub next : {x : ℕ} {space : List ℕ} {rest from : ℕ} → Written x space rest from → 10 ≤ rest →
    Written x (set space (from - 1) (48 + rest % 10)) (rest / 10) (from - 1)
next {x} {space} {rest} {from} w large = more x space rest from w.d w.start w.small w.whole w.within w.same large

pub ends : {x : ℕ} {space : List ℕ} {rest from : ℕ} → Written x space rest from → rest < 10 →
    drop (from - 1) (set space (from - 1) (48 + rest)) ≡ decimal x
ends {x} {space} {rest} {from} w small =
    drop_before space from (48 + rest) (omega arith) (omega arith)
    ∙ sym (w.same ∙ ap (λ (l : List ℕ). l ++ drop from space) (digits_last w.d rest small))

-- with a space before them they are the number after a space
pub spaced_one : (x : ℕ) (space : List ℕ) (from : ℕ) → length space ≡ 21 → 1 ≤ from → from ≤ 20 → drop from space ≡ decimal x
    → take (21 - (from - 1)) (drop (from - 1) (set space (from - 1) 32)) ≡ spaced (x ∷ [])
unfolding spaced
spaced_one x space from whole some within same =
    take_all (21 - (from - 1)) (drop (from - 1) (set space (from - 1) 32)) (simp (length-drop, length-set) (omega arith))
    ∙ drop_before space from 32 some (omega arith)
    ∙ ap (λ (l : List ℕ). 32 ∷ l) (same ∙ sym (append-nil (decimal x)))

-- a number below 10 ^ k has at most k digits; the step takes the fact for fewer digits
more_digits : (d k x : ℕ) → ((j y : ℕ) → y < 10 ^ suc j → length (digits d y) ≤ suc j) → x < 10 ^ suc k → 10 ≤ x
    → length (digits (suc d) x) ≤ suc k
more_digits d zero x fewer small large = absurd (omega arith)
more_digits d (suc k) x fewer small large =
    rw (digits_more d x large)
    (simp length-append (omega (arith, fewer k (x / 10) (omega (arith, pow-succ' 10 (suc k))))))

digits_one : (k x : ℕ) → length (digits zero x) ≤ suc k
unfolding digits
digits_one k x = omega arith

pub few_digits : (d k x : ℕ) → x < 10 ^ suc k → length (digits d x) ≤ suc k
few_digits zero k x small = digits_one k x
few_digits (suc d) k x small =
    ⊎_elim (λ less. rw (digits_last (suc d) x less) (omega arith)) (λ large. more_digits d k x (few_digits d) small large) (cases_lt x 10)
