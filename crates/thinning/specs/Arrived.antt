-- What has arrived at a node when the scan stands somewhere, with any weights: the one quantity behind forest numbers and kept weights.
--
-- Why it is true: one visit adds one row's weight, and the last row from position p is followed by the first from p + 1 (`arrived_row`,
-- `arrived_node`). So weights that raise F of what arrived, row by row, add up to F of all that arrived (`arrived_raise`): with
-- F = min k these are the kept weights, with F = "c is among 1 to b" they count the rows that have a cable numbered c. Assumes nothing.
use Rattle.std.specs.Prelude.{ℕ, zero, suc, ◌+◌, ◌≤◌, ◌<◌, ◌≡◌, refl, Bool, false, ◌&&◌, List, take}
use Rattle.std.proofs.Math.Path.{sym}
use Rattle.std.proofs.Common.{◌∙◌}
use Rattle.std.proofs.Math.Bool.{true}
use Rattle.std.proofs.Math.Dec.{eqb, ltb}
use native.Mathlib.Omega.{arith}
use Rattle.std.proofs.Math.Nat.{add-zero}
use borrow.Author.Tests.{eqb-true, eqb-false, ne_eqb, lt-ltb, le-ltb, ltb-true, ltb-false}
use Rattle.meaning.specs.Sums.{sum, on, has}
use Rattle.meaning.specs.Links.{LinkList}
use Rattle.meaning.specs.Order.{back}
use Rattle.meaning.specs.Forest.{position, earlier, later, first}
use Rattle.laws.specs.Bools.{eqb_same, and_left, and_right}
use Rattle.laws.specs.Sums.{sum_ext, sum-zero, sum-add, sum_longer}
use Rattle.thinning.specs.Place.{by_test, Lists, has-take, position-le, eqb-position}
use Rattle.thinning.specs.Ends.{Proper, earlier_before, earlier_inside, reach-later}

-- row r leads to z from a position before p
abbrev from_before : LinkList → List ℕ → ℕ → ℕ → ℕ → Bool
from_before L o z p r = eqb (later L o r) z && ltb (position o (earlier L o r)) p

-- row r leads to z from position p
abbrev pub from_here : LinkList → List ℕ → ℕ → ℕ → ℕ → Bool
from_here L o z p r = eqb (later L o r) z && eqb (position o (earlier L o r)) p

-- with the weights f: what has arrived at z when the positions before p are scanned, and the first m rows from position p
unfoldable pub arrived : LinkList → List ℕ → (ℕ → ℕ) → ℕ → ℕ → ℕ → ℕ
arrived L o f z p m = sum L.rows (λ r. on (from_before L o z p r) (f r)) + sum m (λ r. on (from_here L o z p r) (f r))

-- what has arrived at the later end of row r when the scan comes to it
abbrev pub arrived_before : LinkList → List ℕ → ℕ → ℕ
arrived_before L o r = arrived L o L.w (later L o r) (position o (earlier L o r)) r

-- ---- the scan goes on

-- from before p + 1: from before p, or from p
on_before_suc : (q : Bool) (a p x : ℕ) → on (q && ltb a (suc p)) x ≡ on (q && ltb a p) x + on (q && eqb a p) x
on_before_suc false a p x = refl
on_before_suc true a p x =
    by_test (ltb a p)
    (λ e. rw (e, lt-ltb a (suc p) (omega (arith, ltb-true a p e)), ne_eqb a p (λ h. omega (arith, ltb-true a p e))) (omega arith))
    (λ e. by_test (eqb a p)
    (λ h. rw (e, h, lt-ltb a (suc p) (omega (arith, eqb-true a p h))) (omega arith))
    (λ h. rw (e, h, le-ltb a (suc p) (omega (arith, ltb-false a p e, eqb-false a p h))) (omega arith)))

on_before_zero : (q : Bool) (a x : ℕ) → on (q && ltb a 0) x ≡ 0
on_before_zero false a x = refl
on_before_zero true a x = rw (le-ltb a 0 (omega arith))

module _ (L : LinkList) (o : List ℕ) (f : ℕ → ℕ) (z : ℕ) where
  pub arrived_none : arrived L o f z 0 0 ≡ 0
  unfolding arrived sum
  arrived_none =
      add-zero _ ∙ sum-zero L.rows _ (λ r h. on_before_zero (eqb (later L o r) z) (position o (earlier L o r)) (f r))

  pub arrived_row : (p m : ℕ) → arrived L o f z p (suc m) ≡ arrived L o f z p m + on (from_here L o z p m) (f m)
  unfolding arrived sum
  arrived_row p m = omega arith

  pub arrived_node : (p : ℕ) → arrived L o f z (suc p) 0 ≡ arrived L o f z p L.rows
  unfolding arrived sum
  arrived_node p =
      add-zero _
      ∙ sum_ext L.rows _ _ (λ r h. on_before_suc (eqb (later L o r) z) (position o (earlier L o r)) p (f r))
      ∙ sum-add L.rows (λ r. on (from_before L o z p r) (f r)) (λ r. on (from_here L o z p r) (f r))

  pub arrived_grows : (p m : ℕ) → m ≤ L.rows → arrived L o f z p m ≤ arrived L o f z (suc p) 0
  unfolding arrived
  arrived_grows p m h = rw (arrived_node p) (omega (arith, sum_longer m L.rows (λ r. on (from_here L o z p r) (f r)) h))

-- a row is visited from its own earlier end
pub arrived-own : (L : LinkList) (o : List ℕ) (r : ℕ)
    → arrived L o L.w (later L o r) (position o (earlier L o r)) (suc r) ≡ arrived_before L o r + L.w r
arrived-own L o r =
    rw (arrived_row L o L.w (later L o r) (position o (earlier L o r)) r, eqb_same (later L o r), eqb_same (position o (earlier L o r)))

-- ---- weights that raise F of what arrived

module _ (L : LinkList) (o : List ℕ) (F g : ℕ → ℕ) (F-zero : F 0 ≡ 0)
    (F-row : (r : ℕ) → r < L.rows → F (arrived_before L o r) + g r ≡ F (arrived_before L o r + L.w r)) where
  rows_raise : (z p m : ℕ) → m ≤ L.rows → arrived L o g z p 0 ≡ F (arrived L o L.w z p 0)
      → arrived L o g z p m ≡ F (arrived L o L.w z p m)
  rows_raise z p zero h start = start
  rows_raise z p (suc m) h start =
      let to-z = eqb (later L o m) z in
      let from-p = eqb (position o (earlier L o m)) p in
      rw (arrived_row L o g z p m, arrived_row L o L.w z p m, rows_raise z p m (omega arith) start)
      (by_test (to-z && from-p)
      (λ e. rw
      (e, ← eqb-true (later L o m) z (and_left to-z from-p e), ← eqb-true (position o (earlier L o m)) p (and_right to-z from-p e))
      (F-row m (omega arith)))
      (λ e. simp (e, add-zero)))

  pub arrived_raise : (z p m : ℕ) → m ≤ L.rows → arrived L o g z p m ≡ F (arrived L o L.w z p m)
  arrived_raise z zero m h = rows_raise z zero m h (rw (arrived_none L o g z, arrived_none L o L.w z, F-zero))
  arrived_raise z (suc p) m h =
      rows_raise z (suc p) m h
      (rw (arrived_node L o g z p, arrived_node L o L.w z p) (arrived_raise z p L.rows (omega arith)))

-- ---- back counts and first numbers

module _ (L : LinkList) (o : List ℕ) (proper : Proper L) (lists : Lists o L.nodes) where
  pub back-arrived : (z p : ℕ) → p ≤ position o z → back L (has (take p o)) z ≡ arrived L o L.w z p 0
  unfolding back arrived sum
  back-arrived z p h =
      sum_ext L.rows _ _
      (λ r m.
      reach-later L o proper lists (has (take p o)) (λ t. ltb t p) z (L.w r) r m
      (λ x i. has-take o x p (omega (arith, position-le o z)))
      (λ t l. le-ltb t p (omega arith)))
      ∙ sym (add-zero _)

  pub first-arrived : (r : ℕ) → r < L.rows → first L o r ≡ suc (arrived_before L o r)
  unfolding first arrived sum
  first-arrived r h =
      let x = earlier L o r in
      let y = later L o r in
      let before : position o x < position o y = earlier_before L o proper lists r h in
      let listed : has o x ≡ true = lists.each x (earlier_inside L o proper lists r h) in
      omega (
        arith,
        back-arrived y (position o x) (omega arith),
        sum_ext r _ _
            (λ j m.
            reach-later L o proper lists (eqb x) (λ t. eqb t (position o x)) y (L.w j) j (omega arith)
            (λ v i. eqb-position o x v listed i)
            (λ t l. ne_eqb t (position o x) (λ e. omega arith))),
      )

  -- all that leads to z has arrived when the scan comes to z
  pub arrived-all : (f : ℕ → ℕ) (z : ℕ) → arrived L o f z (position o z) 0 ≡ sum L.rows (λ r. on (eqb (later L o r) z) (f r))
  unfolding arrived sum
  arrived-all f z =
      add-zero _
      ∙ sum_ext L.rows _ _
      (λ r h.
      by_test (eqb (later L o r) z)
      (λ e. rw (
        e,
        lt-ltb (position o (earlier L o r)) (position o z)
            (rw (← eqb-true (later L o r) z e) (earlier_before L o proper lists r h)),
      ))
      (λ e. rw e))
