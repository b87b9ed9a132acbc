-- The rows along an order: which end comes first, and the rows that join a node with the nodes before it.
--
-- Why it is true: the two ends of a row are two listed nodes, so they stand at two positions. A row that joins z with nodes placed before z
-- can have only its later end at z. Each is a case analysis on which end comes first. Assumes nothing.
use Rattle.std.specs.Prelude.{ℕ, ◌≤◌, ◌<◌, ◌≡◌, Bool, true, false, ◌&&◌, List, eqb}
use Rattle.std.proofs.Common.{arith, eqb-true, ltb-true, ltb-false}
use Rattle.std.proofs.lemmas.Bool.{eqb-false}
use Rattle.meaning.specs.Sums.{on, has, differ}
use Rattle.meaning.specs.Links.{LinkList, Accepted}
use Rattle.meaning.specs.Order.{reach}
use Rattle.meaning.specs.Forest.{position, a_first, earlier, later}
use Rattle.laws.specs.Bools.{differ_sym}
use Rattle.thinning.specs.Place.{by_test, Lists, position_inj}

-- the ends of each row are nodes of the list, and differ
pub record Proper (L : LinkList) : Type 0 where
  pub a_inside : (r : ℕ) → r < L.rows → L.a r < L.nodes
  pub b_inside : (r : ℕ) → r < L.rows → L.b r < L.nodes
  pub apart : (r : ℕ) → r < L.rows → L.a r ≡ L.b r → ⊥

pub accepted_proper : (L : LinkList) → Accepted L → Proper L
accepted_proper L h = record { a_inside = h.a_inside; b_inside = h.b_inside; apart = h.apart }

-- a row crosses a division from either end
pub crosses : (L : LinkList) (o : List ℕ) (S : ℕ → Bool) (r : ℕ)
    → differ (S (L.a r)) (S (L.b r)) ≡ differ (S (earlier L o r)) (S (later L o r))
crosses L o S r = by_test (a_first L o r) (λ e. rw e) (λ e. rw e (differ_sym (S (L.a r)) (S (L.b r))))

module _ (L : LinkList) (o : List ℕ) (proper : Proper L) (lists : Lists o L.nodes) where
  has_a : (r : ℕ) → r < L.rows → has o (L.a r) ≡ true
  has_a r h = lists.each (L.a r) (proper.a_inside r h)

  has_b : (r : ℕ) → r < L.rows → has o (L.b r) ≡ true
  has_b r h = lists.each (L.b r) (proper.b_inside r h)

  b_first : (r : ℕ) → r < L.rows → a_first L o r ≡ false → position o (L.b r) < position o (L.a r)
  b_first r h e =
      let p = position o (L.a r) in
      let q = position o (L.b r) in
      by_test (eqb p q)
      (λ s. absurd (proper.apart r h (position_inj o (L.a r) (L.b r) (has_a r h) (has_b r h) (eqb-true p q s))))
      (λ s. omega (arith, ltb-false p q e, eqb-false p q s))

  pub earlier_before : (r : ℕ) → r < L.rows → position o (earlier L o r) < position o (later L o r)
  earlier_before r h = by_test (a_first L o r) (λ e. rw e (ltb-true _ _ e)) (λ e. rw e (b_first r h e))

  pub earlier_inside : (r : ℕ) → r < L.rows → earlier L o r < L.nodes
  earlier_inside r h = by_test (a_first L o r) (λ e. rw e (proper.a_inside r h)) (λ e. rw e (proper.b_inside r h))

  pub later_inside : (r : ℕ) → r < L.rows → later L o r < L.nodes
  later_inside r h = by_test (a_first L o r) (λ e. rw e (proper.b_inside r h)) (λ e. rw e (proper.a_inside r h))

  -- P holds the nodes at the positions Q, all of them before z's: a row joins z with P where it leads to z from such a position
  pub reach-later :
      (P Q : ℕ → Bool) (z c r : ℕ) → r < L.rows
      → ((x : ℕ) → has o x ≡ true → P x ≡ Q (position o x))
      → ((t : ℕ) → position o z ≤ t → Q t ≡ false)
      → reach P z (L.a r) (L.b r) c ≡ on (eqb (later L o r) z && Q (position o (earlier L o r))) c
  reach-later P Q z c r h same none =
      rw (same (L.a r) (has_a r h), same (L.b r) (has_b r h))
      (by_test (a_first L o r)
      (λ e. rw e (omega (arith, off (L.a r) (position o (L.b r)) (omega (arith, ltb-true (position o (L.a r)) (position o (L.b r)) e)))))
      (λ e. rw e (omega (arith, off (L.b r) (position o (L.a r)) (omega (arith, b_first r h e))))))
    where
      -- no row leads to z from z's position on
      off : (v t : ℕ) → position o v ≤ t → on (eqb v z && Q t) c ≡ 0
      off v t m = by_test (eqb v z) (λ e. rw (e, none t (rw (eqb-true v z e) at m))) (λ e. rw e)
