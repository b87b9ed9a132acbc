-- Thinning for k: no row grows, each node keeps the smaller of k and its cables to any first part of the order, and at most k(n - 1) cables are kept.
--
-- Why it is true: a row whose first cable has the number b + 1 keeps what lifts min k b to min k (b + w) (`kept_of_more`), so kept weights add up
-- to min k of what arrived. Summed over the nodes by position that is at most k at each, and nothing at the first. Assumes nothing.
use Rattle.std.specs.Prelude.{ℕ, zero, suc, ◌+◌, ◌-◌, ◌*◌, ◌≤◌, ◌<◌, min, ◌≡◌, Bool, List, take, ltb}
use Rattle.std.proofs.Math.Path.{refl, sym, ap}
use Rattle.std.proofs.Common.{◌∙◌}
use Rattle.std.proofs.Math.Bool.{true}
use Rattle.std.proofs.Math.ListN.{get_or}
use Rattle.std.proofs.Math.Dec.{eqb}
use native.Mathlib.Omega.{arith}
use borrow.Author.Tests.{eqb-true, eq-eqb, ne_eqb, ltb-true, ltb-false}
use Rattle.meaning.specs.Sums.{sum, on, has, differ}
use Rattle.meaning.specs.Links.{LinkList, links}
use Rattle.meaning.specs.Order.{back}
use Rattle.meaning.specs.Forest.{position, later, first, kept_of, kept, thinned}
use Rattle.meaning.specs.Split.{cut}
use Rattle.laws.specs.Bools.{on_mono, on-le}
use Rattle.laws.specs.Sums.{sum_ext, sum-zero, sum-le, sum_swap, sum-on_one}
use Rattle.thinning.specs.Place.{by_test, Lists, place-lt, at_place}
use Rattle.thinning.specs.Ends.{Proper, earlier_before, later_inside}
use Rattle.thinning.specs.Arrived.{arrived, arrived_before, arrived_raise, back-arrived, first-arrived, arrived-all}

-- ---- one row

kept_of-le : (k f w : ℕ) → kept_of k f w ≤ w
kept_of-le k f w = by_test (ltb k f) (λ e. rw e (omega arith)) (λ e. rw e (omega arith))

kept_of_more : (k b w : ℕ) → min k b + kept_of k (suc b) w ≡ min k (b + w)
kept_of_more k b w =
    by_test (ltb k (suc b))
    (λ e. rw e (omega (arith, ltb-true k (suc b) e)))
    (λ e. rw e (omega (arith, ltb-false k (suc b) e)))

module _ (L : LinkList) (o : List ℕ) (k : ℕ) where
  -- no row grows ..
  pub kept-le : (r : ℕ) → kept L o k r ≤ L.w r
  kept-le r = kept_of-le k (first L o r) (L.w r)

  -- .. nor does the value of a division
  pub kept-cut : (S : ℕ → Bool) → cut (thinned L o k) S ≤ cut L S
  unfolding cut
  kept-cut S = sum-le L.rows _ _ (λ r h. on-le (differ (S (L.a r)) (S (L.b r))) _ _ (kept-le r))

  pub proper_thinned : Proper L → Proper (thinned L o k)
  proper_thinned h = record { a_inside = h.a_inside; b_inside = h.b_inside; apart = h.apart }

  arrived-thinned : (z p m : ℕ) → arrived (thinned L o k) o (kept L o k) z p m ≡ arrived L o (kept L o k) z p m
  unfolding arrived
  arrived-thinned z p m = refl

-- n terms of at most k, the first of them 0
sum_but_first : (n k : ℕ) (f : ℕ → ℕ) → f 0 ≡ 0 → ((p : ℕ) → p < n → f p ≤ k) → sum n f ≤ k * (n - 1)
unfolding sum
sum_but_first zero k f e h = omega arith
sum_but_first (suc zero) k f e h = omega arith
sum_but_first (suc (suc c)) k f e h =
    let i : suc (suc c) - 1 ≡ suc c = omega arith in
    let j : suc c - 1 ≡ c = omega arith in
    let below : sum (suc c) f ≤ k * c = rw j at (sum_but_first (suc c) k f e (λ p l. h p (omega arith))) in
    rw i (omega (arith, h (suc c) (omega arith)))

module _ (L : LinkList) (o : List ℕ) (proper : Proper L) (lists : Lists o L.nodes) (k : ℕ) where
  -- ---- the kept prefix

  pub kept_row : (r : ℕ) → r < L.rows → min k (arrived_before L o r) + kept L o k r ≡ min k (arrived_before L o r + L.w r)
  kept_row r h = rw (first-arrived L o proper lists r h) (kept_of_more k (arrived_before L o r) (L.w r))

  kept-arrived : (z p : ℕ) → arrived L o (kept L o k) z p 0 ≡ min k (arrived L o L.w z p 0)
  kept-arrived z p = arrived_raise L o (min k) (kept L o k) (omega arith) kept_row z p 0 (omega arith)

  -- KEPT PREFIX: to the first p nodes of the order, z after them keeps the smaller of k and what it had
  pub kept-prefix : (z p : ℕ) → p ≤ position o z → back (thinned L o k) (has (take p o)) z ≡ min k (back L (has (take p o)) z)
  kept-prefix z p h =
      back-arrived (thinned L o k) o (proper_thinned L o k proper) lists z p h
      ∙ arrived-thinned L o k z p 0
      ∙ kept-arrived z p
      ∙ ap (min k) (sym (back-arrived L o proper lists z p h))

  -- ---- how many are kept

  -- what the node at position p keeps
  kept_at : ℕ → ℕ
  kept_at p = sum L.rows (λ r. on (eqb (position o (later L o r)) p) (kept L o k r))

  kept_by_place : links (thinned L o k) ≡ sum L.nodes kept_at
  unfolding kept_at
  kept_by_place =
      sum_ext L.rows _ _
      (λ r h.
      sym (sum-on_one L.nodes (position o (later L o r)) (λ p. kept L o k r)
      (place-lt o L.nodes lists (later L o r) (later_inside L o proper lists r h))))
      ∙ sum_swap L.rows L.nodes (λ r p. on (eqb (position o (later L o r)) p) (kept L o k r))

  kept_at-le : (p : ℕ) → kept_at p ≤ k
  unfolding kept_at
  kept_at-le p =
      let z = get_or o p 0 in
      omega (
        arith,
        arrived-all L o proper lists (kept L o k) z,
        kept-arrived z (position o z),
        sum-le L.rows (λ r. on (eqb (position o (later L o r)) p) (kept L o k r)) (λ r. on (eqb (later L o r) z) (kept L o k r))
            (λ r h. on_mono (eqb (position o (later L o r)) p) (eqb (later L o r) z) (kept L o k r) (there r h)),
      )
    where
      there : (r : ℕ) → r < L.rows → eqb (position o (later L o r)) p ≡ true → eqb (later L o r) (get_or o p 0) ≡ true
      there r h e =
          eq-eqb _ _
          (sym (at_place o L.nodes lists (later L o r) (later_inside L o proper lists r h))
          ∙ ap (λ q. get_or o q 0) (eqb-true (position o (later L o r)) p e))

  kept_at-first : kept_at 0 ≡ 0
  unfolding kept_at
  kept_at-first =
      sum-zero L.rows _
      (λ r h. rw (ne_eqb (position o (later L o r)) 0 (λ e. omega (arith, earlier_before L o proper lists r h))))

  -- at most k(n - 1) cables are kept
  pub kept_few : links (thinned L o k) ≤ k * (L.nodes - 1)
  kept_few = rw kept_by_place (sum_but_first L.nodes k kept_at kept_at-first (λ p h. kept_at-le p))
