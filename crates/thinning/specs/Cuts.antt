-- Thinning for k along a max-back order: the order is max-back for the kept rows too, and no division falls below the smaller of k and its value.
--
-- Why it is true: min k keeps "at most", so Definition 1 passes to the kept rows. A division that keeps fewer than it had has a row across that lost
-- a cable, so its later end had more than k arrived and keeps k of them; by the CLAIM for the kept rows those k are at most what
-- crosses. Assumes nothing.
use Rattle.std.specs.Prelude.{ℕ, suc, ◌-◌, ◌*◌, ◌≤◌, ◌<◌, min, ◌≡◌, Bool, List, length, take, get_or, ltb, leb}
use Rattle.std.proofs.Common.{sym, ◌∙◌, arith}
use Rattle.std.proofs.Math.Bool.{true}
use borrow.Author.Tests.{ltb-true, ltb-false, leb-true, leb-false}
use Rattle.meaning.specs.Sums.{has, differ}
use Rattle.meaning.specs.Links.{LinkList, links, Accepted}
use Rattle.meaning.specs.Order.{back, order_of}
use Rattle.meaning.specs.Forest.{position, earlier, later, kept, thinned}
use Rattle.meaning.specs.Split.{cut}
use Rattle.laws.specs.Sums.{sum_ext}
use Rattle.method.specs.Claim.{MaxBack, claim_cut}
use Rattle.method.specs.Order.{order_ordered}
use Rattle.thinning.specs.Place.{by_test, Lists, order_lists, position-get_or, place-lt, at_place}
use Rattle.thinning.specs.Ends.{Proper, accepted_proper, crosses, earlier_before, earlier_inside, later_inside}
use Rattle.thinning.specs.Arrived.{arrived-own, arrived_grows, back-arrived}
use Rattle.thinning.specs.Kept.{kept-le, kept_row, kept-prefix, kept_few}

module _ (L : LinkList) (o : List ℕ) (proper : Proper L) (lists : Lists o L.nodes) (max_back : MaxBack L o) (k : ℕ) where
  -- the same order is max-back for the kept rows
  pub kept-max-back : MaxBack (thinned L o k) o
  kept-max-back =
      record {
        distinct = lists.once;
        most = λ i j one ij h.
            omega (
              arith,
              max_back.most i j one ij h,
              kept-prefix L o proper lists k (get_or o j 0) i (omega (arith, position-get_or o lists.once j h)),
              kept-prefix L o proper lists k (get_or o i 0) i (omega (arith, position-get_or o lists.once i (omega arith))),
            );
      }

  -- where a row loses a cable, its later end keeps k of its cables to the order up to its earlier end
  lost_keeps : (r : ℕ) → r < L.rows → kept L o k r < L.w r
      → k ≤ back (thinned L o k) (has (take (suc (position o (earlier L o r))) o)) (later L o r)
  lost_keeps r h lost =
      let p = position o (earlier L o r) in
      let y = later L o r in
      let before = earlier_before L o proper lists r h in
      omega (
        arith,
        kept_row L o proper lists k r h,
        arrived-own L o r,
        arrived_grows L o L.w y p (suc r) h,
        back-arrived L o proper lists y (suc p) before,
        kept-prefix L o proper lists k y (suc p) before,
      )

  lost_cut : (S : ℕ → Bool) (r : ℕ) → r < L.rows → differ (S (L.a r)) (S (L.b r)) ≡ true → kept L o k r < L.w r
      → k ≤ cut (thinned L o k) S
  lost_cut S r h cross lost =
      let x = earlier L o r in
      let y = later L o r in
      let hx = at_place o L.nodes lists x (earlier_inside L o proper lists r h) in
      let hy = at_place o L.nodes lists y (later_inside L o proper lists r h) in
      let inside : position o y < length o = rw lists.long (place-lt o L.nodes lists y (later_inside L o proper lists r h)) in
      let across = rw hy at
      (claim_cut (thinned L o k) o kept-max-back S (position o x) (position o y) (earlier_before L o proper lists r h) inside
      (rw (hx, hy) (sym (crosses L o S r) ∙ cross))) in
      omega (arith, across, lost_keeps r h lost)

  -- every division keeps the smaller of k and its value
  pub kept_cuts : (S : ℕ → Bool) → min k (cut L S) ≤ cut (thinned L o k) S
  unfolding cut
  kept_cuts S =
      by_test (leb k (cut (thinned L o k) S))
      (λ e. omega (arith, leb-true k (cut (thinned L o k) S) e))
      (λ e. omega (arith, same (leb-false k (cut (thinned L o k) S) e)))
    where
      -- with fewer than k across nothing was lost there
      whole : cut (thinned L o k) S < k → (r : ℕ) → r < L.rows → differ (S (L.a r)) (S (L.b r)) ≡ true → L.w r ≡ kept L o k r
      whole few r h e =
          by_test (ltb (kept L o k r) (L.w r))
          (λ l. absurd (omega (arith, lost_cut S r h e (ltb-true (kept L o k r) (L.w r) l))))
          (λ l. omega (arith, ltb-false (kept L o k r) (L.w r) l, kept-le L o k r))

      same : cut (thinned L o k) S < k → cut L S ≡ cut (thinned L o k) S
      same few =
          sum_ext L.rows _ _
          (λ r h. by_test (differ (S (L.a r)) (S (L.b r))) (λ e. rw e (whole few r h e)) (λ e. rw e))

-- ---- all of it

-- what document 01 asks of thinning for k
pub record Thinning (L : LinkList) (o : List ℕ) (k : ℕ) : Type 0 where
  pub no_row_grows : (r : ℕ) → kept L o k r ≤ L.w r
  pub few_kept : links (thinned L o k) ≤ k * (L.nodes - 1)
  pub divisions : (S : ℕ → Bool) → min k (cut L S) ≤ cut (thinned L o k) S

-- along any max-back order of the nodes
pub thinning : (L : LinkList) (o : List ℕ) → Proper L → Lists o L.nodes → MaxBack L o → (k : ℕ) → Thinning L o k
thinning L o proper lists max_back k =
    record { no_row_grows = kept-le L o k; few_kept = kept_few L o proper lists k; divisions = kept_cuts L o proper lists max_back k }

-- along document 01's order, from any start
pub order_thinning : (L : LinkList) → Accepted L → (s : ℕ) → s < L.nodes → (k : ℕ) → Thinning L (order_of L s) k
order_thinning L accepted s h =
    thinning L (order_of L s) (accepted_proper L accepted) (order_lists L s h) (order_ordered L s h).max_back
