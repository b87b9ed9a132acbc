-- Forest numbers: document 003's scan gives the closed form, and each node's cables to earlier nodes get the numbers 1, 2, 3 and so on.
--
-- Why it is true: the scan's counter r(y) is what has arrived at y, so a row gets one more than what arrived before it, which is the closed
-- form (`scan-first`). A row's numbers start where what arrived before it ends, so along the scan the numbers in use at y are always
-- those from 1 to what has arrived (`numbers_used`). Assumes nothing.
use Prim.Native.Nat.{ℕ, zero, suc, ◌+◌, ◌≤◌, ◌<◌}
use Rattle.std.specs.Prelude.{◌≡◌, Bool, true, ◌&&◌, List, take, get_or, ltb, leb}
use Rattle.std.proofs.Math.Path.{refl, sym}
use Rattle.std.proofs.Common.{◌∙◌, ap, arith}
use Rattle.std.proofs.Math.Bool.{false, and-true, and-false}
use Rattle.std.proofs.Math.Dec.{eqb}
use borrow.Author.Tests.{eqb-true, eqb-false, lt-ltb, le-ltb, le-leb, lt-leb, leb-true, leb-false}
use Rattle.meaning.specs.Sums.{sum, on, has, listed}
use Rattle.meaning.specs.Links.{LinkList}
use Rattle.meaning.specs.Order.{back, back_at}
use Rattle.meaning.specs.Forest.{position, earlier, later, first, firsts_of, Scan, visits, scan}
use Rattle.laws.specs.Bools.{on-and, eqb_sym}
use Rattle.laws.specs.Sums.{sum_ext}
use Rattle.laws.specs.Lists.{listed_ext}
use Rattle.thinning.specs.Place.{by_test, Lists, place-lt, position-get_or}
use Rattle.thinning.specs.Ends.{Proper, earlier_inside}
use Rattle.thinning.specs.Arrived.{arrived, arrived_before, arrived_none, arrived_row, arrived_node, arrived_raise, back-arrived, first-arrived, arrived-all}

-- ---- document 003's scan

module _ (L : LinkList) (o : List ℕ) where
  -- the scan's test of a row, and ours
  same_visit : (a p z y c : ℕ) → on (eqb a p && eqb z y) c ≡ on (eqb y z && eqb a p) c
  same_visit a p z y c =
      rw (eqb_sym z y) (by_test (eqb a p) (λ e. rw (e, and-true)) (λ e. rw (e, and-false)))

  -- r(z) is what has arrived at z
  visits_reached : (p m z : ℕ) (s : Scan) → s.reached z ≡ arrived L o L.w z p 0
      → (visits L o p m s).reached z ≡ arrived L o L.w z p m
  unfolding visits
  visits_reached p zero z s start = start
  visits_reached p (suc m) z s start =
      rw (arrived_row L o L.w z p m, visits_reached p m z s start)
      (ap (λ t. arrived L o L.w z p m + t) (same_visit (position o (earlier L o m)) p z (later L o m) (L.w m)))

  pub scan_reached : (p z : ℕ) → (scan L o p).reached z ≡ arrived L o L.w z p 0
  unfolding scan
  scan_reached zero z = sym (arrived_none L o L.w z)
  scan_reached (suc p) z = visits_reached p L.rows z (scan L o p) (scan_reached p z) ∙ sym (arrived_node L o L.w z p)

  -- rows whose earlier end is not at p keep their number
  visits-others : (p m r : ℕ) (s : Scan) → eqb (position o (earlier L o r)) p ≡ false → (visits L o p m s).given_first r ≡ s.given_first r
  unfolding visits
  visits-others p zero r s out = refl
  visits-others p (suc m) r s out =
      by_test (eqb r m)
      (λ e. let f : eqb (position o (earlier L o m)) p ≡ false = rw (eqb-true r m e) at out in rw f (visits-others p m r s out))
      (λ e. rw (e, and-false) (visits-others p m r s out))

  visits-first : (p m r : ℕ) → r < m → eqb (position o (earlier L o r)) p ≡ true
      → (visits L o p m (scan L o p)).given_first r ≡ suc (arrived_before L o r)
  unfolding visits
  visits-first p zero r h at = absurd (omega arith)
  visits-first p (suc m) r h at =
      by_test (eqb r m)
      (λ e. rw (e, ← eqb-true r m e, at, eqb-true _ p at, visits_reached p r (later L o r) (scan L o p) (scan_reached p (later L o r))))
      (λ e. rw (e, and-false) (visits-first p m r (omega (arith, eqb-false r m e)) at))

  scan-arrived : (p r : ℕ) → r < L.rows → position o (earlier L o r) < p → (scan L o p).given_first r ≡ suc (arrived_before L o r)
  unfolding scan
  scan-arrived zero r h before = absurd (omega arith)
  scan-arrived (suc p) r h before =
      by_test (eqb (position o (earlier L o r)) p)
      (λ e. visits-first p L.rows r h e)
      (λ e. visits-others p L.rows r (scan L o p) e ∙ scan-arrived p r h (omega (arith, eqb-false (position o (earlier L o r)) p e)))

-- ---- the numbers in use

-- row r has a cable numbered c
abbrev pub numbered : LinkList → List ℕ → ℕ → ℕ → Bool
numbered L o r c = leb (first L o r) c && ltb c (first L o r + L.w r)

-- c is among 1 to b + w where it is among 1 to b, or among the w numbers after b
interval_more : (b w c : ℕ) → on (leb 1 c && leb c b) 1 + on (leb (suc b) c && ltb c (suc b + w)) 1 ≡ on (leb 1 c && leb c (b + w)) 1
interval_more b w c =
    by_test (leb c b)
    (λ e. let h : c ≤ b = leb-true c b e in rw (e, le-leb c (b + w) (omega arith), lt-leb (suc b) c (omega arith)) (omega arith))
    (λ e.
    let h : b < c = leb-false c b e in
    rw (e, le-leb 1 c (omega arith), le-leb (suc b) c (omega arith))
    (by_test (leb c (b + w))
    (λ t. rw (t, lt-ltb c (suc b + w) (omega (arith, leb-true c (b + w) t))))
    (λ t. rw (t, le-ltb c (suc b + w) (omega (arith, leb-false c (b + w) t))))))

-- ---- the theorems

module _ (L : LinkList) (o : List ℕ) (proper : Proper L) (lists : Lists o L.nodes) where
  -- the closed form agrees with document 003's scan
  pub scan-first : (r : ℕ) → r < L.rows → (scan L o L.nodes).given_first r ≡ first L o r
  scan-first r h =
      scan-arrived L o L.nodes r h (place-lt o L.nodes lists (earlier L o r) (earlier_inside L o proper lists r h))
      ∙ sym (first-arrived L o proper lists r h)

  pub scan_firsts : listed L.rows (scan L o L.nodes).given_first ≡ firsts_of L o
  scan_firsts = listed_ext L.rows _ _ scan-first

  -- at each node the numbers 1 to its back count are used once each, and no others
  pub numbers_used : (y c : ℕ)
      → sum L.rows (λ r. on (eqb (later L o r) y && numbered L o r c) 1)
      ≡ on (leb 1 c && leb c (back L (has (take (position o y) o)) y)) 1
  numbers_used y c =
      sum_ext L.rows _ _ (λ r h. on-and (eqb (later L o r) y) (numbered L o r c) 1)
      ∙ sym (arrived-all L o proper lists used y)
      ∙ arrived_raise L o up_to used none more y (position o y) 0 (omega arith)
      ∙ ap up_to (sym (back-arrived L o proper lists y (position o y) (omega arith)))
    where
      up_to : ℕ → ℕ
      up_to b = on (leb 1 c && leb c b) 1

      used : ℕ → ℕ
      used r = on (numbered L o r c) 1

      none : up_to 0 ≡ 0
      none = by_test (leb 1 c) (λ e. rw (e, lt-leb c 0 (omega (arith, leb-true 1 c e)))) (λ e. rw e)

      more : (r : ℕ) → r < L.rows → up_to (arrived_before L o r) + used r ≡ up_to (arrived_before L o r + L.w r)
      more r h = rw (first-arrived L o proper lists r h) (interval_more (arrived_before L o r) (L.w r) c)

  -- the same by positions
  pub numbers_once : (p c : ℕ) → p < L.nodes → 1 ≤ c → c ≤ back_at L o p
      → sum L.rows (λ r. on (eqb (later L o r) (get_or o p 0) && numbered L o r c) 1) ≡ 1
  numbers_once p c h low high =
      numbers_used (get_or o p 0) c
      ∙ rw (position-get_or o lists.once p (rw lists.long h), le-leb 1 c low, le-leb c (back_at L o p) high)
