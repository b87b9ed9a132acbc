-- Any max-back order and the divisions that part two of its nodes.
--
-- Why it is true: the claim is an induction along the order. When the newest placed node z is on the side of the one before it, the hypothesis holds of
-- the later node x and the rows between z and x cross the division; when it is on the other side, the hypothesis holds of z itself, and x has
-- no more cables back than z had. Either way one step adds the rows between z and x, which cross (`cross_more`). Assumes nothing.
use Rattle.std.specs.Prelude.{ℕ, zero, suc, ◌+◌, ◌≤◌, ◌<◌, ◌≡◌, refl, Bool, true, false, not, ◌&&◌, ◌||◌, List, length, get_or, take, eqb}
use Rattle.std.proofs.Common.{sym, ap, ◌∙◌, subst, ⊎_elim, arith, take_all, eqb-true, ne_eqb}
use Rattle.meaning.specs.Sums.{on, differ, has}
use Rattle.meaning.specs.Links.{LinkList}
use Rattle.meaning.specs.Order.{reach, back, back_at}
use Rattle.meaning.specs.Split.{cut}
use Rattle.laws.specs.Bools.{bool_cases, true-false, and_left, and_right, and-true, and-false_left, and-false_right, or_left, or_right, or_cases, or-false, differ_sym, differ-false, differ_self, on_mono, eqb_same, and_comm}
use Rattle.laws.specs.Sums.{sum-add-le}
use Rattle.laws.specs.Lists.{Distinct, distinct_eq, distinct_later, has-take-suc, has-take-get_or, has-take_more}
use Rattle.laws.specs.Rows.{back-take-suc, back_ends, back-nil, cut-single}
use Rattle.method.specs.Division.{cut_in, cut_in-cut}

-- Definition 1 of document 000, for a list of nodes that need not be all: each node once, and each next node has, among the listed nodes not
-- yet placed, the most cables to those placed
pub record MaxBack (L : LinkList) (o : List ℕ) : Type 0 where
  pub distinct : Distinct o
  pub most : (i j : ℕ) → 1 ≤ i → i ≤ j → j < length o → back L (has (take i o)) (get_or o j 0) ≤ back_at L o i

-- ---- one step

-- one row: a set W, a larger set U, the row's ends in both, and whether it joins z and x
row_more : (d m u p q : Bool) (c : ℕ)
    → (p ≡ true → (d ≡ true) × (m ≡ false) × (u ≡ true) × (q ≡ false))
    → (q ≡ true → (d ≡ true) × (m ≡ false) × (u ≡ true))
    → (m ≡ true → u ≡ true)
    → on (d && m) c + (on p c + on q c) ≤ on (d && u) c
row_more d m u true q c hp hq more = let h = hp refl in rw (h.0, h.1, h.2, h.3) (omega arith)
row_more d m u false true c hp hq more = let h = hq refl in rw (h.0, h.1, h.2) (omega arith)
row_more d m u false false c hp hq more =
    omega (arith, on_mono (d && m) (d && u) c (λ e. and-true d u (and_left d m e) (more (and_right d m e))))

-- the rows between two nodes on different sides come in addition, where at most one of the two was there before
pub cross_more : (L : LinkList) (S W U : ℕ → Bool) (z x : ℕ)
    → differ (S z) (S x) ≡ true → ((v : ℕ) → W v ≡ true → U v ≡ true) → (W z && W x) ≡ false → U z ≡ true → U x ≡ true
    → cut_in L S W + back L (eqb z) x ≤ cut_in L S U
unfolding cut_in back
cross_more L S W U z x d more apart uz ux =
    sum-add-le
    L.rows
    (λ r. on (differ (S (L.a r)) (S (L.b r)) && (W (L.a r) && W (L.b r))) (L.w r))
    (λ r. reach (eqb z) x (L.a r) (L.b r) (L.w r))
    (λ r. on (differ (S (L.a r)) (S (L.b r)) && (U (L.a r) && U (L.b r))) (L.w r))
    (λ r l. row (L.a r) (L.b r) (L.w r))
  where
    both : (a b : ℕ) → (W a && W b) ≡ true → (U a && U b) ≡ true
    both a b e = and-true (U a) (U b) (more a (and_left (W a) (W b) e)) (more b (and_right (W a) (W b) e))

    -- z and x are two nodes
    two : z ≡ x → ⊥
    two e = true-false (differ (S z) (S x)) d (ap (λ v. differ (S z) (S v)) (sym e) ∙ differ_self (S z))

    row : (a b c : ℕ) → on (differ (S a) (S b) && (W a && W b)) c + reach (eqb z) x a b c ≤ on (differ (S a) (S b) && (U a && U b)) c
    row a b c =
        row_more
        (differ (S a) (S b))
        (W a && W b)
        (U a && U b)
        (eqb a x && eqb z b)
        (eqb b x && eqb z a)
        c
        (λ e.
        let ax : a ≡ x = eqb-true a x (and_left (eqb a x) (eqb z b) e) in
        let zb : z ≡ b = eqb-true z b (and_right (eqb a x) (eqb z b) e) in (
          rw (ax, ← zb) (differ_sym (S x) (S z) ∙ d),
          rw (ax, ← zb) (and_comm (W x) (W z) ∙ apart),
          rw (ax, ← zb) (and-true (U x) (U z) ux uz),
          rw (ax, ← zb) (and-false_left (eqb z x) (eqb z x) (ne_eqb z x two)),
        ))
        (λ e.
        let bx : b ≡ x = eqb-true b x (and_left (eqb b x) (eqb z a) e) in
        let za : z ≡ a = eqb-true z a (and_right (eqb b x) (eqb z a) e) in
        (rw (bx, ← za) d, rw (bx, ← za) apart, rw (bx, ← za) (and-true (U z) (U x) uz ux)))
        (both a b)

-- ---- the claim

module _ (L : LinkList) (o : List ℕ) (mb : MaxBack L o) (S : ℕ → Bool) where
  -- the node at p is among the first p + 1
  placed : (p z : ℕ) → p < length o → (x : ℕ) → get_or o p 0 ≡ z → (has (take (suc p) o) z || eqb x z) ≡ true
  placed p z h x e =
      or_left (has (take (suc p) o) z) (eqb x z) (ap (has (take (suc p) o)) (sym e) ∙ has-take-get_or o p (suc p) (omega arith) h)

  -- CLAIM: a node parted from the last placed one has no more cables to the placed ones than cross the division among them and it.
  pub claim : (p j : ℕ) → p < j → j < length o → differ (S (get_or o p 0)) (S (get_or o j 0)) ≡ true
      → back L (has (take (suc p) o)) (get_or o j 0) ≤ cut_in L S (λ v. has (take (suc p) o) v || eqb (get_or o j 0) v)
  claim zero j lt lj d =
      let z = get_or o 0 0 in
      let x = get_or o j 0 in
      let U : ℕ → Bool = λ v. has (take 1 o) v || eqb x v in
      let uz : U z ≡ true = placed 0 z (omega arith) x refl in
      let ux : U x ≡ true = or_right (has (take 1 o) x) (eqb x x) (eqb_same x) in
      omega (
        arith,
        back-take-suc L o mb.distinct 0 x (omega arith),
        back-nil L x,
        cross_more L S (λ v. false) U z x d (λ v e. true-false false e refl) refl uz ux,
      )
  claim (suc p) j lt lj d =
      let y = get_or o p 0 in
      let z = get_or o (suc p) 0 in
      let x = get_or o j 0 in
      let P : ℕ → Bool = has (take (suc p) o) in
      let U : ℕ → Bool = λ v. has (take (suc (suc p)) o) v || eqb x v in
      let more : (u : ℕ) → P u ≡ true → U u ≡ true = λ u e.
      or_left (has (take (suc (suc p)) o) u) (eqb x u) (has-take_more o (suc p) (suc (suc p)) u (omega arith) (omega arith) e) in
      let ux : U x ≡ true = or_right (has (take (suc (suc p)) o) x) (eqb x x) (eqb_same x) in
      let uz : U z ≡ true = placed (suc p) z (omega arith) x refl in
      let vz : P z ≡ false = mb.distinct (suc p) (omega arith) in
      let vx : P x ≡ false = distinct_later o mb.distinct (suc p) j (omega arith) lj in
      let zx : z ≡ x → ⊥ = λ e. let q : suc p ≡ j = distinct_eq o mb.distinct (suc p) j (omega arith) lj e in omega arith in
      let step = back-take-suc L o mb.distinct (suc p) x (omega arith) in
      ⊎_elim
      -- z parted from y: the hypothesis for z, and x has no more cables back than z
      (λ e.
      let W : ℕ → Bool = λ v. P v || eqb z v in
      let wx : W x ≡ false = or-false (P x) (eqb z x) vx (ne_eqb z x zx) in
      omega (
        arith,
        step,
        claim p (suc p) (omega arith) (omega arith) e,
        mb.most (suc p) j (omega arith) (omega arith) lj,
        cross_more L S W U z x d
            (λ u f. ⊎_elim (more u) (λ g. subst (λ w. U w ≡ true) (eqb-true z u g) uz) (or_cases (P u) (eqb z u) f))
            (and-false_right (W z) (W x) wx)
            uz
            ux,
      ))
      -- z on y's side: the hypothesis for x
      (λ e.
      let W : ℕ → Bool = λ v. P v || eqb x v in
      let wz : W z ≡ false = or-false (P z) (eqb x z) vz (ne_eqb x z (λ q. zx (sym q))) in
      omega (
        arith,
        step,
        claim p j (omega arith) lj (ap (λ b. differ b (S x)) (differ-false (S y) (S z) e) ∙ d),
        cross_more L S W U z x d
            (λ u f. ⊎_elim (more u) (λ g. subst (λ w. U w ≡ true) (eqb-true x u g) ux) (or_cases (P u) (eqb x u) f))
            (and-false_left (W z) (W x) wz)
            uz
            ux,
      ))
      (bool_cases (differ (S y) (S z)))

  -- so it has no more than cross the whole division
  pub claim_cut : (p j : ℕ) → p < j → j < length o → differ (S (get_or o p 0)) (S (get_or o j 0)) ≡ true
      → back L (has (take (suc p) o)) (get_or o j 0) ≤ cut L S
  claim_cut p j lt lj d =
      omega (arith, claim p j lt lj d, cut_in-cut L S (λ v. has (take (suc p) o) v || eqb (get_or o j 0) v))

  -- LAST PAIR: a division that parts the last two nodes has at least the last node's cables back across.
  pub last_pair : (m : ℕ) → length o ≡ suc (suc m) → differ (S (get_or o m 0)) (S (get_or o (suc m) 0)) ≡ true
      → back_at L o (suc m) ≤ cut L S
  last_pair m e d = claim_cut m (suc m) (omega arith) (omega arith) d

-- The last node's back count is the value of the division that parts it from the rest, where the order has both ends of every row.
pub last_value : (L : LinkList) (o : List ℕ) → Distinct o → (m : ℕ) → length o ≡ suc m
    → ((r : ℕ) → r < L.rows → has o (L.a r) ≡ true) → ((r : ℕ) → r < L.rows → has o (L.b r) ≡ true)
    → back_at L o m ≡ cut L (eqb (get_or o m 0))
last_value L o d m e ha hb =
    back_ends L (has (take m o)) (λ v. not (eqb t v)) t (λ r l. same (L.a r) (ha r l)) (λ r l. same (L.b r) (hb r l)) ∙ sym (cut-single L t)
  where
    t : ℕ
    t = get_or o m 0

    same : (v : ℕ) → has o v ≡ true → has (take m o) v ≡ not (eqb (get_or o m 0) v)
    same v h =
        let split : (has (take m o) v || eqb t v) ≡ true =
        sym (has-take-suc o m v (omega arith)) ∙ ap (λ l. has l v) (take_all (suc m) o (omega arith)) ∙ h in
        ⊎_elim
        (λ q. ap (has (take m o)) (sym (eqb-true t v q)) ∙ d m (omega arith) ∙ sym (ap not q))
        (λ q. ⊎_elim (λ f. f) (λ f. true-false (eqb t v) f q) (or_cases (has (take m o) v) (eqb t v) split) ∙ sym (ap not q))
        (bool_cases (eqb t v))

-- So for every max-back order that has both ends of every row, the last node's cables are the least value of any division that parts the last
-- two nodes: document 000's Theorem 4.
pub last_least : (L : LinkList) (o : List ℕ) → MaxBack L o → (m : ℕ) → length o ≡ suc (suc m)
    → ((r : ℕ) → r < L.rows → has o (L.a r) ≡ true) → ((r : ℕ) → r < L.rows → has o (L.b r) ≡ true)
    → (back_at L o (suc m) ≡ cut L (eqb (get_or o (suc m) 0)))
    × (differ (eqb (get_or o (suc m) 0) (get_or o m 0)) (eqb (get_or o (suc m) 0) (get_or o (suc m) 0)) ≡ true)
    × ((S : ℕ → Bool) → differ (S (get_or o m 0)) (S (get_or o (suc m) 0)) ≡ true → back_at L o (suc m) ≤ cut L S)
last_least L o mb m e ha hb = (last_value L o mb.distinct (suc m) e ha hb, parted, λ S d. last_pair L o mb S m e d)
  where
    parted : differ (eqb (get_or o (suc m) 0) (get_or o m 0)) (eqb (get_or o (suc m) 0) (get_or o (suc m) 0)) ≡ true
    parted =
        rw (
          eqb_same (get_or o (suc m) 0),
          ne_eqb (get_or o (suc m) 0) (get_or o m 0) (λ q. let z : suc m ≡ m = distinct_eq o mb.distinct (suc m) m (omega arith) (omega arith) q in omega arith),
        )
