-- Laws of the sums over rows: `back`, the cables from a node to a set, and `cut`, the value of a division.
--
-- In order: `back` of equal, empty and joined sets (`back_ext`, `back_ends`, `back_none`, `back-nil`, `back-or`, `back-snoc`, `back-take-suc`), of a
-- single node (`back_sym`), and its bounds (`back-cut`, `back-links`); `cut`: its bound (`cut-links`), of equal sets, of a single node, and
-- after renaming (`cut_ext`, `cut_ends`, `cut-single`, `cut-renamed`).
--
-- Every law is shown for one row, by cases on the row's tests, and carried over by a law of sums. Assumes nothing.
use Rattle.std.specs.Prelude.{ℕ, suc, ◌+◌, ◌≤◌, ◌<◌, ◌≡◌, refl, Bool, true, false, not, ◌&&◌, ◌||◌, List, [], ◌∷◌, ◌++◌, length, get_or, take, eqb}
use Rattle.std.proofs.Common.{sym, ap, ◌∙◌, add_comm, arith, take-suc, eqb-true, ne_eqb}
use Rattle.std.proofs.Math.Path.{fun_ext}
use Rattle.meaning.specs.Sums.{on, differ, has}
use Rattle.meaning.specs.Links.{LinkList, links}
use Rattle.meaning.specs.Order.{reach, back}
use Rattle.meaning.specs.Split.{cut, renamed}
use Rattle.laws.specs.Bools.{true-false, eqb_sym, and_comm, on_most, on-false}
use Rattle.laws.specs.Sums.{sum_ext, sum-le, sum-add_ext, sum-zero}
use Rattle.laws.specs.Lists.{has-nil, has-snoc, Distinct}

-- ---- back

pub back_ext : (L : LinkList) (P Q : ℕ → Bool) (z : ℕ) → ((v : ℕ) → P v ≡ Q v) → back L P z ≡ back L Q z
back_ext L P Q z h = ap (λ S. back L S z) (fun_ext h)

-- sets that agree on the ends of the rows
pub back_ends : (L : LinkList) (P Q : ℕ → Bool) (z : ℕ)
    → ((r : ℕ) → r < L.rows → P (L.a r) ≡ Q (L.a r)) → ((r : ℕ) → r < L.rows → P (L.b r) ≡ Q (L.b r)) → back L P z ≡ back L Q z
unfolding back
back_ends L P Q z ha hb =
    sum_ext
    L.rows
    (λ r. reach P z (L.a r) (L.b r) (L.w r))
    (λ r. reach Q z (L.a r) (L.b r) (L.w r))
    (λ r l. rw (ha r l, hb r l))

pub back_none : (L : LinkList) (P : ℕ → Bool) (z : ℕ) → ((v : ℕ) → P v ≡ false) → back L P z ≡ 0
unfolding back
back_none L P z h = sum-zero L.rows (λ r. reach P z (L.a r) (L.b r) (L.w r)) (λ r l. rw (h (L.a r), h (L.b r)) (go (eqb (L.a r) z) (eqb (L.b r) z) (L.w r)))
  where
    go : (p q : Bool) (c : ℕ) → on (p && false) c + on (q && false) c ≡ 0
    go true true c = refl
    go true false c = refl
    go false true c = refl
    go false false c = refl

pub back-nil : (L : LinkList) (z : ℕ) → back L (has []) z ≡ 0
back-nil L z = back_none L (has []) z has-nil

-- to one or the other of two sets without a common node
pub back-or : (L : LinkList) (P Q : ℕ → Bool) (z : ℕ) → ((v : ℕ) → P v ≡ true → Q v ≡ false)
    → back L (λ v. P v || Q v) z ≡ back L P z + back L Q z
unfolding back
back-or L P Q z h =
    sum-add_ext
    L.rows
    (λ r. reach P z (L.a r) (L.b r) (L.w r))
    (λ r. reach Q z (L.a r) (L.b r) (L.w r))
    (λ r. reach (λ v. P v || Q v) z (L.a r) (L.b r) (L.w r))
    (λ r l.
    omega (
      arith,
      go (eqb (L.a r) z) (P (L.b r)) (Q (L.b r)) (L.w r) (h (L.b r)),
      go (eqb (L.b r) z) (P (L.a r)) (Q (L.a r)) (L.w r) (h (L.a r)),
    ))
  where
    go : (e p q : Bool) (c : ℕ) → (p ≡ true → q ≡ false) → on (e && (p || q)) c ≡ on (e && p) c + on (e && q) c
    go true true true c f = true-false true refl (f refl)
    go true true false c f = omega arith
    go true false q c f = omega arith
    go false p q c f = omega arith

-- one node more
pub back-snoc : (L : LinkList) (p : List ℕ) (x : ℕ) (v : ℕ) → has p x ≡ false
    → back L (has (p ++ (x ∷ []))) v ≡ back L (has p) v + back L (eqb x) v
back-snoc L p x v f =
    back_ext L (has (p ++ (x ∷ []))) (λ u. has p u || eqb x u) v (has-snoc p x)
    ∙ back-or L (has p) (eqb x) v (λ u e. ne_eqb x u (λ q. true-false (has p u) e (ap (has p) (sym q) ∙ f)))

-- one node more of a distinct list
pub back-take-suc : (L : LinkList) (o : List ℕ) → Distinct o → (p v : ℕ) → p < length o
    → back L (has (take (suc p) o)) v ≡ back L (has (take p o)) v + back L (eqb (get_or o p 0)) v
back-take-suc L o d p v h = ap (λ l. back L (has l) v) (take-suc o p 0 h) ∙ back-snoc L (take p o) (get_or o p 0) v (d p h)

-- between two nodes, from either
pub back_sym : (L : LinkList) (p q : ℕ) → back L (eqb p) q ≡ back L (eqb q) p
unfolding back
back_sym L p q =
    sum_ext
    L.rows
    (λ r. reach (eqb p) q (L.a r) (L.b r) (L.w r))
    (λ r. reach (eqb q) p (L.a r) (L.b r) (L.w r))
    (λ r l. go (L.a r) (L.b r) (L.w r))
  where
    turned : (x y : ℕ) → (eqb x q && eqb p y) ≡ (eqb y p && eqb q x)
    turned x y = ap (λ b. b && eqb p y) (eqb_sym x q) ∙ ap (λ b. eqb q x && b) (eqb_sym p y) ∙ and_comm (eqb q x) (eqb y p)

    go : (x y c : ℕ) → reach (eqb p) q x y c ≡ reach (eqb q) p x y c
    go x y c =
        ap (λ b. on b c + on (eqb y q && eqb p x) c) (turned x y)
        ∙ ap (λ b. on (eqb y p && eqb q x) c + on b c) (turned y x)
        ∙ add_comm (on (eqb y p && eqb q x) c) (on (eqb x p && eqb q y) c)

-- a row between z and a set without z has its other end elsewhere
reach_apart : (P : ℕ → Bool) (z : ℕ) → P z ≡ false → (x y c : ℕ) → reach P z x y c ≤ on (differ (eqb z x) (eqb z y)) c
reach_apart P z f x y c =
    rw (eqb_sym x z, eqb_sym y z)
    (go (eqb z x) (eqb z y) (P x) (P y) (λ e. ap P (sym (eqb-true z x e)) ∙ f) (λ e. ap P (sym (eqb-true z y e)) ∙ f))
  where
    go : (p q s t : Bool) → (p ≡ true → s ≡ false) → (q ≡ true → t ≡ false) → on (p && t) c + on (q && s) c ≤ on (differ p q) c
    go true true s t hs ht = let e : on t c ≡ 0 = on-false t c (ht refl) in let g : on s c ≡ 0 = on-false s c (hs refl) in omega arith
    go true false s t hs ht = omega (arith, on_most t c)
    go false true s t hs ht = omega (arith, on_most s c)
    go false false s t hs ht = omega arith

-- a node's cables to a set without it are among its own
pub back-cut : (L : LinkList) (P : ℕ → Bool) (z : ℕ) → P z ≡ false → back L P z ≤ cut L (eqb z)
unfolding back cut
back-cut L P z f =
    sum-le
    L.rows
    (λ r. reach P z (L.a r) (L.b r) (L.w r))
    (λ r. on (differ (eqb z (L.a r)) (eqb z (L.b r))) (L.w r))
    (λ r l. reach_apart P z f (L.a r) (L.b r) (L.w r))

-- ---- cut

pub cut-links : (L : LinkList) (S : ℕ → Bool) → cut L S ≤ links L
unfolding cut
cut-links L S =
    sum-le L.rows (λ r. on (differ (S (L.a r)) (S (L.b r))) (L.w r)) L.w (λ r l. on_most (differ (S (L.a r)) (S (L.b r))) (L.w r))

pub back-links : (L : LinkList) (P : ℕ → Bool) (z : ℕ) → P z ≡ false → back L P z ≤ links L
back-links L P z f = omega (arith, back-cut L P z f, cut-links L (eqb z))

pub cut_ext : (L : LinkList) (S U : ℕ → Bool) → ((v : ℕ) → S v ≡ U v) → cut L S ≡ cut L U
cut_ext L S U h = ap (cut L) (fun_ext h)

pub cut_ends : (L : LinkList) (S U : ℕ → Bool)
    → ((r : ℕ) → r < L.rows → S (L.a r) ≡ U (L.a r)) → ((r : ℕ) → r < L.rows → S (L.b r) ≡ U (L.b r)) → cut L S ≡ cut L U
unfolding cut
cut_ends L S U ha hb =
    sum_ext
    L.rows
    (λ r. on (differ (S (L.a r)) (S (L.b r))) (L.w r))
    (λ r. on (differ (U (L.a r)) (U (L.b r))) (L.w r))
    (λ r l. rw (ha r l, hb r l))

-- one node against all others: its cables to them
pub cut-single : (L : LinkList) (z : ℕ) → cut L (eqb z) ≡ back L (λ v. not (eqb z v)) z
unfolding cut back
cut-single L z =
    sum_ext
    L.rows
    (λ r. on (differ (eqb z (L.a r)) (eqb z (L.b r))) (L.w r))
    (λ r. reach (λ v. not (eqb z v)) z (L.a r) (L.b r) (L.w r))
    (λ r l. rw (eqb_sym (L.a r) z, eqb_sym (L.b r) z) (go (eqb z (L.a r)) (eqb z (L.b r)) (L.w r)))
  where
    go : (p q : Bool) (c : ℕ) → on (differ p q) c ≡ on (p && not q) c + on (q && not p) c
    go true true c = refl
    go true false c = omega arith
    go false true c = omega arith
    go false false c = refl

-- merging is renaming: a division of the groups is one of the nodes
pub cut-renamed : (L : LinkList) (g : ℕ → ℕ) (S : ℕ → Bool) → cut (renamed g L) S ≡ cut L (λ v. S (g v))
unfolding cut
cut-renamed L g S = refl
