-- Positions in an order.
--
-- Why it is true: a node's position is the number of entries before its first, so the first p entries hold exactly the nodes whose position
-- is below p, and the entry at a node's position is the node. Each is an induction along the order. Assumes nothing.
use Rattle.std.specs.Prelude.{ℕ, zero, suc, ◌≤◌, ◌<◌, ◌≡◌, refl, Bool, true, false, List, [], ◌∷◌, length, take, get_or, eqb, ltb}
use Rattle.std.proofs.Common.{sym, ◌∙◌, ap, ⊎_elim, arith, eqb-true, eq-eqb, ne_eqb, lt-ltb}
use Rattle.std.proofs.lemmas.Bool.{false≢true, eqb-false}
use Rattle.std.proofs.Math.Dec.{leb-suc-zero, leb-suc-suc}
use Rattle.meaning.specs.Sums.{has}
use Rattle.meaning.specs.Links.{LinkList}
use Rattle.meaning.specs.Order.{all, order_of}
use Rattle.meaning.specs.Forest.{position}
use Rattle.laws.specs.Bools.{bool_cases}
use Rattle.laws.specs.Lists.{Distinct, has-get_or, distinct_eq}
use Rattle.laws.specs.Order.{placed_length, size_all}
use Rattle.method.specs.Order.{order_ordered}

-- by the two values of a test
pub by_test : {A : Type 0} (b : Bool) → (b ≡ true → A) → (b ≡ false → A) → A
by_test b f g = ⊎_elim f g (bool_cases b)

-- o lists each node below n exactly once
pub record Lists (o : List ℕ) (n : ℕ) : Type 0 where
  pub each : (x : ℕ) → x < n → has o x ≡ true
  pub once : Distinct o
  pub long : length o ≡ n

-- document 01's order does, from any start
pub order_lists : (L : LinkList) (s : ℕ) → s < L.nodes → Lists (order_of L s) L.nodes
order_lists L s h =
    let c = order_ordered L s h in
    record {
      each = λ x l. c.each x l refl;
      once = c.once.distinct;
      long = placed_length L all (order_of L s) c.once c.each ∙ size_all L.nodes;
    }

-- ---- positions

pub has-take : (o : List ℕ) (x p : ℕ) → p ≤ length o → has (take p o) x ≡ ltb (position o x) p
unfolding has position
has-take [] x zero h = refl
has-take [] x (suc p) h = absurd (omega arith)
has-take (y ∷ ys) x zero h = sym (leb-suc-zero (position (y ∷ ys) x))
has-take (y ∷ ys) x (suc p) h =
    by_test (eqb y x)
    (λ e. rw e (sym (lt-ltb 0 (suc p) (omega arith))))
    (λ e. rw e (has-take ys x p (omega arith) ∙ sym (leb-suc-suc (suc (position ys x)) p)))

-- a node that is not listed has the position after the last
pub position-le : (o : List ℕ) (x : ℕ) → position o x ≤ length o
unfolding position
position-le [] x = omega arith
position-le (y ∷ ys) x = by_test (eqb y x) (λ e. rw e (omega arith)) (λ e. rw e (omega (arith, position-le ys x)))

pub position-lt : (o : List ℕ) (x : ℕ) → has o x ≡ true → position o x < length o
unfolding has position
position-lt [] x h = absurd (false≢true h)
position-lt (y ∷ ys) x h =
    by_test (eqb y x) (λ e. rw e (omega arith)) (λ e. rw e (omega (arith, position-lt ys x (rw e at h))))

pub get_or-position : (o : List ℕ) (x : ℕ) → has o x ≡ true → get_or o (position o x) 0 ≡ x
unfolding has position
get_or-position [] x h = absurd (false≢true h)
get_or-position (y ∷ ys) x h =
    by_test (eqb y x) (λ e. rw e (eqb-true y x e)) (λ e. rw e (get_or-position ys x (rw e at h)))

pub position-get_or : (o : List ℕ) → Distinct o → (p : ℕ) → p < length o → position o (get_or o p 0) ≡ p
position-get_or o once p h =
    let here = has-get_or o p h in
    distinct_eq o once (position o (get_or o p 0)) p (position-lt o (get_or o p 0) here) h (get_or-position o (get_or o p 0) here)

-- two listed nodes at one position are one node
pub position_inj : (o : List ℕ) (x y : ℕ) → has o x ≡ true → has o y ≡ true → position o x ≡ position o y → x ≡ y
position_inj o x y hx hy e = sym (get_or-position o x hx) ∙ ap (λ p. get_or o p 0) e ∙ get_or-position o y hy

pub eqb-position : (o : List ℕ) (x y : ℕ) → has o x ≡ true → has o y ≡ true → eqb x y ≡ eqb (position o y) (position o x)
eqb-position o x y hx hy =
    by_test (eqb x y)
    (λ e. e ∙ sym (eq-eqb _ _ (ap (position o) (sym (eqb-true x y e)))))
    (λ e. e ∙ sym (ne_eqb _ _ (λ s. eqb-false x y e (sym (position_inj o y x hy hx s)))))

-- in an order of all nodes below n
module _ (o : List ℕ) (n : ℕ) (lists : Lists o n) where
  pub place-lt : (x : ℕ) → x < n → position o x < n
  place-lt x h = rw (← lists.long) (position-lt o x (lists.each x h))

  pub at_place : (x : ℕ) → x < n → get_or o (position o x) 0 ≡ x
  at_place x h = get_or-position o x (lists.each x h)
