-- Laws of tests as Bools, and of `on`, which counts a number where a test holds.
--
-- In order: a Bool is true or false (`bool_cases`), two numbers are equal or not (`cases_eq`); what a test's value says of
-- `◌&&◌`, `◌||◌`, `not`, `eqb`; a test as a number (`from_on`), `on` at a known test, and with sums, bounds, `◌&&◌` and `not`; `cond`.
--
-- Not here: the facts behind `eqb`, `ltb`, `leb` (`borrow.Author.Tests`: `eqb-true`, `ne_eqb`, ..).
-- Each is a finite case analysis on its Bools. Assumes nothing.
use Rattle.std.specs.Prelude.{ℕ, ◌+◌, ◌≤◌, ◌<◌, ◌≡◌, refl, ◌⊎◌, Bool, true, false, not, ◌&&◌, ◌||◌, cond, eqb, ltb}
use Rattle.std.proofs.Common.{sym, ap, ◌∙◌, subst, inl, inr, ⊎_elim, arith, eqb-true, eq-eqb, ltb-true, ltb-false}
use Rattle.std.proofs.lemmas.Bool.{eqb-false}
use Rattle.std.specs.Int.{from_bool}
use Rattle.meaning.specs.Sums.{on, differ}

-- ---- cases

pub bool_cases : (b : Bool) → (b ≡ true) ⊎ (b ≡ false)
bool_cases true = inl refl
bool_cases false = inr refl

-- a test that is true and false
pub true-false {ℓ} : {A : Type ℓ} (b : Bool) → b ≡ true → b ≡ false → A
true-false b t f = absurd (let z : ◌≡◌ {A = Bool} true false = sym t ∙ f in subst Truth z tt)
  where
    Truth : Bool → Type 0
    Truth true = Unit {0}
    Truth false = ⊥

pub cases_eq : (u v : ℕ) → (u ≡ v) ⊎ (u ≡ v → ⊥)
cases_eq u v = ⊎_elim (λ e. inl (eqb-true u v e)) (λ e. inr (eqb-false u v e)) (bool_cases (eqb u v))

pub cases_lt : (u v : ℕ) → (u < v) ⊎ (v ≤ u)
cases_lt u v = ⊎_elim (λ e. inl (ltb-true u v e)) (λ e. inr (ltb-false u v e)) (bool_cases (ltb u v))

-- ---- the connectives

pub and-true : (p q : Bool) → p ≡ true → q ≡ true → (p && q) ≡ true
and-true true q e f = f
and-true false q e f = e

pub and_left : (p q : Bool) → (p && q) ≡ true → p ≡ true
and_left true q e = refl
and_left false q e = e

pub and_right : (p q : Bool) → (p && q) ≡ true → q ≡ true
and_right true q e = e
and_right false q e = true-false false e refl

pub and-false_left : (p q : Bool) → p ≡ false → (p && q) ≡ false
and-false_left true q e = true-false true refl e
and-false_left false q e = refl

pub and-false_right : (p q : Bool) → q ≡ false → (p && q) ≡ false
and-false_right true q e = e
and-false_right false q e = refl

pub and_comm : (p q : Bool) → (p && q) ≡ (q && p)
and_comm true true = refl
and_comm true false = refl
and_comm false true = refl
and_comm false false = refl

pub or_left : (p q : Bool) → p ≡ true → (p || q) ≡ true
or_left true q e = refl
or_left false q e = true-false false e refl

pub or_right : (p q : Bool) → q ≡ true → (p || q) ≡ true
or_right true q e = refl
or_right false q e = e

pub or_cases : (p q : Bool) → (p || q) ≡ true → (p ≡ true) ⊎ (q ≡ true)
or_cases true q e = inl refl
or_cases false q e = inr e

pub or-false : (p q : Bool) → p ≡ false → q ≡ false → (p || q) ≡ false
or-false true q e f = e
or-false false q e f = f

pub or-false_left : (p q : Bool) → (p || q) ≡ false → p ≡ false
or-false_left true q e = e
or-false_left false q e = refl

pub or-false_right : (p q : Bool) → (p || q) ≡ false → q ≡ false
or-false_right true q e = true-false true refl e
or-false_right false q e = e

pub or-nothing : (p : Bool) → (p || false) ≡ p
or-nothing true = refl
or-nothing false = refl

-- two tests with the same cases are equal
pub same_test : (p q : Bool) → (p ≡ true → q ≡ true) → (q ≡ true → p ≡ true) → p ≡ q
same_test true q f g = sym (f refl)
same_test false true f g = g refl
same_test false false f g = refl

pub differ_sym : (p q : Bool) → differ p q ≡ differ q p
differ_sym true true = refl
differ_sym true false = refl
differ_sym false true = refl
differ_sym false false = refl

pub differ_self : (p : Bool) → differ p p ≡ false
differ_self true = refl
differ_self false = refl

pub differ-false : (p q : Bool) → differ p q ≡ false → p ≡ q
differ-false true true e = refl
differ-false true false e = true-false true refl e
differ-false false true e = true-false true refl e
differ-false false false e = refl

-- ---- equality of numbers as a test

pub eqb_same : (n : ℕ) → eqb n n ≡ true
eqb_same n = eq-eqb n n refl

pub eqb_sym : (m n : ℕ) → eqb m n ≡ eqb n m
eqb_sym m n =
    same_test (eqb m n) (eqb n m) (λ e. eq-eqb n m (sym (eqb-true m n e))) (λ e. eq-eqb m n (sym (eqb-true n m e)))

-- a test that holds at z, restricted to z
pub only_at : (t : ℕ → Bool) (z : ℕ) → t z ≡ true → (v : ℕ) → (t v && eqb z v) ≡ eqb z v
only_at t z e v =
    same_test (t v && eqb z v) (eqb z v) (and_right (t v) (eqb z v)) (λ q. and-true (t v) (eqb z v) (ap t (sym (eqb-true z v q)) ∙ e) q)

-- ---- on

-- a test as a number, as `usize::from` makes it
pub from_on : (p : Bool) → from_bool p ≡ on p 1
from_on true = refl
from_on false = refl

pub on-true : (p : Bool) (x : ℕ) → p ≡ true → on p x ≡ x
on-true true x e = refl
on-true false x e = true-false false e refl

pub on-false : (p : Bool) (x : ℕ) → p ≡ false → on p x ≡ 0
on-false true x e = true-false true refl e
on-false false x e = refl

pub on-zero : (p : Bool) → on p 0 ≡ 0
on-zero true = refl
on-zero false = refl

pub on-le : (p : Bool) (x y : ℕ) → x ≤ y → on p x ≤ on p y
on-le true x y h = h
on-le false x y h = omega arith

pub on_most : (p : Bool) (x : ℕ) → on p x ≤ x
on_most true x = omega arith
on_most false x = omega arith

-- a test that holds wherever another does counts as much
pub on_mono : (p q : Bool) (x : ℕ) → (p ≡ true → q ≡ true) → on p x ≤ on q x
on_mono true true x f = omega arith
on_mono true false x f = true-false false (f refl) refl
on_mono false q x f = omega arith

pub on-not : (p : Bool) (x : ℕ) → on p x + on (not p) x ≡ x
on-not true x = omega arith
on-not false x = omega arith

pub on_split : (p q : Bool) (x : ℕ) → on p x ≡ on (p && q) x + on (p && not q) x
on_split true true x = omega arith
on_split true false x = omega arith
on_split false q x = refl

pub on-and : (p q : Bool) (x : ℕ) → on (p && q) x ≡ on p (on q x)
on-and true q x = refl
on-and false q x = refl

-- of two tests that exclude each other
pub on-or : (p q : Bool) (x : ℕ) → (p ≡ true → q ≡ false) → on (p || q) x ≡ on p x + on q x
on-or true q x f = let h : on q x ≡ 0 = on-false q x (f refl) in omega arith
on-or false q x f = omega arith

-- ---- cond

pub cond-true {ℓ} : {A : Type ℓ} (b : Bool) (x y : A) → b ≡ true → cond b x y ≡ x
cond-true true x y e = refl
cond-true false x y e = true-false false e refl

pub cond-false {ℓ} : {A : Type ℓ} (b : Bool) (x y : A) → b ≡ false → cond b x y ≡ y
cond-false true x y e = true-false true refl e
cond-false false x y e = refl
