-- The two stores of a row are the two halves of `reach`: the cables of a row from x to y count at (x, y) and at (y, x), and nowhere else.
use Prim.Native.Nat.{ℕ, ◌+◌, ◌*◌, ◌/◌, ◌%◌, ◌≤◌, ◌<◌}
use mathlib.Core.Path.{◌≡◌, refl, sym, ◌∙◌}
use mathlib.Core.Logic.{⊎_elim}
use mathlib.Core.Bool.{Bool, true, false, ◌&&◌}
use mathlib.Core.List.{List}
use native.Mathlib.Numerals.{add-one}
use native.Mathlib.Omega.{arith}
use native.Mathlib.Decide.{ℕ_discrete}
use borrow.Author.Tests.{eqb-true, eq-eqb, ne_eqb}
use lib.ListN.{length, get_or, set, length-set}
use lib.Seq.{get_or-set_same, get_or-set_other}
use lib.Dec.{eqb}
use Rattle.meaning.specs.Sums.{sum, on}
use Rattle.meaning.specs.Links.{given, list_of}
use Rattle.meaning.specs.Order.{reach, back}
use Rattle.laws.specs.Bools.{cases_eq, on_most}
use Rattle.laws.specs.Sums.{sum_none, sum-suc, sum_most, sum-zero}
use Rattle.table.specs.Table.{cell, Holds, Joined}

and_off : (a b p q : ℕ) → (a ≡ b → p ≡ q → ⊥) → eqb a b && eqb p q ≡ false
and_off a b p q h = go (eqb a b) (eqb p q) refl refl
  where
    go : (s t : Bool) → eqb a b ≡ s → eqb p q ≡ t → s && t ≡ false
    go true true e f = absurd (h (eqb-true a b e) (eqb-true p q f))
    go true false e f = refl
    go false true e f = refl
    go false false e f = refl

-- adding c at k adds it there and nowhere else
pub bumped : (l : List ℕ) (k c i : ℕ) → k < length l → get_or (set l k (get_or l k 0 + c)) i 0 ≡ get_or l i 0 + on (eqb i k) c
bumped l k c i h = go (ℕ_discrete i k)
  where
    go : Dec (i ≡ k) → get_or (set l k (get_or l k 0 + c)) i 0 ≡ get_or l i 0 + on (eqb i k) c
    go (yes e) = rw (eq-eqb i k e, e) (get_or-set_same l k (get_or l k 0 + c) 0 h)
    go (no ne) = rw (ne_eqb i k ne, get_or-set_other l k i (get_or l k 0 + c) 0 ne) (omega arith)

-- two places of the table are one place where their rows and columns are the same
same_place : (p q x y : ℕ) → q < 128 → y < 128 → eqb y q && eqb p x ≡ eqb (p * 128 + q) (x * 128 + y)
same_place p q x y q-in y_in = go (ℕ_discrete p x) (ℕ_discrete y q)
  where
    go : Dec (p ≡ x) → Dec (y ≡ q) → eqb y q && eqb p x ≡ eqb (p * 128 + q) (x * 128 + y)
    go (yes e) (yes f) = rw (eq-eqb p x e, eq-eqb y q f, eq-eqb (p * 128 + q) (x * 128 + y) (omega arith))
    go (yes e) (no f) = rw (ne_eqb y q f, ne_eqb (p * 128 + q) (x * 128 + y) (λ g. f (omega arith)))
    go (no e) d = rw (and_off y q p x (λ f g. e g), ne_eqb (p * 128 + q) (x * 128 + y) (λ g. e (omega arith)))

-- the table after the row's two stores
pub two_stores : (x y c : ℕ) (m : List ℕ) → length m ≡ 16384 → x < 128 → y < 128
    → let once = set m (x * 128 + y) (get_or m (x * 128 + y) 0 + c) in
    Joined x y c m (set once (y * 128 + x) (get_or once (y * 128 + x) 0 + c))
two_stores x y c m size x_in y_in =
    let once = set m (x * 128 + y) (get_or m (x * 128 + y) 0 + c) in
    record {
      size = simp length-set;
      more = λ p q p-in q-in.
          rw (same_place p q y x, same_place p q x y)
          (omega (arith, bumped once (y * 128 + x) c (p * 128 + q) (simp length-set (omega arith)), bumped m (x * 128 + y) c (p * 128 + q) (omega arith)));
    }

-- ---- the table, row by row

-- the first r rows are in the table
pub record Filling (a b w m : List ℕ) (r : ℕ) : Type 0 where
  pub size : length m ≡ 16384
  pub cells : (p q : ℕ) → p < 128 → q < 128
      → get_or m (p * 128 + q) 0 ≡ sum r (λ i. reach (eqb p) q (get_or a i 0) (get_or b i 0) (get_or w i 0))

pub filling_none : (a b w m : List ℕ) → length m ≡ 16384 → ((i : ℕ) → i < 16384 → get_or m i 0 ≡ 0) → Filling a b w m 0
filling_none a b w m size zeros =
    record {
      size = size;
      cells = λ p q p-in q-in.
          zeros (p * 128 + q) (omega arith) ∙ sym (sum_none (λ i. reach (eqb p) q (get_or a i 0) (get_or b i 0) (get_or w i 0)));
    }

pub filling_more : {a b w m m' : List ℕ} {r x y c : ℕ} → Filling a b w m r → x ≡ get_or a r 0 → y ≡ get_or b r 0 → c ≡ get_or w r 0
    → Joined x y c m m' → Filling a b w m' (r + 1)
filling_more {a} {b} {w} {m} {m'} {r} {x} {y} {c} f x_is y_is c-is j =
    record {
      size = j.size ∙ f.size;
      cells = λ p q p-in q-in.
          rw (
            add-one r,
            sum-suc r (λ i. reach (eqb p) q (get_or a i 0) (get_or b i 0) (get_or w i 0)),
            ← f.cells p q p-in q-in,
            ← x_is,
            ← y_is,
            ← c-is,
          )
          (j.more p q p-in q-in);
    }

-- no place holds more than two weights for each row
pub filling_light : {a b w m : List ℕ} {r : ℕ} → Filling a b w m r → ((i : ℕ) → i < r → get_or w i 0 ≤ 65535)
    → (k : ℕ) → k < 16384 → get_or m k 0 ≤ r * 131070
filling_light {a} {b} {w} {m} {r} f light k h =
    let p = k / 128 in
    let q = k % 128 in
    let at : k ≡ p * 128 + q = omega arith in
    let each : ℕ → ℕ = λ i. reach (eqb p) q (get_or a i 0) (get_or b i 0) (get_or w i 0) in
    rw at (rw (f.cells p q (omega arith) (omega arith)) (sum_most r each 131070 (λ i l.
    omega (
      arith,
      light i l,
      on_most (eqb (get_or a i 0) q && eqb p (get_or b i 0)) (get_or w i 0),
      on_most (eqb (get_or b i 0) q && eqb p (get_or a i 0)) (get_or w i 0),
    ))))

-- all rows are in: the diagonal is empty, since no row has both ends equal
pub filling_done : {a b w m : List ℕ} → Filling a b w m (length a) → ((r : ℕ) → r < length a → get_or a r 0 ≡ get_or b r 0 → ⊥)
    → (n : ℕ) → Holds (list_of (given n a b w)) m
unfolding back
filling_done {a} {b} {w} {m} f apart n =
    record { size = f.size; cells = λ p q p-in q-in. f.cells p q p-in q-in ∙ ⊎_elim (same p q) (other p q) (cases_eq p q) }
  where
    each : ℕ → ℕ → ℕ → ℕ
    each p q r = reach (eqb p) q (get_or a r 0) (get_or b r 0) (get_or w r 0)

    same : (p q : ℕ) → p ≡ q → sum (length a) (each p q) ≡ cell (list_of (given n a b w)) p q
    same p q e = rw (eq-eqb p q e) (sum-zero (length a) (each p q) (λ r h.
        rw (
          and_off (get_or a r 0) q p (get_or b r 0) (λ s t. apart r h (s ∙ sym e ∙ t)),
          and_off (get_or b r 0) q p (get_or a r 0) (λ s t. apart r h (sym (s ∙ sym e ∙ t))),
        )))

    other : (p q : ℕ) → (p ≡ q → ⊥) → sum (length a) (each p q) ≡ cell (list_of (given n a b w)) p q
    other p q ne = rw (ne_eqb p q ne)
