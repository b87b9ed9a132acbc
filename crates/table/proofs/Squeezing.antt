-- Renaming rows in place and leaving out those whose ends became one. After r rows the ones that stay are at the front, and the rows from
-- r on are as they were, since a row goes to a place at or before its own: so the next row is still what was given. A row left out has both
-- ends on one side of every set, and counts for nothing. Assumes nothing.
use Prim.Native.Nat.{ℕ, ◌+◌, ◌≤◌, ◌<◌}
use mathlib.Core.Path.{◌≡◌, refl, sym, ap, ◌∙◌}
use mathlib.Core.Bool.{Bool, not}
use mathlib.Core.List.{List}
use mathlib.Core.Logic.{⊎_elim}
use native.Mathlib.Omega.{arith}
use native.Mathlib.Numerals.{add-one}
use lib.ListN.{length, get_or, set, length-set}
use lib.Seq.{get_or-set_same, get_or-set_other}
use lib.Dec.{eqb}
use borrow.Author.Tests.{eqb-true, eq-eqb}
use Rattle.meaning.specs.Sums.{on, differ}
use Rattle.laws.specs.Bools.{bool_cases, cases_eq, on-false, on_most, differ_self}
use Rattle.laws.specs.Sums.{sum_none, sum-suc, sum_ext}
use Rattle.table.specs.Floor.{across, new_end, Squeezed}

-- from place r on the list is as it was
pub record Kept (r : ℕ) (l₀ l : List ℕ) : Type 0 where
  pub size : length l ≡ length l₀
  pub old : (i : ℕ) → r ≤ i → get_or l i 0 ≡ get_or l₀ i 0

pub kept-all : (l : List ℕ) → Kept 0 l l
kept-all l = record { size = refl; old = λ i h. refl }

-- a store before place r + 1
pub kept_more : {r : ℕ} {l₀ l : List ℕ} (to x : ℕ) → Kept r l₀ l → to ≤ r → Kept (r + 1) l₀ (set l to x)
kept_more {r} {l₀} {l} to x k h =
    record {
      size = length-set l to x ∙ k.size;
      old = λ i g. get_or-set_other l to i x 0 (λ q. omega arith) ∙ k.old i (omega arith);
    }

-- ---- a row in three lists

-- the three lists after a row was stored at the place `to`
module _ (to x y z : ℕ) (a b w : List ℕ) where
  -- the rows before it are untouched
  across-set : (S : ℕ → Bool) → across to S (set a to x) (set b to y) (set w to z) ≡ across to S a b w
  across-set S =
      sum_ext
      to
      (λ i. on (differ (S (get_or (set a to x) i 0)) (S (get_or (set b to y) i 0))) (get_or (set w to z) i 0))
      (λ i. on (differ (S (get_or a i 0)) (S (get_or b i 0))) (get_or w i 0))
      (λ i h.
      let e : get_or (set a to x) i 0 ≡ get_or a i 0 = get_or-set_other a to i x 0 (λ q. omega arith) in
      let f : get_or (set b to y) i 0 ≡ get_or b i 0 = get_or-set_other b to i y 0 (λ q. omega arith) in
      let g : get_or (set w to z) i 0 ≡ get_or w i 0 = get_or-set_other w to i z 0 (λ q. omega arith) in
      rw (e, f, g))

  -- and with it they are one more
  across_more : (S : ℕ → Bool) → to < length a → to < length b → to < length w
      → across (to + 1) S (set a to x) (set b to y) (set w to z) ≡ across to S a b w + on (differ (S x) (S y)) z
  across_more S ha hb hw =
      let e : get_or (set a to x) to 0 ≡ x = get_or-set_same a to x 0 ha in
      let f : get_or (set b to y) to 0 ≡ y = get_or-set_same b to y 0 hb in
      let g : get_or (set w to z) to 0 ≡ z = get_or-set_same w to z 0 hw in
      ap (λ n. across n S (set a to x) (set b to y) (set w to z)) (add-one to)
      ∙ sum-suc to (λ i. on (differ (S (get_or (set a to x) i 0)) (S (get_or (set b to y) i 0))) (get_or (set w to z) i 0))
      ∙ ap (λ n. n + on (differ (S (get_or (set a to x) to 0)) (S (get_or (set b to y) to 0))) (get_or (set w to z) to 0)) (across-set S)
      ∙ rw (e, f, g)

-- ---- all rows

-- after r rows: those that stay are squeezed, and the later ones as they were
pub record Squeezing (r : ℕ) (name a₀ b₀ w₀ a b w : List ℕ) (to : ℕ) : Type 0 where
  pub done : Squeezed r name a₀ b₀ w₀ a b w to
  pub kept_a : Kept r a₀ a
  pub kept_b : Kept r b₀ b
  pub kept_w : Kept r w₀ w

pub squeezing_none : (name a b w : List ℕ) → Squeezing 0 name a b w a b w 0
squeezing_none name a b w =
    record {
      done = record {
        a_size = refl;
        b_size = refl;
        w_size = refl;
        fewer = omega arith;
        from = λ i h. absurd (omega arith);
        apart = λ i h e. omega arith;
        same = λ S. sum_none _ ∙ sym (sum_none _);
      };
      kept_a = kept-all a;
      kept_b = kept-all b;
      kept_w = kept-all w;
    }

module _ {r to : ℕ} {name a₀ b₀ w₀ a b w : List ℕ} (s : Squeezing r name a₀ b₀ w₀ a b w to)
    (ha : r < length a₀) (hb : r < length b₀) (hw : r < length w₀) where
  abbrev x : ℕ
  x = new_end name a r

  abbrev y : ℕ
  y = new_end name b r

  abbrev z : ℕ
  z = get_or w r 0

  -- the row is still the one given
  x_is : x ≡ new_end name a₀ r
  x_is = ap (λ v. get_or name v 0) (s.kept_a.old r (omega arith))

  y_is : y ≡ new_end name b₀ r
  y_is = ap (λ v. get_or name v 0) (s.kept_b.old r (omega arith))

  z_is : z ≡ get_or w₀ r 0
  z_is = s.kept_w.old r (omega arith)

  room_a : to < length a
  room_a = omega (arith, s.done.fewer, s.kept_a.size)

  room_b : to < length b
  room_b = omega (arith, s.done.fewer, s.kept_b.size)

  room_w : to < length w
  room_w = omega (arith, s.done.fewer, s.kept_w.size)

  abbrev next : ℕ
  next = to + on (not (eqb x y)) 1

  from_more : (i : ℕ) → i < next
      → (q : ℕ) × (q < r + 1)
      × (get_or (set a to x) i 0 ≡ new_end name a₀ q) × (get_or (set b to y) i 0 ≡ new_end name b₀ q) × (get_or (set w to z) i 0 ≡ get_or w₀ q 0)
  from_more i h =
      ⊎_elim
      (λ e. (
        r,
        omega arith,
        ap (λ k. get_or (set a to x) k 0) e ∙ get_or-set_same a to x 0 room_a ∙ x_is,
        ap (λ k. get_or (set b to y) k 0) e ∙ get_or-set_same b to y 0 room_b ∙ y_is,
        ap (λ k. get_or (set w to z) k 0) e ∙ get_or-set_same w to z 0 room_w ∙ z_is,
      ))
      (λ ne.
      let t = s.done.from i (omega (arith, on_most (not (eqb x y)) 1)) in (
        t.0,
        omega arith,
        get_or-set_other a to i x 0 ne ∙ t.2,
        get_or-set_other b to i y 0 ne ∙ t.3,
        get_or-set_other w to i z 0 ne ∙ t.4,
      ))
      (cases_eq i to)

  apart_more : (i : ℕ) → i < next → get_or (set a to x) i 0 ≡ get_or (set b to y) i 0 → ⊥
  apart_more i h q =
      ⊎_elim
      (λ e.
      let one : x ≡ y =
      sym (get_or-set_same a to x 0 room_a)
      ∙ ap (λ k. get_or (set a to x) k 0) (sym e)
      ∙ q
      ∙ ap (λ k. get_or (set b to y) k 0) e
      ∙ get_or-set_same b to y 0 room_b in
      omega (arith, ap (λ t. on (not t) 1) (eq-eqb x y one)))
      (λ ne.
      s.done.apart i (omega (arith, on_most (not (eqb x y)) 1)) (sym (get_or-set_other a to i x 0 ne) ∙ q ∙ get_or-set_other b to i y 0 ne))
      (cases_eq i to)

  same_more : (S : ℕ → Bool) → across next S (set a to x) (set b to y) (set w to z) ≡ across (r + 1) (λ v. S (get_or name v 0)) a₀ b₀ w₀
  same_more S =
      let row : across (r + 1) (λ v. S (get_or name v 0)) a₀ b₀ w₀ ≡ across r (λ v. S (get_or name v 0)) a₀ b₀ w₀ + on (differ (S x) (S y)) z =
      ap (λ n. across n (λ v. S (get_or name v 0)) a₀ b₀ w₀) (add-one r)
      ∙ sum-suc r (λ i. on (differ (S (new_end name a₀ i)) (S (new_end name b₀ i))) (get_or w₀ i 0))
      ∙ rw (x_is, y_is, z_is) in
      ⊎_elim
      (λ t.
      let here : next ≡ to = omega (arith, ap (λ q. on (not q) 1) t) in
      let none : on (differ (S x) (S y)) z ≡ 0 =
      on-false (differ (S x) (S y)) z (ap (λ v. differ (S v) (S y)) (eqb-true x y t) ∙ differ_self (S y)) in
      ap (λ n. across n S (set a to x) (set b to y) (set w to z)) here
      ∙ across-set to x y z a b w S
      ∙ omega (arith, s.done.same S, row, none))
      (λ f.
      let here : next ≡ to + 1 = omega (arith, ap (λ q. on (not q) 1) f) in
      ap (λ n. across n S (set a to x) (set b to y) (set w to z)) here
      ∙ across_more to x y z a b w S room_a room_b room_w
      ∙ omega (arith, s.done.same S, row))
      (bool_cases (eqb x y))

  pub squeezing_more : Squeezing (r + 1) name a₀ b₀ w₀ (set a to x) (set b to y) (set w to z) next
  squeezing_more =
      record {
        done = record {
          a_size = length-set a to x ∙ s.kept_a.size;
          b_size = length-set b to y ∙ s.kept_b.size;
          w_size = length-set w to z ∙ s.kept_w.size;
          fewer = omega (arith, on_most (not (eqb x y)) 1, s.done.fewer);
          from = from_more;
          apart = apart_more;
          same = same_more;
        };
        kept_a = kept_more to x s.kept_a s.done.fewer;
        kept_b = kept_more to y s.kept_b s.done.fewer;
        kept_w = kept_more to z s.kept_w s.done.fewer;
      }
