-- Hanging nodes on their neighbours. Each node that is hung has a target that is held, and a node that is held is not hung: so the
-- target of a node stays its own target. Assumes nothing.
use Prim.Native.Nat.{ℕ, ◌+◌, ◌≤◌, ◌<◌}
use mathlib.Core.Path.{◌≡◌, refl, sym, ap, ◌∙◌}
use mathlib.Core.Bool.{Bool, true, false}
use mathlib.Core.List.{List}
use mathlib.Core.Logic.{⊎_elim}
use native.Mathlib.Omega.{arith}
use lib.ListN.{length, get_or, length-set}
use lib.Seq.{get_or-set_same, get_or-set_other}
use Rattle.laws.specs.Bools.{cases_eq, true-false}
use Rattle.table.specs.Table.{Numbered}
use Rattle.table.specs.Floor.{Stored}
use Rattle.table.specs.Hang.{Hooked, HungOn, Joins, Hung}
use Rattle.table.proofs.Storing.{few, a_below, b_below, ends_apart}

-- after some rows: what was hung, and that its targets are held
pub record Hanging (count rows : ℕ) (a b w deg to₀ to : List ℕ) (held : List Bool) : Type 0 where
  pub hung : Hung count rows a b w deg to₀ to
  pub to_size : length to ≡ 128
  pub held_size : length held ≡ 128
  pub holds : (v : ℕ) → v < count → (get_or to v 0 ≡ v → ⊥) → get_or held (get_or to v 0) false ≡ false → ⊥

pub hanging_none : {count : ℕ} (a b w deg to : List ℕ) (held : List Bool) → count ≤ 128 → length to ≡ 128 → length held ≡ 128 → Numbered to
    → Hanging count 0 a b w deg to to held
hanging_none a b w deg to held few to-size held-size numbers =
    record {
      hung = record {
        size = refl;
        inside = λ v h. omega (arith, numbers v (omega arith));
        settled = λ v h. ap (λ u. get_or to u 0) (numbers v (omega arith));
        heavy = λ v h n. absurd (n (numbers v (omega arith)));
      };
      to_size = to-size;
      held_size = held-size;
      holds = λ v h n. absurd (n (numbers v (omega arith)));
    }

-- one row more, nothing hung for it yet
pub hanging_suc : {count r : ℕ} {a b w deg to₀ to : List ℕ} {held : List Bool} → Hanging count r a b w deg to₀ to held
    → Hanging count (r + 1) a b w deg to₀ to held
hanging_suc s =
    record {
      hung = record {
        size = s.hung.size;
        inside = s.hung.inside;
        settled = s.hung.settled;
        heavy = λ v h n. let t = s.hung.heavy v h n in (t.0, omega (arith, t.1), t.2, t.3);
      };
      to_size = s.to_size;
      held_size = s.held_size;
      holds = s.holds;
    }

-- a row joins x and y
module _ {count rows : ℕ} {a b w : List ℕ} (st : Stored count rows a b w) (r x y : ℕ) (here : r < rows) (joins : Joins a b r x y) where
  x_in : x < count
  x_in = ⊎_elim (λ j. omega (arith, j.0, a_below st r here)) (λ j. omega (arith, j.0, b_below st r here)) joins

  y_in : y < count
  y_in = ⊎_elim (λ j. omega (arith, j.1, b_below st r here)) (λ j. omega (arith, j.1, a_below st r here)) joins

  apart : x ≡ y → ⊥
  apart e = ⊎_elim (λ j. ends_apart st r here (j.0 ∙ e ∙ sym j.1)) (λ j. ends_apart st r here (j.1 ∙ sym e ∙ sym j.0)) joins

  module _ {deg to₀ to : List ℕ} {held : List Bool} (s : Hanging count (r + 1) a b w deg to₀ to held) where
    -- x was hung on y
    module _ {twice : ℕ} {to' : List ℕ} {held' : List Bool} (is : twice ≡ get_or w r 0 + get_or w r 0) (k : Hooked x y twice deg to to' held held') where
      -- x has y, and the other nodes what they had
      new : get_or to' x 0 ≡ y
      new = ap (λ m. get_or m x 0) k.put_to ∙ get_or-set_same to x y 0 (omega (arith, x_in, s.to_size, few st))

      old : (v : ℕ) → (v ≡ x → ⊥) → get_or to' v 0 ≡ get_or to v 0
      old v n = ap (λ m. get_or m v 0) k.put_to ∙ get_or-set_other to x v y 0 n

      -- y is held, and so are those that were
      now_held : get_or held' y false ≡ true
      now_held = ap (λ m. get_or m y false) k.put_held ∙ get_or-set_same held y true false (omega (arith, y_in, s.held_size, few st))

      still_held : (v : ℕ) → get_or held' v false ≡ false → get_or held v false ≡ false
      still_held v z =
          ⊎_elim
          (λ e. true-false (get_or held' v false) (ap (λ u. get_or held' u false) e ∙ now_held) z)
          (λ n. sym (ap (λ m. get_or m v false) k.put_held ∙ get_or-set_other held y v true false n) ∙ z)
          (cases_eq v y)

      -- nothing but x itself has x
      others : (v : ℕ) → v < count → (v ≡ x → ⊥) → get_or to v 0 ≡ x → ⊥
      others v h n e = s.holds v h (λ q. n (sym q ∙ e)) (ap (λ u. get_or held u false) e ∙ k.free.bare)

      settled_more : (v : ℕ) → v < count → get_or to' (get_or to' v 0) 0 ≡ get_or to' v 0
      settled_more v h =
          ⊎_elim
          (λ e.
          let f : get_or to' v 0 ≡ y = ap (λ u. get_or to' u 0) e ∙ new in
          ap (λ u. get_or to' u 0) f ∙ old y (λ q. apart (sym q)) ∙ k.free.top ∙ sym f)
          (λ n. ap (λ u. get_or to' u 0) (old v n) ∙ old (get_or to v 0) (others v h n) ∙ s.hung.settled v h ∙ sym (old v n))
          (cases_eq v x)

      hooked : Hanging count (r + 1) a b w deg to₀ to' held'
      hooked =
          record {
            hung = record {
              size = ap length k.put_to ∙ length-set to x y ∙ s.hung.size;
              inside =
                  λ v h.
                  ⊎_elim
                  (λ e. omega (arith, ap (λ u. get_or to' u 0) e, new, y_in))
                  (λ n. omega (arith, old v n, s.hung.inside v h))
                  (cases_eq v x);
              settled = settled_more;
              heavy =
                  λ v h m.
                  ⊎_elim
                  (λ e.
                  let f : get_or to' v 0 ≡ y = ap (λ u. get_or to' u 0) e ∙ new in
                  (r, omega arith, rw (f, e) joins, omega (arith, is, k.free.half, ap (λ u. get_or deg u 0) e)))
                  (λ n. rw (old v n) (s.hung.heavy v h (λ q. m (old v n ∙ q))))
                  (cases_eq v x);
            };
            to_size = ap length k.put_to ∙ length-set to x y ∙ s.to_size;
            held_size = ap length k.put_held ∙ length-set held y true ∙ s.held_size;
            holds =
                λ v h m z.
                ⊎_elim
                (λ e. true-false (get_or held' y false) now_held (sym (ap (λ u. get_or held' u false) (ap (λ u. get_or to' u 0) e ∙ new)) ∙ z))
                (λ n. s.holds v h (λ q. m (old v n ∙ q)) (still_held (get_or to v 0) (ap (λ u. get_or held' u false) (sym (old v n)) ∙ z)))
                (cases_eq v x);
          }

    pub hanging_more : (twice : ℕ) {to' : List ℕ} {held' : List Bool} → twice ≡ get_or w r 0 + get_or w r 0
        → HungOn x y twice deg to to' held held'
        → Hanging count (r + 1) a b w deg to₀ to' held'
    hanging_more twice is p = ⊎_elim (hooked is) (λ e. rw (e.0, e.1) s) p
