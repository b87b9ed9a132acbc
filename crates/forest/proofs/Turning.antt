-- Turning the table along an order o without repetition. After p nodes the sums hold what the rows of those nodes held at first, each of
-- their rows holds what the rows of the nodes before it held, and every other row is as it was: the next node's row is still its own.
use Prim.Native.Nat.{ℕ, ◌+◌, ◌^◌, ◌<◌}
use mathlib.Core.Path.{◌≡◌, refl, sym, ap, ◌∙◌}
use mathlib.Core.List.{List}
use native.Mathlib.Omega.{arith}
use native.Mathlib.Numerals.{add-one}
use lib.ListN.{length, get_or, set}
use lib.Seq.{get_or-set_same, get_or-set_other}
use borrow.Author.Count.{below_more}
use Rattle.laws.specs.Sums.{sum_none, sum-suc}
use Rattle.table.specs.Table.{cell_at}
use Rattle.forest.specs.Scan.{above, Exchanged, Turnable, Spread}

pub record Turning (o m₀ : List ℕ) (p : ℕ) (m sums place : List ℕ) : Type 0 where
  pub done : Spread p o m₀ m place
  pub rest : (u : ℕ) → u < 128 → ((q : ℕ) → q < p → get_or o q 0 ≡ u → ⊥) → (y : ℕ) → y < 128 → cell_at m u y ≡ cell_at m₀ u y
  pub added : (y : ℕ) → y < 128 → get_or sums y 0 ≡ above o m₀ p y

pub begins : (o m sums place : List ℕ) → ((y : ℕ) → y < 128 → get_or sums y 0 ≡ 0) → Turning o m 0 m sums place
begins o m sums place z =
    record {
      done = record { rows = λ q y h. absurd (omega arith); places = λ q h. absurd (omega arith) };
      rest = λ u hu n y hy. refl;
      added = λ y h. z y h ∙ sym (sum_none (λ q. cell_at m (get_or o q 0) y));
    }

module _ {o m₀ m sums place : List ℕ} {p : ℕ} (t : Turning o m₀ p m sums place) (ok : Turnable o m₀) (h : p < length o) where
  -- the next node's row has not been turned
  own_row : (y : ℕ) → y < 128 → cell_at m (get_or o p 0) y ≡ cell_at m₀ (get_or o p 0) y
  own_row = t.rest (get_or o p 0) (ok.inside p h) (λ q hq e. let s : q ≡ p = ok.once q p (omega arith) h e in omega arith)

  above_more : (y : ℕ) → above o m₀ (p + 1) y ≡ above o m₀ p y + cell_at m₀ (get_or o p 0) y
  above_more y = ap (λ k. above o m₀ k y) (add-one p) ∙ sum-suc p (λ q. cell_at m₀ (get_or o q 0) y)

  adds : (y : ℕ) → y < 128 → get_or sums y 0 + cell_at m (get_or o p 0) y ≡ above o m₀ (p + 1) y
  adds y hy = omega (arith, t.added y hy, own_row y hy, above_more y)

  -- so the sums have room for it
  pub room : (y : ℕ) → y < 128 → get_or sums y 0 + cell_at m (get_or o p 0) y < 2 ^ 32
  room y hy = rw (adds y hy) (ok.fits (p + 1) y (omega arith) hy)

  pub next : {m' sums' : List ℕ} → length place ≡ 128 → Exchanged (get_or o p 0) m m' sums sums'
      → Turning o m₀ (p + 1) m' sums' (set place (get_or o p 0) p)
  next {m'} {sums'} span x =
      record {
        done =
            record {
              rows = λ q y hq hy.
                  below_more
                  (λ q. (y : ℕ) → y < 128 → cell_at m' (get_or o q 0) y ≡ above o m₀ q y)
                  p
                  (λ q hq y hy. x.others (get_or o q 0) y (other q hq) (ok.inside q (omega arith)) hy ∙ t.done.rows q y hq hy)
                  (λ y hy. x.row y hy ∙ t.added y hy)
                  q
                  hq
                  y
                  hy;
              places =
                  below_more
                  (λ q. get_or (set place (get_or o p 0) p) (get_or o q 0) 0 ≡ q)
                  p
                  (λ q hq. get_or-set_other place (get_or o p 0) (get_or o q 0) p 0 (other q hq) ∙ t.done.places q hq)
                  (get_or-set_same place (get_or o p 0) p 0 (omega (arith, ok.inside p h)));
            };
        rest = λ u hu no y hy. x.others u y (λ e. no p (omega arith) (sym e)) hu hy ∙ t.rest u hu (λ q hq. no q (omega arith)) y hy;
        added = λ y hy. x.added y hy ∙ adds y hy;
      }
    where
      other : (q : ℕ) → q < p → get_or o q 0 ≡ get_or o p 0 → ⊥
      other q hq e = let s : q ≡ p = ok.once q p (omega arith) h e in omega arith
