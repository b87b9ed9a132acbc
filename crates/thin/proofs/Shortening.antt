-- Filling the short list. After i rows the three lists hold, at their front, the rows below i that keep something: the next row is put at their
-- end, or left out, as it keeps something or nothing.
use Prim.Native.Nat.{ℕ, suc, ◌+◌, ◌≤◌, ◌<◌}
use mathlib.Core.Path.{◌≡◌, refl, sym, ap, ◌∙◌, subst}
use mathlib.Core.Bool.{Bool, cond}
use mathlib.Core.List.{List, [], ◌∷◌, map, map-append}
use mathlib.Core.Logic.{⊎_elim}
use native.Mathlib.Omega.{arith}
use native.Mathlib.Numerals.{add-one}
use lib.ListN.{length, set, length-map}
use lib.Dec.{ltb}
use Rattle.meaning.specs.Sums.{on, those, laid}
use Rattle.laws.specs.Bools.{bool_cases, cond-true, cond-false}
use Rattle.laws.specs.Choose.{size_most}
use Rattle.laws.specs.Sums.{sum-suc}
use Rattle.laws.specs.Lists.{length-laid, laid_more, those_yes, those_no, length-those}
use Rattle.meaning.specs.Links.{LinkList}
use Rattle.lists.specs.declared.Row.{Row}
use Rattle.lists.specs.declared.Columns.{Columns}
use Rattle.thin.specs.Passes.{kept_at, thinned, stays_in, Roomy, Put, Shortened}

-- ---- the rows that pass a test, laid at the front of a list

module _ (f : ℕ → ℕ) (t : ℕ → Bool) (old : List ℕ) where
  pub laid-those : (i at : ℕ) (l : List ℕ) → l ≡ laid (map f (those i t)) old → at ≡ length (those i t) → at < length old
      → cond (t i) (set l at (f i)) l ≡ laid (map f (those (i + 1) t)) old
  laid-those i at l e is h =
      ⊎_elim
      (λ yes'.
      cond-true (t i) _ _ yes'
      ∙ ap (λ k. set k at (f i)) e
      ∙ ap (λ k. set (laid (map f (those i t)) old) k (f i)) (is ∙ sym (length-map (those i t) f))
      ∙ sym (laid_more (map f (those i t)) (f i) old (omega (arith, length-map (those i t) f)))
      ∙ ap (λ k. laid k old) (sym (map-append f (those i t) (i ∷ [])) ∙ ap (map f) (sym (those_yes i t yes') ∙ ap (λ k. those k t) (sym (add-one i)))))
      (λ no'. cond-false (t i) _ _ no' ∙ e ∙ ap (λ k. laid (map f k) old) (sym (those_no i t no') ∙ ap (λ k. those k t) (sym (add-one i))))
      (bool_cases (t i))

length-those_more : (i : ℕ) (t : ℕ → Bool) → length (those (i + 1) t) ≡ length (those i t) + on (t i) 1
length-those_more i t =
    omega (arith, ap (λ k. length (those k t)) (add-one i), length-those (suc i) t, length-those i t, sum-suc i (λ v. on (t v) 1))

those_most : (n : ℕ) (t : ℕ → Bool) → length (those n t) ≤ n
those_most n t = omega (arith, length-those n t, size_most n t)

-- ---- all rows

module _ {k : ℕ} {firsts : List ℕ} {L : LinkList} where
  pub none : (out : Columns) → Shortened k firsts L 0 out out 0
  unfolding those
  none out = record { count = refl; laid_a = refl; laid_b = refl; laid_w = refl }

  module _ {r at n : ℕ} {out₀ out : Columns} (s : Shortened k firsts L r out₀ out at) (h : r < n) (room : Roomy n out₀) where
    -- no more rows are written than passed, so there is a place for the next
    place : at < n
    place = omega (arith, s.count, those_most r (λ j. ltb 0 (kept_at k firsts L j)))

    -- three lists that are as long as when the pass began
    kept_long : (f : ℕ → ℕ) (old l : List ℕ) → l ≡ laid (map f (stays_in k firsts L r)) old → n ≤ length old → at + 1 ≤ length l
    kept_long f old l e long =
        let new = map f (stays_in k firsts L r) in
        let wrote : length new ≡ at = length-map (stays_in k firsts L r) f ∙ sym s.count in
        omega (arith, place, ap length e, length-laid new old (omega (arith, place)))

    pub next_place : Roomy (at + 1) out
    next_place =
        record {
          room_a = kept_long L.a out₀.a.now out.a.now s.laid_a room.room_a;
          room_b = kept_long L.b out₀.b.now out.b.now s.laid_b room.room_b;
          room_w = kept_long (kept_at k firsts L) out₀.w.now out.w.now s.laid_w room.room_w;
        }

    pub more : {row : Row} {out' : Columns} {at' : ℕ} → row ≡ thinned k firsts L r → Put row at out out' at'
        → Shortened k firsts L (r + 1) out₀ out' at'
    more {row} {out'} {at'} e put =
        let t : ℕ → Bool = λ j. ltb 0 (kept_at k firsts L j) in
        let p = subst (λ v. Put v at out out' at') e put in
        record {
          count = p.count ∙ ap (λ n. n + on (t r) 1) s.count ∙ sym (length-those_more r t);
          laid_a = p.put_a ∙ laid-those L.a t out₀.a.now r at out.a.now s.laid_a s.count (omega (arith, place, room.room_a));
          laid_b = p.put_b ∙ laid-those L.b t out₀.b.now r at out.b.now s.laid_b s.count (omega (arith, place, room.room_b));
          laid_w = p.put_w ∙ laid-those (kept_at k firsts L) t out₀.w.now r at out.w.now s.laid_w s.count (omega (arith, place, room.room_w));
        }
