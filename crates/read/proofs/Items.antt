-- What is known of a record, whatever it is found to be. A record that is not wrong has a length byte of two or more and ends within the end, and it is a
-- row exactly when its kind is 2. Each fact is one of the tests by which `item_at` picks its case.
use Prim.Native.Nat.{ℕ, ◌+◌, ◌≤◌}
use mathlib.Core.Path.{◌≡◌, refl}
use mathlib.Core.Bool.{Bool, true, false, cond}
use mathlib.Core.List.{List}
use native.Mathlib.Omega.{arith}
use lib.ListN.{get_or}
use lib.Dec.{eqb, ltb, leb}
use borrow.Author.Tests.{ltb-false, leb-true, eqb-true}
use Rattle.meaning.specs.File.{get16, Row, Item, broken, nodes_item, row_item, skipped, item_at}

-- a record that is not wrong: its length, the offset after it, and that it ends within the end
pub record Whole (s : List ℕ) (end at to : ℕ) : Type 0 where
  pub some : 2 ≤ get_or s at 0
  pub next : to ≡ at + get_or s at 0
  pub within : to ≤ end

-- a row's record
pub record IsRow (s : List ℕ) (at : ℕ) (r : Row) : Type 0 where
  pub kind : get_or s (at + 1) 0 ≡ 2
  pub eight : get_or s at 0 ≡ 8
  pub numbers : r ≡ record { a = get16 s (at + 2); b = get16 s (at + 4); w = get16 s (at + 6) }

abbrev pub Sound : List ℕ → ℕ → ℕ → Item → Type 0
Sound s end at (broken num place) = Unit
Sound s end at (nodes_item n to) = Whole s end at to × (get_or s (at + 1) 0 ≡ 2 → ⊥)
Sound s end at (row_item r to) = Whole s end at to × IsRow s at r
Sound s end at (skipped to) = Whole s end at to × (get_or s (at + 1) 0 ≡ 2 → ⊥)

module _ (s : List ℕ) (end at : ℕ) (seen : Bool) where
  -- a case that a test picks
  picked : (t : Bool) (x y : Item) → (t ≡ true → Sound s end at x) → (t ≡ false → Sound s end at y) → Sound s end at (cond t x y)
  picked true x y holds fails = holds refl
  picked false x y holds fails = fails refl

  pub sound : Sound s end at (item_at s end at seen)
  unfolding item_at
  sound =
      let len = get_or s at 0 in
      let kind = get_or s (at + 1) 0 in
      picked (ltb len 2) _ _ (λ _. tt) (λ long.
      picked (ltb end (at + len)) _ _ (λ _. tt) (λ ends.
      let whole : Whole s end at (at + len) = record { some = ltb-false len 2 long; next = refl; within = ltb-false end (at + len) ends } in
      picked (leb 128 kind) _ _ (λ high. (whole, λ two. omega (arith, leb-true 128 kind high))) (λ _.
      picked (eqb kind 1) _ _
      (λ one.
      picked (eqb len 4) _ _ (λ _. picked seen _ _ (λ _. tt) (λ _. (whole, λ two. omega (arith, eqb-true kind 1 one)))) (λ _. tt))
      (λ _.
      picked (eqb kind 2) _ _
      (λ two.
      picked (eqb len 8) _ _
      (λ eight.
      picked seen _ _
      (λ _. (whole, record { kind = eqb-true kind 2 two; eight = eqb-true len 8 eight; numbers = refl }))
      (λ _. tt))
      (λ _. tt))
      (λ _. tt)))))
