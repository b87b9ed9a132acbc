-- The trailer cut off. A record that is not wrong ends within the end, so no byte from the end on is looked at, and the run of the bytes before
-- the trailer is the file's.
use Prim.Native.Nat.{ℕ, zero, suc, ◌+◌, ◌≤◌, ◌<◌}
use mathlib.Core.Path.{◌≡◌, refl, ap, ◌∙◌}
use mathlib.Core.Bool.{Bool, true, false, cond}
use mathlib.Core.List.{List}
use native.Mathlib.Omega.{arith}
use lib.ListN.{length, get_or, take}
use lib.Dec.{eqb, ltb, leb}
use borrow.Author.Tests.{ltb-false, ltb-true, eqb-true}
use Rattle.std.proofs.lemmas.List.{get_or-take, length-take-le}
use Rattle.meaning.specs.File.{get16, Item, broken, nodes_item, row_item, skipped, item_at, Found, Run, follow, run_from, nothing, trailer_at, run_of}
use Rattle.read.specs.declared.Records.{Records}
use Rattle.read.specs.Records.{Cut, run_in}

-- two choices by one test
either : {A : Type 0} (t : Bool) {x y x' y' : A} → (t ≡ true → x ≡ x') → (t ≡ false → y ≡ y') → cond t x y ≡ cond t x' y'
either true holds fails = holds refl
either false holds fails = fails refl

module _ (s : List ℕ) (end : ℕ) where
  same16 : (at : ℕ) → at + 1 < end → get16 (take end s) at ≡ get16 s at
  same16 at h = rw (get_or-take end s at 0 (omega arith), get_or-take end s (at + 1) 0 h)

  same_item : (at : ℕ) (seen : Bool) → at < end → item_at (take end s) end at seen ≡ item_at s end at seen
  unfolding item_at
  same_item at seen h =
      let len = get_or s at 0 in
      let kind = get_or s (at + 1) 0 in
      rw (get_or-take end s at 0 h)
      (either (ltb len 2) (λ _. refl) (λ long.
      either (ltb end (at + len)) (λ _. refl) (λ ends.
      let some : 2 ≤ len = ltb-false len 2 long in
      let within : at + len ≤ end = ltb-false end (at + len) ends in
      rw (get_or-take end s (at + 1) 0 (omega arith))
      (either (leb 128 kind) (λ _. refl) (λ _.
      either (eqb kind 1)
      (λ _. either (eqb len 4) (λ e. let four : len ≡ 4 = eqb-true len 4 e in rw (same16 (at + 2) (omega arith))) (λ _. refl))
      (λ _.
      either (eqb kind 2)
      (λ _.
      either (eqb len 8)
      (λ e.
      let eight : len ≡ 8 = eqb-true len 8 e in
      rw (same16 (at + 2) (omega arith), same16 (at + 4) (omega arith), same16 (at + 6) (omega arith)))
      (λ _. refl))
      (λ _. refl)))))))

  follow_same : (x : Item) (f : Found) (go go' : ℕ → Found → Run) → ((to : ℕ) (g : Found) → go to g ≡ go' to g) → follow x f go ≡ follow x f go'
  follow_same (broken num place) f go go' same = refl
  follow_same (nodes_item n to) f go go' same = same to _
  follow_same (row_item r to) f go go' same = same to _
  follow_same (skipped to) f go go' same = same to f

  same_run : (turns at : ℕ) (f : Found) → run_from turns (take end s) end at f ≡ run_from turns s end at f
  unfolding run_from
  same_run zero at f = refl
  same_run (suc t) at f =
      either (ltb at end)
      (λ before. rw (same_item at f.seen (ltb-true at end before)) (follow_same (item_at s end at f.seen) f _ _ (λ to g. same_run t to g)))
      (λ _. refl)

pub end_is : {s : List ℕ} {r : Records} → Cut s r → length r.bytes.now ≡ trailer_at s
end_is {s} {r} cut = ap length cut.bytes ∙ length-take-le (trailer_at s) s (omega arith)

pub run_is : {s : List ℕ} {r : Records} → Cut s r → run_in r ≡ run_of s
unfolding run_of
run_is {s} {r} cut = rw (end_is cut, cut.bytes, cut.start) (same_run s (trailer_at s) (trailer_at s) _ nothing)
