-- Sums and counts of std, over lists, as those of `meaning`, over places.
use Prim.Native.Nat.{ℕ, zero, suc, ◌≤◌}
use mathlib.Core.Path.{◌≡◌, refl, sym, ap, ◌∙◌}
use mathlib.Core.Bool.{Bool, true, false, cond, ◌&&◌}
use mathlib.Core.List.{List, map}
use native.Mathlib.Numerals.{add-one}
use native.Mathlib.Omega.{arith}
use lib.Dec.{eqb}
use lib.ListN.{length, take, get_or}
use lib.Seq.{take_all}
use Rattle.std.specs.List.{zip, range_with_len, sum_by, count_by, sum as total}
use Rattle.std.specs.Int.{from_bool}
use Rattle.std.proofs.Common.{length-take-le, get_or-take}
use Rattle.std.proofs.lemmas.List.Sums.{sum_by_more, sum-map}
use Rattle.std.proofs.lemmas.List.FromFn.{length-range_with_len, get_or-range_with_len}
use Rattle.std.proofs.lemmas.Slice.Zip.{length-zip, get_or-zip}
use Rattle.meaning.specs.Sums.{sum, on}
use Rattle.laws.specs.Bools.{from_on}
use Rattle.laws.specs.Sums.{sum_none, sum-suc, sum_ext}

-- the first k elements
front : {X : Type 0} (f : X → ℕ) (xs : List X) (d : X) (k : ℕ) → k ≤ length xs → sum_by f (take k xs) ≡ sum k (λ i. f (get_or xs i d))
front f xs d zero few = sym (sum_none (λ i. f (get_or xs i d)))
front f xs d (suc k) few =
    rw (sum-suc k (λ i. f (get_or xs i d)), ← front f xs d k (omega arith), ← add-one)
    (sum_by_more f xs k d (omega arith))

-- all of them
by_place : {X : Type 0} (f : X → ℕ) (xs : List X) (d : X) (n : ℕ) → length xs ≡ n → sum_by f xs ≡ sum n (λ i. f (get_or xs i d))
by_place f xs d n all = ap (sum_by f) (sym (take_all n xs (omega arith))) ∙ front f xs d n (omega arith)

pub total_by_place : (xs : List ℕ) → total xs ≡ sum (length xs) (λ i. get_or xs i 0)
total_by_place xs = by_place (λ x. x) xs 0 (length xs) refl

cond_on : (t : Bool) → cond t 1 0 ≡ on t 1
cond_on true = refl
cond_on false = refl

-- pairs of elements at the first r places of two lists
pub pairs_by_place : (a b : List ℕ) (r x y : ℕ) → r ≤ length a → r ≤ length b
    → total (map (λ p. from_bool (eqb p.0 x && eqb p.1 y)) (zip (take r a) (take r b)))
    ≡ sum r (λ j. on (eqb (get_or a j 0) x && eqb (get_or b j 0) y) 1)
pairs_by_place a b r x y in_a in_b =
    let like : ℕ × ℕ → ℕ = λ p. from_bool (eqb p.0 x && eqb p.1 y) in
    let ps = zip (take r a) (take r b) in
    sum-map like ps
    ∙ by_place like ps (0, 0) r (omega (arith, length-zip (take r a) (take r b), length-take-le r a in_a, length-take-le r b in_b))
    ∙ sum_ext r (λ j. like (get_or ps j (0, 0))) (λ j. on (eqb (get_or a j 0) x && eqb (get_or b j 0) y) 1)
    (λ j below. rw (get_or-zip (take r a) (take r b) j (0, 0) (omega (arith, length-take-le r a in_a)) (omega (arith, length-take-le r b in_b)), get_or-take r a j 0 below, get_or-take r b j 0 below)
    (from_on (eqb (get_or a j 0) x && eqb (get_or b j 0) y)))

-- the numbers below n that pass a test
pub count_by_place : (t : ℕ → Bool) (n : ℕ) → count_by t (range_with_len 0 n) ≡ sum n (λ r. on (t r) 1)
count_by_place t n =
    let counts : ℕ → ℕ = λ r. cond (t r) 1 0 in
    let rs = range_with_len 0 n in
    by_place counts rs 0 n (length-range_with_len 0 n)
    ∙ sum_ext n (λ j. counts (get_or rs j 0)) (λ r. on (t r) 1)
    (λ j below. let here : get_or rs j 0 ≡ j = omega (arith, get_or-range_with_len 0 n j 0 below) in rw here (cond_on (t j)))

-- the length of a front, for `using`
pub ruleset fronts = (length-take-le)
