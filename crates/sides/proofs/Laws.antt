-- What is true of words of a side. Bits are put in from the lowest: a word of the first d bits is below 2 ^ d, so one more bit stands
-- clear above them, and the list of set bits grows by one at its end. Taking the lowest set bit away drops the head of that list.
-- Contents: the lowest set bit; one bit more; `bits`, a word by its bits; the words of a set of nodes. Assumes nothing.
use mathlib.Core.Path.{◌≡◌, refl, sym, ap, ◌∙◌}
use mathlib.Core.Bool.{Bool, true, false, cond}
use mathlib.Core.List.{List, [], ◌∷◌, ◌++◌, append_assoc, append-nil}
use Prim.Native.Nat.{ℕ, zero, suc, ◌+◌, ◌-◌, ◌*◌, ◌/◌, ◌%◌, ◌^◌, ◌≤◌, ◌<◌, min}
use native.Mathlib.Nat.{pow-suc, add-zero, add-suc, zero-add}
use native.Mathlib.Decide.{dec_lt}
use native.Mathlib.Omega.{arith}
use lib.ListN.{length}
use lib.Dec.{eqb}
use lib.Pow.{pow_mono}
use lib.Count.{ones, ones_step, count_trailing_zeros, under}
use borrow.Author.Tests.{lt-ltb, le-ltb}
use Rattle.meaning.specs.Sums.{sum, on, those}
use Rattle.meaning.specs.Split.{word, members}
use Rattle.laws.specs.Sums.{sum_ext, sum-zero, sum_range}
use Rattle.laws.specs.Words.{in_word, bits-lt as bitsOf-lt, word-bits as word-bitsOf}
use Rattle.sides.specs.Bits.{rising, nodes_in, bits}

-- ---- the lowest set bit

-- it lies below the width, and it is set
pub lowest : (d x : ℕ) → 0 < x → x < 2 ^ d → (count_trailing_zeros d x < d) × (2 ^ count_trailing_zeros d x ≤ x)
unfolding count_trailing_zeros
lowest zero x some fits = absurd (omega arith)
lowest (suc d) x some fits = go (x % 2) refl (λ e. lowest d (x / 2) (omega arith) (omega (arith, pow-suc 2 d)))
  where
    go : (r : ℕ) → x % 2 ≡ r → (x % 2 ≡ 0 → (count_trailing_zeros d (x / 2) < d) × (2 ^ count_trailing_zeros d (x / 2) ≤ x / 2))
        → (under r (count_trailing_zeros d (x / 2)) < suc d) × (2 ^ under r (count_trailing_zeros d (x / 2)) ≤ x)
    go zero e less =
        let h = less e in (omega arith, omega (arith, pow-suc 2 (count_trailing_zeros d (x / 2))))
    go (suc r) e less = (omega arith, omega arith)

-- it is the head of the list of set bits, and without it the tail is left
pub rising-next : (d from x : ℕ) → 0 < x → x < 2 ^ d
    → rising d from x ≡ (from + count_trailing_zeros d x) ∷ rising d from (x - 2 ^ count_trailing_zeros d x)
unfolding rising count_trailing_zeros
rising-next zero from x some fits = absurd (omega arith)
rising-next (suc d) from x some fits = go (x % 2) refl (λ e. rising-next d (suc from) (x / 2) (omega arith) (omega (arith, pow-suc 2 d)))
  where
    go : (r : ℕ) → x % 2 ≡ r
        → (x % 2 ≡ 0 → rising d (suc from) (x / 2) ≡ (suc from + count_trailing_zeros d (x / 2)) ∷ rising d (suc from) (x / 2 - 2 ^ count_trailing_zeros d (x / 2)))
        → rising (suc d) from x ≡ (from + under r (count_trailing_zeros d (x / 2))) ∷ rising (suc d) from (x - 2 ^ under r (count_trailing_zeros d (x / 2)))
    go zero e less =
        let t = count_trailing_zeros d (x / 2) in
        let even : (x - 2 ^ suc t) % 2 ≡ 0 = omega (arith, pow-suc 2 t) in
        let half : (x - 2 ^ suc t) / 2 ≡ x / 2 - 2 ^ t = omega (arith, pow-suc 2 t) in
        let place : from + suc t ≡ suc from + t = omega arith in
        rw (e, even, half, place, less e)
    go (suc r) e less =
        let odd : x % 2 ≡ 1 = omega arith in
        let even : (x - 1) % 2 ≡ 0 = omega arith in
        let half : (x - 1) / 2 ≡ x / 2 = omega arith in
        rw (odd, even, half, add-zero)

-- as many as there are ones
pub length-rising : (d from x : ℕ) → x < 2 ^ d → length (rising d from x) ≡ ones x
unfolding rising ones
length-rising zero from x fits = let z : x ≡ 0 = omega arith in rw z
length-rising (suc d) from x fits = go (x % 2) refl (length-rising d (suc from) (x / 2) (omega (arith, pow-suc 2 d)))
  where
    go : (r : ℕ) → x % 2 ≡ r → length (rising d (suc from) (x / 2)) ≡ ones (x / 2) → length (rising (suc d) from x) ≡ ones x
    go zero e less = rw (ones_step x, e) (less ∙ sym (zero-add _))
    go (suc r) e less =
        let odd : x % 2 ≡ 1 = omega arith in
        rw (ones_step x, odd, less) (omega arith)

-- 0 has no set bit
pub rising-zero : (d from : ℕ) → rising d from 0 ≡ []
unfolding rising
rising-zero zero from = refl
rising-zero (suc d) from = rising-zero d (suc from)

-- ---- one bit more

rising_none : (from x : ℕ) → rising 0 from x ≡ []
unfolding rising
rising_none from x = refl

rising_step : (d from x : ℕ) → rising (suc d) from x ≡ cond (eqb (x % 2) 1) (from ∷ rising d (suc from) (x / 2)) (rising d (suc from) (x / 2))
unfolding rising
rising_step d from x = refl

parted : (b : Bool) (from : ℕ) (l m : List ℕ) → cond b (from ∷ (l ++ m)) (l ++ m) ≡ cond b (from ∷ l) l ++ m
parted true from l m = refl
parted false from l m = refl

on_double : (c : Bool) (x : ℕ) → on c (x * 2) ≡ on c x * 2
on_double true x = refl
on_double false x = refl

-- bit d put on top of a word of d bits comes last
pub rising_more : (d from x : ℕ) (c : Bool) → x < 2 ^ d → rising (suc d) from (x + on c (2 ^ d)) ≡ rising d from x ++ cond c ((from + d) ∷ []) []
unfolding rising
rising_more zero from x true fits = let z : x ≡ 0 = omega arith in rw (z, add-zero)
rising_more zero from x false fits = let z : x ≡ 0 = omega arith in rw z
rising_more (suc d) from x c fits = go (rising_more d (suc from) (x / 2) c (omega (arith, pow-suc 2 d)))
  where
    go : rising (suc d) (suc from) (x / 2 + on c (2 ^ d)) ≡ rising d (suc from) (x / 2) ++ cond c ((suc from + d) ∷ []) []
        → rising (suc (suc d)) from (x + on c (2 ^ suc d)) ≡ rising (suc d) from x ++ cond c ((from + suc d) ∷ []) []
    go less =
        let double : on c (2 ^ suc d) ≡ on c (2 ^ d) * 2 = rw (pow-suc 2 d) (on_double c (2 ^ d)) in
        let parity : (x + on c (2 ^ suc d)) % 2 ≡ x % 2 = omega arith in
        let half : (x + on c (2 ^ suc d)) / 2 ≡ x / 2 + on c (2 ^ d) = omega arith in
        let place : from + suc d ≡ suc from + d = omega arith in
        rising_step (suc d) from (x + on c (2 ^ suc d))
        ∙ rw (parity, half, less, place) (parted (eqb (x % 2) 1) from (rising d (suc from) (x / 2)) _)

-- bits above the width are not looked at
pub rising_wide : (e d from x : ℕ) → d ≤ e → x < 2 ^ d → rising e from x ≡ rising d from x
rising_wide zero d from x h fits = let z : d ≡ 0 = omega arith in rw z
rising_wide (suc e) d from x h fits = go (dec_lt d (suc e)) (λ k. rising_wide e d from x k fits)
  where
    go : Dec (d < suc e) → (d ≤ e → rising e from x ≡ rising d from x) → rising (suc e) from x ≡ rising d from x
    go (yes k) less =
        let none : x ≡ x + on false (2 ^ e) = omega arith in
        ap (rising (suc e) from) none
        ∙ rising_more e from x false (omega (arith, pow_mono {i = d} {j = e} (omega arith)))
        ∙ append-nil (rising e from x)
        ∙ less (omega arith)
    go (no k) less = let z : d ≡ suc e = omega arith in rw z

-- ---- a word by its bits

pub bits_none : (from : ℕ) (S : ℕ → Bool) → bits from 0 S ≡ 0
unfolding bits sum
bits_none from S = refl

pub bits_more : (from m : ℕ) (S : ℕ → Bool) → bits from (suc m) S ≡ bits from m S + on (S (from + m)) (2 ^ m)
unfolding bits sum
bits_more from m S = refl

pub bits-lt : (from m : ℕ) (S : ℕ → Bool) → bits from m S < 2 ^ m
unfolding bits
bits-lt from m S = bitsOf-lt m (λ b. S (from + b))

-- the nodes that it holds
pub those-bits : (from m : ℕ) (S : ℕ → Bool) → those (from + m) S ≡ those from S ++ rising m from (bits from m S)
unfolding those rising bits sum
those-bits from zero S = rw (add-zero, append-nil)
those-bits from (suc m) S =
    rw (add-suc from m, those-bits from m S, append_assoc)
    (ap (λ l. those from S ++ l) (sym (rising_more m from (bits from m S) (S (from + m)) (bits-lt from m S))))

-- ---- the words of a set of nodes

-- word i holds the 64 bits from node 64 i on, as far as there are nodes
pub word-bits : (i n : ℕ) (S : ℕ → Bool) → word n S i ≡ bits (64 * i) (min 64 (n - 64 * i)) S
unfolding bits
word-bits i n S =
    let m = min 64 (n - 64 * i) in
    let bit : ℕ → ℕ = λ b. on (in_word n S i b) (2 ^ b) in
    let all : 64 ≡ m + (64 - m) = omega arith in
    let here : sum m bit ≡ sum m (λ b. on (S (64 * i + b)) (2 ^ b)) = sum_ext m bit _ (λ b h.
    let node : i * 64 + b ≡ 64 * i + b = omega arith in rw (lt-ltb (i * 64 + b) n (omega arith), node)) in
    let none : sum (64 - m) (λ b. bit (m + b)) ≡ 0 = sum-zero (64 - m) _ (λ b h. rw (le-ltb (i * 64 + (m + b)) n (omega arith))) in
    word-bitsOf n S i ∙ ap (λ k. sum k bit) all ∙ sum_range m (64 - m) bit ∙ omega arith

from_none : (m : ℕ) (S : ℕ → Bool) → those m S ≡ rising m 0 (bits 0 m S)
unfolding those
from_none m S = ap (λ k. those k S) (sym (zero-add m)) ∙ those-bits 0 m S

-- the words of a set of nodes list exactly its members, rising
pub words_list : (n : ℕ) (S : ℕ → Bool) → n ≤ 128 → nodes_in (word n S 0) (word n S 1) ≡ members n S
words_list n S few = rw (word-bits 0 n S, word-bits 1 n S) (go (dec_lt 64 n))
  where
    part : (from m : ℕ) → m ≤ 64 → rising 64 from (bits from m S) ≡ rising m from (bits from m S)
    part from m h = rising_wide 64 m from (bits from m S) h (bits-lt from m S)

    go : Dec (64 < n) → rising 64 0 (bits 0 (min 64 (n - 0)) S) ++ rising 64 64 (bits 64 (min 64 (n - 64)) S) ≡ those n S
    go (yes more) =
        let one : min 64 (n - 0) ≡ 64 = omega arith in
        let two : min 64 (n - 64) ≡ n - 64 = omega arith in
        let all : 64 + (n - 64) ≡ n = omega arith in
        rw (one, two, part 64 (n - 64) (omega arith), ← from_none 64 S, ← those-bits 64 (n - 64) S, all)
    go (no h) =
        let one : min 64 (n - 0) ≡ n = omega arith in
        let two : min 64 (n - 64) ≡ 0 = omega arith in
        rw (one, two, part 0 n (omega arith), part 64 0 (omega arith), rising_none, ← from_none n S) (append-nil (those n S))
