-- Laws of sets as words: bit b of a number made of powers of two, and the two words of a side.
--
-- In order: `bits_of`, the number whose bit b is set exactly when a test holds of b, with its bound (`bits-lt`), its bits (`bits_at`), and its count of
-- ones (`bits-ones`); `word` as such a number (`word-bits`), hence its bound (`word-lt`), a node's bit (`word_node`), every bit (`word_at`);
-- the ones of both words are the nodes (`size_ones`).
--
-- A number below 2 ^ m with 2 ^ m added to it has bit m and keeps its lower bits: an induction on the number of bits. Assumes nothing.
use Rattle.std.specs.Prelude.{ℕ, zero, suc, ◌+◌, ◌-◌, ◌*◌, ◌/◌, ◌%◌, ◌^◌, ◌≤◌, ◌<◌, ◌≡◌, refl, Bool, true, false, ◌&&◌, eqb, ltb}
use Rattle.std.proofs.Common.{sym, ap, ◌∙◌, subst, ⊎_elim, zero-add, add_comm, one-mul, arith, pow_pos, pow-add, eq-eqb, ne_eqb, lt-ltb, le-ltb}
use Rattle.std.proofs.Math.Nat.{two-pow-succ, pow-succ', div-eq_of_lt, add-mul-div_left, add-mul-mod_self_left}
use Rattle.std.proofs.Math.Pow.{high}
use Rattle.std.specs.Int.Count.{ones, ones_in}
use Rattle.std.proofs.lemmas.Nat.{ones_cat}
use Rattle.meaning.specs.Sums.{sum, on}
use Rattle.meaning.specs.Split.{word, size_of}
use Rattle.laws.specs.Bools.{bool_cases, cases_eq, cases_lt, on-false, on-true, and_comm, and-false_left, and-false_right, on_most}
use Rattle.laws.specs.Sums.{sum-suc, sum_ext, sum-add_ext, sum_one, sum-zero, sum_range, sum_none}

-- the number whose bits below m are those that pass the test
abbrev pub bits_of : ℕ → (ℕ → Bool) → ℕ
bits_of m f = sum m (λ b. on (f b) (2 ^ b))

pub bits-lt : (m : ℕ) (f : ℕ → Bool) → bits_of m f < 2 ^ m
unfolding sum
bits-lt zero f = omega arith
bits-lt (suc m) f =
    let rest : bits_of m f < 2 ^ m = bits-lt m f in
    omega (arith, two-pow-succ m, on_most (f m) (2 ^ m))

-- one bit more: the highest, or the number stays
pub bits_yes : (m : ℕ) (f : ℕ → Bool) → f m ≡ true → bits_of (suc m) f ≡ 1 * 2 ^ m + bits_of m f
bits_yes m f e = sum-suc m (λ b. on (f b) (2 ^ b)) ∙ omega (arith, on-true (f m) (2 ^ m) e)

pub bits_no : (m : ℕ) (f : ℕ → Bool) → f m ≡ false → bits_of (suc m) f ≡ bits_of m f
bits_no m f e = sum-suc m (λ b. on (f b) (2 ^ b)) ∙ omega (arith, on-false (f m) (2 ^ m) e)

-- adding 2 ^ m changes no bit below m
low_bit : (m b x : ℕ) → b < m → (1 * 2 ^ m + x) / 2 ^ b % 2 ≡ x / 2 ^ b % 2
low_bit m b x h =
    let d = m - b - 1 in
    let e : m ≡ b + suc d = omega arith in
    let q : 2 ^ m ≡ 2 ^ b * (2 * 2 ^ d) = ap (λ k. 2 ^ k) e ∙ pow-add 2 b (suc d) ∙ ap (λ k. 2 ^ b * k) (pow-succ' 2 d) in
    ap (λ k. k / 2 ^ b % 2) (add_comm (1 * 2 ^ m) x ∙ ap (λ k. x + k) (one-mul (2 ^ m) ∙ q))
    ∙ ap (λ k. k % 2) (add-mul-div_left x (2 * 2 ^ d) (pow_pos b))
    ∙ add-mul-mod_self_left (x / 2 ^ b) 2 (2 ^ d)

pub bits_at : (m : ℕ) (f : ℕ → Bool) (b : ℕ) → b < m → bits_of m f / 2 ^ b % 2 ≡ on (f b) 1
bits_at zero f b h = absurd (omega arith)
bits_at (suc m) f b h =
    let x = bits_of m f in
    let top-yes : f m ≡ true → (1 * 2 ^ m + x) / 2 ^ m % 2 ≡ on (f m) 1 = λ e.
    ap (λ k. k % 2) (high 1 m (bits-lt m f)) ∙ sym (on-true (f m) 1 e) in
    let top-no : f m ≡ false → x / 2 ^ m % 2 ≡ on (f m) 1 = λ e.
    ap (λ k. k % 2) (div-eq_of_lt (bits-lt m f)) ∙ sym (on-false (f m) 1 e) in
    let below : b < m → x / 2 ^ b % 2 ≡ on (f b) 1 = bits_at m f b in
    ⊎_elim
    (λ q.
    ap (λ k. bits_of (suc m) f / 2 ^ k % 2) q
    ∙ ⊎_elim
    (λ e. ap (λ k. k / 2 ^ m % 2) (bits_yes m f e) ∙ top-yes e)
    (λ e. ap (λ k. k / 2 ^ m % 2) (bits_no m f e) ∙ top-no e)
    (bool_cases (f m))
    ∙ ap (λ k. on (f k) 1) (sym q))
    (λ ne.
    ⊎_elim
    (λ e. ap (λ k. k / 2 ^ b % 2) (bits_yes m f e) ∙ low_bit m b x (omega arith))
    (λ e. ap (λ k. k / 2 ^ b % 2) (bits_no m f e))
    (bool_cases (f m))
    ∙ below (omega arith))
    (cases_eq b m)

pub bits-ones : (m : ℕ) (f : ℕ → Bool) → ones (bits_of m f) ≡ size_of m f
unfolding ones ones_in sum
bits-ones zero f = refl
bits-ones (suc m) f =
    let rest : ones (bits_of m f) ≡ size_of m f = bits-ones m f in
    ⊎_elim
    (λ e. ap ones (bits_yes m f e) ∙ ones_cat m 1 (bits_of m f) (bits-lt m f) ∙ omega (arith, on-true (f m) 1 e))
    (λ e. ap ones (bits_no m f e) ∙ omega (arith, on-false (f m) 1 e))
    (bool_cases (f m))

-- ---- the words of a set of nodes below n

-- bit b of word i stands for node i * 64 + b
abbrev pub in_word : ℕ → (ℕ → Bool) → ℕ → ℕ → Bool
in_word n S i b = ltb (i * 64 + b) n && S (i * 64 + b)

-- no bit for a node that is not below n
past : (n : ℕ) (S : ℕ → Bool) (v : ℕ) → n ≤ v → (ltb v n && S v) ≡ false
past n S v h = and-false_left (ltb v n) (S v) (le-ltb v n h)

pub word-suc : (n : ℕ) (S : ℕ → Bool) (i : ℕ) → word (suc n) S i ≡ word n S i + on (S n && eqb (n / 64) i) (2 ^ (n % 64))
unfolding word sum
word-suc n S i = refl

-- node n adds its own bit to its own word
in_suc : (n : ℕ) (S : ℕ → Bool) (i b : ℕ) (c : ℕ) → on (in_word (suc n) S i b) c ≡ on (in_word n S i b) c + on (eqb (i * 64 + b) n && S n) c
in_suc n S i b c = go (i * 64 + b)
  where
    go : (v : ℕ) → on (ltb v (suc n) && S v) c ≡ on (ltb v n && S v) c + on (eqb v n && S n) c
    go v =
        ⊎_elim
        (λ e. rw (lt-ltb v (suc n) (omega arith), le-ltb v n (omega arith), eq-eqb v n e, ap S e) (omega arith))
        (λ ne.
        ⊎_elim
        (λ lt. rw (lt-ltb v (suc n) (omega arith), lt-ltb v n lt, ne_eqb v n ne) (omega arith))
        (λ le. rw (le-ltb v (suc n) (omega arith), le-ltb v n le, ne_eqb v n ne))
        (cases_lt v n))
        (cases_eq v n)

one_bit : (n : ℕ) (S : ℕ → Bool) (i : ℕ) → sum 64 (λ b. on (eqb (i * 64 + b) n && S n) (2 ^ b)) ≡ on (S n && eqb (n / 64) i) (2 ^ (n % 64))
one_bit n S i =
    ⊎_elim
    (λ e.
    sum_one 64 (λ b. on (eqb (i * 64 + b) n && S n) (2 ^ b)) (n % 64) (omega arith) (λ b l ne.
    on-false (eqb (i * 64 + b) n && S n) (2 ^ b) (and-false_left (eqb (i * 64 + b) n) (S n) (ne_eqb (i * 64 + b) n (λ q. ne (omega arith)))))
    ∙ ap (λ t. on (t && S n) (2 ^ (n % 64))) (eq-eqb (i * 64 + n % 64) n (omega arith))
    ∙ sym (ap (λ t. on (S n && t) (2 ^ (n % 64))) (eq-eqb (n / 64) i e) ∙ ap (λ t. on t (2 ^ (n % 64))) (and_comm (S n) true)))
    (λ ne.
    sum-zero 64 (λ b. on (eqb (i * 64 + b) n && S n) (2 ^ b)) (λ b l.
    on-false (eqb (i * 64 + b) n && S n) (2 ^ b) (and-false_left (eqb (i * 64 + b) n) (S n) (ne_eqb (i * 64 + b) n (λ q. ne (omega arith)))))
    ∙ sym (on-false (S n && eqb (n / 64) i) (2 ^ (n % 64)) (and-false_right (S n) (eqb (n / 64) i) (ne_eqb (n / 64) i ne))))
    (cases_eq (n / 64) i)

pub word-bits : (n : ℕ) (S : ℕ → Bool) (i : ℕ) → word n S i ≡ bits_of 64 (in_word n S i)
unfolding word
word-bits zero S i =
    sum_none (λ v. on (S v && eqb (v / 64) i) (2 ^ (v % 64)))
    ∙ sym (sum-zero 64 (λ b. on (in_word 0 S i b) (2 ^ b)) (λ b l. on-false (in_word 0 S i b) (2 ^ b) (past 0 S (i * 64 + b) (omega arith))))
word-bits (suc n) S i =
    word-suc n S i
    ∙ ap (λ k. k + on (S n && eqb (n / 64) i) (2 ^ (n % 64))) (word-bits n S i)
    ∙ ap (λ k. bits_of 64 (in_word n S i) + k) (sym (one_bit n S i))
    ∙ sym
    (sum-add_ext
    64
    (λ b. on (in_word n S i b) (2 ^ b))
    (λ b. on (eqb (i * 64 + b) n && S n) (2 ^ b))
    (λ b. on (in_word (suc n) S i b) (2 ^ b))
    (λ b l. in_suc n S i b (2 ^ b)))

-- it fits 64 bits
pub word-lt : (n : ℕ) (S : ℕ → Bool) (i : ℕ) → word n S i < 2 ^ 64
word-lt n S i = subst (λ x. x < 2 ^ 64) (sym (word-bits n S i)) (bits-lt 64 (in_word n S i))

-- each of its bits: set exactly when the node that it stands for is below n and in S
pub word_at : (n : ℕ) (S : ℕ → Bool) (i b : ℕ) → b < 64 → word n S i / 2 ^ b % 2 ≡ on (in_word n S i b) 1
word_at n S i b l = ap (λ x. x / 2 ^ b % 2) (word-bits n S i) ∙ bits_at 64 (in_word n S i) b l

-- node v is bit v mod 64 of word v div 64
pub word_node : (n : ℕ) (S : ℕ → Bool) (v : ℕ) → v < n → word n S (v / 64) / 2 ^ (v % 64) % 2 ≡ on (S v) 1
word_node n S v l =
    let e : v / 64 * 64 + v % 64 ≡ v = omega arith in
    word_at n S (v / 64) (v % 64) (omega arith) ∙ ap (λ u. on (ltb u n && S u) 1) e ∙ ap (λ t. on (t && S v) 1) (lt-ltb v n l)

-- the ones of a word, and of both: the nodes in S
pub word-ones : (n : ℕ) (S : ℕ → Bool) (i : ℕ) → ones (word n S i) ≡ size_of 64 (in_word n S i)
word-ones n S i = ap ones (word-bits n S i) ∙ bits-ones 64 (in_word n S i)

pub size_ones : (n : ℕ) (S : ℕ → Bool) → n ≤ 128 → ones (word n S 0) + ones (word n S 1) ≡ size_of n S
size_ones n S l =
    let f : ℕ → ℕ = λ v. on (ltb v n && S v) 1 in
    let low : size_of 64 (in_word n S 0) ≡ sum 64 f = sum_ext 64 (λ b. on (in_word n S 0 b) 1) f (λ b h. ap f (zero-add b)) in
    let whole : 128 ≡ n + (128 - n) = omega arith in
    let rest : sum 128 f ≡ sum n f + sum (128 - n) (λ i. f (n + i)) = ap (λ k. sum k f) whole ∙ sum_range n (128 - n) f in
    let none : sum (128 - n) (λ i. f (n + i)) ≡ 0 =
    sum-zero (128 - n) (λ i. f (n + i)) (λ i h. on-false (ltb (n + i) n && S (n + i)) 1 (past n S (n + i) (omega arith))) in
    let same : sum n f ≡ size_of n S = sum_ext n f (λ v. on (S v) 1) (λ v h. ap (λ t. on (t && S v) 1) (lt-ltb v n h)) in
    omega (arith, word-ones n S 0, word-ones n S 1, sum_range 64 64 f)
