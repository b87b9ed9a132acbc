-- Laws of `sum`, the sum of f 0 .. f (n - 1).
--
-- In order: one term more (`sum-suc`); sums of equal, smaller and added terms (`sum_ext`, `sum-le`, `sum-add`, and both at once:
-- `sum-add-le`); terms that are zero, a single term (`sum-zero`, `sum_one`, `sum_term_le`, `sum_some`); bounds (`sum_most`); a test
-- splits a sum (`sum_split`); two ranges and two sums (`sum_range`, `sum_swap`).
--
-- Each is an induction on the number of terms. Lemmas about terms ask of each term below n only. Assumes nothing.
use Rattle.std.specs.Prelude.{ℕ, zero, suc, ◌+◌, ◌*◌, ◌≤◌, ◌<◌, ◌≡◌, refl, Bool, not, ◌&&◌, eqb}
use Rattle.std.proofs.Common.{sym, ap, ◌∙◌, ⊎_elim, add-zero, add-suc, arith, ne_eqb}
use Rattle.meaning.specs.Sums.{sum, on}
use Rattle.laws.specs.Bools.{cases_eq, on-not, on_split, on-true, on-false, eqb_same}

pub sum_none : (f : ℕ → ℕ) → sum 0 f ≡ 0
unfolding sum
sum_none f = refl

pub sum-suc : (n : ℕ) (f : ℕ → ℕ) → sum (suc n) f ≡ sum n f + f n
unfolding sum
sum-suc n f = refl

-- ---- equal, smaller, added

pub sum_ext : (n : ℕ) (f g : ℕ → ℕ) → ((i : ℕ) → i < n → f i ≡ g i) → sum n f ≡ sum n g
unfolding sum
sum_ext zero f g h = refl
sum_ext (suc n) f g h =
    let e : sum n f ≡ sum n g = sum_ext n f g (λ i l. h i (omega arith)) in
    omega (arith, h n (omega arith))

pub sum-le : (n : ℕ) (f g : ℕ → ℕ) → ((i : ℕ) → i < n → f i ≤ g i) → sum n f ≤ sum n g
unfolding sum
sum-le zero f g h = omega arith
sum-le (suc n) f g h =
    let e : sum n f ≤ sum n g = sum-le n f g (λ i l. h i (omega arith)) in
    omega (arith, h n (omega arith))

pub sum-add : (n : ℕ) (f g : ℕ → ℕ) → sum n (λ i. f i + g i) ≡ sum n f + sum n g
unfolding sum
sum-add zero f g = refl
sum-add (suc n) f g =
    let e : sum n (λ i. f i + g i) ≡ sum n f + sum n g = sum-add n f g in
    omega arith

-- what holds term by term holds of the sums: two against one
pub sum-add-le : (n : ℕ) (f g h : ℕ → ℕ) → ((i : ℕ) → i < n → f i + g i ≤ h i) → sum n f + sum n g ≤ sum n h
sum-add-le n f g h t = let e : sum n (λ i. f i + g i) ≤ sum n h = sum-le n (λ i. f i + g i) h t in omega (arith, sum-add n f g)

pub sum-add_ext : (n : ℕ) (f g h : ℕ → ℕ) → ((i : ℕ) → i < n → h i ≡ f i + g i) → sum n h ≡ sum n f + sum n g
sum-add_ext n f g h t = sum_ext n h (λ i. f i + g i) t ∙ sum-add n f g

-- ---- zero terms, one term

pub sum-zero : (n : ℕ) (f : ℕ → ℕ) → ((i : ℕ) → i < n → f i ≡ 0) → sum n f ≡ 0
unfolding sum
sum-zero zero f h = refl
sum-zero (suc n) f h =
    let e : sum n f ≡ 0 = sum-zero n f (λ i l. h i (omega arith)) in
    omega (arith, h n (omega arith))

-- only the term at k counts
pub sum_one : (n : ℕ) (f : ℕ → ℕ) (k : ℕ) → k < n → ((i : ℕ) → i < n → (i ≡ k → ⊥) → f i ≡ 0) → sum n f ≡ f k
unfolding sum
sum_one zero f k l h = absurd (omega arith)
sum_one (suc n) f k l h =
    let rest : k < n → sum n f ≡ f k = λ m. sum_one n f k m (λ i j. h i (omega arith)) in
    ⊎_elim
    (λ e.
    let z : sum n f ≡ 0 = sum-zero n f (λ i j. h i (omega arith) (λ q. omega arith)) in
    omega (arith, ap f e))
    (λ ne. let z : f n ≡ 0 = h n (omega arith) ne in omega (arith, rest (omega arith)))
    (cases_eq n k)

pub sum_term_le : (n : ℕ) (f : ℕ → ℕ) (i : ℕ) → i < n → f i ≤ sum n f
unfolding sum
sum_term_le zero f i l = absurd (omega arith)
sum_term_le (suc n) f i l =
    let below : i < n → f i ≤ sum n f = sum_term_le n f i in
    ⊎_elim (λ e. omega (arith, ap f e)) (λ ne. omega (arith, below (omega arith))) (cases_eq i n)

-- a sum that is not 0 has a term that is not 0
pub sum_some : (n : ℕ) (f : ℕ → ℕ) → 1 ≤ sum n f → (i : ℕ) × (i < n) × (1 ≤ f i)
unfolding sum
sum_some zero f h = absurd (omega arith)
sum_some (suc n) f h =
    let rest : 1 ≤ sum n f → (i : ℕ) × (i < n) × (1 ≤ f i) = sum_some n f in
    ⊎_elim
    (λ e. let r : (i : ℕ) × (i < n) × (1 ≤ f i) = rest (omega arith) in (r.0, omega arith, r.2))
    (λ ne. (n, omega arith, omega arith))
    (cases_eq (f n) 0)

-- ---- bounds

pub sum_most : (n : ℕ) (f : ℕ → ℕ) (c : ℕ) → ((i : ℕ) → i < n → f i ≤ c) → sum n f ≤ n * c
unfolding sum
sum_most zero f c h = omega arith
sum_most (suc n) f c h =
    let e : sum n f ≤ n * c = sum_most n f c (λ i l. h i (omega arith)) in
    omega (arith, h n (omega arith))

pub sum_const : (n : ℕ) (c : ℕ) → sum n (λ i. c) ≡ n * c
unfolding sum
sum_const zero c = omega arith
sum_const (suc n) c = let e : sum n (λ i. c) ≡ n * c = sum_const n c in omega arith

pub sum_longer : (n m : ℕ) (f : ℕ → ℕ) → n ≤ m → sum n f ≤ sum m f
unfolding sum
sum_longer n zero f h = let e : n ≡ 0 = omega arith in omega (arith, ap (λ k. sum k f) e)
sum_longer n (suc m) f h =
    let below : n ≤ m → sum n f ≤ sum m f = sum_longer n m f in
    ⊎_elim (λ e. omega (arith, ap (λ k. sum k f) e)) (λ ne. omega (arith, below (omega arith))) (cases_eq n (suc m))

-- ---- a test splits a sum

-- over those that pass and over those that do not
pub sum_split : (n : ℕ) (t : ℕ → Bool) (f : ℕ → ℕ) → sum n f ≡ sum n (λ i. on (t i) (f i)) + sum n (λ i. on (not (t i)) (f i))
sum_split n t f = sum-add_ext n (λ i. on (t i) (f i)) (λ i. on (not (t i)) (f i)) f (λ i l. sym (on-not (t i) (f i)))

pub sum-on_split : (n : ℕ) (p q : ℕ → Bool) (f : ℕ → ℕ)
    → sum n (λ i. on (p i) (f i)) ≡ sum n (λ i. on (p i && q i) (f i)) + sum n (λ i. on (p i && not (q i)) (f i))
sum-on_split n p q f =
    sum-add_ext
    n
    (λ i. on (p i && q i) (f i))
    (λ i. on (p i && not (q i)) (f i))
    (λ i. on (p i) (f i))
    (λ i l. on_split (p i) (q i) (f i))

-- the one term that equals k
pub sum-on_one : (n : ℕ) (k : ℕ) (f : ℕ → ℕ) → k < n → sum n (λ i. on (eqb k i) (f i)) ≡ f k
sum-on_one n k f l =
    sum_one n (λ i. on (eqb k i) (f i)) k l (λ i j ne. on-false (eqb k i) (f i) (ne_eqb k i (λ e. ne (sym e))))
    ∙ on-true (eqb k k) (f k) (eqb_same k)

-- ---- two ranges, two sums

pub sum_range : (n m : ℕ) (f : ℕ → ℕ) → sum (n + m) f ≡ sum n f + sum m (λ i. f (n + i))
unfolding sum
sum_range n zero f = rw (add-zero n) (omega arith)
sum_range n (suc m) f =
    rw (add-suc n m) (let e : sum (n + m) f ≡ sum n f + sum m (λ i. f (n + i)) = sum_range n m f in omega arith)

pub sum_swap : (n m : ℕ) (f : ℕ → ℕ → ℕ) → sum n (λ i. sum m (λ j. f i j)) ≡ sum m (λ j. sum n (λ i. f i j))
unfolding sum
sum_swap zero m f = sym (sum-zero m (λ j. 0) (λ j l. refl))
sum_swap (suc n) m f =
    ap (λ k. k + sum m (λ j. f n j)) (sum_swap n m f) ∙ sym (sum-add m (λ j. sum n (λ i. f i j)) (λ j. f n j))
