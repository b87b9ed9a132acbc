-- Laws of the lists of the definitions: `has`, `listed`, `those`, `laid`, and lists whose elements differ.
--
-- In order: `has` of a longer list (`has-append`, `has-snoc`, `has-take-suc`), of an element and back to its place (`has-get_or`,
-- `has_at`, `has-take_at`); `Distinct` lists and their counts (`sum-has`: a sum over a distinct list is one over its places);
-- `listed` by place; `laid`, one store more (`laid_more`, `laid-listed-suc`) and by place; `those`.
--
-- Not here: laws of `take`, `drop`, `set`, `get_or`, `◌++◌` (`lib.Seq`, `lib.ListN`).
-- Each is an induction on a list or a number. Assumes nothing.
use Rattle.std.specs.Prelude.{ℕ, zero, suc, ◌+◌, ◌≤◌, ◌<◌, ◌≡◌, refl, Bool, true, false, ◌&&◌, ◌||◌, cond, List, [], ◌∷◌, ◌++◌, length, get_or, take, drop, set, eqb, ltb}
use Rattle.std.proofs.Common.{sym, ap, ◌∙◌, ⊎_elim, append-nil, arith, length-append, length-drop, take-suc, get_or-take, ext_get_or, length-take-le, take_at, eqb-true, eq-eqb, ne_eqb, lt-ltb, le-ltb, ltb-true}
use Rattle.std.proofs.Math.ListN.{get_or-append}
use Rattle.std.proofs.lemmas.List.{get_or_at, take-append-le}
use Rattle.meaning.specs.Sums.{sum, on, has, listed, those, laid}
use Rattle.laws.specs.Bools.{bool_cases, cases_eq, cases_lt, true-false, or_left, or_right, or_cases, or-nothing, eqb_same, on-or, on-false, and-true, and_left, and_right, and-false_right}
use Rattle.laws.specs.Sums.{sum-add_ext, sum-on_one, sum-zero}

-- ---- has

pub has-nil : (x : ℕ) → has [] x ≡ false
unfolding has
has-nil x = refl

pub has-append : (xs ys : List ℕ) (x : ℕ) → has (xs ++ ys) x ≡ (has xs x || has ys x)
unfolding has
has-append [] ys x = refl
has-append (z ∷ zs) ys x = go (eqb z x) (has-append zs ys x)
  where
    go : (b : Bool) → has (zs ++ ys) x ≡ (has zs x || has ys x) → (b || has (zs ++ ys) x) ≡ (b || has zs x || has ys x)
    go true e = refl
    go false e = e

pub has-snoc : (xs : List ℕ) (y x : ℕ) → has (xs ++ (y ∷ [])) x ≡ (has xs x || eqb y x)
unfolding has
has-snoc xs y x = has-append xs (y ∷ []) x ∙ ap (λ b. has xs x || b) (or-nothing (eqb y x))

pub has-take-suc : (l : List ℕ) (j x : ℕ) → j < length l → has (take (suc j) l) x ≡ (has (take j l) x || eqb (get_or l j 0) x)
has-take-suc l j x h = ap (λ m. has m x) (take-suc l j 0 h) ∙ has-snoc (take j l) (get_or l j 0) x

pub has-get_or : (l : List ℕ) (i : ℕ) → i < length l → has l (get_or l i 0) ≡ true
unfolding has
has-get_or [] i h = absurd (omega arith)
has-get_or (y ∷ ys) zero h = or_left (eqb y y) (has ys y) (eqb_same y)
has-get_or (y ∷ ys) (suc i) h = or_right (eqb y (get_or ys i 0)) (has ys (get_or ys i 0)) (has-get_or ys i (omega arith))

-- what is in a list stands somewhere
pub has_at : (l : List ℕ) (x : ℕ) → has l x ≡ true → (i : ℕ) × (i < length l) × (get_or l i 0 ≡ x)
unfolding has
has_at [] x e = true-false false e refl
has_at (y ∷ ys) x e =
    ⊎_elim
    (λ h. (0, omega arith, eqb-true y x h))
    (λ h. let r : (i : ℕ) × (i < length ys) × (get_or ys i 0 ≡ x) = has_at ys x h in (suc r.0, omega arith, r.2))
    (or_cases (eqb y x) (has ys x) e)

-- the elements before j
pub has-take-get_or : (l : List ℕ) (i j : ℕ) → i < j → j ≤ length l → has (take j l) (get_or l i 0) ≡ true
has-take-get_or l i j h k =
    let n : length (take j l) ≡ j = length-take-le j l k in
    ap (λ x. has (take j l) x) (sym (get_or-take j l i 0 h)) ∙ has-get_or (take j l) i (omega arith)

pub has-take_at : (l : List ℕ) (j x : ℕ) → j ≤ length l → has (take j l) x ≡ true → (i : ℕ) × (i < j) × (get_or l i 0 ≡ x)
has-take_at l j x k e =
    let r : (i : ℕ) × (i < length (take j l)) × (get_or (take j l) i 0 ≡ x) = has_at (take j l) x e in
    let h : r.0 < j = omega (arith, length-take-le j l k) in
    (r.0, h, sym (get_or-take j l r.0 0 h) ∙ r.2)

pub has-take_more : (l : List ℕ) (i j x : ℕ) → i ≤ j → j ≤ length l → has (take i l) x ≡ true → has (take j l) x ≡ true
has-take_more l i j x h k e =
    let r : (p : ℕ) × (p < i) × (get_or l p 0 ≡ x) = has-take_at l i x (omega arith) e in
    ap (λ y. has (take j l) y) (sym r.2) ∙ has-take-get_or l r.0 j (omega arith) k

-- ---- lists whose elements differ

-- no element stands before itself
abbrev pub Distinct : List ℕ → Type 0
Distinct l = (i : ℕ) → i < length l → has (take i l) (get_or l i 0) ≡ false

pub distinct_eq : (l : List ℕ) → Distinct l → (i j : ℕ) → i < length l → j < length l → get_or l i 0 ≡ get_or l j 0 → i ≡ j
distinct_eq l d i j hi hj e =
    let no : (p q : ℕ) → p < q → q < length l → get_or l p 0 ≡ get_or l q 0 → ⊥ = λ p q lt lq f.
    true-false (has (take q l) (get_or l q 0)) (ap (λ x. has (take q l) x) (sym f) ∙ has-take-get_or l p q lt (omega arith)) (d q lq) in
    ⊎_elim
    (λ q. q)
    (λ ne. absurd (⊎_elim (λ lt. no i j lt hj e) (λ le. no j i (omega arith) hi (sym e)) (cases_lt i j)))
    (cases_eq i j)

-- from j on the elements are not among the first j
pub distinct_later : (l : List ℕ) → Distinct l → (i j : ℕ) → i ≤ j → j < length l → has (take i l) (get_or l j 0) ≡ false
distinct_later l d i j h k =
    ⊎_elim
    (λ e.
    let r : (p : ℕ) × (p < i) × (get_or l p 0 ≡ get_or l j 0) = has-take_at l i (get_or l j 0) (omega arith) e in
    let q : r.0 ≡ j = distinct_eq l d r.0 j (omega arith) k r.2 in
    absurd (omega arith))
    (λ e. e)
    (bool_cases (has (take i l) (get_or l j 0)))

-- one element more that is not in the list
pub distinct_snoc : (l : List ℕ) (x : ℕ) → Distinct l → has l x ≡ false → Distinct (l ++ (x ∷ []))
distinct_snoc l x d f i h =
    let n : length (l ++ (x ∷ [])) ≡ length l + 1 = length-append l (x ∷ []) in
    ⊎_elim
    (λ e.
    ap (λ m. has m (get_or (l ++ (x ∷ [])) i 0)) (take_at l (x ∷ []) i (sym e))
    ∙ ap (λ y. has l y) (get_or_at l x [] 0 i (sym e))
    ∙ f)
    (λ ne.
    ap (λ m. has m (get_or (l ++ (x ∷ [])) i 0)) (take-append-le i l (x ∷ []) (omega arith))
    ∙ ap (λ y. has (take i l) y) (get_or-append l (x ∷ []) 0 i (omega arith))
    ∙ d i (omega arith))
    (cases_eq i (length l))

-- over the places of a distinct list of numbers below n, or over the numbers below n that it has
pub sum-has : (n : ℕ) (l : List ℕ) (f : ℕ → ℕ) → Distinct l → ((i : ℕ) → i < length l → get_or l i 0 < n)
    → (k : ℕ) → k ≤ length l → sum n (λ v. on (has (take k l) v) (f v)) ≡ sum k (λ i. f (get_or l i 0))
unfolding sum
sum-has n l f d below zero h = sum-zero n (λ v. on (has [] v) (f v)) (λ v p. on-false (has [] v) (f v) (has-nil v))
sum-has n l f d below (suc k) h =
    let x = get_or l k 0 in
    let step : (v : ℕ) → v < n → on (has (take (suc k) l) v) (f v) ≡ on (has (take k l) v) (f v) + on (eqb x v) (f v) = λ v p.
    ap (λ b. on b (f v)) (has-take-suc l k v (omega arith))
    ∙ on-or (has (take k l) v) (eqb x v) (f v) (λ e. ne_eqb x v (λ q. true-false (has (take k l) v) e (ap (λ y. has (take k l) y) (sym q) ∙ d k (omega arith)))) in
    let rest : sum n (λ v. on (has (take k l) v) (f v)) ≡ sum k (λ i. f (get_or l i 0)) = sum-has n l f d below k (omega arith) in
    let one : sum n (λ v. on (eqb x v) (f v)) ≡ f x = sum-on_one n x f (below k (omega arith)) in
    sum-add_ext n (λ v. on (has (take k l) v) (f v)) (λ v. on (eqb x v) (f v)) (λ v. on (has (take (suc k) l) v) (f v)) step
    ∙ omega arith

-- ---- listed

pub listed-suc : (n : ℕ) (f : ℕ → ℕ) → listed (suc n) f ≡ listed n f ++ (f n ∷ [])
unfolding listed
listed-suc n f = refl

pub length-listed : (n : ℕ) (f : ℕ → ℕ) → length (listed n f) ≡ n
unfolding listed
length-listed zero f = refl
length-listed (suc n) f = length-append (listed n f) (f n ∷ []) ∙ ap (λ k. k + 1) (length-listed n f) ∙ omega arith

pub get_or-listed : (n : ℕ) (f : ℕ → ℕ) (i : ℕ) → i < n → get_or (listed n f) i 0 ≡ f i
unfolding listed
get_or-listed zero f i h = absurd (omega arith)
get_or-listed (suc n) f i h =
    let l : length (listed n f) ≡ n = length-listed n f in
    let below : i < n → get_or (listed n f) i 0 ≡ f i = get_or-listed n f i in
    ⊎_elim
    (λ e. get_or_at (listed n f) (f n) [] 0 i (l ∙ sym e) ∙ ap f (sym e))
    (λ ne. get_or-append (listed n f) (f n ∷ []) 0 i (omega arith) ∙ below (omega arith))
    (cases_eq i n)

pub listed_ext : (n : ℕ) (f g : ℕ → ℕ) → ((i : ℕ) → i < n → f i ≡ g i) → listed n f ≡ listed n g
unfolding listed
listed_ext zero f g h = refl
listed_ext (suc n) f g h =
    let e : listed n f ≡ listed n g = listed_ext n f g (λ i l. h i (omega arith)) in
    let q : f n ≡ g n = h n (omega arith) in
    cc

-- a list is the list of its elements
pub listed-get_or : (l : List ℕ) → listed (length l) (λ i. get_or l i 0) ≡ l
listed-get_or l =
    ext_get_or
    0
    (listed (length l) (λ i. get_or l i 0))
    l
    (length-listed (length l) (λ i. get_or l i 0))
    (λ i h. get_or-listed (length l) (λ j. get_or l j 0) i (omega (arith, length-listed (length l) (λ j. get_or l j 0))))

-- ---- laid

pub length-laid : (new old : List ℕ) → length new ≤ length old → length (laid new old) ≡ length old
length-laid new old h = length-append new (drop (length new) old) ∙ omega (arith, length-drop (length new) old)

-- one store more
pub laid_more : (xs : List ℕ) (x : ℕ) (old : List ℕ) → length xs < length old
    → laid (xs ++ (x ∷ [])) old ≡ set (laid xs old) (length xs) x
laid_more [] x [] h = absurd (omega arith)
laid_more [] x (o ∷ os) h = refl
laid_more (y ∷ ys) x [] h = absurd (omega arith)
laid_more (y ∷ ys) x (o ∷ os) h = ap {B = List ℕ} (λ r. y ∷ r) (laid_more ys x os (omega arith))

pub laid-listed-suc : (n : ℕ) (f : ℕ → ℕ) (old : List ℕ) → n < length old
    → laid (listed (suc n) f) old ≡ set (laid (listed n f) old) n (f n)
laid-listed-suc n f old h =
    ap (λ m. laid m old) (listed-suc n f)
    ∙ laid_more (listed n f) (f n) old (omega (arith, length-listed n f))
    ∙ ap (λ k. set (laid (listed n f) old) k (f n)) (length-listed n f)

pub get_or-laid_new : (new old : List ℕ) (i : ℕ) → i < length new → get_or (laid new old) i 0 ≡ get_or new i 0
get_or-laid_new new old i h = get_or-append new (drop (length new) old) 0 i h

-- ---- those

pub those-suc : (n : ℕ) (t : ℕ → Bool) → those (suc n) t ≡ those n t ++ cond (t n) (n ∷ []) []
unfolding those
those-suc n t = refl

pub those_yes : (n : ℕ) (t : ℕ → Bool) → t n ≡ true → those (suc n) t ≡ those n t ++ (n ∷ [])
those_yes n t e = rw (those-suc, e)

pub those_no : (n : ℕ) (t : ℕ → Bool) → t n ≡ false → those (suc n) t ≡ those n t
those_no n t e = rw (those-suc, e) (append-nil (those n t))

pub length-those : (n : ℕ) (t : ℕ → Bool) → length (those n t) ≡ sum n (λ v. on (t v) 1)
unfolding those sum
length-those zero t = refl
length-those (suc n) t =
    length-append (those n t) (cond (t n) (n ∷ []) [])
    ∙ ap (λ k. k + length (cond (t n) (n ∷ []) [])) (length-those n t)
    ∙ ap (λ k. sum n (λ v. on (t v) 1) + k) (go (t n))
  where
    go : (b : Bool) → length (cond b (n ∷ []) []) ≡ on b 1
    go true = refl
    go false = refl

pub has-those : (n : ℕ) (t : ℕ → Bool) (v : ℕ) → has (those n t) v ≡ (ltb v n && t v)
unfolding those
has-those zero t v = has-nil v ∙ sym (ap (λ b. b && t v) (le-ltb v 0 (omega arith)))
has-those (suc n) t v = ⊎_elim (yes_case (has-those n t v)) (no_case (has-those n t v)) (bool_cases (t n))
  where
    bound : v < n → ltb v (suc n) ≡ ltb v n
    bound h = lt-ltb v (suc n) (omega arith) ∙ sym (lt-ltb v n h)

    past : n < v → ltb v (suc n) ≡ ltb v n
    past h = le-ltb v (suc n) (omega arith) ∙ sym (le-ltb v n (omega arith))

    other : (v ≡ n → ⊥) → ltb v (suc n) ≡ ltb v n
    other ne = ⊎_elim bound (λ h. past (omega arith)) (cases_lt v n)

    yes_case : has (those n t) v ≡ (ltb v n && t v) → t n ≡ true → has (those (suc n) t) v ≡ (ltb v (suc n) && t v)
    yes_case ih e =
        ap (λ m. has m v) (those_yes n t e) ∙ has-snoc (those n t) n v
        ∙ ⊎_elim
        (λ q. or_right (has (those n t) v) (eqb n v) (eq-eqb n v (sym q)) ∙ sym (and-true (ltb v (suc n)) (t v) (lt-ltb v (suc n) (omega arith)) (ap t q ∙ e)))
        (λ ne. ap (λ b. has (those n t) v || b) (ne_eqb n v (λ q. ne (sym q))) ∙ or-nothing (has (those n t) v) ∙ ih ∙ ap (λ b. b && t v) (sym (other ne)))
        (cases_eq v n)

    no_case : has (those n t) v ≡ (ltb v n && t v) → t n ≡ false → has (those (suc n) t) v ≡ (ltb v (suc n) && t v)
    no_case ih e =
        ap (λ m. has m v) (those_no n t e) ∙ ih
        ∙ ⊎_elim
        (λ q. ap (λ b. b && t v) (le-ltb v n (omega arith)) ∙ sym (and-false_right (ltb v (suc n)) (t v) (ap t q ∙ e)))
        (λ ne. ap (λ b. b && t v) (sym (other ne)))
        (cases_eq v n)

-- its elements are below n and pass the test
pub those_below : (n : ℕ) (t : ℕ → Bool) (i : ℕ) → i < length (those n t) → get_or (those n t) i 0 < n
those_below n t i h =
    let v = get_or (those n t) i 0 in
    ltb-true v n (and_left (ltb v n) (t v) (sym (has-those n t v) ∙ has-get_or (those n t) i h))

pub those_pass : (n : ℕ) (t : ℕ → Bool) (i : ℕ) → i < length (those n t) → t (get_or (those n t) i 0) ≡ true
those_pass n t i h =
    let v = get_or (those n t) i 0 in
    and_right (ltb v n) (t v) (sym (has-those n t v) ∙ has-get_or (those n t) i h)
