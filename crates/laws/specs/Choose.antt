-- Laws of `choose`: among the free nodes it takes one with the highest score, and the smallest of those; nothing else does.
--
-- In order: a test below a bound passes somewhere or nowhere (`some_below`); `Chosen`, the three things that make the choice, with
-- `choose_chosen`, `chosen_unique`, `choose_is`; counts of the numbers that pass a test (`size_split`, `size_less`, `size_some`, .. `size_rises`).
--
-- `choose` keeps the best of the nodes passed, and replaces it only by a better one: an induction on the bound. Assumes nothing.
use Rattle.std.specs.Prelude.{ℕ, zero, suc, ◌+◌, ◌≤◌, ◌<◌, ◌≡◌, refl, ◌⊎◌, Bool, true, false, not, ◌&&◌, ◌||◌, cond, eqb, ltb}
use Rattle.std.proofs.Common.{sym, ap, ◌∙◌, subst, inl, inr, ⊎_elim, arith, ltb-true, ltb-false}
use Rattle.meaning.specs.Sums.{on}
use Rattle.meaning.specs.Order.{beats, choose}
use Rattle.meaning.specs.Split.{size_of}
use Rattle.laws.specs.Bools.{bool_cases, cases_eq, cases_lt, true-false, cond-true, cond-false, on-true, on_most, only_at, and_left, and_right}
use Rattle.laws.specs.Sums.{sum_none, sum-suc, sum_most, sum_longer, sum-on_split, sum-on_one, sum_ext, sum_some, sum_term_le}

-- a test passes somewhere below n, or nowhere
pub some_below : (n : ℕ) (t : ℕ → Bool) → ((v : ℕ) × (v < n) × (t v ≡ true)) ⊎ ((v : ℕ) → v < n → t v ≡ false)
some_below zero t = inr (λ v h. absurd (omega arith))
some_below (suc n) t =
    ⊎_elim
    (λ e. inl (n, omega arith, e))
    (λ e.
    ⊎_elim
    (λ r. inl (r.0, omega arith, r.2))
    (λ no. inr (λ v h. ⊎_elim (λ q. ap t q ∙ e) (λ ne. no v (omega arith)) (cases_eq v n)))
    (some_below n t))
    (bool_cases (t n))

-- ---- the choice

-- u is free, no free node has a higher score, and every smaller free one has a lower
pub record Chosen (n : ℕ) (free : ℕ → Bool) (score : ℕ → ℕ) (u : ℕ) : Type 0 where
  pub below : u < n
  pub open_node : free u ≡ true
  pub most : (v : ℕ) → v < n → free v ≡ true → score v ≤ score u
  pub first : (v : ℕ) → v < u → free v ≡ true → score v < score u

pub chosen_unique : (n : ℕ) (free : ℕ → Bool) (score : ℕ → ℕ) (u v : ℕ) → Chosen n free score u → Chosen n free score v → u ≡ v
chosen_unique n free score u v cu cv =
    ⊎_elim
    (λ e. e)
    (λ ne.
    absurd
    (⊎_elim
    (λ lt. omega (arith, cv.first u lt cu.open_node, cu.most v cv.below cv.open_node))
    (λ le. omega (arith, cu.first v (omega arith) cv.open_node, cv.most u cu.below cu.open_node))
    (cases_lt u v)))
    (cases_eq u v)

pub choose_none : (free : ℕ → Bool) (score : ℕ → ℕ) → choose 0 free score ≡ 0
unfolding choose
choose_none free score = refl

pub choose-suc : (n : ℕ) (free : ℕ → Bool) (score : ℕ → ℕ)
    → choose (suc n) free score ≡ cond (beats free score n (choose n free score)) n (choose n free score)
unfolding choose
choose-suc n free score = refl

pub choose_below : (n : ℕ) (free : ℕ → Bool) (score : ℕ → ℕ) → 1 ≤ n → choose n free score < n
unfolding choose
choose_below zero free score h = absurd (omega arith)
choose_below (suc zero) free score h = go (beats free score 0 0)
  where
    go : (b : Bool) → cond b 0 0 < 1
    go true = omega arith
    go false = omega arith
choose_below (suc (suc n)) free score h =
    go (beats free score (suc n) (choose (suc n) free score)) (choose (suc n) free score) (choose_below (suc n) free score (omega arith))
  where
    go : (b : Bool) (u : ℕ) → u < suc n → cond b (suc n) u < suc (suc n)
    go true u l = omega arith
    go false u l = omega arith

module _ (free : ℕ → Bool) (score : ℕ → ℕ) where
  -- what beats the free node u is free and higher; what does not beat it is not free or no higher
  beats_yes : (v u : ℕ) → free u ≡ true → beats free score v u ≡ true → (free v ≡ true) × (score u < score v)
  beats_yes v u fu e =
      let r : (not (free u) || ltb (score u) (score v)) ≡ true = and_right (free v) (not (free u) || ltb (score u) (score v)) e in
      (and_left (free v) (not (free u) || ltb (score u) (score v)) e, ltb-true (score u) (score v) (rw fu at r))

  beats_no : (v u : ℕ) → free u ≡ true → beats free score v u ≡ false → free v ≡ true → score v ≤ score u
  beats_no v u fu e fv = ltb-false (score u) (score v) (rw (fv, fu) at e)

  beats_closed : (v u : ℕ) → free u ≡ false → free v ≡ true → beats free score v u ≡ true
  beats_closed v u fu fv = rw (fv, fu)

  -- one node more, after a choice among those before it
  chosen_more : (n u : ℕ) → Chosen n free score u → Chosen (suc n) free score (cond (beats free score n u) n u)
  chosen_more n u c =
      ⊎_elim
      (λ e. subst (Chosen (suc n) free score) (sym (cond-true (beats free score n u) n u e)) (taken (beats_yes n u c.open_node e)))
      (λ e. subst (Chosen (suc n) free score) (sym (cond-false (beats free score n u) n u e)) (stays e))
      (bool_cases (beats free score n u))
    where
      taken : (free n ≡ true) × (score u < score n) → Chosen (suc n) free score n
      taken h =
          record {
            below = omega arith;
            open_node = h.0;
            most = λ v l f. ⊎_elim (λ e. omega (arith, ap score e)) (λ ne. omega (arith, c.most v (omega arith) f)) (cases_eq v n);
            first = λ v l f. omega (arith, c.most v l f);
          }

      stays : beats free score n u ≡ false → Chosen (suc n) free score u
      stays e =
          record {
            below = omega (arith, c.below);
            open_node = c.open_node;
            most = λ v l f.
                ⊎_elim
                (λ q. omega (arith, ap score q, beats_no n u c.open_node e (ap free (sym q) ∙ f)))
                (λ ne. c.most v (omega arith) f)
                (cases_eq v n);
            first = c.first;
          }

  -- the only free node
  chosen_only : (n u : ℕ) → ((v : ℕ) → v < n → free v ≡ false) → free n ≡ true → (n ≡ u) ⊎ (u < n)
      → Chosen (suc n) free score (cond (beats free score n u) n u)
  chosen_only n u none fn w = subst (Chosen (suc n) free score) (⊎_elim same (λ h. sym (closed h)) w) alone
    where
      alone : Chosen (suc n) free score n
      alone =
          record {
            below = omega arith;
            open_node = fn;
            most = λ v l f. ⊎_elim (λ e. omega (arith, ap score e)) (λ ne. true-false (free v) f (none v (omega arith))) (cases_eq v n);
            first = λ v l f. true-false (free v) f (none v l);
          }

      either : (b : Bool) → n ≡ u → n ≡ cond b n u
      either true e = refl
      either false e = e

      same : n ≡ u → n ≡ cond (beats free score n u) n u
      same e = either (beats free score n u) e

      closed : u < n → cond (beats free score n u) n u ≡ n
      closed h = cond-true (beats free score n u) n u (beats_closed n u (none u h) fn)

  -- where some node below n is free, `choose` makes the choice
  pub choose_chosen : (n : ℕ) → ((v : ℕ) × (v < n) × (free v ≡ true)) → Chosen n free score (choose n free score)
  choose_chosen zero w = absurd (omega arith)
  choose_chosen (suc n) w =
      let u = choose n free score in
      let go : Chosen (suc n) free score (cond (beats free score n u) n u) =
      ⊎_elim
      (λ r. chosen_more n u (choose_chosen n r))
      (λ none.
      chosen_only
      n
      u
      none
      (⊎_elim (λ e. ap free (sym e) ∙ w.2) (λ ne. true-false (free w.0) w.2 (none w.0 (omega arith))) (cases_eq w.0 n))
      (⊎_elim
      (λ e. inl (e ∙ sym (ap (λ k. choose k free score) e ∙ choose_none free score)))
      (λ ne. inr (choose_below n free score (omega arith)))
      (cases_eq n 0)))
      (some_below n free) in
      subst (Chosen (suc n) free score) (sym (choose-suc n free score)) go

  -- and only it does
  pub choose_is : (n u : ℕ) → Chosen n free score u → choose n free score ≡ u
  choose_is n u c =
      chosen_unique n free score (choose n free score) u (choose_chosen n (u, c.below, c.open_node)) c

-- ---- counting

pub size_split : (n : ℕ) (s t : ℕ → Bool) → size_of n s ≡ size_of n (λ v. s v && t v) + size_of n (λ v. s v && not (t v))
size_split n s t = sum-on_split n s t (λ v. 1)

-- without one of its nodes a set has one node less
pub size_less : (n : ℕ) (s : ℕ → Bool) (u : ℕ) → u < n → s u ≡ true → size_of n s ≡ 1 + size_of n (λ v. s v && not (eqb u v))
size_less n s u l e =
    let one : size_of n (λ v. s v && eqb u v) ≡ 1 =
    sum_ext n (λ v. on (s v && eqb u v) 1) (λ v. on (eqb u v) 1) (λ v h. ap (λ b. on b 1) (only_at s u e v)) ∙ sum-on_one n u (λ v. 1) l in
    omega (arith, size_split n s (eqb u))

-- a set that counts something has a node
pub size_some : (n : ℕ) (s : ℕ → Bool) → 1 ≤ size_of n s → (v : ℕ) × (v < n) × (s v ≡ true)
size_some n s h =
    let r : (v : ℕ) × (v < n) × (1 ≤ on (s v) 1) = sum_some n (λ v. on (s v) 1) h in
    (r.0, r.1, go (s r.0) r.2)
  where
    go : (b : Bool) → 1 ≤ on b 1 → b ≡ true
    go true e = refl
    go false e = absurd (omega arith)

pub size_has : (n : ℕ) (s : ℕ → Bool) (v : ℕ) → v < n → s v ≡ true → 1 ≤ size_of n s
size_has n s v l e = omega (arith, sum_term_le n (λ u. on (s u) 1) v l, on-true (s v) 1 e)

-- number by number
pub size_none : (s : ℕ → Bool) → size_of 0 s ≡ 0
size_none s = sum_none (λ v. on (s v) 1)

pub size_suc : (n : ℕ) (s : ℕ → Bool) → size_of (suc n) s ≡ size_of n s + on (s n) 1
size_suc n s = sum-suc n (λ v. on (s v) 1)

pub size_most : (n : ℕ) (s : ℕ → Bool) → size_of n s ≤ n
size_most n s = omega (arith, sum_most n (λ v. on (s v) 1) 1 (λ v h. on_most (s v) 1))

-- the longer the more, and one more at each that passes
pub size_longer : (n m : ℕ) (s : ℕ → Bool) → n ≤ m → size_of n s ≤ size_of m s
size_longer n m s le = sum_longer n m (λ v. on (s v) 1) le

pub size_rises : (x n : ℕ) (s : ℕ → Bool) → s x ≡ true → x < n → size_of x s < size_of n s
size_rises x n s e h = omega (arith, size_suc x s, on-true (s x) 1 e, size_longer (suc x) n s h)
