-- The passes work on a list of first numbers; where that list holds the rows' first forest numbers, what they leave is what `meaning` says.
use Prim.Native.Nat.{ℕ, zero, suc, ◌<◌}
use mathlib.Core.Path.{◌≡◌, refl, sym, ap, ◌∙◌}
use mathlib.Core.Bool.{Bool, true, false, cond}
use mathlib.Core.List.{List, [], ◌∷◌, ◌++◌, map, map-append}
use native.Mathlib.Omega.{arith}
use lib.ListN.{length, get_or}
use lib.Dec.{ltb}
use Rattle.meaning.specs.Sums.{listed, those, laid}
use Rattle.meaning.specs.Links.{Given, list_of}
use Rattle.meaning.specs.Forest.{first, firsts_of, kept, kept_of, kepts_of, stays}
use Rattle.laws.specs.Lists.{length-listed, get_or-listed, listed_ext, get_or-laid_new}
use Rattle.thin.specs.Passes.{kept_at, stays_in}

-- the numbers that pass equal tests below n, mapped by functions equal below n
map-those : (n : ℕ) (t u : ℕ → Bool) (f h : ℕ → ℕ) → ((i : ℕ) → i < n → t i ≡ u i) → ((i : ℕ) → i < n → f i ≡ h i)
    → map f (those n t) ≡ map h (those n u)
unfolding those
map-those zero t u f h e d = refl
map-those (suc n) t u f h e d =
    map-append f (those n t) (cond (t n) (n ∷ []) [])
    ∙ ap (λ l. l ++ map f (cond (t n) (n ∷ []) [])) (map-those n t u f h (λ i l. e i (omega arith)) (λ i l. d i (omega arith)))
    ∙ ap (λ l. map h (those n u) ++ l) (ap (λ q. map f (cond q (n ∷ []) [])) (e n (omega arith)) ∙ last (u n))
    ∙ sym (map-append h (those n u) (cond (u n) (n ∷ []) []))
  where
    last : (q : Bool) → map f (cond q (n ∷ []) []) ≡ map h (cond q (n ∷ []) [])
    last true = ap {B = List ℕ} (λ v. v ∷ []) (d n (omega arith))
    last false = refl

module _ (g : Given) (o : List ℕ) (k : ℕ) (firsts old : List ℕ) (is : firsts ≡ laid (firsts_of (list_of g) o) old) where
  -- each row's kept weight
  kept_at_lem : (r : ℕ) → r < length g.la → kept_at k firsts (list_of g) r ≡ kept (list_of g) o k r
  kept_at_lem r h =
      ap
      (λ f. kept_of k f (get_or g.lw r 0))
      (ap (λ l. get_or l r 0) is
      ∙ get_or-laid_new (firsts_of (list_of g) o) old r (omega (arith, length-listed (length g.la) (first (list_of g) o)))
      ∙ get_or-listed (length g.la) (first (list_of g) o) r h)

  pub kepts : listed (length g.la) (kept_at k firsts (list_of g)) ≡ kepts_of (list_of g) o k
  kepts = listed_ext (length g.la) (kept_at k firsts (list_of g)) (kept (list_of g) o k) kept_at_lem

  -- the rows that stay, by any of their numbers
  pub stays-map : (f h : ℕ → ℕ) → ((r : ℕ) → r < length g.la → f r ≡ h r)
      → map f (stays_in k firsts (list_of g) (length g.la)) ≡ map h (stays (list_of g) o k)
  unfolding stays
  stays-map f h =
      map-those
      (length g.la)
      (λ r. ltb 0 (kept_at k firsts (list_of g) r))
      (λ r. ltb 0 (kept (list_of g) o k r))
      f
      h
      (λ r l. ap (ltb 0) (kept_at_lem r l))

  pub stays_weights : map (kept_at k firsts (list_of g)) (stays_in k firsts (list_of g) (length g.la)) ≡ map (kept (list_of g) o k) (stays (list_of g) o k)
  stays_weights = stays-map (kept_at k firsts (list_of g)) (kept (list_of g) o k) kept_at_lem
