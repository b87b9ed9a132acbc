-- The numbers of a list after spaces: one list after another, one number more, and how many bytes they take.
use Prim.Native.Nat.{ℕ, suc, ◌+◌, ◌^◌, ◌≤◌, ◌<◌}
use mathlib.Core.Path.{◌≡◌, refl, sym, ap, ◌∙◌}
use mathlib.Core.List.{List, [], ◌∷◌, ◌++◌, append_assoc}
use native.Mathlib.Numerals.{add-one}
use native.Mathlib.Omega.{arith}
use lib.ListN.{length, length-append, take, get_or}
use lib.Seq.{take-suc}
use Rattle.meaning.specs.Report.{decimal, spaced, line, least_text}
use Rattle.text.proofs.Digits.{few_digits}
use Rattle.answers.specs.declared.Refusal.{Refusal}
use Rattle.answers.specs.declared.Totals.{Totals}
use Rattle.answers.specs.Paper.{number_of, place_of}
use Rattle.reporting.specs.Words.{summary_text, refused_text}

pub spaced-append : (xs ys : List ℕ) → spaced (xs ++ ys) ≡ spaced xs ++ spaced ys
unfolding spaced
spaced-append [] ys = refl
spaced-append (x ∷ xs) ys =
    ap (λ (l : List ℕ). 32 ∷ (decimal x ++ l)) (spaced-append xs ys)
    ∙ ap (λ (l : List ℕ). 32 ∷ l) (sym (append_assoc (decimal x) (spaced xs) (spaced ys)))

pub spaced_more : (xs : List ℕ) (i : ℕ) → i < length xs → spaced (take i xs) ++ spaced (get_or xs i 0 ∷ []) ≡ spaced (take (i + 1) xs)
spaced_more xs i below =
    sym (spaced-append (take i xs) (get_or xs i 0 ∷ [])) ∙ ap spaced (sym (take-suc xs i 0 below) ∙ ap (λ (n : ℕ). take n xs) (sym (add-one i)))

-- one number takes a space and its digits
one_short : (k x : ℕ) → x < 10 ^ suc k → length (spaced (x ∷ [])) ≤ suc (suc k)
unfolding spaced
one_short k x small = simp length-append (omega (arith, few_digits 19 k x small))

pub wide_short : (x : ℕ) → x < 2 ^ 64 → length (spaced (x ∷ [])) ≤ 21
wide_short x fits = one_short 19 x (omega arith)

-- ---- the lines

pub line_short : (word xs : List ℕ) → length (spaced xs) ≤ 402 → length (line word xs) ≤ length word + 403
line_short word xs short = simp length-append (omega arith)

pub summary_short : (t : Totals) → t.n < 2 ^ 64 → t.rows < 2 ^ 64 → t.links < 2 ^ 64 → t.pairs < 2 ^ 64 → length (summary_text t) ≤ 107
summary_short t fit_n fit-rows fit-links fit-pairs =
    simp length-append
    (omega (arith, wide_short t.n fit_n, wide_short t.rows fit-rows, wide_short t.links fit-links, wide_short t.pairs fit-pairs))

pub refused_short : (e : Refusal) → number_of e < 2 ^ 64 → place_of e < 2 ^ 64 → length (refused_text e) ≤ 53
refused_short e fit-num fit-place = simp length-append (omega (arith, wide_short (number_of e) fit-num, wide_short (place_of e) fit-place))

-- lines 3 and 4
pub split_short : (value : ℕ) (l : List ℕ) → value < 2 ^ 64 → length l ≤ 407 → length (line least_text (value ∷ []) ++ l) ≤ 434
split_short value l fits short = simp length-append (omega (arith, wide_short value fits))

-- all of them
pub all_short : (one two three : List ℕ) → length one ≤ 107 → length two ≤ 408 → length three ≤ 434
    → length (one ++ (two ++ three)) ≤ 1024
all_short one two three first second third = simp length-append (omega arith)
