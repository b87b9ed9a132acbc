-- A paper answer is that of one answer alone: so two results that a contract allows are equal.
-- A refusal is known by its number and its place (`refusal_unique`), since from both it can be made again (`refusal_at`).
use Rattle.std.specs.Prelude.{◌≡◌, refl, ℕ, Result, Ok, Err, List, [], ◌∷◌, ⊤, get_or, cond, eqb}
use Rattle.std.proofs.Common.{IsErrAnd, arith, sym, ap, ◌∙◌}
use Rattle.meaning.specs.Numbers.{bad, refused}
use Rattle.answers.specs.declared.Refusal.{Refusal}
use Rattle.answers.specs.declared.Found.{Found}
use Rattle.answers.specs.declared.Split.{Split}
use Rattle.answers.specs.declared.Totals.{Totals}
use Rattle.answers.specs.Paper.{number_of, place_of, told_check, paper, told_paper, wrote_paper, found_fields, found_paper, parted_fields, parted_paper, totals_fields, totals_paper}

-- the refusal with this number and place
abbrev pub refusal_at : ℕ → ℕ → Refusal
refusal_at n at =
    cond (eqb n 1) Refusal.FileSize (
    cond (eqb n 2) Refusal.WrongMark (
    cond (eqb n 3) Refusal.StartPast (
    cond (eqb n 4) (Refusal.RecordLength at) (
    cond (eqb n 5) (Refusal.RecordPasses at) (
    cond (eqb n 6) (Refusal.RecordKind at) (
    cond (eqb n 7) (Refusal.NodesRecord at) (
    cond (eqb n 8) Refusal.RowCount (
    cond (eqb n 9) Refusal.NodeCount (
    cond (eqb n 10) Refusal.ListSize (
    cond (eqb n 11) (Refusal.EndOutside at) (
    cond (eqb n 12) (Refusal.EndsEqual at) (
    cond (eqb n 13) (Refusal.NoWeight at) (
    cond (eqb n 14) Refusal.ShortRoom (
    cond (eqb n 15) Refusal.ZeroK (
    cond (eqb n 16) Refusal.OneNode (
    cond (eqb n 17) Refusal.NoneBelow (
    Refusal.OverSum)))))))))))))))))

pub refusal_is : (e : Refusal) → refusal_at (number_of e) (place_of e) ≡ e
refusal_is Refusal.FileSize = refl
refusal_is Refusal.WrongMark = refl
refusal_is Refusal.StartPast = refl
refusal_is (Refusal.RecordLength at) = refl
refusal_is (Refusal.RecordPasses at) = refl
refusal_is (Refusal.RecordKind at) = refl
refusal_is (Refusal.NodesRecord at) = refl
refusal_is Refusal.RowCount = refl
refusal_is Refusal.NodeCount = refl
refusal_is Refusal.ListSize = refl
refusal_is (Refusal.EndOutside at) = refl
refusal_is (Refusal.EndsEqual at) = refl
refusal_is (Refusal.NoWeight at) = refl
refusal_is Refusal.ShortRoom = refl
refusal_is Refusal.ZeroK = refl
refusal_is Refusal.OneNode = refl
refusal_is Refusal.NoneBelow = refl
refusal_is Refusal.OverSum = refl

pub refusal_unique : (d e : Refusal) → number_of d ≡ number_of e → place_of d ≡ place_of e → d ≡ e
refusal_unique d e num at =
    sym (refusal_is d) ∙ (ap (λ n. refusal_at n (place_of d)) num ∙ (ap (refusal_at (number_of e)) at ∙ refusal_is e))

-- so a check's finding is that of one refusal, or of none
pub finding_unique : {A : Type 0} → (t u : Result A Refusal) → ((x y : A) → t ≡ Ok x → u ≡ Ok y → x ≡ y)
    → told_check t ≡ told_check u → t ≡ u
finding_unique (Ok x) (Ok y) one e = ap Ok (one x y refl refl)
finding_unique (Ok x) (Err d) one e = absurd (let z : ◌≡◌ {A = ℕ} 0 1 = cc in omega arith)
finding_unique (Err d) (Ok x) one e = absurd (let z : ◌≡◌ {A = ℕ} 0 1 = cc in omega arith)
finding_unique (Err d) (Err d') one e =
    let num : number_of d ≡ number_of d' = cc in
    let at : place_of d ≡ place_of d' = cc in
    ap Err (refusal_unique d d' num at)

-- where there is nothing to count
pub check_unique : (t u : Result ⊤ Refusal) → told_check t ≡ told_check u → t ≡ u
check_unique t u = finding_unique t u (λ x y _ _. refl)

-- and an answer that of one value, where its fields are
pub paper_unique : {A : Type 0} (fields : A → List ℕ) → ((x y : A) → fields x ≡ fields y → x ≡ y) →
    (t u : Result A Refusal) → paper fields t ≡ paper fields u → t ≡ u
paper_unique fields one (Ok x) (Ok y) e = let same : fields x ≡ fields y = cc in ap Ok (one x y same)
paper_unique fields one (Ok x) (Err d) e = absurd (let z : ◌≡◌ {A = ℕ} 0 1 = cc in omega arith)
paper_unique fields one (Err d) (Ok x) e = absurd (let z : ◌≡◌ {A = ℕ} 0 1 = cc in omega arith)
paper_unique fields one (Err d) (Err d') e =
    let num : number_of d ≡ number_of d' = cc in
    let at : place_of d ≡ place_of d' = cc in
    ap Err (refusal_unique d d' num at)

-- fields in which a value stands whole
found_one : (x y : Found) → found_fields x ≡ found_fields y → x ≡ y
found_one x y e = ap (λ l. record { n = get_or l 0 0; rows = get_or l 1 0 }) e

parted_one : (x y : Split) → parted_fields x ≡ parted_fields y → x ≡ y
parted_one x y e =
    ap (λ l. record { value = get_or l 0 0; side = record { low = get_or l 1 0; high = get_or l 2 0; size = get_or l 3 0 } }) e

totals_one : (x y : Totals) → totals_fields x ≡ totals_fields y → x ≡ y
totals_one x y e = ap (λ l. record { n = get_or l 0 0; rows = get_or l 1 0; links = get_or l 2 0; pairs = get_or l 3 0 }) e

-- each call's answers
pub told_unique : (t u : Result ⊤ Refusal) → told_paper t ≡ told_paper u → t ≡ u
told_unique = paper_unique (λ _. []) (λ x y e. refl)

pub wrote_unique : (t u : Result ℕ Refusal) → wrote_paper t ≡ wrote_paper u → t ≡ u
wrote_unique = paper_unique (λ m. m ∷ []) (λ x y e. cc)

pub found_unique : (t u : Result Found Refusal) → found_paper t ≡ found_paper u → t ≡ u
found_unique = paper_unique found_fields found_one

pub parted_unique : (t u : Result Split Refusal) → parted_paper t ≡ parted_paper u → t ≡ u
parted_unique = paper_unique parted_fields parted_one

pub totals_unique : (t u : Result Totals Refusal) → totals_paper t ≡ totals_paper u → t ≡ u
totals_unique = paper_unique totals_fields totals_one

-- ---- what a `?` hands on: the refusal that it was given

pub told_err : {A : Type 0} (t : Result A Refusal) (e : Refusal) →
    IsErrAnd t (λ d. d ≡ e) → told_check t ≡ bad (number_of e) (place_of e)
told_err (Ok x) e on = absurd on
told_err (Err d) e on = rw on refl

pub paper_err : {A : Type 0} (fields : A → List ℕ) (t : Result A Refusal) (e : Refusal) →
    IsErrAnd t (λ d. d ≡ e) → paper fields t ≡ refused (number_of e) (place_of e)
paper_err fields (Ok x) e on = absurd on
paper_err fields (Err d) e on = rw on refl
