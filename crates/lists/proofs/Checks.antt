-- Laws of checks made one after the other: what a check that finds nothing says of its parts, and that the first bad row decides.
-- Contents: `rows_stop`, `rows_more`, `rest_stop`, `rest_end`, `list_parts`, `sizes_fine`, `passed_roomy`;
-- for callers `told-answered`; `list_check_unique`, `checked_unique`.
use Prim.Native.Nat.{ℕ, zero, suc, ◌+◌, ◌<◌, ◌≤◌}
use mathlib.Core.Path.{◌≡◌, refl, sym, ap, ◌∙◌}
use mathlib.Core.Bool.{Bool, false}
use mathlib.Core.List.{[]}
use mathlib.Core.HLevel.{Σ_prop_path}
use mathlib.Core.Logic.{⊎_elim}
use mathlib.Core.Sum.{⊎_set}
use native.Mathlib.Nat.{eq-or-lt_of_le}
use native.Mathlib.Numerals.{add-one}
use native.Mathlib.Omega.{arith}
use lib.Dec.{ltb}
use lib.ListN.{length}
use borrow.Author.Tests.{ltb-false}
use Rattle.meaning.specs.Numbers.{Check, fine, bad, when, ◌⟫◌, node_count, list_size, over_sum, answered}
use Rattle.meaning.specs.Links.{LinkList, Given, list_of, links, row_check, rows_check, bad_nodes, list_check}
use Rattle.meaning.specs.Sums.{sum}
use Rattle.laws.specs.Bools.{or-false_left, or-false_right}
use Rattle.laws.specs.Accept.{Words, bad_fine, then_assoc, when_fine, then_left, then_right, check_fine}
use Rattle.std.proofs.Props.{props}
use Rattle.std.specs.Prelude.{Result, Ok, Err, ⊤, IfOk}
use Rattle.answers.specs.Paper.{told_check, told_paper}
use Rattle.answers.specs.Unique.{check_unique, finding_unique}
use Rattle.lists.specs.declared.Links.{Links}
use Rattle.lists.specs.declared.Checked.{Checked}
use Rattle.lists.specs.Given.{given_by}
use Rattle.answers.specs.declared.Refusal.{Refusal}
use Rattle.lists.specs.Parts.{uneven, size_check, rest_check}

-- the first bad row decides
pub rows_stop : (L : LinkList) (r m : ℕ) {num at : ℕ} →
    r < m → rows_check L r ≡ fine → row_check L r ≡ bad num at → rows_check L m ≡ bad num at
unfolding rows_check
rows_stop L r zero below before here = absurd (omega arith)
rows_stop L r (suc m) below before here =
    ⊎_elim
    (λ e. ap (λ (c : Check). c ⟫ row_check L m) (rw e at before) ∙ (rw e at here))
    (λ less. ap (λ (c : Check). c ⟫ row_check L m) (rows_stop L r m less before here))
    (eq-or-lt_of_le (omega arith))

-- it is fine to go on after a fine row
pub rows_more : (L : LinkList) (r : ℕ) → rows_check L r ≡ fine → row_check L r ≡ fine → rows_check L (r + 1) ≡ fine
unfolding rows_check
rows_more L r before here = rw add-one (ap (λ (c : Check). c ⟫ row_check L r) before ∙ here)

-- the rest of the checks where row r is the first bad one
pub rest_stop : (L : LinkList) (r : ℕ) {num at : ℕ} →
    r < L.rows → rows_check L r ≡ fine → row_check L r ≡ bad num at → rest_check L ≡ bad num at
rest_stop L r below before here =
    ap (λ (c : Check). c ⟫ when (ltb 4294967295 (links L)) over_sum 0) (rows_stop L r L.rows below before here)

-- and where no row is bad
pub rest_end : (L : LinkList) (r : ℕ) →
    r ≡ L.rows → rows_check L r ≡ fine → rest_check L ≡ when (ltb 4294967295 (sum r L.w)) over_sum 0
rest_end L r all before =
    ap (λ (m : ℕ). rows_check L m ⟫ when (ltb 4294967295 (sum m L.w)) over_sum 0) (sym all)
    ∙ ap (λ (c : Check). c ⟫ when (ltb 4294967295 (sum r L.w)) over_sum 0) before

-- ---- the parts of a list's checks

-- the counts, then the rest
pub list_parts : (g : Given) (short : Bool) →
    list_check g short ≡ size_check g.n (length g.la) (uneven g) short ⟫ rest_check (list_of g)
unfolding list_check
list_parts g short = simp then_assoc

-- counts that find nothing: columns of one length, and few rows
pub sizes_fine : (n rows : ℕ) (apart short : Bool) → size_check n rows apart short ≡ fine → (apart ≡ false) × (rows ≤ 2048)
sizes_fine n rows apart short e =
    let rest = then_right (when (bad_nodes n) node_count 0) _ e in
    let size = when_fine _ list_size 0 (then_left _ _ rest) in
    (or-false_left apart _ size, ltb-false 2048 rows (or-false_right apart _ size))

-- a list that passed in a call with room passes where no room is asked
pub passed_roomy : (g : Given) (short : Bool) → list_check g short ≡ fine → list_check g false ≡ fine
passed_roomy g short e = sym (ap (list_check g) (check_fine g short e).room_good) ∙ e

-- for callers: an answer with nothing to count is its check's
pub told-answered : (t : Result ⊤ Refusal) → told_paper t ≡ answered (told_check t) []
told-answered (Ok x) = refl
told-answered (Err e) = refl

-- what a check finds is one answer
pub list_check_unique : (g : Given) (short : Bool) (t u : Result ⊤ Refusal) →
    told_check t ≡ list_check g short → told_check u ≡ list_check g short → t ≡ u
list_check_unique g short t u p q = check_unique t u (p ∙ sym q)

-- a `Checked` list is its links: besides them it has proofs alone, and any two proofs of a fact are equal
abbrev Facts : Links → Type 0
Facts l = (list_check (given_by l) false ≡ fine) × Words (given_by l)

facts_prop : (l : Links) → IsProp (Facts l)
facts_prop l = hlevel (⊎_set, props)

checked_same : (c d : Checked) → c.links ≡ d.links → c ≡ d
checked_same c d e =
    let made : (l : Links) × Facts l → Checked = λ p. record { links = p.0; passed = p.1.0; words = p.1.1 } in
    ap made (Σ_prop_path facts_prop {u = (c.links, (c.passed, c.words))} {v = (d.links, (d.passed, d.words))} e)

-- so any two answers that `check` may give are equal
pub checked_unique : (l : Links) (short : Bool) (t u : Result Checked Refusal) →
    told_check t ≡ list_check (given_by l) short → IfOk t (λ c. c.links ≡ l) →
    told_check u ≡ list_check (given_by l) short → IfOk u (λ c. c.links ≡ l) → t ≡ u
checked_unique l short (Ok c) (Ok d) p same q same' = ap Ok (checked_same c d (same ∙ sym same'))
checked_unique l short (Ok c) (Err e) p same q same' = bad_fine (q ∙ sym p)
checked_unique l short (Err e) (Ok d) p same q same' = bad_fine (p ∙ sym q)
checked_unique l short (Err e) (Err d) p same q same' =
    let found : told_check {A = Checked} (Err e) ≡ told_check {A = Checked} (Err d) = p ∙ sym q in
    finding_unique (Err e) (Err d) (λ x y is is'. cc) found
