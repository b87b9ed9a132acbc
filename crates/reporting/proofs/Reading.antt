-- What the reader found, as the report takes it: a refusal's line, or a list that passed its checks and stands at the front of the three
-- lists that the reader filled.
use Rattle.std.proofs.Common.{ℕ, ◌+◌, ◌≤◌, ◌≡◌, refl, sym, ap, ◌∙◌, subst, Bool, false, not, ◌&&◌, ◌||◌, List, [], ◌∷◌, length, take, drop, get_or, replicate, length-append, arith, eqb, ltb, Result, Ok, Err}
use lib.ListN.{length-map}
use lib.Seq.{take_at}
use Rattle.meaning.specs.Numbers.{Check, fine, when, after, answered, file_size, wrong_mark, start_past, nodes_record, row_count}
use Rattle.meaning.specs.Sums.{laid}
use Rattle.meaning.specs.Links.{Given, given, list_of, list_check}
use Rattle.meaning.specs.File.{Run, ran, stopped, trailer_at, start_of, count_of, run_of, run_check, file_check, found_in, rows_given, list_in}
use Rattle.meaning.specs.Report.{list_report, report_by, report_of}
use Rattle.laws.specs.Accept.{bad_fine, then_right}
use Rattle.roundtrip.specs.Promises.{Reads}
use Rattle.answers.specs.Paper.{told_check, found_fields}
use Rattle.answers.specs.declared.Found.{Found}
use Rattle.answers.specs.declared.Refusal.{Refusal}
use Rattle.lists.proofs.Passed.{passed}
use Rattle.reporting.specs.Words.{refused_text}
use Rattle.reporting.proofs.Answered.{checked, fields_are}

run_good : (s : List ℕ) (r : Run) (ra rb rc : ℕ) → run_check s r ra rb rc ≡ fine → list_check (rows_given (found_in r)) false ≡ fine
run_good s (stopped num at) ra rb rc e = bad_fine e
run_good s (ran f) ra rb rc e =
    let whole =
    then_right (when (not (eqb (count_of s) (length f.rows))) row_count 0) _
    (then_right (when (not f.seen) nodes_record (trailer_at s)) _ e) in
    subst (λ (b : Bool). list_check (rows_given f) b ≡ fine) (passed (rows_given f) _ whole).roomy whole

pub file_good : (s : List ℕ) (ra rb rc : ℕ) → file_check s ra rb rc ≡ fine → list_check (list_in s) false ≡ fine
unfolding file_check
file_good s ra rb rc e =
    run_good s (run_of s) ra rb rc
    (then_right (when (ltb (trailer_at s) (start_of s)) start_past 0) _
    (then_right (when (not (eqb (get_or s (trailer_at s + 6) 0) 0x4C && eqb (get_or s (trailer_at s + 7) 0) 0x54)) wrong_mark 0) _
    (then_right (when (ltb (length s) 8 || ltb 32768 (length s)) file_size 0) _ e)))

-- the three lists that are lent to the reader
abbrev pub zeros : List ℕ
zeros = replicate 2048 0

module _ (s : List ℕ) {t : Result Found Refusal} {a b w : List ℕ} (left : Reads s zeros zeros zeros t a b w) where
  held : List ℕ
  held = (list_in s).n ∷ length (list_in s).la ∷ []

  checks : told_check t ≡ file_check s 2048 2048 2048
  unfolding held
  checks = checked found_fields t (file_check s 2048 2048 2048) held left.answer

  pub report_refused : {e : Refusal} → t ≡ Err e → report_of s ≡ refused_text e
  unfolding report_of
  report_refused is =
      ap (λ (c : Check). report_by c (list_of (list_in s))) (sym checks ∙ ap told_check is)

  module _ {found : Found} (is : t ≡ Ok found) where
    good : file_check s 2048 2048 2048 ≡ fine
    good = sym checks ∙ ap told_check is

    list_good : list_check (list_in s) false ≡ fine
    list_good = file_good s 2048 2048 2048 good

    report_listed : report_of s ≡ list_report (list_of (list_in s))
    unfolding report_of
    report_listed = ap (λ (c : Check). report_by c (list_of (list_in s))) good

    fields : found_fields found ≡ held
    unfolding held
    fields = fields_are found_fields t found held (left.answer ∙ ap (λ (c : Check). answered c held) good) is

    nodes_are : found.n ≡ (list_in s).n
    unfolding held
    nodes_are = cc fields

    rows_are : found.rows ≡ length (list_in s).la
    unfolding held
    rows_are = cc fields

    -- the rows stand at the front of a list that was filled with them
    module _ (new out : List ℕ) (long : length new ≡ length (list_in s).la) (filled : out ≡ after (file_check s 2048 2048 2048) new zeros) where
      whole : out ≡ laid new zeros
      whole = filled ∙ ap (λ (c : Check). after c new zeros) good

      front : take found.rows out ≡ new
      front = ap (take found.rows) whole ∙ take_at new (drop (length new) zeros) found.rows (long ∙ sym rows_are)

      within : found.rows ≤ length out
      within = omega (arith, rows_are, long, ap length whole, length-append new (drop (length new) zeros))

    long_b : length (list_in s).lb ≡ length (list_in s).la
    long_b =
        let rows = (found_in (run_of s)).rows in length-map rows (λ r. r.b) ∙ sym (length-map rows (λ r. r.a))

    long_w : length (list_in s).lw ≡ length (list_in s).la
    long_w =
        let rows = (found_in (run_of s)).rows in length-map rows (λ r. r.w) ∙ sym (length-map rows (λ r. r.a))

    pub rows_fit : (found.rows ≤ length a) × ((found.rows ≤ length b) × (found.rows ≤ length w))
    rows_fit =
        (within (list_in s).la a refl left.leaves_a, (within (list_in s).lb b long_b left.leaves_b, within (list_in s).lw w long_w left.leaves_w))

    -- so that the three fronts are the list
    list_is : given found.n (take found.rows a) (take found.rows b) (take found.rows w) ≡ list_in s
    list_is =
        rw (
          nodes_are,
          front (list_in s).la a refl left.leaves_a,
          front (list_in s).lb b long_b left.leaves_b,
          front (list_in s).lw w long_w left.leaves_w,
        )
        refl

    pub read_good : list_check (given found.n (take found.rows a) (take found.rows b) (take found.rows w)) false ≡ fine
    read_good = ap (λ (g : Given). list_check g false) list_is ∙ list_good

    pub read_report : report_of s ≡ list_report (list_of (given found.n (take found.rows a) (take found.rows b) (take found.rows w)))
    read_report = report_listed ∙ ap (λ (g : Given). list_report (list_of g)) (sym list_is)

-- what the report takes from a list that was read
pub ruleset reads = (rows_fit, read_good, read_report)
