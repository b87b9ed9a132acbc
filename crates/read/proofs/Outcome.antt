-- From the judged run to the answer. A file's checks are its trailer's and then its run's, and those go by what the state holds: the three lists
-- that the records make are of one length, so 10 is a question of the count alone.
use Prim.Native.Nat.{ℕ}
use mathlib.Core.Path.{◌≡◌, refl, sym, ap, ◌∙◌}
use mathlib.Core.Bool.{Bool, true, false, not, cond, ◌||◌}
use mathlib.Core.List.{List}
use native.Mathlib.Omega.{arith}
use lib.ListN.{length, length-map}
use lib.Dec.{eqb}
use borrow.Author.Tests.{ltb-false}
use Rattle.std.specs.Prelude.{Some, None, Result, Ok, Err}
use Rattle.meaning.specs.Sums.{laid}
use Rattle.meaning.specs.Numbers.{Check, fine, bad, refused, when, ◌⟫◌, nodes_record, row_count}
use Rattle.meaning.specs.Links.{list_check}
use Rattle.meaning.specs.File.{Found, Run, ran, stopped, trailer_at, count_of, run_of, no_room, rows_given, run_check, file_check, list_in}
use Rattle.laws.specs.Bools.{eqb_same, or-false_left, or-false_right}
use Rattle.laws.specs.Accept.{then_assoc, then_right, bad_fine, check_fine}
use Rattle.lists.specs.Parts.{any_short}
use Rattle.lists.proofs.Checks.{list_parts}
use Rattle.answers.specs.declared.Found as Answered
use Rattle.answers.specs.declared.Refusal.{Refusal}
use Rattle.answers.specs.Paper.{found_paper}
use Rattle.roundtrip.specs.Promises.{Reads}
use Rattle.read.specs.declared.Records.{Records}
use Rattle.read.specs.Scan.{Tally, tally_of, judged, left_check}
use Rattle.read.specs.Records.{frame_check, Cut, run_in}
use Rattle.read.specs.Fill.{Fits}
use Rattle.read.proofs.Trailer.{end_is, run_is}

-- ---- the parts of a file's checks

file_parts : (s : List ℕ) (ra rb rc : ℕ) → file_check s ra rb rc ≡ frame_check s ⟫ run_check s (run_of s) ra rb rc
unfolding file_check
file_parts s ra rb rc = simp then_assoc

-- 1, 2 and 3
pub framed : (s : List ℕ) (ra rb rc : ℕ) {num at : ℕ} → bad num at ≡ frame_check s → file_check s ra rb rc ≡ bad num at
framed s ra rb rc e = file_parts s ra rb rc ∙ ap (λ (c : Check). c ⟫ run_check s (run_of s) ra rb rc) (sym e)

-- the checks of a run that ran, by its state
left_by : (seen : Bool) (f : Found) (end count : ℕ) (short : Bool)
    → (when (not seen) nodes_record end ⟫ when (not (eqb count (length f.rows))) row_count 0 ⟫ list_check (rows_given f) short)
    ≡ left_check (cond seen (Some f.n) None) (tally_of f) end count short
left_by true f end count short =
    rw (list_parts, length-map f.rows (λ r. r.a), length-map f.rows (λ r. r.b), length-map f.rows (λ r. r.w), eqb_same)
left_by false f end count short = refl

run_left : (s : List ℕ) (ra rb rc : ℕ) {r : Run} {f : Found} {t : Tally} → r ≡ ran f → t ≡ tally_of f
    → run_check s r ra rb rc ≡ left_check t.nodes t (trailer_at s) (count_of s) (any_short t.rows ra rb rc)
run_left s ra rb rc {r} {f} {t} e held = rw (e, held) (left_by f.seen f (trailer_at s) (count_of s) (any_short (length f.rows) ra rb rc))

-- a run that ran and whose checks find nothing: each lent list has a place for each row
run_fits : (s : List ℕ) (r : Run) (ra rb rc : ℕ) → run_check s r ra rb rc ≡ fine → Fits r ra rb rc
run_fits s (stopped num at) ra rb rc e = bad_fine e
run_fits s (ran f) ra rb rc e =
    let rest = then_right (when (not f.seen) nodes_record (trailer_at s)) _ e in
    let short = no_room f ra || no_room f rb || no_room f rc in
    let c = check_fine (rows_given f) short (then_right (when (not (eqb (count_of s) (length f.rows))) row_count 0) _ rest) in
    let room = or-false_left (no_room f ra || no_room f rb) _ c.room_good in
    record {
      ran_it = refl;
      room_a = ltb-false ra (length f.rows) (or-false_left (no_room f ra) _ room);
      room_b = ltb-false rb (length f.rows) (or-false_right (no_room f ra) _ room);
      room_w = ltb-false rc (length f.rows) (or-false_right (no_room f ra || no_room f rb) _ c.room_good);
    }

-- ---- the judged run

judged_stopped : (r : Run) {num place : ℕ} → judged r ≡ Err (bad num place) → r ≡ stopped num place
judged_stopped (ran f) e = cc
judged_stopped (stopped k p) e = cc

judged_ran : (r : Run) {t : Tally} → judged r ≡ Ok t → (f : Found) × (r ≡ ran f) × (t ≡ tally_of f)
judged_ran (ran f) {t} e = let same : t ≡ tally_of f = cc in (f, refl, same)
judged_ran (stopped k p) e = absurd (let z : ◌≡◌ {A = ℕ} 0 1 = cc in omega arith)

nodes_are : (seen : Bool) {n m : ℕ} → cond seen (Some n) None ≡ Some m → m ≡ n
nodes_are true e = cc
nodes_are false e = cc

-- where 1, 2 and 3 find nothing
module _ {s : List ℕ} {r : Records} (cut : Cut s r) (good : fine ≡ frame_check s) where
  by_run : (ra rb rc : ℕ) → file_check s ra rb rc ≡ run_check s (run_of s) ra rb rc
  by_run ra rb rc = file_parts s ra rb rc ∙ ap (λ (c : Check). c ⟫ run_check s (run_of s) ra rb rc) (sym good)

  pub stopped_at : (ra rb rc : ℕ) {num place : ℕ} → Err (bad num place) ≡ judged (run_in r) → file_check s ra rb rc ≡ bad num place
  stopped_at ra rb rc e = by_run ra rb rc ∙ ap (λ x. run_check s x ra rb rc) (judged_stopped (run_of s) (sym (e ∙ ap judged (run_is cut))))

  -- what is left after a run that ran
  pub left : (ra rb rc : ℕ) {t : Tally} {short : Bool} {c : Check} → Ok t ≡ judged (run_in r) → short ≡ any_short t.rows ra rb rc
      → c ≡ left_check t.nodes t (length r.bytes.now) r.count short → file_check s ra rb rc ≡ c
  left ra rb rc {t} e room found =
      let k = judged_ran (run_of s) (sym (e ∙ ap judged (run_is cut))) in
      rw (found, room, end_is cut, cut.count) (by_run ra rb rc ∙ run_left s ra rb rc k.1 k.2)

  pub fits : (ra rb rc : ℕ) → file_check s ra rb rc ≡ fine → Fits (run_in r) ra rb rc
  fits ra rb rc e = rw (run_is cut) (run_fits s (run_of s) ra rb rc (sym (by_run ra rb rc) ∙ e))

  -- the answer's fields
  pub counts : {t : Tally} → Ok t ≡ judged (run_in r) → (x : Answered.Found) → t.nodes ≡ Some x.n → x.rows ≡ t.rows
      → (x.n ≡ (list_in s).n) × (x.rows ≡ length (list_in s).la)
  counts e x nodes rows =
      let k = judged_ran (run_of s) (sym (e ∙ ap judged (run_is cut))) in
      let f = k.0 in
      rw k.1 (nodes_are f.seen (sym (ap (λ y. y.nodes) k.2) ∙ nodes), rows ∙ (ap (λ y. y.rows) k.2 ∙ sym (length-map f.rows (λ y. y.a))))

-- ---- what `read` promises

pub refuses : (s a b w : List ℕ) (x : Result Answered.Found Refusal) {num at : ℕ} → found_paper x ≡ refused num at
    → file_check s (length a) (length b) (length w) ≡ bad num at → Reads s a b w x a b w
refuses s a b w x p e = record { answer = rw e p; leaves_a = rw e; leaves_b = rw e; leaves_w = rw e }

pub accepts : (s a₀ b₀ w₀ a b w : List ℕ) (x : Answered.Found) → file_check s (length a₀) (length b₀) (length w₀) ≡ fine
    → (x.n ≡ (list_in s).n) × (x.rows ≡ length (list_in s).la)
    → a ≡ laid (list_in s).la a₀ → b ≡ laid (list_in s).lb b₀ → w ≡ laid (list_in s).lw w₀ → Reads s a₀ b₀ w₀ (Ok x) a b w
accepts s a₀ b₀ w₀ a b w x e fields in_a in_b in_w =
    record { answer = rw (e, fields.0, fields.1); leaves_a = rw e in_a; leaves_b = rw e in_b; leaves_w = rw e in_w }
