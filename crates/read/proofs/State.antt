-- The judging pass. After each record the state is `tally_of` of what `run_from` has found so far: a row adds its own check after those of the rows before it,
-- and its weight to their sum, and the kind 1 record comes before every row. So at the end of the run, and at a wrong record, the code holds what `judged` says.
use Prim.Native.Nat.{ℕ, zero, suc, ◌+◌, ◌≤◌, ◌<◌}
use mathlib.Core.Path.{◌≡◌, refl, sym, ap, ◌∙◌}
use mathlib.Core.Bool.{Bool, true, false, cond}
use mathlib.Core.List.{List, [], ◌∷◌, ◌++◌, map, map-append}
use native.Mathlib.Omega.{arith}
use native.Mathlib.Numerals.{add-one}
use lib.ListN.{length, get_or, length-append, length-map, get_or-append}
use lib.Seq.{get_or_at}
use borrow.Author.Tests.{lt-ltb, le-ltb}
use Rattle.std.specs.Prelude.{Some, None, Result, Ok, Err}
use Rattle.std.proofs.Common.{IsErrAnd}
use Rattle.meaning.specs.Sums.{sum}
use Rattle.meaning.specs.Numbers.{fine, bad, ◌⟫◌}
use Rattle.meaning.specs.Links.{LinkList, list_of, links, row_check, rows_check}
use Rattle.meaning.specs.File.{Row, broken, item_at, Found, Run, ran, stopped, follow, run_from, nothing, rows_given}
use Rattle.laws.specs.Bools.{true-false}
use Rattle.laws.specs.Sums.{sum-suc, sum_ext}
use Rattle.laws.specs.Accept.{rows_check-suc}
use Rattle.answers.specs.declared.Refusal.{Refusal}
use Rattle.answers.specs.Paper.{number_of, place_of}
use Rattle.lists.specs.Parts.{row_numbers}
use Rattle.read.specs.declared.Item as Code
use Rattle.read.specs.Scan as Scan
use Rattle.read.specs.Scan.{item_paper, placed, Tally, tally_of, held, taken, judged}

-- ---- what a `?` hands on

pub held_err : {A : Type 0} (f : A → Tally) (r : Result A Refusal) (e : Refusal) → IsErrAnd r (λ d. d ≡ e) → held f r ≡ Err (bad (number_of e) (place_of e))
held_err f (Ok x) e on = absurd on
held_err f (Err d) e on = rw on refl

-- ---- one row more

module _ (f : Row → ℕ) (rows : List Row) (r : Row) where
  row_kept : (i : ℕ) → i < length rows → get_or (map f (rows ++ (r ∷ []))) i 0 ≡ get_or (map f rows) i 0
  row_kept i h = rw (map-append f rows (r ∷ [])) (get_or-append (map f rows) (f r ∷ []) 0 i (omega (arith, length-map rows f)))

  row_last : get_or (map f (rows ++ (r ∷ []))) (length rows) 0 ≡ f r
  row_last = rw (map-append f rows (r ∷ [])) (get_or_at (map f rows) (f r) [] 0 (length rows) (length-map rows f))

-- the checks of the first rows look at those rows only
rows_same : (L M : LinkList) (m : ℕ) → ((r : ℕ) → r < m → row_check L r ≡ row_check M r) → rows_check L m ≡ rows_check M m
unfolding rows_check
rows_same L M zero h = refl
rows_same L M (suc m) h = cc (rows_same L M m (λ r k. h r (omega arith)), h m (omega arith))

-- what the records hold with one row more
abbrev pub with_row : Found → Row → Found
with_row f r = record { seen = f.seen; n = f.n; rows = f.rows ++ (r ∷ []) }

abbrev pub with_nodes : Found → ℕ → Found
with_nodes f n = record { seen = true; n = n; rows = f.rows }

module _ (f : Found) (r : Row) where
  count_more : length (f.rows ++ (r ∷ [])) ≡ suc (length f.rows)
  count_more = omega (arith, length-append f.rows (r ∷ []))

  told_more : rows_check (list_of (rows_given (with_row f r))) (suc (length f.rows))
      ≡ (rows_check (list_of (rows_given f)) (length f.rows) ⟫ row_numbers f.n (length f.rows) r.a r.b r.w)
  told_more =
      let m = length f.rows in
      let L = list_of (rows_given f) in
      let M = list_of (rows_given (with_row f r)) in
      let before : rows_check M m ≡ rows_check L m = rows_same M L m (λ i h.
      rw (row_kept (λ x. x.a) f.rows r i h, row_kept (λ x. x.b) f.rows r i h, row_kept (λ x. x.w) f.rows r i h)) in
      rows_check-suc M m
      ∙ rw (before, row_last (λ x. x.a) f.rows r, row_last (λ x. x.b) f.rows r, row_last (λ x. x.w) f.rows r)

  links_more : links (list_of (rows_given (with_row f r))) ≡ links (list_of (rows_given f)) + r.w
  links_more =
      rw (length-map (f.rows ++ (r ∷ [])) (λ x. x.a), count_more, sum-suc, length-map f.rows (λ x. x.a), row_last (λ x. x.w) f.rows r)
      (ap (λ k. k + r.w) (sum_ext (length f.rows) _ _ (λ i h. row_kept (λ x. x.w) f.rows r i h)))

  row_next : Scan.with_row (tally_of f) f.n (record { a = r.a; b = r.b; w = r.w }) ≡ tally_of (with_row f r)
  row_next = rw (links_more, count_more, add-one, ← told_more)

nodes_next : (f : Found) (n : ℕ) → f.rows ≡ [] → Scan.with_nodes (tally_of f) n ≡ tally_of (with_nodes f n)
unfolding sum rows_check
nodes_next f n e = rw e refl

-- ---- the run

pub run_end : (turns : ℕ) (s : List ℕ) (end at : ℕ) (f : Found) → end ≤ at → run_from turns s end at f ≡ ran f
unfolding run_from
run_end zero s end at f h = refl
run_end (suc turns) s end at f h = rw (le-ltb at end h)

pub run_more : (turns : ℕ) (s : List ℕ) (end at : ℕ) (f : Found) → at < end → end ≤ at + turns
    → (t : ℕ) × (turns ≡ suc t) × (run_from turns s end at f ≡ follow (item_at s end at f.seen) f (λ to g. run_from t s end to g))
unfolding run_from
run_more zero s end at f h e = absurd (omega arith)
run_more (suc t) s end at f h e = (t, refl, rw (lt-ltb at end h))

-- where the judging pass stands: the state is that of the records found so far, and the whole run is theirs and the rest's
pub record Going (s : List ℕ) (end : ℕ) (whole : Run) (at : ℕ) (t : Tally) : Type 0 where
  pub turns : ℕ
  pub found : Found
  pub same : whole ≡ run_from turns s end at found
  pub enough : end ≤ at + turns
  pub holds : t ≡ tally_of found
  pub bare : found.seen ≡ false → found.rows ≡ []

pub begins : (s : List ℕ) (start end : ℕ) → Going s end (run_from end s end start nothing) start (record { nodes = None; rows = 0; sum = 0; bad = fine })
unfolding sum rows_check
begins s start end =
    record { turns = end; found = nothing; same = refl; enough = omega arith; holds = refl; bare = λ _. refl }

-- a record that is not in its place ends the run
out_of_place : (x : Code.Item) (seen : Bool) (f : Found) (at to : ℕ) {num place : ℕ} → taken x at (cond seen (Some f.n) None) (tally_of f) ≡ Err (bad num place)
    → (go : ℕ → Found → Run) → follow (placed seen at (item_paper x to)) f go ≡ stopped num place
out_of_place (Code.Item.Nodes n) true f at to e go = cc
out_of_place (Code.Item.Nodes n) false f at to e go = cc
out_of_place (Code.Item.Row r) true f at to e go = cc
out_of_place (Code.Item.Row r) false f at to e go = cc
out_of_place Code.Item.Skipped seen f at to e go = cc

-- one that is leads the run and the state on
in_place : (x : Code.Item) (seen : Bool) (f : Found) (at to : ℕ) {t : Tally} → f.seen ≡ seen → (f.seen ≡ false → f.rows ≡ [])
    → taken x at (cond seen (Some f.n) None) (tally_of f) ≡ Ok t
    → (k : Found) × ((go : ℕ → Found → Run) → follow (placed seen at (item_paper x to)) f go ≡ go to k) × (t ≡ tally_of k) × (k.seen ≡ false → k.rows ≡ [])
in_place (Code.Item.Nodes n) true f at to {t} is bare e = absurd (let z : ◌≡◌ {A = ℕ} 0 1 = cc in omega arith)
in_place (Code.Item.Nodes n) false f at to {t} is bare e =
    let same : Scan.with_nodes (tally_of f) n ≡ t = cc in
    (with_nodes f n, (λ go. refl), sym same ∙ nodes_next f n (bare is), λ z. true-false true refl z)
in_place (Code.Item.Row r) true f at to {t} is bare e =
    let same : Scan.with_row (tally_of f) f.n r ≡ t = cc in
    let r' : Row = record { a = r.a; b = r.b; w = r.w } in
    (with_row f r', (λ go. refl), sym same ∙ row_next f r', λ z. true-false f.seen is z)
in_place (Code.Item.Row r) false f at to {t} is bare e = absurd (let z : ◌≡◌ {A = ℕ} 0 1 = cc in omega arith)
in_place Code.Item.Skipped seen f at to {t} is bare e = let same : t ≡ tally_of f = cc in (f, (λ go. refl), same, bare)

module _ {s : List ℕ} {end at : ℕ} {whole : Run} {t : Tally} (g : Going s end whole at t) where
  pub ended : end ≤ at → judged whole ≡ Ok t
  ended h = rw (g.same, run_end g.turns s end at g.found h, g.holds)

  pub wrong : at < end → {num place : ℕ} → broken num place ≡ item_at s end at g.found.seen → judged whole ≡ Err (bad num place)
  wrong h e = rw (g.same, (run_more g.turns s end at g.found h g.enough).2, ← e)

  pub misplaced : at < end → (x : Code.Item) (to : ℕ) {num place : ℕ} → placed g.found.seen at (item_paper x to) ≡ item_at s end at g.found.seen
      → taken x at t.nodes t ≡ Err (bad num place) → judged whole ≡ Err (bad num place)
  misplaced h x to is e =
      let m = run_more g.turns s end at g.found h g.enough in
      rw (g.same, m.2, ← is, out_of_place x g.found.seen g.found at to (rw g.holds at e) (λ to k. run_from m.0 s end to k))

  pub onward : at < end → (x : Code.Item) (to : ℕ) {d : Tally} → placed g.found.seen at (item_paper x to) ≡ item_at s end at g.found.seen
      → taken x at t.nodes t ≡ Ok d → at < to → Going s end whole to d
  onward h x to is e forth =
      let f = g.found in
      let m = run_more g.turns s end at f h g.enough in
      let k = in_place x f.seen f at to refl g.bare (rw g.holds at e) in
      record {
        turns = m.0;
        found = k.0;
        same = g.same ∙ m.2 ∙ rw (← is) (k.1 (λ to k. run_from m.0 s end to k));
        enough = omega (arith, m.1, g.enough);
        holds = k.2;
        bare = k.3;
      }
