-- The filling pass. The run ran and its rows have room, so no record of it is wrong. The pass goes from record to record as `run_from` does,
-- and each lent list holds the numbers of the rows found so far laid at its front; only a kind 2 record adds one.
use Prim.Native.Nat.{ℕ, zero, suc, ◌+◌, ◌≤◌, ◌<◌}
use mathlib.Core.Path.{◌≡◌, refl, sym, ap, ◌∙◌}
use mathlib.Core.Logic.{⊎_elim}
use mathlib.Core.Bool.{cond}
use mathlib.Core.List.{List, [], ◌∷◌, ◌++◌, map, map-append}
use native.Mathlib.Omega.{arith}
use native.Mathlib.Nat.{le_refl}
use lib.ListN.{length, get_or, set, length-append, length-map}
use lib.Dec.{eqb, ltb}
use borrow.Author.Tests.{eq-eqb, ne_eqb}
use Rattle.meaning.specs.Sums.{laid}
use Rattle.meaning.specs.File.{get16, Row, Item, broken, nodes_item, row_item, skipped, item_at, Found, Run, ran, follow, run_from, found_in, nothing}
use Rattle.laws.specs.Bools.{bool_cases}
use Rattle.laws.specs.Lists.{length-laid, laid_more}
use Rattle.read.specs.Fill.{Fits, LaysRow, laid_at}
use Rattle.read.proofs.Items.{Whole, IsRow, Sound, sound}
use Rattle.read.proofs.State.{with_row, with_nodes, run_end, run_more}

-- ---- the rows found only grow

same_rows : (g f : Found) → ◌≡◌ {A = Run} (ran g) (ran f) → length g.rows ≤ length f.rows
same_rows g f e = let same : g ≡ f = cc in rw same (le_refl (length f.rows))

grown_by : (x : Item) (g f : Found) (go : ℕ → Found → Run) → ((to : ℕ) (k : Found) → go to k ≡ ran f → length k.rows ≤ length f.rows)
    → follow x g go ≡ ran f → length g.rows ≤ length f.rows
grown_by (broken num at) g f go later e = absurd (let z : ◌≡◌ {A = ℕ} 0 1 = cc in omega arith)
grown_by (nodes_item n to) g f go later e = later to (with_nodes g n) e
grown_by (row_item r to) g f go later e = omega (arith, later to (with_row g r) e, length-append g.rows (r ∷ []))
grown_by (skipped to) g f go later e = later to g e

grown : (turns : ℕ) (s : List ℕ) (end at : ℕ) (g f : Found) → run_from turns s end at g ≡ ran f → length g.rows ≤ length f.rows
unfolding run_from
grown zero s end at g f e = same_rows g f e
grown (suc t) s end at g f e =
    ⊎_elim
    (λ in-run.
    grown_by (item_at s end at g.seen) g f (λ to k. run_from t s end to k) (λ to k. grown t s end to k f) (rw in-run at e))
    (λ past. same_rows g f (rw past at e))
    (bool_cases (ltb at end))

-- ---- one store more

stored : (f : Row → ℕ) (rows : List Row) (r : Row) (x i : ℕ) (old l : List ℕ) → l ≡ laid (map f rows) old → i ≡ length rows → x ≡ f r → length rows < length old
    → set l i x ≡ laid (map f (rows ++ (r ∷ []))) old
stored f rows r x i old l in-l count is room =
    rw (map-append f rows (r ∷ []), in-l, count, is, ← length-map rows f) (sym (laid_more (map f rows) (f r) old (omega (arith, length-map rows f))))

-- ---- where the filling pass stands

pub record Filling (s : List ℕ) (r : Run) (a₀ b₀ w₀ a b w : List ℕ) (at i : ℕ) : Type 0 where
  pub turns : ℕ
  pub found : Found
  pub same : r ≡ run_from turns s (length s) at found
  pub enough : length s ≤ at + turns
  pub count : i ≡ length found.rows
  pub in_a : a ≡ laid (map (λ r. r.a) found.rows) a₀
  pub in_b : b ≡ laid (map (λ r. r.b) found.rows) b₀
  pub in_w : w ≡ laid (map (λ r. r.w) found.rows) w₀

-- what holds at a record: it is whole, a kind 2 record can be laid, and the pass stands after it
pub record Laying (s : List ℕ) (r : Run) (a₀ b₀ w₀ a b w : List ℕ) (at i : ℕ) : Type 0 where
  pub some : 2 ≤ get_or s at 0
  pub within : at + get_or s at 0 ≤ length s
  pub lays : get_or s (at + 1) 0 ≡ 2 → LaysRow s at i a b w
  pub onward : Filling s r a₀ b₀ w₀ (laid_at s at 2 i a) (laid_at s at 4 i b) (laid_at s at 6 i w) (at + get_or s at 0) (cond (eqb (get_or s (at + 1) 0) 2) (i + 1) i)

module _ {s : List ℕ} {r : Run} {a₀ b₀ w₀ a b w : List ℕ} {at i : ℕ} (fits : Fits r (length a₀) (length b₀) (length w₀))
    (g : Filling s r a₀ b₀ w₀ a b w at i) where
  -- the rows found so far have room, so that the lists keep their lengths
  few : length g.found.rows ≤ length (found_in r).rows
  few = grown g.turns s (length s) at g.found (found_in r) (sym g.same ∙ fits.ran_it)

  kept : (f : Row → ℕ) (old l : List ℕ) → length (found_in r).rows ≤ length old → l ≡ laid (map f g.found.rows) old → length l ≡ length old
  kept f old l room e = ap length e ∙ length-laid (map f g.found.rows) old (omega (arith, length-map g.found.rows f, few))

  pub same_a : length a ≡ length a₀
  same_a = kept (λ x. x.a) a₀ a fits.room_a g.in_a

  pub same_b : length b ≡ length b₀
  same_b = kept (λ x. x.b) b₀ b fits.room_b g.in_b

  pub same_w : length w ≡ length w₀
  same_w = kept (λ x. x.w) w₀ w fits.room_w g.in_w

  -- a record that is no row
  passed : (t : ℕ) (k : Found) (to : ℕ) → g.turns ≡ suc t → Whole s (length s) at to → (get_or s (at + 1) 0 ≡ 2 → ⊥) → k.rows ≡ g.found.rows
      → r ≡ run_from t s (length s) to k → Laying s r a₀ b₀ w₀ a b w at i
  passed t k to more whole other rows e =
      record {
        some = whole.some;
        within = omega (arith, whole.next, whole.within);
        lays = λ two. absurd (other two);
        onward =
            rw (ne_eqb (get_or s (at + 1) 0) 2 other)
            (record {
              turns = t;
              found = k;
              same = rw whole.next at e;
              enough = omega (arith, whole.some, more, g.enough);
              count = rw rows g.count;
              in_a = rw rows g.in_a;
              in_b = rw rows g.in_b;
              in_w = rw rows g.in_w;
            });
      }

  -- a row
  taken : (t : ℕ) (x : Row) (to : ℕ) → g.turns ≡ suc t → Whole s (length s) at to → IsRow s at x
      → r ≡ run_from t s (length s) to (with_row g.found x) → Laying s r a₀ b₀ w₀ a b w at i
  taken t x to more whole row e =
      let rows = g.found.rows in
      let fewer : length rows < length (found_in r).rows =
      omega (arith, grown t s (length s) to (with_row g.found x) (found_in r) (sym e ∙ fits.ran_it), length-append rows (x ∷ [])) in
      let is = row.numbers in
      record {
        some = whole.some;
        within = omega (arith, whole.next, whole.within);
        lays =
            λ two.
            record {
              within = omega (arith, whole.next, whole.within, row.eight);
              in_a = omega (arith, same_a, fewer, g.count, fits.room_a);
              in_b = omega (arith, same_b, fewer, g.count, fits.room_b);
              in_w = omega (arith, same_w, fewer, g.count, fits.room_w);
            };
        onward =
            rw (eq-eqb (get_or s (at + 1) 0) 2 row.kind)
            (record {
              turns = t;
              found = with_row g.found x;
              same = rw whole.next at e;
              enough = omega (arith, whole.some, more, g.enough);
              count = omega (arith, g.count, length-append rows (x ∷ []));
              in_a = stored (λ y. y.a) rows x (get16 s (at + 2)) i a₀ a g.in_a g.count (sym (ap (λ y. y.a) is)) (omega (arith, fewer, fits.room_a));
              in_b = stored (λ y. y.b) rows x (get16 s (at + 4)) i b₀ b g.in_b g.count (sym (ap (λ y. y.b) is)) (omega (arith, fewer, fits.room_b));
              in_w = stored (λ y. y.w) rows x (get16 s (at + 6)) i w₀ w g.in_w g.count (sym (ap (λ y. y.w) is)) (omega (arith, fewer, fits.room_w));
            });
      }

  laying_by : (t : ℕ) (x : Item) → g.turns ≡ suc t → Sound s (length s) at x
      → r ≡ follow x g.found (λ to k. run_from t s (length s) to k) → Laying s r a₀ b₀ w₀ a b w at i
  laying_by t (broken num place) more good e = absurd (let h = sym fits.ran_it ∙ e in let z : ◌≡◌ {A = ℕ} 0 1 = cc in omega arith)
  laying_by t (nodes_item n to) more good e = passed t (with_nodes g.found n) to more good.0 good.1 refl e
  laying_by t (row_item x to) more good e = taken t x to more good.0 good.1 e
  laying_by t (skipped to) more good e = passed t g.found to more good.0 good.1 refl e

  pub laying : at < length s → Laying s r a₀ b₀ w₀ a b w at i
  laying h =
      let f = g.found in
      let m = run_more g.turns s (length s) at f h g.enough in
      laying_by m.0 (item_at s (length s) at f.seen) m.1 (sound s (length s) at f.seen) (g.same ∙ m.2)

  -- at the end every row is laid
  all-found : length s ≤ at → found_in r ≡ g.found
  all-found h = ap found_in (g.same ∙ run_end g.turns s (length s) at g.found h)

  pub filled : length s ≤ at → (a ≡ laid (map (λ x. x.a) (found_in r).rows) a₀) × ((b ≡ laid (map (λ x. x.b) (found_in r).rows) b₀)
      × (w ≡ laid (map (λ x. x.w) (found_in r).rows) w₀))
  filled h = rw (all-found h) (g.in_a, (g.in_b, g.in_w))

-- where the pass begins
pub starts : (s : List ℕ) (start : ℕ) (a b w : List ℕ) → Filling s (run_from (length s) s (length s) start nothing) a b w a b w start 0
starts s start a b w =
    record { turns = length s; found = nothing; same = refl; enough = omega arith; count = refl; in_a = refl; in_b = refl; in_w = refl }
