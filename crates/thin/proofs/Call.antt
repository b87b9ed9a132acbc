-- The answers of `kept` and `short` from what the checks found and the passes left. Any two results that a contract allows are equal.
use Rattle.std.specs.Prelude.{ℕ, ◌≡◌, refl, ◌≤◌, Bool, ◌||◌, List, [], ◌∷◌, map, length, Result, Ok, ⊤, eqb, ltb}
use Rattle.std.proofs.Common.{sym, ap, ◌∙◌, arith, ltb-false}
use Rattle.std.proofs.lemmas.List.{length-map}
use Rattle.meaning.specs.Sums.{laid, listed}
use Rattle.meaning.specs.Numbers.{when, zero_k, done, answered, after}
use Rattle.meaning.specs.Links.{Given, list_of, list_check}
use Rattle.meaning.specs.Forest.{kepts_of, stays}
use Rattle.meaning.specs.Calls.{order0, short_given}
use Rattle.answers.specs.Unique.{told_unique, wrote_unique}
use Rattle.answers.specs.declared.Refusal.{Refusal}
use Rattle.laws.specs.Bools.{or-false_left, or-false_right}
use Rattle.laws.specs.Accept.{then_left}
use Rattle.lists.specs.Parts.{any_short}
use Rattle.lists.specs.declared.Checked.{Checked}
use Rattle.lists.specs.declared.Columns.{Columns}
use Rattle.lists.proofs.Passed.{Passed, passed}
use Rattle.thin.specs.Passes.{kept_at, stays_in, Roomy, Shortened}
use Rattle.thin.specs.Thin.{KeptWeights, ShortList, Thinnable}
use Rattle.thin.proofs.Numbers.{kepts, stays-map, stays_weights}

-- ---- the checks and the numbers

-- where the checks find nothing
module _ {g : Given} {k : ℕ} {short : Bool} {first first' : List ℕ} {list : Checked} (h : Thinnable g k short first (Ok list) first') where
  list_passed : Passed g short
  list_passed = passed g short (then_left (list_check g short) (when (eqb k 0) zero_k 0) (sym h.found))

-- ---- kept

module _ (g : Given) (k : ℕ) (old : List ℕ) {first first' : List ℕ} {list : Checked}
    (h : Thinnable g k (ltb (length old) (length g.la)) first (Ok list) first') where
  pub kept_room : length g.lw ≤ length old
  kept_room =
      let p = list_passed h in
      let roomy : length g.la ≤ length old = ltb-false (length old) (length g.la) p.roomy in
      omega (arith, p.even.as_w)

  pub kept_done : {new : List ℕ} → new ≡ laid (listed (length g.lw) (kept_at k first' (list_of g))) old → KeptWeights g k old (Ok tt) new
  kept_done e =
      record {
        answer = ap (λ c. answered c []) h.found;
        weights =
            e
            ∙ ap (λ n. laid (listed n (kept_at k first' (list_of g))) old) (sym (list_passed h).even.as_w)
            ∙ ap (λ l. laid l old) (kepts g (order0 g) k first' first (h.numbers refl))
            ∙ ap (λ c. after c (kepts_of (list_of g) (order0 g) k) old) h.found;
      }

pub kept_unique : (g : Given) (k : ℕ) (old : List ℕ) (t u : Result ⊤ Refusal) (l m : List ℕ)
    → KeptWeights g k old t l → KeptWeights g k old u m → (t ≡ u) × (l ≡ m)
kept_unique g k old t u l m p q = (told_unique t u (p.answer ∙ sym q.answer), p.weights ∙ sym q.weights)

-- ---- short

module _ (g : Given) (k : ℕ) (out : Columns) {first first' : List ℕ} {list : Checked}
    (h : Thinnable g k (any_short (length g.la) (length out.a.now) (length out.b.now) (length out.w.now)) first (Ok list) first') where
  -- each lent list has a place for every row
  pub short_room : Roomy (length g.la) out
  short_room =
      let n = length g.la in
      let a = ltb (length out.a.now) n in
      let b = ltb (length out.b.now) n in
      let w = ltb (length out.w.now) n in
      let none = (list_passed h).roomy in
      let ab = or-false_left (a || b) w none in
      record {
        room_a = ltb-false _ n (or-false_left a b ab);
        room_b = ltb-false _ n (or-false_right a b ab);
        room_w = ltb-false _ n (or-false_right (a || b) w none);
      }

  pub short_done : {r : ℕ} {out' : Columns} → Shortened k first' (list_of g) (length g.la) out out' r
      → ShortList g k out.a.now out.b.now out.w.now (Ok r) out'.a.now out'.b.now out'.w.now
  short_done {r} s =
      let L = list_of g in
      let stay : (f : ℕ → ℕ) → map f (stays_in k first' L (length g.la)) ≡ map f (stays L (order0 g) k) =
      λ f. stays-map g (order0 g) k first' first (h.numbers refl) f f (λ j l. refl) in
      let S = stays_in k first' L (length g.la) in
      let count : r ≡ length (short_given g k).la = s.count ∙ sym (length-map S L.a) ∙ ap length (stay L.a) in
      record {
        answer = ap (λ n. done (n ∷ [])) count ∙ ap (λ c. answered c (length (short_given g k).la ∷ [])) h.found;
        ends_a = s.laid_a ∙ ap (λ l. laid l out.a.now) (stay L.a) ∙ ap (λ c. after c (short_given g k).la out.a.now) h.found;
        ends_b = s.laid_b ∙ ap (λ l. laid l out.b.now) (stay L.b) ∙ ap (λ c. after c (short_given g k).lb out.b.now) h.found;
        weights =
            s.laid_w
            ∙ ap (λ l. laid l out.w.now) (stays_weights g (order0 g) k first' first (h.numbers refl))
            ∙ ap (λ c. after c (short_given g k).lw out.w.now) h.found;
      }

pub short_unique : (g : Given) (k : ℕ) (a b w : List ℕ) (t u : Result ℕ Refusal) (a₁ b₁ w₁ a₂ b₂ w₂ : List ℕ)
    → ShortList g k a b w t a₁ b₁ w₁
    → ShortList g k a b w u a₂ b₂ w₂
    → (t ≡ u) × (a₁ ≡ a₂) × (b₁ ≡ b₂) × (w₁ ≡ w₂)
short_unique g k a b w t u a₁ b₁ w₁ a₂ b₂ w₂ p q = (
  wrote_unique t u (p.answer ∙ sym q.answer),
  p.ends_a ∙ sym q.ends_a,
  p.ends_b ∙ sym q.ends_b,
  p.weights ∙ sym q.weights,
)
