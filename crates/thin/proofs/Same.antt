-- The short list answers as the full one, at the level of the code: what `short` wrote, handed to `fewer` with its k, gives the number, place
-- and value that `fewer` gives on the list itself. What was written is the short list of `meaning`, of which the crate `thinning` proves it.
use Prim.Native.Nat.{ℕ}
use Rattle.std.specs.Prelude.{Result, Ok}
use mathlib.Core.Path.{◌≡◌, refl, sym, ap, ◌∙◌, subst₂}
use mathlib.Core.Bool.{false}
use mathlib.Core.List.{List, [], ◌∷◌}
use lib.ListN.{length, take, length-map}
use lib.Seq.{take_at}
use lib.Dec.{eqb}
use Rattle.meaning.specs.Numbers.{Check, fine, bad, when, zero_k, done, answered, after}
use Rattle.meaning.specs.Links.{Given, given, list_of, list_check}
use Rattle.meaning.specs.Forest.{kept, stays}
use Rattle.meaning.specs.Calls.{order0, short_check, short_given, fewer_answer}
use Rattle.laws.specs.Accept.{Words, then_left}
use Rattle.thinning.specs.Same.{SameForK, short_answers}
use Rattle.answers.specs.Paper.{parted_paper}
use Rattle.answers.specs.declared.Refusal.{Refusal}
use Rattle.answers.specs.declared.Split.{Split}
use Rattle.lists.proofs.Checks.{passed_roomy}
use Rattle.thin.specs.Thin.{ShortList}

-- a call that answers 0 found nothing, and gives its fields
answered_done : (c : Check) (m n : ℕ) → done (m ∷ []) ≡ answered c (n ∷ []) → (c ≡ fine) × (m ≡ n)
answered_done fine m n e = (refl, cc)
answered_done (bad num at) m n e = cc

module _ (g : Given) (k : ℕ) {a b w a' b' w' : List ℕ} {m : ℕ} (s : ShortList g k a b w (Ok m) a' b' w') where
  told : (short_check g k (length a) (length b) (length w) ≡ fine) × (m ≡ length (short_given g k).la)
  told = answered_done (short_check g k (length a) (length b) (length w)) m (length (short_given g k).la) s.answer

  list_fine : list_check g false ≡ fine
  list_fine = passed_roomy g _ (then_left (list_check g _) (when (eqb k 0) zero_k 0) told.0)

  -- the front of a lent list
  front : (new old l : List ℕ) → l ≡ after (short_check g k (length a) (length b) (length w)) new old → length new ≡ m → take m l ≡ new
  front new old l e size = ap (take m) (e ∙ ap (λ c. after c new old) told.0) ∙ take_at new _ m size

  -- what was written is the short list
  pub written : given g.n (take m a') (take m b') (take m w') ≡ short_given g k
  written =
      let S = stays (list_of g) (order0 g) k in
      let L = list_of g in
      let one : length S ≡ m = sym (length-map S L.a) ∙ sym told.1 in
      let ea : take m a' ≡ (short_given g k).la = front (short_given g k).la a a' s.ends_a (length-map S L.a ∙ one) in
      let eb : take m b' ≡ (short_given g k).lb = front (short_given g k).lb b b' s.ends_b (length-map S L.b ∙ one) in
      let ew : take m w' ≡ (short_given g k).lw = front (short_given g k).lw w w' s.weights (length-map S (kept L (order0 g) k) ∙ one) in
      rw (ea, eb, ew)

  -- the question for k, asked of what was written and of the list
  pub short_same : Words g → (p q : Result Split Refusal)
      → parted_paper p ≡ fewer_answer (given g.n (take m a') (take m b') (take m w')) k
      → parted_paper q ≡ fewer_answer g k
      → SameForK (parted_paper p) (parted_paper q)
  short_same words p q ep eq =
      subst₂ SameForK (sym (ep ∙ ap (λ h. fewer_answer h k) written)) (sym eq) (short_answers g k words list_fine)
