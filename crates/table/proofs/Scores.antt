-- The pass of `add_row`: below v each score has its row's number added, from v on all is as before, and `top` is the highest so far,
-- which is 0 at first and some node's score as soon as it is not. Then what `first_of` passes and finds, and placing a node.
use Prim.Native.Nat.{ℕ, ◌+◌, ◌-◌, ◌*◌, ◌≤◌, ◌<◌}
use mathlib.Core.Path.{◌≡◌, refl, sym, ◌∙◌}
use mathlib.Core.Bool.{Bool, true, false}
use mathlib.Core.Logic.{⊎_elim}
use mathlib.Core.List.{List}
use native.Mathlib.Omega.{arith}
use native.Mathlib.Decide.{dec_lt}
use borrow.Author.Count.{below_more}
use borrow.Author.Tests.{eqb-true, eqb-false, ltb-false, eq-eqb, ne_eqb}
use lib.ListN.{length, get_or, set, take, drop, length-set, length-drop, length-take}
use Rattle.std.specs.Prelude.{max, cond, Some, None, IsSome}
use Rattle.std.proofs.lemmas.List.Folds.{list_any_at}
use Rattle.std.proofs.lemmas.List.Sums.{fails_before_first}
use Rattle.std.proofs.lemmas.List.Quantifiers.{position-Some}
use Rattle.std.specs.List.{list_any, position, position_or_len}
use lib.Seq.{get_or-set_same, get_or-set_other, get_or-take, get_or-drop, length-take-le}
use lib.Dec.{eqb, ltb}
use Rattle.meaning.specs.Sums.{on}
use Rattle.laws.specs.Bools.{cases_eq, true-false}
use Rattle.table.specs.Table.{mark, Added, NoneBefore, Placed}

pub record Adding (row score₀ score : List ℕ) (top v : ℕ) : Type 0 where
  pub size : length score ≡ length score₀
  pub more : (u : ℕ) → u < v → get_or score u 0 ≡ get_or score₀ u 0 + get_or row u 0
  pub rest : (u : ℕ) → v ≤ u → get_or score u 0 ≡ get_or score₀ u 0
  pub most : (u : ℕ) → u < v → get_or score u 0 ≤ top
  pub reached : 0 < top → (u : ℕ) × (u < v) × (get_or score u 0 ≡ top)

pub adding_none : (row score : List ℕ) → Adding row score score 0 0
adding_none row score = record { size = refl; more = λ u h. absurd (omega arith); rest = λ u h. refl; most = λ u h. omega arith; reached = λ h. absurd (omega arith) }

-- one more node, with the highest raised or kept
pub adding_more : {row score₀ score : List ℕ} {top v : ℕ} (top' : ℕ) → Adding row score₀ score top v → v < length score
    → let s = get_or score v 0 + get_or row v 0 in
    top' ≡ max top s → Adding row score₀ (set score v s) top' (v + 1)
adding_more {row} {score₀} {score} {top} {v} top' a h w =
    record {
      size = simp length-set a.size;
      more = below_more _ v (λ u l. rw (apart u l) (a.more u l)) (rw here (omega (arith, a.rest v (omega arith))));
      rest = λ u l. rw (get_or-set_other score v u s 0 (λ e. omega arith)) (a.rest u (omega arith));
      most = below_more _ v (λ u l. rw (apart u l) (omega (arith, a.most u l))) (rw here (omega arith));
      reached = λ pos. raised pos (dec_lt top s);
    }
  where
    s : ℕ
    s = get_or score v 0 + get_or row v 0

    here : get_or (set score v (get_or score v 0 + get_or row v 0)) v 0 ≡ get_or score v 0 + get_or row v 0
    here = get_or-set_same score v (get_or score v 0 + get_or row v 0) 0 h

    apart : (u : ℕ) → u < v → get_or (set score v (get_or score v 0 + get_or row v 0)) u 0 ≡ get_or score u 0
    apart u l = get_or-set_other score v u (get_or score v 0 + get_or row v 0) 0 (λ e. omega arith)

    raised : 0 < top' → Dec (top < get_or score v 0 + get_or row v 0)
        → (u : ℕ) × (u < v + 1) × (get_or (set score v (get_or score v 0 + get_or row v 0)) u 0 ≡ top')
    raised pos (yes k) = (v, omega arith, here ∙ omega arith)
    raised pos (no k) =
        let r = a.reached (omega arith) in
        (r.0, omega (arith, r.1), apart r.0 r.1 ∙ omega (arith, r.2))

pub adding_done : {row score₀ score : List ℕ} {top n : ℕ} → Adding row score₀ score top n → Added n row score₀ score top
adding_done {row} {score₀} {score} {top} {n} a = record { size = a.size; more = a.more; most = a.most; reached = λ some. go some (dec_lt 0 top) }
  where
    go : 0 < n → Dec (0 < top) → (u : ℕ) × (u < n) × (get_or score u 0 ≡ top)
    go some (yes h) = a.reached h
    go some (no h) = (0, some, omega (arith, a.most 0 some))

-- ---- looking for the first node with a score

-- where none before x passes, whatever passes is x or later
pub not_before : {P : ℕ → Type 0} (x v : ℕ) → ((k : ℕ) → k < x → P k → ⊥) → P v → x ≤ v
not_before {P} x v none h = go (dec_lt v x)
  where
    go : Dec (v < x) → x ≤ v
    go (yes l) = absurd (none v l h)
    go (no l) = omega arith

-- a part of a list
pub part_at : (l : List ℕ) (at k u : ℕ) → u < k → get_or (take k (drop at l)) u 0 ≡ get_or l (at + u) 0
part_at l at k u h = get_or-take k (drop at l) u 0 h ∙ get_or-drop at l u 0

-- where one passes, there is a first that does
position_some : (p : ℕ → Bool) (l : List ℕ) (i : ℕ) → i < length l → p (get_or l i 0) ≡ true → IsSome (position p l)
position_some p l i h e = go (ltb (position_or_len p l) (length l)) refl
  where
    go : (t : Bool) → ltb (position_or_len p l) (length l) ≡ t → IsSome (cond t (Some (position_or_len p l)) None)
    go true is = refl
    go false is =
        let past : length l ≤ position_or_len p l = ltb-false _ _ is in
        true-false _ e (fails_before_first p l i 0 (omega arith))

module _ (score : List ℕ) (top v : ℕ) (before : NoneBefore score top v) where
  -- none before v, and none from v on before v + k
  none_on : (k : ℕ) → ((u : ℕ) → u < k → get_or score (v + u) 0 ≡ top → ⊥) → NoneBefore score top (v + k)
  none_on k more u h e = go (dec_lt u v)
    where
      go : Dec (u < v) → ⊥
      go (yes l) = before u l e
      go (no l) = let back : v + (u - v) ≡ u = omega arith in more (u - v) (omega arith) (rw back e)

  -- no node of a block has the score, so none before the next block
  pub block_passed : v + 8 ≤ length score → list_any (λ s. eqb s top) (take (v + 8 - v) (drop v score)) ≡ false
      → NoneBefore score top (v + 8)
  block_passed room none =
      let block = take (v + 8 - v) (drop v score) in
      let size : length block ≡ v + 8 - v = length-take-le (v + 8 - v) (drop v score) (omega (arith, length-drop v score)) in
      none_on 8 (λ u h e.
      true-false _ (list_any_at (λ s. eqb s top) block u 0 (omega arith) (eq-eqb _ _ (part_at score v (v + 8 - v) u (omega arith) ∙ e))) none)

  -- the first node from v on that has it
  pub first_found : (k : ℕ) {i : ℕ} → position (λ s. eqb s top) (take k (drop v score)) ≡ Some i
      → (get_or score (v + i) 0 ≡ top) × NoneBefore score top (v + i)
  first_found k {i} is =
      let p = position-Some (λ s. eqb s top) (take k (drop v score)) i 0 is in
      let inside : i < k = omega (arith, p.0, length-take k (drop v score)) in (
        sym (part_at score v k i inside) ∙ eqb-true _ _ p.1,
        none_on i (λ u h e. eqb-false _ _ (p.2 u h) (part_at score v k u (omega arith) ∙ e)),
      )

  -- where a node has it, there is a first from v on that has it
  pub some_from : (k u : ℕ) → u < length score → length score ≤ v + k → get_or score u 0 ≡ top → IsSome (position (λ s. eqb s top) (take k (drop v score)))
  some_from k u h room e =
      let past : v ≤ u = not_before {P = λ i. get_or score i 0 ≡ top} v u before e in
      let back : v + (u - v) ≡ u = omega arith in
      position_some (λ s. eqb s top) (take k (drop v score)) (u - v) (omega (arith, length-take k (drop v score), length-drop v score))
      (eq-eqb _ _ (part_at score v k (u - v) (omega arith) ∙ rw back e))

-- ---- placing a node

-- the scores without x's mark
pub unmarked : (score : List ℕ) (x v : ℕ) → x < length score → get_or (set score x (get_or score x 0 - mark)) v 0 ≡ get_or score v 0 - on (eqb v x) mark
unmarked score x v h =
    ⊎_elim
    (λ e. rw (eq-eqb v x e, e) (get_or-set_same score x (get_or score x 0 - mark) 0 h))
    (λ ne. rw (ne_eqb v x ne, get_or-set_other score x v (get_or score x 0 - mark) 0 ne) (omega arith))
    (cases_eq v x)

-- the first node with the highest score
pub placed_done : (n x : ℕ) (m score score' : List ℕ) (top r : ℕ) → n ≤ 128 → x < n → x < length score
    → Added n (take (x * 128 + 128 - x * 128) (drop (x * 128) m)) (set score x (get_or score x 0 - mark)) score' top
    → get_or score' r 0 ≡ top → NoneBefore score' top r → Placed n x m score score' r
placed_done n x m score score' top r few inside h a found first =
    let w = a.reached (omega arith) in
    let below : r < n = omega (arith, w.1, not_before {P = λ k. get_or score' k 0 ≡ top} r w.0 first w.2) in
    record {
      size = a.size ∙ simp length-set;
      more = λ v l. omega (arith, a.more v l, part_at m (x * 128) (x * 128 + 128 - x * 128) v (omega arith), unmarked score x v h);
      inside = below;
      most = λ v l. rw found (a.most v l);
      first = λ v l. let other = first v l in omega (arith, a.most v (omega arith), found);
    }
