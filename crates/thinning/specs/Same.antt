-- Asked for k, the short list answers as the full one: the same yes or none, and on yes the same value.
--
-- Why it is true: a division's value in the short list is at most its value in the full one, and at least the smaller of that and k. So the two
-- least values are equal where one of them is below k, and otherwise both are k or more. The side may differ. Assumes nothing.
use Rattle.std.specs.Prelude.{ℕ, ◌≤◌, ◌<◌, min, ◌≡◌, refl, Bool, false, List, eqb, leb}
use Rattle.std.proofs.Common.{arith, le-leb, leb-true, leb-false}
use Rattle.std.proofs.lemmas.Bool.{eqb-false, lt-leb}
use Rattle.meaning.specs.Numbers.{fine, when, Answer, number, place, field, answered, none_below}
use Rattle.meaning.specs.Links.{Given, LinkList, list_of, Accepted, list_check}
use Rattle.meaning.specs.Order.{order_of}
use Rattle.meaning.specs.Forest.{short_of}
use Rattle.meaning.specs.Split.{Split, cut, least_of}
use Rattle.meaning.specs.Calls.{order0, short_given, least0, split_fields, fewer_answer}
use Rattle.laws.specs.Accept.{Words, fine_accepted}
use Rattle.method.specs.Claim.{MaxBack}
use Rattle.method.specs.Order.{order_ordered}
use Rattle.method.specs.Least.{LeastSplit, least_split}
use Rattle.thinning.specs.Place.{by_test, Lists, order_lists}
use Rattle.thinning.specs.Ends.{accepted_proper}
use Rattle.thinning.specs.Kept.{kept-cut}
use Rattle.thinning.specs.Cuts.{kept_cuts}
use Rattle.thinning.specs.Short.{short_cut, short_accepted, short_fine}

-- ---- the values

-- u is v where one of them is below k, and both are k or more elsewhere
abbrev pub Near : ℕ → ℕ → ℕ → Type 0
Near k v u = (min k v ≤ u) × (u ≤ v)

module _ (L : LinkList) (o : List ℕ) (accepted : Accepted L) (lists : Lists o L.nodes) (max_back : MaxBack L o) (k : ℕ) where
  pub short_low : (S : ℕ → Bool) → min k (cut L S) ≤ cut (list_of (short_of L o k)) S
  short_low S = rw (short_cut L o k S) (kept_cuts L o (accepted_proper L accepted) lists max_back k S)

  pub short_high : (S : ℕ → Bool) → cut (list_of (short_of L o k)) S ≤ cut L S
  short_high S = rw (short_cut L o k S) (kept-cut L o k S)

  -- the least values of the two lists, from any two starts
  pub short_least : (s t : ℕ) (p q : Split) → LeastSplit L s p → LeastSplit (list_of (short_of L o k)) t q
      → Near k p.value q.value
  short_least s t p q full short = (
    omega (arith, short.value_of, short_low q.side, full.least q.side short.division),
    omega (arith, full.value_of, short_high p.side, short.least p.side full.division),
  )

-- along document 01's order
pub order_short_least : (L : LinkList) → Accepted L → 2 ≤ L.nodes → (k : ℕ)
    → Near k (least_of L 0).value (least_of (list_of (short_of L (order_of L 0) k)) 0).value
order_short_least L accepted two k =
    let o = order_of L 0 in
    let short = list_of (short_of L o k) in
    short_least L o accepted (order_lists L 0 (omega arith)) (order_ordered L 0 (omega arith)).max_back k 0 0 (least_of L 0) (least_of short 0)
    (least_split L accepted two 0 (omega arith))
    (least_split short (short_accepted L o k accepted) two 0 (omega arith))

-- ---- the answers

-- the same number at the same place, with the same value
pub record SameForK (x y : Answer) : Type 0 where
  pub same_number : number x ≡ number y
  pub same_place : place x ≡ place y
  pub same_value : field x 0 ≡ field y 0

same : {x : Answer} → SameForK x x
same = record { same_number = refl; same_place = refl; same_value = refl }

-- the question for k, where the other checks find nothing
asked : (k n : ℕ) (p q : Split) → Near k p.value q.value
    → SameForK (answered (when (leb k q.value) none_below 0) (split_fields n q)) (answered (when (leb k p.value) none_below 0) (split_fields n p))
asked k n p q near =
    by_test (leb k p.value)
    (λ e. rw (e, le-leb k q.value (omega (arith, leb-true k p.value e))) same)
    (λ e.
    let below : p.value < k = leb-false k p.value e in
    rw (e, lt-leb k q.value (omega arith)) (record { same_number = refl; same_place = refl; same_value = omega arith }))

-- The short list of every list in which the checks find nothing, asked for its own k.
pub short_answers : (g : Given) (k : ℕ) → Words g → list_check g false ≡ fine → SameForK (fewer_answer (short_given g k) k) (fewer_answer g k)
short_answers g k words ok =
    let accepted : Accepted (list_of g) = fine_accepted g false words ok in
    let near : eqb g.n 1 ≡ false → Near k (least0 g).value (least0 (short_given g k)).value = λ one.
    order_short_least (list_of g) accepted (omega (arith, eqb-false g.n 1 one, accepted.some_node)) k in
    rw (ok, short_fine (list_of g) (order0 g) k accepted)
    (by_test (eqb k 0) (λ e. rw e same) (λ e. rw e
    (by_test (eqb g.n 1) (λ e. rw e same) (λ one. rw one
    (asked k g.n (least0 g) (least0 (short_given g k)) (near one))))))
