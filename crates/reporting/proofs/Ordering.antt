-- What the call `order` leaves in 128 places for a list that passed its checks: it never refuses there, since n is at most 128, and the
-- front of what it leaves is the order, whose nodes differ, so that its line is short.
use Rattle.std.proofs.Common.{ℕ, ◌≤◌, ◌≡◌, refl, ap, ◌∙◌, false, List, [], arith, length, take, drop, replicate, Result, IsOk}
use Rattle.std.specs.Prelude.{⊤}
use borrow.Author.Tests.{le-ltb}
use lib.Seq.{take_at}
use Rattle.meaning.specs.Numbers.{Check, fine, after, answered}
use Rattle.meaning.specs.Links.{Given, list_of, list_check}
use Rattle.meaning.specs.Order.{all}
use Rattle.meaning.specs.Report.{line, order_text}
use Rattle.meaning.specs.Calls.{order0, order_check}
use Rattle.laws.specs.Order.{size_all, length-prefix, prefix_placed}
use Rattle.answers.specs.declared.Refusal.{Refusal}
use Rattle.lists.proofs.Passed.{passed}
use Rattle.order.specs.Ordered.{Ordered}
use Rattle.reporting.proofs.Answered.{never_refused}
use Rattle.reporting.proofs.Spaced.{line_short}
use Rattle.reporting.proofs.Nodes.{different_short}

module _ (g : Given) (good : list_check g false ≡ fine) where
  room : order_check g 128 128 ≡ fine
  room = rw (le-ltb 128 g.n (passed g false good).few_nodes) good

  pub order_length : length (order0 g) ≡ g.n
  order_length = length-prefix (list_of g) all 0 g.n

  pub order_short : length (line order_text (order0 g)) ≤ 408
  order_short =
      let has = passed g false good in
      let placed = prefix_placed (list_of g) all 0 refl has.some_node g.n (omega (arith, size_all g.n)) in
      line_short order_text (order0 g)
      (different_short (order0 g) placed.distinct (λ i h. omega (arith, placed.below i h, has.few_nodes)))

  -- in two lists of 128 places
  module _ {t : Result ⊤ Refusal} {order back : List ℕ} (left : Ordered g (replicate 128 0) (replicate 128 0) t order back) where
    pub order_fits : IsOk t
    order_fits = never_refused (λ _. []) t [] (left.answer ∙ ap (λ (c : Check). answered c []) room)

    pub order_listed : take g.n order ≡ order0 g
    order_listed =
        ap (take g.n) (left.order_is ∙ ap (λ (c : Check). after c (order0 g) (replicate 128 0)) room)
        ∙ take_at (order0 g) (drop (length (order0 g)) (replicate 128 0)) g.n order_length
