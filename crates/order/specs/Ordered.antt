-- What the call `order` leaves, for every list and whatever the two lent lists hold: its answer, and every place of both afterwards.
use Rattle.std.specs.Prelude.{◌≡◌, List, [], ℕ, length, Result, ⊤}
use Rattle.meaning.specs.Numbers.{answered, after}
use Rattle.meaning.specs.Links.{Given, list_of}
use Rattle.meaning.specs.Order.{backs_of}
use Rattle.meaning.specs.Calls.{order0, order_check}
use Rattle.answers.specs.Paper.{told_paper}
use Rattle.answers.specs.declared.Refusal.{Refusal}

pub record Ordered (g : Given) (order back : List ℕ) (r : Result ⊤ Refusal) (order' back' : List ℕ) : Type 0 where
  pub answer : told_paper r ≡ answered (order_check g (length order) (length back)) []
  pub order_is : order' ≡ after (order_check g (length order) (length back)) (order0 g) order
  pub back_is : back' ≡ after (order_check g (length order) (length back)) (backs_of (list_of g) (order0 g)) back
