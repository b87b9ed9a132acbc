-- What the functions under a floor promise, which make one node of each run of an order: the runs named, the rows renamed that are left, and
-- the list that they are, with its order.
use Rattle.std.specs.Prelude.{ℕ, suc, ◌≤◌, ◌<◌, ◌≡◌, Bool, List, length, get_or, take}
use Rattle.meaning.specs.Sums.{sum, on, differ}
use Rattle.meaning.specs.Links.{LinkList, given, list_of, Accepted}
use Rattle.meaning.specs.Order.{order_of, back_at}
use Rattle.method.specs.Floor.{runs}

-- ---- runs

-- the first `count` nodes of the order have the numbers of their runs, from 0 on; c runs in all
pub record Named (count best : ℕ) (order back name name' : List ℕ) (c : ℕ) : Type 0 where
  pub size : length name' ≡ length name
  pub begun : c ≡ runs back best count
  pub names : (p : ℕ) → p < count → suc (get_or name' (get_or order p 0) 0) ≡ runs back best (suc p)

-- ---- rows

-- the cables of the first n rows with exactly one end in S
abbrev pub across : ℕ → (ℕ → Bool) → List ℕ → List ℕ → List ℕ → ℕ
across n S a b w = sum n (λ r. on (differ (S (get_or a r 0)) (S (get_or b r 0))) (get_or w r 0))

-- the name of the end that row r has in the list l
abbrev pub new_end : List ℕ → List ℕ → ℕ → ℕ
new_end name l r = get_or name (get_or l r 0) 0

-- the first `rows` rows with their ends renamed, without those whose ends became one: `left` rows
pub record Squeezed (rows : ℕ) (name a b w a' b' w' : List ℕ) (left : ℕ) : Type 0 where
  pub a_size : length a' ≡ length a
  pub b_size : length b' ≡ length b
  pub w_size : length w' ≡ length w
  pub fewer : left ≤ rows
  -- each row left is a given row with its ends renamed, and they differ
  pub from : (i : ℕ) → i < left
      → (r : ℕ) × (r < rows)
      × (get_or a' i 0 ≡ get_or name (get_or a r 0) 0) × (get_or b' i 0 ≡ get_or name (get_or b r 0) 0) × (get_or w' i 0 ≡ get_or w r 0)
  pub apart : (i : ℕ) → i < left → get_or a' i 0 ≡ get_or b' i 0 → ⊥
  -- the cables across any set are those across its nodes before
  pub same : (S : ℕ → Bool) → across left S a' b' w' ≡ across rows (λ v. S (get_or name v 0)) a b w

-- ---- the list that is left

-- the list of the first rows of three lists
abbrev pub front : ℕ → ℕ → List ℕ → List ℕ → List ℕ → LinkList
front n rows a b w = list_of (given n (take rows a) (take rows b) (take rows w))

-- an accepted list in the first rows of three lists of 2,048 places
pub record Stored (n rows : ℕ) (a b w : List ℕ) : Type 0 where
  pub a_size : length a ≡ 2048
  pub b_size : length b ≡ 2048
  pub w_size : length w ≡ 2048
  pub few_rows : rows ≤ 2048
  pub accepted : Accepted (front n rows a b w)

-- two lists of 128 places begin with the order of L from node 0 and its back counts
pub record Along (L : LinkList) (order back : List ℕ) : Type 0 where
  pub order_size : length order ≡ 128
  pub back_size : length back ≡ 128
  pub order_is : (p : ℕ) → p < L.nodes → get_or order p 0 ≡ get_or (order_of L 0) p 0
  pub back_is : (p : ℕ) → p < L.nodes → get_or back p 0 ≡ back_at L (order_of L 0) p
