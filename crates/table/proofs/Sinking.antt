-- A turn of the search for a floor. The order's runs are named from 0, so the names are below their number, and the renamed rows are the list with
-- one node for each run; `floor_step` carries what holds of its divisions back. The last node's back count is `best` or more, so the last
-- node begins no run and there are fewer runs than nodes. Assumes nothing.
use mathlib.Core.Path.{◌≡◌, refl, sym, ap, ◌∙◌}
use mathlib.Core.List.{List}
use Prim.Native.Nat.{ℕ, suc, ◌-◌, ◌≤◌, ◌<◌}
use native.Mathlib.Omega.{arith}
use lib.ListN.{length, get_or}
use borrow.Author.Tests.{lt-ltb, le-ltb}
use Rattle.meaning.specs.Links.{LinkList}
use Rattle.meaning.specs.Order.{all, order_of, back_at}
use Rattle.laws.specs.Bools.{on-false}
use Rattle.laws.specs.Choose.{size_suc, size_most, size_longer, size_has}
use Rattle.laws.specs.Lists.{has_at, distinct_eq}
use Rattle.laws.specs.Rows.{back-nil}
use Rattle.laws.specs.Order.{length-prefix}
use Rattle.method.specs.Order.{Ordered, order_ordered}
use Rattle.method.specs.Question.{NoneBelow}
use Rattle.method.specs.Floor.{begins, runs, Names, Gathers, floor_step}
use Rattle.table.specs.declared.rest.Rest.{Rest}
use Rattle.table.specs.Floor.{Named, Squeezed, front, Stored}
use Rattle.table.specs.Rest.{left_of, rest_of, Shrinking, Turn, Smaller}
use Rattle.table.proofs.Storing.{few, squeezed_stored, squeezed_gathers}

module _ {r : Rest} {order back : List ℕ} (s : Shrinking r order back) where
  abbrev L : LinkList
  L = left_of r

  abbrev n : ℕ
  n = r.nodes

  abbrev o : List ℕ
  o = order_of L 0

  some : 0 < n
  some = omega (arith, s.many)

  ord : Ordered L all 0 o
  ord = order_ordered L 0 some

  long : length o ≡ n
  long = length-prefix L all 0 n

  -- the first has no cables back
  first-back : get_or back 0 0 ≡ 0
  first-back = s.along.back_is 0 some ∙ back-nil L (get_or o 0 0)

  -- the order's nodes are nodes, each once
  pub order_below : (p : ℕ) → p < n → get_or order p 0 < 128
  order_below p h = omega (arith, s.along.order_is p h, ord.once.below p (omega (arith, long)), few r.stored)

  pub order_once : (p q : ℕ) → p < n → q < n → get_or order p 0 ≡ get_or order q 0 → p ≡ q
  order_once p q hp hq e =
      distinct_eq o ord.once.distinct p q (omega (arith, long)) (omega (arith, long)) (sym (s.along.order_is p hp) ∙ e ∙ s.along.order_is q hq)

  module _ {best : ℕ} {name₀ name : List ℕ} {c : ℕ} (named : Named n best order back name₀ name c) where
    abbrev called : ℕ → ℕ
    called v = get_or name v 0

    names : Names o back best called
    names p h = ap (λ v. suc (called v)) (sym (s.along.order_is p (omega (arith, long)))) ∙ named.names p (omega (arith, long))

    backs : (p : ℕ) → p < length o → get_or back p 0 ≡ back_at L o p
    backs p h = s.along.back_is p (omega (arith, long))

    -- a node's name is below the number of runs
    pub name_below : (v : ℕ) → v < n → called v < c
    name_below v h =
        let (p, l, e) = has_at o v (ord.each v h refl) in
        let at : suc (called v) ≡ runs back best (suc p) = ap (λ u. suc (called u)) (sym e) ∙ names p l in
        omega (arith, at, size_longer (suc p) n (begins back best) (omega (arith, long)), named.begun)

    -- what no division of the list with one node for each run is below, up to `best`, none of the list is below
    pub joined_none : (M : LinkList) → Gathers L M called → (x : ℕ) → x ≤ best → NoneBelow M x → NoneBelow L x
    joined_none M gathers = floor_step L r.stored.accepted 0 some back backs best called names M gathers

-- ---- how many runs

module _ {best : ℕ} {r : Rest} {order back : List ℕ} (t : Turn best r order back) where
  -- the first node begins a run
  pub begins_low : get_or back 0 0 < best
  begins_low = omega (arith, first-back t.shrinking, t.some)

  -- and the last begins none
  pub few_runs : (1 ≤ runs back best r.nodes) × (runs back best r.nodes < r.nodes)
  few_runs =
      let n = r.nodes in
      let last : n ≡ suc (n - 1) = omega (arith, t.shrinking.many) in
      let sums : runs back best n ≡ runs back best (suc (n - 1)) = ap (runs back best) last in (
        size_has n (begins back best) 0 (some t.shrinking) (lt-ltb (get_or back 0 0) best begins_low),
        omega (
          arith,
          sums,
          size_suc (n - 1) (begins back best),
          on-false (begins back best (n - 1)) 1 (le-ltb (get_or back (n - 1) 0) best t.low),
          size_most (n - 1) (begins back best),
        ),
      )

  -- one node for each run: the renamed rows that are left are stored, with fewer nodes, and lose no division below `best`
  pub joined : {name₀ name a' b' w' : List ℕ} {c left : ℕ} → Named r.nodes best order back name₀ name c
      → Squeezed r.rows name r.a r.b r.w a' b' w' left
      → (q : Stored c left a' b' w') × Smaller best r (rest_of q) best × (c < r.nodes)
  joined {name = name} {a'} {b'} {w'} {c} {left} named sq =
      let count = few_runs in
      let one : 1 ≤ c = omega (arith, named.begun) in
      let fewer : c < r.nodes = omega (arith, named.begun) in
      let most : c ≤ r.nodes = omega arith in
      let below = name_below t.shrinking named in (
        squeezed_stored r.stored below one most sq,
        record {
          fewer = most;
          lower = omega arith;
          none = joined_none t.shrinking named (front c left a' b' w') (squeezed_gathers r.stored below one most sq);
        },
        fewer,
      )

-- ---- all turns

-- the state at the head of the loop: the order of the list that is left ends with `best` or more cables back, and what no division of it is below,
-- up to `best`, no division of L is below
pub record Sunk (L : LinkList) (r : Rest) (best : ℕ) (order back : List ℕ) : Type 0 where
  pub shrinking : Shrinking r order back
  pub low : best ≤ get_or back (r.nodes - 1) 0
  pub none : (x : ℕ) → x ≤ best → NoneBelow (left_of r) x → NoneBelow L x
