-- "The least split": divisions and their values, the rounds of document 000 with the document's ties, the side as words, the question for k.
-- A set of nodes is a Bool function. Groups are kept by g, which gives each node the number of its group, so that merging two groups is
-- renaming row ends: a row inside a group gets equal ends and counts for nothing.
use Rattle.std.specs.Prelude.{ℕ, zero, suc, ◌-◌, ◌/◌, ◌%◌, ◌^◌, min, max, Bool, ◌&&◌, cond, List, get_or, eqb, ltb}
use Rattle.meaning.specs.Sums.{sum, on, differ, those}
use Rattle.meaning.specs.Links.{LinkList}
use Rattle.meaning.specs.Order.{prefix}

-- the value of a division: the weights of the rows with exactly one end in S
unfoldable pub cut : LinkList → (ℕ → Bool) → ℕ
cut L S = sum L.rows (λ r. on (differ (S (L.a r)) (S (L.b r))) (L.w r))

-- the number of nodes below n in S
abbrev pub size_of : ℕ → (ℕ → Bool) → ℕ
size_of n S = sum n (λ v. on (S v) 1)

-- the list with its row ends renamed by g
abbrev pub renamed : (ℕ → ℕ) → LinkList → LinkList
renamed g L = record { nodes = L.nodes; rows = L.rows; a = λ r. g (L.a r); b = λ r. g (L.b r); w = L.w }

-- a group's number is that of one of its nodes, by which it is live
abbrev pub live : (ℕ → ℕ) → ℕ → Bool
live g v = eqb (g v) v

-- the nodes of the group numbered t
abbrev pub group : (ℕ → ℕ) → ℕ → ℕ → Bool
group g t v = eqb (g v) t

-- groups p and q become one, which carries the smaller number
abbrev pub merged : (ℕ → ℕ) → ℕ → ℕ → ℕ → ℕ
merged g p q v = let t = g v in cond (eqb t (max p q)) (min p q) t

-- a division that was noted: its value and its side
pub record Split : Type 0 where
  pub value : ℕ
  pub side : ℕ → Bool

-- the division that parts the group numbered t from the rest
abbrev pub noted : LinkList → (ℕ → ℕ) → ℕ → Split
noted L g t = record { value = cut L (group g t); side = group g t }

-- a later value replaces the noted one only when smaller
abbrev pub better : Split → Split → Split
better now next = cond (ltb next.value now.value) next now

-- the order of m groups, the start's group first
abbrev pub group_order : LinkList → ℕ → (ℕ → ℕ) → ℕ → List ℕ
group_order L s g m = prefix (renamed g L) (live g) (g s) m

-- the rounds with j + 2 groups left: order, note the last group, merge the last two, order afresh, until one group is left
unfoldable pub rounds : LinkList → ℕ → ℕ → (ℕ → ℕ) → Split
rounds L s zero g = let o = group_order L s g 2 in noted L g (get_or o 1 0)
rounds L s (suc j) g =
    let o = group_order L s g (suc (suc (suc j))) in
    let t = get_or o (suc (suc j)) 0 in
    better (noted L g t) (rounds L s j (merged g (get_or o (suc j) 0) t))

-- the least split of a list of two or more nodes, from the start s
abbrev pub least_of : LinkList → ℕ → Split
least_of L s = rounds L s (L.nodes - 2) (λ v. v)

-- word i of a set of nodes below n: node v is bit v mod 64 of word v div 64
unfoldable pub word : ℕ → (ℕ → Bool) → ℕ → ℕ
word n S i = sum n (λ v. on (S v && eqb (v / 64) i) (2 ^ (v % 64)))

-- the nodes below n in S, rising
abbrev pub members : ℕ → (ℕ → Bool) → List ℕ
members n S = those n S
