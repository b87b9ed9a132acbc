-- Words of a side: which nodes two words hold, and what the calls of this crate answer.
use Rattle.std.specs.Prelude.{ℕ, zero, suc, ◌+◌, ◌/◌, ◌%◌, min, ◌≡◌, Bool, cond, List, [], ◌∷◌, ◌++◌, length, get_or, eqb, ltb}
use Rattle.meaning.specs.Numbers.{Check, when, short_room, Answer, answered, after}
use Rattle.meaning.specs.Split.{word, size_of}
use Rattle.laws.specs.Words.{bits_of}
use Rattle.answers.specs.declared.Side.{Side}

-- the set bits among the lowest d of x, bit 0 being numbered `from`, rising
unfoldable pub rising : ℕ → ℕ → ℕ → List ℕ
rising zero from x = []
rising (suc d) from x = let more = rising d (suc from) (x / 2) in cond (eqb (x % 2) 1) (from ∷ more) more

-- the nodes that two words hold, rising
abbrev pub nodes_in : ℕ → ℕ → List ℕ
nodes_in low high = rising 64 0 low ++ rising 64 64 high

-- ---- members: how many there are; the nodes, lowest first; 14 where they do not fit

abbrev pub members_check : ℕ → ℕ → ℕ → Check
members_check low high room = when (ltb room (length (nodes_in low high))) short_room 0

abbrev pub members_answer : ℕ → ℕ → ℕ → Answer
members_answer low high room = answered (members_check low high room) (length (nodes_in low high) ∷ [])

abbrev pub members_leaves : ℕ → ℕ → List ℕ → List ℕ
members_leaves low high old = after (members_check low high (length old)) (nodes_in low high) old

-- the m bits of S from the node `from` on, the lowest first
unfoldable pub bits : ℕ → ℕ → (ℕ → Bool) → ℕ
bits from m S = bits_of m (λ v. S (from + v))

-- ---- side: the words and the size of the set of nodes below n, of which only the first 128 count

-- the nodes with label t
abbrev pub labelled : List ℕ → ℕ → ℕ → Bool
labelled l t v = eqb (get_or l v 0) t

pub record Sided (n : ℕ) (S : ℕ → Bool) (r : Side) : Type 0 where
  pub low_word : r.low ≡ word n S 0
  pub high_word : r.high ≡ word n S 1
  pub right_size : r.size ≡ size_of (min n 128) S
