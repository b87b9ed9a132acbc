-- The two words hold exactly the side, and the size is the number of its nodes.
--
-- Why it is true: a word is a sum of different powers of two, one for each of its nodes (`laws`, `Words.antt`). Assumes nothing.
use Rattle.std.specs.Prelude.{ℕ, ◌+◌, ◌/◌, ◌%◌, ◌^◌, ◌≤◌, ◌<◌, ◌≡◌, Bool, not}
use Rattle.std.proofs.Common.{ap, arith}
use Rattle.std.specs.Int.Count.{ones}
use Rattle.meaning.specs.Sums.{on}
use Rattle.meaning.specs.Links.{LinkList, Accepted}
use Rattle.meaning.specs.Split.{least_of, word, size_of}
use Rattle.laws.specs.Sums.{sum_split, sum_const}
use Rattle.laws.specs.Choose.{size_has}
use Rattle.laws.specs.Words.{in_word, word-lt, word_at, word_node, size_ones}
use Rattle.method.specs.Division.{Division}

-- "node i being bit i mod 64 of word i div 64, with the number of nodes in it": bit for bit, and no other bit
pub record Held (n : ℕ) (S : ℕ → Bool) : Type 0 where
  pub node : (v : ℕ) → v < n → word n S (v / 64) / 2 ^ (v % 64) % 2 ≡ on (S v) 1
  pub every_bit : (i b : ℕ) → b < 64 → word n S i / 2 ^ b % 2 ≡ on (in_word n S i b) 1
  pub fits : (i : ℕ) → word n S i < 2 ^ 64
  pub counted : ones (word n S 0) + ones (word n S 1) ≡ size_of n S

-- The two words of any set of nodes hold exactly the set, and their ones are its size.
pub words_hold : (n : ℕ) (S : ℕ → Bool) → n ≤ 128 → Held n S
words_hold n S l = record { node = word_node n S; every_bit = word_at n S; fits = word-lt n S; counted = size_ones n S l }

-- A division's size is neither 0 nor n.
pub division_size : (n : ℕ) (S : ℕ → Bool) → Division n S → (1 ≤ size_of n S) × (size_of n S < n)
division_size n S d =
    let out : 1 ≤ size_of n (λ v. not (S v)) = size_has n (λ v. not (S v)) d.outside.0 d.outside.1 (ap not d.outside.2) in
    (size_has n S d.inside.0 d.inside.1 d.inside.2, omega (arith, sum_split n S (λ v. 1), sum_const n 1))

-- So the least split's words hold its side.
pub least_words : (L : LinkList) → Accepted L → (s : ℕ) → Held L.nodes (least_of L s).side
least_words L acc s = words_hold L.nodes (least_of L s).side acc.few_nodes
