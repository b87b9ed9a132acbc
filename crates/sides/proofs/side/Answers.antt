-- `side` meets its contract. The two calls of `word` give the bits of the first 64 nodes and of the next 64, which are the two
-- words; nodes from 128 on are in neither, so the ones of both count the nodes below 128.
use mathlib.Core.Path.{◌≡◌, sym, ap, ◌∙◌}
use mathlib.Core.Bool.{Bool}
use mathlib.Core.List.{List}
use Prim.Native.Nat.{ℕ, ◌+◌, ◌-◌, ◌*◌, ◌^◌, ◌≤◌, ◌<◌, min}
use native.Mathlib.Nat.{zero-add}
use native.Mathlib.Omega.{arith}
use lib.Count.{ones}
use lib.ListN.{length, get_or, take, drop}
use Rattle.std.proofs.lemmas.List.{length-take, length-drop, get_or-take, get_or-drop}
use Rattle.meaning.specs.Sums.{on}
use Rattle.meaning.specs.Split.{word, size_of}
use Rattle.sides.specs.Bits.{bits, labelled, Sided}
use Rattle.laws.specs.Sums.{sum_ext}
use Rattle.laws.specs.Words.{size_ones}
use Rattle.sides.proofs.Laws.{word-bits}
use Rattle.sides.proofs.side.Goals as goal

-- the labels from `from` on, m of them, are those of the nodes from `from` on
bits_part : (l p : List ℕ) (t from m : ℕ) → length p ≡ m → ((b : ℕ) → b < m → get_or p b 0 ≡ get_or l (from + b) 0)
    → bits 0 (length p) (labelled p t) ≡ bits from m (labelled l t)
unfolding bits
bits_part l p t from m size same =
    ap (λ k. bits 0 k (labelled p t)) size
    ∙ sum_ext m (λ b. on (labelled p t (0 + b)) (2 ^ b)) (λ b. on (labelled l t (from + b)) (2 ^ b)) (λ b h. rw (zero-add b, same b h))

module _ (l : List ℕ) (t : ℕ) where
  abbrev n : ℕ
  n = length l

  abbrev S : ℕ → Bool
  S = labelled l t

  low_is : (m : ℕ) → m ≡ min n 64 → bits 0 (length (take m l)) (labelled (take m l) t) ≡ word n S 0
  low_is m is =
      bits_part l (take m l) t 0 (min 64 (n - 64 * 0)) (length-take m l ∙ omega arith) (λ b h. get_or-take m l b 0 (omega arith) ∙ rw zero-add)
      ∙ sym (word-bits 0 n S)

  high_is : (m e : ℕ) → m ≡ min n 64 → e ≡ min n 128 → bits 0 (length (take (e - m) (drop m l))) (labelled (take (e - m) (drop m l)) t) ≡ word n S 1
  high_is m e middle end =
      bits_part l (take (e - m) (drop m l)) t (64 * 1) (min 64 (n - 64 * 1))
      (length-take (e - m) (drop m l) ∙ omega (arith, length-drop m l))
      (λ b h.
      let at : m + b ≡ 64 * 1 + b = omega arith in
      get_or-take (e - m) (drop m l) b 0 (omega arith) ∙ get_or-drop m l b 0 ∙ ap (λ k. get_or l k 0) at)
      ∙ sym (word-bits 1 n S)

  first_128 : (i : ℕ) → i ≤ 1 → word n S i ≡ word (min n 128) S i
  first_128 i h =
      let same : min 64 (n - 64 * i) ≡ min 64 (min n 128 - 64 * i) = omega arith in
      word-bits i n S ∙ rw same (sym (word-bits i (min n 128) S))

  size_is : ones (word n S 0) + ones (word n S 1) ≡ size_of (min n 128) S
  size_is = rw (first_128 0 (omega arith), first_128 1 (omega arith)) (size_ones (min n 128) S (omega arith))

  -- what the calls give together
  sided : (x y m e : ℕ) → m ≡ min n 64 → e ≡ min n 128 → x ≡ bits 0 (length (take m l)) (labelled (take m l) t)
      → y ≡ bits 0 (length (take (e - m) (drop m l))) (labelled (take (e - m) (drop m l)) t)
      → Sided n S (record { low = x; high = y; size = ones x + ones y })
  sided x y m e middle end first second =
      let low : x ≡ word n S 0 = first ∙ low_is m middle in
      let high : y ≡ word n S 1 = second ∙ high_is m e middle end in
      record { low_word = low; high_word = high; right_size = rw (low, high) size_is }

pub returns : goal.returns
returns c =
    sided c.args.label.now c.args.t c.word-low.result c.word-high.result c.min-middle.result c.min-end.result
    c.min-middle.ensures c.min-end.ensures c.word-low.ensures c.word-high.ensures
