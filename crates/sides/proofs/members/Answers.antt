-- `members` meets its contract. The ones of both words are as many as there are set bits to list, so the test of the room is the
-- check, and each call of `list` is given its places; those of the second begin where the first ended.
use mathlib.Core.Path.{◌≡◌, refl, sym, ap}
use mathlib.Core.List.{List, [], ◌∷◌, ◌++◌, append_assoc}
use Prim.Native.Nat.{ℕ, ◌+◌, ◌-◌, ◌^◌, ◌≤◌, ◌<◌}
use native.Mathlib.Omega.{arith}
use borrow.Rule.Slice.PartMut.{put_mid}
use lib.Count.{ones}
use lib.ListN.{length, drop, length-append}
use lib.Seq.{take_at, drop_at, drop-drop}
use borrow.Author.Tests.{lt-ltb, le-ltb}
use Rattle.std.proofs.lemmas.List.{length-take, length-drop}
use Rattle.meaning.specs.Sums.{laid}
use Rattle.meaning.specs.Numbers.{done, refused}
use Rattle.sides.specs.Bits.{rising, nodes_in, members_answer, members_leaves}
use Rattle.sides.proofs.Laws.{length-rising}
use Rattle.sides.proofs.members.Goals as goal

-- a list laid in two parts, the second behind the first
laid_twice : (p q out : List ℕ) (a b : ℕ) → a ≡ length p → b ≡ length q → put_mid a (a + b - a) (p ++ drop a out) q ≡ laid (p ++ q) out
laid_twice p q out a b first second =
    let some : a + b - a ≡ length q = omega arith in
    rw (some, first, take_at p (drop (length p) out) (length p) refl, drop_at p (drop (length p) out) (length p) refl, drop-drop (length q) (length p) out, length-append p q, append_assoc)

module _ (low high : ℕ) (out : List ℕ) (low-fits : low < 2 ^ 64) (high-fits : high < 2 ^ 64) where
  many : length (nodes_in low high) ≡ ones low + ones high
  many = rw (length-append, length-rising 64 0 low low-fits, length-rising 64 64 high high-fits)

  refuses : length out < ones low + ones high → (refused 14 0 ≡ members_answer low high (length out)) × (out ≡ members_leaves low high out)
  refuses short =
      let test = lt-ltb (length out) (length (nodes_in low high)) (rw many short) in
      (rw test, rw test)

  lists : ones low + ones high ≤ length out → (p q : List ℕ) → p ≡ rising 64 0 low → q ≡ rising 64 64 high
      → (done ((ones low + ones high) ∷ []) ≡ members_answer low high (length out))
      × (put_mid (ones low) (ones low + ones high - ones low) (p ++ drop (ones low) out) q ≡ members_leaves low high out)
  lists room p q first second =
      let test = le-ltb (length out) (length (nodes_in low high)) (rw many room) in (
        rw (test, many),
        rw (first, second, test) (laid_twice (rising 64 0 low) (rising 64 64 high) out (ones low) (ones high) (sym (length-rising 64 0 low low-fits)) (sym (length-rising 64 64 high high-fits))),
      )

pub returns-then-out-end : goal.returns-then-out-end
returns-then-out-end c =
    let both = refuses c.args.low c.args.high c.args.out.now c.ranges.low.fits c.ranges.high.fits c.if-out-end.true in
    record { answer = both.0; leaves = both.1 }

pub list-requires-2 : goal.list-requires-2
list-requires-2 c = (
  omega arith,
  simp (length-take, length-drop, length-append)
      (omega (arith, ap length c.list.ensures, length-rising 64 0 c.args.low c.ranges.low.fits)),
)

pub returns : goal.returns
returns c =
    let both =
    lists c.args.low c.args.high c.args.out.now c.ranges.low.fits c.ranges.high.fits c.if-out-end.false c.list.new.out c.list-2.new.out
    c.list.ensures c.list-2.ensures in
    record { answer = both.0; leaves = both.1 }
