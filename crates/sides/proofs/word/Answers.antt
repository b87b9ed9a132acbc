-- `word` meets its contract: x holds the bits of the labels passed, so it is below 2 ^ i, and the next bit stands clear above it.
use mathlib.Core.Path.{◌≡◌, sym, ◌∙◌}
use mathlib.Core.Bool.{Bool, true, false}
use Prim.Native.Nat.{ℕ, suc, ◌+◌, ◌*◌, ◌%◌, ◌^◌, ◌<◌}
use native.Mathlib.Nat.{pow-suc, zero-add}
use native.Mathlib.Numerals.{add-one}
use native.Mathlib.Omega.{arith}
use mir.Val.{bool_byte}
use lib.Pow.{pow-lt, pow_mono}
use Rattle.meaning.specs.Sums.{on}
use Rattle.laws.specs.Bools.{on_most}
use Rattle.sides.specs.Bits.{bits, labelled}
use Rattle.sides.proofs.Laws.{bits_more, bits-lt, bits_none}
use Rattle.sides.proofs.word.Goals as goal

more : (i : ℕ) (S : ℕ → Bool) → bits 0 (i + 1) S ≡ bits 0 i S + on (S i) (2 ^ i)
more i S = rw add-one (bits_more 0 i S ∙ rw zero-add)

pub loop-i-init : goal.loop-i-init
loop-i-init c = sym (bits_none 0 (labelled c.args.label.now c.args.t))

-- what the code adds for the label i
add_is : (b : Bool) (i : ℕ) → i < 64 → (bool_byte b * 2 ^ i) % 18446744073709551616 ≡ on b (2 ^ i)
add_is true i h = omega (arith, pow-lt {i = i} {j = 64} h)
add_is false i h = omega arith

put : {y : ℕ} (i x : ℕ) (S : ℕ → Bool) → i < 64 → x ≡ bits 0 i S → y ≡ bool_byte (S i) → x + (y * 2 ^ i) % 18446744073709551616 ≡ bits 0 (i + 1) S
put {y} i x S h e is = rw is (omega (arith, e, more i S, add_is (S i) i h))

-- whatever the label is, the next bit has room
room : {y : ℕ} (b : Bool) (i x : ℕ) (S : ℕ → Bool) → i < 64 → x ≡ bits 0 i S → y ≡ bool_byte b → x + (y * 2 ^ i) % 18446744073709551616 < 2 ^ 64
room {y} b i x S h e is =
    rw is (omega (arith, e, bits-lt 0 i S, add_is b i h, on_most b (2 ^ i), pow-suc 2 i, pow_mono {i = suc i} {j = 64} (omega arith)))

pub overflow_add-x : goal.overflow_add-x
overflow_add-x c =
    let fits = room _ c.loop-i.i c.loop-i.x (labelled c.args.label.now c.args.t) (omega arith) c.loop-i.invariant c.from.ensures in
    omega arith

pub loop-i-preserved : goal.loop-i-preserved
loop-i-preserved c =
    put c.loop-i.i c.loop-i.x (labelled c.args.label.now c.args.t) (omega arith) c.loop-i.invariant c.from.ensures
