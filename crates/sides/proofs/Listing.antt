-- What the loop of `list` keeps: what is written so far, with the set bits of `rest`, are the set bits of x. A turn moves the lowest of
-- them from the second part to the end of the first.
use mathlib.Core.Path.{◌≡◌, refl, sym, ap, ◌∙◌}
use mathlib.Core.Logic.{⊎_elim}
use mathlib.Core.List.{List, [], ◌∷◌, ◌++◌, append_assoc, append-nil}
use Prim.Native.Nat.{ℕ, ◌+◌, ◌-◌, ◌*◌, ◌%◌, ◌^◌, ◌≤◌, ◌<◌}
use native.Mathlib.Nat.{eq-or-lt_of_le}
use native.Mathlib.Omega.{arith}
use lib.Count.{ones, count_trailing_zeros}
use lib.ListN.{length, take, set, length-append, length-set}
use lib.Pow.{pow-lt}
use lib.Seq.{length-take-le, take_all}
use Rattle.std.proofs.lemmas.List.{take_more_set, nil_from_length}
use Rattle.sides.specs.Bits.{rising}
use Rattle.sides.proofs.Laws.{lowest, rising-next, rising-zero, length-rising}

pub record Listing (x from : ℕ) (out : List ℕ) (rest i : ℕ) : Type 0 where
  pub whole : rising 64 from x ≡ take i out ++ rising 64 from rest
  pub size : length out ≡ length (rising 64 from x)
  pub fits : rest < 2 ^ 64

-- the lowest bit of a word that is not 0, as the code makes it
abbrev pub bit : ℕ → ℕ
bit rest = (1 * 2 ^ count_trailing_zeros 64 rest) % 18446744073709551616

bit_is : (rest : ℕ) → count_trailing_zeros 64 rest < 64 → bit rest ≡ 2 ^ count_trailing_zeros 64 rest
bit_is rest h = omega (arith, pow-lt {i = count_trailing_zeros 64 rest} {j = 64} h)

module _ {x from : ℕ} {out : List ℕ} {rest i : ℕ} (s : Listing x from out rest i) where
  -- where all places are written, no bit is left
  pub ends : i ≡ length out → out ≡ rising 64 from x
  ends all =
      let split : rising 64 from x ≡ out ++ rising 64 from rest = s.whole ∙ ap (λ l. l ++ rising 64 from rest) (ap (λ k. take k out) all ∙ take_all (length out) out (omega arith)) in
      let none : rising 64 from rest ≡ [] =
      nil_from_length (rising 64 from rest) (omega (arith, s.size, ap length split, length-append out (rising 64 from rest))) in
      sym (split ∙ rw none (append-nil out))

  module _ (inside : i < length out) where
    -- before that one is
    some : 0 < rest
    some =
        let left : 0 < length (rising 64 from rest) =
        omega (arith, s.size, ap length s.whole, length-append (take i out) (rising 64 from rest), length-take-le i out (omega arith)) in
        ⊎_elim
        (λ e. absurd (omega (arith, left, ap length (ap (rising 64 from) (sym e) ∙ rising-zero 64 from))))
        (λ h. h)
        (eq-or-lt_of_le {n = 0} {m = rest} (omega arith))

    -- its place is below 64
    pub low : count_trailing_zeros 64 rest < 64
    low = (lowest 64 rest some s.fits).0

    pub isset : bit rest ≤ rest
    isset = omega (arith, bit_is rest low, (lowest 64 rest some s.fits).1)

    pub goes_on : Listing x from (set out i (from + count_trailing_zeros 64 rest)) (rest - bit rest) (i + 1)
    goes_on =
        let v = from + count_trailing_zeros 64 rest in
        let next : rising 64 from rest ≡ v ∷ rising 64 from (rest - bit rest) = rw (bit_is rest low) (rising-next 64 from rest some s.fits) in
        record {
          whole = s.whole ∙ rw (next, take_more_set out i v inside, append_assoc) refl;
          size = length-set out i v ∙ s.size;
          fits = omega (arith, s.fits);
        }

pub begins : (x from : ℕ) (out : List ℕ) → x < 2 ^ 64 → length out ≡ ones x → Listing x from out x 0
begins x from out fits size = record { whole = refl; size = size ∙ sym (length-rising 64 from x fits); fits = fits }
