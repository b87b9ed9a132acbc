-- Any two results that a promise of `word` or `number` allows are equal: both say what every byte is and which place comes after.
use Prim.Native.Nat.{ℕ}
use mathlib.Core.Path.{◌≡◌}
use mathlib.Core.List.{List}
use Rattle.text.specs.Put.{put, past}

pub put_unique : (at : ℕ) (new old out out' : List ℕ) (r r' : ℕ)
    → (out ≡ put at new old) × (r ≡ past at new old)
    → (out' ≡ put at new old) × (r' ≡ past at new old)
    → (out ≡ out') × (r ≡ r')
put_unique at new old out out' r r' p q = (cc, cc)
