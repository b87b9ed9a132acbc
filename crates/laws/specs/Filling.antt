-- A list that a loop fills from the front, one store at a turn.
--
-- In order: `Upto`, that below v it holds f and from v on what it held, with its start (`upto_none`) and one store more (`upto_more`); `filled_more`, one
-- store more in a list that has `listed i f` laid at its front.
--
-- A store at v changes no other place. Assumes nothing.
use Rattle.std.specs.Prelude.{ℕ, ◌+◌, ◌≤◌, ◌<◌, ◌≡◌, refl, List, length, get_or, set}
use Rattle.std.proofs.Common.{sym, ap, ◌∙◌, arith, add-one, length-set, get_or-set_same, get_or-set_other, below_more}
use Rattle.meaning.specs.Sums.{listed, laid}
use Rattle.laws.specs.Lists.{laid-listed-suc}

pub record Upto (f : ℕ → ℕ) (v : ℕ) (l₀ l : List ℕ) : Type 0 where
  pub size : length l ≡ length l₀
  pub new : (u : ℕ) → u < v → get_or l u 0 ≡ f u
  pub old : (u : ℕ) → v ≤ u → get_or l u 0 ≡ get_or l₀ u 0

pub upto_none : (f : ℕ → ℕ) (l : List ℕ) → Upto f 0 l l
upto_none f l = record { size = refl; new = λ u h. absurd (omega arith); old = λ u h. refl }

pub upto_more : {f : ℕ → ℕ} {v : ℕ} {l₀ l : List ℕ} (x : ℕ) → Upto f v l₀ l → v < length l₀ → x ≡ f v → Upto f (v + 1) l₀ (set l v x)
upto_more {f} {v} {l₀} {l} x s room e =
    record {
      size = length-set l v x ∙ s.size;
      new =
          below_more
          (λ u. get_or (set l v x) u 0 ≡ f u)
          v
          (λ u h. get_or-set_other l v u x 0 (omega arith) ∙ s.new u h)
          (get_or-set_same l v x 0 (omega (arith, s.size)) ∙ e);
      old = λ u h. get_or-set_other l v u x 0 (omega arith) ∙ s.old u (omega arith);
    }

pub filled_more : (f : ℕ → ℕ) (i x : ℕ) (l₀ l : List ℕ) → l ≡ laid (listed i f) l₀ → i < length l₀ → x ≡ f i → set l i x ≡ laid (listed (i + 1) f) l₀
filled_more f i x l₀ l e h is =
    ap (λ k. set k i x) e
    ∙ ap (set (laid (listed i f) l₀) i) is
    ∙ sym (laid-listed-suc i f l₀ h)
    ∙ ap (λ k. laid (listed k f) l₀) (sym (add-one i))
