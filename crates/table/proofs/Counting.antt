-- Counting each node's cables. A row's ends differ, so its two stores add its cables to the nodes that exactly one of its ends is. After r
-- rows no node has more than 65,535 for each. Assumes nothing.
use Prim.Native.Nat.{ℕ, ◌+◌, ◌*◌, ◌≤◌, ◌<◌}
use mathlib.Core.Path.{◌≡◌, refl, sym, ap, ◌∙◌}
use mathlib.Core.Bool.{Bool, true, false}
use mathlib.Core.List.{List}
use native.Mathlib.Omega.{arith}
use native.Mathlib.Numerals.{add-one}
use lib.ListN.{length, get_or, set, length-set}
use lib.Seq.{get_or-set_other}
use lib.Dec.{eqb}
use borrow.Author.Tests.{eqb-true, ne_eqb}
use Rattle.meaning.specs.Sums.{on, differ}
use Rattle.laws.specs.Bools.{true-false, on_most}
use Rattle.laws.specs.Sums.{sum_none, sum-suc, sum_most}
use Rattle.table.specs.Floor.{across}
use Rattle.table.specs.Degrees.{Degrees}
use Rattle.table.proofs.Cells.{bumped}

-- of two tests that exclude each other
on-differ : (p q : Bool) (x : ℕ) → (p ≡ true → q ≡ false) → on (differ p q) x ≡ on p x + on q x
on-differ true true x f = true-false true refl (f refl)
on-differ true false x f = omega arith
on-differ false q x f = omega arith

-- the two stores of a row, of which the second finds what was there
module _ (x y c : ℕ) (deg : List ℕ) (two : x ≡ y → ⊥) where
  abbrev once : List ℕ
  once = set deg x (get_or deg x 0 + c)

  pub second : get_or once y 0 ≡ get_or deg y 0
  second = get_or-set_other deg x y (get_or deg x 0 + c) 0 (λ e. two (sym e))

  pub row_counted : x < length deg → y < length deg → (v : ℕ)
      → get_or (set once y (get_or once y 0 + c)) v 0 ≡ get_or deg v 0 + on (differ (eqb v x) (eqb v y)) c
  row_counted hx hy v =
      omega (
        arith,
        bumped deg x c v hx,
        bumped once y c v (simp length-set (omega arith)),
        on-differ (eqb v x) (eqb v y) c (λ e. ne_eqb v y (λ f. two (sym (eqb-true v x e) ∙ f))),
      )

-- ---- row by row

pub degrees_none : (a b w deg : List ℕ) → ((v : ℕ) → v < length deg → get_or deg v 0 ≡ 0) → Degrees 0 a b w deg deg
degrees_none a b w deg zeros = record { size = refl; degree = λ v h. zeros v h ∙ sym (sum_none _) }

module _ {r : ℕ} {a b w deg₀ deg : List ℕ} (s : Degrees r a b w deg₀ deg) where
  pub degrees_more : (get_or a r 0 ≡ get_or b r 0 → ⊥) → get_or a r 0 < length deg → get_or b r 0 < length deg
      → Degrees (r + 1) a b w deg₀
      (set (set deg (get_or a r 0) (get_or deg (get_or a r 0) 0 + get_or w r 0)) (get_or b r 0)
      (get_or (set deg (get_or a r 0) (get_or deg (get_or a r 0) 0 + get_or w r 0)) (get_or b r 0) 0 + get_or w r 0))
  degrees_more two ha hb =
      record {
        size = simp length-set s.size;
        degree = λ v h.
            let z = on (differ (eqb v (get_or a r 0)) (eqb v (get_or b r 0))) (get_or w r 0) in
            let row : across (r + 1) (eqb v) a b w ≡ across r (eqb v) a b w + z =
            ap (λ n. across n (eqb v) a b w) (add-one r)
            ∙ sum-suc r (λ i. on (differ (eqb v (get_or a i 0)) (eqb v (get_or b i 0))) (get_or w i 0)) in
            omega (arith, s.degree v h, row, row_counted (get_or a r 0) (get_or b r 0) (get_or w r 0) deg two ha hb v);
      }

  pub degrees_light : ((i : ℕ) → i < r → get_or w i 0 ≤ 65535) → (v : ℕ) → v < length deg₀ → get_or deg v 0 ≤ r * 65535
  degrees_light light v h =
      omega (
        arith,
        s.degree v h,
        sum_most
            r
            (λ i. on (differ (eqb v (get_or a i 0)) (eqb v (get_or b i 0))) (get_or w i 0))
            65535
            (λ i l. omega (arith, on_most (differ (eqb v (get_or a i 0)) (eqb v (get_or b i 0))) (get_or w i 0), light i l)),
      )
