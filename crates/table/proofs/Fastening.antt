-- What hangs is fastened: a row between two nodes has no more cables than there are between them, so a node that a row has half of hangs in the sense
-- of `hang_step`, which carries what holds of the divisions of the renamed list back. Assumes nothing.
use mathlib.Core.Path.{◌≡◌, sym, ◌∙◌}
use mathlib.Core.Bool.{◌&&◌}
use mathlib.Core.List.{List, [], ◌∷◌}
use mathlib.Core.Logic.{◌⊎◌, inl, inr}
use Prim.Native.Nat.{ℕ, zero, suc, ◌≤◌, ◌<◌, min}
use Rattle.std.specs.List.{fold}
use native.Mathlib.Omega.{arith}
use lib.ListN.{length, get_or}
use lib.Seq.{get_or-take}
use lib.Dec.{eqb}
use borrow.Author.Tests.{eq-eqb}
use Rattle.meaning.specs.Links.{LinkList}
use Rattle.meaning.specs.Order.{reach, back}
use Rattle.meaning.specs.Split.{cut}
use Rattle.laws.specs.Bools.{and-true, on-true}
use Rattle.laws.specs.Sums.{sum_term_le}
use Rattle.method.specs.Question.{NoneBelow}
use Rattle.method.specs.Floor.{Gathers}
use Rattle.method.specs.Hang.{Hangs, hang_step}
use Rattle.table.specs.Floor.{Squeezed, front, Stored}
use Rattle.table.specs.Degrees.{Degrees}
use Rattle.table.specs.Hang.{Joins, Hung}
use Rattle.table.specs.Kept.{Gathered}
use Rattle.table.specs.Rest.{rest_of, Smaller}
use Rattle.table.proofs.Storing.{few, rows_are, stored_cut, squeezed_stored, squeezed_gathers}

-- the least of a number and a list is at most each of them
pub fold_first : (best : ℕ) (l : List ℕ) → fold min best l ≤ best
fold_first best [] = omega arith
fold_first best (x ∷ l) = omega (arith, fold_first (min best x) l)

pub fold_least : (best : ℕ) (l : List ℕ) (v : ℕ) → v < length l → fold min best l ≤ get_or l v 0
fold_least best [] v h = absurd (omega arith)
fold_least best (x ∷ l) zero h = omega (arith, fold_first (min best x) l)
fold_least best (x ∷ l) (suc v) h = fold_least (min best x) l v (omega arith)

module _ {n rows : ℕ} {a b w : List ℕ} (s : Stored n rows a b w) where
  abbrev L : LinkList
  L = front n rows a b w

  -- a row between two nodes
  between : (r u v : ℕ) → r < rows → Joins a b r u v → get_or w r 0 ≤ back L (eqb v) u
  unfolding back
  between r u v h j =
      let term = sum_term_le L.rows (λ i. reach (eqb v) u (L.a i) (L.b i) (L.w i)) r (omega (arith, rows_are s)) in
      let weight = get_or-take rows w r 0 h in
      let a_is = get_or-take rows a r 0 h in
      let b_is = get_or-take rows b r 0 h in
      omega (arith, weight, term, reaches (L.a r) (L.b r) (L.w r) (rw (a_is, b_is) j))
    where
      reaches : (x y c : ℕ) → ((x ≡ u) × (y ≡ v)) ⊎ ((y ≡ u) × (x ≡ v)) → c ≤ reach (eqb v) u x y c
      reaches x y c (inl e) =
          omega (arith, on-true (eqb x u && eqb v y) c (and-true (eqb x u) (eqb v y) (eq-eqb x u e.0) (eq-eqb v y (sym e.1))))
      reaches x y c (inr e) =
          omega (arith, on-true (eqb y u && eqb v x) c (and-true (eqb y u) (eqb v x) (eq-eqb y u e.0) (eq-eqb v x (sym e.1))))

  module _ {low : ℕ} {deg₀ deg to₀ to : List ℕ} (size : length deg₀ ≡ 128) (counted : Degrees rows a b w deg₀ deg)
      (lowest : (v : ℕ) → v < n → low ≤ get_or deg v 0) (hung : Hung n rows a b w deg to₀ to) where
    degree : (v : ℕ) → v < n → cut L (eqb v) ≡ get_or deg v 0
    degree v h = stored_cut s (eqb v) ∙ sym (counted.degree v (omega (arith, few s)))

    hangs : (x : ℕ) → x ≤ low → Hangs L x (λ v. get_or to v 0)
    hangs x le =
        record {
          inside = hung.inside;
          settled = hung.settled;
          heavy = λ v h ne.
              let (r, l, j, half) = hung.heavy v h ne in
              omega (arith, degree v h, between r v (get_or to v 0) l j);
          many = λ v h ne. omega (arith, degree v h, lowest v h);
        }

    -- what no division of the list with one node for each target is below, up to `low`, none of the list is below
    pub fastened_none : {c : ℕ} {name₀ name : List ℕ} (M : LinkList) → Gathered n to name₀ name c → Gathers L M (λ v. get_or name v 0)
        → (x : ℕ) → x ≤ low → NoneBelow M x → NoneBelow L x
    fastened_none {name = name} M gathered gathers x under =
        hang_step L s.accepted x (λ v. get_or to v 0) (hangs x under) M (λ v. get_or name v 0) gathers gathered.same

    -- one node for each target: the renamed rows that are left are stored, with no more nodes, and lose no division below `low`
    pub fastened : {best c left : ℕ} {name₀ name a' b' w' : List ℕ} → low ≤ best → Gathered n to name₀ name c
        → Squeezed rows name a b w a' b' w' left → (q : Stored c left a' b' w') × Smaller best (rest_of s) (rest_of q) low
    fastened {c = c} {left} {a' = a'} {b'} {w'} le gathered sq =
        let some : 1 ≤ c = gathered.some s.accepted.some_node in (
          squeezed_stored s gathered.below some gathered.few sq,
          record {
            fewer = gathered.few;
            lower = le;
            none = fastened_none (front c left a' b' w') gathered (squeezed_gathers s gathered.below some gathered.few sq);
          },
        )
