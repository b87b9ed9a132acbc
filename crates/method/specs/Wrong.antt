-- "Shortcuts that look right", each as a definition, with a list on which it is wrong; by evaluation.
use Rattle.std.specs.Prelude.{ℕ, zero, suc, ◌-◌, min, ◌≡◌, refl, cond, List, [], ◌∷◌, ◌++◌, drop, eqb}
use Rattle.meaning.specs.Sums.{sum, on, has, listed}
use Rattle.meaning.specs.Links.{Given, given, LinkList, list_of}
use Rattle.meaning.specs.Order.{back, choose, next, prefix, all, order_of}
use Rattle.meaning.specs.Forest.{position, first, later, kepts_of}
use Rattle.meaning.specs.Split.{cut, rounds, least_of}
use Rattle.meaning.specs.Examples.{P, R, T, site_once}

-- the smallest of f 0 .. f n
unfoldable pub smallest : ℕ → (ℕ → ℕ) → ℕ
smallest zero f = f 0
smallest (suc n) f = min (smallest n f) (f (suc n))

-- ---- the smallest node degree

unfoldable pub by_degree : LinkList → ℕ
by_degree L = smallest (L.nodes - 1) (λ v. cut L (eqb v))

-- T's smallest node degree is 2, and its least split has value 1.
pub degree_wrong : (by_degree (list_of T) ≡ 2) × ((least_of (list_of T) 0).value ≡ 1)
unfolding by_degree smallest T sum has back choose prefix cut rounds
degree_wrong = (refl, refl)

-- ---- one order, kept after merging: the groups noted are the ends of that order

unfoldable pub by_one_order : LinkList → ℕ
by_one_order L = let o = order_of L 0 in smallest (L.nodes - 2) (λ i. cut L (has (drop (suc i) o)))

-- Merging along one order finds 2, and the division that parts node 1 from the rest has value 1.
pub once_wrong : (by_one_order (list_of site_once) ≡ 2) × ((least_of (list_of site_once) 0).value ≡ 1) × (cut (list_of site_once) (eqb 1) ≡ 1)
unfolding by_one_order smallest site_once sum has back choose prefix cut rounds
once_wrong = (refl, refl, refl)

-- ---- an order that stops when no unplaced node has a cable back

unfoldable pub stopping : LinkList → ℕ → List ℕ
stopping L zero = []
stopping L (suc zero) = 0 ∷ []
stopping L (suc (suc k)) =
    let p = stopping L (suc k) in
    let x = next L all p in
    cond (eqb (back L (has p) x) 0) p (p ++ (x ∷ []))

-- P's second node is lost.
pub stopping_wrong : (stopping (list_of P) 2 ≡ 0 ∷ []) × (order_of (list_of P) 0 ≡ 0 ∷ 1 ∷ [])
unfolding stopping P sum has back choose prefix
stopping_wrong = (refl, refl)

-- ---- any k cables at each node, in row order

unfoldable pub by_row_order : LinkList → ℕ → List ℕ
by_row_order L k =
    let o = order_of L 0 in
    let before : ℕ → ℕ = λ r. sum r (λ j. on (eqb (later L o j) (later L o r)) (L.w j)) in
    listed L.rows (λ r. min (L.w r) (k - before r))

-- With k = 1 R would keep 1-2 for node 2 and not 0-2.
pub row_order_differs : (by_row_order (list_of R) 1 ≡ 1 ∷ 1 ∷ 0 ∷ []) × (kepts_of (list_of R) (order_of (list_of R) 0) 1 ≡ 1 ∷ 0 ∷ 1 ∷ [])
unfolding by_row_order R sum has listed back choose prefix position first
row_order_differs = (refl, refl)

-- two cables between 1 and 2, scanned before the one between 2 and 0
unfoldable pub site_pair : Given
site_pair = given 3 (0 ∷ 1 ∷ 2 ∷ 2 ∷ []) (1 ∷ 2 ∷ 1 ∷ 0 ∷ []) (1 ∷ 1 ∷ 1 ∷ 1 ∷ [])

-- With k = 2 node 0 has two cables in the list, and keeps one.
pub row_order_wrong : (cut (list_of site_pair) (eqb 0) ≡ 2)
    × (cut (list_of (given 3 site_pair.la site_pair.lb (by_row_order (list_of site_pair) 2))) (eqb 0) ≡ 1)
unfolding by_row_order site_pair sum has listed back choose prefix position cut
row_order_wrong = (refl, refl)
