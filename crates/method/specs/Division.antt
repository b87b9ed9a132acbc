-- Divisions of the nodes below n, and the part of a division's value that lies inside a set.
use Rattle.std.specs.Prelude.{ℕ, ◌≤◌, ◌<◌, ◌≡◌, Bool, true, false, ◌&&◌}
use Rattle.meaning.specs.Sums.{sum, on, differ}
use Rattle.meaning.specs.Links.{LinkList}
use Rattle.meaning.specs.Split.{cut}
use Rattle.laws.specs.Bools.{and_left, on_mono}
use Rattle.laws.specs.Sums.{sum-le}

-- "a set of nodes, neither empty nor all": some node below n is inside and some node below n is outside
pub record Division (n : ℕ) (S : ℕ → Bool) : Type 0 where
  pub inside : (v : ℕ) × (v < n) × (S v ≡ true)
  pub outside : (v : ℕ) × (v < n) × (S v ≡ false)

-- the weights of the rows with exactly one end in S and both ends in U
unfoldable pub cut_in : LinkList → (ℕ → Bool) → (ℕ → Bool) → ℕ
cut_in L S U = sum L.rows (λ r. on (differ (S (L.a r)) (S (L.b r)) && (U (L.a r) && U (L.b r))) (L.w r))

pub cut_in-cut : (L : LinkList) (S U : ℕ → Bool) → cut_in L S U ≤ cut L S
unfolding cut_in cut
cut_in-cut L S U =
    sum-le
    L.rows
    (λ r. on (differ (S (L.a r)) (S (L.b r)) && (U (L.a r) && U (L.b r))) (L.w r))
    (λ r. on (differ (S (L.a r)) (S (L.b r))) (L.w r))
    (λ r l.
    on_mono
    (differ (S (L.a r)) (S (L.b r)) && (U (L.a r) && U (L.b r)))
    (differ (S (L.a r)) (S (L.b r)))
    (L.w r)
    (and_left (differ (S (L.a r)) (S (L.b r))) (U (L.a r) && U (L.b r))))
