-- How many bytes the numbers of different nodes take: each node counts once, so at most as many as the numbers of all 128 nodes take,
-- and those are 402.
use Prim.Native.Nat.{ℕ, zero, suc, ◌+◌, ◌/◌, ◌%◌, ◌≤◌, ◌<◌}
use mathlib.Core.Path.{◌≡◌, refl, ap, ◌∙◌}
use mathlib.Core.Bool.{Bool, true, false, cond}
use mathlib.Core.List.{List, [], ◌∷◌}
use native.Mathlib.Nat.{add-zero}
use native.Mathlib.Omega.{arith}
use lib.ListN.{length, get_or, take, length-append}
use lib.Seq.{take-suc, take-length}
use lib.Dec.{eqb}
use Rattle.meaning.specs.Sums.{sum, on, has}
use Rattle.meaning.specs.Report.{digits, decimal, spaced, line, side_text}
use Rattle.laws.specs.Bools.{on_most}
use Rattle.laws.specs.Sums.{sum-suc, sum-le}
use Rattle.laws.specs.Lists.{Distinct, sum-has}
use Rattle.sides.specs.Bits.{rising, nodes_in}
use Rattle.reporting.proofs.Spaced.{spaced-append, line_short}

-- a node takes a space and its digits
abbrev bytes : ℕ → ℕ
bytes v = suc (length (decimal v))

all-bytes : sum 128 bytes ≡ 402
unfolding sum digits
all-bytes = refl

-- ---- a list of different nodes

taken_bytes : (l : List ℕ) (k : ℕ) → k ≤ length l → length (spaced (take k l)) ≡ sum k (λ i. bytes (get_or l i 0))
unfolding spaced sum
taken_bytes l zero h = refl
taken_bytes l (suc k) h =
    let x = get_or l k 0 in
    let rest : length (spaced (take k l)) ≡ sum k (λ i. bytes (get_or l i 0)) = taken_bytes l k (omega arith) in
    ap (λ m. length (spaced m)) (take-suc l k 0 (omega arith))
    ∙ ap length (spaced-append (take k l) (x ∷ []))
    ∙ length-append (spaced (take k l)) (spaced (x ∷ []))
    ∙ omega (arith, length-append (decimal x) [])

pub different_short : (l : List ℕ) → Distinct l → ((i : ℕ) → i < length l → get_or l i 0 < 128) → length (spaced l) ≤ 402
different_short l different below =
    let once : sum 128 (λ v. on (has (take (length l) l) v) (bytes v)) ≡ sum (length l) (λ i. bytes (get_or l i 0)) =
    sum-has 128 l bytes different below (length l) (omega arith) in
    let most : sum 128 (λ v. on (has (take (length l) l) v) (bytes v)) ≤ sum 128 bytes =
    sum-le 128 (λ v. on (has (take (length l) l) v) (bytes v)) bytes (λ v h. on_most (has (take (length l) l) v) (bytes v)) in
    omega (arith, taken_bytes l (length l) (omega arith), ap (λ m. length (spaced m)) (take-length l), all-bytes)

-- ---- the nodes of two words

picked_bytes : (t : Bool) (v : ℕ) (l : List ℕ) → length (spaced (cond t (v ∷ l) l)) ≤ bytes v + length (spaced l)
unfolding spaced
picked_bytes true v l = omega (arith, length-append (decimal v) (spaced l))
picked_bytes false v l = omega arith

-- after all nodes below `from`
rising-bytes : (d from x : ℕ) → sum from bytes + length (spaced (rising d from x)) ≤ sum (from + d) bytes
unfolding rising spaced
rising-bytes zero from x = omega (arith, ap (λ n. sum n bytes) (add-zero from))
rising-bytes (suc d) from x =
    let more = rising d (suc from) (x / 2) in
    let rest : sum (suc from) bytes + length (spaced more) ≤ sum (suc from + d) bytes = rising-bytes d (suc from) (x / 2) in
    let picked : length (spaced (rising (suc d) from x)) ≤ bytes from + length (spaced more) = picked_bytes (eqb (x % 2) 1) from more in
    let same : suc from + d ≡ from + suc d = omega arith in
    omega (arith, sum-suc from bytes, ap (λ n. sum n bytes) same)

pub nodes_short : (low high : ℕ) → length (spaced (nodes_in low high)) ≤ 402
nodes_short low high =
    let first : sum 0 bytes + length (spaced (rising 64 0 low)) ≤ sum 64 bytes = rising-bytes 64 0 low in
    let second : sum 64 bytes + length (spaced (rising 64 64 high)) ≤ sum 128 bytes = rising-bytes 64 64 high in
    rw (spaced-append (rising 64 0 low) (rising 64 64 high))
    (omega (arith, length-append (spaced (rising 64 0 low)) (spaced (rising 64 64 high)), all-bytes))

-- line 4
pub side_short : (low high : ℕ) → length (line side_text (nodes_in low high)) ≤ 407
side_short low high = line_short side_text (nodes_in low high) (nodes_short low high)
