-- The rounds together. Their definition keeps no noted division and takes the better of a round and the rest; the code takes the better of
-- what it noted and a round. Both are the same, since taking the better is associative. A value that no division is below is never replaced.
-- Assumes nothing.
use mathlib.Core.Path.{◌≡◌, refl, sym, ap, ◌∙◌, subst}
use mathlib.Core.List.{List}
use Rattle.std.specs.Prelude.{Option, Some, None}
use Prim.Native.Nat.{ℕ, zero, suc, ◌-◌, ◌≤◌, ◌<◌}
use native.Mathlib.Omega.{arith}
use Rattle.meaning.specs.Links.{LinkList, links}
use Rattle.meaning.specs.Order.{all}
use Rattle.meaning.specs.Split.{Split as PaperSplit, group, merged, noted, better, rounds, least_of}
use Rattle.laws.specs.Rows.{cut-links}
use Rattle.laws.specs.Accept.{links_most}
use Rattle.laws.specs.Rounds.{better_now, better_assoc}
use Rattle.method.specs.Least.{Groups, Real, accepted_ends, rounds_real, last_of, before_of}
use Rattle.method.specs.Division.{Division}
use Rattle.method.specs.Question.{NoneBelow}
use Rattle.answers.specs.declared.Split.{Split}
use Rattle.least.specs.Rounds.{Grouped, NotesYet, Notes, After, above}
use Rattle.least.proofs.Noting.{better_yes, better_no}
use Rattle.least.proofs.Grouping.{in_groups}

-- the answer, when p is noted and `count` groups are left
abbrev rest : LinkList → ℕ → PaperSplit → (ℕ → ℕ) → ℕ → PaperSplit
rest L start p g zero = p
rest L start p g (suc zero) = p
rest L start p g (suc (suc j)) = better p (rounds L start j g)

pub record Going (L : LinkList) (start n count : ℕ) (m label : List ℕ) (r : Split) : Type 0 where
  pub g : ℕ → ℕ
  pub p : PaperSplit
  pub grouped : Grouped L g n count m label
  pub notes : Notes n p r
  pub same : least_of L start ≡ rest L start p g count

rounds_low : (L : LinkList) (start j : ℕ) (g : ℕ → ℕ) → (rounds L start j g).value ≤ links L
unfolding rounds
rounds_low L start zero g = cut-links L (group g (last_of L start g 0))
rounds_low L start (suc j) g =
    omega (
      arith,
      better_now (noted L g (last_of L start g (suc j))) (rounds L start j (merged g (before_of L start g (suc j)) (last_of L start g (suc j)))),
      cut-links L (group g (last_of L start g (suc j))),
    )

-- a round's better part goes over to what is noted
next : (L : LinkList) (start j : ℕ) (p : PaperSplit) (g : ℕ → ℕ)
    → better p (rounds L start j g)
    ≡ rest L start (better p (noted L g (last_of L start g j))) (merged g (before_of L start g j) (last_of L start g j)) (suc j)
unfolding rounds
next L start zero p g = refl
next L start (suc j) p g =
    sym (better_assoc p (noted L g (last_of L start g (suc j))) (rounds L start j (merged g (before_of L start g (suc j)) (last_of L start g (suc j)))))

-- a round, with p noted before it
going_on : {L : LinkList} {start n j : ℕ} {m label : List ℕ} {r : Split} (g : ℕ → ℕ) (p : PaperSplit)
    → least_of L start ≡ better p (rounds L start j g) → After L start g j n p m label r → Going L start n (suc j) m label r
going_on {L} {start} {n} {j} {m} {label} {r} g p same t =
    record {
      g = merged g (before_of L start g j) (last_of L start g j);
      p = better p (noted L g (last_of L start g j));
      grouped = t.grouped;
      notes = t.notes;
      same = same ∙ next L start j p g;
    }

-- what a round promises of `count` groups, where r is noted
abbrev pub Round : ℕ → ℕ → ℕ → Option Split → List ℕ → List ℕ → List ℕ → List ℕ → Split → Type 0
Round start n count r m label m' label' r' =
    (L : LinkList) (g : ℕ → ℕ) (j : ℕ) (p : PaperSplit) → count ≡ suc (suc j) → Grouped L g n count m label → NotesYet n p r
    → After L start g j n p m' label' r'

-- the first round
pub going_first : {L : LinkList} {start n count left : ℕ} {m label m' label' : List ℕ} {r : Split} → Grouped L (λ v. v) n count m label → 2 ≤ n
    → count ≡ n → suc left ≡ count → Round start n count None m label m' label' r → Going L start n left m' label' r
going_first {L} {start} {n} {count} {left} {m} {label} {m'} {label'} {r} s two all less round =
    let j = n - 2 in
    let many : count ≡ suc (suc j) = omega arith in
    let rounds-left : L.nodes - 2 ≡ j = omega (arith, s.nodes) in
    let first : least_of L start ≡ better above (rounds L start j (λ v. v)) =
    ap (λ k. rounds L start k (λ v. v)) rounds-left
    ∙ sym (better_yes above (rounds L start j (λ v. v)) (omega (arith, rounds_low L start j (λ v. v), links_most L s.accepted))) in
    let one : suc j ≡ left = omega arith in
    subst (λ k. Going L start n k m' label' r) one
    (going_on (λ v. v) above first (round L (λ v. v) j above many s refl))

-- and each later one
pub going_round : {L : LinkList} {start n count left : ℕ} {m label m' label' : List ℕ} {r r' : Split} → Going L start n count m label r
    → 2 ≤ count → suc left ≡ count → Round start n count (Some r) m label m' label' r' → Going L start n left m' label' r'
going_round {L} {start} {n} {count} {left} {m} {label} {m'} {label'} {r} {r'} s two less round =
    let j = count - 2 in
    let many : count ≡ suc (suc j) = omega arith in
    let one : suc j ≡ left = omega arith in
    let same : least_of L start ≡ better s.p (rounds L start j s.g) = s.same ∙ ap (rest L start s.p s.g) many in
    subst (λ k. Going L start n k m' label' r') one (going_on s.g s.p same (round L s.g j s.p many s.grouped s.notes))

-- a real split is a division
pub real_division : {L : LinkList} {start : ℕ} {p : PaperSplit} → Real L all start p → Division L.nodes p.side
real_division real =
    let i = real.parts.inside in
    let o = real.parts.outside in
    record { inside = (i.0, i.1, i.3); outside = (o.0, o.1, o.3) }

-- the rounds may end when no division is below what is noted: whatever they would answer is a division
pub going_low : {L : LinkList} {start n count : ℕ} {m label : List ℕ} {r : Split} → Going L start n count m label r → start < n
    → (low : ℕ) → NoneBelow L low → r.value ≤ low → Notes n (least_of L start) r
going_low {L} {start} {n} {count} {m} {label} {r} s inside low none le = rw (s.same ∙ kept count (in_groups s.grouped)) s.notes
  where
    kept : (k : ℕ) → Groups L.nodes all k s.g → rest L start s.p s.g k ≡ s.p
    kept zero gs = refl
    kept (suc zero) gs = refl
    kept (suc (suc j)) gs =
        let acc = s.grouped.accepted in
        let real = rounds_real L all (accepted_ends L acc) start (omega (arith, s.grouped.nodes)) refl j s.g gs in
        better_no s.p (rounds L start j s.g) (omega (arith, s.notes.value_is, real.value_of, none (rounds L start j s.g).side (real_division real)))

-- and they end when one group is left
pub going_last : {L : LinkList} {start n count : ℕ} {m label : List ℕ} {r : Split} → Going L start n count m label r → count ≤ 1
    → Notes n (least_of L start) r
going_last {L} {start} {n} {count} {m} {label} {r} s one = rw (s.same ∙ kept count one) s.notes
  where
    kept : (k : ℕ) → k ≤ 1 → rest L start s.p s.g k ≡ s.p
    kept zero h = refl
    kept (suc zero) h = refl
    kept (suc (suc j)) h = absurd (omega arith)
