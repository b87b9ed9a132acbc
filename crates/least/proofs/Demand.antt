-- Demand 3, of what the two calls answer for every list of 16-bit numbers in which the checks find nothing: no division has fewer across than
-- the one given; and "fewer than k?" is answered yes exactly when some division has fewer than k across, with the same split. The calls
-- answer what `meaning` defines, so the theorems of `method` about those definitions are about the calls. Assumes nothing.
use Prim.Native.Nat.{ℕ, ◌≤◌}
use mathlib.Core.Path.{◌≡◌, refl, sym, ap, ◌∙◌}
use mathlib.Core.Bool.{Bool, true, false}
use mathlib.Core.List.{List}
use Rattle.std.specs.Prelude.{Result, Ok}
use mathlib.Core.Logic.{◌↔◌}
use native.Mathlib.Omega.{arith}
use lib.Dec.{eqb, leb}
use borrow.Author.Tests.{ne_eqb}
use Rattle.meaning.specs.Numbers.{Check, fine, bad, when, ◌⟫◌, number, answered, zero_k, one_node, none_below}
use Rattle.meaning.specs.Links.{Given, list_of, list_check}
use Rattle.meaning.specs.Split.{cut, word, size_of}
use Rattle.meaning.specs.Calls.{least0, split_fields, least_answer, fewer_check, fewer_answer}
use Rattle.laws.specs.Accept.{Words, fine_accepted}
use Rattle.answers.specs.Paper.{parted_paper}
use Rattle.answers.specs.Unique.{parted_unique}
use Rattle.answers.specs.declared.Refusal.{Refusal}
use Rattle.answers.specs.declared.Split.{Split}
use Rattle.method.specs.Division.{Division}
use Rattle.method.specs.Least.{least_split}
use Rattle.method.specs.Question.{SomeBelow, NoneBelow, fewer_given, fewer_none, fewer_split}

-- what a number says of a check
zero_fine : (b c d : Bool) (f : List ℕ) → number (answered (when b zero_k 0 ⟫ when c one_node 0 ⟫ when d none_below 0) f) ≡ 0
    → (when b zero_k 0 ⟫ when c one_node 0 ⟫ when d none_below 0) ≡ fine
zero_fine true c d f e = absurd (omega arith)
zero_fine false true d f e = absurd (omega arith)
zero_fine false false true f e = absurd (omega arith)
zero_fine false false false f e = refl

none_bad : (b c d : Bool) (f : List ℕ) → number (answered (when b zero_k 0 ⟫ when c one_node 0 ⟫ when d none_below 0) f) ≡ 17
    → (when b zero_k 0 ⟫ when c one_node 0 ⟫ when d none_below 0) ≡ bad none_below 0
none_bad true c d f e = absurd (omega arith)
none_bad false true d f e = absurd (omega arith)
none_bad false false true f e = refl
none_bad false false false f e = absurd (omega arith)

-- the split that parts the nodes of a side from the rest
abbrev pub split_of : Given → (ℕ → Bool) → Split
split_of g side = record { value = cut (list_of g) side; side = record { low = word g.n side 0; high = word g.n side 1; size = size_of g.n side } }

module _ (g : Given) (words : Words g) (ok : list_check g false ≡ fine) where
  -- the answer of `least` is a division, node 0 outside, and no division has fewer across
  pub record LeastTold (r : Result Split Refusal) : Type 0 where
    pub side : ℕ → Bool
    pub told : r ≡ Ok (split_of g side)
    pub division : Division g.n side
    pub no_start : side 0 ≡ false
    pub least : (S : ℕ → Bool) → Division g.n S → cut (list_of g) side ≤ cut (list_of g) S

  pub least_told : 2 ≤ g.n → (r : Result Split Refusal) → parted_paper r ≡ least_answer g → LeastTold r
  least_told two r says =
      let p = least0 g in
      let s = least_split (list_of g) (fine_accepted g false words ok) two 0 (omega arith) in
      record {
        side = p.side;
        told =
            parted_unique r (Ok (split_of g p.side))
            (says ∙ rw (ok, ne_eqb g.n 1 (λ e. omega arith), s.value_of));
        division = s.division;
        no_start = s.no_start;
        least = λ S d. omega (arith, s.least S d, s.value_of);
      }

  module _ (k : ℕ) (some : 1 ≤ k) (r : Result Split Refusal) (says : parted_paper r ≡ fewer_answer g k) where
    abbrev rest : Check
    rest = when (eqb k 0) zero_k 0 ⟫ when (eqb g.n 1) one_node 0 ⟫ when (leb k (least0 g).value) none_below 0

    -- the list's own checks found nothing
    rest_is : fewer_check g k ≡ rest
    rest_is = rw ok

    number_is : number (parted_paper r) ≡ number (answered rest (split_fields g.n (least0 g)))
    number_is = ap number says ∙ ap (λ c. number (answered c (split_fields g.n (least0 g)))) rest_is

    -- yes exactly when some division has fewer than k across
    pub fewer_yes : (number (parted_paper r) ≡ 0) ↔ SomeBelow (list_of g) k
    fewer_yes = (
      λ e. (fewer_given g words ok k some).0 (passed e),
      λ d. ap number says ∙ ap (λ c. number (answered c (split_fields g.n (least0 g)))) ((fewer_given g words ok k some).1 d),
    )
      where
        passed : number (parted_paper r) ≡ 0 → fewer_check g k ≡ fine
        passed e = rest_is ∙ zero_fine (eqb k 0) (eqb g.n 1) (leb k (least0 g).value) (split_fields g.n (least0 g)) (sym number_is ∙ e)

    -- 17 exactly when there are two nodes or more and every division has k or more across
    pub fewer_no : (number (parted_paper r) ≡ 17) ↔ ((2 ≤ g.n) × NoneBelow (list_of g) k)
    fewer_no = (
      λ e.
          (fewer_none g words ok k some).0
          (rest_is ∙ none_bad (eqb k 0) (eqb g.n 1) (leb k (least0 g).value) (split_fields g.n (least0 g)) (sym number_is ∙ e)),
      λ d. ap number says ∙ ap (λ c. number (answered c (split_fields g.n (least0 g)))) ((fewer_none g words ok k some).1 d),
    )

    -- and yes comes with the split that `least` gives
    pub fewer_same : 2 ≤ g.n → number (parted_paper r) ≡ 0 → (t : Result Split Refusal) → parted_paper t ≡ least_answer g → r ≡ t
    fewer_same two e t least =
        let passed : fewer_check g k ≡ fine = (fewer_given g words ok k some).1 (fewer_yes.0 e) in
        parted_unique r t (says ∙ (fewer_split g words ok k some passed).2 ∙ sym (least ∙ rw (ok, ne_eqb g.n 1 (λ e. omega arith))))
