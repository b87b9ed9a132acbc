-- What an answer's paper says of it: it is that of its checks, and where they found nothing it is `Ok` with these fields.
use Rattle.std.proofs.Common.{ℕ, ◌≡◌, List, refl, sym, ap, ◌∙◌, arith, Result, Ok, Err, IsOk}
use Rattle.meaning.specs.Numbers.{Check, fine, bad, done, answered}
use Rattle.answers.specs.declared.Refusal.{Refusal}
use Rattle.answers.specs.Paper.{told_check, paper}

pub checked : {A : Type 0} (fields : A → List ℕ) (t : Result A Refusal) (c : Check) (found : List ℕ) →
    paper fields t ≡ answered c found → told_check t ≡ c
checked fields (Ok x) fine found e = refl
checked fields (Ok x) (bad num at) found e = absurd (let z : ◌≡◌ {A = ℕ} 0 1 = cc in omega arith)
checked fields (Err d) fine found e = absurd (let z : ◌≡◌ {A = ℕ} 0 1 = cc in omega arith)
checked fields (Err d) (bad num at) found e = cc

pub never_refused : {A : Type 0} (fields : A → List ℕ) (t : Result A Refusal) (found : List ℕ) →
    paper fields t ≡ done found → IsOk t
never_refused fields (Ok x) found e = refl
never_refused fields (Err d) found e = absurd (let z : ◌≡◌ {A = ℕ} 0 1 = cc in omega arith)

pub fields_are : {A : Type 0} (fields : A → List ℕ) (t : Result A Refusal) (x : A) (found : List ℕ) →
    paper fields t ≡ done found → t ≡ Ok x → fields x ≡ found
fields_are fields t x found e is = let same : done (fields x) ≡ done found = sym (ap (paper fields) is) ∙ e in cc
