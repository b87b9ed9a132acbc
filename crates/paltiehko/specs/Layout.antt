-- How an answer lies in the eight places that a program lends for it.
use Rattle.std.specs.Prelude.{ℕ, List, [], ◌∷◌, get_or}
use Rattle.meaning.specs.Numbers.{Answer, number, place, field}

-- number, place, then the fields, zero where there is none: every field of a refusal, and those past a call's last
abbrev pub laid_out : Answer → List ℕ
laid_out r =
    number r ∷ place r
    ∷ field r 0 ∷ field r 1 ∷ field r 2 ∷ field r 3 ∷ field r 4 ∷ field r 5 ∷ []

-- the last six of these, where a call answers with such fields
abbrev pub fields_laid : List ℕ → List ℕ
fields_laid fields =
    get_or fields 0 0 ∷ get_or fields 1 0 ∷ get_or fields 2 0 ∷ get_or fields 3 0 ∷ get_or fields 4 0 ∷ get_or fields 5 0 ∷ []
