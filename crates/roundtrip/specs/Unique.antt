-- Any two results that the promise of `read` allows are equal, and of `write` too: the paper's answer says whether the call refuses, with which number
-- and place, and what it hands on otherwise; and each lent list is what one definition gives.
use Rattle.std.specs.Prelude.{ℕ, ◌≡◌, List, Result}
use Rattle.std.proofs.Common.{sym, ◌∙◌}
use Rattle.meaning.specs.Links.{Given}
use Rattle.answers.specs.Unique.{wrote_unique, found_unique}
use Rattle.answers.specs.declared.Found.{Found}
use Rattle.answers.specs.declared.Refusal.{Refusal}
use Rattle.roundtrip.specs.Promises.{Writes, Reads}

pub read_unique : {s a₀ b₀ w₀ a b w a' b' w' : List ℕ} {r r' : Result Found Refusal} → Reads s a₀ b₀ w₀ r a b w → Reads s a₀ b₀ w₀ r' a' b' w'
    → (r ≡ r') × ((a ≡ a') × ((b ≡ b') × (w ≡ w')))
read_unique {r = r} {r' = r'} p q = (
  found_unique r r' (p.answer ∙ sym q.answer),
  (p.leaves_a ∙ sym q.leaves_a, (p.leaves_b ∙ sym q.leaves_b, p.leaves_w ∙ sym q.leaves_w)),
)

pub write_unique : {g : Given} {old new new' : List ℕ} {r r' : Result ℕ Refusal} → Writes g old r new → Writes g old r' new' → (r ≡ r') × (new ≡ new')
write_unique {r = r} {r' = r'} p q = (wrote_unique r r' (p.answer ∙ sym q.answer), p.leaves ∙ sym q.leaves)
