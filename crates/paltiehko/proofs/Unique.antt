-- Any two results that a promise of this crate allows are equal: each promise says what every place of the answer and of every lent list
-- is, by the input alone.
use Prim.Native.Nat.{ℕ}
use mathlib.Core.Path.{◌≡◌, sym, ◌∙◌}
use mathlib.Core.List.{List}
use Rattle.meaning.specs.Numbers.{Answer}
use Rattle.meaning.specs.Links.{Given}
use Rattle.paltiehko.specs.Layout.{laid_out}
use Rattle.paltiehko.specs.Leaves.{Reading, Writing, Ordering, Numbering, Keeping, Shortening, Reporting}

same : {x y z : List ℕ} → x ≡ z → y ≡ z → x ≡ y
same p q = p ∙ sym q

-- least, fewer and summary lend nothing: their answer is all
pub answer_unique : (r : Answer) {x y : List ℕ} → x ≡ laid_out r → y ≡ laid_out r → x ≡ y
answer_unique r p q = same p q

pub reading_unique : {src a b w x a' b' w' y a'' b'' w'' : List ℕ} → Reading src a b w x a' b' w' → Reading src a b w y a'' b'' w''
    → (x ≡ y) × ((a' ≡ a'') × ((b' ≡ b'') × (w' ≡ w'')))
reading_unique p q =
    (same p.answer_is q.answer_is, (same p.a_is q.a_is, (same p.b_is q.b_is, same p.w_is q.w_is)))

pub writing_unique : {g : Given} {out x out' y out'' : List ℕ} → Writing g out x out' → Writing g out y out'' → (x ≡ y) × (out' ≡ out'')
writing_unique p q = (same p.answer_is q.answer_is, same p.out_is q.out_is)

pub ordering_unique : {g : Given} {order back x order' back' y order'' back'' : List ℕ}
    → Ordering g order back x order' back' → Ordering g order back y order'' back''
    → (x ≡ y) × ((order' ≡ order'') × (back' ≡ back''))
ordering_unique p q =
    (same p.answer_is q.answer_is, (same p.order_is q.order_is, same p.back_is q.back_is))

pub numbering_unique : {g : Given} {first x first' y first'' : List ℕ} → Numbering g first x first' → Numbering g first y first''
    → (x ≡ y) × (first' ≡ first'')
numbering_unique p q = (same p.answer_is q.answer_is, same p.first_is q.first_is)

pub keeping_unique : {g : Given} {k : ℕ} {kept x kept' y kept'' : List ℕ} → Keeping g k kept x kept' → Keeping g k kept y kept''
    → (x ≡ y) × (kept' ≡ kept'')
keeping_unique p q = (same p.answer_is q.answer_is, same p.kept_is q.kept_is)

pub shortening_unique : {g : Given} {k : ℕ} {a b w x a' b' w' y a'' b'' w'' : List ℕ}
    → Shortening g k a b w x a' b' w' → Shortening g k a b w y a'' b'' w''
    → (x ≡ y) × ((a' ≡ a'') × ((b' ≡ b'') × (w' ≡ w'')))
shortening_unique p q =
    (same p.answer_is q.answer_is, (same p.a2_is q.a2_is, (same p.b2_is q.b2_is, same p.w2_is q.w2_is)))

pub reporting_unique : {src out x out' y out'' : List ℕ} → Reporting src out x out' → Reporting src out y out'' → (x ≡ y) × (out' ≡ out'')
reporting_unique p q = (same p.answer_is q.answer_is, same p.out_is q.out_is)
