-- What each call with lent lists leaves, for every input: the answer laid out, and every place of every lent list. What a list holds at
-- exit has a prime.
use Rattle.std.specs.Prelude.{ℕ, ◌≡◌, List, [], ◌∷◌, length}
use Rattle.meaning.specs.Numbers.{answered, after}
use Rattle.meaning.specs.Links.{Given, list_of}
use Rattle.meaning.specs.Order.{backs_of}
use Rattle.meaning.specs.Forest.{firsts_of, kepts_of}
use Rattle.meaning.specs.File.{file_check, list_in}
use Rattle.meaning.specs.Report.{report_of}
use Rattle.meaning.specs.Calls.{order0, read_answer, write_answer, write_leaves, order_check, forest_check, kept_check, short_check, short_given, report_answer, report_check}
use Rattle.paltiehko.specs.Layout.{laid_out}

pub record Reading (src a b w answer' a' b' w' : List ℕ) : Type 0 where
  pub answer_is : answer' ≡ laid_out (read_answer src (length a) (length b) (length w))
  pub a_is : a' ≡ after (file_check src (length a) (length b) (length w)) (list_in src).la a
  pub b_is : b' ≡ after (file_check src (length a) (length b) (length w)) (list_in src).lb b
  pub w_is : w' ≡ after (file_check src (length a) (length b) (length w)) (list_in src).lw w

pub record Writing (g : Given) (out answer' out' : List ℕ) : Type 0 where
  pub answer_is : answer' ≡ laid_out (write_answer g (length out))
  pub out_is : out' ≡ write_leaves g out

pub record Ordering (g : Given) (order back answer' order' back' : List ℕ) : Type 0 where
  pub answer_is : answer' ≡ laid_out (answered (order_check g (length order) (length back)) [])
  pub order_is : order' ≡ after (order_check g (length order) (length back)) (order0 g) order
  pub back_is : back' ≡ after (order_check g (length order) (length back)) (backs_of (list_of g) (order0 g)) back

pub record Numbering (g : Given) (first answer' first' : List ℕ) : Type 0 where
  pub answer_is : answer' ≡ laid_out (answered (forest_check g (length first)) [])
  pub first_is : first' ≡ after (forest_check g (length first)) (firsts_of (list_of g) (order0 g)) first

pub record Keeping (g : Given) (k : ℕ) (kept answer' kept' : List ℕ) : Type 0 where
  pub answer_is : answer' ≡ laid_out (answered (kept_check g k (length kept)) [])
  pub kept_is : kept' ≡ after (kept_check g k (length kept)) (kepts_of (list_of g) (order0 g) k) kept

pub record Shortening (g : Given) (k : ℕ) (a2 b2 w2 answer' a2' b2' w2' : List ℕ) : Type 0 where
  pub answer_is : answer' ≡ laid_out (answered (short_check g k (length a2) (length b2) (length w2)) (length (short_given g k).la ∷ []))
  pub a2_is : a2' ≡ after (short_check g k (length a2) (length b2) (length w2)) (short_given g k).la a2
  pub b2_is : b2' ≡ after (short_check g k (length a2) (length b2) (length w2)) (short_given g k).lb b2
  pub w2_is : w2' ≡ after (short_check g k (length a2) (length b2) (length w2)) (short_given g k).lw w2

pub record Reporting (src out answer' out' : List ℕ) : Type 0 where
  pub answer_is : answer' ≡ laid_out (report_answer src (length out))
  pub out_is : out' ≡ after (report_check src (length out)) (report_of src) out
