-- What each call answers, for every input: its checks in order, its answer, and what each lent list holds afterwards.
-- A lent list comes in by its contents (`old`), and its checks by its length.
use Rattle.std.specs.Prelude.{ℕ, false, ◌||◌, List, [], ◌∷◌, length, eqb, ltb, leb}
use Rattle.meaning.specs.Numbers.{Check, when, ◌⟫◌, Answer, answered, after, short_room, zero_k, one_node, none_below}
use Rattle.meaning.specs.Links.{Given, list_of, links, pairs, list_check}
use Rattle.meaning.specs.Order.{order_of}
use Rattle.meaning.specs.Forest.{short_of}
use Rattle.meaning.specs.Split.{Split, least_of, word, size_of}
use Rattle.meaning.specs.File.{file_check, list_in, file_of, file_bytes}
use Rattle.meaning.specs.Report.{report_of}

-- the base's order starts at node 0
abbrev pub order0 : Given → List ℕ
order0 g = order_of (list_of g) 0

-- ---- read: n and the number of rows; the three lists

abbrev pub read_answer : List ℕ → ℕ → ℕ → ℕ → Answer
read_answer s ra rb rw = answered (file_check s ra rb rw) ((list_in s).n ∷ length (list_in s).la ∷ [])

-- ---- write: the size; the bytes

abbrev pub write_check : Given → ℕ → Check
write_check g room = list_check g (ltb room (file_bytes (length g.la)))

abbrev pub write_answer : Given → ℕ → Answer
write_answer g room = answered (write_check g room) (file_bytes (length g.la) ∷ [])

abbrev pub write_leaves : Given → List ℕ → List ℕ
write_leaves g old = after (write_check g (length old)) (file_of (list_of g)) old

-- ---- order: nothing but the two lists, n places in each

abbrev pub order_check : Given → ℕ → ℕ → Check
order_check g ro rb = list_check g (ltb ro g.n || ltb rb g.n)

-- ---- forest: one place per row

abbrev pub forest_check : Given → ℕ → Check
forest_check g room = list_check g (ltb room (length g.la))

-- ---- kept: one place per row; 15 where k is 0

abbrev pub kept_check : Given → ℕ → ℕ → Check
kept_check g k room = list_check g (ltb room (length g.la)) ⟫ when (eqb k 0) zero_k 0

-- ---- short: the number of rows written; one place per given row in each of three lists

abbrev pub short_check : Given → ℕ → ℕ → ℕ → ℕ → Check
short_check g k ra rb rw =
    list_check g (ltb ra (length g.la) || ltb rb (length g.la) || ltb rw (length g.la)) ⟫ when (eqb k 0) zero_k 0

abbrev pub short_given : Given → ℕ → Given
short_given g k = short_of (list_of g) (order0 g) k

-- ---- least: value, the side's two words, its size; 16 with one node

abbrev pub split_fields : ℕ → Split → List ℕ
split_fields n p = p.value ∷ word n p.side 0 ∷ word n p.side 1 ∷ size_of n p.side ∷ []

abbrev pub least0 : Given → Split
least0 g = least_of (list_of g) 0

abbrev pub least_check : Given → Check
least_check g = list_check g false ⟫ when (eqb g.n 1) one_node 0

abbrev pub least_answer : Given → Answer
least_answer g = answered (least_check g) (split_fields g.n (least0 g))

-- ---- fewer: the same split where its value is below k, else 17; before it 15 and 16

abbrev pub fewer_check : Given → ℕ → Check
fewer_check g k =
    list_check g false
    ⟫ when (eqb k 0) zero_k 0
    ⟫ when (eqb g.n 1) one_node 0
    ⟫ when (leb k (least0 g).value) none_below 0

abbrev pub fewer_answer : Given → ℕ → Answer
fewer_answer g k = answered (fewer_check g k) (split_fields g.n (least0 g))

-- ---- summary: n, rows, links, pairs

abbrev pub summary_answer : Given → Answer
summary_answer g =
    answered (list_check g false) (g.n ∷ length g.la ∷ links (list_of g) ∷ pairs (list_of g) ∷ [])

-- ---- report: the length of the text; 14 where it does not fit, and then nothing is written

abbrev pub report_check : List ℕ → ℕ → Check
report_check s room = when (ltb room (length (report_of s))) short_room 0

abbrev pub report_answer : List ℕ → ℕ → Answer
report_answer s room = answered (report_check s room) (length (report_of s) ∷ [])
