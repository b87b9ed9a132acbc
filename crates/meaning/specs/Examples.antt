-- "Marked and unmarked examples": every case that document 01 marks with a star, as one list with a single claim about all of it, proved by
-- evaluation; then three more lists that catch classic mistakes, by the same claim. Each case holds what the definitions give beside
-- what the document says; every figure is a list of numbers.
use Rattle.std.specs.Prelude.{ℕ, ◌≡◌, refl, false, List, [], ◌∷◌, map, length, set, eqb}
use Rattle.meaning.specs.Sums.{sum, has, listed, those}
use Rattle.meaning.specs.Numbers.{Check, fine, bad, Answer, done, refused}
use Rattle.meaning.specs.Links.{Given, given, list_of, rows_check, list_check, pairs}
use Rattle.meaning.specs.Order.{back, choose, prefix, backs_of}
use Rattle.meaning.specs.Forest.{position, first, firsts_of, visits, scan, kepts_of, stays, short_of}
use Rattle.meaning.specs.Split.{cut, rounds, least_of, word, members}
use Rattle.meaning.specs.File.{item_at, run_from, run_of, file_check, rows_bytes, file_of}
use Rattle.meaning.specs.Report.{digits, spaced, list_report, report_of}
use Rattle.meaning.specs.Calls.{order0, read_answer, least_answer, fewer_answer}

-- a case: what the definitions give, and what the document says
pub record Case : Type 0 where
  pub gives : List ℕ
  pub says : List ℕ

infix 10 ◌is◌
abbrev ◌is◌ : List ℕ → List ℕ → Case
x is y = record { gives = x; says = y }

-- ---- the lists of the examples, as rows a, b, w

unfoldable pub P : Given
P = given 2 [] [] []

unfoldable pub Q : Given
Q = given 2 (0 ∷ []) (1 ∷ []) (3 ∷ [])

unfoldable pub R : Given
R = given 3 (0 ∷ 1 ∷ 0 ∷ []) (1 ∷ 2 ∷ 2 ∷ []) (1 ∷ 1 ∷ 1 ∷ [])

unfoldable pub S : Given
S = given 4 (0 ∷ 2 ∷ 0 ∷ 1 ∷ []) (2 ∷ 1 ∷ 3 ∷ 3 ∷ []) (5 ∷ 1 ∷ 2 ∷ 1 ∷ [])

unfoldable pub T : Given
T =
    given 6 (0 ∷ 1 ∷ 0 ∷ 3 ∷ 4 ∷ 3 ∷ 2 ∷ []) (1 ∷ 2 ∷ 2 ∷ 4 ∷ 5 ∷ 5 ∷ 3 ∷ []) (1 ∷ 1 ∷ 1 ∷ 1 ∷ 1 ∷ 1 ∷ 1 ∷ [])

-- one node, no rows
unfoldable pub site_one : Given
site_one = given 1 [] [] []

-- Q's file, and with byte 4 set to another value
unfoldable pub file_q : List ℕ
file_q =
    0x04 ∷ 0x01 ∷ 0x02 ∷ 0x00 ∷ 0x08 ∷ 0x02 ∷ 0x00 ∷ 0x00 ∷ 0x01 ∷ 0x00
    ∷ 0x03 ∷ 0x00 ∷ 0x00 ∷ 0x00 ∷ 0x00 ∷ 0x00 ∷ 0x01 ∷ 0x00 ∷ 0x4C ∷ 0x54 ∷ []

-- the printing program's text for T's file, a line of the text to a line here
unfoldable pub text_t : List ℕ
text_t =
    110 ∷ 111 ∷ 100 ∷ 101 ∷ 115 ∷ 32 ∷ 54 ∷ 32 ∷ 114 ∷ 111 ∷ 119 ∷ 115 ∷ 32 ∷ 55 ∷ 32 ∷ 108 ∷ 105 ∷ 110 ∷ 107 ∷ 115 ∷ 32 ∷ 55 ∷ 32 ∷ 112 ∷ 97 ∷ 105 ∷ 114 ∷ 115 ∷ 32 ∷ 55 ∷ 10
    ∷ 111 ∷ 114 ∷ 100 ∷ 101 ∷ 114 ∷ 32 ∷ 48 ∷ 32 ∷ 49 ∷ 32 ∷ 50 ∷ 32 ∷ 51 ∷ 32 ∷ 52 ∷ 32 ∷ 53 ∷ 10
    ∷ 108 ∷ 101 ∷ 97 ∷ 115 ∷ 116 ∷ 32 ∷ 49 ∷ 10
    ∷ 115 ∷ 105 ∷ 100 ∷ 101 ∷ 32 ∷ 51 ∷ 32 ∷ 52 ∷ 32 ∷ 53 ∷ 10 ∷ []

-- with one node: two lines, then `refused 16 at 0`
unfoldable pub text_one : List ℕ
text_one =
    110 ∷ 111 ∷ 100 ∷ 101 ∷ 115 ∷ 32 ∷ 49 ∷ 32 ∷ 114 ∷ 111 ∷ 119 ∷ 115 ∷ 32 ∷ 48 ∷ 32 ∷ 108 ∷ 105 ∷ 110 ∷ 107 ∷ 115 ∷ 32 ∷ 48 ∷ 32 ∷ 112 ∷ 97 ∷ 105 ∷ 114 ∷ 115 ∷ 32 ∷ 48 ∷ 10
    ∷ 111 ∷ 114 ∷ 100 ∷ 101 ∷ 114 ∷ 32 ∷ 48 ∷ 10
    ∷ 114 ∷ 101 ∷ 102 ∷ 117 ∷ 115 ∷ 101 ∷ 100 ∷ 32 ∷ 49 ∷ 54 ∷ 32 ∷ 97 ∷ 116 ∷ 32 ∷ 48 ∷ 10 ∷ []

-- `refused 6 at 4`
unfoldable pub text_refused : List ℕ
text_refused =
    114 ∷ 101 ∷ 102 ∷ 117 ∷ 115 ∷ 101 ∷ 100 ∷ 32 ∷ 54 ∷ 32 ∷ 97 ∷ 116 ∷ 32 ∷ 52 ∷ 10 ∷ []

-- ---- what a case shows

-- an answer as number, place and fields
abbrev shown : Answer → List ℕ
shown (done fields) = 0 ∷ 0 ∷ fields
shown (refused num at) = num ∷ at ∷ []

abbrev found : Check → List ℕ
found fine = 0 ∷ 0 ∷ []
found (bad num at) = num ∷ at ∷ []

abbrev order_in : Given → List ℕ
order_in g = order0 g

abbrev backs_in : Given → List ℕ
backs_in g = backs_of (list_of g) (order0 g)

abbrev firsts_in : Given → List ℕ
firsts_in g = firsts_of (list_of g) (order0 g)

-- the first numbers by document 003's scan
abbrev scanned_in : Given → List ℕ
scanned_in g = listed (length g.la) (scan (list_of g) (order0 g) g.n).given_first

abbrev kept_in : Given → ℕ → List ℕ
kept_in g k = kepts_of (list_of g) (order0 g) k

-- the value, then the side's nodes
abbrev least_in : Given → List ℕ
least_in g = let p = least_of (list_of g) 0 in p.value ∷ members g.n p.side

-- reading with room for four rows: number and place, then n and the number of rows
abbrev read_in : List ℕ → List ℕ
read_in s = shown (read_answer s 4 4 4)

-- ---- the claim

abbrev pub marked : List Case
marked =
    -- P
    (order_in P is (0 ∷ 1 ∷ []))
    ∷ (least_in P is (0 ∷ 1 ∷ []))
    -- Q
    ∷ (least_in Q is (3 ∷ 1 ∷ []))
    ∷ (kept_in Q 2 is (2 ∷ []))
    ∷ (kept_in Q 3 is (3 ∷ []))
    ∷ (shown (fewer_answer Q 3) is (17 ∷ 0 ∷ []))
    ∷ (shown (fewer_answer Q 4) is (0 ∷ 0 ∷ 3 ∷ 2 ∷ 0 ∷ 1 ∷ []))
    -- R
    ∷ (backs_in R is (0 ∷ 1 ∷ 2 ∷ []))
    ∷ (firsts_in R is (1 ∷ 2 ∷ 1 ∷ []))
    ∷ (scanned_in R is (1 ∷ 2 ∷ 1 ∷ []))
    ∷ (kept_in R 1 is (1 ∷ 0 ∷ 1 ∷ []))
    ∷ (least_in R is (2 ∷ 2 ∷ []))
    -- S
    ∷ (order_in S is (0 ∷ 2 ∷ 3 ∷ 1 ∷ []))
    ∷ (backs_in S is (0 ∷ 5 ∷ 2 ∷ 2 ∷ []))
    ∷ (kept_in S 1 is (1 ∷ 1 ∷ 1 ∷ 0 ∷ []))
    ∷ (kept_in S 2 is (2 ∷ 1 ∷ 2 ∷ 1 ∷ []))
    ∷ (least_in S is (2 ∷ 1 ∷ []))
    ∷ (scanned_in S is firsts_in S)
    -- T
    ∷ (order_in T is (0 ∷ 1 ∷ 2 ∷ 3 ∷ 4 ∷ 5 ∷ []))
    ∷ (kept_in T 1 is (1 ∷ 0 ∷ 1 ∷ 1 ∷ 0 ∷ 1 ∷ 1 ∷ []))
    ∷ (least_in T is (1 ∷ 3 ∷ 4 ∷ 5 ∷ []))
    ∷ (shown (least_answer T) is (0 ∷ 0 ∷ 1 ∷ 56 ∷ 0 ∷ 3 ∷ []))
    ∷ (scanned_in T is firsts_in T)
    -- one node
    ∷ (order_in site_one is (0 ∷ []))
    ∷ (shown (least_answer site_one) is (16 ∷ 0 ∷ []))
    -- no node; the two bad rows
    ∷ (found (list_check (given 0 [] [] []) false) is (9 ∷ 0 ∷ []))
    ∷ (found (list_check (given 2 (1 ∷ []) (1 ∷ []) (1 ∷ [])) false) is (12 ∷ 0 ∷ []))
    ∷ (found (list_check (given 2 (0 ∷ []) (2 ∷ []) (0 ∷ [])) false) is (11 ∷ 0 ∷ []))
    -- Q's file, read and written, and its four damaged forms
    ∷ (read_in file_q is (0 ∷ 0 ∷ 2 ∷ 1 ∷ []))
    ∷ (file_of (list_of Q) is file_q)
    ∷ (read_in (set file_q 4 0x00) is (4 ∷ 4 ∷ []))
    ∷ (read_in (set file_q 4 0x01) is (4 ∷ 4 ∷ []))
    ∷ (read_in (set file_q 4 0x09) is (5 ∷ 4 ∷ []))
    ∷ (read_in (set file_q 4 0x07) is (6 ∷ 4 ∷ []))
    -- the printing program's text for T's file, for a file with one node and for a refused one
    ∷ (report_of (file_of (list_of T)) is text_t)
    ∷ (report_of (file_of (list_of site_one)) is text_one)
    ∷ (report_of (set file_q 4 0x07) is text_refused)
    ∷ []

pub marked_hold : map (λ c. c.gives) marked ≡ map (λ c. c.says) marked
unfolding P Q R S T site_one file_q text_t text_one text_refused sum has listed those rows_check list_check pairs back choose prefix position first visits scan stays cut rounds word item_at run_from run_of file_check rows_bytes file_of digits spaced list_report report_of
marked_hold = refl

-- ---- lists that catch classic mistakes

-- ordering once and then only merging says 2 here; the answer is 1, with side 1
unfoldable pub site_once : Given
site_once = given 4 (0 ∷ 0 ∷ 2 ∷ 0 ∷ []) (1 ∷ 3 ∷ 3 ∷ 2 ∷ []) (1 ∷ 1 ∷ 1 ∷ 1 ∷ [])

-- thinned for 3 it has another least split of the same value
unfoldable pub site_nine : Given
site_nine =
    given 9 (2 ∷ 2 ∷ 0 ∷ 2 ∷ 1 ∷ 7 ∷ 7 ∷ 7 ∷ 2 ∷ 8 ∷ 0 ∷ 4 ∷ 1 ∷ 6 ∷ [])
    (0 ∷ 4 ∷ 6 ∷ 3 ∷ 4 ∷ 5 ∷ 8 ∷ 6 ∷ 8 ∷ 5 ∷ 3 ∷ 5 ∷ 4 ∷ 2 ∷ [])
    (2 ∷ 2 ∷ 1 ∷ 1 ∷ 1 ∷ 2 ∷ 1 ∷ 2 ∷ 2 ∷ 2 ∷ 1 ∷ 2 ∷ 1 ∷ 2 ∷ [])

unfoldable pub nine_order : List ℕ
nine_order = 0 ∷ 2 ∷ 6 ∷ 3 ∷ 4 ∷ 1 ∷ 5 ∷ 7 ∷ 8 ∷ []

unfoldable pub nine_short : Given
nine_short =
    given 9 (2 ∷ 2 ∷ 0 ∷ 2 ∷ 1 ∷ 7 ∷ 7 ∷ 2 ∷ 8 ∷ 0 ∷ 4 ∷ 1 ∷ 6 ∷ [])
    (0 ∷ 4 ∷ 6 ∷ 3 ∷ 4 ∷ 5 ∷ 6 ∷ 8 ∷ 5 ∷ 3 ∷ 5 ∷ 4 ∷ 2 ∷ [])
    (2 ∷ 2 ∷ 1 ∷ 1 ∷ 1 ∷ 1 ∷ 2 ∷ 2 ∷ 1 ∷ 1 ∷ 2 ∷ 1 ∷ 2 ∷ [])

-- the cables at each node
abbrev degrees_in : Given → List ℕ
degrees_in g = listed g.n (λ v. cut (list_of g) (eqb v))

abbrev pub telling : List Case
telling =
    (least_in site_once is (1 ∷ 1 ∷ []))
    ∷ (least_in site_nine is (2 ∷ 3 ∷ []))
    ∷ (order_in site_nine is nine_order)
    ∷ ((short_of (list_of site_nine) nine_order 3).la is nine_short.la)
    ∷ ((short_of (list_of site_nine) nine_order 3).lb is nine_short.lb)
    ∷ ((short_of (list_of site_nine) nine_order 3).lw is nine_short.lw)
    ∷ (least_in nine_short is (2 ∷ 1 ∷ []))
    -- T: every node has two cables or more, and one cable holds the halves together
    ∷ (degrees_in T is (2 ∷ 2 ∷ 3 ∷ 3 ∷ 2 ∷ 2 ∷ []))
    ∷ (least_in T is (1 ∷ 3 ∷ 4 ∷ 5 ∷ []))
    ∷ []

pub telling_hold : map (λ c. c.gives) telling ≡ map (λ c. c.says) telling
unfolding P Q R S T site_one file_q text_t text_one text_refused site_once site_nine nine_order nine_short sum has listed those rows_check list_check pairs back choose prefix position first visits scan stays cut rounds word item_at run_from run_of file_check rows_bytes file_of digits spaced list_report report_of
telling_hold = refl
