-- "The printing program": the lines of the report, as bytes. Line 1 is the summary, 2 the order, 3 the value, 4 the side's nodes rising.
use Rattle.std.specs.Prelude.{ℕ, zero, suc, ◌+◌, ◌/◌, ◌%◌, cond, List, [], ◌∷◌, ◌++◌, eqb, ltb}
use Rattle.meaning.specs.Numbers.{Check, fine, bad, one_node}
use Rattle.meaning.specs.Links.{LinkList, list_of, links, pairs}
use Rattle.meaning.specs.Order.{order_of}
use Rattle.meaning.specs.Split.{Split, least_of, members}
use Rattle.meaning.specs.File.{file_check, list_in}

-- a number below 10 ^ (suc d) in plain decimal
unfoldable pub digits : ℕ → ℕ → List ℕ
digits zero x = (48 + x % 10) ∷ []
digits (suc d) x = cond (ltb x 10) ((48 + x) ∷ []) (digits d (x / 10) ++ ((48 + x % 10) ∷ []))

-- a number of up to 20 digits, as every 64-bit number is
abbrev pub decimal : ℕ → List ℕ
decimal x = digits 19 x

-- each number after a space
unfoldable pub spaced : List ℕ → List ℕ
spaced [] = []
spaced (x ∷ xs) = 32 ∷ (decimal x ++ spaced xs)

abbrev pub newline : List ℕ
newline = 10 ∷ []

-- "nodes", " rows", " links", " pairs", "order", "least", "side", "refused", " at"
abbrev pub nodes_text : List ℕ
nodes_text = 110 ∷ 111 ∷ 100 ∷ 101 ∷ 115 ∷ []

abbrev pub rows_text : List ℕ
rows_text = 32 ∷ 114 ∷ 111 ∷ 119 ∷ 115 ∷ []

abbrev pub links_text : List ℕ
links_text = 32 ∷ 108 ∷ 105 ∷ 110 ∷ 107 ∷ 115 ∷ []

abbrev pub pairs_text : List ℕ
pairs_text = 32 ∷ 112 ∷ 97 ∷ 105 ∷ 114 ∷ 115 ∷ []

abbrev pub order_text : List ℕ
order_text = 111 ∷ 114 ∷ 100 ∷ 101 ∷ 114 ∷ []

abbrev pub least_text : List ℕ
least_text = 108 ∷ 101 ∷ 97 ∷ 115 ∷ 116 ∷ []

abbrev pub side_text : List ℕ
side_text = 115 ∷ 105 ∷ 100 ∷ 101 ∷ []

abbrev pub refused_text : List ℕ
refused_text = 114 ∷ 101 ∷ 102 ∷ 117 ∷ 115 ∷ 101 ∷ 100 ∷ []

abbrev pub at_text : List ℕ
at_text = 32 ∷ 97 ∷ 116 ∷ []

-- a line: a word, then numbers
abbrev pub line : List ℕ → List ℕ → List ℕ
line word numbers = word ++ (spaced numbers ++ newline)

abbrev pub summary_line : LinkList → List ℕ
summary_line L =
    nodes_text ++ (spaced (L.nodes ∷ []) ++ (rows_text ++ (spaced (L.rows ∷ [])
    ++ (links_text ++ (spaced (links L ∷ []) ++ line pairs_text (pairs L ∷ []))))))

abbrev pub refusal_line : ℕ → ℕ → List ℕ
refusal_line num at = refused_text ++ (spaced (num ∷ []) ++ line at_text (at ∷ []))

-- lines 3 and 4
abbrev pub split_lines : ℕ → Split → List ℕ
split_lines n p = line least_text (p.value ∷ []) ++ line side_text (members n p.side)

-- the report of an accepted list; with one node the split is refused
unfoldable pub list_report : LinkList → List ℕ
list_report L =
    summary_line L
    ++ (line order_text (order_of L 0) ++ cond (eqb L.nodes 1) (refusal_line one_node 0) (split_lines L.nodes (least_of L 0)))

-- the report of what the reader found: the refusal's single line, or the list's
abbrev pub report_by : Check → LinkList → List ℕ
report_by (bad num at) L = refusal_line num at
report_by fine L = list_report L

-- the report of a file; the reader has 2,048 places in each list, as many as an accepted list has rows
unfoldable pub report_of : List ℕ → List ℕ
report_of s = report_by (file_check s 2048 2048 2048) (list_of (list_in s))
