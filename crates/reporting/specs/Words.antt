-- Lines of the report with their numbers, where `meaning` has them of a list.
use Rattle.std.specs.Prelude.{ℕ, List, [], ◌∷◌, ◌++◌, Result, Ok, Err}
use Rattle.meaning.specs.Report.{spaced, line, refusal_line, nodes_text, rows_text, links_text, pairs_text, least_text, side_text}
use Rattle.answers.specs.declared.Refusal.{Refusal}
use Rattle.answers.specs.declared.Split.{Split}
use Rattle.answers.specs.declared.Totals.{Totals}
use Rattle.answers.specs.Paper.{number_of, place_of}
use Rattle.sides.specs.Bits.{nodes_in}

-- line 1
abbrev pub summary_text : Totals → List ℕ
summary_text t =
    nodes_text ++ (spaced (t.n ∷ []) ++ (rows_text ++ (spaced (t.rows ∷ [])
    ++ (links_text ++ (spaced (t.links ∷ []) ++ line pairs_text (t.pairs ∷ []))))))

-- lines 3 and 4, or the refusal's
abbrev pub split_text : Result Split Refusal → List ℕ
split_text (Ok p) = line least_text (p.value ∷ []) ++ line side_text (nodes_in p.side.low p.side.high)
split_text (Err e) = refusal_line (number_of e) (place_of e)

-- the single line of a refused file
abbrev pub refused_text : Refusal → List ℕ
refused_text e = refusal_line (number_of e) (place_of e)
