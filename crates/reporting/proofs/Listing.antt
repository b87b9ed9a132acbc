-- What the summary and the least split answer for a list that passed its checks, as the report's lines: no summary is refused, and the
-- split is refused with 16 exactly where the report says so.
use Rattle.std.proofs.Common.{ℕ, ◌≡◌, refl, sym, ◌∙◌, false, cond, List, [], ◌∷◌, ◌++◌, arith, length, eqb, Result, Ok, Err, IsOk}
use mathlib.Core.Logic.{⊎_elim}
use Rattle.meaning.specs.Numbers.{fine, done, refused, one_node}
use Rattle.meaning.specs.Links.{Given, list_of, links, pairs, list_check}
use Rattle.meaning.specs.Split.{word}
use Rattle.meaning.specs.Report.{line, order_text, refusal_line, summary_line, split_lines, list_report}
use Rattle.meaning.specs.Calls.{order0, least0, summary_answer, least_answer, split_fields}
use Rattle.answers.specs.Paper.{number_of, place_of, totals_fields, totals_paper, parted_paper}
use Rattle.answers.specs.declared.Refusal.{Refusal}
use Rattle.answers.specs.declared.Split.{Split}
use Rattle.answers.specs.declared.Totals.{Totals}
use Rattle.laws.specs.Bools.{bool_cases}
use Rattle.lists.proofs.Passed.{passed}
use Rattle.sides.proofs.Laws.{words_list}
use Rattle.reporting.specs.Words.{summary_text, split_text}
use Rattle.reporting.proofs.Answered.{never_refused, fields_are}

module _ (g : Given) (good : list_check g false ≡ fine) where
  -- ---- the summary

  module _ (t : Result Totals Refusal) (answer : totals_paper t ≡ summary_answer g) where
    found : List ℕ
    found = g.n ∷ length g.la ∷ links (list_of g) ∷ pairs (list_of g) ∷ []

    summed : totals_paper t ≡ done found
    unfolding found
    summed = answer ∙ rw good

    pub summary_made : IsOk t
    summary_made = never_refused totals_fields t found summed

    summary_is : {totals : Totals} → t ≡ Ok totals → summary_text totals ≡ summary_line (list_of g)
    unfolding found
    summary_is {totals} is =
        let same = fields_are totals_fields t totals found summed is in
        let one : totals.n ≡ g.n = cc in
        let two : totals.rows ≡ length g.la = cc in
        let three : totals.links ≡ links (list_of g) = cc in
        let four : totals.pairs ≡ pairs (list_of g) = cc in
        rw (one, two, three, four)

  -- ---- the split

  refused_part : (t : Result Split Refusal) → parted_paper t ≡ refused one_node 0 → split_text t ≡ refusal_line one_node 0
  refused_part (Ok p) is = absurd (let z : ◌≡◌ {A = ℕ} 0 1 = cc in omega arith)
  refused_part (Err e) is =
      let one : number_of e ≡ one_node = cc in let two : place_of e ≡ 0 = cc in rw (one, two)

  split_part : (t : Result Split Refusal) → parted_paper t ≡ done (split_fields g.n (least0 g)) → split_text t ≡ split_lines g.n (least0 g)
  split_part (Err e) is = absurd (let z : ◌≡◌ {A = ℕ} 0 1 = cc in omega arith)
  split_part (Ok p) is =
      let side = (least0 g).side in
      let one : p.value ≡ (least0 g).value = cc in
      let two : p.side.low ≡ word g.n side 0 = cc in
      let three : p.side.high ≡ word g.n side 1 = cc in
      rw (one, two, three, words_list g.n side (passed g false good).few_nodes)

  split_is : (t : Result Split Refusal) → parted_paper t ≡ least_answer g
      → split_text t ≡ cond (eqb g.n 1) (refusal_line one_node 0) (split_lines g.n (least0 g))
  split_is t answer =
      ⊎_elim
      (λ e. rw e (refused_part t (answer ∙ rw (good, e))))
      (λ e. rw e (split_part t (answer ∙ rw (good, e))))
      (bool_cases (eqb g.n 1))

  -- ---- the whole

  together : {one two three : List ℕ} → one ≡ summary_line (list_of g) → two ≡ line order_text (order0 g)
      → three ≡ cond (eqb g.n 1) (refusal_line one_node 0) (split_lines g.n (least0 g)) → one ++ (two ++ three) ≡ list_report (list_of g)
  unfolding list_report
  together first second third = rw (first, second, third)

  pub report_is : (t : Result Totals Refusal) (totals : Totals) (p : Result Split Refusal) → totals_paper t ≡ summary_answer g → t ≡ Ok totals
      → parted_paper p ≡ least_answer g → list_report (list_of g) ≡ summary_text totals ++ (line order_text (order0 g) ++ split_text p)
  report_is t totals p summed is split = sym (together (summary_is t summed is) refl (split_is p split))
