-- A list that passed has its links and pairs from what `links_in` and `pairs_in` ensure, by place (`total_by_place`, `count_by_place`).
use Rattle.std.proofs.Common.{◌≡◌, ◌∙◌, ℕ, [], ◌∷◌, Bool, false, length, eqb, arith, sym}
use Rattle.std.specs.List.{count_by, range_with_len, sum as total}
use Rattle.meaning.specs.Numbers.{fine, done}
use Rattle.meaning.specs.Links.{Given, list_of, same_before, pairs, list_check}
use Rattle.meaning.specs.Calls.{summary_answer}
use Rattle.lists.specs.Given.{given_by}
use Rattle.lists.proofs.Passed.{passed}
use Rattle.summary.proofs.Counts.{total_by_place, count_by_place}
use Rattle.summary.proofs.summary.Goals as goal

-- row r has none like it before
abbrev new : Given → ℕ → Bool
new g r = eqb (same_before (list_of g) r) 0

-- the answer for a list that passed
totals : (g : Given) {l p : ℕ} → list_check g false ≡ fine → l ≡ total g.lw
    → p ≡ count_by (new g) (range_with_len 0 (length g.la)) → done (g.n ∷ length g.la ∷ l ∷ p ∷ []) ≡ summary_answer g
unfolding pairs
totals g passes adds counts =
    rw (adds ∙ total_by_place g.lw, counts ∙ count_by_place (new g) (length g.la), ← (passed g false passes).even.as_w, passes)

pub returns : goal.returns
returns c =
    totals (given_by c.args.links.now) (sym c.in_ok-list.ensures.found) c.links_in.ensures
    (omega (arith, rw c.in_ok-list.ensures.same at c.pairs_in.ensures.counts))
