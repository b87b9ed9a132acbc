-- The folded table is that of the merged groups. Merging is renaming row ends (`laws`, `Rounds`): the number that goes has no cables any
-- more, the one that stays has those of the two, and the others keep theirs; these are the cases of a folded table. Assumes nothing.
use mathlib.Core.Path.{◌≡◌, refl, sym, ap, ◌∙◌}
use mathlib.Core.Logic.{⊎_elim}
use mathlib.Core.Bool.{not}
use mathlib.Core.List.{List}
use Prim.Native.Nat.{ℕ, ◌+◌, ◌<◌}
use lib.Dec.{eqb}
use borrow.Author.Tests.{eq-eqb, ne_eqb}
use Rattle.meaning.specs.Links.{LinkList}
use Rattle.meaning.specs.Order.{back}
use Rattle.meaning.specs.Split.{renamed}
use Rattle.laws.specs.Bools.{cases_eq, on-true, on-false}
use Rattle.laws.specs.Rows.{back_sym}
use Rattle.laws.specs.Rounds.{moved, back_keep, back_other, back_gone, gone_back}
use Rattle.table.specs.Table.{cell, cell_at, Holds}
use Rattle.least.specs.Rounds.{Folded}

-- a cell of a table, on its diagonal and off it
cell_same : (L : LinkList) (p q : ℕ) → p ≡ q → cell L p q ≡ 0
cell_same L p q e = on-false (not (eqb p q)) (back L (eqb p) q) (ap not (eq-eqb p q e))

cell_apart : (L : LinkList) (p q : ℕ) → (p ≡ q → ⊥) → cell L p q ≡ back L (eqb p) q
cell_apart L p q ne = on-true (not (eqb p q)) (back L (eqb p) q) (ap not (ne_eqb p q ne))

module _ (keep gone : ℕ) (two : keep ≡ gone → ⊥) where
  -- the folded table is that of the renamed rows
  module _ {L : LinkList} {m m' : List ℕ} (hk : keep < 128) (hg : gone < 128) (h : Holds L m) (s : Folded keep gone m m') where
    abbrev M : LinkList
    M = renamed (moved keep gone) L

    -- what the table of L holds between two that differ
    held : (p q : ℕ) → p < 128 → q < 128 → (p ≡ q → ⊥) → cell_at m p q ≡ back L (eqb p) q
    held p q hp hq ne = h.cells p q hp hq ∙ cell_apart L p q ne

    twofold : (q : ℕ) → q < 128 → (q ≡ keep → ⊥) → (q ≡ gone → ⊥)
        → cell_at m keep q + cell_at m gone q ≡ back M (eqb keep) q
    twofold q hq nk ng =
        let one = held keep q hk hq (λ e. nk (sym e)) in
        let other = held gone q hg hq (λ e. ng (sym e)) in
        rw (one, other) (sym (back_keep keep gone two L q nk ng))

    diagonal : (p : ℕ) → p < 128 → cell_at m' p p ≡ 0
    diagonal p hp =
        ⊎_elim
        (λ e. ap (λ x. cell_at m' x x) e ∙ s.inner)
        (λ nk.
        ⊎_elim
        (λ e. ap (λ x. cell_at m' x x) e ∙ s.gone_row gone hg)
        (λ ng. s.rest p p hp hp nk ng nk ng ∙ h.cells p p hp hp ∙ cell_same L p p refl)
        (cases_eq p gone))
        (cases_eq p keep)

    apart : (p q : ℕ) → p < 128 → q < 128 → (p ≡ q → ⊥) → cell_at m' p q ≡ back M (eqb p) q
    apart p q hp hq ne =
        ⊎_elim
        (λ e. ap (λ x. cell_at m' x q) e ∙ s.gone_row q hq ∙ sym (ap (λ x. back M (eqb x) q) e ∙ gone_back keep gone two L q))
        (λ pg.
        ⊎_elim
        (λ e. ap (cell_at m' p) e ∙ s.gone_column p hp ∙ sym (ap (back M (eqb p)) e ∙ back_gone keep gone two L p))
        (λ qg.
        ⊎_elim
        (λ e.
        let nk : q ≡ keep → ⊥ = λ f. ne (e ∙ sym f) in
        ap (λ x. cell_at m' x q) e ∙ s.row q hq nk qg ∙ twofold q hq nk qg ∙ ap (λ x. back M (eqb x) q) (sym e))
        (λ pk.
        ⊎_elim
        (λ e. ap (cell_at m' p) e ∙ s.column p hp pk pg ∙ twofold p hp pk pg ∙ back_sym M keep p ∙ ap (back M (eqb p)) (sym e))
        (λ qk. s.rest p q hp hq pk pg qk qg ∙ held p q hp hq ne ∙ sym (back_other keep gone two L p q pk pg qk qg))
        (cases_eq q keep))
        (cases_eq p keep))
        (cases_eq q gone))
        (cases_eq p gone)

    pub folded_holds : Holds (renamed (moved keep gone) L) m'
    folded_holds =
        record {
          size = s.size ∙ h.size;
          cells = λ p q hp hq.
              ⊎_elim
              (λ e. ap (cell_at m' p) (sym e) ∙ diagonal p hp ∙ sym (cell_same M p q e))
              (λ ne. apart p q hp hq ne ∙ sym (cell_apart M p q ne))
              (cases_eq p q);
        }
