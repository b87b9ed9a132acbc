-- Stores in the table, and folding. A cell's place p * 128 + q tells p and q, so a store changes one cell. Folding a row goes column by
-- column and folding a column row by row: each turn settles one column or row and leaves the later ones. Assumes nothing.
use mathlib.Core.Path.{◌≡◌, refl, sym, ap, ◌∙◌}
use mathlib.Core.Logic.{⊎_elim}
use mathlib.Core.List.{List}
use Prim.Native.Nat.{ℕ, ◌+◌, ◌*◌, ◌<◌}
use native.Mathlib.Omega.{arith}
use lib.ListN.{length, set, length-set}
use lib.Seq.{get_or-set_same, get_or-set_other}
use Rattle.laws.specs.Bools.{cases_eq, cases_lt}
use Rattle.table.specs.Table.{cell_at}
use Rattle.least.specs.Rounds.{Light, RowFolded, ColumnFolded, Folded}

-- ---- one store

pub store_here : (m : List ℕ) (p q x : ℕ) → length m ≡ 16384 → p < 128 → q < 128 → cell_at (set m (p * 128 + q) x) p q ≡ x
store_here m p q x size hp hq = get_or-set_same m (p * 128 + q) x 0 (omega arith)

pub store_row : (m : List ℕ) (p q x r s : ℕ) → q < 128 → s < 128 → (r ≡ p → ⊥) → cell_at (set m (p * 128 + q) x) r s ≡ cell_at m r s
store_row m p q x r s hq hs ne = get_or-set_other m (p * 128 + q) (r * 128 + s) x 0 (λ e. ne (omega arith))

pub store_column : (m : List ℕ) (p q x r s : ℕ) → q < 128 → s < 128 → (s ≡ q → ⊥) → cell_at (set m (p * 128 + q) x) r s ≡ cell_at m r s
store_column m p q x r s hq hs ne = get_or-set_other m (p * 128 + q) (r * 128 + s) x 0 (λ e. ne (omega arith))

-- ---- a row

-- in column c, the cell of row `gone` was added to that of row `keep` and cleared
record CellFolded (keep gone c : ℕ) (m m' : List ℕ) : Type 0 where
  size : length m' ≡ length m
  added : cell_at m' keep c ≡ cell_at m keep c + cell_at m gone c
  cleared : cell_at m' gone c ≡ 0
  other_rows : (p q : ℕ) → p < 128 → q < 128 → (p ≡ keep → ⊥) → (p ≡ gone → ⊥) → cell_at m' p q ≡ cell_at m p q
  other_columns : (p q : ℕ) → p < 128 → q < 128 → (q ≡ c → ⊥) → cell_at m' p q ≡ cell_at m p q

cell_folded : (keep gone c : ℕ) (m : List ℕ) → length m ≡ 16384 → keep < 128 → gone < 128 → c < 128 → (keep ≡ gone → ⊥)
    → CellFolded keep gone c m (set (set m (keep * 128 + c) (cell_at m keep c + cell_at m gone c)) (gone * 128 + c) 0)
cell_folded keep gone c m size hk hg hc two =
    let x = cell_at m keep c + cell_at m gone c in
    let m₁ = set m (keep * 128 + c) x in
    record {
      size = length-set m₁ (gone * 128 + c) 0 ∙ length-set m (keep * 128 + c) x;
      added = store_row m₁ gone c 0 keep c hc hc two ∙ store_here m keep c x size hk hc;
      cleared = store_here m₁ gone c 0 (length-set m (keep * 128 + c) x ∙ size) hg hc;
      other_rows = λ p q hp hq nk ng. store_row m₁ gone c 0 p q hc hq ng ∙ store_row m keep c x p q hc hq nk;
      other_columns = λ p q hp hq nc. store_column m₁ gone c 0 p q hc hq nc ∙ store_column m keep c x p q hc hq nc;
    }

pub row_none : (keep gone : ℕ) (m : List ℕ) → RowFolded keep gone 0 m m
row_none keep gone m =
    record {
      size = refl;
      added = λ q h. absurd (omega arith);
      cleared = λ q h. absurd (omega arith);
      other_rows = λ p q hp hq nk ng. refl;
      other_columns = λ p q hp hq h. refl;
    }

row_step : {keep gone c : ℕ} {m₀ m m' : List ℕ} → RowFolded keep gone c m₀ m → CellFolded keep gone c m m' → keep < 128 → gone < 128
    → c < 128 → RowFolded keep gone (c + 1) m₀ m'
row_step {keep} {gone} {c} {m₀} {m} {m'} s t hk hg hc =
    record {
      size = t.size ∙ s.size;
      added = λ q h.
          ⊎_elim
          (λ e.
          ap (cell_at m' keep) e
          ∙ t.added
          ∙ (let a = s.other_columns keep c hk hc (omega arith) in let b = s.other_columns gone c hg hc (omega arith) in rw (a, b))
          ∙ ap (λ i. cell_at m₀ keep i + cell_at m₀ gone i) (sym e))
          (λ ne. t.other_columns keep q hk (omega arith) ne ∙ s.added q (omega arith))
          (cases_eq q c);
      cleared = λ q h.
          ⊎_elim
          (λ e. ap (cell_at m' gone) e ∙ t.cleared)
          (λ ne. t.other_columns gone q hg (omega arith) ne ∙ s.cleared q (omega arith))
          (cases_eq q c);
      other_rows = λ p q hp hq nk ng. t.other_rows p q hp hq nk ng ∙ s.other_rows p q hp hq nk ng;
      other_columns = λ p q hp hq h. t.other_columns p q hp hq (λ e. omega arith) ∙ s.other_columns p q hp hq (omega arith);
    }

-- a turn
pub row_more : {keep gone c : ℕ} {m₀ m : List ℕ} → RowFolded keep gone c m₀ m → length m ≡ 16384 → keep < gone → gone < 128 → c < 128
    → RowFolded keep gone (c + 1) m₀ (set (set m (keep * 128 + c) (cell_at m keep c + cell_at m gone c)) (gone * 128 + c) 0)
row_more {keep} {gone} {c} {m₀} {m} s size two hg hc =
    row_step s (cell_folded keep gone c m size (omega arith) hg hc (λ e. omega arith)) (omega arith) hg hc

-- what is not folded yet is as light as it was
pub row_light : {keep gone c : ℕ} {m₀ m : List ℕ} → RowFolded keep gone c m₀ m → Light m₀ → c < 128 → (p : ℕ) → p < 128 → cell_at m p c < 2147483648
row_light {keep} {gone} {c} s light hc p hp = rw (s.other_columns p c hp hc (omega arith)) (light p c hp hc)

-- ---- a column

-- in row r, column `keep` was copied from row `keep`, and column `gone` cleared
record NodeFolded (keep gone r : ℕ) (m m' : List ℕ) : Type 0 where
  size : length m' ≡ length m
  copied : cell_at m' r keep ≡ cell_at m keep r
  cleared : cell_at m' r gone ≡ 0
  other_columns : (p q : ℕ) → p < 128 → q < 128 → (q ≡ keep → ⊥) → (q ≡ gone → ⊥) → cell_at m' p q ≡ cell_at m p q
  other_rows : (p q : ℕ) → p < 128 → q < 128 → (p ≡ r → ⊥) → cell_at m' p q ≡ cell_at m p q

node_folded : (keep gone r : ℕ) (m : List ℕ) → length m ≡ 16384 → keep < 128 → gone < 128 → r < 128 → (keep ≡ gone → ⊥)
    → NodeFolded keep gone r m (set (set m (r * 128 + keep) (cell_at m keep r)) (r * 128 + gone) 0)
node_folded keep gone r m size hk hg hr two =
    let x = cell_at m keep r in
    let m₁ = set m (r * 128 + keep) x in
    record {
      size = length-set m₁ (r * 128 + gone) 0 ∙ length-set m (r * 128 + keep) x;
      copied = store_column m₁ r gone 0 r keep hg hk two ∙ store_here m r keep x size hr hk;
      cleared = store_here m₁ r gone 0 (length-set m (r * 128 + keep) x ∙ size) hr hg;
      other_columns = λ p q hp hq nk ng. store_column m₁ r gone 0 p q hg hq ng ∙ store_column m r keep x p q hk hq nk;
      other_rows = λ p q hp hq nr. store_row m₁ r gone 0 p q hg hq nr ∙ store_row m r keep x p q hk hq nr;
    }

pub column_none : (keep gone : ℕ) (m : List ℕ) → ColumnFolded keep gone 0 m m
column_none keep gone m =
    record {
      size = refl;
      copied = λ p h. absurd (omega arith);
      cleared = λ p h. absurd (omega arith);
      other_columns = λ p q hp hq nk ng. refl;
      other_rows = λ p q hp hq h. refl;
    }

-- row `keep` stays as it was: its own turn copies it to itself and clears a cell that is 0
keep_row : {keep gone r : ℕ} {m₀ m : List ℕ} → ColumnFolded keep gone r m₀ m → cell_at m₀ keep gone ≡ 0 → keep < 128 → r < 128
    → cell_at m keep r ≡ cell_at m₀ keep r
keep_row {keep} {gone} {r} {m₀} {m} s zero hk hr =
    ⊎_elim
    (λ before.
    ⊎_elim
    (λ e. ap (cell_at m keep) e ∙ s.cleared keep before ∙ sym zero ∙ ap (cell_at m₀ keep) (sym e))
    (λ ne. s.other_columns keep r hk hr (λ e. omega arith) ne)
    (cases_eq r gone))
    (λ later. s.other_rows keep r hk hr later)
    (cases_lt keep r)

column_step : {keep gone r : ℕ} {m₀ m m' : List ℕ} → ColumnFolded keep gone r m₀ m → NodeFolded keep gone r m m'
    → cell_at m₀ keep gone ≡ 0 → keep < 128 → gone < 128 → r < 128 → ColumnFolded keep gone (r + 1) m₀ m'
column_step {keep} {gone} {r} {m₀} {m} {m'} s t zero hk hg hr =
    record {
      size = t.size ∙ s.size;
      copied = λ p h.
          ⊎_elim
          (λ e. ap (λ i. cell_at m' i keep) e ∙ t.copied ∙ keep_row s zero hk hr ∙ ap (cell_at m₀ keep) (sym e))
          (λ ne. t.other_rows p keep (omega arith) hk ne ∙ s.copied p (omega arith))
          (cases_eq p r);
      cleared = λ p h.
          ⊎_elim
          (λ e. ap (λ i. cell_at m' i gone) e ∙ t.cleared)
          (λ ne. t.other_rows p gone (omega arith) hg ne ∙ s.cleared p (omega arith))
          (cases_eq p r);
      other_columns = λ p q hp hq nk ng. t.other_columns p q hp hq nk ng ∙ s.other_columns p q hp hq nk ng;
      other_rows = λ p q hp hq h. t.other_rows p q hp hq (λ e. omega arith) ∙ s.other_rows p q hp hq (omega arith);
    }

-- a turn
pub column_more : {keep gone r : ℕ} {m₀ m : List ℕ} → ColumnFolded keep gone r m₀ m → length m ≡ 16384 → cell_at m₀ keep gone ≡ 0
    → keep < gone → gone < 128 → r < 128
    → ColumnFolded keep gone (r + 1) m₀ (set (set m (r * 128 + keep) (cell_at m keep r)) (r * 128 + gone) 0)
column_more {keep} {gone} {r} {m₀} {m} s size zero two hg hr =
    column_step s (node_folded keep gone r m size (omega arith) hg hr (λ e. omega arith)) zero (omega arith) hg hr

-- ---- both

module _ (keep gone : ℕ) (m m₁ m₃ : List ℕ) (hk : keep < 128) (hg : gone < 128) (two : keep ≡ gone → ⊥) (size : length m ≡ 16384)
    (row : RowFolded keep gone 128 m m₁) where
  -- the two stores between: row `keep` holds nothing towards `keep` and `gone`
  abbrev pub cut_out : List ℕ
  cut_out = set (set m₁ (keep * 128 + keep) 0) (keep * 128 + gone) 0

  size₂ : length (set m₁ (keep * 128 + keep) 0) ≡ 16384
  size₂ = length-set m₁ (keep * 128 + keep) 0 ∙ row.size ∙ size

  pub inner_zero : cell_at cut_out keep keep ≡ 0
  inner_zero =
      store_column (set m₁ (keep * 128 + keep) 0) keep gone 0 keep keep hg hk two
      ∙ store_here m₁ keep keep 0 (row.size ∙ size) hk hk

  pub other_zero : cell_at cut_out keep gone ≡ 0
  other_zero = store_here (set m₁ (keep * 128 + keep) 0) keep gone 0 size₂ hk hg

  pub cut_size : length cut_out ≡ 16384
  cut_size = length-set (set m₁ (keep * 128 + keep) 0) (keep * 128 + gone) 0 ∙ size₂

  by_column : (p q : ℕ) → q < 128 → (q ≡ keep → ⊥) → (q ≡ gone → ⊥) → cell_at cut_out p q ≡ cell_at m₁ p q
  by_column p q hq nk ng =
      store_column (set m₁ (keep * 128 + keep) 0) keep gone 0 p q hg hq ng ∙ store_column m₁ keep keep 0 p q hk hq nk

  pub folded : ColumnFolded keep gone 128 cut_out m₃ → Folded keep gone m m₃
  folded col =
      record {
        size = col.size ∙ cut_size ∙ sym size;
        row = λ q hq nk ng. col.other_columns keep q hk hq nk ng ∙ by_column keep q hq nk ng ∙ row.added q hq;
        column = λ p hp nk ng. col.copied p hp ∙ by_column keep p hp nk ng ∙ row.added p hp;
        inner = col.copied keep hk ∙ inner_zero;
        gone_row = λ q hq. gone_row q hq;
        gone_column = λ p hp. col.cleared p hp;
        rest = λ p q hp hq pk pg qk qg. col.other_columns p q hp hq qk qg ∙ by_column p q hq qk qg ∙ row.other_rows p q hp hq pk pg;
      }
    where
      gone_row : (q : ℕ) → q < 128 → cell_at m₃ gone q ≡ 0
      gone_row q hq =
          ⊎_elim
          (λ e. ap (cell_at m₃ gone) e ∙ col.copied gone hg ∙ other_zero)
          (λ nk.
          ⊎_elim
          (λ e. ap (cell_at m₃ gone) e ∙ col.cleared gone hg)
          (λ ng. col.other_columns gone q hg hq nk ng ∙ by_column gone q hq nk ng ∙ row.cleared q hq)
          (cases_eq q gone))
          (cases_eq q keep)
