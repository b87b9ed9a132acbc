-- What the passes of `thin` leave, for a list whose first forest numbers stand in a list of their own.
use Rattle.std.specs.Prelude.{ℕ, ◌+◌, ◌≤◌, ◌≡◌, cond, List, map, length, get_or, set, ltb}
use Rattle.meaning.specs.Sums.{on, those, laid}
use Rattle.meaning.specs.Links.{LinkList}
use Rattle.meaning.specs.Forest.{kept_of}
use Rattle.lists.specs.declared.Row.{Row}
use Rattle.lists.specs.declared.Columns.{Columns}

-- the kept weight of row r
abbrev pub kept_at : ℕ → List ℕ → LinkList → ℕ → ℕ
kept_at k firsts L r = kept_of k (get_or firsts r 0) (L.w r)

-- row r with its kept weight
abbrev pub thinned : ℕ → List ℕ → LinkList → ℕ → Row
thinned k firsts L r = record { a = L.a r; b = L.b r; w = kept_at k firsts L r }

-- the rows below n that keep something
abbrev pub stays_in : ℕ → List ℕ → LinkList → ℕ → List ℕ
stays_in k firsts L n = those n (λ r. ltb 0 (kept_at k firsts L r))

-- three lent lists have a place for n rows
pub record Roomy (n : ℕ) (out : Columns) : Type 0 where
  pub room_a : n ≤ length out.a.now
  pub room_b : n ≤ length out.b.now
  pub room_w : n ≤ length out.w.now

-- v was put at a place where the weight is not 0
abbrev pub put_at : List ℕ → ℕ → ℕ → ℕ → List ℕ
put_at l at weight v = cond (ltb 0 weight) (set l at v) l

-- a row was put at the end of the short list, unless it keeps nothing
pub record Put (row : Row) (at : ℕ) (out out' : Columns) (r : ℕ) : Type 0 where
  pub count : r ≡ at + on (ltb 0 row.w) 1
  pub put_a : out'.a.now ≡ put_at out.a.now at row.w row.a
  pub put_b : out'.b.now ≡ put_at out.b.now at row.w row.b
  pub put_w : out'.w.now ≡ put_at out.w.now at row.w row.w

-- those of the first n rows that stay, laid at the front of three lists
pub record Shortened (k : ℕ) (firsts : List ℕ) (L : LinkList) (n : ℕ) (out out' : Columns) (r : ℕ) : Type 0 where
  pub count : r ≡ length (stays_in k firsts L n)
  pub laid_a : out'.a.now ≡ laid (map L.a (stays_in k firsts L n)) out.a.now
  pub laid_b : out'.b.now ≡ laid (map L.b (stays_in k firsts L n)) out.b.now
  pub laid_w : out'.w.now ≡ laid (map (kept_at k firsts L) (stays_in k firsts L n)) out.w.now
