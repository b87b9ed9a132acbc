-- Numbering the rows in row order. After i rows the cell of x and y, where x is before y, holds the cables that have reached y when x has
-- visited i rows: row i joins x and y exactly when they are its earlier and its later end, and then it advances that cell and no other.
use Prim.Native.Nat.{ℕ, suc, ◌+◌, ◌*◌, ◌^◌, ◌≤◌, ◌<◌}
use mathlib.Core.Path.{◌≡◌, sym, ap, ◌∙◌, subst}
use mathlib.Core.Bool.{◌&&◌}
use mathlib.Core.List.{List}
use mathlib.Core.Logic.{⊎_elim}
use native.Mathlib.Omega.{arith}
use native.Mathlib.Numerals.{add-one}
use lib.ListN.{length, get_or, set, take}
use lib.Seq.{get_or-set_same, get_or-set_other}
use lib.Dec.{eqb}
use borrow.Author.Tests.{eq-eqb, ne_eqb}
use Rattle.meaning.specs.Sums.{sum, on, has, listed, laid}
use Rattle.meaning.specs.Links.{LinkList}
use Rattle.meaning.specs.Order.{reach}
use Rattle.meaning.specs.Forest.{position, a_first, earlier, later, first}
use Rattle.laws.specs.Bools.{cases_eq}
use Rattle.laws.specs.Sums.{sum-suc}
use Rattle.thinning.specs.Place.{by_test, eqb-position}
use Rattle.thinning.specs.Ends.{Proper, accepted_proper, earlier_before, earlier_inside, later_inside, reach-later}
use Rattle.table.specs.Table.{cell_at}
use Rattle.forest.specs.Scan.{cell_of, reached_by, Reached, Scannable, Numbered}
use Rattle.laws.specs.Filling.{filled_more}
use Rattle.forest.proofs.Reach.{not_both, reach-sum, back_most}

module _ {L : LinkList} {o place m : List ℕ} {r : ℕ} (s : Scannable L o r place m) (h : r < L.rows) where
  abbrev x : ℕ
  x = earlier L o r

  abbrev y : ℕ
  y = later L o r

  proper : Proper L
  proper = accepted_proper L s.accepted

  x_inside : x < L.nodes
  x_inside = earlier_inside L o proper s.lists r h

  y_inside : y < L.nodes
  y_inside = later_inside L o proper s.lists r h

  -- its cell is that of its earlier and its later end
  cell_is : cell_of place (L.a r) (L.b r) ≡ x * 128 + y
  cell_is =
      rw
      (s.places (L.a r) (s.accepted.a_inside r h), s.places (L.b r) (s.accepted.b_inside r h))
      (by_test (a_first L o r) (λ e. rw e) (λ e. rw e))

  here : get_or m (cell_of place (L.a r) (L.b r)) 0 ≡ reached_by L o r x y
  here = ap (λ at. get_or m at 0) cell_is ∙ s.cells x y x_inside y_inside (earlier_before L o proper s.lists r h)

  -- the number given is the row's first forest number
  first_is : suc (get_or m (cell_of place (L.a r) (L.b r)) 0) ≡ first L o r
  unfolding first
  first_is = ap suc here

  -- it brings cables to a node v from a node u before it exactly where these are its ends
  brings : (u v : ℕ) → u < L.nodes → position o u < position o v
      → reach (eqb u) v (L.a r) (L.b r) (L.w r) ≡ on (eqb y v && eqb u x) (L.w r)
  brings u v iu lt =
      reach-later
      L
      o
      proper
      s.lists
      (eqb u)
      (λ t. eqb t (position o u))
      v
      (L.w r)
      r
      h
      (λ z hz. eqb-position o u z (s.lists.each u iu) hz)
      (λ t le. ne_eqb t (position o u) (λ e. omega arith))
      ∙ ap (λ q. on (eqb y v && q) (L.w r)) (sym (eqb-position o u x (s.lists.each u iu) (s.lists.each x x_inside)))

  -- one row more reaches v from u
  more : (u v : ℕ) → u < L.nodes → position o u < position o v → reached_by L o (r + 1) u v ≡ reached_by L o r u v + on (eqb y v && eqb u x) (L.w r)
  more u v iu lt =
      let g : ℕ → ℕ = λ j. reach (eqb u) v (L.a j) (L.b j) (L.w j) in
      omega (arith, ap (λ k. sum k g) (add-one r) ∙ sum-suc r g, brings u v iu lt)

  -- and the cell advanced is right for the next row
  reached_more : cell_of place (L.a r) (L.b r) < length m
      → Reached L o (r + 1) (set m (cell_of place (L.a r) (L.b r)) (get_or m (cell_of place (L.a r) (L.b r)) 0 + L.w r))
  reached_more inside u v iu iv lt =
      rw cell_is
      (⊎_elim (λ e. ⊎_elim (same e) (λ ne. other (λ p q. ne q)) (cases_eq v y)) (λ ne. other (λ p q. ne p)) (cases_eq u x))
    where
      new : ℕ
      new = get_or m (x * 128 + y) 0 + L.w r

      same : u ≡ x → v ≡ y → cell_at (set m (x * 128 + y) new) u v ≡ reached_by L o (r + 1) u v
      same e f =
          let at : u * 128 + v ≡ x * 128 + y = omega arith in
          let all : on (eqb y v && eqb u x) (L.w r) ≡ L.w r = rw (eq-eqb y v (sym f), eq-eqb u x e) in
          ap (λ k. get_or (set m (x * 128 + y) new) k 0) at
          ∙ get_or-set_same m (x * 128 + y) new 0 (rw cell_is at inside)
          ∙ omega (arith, ap (λ k. get_or m k 0) at, s.cells u v iu iv lt, more u v iu lt, all)

      other : (u ≡ x → v ≡ y → ⊥) → cell_at (set m (x * 128 + y) new) u v ≡ reached_by L o (r + 1) u v
      other apart =
          let iy : y < 128 = omega (arith, y_inside, s.accepted.few_nodes) in
          let low : v < 128 = omega (arith, s.accepted.few_nodes) in
          get_or-set_other m (x * 128 + y) (u * 128 + v) new 0 (λ q. apart (omega arith) (omega arith))
          ∙ omega (arith, s.cells u v iu iv lt, more u v iu lt, ap (λ q. on q (L.w r)) (not_both y v u x (λ e f. apart f (sym e))))

  -- the numbers stay far below 2 ^ 32
  pub room : get_or m (cell_of place (L.a r) (L.b r)) 0 + L.w r + 1 < 2 ^ 32
  room =
      omega (
        arith,
        here,
        back_most L s.accepted (has (take (position o x) o)) y,
        reach-sum L s.accepted (eqb x) y r (omega arith),
        s.accepted.light r h,
      )

  -- the row numbered: the rows from the next on may be
  module _ {m' : List ℕ} {f : ℕ} (d : Numbered (cell_of place (L.a r) (L.b r)) (L.w r) m m' f) where
    pub goes_on : Scannable L o (r + 1) place m'
    goes_on =
        record {
          accepted = s.accepted;
          lists = s.lists;
          places = s.places;
          cells = subst (Reached L o (r + 1)) (sym d.advanced) (reached_more d.inside);
        }

    pub first_laid : (old firsts : List ℕ) → firsts ≡ laid (listed r (first L o)) old → L.rows ≤ length old
        → set firsts r f ≡ laid (listed (r + 1) (first L o)) old
    first_laid old firsts e space = filled_more (first L o) r f old firsts e (omega arith) (d.number ∙ first_is)
