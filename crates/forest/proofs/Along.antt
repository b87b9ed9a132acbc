-- The table of an accepted list, turned along its order, is ready for the numbering: the cables between two nodes, summed over the nodes before
-- x, are the cables to those nodes, since the order names each node once. None of these sums comes near 2 ^ 32.
use Prim.Native.Nat.{ℕ, zero, suc, ◌+◌, ◌≤◌, ◌<◌}
use mathlib.Core.Path.{◌≡◌, refl, sym, ap, ◌∙◌, subst}
use mathlib.Core.Bool.{not, false}
use mathlib.Core.List.{List}
use mathlib.Core.Logic.{⊎_elim}
use native.Mathlib.Omega.{arith}
use lib.ListN.{length, get_or, take}
use lib.Seq.{take-suc, take_at}
use Rattle.std.proofs.Common.{replicate}
use Rattle.std.proofs.lemmas.List.{length-replicate, get_or-replicate}
use lib.Dec.{eqb}
use borrow.Author.Tests.{eq-eqb, ne_eqb}
use Rattle.meaning.specs.Sums.{on, has}
use Rattle.meaning.specs.Numbers.{fine}
use Rattle.meaning.specs.Links.{LinkList, Given, list_of, list_check, Accepted}
use Rattle.meaning.specs.Order.{reach, back, prefix, all, order_of}
use Rattle.meaning.specs.Forest.{position}
use Rattle.laws.specs.Bools.{cases_eq}
use Rattle.laws.specs.Sums.{sum_none, sum-suc}
use Rattle.laws.specs.Accept.{Words, fine_accepted}
use Rattle.laws.specs.Lists.{distinct_eq, distinct_later}
use Rattle.laws.specs.Rows.{back-nil, back-snoc}
use Rattle.laws.specs.Order.{size_all, length-prefix, prefix_placed}
use Rattle.thinning.specs.Place.{Lists, order_lists, place-lt, at_place}
use Rattle.table.specs.Table.{cell, cell_at, Holds, mark, Ready, Ran}
use Rattle.forest.specs.Scan.{above, Turnable, Spread, Tabled, Scannable}
use Rattle.forest.proofs.Reach.{back_most, back_self}

cell-back : (L : LinkList) → Accepted L → (p q : ℕ) → cell L p q ≡ back L (eqb p) q
cell-back L ok p q =
    ⊎_elim
    (λ e. ap (λ t. on (not t) (back L (eqb p) q)) (eq-eqb p q e) ∙ sym (ap (λ v. back L (eqb p) v) (sym e) ∙ back_self L ok p))
    (λ ne. ap (λ t. on (not t) (back L (eqb p) q)) (ne_eqb p q ne))
    (cases_eq p q)

module _ (L : LinkList) (ok : Accepted L) where
  abbrev o : List ℕ
  o = order_of L 0

  lists : Lists o L.nodes
  lists = order_lists L 0 ok.some_node

  inside : (p : ℕ) → p < length o → get_or o p 0 < 128
  inside p h =
      omega (
        arith,
        lists.long,
        (prefix_placed L all 0 refl ok.some_node L.nodes (omega (arith, size_all L.nodes))).below p (omega arith),
        ok.few_nodes,
      )

  module _ (m : List ℕ) (t : Holds L m) where
    above-back : (p y : ℕ) → p ≤ length o → y < 128 → above o m p y ≡ back L (has (take p o)) y
    above-back zero y h hy = sum_none (λ q. cell_at m (get_or o q 0) y) ∙ sym (back-nil L y)
    above-back (suc p) y h hy =
        let x = get_or o p 0 in
        let here : cell_at m x y ≡ back L (eqb x) y = t.cells x y (inside p (omega arith)) hy ∙ cell-back L ok x y in
        let more : back L (has (take (suc p) o)) y ≡ back L (has (take p o)) y + back L (eqb x) y =
        ap (λ l. back L (has l) y) (take-suc o p 0 (omega arith))
        ∙ back-snoc L (take p o) x y (distinct_later o lists.once p p (omega arith) (omega arith)) in
        omega (arith, sum-suc p (λ q. cell_at m (get_or o q 0) y), above-back p y (omega arith) hy, here, more)

    turnable : Turnable o m
    turnable =
        record {
          few = omega (arith, lists.long, ok.few_nodes);
          inside = inside;
          once = λ p q hp hq e. distinct_eq o lists.once p q hp hq e;
          fits = λ p y hp hy. omega (arith, above-back p y hp hy, back_most L ok (has (take p o)) y);
        }

    scannable : (m' place : List ℕ) → Spread (length o) o m m' place → Scannable L o 0 place m'
    scannable m' place s =
        record {
          accepted = ok;
          lists = lists;
          places = λ v h. sym (ap (λ u. get_or place u 0) (node v h)) ∙ s.places (position o v) (at v h);
          cells = λ x y hx hy lt.
              let hy' : y < 128 = omega (arith, ok.few_nodes) in
              omega (
                arith,
                ap (λ u. cell_at m' u y) (node x hx),
                s.rows (position o x) y (at x hx) hy',
                above-back (position o x) y (omega (arith, at x hx)) hy',
                sum_none (λ j. reach (eqb x) y (L.a j) (L.b j) (L.w j)),
              );
        }
      where
        at : (v : ℕ) → v < L.nodes → position o v < length o
        at v h = omega (arith, lists.long, place-lt o L.nodes lists v h)

        node : (v : ℕ) → v < L.nodes → get_or o (position o v) 0 ≡ v
        node v h = at_place o L.nodes lists v h

-- ---- from the table of a list of n nodes, by a run of the order and a turn, to the numbering

module _ {L : LinkList} {m : List ℕ} {n : ℕ} (t : Tabled L m) (nodes : n ≡ L.nodes) where
  -- with every node marked, the order may be run
  pub ready : Ready L all n n 0 m (replicate 128 mark)
  ready =
      record {
        table = t.table;
        few_rows = t.accepted.few_rows;
        light = t.accepted.light;
        nodes = sym nodes;
        few_nodes = omega (arith, t.accepted.few_nodes);
        inside = omega (arith, t.accepted.some_node);
        start_live = refl;
        count_live = size_all n;
        size = length-replicate 128 mark;
        marks = λ v h. get_or-replicate 128 v mark 0 (omega (arith, t.accepted.few_nodes));
      }

  module _ {order₀ order backs₀ backs : List ℕ} (run : Ran L all n 0 order₀ order backs₀ backs) where
    -- what it wrote is the order
    ordered : take n order ≡ order_of L 0
    ordered = ap (take n) run.order_is ∙ take_at (prefix L all 0 n) _ n (length-prefix L all 0 n) ∙ ap (prefix L all 0) nodes

    -- the table may be turned along it
    pub run_turnable : Turnable (take n order) m
    run_turnable = subst (λ o. Turnable o m) (sym ordered) (turnable L t.accepted m t.table)

    -- and then the rows numbered
    pub run_scannable : {m' place : List ℕ} → Spread (length (take n order)) (take n order) m m' place
        → Scannable L (order_of L 0) 0 place m'
    run_scannable {m'} {place} s =
        scannable L t.accepted m t.table m' place (subst (λ o. Spread (length o) o m m' place) ordered s)

-- ---- of a list that passed its checks

module _ (g : Given) (fine' : list_check g false ≡ fine) where
  -- what its rows make in the table is an accepted list's table
  pub passed_tabled : {m : List ℕ} → Words g → Holds (list_of g) m → Tabled (list_of g) m
  passed_tabled words t = record { accepted = fine_accepted g false words fine'; table = t }
