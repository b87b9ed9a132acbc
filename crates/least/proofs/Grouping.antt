-- A state of the rounds, and what one round leaves. The table is that of the renamed rows, so the run orders the groups; its last back
-- count is the value of the last group (`method`); folding the last two in the table and moving the labels makes it the table and the
-- labels of the merged groups. Contents: the first state; bounds; a round's order; the groups after it; the whole round. Assumes nothing.
use mathlib.Core.Path.{◌≡◌, refl, sym, ap, ◌∙◌, subst}
use mathlib.Core.Logic.{◌⊎◌, inl, inr}
use mathlib.Core.Bool.{not}
use mathlib.Core.List.{List}
use Rattle.std.specs.Prelude.{Option}
use Prim.Native.Nat.{ℕ, suc, ◌-◌, ◌≤◌, ◌<◌, min, max}
use native.Mathlib.Omega.{arith}
use lib.ListN.{length, get_or, take}
use lib.Seq.{get_or-take, length-take-le}
use lib.Dec.{eqb}
use borrow.Author.Tests.{eq-eqb, ne_eqb}
use Rattle.meaning.specs.Sums.{on, laid}
use Rattle.meaning.specs.Links.{LinkList, Accepted}
use Rattle.meaning.specs.Order.{all, back, prefix, back_at, backs_of}
use Rattle.meaning.specs.Split.{Split as PaperSplit, renamed, live, group, merged, noted, better, group_order}
use Rattle.laws.specs.Bools.{cases_eq, on_most}
use Rattle.laws.specs.Choose.{size_most}
use Rattle.laws.specs.Lists.{get_or-laid_new, get_or-listed, length-listed}
use Rattle.laws.specs.Rows.{back-links, cut-links}
use Rattle.laws.specs.Order.{length-prefix}
use Rattle.laws.specs.Accept.{links_most}
use Rattle.laws.specs.Rounds.{moved}
use Rattle.method.specs.Least.{Groups, Ends, accepted_ends, all_groups, last_of, before_of, round_groups, noted_value, t_below, p_below, p-t}
use Rattle.sides.specs.Bits.{labelled}
use Rattle.table.specs.Table.{cell, Holds, Ran, Ready, mark, Numbered}
use Rattle.answers.specs.declared.Split.{Split}
use Rattle.least.specs.declared.Last.{Last}
use Rattle.least.specs.Rounds.{Light, Folded, Relabelled, Opened, Grouped, Ended, NotesYet, Notes, After}
use Rattle.least.proofs.Merging.{folded_holds}

-- the first: every node its own group
pub grouped_first : {L : LinkList} {n : ℕ} {m label : List ℕ} → Accepted L → L.nodes ≡ n → Holds L m → length label ≡ 128 → Numbered label
    → Grouped L (λ v. v) n n m label
grouped_first {L} {n} acc nodes holds places numbers =
    record {
      accepted = acc;
      nodes = nodes;
      groups = all_groups n;
      table = holds;
      places = places;
      labels = λ v h. numbers v (omega (arith, acc.few_nodes));
    }

module _ {L : LinkList} {g : ℕ → ℕ} {n count : ℕ} {m label : List ℕ} (s : Grouped L g n count m label) where
  -- every cell is at most the sum of all weights
  pub grouped_light : Light m
  grouped_light p q hp hq = rw (s.table.cells p q hp hq) (go (cases_eq p q))
    where
      go : (p ≡ q) ⊎ (p ≡ q → ⊥) → cell (renamed g L) p q < 2147483648
      go (inl e) = rw (eq-eqb p q e) (omega arith)
      go (inr ne) =
          omega (
            arith,
            on_most (not (eqb p q)) (back (renamed g L) (eqb p) q),
            back-links (renamed g L) (eqb p) q (ne_eqb p q ne),
            links_most L s.accepted,
          )

  pub few_nodes : n ≤ 128
  few_nodes = omega (arith, s.nodes, s.accepted.few_nodes)

  pub count_few : count ≤ 128
  count_few = omega (arith, few_nodes, s.groups.count, size_most n (live g))

  -- the first n labels
  pub labels_part : length (take n label) ≡ n
  labels_part = length-take-le n label (omega (arith, s.places, few_nodes))

  -- the groups, for the theorems
  pub in_groups : Groups L.nodes all count g
  in_groups = subst (λ k. Groups k all count g) (sym s.nodes) s.groups

  in_ends : Ends L all
  in_ends = accepted_ends L s.accepted

  -- ---- a round's order

  -- the label of the start is the number of its group
  module _ (start x : ℕ) (inside : start < n) (at : x ≡ get_or label start 0) where
    start_group : x ≡ g start
    start_group = at ∙ s.labels start inside

    pub ready : (score score' : List ℕ) → length score ≡ 128 → Opened n label score score' → Ready (renamed g L) (live g) n count x m score'
    ready score score' size opened =
        subst (λ y. Ready (renamed g L) (live g) n count y m score') (sym start_group)
        (record {
          table = s.table;
          few_rows = s.accepted.few_rows;
          light = s.accepted.light;
          nodes = s.nodes;
          few_nodes = few_nodes;
          inside = s.groups.below start inside refl;
          start_live = s.groups.settled start inside refl;
          count_live = s.groups.count;
          size = opened.size ∙ size;
          marks = λ v h. opened.marks v h ∙ ap (λ y. on (eqb y v) mark) (s.labels v h);
        })

    pub ran : {order order' back₀ back' : List ℕ} → Ran (renamed g L) (live g) count x order order' back₀ back'
        → Ran (renamed g L) (live g) count (g start) order order' back₀ back'
    ran {order} {order'} {back₀} {back'} = subst (λ y. Ran (renamed g L) (live g) count y order order' back₀ back') start_group

  module _ (start : ℕ) (inside : start < n) (j : ℕ) (many : count ≡ suc (suc j)) where
    start_below : start < L.nodes
    start_below = omega (arith, s.nodes)

    gs : Groups L.nodes all (suc (suc j)) g
    gs = subst (λ k. Groups L.nodes all k g) many in_groups

    abbrev o : List ℕ
    o = group_order L start g (suc (suc j))

    len : length o ≡ suc (suc j)
    len = length-prefix (renamed g L) (live g) (g start) (suc (suc j))

    -- its last two groups and the last one's value
    pub ended : (order order' back₀ back' : List ℕ) → Ran (renamed g L) (live g) count (g start) order order' back₀ back'
        → Ended L start g j (record { last = get_or order' (count - 1) 0; before = get_or order' (count - 2) 0; value = get_or back' (count - 1) 0 })
    ended order order' back₀ back' r =
        let L' = renamed g L in
        let last : count - 1 ≡ suc j = omega arith in
        let before : count - 2 ≡ j = omega arith in
        let first : order' ≡ laid o order = r.order_is ∙ ap (λ k. laid (prefix L' (live g) (g start) k) order) many in
        let second : back' ≡ laid (backs_of L' o) back₀ = r.back_is ∙ ap (λ k. laid (backs_of L' (prefix L' (live g) (g start) k)) back₀) many in
        record {
          last_is = rw (first, last) (get_or-laid_new o order (suc j) (omega (arith, len)));
          before_is = rw (first, before) (get_or-laid_new o order j (omega (arith, len)));
          value_is =
              rw (second, last)
              (get_or-laid_new (backs_of L' o) back₀ (suc j) (omega (arith, len, length-listed (length o) (back_at L' o)))
              ∙ get_or-listed (length o) (back_at L' o) (suc j) (omega (arith, len))
              ∙ sym (noted_value L all in_ends start start_below refl j g gs));
        }

    -- ---- the groups after it

    abbrev t : ℕ
    t = last_of L start g j

    abbrev u : ℕ
    u = before_of L start g j

    pub last_inside : t < 128
    last_inside = omega (arith, t_below L all in_ends start start_below refl j g gs, s.accepted.few_nodes)

    pub before_inside : u < 128
    before_inside = omega (arith, p_below L all in_ends start start_below refl j g gs, s.accepted.few_nodes)

    pub last_two : u ≡ t → ⊥
    last_two = p-t L all in_ends start start_below refl j g gs

    pub regrouped : (m' label' : List ℕ) → Folded (min u t) (max u t) m m' → Relabelled 128 (min u t) (max u t) label label'
        → Grouped L (merged g u t) n (suc j) m' label'
    regrouped m' label' fold re =
        record {
          accepted = s.accepted;
          nodes = s.nodes;
          groups =
              subst (λ k. Groups k all (suc j) (merged g u t)) s.nodes (round_groups L all in_ends start start_below refl j g gs);
          table = folded_holds (min u t) (max u t) (λ e. last_two (omega arith)) (omega (arith, last_inside, before_inside)) (omega (arith, last_inside, before_inside)) s.table fold;
          places = re.size ∙ s.places;
          labels = λ v h. re.moves v (omega (arith, few_nodes)) ∙ ap (moved (min u t) (max u t)) (s.labels v h);
        }

    module _ {l : Last} (end : Ended L start g j l) where
      pub end_last : l.last < 128
      end_last = omega (arith, end.last_is, last_inside)

      pub end_before : l.before < 128
      end_before = omega (arith, end.before_is, before_inside)

      pub end_two : l.before ≡ l.last → ⊥
      end_two e = last_two (sym end.before_is ∙ e ∙ end.last_is)

      -- the side is made from the first n labels
      side_is : (v : ℕ) → v < n → labelled (take n label) l.last v ≡ group g t v
      side_is v h = rw (get_or-take n label v 0 h, s.labels v h, end.last_is)

      pub after_round : {p : PaperSplit} (r : Option Split) {r' : Split} {m' label' : List ℕ}
          → ((p q : PaperSplit) → NotesYet (length (take n label)) p r → l.value ≡ q.value → l.value < mark
          → ((v : ℕ) → v < length (take n label) → labelled (take n label) l.last v ≡ q.side v) → Notes (length (take n label)) (better p q) r')
          → Folded (min l.before l.last) (max l.before l.last) m m'
          → Relabelled 128 (min l.before l.last) (max l.before l.last) label label'
          → NotesYet n p r → After L start g j n p m' label' r'
      after_round {p} r {r'} {m'} {label'} note fold re notes =
          let size = labels_part in
          let low : l.value < mark = omega (arith, end.value_is, cut-links L (group g t), links_most L s.accepted) in
          record {
            grouped = regrouped m' label' (rw (end.before_is, end.last_is) at fold) (rw (end.before_is, end.last_is) at re);
            notes =
                subst (λ k. Notes k (better p (noted L g t)) r') size
                (note p (noted L g t) (subst (λ k. NotesYet k p r) (sym size) notes) end.value_is low (λ v h. side_is v (omega arith)));
          }
