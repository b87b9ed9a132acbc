-- The steps of `run`: with the nodes of the prefix placed, a node's score is its mark, if it is free, and its cables to the other nodes
-- of the prefix. No number of cables reaches the mark, so as long as a node is free the highest score is a free node's, and the first
-- with it is document 01's next node. Placing it adds its row, which is just what the cables of every node to the prefix grow by.
use Prim.Native.Nat.{ℕ, suc, ◌+◌, ◌-◌, ◌*◌, ◌≤◌, ◌<◌}
use mathlib.Core.Path.{◌≡◌, refl, sym, ap, ◌∙◌, subst}
use mathlib.Core.Logic.{⊎_elim}
use mathlib.Core.Bool.{Bool, true, false, not, ◌&&◌}
use mathlib.Core.List.{List, [], ◌∷◌, ◌++◌}
use native.Mathlib.Nat.{mul-le-mul_right}
use native.Mathlib.Numerals.{add-one}
use native.Mathlib.Omega.{arith}
use borrow.Author.Tests.{not-true}
use lib.ListN.{length, get_or, set, length-append}
use lib.Dec.{eqb}
use Rattle.meaning.specs.Sums.{on, has, listed, laid}
use Rattle.meaning.specs.Links.{LinkList}
use Rattle.meaning.specs.Order.{back, choose, prefix, back_at, backs_of}
use Rattle.meaning.specs.Split.{size_of}
use Rattle.laws.specs.Bools.{bool_cases, and-true, and_right, and-false_left, on-true, on-false, on_most}
use Rattle.laws.specs.Sums.{sum_most}
use Rattle.laws.specs.Lists.{has-nil, length-listed, laid_more}
use Rattle.laws.specs.Rows.{back_none, back-links}
use Rattle.laws.specs.Choose.{Chosen, choose_is, size_some}
use Rattle.laws.specs.Order.{free, placed_free, prefix_none, prefix_one, prefix-suc, length-prefix, prefix_placed, Placed as LawsPlaced}
use Rattle.table.specs.Table.{mark, Ready, Ran, Placeable, Placed}
use Rattle.table.proofs.Others.{others, others_self, others-all, others_more, free_more, backs_snoc}

-- the nodes of o are placed, and x is the next
pub record Running (L : LinkList) (live : ℕ → Bool) (n count start : ℕ) (order₀ back₀ o score order back' : List ℕ) (x : ℕ) : Type 0 where
  pub size : length score ≡ 128
  pub inside : x < n
  pub node : length o < count → prefix L live start (suc (length o)) ≡ o ++ (x ∷ [])
  pub unplaced : length o < count → free live o x ≡ true
  pub scores : (v : ℕ) → v < n → get_or score v 0 ≡ on (free live o v) mark + back L (others o v) v
  pub order_is : order ≡ laid o order₀
  pub back_is : back' ≡ laid (backs_of L o) back₀

-- so in the loop's turns, p nodes being placed
abbrev pub Turn : LinkList → (ℕ → Bool) → ℕ → ℕ → ℕ → List ℕ → List ℕ → List ℕ → List ℕ → List ℕ → ℕ → ℕ → Type 0
Turn L live n count start order₀ back₀ score order back' x p =
    Running L live n count start order₀ back₀ (prefix L live start p) score order back' x

module _ (L : LinkList) (live : ℕ → Bool) (n count start : ℕ) (m score₀ : List ℕ) (ready : Ready L live n count start m score₀) where
  -- no node has nearly as many cables as the mark
  few_cables : (o : List ℕ) (v : ℕ) → back L (others o v) v < 134217728
  few_cables o v =
      omega (
        arith,
        back-links L (others o v) v (others_self o v),
        sum_most L.rows L.w 65535 ready.light,
        mul-le-mul_right 65535 ready.few_rows,
      )

  running_none : (order back' : List ℕ) → Running L live n count start order back' [] score₀ order back' start
  unfolding listed
  running_none order back' =
      record {
        size = ready.size;
        inside = ready.inside;
        node = λ h. prefix_one L live start;
        unplaced = λ h. and-true (live start) (not (has [] start)) ready.start_live (ap not (has-nil start));
        scores = λ v l.
            rw (has-nil v, back_none L (others [] v) v (λ u. and-false_left (has [] u) (not (eqb u v)) (has-nil u)))
            (ready.marks v l ∙ start_score (live v));
        order_is = refl;
        back_is = refl;
      }
    where
      start_score : (t : Bool) → on t mark ≡ on (t && true) mark + 0
      start_score true = refl
      start_score false = refl

  module _ {order₀ back₀ o score order back' : List ℕ} {x : ℕ} (run : Running L live n count start order₀ back₀ o score order back' x) where
    -- the next node is not placed yet
    fresh : length o < count → has o x ≡ false
    fresh h = not-true (has o x) (and_right (live x) (not (has o x)) (run.unplaced h))

    -- a node's score with its place in row x
    light : length o < count → (v : ℕ) → v < n → get_or score v 0 + get_or m (x * 128 + v) 0 < 4294967296
    light h v l =
        omega (
          arith,
          run.scores v l,
          few_cables (o ++ (x ∷ [])) v,
          others_more L o x v (fresh h),
          on_most (free live o v) mark,
          ready.table.cells x v (omega (arith, run.inside, ready.few_nodes)) (omega (arith, ready.few_nodes)),
        )

    marked : length o < count → get_or score x 0 ≡ mark + back L (has o) x
    marked h =
        run.scores x run.inside
        ∙ rw (
          on-true (free live o x) mark (run.unplaced h),
          others-all L o x (fresh h),
        )

    module _ {score' : List ℕ} {r : ℕ} (h : length o < count) (placed : Placed n x m score score' r) where
      -- the scores after x
      scores' : (v : ℕ) → v < n → get_or score' v 0 ≡ on (free live (o ++ (x ∷ [])) v) mark + back L (others (o ++ (x ∷ [])) v) v
      scores' v l =
          omega (
            arith,
            placed.more v l,
            run.scores v l,
            free_more live o x v mark (run.unplaced h),
            others_more L o x v (fresh h),
            ready.table.cells x v (omega (arith, run.inside, ready.few_nodes)) (omega (arith, ready.few_nodes)),
          )

      -- a free node's score
      free_score : (v : ℕ) → v < n → free live (o ++ (x ∷ [])) v ≡ true → get_or score' v 0 ≡ mark + back L (has (o ++ (x ∷ []))) v
      free_score v l f =
          scores' v l
          ∙ rw (
            on-true (free live (o ++ (x ∷ [])) v) mark f,
            others-all L (o ++ (x ∷ [])) v (not-true (has (o ++ (x ∷ [])) v) (and_right (live v) (not (has (o ++ (x ∷ [])) v)) f)),
          )

      -- while fewer are placed than live, a node is free
      some_free : suc (length o) < count → (v : ℕ) × (v < n) × (free live (o ++ (x ∷ [])) v ≡ true)
      some_free more =
          let below : start < L.nodes = omega (arith, ready.nodes, ready.inside) in
          let live-nodes : size_of L.nodes live ≡ count = rw ready.nodes ready.count_live in
          let all_Placed = subst (LawsPlaced L live) (run.node h) (prefix_placed L live start ready.start_live below (suc (length o)) (omega arith)) in
          size_some n (free live (o ++ (x ∷ [])))
          (omega (arith, rw ready.nodes at (placed_free L live (o ++ (x ∷ [])) all_Placed), length-append o (x ∷ []), ready.count_live))

      -- the first of the highest is the choice, where a node is free
      chosen : suc (length o) < count → Chosen n (free live (o ++ (x ∷ []))) (back L (has (o ++ (x ∷ [])))) r
      chosen more =
          record {
            below = placed.inside;
            open_node = open_node;
            most = λ v l f. omega (arith, placed.most v l, free_score v l f, free_score r placed.inside open_node);
            first = λ v l f.
                omega (arith, placed.first v l, free_score v (omega (arith, placed.inside)) f, free_score r placed.inside open_node);
          }
        where
          open_node : free live (o ++ (x ∷ [])) r ≡ true
          open_node =
              let w = some_free more in
              ⊎_elim
              (λ e. e)
              (λ e.
              absurd
              (omega (
                arith,
                scores' r placed.inside,
                on-false (free live (o ++ (x ∷ [])) r) mark e,
                few_cables (o ++ (x ∷ [])) r,
                placed.most w.0 w.1,
                free_score w.0 w.1 w.2,
              )))
              (bool_cases (free live (o ++ (x ∷ [])) r))

      next_node : suc (length o) < count → prefix L live start (suc (suc (length o))) ≡ (o ++ (x ∷ [])) ++ (r ∷ [])
      next_node more =
          prefix-suc L live start (suc (length o)) (omega arith)
          ∙ rw (run.node h)
          (ap (λ u. (o ++ (x ∷ [])) ++ (u ∷ []))
          (ap (λ k. choose k (free live (o ++ (x ∷ []))) (back L (has (o ++ (x ∷ []))))) ready.nodes
          ∙ choose_is (free live (o ++ (x ∷ []))) (back L (has (o ++ (x ∷ [])))) n r (chosen more)))

      running_more : count ≤ length order₀ → count ≤ length back₀
          → Running L live n count start order₀ back₀ (o ++ (x ∷ [])) score' (set order (length o) x) (set back' (length o) (get_or score x 0 - mark)) r
      running_more order-long back_long =
          let one_more : length (o ++ (x ∷ [])) ≡ suc (length o) = length-append o (x ∷ []) ∙ add-one (length o) in
          let count-is : get_or score x 0 - mark ≡ back L (has o) x = omega (arith, marked h) in
          let as_long : length (backs_of L o) ≡ length o = length-listed (length o) (back_at L o) in
          record {
            size = placed.size ∙ run.size;
            inside = placed.inside;
            node = λ l. rw one_more (next_node (rw one_more at l));
            unplaced = λ l. (chosen (rw one_more at l)).open_node;
            scores = scores';
            order_is = rw run.order_is (sym (laid_more o x order₀ (omega arith)));
            back_is =
                rw (run.back_is, count-is, backs_snoc L o x)
                (ap (λ k. set (laid (backs_of L o) back₀) k (back L (has o) x)) (sym as_long)
                ∙ sym (laid_more (backs_of L o) (back L (has o) x) back₀ (omega arith)));
          }

  -- ---- the turns of the loop

  pub turn_none : (order back' : List ℕ) → Turn L live n count start order back' score₀ order back' start 0
  turn_none order back' = rw (prefix_none L live start) (running_none order back')

  pub turn_safe : {order₀ back₀ score order back' : List ℕ} {x p : ℕ} → Turn L live n count start order₀ back₀ score order back' x p → p < count
      → Placeable n x m score
  turn_safe {p = p} run h =
      let h' : length (prefix L live start p) < count = omega (arith, length-prefix L live start p) in
      record {
        few_nodes = ready.few_nodes;
        inside = run.inside;
        marked = omega (arith, marked run h');
        light = light run h';
      }

  pub turn_more : {order₀ back₀ score order back' score' : List ℕ} {x p r : ℕ} → Turn L live n count start order₀ back₀ score order back' x p → p < count
      → count ≤ length order₀ → count ≤ length back₀ → Placed n x m score score' r
      → Turn L live n count start order₀ back₀ score' (set order p x) (set back' p (get_or score x 0 - mark)) r (p + 1)
  turn_more {x = x} {p} run h order-long back_long placed =
      let len = length-prefix L live start p in
      let h' : length (prefix L live start p) < count = omega arith in
      let step : prefix L live start (suc p) ≡ prefix L live start p ++ (x ∷ []) = rw len at (run.node h') in
      rw (add-one p, step) (rw len at (running_more run h' placed order-long back_long))

  pub turn_done : {order₀ back₀ score order back' : List ℕ} {x : ℕ} → Turn L live n count start order₀ back₀ score order back' x count
      → Ran L live count start order₀ order back₀ back'
  turn_done run = record { order_is = run.order_is; back_is = run.back_is }
