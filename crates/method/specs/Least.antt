-- The rounds of document 000 find a least division.
--
-- Why it is true: a division that parts the last two groups of a round has at least the value noted there (LAST PAIR, on the renamed rows); one that does
-- not is also a division of the merged groups, with the same value, so a later round answers for it; with two groups left it parts them.
-- The value noted is that of a real division, the last group against the rest, and the start's group stands first. Assumes nothing.
--
-- Shown for any set U of nodes that holds all row ends (`piece_split`), and for all nodes of an accepted list (`least_split`).
use Prim.Native.Nat.{ℕ, zero, suc, ◌-◌, ◌≤◌, ◌<◌, min, max}
use Rattle.std.specs.Prelude.{◌≡◌, refl, Bool, true, false, not, ◌&&◌, cond, List, length, get_or, eqb, ltb}
use Rattle.std.proofs.Common.{sym, ap, ◌∙◌, subst, arith, eqb-true, eq-eqb, ne_eqb}
use Rattle.std.proofs.Math.Logic.{⊎_elim}
use Rattle.std.proofs.lemmas.Bool.{eqb-false, not-true}
use Rattle.meaning.specs.Sums.{on, differ, has}
use Rattle.meaning.specs.Links.{LinkList, Accepted}
use Rattle.meaning.specs.Order.{all, back_at}
use Rattle.meaning.specs.Split.{Split, cut, size_of, renamed, live, group, merged, noted, better, group_order, rounds, least_of}
use Rattle.laws.specs.Bools.{bool_cases, cases_eq, cases_lt, true-false, same_test, and-true, and_left, and_right, cond-true, cond-false, eqb_same, eqb_sym, differ-false}
use Rattle.laws.specs.Sums.{sum_ext}
use Rattle.laws.specs.Lists.{has_at, distinct_eq}
use Rattle.laws.specs.Rows.{cut_ext, cut_ends, cut-renamed}
use Rattle.laws.specs.Choose.{size_less}
use Rattle.laws.specs.Order.{length-prefix, size_all}
use Rattle.laws.specs.Rounds.{moved, better_now, better-next}
use Rattle.method.specs.Division.{Division}
use Rattle.method.specs.Claim.{last_pair, last_value}
use Rattle.method.specs.Order.{Ordered, prefix_ordered}

-- S parts the nodes of U below n
pub record Parts (n : ℕ) (U S : ℕ → Bool) : Type 0 where
  pub inside : (v : ℕ) × (v < n) × (U v ≡ true) × (S v ≡ true)
  pub outside : (v : ℕ) × (v < n) × (U v ≡ true) × (S v ≡ false)

-- the ends of all rows are nodes of U below n
pub record Ends (L : LinkList) (U : ℕ → Bool) : Type 0 where
  pub a_below : (r : ℕ) → r < L.rows → L.a r < L.nodes
  pub b_below : (r : ℕ) → r < L.rows → L.b r < L.nodes
  pub a_in : (r : ℕ) → r < L.rows → U (L.a r) ≡ true
  pub b_in : (r : ℕ) → r < L.rows → U (L.b r) ≡ true

-- g gives each node of U below n the number of its group, and there are m groups
pub record Groups (n : ℕ) (U : ℕ → Bool) (m : ℕ) (g : ℕ → ℕ) : Type 0 where
  pub count : size_of n (live g) ≡ m
  pub within : (v : ℕ) → v < n → live g v ≡ true → U v ≡ true
  pub below : (v : ℕ) → v < n → U v ≡ true → g v < n
  pub settled : (v : ℕ) → v < n → U v ≡ true → live g (g v) ≡ true

-- S is a union of groups
abbrev pub Whole : ℕ → (ℕ → Bool) → (ℕ → ℕ) → (ℕ → Bool) → Type 0
Whole n U g S = (v : ℕ) → v < n → U v ≡ true → S (g v) ≡ S v

-- ---- merging: the group numbered gone becomes part of the one numbered keep

module _ (n : ℕ) (U : ℕ → Bool) (m : ℕ) (g : ℕ → ℕ) (gs : Groups n U (suc m) g) (keep gone : ℕ)
    (keep-below : keep < n) (gone-below : gone < n) (keep_live : live g keep ≡ true) (gone-live : live g gone ≡ true) (two : gone ≡ keep → ⊥) where
  -- the group's number afterwards
  abbrev joined : ℕ → ℕ
  joined v = moved keep gone (g v)

  joined_gone : (v : ℕ) → g v ≡ gone → joined v ≡ keep
  joined_gone v e = cond-true (eqb (g v) gone) keep (g v) (eq-eqb (g v) gone e)

  joined-stays : (v : ℕ) → (g v ≡ gone → ⊥) → joined v ≡ g v
  joined-stays v ne = cond-false (eqb (g v) gone) keep (g v) (ne_eqb (g v) gone ne)

  -- the live numbers are those before, but the one that goes
  joined-live : (v : ℕ) → live joined v ≡ (live g v && not (eqb gone v))
  joined-live v =
      same_test (live joined v) (live g v && not (eqb gone v))
      (λ e. ⊎_elim (from_gone (eqb-true (joined v) v e)) (from_other (eqb-true (joined v) v e)) (cases_eq (g v) gone))
      (λ e. to (eqb-true (g v) v (and_left (live g v) (not (eqb gone v)) e)) (not-true (eqb gone v) (and_right (live g v) (not (eqb gone v)) e)))
    where
      from_gone : joined v ≡ v → g v ≡ gone → (live g v && not (eqb gone v)) ≡ true
      from_gone e q =
          let kv : keep ≡ v = sym (joined_gone v q) ∙ e in
          absurd (two (sym q ∙ ap g (sym kv) ∙ eqb-true (g keep) keep keep_live))

      from_other : joined v ≡ v → (g v ≡ gone → ⊥) → (live g v && not (eqb gone v)) ≡ true
      from_other e ne =
          let gv : g v ≡ v = sym (joined-stays v ne) ∙ e in
          and-true (live g v) (not (eqb gone v)) (eq-eqb (g v) v gv) (ap not (ne_eqb gone v (λ q. ne (gv ∙ sym q))))

      to : g v ≡ v → eqb gone v ≡ false → live joined v ≡ true
      to gv ne = eq-eqb (joined v) v (joined-stays v (λ q. eqb-false gone v ne (sym q ∙ gv)) ∙ gv)

  joined_groups : Groups n U m joined
  joined_groups =
      record {
        count =
            let same : size_of n (live joined) ≡ size_of n (λ v. live g v && not (eqb gone v)) =
            sum_ext n (λ v. on (live joined v) 1) (λ v. on (live g v && not (eqb gone v)) 1) (λ v l. ap (λ b. on b 1) (joined-live v)) in
            omega (arith, size_less n (live g) gone gone-below gone-live, gs.count);
        within = λ v l e. gs.within v l (and_left (live g v) (not (eqb gone v)) (sym (joined-live v) ∙ e));
        below = λ v l u.
            ⊎_elim
            (λ q. subst (λ x. x < n) (sym (joined_gone v q)) keep-below)
            (λ ne. subst (λ x. x < n) (sym (joined-stays v ne)) (gs.below v l u))
            (cases_eq (g v) gone);
        settled = λ v l u.
            ⊎_elim
            (λ q. ap (live joined) (joined_gone v q) ∙ lives keep keep_live (λ e. two e))
            (λ ne. ap (live joined) (joined-stays v ne) ∙ lives (g v) (gs.settled v l u) (λ e. ne (sym e)))
            (cases_eq (g v) gone);
      }
    where
      lives : (v : ℕ) → live g v ≡ true → (gone ≡ v → ⊥) → live joined v ≡ true
      lives v e ne = joined-live v ∙ and-true (live g v) (not (eqb gone v)) e (ap not (ne_eqb gone v ne))

  -- a division that does not part the two is one of the merged groups
  joined_whole : (S : ℕ → Bool) → S keep ≡ S gone → Whole n U g S → Whole n U joined S
  joined_whole S e w v l u =
      ⊎_elim
      (λ h. ap S (joined_gone v h) ∙ e ∙ ap S (sym h) ∙ w v l u)
      (λ h. ap S (joined-stays v h) ∙ w v l u)
      (cases_eq (g v) gone)

-- the smaller and the larger of two numbers are the two, one way or the other
either_way : (p q : ℕ) (Q : ℕ → ℕ → Type 0) → Q p q → Q q p → Q (min p q) (max p q)
either_way p q Q pq qp = ⊎_elim (λ lt. rw (low lt, high lt) pq) (λ le. rw (low' le, high' le) qp) (cases_lt p q)
  where
    low : p < q → min p q ≡ p
    low lt = omega arith

    high : p < q → max p q ≡ q
    high lt = omega arith

    low' : q ≤ p → min p q ≡ q
    low' le = omega arith

    high' : q ≤ p → max p q ≡ p
    high' le = omega arith

module _ (n : ℕ) (U : ℕ → Bool) (m : ℕ) (g : ℕ → ℕ) (gs : Groups n U (suc m) g) (p q : ℕ)
    (p_below : p < n) (q-below : q < n) (p-live : live g p ≡ true) (q-live : live g q ≡ true) (two : p ≡ q → ⊥) where
  apart : max p q ≡ min p q → ⊥
  apart = either_way p q (λ x y. y ≡ x → ⊥) (λ e. two (sym e)) two

  -- Merging two groups leaves one group less ..
  pub merged_groups : Groups n U m (merged g p q)
  merged_groups =
      joined_groups n U m g gs (min p q) (max p q) (omega arith) (omega arith)
      (either_way p q (λ x y. live g x ≡ true) p-live q-live)
      (either_way p q (λ x y. live g y ≡ true) q-live p-live)
      apart

  -- .. and a division that does not part them is one of the groups that are left.
  pub merged_whole : (S : ℕ → Bool) → S p ≡ S q → Whole n U g S → Whole n U (merged g p q) S
  merged_whole S e =
      joined_whole n U m g gs (min p q) (max p q) (omega arith) (omega arith)
      (either_way p q (λ x y. live g x ≡ true) p-live q-live)
      (either_way p q (λ x y. live g y ≡ true) q-live p-live)
      apart S
      (either_way p q (λ x y. S x ≡ S y) e (sym e))

-- ---- one round

-- What a noted division owes: its value is that of its side, which is a division of U and leaves the start out.
pub record Real (L : LinkList) (U : ℕ → Bool) (s : ℕ) (p : Split) : Type 0 where
  pub value_of : p.value ≡ cut L p.side
  pub parts : Parts L.nodes U p.side
  pub no_start : p.side s ≡ false

-- the last of j + 2 groups in a round's order, and the one before it
abbrev pub last_of : LinkList → ℕ → (ℕ → ℕ) → ℕ → ℕ
last_of L s g j = get_or (group_order L s g (suc (suc j))) (suc j) 0

abbrev pub before_of : LinkList → ℕ → (ℕ → ℕ) → ℕ → ℕ
before_of L s g j = get_or (group_order L s g (suc (suc j))) j 0

module _ (L : LinkList) (U : ℕ → Bool) (ends : Ends L U) (s : ℕ) (s-below : s < L.nodes) (s-in : U s ≡ true) where
  -- a round's order is an order of the groups, on the renamed rows
  pub round_ordered : (m : ℕ) (g : ℕ → ℕ) → Groups L.nodes U m g → Ordered (renamed g L) (live g) (g s) (group_order L s g m)
  round_ordered m g gs =
      subst
      (λ k. Ordered (renamed g L) (live g) (g s) (group_order L s g k))
      gs.count
      (prefix_ordered (renamed g L) (live g) (g s) (gs.settled s s-below s-in) (gs.below s s-below s-in))

  module _ (j : ℕ) (g : ℕ → ℕ) (gs : Groups L.nodes U (suc (suc j)) g) where
    abbrev o : List ℕ
    o = group_order L s g (suc (suc j))

    abbrev t : ℕ
    t = last_of L s g j

    abbrev p : ℕ
    p = before_of L s g j

    ord : Ordered (renamed g L) (live g) (g s) o
    ord = round_ordered (suc (suc j)) g gs

    len : length o ≡ suc (suc j)
    len = length-prefix (renamed g L) (live g) (g s) (suc (suc j))

    pub t_below : t < L.nodes
    t_below = ord.once.below (suc j) (omega (arith, len))

    pub p_below : p < L.nodes
    p_below = ord.once.below j (omega (arith, len))

    pub t-live : live g t ≡ true
    t-live = ord.once.alive (suc j) (omega (arith, len))

    pub p-live : live g p ≡ true
    p-live = ord.once.alive j (omega (arith, len))

    pub p-t : p ≡ t → ⊥
    p-t e = let q : j ≡ suc j = distinct_eq o ord.once.distinct j (suc j) (omega (arith, len)) (omega (arith, len)) e in omega arith

    -- every node's group stands in the order
    stands : (v : ℕ) → v < L.nodes → U v ≡ true → has o (g v) ≡ true
    stands v l u = ord.each (g v) (gs.below v l u) (gs.settled v l u)

    -- the noted value is the last group's back count
    pub noted_value : (noted L g t).value ≡ back_at (renamed g L) o (suc j)
    noted_value =
        cut_ext L (group g t) (λ v. eqb t (g v)) (λ v. eqb_sym (g v) t)
        ∙ sym (cut-renamed L g (eqb t))
        ∙ sym
        (last_value
        (renamed g L)
        o
        ord.once.distinct
        (suc j)
        len
        (λ r l. stands (L.a r) (ends.a_below r l) (ends.a_in r l))
        (λ r l. stands (L.b r) (ends.b_below r l) (ends.b_in r l)))

    -- a division of the groups has the same value on the renamed rows
    whole_cut : (S : ℕ → Bool) → Whole L.nodes U g S → cut (renamed g L) S ≡ cut L S
    whole_cut S w =
        cut-renamed L g S
        ∙ cut_ends
        L
        (λ v. S (g v))
        S
        (λ r l. w (L.a r) (ends.a_below r l) (ends.a_in r l))
        (λ r l. w (L.b r) (ends.b_below r l) (ends.b_in r l))

    -- a division that parts the last two groups has at least the noted value
    round_least : (S : ℕ → Bool) → Whole L.nodes U g S → differ (S p) (S t) ≡ true → (noted L g t).value ≤ cut L S
    round_least S w d = omega (arith, noted_value, whole_cut S w, last_pair (renamed g L) o ord.max_back S j len d)

    round_real : Real L U s (noted L g t)
    round_real =
        record {
          value_of = refl;
          parts = record { inside = (t, t_below, gs.within t t_below t-live, t-live); outside = (s, s-below, s-in, start_out) };
          no_start = start_out;
        }
      where
        start_out : group g (get_or (group_order L s g (suc (suc j))) (suc j) 0) s ≡ false
        start_out =
            ne_eqb (g s) t (λ e.
            let q : 0 ≡ suc j = distinct_eq o ord.once.distinct 0 (suc j) (omega (arith, len)) (omega (arith, len)) (ord.starts ∙ e) in
            omega arith)

    -- what a round hands on: one group less, and the divisions that it did not answer for
    pub round_groups : Groups L.nodes U (suc j) (merged g p t)
    round_groups = merged_groups L.nodes U (suc j) g gs p t p_below t_below p-live t-live p-t

    round_whole : (S : ℕ → Bool) → S p ≡ S t → Whole L.nodes U g S → Whole L.nodes U (merged g p t) S
    round_whole = merged_whole L.nodes U (suc j) g gs p t p_below t_below p-live t-live p-t

  -- with two groups left every division of them parts them
  last_two : (g : ℕ → ℕ) (gs : Groups L.nodes U 2 g) (S : ℕ → Bool) → Whole L.nodes U g S → Parts L.nodes U S
      → differ (S (before_of L s g 0)) (S (last_of L s g 0)) ≡ true
  last_two g gs S w d =
      ⊎_elim
      (λ e. e)
      (λ e.
      let same : S (before_of L s g 0) ≡ S (last_of L s g 0) = differ-false (S (before_of L s g 0)) (S (last_of L s g 0)) e in
      true-false
      (S (last_of L s g 0))
      (sym (one_side same d.inside.0 d.inside.1 d.inside.2) ∙ d.inside.3)
      (sym (one_side same d.outside.0 d.outside.1 d.outside.2) ∙ d.outside.3))
      (bool_cases (differ (S (before_of L s g 0)) (S (last_of L s g 0))))
    where
      -- else every node is on the last group's side
      one_side : S (before_of L s g 0) ≡ S (last_of L s g 0) → (v : ℕ) → v < L.nodes → U v ≡ true → S v ≡ S (last_of L s g 0)
      one_side same v l u =
          let o = group_order L s g 2 in
          let r : (i : ℕ) × (i < length o) × (get_or o i 0 ≡ g v) = has_at o (g v) (stands 0 g gs v l u) in
          sym (w v l u) ∙ ap S (sym r.2)
          ∙ ⊎_elim
          (λ e. ap (λ i. S (get_or o i 0)) e ∙ same)
          (λ ne. ap (λ i. S (get_or o i 0)) (let q : r.0 ≡ 1 = omega (arith, len 0 g gs) in q))
          (cases_eq r.0 0)

  -- ---- all rounds

  better_real : (now next : Split) → Real L U s now → Real L U s next → Real L U s (better now next)
  better_real now next a b = go (ltb next.value now.value)
    where
      go : (c : Bool) → Real L U s (cond c next now)
      go true = b
      go false = a

  -- Every split that the rounds answer is real.
  pub rounds_real : (j : ℕ) (g : ℕ → ℕ) → Groups L.nodes U (suc (suc j)) g → Real L U s (rounds L s j g)
  unfolding rounds
  rounds_real zero g gs = round_real 0 g gs
  rounds_real (suc j) g gs =
      let p = before_of L s g (suc j) in
      let t = last_of L s g (suc j) in
      better_real (noted L g t) (rounds L s j (merged g p t)) (round_real (suc j) g gs) (rounds_real j (merged g p t) (round_groups (suc j) g gs))

  -- No division of the groups has a smaller value than the rounds answer.
  pub rounds_least : (j : ℕ) (g : ℕ → ℕ) → Groups L.nodes U (suc (suc j)) g → (S : ℕ → Bool) → Whole L.nodes U g S → Parts L.nodes U S
      → (rounds L s j g).value ≤ cut L S
  unfolding rounds
  rounds_least zero g gs S w d = round_least 0 g gs S w (last_two g gs S w d)
  rounds_least (suc j) g gs S w d =
      let p = before_of L s g (suc j) in
      let t = last_of L s g (suc j) in
      let now = noted L g t in
      let next = rounds L s j (merged g p t) in
      let later : S p ≡ S t → next.value ≤ cut L S = λ e.
      rounds_least j (merged g p t) (round_groups (suc j) g gs) S (round_whole (suc j) g gs S e w) d in
      ⊎_elim
      (λ e. omega (arith, better_now now next, round_least (suc j) g gs S w e))
      (λ e. omega (arith, better-next now next, later (differ-false (S p) (S t) e)))
      (bool_cases (differ (S p) (S t)))

-- ---- the least split of a set of nodes, and of a list

-- at first every node of U is its own group, and the others have the number n, which is no node's
abbrev pub single : ℕ → (ℕ → Bool) → ℕ → ℕ
single n U v = cond (U v) v n

pub single_groups : (n : ℕ) (U : ℕ → Bool) → Groups n U (size_of n U) (single n U)
single_groups n U =
    record {
      count = sum_ext n (λ v. on (live (single n U) v) 1) (λ v. on (U v) 1) (λ v l. ap (λ b. on b 1) (same v l (U v)));
      within = λ v l e. sym (same v l (U v)) ∙ e;
      below = λ v l u. subst (λ x. x < n) (sym (cond-true (U v) v n u)) l;
      settled = λ v l u. ap (live (single n U)) (cond-true (U v) v n u) ∙ same v l (U v) ∙ u;
    }
  where
    same : (v : ℕ) → v < n → (b : Bool) → eqb (cond b v n) v ≡ b
    same v l true = eqb_same v
    same v l false = ne_eqb n v (λ e. omega arith)

pub all_groups : (n : ℕ) → Groups n all n (λ v. v)
all_groups n = subst (λ m. Groups n all m (λ v. v)) (size_all n) (single_groups n all)

-- Of any set of two or more nodes that holds all row ends, from any start in it: the rounds answer a real division, and none of its divisions has a
-- smaller value.
pub piece_split : (L : LinkList) (U : ℕ → Bool) → Ends L U → (j : ℕ) → size_of L.nodes U ≡ suc (suc j) → (s : ℕ) → s < L.nodes → U s ≡ true
    → Real L U s (rounds L s j (single L.nodes U))
    × ((S : ℕ → Bool) → Parts L.nodes U S → (rounds L s j (single L.nodes U)).value ≤ cut L S)
piece_split L U ends j e s l u =
    let gs : Groups L.nodes U (suc (suc j)) (single L.nodes U) =
    subst (λ m. Groups L.nodes U m (single L.nodes U)) e (single_groups L.nodes U) in (
      rounds_real L U ends s l u j (single L.nodes U) gs,
      λ S d. rounds_least L U ends s l u j (single L.nodes U) gs S (λ v h w. ap S (cond-true (U v) v L.nodes w)) d,
    )

-- What document 01 promises of the least split: its value is that of its side, which is a division and does not hold the start, and no division has
-- a smaller value.
pub record LeastSplit (L : LinkList) (s : ℕ) (p : Split) : Type 0 where
  pub value_of : p.value ≡ cut L p.side
  pub division : Division L.nodes p.side
  pub no_start : p.side s ≡ false
  pub least : (S : ℕ → Bool) → Division L.nodes S → p.value ≤ cut L S

pub accepted_ends : (L : LinkList) → Accepted L → Ends L all
accepted_ends L acc = record { a_below = acc.a_inside; b_below = acc.b_inside; a_in = λ r h. refl; b_in = λ r h. refl }

-- Of an accepted list of two or more nodes, from any start: the split answered is a least split.
pub least_split : (L : LinkList) → Accepted L → 2 ≤ L.nodes → (s : ℕ) → s < L.nodes → LeastSplit L s (least_of L s)
least_split L acc two s l =
    let size : size_of L.nodes all ≡ suc (suc (L.nodes - 2)) = omega (arith, size_all L.nodes) in
    let (real, least) = piece_split L all (accepted_ends L acc) (L.nodes - 2) size s l refl in
    let i = real.parts.inside in
    let o = real.parts.outside in
    record {
      value_of = real.value_of;
      division = record { inside = (i.0, i.1, i.3); outside = (o.0, o.1, o.3) };
      no_start = real.no_start;
      least = λ S d.
          least
          S
          (record {
            inside = (d.inside.0, d.inside.1, refl, d.inside.2);
            outside = (d.outside.0, d.outside.1, refl, d.outside.2);
          });
    }
