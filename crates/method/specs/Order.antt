-- Document 01's order is a max-back order, and the only one with its start and its ties.
--
-- Why it is true: each next node is the choice among the free ones, which is Definition 1 with ties to the smallest number; and an order that does the
-- same makes the same choice at every position, since the choice is unique. Assumes nothing.
use Rattle.std.specs.Prelude.{ℕ, zero, suc, ◌≤◌, ◌<◌, ◌≡◌, refl, Bool, true, false, not, List, [], ◌∷◌, ◌++◌, length, get_or, take}
use Rattle.std.proofs.Common.{sym, ap, ◌∙◌, subst, ⊎_elim, arith, take-suc}
use Rattle.std.proofs.Math.Seq.{take-length}
use Rattle.std.proofs.lemmas.Bool.{not-true}
use Rattle.meaning.specs.Sums.{has}
use Rattle.meaning.specs.Links.{LinkList}
use Rattle.meaning.specs.Order.{back, next, prefix, all, order_of, back_at}
use Rattle.meaning.specs.Split.{size_of}
use Rattle.laws.specs.Bools.{cases_eq, cases_lt, true-false, and-true, and_left, and_right}
use Rattle.laws.specs.Lists.{distinct_eq, distinct_later, has_at, has-take-get_or}
use Rattle.laws.specs.Choose.{Chosen, choose_is, size_has}
use Rattle.laws.specs.Order.{Placed, free, placed_length, prefix_placed, prefix-all, prefix_chosen, prefix_one, prefix_none, prefix-suc, length-prefix, take-prefix, get_or-prefix_start, size_all}
use Rattle.method.specs.Claim.{MaxBack}

-- An order of the live nodes from s, as document 01 has it: each live node below n once, s first, Definition 1, ties to the smallest number.
pub record Ordered (L : LinkList) (live : ℕ → Bool) (s : ℕ) (o : List ℕ) : Type 0 where
  pub once : Placed L live o
  pub each : (v : ℕ) → v < L.nodes → live v ≡ true → has o v ≡ true
  pub starts : get_or o 0 0 ≡ s
  pub max_back : MaxBack L o
  pub ties : (i j : ℕ) → 1 ≤ i → i < j → j < length o → back L (has (take i o)) (get_or o j 0) ≡ back_at L o i → get_or o i 0 < get_or o j 0

module _ (L : LinkList) (live : ℕ → Bool) (s : ℕ) (live-start : live s ≡ true) (start_below : s < L.nodes) where
  -- a node at position j or later is free when j nodes are placed
  later-free : (k : ℕ) → k ≤ size_of L.nodes live → (i j : ℕ) → i ≤ j → j < k
      → free live (prefix L live s i) (get_or (prefix L live s k) j 0) ≡ true
  later-free k le i j ij jk =
      let o = prefix L live s k in
      let c : Placed L live o = prefix_placed L live s live-start start_below k le in
      let lj : j < length o = omega (arith, length-prefix L live s k) in
      and-true (live (get_or o j 0)) (not (has (prefix L live s i) (get_or o j 0))) (c.alive j lj)
      (ap not (ap (λ l. has l (get_or o j 0)) (sym (take-prefix L live s i k (omega arith))) ∙ distinct_later o c.distinct i j ij lj))

  -- the choice at position i, against the node at a later position j
  chosen_at : (k : ℕ) → k ≤ size_of L.nodes live → (i : ℕ) → 1 ≤ i → i < k
      → Chosen L.nodes (free live (prefix L live s i)) (back L (has (take i (prefix L live s k)))) (get_or (prefix L live s k) i 0)
  chosen_at k le i one ik =
      subst
      (λ l. Chosen L.nodes (free live (prefix L live s i)) (back L (has l)) (get_or (prefix L live s k) i 0))
      (sym (take-prefix L live s i k (omega arith)))
      (prefix_chosen L live s live-start start_below i k one ik le)

  -- Every prefix of the order fulfils Definition 1.
  pub prefix-max-back : (k : ℕ) → k ≤ size_of L.nodes live → MaxBack L (prefix L live s k)
  prefix-max-back k le =
      let o = prefix L live s k in
      let c : Placed L live o = prefix_placed L live s live-start start_below k le in
      record {
        distinct = c.distinct;
        most = λ i j one ij lj.
            let jk : j < k = omega (arith, length-prefix L live s k) in
            (chosen_at k le i one (omega arith)).most (get_or o j 0) (c.below j lj) (later-free k le i j ij jk);
      }

  -- The order lists each live node exactly once, starts at the start, fulfils Definition 1, and gives ties to the smallest number.
  pub prefix_ordered : Ordered L live s (prefix L live s (size_of L.nodes live))
  prefix_ordered =
      let k = size_of L.nodes live in
      let o = prefix L live s k in
      let c : Placed L live o = prefix_placed L live s live-start start_below k (omega arith) in
      record {
        once = c;
        each = prefix-all L live s live-start start_below;
        starts = get_or-prefix_start L live s k (size_has L.nodes live s start_below live-start);
        max_back = prefix-max-back k (omega arith);
        ties = λ i j one ij lj e.
            let jk : j < k = omega (arith, length-prefix L live s k) in
            let x : Chosen L.nodes (free live (prefix L live s i)) (back L (has (take i o))) (get_or o i 0) = chosen_at k (omega arith) i one (omega arith) in
            ⊎_elim
            (λ lt. lt)
            (λ ge.
            ⊎_elim
            (λ q. absurd (let z : i ≡ j = distinct_eq o c.distinct i j (omega arith) lj q in omega arith))
            (λ ne. absurd (omega (arith, x.first (get_or o j 0) (omega arith) (later-free k (omega arith) i j (omega arith) jk))))
            (cases_eq (get_or o i 0) (get_or o j 0)))
            (cases_lt (get_or o i 0) (get_or o j 0));
      }

-- ---- it is the only one

module _ (L : LinkList) (live : ℕ → Bool) (s : ℕ) (o : List ℕ) (c : Ordered L live s o) where
  -- a node that is free after i positions stands at i or later
  stands : (i v : ℕ) → i ≤ length o → v < L.nodes → free live (take i o) v ≡ true → (j : ℕ) × (i ≤ j) × (j < length o) × (get_or o j 0 ≡ v)
  stands i v il l f =
      let r : (j : ℕ) × (j < length o) × (get_or o j 0 ≡ v) = has_at o v (c.each v l (and_left (live v) (not (has (take i o) v)) f)) in
      let out : has (take i o) v ≡ false = not-true (has (take i o) v) (and_right (live v) (not (has (take i o) v)) f) in
      ⊎_elim
      (λ lt. true-false (has (take i o) v) (ap (has (take i o)) (sym r.2) ∙ has-take-get_or o r.0 i lt il) out)
      (λ ge. (r.0, ge, r.1, r.2))
      (cases_lt r.0 i)

  -- its node at every position but the first is the choice
  chosen_there : (i : ℕ) → 1 ≤ i → i < length o → Chosen L.nodes (free live (take i o)) (back L (has (take i o))) (get_or o i 0)
  chosen_there i one il =
      record {
        below = c.once.below i il;
        open_node = and-true (live (get_or o i 0)) (not (has (take i o) (get_or o i 0))) (c.once.alive i il) (ap not (c.once.distinct i il));
        most = λ v l f.
            let r : (j : ℕ) × (i ≤ j) × (j < length o) × (get_or o j 0 ≡ v) = stands i v (omega arith) l f in
            subst (λ u. back L (has (take i o)) u ≤ back_at L o i) r.3 (c.max_back.most i r.0 one r.1 r.2);
        first = λ v l f.
            let r : (j : ℕ) × (i ≤ j) × (j < length o) × (get_or o j 0 ≡ v) = stands i v (omega arith) (omega (arith, c.once.below i il)) f in
            lower i one il v l r.0 r.1 r.2 r.3;
      }
    where
      lower : (i : ℕ) → 1 ≤ i → i < length o → (v : ℕ) → v < get_or o i 0 → (j : ℕ) → i ≤ j → j < length o → get_or o j 0 ≡ v
          → back L (has (take i o)) v < back_at L o i
      lower i one il v l j ij jl e =
          let ne : i ≡ j → ⊥ = λ q. let z : get_or o i 0 ≡ get_or o j 0 = ap (λ k. get_or o k 0) q in omega arith in
          let le : back L (has (take i o)) (get_or o j 0) ≤ back_at L o i = c.max_back.most i j one ij jl in
          let eq : back L (has (take i o)) (get_or o j 0) ≡ back L (has (take i o)) v = ap (back L (has (take i o))) e in
          ⊎_elim
          (λ q. absurd (omega (arith, c.ties i j one (omega arith) jl q)))
          (λ nq. omega arith)
          (cases_eq (back L (has (take i o)) (get_or o j 0)) (back_at L o i))

  -- so its first k nodes are the order's first k
  same_front : (k : ℕ) → k ≤ length o → take k o ≡ prefix L live s k
  same_front zero h = sym (prefix_none L live s)
  same_front (suc zero) h = take-suc o 0 0 h ∙ ap {B = List ℕ} (λ x. x ∷ []) c.starts ∙ sym (prefix_one L live s)
  same_front (suc (suc k)) h =
      let i = suc k in
      let there : get_or o i 0 ≡ next L live (take i o) =
      sym (choose_is (free live (take i o)) (back L (has (take i o))) L.nodes (get_or o i 0) (chosen_there i (omega arith) h)) in
      take-suc o i 0 h
      ∙ ap (λ x. take i o ++ (x ∷ [])) there
      ∙ ap (λ l. l ++ (next L live l ∷ [])) (same_front (suc k) (omega arith))
      ∙ sym (prefix-suc L live s i (omega arith))

  -- Among all orders that start there, fulfil Definition 1 and give ties to the smallest number, it is the only one.
  pub ordered_unique : o ≡ prefix L live s (size_of L.nodes live)
  ordered_unique =
      sym (take-length o) ∙ same_front (length o) (omega arith) ∙ ap (prefix L live s) (placed_length L live o c.once c.each)

-- ---- all nodes live: the order of a list

-- From any start below n: each node once, the start first, Definition 1, ties to the smallest number ..
pub order_ordered : (L : LinkList) (s : ℕ) → s < L.nodes → Ordered L all s (order_of L s)
order_ordered L s h = subst (λ k. Ordered L all s (prefix L all s k)) (size_all L.nodes) (prefix_ordered L all s refl h)

-- .. and it is the only such order.
pub order_unique : (L : LinkList) (s : ℕ) (o : List ℕ) → Ordered L all s o → o ≡ order_of L s
order_unique L s o c = ordered_unique L all s o c ∙ ap (prefix L all s) (size_all L.nodes)
