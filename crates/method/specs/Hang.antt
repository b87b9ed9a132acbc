-- Nodes that hang on a neighbour: at least half of a node's cables go to it.
--
-- Why it is true: to put such a node on its neighbour's side of a division, where it was not, raises no value: the cables to its own old side,
-- which cross now, are no more than those to the neighbour, which no longer do. It leaves a division, unless the node was alone on its side; then
-- the division's value was the node's cables. So where every node that hangs has x cables or more, a division below x stays a division below x
-- when all of them, one after the other, go to their neighbours' sides. Assumes nothing.
use Prim.Native.Nat.{ℕ, zero, suc, ◌+◌, ◌≤◌, ◌<◌}
use Rattle.std.specs.Prelude.{◌≡◌, ◌⊎◌, Bool, ◌&&◌, cond, eqb, ltb}
use Rattle.std.proofs.Math.Path.{refl}
use Rattle.std.proofs.Common.{sym, ap, ◌∙◌, inl, inr, ⊎_elim, arith, eqb-true, eq-eqb, ne_eqb, lt-ltb, le-ltb}
use Rattle.std.proofs.Math.Bool.{true, false, not}
use Rattle.std.proofs.lemmas.Bool.{not-true}
use Rattle.meaning.specs.Sums.{on, differ}
use Rattle.meaning.specs.Links.{LinkList, Accepted}
use Rattle.meaning.specs.Order.{reach, back}
use Rattle.meaning.specs.Split.{cut}
use Rattle.laws.specs.Bools.{bool_cases, cases_eq, cases_lt, true-false, and-true, and_left, and_right, cond-true, cond-false, differ_self, differ-false, on_most, eqb_sym}
use Rattle.laws.specs.Sums.{sum_ext, sum-le, sum-add}
use Rattle.laws.specs.Rows.{cut_ext, cut_ends}
use Rattle.laws.specs.Choose.{some_below}
use Rattle.method.specs.Division.{Division}
use Rattle.method.specs.Question.{NoneBelow}
use Rattle.method.specs.Floor.{Gathers, gathered_none}

-- ---- one node brought to another's side

-- S with u on v's side
abbrev brought : (ℕ → Bool) → ℕ → ℕ → ℕ → Bool
brought S u v z = cond (eqb u z) (S v) (S z)

-- one row with ends a and b, of c cables: what u and v are to its ends, and the sides
row_brought : (ua ub va vb p q s : Bool) (c : ℕ)
    → (ua ≡ true → (va ≡ false) × (p ≡ not s)) → (ub ≡ true → (vb ≡ false) × (q ≡ not s)) → (va ≡ true → p ≡ s) → (vb ≡ true → q ≡ s)
    → on (differ (cond ua s p) (cond ub s q)) c + ((on (ua && vb) c + on (ub && va) c) + (on (ua && vb) c + on (ub && va) c))
    ≤ on (differ p q) c + on (differ ua ub) c
row_brought true true va vb p q s c hu hw ha hb = rw ((hu refl).0, (hw refl).0, differ_self s) (omega arith)
row_brought true false va true p q s c hu hw ha hb = rw ((hu refl).1, hb refl, differ_self s) (other s)
  where
    other : (t : Bool) → 0 + ((c + 0) + (c + 0)) ≤ on (differ (not t) t) c + c
    other true = omega arith
    other false = omega arith
row_brought true false va false p q s c hu hw ha hb = omega (arith, on_most (differ s q) c)
row_brought false true true vb p q s c hu hw ha hb = rw ((hw refl).1, ha refl, differ_self s) (other s)
  where
    other : (t : Bool) → 0 + ((0 + c) + (0 + c)) ≤ on (differ t (not t)) c + c
    other true = omega arith
    other false = omega arith
row_brought false true false vb p q s c hu hw ha hb = omega (arith, on_most (differ p s) c)
row_brought false false va vb p q s c hu hw ha hb = omega arith

module _ (L : LinkList) (S : ℕ → Bool) (u v : ℕ) (two : u ≡ v → ⊥) where
  -- the cables between the two, twice, and what is saved
  brought-cut : differ (S u) (S v) ≡ true → cut L (brought S u v) + (back L (eqb v) u + back L (eqb v) u) ≤ cut L S + cut L (eqb u)
  unfolding cut back
  brought-cut d =
      let f : ℕ → ℕ = λ r. on (differ (brought S u v (L.a r)) (brought S u v (L.b r))) (L.w r) in
      let g : ℕ → ℕ = λ r. reach (eqb v) u (L.a r) (L.b r) (L.w r) in
      let h : ℕ → ℕ = λ r. on (differ (S (L.a r)) (S (L.b r))) (L.w r) in
      let k : ℕ → ℕ = λ r. on (differ (eqb u (L.a r)) (eqb u (L.b r))) (L.w r) in
      let each = sum-le L.rows (λ r. f r + (g r + g r)) (λ r. h r + k r) (λ r l. row (L.a r) (L.b r) (L.w r)) in
      omega (arith, each, sum-add L.rows f (λ r. g r + g r), sum-add L.rows g g, sum-add L.rows h k)
    where
      -- u is on the side that v is not on
      other : S u ≡ not (S v)
      other = go (S u) (S v) d
        where
          go : (p q : Bool) → differ p q ≡ true → p ≡ not q
          go true true e = true-false false e refl
          go true false e = refl
          go false true e = refl
          go false false e = true-false false e refl

      at_u : (z : ℕ) → eqb u z ≡ true → (eqb v z ≡ false) × (S z ≡ not (S v))
      at_u z e =
          let q : u ≡ z = eqb-true u z e in
          (ne_eqb v z (λ e'. two (q ∙ sym e')), ap S (sym q) ∙ other)

      at_v : (z : ℕ) → eqb v z ≡ true → S z ≡ S v
      at_v z e = ap S (sym (eqb-true v z e))

      row : (a b c : ℕ)
          → on (differ (brought S u v a) (brought S u v b)) c + (reach (eqb v) u a b c + reach (eqb v) u a b c)
          ≤ on (differ (S a) (S b)) c + on (differ (eqb u a) (eqb u b)) c
      row a b c =
          rw (eqb_sym a u, eqb_sym b u)
          (row_brought (eqb u a) (eqb u b) (eqb v a) (eqb v b) (S a) (S b) (S v) c (at_u a) (at_u b) (at_v a) (at_v b))

  -- u on v's side already: nothing moves
  brought_same : S u ≡ S v → (z : ℕ) → brought S u v z ≡ S z
  brought_same e z =
      ⊎_elim
      (λ t. cond-true (eqb u z) (S v) (S z) t ∙ sym e ∙ ap S (eqb-true u z t))
      (λ f. cond-false (eqb u z) (S v) (S z) f)
      (bool_cases (eqb u z))

  -- Where half of u's cables go to v, moving u over raises no value.
  pub brought_less : cut L (eqb u) ≤ back L (eqb v) u + back L (eqb v) u → cut L (brought S u v) ≤ cut L S
  brought_less heavy =
      ⊎_elim
      (λ d. omega (arith, brought-cut d))
      (λ e. omega (arith, cut_ext L (brought S u v) S (brought_same (differ-false (S u) (S v) e))))
      (bool_cases (differ (S u) (S v)))

-- ---- a division with a node brought

-- the sides exchanged, or not
differ_both : (p q k : Bool) → differ (differ p k) (differ q k) ≡ differ p q
differ_both true true true = refl
differ_both true true false = refl
differ_both true false true = refl
differ_both true false false = refl
differ_both false true true = refl
differ_both false true false = refl
differ_both false false true = refl
differ_both false false false = refl

cut_turned : (L : LinkList) (S : ℕ → Bool) (k : Bool) → cut L (λ z. differ (S z) k) ≡ cut L S
unfolding cut
cut_turned L S k =
    sum_ext
    L.rows
    (λ r. on (differ (differ (S (L.a r)) k) (differ (S (L.b r)) k)) (L.w r))
    (λ r. on (differ (S (L.a r)) (S (L.b r))) (L.w r))
    (λ r l. ap (λ d. on d (L.w r)) (differ_both (S (L.a r)) (S (L.b r)) k))

module _ (L : LinkList) (acc : Accepted L) (x : ℕ) (S : ℕ → Bool) (d : Division L.nodes S) (low : cut L S < x)
    (u v : ℕ) (u-below : u < L.nodes) (v_below : v < L.nodes) (two : u ≡ v → ⊥) (many : x ≤ cut L (eqb u)) where
  -- another node on u's side
  abbrev beside : ℕ → Bool
  beside z = not (eqb u z) && not (differ (S u) (S z))

  -- u is not alone on its side, else the value would be its cables
  beside_some : ((z : ℕ) → z < L.nodes → beside z ≡ false) → ⊥
  beside_some none =
      let k = not (S u) in
      let same : (z : ℕ) → z < L.nodes → S z ≡ differ (eqb u z) k = λ z l. alone z (none z l) (bool_cases (eqb u z)) in
      let value : cut L S ≡ cut L (eqb u) =
      cut_ends L S (λ z. differ (eqb u z) k) (λ r l. same (L.a r) (acc.a_inside r l)) (λ r l. same (L.b r) (acc.b_inside r l))
      ∙ cut_turned L (eqb u) k in
      omega arith
    where
      flip : (p : Bool) → p ≡ differ true (not p)
      flip true = refl
      flip false = refl

      far : (p q : Bool) → differ p q ≡ true → q ≡ differ false (not p)
      far true true e = true-false false e refl
      far true false e = refl
      far false true e = refl
      far false false e = true-false false e refl

      alone : (z : ℕ) → beside z ≡ false → (eqb u z ≡ true) ⊎ (eqb u z ≡ false) → S z ≡ differ (eqb u z) (not (S u))
      alone z e (inl t) = ap S (sym (eqb-true u z t)) ∙ flip (S u) ∙ ap (λ b. differ b (not (S u))) (sym t)
      alone z e (inr f) =
          ⊎_elim
          (λ t. far (S u) (S z) t ∙ ap (λ b. differ b (not (S u))) (sym f))
          (λ g. true-false (beside z) (and-true (not (eqb u z)) (not (differ (S u) (S z))) (ap not f) (ap not g)) e)
          (bool_cases (differ (S u) (S z)))

  -- So S with u on v's side is a division too.
  pub brought_division : Division L.nodes (brought S u v)
  brought_division =
      ⊎_elim
      (λ t. parted t)
      (λ e.
      let same = brought_same L S u v two (differ-false (S u) (S v) e) in
      record {
        inside = (d.inside.0, d.inside.1, same d.inside.0 ∙ d.inside.2);
        outside = (d.outside.0, d.outside.1, same d.outside.0 ∙ d.outside.2);
      })
      (bool_cases (differ (S u) (S v)))
    where
      stays : (z : ℕ) → eqb u z ≡ false → brought S u v z ≡ S z
      stays z f = cond-false (eqb u z) (S v) (S z) f

      -- v, and a node beside u, which are on two sides
      parted : differ (S u) (S v) ≡ true → Division L.nodes (brought S u v)
      parted t = ⊎_elim (λ some. by some.0 some.1 some.2 (S u) (S v) refl refl t) (λ none. absurd (beside_some none)) (some_below L.nodes beside)
        where
          two_sides : (z : ℕ) → z < L.nodes → (p q : Bool) → brought S u v z ≡ p → brought S u v v ≡ q → differ p q ≡ true → Division L.nodes (brought S u v)
          two_sides z l true true a b e = true-false false e refl
          two_sides z l true false a b e = record { inside = (z, l, a); outside = (v, v_below, b) }
          two_sides z l false true a b e = record { inside = (v, v_below, b); outside = (z, l, a) }
          two_sides z l false false a b e = true-false false e refl

          by : (z : ℕ) → z < L.nodes → beside z ≡ true → (p q : Bool) → S u ≡ p → S v ≡ q → differ (S u) (S v) ≡ true → Division L.nodes (brought S u v)
          by z l b p q eu ev t =
              let away : eqb u z ≡ false = not-true (eqb u z) (and_left (not (eqb u z)) (not (differ (S u) (S z))) b) in
              let near : S u ≡ S z = differ-false (S u) (S z) (not-true (differ (S u) (S z)) (and_right (not (eqb u z)) (not (differ (S u) (S z))) b)) in
              let at-z : brought S u v z ≡ p = stays z away ∙ sym near ∙ eu in
              let at_v : brought S u v v ≡ q = stays v (ne_eqb u v two) ∙ ev in
              let pq : differ p q ≡ true = ap (λ y. differ y q) (sym eu) ∙ ap (differ (S u)) (sym ev) ∙ t in
              two_sides z l p q at-z at_v pq

-- ---- all that hang, one after the other

-- each node's target: itself, or one that at least half of its cables go to and that is its own target; those that hang have x cables or more
pub record Hangs (L : LinkList) (x : ℕ) (to : ℕ → ℕ) : Type 0 where
  pub inside : (v : ℕ) → v < L.nodes → to v < L.nodes
  pub settled : (v : ℕ) → v < L.nodes → to (to v) ≡ to v
  pub heavy : (v : ℕ) → v < L.nodes → (to v ≡ v → ⊥) → cut L (eqb v) ≤ back L (eqb (to v)) v + back L (eqb (to v)) v
  pub many : (v : ℕ) → v < L.nodes → (to v ≡ v → ⊥) → x ≤ cut L (eqb v)

division_ext : (n : ℕ) (S T : ℕ → Bool) → ((v : ℕ) → T v ≡ S v) → Division n S → Division n T
division_ext n S T same d =
    record {
      inside = (d.inside.0, d.inside.1, same d.inside.0 ∙ d.inside.2);
      outside = (d.outside.0, d.outside.1, same d.outside.0 ∙ d.outside.2);
    }

module _ (L : LinkList) (acc : Accepted L) (x : ℕ) (to : ℕ → ℕ) (hangs : Hangs L x to) where
  -- the first k nodes are at their targets
  abbrev upto : ℕ → ℕ → ℕ
  upto k v = cond (ltb v k) (to v) v

  upto_there : (k v : ℕ) → v < k → upto k v ≡ to v
  upto_there k v l = cond-true (ltb v k) (to v) v (lt-ltb v k l)

  upto_here : (k v : ℕ) → k ≤ v → upto k v ≡ v
  upto_here k v l = cond-false (ltb v k) (to v) v (le-ltb v k l)

  upto_target : (k : ℕ) → k < L.nodes → upto k (to k) ≡ to k
  upto_target k l = ⊎_elim (λ lt. upto_there k (to k) lt ∙ hangs.settled k l) (λ ge. upto_here k (to k) ge) (cases_lt (to k) k)

  -- one more: only k itself goes
  upto_other : (k v : ℕ) → (v ≡ k → ⊥) → upto (suc k) v ≡ upto k v
  upto_other k v ne =
      ⊎_elim
      (λ lt. upto_there (suc k) v (omega arith) ∙ sym (upto_there k v lt))
      (λ ge. upto_here (suc k) v (omega arith) ∙ sym (upto_here k v ge))
      (cases_lt v k)

  module _ (S : ℕ → Bool) (d : Division L.nodes S) (low : cut L S < x) where
    abbrev at : ℕ → ℕ → Bool
    at k v = S (upto k v)

    at_same : (k : ℕ) → to k ≡ k → (v : ℕ) → at (suc k) v ≡ at k v
    at_same k e v =
        ⊎_elim
        (λ q. ap S (ap (upto (suc k)) q ∙ upto_there (suc k) k (omega arith) ∙ e ∙ sym (upto_here k k (omega arith)) ∙ ap (upto k) (sym q)))
        (λ ne. ap S (upto_other k v ne))
        (cases_eq v k)

    at_brought : (k : ℕ) → k < L.nodes → (v : ℕ) → at (suc k) v ≡ brought (at k) k (to k) v
    at_brought k l v =
        ⊎_elim
        (λ q.
        ap (at (suc k)) q ∙ ap S (upto_there (suc k) k (omega arith) ∙ sym (upto_target k l))
        ∙ sym (cond-true (eqb k v) (at k (to k)) (at k v) (eq-eqb k v (sym q))))
        (λ ne. ap S (upto_other k v ne) ∙ sym (cond-false (eqb k v) (at k (to k)) (at k v) (ne_eqb k v (λ q. ne (sym q)))))
        (cases_eq v k)

    all-brought : (k : ℕ) → k ≤ L.nodes → Division L.nodes (at k) × (cut L (at k) ≤ cut L S)
    all-brought zero le =
        let none : (v : ℕ) → at 0 v ≡ S v = λ v. ap S (upto_here 0 v (omega arith)) in
        (division_ext L.nodes S (at 0) none d, omega (arith, cut_ext L (at 0) S none))
    all-brought (suc k) le =
        let (before, less) = all-brought k (omega arith) in
        ⊎_elim
        (λ e. (division_ext L.nodes (at k) (at (suc k)) (at_same k e) before, omega (arith, cut_ext L (at (suc k)) (at k) (at_same k e))))
        (λ ne.
        let l : k < L.nodes = omega arith in
        let two : k ≡ to k → ⊥ = λ q. ne (sym q) in
        let more = brought_less L (at k) k (to k) two (hangs.heavy k l ne) in (
          division_ext L.nodes (brought (at k) k (to k)) (at (suc k)) (at_brought k l)
              (brought_division L acc x (at k) before (omega arith) k (to k) l (hangs.inside k l) two (hangs.many k l ne)),
          omega (arith, cut_ext L (at (suc k)) (brought (at k) k (to k)) (at_brought k l)),
        ))
        (cases_eq (to k) k)

  -- Where no division of the list with one node for each target is below x, none of the given list is.
  pub hang_step : (M : LinkList) (name : ℕ → ℕ) → Gathers L M name
      → ((u v : ℕ) → u < L.nodes → v < L.nodes → name u ≡ name v → to u ≡ to v)
      → NoneBelow M x → NoneBelow L x
  hang_step M name gathers one none S d =
      ⊎_elim
      (λ lt.
      let n = L.nodes in
      let (there, less) = all-brought S d lt n (omega arith) in
      let whole : (u v : ℕ) → u < n → v < n → name u ≡ name v → S (upto n u) ≡ S (upto n v) = λ u v lu lv e.
      ap S (upto_there n u lu ∙ one u v lu lv e ∙ sym (upto_there n v lv)) in
      omega (arith, gathered_none L M acc name gathers x none (λ v. S (upto n v)) whole there))
      (λ ge. ge)
      (cases_lt (cut L S) x)
