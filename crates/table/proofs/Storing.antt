-- A list in the first rows of three lists. A copy of a list's rows is that list; and rows that were renamed, without those whose ends became one, are
-- an accepted list on the names, with the same cables across each set of names. Assumes nothing.
use mathlib.Core.Path.{◌≡◌, refl, sym, ap, ◌∙◌, subst}
use mathlib.Core.Bool.{Bool}
use mathlib.Core.List.{List}
use Prim.Native.Nat.{ℕ, ◌≤◌, ◌<◌}
use native.Mathlib.Omega.{arith}
use lib.ListN.{length, get_or, take, drop}
use lib.Seq.{get_or-take, length-take-le, take-append_seam}
use Rattle.meaning.specs.Sums.{sum, on, differ, laid}
use Rattle.meaning.specs.Links.{LinkList, given, list_of, Accepted}
use Rattle.meaning.specs.Order.{all, order_of, back_at, backs_of}
use Rattle.meaning.specs.Split.{cut}
use Rattle.laws.specs.Sums.{sum_ext}
use Rattle.laws.specs.Lists.{length-laid, get_or-laid_new, get_or-listed, length-listed}
use Rattle.laws.specs.Order.{length-prefix}
use Rattle.laws.specs.Accept.{Even}
use Rattle.method.specs.Floor.{Gathers}
use Rattle.table.specs.Table.{Ran}
use Rattle.table.specs.Floor.{across, Squeezed, front, Stored, Along}

-- ---- the first rows of three lists

front-cut : (n rows : ℕ) (a b w : List ℕ) → rows ≤ length a → (S : ℕ → Bool) → cut (front n rows a b w) S ≡ across rows S a b w
unfolding cut
front-cut n rows a b w h S =
    ap (λ k. sum k (λ r. on (differ (S (get_or (take rows a) r 0)) (S (get_or (take rows b) r 0))) (get_or (take rows w) r 0))) (length-take-le rows a h)
    ∙ sum_ext
    rows
    (λ r. on (differ (S (get_or (take rows a) r 0)) (S (get_or (take rows b) r 0))) (get_or (take rows w) r 0))
    (λ r. on (differ (S (get_or a r 0)) (S (get_or b r 0))) (get_or w r 0))
    (λ r l. rw (get_or-take rows a r 0 l, get_or-take rows b r 0 l, get_or-take rows w r 0 l))

module _ {n rows : ℕ} {a b w : List ℕ} (s : Stored n rows a b w) where
  pub row_room : (rows ≤ length a) × (rows ≤ length b) × (rows ≤ length w)
  row_room = (omega (arith, s.a_size, s.few_rows), omega (arith, s.b_size, s.few_rows), omega (arith, s.w_size, s.few_rows))

  pub few : n ≤ 128
  few = s.accepted.few_nodes

  pub rows_are : length (take rows a) ≡ rows
  rows_are = length-take-le rows a row_room.0

  pub stored_even : Even (given n (take rows a) (take rows b) (take rows w))
  stored_even =
      record {
        as_b = rows_are ∙ sym (length-take-le rows b row_room.1);
        as_w = rows_are ∙ sym (length-take-le rows w row_room.2);
      }

  -- the cables across a set
  pub stored_cut : (S : ℕ → Bool) → cut (front n rows a b w) S ≡ across rows S a b w
  stored_cut = front-cut n rows a b w row_room.0

  -- the rows, by place
  pub a_below : (r : ℕ) → r < rows → get_or a r 0 < n
  a_below r h = rw (← get_or-take rows a r 0 h) (s.accepted.a_inside r (omega (arith, rows_are)))

  pub b_below : (r : ℕ) → r < rows → get_or b r 0 < n
  b_below r h = rw (← get_or-take rows b r 0 h) (s.accepted.b_inside r (omega (arith, rows_are)))

  pub ends_apart : (r : ℕ) → r < rows → get_or a r 0 ≡ get_or b r 0 → ⊥
  ends_apart r h e = s.accepted.apart r (omega (arith, rows_are)) (get_or-take rows a r 0 h ∙ e ∙ sym (get_or-take rows b r 0 h))

  pub weight_light : (r : ℕ) → r < rows → get_or w r 0 ≤ 65535
  weight_light r h = rw (← get_or-take rows w r 0 h) (s.accepted.light r (omega (arith, rows_are)))

  weight_some : (r : ℕ) → r < rows → 1 ≤ get_or w r 0
  weight_some r h = rw (← get_or-take rows w r 0 h) (s.accepted.weighty r (omega (arith, rows_are)))

  -- ---- renamed

  module _ {name a' b' w' : List ℕ} {c left : ℕ} (below : (v : ℕ) → v < n → get_or name v 0 < c) (some : 1 ≤ c) (fewer : c ≤ n)
      (sq : Squeezed rows name a b w a' b' w' left) where
    fits : left ≤ 2048
    fits = omega (arith, sq.fewer, s.few_rows)

    a_rows : left ≤ length a'
    a_rows = omega (arith, sq.a_size, s.a_size, fits)

    count : length (take left a') ≡ left
    count = length-take-le left a' a_rows

    left_accepted : Accepted (front c left a' b' w')
    left_accepted =
        record {
          some_node = some;
          few_nodes = omega (arith, few);
          few_rows = omega (arith, count, fits);
          a_inside = λ i h.
              let h' : i < left = omega (arith, count) in
              let f = sq.from i h' in
              rw (get_or-take left a' i 0 h', f.2) (below (get_or a f.0 0) (a_below f.0 f.1));
          b_inside = λ i h.
              let h' : i < left = omega (arith, count) in
              let f = sq.from i h' in
              rw (get_or-take left b' i 0 h', f.3) (below (get_or b f.0 0) (b_below f.0 f.1));
          apart = λ i h e.
              let h' : i < left = omega (arith, count) in
              sq.apart i h' (sym (get_or-take left a' i 0 h') ∙ e ∙ get_or-take left b' i 0 h');
          weighty = λ i h.
              let h' : i < left = omega (arith, count) in
              let f = sq.from i h' in
              rw (get_or-take left w' i 0 h', f.4) (weight_some f.0 f.1);
          light = λ i h.
              let h' : i < left = omega (arith, count) in
              let f = sq.from i h' in
              rw (get_or-take left w' i 0 h', f.4) (weight_light f.0 f.1);
        }

    pub squeezed_stored : Stored c left a' b' w'
    squeezed_stored =
        record {
          a_size = sq.a_size ∙ s.a_size;
          b_size = sq.b_size ∙ s.b_size;
          w_size = sq.w_size ∙ s.w_size;
          few_rows = fits;
          accepted = left_accepted;
        }

    pub squeezed_gathers : Gathers (front n rows a b w) (front c left a' b' w') (λ v. get_or name v 0)
    squeezed_gathers =
        record {
          inside = below;
          same = λ S. front-cut c left a' b' w' a_rows S ∙ sq.same S ∙ sym (stored_cut (λ v. S (get_or name v 0)));
        }

-- ---- copied

-- a list that was laid at the front of three lists is the list that they store
module _ {n : ℕ} {a b w : List ℕ} (x y z : List ℕ) (acc : Accepted (list_of (given n a b w))) (even : Even (given n a b w)) where
  pub laid_front : front n (length a) (laid a x) (laid b y) (laid w z) ≡ list_of (given n a b w)
  laid_front =
      let same_b : take (length a) (laid b y) ≡ b = ap (λ k. take k (laid b y)) even.as_b ∙ take-append_seam b _ in
      let same_w : take (length a) (laid w z) ≡ w = ap (λ k. take k (laid w z)) even.as_w ∙ take-append_seam w _ in
      rw (take-append_seam a (drop (length a) x), same_b, same_w) refl

  pub laid_stored : length x ≡ 2048 → length y ≡ 2048 → length z ≡ 2048 → Stored n (length a) (laid a x) (laid b y) (laid w z)
  laid_stored size_x size_y size_z =
      record {
        a_size = length-laid a x (omega (arith, acc.few_rows)) ∙ size_x;
        b_size = length-laid b y (omega (arith, acc.few_rows, even.as_b)) ∙ size_y;
        w_size = length-laid w z (omega (arith, acc.few_rows, even.as_w)) ∙ size_z;
        few_rows = acc.few_rows;
        accepted = subst Accepted (sym laid_front) acc;
      }

-- one node with no rows is stored in any three lists
pub one_stored : {a b w : List ℕ} → length a ≡ 2048 → length b ≡ 2048 → length w ≡ 2048 → Stored 1 0 a b w
one_stored size_a size_b size_w =
    record {
      a_size = size_a;
      b_size = size_b;
      w_size = size_w;
      few_rows = omega arith;
      accepted = record {
        some_node = omega arith;
        few_nodes = omega arith;
        few_rows = omega arith;
        a_inside = λ r h. absurd (omega arith);
        b_inside = λ r h. absurd (omega arith);
        apart = λ r h e. absurd (omega arith);
        weighty = λ r h. absurd (omega arith);
        light = λ r h. absurd (omega arith);
      };
    }

-- ---- ordered

-- what a run laid in two lists
pub ran_along : {L : LinkList} {order order' back back' : List ℕ} → L.nodes ≤ 128 → length order ≡ 128 → length back ≡ 128
    → Ran L all L.nodes 0 order order' back back' → Along L order' back'
ran_along {L} {order} {order'} {back} {back'} few so sb r =
    let o = order_of L 0 in
    let len = length-prefix L all 0 L.nodes in
    let blen = length-listed (length o) (back_at L o) in
    record {
      order_size = ap length r.order_is ∙ length-laid o order (omega (arith, len)) ∙ so;
      back_size = ap length r.back_is ∙ length-laid (backs_of L o) back (omega (arith, len, blen)) ∙ sb;
      order_is = λ p h. ap (λ l. get_or l p 0) r.order_is ∙ get_or-laid_new o order p (omega (arith, len));
      back_is = λ p h.
          ap (λ l. get_or l p 0) r.back_is ∙ get_or-laid_new (backs_of L o) back p (omega (arith, len, blen))
          ∙ get_or-listed (length o) (back_at L o) p (omega (arith, len));
    }
