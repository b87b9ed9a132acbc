-- The checks of a list against the limits of an accepted one.
--
-- In order: checks one after the other (`then_assoc`); what a check that found nothing says of its parts (`when_fine`, `then_left`, `then_right`, and back); `Words`, that all numbers
-- given are 16-bit numbers, as they always are; what the counts say (`nodes_limit`, `size_even`, `size_limit`); `fine_accepted`: a list in which
-- the checks find nothing is accepted; `links_most`: its cables are at most 134,215,680, so that number 18 is never found (`never_over`);
-- `accepted_fine`: in an accepted list given in lists of equal length the checks find nothing.
--
-- Each check is a test, so what it finds is decided by the fact behind the test. Assumes nothing.
use Rattle.std.specs.Prelude.{ℕ, zero, suc, ◌≤◌, ◌<◌, ◌≡◌, refl, Bool, true, false, not, ◌||◌, length, get_or, eqb, ltb, leb}
use Rattle.std.proofs.Common.{sym, ap, ◌∙◌, ⊎_elim, arith, mul-le-mul_right, eqb-true, eq-eqb, ne_eqb, ltb-false, le-ltb, leb-false}
use Rattle.std.proofs.lemmas.Bool.{eqb-false, lt-leb, not-false}
use Rattle.meaning.specs.Numbers.{Check, fine, bad, when, ◌⟫◌, node_count, list_size, end_outside, ends_equal, no_weight, short_room, over_sum}
use Rattle.meaning.specs.Links.{Given, LinkList, list_of, links, row_check, rows_check, bad_nodes, bad_size, list_check, Accepted}
use Rattle.laws.specs.Bools.{true-false, cases_eq, or-false, or-false_left, or-false_right}
use Rattle.laws.specs.Sums.{sum_most}

-- ---- checks

-- checks one after the other, in whatever groups
pub then_assoc : (c d e : Check) → (c ⟫ d) ⟫ e ≡ c ⟫ (d ⟫ e)
then_assoc fine d e = refl
then_assoc (bad num at) d e = refl

-- a finding is not nothing
pub bad_fine {ℓ} : {A : Type ℓ} {num at : ℕ} → bad num at ≡ fine → A
bad_fine e = absurd (let z : ◌≡◌ {A = ℕ} 0 1 = cc in omega arith)

pub when_fine : (t : Bool) (num at : ℕ) → when t num at ≡ fine → t ≡ false
when_fine true num at e = bad_fine e
when_fine false num at e = refl

pub fine_when : (t : Bool) (num at : ℕ) → t ≡ false → when t num at ≡ fine
fine_when true num at e = true-false true refl e
fine_when false num at e = refl

pub then_left : (c d : Check) → (c ⟫ d) ≡ fine → c ≡ fine
then_left fine d e = refl
then_left (bad num at) d e = e

pub then_right : (c d : Check) → (c ⟫ d) ≡ fine → d ≡ fine
then_right fine d e = e
then_right (bad num at) d e = bad_fine e

pub then_fine : (c d : Check) → c ≡ fine → d ≡ fine → (c ⟫ d) ≡ fine
then_fine fine d e f = f
then_fine (bad num at) d e f = e

-- ---- rows

pub rows_check-suc : (L : LinkList) (m : ℕ) → rows_check L (suc m) ≡ (rows_check L m ⟫ row_check L m)
unfolding rows_check
rows_check-suc L m = refl

-- the rows are fine exactly when each of them is
pub rows_fine : (L : LinkList) (m : ℕ) → rows_check L m ≡ fine → (r : ℕ) → r < m → row_check L r ≡ fine
rows_fine L zero e r h = absurd (omega arith)
rows_fine L (suc m) e r h =
    let both : (rows_check L m ⟫ row_check L m) ≡ fine = sym (rows_check-suc L m) ∙ e in
    ⊎_elim
    (λ q. ap (row_check L) q ∙ then_right (rows_check L m) (row_check L m) both)
    (λ ne. rows_fine L m (then_left (rows_check L m) (row_check L m) both) r (omega arith))
    (cases_eq r m)

pub fine_rows : (L : LinkList) (m : ℕ) → ((r : ℕ) → r < m → row_check L r ≡ fine) → rows_check L m ≡ fine
unfolding rows_check
fine_rows L zero h = refl
fine_rows L (suc m) h = then_fine (rows_check L m) (row_check L m) (fine_rows L m (λ r l. h r (omega arith))) (h m (omega arith))

-- a good row: ends inside and apart, some weight
pub record GoodRow (L : LinkList) (r : ℕ) : Type 0 where
  pub a_in : L.a r < L.nodes
  pub b_in : L.b r < L.nodes
  pub ends_apart : L.a r ≡ L.b r → ⊥
  pub some_weight : 1 ≤ L.w r

module _ (L : LinkList) (r : ℕ) where
  pub row_good : row_check L r ≡ fine → GoodRow L r
  row_good e =
      let c₁ = when (leb L.nodes (L.a r) || leb L.nodes (L.b r)) end_outside r in
      let c₂ = when (eqb (L.a r) (L.b r)) ends_equal r in
      let c₃ = when (eqb (L.w r) 0) no_weight r in
      let e₁ : (leb L.nodes (L.a r) || leb L.nodes (L.b r)) ≡ false =
      when_fine (leb L.nodes (L.a r) || leb L.nodes (L.b r)) end_outside r (then_left c₁ (c₂ ⟫ c₃) e) in
      let e₂ : (c₂ ⟫ c₃) ≡ fine = then_right c₁ (c₂ ⟫ c₃) e in
      record {
        a_in = leb-false L.nodes (L.a r) (or-false_left (leb L.nodes (L.a r)) (leb L.nodes (L.b r)) e₁);
        b_in = leb-false L.nodes (L.b r) (or-false_right (leb L.nodes (L.a r)) (leb L.nodes (L.b r)) e₁);
        ends_apart = eqb-false (L.a r) (L.b r) (when_fine (eqb (L.a r) (L.b r)) ends_equal r (then_left c₂ c₃ e₂));
        some_weight =
            let ne : L.w r ≡ 0 → ⊥ = eqb-false (L.w r) 0 (when_fine (eqb (L.w r) 0) no_weight r (then_right c₂ c₃ e₂)) in
            omega arith;
      }

  pub good_row : GoodRow L r → row_check L r ≡ fine
  good_row c =
      then_fine
      (when (leb L.nodes (L.a r) || leb L.nodes (L.b r)) end_outside r)
      (when (eqb (L.a r) (L.b r)) ends_equal r ⟫ when (eqb (L.w r) 0) no_weight r)
      (fine_when
      (leb L.nodes (L.a r) || leb L.nodes (L.b r))
      end_outside
      r
      (or-false (leb L.nodes (L.a r)) (leb L.nodes (L.b r)) (lt-leb L.nodes (L.a r) c.a_in) (lt-leb L.nodes (L.b r) c.b_in)))
      (then_fine
      (when (eqb (L.a r) (L.b r)) ends_equal r)
      (when (eqb (L.w r) 0) no_weight r)
      (fine_when (eqb (L.a r) (L.b r)) ends_equal r (ne_eqb (L.a r) (L.b r) c.ends_apart))
      (fine_when (eqb (L.w r) 0) no_weight r (ne_eqb (L.w r) 0 (λ z. omega (arith, c.some_weight)))))

-- ---- the whole list

-- the weights given are 16-bit numbers
abbrev pub Words : Given → Type 0
Words g = (r : ℕ) → r < length g.lw → get_or g.lw r 0 ≤ 65535

-- three lists of one length
pub record Even (g : Given) : Type 0 where
  pub as_b : length g.la ≡ length g.lb
  pub as_w : length g.la ≡ length g.lw

-- lengths that are not uneven are equal
pub even_lengths : (x y z : ℕ) → (not (eqb x y) || not (eqb x z)) ≡ false → (x ≡ y) × (x ≡ z)
even_lengths x y z e =
    (eqb-true x y (not-false (eqb x y) (or-false_left _ _ e)), eqb-true x z (not-false (eqb x z) (or-false_right (not (eqb x y)) _ e)))

-- what the counts say where their checks find nothing
pub nodes_limit : (n : ℕ) → bad_nodes n ≡ false → (1 ≤ n) × (n ≤ 128)
nodes_limit n e = (omega (arith, eqb-false n 0 (or-false_left (eqb n 0) _ e)), ltb-false 128 n (or-false_right (eqb n 0) _ e))

pub size_even : (g : Given) → bad_size g ≡ false → Even g
size_even g e =
    let same = even_lengths (length g.la) (length g.lb) (length g.lw) (or-false_left _ _ e) in
    record { as_b = same.0; as_w = same.1 }

pub size_limit : (g : Given) → bad_size g ≡ false → length g.la ≤ 2048
size_limit g e = ltb-false 2048 (length g.la) (or-false_right (not (eqb (length g.la) (length g.lb)) || not (eqb (length g.la) (length g.lw))) _ e)

module _ (g : Given) (short : Bool) where
  -- what the checks in their order leave
  pub record AllFine : Type 0 where
    pub nodes_good : bad_nodes g.n ≡ false
    pub size_good : bad_size g ≡ false
    pub room_good : short ≡ false
    pub rows_good : rows_check (list_of g) (length g.la) ≡ fine
    pub sum_good : ltb 4294967295 (links (list_of g)) ≡ false

  pub check_fine : list_check g short ≡ fine → AllFine
  unfolding list_check
  check_fine e =
      let c₁ = when (bad_nodes g.n) node_count 0 in
      let c₂ = when (bad_size g) list_size 0 in
      let c₃ = when short short_room 0 in
      let c₄ = rows_check (list_of g) (length g.la) in
      let c₅ = when (ltb 4294967295 (links (list_of g))) over_sum 0 in
      let e₂ : (c₂ ⟫ c₃ ⟫ c₄ ⟫ c₅) ≡ fine = then_right c₁ (c₂ ⟫ c₃ ⟫ c₄ ⟫ c₅) e in
      let e₃ : (c₃ ⟫ c₄ ⟫ c₅) ≡ fine = then_right c₂ (c₃ ⟫ c₄ ⟫ c₅) e₂ in
      let e₄ : (c₄ ⟫ c₅) ≡ fine = then_right c₃ (c₄ ⟫ c₅) e₃ in
      record {
        nodes_good = when_fine (bad_nodes g.n) node_count 0 (then_left c₁ (c₂ ⟫ c₃ ⟫ c₄ ⟫ c₅) e);
        size_good = when_fine (bad_size g) list_size 0 (then_left c₂ (c₃ ⟫ c₄ ⟫ c₅) e₂);
        room_good = when_fine short short_room 0 (then_left c₃ (c₄ ⟫ c₅) e₃);
        rows_good = then_left c₄ c₅ e₄;
        sum_good = when_fine (ltb 4294967295 (links (list_of g))) over_sum 0 (then_right c₄ c₅ e₄);
      }

  pub fine_check : AllFine → list_check g short ≡ fine
  unfolding list_check
  fine_check c =
      let c₁ = when (bad_nodes g.n) node_count 0 in
      let c₂ = when (bad_size g) list_size 0 in
      let c₃ = when short short_room 0 in
      let c₄ = rows_check (list_of g) (length g.la) in
      let c₅ = when (ltb 4294967295 (links (list_of g))) over_sum 0 in
      then_fine c₁ (c₂ ⟫ c₃ ⟫ c₄ ⟫ c₅) (fine_when (bad_nodes g.n) node_count 0 c.nodes_good)
      (then_fine c₂ (c₃ ⟫ c₄ ⟫ c₅) (fine_when (bad_size g) list_size 0 c.size_good)
      (then_fine c₃ (c₄ ⟫ c₅) (fine_when short short_room 0 c.room_good)
      (then_fine c₄ c₅ c.rows_good (fine_when (ltb 4294967295 (links (list_of g))) over_sum 0 c.sum_good))))

-- the limits of an accepted list, from its checks but the sum's
pub good_accepted : (g : Given) → Words g → bad_nodes g.n ≡ false → bad_size g ≡ false → rows_check (list_of g) (length g.la) ≡ fine
    → Accepted (list_of g)
good_accepted g words nodes size rows =
    let row : (r : ℕ) → r < length g.la → GoodRow (list_of g) r = λ r l. row_good (list_of g) r (rows_fine (list_of g) (length g.la) rows r l) in
    record {
      some_node = (nodes_limit g.n nodes).0;
      few_nodes = (nodes_limit g.n nodes).1;
      few_rows = size_limit g size;
      a_inside = λ r l. (row r l).a_in;
      b_inside = λ r l. (row r l).b_in;
      apart = λ r l. (row r l).ends_apart;
      weighty = λ r l. (row r l).some_weight;
      light = λ r l. words r (omega (arith, (size_even g size).as_w));
    }

-- a list of 16-bit numbers in which the checks find nothing is accepted
pub fine_accepted : (g : Given) (short : Bool) → Words g → list_check g short ≡ fine → Accepted (list_of g)
fine_accepted g short words e =
    let c : AllFine g short = check_fine g short e in good_accepted g words c.nodes_good c.size_good c.rows_good

-- the cables of an accepted list: at most 2,048 rows of at most 65,535
pub links_most : (L : LinkList) → Accepted L → links L ≤ 134215680
links_most L acc =
    omega (arith, sum_most L.rows L.w 65535 acc.light, mul-le-mul_right 65535 acc.few_rows)

-- so 18 is never found
pub never_over : (L : LinkList) → Accepted L → ltb 4294967295 (links L) ≡ false
never_over L acc = le-ltb 4294967295 (links L) (omega (arith, links_most L acc))

-- in an accepted list the checks find nothing
pub accepted_fine : (g : Given) → Accepted (list_of g) → Even g → list_check g false ≡ fine
accepted_fine g acc even =
    let A = length g.la in
    fine_check g false
    (record {
      nodes_good = or-false (eqb g.n 0) (ltb 128 g.n) (ne_eqb g.n 0 (λ z. omega (arith, acc.some_node))) (le-ltb 128 g.n acc.few_nodes);
      size_good =
          or-false
          (not (eqb A (length g.lb)) || not (eqb A (length g.lw)))
          (ltb 2048 A)
          (or-false
          (not (eqb A (length g.lb)))
          (not (eqb A (length g.lw)))
          (ap not (eq-eqb A (length g.lb) even.as_b))
          (ap not (eq-eqb A (length g.lw) even.as_w)))
          (le-ltb 2048 A acc.few_rows);
      room_good = refl;
      rows_good =
          fine_rows
          (list_of g)
          A
          (λ r l. good_row (list_of g) r (record { a_in = acc.a_inside r l; b_in = acc.b_inside r l; ends_apart = acc.apart r l; some_weight = acc.weighty r l }));
      sum_good = never_over (list_of g) acc;
    })
