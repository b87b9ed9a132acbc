-- Laws of the rounds of the least split: merging as renaming, and the better of two splits.
--
-- In order: `back` after renaming, for a node whose number nobody else takes or leaves (`back-renamed`); after the group gone joined the group keep
-- (`moved`, which `merged` is by definition): cables of keep (`back_keep`), of gone (`back_gone`, `gone_back`) and of the others (`back_other`);
-- the better of two splits is no larger than either, and which two are compared first does not matter (`better_now`, `better-next`,
-- `better_assoc`).
--
-- Each law of `back` is shown for one row, by cases on its ends. Assumes nothing.
use Rattle.std.specs.Prelude.{ℕ, ◌+◌, ◌≤◌, ◌<◌, ◌≡◌, refl, Bool, true, false, ◌||◌, cond, eqb, ltb}
use Rattle.std.proofs.Common.{sym, ap, ◌∙◌, ⊎_elim, arith, eqb-true, eq-eqb, ne_eqb, ltb-true, ltb-false, lt-ltb, le-ltb}
use Rattle.meaning.specs.Links.{LinkList}
use Rattle.meaning.specs.Order.{reach, back}
use Rattle.meaning.specs.Split.{Split, renamed, better}
use Rattle.laws.specs.Bools.{bool_cases, cases_eq, or_right, or-nothing, cond-true, cond-false, eqb_same, eqb_sym}
use Rattle.laws.specs.Sums.{sum_ext, sum-zero}
use Rattle.laws.specs.Rows.{back_ext, back-or, back_sym}

-- ---- renaming

-- the cables of z, where exactly z has the new number z
pub back-renamed : (f : ℕ → ℕ) (L : LinkList) (P : ℕ → Bool) (z : ℕ) → ((x : ℕ) → eqb (f x) z ≡ eqb x z)
    → back (renamed f L) P z ≡ back L (λ v. P (f v)) z
unfolding back
back-renamed f L P z h =
    sum_ext
    L.rows
    (λ r. reach P z (f (L.a r)) (f (L.b r)) (L.w r))
    (λ r. reach (λ v. P (f v)) z (L.a r) (L.b r) (L.w r))
    (λ r l. rw (h (L.a r), h (L.b r)))

-- a number that no node has any more has no cables
pub back_unused : (f : ℕ → ℕ) (L : LinkList) (P : ℕ → Bool) (z : ℕ) → ((x : ℕ) → eqb (f x) z ≡ false) → back (renamed f L) P z ≡ 0
unfolding back
back_unused f L P z h =
    sum-zero L.rows (λ r. reach P z (f (L.a r)) (f (L.b r)) (L.w r)) (λ r l. rw (h (L.a r), h (L.b r)))

-- gone becomes keep
abbrev pub moved : ℕ → ℕ → ℕ → ℕ
moved keep gone t = cond (eqb t gone) keep t

module _ (keep gone : ℕ) (two : keep ≡ gone → ⊥) where
  -- the numbers of the others stay theirs
  moved_other : (z : ℕ) → (z ≡ keep → ⊥) → (z ≡ gone → ⊥) → (x : ℕ) → eqb (moved keep gone x) z ≡ eqb x z
  moved_other z nk ng x =
      ⊎_elim
      (λ e. ap (λ y. eqb y z) (cond-true (eqb x gone) keep x (eq-eqb x gone e)) ∙ ne_eqb keep z (λ q. nk (sym q)) ∙ sym (ne_eqb x z (λ q. ng (sym q ∙ e))))
      (λ ne. ap (λ y. eqb y z) (cond-false (eqb x gone) keep x (ne_eqb x gone ne)))
      (cases_eq x gone)

  -- keep takes both
  moved_keep : (x : ℕ) → eqb keep (moved keep gone x) ≡ (eqb keep x || eqb gone x)
  moved_keep x =
      ⊎_elim
      (λ e.
      ap (eqb keep) (cond-true (eqb x gone) keep x (eq-eqb x gone e)) ∙ eqb_same keep
      ∙ sym (or_right (eqb keep x) (eqb gone x) (eq-eqb gone x (sym e))))
      (λ ne.
      ap (eqb keep) (cond-false (eqb x gone) keep x (ne_eqb x gone ne))
      ∙ sym (ap (λ b. eqb keep x || b) (ne_eqb gone x (λ q. ne (sym q))) ∙ or-nothing (eqb keep x)))
      (cases_eq x gone)

  -- nobody has gone
  moved_gone : (x : ℕ) → eqb (moved keep gone x) gone ≡ false
  moved_gone x =
      ⊎_elim
      (λ e. ap (λ y. eqb y gone) (cond-true (eqb x gone) keep x (eq-eqb x gone e)) ∙ ne_eqb keep gone two)
      (λ ne. ap (λ y. eqb y gone) (cond-false (eqb x gone) keep x (ne_eqb x gone ne)) ∙ ne_eqb x gone ne)
      (cases_eq x gone)

  module _ (L : LinkList) where
    -- the merged group has the cables of both to any third
    pub back_keep : (z : ℕ) → (z ≡ keep → ⊥) → (z ≡ gone → ⊥)
        → back (renamed (moved keep gone) L) (eqb keep) z ≡ back L (eqb keep) z + back L (eqb gone) z
    back_keep z nk ng =
        back-renamed (moved keep gone) L (eqb keep) z (moved_other z nk ng)
        ∙ back_ext L (λ v. eqb keep (moved keep gone v)) (λ v. eqb keep v || eqb gone v) z moved_keep
        ∙ back-or L (eqb keep) (eqb gone) z (λ v e. ne_eqb gone v (λ q. two (eqb-true keep v e ∙ sym q)))

    -- two others keep theirs
    pub back_other : (u z : ℕ) → (u ≡ keep → ⊥) → (u ≡ gone → ⊥) → (z ≡ keep → ⊥) → (z ≡ gone → ⊥)
        → back (renamed (moved keep gone) L) (eqb u) z ≡ back L (eqb u) z
    back_other u z uk ug nk ng =
        back-renamed (moved keep gone) L (eqb u) z (moved_other z nk ng)
        ∙ back_ext L (λ v. eqb u (moved keep gone v)) (eqb u) z (λ v. eqb_sym u (moved keep gone v) ∙ moved_other u uk ug v ∙ eqb_sym v u)

    -- the number that went has none, from either side
    pub back_gone : (z : ℕ) → back (renamed (moved keep gone) L) (eqb z) gone ≡ 0
    back_gone z = back_unused (moved keep gone) L (eqb z) gone moved_gone

    pub gone_back : (z : ℕ) → back (renamed (moved keep gone) L) (eqb gone) z ≡ 0
    gone_back z = back_sym (renamed (moved keep gone) L) gone z ∙ back_gone z

-- ---- the better of two

pub better_now : (now next : Split) → (better now next).value ≤ now.value
better_now now next =
    ⊎_elim
    (λ e. rw e (let h : next.value < now.value = ltb-true next.value now.value e in omega arith))
    (λ e. rw e (omega arith))
    (bool_cases (ltb next.value now.value))

pub better-next : (now next : Split) → (better now next).value ≤ next.value
better-next now next =
    ⊎_elim
    (λ e. rw e (omega arith))
    (λ e. rw e (ltb-false next.value now.value e))
    (bool_cases (ltb next.value now.value))

-- an accumulator may compare as it goes
pub better_assoc : (x y z : Split) → better (better x y) z ≡ better x (better y z)
better_assoc x y z = go (ltb y.value x.value) (ltb z.value y.value) refl refl
  where
    go : (p q : Bool) → ltb y.value x.value ≡ p → ltb z.value y.value ≡ q → better (better x y) z ≡ better x (better y z)
    go true true e f =
        rw (e, f, lt-ltb z.value x.value (omega (arith, ltb-true y.value x.value e, ltb-true z.value y.value f)))
    go true false e f = rw (e, f, e)
    go false true e f = rw (e, f)
    go false false e f =
        rw (e, f, e, le-ltb z.value x.value (omega (arith, ltb-false y.value x.value e, ltb-false z.value y.value f)))
