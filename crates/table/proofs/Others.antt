-- What a step of the order changes, in the definitions: with one node more placed, every other node's cables to the placed grow by its
-- cell of the table, the free nodes are one less, and the back counts one more. A node's cables to the *other* placed nodes have this
-- law whether or not it is placed itself. Each is a case analysis on whether a node is the new one.
use Prim.Native.Nat.{ℕ, ◌+◌}
use mathlib.Core.Path.{◌≡◌, refl, sym, ap, ◌∙◌}
use mathlib.Core.Logic.{⊎_elim}
use mathlib.Core.Bool.{Bool, true, false, not, ◌&&◌, ◌||◌}
use mathlib.Core.List.{List, [], ◌∷◌, ◌++◌}
use native.Mathlib.Numerals.{add-one}
use native.Mathlib.Omega.{arith}
use borrow.Author.Tests.{eqb-true, eq-eqb, ne_eqb}
use lib.ListN.{length, length-append, get_or-append}
use lib.Seq.{take-append-le, take-append_seam, get_or-append_seam}
use lib.Dec.{eqb}
use Rattle.meaning.specs.Sums.{on, has, listed}
use Rattle.meaning.specs.Links.{LinkList}
use Rattle.meaning.specs.Order.{back, back_at, backs_of}
use Rattle.laws.specs.Bools.{cases_eq, true-false, same_test, and-true, and_left, and-false_right, eqb_sym, eqb_same, on-true}
use Rattle.laws.specs.Lists.{has-snoc, listed-suc, listed_ext}
use Rattle.laws.specs.Rows.{back_ext, back-or}
use Rattle.laws.specs.Order.{free}
use Rattle.table.specs.Table.{cell}

-- ---- the cables of v to the others of a list

abbrev pub others : List ℕ → ℕ → ℕ → Bool
others o v u = has o u && not (eqb u v)

pub others_self : (o : List ℕ) (v : ℕ) → others o v v ≡ false
others_self o v = and-false_right (has o v) (not (eqb v v)) (ap not (eqb_same v))

-- of a node that is not in the list: to all of it
pub others-all : (L : LinkList) (o : List ℕ) (v : ℕ) → has o v ≡ false → back L (others o v) v ≡ back L (has o) v
others-all L o v out =
    back_ext L (others o v) (has o) v (λ u.
    same_test (others o v u) (has o u) (and_left (has o u) (not (eqb u v)))
    (λ e. and-true (has o u) (not (eqb u v)) e (ap not (ne_eqb u v (λ q. true-false (has o u) e (ap (has o) q ∙ out))))))

-- with one node more: as before where it is v itself, else with it
others-kept : (o : List ℕ) (x v u : ℕ) → x ≡ v → others (o ++ (x ∷ [])) v u ≡ others o v u
others-kept o x v u e = rw has-snoc (go (has o u) (eqb x u) (not (eqb u v)) (λ q. ap not (eq-eqb u v (sym (eqb-true x u q) ∙ e))))
  where
    go : (h e n : Bool) → (e ≡ true → n ≡ false) → (h || e) && n ≡ h && n
    go true e n f = refl
    go false true n f = f refl
    go false false n f = refl

others_with : (o : List ℕ) (x v u : ℕ) → (x ≡ v → ⊥) → others (o ++ (x ∷ [])) v u ≡ others o v u || eqb x u
others_with o x v u ne =
    rw has-snoc (go (has o u) (eqb x u) (not (eqb u v)) (λ q. ap not (ne_eqb u v (λ t. ne (eqb-true x u q ∙ t)))))
  where
    go : (h e n : Bool) → (e ≡ true → n ≡ true) → (h || e) && n ≡ (h && n) || e
    go true true true f = refl
    go true true false f = f refl
    go true false true f = refl
    go true false false f = refl
    go false true n f = f refl
    go false false n f = refl

pub others_more : (L : LinkList) (o : List ℕ) (x v : ℕ) → has o x ≡ false
    → back L (others (o ++ (x ∷ [])) v) v ≡ back L (others o v) v + cell L x v
others_more L o x v out =
    ⊎_elim
    (λ e. rw (eq-eqb x v e) (back_ext L _ (others o v) v (λ u. others-kept o x v u e) ∙ omega arith))
    (λ ne.
    rw (ne_eqb x v ne)
    (back_ext L _ (λ u. others o v u || eqb x u) v (λ u. others_with o x v u ne)
    ∙ back-or L (others o v) (eqb x) v (λ u e.
    ne_eqb x u (λ q. true-false (has o u) (and_left (has o u) (not (eqb u v)) e) (ap (has o) (sym q) ∙ out)))))
    (cases_eq x v)

-- ---- the free nodes, one less

pub free_more : (live : ℕ → Bool) (o : List ℕ) (x v c : ℕ) → free live o x ≡ true
    → on (free live o v) c ≡ on (free live (o ++ (x ∷ [])) v) c + on (eqb v x) c
free_more live o x v c f =
    rw (has-snoc o x v, eqb_sym x v) (go (live v) (has o v) (eqb v x) (λ e. ap (free live o) (eqb-true v x e) ∙ f))
  where
    go : (l h e : Bool) → (e ≡ true → l && not h ≡ true) → on (l && not h) c ≡ on (l && not (h || e)) c + on e c
    go l h true q = on-true (l && not h) c (q refl) ∙ none l h
      where
        none : (l h : Bool) → c ≡ on (l && not (h || true)) c + c
        none true true = omega arith
        none true false = omega arith
        none false h = omega arith
    go true true false q = refl
    go true false false q = omega arith
    go false h false q = refl

-- ---- back counts, one more

pub backs_snoc : (L : LinkList) (o : List ℕ) (x : ℕ) → backs_of L (o ++ (x ∷ [])) ≡ backs_of L o ++ (back L (has o) x ∷ [])
backs_snoc L o x =
    let o' = o ++ (x ∷ []) in
    ap (λ n. listed n (back_at L o')) (length-append o (x ∷ []) ∙ add-one (length o))
    ∙ listed-suc (length o) (back_at L o')
    ∙ ap (λ l. l ++ (back_at L o' (length o) ∷ [])) (listed_ext (length o) (back_at L o') (back_at L o) (λ i h.
    rw (take-append-le i o (x ∷ []) (omega arith), get_or-append o (x ∷ []) 0 i h)))
    ∙ rw (take-append_seam o (x ∷ []), get_or-append_seam o x [] 0)
