-- Records stored one after the other lie at the front of the lent bytes, as the file does.
use Prim.Native.Nat.{ℕ, ◌+◌, ◌*◌}
use mathlib.Core.Path.{◌≡◌, refl, sym, ap, ◌∙◌}
use mathlib.Core.List.{List, ◌∷◌, ◌++◌, append_assoc}
use native.Mathlib.Numerals.{add-one}
use native.Mathlib.Omega.{arith}
use lib.ListN.{length, drop, length-append}
use borrow.Rule.Slice.PartMut.{put_mid}
use Rattle.std.proofs.lemmas.List.{take_at, drop_at, drop-drop}
use Rattle.meaning.specs.Sums.{laid}
use Rattle.meaning.specs.Links.{LinkList}
use Rattle.meaning.specs.File.{bytes16, row_bytes, rows_bytes, trailer_bytes, file_of}
use Rattle.roundtrip.specs.Layout.{length_rows}

-- the bytes x, stored after those that are laid
laid_on : (new x old : List ℕ) (at k : ℕ) → length new ≡ at → length x ≡ k → put_mid at k (laid new old) x ≡ laid (new ++ x) old
laid_on new x old at k here all =
    let past : drop (at + k) old ≡ drop (length (new ++ x)) old = rw (length-append new x, here, all) refl in
    rw (take_at new (drop (length new) old) at here, drop_at new (drop (length new) old) at here, here, drop-drop k at old, past, append_assoc new x (drop (length (new ++ x)) old)) refl

-- the kind 1 record and those of the first r rows
abbrev pub begun : LinkList → ℕ → List ℕ
begun L r = 4 ∷ 1 ∷ (bytes16 L.nodes ++ rows_bytes L r)

length_begun : (L : LinkList) (r : ℕ) → length (begun L r) ≡ 4 + 8 * r
length_begun L r = omega (arith, length_rows L r)

-- no row yet
pub begun_none : (L : LinkList) (old : List ℕ) → (4 ∷ 1 ∷ bytes16 L.nodes) ++ drop 4 old ≡ laid (begun L 0) old
unfolding rows_bytes
begun_none L old = refl

-- one row more
pub begun_more : (L : LinkList) (r k : ℕ) (old : List ℕ) → k ≡ 8
    → put_mid (4 + 8 * r) k (laid (begun L r) old) (row_bytes L r) ≡ laid (begun L (r + 1)) old
unfolding rows_bytes
begun_more L r k old eight =
    laid_on (begun L r) (row_bytes L r) old (4 + 8 * r) k (length_begun L r) (sym eight)
    ∙ ap (λ (m : ℕ). laid (begun L m) old) (sym (add-one r))

-- and the trailer: the whole file
pub begun_all : (L : LinkList) (r k : ℕ) (old : List ℕ) → r ≡ L.rows → k ≡ 8
    → put_mid (4 + 8 * L.rows) k (laid (begun L r) old) (trailer_bytes L.rows) ≡ laid (file_of L) old
unfolding file_of
begun_all L r k old all eight =
    ap (λ (m : ℕ). put_mid (4 + 8 * L.rows) k (laid (begun L m) old) (trailer_bytes L.rows)) all
    ∙ laid_on (begun L L.rows) (trailer_bytes L.rows) old (4 + 8 * L.rows) k (length_begun L L.rows) (sym eight)
