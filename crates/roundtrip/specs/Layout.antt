-- Which byte stands where in the file of a list: four bytes of the kind 1 record, eight of each row, eight of the trailer. Rows are laid one after the other,
-- so byte j of row r is byte 4 + 8 r + j of the file.
use Prim.Native.Nat.{ℕ, zero, suc, ◌+◌, ◌*◌, ◌<◌}
use Rattle.std.specs.Prelude.{◌≡◌, ◌∷◌, ◌++◌}
use Rattle.std.proofs.Math.Path.{refl, ap}
use Rattle.std.proofs.Common.{sym, ◌∙◌}
use Rattle.std.proofs.Math.Logic.{⊎_elim}
use native.Mathlib.Omega.{arith}
use Rattle.std.proofs.Math.ListN.{length, get_or, length-append, get_or-append}
use Rattle.std.proofs.Math.Seq.{get_or-append-add}
use Rattle.meaning.specs.Links.{LinkList}
use Rattle.meaning.specs.File.{bytes16, row_bytes, rows_bytes, trailer_bytes, file_of, trailer_at}
use Rattle.laws.specs.Bools.{cases_lt}

module _ (L : LinkList) where
  pub length_rows : (m : ℕ) → length (rows_bytes L m) ≡ 8 * m
  unfolding rows_bytes
  length_rows zero = refl
  length_rows (suc m) = omega (arith, length-append (rows_bytes L m) (row_bytes L m), length_rows m)

  pub length_file : length (file_of L) ≡ 12 + 8 * L.rows
  unfolding file_of
  length_file = omega (arith, length-append (rows_bytes L L.rows) (trailer_bytes L.rows), length_rows L.rows)

  pub trailer_place : trailer_at (file_of L) ≡ 4 + 8 * L.rows
  trailer_place = omega (arith, length_file)

  rows_byte : (m r j : ℕ) → r < m → j < 8 → get_or (rows_bytes L m) (8 * r + j) 0 ≡ get_or (row_bytes L r) j 0
  unfolding rows_bytes
  rows_byte zero r j h k = absurd (omega arith)
  rows_byte (suc m) r j h k =
      ⊎_elim
      (λ before. get_or-append (rows_bytes L m) (row_bytes L m) 0 (8 * r + j) (omega (arith, length_rows m)) ∙ rows_byte m r j before k)
      (λ from.
      let here : r ≡ m = omega arith in
      let place : 8 * r + j ≡ length (rows_bytes L m) + j = omega (arith, length_rows m) in
      ap (λ i. get_or (rows_bytes L m ++ row_bytes L m) i 0) place
      ∙ get_or-append-add (rows_bytes L m) (row_bytes L m) j 0
      ∙ ap (λ q. get_or (row_bytes L q) j 0) (sym here))
      (cases_lt r m)

  -- past the kind 1 record
  later_byte : (k : ℕ) → get_or (file_of L) (4 + k) 0 ≡ get_or (rows_bytes L L.rows ++ trailer_bytes L.rows) k 0
  unfolding file_of
  later_byte k = get_or-append-add (4 ∷ 1 ∷ bytes16 L.nodes) (rows_bytes L L.rows ++ trailer_bytes L.rows) k 0

  -- byte j of row r
  pub row_byte : (r j i : ℕ) → r < L.rows → j < 8 → i ≡ 4 + (8 * r + j) → get_or (file_of L) i 0 ≡ get_or (row_bytes L r) j 0
  row_byte r j i h k e =
      rw (e, later_byte)
      (get_or-append (rows_bytes L L.rows) (trailer_bytes L.rows) 0 (8 * r + j) (omega (arith, length_rows L.rows)) ∙ rows_byte L.rows r j h k)

  -- byte j of the trailer
  pub trailer_byte : (j i : ℕ) → i ≡ 4 + (8 * L.rows + j) → get_or (file_of L) i 0 ≡ get_or (trailer_bytes L.rows) j 0
  trailer_byte j i e =
      let place : i ≡ 4 + (length (rows_bytes L L.rows) + j) = omega (arith, length_rows L.rows) in
      rw (place, later_byte, get_or-append-add)
