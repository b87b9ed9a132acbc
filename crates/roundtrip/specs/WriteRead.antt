-- `read` after `write`, from what the two calls promise. Where the writer answers a size, its checks found nothing and that many bytes at the front are the
-- list's file; so the reader's checks find nothing in them either, and what it lays into the lent lists is the list.
use Rattle.std.specs.Prelude.{Result, Ok, ℕ, ◌≤◌, ◌≡◌, refl, Bool, false, List, [], ◌∷◌, length, take, drop, ltb}
use Rattle.std.proofs.Common.{sym, ◌∙◌, arith, take_at}
use Rattle.std.proofs.Math.Path.{ap}
use Rattle.meaning.specs.Sums.{laid}
use Rattle.meaning.specs.Numbers.{Check, fine, bad, answered, after}
use Rattle.meaning.specs.Links.{Given, list_of, list_check}
use Rattle.meaning.specs.File.{file_of, file_bytes, file_check, list_in}
use Rattle.meaning.specs.Calls.{write_check}
use Rattle.laws.specs.Accept.{Words, check_fine}
use Rattle.answers.specs.declared.Refusal.{Refusal}
use Rattle.answers.specs.declared.Found.{Found}
use Rattle.answers.specs.Unique.{found_unique}
use Rattle.answers.specs.Paper.{wrote_paper}
use Rattle.roundtrip.specs.Promises.{Writes, Reads}
use Rattle.roundtrip.specs.Layout.{length_file}
use Rattle.roundtrip.specs.RoundTrip.{list_back, check_back}

-- the list comes back: the answer is its n and its number of rows, and the lent lists hold it at their front
pub record Back (g : Given) (a₀ b₀ w₀ : List ℕ) (r : Result Found Refusal) (a b w : List ℕ) : Type 0 where
  pub rows : r ≡ Ok (record { n = g.n; rows = length g.la })
  pub in_a : a ≡ laid g.la a₀
  pub in_b : b ≡ laid g.lb b₀
  pub in_w : w ≡ laid g.lw w₀

-- ---- a size is answered where the checks found nothing

size_fine : (c : Check) (size m : ℕ) → wrote_paper (Ok m) ≡ answered c (size ∷ []) → c ≡ fine
size_fine fine size m e = refl
size_fine (bad num at) size m e = absurd (let z : ◌≡◌ {A = ℕ} 0 1 = cc in omega arith)

size_is : (c : Check) (size m : ℕ) → wrote_paper (Ok m) ≡ answered c (size ∷ []) → m ≡ size
size_is fine size m e = cc
size_is (bad num at) size m e = absurd (let z : ◌≡◌ {A = ℕ} 0 1 = cc in omega arith)

module _ {g : Given} {old new : List ℕ} {m : ℕ} (wrote : Writes g old (Ok m) new) where
  short : Bool
  short = ltb (length old) (file_bytes (length g.la))

  wrote_fine : write_check g (length old) ≡ fine
  wrote_fine = size_fine (write_check g (length old)) (file_bytes (length g.la)) m wrote.answer

  -- the list passes its checks, with room or without
  pub wrote_list : list_check g false ≡ fine
  unfolding short
  wrote_list = ap (list_check g) (sym (check_fine g short wrote_fine).room_good) ∙ wrote_fine

  -- the bytes written are the list's file
  pub wrote_file : take m new ≡ file_of (list_of g)
  wrote_file =
      let size : m ≡ file_bytes (length g.la) = size_is (write_check g (length old)) (file_bytes (length g.la)) m wrote.answer in
      let laid-new : new ≡ laid (file_of (list_of g)) old = wrote.leaves ∙ ap (λ c. after c (file_of (list_of g)) old) wrote_fine in
      ap (take m) laid-new ∙ take_at (file_of (list_of g)) (drop (length (file_of (list_of g))) old) m (length_file (list_of g) ∙ sym size)

-- reading what was written gives back the list
pub write_read : {g : Given} {old new : List ℕ} {m : ℕ} {a₀ b₀ w₀ a b w : List ℕ} {r : Result Found Refusal} → Words g
    → Writes g old (Ok m) new → Reads (take m new) a₀ b₀ w₀ r a b w
    → length g.la ≤ length a₀ → length g.la ≤ length b₀ → length g.la ≤ length w₀ → Back g a₀ b₀ w₀ r a b w
write_read {g} {old} {new} {m} {a₀} {b₀} {w₀} {a} {b} {w} {r} words wrote got ra rb rc =
    let s = take m new in
    let ok = wrote_list wrote in
    let file : s ≡ file_of (list_of g) = wrote_file wrote in
    let checks : file_check s (length a₀) (length b₀) (length w₀) ≡ fine =
    ap (λ t. file_check t (length a₀) (length b₀) (length w₀)) file ∙ check_back g words ok (length a₀) (length b₀) (length w₀) ra rb rc in
    let list : list_in s ≡ g = ap list_in file ∙ list_back g words ok in
    record {
      rows =
          found_unique r (Ok (record { n = g.n; rows = length g.la }))
          (got.answer
          ∙ ap (λ c. answered c ((list_in s).n ∷ length (list_in s).la ∷ [])) checks
          ∙ ap (λ h. answered fine (h.n ∷ length h.la ∷ [])) list);
      in_a = got.leaves_a ∙ ap (λ c. after c (list_in s).la a₀) checks ∙ ap (λ h. laid h.la a₀) list;
      in_b = got.leaves_b ∙ ap (λ c. after c (list_in s).lb b₀) checks ∙ ap (λ h. laid h.lb b₀) list;
      in_w = got.leaves_w ∙ ap (λ c. after c (list_in s).lw w₀) checks ∙ ap (λ h. laid h.lw w₀) list;
    }
