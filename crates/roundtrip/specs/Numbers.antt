-- Whatever bytes it is given, the reader answers 0 to 14 or 18: each of its checks has one of these numbers, and the first that finds something decides.
use Rattle.std.specs.Prelude.{ℕ, zero, suc, ◌+◌, ◌≡◌, refl, Bool, true, false, not, cond, ◌||◌, ◌&&◌, List, length, get_or, eqb, ltb, leb}
use Rattle.std.proofs.Common.{⊎_elim}
use Rattle.meaning.specs.Numbers.{Check, fine, bad, when, ◌⟫◌, answered, number, file_size, wrong_mark, start_past, nodes_record, row_count, node_count, list_size, end_outside, ends_equal, no_weight, short_room, over_sum}
use Rattle.meaning.specs.Links.{Given, LinkList, list_of, links, row_check, rows_check, bad_nodes, bad_size, list_check}
use Rattle.meaning.specs.File.{Item, broken, nodes_item, row_item, skipped, item_at, Found, Run, ran, stopped, follow, run_from, run_of, trailer_at, start_of, count_of, rows_given, no_room, run_check, file_check}
use Rattle.meaning.specs.Calls.{read_answer}
use Rattle.laws.specs.Bools.{bool_cases}

-- 0 to 14, and 18
abbrev pub reader_number : ℕ → Bool
reader_number num = leb num 14 || eqb num 18

abbrev Known : Check → Type 0
Known fine = Unit
Known (bad num at) = reader_number num ≡ true

known_when : (t : Bool) (num at : ℕ) → reader_number num ≡ true → Known (when t num at)
known_when true num at k = k
known_when false num at k = tt

known_then : (c d : Check) → Known c → Known d → Known (c ⟫ d)
known_then fine d p q = q
known_then (bad num at) d p q = p

known_rows : (L : LinkList) (m : ℕ) → Known (rows_check L m)
unfolding rows_check
known_rows L zero = tt
known_rows L (suc m) =
    let outside = leb L.nodes (L.a m) || leb L.nodes (L.b m) in
    let equal = eqb (L.a m) (L.b m) in
    let light = eqb (L.w m) 0 in
    known_then (rows_check L m) (row_check L m) (known_rows L m)
    (known_then (when outside end_outside m) (when equal ends_equal m ⟫ when light no_weight m) (known_when outside end_outside m refl)
    (known_then (when equal ends_equal m) (when light no_weight m) (known_when equal ends_equal m refl) (known_when light no_weight m refl)))

known_list : (g : Given) (short : Bool) → Known (list_check g short)
unfolding list_check
known_list g short =
    let c₁ = when (bad_nodes g.n) node_count 0 in
    let c₂ = when (bad_size g) list_size 0 in
    let c₃ = when short short_room 0 in
    let c₄ = rows_check (list_of g) (length g.la) in
    let c₅ = when (ltb 4294967295 (links (list_of g))) over_sum 0 in
    known_then c₁ (c₂ ⟫ c₃ ⟫ c₄ ⟫ c₅) (known_when (bad_nodes g.n) node_count 0 refl)
    (known_then c₂ (c₃ ⟫ c₄ ⟫ c₅) (known_when (bad_size g) list_size 0 refl)
    (known_then c₃ (c₄ ⟫ c₅) (known_when short short_room 0 refl) (known_then c₄ c₅ (known_rows (list_of g) (length g.la)) (known_when (ltb 4294967295 (links (list_of g))) over_sum 0 refl))))

-- ---- records

abbrev KnownItem : Item → Type 0
KnownItem (broken num at) = reader_number num ≡ true
KnownItem (nodes_item n to) = Unit
KnownItem (row_item r to) = Unit
KnownItem (skipped to) = Unit

known_pick : (t : Bool) (x y : Item) → KnownItem x → KnownItem y → KnownItem (cond t x y)
known_pick true x y p q = p
known_pick false x y p q = q

known_item : (s : List ℕ) (end at : ℕ) (seen : Bool) → KnownItem (item_at s end at seen)
unfolding item_at
known_item s end at seen =
    let len = get_or s at 0 in
    let kind = get_or s (at + 1) 0 in
    known_pick (ltb len 2) _ _ refl
    (known_pick (ltb end (at + len)) _ _ refl
    (known_pick (leb 128 kind) _ _ tt
    (known_pick (eqb kind 1) _ _ (known_pick (eqb len 4) _ _ (known_pick seen _ _ refl tt) refl)
    (known_pick (eqb kind 2) _ _ (known_pick (eqb len 8) _ _ (known_pick seen _ _ tt refl) refl) refl))))

abbrev KnownRun : Run → Type 0
KnownRun (ran f) = Unit
KnownRun (stopped num at) = reader_number num ≡ true

known_follow : (x : Item) (f : Found) (go : ℕ → Found → Run) → KnownItem x → ((to : ℕ) (g : Found) → KnownRun (go to g)) → KnownRun (follow x f go)
known_follow (broken num at) f go k later = k
known_follow (nodes_item n to) f go k later = later to _
known_follow (row_item r to) f go k later = later to _
known_follow (skipped to) f go k later = later to f

known_run : (turns : ℕ) (s : List ℕ) (end at : ℕ) (f : Found) → KnownRun (run_from turns s end at f)
unfolding run_from
known_run zero s end at f = tt
known_run (suc t) s end at f =
    ⊎_elim
    (λ e. rw e (known_follow (item_at s end at f.seen) f (λ to g. run_from t s end to g) (known_item s end at f.seen) (known_run t s end)))
    (λ e. rw e tt)
    (bool_cases (ltb at end))

known_run_check : (s : List ℕ) (r : Run) (ra rb rc : ℕ) → KnownRun r → Known (run_check s r ra rb rc)
known_run_check s (stopped num at) ra rb rc k = k
known_run_check s (ran f) ra rb rc k =
    let c₁ = when (not f.seen) nodes_record (trailer_at s) in
    let c₂ = when (not (eqb (count_of s) (length f.rows))) row_count 0 in
    let c₃ = list_check (rows_given f) (no_room f ra || no_room f rb || no_room f rc) in
    known_then c₁ (c₂ ⟫ c₃) (known_when (not f.seen) nodes_record (trailer_at s) refl) (known_then c₂ c₃ (known_when (not (eqb (count_of s) (length f.rows))) row_count 0 refl) (known_list (rows_given f) (no_room f ra || no_room f rb || no_room f rc)))

known_file : (s : List ℕ) (ra rb rc : ℕ) → Known (file_check s ra rb rc)
unfolding file_check run_of
known_file s ra rb rc =
    let c₁ = when (ltb (length s) 8 || ltb 32768 (length s)) file_size 0 in
    let c₂ = when (not (eqb (get_or s (trailer_at s + 6) 0) 0x4C && eqb (get_or s (trailer_at s + 7) 0) 0x54)) wrong_mark 0 in
    let c₃ = when (ltb (trailer_at s) (start_of s)) start_past 0 in
    let c₄ = run_check s (run_of s) ra rb rc in
    known_then c₁ (c₂ ⟫ c₃ ⟫ c₄) (known_when (ltb (length s) 8 || ltb 32768 (length s)) file_size 0 refl)
    (known_then c₂ (c₃ ⟫ c₄) (known_when (not (eqb (get_or s (trailer_at s + 6) 0) 0x4C && eqb (get_or s (trailer_at s + 7) 0) 0x54)) wrong_mark 0 refl)
    (known_then c₃ c₄ (known_when (ltb (trailer_at s) (start_of s)) start_past 0 refl) (known_run_check s (run_of s) ra rb rc (known_run (trailer_at s) s (trailer_at s) (start_of s) _))))

known_answer : (c : Check) (fields : List ℕ) → Known c → reader_number (number (answered c fields)) ≡ true
known_answer fine fields k = refl
known_answer (bad num at) fields k = k

pub reader_numbers : (s : List ℕ) (ra rb rc : ℕ) → reader_number (number (read_answer s ra rb rc)) ≡ true
reader_numbers s ra rb rc = known_answer (file_check s ra rb rc) _ (known_file s ra rb rc)
