-- The parts of a list's checks, as far as each is known before the list stands in its three columns.
use Rattle.std.specs.Prelude.{ℕ, Bool, not, ◌||◌, length, eqb, ltb, leb}
use Rattle.meaning.specs.Numbers.{Check, when, ◌⟫◌, node_count, list_size, end_outside, ends_equal, no_weight, short_room, over_sum}
use Rattle.meaning.specs.Links.{Given, LinkList, links, rows_check, bad_nodes}

-- the three columns are not equally long
abbrev pub uneven : Given → Bool
uneven g = not (eqb (length g.la) (length g.lb)) || not (eqb (length g.la) (length g.lw))

-- 9, 10 and 14, by the counts
abbrev pub size_check : ℕ → ℕ → Bool → Bool → Check
size_check n rows apart short =
    when (bad_nodes n) node_count 0 ⟫ when (apart || ltb 2048 rows) list_size 0 ⟫ when short short_room 0

-- 11, 12 and 13, by a row's numbers
abbrev pub row_numbers : ℕ → ℕ → ℕ → ℕ → ℕ → Check
row_numbers n r a b w =
    when (leb n a || leb n b) end_outside r ⟫ when (eqb a b) ends_equal r ⟫ when (eqb w 0) no_weight r

-- 18, by the sum of the weights
abbrev pub sum_check : ℕ → Check
sum_check sum = when (ltb 4294967295 sum) over_sum 0

-- what is left after the counts: the rows, then 18
abbrev pub rest_check : LinkList → Check
rest_check L = rows_check L L.rows ⟫ sum_check (links L)

-- one of three lent lists has no place for each row
abbrev pub any_short : ℕ → ℕ → ℕ → ℕ → Bool
any_short rows ra rb rw = ltb ra rows || ltb rb rows || ltb rw rows
