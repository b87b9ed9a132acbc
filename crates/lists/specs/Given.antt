-- A list of links as `meaning` sees it: what the caller gave, and the rows that it makes.
use Rattle.meaning.specs.Links.{Given, given, LinkList, list_of}
use Rattle.std.specs.Prelude.{◌≡◌}
use Rattle.lists.specs.declared.Links.{Links}
use Rattle.lists.specs.declared.Columns.{Columns}

abbrev pub given_by : Links → Given
given_by l = given l.n l.a.now l.b.now l.w.now

abbrev pub list_by : Links → LinkList
list_by l = list_of (given_by l)

-- three lent lists are the ones that they were: what is written reaches the lists that were lent
abbrev pub SameLists : Columns → Columns → Type 0
SameLists c d = (d.a.ghost_name ≡ c.a.ghost_name) × (d.b.ghost_name ≡ c.b.ghost_name) × (d.w.ghost_name ≡ c.w.ghost_name)
