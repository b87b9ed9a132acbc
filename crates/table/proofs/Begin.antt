-- An accepted list has all that `fill` asks of its rows, and with its table and a mark in each score `run` may begin from node 0. A list that
-- passed its checks is accepted.
use Prim.Native.Nat.{ℕ, ◌<◌}
use mathlib.Core.Path.{◌≡◌, refl, sym}
use mathlib.Core.Bool.{false}
use mathlib.Core.List.{List}
use native.Mathlib.Omega.{arith}
use lib.ListN.{length, get_or}
use Rattle.std.proofs.Common.{replicate}
use Rattle.std.proofs.lemmas.List.{get_or-replicate}
use Rattle.meaning.specs.Numbers.{fine}
use Rattle.meaning.specs.Links.{Given, LinkList, list_of, list_check, Accepted}
use Rattle.meaning.specs.Order.{all}
use Rattle.laws.specs.Accept.{Even, Words, fine_accepted, size_even, check_fine}
use Rattle.laws.specs.Order.{size_all}
use Rattle.table.specs.Table.{mark, Holds, Rows, Ready}

pub accepted_rows : (g : Given) → Accepted (list_of g) → Even g → Rows g.la g.lb g.lw
accepted_rows g acc even =
    record {
      same_b = sym even.as_b;
      same_w = sym even.as_w;
      few = acc.few_rows;
      a_inside = λ r h. omega (arith, acc.a_inside r h, acc.few_nodes);
      b_inside = λ r h. omega (arith, acc.b_inside r h, acc.few_nodes);
      apart = acc.apart;
    }

pub accepted_ready : (L : LinkList) (m score : List ℕ) → Accepted L → Holds L m → length score ≡ 128
    → ((v : ℕ) → v < 128 → get_or score v 0 ≡ mark) → Ready L all L.nodes L.nodes 0 m score
accepted_ready L m score acc holds size marks =
    record {
      table = holds;
      few_rows = acc.few_rows;
      light = acc.light;
      nodes = refl;
      few_nodes = acc.few_nodes;
      inside = acc.some_node;
      start_live = refl;
      count_live = size_all L.nodes;
      size = size;
      marks = λ v h. marks v (omega (arith, acc.few_nodes));
    }

module _ (g : Given) (words : Words g) (passes : list_check g false ≡ fine) where
  passed_accepted : Accepted (list_of g)
  passed_accepted = fine_accepted g false words passes

  pub passed_rows : Rows g.la g.lb g.lw
  passed_rows = accepted_rows g passed_accepted (size_even g (check_fine g false passes).size_good)

  -- on a table of its own, with all nodes free
  pub passed_ready : (m : List ℕ) → Holds (list_of g) m → Ready (list_of g) all g.n g.n 0 m (replicate 128 mark)
  passed_ready m holds =
      accepted_ready (list_of g) m (replicate 128 mark) passed_accepted holds refl (λ v h. get_or-replicate 128 v mark 0 h)
