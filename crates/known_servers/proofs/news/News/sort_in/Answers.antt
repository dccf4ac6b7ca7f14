use Rattle.std.proofs.Common.{ℕ, ◌++◌, List, ap, sym, ◌∙◌, arith}
use Rattle.std.specs.Prelude.{nat_eq}
use Rattle.std.specs.Map.{lookup}
use Rattle.cell_values.specs.declared.values.Value.{Value}
use Rattle.known_servers.proofs.Sorting.{sorted_in}
use Rattle.known_servers.proofs.news.News.sort_in.Goals as goal

pub loop-id-preserved : goal.loop-id-preserved
loop-id-preserved c = record {
  same = λ q. sorted_in c.pop.new.self.items c.loop-id.self-inside.sorted.entries c.put.new.sorted.entries c.in-Some.id c.in-Some.value c.put.ensures.value q
      ∙ ap (λ (g : List (ℕ × Value)). lookup (nat_eq q) (g ++ c.loop-id.self-inside.sorted.entries)) (sym c.in-Some.ensures.items)
      ∙ c.loop-id.invariant.same q;
  room = omega (arith, c.in-Some.ensures.cases, c.put.ensures.room);
}
