use Rattle.std.proofs.Common.{◌≡◌, ◌||◌, true, cond, Some, is_some, ap, sym, subst, ◌∙◌}
use Rattle.std.specs.Map.{lookup}
use Rattle.rtd_server.specs.Board.{is_fresh_at, opening_at, published_at}
use Rattle.rtd_server.specs.Strings.{Strings, same_strings}
use Rattle.rtd_server.proofs.Published.{fresh-where_noted, opening-where_new, opening-where_noted}
use Rattle.rtd_server.proofs.boards.Board.publish.Goals as goal

pub returns-then-not-contains_key-clause-published : goal.returns-then-not-contains_key-clause-published
returns-then-not-contains_key-clause-published c s =
    c.in-Ok.ensures.updates.0 s ∙ ap (λ board. cond (same_strings c.args.strings s) (Some c.args.value) (published_at board s)) c.self.view_is

pub returns-then-not-contains_key-clause-opening : goal.returns-then-not-contains_key-clause-opening
returns-then-not-contains_key-clause-opening c s =
    let values = c.self.inside.values.entries in
    let before = c.self.inside.before.entries in
    let puts = subst (λ t. (q : Strings) → lookup (same_strings q) c.insert.new.self.entries ≡ cond (same_strings t q) (Some c.args.value) (lookup (same_strings q) values)) (sym c.requires.copy) c.in-Ok.ensures.updates.0 in
    let is = subst (λ t. c.in-Ok.old ≡ lookup (same_strings t) values) (sym c.requires.copy) c.in-Ok.ensures.old in
    opening-where_new (λ q. lookup (same_strings q) before) (λ q. lookup (same_strings q) c.note.new.before.entries) (λ q. lookup (same_strings q) values) (λ q. lookup (same_strings q) c.insert.new.self.entries)
    c.in-Ok.old (Some c.args.value) c.args.copy c.if-not-contains_key.ensures is puts c.note.ensures s
    ∙ ap (λ board. opening_at board s) c.self.view_is

pub returns-else-not-contains_key-clause-opening : goal.returns-else-not-contains_key-clause-opening
returns-else-not-contains_key-clause-opening c s =
    let values = c.self.inside.values.entries in
    let before = c.self.inside.before.entries in
    let noted = subst (λ t. true ≡ is_some (lookup (same_strings t) before)) c.requires.copy c.if-not-contains_key.ensures in
    opening-where_noted (λ q. lookup (same_strings q) before) (λ q. lookup (same_strings q) values) (λ q. lookup (same_strings q) c.insert.new.self.entries) (Some c.args.value) c.args.strings noted c.in-Ok.ensures.updates.0 s
    ∙ ap (λ board. opening_at board s) c.self.view_is

pub returns-else-not-contains_key-clause-fresh : goal.returns-else-not-contains_key-clause-fresh
returns-else-not-contains_key-clause-fresh c s =
    let before = c.self.inside.before.entries in
    let noted = subst (λ t. true ≡ is_some (lookup (same_strings t) before)) c.requires.copy c.if-not-contains_key.ensures in
    fresh-where_noted (λ q. lookup (same_strings q) before) c.args.strings noted s
    ∙ ap (λ board. same_strings c.args.strings s || is_fresh_at board s) c.self.view_is
