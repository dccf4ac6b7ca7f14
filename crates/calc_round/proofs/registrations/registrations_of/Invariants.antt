use Rattle.std.proofs.Common.{◌≡◌, ◌++◌, drop}
use Rattle.formula_parse.specs.Tree.{sites_named}
use Rattle.calc_round.specs.Looks.{registered_among}
use Rattle.calc_round.proofs.registrations.registrations_of.Given as goal

-- behind the entries stand those of the names to come
abbrev pub invariant-loop-name : goal.invariant-loop-name
invariant-loop-name l =
    l.entries.items ++ registered_among l.book.functions (drop l.name-index l.name-items) ≡ registered_among l.book.functions (sites_named l.tree)
