use Rattle.std.proofs.Common.{◌≡◌, option_copied}
use Rattle.workbook.specs.Registry.{next_name}
use Rattle.workbook.specs.NamedEntries.{AreNamed, functions_of}
use Rattle.workbook.proofs.registry.Registry.next_name.Given as goal

-- the name that is sought is the least among those that are left
abbrev pub invariant-loop-key : goal.invariant-loop-key
invariant-loop-key l =
    (next_name (functions_of l.key-iterator) (option_copied l.after) ≡ next_name l.self (option_copied l.after)) × AreNamed l.key-iterator
