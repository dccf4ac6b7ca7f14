-- For the crate's own functions: the entries that are due, as the code keeps them.
use Rattle.std.specs.Prelude.{ℕ, Bool, false, List, drop, slice_index_or}
use Rattle.std.specs.List.{filter}
use Rattle.calc_chain.specs.declared.due.DueList.{DueList}

-- those that weren't passed and are flagged
abbrev pub due_in : List Bool → List ℕ → List ℕ
due_in flags numbers = filter (λ x. slice_index_or flags x false) numbers

abbrev pub due_of : DueList → List ℕ
due_of d = due_in d.flags.items (drop d.taken d.numbers.items)
