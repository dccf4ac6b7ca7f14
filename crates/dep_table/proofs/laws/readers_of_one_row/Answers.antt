use Rattle.dep_table.proofs.Found.{steps_below}
use Rattle.dep_table.proofs.laws.readers_of_one_row.Goals as goal

pub returns-clause-steps : goal.returns-clause-steps
returns-clause-steps g c =
    let s = c.readers_counted.ensures.steps in
    steps_below _ _ _ _ s.0 s.1 s.2 c.requires.areas c.requires.one
