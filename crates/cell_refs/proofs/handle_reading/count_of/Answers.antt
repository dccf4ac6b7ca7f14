use Rattle.cell_refs.proofs.Capitals.{cut_digits}
use Rattle.cell_refs.proofs.handle_reading.count_of.Goals as goal

pub own_number-requires : goal.own_number-requires
own_number-requires c = cut_digits _ _ _ c.digits_len.ensures c.split_at.ensures.front
