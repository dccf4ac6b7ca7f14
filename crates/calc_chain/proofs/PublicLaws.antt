-- The laws that crates above may cite: what each call leaves is a chain again, and what it has.
pub use Rattle.calc_chain.proofs.ChainLaws.{chain-new, chain-append, chain-next, chain-without, chain-among, chain-moved, due-entry, has-push, has-without, moved-has, still_has}
pub use Rattle.calc_chain.proofs.ListLaws.{distinct_none, distinct_head, distinct_tail, distinct_more, has-filter, itself, same_number, differs}
