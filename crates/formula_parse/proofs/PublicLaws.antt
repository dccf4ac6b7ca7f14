-- The laws that crates above may cite: the parts of a tree, and what a tree names.
pub use Rattle.formula_parse.proofs.NamingLaws.{named_small, sites_fit}
pub use Rattle.formula_parse.proofs.NodeLaws.{fold_number, fold_text, fold_error, fold_boolean, fold_reference, fold_area, fold_call, fold_parentheses, fold_negation, fold_chain, node_induction}
pub use Rattle.formula_parse.proofs.SiteLaws.{sites_of_number, sites_of_text, sites_of_error, sites_of_boolean, sites_of_reference, sites_of_area, sites_of_built_in, sites_of_rtd, sites_of_added, sites_of_parentheses, sites_of_negation, sites_of_chain}
