use Rattle.formula_parse.proofs.NamingLaws.{named_small, named_inside, sites_fit}
use Rattle.formula_parse.proofs.laws.trees_are_within_limits.Goals as goal

pub returns : goal.returns
returns c = record {
  small = named_small;
  inside = named_inside;
  sites = sites_fit;
}
