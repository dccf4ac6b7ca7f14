use Rattle.std.proofs.Common.{arith, ap}
use Rattle.formula_parse.specs.Tree.{site_count}
use Rattle.formula_parse.proofs.NamingLaws.{sites_fit}
use Rattle.formula_parse.proofs.naming.sites.Goals as goal

pub returns : goal.returns
returns c =
    let few = sites_fit c.args.t.now c.root.ensures.tree in
    let same = ap site_count c.root.ensures.value in
    omega (arith, c.count_sites.ensures, few, same)
