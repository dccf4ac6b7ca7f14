use Rattle.std.proofs.Common.{◌∙◌, ap, sym, subst, ◌≤◌, Some}
use Rattle.cell_refs.specs.Area.{size_of}
use Rattle.cell_eval.proofs.AreaLaws.{area_reference, area_corners, area_none, corners_small}
use Rattle.cell_eval.proofs.area_values.area_in.Goals as goal

pub returns-in-Reference-clause-area : goal.returns-in-Reference-clause-area
returns-in-Reference-clause-area c = λ world home.
    ap Some c.of.ensures.exact ∙ sym (area_reference world c.args.home c.in-Reference.reference c.args.node.now home c.in-Reference.is)

pub returns-in-Area-clause-area : goal.returns-in-Area-clause-area
returns-in-Area-clause-area c = λ world home.
    ap Some c.of-in-Area.ensures.exact ∙ sym (area_corners world c.args.home c.in-Area.first c.in-Area.second c.args.node.now home c.in-Area.is)

pub returns-in-Area-clause-small : goal.returns-in-Area-clause-small
returns-in-Area-clause-small c = λ small.
    subst (λ area. size_of area ≤ 65536) (sym c.of-in-Area.ensures.exact) (corners_small c.args.home c.in-Area.first c.in-Area.second c.args.node.now c.in-Area.is small)

pub returns-in_default : goal.returns-in_default
returns-in_default c = record {
  area = λ world home. sym (area_none world c.args.node.now c.in_default.not-Reference c.in_default.not-Area);
  sites = tt;
  small = λ small. tt;
  formed = tt;
}
