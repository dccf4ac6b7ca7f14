-- The order of parts is free: `to_cab` takes the parts a, b, c to the order c, a, b.
use Rattle.std.proofs.Common.{ℕ, true, false, Bool, List, ◌∷◌, ◌++◌, Option, None, Some, arith}
use Rattle.area_index.specs.declared.nodes.Node.{Node}
use Rattle.area_index.specs.Standing.{Part, AreParts, left_over, taken_out}

pub to_ba : {nodes : List Node} {a b : Part} {rest : List Part} → AreParts nodes (a ∷ b ∷ rest) → AreParts nodes (b ∷ a ∷ rest)
to_ba s = record {
  each = (s.each.1.0, (s.each.0, s.each.1.1));
  apart = λ k. let m = s.apart k in omega arith;
  all = let m = s.all in omega arith;
  few = s.few;
}

pub to_acb : {nodes : List Node} {a b c : Part} {rest : List Part} → AreParts nodes (a ∷ b ∷ c ∷ rest) → AreParts nodes (a ∷ c ∷ b ∷ rest)
to_acb s = record {
  each = (s.each.0, (s.each.1.1.0, (s.each.1.0, s.each.1.1.1)));
  apart = λ k. let m = s.apart k in omega arith;
  all = let m = s.all in omega arith;
  few = s.few;
}

pub to_bca : {nodes : List Node} {a b c : Part} {rest : List Part} → AreParts nodes (a ∷ b ∷ c ∷ rest) → AreParts nodes (b ∷ c ∷ a ∷ rest)
to_bca s = record {
  each = (s.each.1.0, (s.each.1.1.0, (s.each.0, s.each.1.1.1)));
  apart = λ k. let m = s.apart k in omega arith;
  all = let m = s.all in omega arith;
  few = s.few;
}

pub to_cab : {nodes : List Node} {a b c : Part} {rest : List Part} → AreParts nodes (a ∷ b ∷ c ∷ rest) → AreParts nodes (c ∷ a ∷ b ∷ rest)
to_cab s = record {
  each = (s.each.1.1.0, (s.each.0, (s.each.1.0, s.each.1.1.1)));
  apart = λ k. let m = s.apart k in omega arith;
  all = let m = s.all in omega arith;
  few = s.few;
}

pub to_cba : {nodes : List Node} {a b c : Part} {rest : List Part} → AreParts nodes (a ∷ b ∷ c ∷ rest) → AreParts nodes (c ∷ b ∷ a ∷ rest)
to_cba s = record {
  each = (s.each.1.1.0, (s.each.1.0, (s.each.0, s.each.1.1.1)));
  apart = λ k. let m = s.apart k in omega arith;
  all = let m = s.all in omega arith;
  few = s.few;
}

pub to_cbda : {nodes : List Node} {a b c d : Part} {rest : List Part} → AreParts nodes (a ∷ b ∷ c ∷ d ∷ rest) → AreParts nodes (c ∷ b ∷ d ∷ a ∷ rest)
to_cbda s = record {
  each = (s.each.1.1.0, (s.each.1.0, (s.each.1.1.1.0, (s.each.0, s.each.1.1.1.1))));
  apart = λ k. let m = s.apart k in omega arith;
  all = let m = s.all in omega arith;
  few = s.few;
}

pub to_dbac : {nodes : List Node} {a b c d : Part} {rest : List Part} → AreParts nodes (a ∷ b ∷ c ∷ d ∷ rest) → AreParts nodes (d ∷ b ∷ a ∷ c ∷ rest)
to_dbac s = record {
  each = (s.each.1.1.1.0, (s.each.1.0, (s.each.0, (s.each.1.1.0, s.each.1.1.1.1))));
  apart = λ k. let m = s.apart k in omega arith;
  all = let m = s.all in omega arith;
  few = s.few;
}

pub to_dcab : {nodes : List Node} {a b c d : Part} {rest : List Part} → AreParts nodes (a ∷ b ∷ c ∷ d ∷ rest) → AreParts nodes (d ∷ c ∷ a ∷ b ∷ rest)
to_dcab s = record {
  each = (s.each.1.1.1.0, (s.each.1.1.0, (s.each.0, (s.each.1.0, s.each.1.1.1.1))));
  apart = λ k. let m = s.apart k in omega arith;
  all = let m = s.all in omega arith;
  few = s.few;
}

pub to_cadb : {nodes : List Node} {a b c d : Part} {rest : List Part} → AreParts nodes (a ∷ b ∷ c ∷ d ∷ rest) → AreParts nodes (c ∷ a ∷ d ∷ b ∷ rest)
to_cadb s = record {
  each = (s.each.1.1.0, (s.each.0, (s.each.1.1.1.0, (s.each.1.0, s.each.1.1.1.1))));
  apart = λ k. let m = s.apart k in omega arith;
  all = let m = s.all in omega arith;
  few = s.few;
}

pub to_cdab : {nodes : List Node} {a b c d : Part} {rest : List Part} → AreParts nodes (a ∷ b ∷ c ∷ d ∷ rest) → AreParts nodes (c ∷ d ∷ a ∷ b ∷ rest)
to_cdab s = record {
  each = (s.each.1.1.0, (s.each.1.1.1.0, (s.each.0, (s.each.1.0, s.each.1.1.1.1))));
  apart = λ k. let m = s.apart k in omega arith;
  all = let m = s.all in omega arith;
  few = s.few;
}

pub to_dceab : {nodes : List Node} {a b c d e : Part} {rest : List Part} → AreParts nodes (a ∷ b ∷ c ∷ d ∷ e ∷ rest) → AreParts nodes (d ∷ c ∷ e ∷ a ∷ b ∷ rest)
to_dceab s = record {
  each = (s.each.1.1.1.0, (s.each.1.1.0, (s.each.1.1.1.1.0, (s.each.0, (s.each.1.0, s.each.1.1.1.1.1)))));
  apart = λ k. let m = s.apart k in omega arith;
  all = let m = s.all in omega arith;
  few = s.few;
}

pub to_debac : {nodes : List Node} {a b c d e : Part} {rest : List Part} → AreParts nodes (a ∷ b ∷ c ∷ d ∷ e ∷ rest) → AreParts nodes (d ∷ e ∷ b ∷ a ∷ c ∷ rest)
to_debac s = record {
  each = (s.each.1.1.1.0, (s.each.1.1.1.1.0, (s.each.1.0, (s.each.0, (s.each.1.1.0, s.each.1.1.1.1.1)))));
  apart = λ k. let m = s.apart k in omega arith;
  all = let m = s.all in omega arith;
  few = s.few;
}

pub to_dceba : {nodes : List Node} {a b c d e : Part} {rest : List Part} → AreParts nodes (a ∷ b ∷ c ∷ d ∷ e ∷ rest) → AreParts nodes (d ∷ c ∷ e ∷ b ∷ a ∷ rest)
to_dceba s = record {
  each = (s.each.1.1.1.0, (s.each.1.1.0, (s.each.1.1.1.1.0, (s.each.1.0, (s.each.0, s.each.1.1.1.1.1)))));
  apart = λ k. let m = s.apart k in omega arith;
  all = let m = s.all in omega arith;
  few = s.few;
}

-- the first behind what was left over and the next, at their front
pub over_left : {nodes : List Node} (is_used : Bool) (n : ℕ) {a b c : Part} (rest : List Part) → AreParts nodes (a ∷ (left_over is_used n ++ b ∷ c ∷ rest)) → AreParts nodes (b ∷ a ∷ c ∷ (left_over is_used n ++ rest))
over_left true n rest s = to_ba s
over_left false n rest s = to_cadb s

pub under_left : {nodes : List Node} (is_used : Bool) (n : ℕ) {a b c : Part} (rest : List Part) → AreParts nodes (a ∷ (left_over is_used n ++ b ∷ c ∷ rest)) → AreParts nodes (b ∷ c ∷ a ∷ (left_over is_used n ++ rest))
under_left true n rest s = to_bca s
under_left false n rest s = to_cdab s

-- the same for what was taken out
pub over_taken : {nodes : List Node} (taken : Option ℕ) {a b c : Part} (rest : List Part) → AreParts nodes (a ∷ (taken_out taken ++ b ∷ c ∷ rest)) → AreParts nodes (b ∷ a ∷ c ∷ (taken_out taken ++ rest))
over_taken None rest s = to_ba s
over_taken (Some n) rest s = to_cadb s

pub under_taken : {nodes : List Node} (taken : Option ℕ) {a b c : Part} (rest : List Part) → AreParts nodes (a ∷ (taken_out taken ++ b ∷ c ∷ rest)) → AreParts nodes (b ∷ c ∷ a ∷ (taken_out taken ++ rest))
under_taken None rest s = to_bca s
under_taken (Some n) rest s = to_cdab s
