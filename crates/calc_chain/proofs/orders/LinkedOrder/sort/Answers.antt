use Rattle.std.proofs.Common.{◌≡◌, ◌^◌, ℕ, true, ap, subst, sym, ◌∙◌, rules}
use Rattle.std.specs.Prelude.{nat_eq}
use Rattle.std.proofs.lemmas.List.Sorted.{IsNonDecreasingBy-from_sort_by_key, list_any-IsPermutation}
use Rattle.std.proofs.lemmas.Map.Keys.{IsDistinct-IsPermutation}
use Rattle.calc_chain.specs.Chain.{entries_among, has}
use Rattle.calc_chain.specs.declared.slots.TheConstants.{END}
use Rattle.calc_chain.specs.Linking.{after_of, label_of, walk}
use Rattle.calc_chain.proofs.ListLaws.{filter-alike, flipped}
use Rattle.calc_chain.proofs.OrderLaws.{sorted_among, sorted_from}
use Rattle.calc_chain.proofs.orders.LinkedOrder.sort.Goals as goal

pub returns : goal.returns
returns c =
    let s = c.self.inside.slots in
    let xs = walk (after_of s) c.self.inside.count (after_of s END) in
    let old = c.args.numbers.now in
    let new = c.sort_unstable_by_key.new.self in
    let same : (q : ℕ) → has old q ≡ has new q = λ q. list_any-IsPermutation (nat_eq q) old new c.sort_unstable_by_key.ensures.permutation in
    let rising = sorted_from (label_of s) new (IsNonDecreasingBy-from_sort_by_key (label_of s) new c.sort_unstable_by_key.ensures.sorted (λ a r q k. search rules)) in
    let inside : (q : ℕ) → has new q ≡ true → has xs q ≡ true = λ q t. subst (λ ys. has ys q ≡ true) (sym c.self.view_is) (c.requires.entries q (same q ∙ t)) in
    sym (sorted_among (label_of s) 0 xs (2 ^ 64) new c.self.invariant.rising c.self.invariant.once rising (IsDistinct-IsPermutation nat_eq flipped old new c.sort_unstable_by_key.ensures.permutation c.requires.once) inside)
    ∙ filter-alike (has new) (has old) xs (λ q _. sym (same q))
    ∙ ap (λ ys. entries_among ys old) c.self.view_is
