-- Which entries are due once one was passed or taken out, or others were made due.
use Rattle.std.proofs.Common.{◌≡◌, ◌≢◌, ℕ, zero, suc, ◌+◌, ◌<◌, ◌≤◌, Bool, true, false, not, cond, ◌||◌, ◌&&◌, ◌==◌, Some, List, [], ◌∷◌, length, take, drop, get_or, set, get_or-set_same, get_or-set_other, refl, ap, sym, ◌∙◌, arith}
use Rattle.std.specs.List.{IsDistinct, filter}
use Rattle.std.specs.Prelude.{nat_eq}
use Rattle.std.specs.Cmp.{nat_eq_equiv}
use Rattle.std.proofs.Math.ListN.{get_or-eq_default}
use Rattle.std.proofs.Math.Seq.{drop-cons}
use Rattle.std.proofs.lemmas.List.Folds.{list_any_more}
use Rattle.std.proofs.lemmas.Map.Made.{length-le_from_is_member}
use Rattle.calc_chain.specs.Chain.{behind_first, first_of, has, without}
use Rattle.calc_chain.specs.Due.{due_in}
use Rattle.calc_chain.proofs.ListLaws.{filter-alike, has-filter, itself, same_number}
use Rattle.calc_chain.proofs.OrderLaws.{without_none}

-- one more number is flagged
pub raised-next : (flags : List Bool) (numbers : List ℕ) (i : ℕ) → i < length numbers → get_or numbers i 0 < length flags → ((k : ℕ) → has (take i numbers) k ≡ true → get_or flags k false ≡ true)
    → (k : ℕ) → has (take (i + 1) numbers) k ≡ true → get_or (set flags (get_or numbers i 0) true) k false ≡ true
raised-next flags numbers i below inside before k there =
    let n = get_or numbers i 0 in
    let more = list_any_more (nat_eq k) numbers i 0 below in
    elim (nat_eq k n) as (λ b. nat_eq k n ≡ b → get_or (set flags n true) k false ≡ true) [
      | true ↦ λ e. ap (λ j. get_or (set flags n true) j false) (same_number k n e) ∙ get_or-set_same flags n true false inside
      | false ↦ λ e.
          let apart : k ≢ n = λ is. no (nat_eq k n) e (ap (nat_eq k) (sym is) ∙ itself k) in
          get_or-set_other flags n k true false apart ∙ before k (sym (or_none (has (take i numbers) k)) ∙ ap (λ b. has (take i numbers) k || b) (sym e) ∙ sym more ∙ there)
    ] refl
  where
    or_none : (b : Bool) → (b || false) ≡ b
    or_none true = refl
    or_none false = refl

    no : (b : Bool) → b ≡ false → b ≡ true → ⊥
    no b h k = let e : true ≡ false = sym k ∙ h in cc

-- without the flag of a number it is out
pub due-removed : (flags : List Bool) (x : ℕ) (ns : List ℕ) → x < length flags → due_in (set flags x false) ns ≡ without (due_in flags ns) x
due-removed flags x [] inside = refl
due-removed flags x (n ∷ ns) inside = elim (n == x) as (λ b. (n == x) ≡ b → due_in (set flags x false) (n ∷ ns) ≡ without (due_in flags (n ∷ ns)) x) [
  | true ↦ λ e.
      let is : n ≡ x = same_number n x e in
      let off : get_or (set flags x false) n false ≡ false = ap (λ m. get_or (set flags x false) m false) is ∙ get_or-set_same flags x false false inside in
      ap (λ b. cond b (n ∷ due_in (set flags x false) ns) (due_in (set flags x false) ns)) off ∙ due-removed flags x ns inside
      ∙ elim (get_or flags n false) as (λ b. without (due_in flags ns) x ≡ without (cond b (n ∷ due_in flags ns) (due_in flags ns)) x) [
        | true ↦ sym (ap (λ b. cond (not b) (n ∷ without (due_in flags ns) x) (without (due_in flags ns) x)) e)
        | false ↦ refl
      ]
  | false ↦ λ e.
      let same : get_or (set flags x false) n false ≡ get_or flags n false = get_or-set_other flags x n false false (λ is. no (n == x) e (ap (λ m. m == x) is ∙ itself x)) in
      ap (λ b. cond b (n ∷ due_in (set flags x false) ns) (due_in (set flags x false) ns)) same
      ∙ elim (get_or flags n false) as (λ b. cond b (n ∷ due_in (set flags x false) ns) (due_in (set flags x false) ns) ≡ without (cond b (n ∷ due_in flags ns) (due_in flags ns)) x) [
        | true ↦ ap (λ ys. n ∷ ys) (due-removed flags x ns inside) ∙ sym (ap (λ b. cond (not b) (n ∷ without (due_in flags ns) x) (without (due_in flags ns) x)) e)
        | false ↦ due-removed flags x ns inside
      ]
] refl
  where
    no : (b : Bool) → b ≡ false → b ≡ true → ⊥
    no b h k = let e : true ≡ false = sym k ∙ h in cc

-- a number without a flag isn't due
pub due-strange : (flags : List Bool) (x : ℕ) (ns : List ℕ) → length flags ≤ x → due_in flags ns ≡ without (due_in flags ns) x
due-strange flags x ns past =
    sym (without_none (due_in flags ns) x (has-filter (λ y. get_or flags y false) ns x ∙ ap (λ b. has ns x && b) (get_or-eq_default flags false past) ∙ and_false (has ns x)))
  where
    and_false : (a : Bool) → (a && false) ≡ false
    and_false true = refl
    and_false false = refl

-- where all are flagged all are due
pub due-all : (flags : List Bool) (ns : List ℕ) → ((x : ℕ) → has ns x ≡ true → get_or flags x false ≡ true) → due_in flags ns ≡ ns
due-all flags ns all = filter-alike (λ y. get_or flags y false) (λ y. true) ns all ∙ every ns
  where
    every : (ys : List ℕ) → filter (λ y. true) ys ≡ ys
    every [] = refl
    every (y ∷ ys) = ap (λ zs. y ∷ zs) (every ys)

-- entries, each once, are no more than there are
pub due-fits : (due entries : List ℕ) → IsDistinct nat_eq due → ((x : ℕ) → has due x ≡ true → has entries x ≡ true) → length due ≤ length entries
due-fits due entries once inside = length-le_from_is_member nat_eq_equiv due entries once inside
