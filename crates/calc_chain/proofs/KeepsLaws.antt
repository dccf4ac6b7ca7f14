-- What the slots keep once an entry was taken out or put in, or has another label.
use Rattle.std.proofs.Common.{◌≡◌, ◌≢◌, ℕ, ◌<◌, ◌≤◌, ◌^◌, Bool, true, false, not, ◌||◌, ◌&&◌, ◌==◌, List, [], ◌∷◌, ◌++◌, length, ⊎_elim, refl, ap, sym, subst, ◌∙◌, arith}
use Rattle.std.specs.List.{IsDistinct, filter}
use Rattle.std.specs.Prelude.{nat_eq, nat_lt, if◌then◌else◌, slice_index_or}
use Rattle.std.proofs.lemmas.Bool.Decides.{nat_tests}
use Rattle.std.proofs.Math.ListN.{get_or-eq_default}
use Rattle.std.proofs.lemmas.Map.Steps.{length-le_from_distinct_below}
use Rattle.calc_chain.specs.Chain.{has, without}
use Rattle.calc_chain.specs.declared.slots.Slot.{Slot}
use Rattle.calc_chain.specs.declared.slots.Slots.{Slots}
use Rattle.calc_chain.specs.declared.slots.TheConstants.{END}
use Rattle.calc_chain.specs.Linking.{Fits, Keeps, after_of, before_of, first_slot, free_slot, label_of, put_behind, slot_at, walk}
use Rattle.calc_chain.proofs.LabelLaws.{less_false, less_true, rise-filter, rise-put, rise-same}
use Rattle.calc_chain.proofs.LinkLaws.{away, head_apart, last-in, linked-one, linked-same, next-in, prev-in, put-last, put-linked, tail_lacks, unlinked, walk-linked}
use Rattle.calc_chain.proofs.ListLaws.{differs, distinct_filter, distinct_head, distinct_more, distinct_none, distinct_tail, has-filter, itself}

if_no : (b : Bool) (v w : ℕ) → b ≡ false → (if b then v else w) ≡ w
if_no true v w h = cc
if_no false v w h = refl

if_yes : (b : Bool) (v w : ℕ) → b ≡ true → (if b then v else w) ≡ v
if_yes true v w h = refl
if_yes false v w h = cc

-- what has a label has a slot
pub labeled_fits : (s : Slots) (q : ℕ) → nat_lt 0 (label_of s q) ≡ true → Fits s q
labeled_fits s q h apart = elim (nat_lt q (length s.slots.items)) as (λ b. nat_lt q (length s.slots.items) ≡ b → q < length s.slots.items) [
  | true ↦ λ e. grind (arith, nat_tests, e)
  | false ↦ λ e.
      let past : length s.slots.items ≤ q = grind (arith, nat_tests, e) in
      let free : slice_index_or s.slots.items q free_slot ≡ free_slot = get_or-eq_default s.slots.items free_slot past in
      let at : slot_at s q ≡ free_slot = ap (λ b. if b then s.ends else slice_index_or s.slots.items q free_slot) (differs q END apart) ∙ free in
      absurd (let k = sym h ∙ ap (λ (slot : Slot). nat_lt 0 slot.label) at ∙ less_false 0 0 (omega arith) in cc (k))
] refl

pub entry_apart : (s : Slots) (xs : List ℕ) → Keeps s xs → (q : ℕ) → has xs q ≡ true → q ≢ END
entry_apart s xs keeps q h = away xs q END h keeps.apart

pub entry_label : (s : Slots) (xs : List ℕ) → Keeps s xs → (q : ℕ) → has xs q ≡ true → nat_lt 0 (label_of s q) ≡ true
entry_label s xs keeps q h = sym (keeps.labeled q (entry_apart s xs keeps q h)) ∙ h

pub entry_fits : (s : Slots) (xs : List ℕ) → Keeps s xs → (q : ℕ) → has xs q ≡ true → Fits s q
entry_fits s xs keeps q h = labeled_fits s q (entry_label s xs keeps q h)

pub end_fits : (s : Slots) (q : ℕ) → q ≡ END → Fits s q
end_fits s q is apart = absurd (apart is)

pub after_fits : (s : Slots) (xs : List ℕ) → Keeps s xs → (q : ℕ) → has xs q ≡ true → Fits s (after_of s q)
after_fits s xs keeps q h = ⊎_elim (entry_fits s xs keeps (after_of s q)) (end_fits s (after_of s q)) (next-in (after_of s) (before_of s) END xs END keeps.linked q h)

pub before_fits : (s : Slots) (xs : List ℕ) → Keeps s xs → (q : ℕ) → has xs q ≡ true → Fits s (before_of s q)
before_fits s xs keeps q h = ⊎_elim (entry_fits s xs keeps (before_of s q)) (end_fits s (before_of s q)) (prev-in (after_of s) (before_of s) END xs END keeps.linked q h)

-- there are no more entries than slots
pub entries_few : (s : Slots) (xs : List ℕ) → Keeps s xs → length xs ≤ END
entries_few s xs keeps =
    let few = length-le_from_distinct_below xs (length s.slots.items) keeps.once (λ q h. entry_fits s xs keeps q h (entry_apart s xs keeps q h)) in
    let small = keeps.small in
    omega (arith, few, small)

-- ---- taken out

pub keeps_without : (s s' : Slots) (xs : List ℕ) (x : ℕ) → Keeps s xs → has xs x ≡ true
    → ((q : ℕ) → after_of s' q ≡ (if nat_eq q (before_of s x) then after_of s x else after_of s q)) → ((q : ℕ) → before_of s' q ≡ (if nat_eq q (after_of s x) then before_of s x else before_of s q))
    → ((q : ℕ) → label_of s' q ≡ (if nat_eq q x then 0 else label_of s q)) → length s'.slots.items ≡ length s.slots.items → Keeps s' (without xs x)
keeps_without s s' xs x keeps h nexts prevs labels size =
    let keeping : ℕ → Bool = λ y. not (y == x) in
    let out : (q : ℕ) → has (filter keeping xs) q ≡ true → (q == x) ≡ false = λ q k. kept (has xs q) (q == x) (sym (has-filter keeping xs q) ∙ k) in
    record {
      linked = unlinked (after_of s) (after_of s') (before_of s) (before_of s') END xs END x keeps.once keeps.apart keeps.apart h nexts prevs keeps.linked;
      rising = rise-same (label_of s) (label_of s') 0 (filter keeping xs) (2 ^ 64) (λ q k. labels q ∙ if_no (nat_eq q x) 0 (label_of s q) (out q k)) (rise-filter (label_of s) keeping 0 xs (2 ^ 64) keeps.rising);
      once = distinct_filter keeping xs keeps.once;
      apart = has-filter keeping xs END ∙ ap (λ b. b && keeping END) keeps.apart;
      labeled = λ q apart. has-filter keeping xs q ∙ elim (nat_eq q x) as (λ b. nat_eq q x ≡ b → (has xs q && not b) ≡ nat_lt 0 (label_of s' q)) [
        | true ↦ λ e. and_false (has xs q) ∙ sym (less_false 0 0 (omega arith)) ∙ ap (nat_lt 0) (sym (labels q ∙ if_yes (nat_eq q x) 0 (label_of s q) e))
        | false ↦ λ e. and_true (has xs q) ∙ keeps.labeled q apart ∙ ap (nat_lt 0) (sym (labels q ∙ if_no (nat_eq q x) 0 (label_of s q) e))
      ] refl;
      ends = labels END ∙ if_no (nat_eq END x) 0 (label_of s END) (differs END x (λ is. entry_apart s xs keeps x h (sym is))) ∙ keeps.ends;
      small = subst (λ m. m ≤ END) (sym size) keeps.small;
    }
  where
    kept : (a b : Bool) → (a && not b) ≡ true → b ≡ false
    kept true true k = cc
    kept true false k = refl
    kept false b k = cc

    and_false : (a : Bool) → (a && false) ≡ false
    and_false true = refl
    and_false false = refl

    and_true : (a : Bool) → (a && true) ≡ a
    and_true true = refl
    and_true false = refl

-- ---- put in

pub has_put : (xs : List ℕ) (y x q : ℕ) → has (put_behind xs y x) q ≡ (nat_eq q x || has xs q)
has_put [] y x q = refl
has_put (w ∷ ws) y x q = elim (nat_eq w y) as (λ c. (nat_eq q w || has (if c then x ∷ ws else put_behind ws y x) q) ≡ (nat_eq q x || (nat_eq q w || has ws q))) [
  | true ↦ exchange (nat_eq q w) (nat_eq q x) (has ws q)
  | false ↦ ap (λ b. nat_eq q w || b) (has_put ws y x q) ∙ exchange (nat_eq q w) (nat_eq q x) (has ws q)
]
  where
    exchange : (a b c : Bool) → (a || (b || c)) ≡ (b || (a || c))
    exchange true true c = refl
    exchange true false c = refl
    exchange false b c = refl

pub distinct_put : (xs : List ℕ) (y x : ℕ) → IsDistinct nat_eq xs → has xs x ≡ false → IsDistinct nat_eq (put_behind xs y x)
distinct_put [] y x d new = distinct_more x [] refl distinct_none
distinct_put (w ∷ ws) y x d new =
    let off : nat_eq w x ≡ false = differs w x (λ is. head_apart w ws x new (sym is)) in
    elim (nat_eq w y) as (λ c. IsDistinct nat_eq (w ∷ (if c then x ∷ ws else put_behind ws y x))) [
      | true ↦ distinct_more w (x ∷ ws) (ap (λ b. b || has ws w) off ∙ distinct_head w ws d) (distinct_more x ws (tail_lacks w ws x new) (distinct_tail w ws d))
      | false ↦ distinct_more w (put_behind ws y x) (has_put ws y x w ∙ ap (λ b. b || has ws w) off ∙ distinct_head w ws d) (distinct_put ws y x (distinct_tail w ws d) (tail_lacks w ws x new))
    ]

pub keeps_put : (s s' : Slots) (xs : List ℕ) (y x v : ℕ) → Keeps s xs → has xs y ≡ true → has xs x ≡ false → x ≢ END
    → ((q : ℕ) → after_of s' q ≡ (if nat_eq q x then after_of s y else if nat_eq q y then x else after_of s q)) → ((q : ℕ) → before_of s' q ≡ (if nat_eq q (after_of s y) then x else if nat_eq q x then y else before_of s q))
    → ((q : ℕ) → label_of s' q ≡ (if nat_eq q x then v else label_of s q)) → length s'.slots.items ≡ length s.slots.items
    → label_of s y < v → v < 2 ^ 64 → (after_of s y ≢ END → v < label_of s (after_of s y)) → Keeps s' (put_behind xs y x)
keeps_put s s' xs y x v keeps h new apart nexts prevs labels size above fits below = record {
  linked = put-linked (after_of s) (after_of s') (before_of s) (before_of s') END xs END y x keeps.once keeps.apart keeps.apart h new apart apart nexts prevs keeps.linked;
  rising = rise-put (after_of s) (before_of s) (label_of s) (label_of s') END 0 xs END (2 ^ 64) y x v keeps.linked keeps.once keeps.apart h new labels above (λ _. fits) below keeps.rising;
  once = distinct_put xs y x keeps.once new;
  apart = has_put xs y x END ∙ ap (λ b. b || has xs END) (differs END x (λ is. apart (sym is))) ∙ keeps.apart;
  labeled = λ q off. has_put xs y x q ∙ elim (nat_eq q x) as (λ b. nat_eq q x ≡ b → (b || has xs q) ≡ nat_lt 0 (label_of s' q)) [
    | true ↦ λ e. sym (less_true 0 v (omega (arith, above))) ∙ ap (nat_lt 0) (sym (labels q ∙ if_yes (nat_eq q x) v (label_of s q) e))
    | false ↦ λ e. keeps.labeled q off ∙ ap (nat_lt 0) (sym (labels q ∙ if_no (nat_eq q x) v (label_of s q) e))
  ] refl;
  ends = labels END ∙ if_no (nat_eq END x) v (label_of s END) (differs END x (λ is. apart (sym is))) ∙ keeps.ends;
  small = subst (λ m. m ≤ END) (sym size) keeps.small;
}

pub keeps_first : (s s' : Slots) (x v : ℕ) → Keeps s [] → x ≢ END
    → ((q : ℕ) → after_of s' q ≡ (if nat_eq q x then END else if nat_eq q END then x else after_of s q)) → ((q : ℕ) → before_of s' q ≡ (if nat_eq q END then x else if nat_eq q x then END else before_of s q))
    → ((q : ℕ) → label_of s' q ≡ (if nat_eq q x then v else label_of s q)) → length s'.slots.items ≡ length s.slots.items → 0 < v → v < 2 ^ 64 → Keeps s' (x ∷ [])
keeps_first s s' x v keeps apart nexts prevs labels size above fits =
    let off : nat_eq END x ≡ false = differs END x (λ is. apart (sym is)) in
    let mine : label_of s' x ≡ v = labels x ∙ if_yes (nat_eq x x) v (label_of s x) (itself x) in
    record {
      linked = (
        (nexts END ∙ if_no (nat_eq END x) END (if nat_eq END END then x else after_of s END) off ∙ if_yes (nat_eq END END) x (after_of s END) (itself END), prevs x ∙ if_no (nat_eq x END) x (if nat_eq x x then END else before_of s x) (differs x END apart) ∙ if_yes (nat_eq x x) END (before_of s x) (itself x)),
        (nexts x ∙ if_yes (nat_eq x x) END (if nat_eq x END then x else after_of s x) (itself x), prevs END ∙ if_yes (nat_eq END END) x (if nat_eq END x then END else before_of s END) (itself END)),
      );
      rising = (omega (arith, mine, above), omega (arith, mine, fits));
      once = distinct_more x [] refl distinct_none;
      apart = ap (λ b. b || false) off;
      labeled = λ q there. elim (nat_eq q x) as (λ b. nat_eq q x ≡ b → (b || false) ≡ nat_lt 0 (label_of s' q)) [
        | true ↦ λ e. sym (less_true 0 v above) ∙ ap (nat_lt 0) (sym (labels q ∙ if_yes (nat_eq q x) v (label_of s q) e))
        | false ↦ λ e. keeps.labeled q there ∙ ap (nat_lt 0) (sym (labels q ∙ if_no (nat_eq q x) v (label_of s q) e))
      ] refl;
      ends = labels END ∙ if_no (nat_eq END x) v (label_of s END) off ∙ keeps.ends;
      small = subst (λ m. m ≤ END) (sym size) keeps.small;
    }

-- the last entry
pub last_entry : (s : Slots) (xs : List ℕ) → Keeps s xs → before_of s END ≢ END → has xs (before_of s END) ≡ true
last_entry s [] keeps apart = absurd (apart keeps.linked.1)
last_entry s (w ∷ ws) keeps apart = (last-in (after_of s) (before_of s) END w ws END keeps.linked).0

pub no_entry : (s : Slots) (xs : List ℕ) → Keeps s xs → before_of s END ≡ END → xs ≡ []
no_entry s [] keeps is = refl
no_entry s (w ∷ ws) keeps is = absurd (entry_apart s (w ∷ ws) keeps (before_of s END) (last-in (after_of s) (before_of s) END w ws END keeps.linked).0 is)

pub put_at_end : (s : Slots) (xs : List ℕ) (x : ℕ) → Keeps s xs → before_of s END ≢ END → put_behind xs (before_of s END) x ≡ xs ++ x ∷ []
put_at_end s [] x keeps apart = absurd (apart keeps.linked.1)
put_at_end s (w ∷ ws) x keeps apart = put-last (after_of s) (before_of s) END w ws END x keeps.linked keeps.once

-- where no number has a label, no entry is kept
pub keeps_none : (s : Slots) → ((q : ℕ) → slot_at s q ≡ first_slot q) → s.slots.items ≡ [] → Keeps s []
keeps_none s at empty =
    let none : (q : ℕ) → label_of s q ≡ 0 = λ q. ap (λ (slot : Slot). slot.label) (at q) ∙ no_label (nat_eq q END) in
    record {
      linked = (ap (λ (slot : Slot). slot.after) (at END) ∙ its_after (nat_eq END END) (itself END), ap (λ (slot : Slot). slot.before) (at END) ∙ its_before (nat_eq END END) (itself END));
      rising = omega arith;
      once = distinct_none;
      apart = refl;
      labeled = λ q off. sym (less_false 0 0 (omega arith)) ∙ ap (nat_lt 0) (sym (none q));
      ends = none END;
      small = let len = ap length empty in omega (arith, len);
    }
  where
    first : Slot
    first = record { before = END; after = END; label = 0 }

    no_label : (b : Bool) → (if b then first else free_slot).label ≡ 0
    no_label true = refl
    no_label false = refl

    its_after : (b : Bool) → b ≡ true → (if b then first else free_slot).after ≡ END
    its_after true h = refl
    its_after false h = cc

    its_before : (b : Bool) → b ≡ true → (if b then first else free_slot).before ≡ END
    its_before true h = refl
    its_before false h = cc

-- the slots keep one list
pub keeps_one : (s : Slots) (xs ys : List ℕ) → Keeps s xs → Keeps s ys → xs ≡ ys
keeps_one s xs ys h k = linked-one (after_of s) (before_of s) END xs ys END h.linked k.linked h.apart k.apart

-- so many numbers from the first one on are the entries
pub entries_listed : (s : Slots) (xs : List ℕ) (count : ℕ) → Keeps s xs → count ≡ length xs → walk (after_of s) count (after_of s END) ≡ xs
entries_listed s xs count keeps is = ap (λ m. walk (after_of s) m (after_of s END)) is ∙ walk-linked (after_of s) (before_of s) END xs END keeps.linked

-- in other slots the same is kept
pub keeps_same : (s s' : Slots) (xs : List ℕ) → Keeps s xs → ((q : ℕ) → slot_at s' q ≡ slot_at s q) → length s'.slots.items ≤ END → Keeps s' xs
keeps_same s s' xs keeps same small =
    let label : (q : ℕ) → label_of s' q ≡ label_of s q = λ q. ap (λ (slot : Slot). slot.label) (same q) in
    let after : (q : ℕ) → after_of s' q ≡ after_of s q = λ q. ap (λ (slot : Slot). slot.after) (same q) in
    let before : (q : ℕ) → before_of s' q ≡ before_of s q = λ q. ap (λ (slot : Slot). slot.before) (same q) in
    record {
      linked = linked-same (after_of s) (after_of s') (before_of s) (before_of s') END xs END (after END) (λ q _. after q) (λ q _. before q) (before END) keeps.linked;
      rising = rise-same (label_of s) (label_of s') 0 xs (2 ^ 64) (λ q _. label q) keeps.rising;
      once = keeps.once;
      apart = keeps.apart;
      labeled = λ q off. keeps.labeled q off ∙ ap (nat_lt 0) (sym (label q));
      ends = label END ∙ keeps.ends;
      small = small;
    }
