-- What the slots keep once entries have new labels.
use Rattle.std.proofs.Common.{◌≡◌, ◌≢◌, ℕ, zero, suc, ◌+◌, ◌-◌, ◌*◌, ◌<◌, ◌≤◌, ◌^◌, Bool, true, false, List, length, ⊎_elim, refl, ap, sym, subst, ◌∙◌, arith}
use Rattle.std.specs.List.{IsDistinct}
use Rattle.std.specs.Prelude.{nat_eq, nat_lt, if◌then◌else◌}
use Rattle.std.proofs.lemmas.Bool.Decides.{nat_tests}
use Rattle.calc_chain.specs.Chain.{has}
use Rattle.calc_chain.specs.declared.linking.TheConstants.{WIDE}
use Rattle.calc_chain.specs.declared.slots.Slots.{Slots}
use Rattle.calc_chain.specs.declared.slots.TheConstants.{END}
use Rattle.calc_chain.specs.Linking.{AreLinked, Fits, HasRoomBehind, IsCrowd, IsStep, Keeps, KeepsLinks, Relabels, after_of, before_of, label_of, nth, walk}
use Rattle.calc_chain.proofs.CrowdLaws.{Behind, behind-entry, crowd-among, crowd-distinct, crowd-few, crowd-in, crowd-next, has-walk, meets, not_among, nth-apart, nth-end, nth-next, rise-crowd, rise-relabel, walk-index, walk-lacks, walk-longer}
use Rattle.calc_chain.proofs.KeepsLaws.{entries_few, entry_fits}
use Rattle.calc_chain.proofs.LabelLaws.{less_true, rise-between}
use Rattle.calc_chain.proofs.LinkLaws.{away, linked-same, walk-linked}
use Rattle.calc_chain.proofs.ListLaws.{differs, same_number, same_test}

same_links : (s s' : Slots) → KeepsLinks s s' → (xs : List ℕ) → AreLinked (after_of s) (before_of s) END xs END → AreLinked (after_of s') (before_of s') END xs END
same_links s s' same xs h = linked-same (after_of s) (after_of s') (before_of s) (before_of s') END xs END (same.after END) (λ q _. same.after q) (λ q _. same.before q) (same.before END) h

labels_stay : (s s' : Slots) (xs : List ℕ) → Keeps s xs → ((q : ℕ) → has xs q ≡ true → 0 < label_of s' q) → ((q : ℕ) → has xs q ≡ false → label_of s' q ≡ label_of s q) → (q : ℕ) → q ≢ END → has xs q ≡ nat_lt 0 (label_of s' q)
labels_stay s s' xs keeps above others q off = elim (has xs q) as (λ b. has xs q ≡ b → b ≡ nat_lt 0 (label_of s' q)) [
  | true ↦ λ e. sym (less_true 0 (label_of s' q) (above q e))
  | false ↦ λ e. sym e ∙ keeps.labeled q off ∙ ap (nat_lt 0) (sym (others q e))
] refl

what_is_behind : (s : Slots) (xs : List ℕ) (y : ℕ) → Keeps s xs → has xs y ≡ true → (ws : List ℕ) × Behind (after_of s) (before_of s) (label_of s) xs END (2 ^ 64) y ws
what_is_behind s xs y keeps h = behind-entry (after_of s) (before_of s) (label_of s) END 0 xs END (2 ^ 64) y keeps.linked keeps.rising keeps.once keeps.apart h

-- ---- a crowd behind an entry

pub keeps_relabeled : (s s' : Slots) (xs : List ℕ) (y c step : ℕ) → Keeps s xs → has xs y ≡ true → IsCrowd s y c step → Relabels s s' (after_of s y) c (label_of s y) step → Keeps s' xs
keeps_relabeled s s' xs y c step keeps h crowd new =
    let wide = crowd.wide in
    let rising = rise-relabel (after_of s) (before_of s) (label_of s) (label_of s') END 0 xs END (2 ^ 64) y c step keeps.linked keeps.once keeps.apart h crowd.entries (omega (arith, wide)) new.apart crowd.last crowd.next new.others keeps.rising in
    record {
      linked = same_links s s' new.links xs keeps.linked;
      rising = rising;
      once = keeps.once;
      apart = keeps.apart;
      labeled = labels_stay s s' xs keeps (λ q t. (rise-between (label_of s') 0 xs (2 ^ 64) q rising t).0)
          (λ q off. new.others q (not_among _ (has xs q) (crowd-among (after_of s) (before_of s) c END xs END y q keeps.linked h crowd.entries) off));
      ends = new.others END crowd.entries ∙ keeps.ends;
      small = subst (λ m. m ≤ END) (sym new.links.size) keeps.small;
    }

-- the label of the entry itself stays
own_label : (s s' : Slots) (xs : List ℕ) (y c step : ℕ) → Keeps s xs → has xs y ≡ true → IsCrowd s y c step → Relabels s s' (after_of s y) c (label_of s y) step → label_of s' y ≡ label_of s y
own_label s s' xs y c step keeps h crowd new =
    let ws = what_is_behind s xs y keeps h in
    new.others y (not_among _ (has ws.0 y) (crowd-in (after_of s) (before_of s) c y ws.0 END y ws.1.linked crowd.entries) ws.1.alone)

pub room_relabeled : (s s' : Slots) (xs : List ℕ) (y c step : ℕ) → Keeps s xs → has xs y ≡ true → IsCrowd s y c step → Relabels s s' (after_of s y) c (label_of s y) step → HasRoomBehind s' y
room_relabeled s s' xs y zero step keeps h crowd new =
    let own = own_label s s' xs y zero step keeps h crowd new in
    let wide = crowd.wide in
    record {
      last = λ is. let i = crowd.last (sym (new.links.after y) ∙ is) in omega (arith, i, own, wide);
      between = λ apart.
          let at = new.links.after y in
          let i = crowd.next (λ is. apart (at ∙ is)) in
          let same = new.others (after_of s y) refl in
          subst (λ m. label_of s' y + 2 ≤ label_of s' m) (sym at) (omega (arith, i, own, wide, same));
    }
room_relabeled s s' xs y (suc c) step keeps h crowd new =
    let own = own_label s s' xs y (suc c) step keeps h crowd new in
    let wide = crowd.wide in
    record {
      last = λ is. absurd (meets (after_of s) c y END (sym (new.links.after y) ∙ is) crowd.entries);
      between = λ apart.
          let first = new.apart 0 (omega arith) in
          subst (λ m. label_of s' y + 2 ≤ label_of s' m) (sym (new.links.after y)) (omega (arith, first, own, wide));
    }

pub crowd_fits : (s : Slots) (xs : List ℕ) (y c q : ℕ) → Keeps s xs → has xs y ≡ true → has (walk (after_of s) c (after_of s y)) END ≡ false → has (walk (after_of s) c (after_of s y)) q ≡ true → Fits s q
crowd_fits s xs y c q keeps h off t = entry_fits s xs keeps q (crowd-among (after_of s) (before_of s) c END xs END y q keeps.linked h off t)

pub crowd_once : (s : Slots) (xs : List ℕ) (y c : ℕ) → Keeps s xs → has xs y ≡ true → has (walk (after_of s) c (after_of s y)) END ≡ false → IsDistinct nat_eq (walk (after_of s) c (after_of s y))
crowd_once s xs y c keeps h off = let ws = what_is_behind s xs y keeps h in crowd-distinct (after_of s) (before_of s) c y ws.0 END ws.1.linked ws.1.once off

-- there are fewer entries behind another than there are
pub crowd_small : (s : Slots) (xs : List ℕ) (y c : ℕ) → Keeps s xs → has xs y ≡ true → has (walk (after_of s) c (after_of s y)) END ≡ false → c < END
crowd_small s xs y c keeps h off =
    let ws = what_is_behind s xs y keeps h in
    let few = crowd-few (after_of s) (before_of s) c y ws.0 END ws.1.linked off in
    let less = ws.1.shorter in
    let all = entries_few s xs keeps in
    omega (arith, few, less, all)

-- what comes behind a crowd has a greater label than the entry
pub crowd_above : (s : Slots) (xs : List ℕ) (y c : ℕ) → Keeps s xs → has xs y ≡ true → has (walk (after_of s) c (after_of s y)) END ≡ false → nth (after_of s) c (after_of s y) ≢ END
    → label_of s y < label_of s (nth (after_of s) c (after_of s y))
crowd_above s xs y c keeps h off apart =
    let ws = what_is_behind s xs y keeps h in
    let next = nth (after_of s) c (after_of s y) in
    ⊎_elim (λ t. (rise-between (label_of s) (label_of s y) ws.0 (2 ^ 64) next ws.1.rising t).0) (λ is. absurd (apart is)) (crowd-next (after_of s) (before_of s) c y ws.0 END ws.1.linked off)

-- ---- all entries

whole : (s : Slots) (xs : List ℕ) → Keeps s xs → walk (after_of s) (length xs) (after_of s END) ≡ xs
whole s xs keeps = walk-linked (after_of s) (before_of s) END xs END keeps.linked

pub all_fit : (s : Slots) (xs : List ℕ) (q : ℕ) → Keeps s xs → has (walk (after_of s) (length xs) (after_of s END)) q ≡ true → Fits s q
all_fit s xs q keeps t = entry_fits s xs keeps q (sym (ap (λ ys. has ys q) (whole s xs keeps)) ∙ t)

pub all_once : (s : Slots) (xs : List ℕ) → Keeps s xs → IsDistinct nat_eq (walk (after_of s) (length xs) (after_of s END))
all_once s xs keeps = subst (IsDistinct nat_eq) (sym (whole s xs keeps)) keeps.once

pub keeps_renewed : (s s' : Slots) (xs : List ℕ) → Keeps s xs → Relabels s s' (after_of s END) (length xs) 0 WIDE → Keeps s' xs
keeps_renewed s s' xs keeps new =
    let off : has (walk (after_of s) (length xs) (after_of s END)) END ≡ false = ap (λ ys. has ys END) (whole s xs keeps) ∙ keeps.apart in
    let few = entries_few s xs keeps in
    let end = nth-end (after_of s) (before_of s) END xs END keeps.linked in
    let rising = rise-crowd (after_of s) (before_of s) (label_of s) (label_of s') (length xs) END 0 WIDE 0 xs END (2 ^ 64) keeps.linked keeps.once keeps.apart off (omega arith) new.apart (λ _. omega (arith, few)) (λ apart. absurd (apart end)) (λ q t outside. new.others q outside) keeps.rising in
    record {
      linked = same_links s s' new.links xs keeps.linked;
      rising = rising;
      once = keeps.once;
      apart = keeps.apart;
      labeled = labels_stay s s' xs keeps (λ q t. (rise-between (label_of s') 0 xs (2 ^ 64) q rising t).0) (λ q outside. new.others q (ap (λ ys. has ys q) (whole s xs keeps) ∙ outside));
      ends = new.others END off ∙ keeps.ends;
      small = subst (λ m. m ≤ END) (sym new.links.size) keeps.small;
    }

pub room_renewed : (s s' : Slots) (xs : List ℕ) (y : ℕ) → Keeps s xs → has xs y ≡ true → Relabels s s' (after_of s END) (length xs) 0 WIDE → HasRoomBehind s' y
room_renewed s s' xs y keeps h new =
    let place = walk-index (after_of s) (length xs) (after_of s END) y (ap (λ ys. has ys y) (whole s xs keeps) ∙ h) in
    let k = place.0 in
    let below = place.1 in
    let few = entries_few s xs keeps in
    let own : label_of s' y ≡ 0 + (k + 1) * WIDE = ap (label_of s') place.2 ∙ new.apart k below in
    let next : after_of s y ≡ nth (after_of s) (suc k) (after_of s END) = ap (after_of s) place.2 ∙ sym (nth-next (after_of s) k (after_of s END)) in
    record {
      last = λ is. omega (arith, own, below, few);
      between = λ apart.
          let inside : suc k < length xs = inner k (length xs) below (λ is. apart (new.links.after y ∙ next ∙ ap (λ m. nth (after_of s) m (after_of s END)) is ∙ nth-end (after_of s) (before_of s) END xs END keeps.linked)) in
          let later = new.apart (suc k) inside in
          subst (λ m. label_of s' y + 2 ≤ label_of s' m) (sym (new.links.after y ∙ next)) (omega (arith, own, later));
    }
  where
    strict : {k c : ℕ} → nat_eq (suc k) c ≡ false → k < c → suc k < c
    strict e below = grind (arith, nat_tests, e, below)

    inner : (k c : ℕ) → k < c → suc k ≢ c → suc k < c
    inner k c below apart = elim (nat_eq (suc k) c) as (λ b. nat_eq (suc k) c ≡ b → suc k < c) [
      | true ↦ λ e. absurd (apart (same_number (suc k) c e))
      | false ↦ λ e. strict e below
    ] refl

-- ---- one label after another

pub relabels_more : (s mid new : Slots) (first c k low step next label : ℕ) → IsDistinct nat_eq (walk (after_of s) c first) → k < c → Relabels s mid first k low step → next ≡ nth (after_of s) k first → label ≡ low + (k + 1) * step
    → KeepsLinks mid new → ((q : ℕ) → label_of new q ≡ (if nat_eq q next then label else label_of mid q)) → Relabels s new first (suc k) low step
relabels_more s mid new first c k low step next label d below before at is links labels = record {
  links = record {
    after = λ q. links.after q ∙ before.links.after q;
    before = λ q. links.before q ∙ before.links.before q;
    size = links.size ∙ before.links.size;
  };
  others = λ q outside.
      let apart : nat_eq q next ≡ false = differs q next (λ same. let t = has-walk (after_of s) (suc k) k first (omega arith) in away (walk (after_of s) (suc k) first) (nth (after_of s) k first) q t outside (sym (same ∙ at))) in
      labels q ∙ if_no (nat_eq q next) label (label_of mid q) apart ∙ before.others q (not_among _ (has (walk (after_of s) (suc k) first) q) (walk-longer (after_of s) k first q) outside);
  apart = λ j under. elim (nat_eq j k) as (λ b. nat_eq j k ≡ b → label_of new (nth (after_of s) j first) ≡ low + (j + 1) * step) [
    | true ↦ λ e.
        let same : j ≡ k = same_number j k e in
        let here : nth (after_of s) j first ≡ next = ap (λ m. nth (after_of s) m first) same ∙ sym at in
        labels (nth (after_of s) j first) ∙ if_yes (nat_eq (nth (after_of s) j first) next) label (label_of mid (nth (after_of s) j first)) (same_test (nth (after_of s) j first) next here) ∙ is ∙ ap (λ m. low + (m + 1) * step) (sym same)
    | false ↦ λ e.
        let earlier : j < k = strict e under in
        let t = has-walk (after_of s) k j first earlier in
        let gone = nth-apart (after_of s) c k first below d in
        labels (nth (after_of s) j first)
        ∙ if_no (nat_eq (nth (after_of s) j first) next) label (label_of mid (nth (after_of s) j first)) (differs (nth (after_of s) j first) next (λ same. away (walk (after_of s) k first) (nth (after_of s) j first) (nth (after_of s) k first) t gone (same ∙ at)))
        ∙ before.apart j earlier
  ] refl;
}
  where
    strict : {j k : ℕ} → nat_eq j k ≡ false → j < suc k → j < k
    strict e under = grind (arith, nat_tests, e, under)

    if_no : (b : Bool) (v w : ℕ) → b ≡ false → (if b then v else w) ≡ w
    if_no true v w h = cc
    if_no false v w h = refl

    if_yes : (b : Bool) (v w : ℕ) → b ≡ true → (if b then v else w) ≡ v
    if_yes true v w h = refl
    if_yes false v w h = cc

-- ---- how far a crowd goes

pub one_more : (k : ℕ) → suc k ≡ k + 1
one_more k = omega arith

pub crowd_goes_on : (s : Slots) (y c next after : ℕ) → has (walk (after_of s) c (after_of s y)) END ≡ false → next ≡ nth (after_of s) c (after_of s y) → next ≢ END → after ≡ after_of s next
    → (after ≡ nth (after_of s) (c + 1) (after_of s y)) × (has (walk (after_of s) (c + 1) (after_of s y)) END ≡ false)
crowd_goes_on s y c next after off at apart is = (
  is ∙ ap (after_of s) at ∙ sym (nth-next (after_of s) c (after_of s y)) ∙ ap (λ m. nth (after_of s) m (after_of s y)) (one_more c),
  ap (λ m. has (walk (after_of s) m (after_of s y)) END) (sym (one_more c)) ∙ walk-lacks (after_of s) c (after_of s y) END off (λ end. apart (at ∙ end)),
)

pub crowd_within : (s : Slots) (xs : List ℕ) (y c step : ℕ) → Keeps s xs → has xs y ≡ true → IsCrowd s y c step → label_of s y + c * step < 2 ^ 64
crowd_within s xs y c step keeps h crowd =
    let ws = what_is_behind s xs y keeps h in
    let next = nth (after_of s) c (after_of s y) in
    ⊎_elim
    (λ t.
    let below = (rise-between (label_of s) (label_of s y) ws.0 (2 ^ 64) next ws.1.rising t).1 in
    let under = crowd.next (away ws.0 next END t ws.1.lacks) in
    omega (arith, below, under))
    (λ is. let under = crowd.last is in omega (arith, under))
    (crowd-next (after_of s) (before_of s) c y ws.0 END ws.1.linked crowd.entries)
