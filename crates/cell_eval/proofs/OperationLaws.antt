-- What single steps of an evaluation compute.
use Rattle.std.proofs.Common.{◌≡◌, ◌≢◌, ℕ, suc, ◌+◌, ◌-◌, ◌<◌, subst, Bool, true, false, ◌||◌, cond, List, [], ◌∷◌, ◌++◌, map, length, take, drop, get_or, refl, sym, ap, ◌∙◌, arith}
use Rattle.std.proofs.Math.ListN.{set}
use Rattle.std.proofs.Math.Seq.{set-append_seam, get_or-append_seam}
use Rattle.std.proofs.lemmas.List.{append_assoc, drop_more, take_more, map-append, length-map, length-take-le}
use Rattle.cell_values.specs.declared.values.Value.{Value}
use Rattle.cell_values.specs.declared.values.Value.TheVariants as values
use Rattle.cell_values.specs.Value.{negate_of, final_of}
use Rattle.workbook.specs.Evaluation.{Answer, repeated_negation}

-- a turn of a negation
pub one_turn : (count turns : ℕ) (v : Value) → turns < count → repeated_negation (count - turns) v ≡ repeated_negation (count - (turns + 1)) (negate_of v)
one_turn count turns v lt =
    let left : count - turns ≡ suc (count - (turns + 1)) = omega arith in
    ap (λ n. repeated_negation n v) left

-- values of which the first are finished
abbrev pub finished_to : ℕ → List Value → List Value
finished_to i vs = map final_of (take i vs) ++ drop i vs

-- the next value stands as it was
finished_split : (i : ℕ) (vs : List Value) (d : Value) → i < length vs → finished_to i vs ≡ map final_of (take i vs) ++ (get_or vs i d ∷ drop (i + 1) vs)
finished_split i vs d lt = ap (λ rest. map final_of (take i vs) ++ rest) (drop_more vs i d lt)

finished_count : (i : ℕ) (vs : List Value) → i < length vs → length (map final_of (take i vs)) ≡ i
finished_count i vs lt = length-map (take i vs) final_of ∙ length-take-le i vs (omega arith)

pub finished_at : (i : ℕ) (vs : List Value) (d : Value) → i < length vs → get_or (finished_to i vs) i d ≡ get_or vs i d
finished_at i vs d lt =
    ap (λ l. get_or l i d) (finished_split i vs d lt)
    ∙ ap (λ n. get_or (map final_of (take i vs) ++ (get_or vs i d ∷ drop (i + 1) vs)) n d) (sym (finished_count i vs lt))
    ∙ get_or-append_seam (map final_of (take i vs)) (get_or vs i d) (drop (i + 1) vs) d

-- a value more is finished
pub finished_more : (i : ℕ) (vs : List Value) (d : Value) → i < length vs → finished_to (i + 1) vs ≡ map final_of (take i vs) ++ (final_of (get_or vs i d) ∷ drop (i + 1) vs)
finished_more i vs d lt =
    ap (λ l. map final_of l ++ drop (i + 1) vs) (take_more vs i d lt)
    ∙ ap (λ l. l ++ drop (i + 1) vs) (map-append final_of (take i vs) (get_or vs i d ∷ []))
    ∙ append_assoc (map final_of (take i vs)) (final_of (get_or vs i d) ∷ []) (drop (i + 1) vs)

-- where it is a Blank, 0 is put in its place
pub finished_blank : (i : ℕ) (vs : List Value) (d : Value) → i < length vs → get_or vs i d ≡ values.Blank → set (finished_to i vs) i (final_of values.Blank) ≡ finished_to (i + 1) vs
finished_blank i vs d lt blank =
    ap (λ l. set l i (final_of values.Blank)) (finished_split i vs d lt)
    ∙ ap (λ n. set (map final_of (take i vs) ++ (get_or vs i d ∷ drop (i + 1) vs)) n (final_of values.Blank)) (sym (finished_count i vs lt))
    ∙ set-append_seam (map final_of (take i vs)) (get_or vs i d) (drop (i + 1) vs) (final_of values.Blank)
    ∙ sym (ap (λ v. map final_of (take i vs) ++ (final_of v ∷ drop (i + 1) vs)) blank)
    ∙ sym (finished_more i vs d lt)

-- another value stays
pub finished_other : (i : ℕ) (vs : List Value) (d : Value) → i < length vs → final_of (get_or vs i d) ≡ get_or vs i d → finished_to i vs ≡ finished_to (i + 1) vs
finished_other i vs d lt other =
    finished_split i vs d lt
    ∙ sym (ap (λ v. map final_of (take i vs) ++ (v ∷ drop (i + 1) vs)) other)
    ∙ sym (finished_more i vs d lt)

-- the third of three answers, by two tests that fail and one that holds
pub third : (a b n : Bool) (x y z : Answer) → a ≡ false → b ≡ false → n ≡ true → cond (a || b) x (cond n y z) ≡ y
third true b n x y z p q r = absurd (cc)
third false true n x y z p q r = absurd (cc)
third false false true x y z p q r = refl
third false false false x y z p q r = absurd (cc)

-- a value that isn't Blank is finished
pub not_blank : (v : Value) → v ≢ values.Blank → final_of v ≡ v
not_blank (values.Num n) h = refl
not_blank (values.Text t) h = refl
not_blank (values.Bool b) h = refl
not_blank (values.Error e) h = refl
not_blank values.Blank h = absurd (h refl)

-- a turn in which a Blank is made 0
pub turn_blank : (vs items new : List Value) (i : ℕ) (item : Value) → i < length vs → items ≡ finished_to i vs → item ≡ get_or items i item → item ≡ values.Blank → new ≡ set items i (final_of values.Blank) → new ≡ finished_to (i + 1) vs
turn_blank vs items new i item lt is at blank made =
    made ∙ ap (λ l. set l i (final_of values.Blank)) is
    ∙ finished_blank i vs item lt (sym (at ∙ ap (λ l. get_or l i item) is ∙ finished_at i vs item lt) ∙ blank)

-- a turn in which the value stays
pub turn_other : (vs items new : List Value) (i : ℕ) (item : Value) → i < length vs → items ≡ finished_to i vs → item ≡ get_or items i item → item ≢ values.Blank → new ≡ items → new ≡ finished_to (i + 1) vs
turn_other vs items new i item lt is at other made =
    let same : item ≡ get_or vs i item = at ∙ ap (λ l. get_or l i item) is ∙ finished_at i vs item lt in
    made ∙ is ∙ finished_other i vs item lt (subst (λ v. final_of v ≡ v) same (not_blank item other))
