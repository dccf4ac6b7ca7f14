-- A list that was only appended to keeps its prefix.
use Rattle.std.proofs.Common.{ℕ, ◌≡◌, ◌≤◌, List, ◌++◌, length, take, refl, sym, ap, ◌∙◌, arith, min, Result, Ok, Err, OnOk, append_assoc}
use Rattle.std.proofs.lemmas.List.{take-take, length-take}
use Rattle.std.proofs.Math.Seq.{take-append_seam}

min-right : (m n : ℕ) → min m n ≤ n
min-right m n = omega arith

-- a list that has this prefix is no shorter
prefix-fits : (old new : List ℕ) → take (length old) new ≡ old → length old ≤ length new
prefix-fits old new h =
    let short : min (length old) (length new) ≡ length old = sym (length-take (length old) new) ∙ ap length h in
    omega (arith, short, min-right (length old) (length new))

prefix-kept : (old mid new : List ℕ) → take (length old) mid ≡ old → take (length mid) new ≡ mid → take (length old) new ≡ old
prefix-kept old mid new h k =
    sym (take-take (length old) (length mid) new (prefix-fits old mid h)) ∙ ap (take (length old)) k ∙ h

-- one list after another was appended to
pub prefix-more : (m n : ℕ) (old mid new : List ℕ) → m ≡ length old → n ≡ length mid → take m mid ≡ old → take n new ≡ mid → take m new ≡ old
prefix-more m n old mid new long longer h k =
    ap (λ j. take j new) long ∙ prefix-kept old mid new (ap (λ j. take j mid) (sym long) ∙ h) (ap (λ j. take j new) (sym longer) ∙ k)

pub prefix-appended : (m : ℕ) (old new added : List ℕ) → m ≡ length old → new ≡ old ++ added → take m new ≡ old
prefix-appended m old new added long h = ap (take m) h ∙ ap (λ j. take j (old ++ added)) long ∙ take-append_seam old added

-- what was kept is kept where more is appended
pub prefix-after : (m : ℕ) (old mid new added : List ℕ) → m ≡ length old → take m mid ≡ old → new ≡ mid ++ added → take m new ≡ old
prefix-after m old mid new added long h e =
    prefix-more m (length mid) old mid new long refl h (prefix-appended (length mid) mid new added refl e)

-- what an answer without a fault says, beside what holds anyhow
pub OnOk-with : {T E : Type 0} (r : Result T E) (P Q : Type 0) → OnOk r P → Q → OnOk r (P × Q)
OnOk-with (Ok x) P Q h q = (h, q)
OnOk-with (Err e) P Q h q = tt

-- what was appended in two steps was appended
pub appended-twice : {T E : Type 0} (r : Result T E) (old mid new first rest both : List ℕ) → mid ≡ old ++ first → both ≡ first ++ rest → OnOk r (new ≡ mid ++ rest) → OnOk r (new ≡ old ++ both)
appended-twice (Ok x) old mid new first rest both e f h =
    h ∙ ap (λ l. l ++ rest) e ∙ append_assoc old first rest ∙ ap (λ l. old ++ l) (sym f)
appended-twice (Err x) old mid new first rest both e f h = tt
