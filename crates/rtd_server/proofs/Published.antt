-- What was published for strings at the opening stays when something is published for some.
use Rattle.std.proofs.Common.{◌≡◌, true, false, cond, ◌||◌, Option, Some, None, is_some, unwrap_or, refl, ap, sym, subst, ◌∙◌}
use Rattle.rtd_server.specs.Strings.{Strings, same_strings, same_strings_is}

-- of a choice that there is, the default doesn't matter
default_hidden : {X : Type 0} (found : Option X) (v w : X) → is_some found ≡ true → unwrap_or found v ≡ unwrap_or found w
default_hidden None v w h = cc
default_hidden (Some x) v w h = refl

-- what holds nothing is None
none_from : {X : Type 0} (found : Option X) → false ≡ is_some found → found ≡ None
none_from None h = refl
none_from (Some x) h = cc

-- where something was noted before, what is published anew is hidden
pub opening-where_noted : {X : Type 0} (before : Strings → Option X) (old new : Strings → X) (w : X) (strings : Strings) → true ≡ is_some (before strings) → ((q : Strings) → new q ≡ cond (same_strings strings q) w (old q))
    → (q : Strings) → unwrap_or (before q) (new q) ≡ unwrap_or (before q) (old q)
opening-where_noted before old new w strings noted puts q = elim (same_strings strings q) as (λ b. same_strings strings q ≡ b → unwrap_or (before q) (new q) ≡ unwrap_or (before q) (old q)) [
  | true ↦ λ same. default_hidden (before q) (new q) (old q) (subst (λ s. is_some (before s) ≡ true) (same_strings_is strings q same) (sym noted))
  | false ↦ λ apart. ap (unwrap_or (before q)) (puts q ∙ ap (λ b. cond b w (old q)) apart)
] refl

-- where nothing was noted before, what was published is noted
pub opening-where_new : {X : Type 0} (before after : Strings → Option X) (old new : Strings → X) (v w : X) (strings : Strings) → false ≡ is_some (before strings) → v ≡ old strings
    → ((q : Strings) → new q ≡ cond (same_strings strings q) w (old q))
    → ((q : Strings) → after q ≡ cond (same_strings strings q) (Some v) (before q))
    → (q : Strings) → unwrap_or (after q) (new q) ≡ unwrap_or (before q) (old q)
opening-where_new before after old new v w strings absent is puts notes q = elim (same_strings strings q) as (λ b. same_strings strings q ≡ b → unwrap_or (after q) (new q) ≡ unwrap_or (before q) (old q)) [
  | true ↦ λ same.
      ap (λ found. unwrap_or found (new q)) (notes q ∙ ap (λ b. cond b (Some v) (before q)) same)
      ∙ is ∙ ap old (same_strings_is strings q same)
      ∙ ap (λ found. unwrap_or found (old q)) (sym (subst (λ s. before s ≡ None) (same_strings_is strings q same) (none_from (before strings) absent)))
  | false ↦ λ apart.
      ap (λ found. unwrap_or found (new q)) (notes q ∙ ap (λ b. cond b (Some v) (before q)) apart)
      ∙ ap (unwrap_or (before q)) (puts q ∙ ap (λ b. cond b w (old q)) apart)
] refl

-- where something was noted before, the strings are fresh already
pub fresh-where_noted : {X : Type 0} (before : Strings → Option X) (strings : Strings) → true ≡ is_some (before strings) → (q : Strings) → is_some (before q) ≡ (same_strings strings q || is_some (before q))
fresh-where_noted before strings noted q = elim (same_strings strings q) as (λ b. same_strings strings q ≡ b → is_some (before q) ≡ (b || is_some (before q))) [
  | true ↦ λ same. subst (λ s. is_some (before s) ≡ true) (same_strings_is strings q same) (sym noted)
  | false ↦ λ apart. refl
] refl
