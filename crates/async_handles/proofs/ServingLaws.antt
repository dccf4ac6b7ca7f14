-- Calls of which some were served.
use Rattle.std.proofs.Common.{◌≡◌, true, false, cond, not, ◌||◌, None, Some, List, [], ◌∷◌, ◌++◌, refl, sym, ap, ◌∙◌, true≢false}
use Rattle.async_handles.specs.declared.open_calls.OpenCall.{OpenCall}
use Rattle.async_handles.specs.OpenCalls.{calls_after_serving, first_unserved}
use Rattle.async_handles.specs.Tree.{any_unserved}

-- where one of the front wasn't served, it is served
pub serving_front : (l r : List OpenCall) → any_unserved l ≡ true → calls_after_serving (l ++ r) ≡ calls_after_serving l ++ r
serving_front [] r h = absurd (true≢false (sym h))
serving_front (e ∷ l) r h =
    elim e.is_served as (λ b. (not b || any_unserved l) ≡ true → cond b (e ∷ calls_after_serving (l ++ r)) ((record e { is_served = true }) ∷ (l ++ r)) ≡ cond b (e ∷ calls_after_serving l) ((record e { is_served = true }) ∷ l) ++ r) [
      | true ↦ λ h. ap (λ c. e ∷ c) (serving_front l r h)
      | false ↦ λ h. refl
    ] h

-- where all of the front were served, the back is served
pub serving_back : (l r : List OpenCall) → any_unserved l ≡ false → calls_after_serving (l ++ r) ≡ l ++ calls_after_serving r
serving_back [] r h = refl
serving_back (e ∷ l) r h =
    elim e.is_served as (λ b. (not b || any_unserved l) ≡ false → cond b (e ∷ calls_after_serving (l ++ r)) ((record e { is_served = true }) ∷ (l ++ r)) ≡ e ∷ (l ++ calls_after_serving r)) [
      | true ↦ λ h. ap (λ c. e ∷ c) (serving_back l r h)
      | false ↦ λ h. absurd (true≢false h)
    ] h

pub first_front : (l r : List OpenCall) → any_unserved l ≡ true → first_unserved (l ++ r) ≡ first_unserved l
first_front [] r h = absurd (true≢false (sym h))
first_front (e ∷ l) r h =
    elim e.is_served as (λ b. (not b || any_unserved l) ≡ true → cond (not b) (Some e) (first_unserved (l ++ r)) ≡ cond (not b) (Some e) (first_unserved l)) [
      | true ↦ λ h. first_front l r h
      | false ↦ λ h. refl
    ] h

pub first_back : (l r : List OpenCall) → any_unserved l ≡ false → first_unserved (l ++ r) ≡ first_unserved r
first_back [] r h = refl
first_back (e ∷ l) r h =
    elim e.is_served as (λ b. (not b || any_unserved l) ≡ false → cond (not b) (Some e) (first_unserved (l ++ r)) ≡ first_unserved r) [
      | true ↦ λ h. first_back l r h
      | false ↦ λ h. absurd (true≢false h)
    ] h

-- where all were served, there is no first that wasn't
pub first_none : (l : List OpenCall) → any_unserved l ≡ false → first_unserved l ≡ None
first_none [] h = refl
first_none (e ∷ l) h =
    elim e.is_served as (λ b. (not b || any_unserved l) ≡ false → cond (not b) (Some e) (first_unserved l) ≡ None) [
      | true ↦ λ h. first_none l h
      | false ↦ λ h. absurd (true≢false h)
    ] h

-- a call that wasn't served, behind calls that were
pub serving_here : (l : List OpenCall) (e : OpenCall) (r : List OpenCall) → any_unserved l ≡ false → e.is_served ≡ false
    → calls_after_serving (l ++ e ∷ r) ≡ l ++ (record e { is_served = true }) ∷ r
serving_here l e r h here =
    serving_back l (e ∷ r) h
    ∙ ap (λ b. l ++ cond b (e ∷ calls_after_serving r) ((record e { is_served = true }) ∷ r)) here

-- calls behind one that was served
pub serving_behind : (l : List OpenCall) (e : OpenCall) (r : List OpenCall) → any_unserved l ≡ false → e.is_served ≡ true
    → calls_after_serving (l ++ e ∷ r) ≡ l ++ e ∷ calls_after_serving r
serving_behind l e r h here =
    serving_back l (e ∷ r) h
    ∙ ap (λ b. l ++ cond b (e ∷ calls_after_serving r) ((record e { is_served = true }) ∷ r)) here

pub first_here : (l : List OpenCall) (e : OpenCall) (r : List OpenCall) → any_unserved l ≡ false → e.is_served ≡ false → first_unserved (l ++ e ∷ r) ≡ Some e
first_here l e r h here =
    first_back l (e ∷ r) h
    ∙ ap (λ b. cond (not b) (Some e) (first_unserved r)) here

pub first_behind : (l : List OpenCall) (e : OpenCall) (r : List OpenCall) → any_unserved l ≡ false → e.is_served ≡ true → first_unserved (l ++ e ∷ r) ≡ first_unserved r
first_behind l e r h here =
    first_back l (e ∷ r) h
    ∙ ap (λ b. cond (not b) (Some e) (first_unserved r)) here
