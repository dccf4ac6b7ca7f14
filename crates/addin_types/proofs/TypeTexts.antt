-- Type texts, both ways.
use Rattle.std.proofs.Common.{◌≡◌, ℕ, ◌≤◌, Bool, true, false, cond, ◌==◌, ◌||◌, List, [], ◌∷◌, ◌++◌, length, count_by, take_while, position, option_map, suc, Option, Some, None, Result, Ok, Err, IfOk, IfErr, refl, sym, ap, subst, ◌∙◌, arith}
use Rattle.std.proofs.lemmas.Bool.Decides.{nat_tests}
use Rattle.std.proofs.lemmas.List.Folds.{list_any-append}
use Rattle.std.specs.List.{list_any}
use Rattle.addin_types.specs.declared.registrations.Kind.{Kind}
use Rattle.addin_types.specs.declared.registrations.Kind.TheVariants as kinds
use Rattle.addin_types.specs.declared.registrations.Registration.{Registration}
use Rattle.addin_types.specs.declared.type_faults.TypeFault.{TypeFault}
use Rattle.addin_types.specs.TypeText.{IsAmong, IsFaultOf, IsRegistration, arguments_text, is_argument, is_handle, is_stranger, kind_text, mark_apart, misplaced_at, registration_in, registration_of, thread_text, type_fault, type_text, unless_fault}
use Rattle.addin_types.proofs.TypeFaults.{IsClean, cause_of_fault, clean, fault_of_cause, no_fault}
use Rattle.addin_types.proofs.TypeLetters.{any_arguments, any_handed, arguments_alone, before_handle, count_arguments, count_handed, handed, no_handles, none_passes, one_among, one_handle, parts_again, passes_none, whole_again}

-- the letters of a spelled text are arguments and handles, behind a `Q` or a `>`
spelled_parts : (c : ℕ) (cs : List ℕ) → misplaced_at (c ∷ cs) ≡ None → ((is_argument c || c == 62) ≡ true) × (list_any is_stranger (mark_apart cs).0 ≡ false)
spelled_parts c cs e = by_first (is_argument c || c == 62) refl (position is_stranger (mark_apart cs).0) refl e
  where
    by_first : (b : Bool) → (is_argument c || c == 62) ≡ b → (o : Option ℕ) → position is_stranger (mark_apart cs).0 ≡ o → cond b (option_map suc o) (Some 0) ≡ None → ((is_argument c || c == 62) ≡ true) × (list_any is_stranger (mark_apart cs).0 ≡ false)
    by_first true is None none h = (is, none_passes is_stranger (mark_apart cs).0 none)
    by_first true is (Some place) some h = cc
    by_first false is o at h = cc

-- a clean text is that of what it says
text_is : (text : List ℕ) → IsClean text → (text ≡ type_text (registration_of text)) × IsRegistration (registration_of text)
unfolding type_text registration_of
text_is [] is = absurd (omega (arith, is.spelled.some))
text_is (c ∷ cs) is =
    let parts = spelled_parts c cs is.spelled.placed in
    let by_kind = by_void (c == 62) refl parts.0 parts.1 is.handles in
    (by_kind.0, record { few = is.few; among = by_kind.1 })
  where
    by_void : (void : Bool) → (c == 62) ≡ void → (is_argument c || void) ≡ true → list_any is_stranger (mark_apart cs).0 ≡ false → count_by is_handle (mark_apart cs).0 ≡ cond void 1 0
        → (c ∷ cs ≡ kind_text (cond void (kinds.Asynchronous (length (take_while is_argument (mark_apart cs).0))) kinds.Plain) (count_by is_argument (mark_apart cs).0) ++ thread_text (mark_apart cs).1)
        × IsAmong (cond void (kinds.Asynchronous (length (take_while is_argument (mark_apart cs).0))) kinds.Plain) (count_by is_argument (mark_apart cs).0)
    by_void true is first known handles =
        let mark : c ≡ 62 = grind (arith, nat_tests) in
        let split = one_among (mark_apart cs).0 known handles in
        (ap (λ d. d ∷ cs) mark ∙ ap (λ more. 62 ∷ more) (whole_again cs ∙ ap (λ front. front ++ thread_text (mark_apart cs).1) split.0), split.1)
    by_void false is first known handles =
        let argument : c ≡ 81 = by_first (c == 81) refl first in
        (ap (λ d. d ∷ cs) argument ∙ ap (λ more. 81 ∷ more) (whole_again cs ∙ ap (λ front. front ++ thread_text (mark_apart cs).1) (arguments_alone (mark_apart cs).0 known handles)), tt)
      where
        by_first : (b : Bool) → (c == 81) ≡ b → (b || false) ≡ true → c ≡ 81
        by_first true is h = grind (arith, nat_tests)
        by_first false is h = absurd (cc)

-- what is read is a registration with this text
pub type_takes : (text : List ℕ) (r : Registration) → registration_in text ≡ Ok r → (text ≡ type_text r) × IsRegistration r
type_takes text r e = by_fault (type_fault text) refl e
  where
    by_fault : (o : Option TypeFault) → type_fault text ≡ o → unless_fault o text ≡ Ok r → (text ≡ type_text r) × IsRegistration r
    by_fault (Some fault) is h = cc
    by_fault None is h =
        let same : registration_of text ≡ r = cc in
        rw (← same) (text_is text (clean text is))

-- what a text says that is made of its parts
says : (c : ℕ) (letters : List ℕ) (b : Bool) → list_any is_stranger letters ≡ false → registration_of (c ∷ (letters ++ thread_text b)) ≡ record { kind = cond (c == 62) (kinds.Asynchronous (length (take_while is_argument letters))) kinds.Plain; arguments = count_by is_argument letters; thread_safe = b }
unfolding registration_of
says c letters b known =
    let said : List ℕ × Bool → Registration = λ x. record { kind = cond (c == 62) (kinds.Asynchronous (length (take_while is_argument x.0))) kinds.Plain; arguments = count_by is_argument x.0; thread_safe = x.1 } in
    ap said (parts_again letters b known)

no_macro : (b : Bool) → list_any (λ byte. byte == 35) (thread_text b) ≡ false
no_macro true = refl
no_macro false = refl

made_clean : (c : ℕ) (letters : List ℕ) (b : Bool) → list_any is_stranger letters ≡ false → list_any (λ byte. byte == 35) letters ≡ false → (is_argument c || c == 62) ≡ true → (c == 35) ≡ false → count_by is_handle letters ≡ cond (c == 62) 1 0 → count_by is_argument letters ≤ 255 → IsClean (c ∷ (letters ++ thread_text b))
made_clean c letters b known plain first other handles few =
    let parts = parts_again letters b known in
    let hash : ℕ → Bool = λ byte. byte == 35 in
    let placed_in : List ℕ × Bool → Option ℕ = λ x. cond (is_argument c || c == 62) (option_map {T = ℕ} {U = ℕ} suc (position is_stranger x.0)) (Some 0) in
    record {
      spelled = record {
        some = omega arith;
        plain = ap (λ t. t || list_any hash (letters ++ thread_text b)) other ∙ (list_any-append hash letters (thread_text b) ∙ (ap (λ t. t || list_any hash (thread_text b)) plain ∙ no_macro b));
        placed = ap placed_in parts ∙ (ap (λ t. cond t (option_map {T = ℕ} {U = ℕ} suc (position is_stranger letters)) (Some 0)) first ∙ ap (option_map {T = ℕ} {U = ℕ} suc) (passes_none is_stranger letters known));
      };
      handles = ap (λ (x : List ℕ × Bool). count_by is_handle x.0) parts ∙ handles;
      few = subst (λ (x : List ℕ × Bool). count_by is_argument x.0 ≤ 255) (sym parts) few;
    }

reads : (c : ℕ) (letters : List ℕ) (b : Bool) → list_any is_stranger letters ≡ false → IsClean (c ∷ (letters ++ thread_text b)) → registration_in (c ∷ (letters ++ thread_text b)) ≡ Ok (record { kind = cond (c == 62) (kinds.Asynchronous (length (take_while is_argument letters))) kinds.Plain; arguments = count_by is_argument letters; thread_safe = b })
reads c letters b known is = rw (no_fault (c ∷ (letters ++ thread_text b)) is) (ap Ok (says c letters b known))

again : (kind : Kind) (n : ℕ) (b : Bool) → n ≤ 255 → IsAmong kind n → registration_in (kind_text kind n ++ thread_text b) ≡ Ok (record { kind = kind; arguments = n; thread_safe = b })
again kinds.Plain n b few among =
    let known = any_arguments is_stranger n refl in
    reads 81 (arguments_text n) b known (made_clean 81 (arguments_text n) b known (any_arguments (λ byte. byte == 35) n refl) refl refl (no_handles n) (rw (count_arguments n) few))
    ∙ ap (λ m. Ok (record { kind = kinds.Plain; arguments = m; thread_safe = b })) (count_arguments n)
again (kinds.Asynchronous place) n b few among =
    let known = any_handed is_stranger place n refl refl in
    reads 62 (handed place n) b known (made_clean 62 (handed place n) b known (any_handed (λ byte. byte == 35) place n refl refl) refl refl (one_handle place n) (rw (count_handed place n among) few))
    ∙ (ap (λ m. Ok (record { kind = kinds.Asynchronous (length (take_while is_argument (handed place n))); arguments = m; thread_safe = b })) (count_handed place n among)
    ∙ ap (λ m. Ok (record { kind = kinds.Asynchronous m; arguments = n; thread_safe = b })) (before_handle place n))

-- a registration that is written reads back
pub type_again : (r : Registration) → IsRegistration r → registration_in (type_text r) ≡ Ok r
unfolding type_text
type_again r is = again r.kind r.arguments r.thread_safe is.few is.among

-- no two registrations are written alike
pub one_type : (a b : Registration) → IsRegistration a → IsRegistration b → type_text a ≡ type_text b → a ≡ b
one_type a b is_a is_b e =
    let both : ◌≡◌ {A = Result Registration TypeFault} (Ok a) (Ok b) = sym (type_again a is_a) ∙ (ap registration_in e ∙ type_again b is_b) in
    cc

-- what a text says, or why it is no type text
pub type_found : (text : List ℕ) (r : Result Registration TypeFault) → r ≡ registration_in text → IfOk r (λ r. (text ≡ type_text r) × IsRegistration r)
type_found text (Ok r) e = type_takes text r (sym e)
type_found text (Err fault) e = tt

refused : (text : List ℕ) (fault : TypeFault) → registration_in text ≡ Err fault → type_fault text ≡ Some fault
refused text fault e = by_fault (type_fault text) refl e
  where
    by_fault : (o : Option TypeFault) → type_fault text ≡ o → unless_fault o text ≡ Err fault → type_fault text ≡ Some fault
    by_fault (Some other) is h = let same : other ≡ fault = cc in is ∙ ap Some same
    by_fault None is h = cc

-- the cause of each fault
pub fault_takes : (text : List ℕ) (fault : TypeFault) → registration_in text ≡ Err fault → IsFaultOf fault text
fault_takes text fault e = cause_of_fault text fault (refused text fault e)

pub fault_again : (text : List ℕ) (fault : TypeFault) → IsFaultOf fault text → registration_in text ≡ Err fault
fault_again text fault cause = ap (λ o. unless_fault o text) (fault_of_cause text fault cause)

pub fault_found : (text : List ℕ) (r : Result Registration TypeFault) → r ≡ registration_in text → IfErr r (λ fault. IsFaultOf fault text)
fault_found text (Ok r) e = tt
fault_found text (Err fault) e = fault_takes text fault (sym e)
