-- Laws of the cut into lines.
use Rattle.std.proofs.Common.{◌≡◌, ◌≢◌, ℕ, suc, ◌+◌, ◌-◌, ◌<◌, true, false, eqb, List, [], ◌∷◌, ◌++◌, length, get_or, take, drop, Option, Some, None, MatchOption, refl, sym, ap, ◌∙◌, subst, inl, inr, arith}
use Rattle.std.proofs.Math.Seq.{take-add}
use Rattle.std.specs.List.{onto_first, position_or_len, position}
use Rattle.std.proofs.lemmas.Bool.{cases_eq, cases_Bool, cases_lt, lt-ltb, le-ltb, eq-eqb, ne_eqb, cond-true, cond-false, and_right}
use Rattle.std.proofs.lemmas.List.{take_rest, take_all, append-nil, take-append-drop, drop-drop, length-drop}
use Rattle.host_io.specs.Lines.{has_feed, is_paired_return, onto_whole, lines_of, whole_lines, LacksFeed, IsWhole, without_return, IsFirstFeed}

-- no LF stands before the first
lacks_before : (bs : List ℕ) → LacksFeed (take (position_or_len (λ b. eqb b 10) bs) bs)
lacks_before [] = tt
lacks_before (b ∷ bs) =
    let p = position_or_len (λ b. eqb b 10) bs in
    let more : 1 + p ≡ suc p = omega arith in
    elim (cases_eq b 10) [
      | inl e ↦ rw (eq-eqb b 10 e) tt
      | inr ne ↦ rw (ne_eqb b 10 ne, more) (ne, lacks_before bs)
    ]

-- the first LF
feed_at : (bs : List ℕ) → position_or_len (λ b. eqb b 10) bs < length bs → drop (position_or_len (λ b. eqb b 10) bs) bs ≡ 10 ∷ drop (position_or_len (λ b. eqb b 10) bs + 1) bs
feed_at [] h = absurd (omega arith)
feed_at (b ∷ bs) h =
    let p = position_or_len (λ b. eqb b 10) bs in
    let more : 1 + p ≡ suc p = omega arith in
    let next : suc p + 1 ≡ suc (p + 1) = omega arith in
    elim (cases_eq b 10) [
      | inl e ↦ rw (eq-eqb b 10 e) (ap (λ x. x ∷ bs) e)
      | inr ne ↦
          let short : p < length bs = omega (arith, rw (ne_eqb b 10 ne) at h) in
          rw (ne_eqb b 10 ne, more, next) (feed_at bs short)
    ]

-- what `position` tells
feed_from_position : (bs : List ℕ) (found : Option ℕ) → found ≡ position (λ b. eqb b 10) bs → MatchOption found (LacksFeed bs) (IsFirstFeed bs)
feed_from_position bs found e =
    let p = position_or_len (λ b. eqb b 10) bs in
    elim (cases_lt p (length bs)) [
      | inl h ↦ subst (λ (o : Option ℕ). MatchOption o (LacksFeed bs) (IsFirstFeed bs)) (sym (e ∙ cond-true _ _ _ (lt-ltb p (length bs) h)))
          (record { within = h; before = lacks_before bs; here = feed_at bs h })
      | inr h ↦ subst (λ (o : Option ℕ). MatchOption o (LacksFeed bs) (IsFirstFeed bs)) (sym (e ∙ cond-false _ _ _ (le-ltb p (length bs) h)))
          (subst LacksFeed (take_all p bs h) (lacks_before bs))
    ]

-- parts without LF make a whole without LF
lacks-append : (xs ys : List ℕ) → LacksFeed xs → LacksFeed ys → LacksFeed (xs ++ ys)
lacks-append [] ys h k = k
lacks-append (x ∷ xs) ys h k = (h.0, lacks-append xs ys h.1 k)

-- behind a prefix without LF the search may begin
lacks_from : (bs : List ℕ) (searched : ℕ) → LacksFeed (take searched bs) → LacksFeed (drop searched bs) → LacksFeed bs
lacks_from bs searched prefix back =
    subst LacksFeed (take-append-drop searched bs) (lacks-append (take searched bs) (drop searched bs) prefix back)

feed_from : (bs : List ℕ) (searched place : ℕ) → LacksFeed (take searched bs) → IsFirstFeed (drop searched bs) place → IsFirstFeed bs (searched + place)
feed_from bs searched place prefix first =
    let same : searched + place + 1 ≡ searched + (place + 1) = omega arith in
    record {
      within = omega (arith, length-drop searched bs, first.within);
      before = rw take-add (lacks-append _ _ prefix first.before);
      here = rw (same, ← drop-drop place searched bs, ← drop-drop (place + 1) searched bs) first.here;
    }

-- the same, told of the part that was searched
pub searched_none : (bs : List ℕ) (searched : ℕ) → LacksFeed (take searched bs) → None ≡ position (λ b. eqb b 10) (take (length bs - searched) (drop searched bs)) → LacksFeed bs
searched_none bs searched prefix e =
    lacks_from bs searched prefix (subst LacksFeed (take_rest bs searched) (feed_from_position _ None e))

pub searched_found : (bs : List ℕ) (searched place : ℕ) → LacksFeed (take searched bs) → Some place ≡ position (λ b. eqb b 10) (take (length bs - searched) (drop searched bs)) → IsFirstFeed bs (searched + place)
searched_found bs searched place prefix e =
    let motive : List ℕ → Type 0 = λ part. IsFirstFeed part place in
    feed_from bs searched place prefix (subst motive (take_rest bs searched) (feed_from_position _ (Some place) e))

-- one step of the cut
pub lines_of-feed : (b : ℕ) (bs : List ℕ) → b ≡ 10 → lines_of (b ∷ bs) ≡ [] ∷ lines_of bs
lines_of-feed b bs e = cond-true _ _ _ (eq-eqb b 10 e)

pub lines_of-paired : (b : ℕ) (bs : List ℕ) → b ≢ 10 → is_paired_return b bs ≡ true → lines_of (b ∷ bs) ≡ lines_of bs
lines_of-paired b bs ne e = cond-false _ _ _ (ne_eqb b 10 ne) ∙ cond-true _ _ _ e

pub lines_of-byte : (b : ℕ) (bs : List ℕ) → b ≢ 10 → is_paired_return b bs ≡ false → lines_of (b ∷ bs) ≡ onto_first b (lines_of bs)
lines_of-byte b bs ne e = cond-false _ _ _ (ne_eqb b 10 ne) ∙ cond-false _ _ _ e

-- a CR is paired by an LF alone
pub unpaired : (b c : ℕ) (bs : List ℕ) → c ≢ 10 → is_paired_return b (c ∷ bs) ≡ false
unpaired b c bs ne = and_right _ _ (ne_eqb c 10 ne)

-- a line with its LF is one line
pub lines_of-line : (text : List ℕ) → LacksFeed text → lines_of (text ++ 10 ∷ []) ≡ without_return text ∷ []
lines_of-line [] h = refl
lines_of-line (b ∷ []) h =
    elim (cases_Bool (eqb b 13)) [
      | inl e ↦ lines_of-paired b (10 ∷ []) h.0 (rw e refl) ∙ rw e refl
      | inr e ↦ lines_of-byte b (10 ∷ []) h.0 (rw e refl) ∙ rw e refl
    ]
lines_of-line (b ∷ c ∷ bs) h =
    lines_of-byte b (c ∷ (bs ++ 10 ∷ [])) h.0 (unpaired b c (bs ++ 10 ∷ []) h.1.0) ∙ ap (onto_first b) (lines_of-line (c ∷ bs) h.1)

-- a text without LF is one line
pub lines_of-last : (b : ℕ) (bs : List ℕ) → LacksFeed (b ∷ bs) → lines_of (b ∷ bs) ≡ (b ∷ bs) ∷ []
lines_of-last b [] h = lines_of-byte b [] h.0 (and_right _ _ refl)
lines_of-last b (c ∷ bs) h =
    lines_of-byte b (c ∷ bs) h.0 (unpaired b c bs h.1.0) ∙ ap (onto_first b) (lines_of-last c bs h.1)

-- the CR at the end
pub without_return-last : (xs : List ℕ) → 0 < length xs → get_or xs (length xs - 1) 0 ≡ 13 → without_return xs ≡ take (length xs - 1) xs
without_return-last [] some e = absurd (omega arith)
without_return-last (b ∷ []) some e = cond-true _ _ _ (eq-eqb b 13 e)
without_return-last (b ∷ c ∷ bs) some e =
    let back : length (b ∷ c ∷ bs) - 1 ≡ suc (length (c ∷ bs) - 1) = omega arith in
    rw back (ap (λ ys. b ∷ ys) (without_return-last (c ∷ bs) (omega arith) (rw back at e)))

pub without_return-none : (xs : List ℕ) → (0 < length xs → get_or xs (length xs - 1) 0 ≢ 13) → without_return xs ≡ xs
without_return-none [] ne = refl
without_return-none (b ∷ []) ne = cond-false _ _ _ (ne_eqb b 13 (ne (omega arith)))
without_return-none (b ∷ c ∷ bs) ne =
    let back : length (b ∷ c ∷ bs) - 1 ≡ suc (length (c ∷ bs) - 1) = omega arith in
    ap (λ ys. b ∷ ys) (without_return-none (c ∷ bs) (λ _. rw back at (ne (omega arith))))

-- a byte makes a line
onto_first-has : (b : ℕ) (ls : List (List ℕ)) → (l : List ℕ) × ((ms : List (List ℕ)) × (onto_first b ls ≡ l ∷ ms))
onto_first-has b [] = (b ∷ [], ([], refl))
onto_first-has b (l ∷ ls) = (b ∷ l, (ls, refl))

lines_of-has : (b : ℕ) (bs : List ℕ) → (l : List ℕ) × ((ms : List (List ℕ)) × (lines_of (b ∷ bs) ≡ l ∷ ms))
lines_of-has b [] =
    elim (cases_eq b 10) [
      | inl e ↦ ([], ([], lines_of-feed b [] e))
      | inr ne ↦ (b ∷ [], ([], lines_of-byte b [] ne (and_right _ _ refl)))
    ]
lines_of-has b (c ∷ bs) =
    elim (cases_eq b 10) [
      | inl e ↦ ([], (lines_of (c ∷ bs), lines_of-feed b (c ∷ bs) e))
      | inr ne ↦ elim (cases_Bool (is_paired_return b (c ∷ bs))) [
        | inl e ↦ let m = lines_of-has c bs in (m.0, (m.1.0, lines_of-paired b (c ∷ bs) ne e ∙ m.1.1))
        | inr e ↦ let m = onto_first-has b (lines_of (c ∷ bs)) in (m.0, (m.1.0, lines_of-byte b (c ∷ bs) ne e ∙ m.1.1))
      ]
    ]

onto_first-append : (b : ℕ) (ls ms : List (List ℕ)) (l : List ℕ) (rest : List (List ℕ)) → ls ≡ l ∷ rest → onto_first b (ls ++ ms) ≡ onto_first b ls ++ ms
onto_first-append b [] ms l rest e = (cc)
onto_first-append b (l' ∷ ls) ms l rest e = refl

-- behind whole lines the cut begins anew
pub lines_of-append : (xs ys : List ℕ) → IsWhole xs → lines_of (xs ++ ys) ≡ lines_of xs ++ lines_of ys
lines_of-append [] ys h = refl
lines_of-append (b ∷ []) ys h = lines_of-feed b ys h ∙ ap (λ ls. ls ++ lines_of ys) (sym (lines_of-feed b [] h))
lines_of-append (b ∷ c ∷ bs) ys h =
    let again = lines_of-append (c ∷ bs) ys h in
    elim (cases_eq b 10) [
      | inl e ↦ lines_of-feed b (c ∷ (bs ++ ys)) e ∙ ap (λ ls. [] ∷ ls) again
          ∙ ap (λ ls. ls ++ lines_of ys) (sym (lines_of-feed b (c ∷ bs) e))
      | inr ne ↦ elim (cases_Bool (is_paired_return b (c ∷ bs))) [
        | inl e ↦ lines_of-paired b (c ∷ (bs ++ ys)) ne e ∙ again
            ∙ ap (λ ls. ls ++ lines_of ys) (sym (lines_of-paired b (c ∷ bs) ne e))
        | inr e ↦ let m = lines_of-has c bs in
            lines_of-byte b (c ∷ (bs ++ ys)) ne e ∙ ap (onto_first b) again
            ∙ onto_first-append b (lines_of (c ∷ bs)) (lines_of ys) m.0 m.1.0 m.1.1
            ∙ ap (λ ls. ls ++ lines_of ys) (sym (lines_of-byte b (c ∷ bs) ne e))
      ]
    ]

-- one step of the cut into whole lines
whole_lines-feed : (b : ℕ) (bs : List ℕ) → b ≡ 10 → whole_lines (b ∷ bs) ≡ [] ∷ whole_lines bs
whole_lines-feed b bs e = cond-true _ _ _ (eq-eqb b 10 e)

whole_lines-paired : (b : ℕ) (bs : List ℕ) → b ≢ 10 → is_paired_return b bs ≡ true → whole_lines (b ∷ bs) ≡ whole_lines bs
whole_lines-paired b bs ne e = cond-false _ _ _ (ne_eqb b 10 ne) ∙ cond-true _ _ _ e

whole_lines-byte : (b : ℕ) (bs : List ℕ) → b ≢ 10 → is_paired_return b bs ≡ false → whole_lines (b ∷ bs) ≡ onto_whole b (whole_lines bs)
whole_lines-byte b bs ne e = cond-false _ _ _ (ne_eqb b 10 ne) ∙ cond-false _ _ _ e

-- no whole line without LF
pub whole_lines-lacks : (bs : List ℕ) → LacksFeed bs → whole_lines bs ≡ []
whole_lines-lacks [] h = refl
whole_lines-lacks (b ∷ []) h = whole_lines-byte b [] h.0 (and_right _ _ refl)
whole_lines-lacks (b ∷ c ∷ bs) h =
    whole_lines-byte b (c ∷ bs) h.0 (unpaired b c bs h.1.0) ∙ ap (onto_whole b) (whole_lines-lacks (c ∷ bs) h.1)

onto_whole-append : (b : ℕ) (ls ms : List (List ℕ)) (l : List ℕ) (rest : List (List ℕ)) → ls ≡ l ∷ rest → onto_whole b (ls ++ ms) ≡ onto_first b ls ++ ms
onto_whole-append b [] ms l rest e = (cc)
onto_whole-append b (l' ∷ ls) ms l rest e = refl

-- behind whole lines the cut into whole lines begins anew
pub whole_lines-append : (xs ys : List ℕ) → IsWhole xs → whole_lines (xs ++ ys) ≡ lines_of xs ++ whole_lines ys
whole_lines-append [] ys h = refl
whole_lines-append (b ∷ []) ys h = whole_lines-feed b ys h ∙ ap (λ ls. ls ++ whole_lines ys) (sym (lines_of-feed b [] h))
whole_lines-append (b ∷ c ∷ bs) ys h =
    let again = whole_lines-append (c ∷ bs) ys h in
    elim (cases_eq b 10) [
      | inl e ↦ whole_lines-feed b (c ∷ (bs ++ ys)) e ∙ ap (λ ls. [] ∷ ls) again
          ∙ ap (λ ls. ls ++ whole_lines ys) (sym (lines_of-feed b (c ∷ bs) e))
      | inr ne ↦ elim (cases_Bool (is_paired_return b (c ∷ bs))) [
        | inl e ↦ whole_lines-paired b (c ∷ (bs ++ ys)) ne e ∙ again
            ∙ ap (λ ls. ls ++ whole_lines ys) (sym (lines_of-paired b (c ∷ bs) ne e))
        | inr e ↦ let m = lines_of-has c bs in
            whole_lines-byte b (c ∷ (bs ++ ys)) ne e ∙ ap (onto_whole b) again
            ∙ onto_whole-append b (lines_of (c ∷ bs)) (whole_lines ys) m.0 m.1.0 m.1.1
            ∙ ap (λ ls. ls ++ whole_lines ys) (sym (lines_of-byte b (c ∷ bs) ne e))
      ]
    ]

-- whole lines before a rest without LF are all whole lines
pub whole_lines-rest : (xs ys : List ℕ) → IsWhole xs → LacksFeed ys → whole_lines (xs ++ ys) ≡ lines_of xs
whole_lines-rest xs ys h lacks =
    whole_lines-append xs ys h ∙ ap (λ ls. lines_of xs ++ ls) (whole_lines-lacks ys lacks) ∙ append-nil (lines_of xs)

-- whole lines and a text that ends with LF are whole lines
pub IsWhole-line : (text : List ℕ) → IsWhole (text ++ 10 ∷ [])
IsWhole-line [] = refl
IsWhole-line (b ∷ []) = refl
IsWhole-line (b ∷ c ∷ bs) = IsWhole-line (c ∷ bs)

pub IsWhole-append : (xs ys : List ℕ) → IsWhole xs → IsWhole ys → IsWhole (xs ++ ys)
IsWhole-append [] ys h k = k
IsWhole-append (b ∷ []) [] h k = h
IsWhole-append (b ∷ []) (c ∷ ys) h k = k
IsWhole-append (b ∷ c ∷ bs) ys h k = IsWhole-append (c ∷ bs) ys h k

-- where no byte is LF, no whole line stands
pub has_feed-lacks : (bytes : List ℕ) → LacksFeed bytes → has_feed bytes ≡ false
has_feed-lacks [] lacks = refl
has_feed-lacks (b ∷ bs) lacks = rw (ne_eqb b 10 lacks.0) (has_feed-lacks bs lacks.1)
