-- Lemmas on the numbers that digits write, up to a cap.
use Rattle.std.proofs.Common.{◌≡◌, ℕ, ◌+◌, ◌*◌, ◌<◌, ◌≤◌, List, [], ◌∷◌, length, true, false, ◌&&◌, cond, min, nat_lt, Option, None, Some, Result, Ok, Err, refl, sym, ap, ◌∙◌, arith}
use Rattle.std.specs.List.{list_all}
use Rattle.std.specs.Char.{is_ascii_digit, digit_value}
use Rattle.std.specs.Str.Parse.{digits_value, digits_value_after}
use Rattle.lrs_web_requests.specs.BodyLengths.{is_number, stated_length, most, one_length, is_empty}
use Rattle.lrs_web_requests.specs.Values.{cap, capped_from, Summary, nothing, several, with_values, length_by, is_nothing}

next_capped : (a b d : ℕ) → min a cap ≡ min b cap → min (a * 10 + d) cap ≡ min (b * 10 + d) cap
next_capped a b d same = omega arith

-- numbers that the cap makes equal stay so under further digits
same_capped : (a b : ℕ) (cs : List ℕ) → min a cap ≡ min b cap → min (digits_value_after 10 a cs) cap ≡ min (digits_value_after 10 b cs) cap
same_capped a b [] same = same
same_capped a b (c ∷ cs) same =
    same_capped (a * 10 + digit_value c) (b * 10 + digit_value c) cs (next_capped a b (digit_value c) same)

-- what the loop computes is the number up to the cap, of digits alone
pub capped : (n : ℕ) (cs : List ℕ) → n ≤ cap
    → capped_from n cs ≡ cond (list_all is_ascii_digit cs) (Some (min (digits_value_after 10 n cs) cap)) None
capped n [] low = let e : n ≡ min n cap = omega arith in ap Some e
capped n (c ∷ cs) low =
    let next = n * 10 + digit_value c in
    let rest : capped_from (min next cap) cs ≡ cond (list_all is_ascii_digit cs) (Some (min (digits_value_after 10 next cs) cap)) None =
    capped (min next cap) cs (omega arith) ∙ ap (λ m. cond (list_all is_ascii_digit cs) (Some m) None) (same_capped (min next cap) next cs (omega arith)) in
    elim (is_ascii_digit c) as (λ b. cond b (capped_from (min next cap) cs) None ≡ cond (b && list_all is_ascii_digit cs) (Some (min (digits_value_after 10 next cs) cap)) None)
    [ true ↦ rest | false ↦ refl ]

number_test : (v : List ℕ) → 0 < length v → length v ≤ 19 → is_number v ≡ list_all is_ascii_digit v
number_test v some short = grind arith

-- what a value of a few bytes states, by the number that was computed
abbrev pub length_from : Option ℕ → Result ℕ ℕ
length_from None = Err 400
length_from (Some n) = cond (nat_lt most n) (Err 413) (Ok n)

large_or_not : (n : ℕ) → cond (nat_lt most n) (Err 413) (Ok n) ≡ length_from (Some (min n cap))
large_or_not n = grind arith

pub stated : (v : List ℕ) → 0 < length v → length v ≤ 19 → stated_length v ≡ length_from (capped_from 0 v)
stated v some short =
    ap (λ b. cond b (cond (nat_lt most (digits_value 10 v)) (Err 413) (Ok (digits_value 10 v))) (Err 400)) (number_test v some short)
    ∙ elim (list_all is_ascii_digit v) as (λ b. cond b (cond (nat_lt most (digits_value 10 v)) (Err 413) (Ok (digits_value 10 v))) (Err 400) ≡ length_from (cond b (Some (min (digits_value 10 v) cap)) None))
    [ true ↦ large_or_not (digits_value 10 v) | false ↦ refl ]
    ∙ ap length_from (sym (capped 0 v (omega arith)))

several_more : (vs : List (List ℕ)) → with_values several vs ≡ several
several_more [] = refl
several_more (v ∷ vs) = several_more vs

pub length_summarized : (vs : List (List ℕ)) → one_length vs ≡ length_by (with_values nothing vs)
length_summarized [] = refl
length_summarized (v ∷ []) = refl
length_summarized (v ∷ w ∷ vs) = sym (ap length_by (several_more vs))

pub empty_summarized : (vs : List (List ℕ)) → is_empty vs ≡ is_nothing (with_values nothing vs)
empty_summarized [] = refl
empty_summarized (v ∷ []) = refl
empty_summarized (v ∷ w ∷ vs) = sym (ap is_nothing (several_more vs))

-- the length of the body, by the summaries of the two names
pub length_by_summaries : (codings lengths : List (List ℕ)) (a b : Summary) → a ≡ with_values nothing codings → b ≡ with_values nothing lengths
    → cond (is_empty codings) (one_length lengths) (Err 411) ≡ cond (is_nothing a) (length_by b) (Err 411)
length_by_summaries codings lengths a b e f =
    ap (λ t. cond t (one_length lengths) (Err 411)) (empty_summarized codings ∙ ap is_nothing (sym e))
    ∙ ap (λ r. cond (is_nothing a) r (Err 411)) (length_summarized lengths ∙ ap length_by (sym f))

above : (n : ℕ) → most < n → length_from (Some n) ≡ Err 413
above n large = grind arith

below : (n : ℕ) → n ≤ most → length_from (Some n) ≡ Ok n
below n fits = grind arith

pub stated_none : (v : List ℕ) (some : 0 < length v) (short : length v ≤ 19) → None ≡ capped_from 0 v → Err 400 ≡ stated_length v
stated_none v some short e = sym (stated v some short ∙ ap length_from (sym e))

pub stated_large : (v : List ℕ) (n : ℕ) (some : 0 < length v) (short : length v ≤ 19) → Some n ≡ capped_from 0 v → most < n → Err 413 ≡ stated_length v
stated_large v n some short e large = sym (stated v some short ∙ ap length_from (sym e) ∙ above n large)

pub stated_fits : (v : List ℕ) (n : ℕ) (some : 0 < length v) (short : length v ≤ 19) → Some n ≡ capped_from 0 v → n ≤ most → Ok n ≡ stated_length v
stated_fits v n some short e fits = sym (stated v some short ∙ ap length_from (sym e) ∙ below n fits)
