-- No name, value, number or measure has a byte that means something in CSV.
use Rattle.std.proofs.Common.{◌≡◌, ℕ, ◌+◌, ◌/◌, ◌%◌, ◌<◌, ◌^◌, ◌∙◌, Bool, true, false, List, [], ◌∷◌, ◌++◌, refl, ap, cond, arith}
use Rattle.std.specs.Prelude.{◌&&◌, ◌==◌, nat_eq}
use Rattle.std.specs.List.{list_all}
use Rattle.std.specs.Fmt.{decimal}
use Rattle.std.proofs.lemmas.Bool.{and_from, eqb-true}
use Rattle.std.proofs.lemmas.Fmt.{decimal_by_steps_wide}
use Rattle.std.proofs.lemmas.List.Folds.{list_all-append}
use Rattle.lrs_measure.specs.Alphabets.{is_capital, is_word_byte}
use Rattle.lrs_position.specs.Names.{is_route_byte}
use Rattle.lrs_machine.specs.Keys.{is_key_byte}
use Rattle.lrs_machine.specs.declared.command.Command.TheVariants as verb
use Rattle.lrs_report_lists.specs.Laws.{DecimalsArePlain, IsPlain, KeysArePlain, MeasuresArePlain, NamesArePlain, NumbersArePlain, VerbsArePlain, is_plain_byte}

-- ---- names and values

both : (a b : Bool) → (a && b) ≡ true → (a ≡ true) × (b ≡ true)
both true true h = (refl, refl)
both true false h = absurd (cc)
both false b h = absurd (cc)

-- a byte that passes a test is none that does not
differs : (test : ℕ → Bool) (byte other : ℕ) → test byte ≡ true → test other ≡ false → nat_eq byte other ≡ false
differs test byte other passes fails = by (nat_eq byte other) refl
  where
    by : (b : Bool) → nat_eq byte other ≡ b → nat_eq byte other ≡ false
    by false h = h
    by true h = absurd (cc (ap test (eqb-true byte other h), passes, fails))

plain_byte : (test : ℕ → Bool) → test 34 ≡ false → test 44 ≡ false → test 10 ≡ false → test 13 ≡ false → (byte : ℕ) → test byte ≡ true → is_plain_byte byte ≡ true
plain_byte test quote comma feed return byte passes =
    simp (differs test byte 34 passes quote, differs test byte 44 passes comma, differs test byte 10 passes feed, differs test byte 13 passes return)

all_plain : (test : ℕ → Bool) → test 34 ≡ false → test 44 ≡ false → test 10 ≡ false → test 13 ≡ false → (text : List ℕ) → list_all test text ≡ true → list_all is_plain_byte text ≡ true
all_plain test a b c d [] h = refl
all_plain test a b c d (byte ∷ rest) h =
    let parts = both (test byte) (list_all test rest) h in
    ap (λ p. p && list_all is_plain_byte rest) (plain_byte test a b c d byte parts.0) ∙ all_plain test a b c d rest parts.1

pub names_are_plain : NamesArePlain
names_are_plain text = (
  λ h. all_plain is_route_byte refl refl refl refl text (both _ _ (both _ _ h).0).1,
  λ h. all_plain is_capital refl refl refl refl text (both _ _ h).1,
  λ h. all_plain is_capital refl refl refl refl text (both _ _ h).1,
  λ h. all_plain is_word_byte refl refl refl refl text (both _ _ (both _ _ h).0).1,
)

pub keys_are_plain : KeysArePlain
keys_are_plain text h = all_plain is_key_byte refl refl refl refl text (both _ _ (both _ _ h).0).1

pub verbs_are_plain : VerbsArePlain
verbs_are_plain (verb.Link l) = refl
verbs_are_plain (verb.Class c) = refl
verbs_are_plain (verb.Route name pieces marks) = refl
verbs_are_plain (verb.Ref name route at) = refl
verbs_are_plain (verb.Unref name) = refl
verbs_are_plain (verb.Enter e) = refl
verbs_are_plain (verb.Retire asset route location) = refl
verbs_are_plain (verb.Split route at name) = refl
verbs_are_plain (verb.Join first second) = refl
verbs_are_plain (verb.Renumber route name) = refl
verbs_are_plain (verb.Recalibrate route marks) = refl
verbs_are_plain (verb.Realign route first end pieces marks) = refl
verbs_are_plain (verb.Close route) = refl
verbs_are_plain (verb.Supersede e) = refl
verbs_are_plain (verb.Turn route) = refl

-- ---- numbers

far : (d k : ℕ) → k < 48 → nat_eq (48 + d) k ≡ false
far d k low = by (nat_eq (48 + d) k) refl
  where
    by : (b : Bool) → nat_eq (48 + d) k ≡ b → nat_eq (48 + d) k ≡ false
    by false h = h
    by true h = let e : 48 + d ≡ k = eqb-true (48 + d) k h in absurd (omega arith)

plain_digit : (d : ℕ) → is_plain_byte (48 + d) ≡ true
plain_digit d = simp (far d 34 (omega arith), far d 44 (omega arith), far d 10 (omega arith), far d 13 (omega arith))

wide_plain : (n : ℕ) → n < 10 ^ 64 → IsPlain (decimal n)
wide_plain n h =
    decimal_by_steps_wide (λ n ds. list_all is_plain_byte ds ≡ true) (λ n low. ap (λ b. b && true) (plain_digit n))
    (λ n ds ten more. list_all-append is_plain_byte ds ((48 + n % 10) ∷ []) ∙ and_from (list_all is_plain_byte ds) (list_all is_plain_byte ((48 + n % 10) ∷ [])) more (ap (λ b. b && true) (plain_digit (n % 10)))) n h

pub numbers_are_plain : NumbersArePlain
numbers_are_plain n h = wide_plain n (omega arith)

-- ---- measures

pub measures_are_plain : MeasuresArePlain
measures_are_plain n d small low = by (d == 1)
  where
    by : (b : Bool) → IsPlain (cond b (decimal n) (decimal n ++ 47 ∷ decimal d))
    by true = wide_plain n small
    by false = list_all-append is_plain_byte (decimal n) (47 ∷ decimal d) ∙ and_from (list_all is_plain_byte (decimal n)) (list_all is_plain_byte (47 ∷ decimal d)) (wide_plain n small) (wide_plain d low)

both_plain : (xs ys : List ℕ) → IsPlain xs → IsPlain ys → IsPlain (xs ++ ys)
both_plain xs ys x y = list_all-append is_plain_byte xs ys ∙ and_from (list_all is_plain_byte xs) (list_all is_plain_byte ys) x y

pub decimals_are_plain : DecimalsArePlain
decimals_are_plain n h =
    let whole : n / 1000 < 10 ^ 64 = omega arith in
    let tenths : n / 100 % 10 < 10 ^ 64 = omega arith in
    let hundredths : n / 10 % 10 < 10 ^ 64 = omega arith in
    let thousandths : n % 10 < 10 ^ 64 = omega arith in
    let a = decimal (n / 100 % 10) in
    let b = decimal (n / 10 % 10) in
    let c = decimal (n % 10) in
    both_plain (decimal (n / 1000) ++ 46 ∷ a ++ b) c
    (both_plain (decimal (n / 1000) ++ 46 ∷ a) b (both_plain (decimal (n / 1000)) (46 ∷ a) (wide_plain _ whole) (wide_plain _ tenths)) (wide_plain _ hundredths)) (wide_plain _ thousandths)
