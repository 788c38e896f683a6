-- Whether a text is of a shape, and what it then says, as tests that can be computed.
use Rattle.std.proofs.Common.{◌≡◌, ℕ, zero, suc, ◌<◌, ◌≤◌, Bool, true, false, List, [], ◌∷◌, ◌++◌, length, take, drop, refl, sym, ap, subst, ◌∙◌, arith, inl, inr, append_assoc}
use Rattle.std.specs.Prelude.{◌%◌, ◌&&◌, ◌||◌, nat_le, nat_eq, codes, map, pos, if◌then◌else◌}
use Rattle.std.specs.Char.{digit_value}
use Rattle.std.specs.Int.{IsGcd}
use Rattle.std.specs.List.{list_all}
use Rattle.std.specs.Str.{bytes_eq}
use Rattle.std.specs.Str.Parse.{AllDigits, IsNumeral, digits_value}
use Rattle.std.proofs.Math.Dec.{ltb}
use Rattle.std.proofs.Math.Nat.{mod-lt}
use Rattle.std.proofs.lemmas.Bool.{false≢true, and_parts, and_from, eqb-true, ltb-true, lt-ltb}
use Rattle.std.proofs.lemmas.Bool.Decides.{nat_tests}
use Rattle.std.proofs.lemmas.List.{take-append-drop}
use Rattle.std.proofs.lemmas.Nat.Gcd.{IsGcd-from_zero, IsGcd-from_mod}
use Rattle.std.proofs.lemmas.Slice.Eq.{bytes_eq-Decides}
use Rattle.lrs_measure.specs.Lists.{is_from_to, is_nothing}
use Rattle.lrs_measure.specs.Texts.{Name}
use Rattle.lrs_measure.specs.Numerals.{has_sign, numerator_text, denominator_text, signed_value}
use Rattle.lrs_measure.proofs.Lowest.{reduced, IsQuotient-reduced, IsLowest-reduced}
use Rattle.lrs_measure.specs.Limits.{greatest_link, longest_link, longest_route, greatest_measure}
use Rattle.lrs_element.specs.declared.link.Piece.{Piece}
use Rattle.lrs_element.specs.declared.marks.Mark.{Mark}
use Rattle.lrs_position.specs.Expressions.{greatest_denominator}
use Rattle.lrs_position.specs.Names.{is_route_name, is_referent_name}
use Rattle.lrs_position.specs.Readings.{States, distance_text, method_text, name_text, whole}
use Rattle.lrs_position.specs.declared.expression.Expr.{Expr}
use Rattle.lrs_position.specs.declared.expression.Expr.TheVariants.{Abs, Rel, Int}
use Rattle.lrs_position.specs.declared.expression.Method.{Method}
use Rattle.lrs_position.specs.declared.expression.Method.TheVariants as method
use Rattle.lrs_position.specs.declared.expression.Target.TheVariants as target
use Rattle.lrs_events.specs.Names.{is_class_name, is_value, kind_text, side_text}
use Rattle.lrs_machine.specs.EnteredNumbers.{are_entered_pieces, are_entered_marks}
use Rattle.lrs_machine.specs.Lines.{Text}
use Rattle.lrs_machine.specs.declared.answer.Field.{Field}
use Rattle.lrs_machine.specs.declared.question.Destination.{Destination}
use Rattle.lrs_machine.specs.declared.question.Destination.TheVariants as destination
use Rattle.lrs_machine.specs.declared.question.Place.{Place}
use Rattle.lrs_machine.specs.declared.question.Place.TheVariants.{Chainage, Position}
use Rattle.lrs_machine.specs.PlaceTexts.{SaysPlace}
use Rattle.lrs_sheet_records.proofs.OneArgument.{kind_from, kind-back, side_from, side-back, link_side_from, link-side-back, method_from, method-back, destination_from, destination-back, no-letters}
use Rattle.lrs_sheet_records.proofs.PrintedTexts.{below, from-to}
use Rattle.lrs_sheet_records.proofs.Said.{number-said, class-said, route-said, referent-said, value-said, kind-said, side-said, method-said, position-said, pieces-said, marks-said, classes-said, destination-said, link-or-route-said, place-said, millimetre-said, route-place-said, one-side-said, gaps-said, nothing-or-said}
use Rattle.lrs_sheet_records.proofs.Wording.{one-mark, one-piece}
use Rattle.lrs_sheet_records.specs.Shapes.{Argument, Nothing, Number, Word, KindOf, SideOf, MethodOf, At, PiecesOf, MarksOf, ClassesOf, DestinationOf, PlaceOf, LinkSideOf, Gaps, Shape, Whole, ClassName, RouteName, ReferentName, AssetValue, ClassKind, RouteSide, MethodName, PositionBy, Pieces, Marks, ClassNames, DestinationName, LinkOrRoute, LinkOrPlace, MillimetreOrNothing, RoutePlace, OneSide, GapsWord, OrNothing, Says, IsReachable, destination_text, is_link_word, link_side_text}
use Rattle.lrs_sheet_records.specs.Words.{AreSaid, IsClassWord, IsMarkText, IsPieceText, SaysNumber, most_words, part, parts_of, sign_text, words_of}

-- numbers

abbrev pub are_digits : Text → Bool
are_digits [] = true
are_digits (c ∷ cs) = ltb (digit_value c) 10 && are_digits cs

digits-from : (text : Text) → are_digits text ≡ true → AllDigits 10 text
digits-from [] h = tt
digits-from (c ∷ cs) h = let both = and_parts (ltb (digit_value c) 10) (are_digits cs) h in (ltb-true (digit_value c) 10 both.0, digits-from cs both.1)

digits-are : (text : Text) → AllDigits 10 text → are_digits text ≡ true
digits-are [] h = refl
digits-are (c ∷ cs) h = and_from (ltb (digit_value c) 10) (are_digits cs) (lt-ltb (digit_value c) 10 h.0) (digits-are cs h.1)

abbrev pub is_numeral : Text → Bool
is_numeral [] = false
is_numeral (c ∷ cs) = are_digits (c ∷ cs)

numeral-from : (text : Text) → is_numeral text ≡ true → IsNumeral 10 text
numeral-from [] h = absurd (false≢true h)
numeral-from (c ∷ cs) h = (omega arith, digits-from (c ∷ cs) h)

numeral-is : (text : Text) → IsNumeral 10 text → is_numeral text ≡ true
numeral-is [] h = absurd (omega (arith, h.0))
numeral-is (c ∷ cs) h = digits-are (c ∷ cs) h.1

pub at-most : (m n : ℕ) → m ≤ n → nat_le m n ≡ true
at-most m n h = grind (arith, nat_tests)

abbrev pub is_number : ℕ → ℕ → Text → Bool
is_number low high text = is_numeral text && is_from_to low high (digits_value 10 text)

pub number-from : (low high : ℕ) (text : Text) → is_number low high text ≡ true → SaysNumber low high text (digits_value 10 text)
number-from low high text h =
    let both = and_parts (is_numeral text) (is_from_to low high (digits_value 10 text)) h in
    let bounds = from-to low high (digits_value 10 text) both.1 in
    record { digits = numeral-from text both.0; value = refl; least = bounds.0; most = bounds.1 }

pub number-is : (low high : ℕ) (text : Text) (n : ℕ) → SaysNumber low high text n → is_number low high text ≡ true
number-is low high text n h =
    let value = h.value in
    and_from (is_numeral text) (is_from_to low high (digits_value 10 text)) (numeral-is text h.digits)
    (and_from (nat_le low (digits_value 10 text)) (nat_le (digits_value 10 text) high) (at-most low (digits_value 10 text) (rw value at h.least)) (at-most (digits_value 10 text) high (rw value at h.most)))

-- texts

pub same-text : (a b : Text) → bytes_eq a b ≡ true → a ≡ b
same-text a b h = (bytes_eq-Decides a b).0 h

text-same : (a b : Text) → a ≡ b → bytes_eq a b ≡ true
text-same a b h = (bytes_eq-Decides a b).1 h

abbrev pub is_method : Text → Bool
is_method text = bytes_eq text (method_text (method_from text))

method-is : (text : Text) (m : Method) → text ≡ method_text m → is_method text ≡ true
method-is text m h = text-same text (method_text (method_from text)) (h ∙ ap method_text (sym (ap method_from h ∙ method-back m)))

-- lists

abbrev pub is_piece : Text → Bool
is_piece word = nat_eq (length (parts_of 58 word)) 4 && is_number 1 999_999 (part word 0) && is_number 0 longest_link (part word 1) && is_number 0 longest_link (part word 2) && bytes_eq (part word 3) (sign_text (bytes_eq (part word 3) (codes "+")))

abbrev pub piece_in : Text → Piece
piece_in word = record { link = digits_value 10 (part word 0); from = digits_value 10 (part word 1); to = digits_value 10 (part word 2); forward = bytes_eq (part word 3) (codes "+") }

piece-from : (word : Text) → is_piece word ≡ true → IsPieceText word (piece_in word)
piece-from word h =
    let four = nat_eq (length (parts_of 58 word)) 4 in
    let link = is_number 1 999_999 (part word 0) in
    let a = is_number 0 longest_link (part word 1) in
    let b = is_number 0 longest_link (part word 2) in
    let last = and_parts (four && link && a && b) (bytes_eq (part word 3) (sign_text (bytes_eq (part word 3) (codes "+")))) h in
    let third = and_parts (four && link && a) b last.0 in
    let second = and_parts (four && link) a third.0 in
    let first = and_parts four link second.0 in
    record {
      four = eqb-true (length (parts_of 58 word)) 4 first.0;
      link = number-from 1 999_999 (part word 0) first.1;
      from = number-from 0 longest_link (part word 1) second.1;
      to = number-from 0 longest_link (part word 2) third.1;
      direction = same-text (part word 3) (sign_text (bytes_eq (part word 3) (codes "+"))) last.1;
    }

sign-back : (forward : Bool) → bytes_eq (sign_text forward) (sign_text (bytes_eq (sign_text forward) (codes "+"))) ≡ true
sign-back true = refl
sign-back false = refl

same-count : (m n : ℕ) → m ≡ n → nat_eq m n ≡ true
same-count m n h = grind (arith, nat_tests)

piece-is : (word : Text) (p : Piece) → IsPieceText word p → is_piece word ≡ true
piece-is word p h =
    let four = nat_eq (length (parts_of 58 word)) 4 in
    let link = is_number 1 999_999 (part word 0) in
    let a = is_number 0 longest_link (part word 1) in
    let b = is_number 0 longest_link (part word 2) in
    let direction : bytes_eq (part word 3) (sign_text (bytes_eq (part word 3) (codes "+"))) ≡ true = rw h.direction (sign-back p.forward) in
    and_from (four && link && a && b) (bytes_eq (part word 3) (sign_text (bytes_eq (part word 3) (codes "+"))))
    (and_from (four && link && a) b (and_from (four && link) a (and_from four link (same-count (length (parts_of 58 word)) 4 h.four) (number-is 1 999_999 (part word 0) p.link h.link)) (number-is 0 longest_link (part word 1) p.from h.from)) (number-is 0 longest_link (part word 2) p.to h.to))
    direction

abbrev pub is_mark : Text → Bool
is_mark word = nat_eq (length (parts_of 58 word)) 2 && is_number 0 longest_route (part word 0) && is_number 0 greatest_measure (part word 1)

abbrev pub mark_in : Text → Mark
mark_in word = record { chainage = digits_value 10 (part word 0); measure = digits_value 10 (part word 1) }

mark-from : (word : Text) → is_mark word ≡ true → IsMarkText word (mark_in word)
mark-from word h =
    let two = nat_eq (length (parts_of 58 word)) 2 in
    let outer = and_parts (two && is_number 0 longest_route (part word 0)) (is_number 0 greatest_measure (part word 1)) h in
    let inner = and_parts two (is_number 0 longest_route (part word 0)) outer.0 in
    record {
      two = eqb-true (length (parts_of 58 word)) 2 inner.0;
      chainage = number-from 0 longest_route (part word 0) inner.1;
      measure = number-from 0 greatest_measure (part word 1) outer.1;
    }

mark-is : (word : Text) (m : Mark) → IsMarkText word m → is_mark word ≡ true
mark-is word m h =
    let two = nat_eq (length (parts_of 58 word)) 2 in
    and_from (two && is_number 0 longest_route (part word 0)) (is_number 0 greatest_measure (part word 1))
    (and_from two (is_number 0 longest_route (part word 0)) (same-count (length (parts_of 58 word)) 2 h.two) (number-is 0 longest_route (part word 0) m.chainage h.chainage))
    (number-is 0 greatest_measure (part word 1) m.measure h.measure)

-- words that each pass are said by what stands in them
all-from : {X : Type 0} (says : Text → X → Type 0) (test : Text → Bool) (read : Text → X) → ((word : Text) → test word ≡ true → says word (read word))
    → (words : List Text) → list_all test words ≡ true → AreSaid says words (map read words)
all-from says test read each [] h = tt
all-from says test read each (word ∷ words) h =
    let both = and_parts (test word) (list_all test words) h in
    (each word both.0, all-from says test read each words both.1)

-- and words that say something pass, and say what stands in them
all-is : {X : Type 0} (says : Text → X → Type 0) (test : Text → Bool) (read : Text → X) → ((word : Text) (x : X) → says word x → test word ≡ true) → ((word : Text) (x : X) → says word x → x ≡ read word)
    → (words : List Text) (xs : List X) → AreSaid says words xs → (list_all test words ≡ true) × (xs ≡ map read words)
all-is says test read passes same [] [] h = (refl, refl)
all-is says test read passes same [] (x ∷ xs) h = absurd h
all-is says test read passes same (word ∷ words) [] h = absurd h
all-is says test read passes same (word ∷ words) (x ∷ xs) h =
    let more = all-is says test read passes same words xs h.1 in
    let first = same word x h.0 in
    (and_from (test word) (list_all test words) (passes word x h.0) more.0, rw (first, more.1) refl)

same-piece : (word : Text) (p : Piece) → IsPieceText word p → p ≡ piece_in word
same-piece word p h = one-piece word p (piece_in word) h (piece-from word (piece-is word p h))

same-mark : (word : Text) (m : Mark) → IsMarkText word m → m ≡ mark_in word
same-mark word m h = one-mark word m (mark_in word) h (mark-from word (mark-is word m h))

-- classes

abbrev pub class_in : Text → Name
class_in word = word

class-from : (word : Text) → is_class_name word ≡ true → IsClassWord word (class_in word)
class-from word h = (h, refl)

class-is : (word : Text) (name : Name) → IsClassWord word name → is_class_name word ≡ true
class-is word name h = h.0

same-class : (word : Text) (name : Name) → IsClassWord word name → name ≡ class_in word
same-class word name h = h.1

-- destinations

abbrev pub is_reachable : Destination → Bool
is_reachable (destination.Method (target.Rel name)) = is_referent_name name
is_reachable _ = true

reachable-from : (to : Destination) → is_reachable to ≡ true → IsReachable to
reachable-from (destination.Method target.Abs) h = tt
reachable-from (destination.Method (target.Rel name)) h = h
reachable-from (destination.Method target.Int) h = tt
reachable-from destination.Link h = tt

reachable-is : (to : Destination) → IsReachable to → is_reachable to ≡ true
reachable-is (destination.Method target.Abs) h = refl
reachable-is (destination.Method (target.Rel name)) h = h
reachable-is (destination.Method target.Int) h = refl
reachable-is destination.Link h = refl

-- positions

-- the greatest common divisor, in so many steps
abbrev pub divisor_in : ℕ → ℕ → ℕ → ℕ
divisor_in zero a b = a
divisor_in (suc steps) a b = if nat_eq b 0 then a else divisor_in steps b (a % b)

divisor-is : (steps a b : ℕ) → b < steps → IsGcd a b (divisor_in steps a b)
divisor-is zero a b h = absurd (omega (arith, h))
divisor-is (suc steps) a b h = elim (nat_eq b 0) as (λ t. nat_eq b 0 ≡ t → IsGcd a b (if t then a else divisor_in steps b (a % b))) [
  | true ↦ λ e. IsGcd-from_zero a b (eqb-true b 0 e)
  | false ↦ λ e.
      let some : 0 < b = grind (arith, nat_tests) in
      let less = mod-lt a some in
      IsGcd-from_mod a b (divisor_in steps b (a % b)) (divisor-is steps b (a % b) (omega (arith, h, less)))
] refl

abbrev pub states : Method → Text → Bool
states method.Abs text = is_number 0 greatest_measure text
states method.Rel text = is_referent_name (name_text text) && has_sign (distance_text text) && is_number 0 longest_route (drop 1 (distance_text text))
states method.Int text = is_number 0 greatest_denominator (numerator_text text) && is_number 1 greatest_denominator (denominator_text text) && nat_le (digits_value 10 (numerator_text text)) (digits_value 10 (denominator_text text))

abbrev pub expression_in : Method → Text → Expr
expression_in method.Abs text = Abs (whole (pos (digits_value 10 text)))
expression_in method.Rel text = Rel (name_text text) (whole (signed_value (distance_text text)))
expression_in method.Int text =
    Int (reduced (pos (digits_value 10 (numerator_text text))) (digits_value 10 (denominator_text text)) (divisor_in (suc (digits_value 10 (denominator_text text))) (digits_value 10 (numerator_text text)) (digits_value 10 (denominator_text text))))

pub stated-from : (m : Method) (text : Text) → states m text ≡ true → States m text (expression_in m text)
stated-from method.Abs text h = let said = number-from 0 greatest_measure text h in record { digits = said.digits; limit = said.most; value = refl }
stated-from method.Rel text h =
    let outer = and_parts (is_referent_name (name_text text) && has_sign (distance_text text)) (is_number 0 longest_route (drop 1 (distance_text text))) h in
    let inner = and_parts (is_referent_name (name_text text)) (has_sign (distance_text text)) outer.0 in
    let said = number-from 0 longest_route (drop 1 (distance_text text)) outer.1 in
    record { referent = refl; alphabet = inner.0; signed = record { sign = inner.1; digits = said.digits }; limit = said.most; value = refl }
stated-from method.Int text h =
    let outer = and_parts (is_number 0 greatest_denominator (numerator_text text) && is_number 1 greatest_denominator (denominator_text text)) (nat_le (digits_value 10 (numerator_text text)) (digits_value 10 (denominator_text text))) h in
    let inner = and_parts (is_number 0 greatest_denominator (numerator_text text)) (is_number 1 greatest_denominator (denominator_text text)) outer.0 in
    let above = number-from 0 greatest_denominator (numerator_text text) inner.0 in
    let under = number-from 1 greatest_denominator (denominator_text text) inner.1 in
    let n = digits_value 10 (numerator_text text) in
    let d = digits_value 10 (denominator_text text) in
    let some : 0 < d = let least = under.least in omega (arith, least) in
    let divisor : IsGcd n d (divisor_in (suc d) n d) = divisor-is (suc d) n d (omega arith) in
    record {
      fraction = record { numerator = above.digits; denominator = under.digits; numerator_fits = above.most; denominator_fits = under.most; not_zero = some };
      at_most_whole = below d n outer.1;
      value = IsQuotient-reduced (pos n) d (divisor_in (suc d) n d) some divisor;
      lowest = IsLowest-reduced (pos n) d (divisor_in (suc d) n d) some divisor;
    }

pub stated-is : (m : Method) (text : Text) (e : Expr) → States m text e → states m text ≡ true
stated-is method.Abs text (Abs x) h = number-is 0 greatest_measure text (digits_value 10 text) (record { digits = h.digits; value = refl; least = omega arith; most = h.limit })
stated-is method.Abs text (Rel name t) h = absurd h
stated-is method.Abs text (Int p) h = absurd h
stated-is method.Rel text (Abs x) h = absurd h
stated-is method.Rel text (Rel name t) h =
    let named : is_referent_name (name_text text) ≡ true = rw h.referent at h.alphabet in
    and_from (is_referent_name (name_text text) && has_sign (distance_text text)) (is_number 0 longest_route (drop 1 (distance_text text)))
    (and_from (is_referent_name (name_text text)) (has_sign (distance_text text)) named h.signed.sign)
    (number-is 0 longest_route (drop 1 (distance_text text)) (digits_value 10 (drop 1 (distance_text text))) (record { digits = h.signed.digits; value = refl; least = omega arith; most = h.limit }))
stated-is method.Rel text (Int p) h = absurd h
stated-is method.Int text (Abs x) h = absurd h
stated-is method.Int text (Rel name t) h = absurd h
stated-is method.Int text (Int p) h =
    let some = h.fraction.not_zero in
    and_from (is_number 0 greatest_denominator (numerator_text text) && is_number 1 greatest_denominator (denominator_text text)) (nat_le (digits_value 10 (numerator_text text)) (digits_value 10 (denominator_text text)))
    (and_from (is_number 0 greatest_denominator (numerator_text text)) (is_number 1 greatest_denominator (denominator_text text))
    (number-is 0 greatest_denominator (numerator_text text) (digits_value 10 (numerator_text text)) (record { digits = h.fraction.numerator; value = refl; least = omega arith; most = h.fraction.numerator_fits }))
    (number-is 1 greatest_denominator (denominator_text text) (digits_value 10 (denominator_text text)) (record { digits = h.fraction.denominator; value = refl; least = omega (arith, some); most = h.fraction.denominator_fits })))
    (at-most (digits_value 10 (numerator_text text)) (digits_value 10 (denominator_text text)) h.at_most_whole)

-- places

-- whether a text begins with the name of a method and a colon
abbrev pub is_position : Text → Bool
is_position text = bytes_eq (take 4 text) (method_text (method_from text) ++ 58 ∷ [])

position-text : (text : Text) → is_position text ≡ true → text ≡ method_text (method_from text) ++ 58 ∷ drop 4 text
position-text text h =
    sym (take-append-drop 4 text) ∙ ap (λ (t : Text). t ++ drop 4 text) (same-text (take 4 text) (method_text (method_from text) ++ 58 ∷ []) h)
    ∙ append_assoc (method_text (method_from text)) (58 ∷ []) (drop 4 text)

digits-no-position : (text : Text) → IsNumeral 10 text → is_position text ≡ false
digits-no-position text h = by (is_position text) refl
  where
    by : (b : Bool) → is_position text ≡ b → b ≡ false
    by true e = absurd (no-letters (method_from text) (drop 4 text) (subst (IsNumeral 10) (position-text text e) h))
    by false e = refl

abbrev pub is_place : Text → Bool
is_place text = if is_position text then states (method_from text) (drop 4 text) else is_number 0 longest_route text

abbrev pub place_in : Text → Place
place_in text = if is_position text then Position (expression_in (method_from text) (drop 4 text)) else Chainage (digits_value 10 text)

place-from : (text : Text) → is_place text ≡ true → SaysPlace text (place_in text)
place-from text h = elim (is_position text)
    as (λ t. is_position text ≡ t → (if t then states (method_from text) (drop 4 text) else is_number 0 longest_route text) ≡ true
    → SaysPlace text (if t then Position (expression_in (method_from text) (drop 4 text)) else Chainage (digits_value 10 text))) [
      | true ↦ λ e passes. (method_from text, drop 4 text, position-text text e, stated-from (method_from text) (drop 4 text) passes)
      | false ↦ λ e passes. let said = number-from 0 longest_route text passes in record { digits = said.digits; limit = said.most; value = refl }
    ] refl h

position-is : (m : Method) (position : Text) (e : Expr) → States m position e → is_place (method_text m ++ 58 ∷ position) ≡ true
position-is method.Abs position e h = stated-is method.Abs position e h
position-is method.Rel position e h = stated-is method.Rel position e h
position-is method.Int position e h = stated-is method.Int position e h

place-is : (text : Text) (p : Place) → SaysPlace text p → is_place text ≡ true
place-is text (Chainage c) h =
    rw (digits-no-position text h.digits) (number-is 0 longest_route text (digits_value 10 text) (record { digits = h.digits; value = refl; least = omega arith; most = h.limit }))
place-is text (Position e) (m, position, is, said) = subst (λ (t : Text). is_place t ≡ true) (sym is) (position-is m position e said)

nothing-from : (text : Text) → is_nothing text ≡ true → text ≡ []
nothing-from [] h = refl
nothing-from (c ∷ text) h = absurd (false≢true h)

-- shapes

-- whether a text is of a shape
abbrev pub fits : (Field → Text) → Shape → Text → Bool
fits texts (Whole low high) text = is_number low high text
fits texts ClassName text = is_class_name text
fits texts RouteName text = is_route_name text
fits texts ReferentName text = is_referent_name text
fits texts AssetValue text = is_value text
fits texts ClassKind text = bytes_eq text (kind_text (kind_from text))
fits texts RouteSide text = bytes_eq text (side_text (side_from text))
fits texts MethodName text = is_method text
fits texts (PositionBy field) text = is_method (texts field) && states (method_from (texts field)) text
fits texts Pieces text = list_all is_piece (words_of text) && are_entered_pieces (map piece_in (words_of text))
fits texts Marks text = list_all is_mark (words_of text) && are_entered_marks (map mark_in (words_of text))
fits texts ClassNames text = list_all is_class_name (words_of text) && nat_le (length (map class_in (words_of text))) most_words
fits texts DestinationName text = bytes_eq text (destination_text (destination_from text)) && is_reachable (destination_from text)
fits texts LinkOrRoute text = is_link_word text || is_route_name text
fits texts (LinkOrPlace field) text = if is_link_word (texts field) then is_number 1 greatest_link text else is_place text
fits texts (MillimetreOrNothing field) text = if is_link_word (texts field) then is_number 0 longest_link text else is_nothing text
fits texts RoutePlace text = is_place text
fits texts OneSide text = bytes_eq text (link_side_text (link_side_from text))
fits texts GapsWord text = bytes_eq text (codes "gaps")
fits texts (OrNothing shape) text = is_nothing text || fits texts shape text

-- what it then says
abbrev pub argument_in : (Field → Text) → Shape → Text → Argument
argument_in texts (Whole low high) text = Number (digits_value 10 text)
argument_in texts ClassName text = Word text
argument_in texts RouteName text = Word text
argument_in texts ReferentName text = Word text
argument_in texts AssetValue text = Word text
argument_in texts ClassKind text = KindOf (kind_from text)
argument_in texts RouteSide text = SideOf (side_from text)
argument_in texts MethodName text = MethodOf (method_from text)
argument_in texts (PositionBy field) text = At (expression_in (method_from (texts field)) text)
argument_in texts Pieces text = PiecesOf (map piece_in (words_of text))
argument_in texts Marks text = MarksOf (map mark_in (words_of text))
argument_in texts ClassNames text = ClassesOf (map class_in (words_of text))
argument_in texts DestinationName text = DestinationOf (destination_from text)
argument_in texts LinkOrRoute text = Word text
argument_in texts (LinkOrPlace field) text = if is_link_word (texts field) then Number (digits_value 10 text) else PlaceOf (place_in text)
argument_in texts (MillimetreOrNothing field) text = if is_link_word (texts field) then Number (digits_value 10 text) else Nothing
argument_in texts RoutePlace text = PlaceOf (place_in text)
argument_in texts OneSide text = LinkSideOf (link_side_from text)
argument_in texts GapsWord text = Gaps
argument_in texts (OrNothing shape) text = if is_nothing text then Nothing else argument_in texts shape text

-- a shape says nothing only by an empty text
said-nothing : (texts : Field → Text) (shape : Shape) (text : Text) → Says texts shape text Nothing → text ≡ []
said-nothing texts (OrNothing shape) text h = h
said-nothing texts (MillimetreOrNothing field) text h = h.1
said-nothing texts shape text h = absurd h

-- what a shape says may be there
said-there : (texts : Field → Text) (shape : Shape) (text : Text) (a : Argument) → Says texts shape text a → Says texts (OrNothing shape) text a
said-there texts shape text Nothing h = said-nothing texts shape text h
said-there texts shape text a h = h

-- a text of a shape says what stands in it
pub fits-says : (texts : Field → Text) (shape : Shape) (text : Text) → fits texts shape text ≡ true → Says texts shape text (argument_in texts shape text)
fits-says texts (Whole low high) text h = number-from low high text h
fits-says texts ClassName text h = (h, refl)
fits-says texts RouteName text h = (h, refl)
fits-says texts ReferentName text h = (h, refl)
fits-says texts AssetValue text h = (h, refl)
fits-says texts ClassKind text h = same-text text (kind_text (kind_from text)) h
fits-says texts RouteSide text h = same-text text (side_text (side_from text)) h
fits-says texts MethodName text h = same-text text (method_text (method_from text)) h
fits-says texts (PositionBy field) text h =
    let both = and_parts (is_method (texts field)) (states (method_from (texts field)) text) h in
    (method_from (texts field), same-text (texts field) (method_text (method_from (texts field))) both.0, stated-from (method_from (texts field)) text both.1)
fits-says texts Pieces text h =
    let both = and_parts (list_all is_piece (words_of text)) (are_entered_pieces (map piece_in (words_of text))) h in
    (all-from IsPieceText is_piece piece_in piece-from (words_of text) both.0, both.1)
fits-says texts Marks text h =
    let both = and_parts (list_all is_mark (words_of text)) (are_entered_marks (map mark_in (words_of text))) h in
    (all-from IsMarkText is_mark mark_in mark-from (words_of text) both.0, both.1)
fits-says texts ClassNames text h =
    let both = and_parts (list_all is_class_name (words_of text)) (nat_le (length (map class_in (words_of text))) most_words) h in
    (all-from IsClassWord is_class_name class_in class-from (words_of text) both.0, below most_words (length (map class_in (words_of text))) both.1)
fits-says texts DestinationName text h =
    let both = and_parts (bytes_eq text (destination_text (destination_from text))) (is_reachable (destination_from text)) h in
    (same-text text (destination_text (destination_from text)) both.0, reachable-from (destination_from text) both.1)
fits-says texts LinkOrRoute text h = (h, refl)
fits-says texts (LinkOrPlace field) text h = elim (is_link_word (texts field))
    as (λ t. is_link_word (texts field) ≡ t → (if t then is_number 1 greatest_link text else is_place text) ≡ true → Says texts (LinkOrPlace field) text (if t then Number (digits_value 10 text) else PlaceOf (place_in text))) [
      | true ↦ λ e passes. (e, number-from 1 greatest_link text passes)
      | false ↦ λ e passes. (e, place-from text passes)
    ] refl h
fits-says texts (MillimetreOrNothing field) text h = elim (is_link_word (texts field))
    as (λ t. is_link_word (texts field) ≡ t → (if t then is_number 0 longest_link text else is_nothing text) ≡ true → Says texts (MillimetreOrNothing field) text (if t then Number (digits_value 10 text) else Nothing)) [
      | true ↦ λ e passes. (e, number-from 0 longest_link text passes)
      | false ↦ λ e passes. (e, nothing-from text passes)
    ] refl h
fits-says texts RoutePlace text h = place-from text h
fits-says texts OneSide text h = same-text text (link_side_text (link_side_from text)) h
fits-says texts GapsWord text h = same-text text (codes "gaps") h
fits-says texts (OrNothing shape) [] h = refl
fits-says texts (OrNothing shape) (c ∷ text) h = said-there texts shape (c ∷ text) (argument_in texts shape (c ∷ text)) (fits-says texts shape (c ∷ text) h)

-- and a text that says something is of the shape
pub says-fits : (texts : Field → Text) (shape : Shape) (text : Text) (a : Argument) → Says texts shape text a → fits texts shape text ≡ true
says-fits texts (Whole low high) text a h = let (n, is, said) = number-said texts low high text a h in number-is low high text n said
says-fits texts ClassName text a h = (class-said texts text a h).2
says-fits texts RouteName text a h = (route-said texts text a h).2
says-fits texts ReferentName text a h = (referent-said texts text a h).2
says-fits texts AssetValue text a h = (value-said texts text a h).2
says-fits texts ClassKind text a h =
    let (kind, is, said) = kind-said texts text a h in
    text-same text (kind_text (kind_from text)) (said ∙ ap kind_text (sym (ap kind_from said ∙ kind-back kind)))
says-fits texts RouteSide text a h =
    let (side, is, said) = side-said texts text a h in
    text-same text (side_text (side_from text)) (said ∙ ap side_text (sym (ap side_from said ∙ side-back side)))
says-fits texts MethodName text a h = let (m, is, said) = method-said texts text a h in method-is text m said
says-fits texts (PositionBy field) text a h =
    let (e, is, said) = position-said texts field text a h in
    let back : method_from (texts field) ≡ said.0 = ap method_from said.1 ∙ method-back said.0 in
    and_from (is_method (texts field)) (states (method_from (texts field)) text) (method-is (texts field) said.0 said.1) (rw back (stated-is said.0 text e said.2))
says-fits texts Pieces text a h =
    let (ps, is, said, entered) = pieces-said texts text a h in
    let all = all-is IsPieceText is_piece piece_in piece-is same-piece (words_of text) ps said in
    and_from (list_all is_piece (words_of text)) (are_entered_pieces (map piece_in (words_of text))) all.0 (rw all.1 at entered)
says-fits texts Marks text a h =
    let (ms, is, said, entered) = marks-said texts text a h in
    let all = all-is IsMarkText is_mark mark_in mark-is same-mark (words_of text) ms said in
    and_from (list_all is_mark (words_of text)) (are_entered_marks (map mark_in (words_of text))) all.0 (rw all.1 at entered)
says-fits texts ClassNames text a h =
    let (names, is, said, few) = classes-said texts text a h in
    let all = all-is IsClassWord is_class_name class_in class-is same-class (words_of text) names said in
    and_from (list_all is_class_name (words_of text)) (nat_le (length (map class_in (words_of text))) most_words) all.0 (at-most (length (map class_in (words_of text))) most_words (rw all.1 at few))
says-fits texts DestinationName text a h =
    let (to, is, said, named) = destination-said texts text a h in
    let back : destination_from text ≡ to = ap destination_from said ∙ destination-back to in
    and_from (bytes_eq text (destination_text (destination_from text))) (is_reachable (destination_from text)) (rw back (text-same text (destination_text to) said)) (rw back (reachable-is to named))
says-fits texts LinkOrRoute text a h = (link-or-route-said texts text a h).2
says-fits texts (LinkOrPlace field) text a h = elim (place-said texts field text a h) [
  | inl on ↦ rw on.2 (number-is 1 greatest_link text on.0 on.3)
  | inr on ↦ rw on.2 (place-is text on.0 on.3)
]
says-fits texts (MillimetreOrNothing field) text a h = elim (millimetre-said texts field text a h) [
  | inl on ↦ rw on.2 (number-is 0 longest_link text on.0 on.3)
  | inr none ↦ rw (none.1, none.2) refl
]
says-fits texts RoutePlace text a h = let (p, is, said) = route-place-said texts text a h in place-is text p said
says-fits texts OneSide text a h =
    let (side, is, said) = one-side-said texts text a h in
    text-same text (link_side_text (link_side_from text)) (said ∙ ap link_side_text (sym (ap link_side_from said ∙ link-side-back side)))
says-fits texts GapsWord text a h = let (is, said) = gaps-said texts text a h in text-same text (codes "gaps") said
says-fits texts (OrNothing shape) [] a h = refl
says-fits texts (OrNothing shape) (c ∷ text) a h = elim (nothing-or-said texts shape (c ∷ text) a h) [
  | inl none ↦ absurd (full none.1)
  | inr said ↦ says-fits texts shape (c ∷ text) a said
]
  where
    full : c ∷ text ≡ [] → ⊥
    full e = cc
