-- A record of a sheet of questions asks one question under one key, or has one first malformed field.
use Rattle.std.proofs.Common.{◌≡◌, ◌⊎◌, ℕ, zero, suc, Bool, true, false, List, [], ◌∷◌, Option, Some, None, refl, sym, ap, subst, ◌∙◌, arith, inl, inr}
use Rattle.std.specs.Prelude.{Contains, codes, if◌then◌else◌, map, not, unwrap_or}
use Rattle.std.specs.Str.Parse.{digits_value}
use Rattle.lrs_measure.specs.Lists.{is_nothing}
use Rattle.lrs_measure.specs.Texts.{Name}
use Rattle.lrs_events.specs.declared.side.LinkSide.{LinkSide}
use Rattle.lrs_position.specs.declared.expression.Expr.{Expr}
use Rattle.lrs_machine.specs.Lines.{Text}
use Rattle.lrs_machine.specs.declared.question.AskedPlace.{AskedPlace}
use Rattle.lrs_machine.specs.declared.question.AskedPlace.TheVariants.{OnLink, OnRoute}
use Rattle.lrs_machine.specs.declared.answer.Field.{Field}
use Rattle.lrs_machine.specs.declared.question.Listing.{Listing}
use Rattle.lrs_machine.specs.declared.question.Listing.TheVariants.{History}
use Rattle.lrs_machine.specs.declared.question.OverlayAsked.{OverlayAsked}
use Rattle.lrs_machine.specs.declared.question.Place.{Place}
use Rattle.lrs_machine.specs.declared.question.Question.{Question}
use Rattle.lrs_machine.specs.declared.question.Question.TheVariants as question
use Rattle.lrs_machine.specs.declared.question.RowForm.{RowForm}
use Rattle.lrs_machine.specs.declared.question.RowForm.TheVariants.{Decimal}
use Rattle.lrs_machine.specs.declared.question.RowsAsked.{RowsAsked}
use Rattle.lrs_machine.proofs.Joined.{starts_with}
use Rattle.lrs_sheet_records.proofs.Complete.{read-method}
use Rattle.lrs_sheet_records.proofs.Deciding.{argument_in, class_in, expression_in, place_in, same-text}
use Rattle.lrs_sheet_records.proofs.Judging.{among, arguments_in, fitting-say, malformed-by, malformed_by, misfit_in, none-malformed}
use Rattle.lrs_sheet_records.proofs.Misfits.{not-among}
use Rattle.lrs_sheet_records.proofs.OneArgument.{destination_from, link_side_from, method_from, one-list, side_from}
use Rattle.lrs_sheet_records.proofs.OneCommand.{one-place, say-fits}
use Rattle.lrs_sheet_records.specs.Laws.{QuestionsAreJudged}
use Rattle.lrs_sheet_records.specs.Questions.{FirstMalformedQuestion, SaysQuestion, all_questions, asked_by, gaps_argument, listing_asked, listing_word, overlay_asked, overlay_word, question_of, question_shapes, rows_asked, rows_word}
use Rattle.lrs_sheet_records.specs.Records.{IsWellFormedBy, SayAll, text_at, texts_of}
use Rattle.lrs_sheet_records.specs.Shapes.{Argument, At, ClassName, ClassesOf, DestinationOf, Gaps, GapsWord, LinkSideOf, MethodOf, Nothing, Number, OneSide, OrNothing, PlaceOf, RouteName, RoutePlace, Shape, SideOf, Word, is_link_word}
use Rattle.lrs_sheet_records.specs.Verbs.{or_nothing}
use Rattle.lrs_sheet_records.specs.Words.{words_of}

-- a sheet asks no question without a name
pub nameless : Contains all_questions [] → ⊥
nameless = not-among all_questions [] ((λ e. cc e), ((λ e. cc e), ((λ e. cc e), ((λ e. cc e), ((λ e. cc e), ((λ e. cc e), ((λ e. cc e), ((λ e. cc e), ((λ e. cc e), tt)))))))))

-- which rows a sheet asks for
pub rows-known : (asset : Option ℕ) (form : RowForm) → Contains all_questions (rows_word asset form) → (asset ≡ None) × (form ≡ Decimal)
rows-known None Decimal known = (refl, refl)
rows-known _ _ known = absurd (nameless known)

-- which overlay
pub overlay-known : (from to : Option Place) → Contains all_questions (overlay_word from to) → (from ≡ None) × (to ≡ None)
overlay-known None None known = (refl, refl)
overlay-known _ _ known = absurd (nameless known)

-- what an argument says that may be missing
abbrev word_back : Argument → Option Text
word_back (Word word) = Some word
word_back _ = None

abbrev place_back : Argument → Option Place
place_back (PlaceOf place) = Some place
place_back _ = None

abbrev side_back : Argument → Option LinkSide
side_back (LinkSideOf side) = Some side
side_back _ = None

abbrev gaps_back : Argument → Bool
gaps_back Gaps = true
gaps_back _ = false

word-back : (o : Option Text) → word_back (or_nothing Word o) ≡ o
word-back None = refl
word-back (Some word) = refl

place-back : (o : Option Place) → place_back (or_nothing PlaceOf o) ≡ o
place-back None = refl
place-back (Some place) = refl

side-back : (o : Option LinkSide) → side_back (or_nothing LinkSideOf o) ≡ o
side-back None = refl
side-back (Some side) = refl

gaps-back : (gaps : Bool) → gaps_back (gaps_argument gaps) ≡ gaps
gaps-back true = refl
gaps-back false = refl

-- the question of each name, of arguments
abbrev at_back : List Argument → Option Question
at_back (Word route ∷ MethodOf m ∷ At e ∷ []) = Some (question.At route e)
at_back _ = None

abbrev translate_back : List Argument → Option Question
translate_back (Word route ∷ MethodOf m ∷ At e ∷ DestinationOf to ∷ []) = Some (question.Translate route e to)
translate_back _ = None

abbrev find_back : List Argument → Option Question
find_back (Number asset ∷ []) = Some (question.Find asset)
find_back _ = None

abbrev segments_back : List Argument → Option Question
segments_back (Word route ∷ SideOf side ∷ ClassesOf classes ∷ []) = Some (question.Segments route side classes)
segments_back _ = None

abbrev where_back : List Argument → Option Question
where_back (Word route ∷ PlaceOf place ∷ Nothing ∷ []) = Some (question.Where (OnRoute route place))
where_back (Word word ∷ Number link ∷ Number mm ∷ []) = Some (question.Where (OnLink link mm))
where_back _ = None

abbrev rows_back : List Argument → Option Question
rows_back (route ∷ from ∷ to ∷ class ∷ []) = Some (question.Rows (record { route = word_back route; from = place_back from; to = place_back to; class = word_back class; asset = None; form = Decimal }))
rows_back _ = None

abbrev overlay_back : List Argument → Option Question
overlay_back (route ∷ side ∷ ClassesOf classes ∷ gaps ∷ []) = Some (question.Overlay (record { classes = classes; route = word_back route; side = side_back side; from = None; to = None; gaps = gaps_back gaps }))
overlay_back _ = None

abbrev lengths_back : List Argument → Option Question
lengths_back (route ∷ []) = Some (question.Lengths (word_back route))
lengths_back _ = None

abbrev history_back : List Argument → Option Question
history_back (Number asset ∷ []) = Some (question.List (History asset))
history_back _ = None

-- each name by its first letter
abbrev read_back : Text → List Argument → Option Question
read_back name arguments =
    if starts_with 97 name then at_back arguments
    else if starts_with 116 name then translate_back arguments
    else if starts_with 102 name then find_back arguments
    else if starts_with 115 name then segments_back arguments
    else if starts_with 119 name then where_back arguments
    else if starts_with 114 name then rows_back arguments
    else if starts_with 111 name then overlay_back arguments
    else if starts_with 108 name then lengths_back arguments
    else history_back arguments

-- the rows, the overlay and the list that a sheet asks for
rows-back : (asked : RowsAsked) → (asked.asset ≡ None) × (asked.form ≡ Decimal) → read_back (rows_word asked.asset asked.form) (rows_asked asked) ≡ Some (question.Rows asked)
rows-back asked (asset, form) =
    (λ i. read_back (rows_word (asset i) (form i)) (rows_asked asked))
    ∙ (λ i. Some (question.Rows (record { route = word-back asked.route i; from = place-back asked.from i; to = place-back asked.to i; class = word-back asked.class i; asset = sym asset i; form = sym form i })))

overlay-back : (asked : OverlayAsked) → (asked.from ≡ None) × (asked.to ≡ None) → read_back (overlay_word asked.from asked.to) (overlay_asked asked) ≡ Some (question.Overlay asked)
overlay-back asked (from, to) =
    (λ i. read_back (overlay_word (from i) (to i)) (overlay_asked asked))
    ∙ (λ i. Some (question.Overlay (record { classes = asked.classes; route = word-back asked.route i; side = side-back asked.side i; from = sym from i; to = sym to i; gaps = gaps-back asked.gaps i })))

list-back : (listing : Listing) → Contains all_questions (listing_word listing) → read_back (listing_word listing) (listing_asked listing) ≡ Some (question.List listing)
list-back (History asset) known = refl
list-back _ known = absurd (nameless known)

-- a question of a sheet is read off its name and its arguments
read-back : (q : Question) → Contains all_questions (question_of q) → read_back (question_of q) (asked_by q) ≡ Some q
read-back (question.At route e) known = refl
read-back (question.Translate route e to) known = refl
read-back (question.Find asset) known = refl
read-back (question.Segments route side classes) known = refl
read-back (question.Where (OnRoute route place)) known = refl
read-back (question.Where (OnLink link mm)) known = refl
read-back (question.Rows asked) known = rows-back asked (rows-known asked.asset asked.form known)
read-back (question.Overlay asked) known = overlay-back asked (overlay-known asked.from asked.to known)
read-back (question.Lengths route) known = ap (λ (o : Option Text). Some (question.Lengths o)) (word-back route)
read-back (question.Combinations route classes) known = absurd (nameless known)
read-back (question.List listing) known = list-back listing known
read-back (question.Route route) known = absurd (nameless known)
read-back (question.Diagram route classes from to) known = absurd (nameless known)
read-back question.Totals known = absurd (nameless known)
read-back question.Health known = absurd (nameless known)

-- equal names and arguments come only of equal questions
questions-alike : (q r : Question) → Contains all_questions (question_of q) → question_of q ≡ question_of r → asked_by q ≡ asked_by r → q ≡ r
questions-alike q r known same alike =
    ap (λ (o : Option Question). unwrap_or o q) (sym (read-back q known) ∙ (λ i. read_back (same i) (alike i)) ∙ read-back r (subst (Contains all_questions) same known))

-- the fields ask one question
pub one-question : (row : List Text) (key other : Text) (q r : Question) → SaysQuestion row key q → SaysQuestion row other r → (key ≡ other) × (q ≡ r)
one-question row key other q r h g =
    let names : question_of q ≡ question_of r = sym h.same_question ∙ g.same_question in
    let known = subst (Contains all_questions) h.same_question h.is_question in
    let said = subst (λ n. SayAll row 2 (question_shapes n) (asked_by q)) names h.arguments in
    (h.same_key ∙ sym g.same_key, questions-alike q r known names (one-list row 2 (question_shapes (question_of r)) (asked_by q) (asked_by r) said g.arguments))

-- where a question is asked each field is well formed
pub well-formed-asked : (row : List Text) (key : Text) (q : Question) → SaysQuestion row key q → (place : ℕ) → IsWellFormedBy all_questions question_shapes row place
well-formed-asked row key q says zero = says.is_key
well-formed-asked row key q says (suc zero) = says.is_question
well-formed-asked row key q says (suc (suc i)) = rw says.same_question (say-fits row 2 (question_shapes (question_of q)) (asked_by q) says.arguments i)

-- a question of a name, and of what the fields say
abbrev IsRead : List Text → Text → Type 0
IsRead row name = (q : Question) × (name ≡ question_of q) × (arguments_in row 2 (question_shapes (question_of q)) ≡ asked_by q)

-- what is asked of a place
read-where : (row : List Text) (name : Text) → name ≡ codes "where" → IsRead row name
read-where row name is = by (is_link_word (text_at row 2)) refl
  where
    by : (t : Bool) → is_link_word (text_at row 2) ≡ t → IsRead row name
    by true e =
        let link = same-text (text_at row 2) (codes "link") e in
        let number = digits_value 10 (text_at row 3) in
        let mm = digits_value 10 (text_at row 4) in
        (question.Where (OnLink number mm), is, λ i. Word (link i) ∷ (if e i then Number number else PlaceOf (place_in (text_at row 3))) ∷ (if e i then Number mm else Nothing) ∷ [])
    by false e =
        let place = place_in (text_at row 3) in (
          question.Where (OnRoute (text_at row 2) place),
          is,
          λ i. Word (text_at row 2) ∷ (if e i then Number (digits_value 10 (text_at row 3)) else PlaceOf place) ∷ (if e i then Number (digits_value 10 (text_at row 4)) else Nothing) ∷ [],
        )

-- what a field says that may be empty
abbrev some_read : {X : Type 0} → (Text → X) → Text → Option X
some_read read text = if is_nothing text then None else Some (read text)

some-read : {X : Type 0} (texts : Field → Text) (shape : Shape) (said : X → Argument) (read : Text → X) (text : Text) → ((t : Text) → argument_in texts shape t ≡ said (read t))
    → argument_in texts (OrNothing shape) text ≡ or_nothing said (some_read read text)
some-read texts shape said read [] each = refl
some-read texts shape said read (c ∷ text) each = each (c ∷ text)

gaps-read : (texts : Field → Text) (text : Text) → argument_in texts (OrNothing GapsWord) text ≡ gaps_argument (not (is_nothing text))
gaps-read texts [] = refl
gaps-read texts (c ∷ text) = refl

-- which rows the fields ask for
read-rows : (row : List Text) (name : Text) → name ≡ codes "rows" → IsRead row name
read-rows row name is =
    let route = some-read (texts_of row) RouteName Word class_in (text_at row 2) (λ t. refl) in
    let from = some-read (texts_of row) RoutePlace PlaceOf place_in (text_at row 3) (λ t. refl) in
    let to = some-read (texts_of row) RoutePlace PlaceOf place_in (text_at row 4) (λ t. refl) in
    let class = some-read (texts_of row) ClassName Word class_in (text_at row 5) (λ t. refl) in
    let asked : RowsAsked = record { route = some_read class_in (text_at row 2); from = some_read place_in (text_at row 3); to = some_read place_in (text_at row 4); class = some_read class_in (text_at row 5); asset = None; form = Decimal } in
    (question.Rows asked, is, λ i. route i ∷ from i ∷ to i ∷ class i ∷ [])

-- which overlay
read-overlay : (row : List Text) (name : Text) → name ≡ codes "overlay" → IsRead row name
read-overlay row name is =
    let route = some-read (texts_of row) RouteName Word class_in (text_at row 2) (λ t. refl) in
    let side = some-read (texts_of row) OneSide LinkSideOf link_side_from (text_at row 3) (λ t. refl) in
    let gaps = gaps-read (texts_of row) (text_at row 5) in
    let classes : List Name = map class_in (words_of (text_at row 4)) in
    let asked : OverlayAsked = record { classes = classes; route = some_read class_in (text_at row 2); side = some_read link_side_from (text_at row 3); from = None; to = None; gaps = not (is_nothing (text_at row 5)) } in
    (question.Overlay asked, is, λ i. route i ∷ side i ∷ ClassesOf classes ∷ gaps i ∷ [])

-- how long the values are of which route
read-lengths : (row : List Text) (name : Text) → name ≡ codes "lengths" → IsRead row name
read-lengths row name is =
    let route = some-read (texts_of row) RouteName Word class_in (text_at row 2) (λ t. refl) in
    (question.Lengths (some_read class_in (text_at row 2)), is, λ i. route i ∷ [])

-- each name has a question of what its fields say
read-question : (row : List Text) (name : Text) → Contains all_questions name → IsRead row name
read-question row name (zero, below, is) =
    let e : Expr = expression_in (method_from (text_at row 3)) (text_at row 4) in
    let by = read-method (method_from (text_at row 3)) (text_at row 4) in
    (question.At (text_at row 2) e, sym is, λ i. Word (text_at row 2) ∷ MethodOf (by i) ∷ At e ∷ [])
read-question row name (suc zero, below, is) =
    let e : Expr = expression_in (method_from (text_at row 3)) (text_at row 4) in
    let by = read-method (method_from (text_at row 3)) (text_at row 4) in
    (question.Translate (text_at row 2) e (destination_from (text_at row 5)), sym is, λ i. Word (text_at row 2) ∷ MethodOf (by i) ∷ At e ∷ DestinationOf (destination_from (text_at row 5)) ∷ [])
read-question row name (suc (suc zero), below, is) = (question.Find (digits_value 10 (text_at row 2)), sym is, refl)
read-question row name (suc (suc (suc zero)), below, is) = (question.Segments (text_at row 2) (side_from (text_at row 3)) (map class_in (words_of (text_at row 4))), sym is, refl)
read-question row name (suc (suc (suc (suc zero))), below, is) = read-where row name (sym is)
read-question row name (suc (suc (suc (suc (suc zero)))), below, is) = read-rows row name (sym is)
read-question row name (suc (suc (suc (suc (suc (suc zero))))), below, is) = read-overlay row name (sym is)
read-question row name (suc (suc (suc (suc (suc (suc (suc zero)))))), below, is) = read-lengths row name (sym is)
read-question row name (suc (suc (suc (suc (suc (suc (suc (suc zero))))))), below, is) = (question.List (History (digits_value 10 (text_at row 2))), sym is, refl)
read-question row name (suc (suc (suc (suc (suc (suc (suc (suc (suc k)))))))), below, is) = absurd (omega (arith, below))

-- where no field is malformed, a question is asked
asks : (row : List Text) → malformed_by all_questions question_shapes row ≡ None → (key : Text) × (q : Question) × SaysQuestion row key q
asks row none =
    let (key, known, fits) = none-malformed all_questions question_shapes row none in
    let (q, is, said) = read-question row (text_at row 1) (among all_questions (text_at row 1) known) in
    let fit = subst (λ n. misfit_in row 2 (question_shapes n) ≡ None) is fits in
    let all = fitting-say row 2 (question_shapes (question_of q)) fit in (
      text_at row 0,
      q,
      record {
        is_key = key;
        same_key = refl;
        is_question = among all_questions (text_at row 1) known;
        same_question = is;
        arguments = subst (SayAll row 2 (question_shapes (question_of q))) said all;
      },
    )

each-judged : (row : List Text) → ((key : Text) × (q : Question) × SaysQuestion row key q) ⊎ ((place : ℕ) × FirstMalformedQuestion row place)
each-judged row = by (malformed_by all_questions question_shapes row) refl
  where
    by : (o : Option ℕ) → malformed_by all_questions question_shapes row ≡ o → ((key : Text) × (q : Question) × SaysQuestion row key q) ⊎ ((place : ℕ) × FirstMalformedQuestion row place)
    by None e = inl (asks row e)
    by (Some place) e = inr (place, malformed-by all_questions question_shapes row place e)

pub questions_are_judged : QuestionsAreJudged
questions_are_judged = record {
  some = each-judged;
  one_question = one-question;
  one_field = λ fields place other h g. one-place all_questions question_shapes fields place other h g;
  not_both = λ fields key q place says first. first.malformed (well-formed-asked fields key q says place);
}
