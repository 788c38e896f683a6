-- What a record of a sheet of questions says: a key and a question, or which of its fields is the first malformed one.
use Rattle.std.specs.Prelude.{◌≡◌, ℕ, Bool, if◌then◌else◌, List, [], ◌∷◌, Option, None, IsTrue, Contains, codes, map}
use Rattle.lrs_machine.specs.Keys.{is_key}
use Rattle.lrs_machine.specs.Lines.{Text}
use Rattle.lrs_machine.specs.declared.answer.Field.{Field}
use Rattle.lrs_machine.specs.declared.answer.Field.TheVariants as field
use Rattle.lrs_machine.specs.declared.question.Question.{Question}
use Rattle.lrs_machine.specs.declared.question.Question.TheVariants as question
use Rattle.lrs_machine.specs.declared.question.AskedPlace.{AskedPlace}
use Rattle.lrs_machine.specs.declared.question.AskedPlace.TheVariants.{OnLink, OnRoute}
use Rattle.lrs_machine.specs.declared.question.Listing.{Listing}
use Rattle.lrs_machine.specs.declared.question.Listing.TheVariants.{History}
use Rattle.lrs_machine.specs.declared.question.OverlayAsked.{OverlayAsked}
use Rattle.lrs_machine.specs.declared.question.Place.{Place}
use Rattle.lrs_machine.specs.declared.question.RowForm.{RowForm}
use Rattle.lrs_machine.specs.declared.question.RowForm.TheVariants.{Decimal}
use Rattle.lrs_machine.specs.declared.question.RowsAsked.{RowsAsked}
use Rattle.lrs_sheet_records.specs.declared.question.Asked.{Asked}
use Rattle.lrs_sheet_records.specs.declared.question.Asked.TheVariants as asked
use Rattle.lrs_sheet_records.specs.declared.fault.ReadFault.{ReadFault}
use Rattle.lrs_sheet_records.specs.declared.fault.ReadFault.TheVariants as fault
use Rattle.lrs_sheet_records.specs.Kinds.{without_mark}
use Rattle.lrs_sheet_records.specs.Records.{FirstMalformedBy, RunsOutBy, SayAll, place_of, text_at}
use Rattle.lrs_sheet_records.specs.Shapes.{Argument, Nothing, Number, Word, SideOf, MethodOf, At, ClassesOf, DestinationOf, PlaceOf, LinkSideOf, Gaps, Shape, ClassName, RouteName, RouteSide, MethodName, PositionBy, ClassNames, DestinationName, LinkOrRoute, LinkOrPlace, MillimetreOrNothing, RoutePlace, OneSide, GapsWord, OrNothing}
use Rattle.lrs_sheet_records.specs.Verbs.{Row, asset_number, method_of, or_nothing, shapes_in}

-- the header of a sheet of questions
abbrev pub question_header : List Text
question_header = codes "key" ∷ codes "question" ∷ codes "a" ∷ codes "b" ∷ codes "c" ∷ codes "d" ∷ []

-- The fields are the header of a sheet of questions.
abbrev pub IsQuestionHeader : List Text → Type 0
IsQuestionHeader fields = without_mark fields ≡ question_header

-- the name of a column in this header
abbrev pub column_text : Field → Text
column_text field.Key = codes "key"
column_text field.Verb = codes "question"
column_text field.A = codes "a"
column_text field.B = codes "b"
column_text field.C = codes "c"
column_text field.D = codes "d"
column_text _ = []

-- The questions that there are, and what the fields a, b, .. of each say.
abbrev pub questions : List Row
questions =
    record { name = codes "at"; shapes = RouteName ∷ MethodName ∷ PositionBy field.B ∷ [] }
    ∷ record { name = codes "translate"; shapes = RouteName ∷ MethodName ∷ PositionBy field.B ∷ DestinationName ∷ [] }
    ∷ record { name = codes "find"; shapes = asset_number ∷ [] }
    ∷ record { name = codes "segments"; shapes = RouteName ∷ RouteSide ∷ ClassNames ∷ [] }
    ∷ record { name = codes "where"; shapes = LinkOrRoute ∷ LinkOrPlace field.A ∷ MillimetreOrNothing field.A ∷ [] }
    ∷ record { name = codes "rows"; shapes = OrNothing RouteName ∷ OrNothing RoutePlace ∷ OrNothing RoutePlace ∷ OrNothing ClassName ∷ [] }
    ∷ record { name = codes "overlay"; shapes = OrNothing RouteName ∷ OrNothing OneSide ∷ ClassNames ∷ OrNothing GapsWord ∷ [] }
    ∷ record { name = codes "lengths"; shapes = OrNothing RouteName ∷ [] }
    ∷ record { name = codes "history"; shapes = asset_number ∷ [] }
    ∷ []

abbrev pub all_questions : List Text
all_questions = map (λ row. row.name) questions

abbrev pub question_shapes : Text → List Shape
question_shapes name = shapes_in questions name

-- under which name each is asked
abbrev pub name_of : Asked → Text
name_of asked.At = codes "at"
name_of asked.Translate = codes "translate"
name_of asked.Find = codes "find"
name_of asked.Segments = codes "segments"
name_of asked.Where = codes "where"
name_of asked.Rows = codes "rows"
name_of asked.Overlay = codes "overlay"
name_of asked.Lengths = codes "lengths"
name_of asked.History = codes "history"

-- rows are asked of all assets, with measures as decimals
abbrev pub rows_word : Option ℕ → RowForm → Text
rows_word None Decimal = codes "rows"
rows_word _ _ = []

-- an overlay is asked of whole routes
abbrev pub overlay_word : Option Place → Option Place → Text
overlay_word None None = codes "overlay"
overlay_word _ _ = []

-- of the lists a history is asked
abbrev pub listing_word : Listing → Text
listing_word (History asset) = codes "history"
listing_word _ = []

-- the name of a question; no record asks any other kind
abbrev pub question_of : Question → Text
question_of (question.At route e) = codes "at"
question_of (question.Translate route e to) = codes "translate"
question_of (question.Find asset) = codes "find"
question_of (question.Segments route side classes) = codes "segments"
question_of (question.Where spot) = codes "where"
question_of (question.Rows asked) = rows_word asked.asset asked.form
question_of (question.Overlay asked) = overlay_word asked.from asked.to
question_of (question.Lengths route) = codes "lengths"
question_of (question.List listing) = listing_word listing
question_of _ = []

-- whether only gaps are asked for
abbrev pub gaps_argument : Bool → Argument
gaps_argument gaps = if gaps then Gaps else Nothing

-- what is asked of a place: a route and a place of it, or `link`, the number of the link and a millimetre of it
abbrev pub asked_place : AskedPlace → List Argument
asked_place (OnRoute route place) = Word route ∷ PlaceOf place ∷ Nothing ∷ []
asked_place (OnLink link mm) = Word (codes "link") ∷ Number link ∷ Number mm ∷ []

-- of which rows: on a route, from a place, to a place, and of a class
abbrev pub rows_asked : RowsAsked → List Argument
rows_asked asked = or_nothing Word asked.route ∷ or_nothing PlaceOf asked.from ∷ or_nothing PlaceOf asked.to ∷ or_nothing Word asked.class ∷ []

-- of which segments: on a route, on a side, by which classes, and whether only where one has no value
abbrev pub overlay_asked : OverlayAsked → List Argument
overlay_asked asked = or_nothing Word asked.route ∷ or_nothing LinkSideOf asked.side ∷ ClassesOf asked.classes ∷ gaps_argument asked.gaps ∷ []

-- of which asset the history
abbrev pub listing_asked : Listing → List Argument
listing_asked (History asset) = Number asset ∷ []
listing_asked _ = []

-- what it asks, in the order of the fields a, b, ..
abbrev pub asked_by : Question → List Argument
asked_by (question.At route e) = Word route ∷ MethodOf (method_of e) ∷ At e ∷ []
asked_by (question.Translate route e to) = Word route ∷ MethodOf (method_of e) ∷ At e ∷ DestinationOf to ∷ []
asked_by (question.Find asset) = Number asset ∷ []
asked_by (question.Segments route side classes) = Word route ∷ SideOf side ∷ ClassesOf classes ∷ []
asked_by (question.Where spot) = asked_place spot
asked_by (question.Rows asked) = rows_asked asked
asked_by (question.Overlay asked) = overlay_asked asked
asked_by (question.Lengths route) = or_nothing Word route ∷ []
asked_by (question.List listing) = listing_asked listing
asked_by _ = []

-- The fields ask this question under this key.
pub record SaysQuestion (fields : List Text) (key : Text) (q : Question) : Type 0 where
  pub is_key : IsTrue (is_key (text_at fields 0))
  pub same_key : key ≡ text_at fields 0
  pub is_question : Contains all_questions (text_at fields 1)
  pub same_question : text_at fields 1 ≡ question_of q
  pub arguments : SayAll fields 2 (question_shapes (question_of q)) (asked_by q)

-- The field at this place is the first that is malformed.
abbrev pub FirstMalformedQuestion : List Text → ℕ → Type 0
FirstMalformedQuestion = FirstMalformedBy all_questions question_shapes

-- a fault names the first malformed field, or lack of memory for a list
abbrev pub RefusesQuestion : List Text → ReadFault → Type 0
RefusesQuestion fields (fault.Field at) = FirstMalformedQuestion fields (place_of at)
RefusesQuestion fields fault.Memory = RunsOutBy all_questions question_shapes fields
