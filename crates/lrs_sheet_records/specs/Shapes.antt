-- What one field of a record may say: its shape, and the argument that a text of that shape says.
use Rattle.std.specs.Prelude.{◌≡◌, ◌||◌, ℕ, ◌≤◌, Bool, true, false, List, [], length, slice_get, Option, Some, None, IsTrue, ⊤, codes}
use Rattle.std.specs.Option.{option_map_or}
use Rattle.std.specs.Str.{bytes_eq}
use Rattle.lrs_measure.specs.Limits.{greatest_link, longest_link}
use Rattle.lrs_measure.specs.Texts.{Name}
use Rattle.lrs_element.specs.declared.link.Piece.{Piece}
use Rattle.lrs_element.specs.declared.marks.Mark.{Mark}
use Rattle.lrs_position.specs.Names.{is_route_name, is_referent_name}
use Rattle.lrs_position.specs.Readings.{States, IsNamed, method_text, target_text}
use Rattle.lrs_position.specs.declared.expression.Expr.{Expr}
use Rattle.lrs_position.specs.declared.expression.Method.{Method}
use Rattle.lrs_events.specs.Names.{is_class_name, is_value, kind_text, side_text}
use Rattle.lrs_events.specs.declared.class.Kind.{Kind}
use Rattle.lrs_events.specs.declared.side.LinkSide.{LinkSide}
use Rattle.lrs_events.specs.declared.side.LinkSide.TheVariants.{Left, Right}
use Rattle.lrs_events.specs.declared.side.Side.{Side}
use Rattle.lrs_machine.specs.EnteredNumbers.{are_entered_pieces, are_entered_marks}
use Rattle.lrs_machine.specs.Lines.{Text}
use Rattle.lrs_machine.specs.PlaceTexts.{SaysPlace}
use Rattle.lrs_machine.specs.declared.answer.Field.{Field}
use Rattle.lrs_machine.specs.declared.question.Destination.{Destination}
use Rattle.lrs_machine.specs.declared.question.Destination.TheVariants as destination
use Rattle.lrs_machine.specs.declared.question.Place.{Place}
use Rattle.lrs_sheet_records.specs.Words.{AreSaid, IsClassWord, IsMarkText, IsPieceText, SaysNumber, most_words, words_of}

-- an argument of a command or of a question, or that there is nothing in its place
pub data Argument : Type 0 where
  Nothing : Argument
  Number : ℕ → Argument
  Word : Text → Argument
  KindOf : Kind → Argument
  SideOf : Side → Argument
  MethodOf : Method → Argument
  At : Expr → Argument
  PiecesOf : List Piece → Argument
  MarksOf : List Mark → Argument
  ClassesOf : List Name → Argument
  DestinationOf : Destination → Argument
  PlaceOf : Place → Argument
  LinkSideOf : LinkSide → Argument
  Gaps : Argument

-- what a field may say: a number between two bounds, a name of one of the alphabets, one of the words for kinds, sides and methods, a position by the method that another field names, a list, how a position is to be told, `link` or a route, behind such a field the number of the link or a place of the route, and the millimetre of the link or nothing; a place of a route, one side of two, or the word `gaps`; or one of these that may be missing
pub data Shape : Type 0 where
  Whole : ℕ → ℕ → Shape
  ClassName : Shape
  RouteName : Shape
  ReferentName : Shape
  AssetValue : Shape
  ClassKind : Shape
  RouteSide : Shape
  MethodName : Shape
  PositionBy : Field → Shape
  Pieces : Shape
  Marks : Shape
  ClassNames : Shape
  DestinationName : Shape
  LinkOrRoute : Shape
  LinkOrPlace : Field → Shape
  MillimetreOrNothing : Field → Shape
  RoutePlace : Shape
  OneSide : Shape
  GapsWord : Shape
  OrNothing : Shape → Shape

-- whether what a field of the shape says is a list
abbrev pub is_list : Shape → Bool
is_list Pieces = true
is_list Marks = true
is_list ClassNames = true
is_list (OrNothing shape) = is_list shape
is_list _ = false

-- whether that of the field at a place is
abbrev pub is_list_at : List Shape → ℕ → Bool
is_list_at shapes i = option_map_or is_list (slice_get shapes i) false

-- The text states the expression by the method of this name.
abbrev pub StatesBy : Text → Text → Expr → Type 0
StatesBy name text e = (method : Method) × (name ≡ method_text method) × States method text e

-- how a position is to be told: a target, or `link`
abbrev pub destination_text : Destination → Text
destination_text (destination.Method target) = target_text target
destination_text destination.Link = codes "link"

-- a destination that names a referent does so by a name
abbrev pub IsReachable : Destination → Type 0
IsReachable (destination.Method target) = IsNamed target
IsReachable destination.Link = ⊤

-- whether a text is the word `link`
abbrev pub is_link_word : Text → Bool
is_link_word text = bytes_eq text (codes "link")

-- one side of two
abbrev pub link_side_text : LinkSide → Text
link_side_text Left = codes "L"
link_side_text Right = codes "R"

-- The text says this argument, where the record's fields have these texts.
abbrev pub Says : (Field → Text) → Shape → Text → Argument → Type 0
Says texts (Whole low high) text (Number n) = SaysNumber low high text n
Says texts ClassName text (Word name) = IsTrue (is_class_name text) × (name ≡ text)
Says texts RouteName text (Word name) = IsTrue (is_route_name text) × (name ≡ text)
Says texts ReferentName text (Word name) = IsTrue (is_referent_name text) × (name ≡ text)
Says texts AssetValue text (Word value) = IsTrue (is_value text) × (value ≡ text)
Says texts ClassKind text (KindOf kind) = text ≡ kind_text kind
Says texts RouteSide text (SideOf side) = text ≡ side_text side
Says texts MethodName text (MethodOf method) = text ≡ method_text method
Says texts (PositionBy field) text (At e) = StatesBy (texts field) text e
Says texts Pieces text (PiecesOf pieces) = AreSaid IsPieceText (words_of text) pieces × IsTrue (are_entered_pieces pieces)
Says texts Marks text (MarksOf marks) = AreSaid IsMarkText (words_of text) marks × IsTrue (are_entered_marks marks)
Says texts ClassNames text (ClassesOf names) = AreSaid IsClassWord (words_of text) names × (length names ≤ most_words)
Says texts DestinationName text (DestinationOf to) = (text ≡ destination_text to) × IsReachable to
Says texts LinkOrRoute text (Word word) = IsTrue (is_link_word text || is_route_name text) × (word ≡ text)
Says texts (LinkOrPlace field) text (Number link) = IsTrue (is_link_word (texts field)) × SaysNumber 1 greatest_link text link
Says texts (LinkOrPlace field) text (PlaceOf place) = (is_link_word (texts field) ≡ false) × SaysPlace text place
Says texts (MillimetreOrNothing field) text (Number mm) = IsTrue (is_link_word (texts field)) × SaysNumber 0 longest_link text mm
Says texts (MillimetreOrNothing field) text Nothing = (is_link_word (texts field) ≡ false) × (text ≡ [])
Says texts RoutePlace text (PlaceOf place) = SaysPlace text place
Says texts OneSide text (LinkSideOf side) = text ≡ link_side_text side
Says texts GapsWord text Gaps = text ≡ codes "gaps"
-- an empty text says that there is nothing
Says texts (OrNothing shape) text Nothing = text ≡ []
Says texts (OrNothing shape) text argument = Says texts shape text argument
-- no other argument is said
Says texts _ text _ = ⊥

-- the text says an argument of the shape, and where no shape is wanted it is empty
abbrev pub Fits : (Field → Text) → Option Shape → Text → Type 0
Fits texts None text = text ≡ []
Fits texts (Some shape) text = (argument : Argument) × Says texts shape text argument
