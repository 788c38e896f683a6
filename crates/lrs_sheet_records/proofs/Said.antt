-- What the text of each shape says.
use Rattle.std.proofs.Common.{◌≡◌, ◌⊎◌, ℕ, ◌≤◌, List, [], length, refl, inl, inr}
use Rattle.std.specs.Prelude.{IsTrue, ◌||◌, codes, false}
use Rattle.lrs_measure.specs.Limits.{greatest_link, longest_link}
use Rattle.lrs_measure.specs.Texts.{Name}
use Rattle.lrs_element.specs.declared.link.Piece.{Piece}
use Rattle.lrs_element.specs.declared.marks.Mark.{Mark}
use Rattle.lrs_position.specs.Names.{is_route_name, is_referent_name}
use Rattle.lrs_position.specs.Readings.{method_text}
use Rattle.lrs_position.specs.declared.expression.Expr.{Expr}
use Rattle.lrs_position.specs.declared.expression.Method.{Method}
use Rattle.lrs_events.specs.Names.{is_class_name, is_value, kind_text, side_text}
use Rattle.lrs_events.specs.declared.class.Kind.{Kind}
use Rattle.lrs_events.specs.declared.side.LinkSide.{LinkSide}
use Rattle.lrs_events.specs.declared.side.Side.{Side}
use Rattle.lrs_machine.specs.EnteredNumbers.{are_entered_pieces, are_entered_marks}
use Rattle.lrs_machine.specs.Lines.{Text}
use Rattle.lrs_machine.specs.declared.answer.Field.{Field}
use Rattle.lrs_machine.specs.declared.question.Destination.{Destination}
use Rattle.lrs_machine.specs.declared.question.Place.{Place}
use Rattle.lrs_machine.specs.PlaceTexts.{SaysPlace}
use Rattle.lrs_sheet_records.specs.Shapes.{Argument, Nothing, Number, Word, KindOf, SideOf, MethodOf, At, PiecesOf, MarksOf, ClassesOf, DestinationOf, PlaceOf, LinkSideOf, Gaps, Shape, Whole, ClassName, RouteName, ReferentName, AssetValue, ClassKind, RouteSide, MethodName, PositionBy, Pieces, Marks, ClassNames, DestinationName, LinkOrRoute, LinkOrPlace, MillimetreOrNothing, RoutePlace, OneSide, GapsWord, OrNothing, Says, StatesBy, IsReachable, destination_text, is_link_word, link_side_text}
use Rattle.lrs_sheet_records.specs.Words.{AreSaid, IsClassWord, IsMarkText, IsPieceText, SaysNumber, most_words, words_of}

-- a number
pub number-said : (texts : Field → Text) (low high : ℕ) (text : Text) (a : Argument) → Says texts (Whole low high) text a → (n : ℕ) × (a ≡ Number n) × SaysNumber low high text n
number-said texts low high text (Number n) h = (n, refl, h)
number-said texts low high text a h = absurd h

-- the name of a class
pub class-said : (texts : Field → Text) (text : Text) (a : Argument) → Says texts ClassName text a → (word : Text) × (a ≡ Word word) × IsTrue (is_class_name text) × (word ≡ text)
class-said texts text (Word word) h = (word, refl, h.0, h.1)
class-said texts text a h = absurd h

-- the name of a route
pub route-said : (texts : Field → Text) (text : Text) (a : Argument) → Says texts RouteName text a → (word : Text) × (a ≡ Word word) × IsTrue (is_route_name text) × (word ≡ text)
route-said texts text (Word word) h = (word, refl, h.0, h.1)
route-said texts text a h = absurd h

-- the name of a referent
pub referent-said : (texts : Field → Text) (text : Text) (a : Argument) → Says texts ReferentName text a → (word : Text) × (a ≡ Word word) × IsTrue (is_referent_name text) × (word ≡ text)
referent-said texts text (Word word) h = (word, refl, h.0, h.1)
referent-said texts text a h = absurd h

-- a value
pub value-said : (texts : Field → Text) (text : Text) (a : Argument) → Says texts AssetValue text a → (word : Text) × (a ≡ Word word) × IsTrue (is_value text) × (word ≡ text)
value-said texts text (Word word) h = (word, refl, h.0, h.1)
value-said texts text a h = absurd h

-- a kind
pub kind-said : (texts : Field → Text) (text : Text) (a : Argument) → Says texts ClassKind text a → (kind : Kind) × (a ≡ KindOf kind) × text ≡ kind_text kind
kind-said texts text (KindOf kind) h = (kind, refl, h)
kind-said texts text a h = absurd h

-- a side
pub side-said : (texts : Field → Text) (text : Text) (a : Argument) → Says texts RouteSide text a → (side : Side) × (a ≡ SideOf side) × text ≡ side_text side
side-said texts text (SideOf side) h = (side, refl, h)
side-said texts text a h = absurd h

-- a method
pub method-said : (texts : Field → Text) (text : Text) (a : Argument) → Says texts MethodName text a → (method : Method) × (a ≡ MethodOf method) × text ≡ method_text method
method-said texts text (MethodOf method) h = (method, refl, h)
method-said texts text a h = absurd h

-- a position
pub position-said : (texts : Field → Text) (field : Field) (text : Text) (a : Argument) → Says texts (PositionBy field) text a → (e : Expr) × (a ≡ At e) × StatesBy (texts field) text e
position-said texts field text (At e) h = (e, refl, h)
position-said texts field text a h = absurd h

-- pieces
pub pieces-said : (texts : Field → Text) (text : Text) (a : Argument) → Says texts Pieces text a → (pieces : List Piece) × (a ≡ PiecesOf pieces) × AreSaid IsPieceText (words_of text) pieces × IsTrue (are_entered_pieces pieces)
pieces-said texts text (PiecesOf pieces) h = (pieces, refl, h.0, h.1)
pieces-said texts text a h = absurd h

-- marks
pub marks-said : (texts : Field → Text) (text : Text) (a : Argument) → Says texts Marks text a → (marks : List Mark) × (a ≡ MarksOf marks) × AreSaid IsMarkText (words_of text) marks × IsTrue (are_entered_marks marks)
marks-said texts text (MarksOf marks) h = (marks, refl, h.0, h.1)
marks-said texts text a h = absurd h

-- names of classes
pub classes-said : (texts : Field → Text) (text : Text) (a : Argument) → Says texts ClassNames text a → (names : List Name) × (a ≡ ClassesOf names) × AreSaid IsClassWord (words_of text) names × (length names ≤ most_words)
classes-said texts text (ClassesOf names) h = (names, refl, h.0, h.1)
classes-said texts text a h = absurd h

-- how a position is to be told
pub destination-said : (texts : Field → Text) (text : Text) (a : Argument) → Says texts DestinationName text a → (to : Destination) × (a ≡ DestinationOf to) × (text ≡ destination_text to) × IsReachable to
destination-said texts text (DestinationOf to) h = (to, refl, h.0, h.1)
destination-said texts text a h = absurd h

-- `link`, or the name of a route
pub link-or-route-said : (texts : Field → Text) (text : Text) (a : Argument) → Says texts LinkOrRoute text a → (word : Text) × (a ≡ Word word) × IsTrue (is_link_word text || is_route_name text) × (word ≡ text)
link-or-route-said texts text (Word word) h = (word, refl, h.0, h.1)
link-or-route-said texts text a h = absurd h

-- a place on a link or on a route
pub place-said : (texts : Field → Text) (field : Field) (text : Text) (a : Argument) → Says texts (LinkOrPlace field) text a
    → ((link : ℕ) × (a ≡ Number link) × IsTrue (is_link_word (texts field)) × SaysNumber 1 greatest_link text link) ⊎ ((place : Place) × (a ≡ PlaceOf place) × (is_link_word (texts field) ≡ false) × SaysPlace text place)
place-said texts field text (Number link) h = inl (link, refl, h.0, h.1)
place-said texts field text (PlaceOf place) h = inr (place, refl, h.0, h.1)
place-said texts field text a h = absurd h

-- a millimetre, or nothing
pub millimetre-said : (texts : Field → Text) (field : Field) (text : Text) (a : Argument) → Says texts (MillimetreOrNothing field) text a
    → ((mm : ℕ) × (a ≡ Number mm) × IsTrue (is_link_word (texts field)) × SaysNumber 0 longest_link text mm) ⊎ ((a ≡ Nothing) × (is_link_word (texts field) ≡ false) × (text ≡ []))
millimetre-said texts field text (Number mm) h = inl (mm, refl, h.0, h.1)
millimetre-said texts field text Nothing h = inr (refl, h.0, h.1)
millimetre-said texts field text a h = absurd h

-- a place of a route
pub route-place-said : (texts : Field → Text) (text : Text) (a : Argument) → Says texts RoutePlace text a → (place : Place) × (a ≡ PlaceOf place) × SaysPlace text place
route-place-said texts text (PlaceOf place) h = (place, refl, h)
route-place-said texts text a h = absurd h

-- one side of two
pub one-side-said : (texts : Field → Text) (text : Text) (a : Argument) → Says texts OneSide text a → (side : LinkSide) × (a ≡ LinkSideOf side) × (text ≡ link_side_text side)
one-side-said texts text (LinkSideOf side) h = (side, refl, h)
one-side-said texts text a h = absurd h

-- the word `gaps`
pub gaps-said : (texts : Field → Text) (text : Text) (a : Argument) → Says texts GapsWord text a → (a ≡ Gaps) × (text ≡ codes "gaps")
gaps-said texts text Gaps h = (refl, h)
gaps-said texts text a h = absurd h

-- nothing, or what the shape says
pub nothing-or-said : (texts : Field → Text) (shape : Shape) (text : Text) (a : Argument) → Says texts (OrNothing shape) text a → ((a ≡ Nothing) × (text ≡ [])) ⊎ Says texts shape text a
nothing-or-said texts shape text Nothing h = inl (refl, h)
nothing-or-said texts shape text a h = inr h
