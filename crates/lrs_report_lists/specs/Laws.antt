-- Laws of lists: a row of a stretch has a millimetre of it, the rows that are told are those that are asked for, a row holds the same on the links under it, and no field has to be quoted.
use Rattle.std.specs.Prelude.{◌≡◌, ◌↔◌, ⊤, ℕ, ◌+◌, ◌<◌, ◌≤◌, ◌^◌, Bool, true, false, ◌&&◌, not, nat_eq, nat_le, nat_lt, IsTrue, pos, List, [], ◌∷◌, filter, IsPermutation, Option, Some, None}
use Rattle.std.specs.List.{list_all, list_any}
use Rattle.std.specs.Fmt.{decimal}
use Rattle.lrs_measure.specs.Lists.{each_two}
use Rattle.lrs_measure.specs.FractionTexts.{fraction_text, metres_text}
use Rattle.lrs_position.specs.Names.{is_referent_name, is_route_name}
use Rattle.lrs_element.specs.declared.link.Piece.{Piece}
use Rattle.lrs_element.specs.Pieces.{ground_of, piece_len}
use Rattle.lrs_events.specs.declared.side.LinkSide.{LinkSide}
use Rattle.lrs_events.specs.declared.side.Side.{Side}
use Rattle.lrs_events.specs.declared.span.Span.{Span}
use Rattle.lrs_events.specs.Members.{has_side}
use Rattle.lrs_events.specs.Spans.{are_rows}
use Rattle.lrs_events.specs.Places.{along_link}
use Rattle.lrs_events.specs.Names.{is_class_name, is_value}
use Rattle.lrs_machine.specs.Keys.{is_key}
use Rattle.lrs_machine.specs.Lines.{Text, line_of}
use Rattle.lrs_machine.specs.declared.command.Command.{Command}
use Rattle.lrs_machine.specs.declared.question.RowsWanted.{RowsWanted}
use Rattle.lrs_report_lists.specs.declared.link_rows.LinkStretch.{LinkStretch}
use Rattle.lrs_report_lists.specs.Lines.{verb_in}
use Rattle.lrs_report_lists.specs.LinkRows.{on_piece, seen_along}
use Rattle.lrs_report_lists.specs.RoadOrder.{in_road_order, road_before}
use Rattle.lrs_report_lists.specs.WantedRows.{has_between, is_wanted}

-- the chainage is at or behind the start of the stretch that is asked for
abbrev pub IsBehind : Option ℕ → ℕ → Type 0
IsBehind None j = ⊤
IsBehind (Some from) j = from ≤ j

-- it is before its end
abbrev pub IsBefore : Option ℕ → ℕ → Type 0
IsBefore None j = ⊤
IsBefore (Some to) j = j < to

-- The millimetre is of the row, and of the stretch that is asked for.
pub record IsOfBoth (from to : Option ℕ) (r : Span) (j : ℕ) : Type 0 where
  pub start : r.from ≤ j
  pub end : j < r.to
  pub behind : IsBehind from j
  pub before : IsBefore to j

-- A row is of a stretch exactly where they have a millimetre in common.
abbrev pub RowsHaveAMillimetre : Type 0
RowsHaveAMillimetre = (from to : Option ℕ) (r : Span) → IsTrue (has_between from to r) ↔ ((j : ℕ) × IsOfBoth from to r j)

-- These are the rows of a route that are asked for, each as often as the route has it, and each two are in the order of the road.
pub record AreToldOf (w : RowsWanted) (rows told : List Span) : Type 0 where
  pub same : IsPermutation (filter (is_wanted w) rows) told
  pub order : each_two road_before told ≡ true

abbrev pub RowsAreToldInOrder : Type 0
RowsAreToldInOrder = (w : RowsWanted) (rows : List Span) → IsTrue (are_rows rows) → AreToldOf w rows (in_road_order (filter (is_wanted w) rows))

-- the byte means nothing in CSV: it is no quotation mark, no comma and no end of a line
abbrev pub is_plain_byte : ℕ → Bool
is_plain_byte byte = not (list_any (nat_eq byte) (34 ∷ 44 ∷ 10 ∷ 13 ∷ []))

abbrev pub IsPlain : Text → Type 0
IsPlain text = list_all is_plain_byte text ≡ true

-- no name and no value has such a byte
abbrev pub NamesArePlain : Type 0
NamesArePlain = (text : Text)
    → (IsTrue (is_route_name text) → IsPlain text) × (IsTrue (is_referent_name text) → IsPlain text) × (IsTrue (is_class_name text) → IsPlain text) × (IsTrue (is_value text) → IsPlain text)

-- no key has, and no verb of a command
abbrev pub KeysArePlain : Type 0
KeysArePlain = (text : Text) → IsTrue (is_key text) → IsPlain text

abbrev pub VerbsArePlain : Type 0
VerbsArePlain = (c : Command) → IsPlain (verb_in (line_of c))

-- no number of 64 bits has
abbrev pub NumbersArePlain : Type 0
NumbersArePlain = (n : ℕ) → n < 2 ^ 64 → IsPlain (decimal n)

-- no measure has
abbrev pub MeasuresArePlain : Type 0
MeasuresArePlain = (n d : ℕ) → n < 10 ^ 64 → d < 10 ^ 64 → IsPlain (fraction_text (record { num = pos n; den = d }))

-- no measure that is told as a decimal has
abbrev pub DecimalsArePlain : Type 0
DecimalsArePlain = (n : ℕ) → n < 2 ^ 64 → IsPlain (metres_text n)

-- No field has to be quoted.
pub record NoFieldNeedsQuotes : Type 0 where
  pub names : NamesArePlain
  pub keys : KeysArePlain
  pub verbs : VerbsArePlain
  pub numbers : NumbersArePlain
  pub measures : MeasuresArePlain
  pub decimals : DecimalsArePlain

-- the stretch of a link has the millimetre
abbrev pub has_mm : Option LinkStretch → ℕ → Bool
has_mm None mm = false
has_mm (Some s) mm = nat_le s.from mm && nat_lt mm s.to

-- What a row has of a piece of its route, on the link, are those millimetres of the piece whose chainages the row holds.
abbrev pub RowsHoldTheSameOnLinks : Type 0
RowsHoldTheSameOnLinks = (r : Span) (start : ℕ) (p : Piece) (k : ℕ) → k < piece_len p → has_mm (on_piece r start p) (ground_of p k).mm ≡ (nat_le r.from (start + k) && nat_lt (start + k) r.to)

-- A side of the link is among those that are told exactly where the side of the route that lies there is among the row's.
abbrev pub SidesAreSeenAlongLinks : Type 0
SidesAreSeenAlongLinks = (forward : Bool) (side : Side) (s : LinkSide) → has_side (seen_along forward side) (along_link forward s) ≡ has_side side s
