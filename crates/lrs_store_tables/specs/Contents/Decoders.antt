-- What a row of a table says, if its numbers and texts are those of such a row.
use Rattle.std.specs.Prelude.{ℕ, ℤ, pos, negsuc, ◌+◌, ◌^◌, Bool, true, false, ◌&&◌, nat_eq, nat_lt, IsTrue, refl, List, [], ◌∷◌, map, filter, Option, Some, None, if◌then◌else◌}
use Rattle.std.specs.Str.{is_utf8}
use Rattle.lrs_measure.specs.OrderedLists.{insert_by}
use Rattle.lrs_measure.specs.Texts.{Name, same_name}
use Rattle.lrs_element.specs.declared.link.Link.{Link}
use Rattle.lrs_element.specs.declared.link.Piece.{Piece}
use Rattle.lrs_element.specs.declared.marks.Mark.{Mark}
use Rattle.lrs_measure.specs.Limits.{is_link}
use Rattle.lrs_position.specs.declared.route.Referent.{Referent}
use Rattle.lrs_position.specs.Names.{is_route_name, is_referent_name}
use Rattle.lrs_events.specs.declared.class.Kind.{Kind}
use Rattle.lrs_events.specs.declared.class.Kind.TheVariants.{Point, Stretch, Exclusive}
use Rattle.lrs_events.specs.declared.class.Class.{Class}
use Rattle.lrs_events.specs.declared.class.Asset.{Asset}
use Rattle.lrs_events.specs.declared.side.Side.{Side}
use Rattle.lrs_events.specs.declared.side.Side.TheVariants.{L, R, B}
use Rattle.lrs_events.specs.declared.side.LinkSide.{LinkSide}
use Rattle.lrs_events.specs.declared.side.LinkSide.TheVariants.{Left, Right}
use Rattle.lrs_events.specs.declared.span.Span.{Span}
use Rattle.lrs_events.specs.declared.part.Part.{Part}
use Rattle.lrs_events.specs.declared.part.Gone.{Gone}
use Rattle.lrs_events.specs.Names.{is_class_name, is_value}
use Rattle.lrs_machine.specs.declared.image.Edit.{Edit}
use Rattle.lrs_machine.specs.Keys.{is_key}
use Rattle.lrs_store_tables.specs.Contents.Tables.{LinkRow, ClassRow, AssetRow, PieceRow, MarkRow, RefRow, SpanRow, EnteredRow, GoneRow, EditRow, OriginRow}

infixl 10 ◌>>=◌
abbrev pub ◌>>=◌ : {A B : Type 0} → Option A → (A → Option B) → Option B
None >>= f = None
(Some x) >>= f = f x

-- a value that needs a test to pass
abbrev pub if_true : {A : Type 0} (b : Bool) → (IsTrue b → A) → Option A
if_true true value = Some (value refl)
if_true false value = None

abbrev pub only_if : {A : Type 0} → Bool → A → Option A
only_if b x = if b then Some x else None

-- a number that is not negative, below an end
abbrev pub below : ℕ → ℤ → Option ℕ
below end (pos n) = only_if (nat_lt n end) n
below end (negsuc n) = None

-- a whole number that a stored one can be, and one of 32 bits
abbrev pub whole : ℤ → Option ℕ
whole z = below (2 ^ 63) z

abbrev pub short : ℤ → Option ℕ
short z = below (2 ^ 32) z

-- what every row says, if each says something
abbrev pub each_of : {Row X : Type 0} → (Row → Option X) → List Row → Option (List X)
each_of decoded [] = Some []
each_of decoded (r ∷ rs) = decoded r >>= (λ x. each_of decoded rs >>= (λ xs. Some (x ∷ xs)))

-- what a row says of a route
pub record OfRoute (X : Type 0) : Type 0 where
  pub route : Name
  pub said : X

-- what the rows say of this route
abbrev pub said_of : {X : Type 0} → Name → List (OfRoute X) → List X
said_of route rows = map (λ r. r.said) (filter (λ r. same_name r.route route) rows)

-- what a row says under its number
pub record Numbered (X : Type 0) : Type 0 where
  pub n : ℕ
  pub said : X

abbrev pub number_before : {X : Type 0} → Numbered X → Numbered X → Bool
number_before a b = nat_lt a.n b.n

-- what was said, in this order
abbrev pub sorted : {X : Type 0} → (X → X → Bool) → List X → List X
sorted before [] = []
sorted before (x ∷ xs) = insert_by before x (sorted before xs)

-- what each of the rows says, in this order
abbrev pub each_sorted : {Row X : Type 0} → (X → X → Bool) → (Row → Option X) → List Row → Option (List X)
each_sorted before decoded rows = each_of decoded rows >>= (λ xs. Some (sorted before xs))

-- what numbered rows say, if their numbers are those from k on
abbrev pub counted : {X : Type 0} → ℕ → List (Numbered X) → Option (List X)
counted k [] = Some []
counted k (r ∷ rs) = only_if (nat_eq r.n k) r.said >>= (λ x. counted (k + 1) rs >>= (λ xs. Some (x ∷ xs)))

-- 0 point, 1 stretch, 2 exclusive
abbrev pub kind_numbered : ℕ → Option Kind
kind_numbered n = if nat_eq n 0 then Some Point else if nat_eq n 1 then Some Stretch else if nat_eq n 2 then Some Exclusive else None

-- 0 L, 1 R, 2 B
abbrev pub side_numbered : ℕ → Option Side
side_numbered n = if nat_eq n 0 then Some L else if nat_eq n 1 then Some R else if nat_eq n 2 then Some B else None

-- 0 left, 1 right
abbrev pub link_side_numbered : ℕ → Option LinkSide
link_side_numbered n = if nat_eq n 0 then Some Left else if nat_eq n 1 then Some Right else None

-- 0 forwards, 1 backwards
abbrev pub is_forward_numbered : ℕ → Option Bool
is_forward_numbered n = if nat_eq n 0 then Some true else if nat_eq n 1 then Some false else None

-- 0 retired, 1 abandoned
abbrev pub is_abandoned_numbered : ℕ → Option Bool
is_abandoned_numbered n = if nat_eq n 0 then Some false else if nat_eq n 1 then Some true else None

abbrev pub link_of : LinkRow → Option Link
link_of r = do
  number ← whole r.number
  length ← whole r.length
  if_true (is_link number length) (λ limits. record { number = number; length = length; limits = limits })

abbrev pub class_of : ClassRow → Option Class
class_of r = do
  kind ← whole r.kind >>= kind_numbered
  only_if (is_class_name r.name) (record { name = r.name; kind = kind })

-- the edit that entered it is not told by its row
abbrev pub asset_of : AssetRow → Option Asset
asset_of r = do
  number ← whole r.number
  lateral ← short r.lateral
  only_if (is_class_name r.class && is_value r.value) (record { number = number; class = r.class; value = r.value; lateral = lateral; entered_by = 0 })

abbrev pub piece_of : PieceRow → Option (OfRoute (Numbered Piece))
piece_of r = do
  n ← whole r.n
  link ← short r.link
  a ← short r.a
  b ← short r.b
  forward ← whole r.dir >>= is_forward_numbered
  only_if (is_route_name r.route && nat_lt a b) (record { route = r.route; said = record { n = n; said = record { link = link; from = a; to = b; forward = forward } } })

abbrev pub mark_of : MarkRow → Option (OfRoute (Numbered Mark))
mark_of r = do
  n ← whole r.n
  chainage ← whole r.chainage
  measure ← whole r.measure
  Some (record { route = r.route; said = record { n = n; said = record { chainage = chainage; measure = measure } } })

abbrev pub referent_of : RefRow → Option (OfRoute Referent)
referent_of r = do
  at ← whole r.place
  only_if (is_referent_name r.name) (record { route = r.route; said = record { name = r.name; at = at } })

-- the class that an asset has
abbrev pub class_of_asset : List Asset → ℕ → Option Name
class_of_asset [] number = None
class_of_asset (a ∷ as_) number = if nat_eq a.number number then Some a.class else class_of_asset as_ number

abbrev pub span_of : List Asset → SpanRow → Option (OfRoute Span)
span_of assets r = do
  asset ← whole r.asset
  class ← class_of_asset assets asset
  from ← whole r.lo
  to ← whole r.hi
  side ← whole r.side >>= side_numbered
  Some (record { route = r.route; said = record { asset = asset; class = class; from = from; to = to; side = side } })

abbrev pub part_of : EnteredRow → Option Part
part_of r = do
  edit ← whole r.edit
  asset ← whole r.asset
  link ← short r.link
  lo ← short r.lo
  hi ← short r.hi
  side ← whole r.side >>= link_side_numbered
  Some (record { edit = edit; asset = asset; link = link; from = lo; to = hi; side = side })

abbrev pub gone_of : GoneRow → Option Gone
gone_of r = do
  abandoned ← whole r.cause >>= is_abandoned_numbered
  part ← part_of r.row
  Some (record { part = part; abandoned = abandoned })

abbrev pub edit_of : EditRow → Option (Numbered Edit)
edit_of r = do
  n ← whole r.number
  only_if (is_key r.token && is_utf8 r.line) (record { n = n; said = record { key = r.token; line = r.line } })

-- an asset and the edit that entered it
pub record Origin : Type 0 where
  pub asset : ℕ
  pub edit : ℕ

abbrev pub origin_of : OriginRow → Option Origin
origin_of r = do
  asset ← whole r.asset
  edit ← whole r.edit
  Some (record { asset = asset; edit = edit })
