-- What is held, gathered from one edge of stretches to the next: the rows up to an edge, and what the next ones add.
use Rattle.std.specs.Prelude.{◌≡◌, ℕ, ◌<◌, Bool, true, false, ◌||◌, ◌&&◌, not, nat_eq, nat_lt, List, [], ◌∷◌, ◌++◌, Option, Some, None, if◌then◌else◌}
use Rattle.std.specs.List.{list_any}
use Rattle.lrs_measure.specs.Lists.{In, each_two}
use Rattle.lrs_measure.specs.Texts.{name_before}
use Rattle.lrs_events.specs.declared.side.LinkSide.{LinkSide}
use Rattle.lrs_events.specs.declared.side.LinkSide.TheVariants.{Left, Right}
use Rattle.lrs_events.specs.declared.side.Side.{Side}
use Rattle.lrs_events.specs.Canonical.{side_of}
use Rattle.lrs_events.specs.Places.{Place}
use Rattle.lrs_events.specs.Spans.{same_side}
use Rattle.lrs_difference.specs.declared.link_stretches.HeldStretch.{HeldStretch}
use Rattle.lrs_difference.specs.declared.sweep.Edge.{Edge}
use Rattle.lrs_difference.specs.Held.{holds_place}

-- ---- the order of asset, link and millimetre

abbrev pub place_key : ℕ → Place → List ℕ
place_key asset p = asset ∷ p.link ∷ p.mm ∷ []

abbrev pub edge_key : Edge → List ℕ
edge_key e = e.asset ∷ e.link ∷ e.mm ∷ []

abbrev pub start_key : HeldStretch → List ℕ
start_key h = h.asset ∷ h.stretch.link ∷ h.stretch.from ∷ []

abbrev pub end_key : HeldStretch → List ℕ
end_key h = h.asset ∷ h.stretch.link ∷ h.stretch.to ∷ []

abbrev pub starts_before : HeldStretch → HeldStretch → Bool
starts_before r s = name_before (start_key r) (start_key s)

-- ---- rows

-- both are of one asset and one link
abbrev pub on_one_line : HeldStretch → HeldStretch → Bool
on_one_line r s = nat_eq r.asset s.asset && nat_eq r.stretch.link s.stretch.link

-- the second goes on where the first ends
abbrev pub goes_on : HeldStretch → HeldStretch → Bool
goes_on r s = on_one_line r s && nat_eq r.stretch.to s.stretch.from && same_side r.stretch.side s.stretch.side

-- two of one line do not meet, and where they touch their sides differ
abbrev pub lie_apart : HeldStretch → HeldStretch → Bool
lie_apart r s = not (on_one_line r s) || nat_lt r.stretch.to s.stretch.from || (nat_eq r.stretch.to s.stretch.from && not (same_side r.stretch.side s.stretch.side))

-- The rows have what is held before a key: in order, filled and apart.
pub record AreUpTo (held : ℕ → Place → Bool) (key : List ℕ) (rows : List HeldStretch) : Type 0 where
  pub filled : (r : HeldStretch) → In r rows → r.stretch.from < r.stretch.to
  pub ended : (r : HeldStretch) → In r rows → name_before key (end_key r) ≡ false
  pub order : each_two starts_before rows ≡ true
  pub apart : each_two lie_apart rows ≡ true
  pub places : (asset : ℕ) (p : Place) → list_any (holds_place asset p) rows ≡ (held asset p && name_before (place_key asset p) key)

-- ---- from an edge to the next

abbrev pub at_edge : Edge → LinkSide → Place
at_edge e side = record { link = e.link; mm = e.mm; side = side }

-- What is held does not change from the one edge up to the other, which are of one line if something is held.
pub record IsStill (held : ℕ → Place → Bool) (low high : Edge) : Type 0 where
  pub rises : name_before (edge_key low) (edge_key high) ≡ true
  pub still : (asset : ℕ) (p : Place) → name_before (place_key asset p) (edge_key low) ≡ false → name_before (place_key asset p) (edge_key high) ≡ true → held asset p ≡ held low.asset (at_edge low p.side)
  pub line : (side : LinkSide) → held low.asset (at_edge low side) ≡ true → (low.asset ≡ high.asset) × (low.link ≡ high.link)

-- the row from an edge up to the next
abbrev pub row_between : Edge → Edge → Side → HeldStretch
row_between low high side = record { asset = low.asset; stretch = record { link = low.link; from = low.mm; to = high.mm; side = side } }

-- a row that goes on up to an edge
abbrev pub grown : HeldStretch → Edge → HeldStretch
grown r high = record { asset = r.asset; stretch = record { link = r.stretch.link; from = r.stretch.from; to = high.mm; side = r.stretch.side } }

-- Where nothing is held, the rows stay.
abbrev pub NoneIsAdded : Type 0
NoneIsAdded = (held : ℕ → Place → Bool) (low high : Edge) (rows : List HeldStretch) → AreUpTo held (edge_key low) rows → IsStill held low high
    → side_of (held low.asset (at_edge low Left)) (held low.asset (at_edge low Right)) ≡ None → AreUpTo held (edge_key high) rows

-- Where a side is held and no row goes on, there is one row more.
abbrev pub OneIsAdded : Type 0
OneIsAdded = (held : ℕ → Place → Bool) (low high : Edge) (rows : List HeldStretch) (side : Side) → AreUpTo held (edge_key low) rows → IsStill held low high
    → side_of (held low.asset (at_edge low Left)) (held low.asset (at_edge low Right)) ≡ Some side → ((r : HeldStretch) → In r rows → goes_on r (row_between low high side) ≡ false)
    → AreUpTo held (edge_key high) (rows ++ row_between low high side ∷ [])

-- Where the last row goes on, it ends later.
abbrev pub LastIsGrown : Type 0
LastIsGrown = (held : ℕ → Place → Bool) (low high : Edge) (rows : List HeldStretch) (last : HeldStretch) (side : Side) → AreUpTo held (edge_key low) (rows ++ last ∷ []) → IsStill held low high
    → side_of (held low.asset (at_edge low Left)) (held low.asset (at_edge low Right)) ≡ Some side → goes_on last (row_between low high side) ≡ true
    → AreUpTo held (edge_key high) (rows ++ grown last high ∷ [])

-- ---- over all edges

-- what the first stretches hold and the second do not
abbrev pub alone : List HeldStretch → List HeldStretch → ℕ → Place → Bool
alone left right asset p = list_any (holds_place asset p) left && not (list_any (holds_place asset p) right)

abbrev pub first_edge : Edge
first_edge = record { asset = 0; link = 0; mm = 0 }

abbrev pub not_behind : Edge → Edge → Bool
not_behind e f = not (name_before (edge_key f) (edge_key e))

-- what is asked of each stretch: where it begins and where it ends stands behind this key among these edges, or not behind it
abbrev pub IsEdged : List ℕ → List Edge → List ℕ → Type 0
IsEdged key edges k = name_before key k ≡ true → (e : Edge) × In e edges × (edge_key e ≡ k)

pub record AreEdged (key : List ℕ) (edges : List Edge) (held : List HeldStretch) : Type 0 where
  pub starts : (h : HeldStretch) → In h held → IsEdged key edges (start_key h)
  pub ends : (h : HeldStretch) → In h held → IsEdged key edges (end_key h)

-- The rows are those up to an edge, and these are the edges behind it, in order.
pub record AreGathered (left right : List HeldStretch) (at : Edge) (rest : List Edge) (rows : List HeldStretch) : Type 0 where
  pub up_to : AreUpTo (alone left right) (edge_key at) rows
  pub order : each_two not_behind rest ≡ true
  pub behind : (e : Edge) → In e rest → name_before (edge_key e) (edge_key at) ≡ false
  pub left_edges : AreEdged (edge_key at) rest left
  pub right_edges : AreEdged (edge_key at) rest right

-- the rows with one more, or with the last one grown
abbrev pub with_row : List HeldStretch → HeldStretch → Edge → List HeldStretch
with_row [] row high = row ∷ []
with_row (last ∷ []) row high = if goes_on last row then grown last high ∷ [] else last ∷ row ∷ []
with_row (r ∷ s ∷ rest) row high = r ∷ with_row (s ∷ rest) row high

-- the side or sides that are held at an edge
abbrev pub side_alone : List HeldStretch → List HeldStretch → Edge → Option Side
side_alone left right e = side_of (alone left right e.asset (at_edge e Left)) (alone left right e.asset (at_edge e Right))

abbrev pub with_side : List HeldStretch → Edge → Edge → Option Side → List HeldStretch
with_side rows low high None = rows
with_side rows low high (Some side) = with_row rows (row_between low high side) high

-- the rows up to the next edge
abbrev pub rows_at : List HeldStretch → List HeldStretch → Edge → Edge → List HeldStretch → List HeldStretch
rows_at left right low high rows = if name_before (edge_key low) (edge_key high) then with_side rows low high (side_alone left right low) else rows

abbrev pub RowsGoOn : Type 0
RowsGoOn = (left right : List HeldStretch) (low high : Edge) (rest : List Edge) (rows : List HeldStretch) → AreGathered left right low (high ∷ rest) rows → AreGathered left right high rest (rows_at left right low high rows)

-- The rows up to the last edge are filled, in order and apart, and have what is held by the first stretches alone.
pub record AreAlone (left right rows : List HeldStretch) : Type 0 where
  pub filled : (r : HeldStretch) → In r rows → r.stretch.from < r.stretch.to
  pub order : each_two starts_before rows ≡ true
  pub apart : each_two lie_apart rows ≡ true
  pub places : (asset : ℕ) (p : Place) → list_any (holds_place asset p) rows ≡ alone left right asset p

abbrev pub RowsEnd : Type 0
RowsEnd = (left right : List HeldStretch) (at : Edge) (rows : List HeldStretch) → AreGathered left right at [] rows → AreAlone left right rows

abbrev pub RowsBegin : Type 0
RowsBegin = (left right : List HeldStretch) (edges : List Edge) → each_two not_behind edges ≡ true → AreEdged (edge_key first_edge) edges left → AreEdged (edge_key first_edge) edges right
    → AreGathered left right first_edge edges []

-- where a stretch begins and where it ends
abbrev pub edges_of : HeldStretch → List Edge
edges_of h = record { asset = h.asset; link = h.stretch.link; mm = h.stretch.from } ∷ record { asset = h.asset; link = h.stretch.link; mm = h.stretch.to } ∷ []

abbrev pub edge_before : Edge → Edge → Bool
edge_before e f = name_before (edge_key e) (edge_key f)

-- ---- stretches in order

-- the first place of the asset and link of an edge
abbrev pub line_key : Edge → List ℕ
line_key e = e.asset ∷ e.link ∷ 0 ∷ []

-- the stretch comes before all of the asset and link of the edge
abbrev pub is_ahead : Edge → HeldStretch → Bool
is_ahead e h = name_before (start_key h) (line_key e)

-- the stretch begins at the edge or comes before it
abbrev pub is_begun : Edge → HeldStretch → Bool
is_begun e h = not (name_before (edge_key e) (start_key h))

-- The last of these lists holds at the edge what the first one does.
abbrev pub AreNear : Edge → List HeldStretch → List HeldStretch → Type 0
AreNear e held near = (side : LinkSide) → list_any (holds_place e.asset (at_edge e side)) near ≡ list_any (holds_place e.asset (at_edge e side)) held
