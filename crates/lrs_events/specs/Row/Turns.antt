-- The rows of a route seen from its other end.
use Rattle.std.specs.Prelude.{◌≡◌, ℕ, ◌-◌, ◌<◌, ◌++◌, ◌&&◌, nat_lt, List, [], ◌∷◌, slice_range, drop}
use Rattle.lrs_measure.specs.Texts.{Name}
use Rattle.lrs_measure.specs.Lists.{In}
use Rattle.lrs_events.specs.declared.side.Side.{Side}
use Rattle.lrs_events.specs.declared.side.Side.TheVariants.{L, R, B}
use Rattle.lrs_events.specs.declared.side.LinkSide.{LinkSide}
use Rattle.lrs_events.specs.declared.span.Span.{Span}
use Rattle.lrs_events.specs.Places.{other_side}
use Rattle.lrs_events.specs.Members.{is_member}

-- left is right from the other end, and both stay both
abbrev pub turned_side : Side → Side
turned_side L = R
turned_side R = L
turned_side B = B

-- the row seen from the other end of a route of that length
abbrev pub mirrored : ℕ → Span → Span
mirrored len r = record { asset = r.asset; class = r.class; from = len - r.to; to = len - r.from; side = turned_side r.side }

-- the last row first
abbrev pub mirrored_rows : ℕ → List Span → List Span
mirrored_rows len [] = []
mirrored_rows len (r ∷ rs) = mirrored_rows len rs ++ mirrored len r ∷ []

-- each millimetre is counted from the other end, and its sides change places
abbrev pub IsTurned : ℕ → List Span → List Span → Type 0
IsTurned len rows new = (class : Name) (asset j : ℕ) (s : LinkSide) → is_member new class asset j s ≡ (nat_lt j len && is_member rows class asset (len - 1 - j) (other_side s))

-- the rows from start up to end are of one asset, which has none behind them
pub record IsBlock (rows : List Span) (start end : ℕ) : Type 0 where
  pub some : start < end
  pub own : (q r : Span) → In q (slice_range rows start end) → In r (slice_range rows start end) → q.asset ≡ r.asset
  pub others : (q r : Span) → In q (slice_range rows start end) → In r (drop end rows) → q.asset ≡ r.asset → ⊥
