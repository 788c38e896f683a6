-- A side of what lies on a stretch is removed.
use Rattle.std.specs.Prelude.{◌≡◌, ℕ, Bool, true, ◌&&◌, ◌++◌, List, [], filter, Option, Some, None}
use Rattle.lrs_measure.specs.Texts.{Name}
use Rattle.lrs_measure.specs.Limits.{longest_route}
use Rattle.lrs_events.specs.declared.side.Side.{Side}
use Rattle.lrs_events.specs.declared.side.Side.TheVariants.{L, R, B}
use Rattle.lrs_events.specs.declared.span.Span.{Span}
use Rattle.lrs_events.specs.Spans.{are_rows}
use Rattle.lrs_events.specs.Members.{has_side}
use Rattle.lrs_events.specs.declared.rows.removals.Removal.{Removal}
use Rattle.lrs_events.specs.Row.Clips.{clip}
use Rattle.lrs_events.specs.Row.Removals.{Taken, is_within, IsRemoval}

-- what two sides share
abbrev pub shared_side : Side → Side → Option Side
shared_side L L = Some L
shared_side L R = None
shared_side L B = Some L
shared_side R L = None
shared_side R R = Some R
shared_side R B = Some R
shared_side B side = Some side

-- what the first has and the second has not
abbrev pub side_less : Side → Side → Option Side
side_less L L = None
side_less L R = Some L
side_less L B = None
side_less R L = Some R
side_less R R = None
side_less R B = None
side_less B L = Some R
side_less B R = Some L
side_less B B = None

-- what of a row lies from low up to high, as it is on a side or on none
abbrev pub clip_on : ℕ → ℕ → Option Side → Span → List Span
clip_on low high None r = []
clip_on low high (Some side) r = clip low high (record { asset = r.asset; class = r.class; from = r.from; to = r.to; side = side })

-- what a side of the stretch from low up to high has of a row
abbrev pub side_part : ℕ → ℕ → Side → Span → List Span
side_part low high side r = clip_on low high (shared_side r.side side) r

-- what the row has beside it: below low, on the side that stays, and from high on
abbrev pub side_rest : ℕ → ℕ → Side → Span → List Span
side_rest low high side r = clip 0 low r ++ (clip_on low high (side_less r.side side) r ++ clip high longest_route r)

-- what of these classes and assets lies from low up to high on a side, or on one side of it
abbrev pub of_side_within : (Name → ℕ → Bool) → ℕ → ℕ → Side → Taken
of_side_within of low high side class asset j s = of class asset && (is_within low high j && has_side side s)

-- From whatever rows these are all of some classes and assets, a side of what lies from low up to high is removed.
abbrev pub ClearsSide : List Span → ℕ → ℕ → Side → Removal → Type 0
ClearsSide found low high side removal = (rows : List Span) (of : Name → ℕ → Bool)
    → are_rows rows ≡ true → found ≡ filter (λ r. of r.class r.asset) rows → IsRemoval (of_side_within of low high side) rows removal
