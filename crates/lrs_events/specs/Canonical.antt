-- Canonical rows: the maximal runs of neighbouring millimetres of a course where an asset holds the same side or sides.
use Rattle.std.specs.Prelude.{Bool, true, false, List, map, Option, Some, None}
use Rattle.std.specs.List.{filter_map}
use Rattle.std.specs.Option.{option_map}
use Rattle.lrs_measure.specs.Runs.{Run, runs_of, same_option}
use Rattle.lrs_element.specs.declared.link.Ground.{Ground}
use Rattle.lrs_events.specs.declared.side.Side.{Side}
use Rattle.lrs_events.specs.declared.side.Side.TheVariants.{L, R, B}
use Rattle.lrs_events.specs.declared.side.LinkSide.TheVariants.{Left, Right}
use Rattle.lrs_events.specs.Places.{Place, beside}
use Rattle.lrs_events.specs.Spans.{same_side}

-- the side that two answers tell, whether it is the left and whether it is the right
abbrev pub side_of : Bool → Bool → Option Side
side_of true true = Some B
side_of true false = Some L
side_of false true = Some R
side_of false false = None

-- on which side or sides of a course a millimetre's places are held
abbrev pub side_held : (Place → Bool) → Ground → Option Side
side_held held g = side_of (held (beside g Left)) (held (beside g Right))

abbrev pub held_run : Run (Option Side) → Option (Run Side)
held_run r = option_map (λ side. record { from = r.from; to = r.to; value = side }) r.value

-- the canonical rows of what is held on a course
abbrev pub canonical_rows : (Place → Bool) → List Ground → List (Run Side)
canonical_rows held course = filter_map held_run (runs_of (same_option same_side) (map (side_held held) course))
