-- The strip: what segments show, in columns of twelve places.
use Rattle.std.specs.Prelude.{ℕ, ◌-◌, List, ◌∷◌, ◌++◌, [], length, map, replicate, codes, Option, Some, None}
use Rattle.std.specs.List.{flat_map}
use Rattle.lrs_measure.specs.FractionTexts.{metres_text}
use Rattle.lrs_measure.specs.Texts.{Name}
use Rattle.lrs_events.specs.declared.side.Side.{Side}
use Rattle.lrs_events.specs.Names.{side_text}
use Rattle.lrs_machine.specs.declared.segment.Segment.{Segment}

-- at the right of a column; a longer text is not cut
abbrev pub aligned : List ℕ → List ℕ
aligned text = replicate (12 - length text) 32 ++ text

-- columns, each behind a space
abbrev pub columns_text : List (List ℕ) → List ℕ
columns_text texts = flat_map (λ text. 32 ∷ aligned text) texts

-- a line of columns with one space between them
abbrev pub line_text : List ℕ → List (List ℕ) → List ℕ
line_text first others = aligned first ++ columns_text others ++ 10 ∷ []

-- the route, its side and its length in metres
abbrev pub title_text : Name → Side → ℕ → List ℕ
title_text route side len = codes "STRIP " ++ route ++ 32 ∷ side_text side ++ 32 ∷ metres_text len ++ 10 ∷ []

abbrev pub heading_text : List Name → List ℕ
heading_text wanted = line_text (codes "FROM") (codes "TO" ∷ wanted)

-- a value, or a dash where there is none
abbrev pub value_text : Option Name → List ℕ
value_text None = codes "-"
value_text (Some value) = value

-- where a segment begins and ends, and its values
abbrev pub segment_text : Segment → List ℕ
segment_text s = line_text (metres_text s.from) (metres_text s.to ∷ map value_text s.values)

-- the title, the heading, and a line for each segment
abbrev pub strip_text : Name → Side → ℕ → List Name → List Segment → List ℕ
strip_text route side len wanted segments = title_text route side len ++ heading_text wanted ++ flat_map segment_text segments
