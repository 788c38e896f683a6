-- The routes that run over the ground of parts.
use Rattle.std.specs.Prelude.{List, Option}
use Rattle.std.specs.List.{Any}
use Rattle.lrs_measure.specs.Texts.{Name}
use Rattle.lrs_element.specs.Course.{Millimetre}
use Rattle.lrs_events.specs.declared.part.Part.{Part}
use Rattle.lrs_position.specs.Index.MetRoutes.{RunsBetween}

-- The route runs over a millimetre of one of the parts.
abbrev pub RunsOverPart : (Millimetre → Option Name) → List Part → Name → Type 0
RunsOverPart over parts route = Any (λ part. RunsBetween over part.link part.from part.to route) parts
