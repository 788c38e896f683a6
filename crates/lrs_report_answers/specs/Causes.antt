-- Why questions are refused, as texts.
use Rattle.std.specs.Prelude.{Option, Some, None, ◌∷◌, ◌++◌, codes}
use Rattle.std.specs.Fmt.{decimal}
use Rattle.lrs_position.specs.declared.location.PlaceFault.{PlaceFault}
use Rattle.lrs_position.specs.declared.location.PlaceFault.TheVariants as place
use Rattle.lrs_machine.specs.declared.segment.SegFault.{SegFault}
use Rattle.lrs_machine.specs.declared.segment.SegFault.TheVariants as segments
use Rattle.lrs_machine.specs.Absence.{missing_text}
use Rattle.lrs_machine.specs.Lines.{Text}
use Rattle.lrs_report_answers.specs.declared.fault.AskFault.{AskFault}
use Rattle.lrs_report_answers.specs.declared.fault.AskFault.TheVariants as asked
use Rattle.lrs_report_answers.specs.declared.cause.AskCause.{AskCause}
use Rattle.lrs_report_answers.specs.declared.cause.AskCause.TheVariants.{Missing, NoRef, TooFine, OffRoute, End, NoClass, NotExclusive, SideB}
use Rattle.lrs_report_answers.specs.declared.stretch.End.{End as EndOfStretch}
use Rattle.lrs_report_answers.specs.declared.stretch.End.TheVariants as end

-- why a position is refused
abbrev pub place_text : PlaceFault → Text
place_text place.NoRef = codes "NoRef"
place_text place.TooFine = codes "TooFine"
place_text place.OffRoute = codes "OffRoute"

-- which end of a stretch
abbrev pub end_text : EndOfStretch → Text
end_text end.From = codes "from"
end_text end.To = codes "to"

-- the name of a cause, and behind a colon the index of the class that was asked for, or the end of the stretch
abbrev pub cause_text : AskCause → Text
cause_text (Missing what) = missing_text what
cause_text NoRef = codes "NoRef"
cause_text TooFine = codes "TooFine"
cause_text OffRoute = codes "OffRoute"
cause_text (End e fault) = place_text fault ++ 58 ∷ end_text e
cause_text (NoClass i) = codes "NoClass:" ++ decimal i
cause_text (NotExclusive i) = codes "NotExclusive:" ++ decimal i
cause_text SideB = codes "SideB"

-- why a position is refused
abbrev pub cause_of_place : PlaceFault → AskCause
cause_of_place place.NoRef = NoRef
cause_of_place place.TooFine = TooFine
cause_of_place place.OffRoute = OffRoute

-- why segments are refused; not that memory ran out
abbrev pub cause_of_segments : SegFault → Option AskCause
cause_of_segments (segments.NoClass i) = Some (NoClass i)
cause_of_segments (segments.NotExclusive i) = Some (NotExclusive i)
cause_of_segments segments.SideB = Some SideB
cause_of_segments segments.Memory = None

-- why a question is refused; none where memory ran out, or where what is kept has to be opened again
abbrev pub cause_of : AskFault → Option AskCause
cause_of (asked.Missing what) = Some (Missing what)
cause_of (asked.Place fault) = Some (cause_of_place fault)
cause_of (asked.End e fault) = Some (End e fault)
cause_of (asked.Seg fault) = cause_of_segments fault
cause_of asked.MustReopen = None
cause_of asked.Memory = None
