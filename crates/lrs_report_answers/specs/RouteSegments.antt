-- The segments of a route, as they are answered.
use Rattle.std.specs.Prelude.{◌≡◌, List, map, Option, Some, None, Result, Err, MatchOption}
use Rattle.lrs_measure.specs.Texts.{Name}
use Rattle.lrs_events.specs.declared.class.Class.{Class}
use Rattle.lrs_events.specs.declared.side.Side.{Side}
use Rattle.lrs_events.specs.declared.side.LinkSide.{LinkSide}
use Rattle.lrs_machine.specs.declared.segment.SegFault.{SegFault}
use Rattle.lrs_machine.specs.declared.segment.SegFault.TheVariants as seg
use Rattle.lrs_machine.specs.declared.segment.Segment.{Segment}
use Rattle.lrs_machine.specs.Segments.{segment_fault}
use Rattle.lrs_events.specs.RouteSpans.Search.{one_side}
use Rattle.lrs_machine.specs.Readings.{segments_on}
use Rattle.lrs_machine.specs.Register.{entries}
use Rattle.lrs_machine.specs.State.{State}
use Rattle.lrs_report.specs.Sweep.{run_of}
use Rattle.lrs_report_answers.specs.declared.fault.AskFault.{AskFault}
use Rattle.lrs_report_answers.specs.declared.fault.AskFault.TheVariants.{Seg, Memory}
use Rattle.lrs_report_answers.specs.Answers.{UnlessMemory, OnRoute}

-- the classes as segments read them
abbrev pub class_list : State → List Class
class_list s = map (λ c. record { name = c.0; kind = c.1 }) (entries s.classes)

-- the classes refuse the segments; else this passes
abbrev pub UnlessRefused : {A : Type 0} → Option SegFault → (Result A AskFault → Type 0) → Result A AskFault → Type 0
UnlessRefused None Passes result = Passes result
UnlessRefused (Some fault) Passes result = result ≡ Err (Seg fault)

-- The answer is the segments of the route of the name on this side, or the first fault.
abbrev pub IsSegmented : State → Name → List Name → Side → Result (List Segment) AskFault → Type 0
IsSegmented s name wanted side result =
    OnRoute s name (λ a result. MatchOption (segment_fault (class_list s) wanted side)
    (UnlessMemory (λ found. (on : LinkSide) → side ≡ one_side on → map run_of found ≡ segments_on s a.course wanted on) result)
    (λ fault. result ≡ Err (Seg fault))) result

-- the fault of segments as that of a question
abbrev pub asked_fault : SegFault → AskFault
asked_fault (seg.NoClass i) = Seg (seg.NoClass i)
asked_fault (seg.NotExclusive i) = Seg (seg.NotExclusive i)
asked_fault (seg.SideB) = Seg seg.SideB
asked_fault (seg.Memory) = Memory
