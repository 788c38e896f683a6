-- Runs that stop, worked out: two links and a class, and a stop while the second link is in flight, or both.
use Rattle.std.specs.Prelude.{◌≡◌, ◌⊎◌, true, List, [], ◌∷◌, map, codes, Some, refl}
use Rattle.lrs_events.specs.declared.class.Kind.TheVariants.{Point}
use Rattle.lrs_machine.specs.declared.answer.Answer.TheVariants.{Done, Again, Refused}
use Rattle.lrs_machine.specs.declared.answer.Cause.TheVariants as cause
use Rattle.lrs_machine.specs.declared.answer.Limits.{Limits}
use Rattle.lrs_machine.specs.declared.command.Command.TheVariants as verb
use Rattle.lrs_machine.specs.State.{State, nothing_known}
use Rattle.lrs_machine.specs.Machine.{Record, answers, state_after}
use Rattle.lrs_machine.specs.Stop.StoppedRuns.{Step, Open, Act, StopWithin, Stop, Moment, at_rest, IsStep, IsRun, SendsFirst}
use Rattle.lrs_machine.specs.Stop.Laws.{StandInFor, IsKept}
use Rattle.lrs_machine.specs.Stop.Resumptions.{undecided}

abbrev pub full : Limits
full = record { routes = 10_000; assets = 1_000_000; edits = 10_000_000; bounds = refl }

-- three commands, each under its key
abbrev pub first_link : Record
first_link = record { key = codes "s1"; command = verb.Link (record { number = 1; length = 10; limits = refl }) }

abbrev pub second_link : Record
second_link = record { key = codes "s2"; command = verb.Link (record { number = 2; length = 6; limits = refl }) }

abbrev pub signs : Record
signs = record { key = codes "s3"; command = verb.Class (record { name = codes "SIGN"; kind = Point }) }

-- the state after commands, from the empty inventory
abbrev pub after : List Record → State
after commands = state_after full commands nothing_known

-- The first link is acknowledged, and the program stops while the second one is in flight.
abbrev pub until_the_stop : List Step
until_the_stop = Open ∷ Act first_link (Done 1) ∷ StopWithin [] second_link ∷ []

-- What is stored then may be without the second link, or with it, and it is nothing else: the first link is there, and nobody made a class.
pub record OneLinkOrTwo : Type 0 where
  pub without : IsRun full (at_rest nothing_known) until_the_stop (at_rest (after (first_link ∷ [])))
  pub with : IsRun full (at_rest nothing_known) until_the_stop (at_rest (after (first_link ∷ second_link ∷ [])))
  pub nothing_else : (s : State) → IsRun full (at_rest nothing_known) until_the_stop (at_rest s) → (s ≡ after (first_link ∷ [])) ⊎ (s ≡ after (first_link ∷ second_link ∷ []))
  pub not_lost : IsRun full (at_rest nothing_known) until_the_stop (at_rest nothing_known) → ⊥

-- The second link is sent first, and then the class. Where it was left out it is done now, and where it was kept it is answered again.
abbrev pub sent_where_left_out : List Step
sent_where_left_out = Open ∷ Act first_link (Done 1) ∷ StopWithin [] second_link ∷ Stop ∷ Open ∷ Act second_link (Done 2) ∷ Act signs (Done 3) ∷ []

abbrev pub sent_where_kept : List Step
sent_where_kept = Open ∷ Act first_link (Done 1) ∷ StopWithin [] second_link ∷ Stop ∷ Open ∷ Act second_link (Again 2) ∷ Act signs (Done 3) ∷ []

abbrev pub at_work : State → Moment
at_work s = record { stored = s; desk = Some s }

-- Both runs end with what the three commands make without a stop. `Again` is answered where the stop kept the second link, as edit 2.
pub record BothEndAlike : Type 0 where
  pub left_out : IsRun full (at_rest nothing_known) sent_where_left_out (at_work (after (first_link ∷ second_link ∷ signs ∷ [])))
  pub kept : IsRun full (at_rest nothing_known) sent_where_kept (at_work (after (first_link ∷ second_link ∷ signs ∷ [])))
  pub sent_first : SendsFirst sent_where_left_out × SendsFirst sent_where_kept
  pub kept_as : IsKept second_link 2 (after (first_link ∷ [])) (after (first_link ∷ second_link ∷ []))
  pub keys : map (λ e. e.key) (after (first_link ∷ second_link ∷ signs ∷ [])).done ≡ codes "s1" ∷ codes "s2" ∷ codes "s3" ∷ []

-- An acknowledged command is not dropped at an opening, and no command acts on a desk that is not open.
pub record Excluded : Type 0 where
  pub forgotten : (s : State) → IsStep full (at_work (after (first_link ∷ []))) Stop (at_rest s) → s ≡ after (first_link ∷ [])
  pub unopened : (m : Moment) → IsStep full (at_rest nothing_known) (Act first_link (Done 1)) m → ⊥

-- Both links are sent together, and the program stops while they are in flight. Both are stored, or none; neither is ever stored alone.
abbrev pub until_both_stop : List Step
until_both_stop = Open ∷ StopWithin (first_link ∷ []) second_link ∷ []

-- Both were stored. They are sent first, in their order, and each is answered again; then the class.
abbrev pub sent_where_both_kept : List Step
sent_where_both_kept = Open ∷ StopWithin (first_link ∷ []) second_link ∷ Stop ∷ Open ∷ Act first_link (Again 1) ∷ Act second_link (Again 2) ∷ Act signs (Done 3) ∷ []

-- The run ends with what the three commands make without a stop, and its answers stand in for theirs.
pub record TwoInFlight : Type 0 where
  pub without : IsRun full (at_rest nothing_known) until_both_stop (at_rest nothing_known)
  pub with : IsRun full (at_rest nothing_known) until_both_stop (at_rest (after (first_link ∷ second_link ∷ [])))
  pub never_one : IsRun full (at_rest nothing_known) until_both_stop (at_rest (after (first_link ∷ []))) → ⊥
  pub nothing_else : (s : State) → IsRun full (at_rest nothing_known) until_both_stop (at_rest s) → (s ≡ nothing_known) ⊎ (s ≡ after (first_link ∷ second_link ∷ []))
  pub kept : IsRun full (at_rest nothing_known) sent_where_both_kept (at_work (after (first_link ∷ second_link ∷ signs ∷ [])))
  pub sent_first : SendsFirst sent_where_both_kept
  pub given : StandInFor 0 sent_where_both_kept (Done 1 ∷ Done 2 ∷ Done 3 ∷ [])

-- ---- going on with a sheet

-- A route comes before the link that it runs over, and is refused; then come this link and another one.
abbrev pub early_route : Record
early_route = record { key = codes "s0"; command = verb.Route (codes "A") (record { link = 1; from = 0; to = 10; forward = true } ∷ []) (record { chainage = 0; measure = 0 } ∷ record { chainage = 10; measure = 10 } ∷ []) }

abbrev pub sheet : List Record
sheet = early_route ∷ first_link ∷ second_link ∷ []

-- the replies are lost behind the first link
abbrev pub half_done : State
half_done = after (early_route ∷ first_link ∷ [])

-- Going on behind the first link ends as the sheet would have without a stop. Sending the whole sheet again would not: the route would be accepted.
pub record GoesOnBehindTheLink : Type 0 where
  pub said : answers full sheet nothing_known ≡ Refused cause.NoLink ∷ Done 1 ∷ Done 2 ∷ []
  pub behind : undecided sheet half_done ≡ second_link ∷ []
  pub goes_on : state_after full (undecided sheet half_done) half_done ≡ after sheet
  pub said_then : answers full (undecided sheet half_done) half_done ≡ Done 2 ∷ []
  pub said_again : answers full sheet half_done ≡ Done 2 ∷ Again 1 ∷ Done 3 ∷ []
  pub sent_again : state_after full sheet half_done ≡ after sheet → ⊥
