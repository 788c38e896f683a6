-- What is left where not all of the records whose commands wait are done.
use Rattle.std.proofs.Common.{◌≡◌, ◌⊎◌, inl, inr, false, ℕ, zero, suc, ◌<◌, ◌≤◌, List, [], ◌∷◌, ◌++◌, Option, Result, Err, length, take, drop, refl, ap, arith, append_assoc, length-append}
use Rattle.std.specs.Io.KnownBytes.{Appends}
use Rattle.std.proofs.lemmas.List.{length-drop, length-take-le, take-append-drop}
use Rattle.csv.specs.declared.reader.Reader.{Reader}
use Rattle.lrs_machine.specs.Image.{state_of}
use Rattle.lrs_machine.specs.Lines.{Text}
use Rattle.lrs_machine.specs.State.{State}
use Rattle.lrs_machine.specs.declared.command.Command.{Command}
use Rattle.lrs_machine.specs.declared.image.Image.{Image}
use Rattle.lrs_machine.specs.declared.table.Table.{Table}
use Rattle.lrs_desk.specs.DeskView.{DeskView}
use Rattle.lrs_machine.specs.declared.stops.fault.Fault.TheVariants as stop
use Rattle.lrs_sheet_records.specs.declared.sheet.Sheet.{Sheet}
use Rattle.lrs_sheet_records.specs.declared.fault.SheetFault.{SheetFault}
use Rattle.lrs_sheet_records.specs.declared.fault.SheetFault.TheVariants as fault
use Rattle.lrs_sheet.specs.declared.reply.Tally.{Tally}
use Rattle.lrs_sheet.specs.Replies.{lines_of}
use Rattle.lrs_sheet_records.specs.Rows.{Begins}
use Rattle.lrs_sheet.specs.Rows.{BreaksAfter, DoesRows, DoesUpTo, FailsToKeep, Stops}
use Rattle.lrs_sheet.specs.Sheets.{AreAnswered, ComeNext, HaveWidth, RecordsInFlight}
use Rattle.lrs_sheet.specs.WaitingCommands.{BreaksOffAmong, CommandsInFlight, DoesFront, IsAhead, IsStill, IsWaiting, Say, StopsAmong, done_all, replies_to}
use Rattle.lrs_sheet_records.proofs.ReadRows.{begins}
use Rattle.lrs_sheet.proofs.Waits.{answered-more, replied-append, replied_said, width-append}

-- each of the first says its command

pub say_first : (sheet : Sheet) (n : ℕ) (records : List (List Text)) (commands : List (Text × Command)) → Say sheet records commands → Say sheet (take n records) (take n commands)
say_first sheet zero records commands say = tt
say_first sheet (suc n) [] [] say = tt
say_first sheet (suc n) [] (c ∷ commands) say = absurd say
say_first sheet (suc n) (r ∷ records) [] say = absurd say
say_first sheet (suc n) (r ∷ records) (c ∷ commands) say = (say.0, say_first sheet n records commands say.1)

-- ... and each of the others

pub say_rest : (sheet : Sheet) (n : ℕ) (records : List (List Text)) (commands : List (Text × Command)) → Say sheet records commands → Say sheet (drop n records) (drop n commands)
say_rest sheet zero records commands say = say
say_rest sheet (suc n) [] [] say = tt
say_rest sheet (suc n) [] (c ∷ commands) say = absurd say
say_rest sheet (suc n) (r ∷ records) [] say = absurd say
say_rest sheet (suc n) (r ∷ records) (c ∷ commands) say = say_rest sheet n records commands say.1

pub as_many_said : (sheet : Sheet) (records : List (List Text)) (commands : List (Text × Command)) → Say sheet records commands → length records ≡ length commands
as_many_said sheet [] [] say = refl
as_many_said sheet [] (c ∷ commands) say = absurd say
as_many_said sheet (r ∷ records) [] say = absurd say
as_many_said sheet (r ∷ records) (c ∷ commands) say = ap suc (as_many_said sheet records commands say.1)

width_first : (sheet : Sheet) (n : ℕ) (records : List (List Text)) → HaveWidth sheet records → HaveWidth sheet (take n records)
width_first sheet zero records wide = tt
width_first sheet (suc n) [] wide = tt
width_first sheet (suc n) (r ∷ records) wide = (wide.0, width_first sheet n records wide.1)

width_rest : (sheet : Sheet) (n : ℕ) (records : List (List Text)) → HaveWidth sheet records → HaveWidth sheet (drop n records)
width_rest sheet zero records wide = wide
width_rest sheet (suc n) [] wide = tt
width_rest sheet (suc n) (r ∷ records) wide = width_rest sheet n records wide.1

module _ {K : Type 0} (flying : ℕ) (settled next : State) (end : DeskView K) where
  -- for what a desk's image stands while commands are in flight
  image_of : IsStill flying settled end ⊎ IsAhead next end → ((flying ≡ 1) × (state_of end.image ≡ settled)) ⊎ (state_of end.image ≡ next)
  image_of (inl still) = inl (still.one, still.state)
  image_of (inr ahead) = inr ahead.state

  -- ... and where the desk is not ahead
  is_still : IsStill flying settled end ⊎ IsAhead next end → end.is_ahead ≡ false → state_of end.image ≡ settled
  is_still (inl still) behind = still.state
  is_still (inr ahead) behind = let is = ahead.ahead in cc (is, behind)

module _ {K : Type 0} {holds : K → Result Image Table → Type 0} {R : Type 0} (sheet : Sheet) (together : ℕ) (rem : R → Option Text) (rows now : Reader R) (before after : DeskView K) (old new : Option Text) (tally : Tally) (commands : List (Text × Command)) (turns : ℕ)
    (w : IsWaiting sheet holds rem rows now before after old new tally commands turns) (most : length commands ≤ together) where
  -- the first of them are done, and have their lines
  front_answered : (n : ℕ) (s : State) (last : Option Text) → s ≡ done_all before.limits (take n commands) (state_of after.image) → Appends new last (lines_of (replies_to before.limits (take n commands) (state_of after.image)))
      → AreAnswered sheet before.limits (state_of before.image) (w.records ++ take n w.asked) (w.replies ++ replies_to before.limits (take n commands) (state_of after.image)) s old last
  front_answered n s last state written =
      answered-more sheet before.limits (state_of before.image) (state_of after.image) s w.records (take n w.asked) w.replies (take n commands) old new last w.answered (width_first sheet n w.asked w.wide) (say_first sheet n w.asked commands w.say) state written

  all_read : (n : ℕ) → Begins rem rows ((w.records ++ take n w.asked) ++ drop n w.asked)
  all_read n = rw (append_assoc w.records (take n w.asked) (drop n w.asked), take-append-drop n w.asked) (begins rem rows now (w.records ++ w.asked) w.gave)

  come_next : (n : ℕ) → n < length commands → ComeNext sheet together (drop n w.asked)
  come_next n few = (
    (let same = as_many_said sheet w.asked commands w.say in let less = length-drop n w.asked in omega (arith, few, same, less)),
    (let same = as_many_said sheet w.asked commands w.say in let less = length-drop n w.asked in omega (arith, most, same, less)),
    width_rest sheet n w.asked w.wide,
  )

  stopped_at : (s : State) (last : Option Text) → DoesFront after.limits commands (state_of after.image) s new last → Stops sheet together rem rows before.limits (state_of before.image) s old last
  stopped_at s last front = (
    w.records ++ take front.done w.asked,
    drop front.done w.asked,
    w.replies ++ replies_to before.limits (take front.done commands) (state_of after.image),
    come_next front.done front.few,
    front_answered front.done s last (rw w.desk.limits at front.state) (rw w.desk.limits at front.written),
    all_read front.done,
  )

  up_to : (n : ℕ) (s : State) → 1 ≤ n → n ≤ length commands → s ≡ done_all before.limits (take n commands) (state_of after.image) → DoesUpTo sheet rem rows before.limits (state_of before.image) s
  up_to n s some few state = (
    w.records ++ take n w.asked,
    drop n w.asked,
    w.replies ++ replies_to before.limits (take n commands) (state_of after.image),
    (let same = as_many_said sheet w.asked commands w.say in let fits : n ≤ length w.asked = omega (arith, same, few) in let one = length-append w.records (take n w.asked) in let many = length-take-le n w.asked fits in omega (arith, one, many, some)),
    width-append sheet w.records (take n w.asked) w.answered.width (width_first sheet n w.asked w.wide),
    rw state (replied-append sheet before.limits w.records (take n w.asked) w.replies (replies_to before.limits (take n commands) (state_of after.image)) (state_of before.image) (state_of after.image) (done_all before.limits (take n commands) (state_of after.image)) w.answered.replied
        (replied_said sheet before.limits (take n w.asked) (take n commands) (state_of after.image) (say_first sheet n w.asked commands w.say))),
    all_read n,
  )

  -- of the records behind the first, these are in flight
  in_flight : (n : ℕ) (settled : State) (end : DeskView K) → n < length commands → CommandsInFlight holds after.limits (drop n commands) settled end
      → RecordsInFlight sheet together before.limits settled (drop n w.asked) (state_of end.image)
  in_flight n settled end few flight =
      let say = say_rest sheet n w.asked commands w.say in
      let flying = flight.flying in record {
        flying = flying;
        some = flight.some;
        few = (let same = as_many_said sheet (drop n w.asked) (drop n commands) say in let fits = flight.few in omega (arith, fits, same));
        replies = replies_to before.limits (take flying (drop n commands)) settled;
        next = done_all before.limits (take flying (drop n commands)) settled;
        replied = replied_said sheet before.limits (take flying (drop n w.asked)) (take flying (drop n commands)) settled (say_first sheet flying (drop n w.asked) (drop n commands) say);
        image = image_of flying settled (done_all before.limits (take flying (drop n commands)) settled) end (rw w.desk.limits at flight.image);
        alone = λ one. is_still flying settled (done_all before.limits (take flying (drop n commands)) settled) end (rw w.desk.limits at flight.image) (flight.alone (let rest = length-drop n commands in omega (arith, few, most, one, rest)));
      }

  failed : (end : DeskView K) (last : Option Text) → BreaksOffAmong holds commands after end new last → FailsToKeep sheet together rem rows before.limits (state_of before.image) (state_of end.image) old last
  failed end last stops =
      let n = stops.front.done in record {
        records = w.records ++ take n w.asked;
        further = drop n w.asked;
        replies = w.replies ++ replies_to before.limits (take n commands) (state_of after.image);
        settled = stops.settled;
        come_next = come_next n stops.front.few;
        answered = front_answered n stops.settled last (rw w.desk.limits at stops.front.state) (rw w.desk.limits at stops.front.written);
        begins = all_read n;
        flight = in_flight n stops.settled end stops.front.few stops.flight;
      }

  -- not all of them are done and have their lines
  pub among : (end : DeskView K) (last : Option Text) (e : SheetFault) → StopsAmong holds commands after end new last e → DoesRows sheet together rem rows before.limits (state_of before.image) (state_of end.image) old last (Err e)
  among end last fault.Write (n, some, few, state) = up_to n (state_of end.image) some few (rw w.desk.limits at state)
  among end last (fault.Desk stop.Keep) stops = failed end last stops
  among end last (fault.Desk stop.Memory) stops = stopped_at (state_of end.image) last stops
  among end last (fault.Desk stop.MustReopen) stops = stopped_at (state_of end.image) last stops
  among end last fault.Memory stops = absurd stops
  among end last fault.Read stops = absurd stops
  among end last fault.BadHeader stops = absurd stops
  among end last fault.BadCsv stops = absurd stops

  -- their commit failed
  pub broke : (end : DeskView K) (last : Option Text) → BreaksOffAmong holds commands after end new last → (c : Result Image Table) → holds end.keeper c
      → BreaksAfter sheet together rem rows before.limits (state_of before.image) (state_of end.image) old last c
  unfolding failed in_flight
  broke end last stops c found = (failed end last stops, rw w.desk.limits at (stops.flight.content c found))

-- one command alone is in flight, and the desk is not ahead
pub still_among : {K : Type 0} (holds : K → Result Image Table → Type 0) (commands : List (Text × Command)) (before after : DeskView K) (old new : Option Text) → BreaksOffAmong holds commands before after old new → length commands ≤ 1 → after.is_ahead ≡ false
still_among holds commands before after old new stops most =
    let few = stops.front.few in
    let rest = length-drop stops.front.done commands in
    stops.flight.alone (omega (arith, few, rest, most))
