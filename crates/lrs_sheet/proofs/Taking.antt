-- What one turn over the records does: the command of a record waits, or all waiting ones are done.
use Rattle.std.proofs.Common.{◌≡◌, inl, inr, false, ℕ, ◌<◌, ◌≤◌, ◌+◌, List, [], ◌∷◌, ◌++◌, Option, Some, None, Result, Ok, Err, length, refl, arith, length-append}
use Rattle.std.proofs.lemmas.List.{append-nil}
use Rattle.csv.specs.Reading.{expected_len}
use Rattle.csv.specs.declared.reader.Reader.{Reader}
use Rattle.lrs_machine.specs.Image.{state_of}
use Rattle.lrs_machine.specs.Lines.{Text}
use Rattle.lrs_machine.specs.declared.command.Command.{Command}
use Rattle.lrs_machine.specs.declared.image.Image.{Image}
use Rattle.lrs_machine.specs.declared.table.Table.{Table}
use Rattle.lrs_desk.specs.DeskView.{DeskView}
use Rattle.lrs_machine.specs.declared.stops.fault.Fault.TheVariants as stop
use Rattle.lrs_sheet_records.specs.declared.sheet.Sheet.{Sheet}
use Rattle.lrs_sheet_records.specs.Kinds.{edit_record, width_of}
use Rattle.lrs_sheet_records.specs.declared.fault.SheetFault.{SheetFault}
use Rattle.lrs_sheet_records.specs.declared.fault.SheetFault.TheVariants as fault
use Rattle.lrs_sheet.specs.declared.reply.Tally.{Tally}
use Rattle.lrs_sheet.specs.declared.run.Run.{Run}
use Rattle.lrs_sheet.specs.Replies.{tally_of}
use Rattle.lrs_sheet_records.specs.Rows.{EndsAfter, Gave, IsPlain, IsReadFault, max_records}
use Rattle.lrs_sheet.specs.Rows.{BreaksAfter, DoesRows, HasDone, IsRunOfRows}
use Rattle.lrs_sheet.specs.Sheets.{GoesAlong, LeavesDesk}
use Rattle.lrs_sheet.specs.WaitingCommands.{DoesAll, HasTaken, IsWaiting, StopsAmong, StopsBehind, StopsTaking, Takes}
use Rattle.lrs_sheet_records.proofs.ReadRows.{begins, gave-more}
use Rattle.lrs_sheet.proofs.Done.{Replied-more, all-done, along, leaves-after, more-done, no_commit, read_leaves, same_fault, some-answered, start-done, stays, stop-read, width-more}
use Rattle.lrs_sheet.proofs.Stopping.{among, broke, still_among}
use Rattle.lrs_sheet.proofs.Waits.{none_waits, settled, waits}

-- nothing is read yet
pub start : {K : Type 0} {holds : K → Result Image Table → Type 0} {R : Type 0} (sheet : Sheet) (rem : R → Option Text) (rows : Reader R) (desk : DeskView K) (text : Option Text) (tally : Tally) (waiting : List (Text × Command))
    → IsPlain rows → expected_len rows ≡ Some (width_of sheet) → tally ≡ tally_of [] → waiting ≡ [] → IsWaiting sheet holds rem rows rows desk desk text text tally waiting 0
start sheet rem rows desk text tally waiting plain width fresh none = rw none (none_waits sheet rem rows rows desk desk text text tally 0 (start-done sheet rem rows desk text tally plain width fresh))

-- the header is read before any record is taken
never_header : {K : Type 0} (holds : K → Result Image Table → Type 0) (fields : List Text) (commands : List (Text × Command)) (after end : DeskView K) (new last : Option Text) (tally : Tally) (e : SheetFault)
    → StopsTaking holds fields commands after end new last tally e → e ≡ fault.BadHeader → ⊥
never_header holds fields commands after end new last tally e stops is = by (rw is at stops)
  where
    by : StopsTaking holds fields commands after end new last tally fault.BadHeader → ⊥
    by (inl never) = never
    by (inr (inl (c, says, never))) = never
    by (inr (inr (mid, t, does, goes, never))) = never

-- a desk is not ahead where records are done one at a time
still_taking : {K : Type 0} (holds : K → Result Image Table → Type 0) (fields : List Text) (commands : List (Text × Command)) (after end : DeskView K) (new last : Option Text) (tally : Tally)
    → length commands < 1 → StopsTaking holds fields commands after end new last tally (fault.Desk stop.Keep) → end.is_ahead ≡ false
still_taking holds fields commands after end new last tally few (inl stops) = still_among holds commands after end new last stops (omega (arith, few))
still_taking holds fields commands after end new last tally few (inr (inl (c, says, stops))) =
    still_among holds (commands ++ c ∷ []) after end new last stops (let one = length-append commands (c ∷ []) in omega (arith, one, few))
still_taking holds fields commands after end new last tally few (inr (inr (mid, t, does, goes, stops))) = absurd stops

module _ {K : Type 0} {holds : K → Result Image Table → Type 0} {R : Type 0} (run : Run) (rem : R → Option Text) (rows now next : Reader R) (before after : DeskView K) (old new : Option Text) (tally : Tally) (commands : List (Text × Command)) (turns : ℕ)
    (w : IsWaiting run.sheet holds rem rows now before after old new tally commands turns)
    (fields : List Text) (plain : IsPlain next) (width : expected_len next ≡ Some (length fields)) (wide : length fields ≡ width_of run.sheet) (gave : Gave rem now next (fields ∷ [])) (end : DeskView K) (last : Option Text) where
  -- the same record waits at a desk that goes along
  carried : (c : List (Text × Command)) → IsWaiting run.sheet holds rem rows next before after old new tally c (turns + 1) → state_of end.image ≡ state_of after.image → GoesAlong holds after end
      → IsWaiting run.sheet holds rem rows next before end old new tally c (turns + 1)
  carried c v state goes = record {
    records = v.records;
    replies = v.replies;
    asked = v.asked;
    plain = v.plain;
    width = v.width;
    gave = v.gave;
    answered = rw state v.answered;
    desk = along before after end v.desk goes;
    counts = v.counts;
    say = v.say;
    wide = v.wide;
    few = v.few;
    in_turn = v.in_turn;
  }

  -- one more turn
  pub taken : (left : List (Text × Command)) (counts : Tally) → Takes after.limits (edit_record run.sheet fields) commands left (state_of after.image) (state_of end.image) new last tally counts → GoesAlong holds after end
      → IsWaiting run.sheet holds rem rows next before end old last counts left (turns + 1)
  taken left counts (inl (c, says, is, state, wrote, count)) goes =
      rw (is, wrote, count) (carried (commands ++ c ∷ []) (waits run.sheet rem rows now before after old new tally commands turns w next fields c plain width wide gave says) state goes)
  taken left counts (inr (inl (c, says, is, does))) goes =
      rw is (none_waits run.sheet rem rows next before end old last counts (turns + 1)
      (settled run.sheet rem rows next before after old new tally (commands ++ c ∷ []) (turns + 1) (waits run.sheet rem rows now before after old new tally commands turns w next fields c plain width wide gave says) end last counts does goes))
  taken left counts (inr (inr (mid, t, is, does, row))) goes =
      rw is (none_waits run.sheet rem rows next before end old last counts (turns + 1)
      (more-done run.sheet rem rows now next before end end old mid last t counts turns fields (settled run.sheet rem rows now before after old new tally commands turns w end mid t does goes) plain width wide gave (rw goes.limits row) (stays end)))

  behind : (mid : Option Text) (t : Tally) (e : SheetFault) → HasDone run.sheet holds rem rows now before end old mid t turns → StopsBehind before.limits (edit_record run.sheet fields) (state_of end.image) mid last e
      → DoesRows run.sheet run.together rem rows before.limits (state_of before.image) (state_of end.image) old last (Err e)
  behind mid t fault.Write d (reply, replied) = (
    d.records ++ fields ∷ [],
    [],
    d.replies ++ reply ∷ [],
    (let one = length-append d.records (fields ∷ []) in omega (arith, one)),
    width-more run.sheet d.records fields d.answered.width wide,
    Replied-more run.sheet before.limits (state_of before.image) (state_of end.image) (state_of end.image) d.records d.replies fields reply d.answered.replied replied,
    rw (append-nil (d.records ++ fields ∷ [])) (begins rem rows next (d.records ++ fields ∷ []) (gave-more rem rows now next d.records (fields ∷ []) d.gave gave)),
  )
  behind mid t fault.Memory d same = rw same (some-answered run.sheet rem rows now before end old mid t turns d)
  behind mid t (fault.Desk e) d stops = absurd stops
  behind mid t fault.Read d stops = absurd stops
  behind mid t fault.BadHeader d stops = absurd stops
  behind mid t fault.BadCsv d stops = absurd stops

  -- a record stops the run
  stop_taking : (e : SheetFault) → length commands < run.together → StopsTaking holds (edit_record run.sheet fields) commands after end new last tally e
      → DoesRows run.sheet run.together rem rows before.limits (state_of before.image) (state_of end.image) old last (Err e)
  stop_taking e few (inl stops) = among run.sheet run.together rem rows now before after old new tally commands turns w (omega (arith, few)) end last e stops
  stop_taking e few (inr (inl (c, says, stops))) =
      among run.sheet run.together rem rows next before after old new tally (commands ++ c ∷ []) (turns + 1) (waits run.sheet rem rows now before after old new tally commands turns w next fields c plain width wide gave says)
      (let one = length-append commands (c ∷ []) in omega (arith, one, few)) end last e stops
  stop_taking e few (inr (inr (mid, t, does, goes, stops))) =
      behind mid t e (settled run.sheet rem rows now before after old new tally commands turns w end mid t does goes) (rw w.desk.limits at stops)

  -- ... as a commit failed
  broke_taking : length commands < run.together → StopsTaking holds (edit_record run.sheet fields) commands after end new last tally (fault.Desk stop.Keep)
      → (c : Result Image Table) → holds end.keeper c → BreaksAfter run.sheet run.together rem rows before.limits (state_of before.image) (state_of end.image) old last c
  broke_taking few (inl stops) = broke run.sheet run.together rem rows now before after old new tally commands turns w (omega (arith, few)) end last stops
  broke_taking few (inr (inl (c, says, stops))) =
      broke run.sheet run.together rem rows next before after old new tally (commands ++ c ∷ []) (turns + 1) (waits run.sheet rem rows now before after old new tally commands turns w next fields c plain width wide gave says)
      (let one = length-append commands (c ∷ []) in omega (arith, one, few)) end last stops
  broke_taking few (inr (inr (mid, t, does, goes, stops))) = absurd stops

  -- ... and leaves the desk so
  pub stopped : (e : SheetFault) → length commands < run.together → StopsTaking holds (edit_record run.sheet fields) commands after end new last tally e → LeavesDesk {X = Unit {0}} holds after end (Err e)
      → IsRunOfRows holds run rem rows before end old last (Err e)
  stopped e few stops leaves = record {
    rows = stop_taking e few stops;
    desk = leaves-after Tally (Unit {0}) before after end e (Err e) refl (never_header holds (edit_record run.sheet fields) commands after end new last tally e stops) w.desk leaves;
    broken = λ is. broke_taking few (rw (same_fault e (fault.Desk stop.Keep) is) at stops);
    still = λ is one. still_taking holds (edit_record run.sheet fields) commands after end new last tally (rw one at few) (rw (same_fault e (fault.Desk stop.Keep) is) at stops);
  }

the_same : (f e : SheetFault) → Some f ≡ Some e → f ≡ e
the_same f e is = cc is

module _ {K : Type 0} {holds : K → Result Image Table → Type 0} {R : Type 0} (run : Run) (rem : R → Option Text) (rows : Reader R) (before after end : DeskView K) (old new last : Option Text) (tally counts : Tally) (commands : List (Text × Command)) where
  all_rows : (now : Reader R) (turns : ℕ) → HasDone run.sheet holds rem rows now before end old last counts turns → EndsAfter rem now [] → turns ≤ max_records → IsRunOfRows holds run rem rows before end old last (Ok counts)
  all_rows now turns done ends few = record {
    rows = all-done run.sheet run.together rem rows now before end old last counts turns done ends few;
    desk = done.desk;
    broken = λ is. absurd (cc is);
    still = λ is. absurd (cc is);
  }

  unread_rows : (now : Reader R) (turns : ℕ) (e : SheetFault) → HasDone run.sheet holds rem rows now before end old last counts turns → IsReadFault rem now e → IsRunOfRows holds run rem rows before end old last (Err e)
  unread_rows now turns e done why = record {
    rows = stop-read run.sheet run.together rem rows now before end old last counts turns e done why;
    desk = read_leaves rem now before end e why done.desk;
    broken = λ is. absurd (no_commit rem now e why is);
    still = λ is. absurd (no_commit rem now e why is);
  }

  -- the records are read to their end, and the waiting commands are done
  pub ended : (unread : Option SheetFault) → HasTaken run.sheet holds rem rows before after old new tally commands unread → DoesAll after.limits commands (state_of after.image) (state_of end.image) new last tally counts → GoesAlong holds after end
      → (unread ≡ None → IsRunOfRows holds run rem rows before end old last (Ok counts)) × ((e : SheetFault) → unread ≡ Some e → IsRunOfRows holds run rem rows before end old last (Err e))
  ended None (now, turns, few, w, ends) does goes = (
    λ is. all_rows now turns (settled run.sheet rem rows now before after old new tally commands turns w end last counts does goes) ends few,
    λ e is. absurd (cc is),
  )
  ended (Some f) (now, turns, few, w, ends) does goes = (
    λ is. absurd (cc is),
    λ e is. rw (← (the_same f e is)) (unread_rows now turns f (settled run.sheet rem rows now before after old new tally commands turns w end last counts does goes) ends),
  )

  -- ... or not all of them are
  pub ended_amid : (unread : Option SheetFault) (e : SheetFault) → length commands ≤ run.together → HasTaken run.sheet holds rem rows before after old new tally commands unread → StopsAmong holds commands after end new last e
      → LeavesDesk {X = Unit {0}} holds after end (Err e) → IsRunOfRows holds run rem rows before end old last (Err e)
  ended_amid unread e most (now, turns, few, w, ends) stops leaves = record {
    rows = among run.sheet run.together rem rows now before after old new tally commands turns w most end last e stops;
    desk = leaves-after Tally (Unit {0}) before after end e (Err e) refl (λ is. rw is at stops) w.desk leaves;
    broken = λ is. broke run.sheet run.together rem rows now before after old new tally commands turns w most end last (rw (same_fault e (fault.Desk stop.Keep) is) at stops);
    still = λ is one. still_among holds commands after end new last (rw (same_fault e (fault.Desk stop.Keep) is) at stops) (rw one at most);
  }
