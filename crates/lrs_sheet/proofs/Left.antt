-- Whatever a run does, it does commands in order.
use Rattle.std.proofs.Common.{◌≡◌, ◌⊎◌, ℕ, List, [], ◌∷◌, ◌++◌, Option, Result, Ok, Err, ap, sym, ◌∙◌, inl, inr, take}
use Rattle.csv.specs.declared.reader.Reader.{Reader}
use Rattle.lrs_machine.specs.Lines.{Text}
use Rattle.lrs_machine.specs.Machine.{Record, state_after}
use Rattle.lrs_machine.specs.State.{State}
use Rattle.lrs_machine.specs.declared.answer.Limits.{Limits}
use Rattle.lrs_machine.specs.declared.image.Image.{Image}
use Rattle.lrs_machine.specs.declared.table.Table.{Table}
use Rattle.lrs_machine.proofs.Stop.Stopping.{one_after_another}
use Rattle.lrs_machine.specs.declared.stops.fault.Fault.TheVariants as stop
use Rattle.lrs_sheet_records.specs.declared.sheet.Sheet.{Sheet}
use Rattle.lrs_sheet_records.specs.declared.fault.SheetFault.{SheetFault}
use Rattle.lrs_sheet_records.specs.declared.fault.SheetFault.TheVariants as fault
use Rattle.lrs_sheet.specs.declared.reply.Reply.{Reply}
use Rattle.lrs_sheet.specs.declared.reply.Tally.{Tally}
use Rattle.lrs_sheet.specs.Replies.{Replied}
use Rattle.lrs_sheet.specs.Rows.{BreaksAfter, DoesRows, FailsToKeep}
use Rattle.lrs_sheet.specs.Sheets.{IsAfterCommands, StandsAmid, StandsForEither}
use Rattle.lrs_sheet.proofs.Waits.{replied-append}

-- records that are answered are commands that are done, but for those that are malformed
done_replied : (sheet : Sheet) (limits : Limits) (before after : State) (records : List (List Text)) (replies : List Reply) → Replied sheet limits before records replies after → IsAfterCommands limits before after
unfolding Replied
done_replied sheet limits before after [] [] done = ([], done)
done_replied sheet limits before after [] (reply ∷ replies) done = absurd done
done_replied sheet limits before after (fields ∷ records) [] done = absurd done
done_replied sheet limits before after (fields ∷ records) (reply ∷ replies) (middle, (has, inl (key, command, says, answer, state)), done) =
    let (commands, last) = done_replied sheet limits middle after records replies done in
    let first : Record = record { key = key; command = command } in
    (first ∷ commands, last ∙ ap (λ (s : State). state_after limits commands s) state)
done_replied sheet limits before after (fields ∷ records) (reply ∷ replies) (middle, (has, inr (field, malformed, answer, state)), done) =
    let (commands, last) = done_replied sheet limits middle after records replies done in
    (commands, last ∙ ap (λ (s : State). state_after limits commands s) state)

-- of the records whose commit failed all are done in the desk's image, or none
done_failed : {R : Type 0} (sheet : Sheet) (together : ℕ) (rem : R → Option Text) (rows : Reader R) (limits : Limits) (before after : State) (old new : Option Text)
    → FailsToKeep sheet together rem rows limits before after old new → IsAfterCommands limits before after
done_failed sheet together rem rows limits before after old new failed = elim failed.flight.image [
  | inl still ↦ rw still.1 (done_replied sheet limits before failed.settled failed.records failed.replies failed.answered.replied)
  | inr ahead ↦ rw ahead (done_replied sheet limits before failed.flight.next (failed.records ++ take failed.flight.flying failed.further) (failed.replies ++ failed.flight.replies)
      (replied-append sheet limits failed.records (take failed.flight.flying failed.further) failed.replies failed.flight.replies before failed.settled failed.flight.next failed.answered.replied failed.flight.replied))
]

-- ... and what is found then stands amid the commands that are done
pub amid_rows : {R : Type 0} (sheet : Sheet) (together : ℕ) (rem : R → Option Text) (rows : Reader R) (limits : Limits) (before after : State) (old new : Option Text) (content : Result Image Table)
    → BreaksAfter sheet together rem rows limits before after old new content → StandsAmid limits before after content
amid_rows sheet together rem rows limits before after old new content (failed, stands) =
    let (kept, one) = done_replied sheet limits before failed.settled failed.records failed.replies failed.answered.replied in
    let (flying, more) = done_replied sheet limits failed.settled failed.flight.next (take failed.flight.flying failed.further) failed.flight.replies failed.flight.replied in
    let all : failed.flight.next ≡ state_after limits (kept ++ flying) before = more ∙ ap (state_after limits flying) one ∙ sym (one_after_another limits kept flying before) in
    record {
      kept = kept;
      flying = flying;
      known = by one all failed.flight.image;
      found = coe 0 1 (k. StandsForEither content (one k) (all k)) stands;
    }
  where
    by : {settled next s t : State} {n : ℕ} → settled ≡ s → next ≡ t → ((n ≡ 1) × (after ≡ settled)) ⊎ (after ≡ next) → (after ≡ s) ⊎ (after ≡ t)
    by s t (inl (alone, same)) = inl (same ∙ s)
    by s t (inr same) = inr (same ∙ t)

-- what doing the records under a header leaves
pub done_rows : {R : Type 0} (sheet : Sheet) (together : ℕ) (rem : R → Option Text) (rows : Reader R) (limits : Limits) (before after : State) (old new : Option Text) (result : Result Tally SheetFault)
    → DoesRows sheet together rem rows limits before after old new result → IsAfterCommands limits before after
done_rows sheet together rem rows limits before after old new (Ok tally) (records, replies, answered, counts, ends, few) = done_replied sheet limits before after records replies answered.replied
done_rows sheet together rem rows limits before after old new (Err fault.BadCsv) (records, replies, answered, differs) = done_replied sheet limits before after records replies answered.replied
done_rows sheet together rem rows limits before after old new (Err fault.BadHeader) does = absurd does
done_rows sheet together rem rows limits before after old new (Err fault.Read) (records, replies, answered, begins) = done_replied sheet limits before after records replies answered.replied
done_rows sheet together rem rows limits before after old new (Err fault.Write) (records, further, replies, some, wide, replied, begins) = done_replied sheet limits before after records replies replied
done_rows sheet together rem rows limits before after old new (Err (fault.Desk stop.Memory)) (records, further, replies, come, answered, begins) = done_replied sheet limits before after records replies answered.replied
done_rows sheet together rem rows limits before after old new (Err (fault.Desk stop.MustReopen)) (records, further, replies, come, answered, begins) = done_replied sheet limits before after records replies answered.replied
done_rows sheet together rem rows limits before after old new (Err (fault.Desk stop.Keep)) does = done_failed sheet together rem rows limits before after old new does
done_rows sheet together rem rows limits before after old new (Err fault.Memory) (records, replies, answered, begins) = done_replied sheet limits before after records replies answered.replied
