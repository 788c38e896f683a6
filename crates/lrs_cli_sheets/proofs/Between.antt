-- A run of a sheet over a writer that is put before another and taken away again.
use Rattle.std.proofs.Common.{◌≡◌, ◌∙◌, ◌≤◌, ℕ, List, ◌++◌, ◌∷◌, length, arith, Option, Some, None, [], Result, Ok, Err, refl, ap, inl, inr, subst, sym}
use Rattle.std.specs.Prelude.{IfSome}
use Rattle.std.specs.Io.KnownBytes.{Appends, Keeps}
use Rattle.lrs_machine.specs.State.{State}
use Rattle.lrs_machine.specs.declared.answer.Limits.{Limits}
use Rattle.lrs_machine.specs.declared.stops.fault.Fault.TheVariants as stop
use Rattle.lrs_sheet_records.specs.declared.fault.SheetFault.{SheetFault}
use Rattle.lrs_sheet_records.specs.declared.fault.SheetFault.TheVariants as fault
use Rattle.lrs_sheet.specs.declared.reply.Reply.{Reply}
use Rattle.lrs_sheet.specs.declared.reply.Tally.{Tally}
use Rattle.lrs_sheet_records.specs.declared.sheet.Sheet.{Sheet}
use Rattle.lrs_machine.specs.declared.image.Image.{Image}
use Rattle.lrs_machine.specs.declared.table.Table.{Table}
use Rattle.lrs_sheet.specs.DeskView.{DeskView}
use Rattle.lrs_sheet.specs.Runs.{IsRunBehind, IsWholeRun}
use Rattle.lrs_sheet.specs.Sheets.{AreAnswered, BreaksOffBehind, HasFailedToKeep, HasStopped, IsAfterCommands, LeavesDesk, RunsBehind, StandAtFront}
use Rattle.lrs_machine.specs.Image.{state_of}
use Rattle.lrs_cli_sheets.specs.declared.sheets.Pace.{Pace}
use Rattle.lrs_cli_sheets.specs.declared.sheets.Pace.TheVariants.{LineByLine, AsTheyArrive, InGroups, InPieces}
use Rattle.lrs_cli_sheets.specs.declared.sheets.Way.{Way}
use Rattle.lrs_cli_sheets.specs.Sheets.{GoesOnOrBreaks, HasRun, together_at}

-- bytes that are appended between two that are kept
pub appends-between : (first old new last : Option (List ℕ)) (bytes : List ℕ) → Keeps first old → Keeps new last → Appends old new bytes → Appends first last bytes
appends-between None old new last bytes kept keeps appends = tt
appends-between (Some xs) None new last bytes kept keeps appends = absurd kept
appends-between (Some xs) (Some ys) None last bytes kept keeps appends = absurd appends
appends-between (Some xs) (Some ys) (Some zs) None bytes kept keeps appends = absurd keeps
appends-between (Some xs) (Some ys) (Some zs) (Some rest) bytes kept keeps appends = keeps ∙ appends ∙ ap (λ (text : List ℕ). text ++ bytes) kept

keeps-itself : (x : Option (List ℕ)) → Keeps x x
keeps-itself None = tt
keeps-itself (Some xs) = refl

-- a writer that has what another has
pub keeps-same : (first old : Option (List ℕ)) → old ≡ first → Keeps first old
keeps-same first old same = subst (λ (o : Option (List ℕ)). Keeps first o) (sym same) (keeps-itself first)

pub keeps-between : (first old new last : Option (List ℕ)) → Keeps first old → Keeps new last → Keeps old new → Keeps first last
keeps-between None old new last kept keeps same = tt
keeps-between (Some xs) None new last kept keeps same = absurd kept
keeps-between (Some xs) (Some ys) None last kept keeps same = absurd same
keeps-between (Some xs) (Some ys) (Some zs) None kept keeps same = absurd keeps
keeps-between (Some xs) (Some ys) (Some zs) (Some rest) kept keeps same = keeps ∙ same ∙ kept

module _ (front : List (List (List ℕ))) (sheet : Sheet) (together : ℕ) (limits : Limits) (input : List ℕ) (before after : State) (first old new last : Option (List ℕ)) (kept : Keeps first old) (keeps : Keeps new last) where
  answered-between : (to : State) (records : List (List (List ℕ))) (replies : List Reply) → AreAnswered sheet limits before records replies to old new → AreAnswered sheet limits before records replies to first last
  answered-between to records replies answered = record {
    width = answered.width;
    replied = answered.replied;
    written = appends-between first old new last _ kept keeps answered.written;
  }

  stopped-between : (to : State) → HasStopped front sheet together limits input before to old new → HasStopped front sheet together limits input before to first last
  stopped-between to (header, records, further, replies, is, begins, come, answered) = (header, records, further, replies, is, begins, come, answered-between to records replies answered)

  failed-between : HasFailedToKeep front sheet together limits input before after old new → HasFailedToKeep front sheet together limits input before after first last
  failed-between failed = record {
    header = failed.header;
    records = failed.records;
    further = failed.further;
    replies = failed.replies;
    settled = failed.settled;
    is_header = failed.is_header;
    begins = failed.begins;
    come_next = failed.come_next;
    answered = answered-between failed.settled failed.records failed.replies failed.answered;
    flight = failed.flight;
  }

  runs-between : (result : Result Tally SheetFault) → RunsBehind front sheet together limits input before after old new result → RunsBehind front sheet together limits input before after first last result
  runs-between (Ok tally) (inl (all, state, same, counts)) = inl (all, state, keeps-between first old new last kept keeps same, counts)
  runs-between (Ok tally) (inr (header, records, replies, is, all, answered, counts, few)) = inr (header, records, replies, is, all, answered-between after records replies answered, counts, few)
  runs-between (Err fault.BadHeader) (header, begins, other, state, same) = (header, begins, other, state, keeps-between first old new last kept keeps same)
  runs-between (Err fault.BadCsv) (header, records, fields, replies, is, begins, differs, answered) = (header, records, fields, replies, is, begins, differs, answered-between after records replies answered)
  runs-between (Err fault.Read) (inl (state, same)) = inl (state, keeps-between first old new last kept keeps same)
  runs-between (Err fault.Read) (inr (header, records, replies, is, begins, answered)) = inr (header, records, replies, is, begins, answered-between after records replies answered)
  runs-between (Err fault.Write) done = done
  runs-between (Err (fault.Desk stop.Memory)) done = stopped-between after done
  runs-between (Err (fault.Desk stop.MustReopen)) done = stopped-between after done
  runs-between (Err (fault.Desk stop.Keep)) done = failed-between done
  runs-between (Err fault.Memory) (inl (state, same)) = inl (state, keeps-between first old new last kept keeps same)
  runs-between (Err fault.Memory) (inr (header, records, replies, is, begins, answered)) = inr (header, records, replies, is, begins, answered-between after records replies answered)

  broken-between : (c : Result Image Table) → BreaksOffBehind front sheet together limits input before after old new c → BreaksOffBehind front sheet together limits input before after first last c
  unfolding failed-between
  broken-between c (failed, stands) = (failed-between failed, stands)

no_items : {A : Type 0} (xs : List A) → length xs ≡ 0 → xs ≡ []
no_items [] none = refl
no_items (x ∷ xs) none = absurd (omega (arith, none))

module _ (passed : ℕ) (P : List ℕ → List (List (List ℕ)) → Type 0) where
  -- what is so behind each list of records that are passed over implies another
  each-front : (Q : List ℕ → List (List (List ℕ)) → Type 0) (known : Option (List ℕ)) → ((input : List ℕ) (front : List (List (List ℕ))) → P input front → Q input front)
      → IfSome known (λ input. (front : List (List (List ℕ))) → StandAtFront input front → length front ≡ passed → P input front)
      → IfSome known (λ input. (front : List (List (List ℕ))) → StandAtFront input front → length front ≡ passed → Q input front)
  each-front Q None to h = tt
  each-front Q (Some input) to h = λ front at count. to input front (h front at count)

  -- where none is passed over
  behind-none : (known : Option (List ℕ)) → passed ≡ 0 → IfSome known (λ input. P input []) → IfSome known (λ input. (front : List (List (List ℕ))) → StandAtFront input front → length front ≡ passed → P input front)
  behind-none None none h = tt
  behind-none (Some input) none h = λ front at count. subst (P input) (sym (no_items front (count ∙ none))) h

module _ {K : Type 0} (holds : K → Result Image Table → Type 0) (way : Way) (known : Option (List ℕ)) (before after : DeskView K) where
  -- the same where it may be unknown what the reader has left, and what the run leaves of the desk
  pub ran-between : (first old new last : Option (List ℕ)) (outcome : Result Tally SheetFault) → Keeps first old → Keeps new last → HasRun holds way known before after old new outcome → HasRun holds way known before after first last outcome
  ran-between first old new last outcome kept keeps ran = record {
    runs = each-front way.passed _ _ known (λ input front. runs-between front way.kind (together_at way.pace) before.limits input (state_of before.image) (state_of after.image) first old new last kept keeps outcome) ran.runs;
    desk = ran.desk;
    broken = λ is c found. each-front way.passed _ _ known (λ input front. broken-between front way.kind (together_at way.pace) before.limits input (state_of before.image) (state_of after.image) first old new last kept keeps c) (ran.broken is c found);
    still = ran.still;
    left = ran.left;
    kept = ran.kept;
    amid = ran.amid;
  }

  -- a whole sheet that is run one by one is run behind no record
  pub ran_whole : (old new : Option (List ℕ)) (outcome : Result Tally SheetFault) → together_at way.pace ≡ 1 → way.passed ≡ 0 → IsWholeRun holds way.kind 1 known before after old new outcome → HasRun holds way known before after old new outcome
  ran_whole old new outcome one none ran = at_pace (sym one) (record {
    runs = behind-none way.passed (λ input front. RunsBehind front way.kind 1 before.limits input (state_of before.image) (state_of after.image) old new outcome) known none ran.runs;
    desk = ran.desk;
    broken = λ is c found. behind-none way.passed (λ input front. BreaksOffBehind front way.kind 1 before.limits input (state_of before.image) (state_of after.image) old new c) known none (ran.broken is c found);
    still = ran.still;
    left = ran.left;
    kept = ran.kept;
    amid = ran.amid;
  })
    where
      at_pace : {n : ℕ} → 1 ≡ n → IsRunBehind holds (record { sheet = way.kind; together = 1; passed = way.passed }) known before after old new outcome → IsRunBehind holds (record { sheet = way.kind; together = n; passed = way.passed }) known before after old new outcome
      at_pace same h = coe 0 1 (k. IsRunBehind holds (record { sheet = way.kind; together = same k; passed = way.passed }) known before after old new outcome) h

-- what a run leaves of a desk: it goes along with its keeper, or a commit failed
pub either_left : {K : Type 0} (holds : K → Result Image Table → Type 0) (old new : DeskView K) (result : Result Tally SheetFault) → LeavesDesk holds old new result → GoesOnOrBreaks holds old new
either_left holds old new (Ok tally) left = inl left
either_left holds old new (Err fault.BadHeader) left = inl left.0
either_left holds old new (Err fault.BadCsv) left = inl left
either_left holds old new (Err fault.Read) left = inl left
either_left holds old new (Err fault.Write) left = inl left
either_left holds old new (Err fault.Memory) left = inl left
either_left holds old new (Err (fault.Desk stop.Keep)) left = inr left
either_left holds old new (Err (fault.Desk stop.Memory)) left = inl left
either_left holds old new (Err (fault.Desk stop.MustReopen)) left = inl left.0

-- where nothing is done, no command is
pub none_done : (limits : Limits) (s : State) → IsAfterCommands limits s s
none_done limits s = ([], refl)

-- at each pace one record at least is done together
pub some_together : (pace : Pace) → 1 ≤ together_at pace
some_together LineByLine = omega (arith)
some_together AsTheyArrive = omega (arith)
some_together InGroups = omega (arith)
some_together InPieces = omega (arith)
