-- What a run gives, and what it leaves of the desk.
use Rattle.std.proofs.Common.{◌≡◌, ◌⊎◌, ℕ, Bool, List, [], ◌∷◌, length, Option, Some, None, Result, Ok, Err, refl, sym, inl, inr}
use Rattle.std.specs.Prelude.{IfSome}
use Rattle.csv.specs.Reading.{expected_len}
use Rattle.csv.specs.declared.reader.Reader.{Reader}
use Rattle.lrs_machine.specs.Image.{state_of}
use Rattle.lrs_machine.specs.Lines.{Text}
use Rattle.lrs_machine.specs.declared.image.Image.{Image}
use Rattle.lrs_machine.specs.declared.table.Table.{Table}
use Rattle.lrs_machine.specs.declared.stops.fault.Fault.TheVariants as stop
use Rattle.lrs_desk.specs.Desk.{KeepsImage}
use Rattle.lrs_desk.specs.DeskView.{DeskView}
use Rattle.lrs_sheet_records.specs.Kinds.{IsHeader}
use Rattle.lrs_sheet_records.specs.Rows.{EndsAfter, Gave, HasRead, IsReadFault}
use Rattle.lrs_sheet_records.specs.declared.fault.SheetFault.{SheetFault}
use Rattle.lrs_sheet_records.specs.declared.fault.SheetFault.TheVariants as fault
use Rattle.lrs_sheet_records.specs.declared.sheet.Sheet.{Sheet}
use Rattle.lrs_sheet.specs.declared.reply.Tally.{Tally}
use Rattle.lrs_sheet.specs.declared.resumption.Decided.{Decided}
use Rattle.lrs_sheet.specs.declared.run.Run.{Run}
use Rattle.lrs_sheet.specs.Repetition.{HasKeysOnce}
use Rattle.lrs_sheet.specs.Replies.{tally_of}
use Rattle.lrs_sheet.specs.Resumption.{IsDecidedBy, IsSearchFault}
use Rattle.lrs_sheet.specs.Rows.{IsRunOfRows}
use Rattle.lrs_sheet.specs.Runs.{IsResumedRun, IsRunBehind, IsWholeRun}
use Rattle.lrs_sheet.specs.Sheets.{LeavesDesk, RunsBehind, StandAtFront}
use Rattle.lrs_sheet.proofs.Done.{no_commit, read_leaves, same_fault, stays}
use Rattle.lrs_sheet.proofs.Left.{amid_rows, done_rows}
use Rattle.lrs_sheet.proofs.Whole.{bad-header, broke-under, empty-sheet, keeps-same, under-header, unread, whole}

module _ {K : Type 0} {holds : K → Result Image Table → Type 0} {R : Type 0} (run : Run) (rem : R → Option Text) (known : Option Text) where
  nothing-done : (desk : DeskView K) (text : Option Text) (result : Result Tally SheetFault) → KeepsImage holds desk
      → IfSome known (λ input. (front : List (List Text)) → StandAtFront input front → length front ≡ run.passed → RunsBehind front run.sheet run.together desk.limits input (state_of desk.image) (state_of desk.image) text text result)
      → LeavesDesk holds desk desk result → (result ≡ Err (fault.Desk stop.Keep) → ⊥) → IsRunBehind holds run known desk desk text text result
  nothing-done desk text result kept runs leaves never = record {
    runs = runs;
    desk = leaves;
    broken = λ is. absurd (never is);
    still = λ is. absurd (never is);
    left = ([], refl);
    kept = kept;
    amid = λ is. absurd (never is);
  }

  -- the first read failed
  pub unread-run : (rows : Reader R) (desk : DeskView K) (text : Option Text) (e : SheetFault) → KeepsImage holds desk → expected_len rows ≡ None → IsReadFault rem rows e → IsRunBehind holds run known desk desk text text (Err e)
  unread-run rows desk text e kept first why =
      nothing-done desk text (Err e) kept (unread run.sheet run.together rem rows known desk.limits (state_of desk.image) text run.passed e first why) (read_leaves rem rows desk desk e why (stays desk)) (no_commit rem rows e why)

  -- there are not so many records as are passed over, or no memory for them
  pub unskipped-run : (rows : Reader R) (desk : DeskView K) (text : Option Text) (e : SheetFault) → KeepsImage holds desk → expected_len rows ≡ None → (e ≡ fault.Read) ⊎ (e ≡ fault.Memory) → IsRunBehind holds run known desk desk text text (Err e)
  unskipped-run rows desk text e kept first (inl is) = rw is (unread-run rows desk text fault.Read kept first tt)
  unskipped-run rows desk text e kept first (inr is) = rw is (unread-run rows desk text fault.Memory kept first tt)

  -- a sheet with no record
  pub empty-run : (rows : Reader R) (desk : DeskView K) (text : Option Text) (tally : Tally) → KeepsImage holds desk → IfSome known (λ input. HasRead rem rows input []) → EndsAfter rem rows [] → tally ≡ tally_of [] → IsRunBehind holds run known desk desk text text (Ok tally)
  empty-run rows desk text tally kept start ends none =
      nothing-done desk text (Ok tally) kept (empty-sheet run.sheet run.together rem rows known desk.limits (state_of desk.image) text tally run.passed start ends none) (stays desk) (λ is. absurd (cc is))

  -- a sheet of another header
  pub headless-run : (rows next : Reader R) (desk : DeskView K) (text : Option Text) (fields : List Text) → KeepsImage holds desk → IfSome known (λ input. HasRead rem rows input []) → Gave rem rows next (fields ∷ []) → (IsHeader run.sheet fields → ⊥)
      → IsRunBehind holds run known desk desk text text (Err fault.BadHeader)
  headless-run rows next desk text fields kept start gave other =
      nothing-done desk text (Err fault.BadHeader) kept (bad-header run.sheet run.together rem rows next known desk.limits (state_of desk.image) text fields run.passed start gave other) (stays desk, refl) (λ is. absurd (cc is))

  -- the records behind those that are passed over
  pub run-under : (rows mid next : Reader R) (before after : DeskView K) (old new : Option Text) (fields : List Text) (result : Result Tally SheetFault) → KeepsImage holds after
      → IfSome known (λ input. HasRead rem rows input []) → Gave rem rows mid (fields ∷ []) → IsHeader run.sheet fields → ((read : List (List Text)) × (length read ≡ run.passed) × Gave rem mid next read)
      → IsRunOfRows holds run rem next before after old new result → IsRunBehind holds run known before after old new result
  run-under rows mid next before after old new fields result now-kept start gave header skipped does = record {
    runs = under-header run.sheet run.together rem rows mid next known before.limits (state_of before.image) (state_of after.image) old new fields run.passed result start gave header skipped does.rows;
    desk = does.desk;
    broken = λ is kept found. broke-under run.sheet run.together rem rows mid next known before.limits (state_of before.image) (state_of after.image) old new kept fields run.passed start gave header skipped (does.broken is kept found);
    still = does.still;
    left = done_rows run.sheet run.together rem next before.limits (state_of before.image) (state_of after.image) old new result does.rows;
    kept = now-kept;
    amid = λ is c found. amid_rows run.sheet run.together rem next before.limits (state_of before.image) (state_of after.image) old new c (does.broken is c found);
  }

-- where a search fails, a desk stays, and no commit has failed
search-leaves : {K : Type 0} (holds : K → Result Image Table → Type 0) (desk : DeskView K) (e : SheetFault) → IsSearchFault desk.must_reopen e → LeavesDesk {X = Tally} holds desk desk (Err e)
search-leaves holds desk fault.Read is = stays desk
search-leaves holds desk fault.Memory is = stays desk
search-leaves holds desk (fault.Desk stop.Memory) is = stays desk
search-leaves holds desk (fault.Desk stop.MustReopen) is = (stays desk, is)
search-leaves holds desk (fault.Desk stop.Keep) is = absurd is
search-leaves holds desk fault.Write is = absurd is
search-leaves holds desk fault.BadHeader is = absurd is
search-leaves holds desk fault.BadCsv is = absurd is

never-broken : (must_reopen : Bool) (e : SheetFault) → IsSearchFault must_reopen e → ◌≡◌ {A = Result Tally SheetFault} (Err e) (Err (fault.Desk stop.Keep)) → ⊥
never-broken must_reopen e is same = rw (same_fault e (fault.Desk stop.Keep) same) at is

module _ {K : Type 0} {holds : K → Result Image Table → Type 0} (sheet : Sheet) (together : ℕ) where
  -- a whole sheet is run behind no record
  pub whole-run : (known : Option Text) (before after : DeskView K) (old new : Option Text) (result : Result Tally SheetFault) → IsRunBehind holds (record { sheet = sheet; together = together; passed = 0 }) known before after old new result
      → IsWholeRun holds sheet together known before after old new result
  whole-run known before after old new result ran = record {
    runs = whole _ known ran.runs;
    desk = ran.desk;
    broken = λ is kept found. whole _ known (ran.broken is kept found);
    still = ran.still;
    left = ran.left;
    kept = ran.kept;
    amid = ran.amid;
  }

  -- a search failed, and nothing is gone on with
  pub unsearched-run : (input : Text) (desk : DeskView K) (text : Option Text) (e : SheetFault) → KeepsImage holds desk → IsSearchFault desk.must_reopen e → IsResumedRun holds sheet together input desk desk text text (Err e)
  unsearched-run input desk text e kept is = record {
    runs = inl (is, refl, keeps-same text);
    desk = search-leaves holds desk e is;
    broken = λ same. absurd (never-broken desk.must_reopen e is same);
    still = λ same. absurd (never-broken desk.must_reopen e is same);
    left = ([], refl);
    kept = kept;
    amid = λ same. absurd (never-broken desk.must_reopen e is same);
  }

  -- its keys were not looked through
  pub unlooked-run : (input : Text) (desk : DeskView K) (text : Option Text) (e : SheetFault) → KeepsImage holds desk → (e ≡ fault.Read) ⊎ (e ≡ fault.Memory) → IsResumedRun holds sheet together input desk desk text text (Err e)
  unlooked-run input desk text e kept (inl is) = rw is (unsearched-run input desk text fault.Read kept tt)
  unlooked-run input desk text e kept (inr is) = rw is (unsearched-run input desk text fault.Memory kept tt)

  -- a sheet is gone on with behind the decided records
  pub resumed-run : (input : Text) (before after : DeskView K) (old new : Option Text) (result : Result Tally SheetFault) (d : Decided) → HasKeysOnce sheet input → ((front : List (List Text)) × IsDecidedBy sheet (state_of before.image) input d front)
      → IsRunBehind holds (record { sheet = sheet; together = together; passed = d.records }) (Some input) before after old new result → IsResumedRun holds sheet together input before after old new result
  resumed-run input before after old new result d once (front, by) ran = record {
    runs = inr (once, d, front, by, ran.runs front by.at_front (sym by.number));
    desk = ran.desk;
    broken = λ is kept found. (d, front, by, ran.broken is kept found front by.at_front (sym by.number));
    still = ran.still;
    left = ran.left;
    kept = ran.kept;
    amid = ran.amid;
  }
