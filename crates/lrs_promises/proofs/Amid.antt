-- What is left of a keeper, whatever ends a sheet or a request.
use Rattle.std.proofs.Common.{◌≡◌, ◌⊎◌, inl, inr, ℕ, [], Option, Some, Result, Ok, Err, IfOk, IfSome, refl, sym, subst, arith}
use Rattle.lrs_machine.specs.Image.{state_of}
use Rattle.lrs_machine.specs.Lines.{Text}
use Rattle.lrs_machine.specs.declared.image.Image.{Image}
use Rattle.lrs_machine.specs.declared.table.Table.{Table}
use Rattle.lrs_image.specs.KeeperCalls.{HasRisen}
use Rattle.lrs_desk.specs.DeskView.{DeskView}
use Rattle.lrs_machine.specs.declared.stops.fault.Fault.TheVariants as stop
use Rattle.lrs_sheet_records.specs.declared.sheet.Sheet.{Sheet}
use Rattle.lrs_sheet.specs.Runs.{IsWholeRun}
use Rattle.lrs_sheet.specs.Sheets.{CountsFailures, GoesAlong, LeavesDesk, StandsAmid}
use Rattle.lrs_sheet_records.specs.declared.fault.SheetFault.{SheetFault}
use Rattle.lrs_sheet_records.specs.declared.fault.SheetFault.TheVariants as fault
use Rattle.lrs_sheet.specs.declared.reply.Tally.{Tally}
use Rattle.lrs_sheet.proofs.Done.{stays}
use Rattle.lrs_web_requests.specs.Request.{Asked, refused, not_allowed, page, query, sheet as posted}
use Rattle.lrs_web_requests.specs.Text.{Answer}
use Rattle.lrs_web_requests.specs.declared.request.Course.{Course}
use Rattle.lrs_web_requests.specs.declared.request.Course.TheVariants as course
use Rattle.lrs_web.specs.RequestAnswers.{Does, DoesPosted, Responds, Serves, Writes, posted_at}
use Rattle.lrs_web.specs.declared.request.Posted.{Posted}
use Rattle.lrs_web.specs.declared.request.Posted.TheVariants as post
use Rattle.lrs_web.specs.declared.request.WebFault.{WebFault}
use Rattle.lrs_web.specs.declared.request.WebFault.TheVariants as web
use Rattle.lrs_promises.specs.Headline.{SheetLeft}
use Rattle.lrs_promises.specs.Safe.{HasFailedAmid, RequestLeaves}
use Rattle.lrs_promises.specs.declared.calls.CallFault.TheVariants as why
use Rattle.lrs_promises.proofs.After.{does_after}

module _ {K : Type 0} (holds : K → Result Image Table → Type 0) (old new : DeskView K) where
  abbrev Kept : Type 0
  Kept = GoesAlong holds old new ⊎ HasFailedAmid holds old new

  -- a desk that stays goes along
  same_keeps : new ≡ old → Kept
  same_keeps same = inl (subst (GoesAlong holds old) (sym same) (stays old))

  sheet_keeps : (ended : Result Tally SheetFault) → LeavesDesk holds old new ended
      → (ended ≡ Err (fault.Desk stop.Keep) → (c : Result Image Table) → holds new.keeper c → StandsAmid old.limits (state_of old.image) (state_of new.image) c) → Kept
  sheet_keeps (Ok tally) desk found = inl desk
  sheet_keeps (Err fault.BadHeader) desk found = inl desk.0
  sheet_keeps (Err fault.BadCsv) desk found = inl desk
  sheet_keeps (Err fault.Read) desk found = inl desk
  sheet_keeps (Err fault.Write) desk found = inl desk
  sheet_keeps (Err fault.Memory) desk found = inl desk
  sheet_keeps (Err (fault.Desk stop.Memory)) desk found = inl desk
  sheet_keeps (Err (fault.Desk stop.MustReopen)) desk found = inl desk.0
  sheet_keeps (Err (fault.Desk stop.Keep)) desk found = inr (record { desk = desk; found = found refl })

  counted_along : (failures : K → ℕ) (ended : Result Tally SheetFault) → old.failures ≡ failures old.keeper → new.failures ≡ failures new.keeper → (ended ≡ Err (fault.Desk stop.Keep) → ⊥) → GoesAlong holds old new
      → CountsFailures failures old new ended
  counted_along failures ended was is other along = record { counts = omega (arith, was, is, along.counts); cause = λ e. absurd (other e) }

  -- what is counted of a run, by a desk that tells its keeper's count
  pub counts_failures : (failures : K → ℕ) (ended : Result Tally SheetFault) → old.failures ≡ failures old.keeper → new.failures ≡ failures new.keeper → LeavesDesk holds old new ended
      → CountsFailures failures old new ended
  counts_failures failures (Ok tally) was is desk = counted_along failures (Ok tally) was is (λ e. absurd (cc e)) desk
  counts_failures failures (Err fault.BadHeader) was is desk = counted_along failures (Err fault.BadHeader) was is (λ e. absurd (cc e)) desk.0
  counts_failures failures (Err fault.BadCsv) was is desk = counted_along failures (Err fault.BadCsv) was is (λ e. absurd (cc e)) desk
  counts_failures failures (Err fault.Read) was is desk = counted_along failures (Err fault.Read) was is (λ e. absurd (cc e)) desk
  counts_failures failures (Err fault.Write) was is desk = counted_along failures (Err fault.Write) was is (λ e. absurd (cc e)) desk
  counts_failures failures (Err fault.Memory) was is desk = counted_along failures (Err fault.Memory) was is (λ e. absurd (cc e)) desk
  counts_failures failures (Err (fault.Desk stop.Memory)) was is desk = counted_along failures (Err (fault.Desk stop.Memory)) was is (λ e. absurd (cc e)) desk
  counts_failures failures (Err (fault.Desk stop.MustReopen)) was is desk = counted_along failures (Err (fault.Desk stop.MustReopen)) was is (λ e. absurd (cc e)) desk.0
  counts_failures failures (Err (fault.Desk stop.Keep)) was is desk = record {
    counts = omega (arith, was, is, desk.counts);
    cause = λ e. subst (HasRisen (failures old.keeper)) is (subst (λ (n : ℕ). HasRisen n new.failures) was desk.cause);
  }

  posted_keeps : (what : Posted) (way : Course) (body : Text) (answer : Answer) → DoesPosted holds what way body old answer new → Kept
  posted_keeps post.Questions way body answer (same, told, ahead) = same_keeps same
  posted_keeps (post.Trial kind) way body answer (same, told, ahead) = same_keeps same
  posted_keeps (post.Draft kind) way body answer (same, told, ahead) = same_keeps same
  posted_keeps (post.Sheet kind) course.EachRecord body answer (ended, lines, run, is) = sheet_keeps ended run.desk run.amid
  posted_keeps (post.Sheet kind) course.BehindLast body answer (inl (ended, lines, run, is)) = sheet_keeps ended run.desk run.amid
  posted_keeps (post.Sheet kind) course.BehindLast body answer (inr (twice, repeated, same, is)) = same_keeps same
  posted_keeps (post.Sheet kind) course.AllOrNone body answer (inl (behind, replies, outcome, tried, inl (accepted, (ended, lines, run, is)))) = sheet_keeps ended run.desk run.amid
  posted_keeps (post.Sheet kind) course.AllOrNone body answer (inl (behind, replies, outcome, tried, inr (not_accepted, same, is))) = same_keeps same
  posted_keeps (post.Sheet kind) course.AllOrNone body answer (inr (same, is)) = same_keeps same

  does_keeps : (asked : Asked) (answer : Answer) → Does holds asked old answer new → Kept
  does_keeps (refused status) answer does = same_keeps does.0
  does_keeps (not_allowed verb) answer does = same_keeps does.0
  does_keeps (page text) answer does = same_keeps does.0
  does_keeps (query resource format argument) answer does = same_keeps does.0
  does_keeps (posted resource way body) answer does = posted_keeps (posted_at resource) way body answer does

  pub request_leaves : (input before after : Option Text) (result : Result ℕ WebFault)
      → IfOk result (λ status. (answer : Answer) × Writes before after status answer × IfSome input (λ bytes. Serves holds bytes old answer new))
      → IfOk result (λ status. (asked : Asked) × (answer : Answer) × Writes before after status answer × Responds holds asked old answer new)
      → (result ≡ Err web.Write → IfSome input (λ bytes. (answer : Answer) × Serves holds bytes old answer new)) → (result ≡ Err web.Read → new ≡ old)
      → (asked : Asked) × (due : Answer) × Does holds asked old due new → RequestLeaves holds input before after old new result
  request_leaves input before after result served replied write read (asked, due, does) = record {
    commands = does_after holds old new asked due does;
    desk = does_keeps asked due does;
    unread = read;
    replied = replied;
    served = served;
    unwritten = write;
  }

  -- the same over bytes that are there as a whole, and a writer that was given nothing
  pub request_left : (bytes none reply : Text) (result : Result ℕ WebFault) → none ≡ []
      → IfOk result (λ status. (answer : Answer) × Writes (Some none) (Some reply) status answer × Serves holds bytes old answer new)
      → IfOk result (λ status. (asked : Asked) × (answer : Answer) × Writes (Some none) (Some reply) status answer × Responds holds asked old answer new)
      → (result ≡ Err web.Write → (answer : Answer) × Serves holds bytes old answer new) → (result ≡ Err web.Read → new ≡ old)
      → (asked : Asked) × (due : Answer) × Does holds asked old due new → RequestLeaves holds (Some bytes) (Some []) (Some reply) old new result
  request_left bytes none reply result empty served replied write read left =
      subst (λ (text : Text). RequestLeaves holds (Some bytes) (Some text) (Some reply) old new result) empty
      (request_leaves (Some bytes) (Some none) (Some reply) result served replied write read left)

  -- a sheet that ended in a fault, by what its run says
  pub sheet_left : (sheet : Sheet) (input none lines : Text) (ended : SheetFault) (result : Result Tally SheetFault) → result ≡ Err ended → none ≡ []
      → IsWholeRun holds sheet 1 (Some input) old new (Some none) (Some lines) result → SheetLeft holds sheet input (why.Sheet ended) old new
  sheet_left sheet input none lines ended result is empty run = record {
    ended = ended;
    is = refl;
    lines = lines;
    left = coe 0 1 (k. IsWholeRun holds sheet 1 (Some input) old new (Some (empty k)) (Some lines) (is k)) run;
  }
