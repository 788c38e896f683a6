-- Equal bytes and equal states give equal bytes and equal states.
use Rattle.std.specs.Prelude.{◌≡◌, ◌⊎◌, ℕ, Bool, true, ◌++◌, List, [], ◌∷◌, codes, Some, Ok, Result, ⊤}
use Rattle.std.specs.List.{AllByRecursion}
use Rattle.lrs_machine.specs.Image.{state_of}
use Rattle.lrs_machine.specs.Lines.{Text}
use Rattle.lrs_machine.specs.Sound.{IsSound}
use Rattle.lrs_machine.specs.State.{State}
use Rattle.lrs_machine.specs.declared.answer.Limits.{Limits}
use Rattle.lrs_machine.specs.declared.image.Image.{Image}
use Rattle.lrs_machine.specs.declared.table.Table.{Table}
use Rattle.lrs_desk.specs.DeskView.{DeskView}
use Rattle.lrs_sheet_records.specs.Records.{text_at}
use Rattle.lrs_sheet_records.specs.Rows.{BeginsWith}
use Rattle.lrs_sheet_records.specs.declared.sheet.Sheet.{Sheet}
use Rattle.lrs_sheet.specs.Resumption.{Resumes}
use Rattle.lrs_sheet.specs.Sheets.{Runs}
use Rattle.lrs_sheet.specs.Trials.{IsFull, IsTried}
use Rattle.lrs_sheet_records.specs.declared.fault.SheetFault.{SheetFault}
use Rattle.lrs_sheet.specs.declared.reply.Tally.{Tally}
use Rattle.lrs_sheet_questions.specs.SheetAnswers.{RunsQuestions}
use Rattle.lrs_sheet_questions.specs.declared.tally.QuestionTally.{QuestionTally}
use Rattle.lrs_web_requests.specs.declared.paths.Resource.TheVariants as path
use Rattle.lrs_web_requests.specs.Request.{Asked, Asks, query, sheet as posted}
use Rattle.lrs_web_requests.specs.Text.{Answer}
use Rattle.lrs_web.specs.RequestAnswers.{posted_at}
use Rattle.lrs_web.specs.Sheets.{DoesAllOrNone, lines_answer}
use Rattle.lrs_web.specs.declared.request.Posted.{Posted}
use Rattle.lrs_web.specs.declared.request.Posted.TheVariants as post
use Rattle.lrs_promises.specs.declared.calls.Call.{Call}
use Rattle.lrs_promises.specs.declared.calls.Call.TheVariants as call
use Rattle.lrs_promises.specs.Calls.{DidAll, is_decided}

-- Two runs ended alike, and wrote the same behind what was there.
pub record WroteAlike {T : Type 0} (old written earlier other : Text) (ended end : Result T SheetFault) : Type 0 where
  pub reply : Text
  pub one : written ≡ old ++ reply
  pub same : other ≡ earlier ++ reply
  pub ends : ended ≡ end

-- ... and in one state
pub record EndAlike (old written earlier other : Text) (after instead : State) (ended end : Result Tally SheetFault) : Type 0 where
  pub wrote : WroteAlike old written earlier other ended end
  pub state : after ≡ instead

-- Two runs of the same sheet from the same state end alike, however many records each does together: after all records, at a header that is none, or at a record that has not as many fields.
abbrev pub SheetsEndAlike : Type 0
SheetsEndAlike = (sheet : Sheet) (together others : ℕ) (limits : Limits) (input : Text) (before after instead : State) (old written earlier other : Text) (ended end : Result Tally SheetFault)
    → is_decided ended ≡ true → is_decided end ≡ true
    → Runs sheet together limits input before after (Some old) (Some written) ended → Runs sheet others limits input before instead (Some earlier) (Some other) end
    → EndAlike old written earlier other after instead ended end

-- So do two runs of the same sheet that go on from the same state, behind its last record that is an edit.
abbrev pub ResumedEndAlike : Type 0
ResumedEndAlike = (sheet : Sheet) (failed broken : Bool) (together others : ℕ) (limits : Limits) (input : Text) (before after instead : State) (old written earlier other : Text) (ended end : Result Tally SheetFault)
    → is_decided ended ≡ true → is_decided end ≡ true
    → Resumes failed sheet together limits input before after (Some old) (Some written) ended → Resumes broken sheet others limits input before instead (Some earlier) (Some other) end
    → EndAlike old written earlier other after instead ended end

-- Whatever keeper a desk of full limits has, it does a sheet as a whole or not at all. Where it answers so, and not with a 503, that is as a trial foretells it: the reply has the lines of the trial, which refused nothing, and the desk's image stands for the state that the trial made. Or something was refused or at fault, and the desk is as it was.
abbrev pub AllOrNoneIsAsTried : {K : Type 0} → (K → Result Image Table → Type 0) → Type 0
AllOrNoneIsAsTried {K} holds = (sheet : Sheet) (input : Text) (old new : DeskView K) (answer : Answer) → IsFull old.limits → DoesAllOrNone holds sheet input old answer new → (answer.status ≡ 503 → ⊥)
    → ((replies : Text) × (tally : Tally) × IsTried sheet 0 input (state_of old.image) (state_of new.image) replies (Ok tally) × (tally.refused ≡ 0) × (answer ≡ lines_answer 200 replies))
    ⊎ ((new ≡ old) × ((answer.status ≡ 409) ⊎ (answer.status ≡ 422)))

-- ---- the inventory

-- the same inventories, but for the rows of their ledgers
pub record SameInventories (i j : Image) : Type 0 where
  pub links : i.links ≡ j.links
  pub classes : i.classes ≡ j.classes
  pub assets : i.assets ≡ j.assets
  pub routes : i.routes ≡ j.routes
  pub edits : i.edits ≡ j.edits

-- Sound inventories of one state are the same, but for the rows of their ledgers: one edit may have entered or removed a stretch as one row, or as two that touch.
abbrev pub InventoriesAreOne : Type 0
InventoriesAreOne = (i j : Image) → IsSound i → IsSound j → state_of i ≡ state_of j → SameInventories i j

-- ---- sheets of questions

-- the record does not ask for a history, which is told by the rows of the ledgers
abbrev pub IsOfNoHistory : List Text → Type 0
IsOfNoHistory fields = text_at fields 1 ≡ codes "history" → ⊥

-- no record of the sheet asks for one
abbrev pub AsksNoHistory : Text → Type 0
AsksNoHistory input = (records : List (List Text)) → BeginsWith input records → AllByRecursion IsOfNoHistory records

-- The same sheet of questions is answered alike over any two images of the same state that are the same inventories but for the rows of their ledgers, as sound ones are, where it asks for no history, and over two equal images whatever it asks: a place is told by the referents of its route, in the order in which an image has them.
abbrev pub QuestionSheetsEndAlike : Type 0
QuestionSheetsEndAlike = (i j : Image) (input old written earlier other : Text) (ended end : Result QuestionTally SheetFault)
    → state_of i ≡ state_of j → SameInventories i j → AsksNoHistory input ⊎ (i ≡ j) → is_decided ended ≡ true → is_decided end ≡ true
    → RunsQuestions i input (Some old) (Some written) ended → RunsQuestions j input (Some earlier) (Some other) end
    → WroteAlike old written earlier other ended end

-- ---- what is asked

-- whether what is posted is answered by the state: a sheet that is done is, in whatever way, and one of questions that asks for no history. A sheet that is tried or drafted is left out: the advice of a trial, and why there is no draft, are told by no definition.
abbrev pub IsPostedOfState : Posted → Text → Type 0
IsPostedOfState post.Questions body = AsksNoHistory body
IsPostedOfState (post.Trial kind) body = ⊥
IsPostedOfState (post.Draft kind) body = ⊥
IsPostedOfState (post.Sheet kind) body = ⊤

-- whether a request asks for anything but what is gone and what became of an asset, which are listed by the rows of the ledgers: it may be refused, and post any sheet but one that is tried, what one is drafted by, and one of questions that asks for a history
abbrev pub IsOfState : Asked → Type 0
IsOfState (query path.Gone format argument) = ⊥
IsOfState (query path.History format argument) = ⊥
IsOfState (posted resource way body) = IsPostedOfState (posted_at resource) body
IsOfState _ = ⊤

-- whether a request asks, and changes nothing: it may be refused, and ask for anything, but post no sheet other than of questions. A sheet that is tried or drafted changes nothing either, but is left out for the same.
abbrev pub OnlyAsks : Asked → Type 0
OnlyAsks (posted resource way body) = posted_at resource ≡ post.Questions
OnlyAsks _ = ⊤

-- The bytes of a request ask for one thing, and this passes.
pub record AsksOneThing (Passes : Asked → Type 0) (input : Text) : Type 0 where
  pub asked : Asked
  pub one : (other : Asked) → Asks input other → other ≡ asked
  pub passes : Passes asked

-- ---- of calls

-- a sheet, a survey, or a request for anything but what is gone, histories, trials and drafts
abbrev pub IsCallOfState : Call → Type 0
IsCallOfState (call.Edits bytes) = ⊤
IsCallOfState (call.Survey bytes) = ⊤
IsCallOfState (call.Request bytes) = AsksOneThing IsOfState bytes.items

abbrev pub AreOfState : List Call → Type 0
AreOfState [] = ⊤
AreOfState (next ∷ calls) = IsCallOfState next × AreOfState calls

-- desks of sound inventories, of the same state and limits, whatever their keepers
pub record StandAlike {K J : Type 0} (d : DeskView K) (e : DeskView J) : Type 0 where
  pub sound : IsSound d.image
  pub also : IsSound e.image
  pub state : state_of d.image ≡ state_of e.image
  pub limits : d.limits ≡ e.limits

-- A list of such calls writes the same at any two desks of the same state, and leaves them in the same state.
abbrev pub CallsEndAlike : {K J : Type 0} → (K → Result Image Table → Type 0) → (J → Result Image Table → Type 0) → Type 0
CallsEndAlike {K} {J} holds has = (calls : List Call) (texts others : List Text) (old new : DeskView K) (before after : DeskView J)
    → AreOfState calls → StandAlike old before → DidAll holds calls texts old new → DidAll has calls others before after → (texts ≡ others) × StandAlike new after

-- ---- of questions

-- a request that asks, and changes nothing
abbrev pub IsQuestion : Call → Type 0
IsQuestion (call.Edits bytes) = ⊥
IsQuestion (call.Survey bytes) = ⊥
IsQuestion (call.Request bytes) = AsksOneThing OnlyAsks bytes.items

abbrev pub AreQuestions : List Call → Type 0
AreQuestions [] = ⊤
AreQuestions (next ∷ calls) = IsQuestion next × AreQuestions calls

-- A list of questions is answered the same at any two desks of the same image, and leaves both as they are.
abbrev pub QuestionsEndAlike : {K J : Type 0} → (K → Result Image Table → Type 0) → (J → Result Image Table → Type 0) → Type 0
QuestionsEndAlike {K} {J} holds has = (calls : List Call) (texts others : List Text) (old new : DeskView K) (before after : DeskView J)
    → AreQuestions calls → old.image ≡ before.image → DidAll holds calls texts old new → DidAll has calls others before after → (texts ≡ others) × (new ≡ old) × (after ≡ before)
