-- A list of calls, of edit sheets, surveys and requests, mixed: what each reads, writes and leaves of a desk, and which commands it gives.
use Rattle.std.specs.Prelude.{◌≡◌, ◌⊎◌, Bool, true, false, List, [], ◌∷◌, ◌++◌, length, Some, Result, Ok, Err}
use Rattle.lrs_machine.specs.Image.{state_of}
use Rattle.lrs_machine.specs.Lines.{Text}
use Rattle.lrs_machine.specs.Machine.{Record, state_after}
use Rattle.lrs_machine.specs.Sound.{IsSound}
use Rattle.lrs_machine.specs.State.{State}
use Rattle.lrs_machine.specs.declared.answer.Limits.{Limits}
use Rattle.lrs_machine.specs.declared.image.Image.{Image}
use Rattle.lrs_machine.specs.declared.table.Table.{Table}
use Rattle.lrs_desk.specs.DeskView.{DeskView}
use Rattle.lrs_sheet_records.specs.Kinds.{IsHeader, width_of}
use Rattle.lrs_sheet_records.specs.declared.sheet.Sheet.{Sheet}
use Rattle.lrs_sheet_records.specs.declared.sheet.Sheet.TheVariants as sheet
use Rattle.lrs_sheet.specs.Laws.{Say}
use Rattle.lrs_sheet.specs.Repetition.{HasKeysOnce, IsRepeated}
use Rattle.lrs_sheet.specs.Resumption.{IsDecidedBy}
use Rattle.lrs_sheet_records.specs.Rows.{AreAll, BeginsWith}
use Rattle.lrs_sheet.specs.Sheets.{LeavesDesk, Runs}
use Rattle.lrs_sheet_records.specs.declared.fault.SheetFault.{SheetFault}
use Rattle.lrs_sheet_records.specs.declared.fault.SheetFault.TheVariants as fault
use Rattle.lrs_sheet.specs.declared.repetition.RepeatedKey.{RepeatedKey}
use Rattle.lrs_sheet.specs.declared.reply.Tally.{Tally}
use Rattle.lrs_sheet.specs.declared.resumption.Decided.{Decided}
use Rattle.lrs_web_requests.specs.Request.{Asked, Asks, refused, not_allowed, page, query, sheet as posted}
use Rattle.lrs_web_requests.specs.Text.{Answer, answer_text}
use Rattle.lrs_web_requests.specs.declared.request.Course.{Course}
use Rattle.lrs_web_requests.specs.declared.request.Course.TheVariants as course
use Rattle.lrs_web.specs.RequestAnswers.{Does, posted_at}
use Rattle.lrs_web.specs.Sheets.{IsAccepted, WasTried}
use Rattle.lrs_web.specs.declared.request.Posted.{Posted}
use Rattle.lrs_web.specs.declared.request.Posted.TheVariants as post
use Rattle.lrs_promises.specs.declared.calls.Call.{Call}
use Rattle.lrs_promises.specs.declared.calls.Call.TheVariants as call

-- ---- what a call does, where it ends neither in a fault nor with a 503

-- a sheet was done as far as it is one: to its end, or to a header or a record that is none of it
abbrev pub is_decided : {T : Type 0} → Result T SheetFault → Bool
is_decided (Ok counted) = true
is_decided (Err fault.BadHeader) = true
is_decided (Err fault.BadCsv) = true
is_decided _ = false

-- What was written is the reply to the bytes of a sheet, and the desk goes along with its keeper.
pub record DidSheet {K : Type 0} (holds : K → Result Image Table → Type 0) (sheet : Sheet) (input written : Text) (old new : DeskView K) : Type 0 where
  pub ended : Result Tally SheetFault
  pub decided : is_decided ended ≡ true
  pub replied : Runs sheet 1 old.limits input (state_of old.image) (state_of new.image) (Some []) (Some written) ended
  pub desk : LeavesDesk holds old new ended

-- What was written is the answer to what the bytes of a request ask for.
pub record DidRequest {K : Type 0} (holds : K → Result Image Table → Type 0) (input written : Text) (old new : DeskView K) : Type 0 where
  pub asked : Asked
  pub answer : Answer
  pub asks : Asks input asked
  pub does : Does holds asked old answer new
  pub served : answer.status ≡ 503 → ⊥
  pub replied : written ≡ answer_text answer

-- What a call wrote, from the bytes that it read, and what it left of the desk.
abbrev pub Did : {K : Type 0} → (K → Result Image Table → Type 0) → Call → Text → DeskView K → DeskView K → Type 0
Did holds (call.Edits bytes) = DidSheet holds sheet.Edits bytes.items
Did holds (call.Survey bytes) = DidSheet holds sheet.Survey bytes.items
Did holds (call.Request bytes) = DidRequest holds bytes.items

-- These calls were done one after another, and wrote these texts; the inventory is sound after each.
abbrev pub DidAll : {K : Type 0} → (K → Result Image Table → Type 0) → List Call → List Text → DeskView K → DeskView K → Type 0
DidAll holds [] [] old new = new ≡ old
DidAll {K} holds (next ∷ calls) (text ∷ texts) old new = (mid : DeskView K) × Did holds next text old mid × IsSound mid.image × DidAll holds calls texts mid new
DidAll holds [] (text ∷ texts) old new = ⊥
DidAll holds (next ∷ calls) [] old new = ⊥

-- ---- which commands a call gives

-- The records of a sheet under its header, behind these first ones: all, or those before the first that has not as many fields. There are none in an empty sheet, and under another header.
abbrev pub HasRecords : List (List Text) → Sheet → Text → List (List Text) → Type 0
HasRecords passed sheet input records =
    ((records ≡ []) × (AreAll input [] ⊎ ((header : List Text) × BeginsWith input (header ∷ []) × (IsHeader sheet header → ⊥))))
    ⊎ ((header : List Text) × IsHeader sheet header
    × (AreAll input (header ∷ (passed ++ records)) ⊎ ((fields : List Text) × BeginsWith input (header ∷ ((passed ++ records) ++ fields ∷ [])) × (length fields ≡ width_of sheet → ⊥))))

-- Behind these first records a sheet gives the commands that its well-formed records say.
abbrev pub GivesBehind : List (List Text) → Sheet → Text → List Record → Type 0
GivesBehind passed sheet input commands = (records : List (List Text)) × HasRecords passed sheet input records × Say sheet records commands

-- A sheet that goes on gives those behind its last record that is an edit; one in which a key stands twice gives none.
abbrev pub GivesRest : Sheet → Text → State → List Record → Type 0
GivesRest sheet input s commands =
    (HasKeysOnce sheet input × (d : Decided) × (passed : List (List Text)) × IsDecidedBy sheet s input d passed × GivesBehind passed sheet input commands)
    ⊎ (((twice : RepeatedKey) × IsRepeated sheet input twice) × (commands ≡ []))

-- A sheet that is done as a whole or not at all gives its commands where its trial refused nothing, and else none.
abbrev pub GivesAllOrNone : Sheet → Text → State → List Record → Type 0
GivesAllOrNone sheet input s commands =
    (replies : Text) × (outcome : Result Tally SheetFault) × WasTried sheet input s replies outcome
    × ((IsAccepted outcome × GivesBehind [] sheet input commands) ⊎ ((IsAccepted outcome → ⊥) × (commands ≡ [])))

-- By its way a sheet that is done gives its commands.
abbrev pub GivesSheet : Sheet → Course → Text → State → List Record → Type 0
GivesSheet sheet course.EachRecord input s commands = GivesBehind [] sheet input commands
GivesSheet sheet course.BehindLast input s commands = GivesRest sheet input s commands
GivesSheet sheet course.AllOrNone input s commands = GivesAllOrNone sheet input s commands

-- What is posted gives the commands of a sheet that is done; questions give none, nor does a sheet that is tried or drafted.
abbrev pub GivesPosted : Posted → Course → Text → State → List Record → Type 0
GivesPosted post.Questions way body s commands = commands ≡ []
GivesPosted (post.Trial kind) way body s commands = commands ≡ []
GivesPosted (post.Draft kind) way body s commands = commands ≡ []
GivesPosted (post.Sheet kind) way body s commands = GivesSheet kind way body s commands

-- A request gives the commands of what it posts, and any other one gives none.
abbrev pub GivesAsked : Asked → State → List Record → Type 0
GivesAsked (refused status) s commands = commands ≡ []
GivesAsked (not_allowed verb) s commands = commands ≡ []
GivesAsked (page text) s commands = commands ≡ []
GivesAsked (query resource format argument) s commands = commands ≡ []
GivesAsked (posted resource way body) s commands = GivesPosted (posted_at resource) way body s commands

-- The commands that a call gives, in a state.
abbrev pub Gives : Call → State → List Record → Type 0
Gives (call.Edits bytes) s commands = GivesBehind [] sheet.Edits bytes.items commands
Gives (call.Survey bytes) s commands = GivesBehind [] sheet.Survey bytes.items commands
Gives (call.Request bytes) s commands = (asked : Asked) × Asks bytes.items asked × GivesAsked asked s commands

-- The commands that a list of calls gives, each call in the state after those before it.
abbrev pub AllGive : Limits → State → List Call → List Record → Type 0
AllGive limits s [] commands = commands ≡ []
AllGive limits s (next ∷ calls) commands =
    (first : List Record) × (others : List Record) × (commands ≡ first ++ others) × Gives next s first × AllGive limits (state_after limits first s) calls others
