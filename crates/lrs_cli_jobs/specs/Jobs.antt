-- What is done with an inventory, what is written, and how the program ends.
use Rattle.std.specs.Prelude.{◌≡◌, ◌⊎◌, ⊤, codes, Option, Some, None, Result, Ok, Err}
use Rattle.lrs_machine.specs.Lines.{Text}
use Rattle.lrs_machine.specs.declared.image.Image.{Image}
use Rattle.lrs_machine.specs.declared.table.Table.{Table}
use Rattle.lrs_machine.specs.Image.{nothing, state_of}
use Rattle.lrs_image.specs.KeeperCalls.{HoldsOnly}
use Rattle.lrs_desk.specs.DeskView.{DeskView}
use Rattle.lrs_desk.specs.declared.desk.OpenFault.{OpenFault}
use Rattle.lrs_sheet_records.specs.declared.sheet.Sheet.{Sheet}
use Rattle.lrs_sheet_log.specs.Sums.{identity_of}
use Rattle.lrs_cli_words.specs.declared.comparison.Source.{Source}
use Rattle.lrs_cli_words.specs.declared.comparison.Source.TheVariants as source
use Rattle.lrs_cli_words.specs.declared.job.Job.{Job}
use Rattle.lrs_cli_words.specs.declared.question.QuestionFault.{QuestionFault}
use Rattle.lrs_cli_words.specs.declared.question.QuestionFault.TheVariants as unread
use Rattle.lrs_cli_tasks.specs.Questions.{HasAnswered}
use Rattle.lrs_cli_tasks.specs.Sums.{EndsSum}
use Rattle.lrs_cli_sheets.specs.Sheets.{IsUnwritten}
use Rattle.lrs_cli_sheets.specs.QuestionSheets.{EndsQuestions}
use Rattle.lrs_cli_sheets.specs.Trials.{EndsCheck, EndsConfirmed, IsAfterCommands}
use Rattle.lrs_cli_sheets.specs.Differences.{EndsDifference, EndsSince, HasNoInventory, IsMadeByLog}
use Rattle.lrs_cli_sheets.specs.Drafts.{EndsDraft}
use Rattle.lrs_cli_sheets.specs.Audits.{EndsAudit}
use Rattle.lrs_cli_sheets.specs.Tidyings.{EndsTidy}
use Rattle.lrs_cli_tasks.specs.Faults.{fault_of_open}
use Rattle.lrs_cli_tasks.specs.Tasks.{IsTaskOf, IsUnread}
use Rattle.lrs_cli_tasks.specs.declared.endings.Ending.{Ending}
use Rattle.lrs_cli_tasks.specs.declared.endings.Ending.TheVariants.{Done, Stopped, Unreadable}
use Rattle.lrs_cli_tasks.specs.declared.fault.ProgramFault.{ProgramFault}
use Rattle.lrs_cli_tasks.specs.declared.fault.ProgramFault.TheVariants.{Memory, OtherInventory, Write}
use Rattle.lrs_cli_tasks.specs.declared.task.Task.{Task}
use Rattle.lrs_cli_tasks.specs.declared.task.Task.TheVariants as task
use Rattle.lrs_cli_tasks.specs.declared.task.Work.{Work}
use Rattle.lrs_cli_tasks.specs.declared.task.Work.TheVariants as work
use Rattle.lrs_cli_jobs.specs.Services.{EndsService}

-- What a job gives: what its writer has and how the program ends; or a fault, where not all was written, or there was no memory for it.
abbrev pub Printed : Type 0
Printed = Result (Option Text × Ending) ProgramFault

-- what a job gives that gives its writer back
abbrev pub printed : {W : Type 0} → (W → Option Text) → Result (W × Ending) ProgramFault → Printed
printed contents (Ok done) = Ok (contents done.0, done.1)
printed contents (Err fault) = Err fault

-- not all was written, or there was no memory for it
abbrev pub IsUnprinted : ProgramFault → Type 0
IsUnprinted fault = (fault ≡ Memory) ⊎ (fault ≡ Write)

-- the program ends so, and nothing is written
abbrev pub EndsSilent : Option Text → Printed → Ending → Type 0
EndsSilent old given ending = given ≡ Ok (old, ending)

-- the identity of an inventory
abbrev pub identity_at : Image → Option Text
identity_at i = identity_of (state_of i).done

-- an inventory of this identity is expected, or any is
abbrev pub IsExpected : Option Text → Option Text → Type 0
IsExpected None found = ⊤
IsExpected (Some identity) found = found ≡ Some identity

module _ {K : Type 0} (holds : K → Result Image Table → Type 0) (text_of : Text → Option Text) where
  -- a sheet was done at the desk, or as a whole or not at all; or a question, a sheet of them, a sum, a check, a difference, a draft or an audit was answered, which leaves the desk as it was; or it was served
  abbrev pub HasWorked : Work → DeskView K → DeskView K → Option Text → Printed → Type 0
  HasWorked (work.Sheet kind from resumes all whole asks) before after old (Ok done) =
      EndsConfirmed holds (text_of (codes "stdin")) asks kind resumes all whole (text_of from.now) before after old done.0 done.1 × IsAfterCommands before.limits (state_of before.image) (state_of after.image)
  HasWorked (work.Sheet kind from resumes all whole asks) before after old (Err fault) =
      IsUnwritten holds before after fault × IsAfterCommands before.limits (state_of before.image) (state_of after.image)
  HasWorked (work.Check kind from differs) before after old (Ok done) = (after ≡ before) × EndsCheck kind differs (text_of from.now) before.image old done.0 done.1
  HasWorked (work.Check kind from differs) before after old (Err fault) = (after ≡ before) × (fault ≡ Write)
  HasWorked (work.Since edit) before after old (Ok done) = (after ≡ before) × EndsSince edit before.image old done.0 done.1
  HasWorked (work.Since edit) before after old (Err fault) = (after ≡ before) × (fault ≡ Write)
  HasWorked (work.Draft words) before after old (Ok done) = (after ≡ before) × EndsDraft before.image words old done.0 done.1
  HasWorked (work.Draft words) before after old (Err fault) = (after ≡ before) × (fault ≡ Write)
  HasWorked work.Audit before after old (Ok done) = (after ≡ before) × EndsAudit before.image old done.0 done.1
  HasWorked work.Audit before after old (Err fault) = (after ≡ before) × (fault ≡ Write)
  HasWorked (work.Sum up_to) before after old (Ok done) = (after ≡ before) × EndsSum before.image up_to old done.0 done.1
  HasWorked (work.Sum up_to) before after old (Err fault) = (after ≡ before) × IsUnprinted fault
  HasWorked (work.Question question form) before after old (Ok done) = (after ≡ before) × HasAnswered before.image question form old done.0 done.1
  HasWorked (work.Question question form) before after old (Err fault) = (after ≡ before) × IsUnprinted fault
  HasWorked (work.Questions from) before after old (Ok done) = (after ≡ before) × EndsQuestions before.image (text_of from.now) old done.0 done.1
  HasWorked (work.Questions from) before after old (Err fault) = (after ≡ before) × IsUnprinted fault
  HasWorked (work.Service service) before after old (Ok done) = EndsService holds service before after old done.0 done.1
  HasWorked (work.Service service) before after old (Err fault) = (after ≡ before) × (fault ≡ Write)

  -- Work was done at a desk whose inventory is expected. Of another one nothing was done, nothing is written, and the program stops.
  abbrev pub HasWorkedAt : Option Text → Work → DeskView K → DeskView K → Option Text → Printed → Type 0
  HasWorkedAt expected w before after old given =
      (IsExpected expected (identity_at before.image) × HasWorked w before after old given)
      ⊎ ((IsExpected expected (identity_at before.image) → ⊥) × (after ≡ before) × EndsSilent old given (Stopped (OtherInventory (identity_at before.image))))

  -- Work was done at a desk that begins so.
  pub record HasWorkedFrom (expected : Option Text) (Begins : DeskView K → Type 0) (w : Work) (old : Option Text) (given : Printed) : Type 0 where
    pub before : DeskView K
    pub after : DeskView K
    pub begins : Begins before
    pub worked : HasWorkedAt expected w before after old given

-- an empty inventory
abbrev pub IsFresh : {K : Type 0} → DeskView K → Type 0
IsFresh desk = desk.image ≡ nothing

-- the desk acts on what its keeper may hold, and on nothing else
abbrev pub ActsOnKept : {K : Type 0} → (K → Result Image Table → Type 0) → DeskView K → Type 0
ActsOnKept holds desk = HoldsOnly (holds desk.keeper) desk.image

-- and the keeper may hold what was found in the file at the path, and nothing else
abbrev pub ActsOnFound : {K : Type 0} → (K → Result Image Table → Type 0) → (Result Image Table → Type 0) → DeskView K → Type 0
ActsOnFound holds was_found desk = ActsOnKept holds desk × ((c : Result Image Table) → holds desk.keeper c → was_found c)

-- what may be found was kept at the desk
abbrev pub FindsKept : {K : Type 0} → (K → Result Image Table → Type 0) → DeskView K → (Result Image Table → Type 0) → Type 0
FindsKept holds desk finds = (c : Result Image Table) → finds c → holds desk.keeper c

-- nothing was opened, for a fault of an opening
abbrev pub IsNotOpened : Option Text → Printed → Type 0
IsNotOpened old given = (why : OpenFault) × EndsSilent old given (Stopped (fault_of_open why))

-- a question, or a sheet of them, or the sum of the log, or a sheet that is only tried, a difference or a draft
abbrev pub Looks : Work → Type 0
Looks (work.Sum up_to) = ⊤
Looks (work.Question question form) = ⊤
Looks (work.Questions from) = ⊤
Looks (work.Check kind from differs) = ⊤
Looks (work.Since edit) = ⊤
Looks (work.Draft words) = ⊤
Looks w = ⊥

-- a sheet that is only tried
abbrev pub Tries : Work → Type 0
Tries (work.Check kind from differs) = ⊤
Tries w = ⊥

-- the page was written, or there was no memory for it, or it was not written
abbrev pub EndsPage : Option Text → Printed → Type 0
EndsPage old given = EndsSilent old given Done ⊎ EndsSilent old given (Stopped Memory) ⊎ EndsSilent old given (Stopped Write)

-- a sheet was tidied, or it could not be; or not all of it was written
abbrev pub EndsTidied : Sheet → Option Text → Option Text → Printed → Type 0
EndsTidied kind known old (Ok done) = EndsTidy kind known old done.0 done.1
EndsTidied kind known old (Err fault) = fault ≡ Write

-- how the program ends where its words cannot be read
abbrev pub ending_of_words : QuestionFault → Ending
ending_of_words (unread.Unreadable word) = Unreadable word
ending_of_words unread.Memory = Stopped Memory

module _ (text_of : Text → Option Text) (expected : Option Text) where
  -- in memory: work was done from an empty inventory, or there was no memory for one
  abbrev pub EndsInMemory : {M : Type 0} → (M → Result Image Table → Type 0) → Work → Option Text → Printed → Type 0
  EndsInMemory memory w old given = EndsSilent old given (Stopped Memory) ⊎ HasWorkedFrom memory text_of expected IsFresh w old given

  -- in a file and its log: work was done on what they hold, and an opening of them as they are closed finds what the desk kept, and nothing else; or nothing was opened
  abbrev pub EndsWithLog : {F : Type 0} → (F → Result Image Table → Type 0) → (Result Image Table → Type 0) → (Result Image Table → Type 0) → Work → Option Text → Printed → Type 0
  EndsWithLog file has_opened finds w old given =
      IsNotOpened old given ⊎ ((it : HasWorkedFrom file text_of expected (ActsOnFound file has_opened) w old given) × FindsKept file it.after finds)

-- a desk acts on this image, which was found
abbrev pub IsActedOn : {K : Type 0} → (K → Result Image Table → Type 0) → (Result Image Table → Type 0) → Image → Type 0
IsActedOn {K} holds was_found i = (desk : DeskView K) × ActsOnFound holds was_found desk × (i ≡ desk.image)

module _ {F Q : Type 0} (file : F → Result Image Table → Type 0) (looked : Q → Result Image Table → Type 0) (has_opened has_read : Result Image Table → Type 0) (text_of : Text → Option Text) where
  -- the inventory of a source: an empty one in memory; or what was found in the file at the path, looked at or opened; or what a log makes
  abbrev pub IsSourceOf : Source → Image → Type 0
  IsSourceOf (source.Inventory db) i =
      ((db.now ≡ codes ":memory:") × (i ≡ nothing)) ⊎ ((db.now ≡ codes ":memory:" → ⊥) × (IsActedOn looked has_read i ⊎ IsActedOn file has_opened i))
  IsSourceOf (source.Log from) i = IsMadeByLog (text_of from.now) i

-- The two inventories are such, the first is expected, and their difference is told; or one of them is not had, and nothing is written; or not all was written.
abbrev pub EndsCompared : (Image → Type 0) → (Image → Type 0) → Option Text → Option Text → Printed → Type 0
EndsCompared IsOne IsOther expected old given =
    ((before : Image) × (after : Image) × IsOne before × IsOther after × IsExpected expected (identity_at before)
    × (new : Option Text) × (ending : Ending) × (given ≡ Ok (new, ending)) × EndsDifference before after old new ending)
    ⊎ ((ending : Ending) × HasNoInventory ending × EndsSilent old given ending)
    ⊎ (given ≡ Err Write)

module _ {M F Q : Type 0} (memory : M → Result Image Table → Type 0) (file : F → Result Image Table → Type 0) (looked : Q → Result Image Table → Type 0) (has_opened has_read finds : Result Image Table → Type 0) (text_of : Text → Option Text) (expected : Option Text) where
  -- in a file: work was done on what it holds; or what only looks was answered of what it held, or a sheet was tried in an empty inventory; or nothing was opened
  abbrev pub EndsInFile : Work → Option Text → Printed → Type 0
  EndsInFile w old given =
      EndsWithLog text_of expected file has_opened finds w old given
      ⊎ (Looks w × HasWorkedFrom looked text_of expected (ActsOnFound looked has_read) w old given)
      ⊎ (Tries w × EndsInMemory text_of expected memory w old given)

module _ {M F Q G P : Type 0} (memory : M → Result Image Table → Type 0) (file : F → Result Image Table → Type 0) (looked : Q → Result Image Table → Type 0) (has_opened has_read finds : Result Image Table → Type 0) (other : G → Result Image Table → Type 0) (seen : P → Result Image Table → Type 0) (other_opened other_read : Result Image Table → Type 0) (text_of : Text → Option Text) (expected : Option Text) where
  -- `:memory:` is an inventory in memory, and every other name that of a file
  abbrev pub EndsTask : Task → Option Text → Printed → Type 0
  EndsTask (task.Page dir) old given = EndsPage old given
  EndsTask (task.Tidy kind from) old given = EndsTidied kind (text_of from.now) old given
  EndsTask (task.Difference before after) old given =
      EndsCompared (IsSourceOf file looked has_opened has_read text_of before) (IsSourceOf other seen other_opened other_read text_of after) expected old given
  EndsTask (task.Inventory db w) old given =
      ((db.now ≡ codes ":memory:") × EndsInMemory text_of expected memory w old given)
      ⊎ ((db.now ≡ codes ":memory:" → ⊥) × EndsInFile memory file looked has_opened has_read finds text_of expected w old given)

  -- the task of the job was done, or its words cannot be read
  abbrev pub EndsJob : Job → Option Text → Printed → Type 0
  EndsJob job old given =
      ((t : Task) × IsTaskOf job t × EndsTask t old given)
      ⊎ ((fault : QuestionFault) × IsUnread job fault × EndsSilent old given (ending_of_words fault))
