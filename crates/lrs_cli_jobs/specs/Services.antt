-- How the program names what ends a service, and what a service leaves.
use Rattle.std.specs.Prelude.{◌≡◌, ◌+◌, ℕ, true, false, Option, Result, Err}
use Rattle.std.specs.Io.KnownBytes.{Appends}
use Rattle.lrs_machine.specs.Lines.{Text}
use Rattle.lrs_machine.specs.declared.image.Image.{Image}
use Rattle.lrs_machine.specs.declared.table.Table.{Table}
use Rattle.lrs_desk.specs.DeskView.{DeskView}
use Rattle.lrs_web_server.specs.Announcements.{HasSaid, listening_line}
use Rattle.lrs_web_server.specs.Visits.{HasVisited}
use Rattle.lrs_web_server.specs.declared.service.ServiceFault.{ServiceFault}
use Rattle.lrs_web_server.specs.declared.service.ServiceFault.TheVariants as ended
use Rattle.lrs_cli_tasks.specs.declared.endings.Ending.{Ending}
use Rattle.lrs_cli_tasks.specs.declared.endings.Ending.TheVariants.{Done, Stopped}
use Rattle.lrs_cli_tasks.specs.declared.fault.ProgramFault.{ProgramFault}
use Rattle.lrs_cli_tasks.specs.declared.fault.ProgramFault.TheVariants.{Door, Keep, Write}
use Rattle.lrs_cli_words.specs.declared.question.Service.{Service}

-- what it is for the program that a service ended before its last connection
abbrev pub fault_of_service : ServiceFault → ProgramFault
fault_of_service ended.Port = Door
fault_of_service ended.Door = Door
fault_of_service ended.Write = Write
fault_of_service ended.Desk = Keep

module _ {K : Type 0} (holds : K → Result Image Table → Type 0) where
  -- As many connections as were wanted are served, in full or cut off; where a failed commit is to end the service, none failed.
  pub record HasServed (service : Service) (before after : DeskView K) : Type 0 where
    pub full : ℕ
    pub cut : ℕ
    pub count : full + cut ≡ service.max
    pub visited : HasVisited holds full cut before after
    pub unfailed : service.ends_on_fault ≡ true → after.must_reopen ≡ false

  -- A fault ended the service, and some are served. A desk that has to be opened anew is one only where that is to end it.
  pub record IsEnded (service : Service) (why : ServiceFault) (before after : DeskView K) : Type 0 where
    pub full : ℕ
    pub cut : ℕ
    pub visited : HasVisited holds full cut before after
    pub failed : why ≡ ended.Desk → after.must_reopen ≡ true
    pub asked : service.ends_on_fault ≡ false → why ≡ ended.Desk → ⊥

  -- A service ends as it served, and has said that it listens; or by a fault, and has said what it says then.
  abbrev pub EndsService : Service → DeskView K → DeskView K → Option Text → Option Text → Ending → Type 0
  EndsService service before after old new Done = HasServed service before after × Appends old new (listening_line service.port)
  EndsService service before after old new (Stopped fault) = (why : ServiceFault) × (fault ≡ fault_of_service why) × IsEnded service why before after × HasSaid service.port (Err why) old new
  EndsService service before after old new other = ⊥
