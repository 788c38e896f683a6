-- The names of faults, as the program prints them.
use Rattle.std.specs.Prelude.{◌≡◌, List, ℕ, ◌++◌, codes, Result, Err}
use Rattle.lrs_machine.specs.declared.image.Image.{Image}
use Rattle.lrs_machine.specs.declared.table.Table.{Table}
use Rattle.lrs_machine.specs.declared.table.Table.TheVariants as table
use Rattle.lrs_image.specs.KeeperCalls.{HasRisen}
use Rattle.lrs_desk.specs.declared.desk.OpenFault.{OpenFault}
use Rattle.lrs_desk.specs.declared.desk.OpenFault.TheVariants as opened
use Rattle.lrs_machine.specs.declared.stops.fault.Fault.{Fault}
use Rattle.lrs_machine.specs.declared.stops.fault.Fault.TheVariants as desk
use Rattle.lrs_sheet_records.specs.declared.fault.SheetFault.{SheetFault}
use Rattle.lrs_sheet_records.specs.declared.fault.SheetFault.TheVariants as sheet
use Rattle.lrs_cli_tasks.specs.declared.fault.ProgramFault.{ProgramFault}
use Rattle.lrs_cli_tasks.specs.declared.fault.ProgramFault.TheVariants.{Open, OtherInventory, Unsound, Memory, Keep, MustReopen, Read, Write, BadHeader, BadCsv, RepeatedKey, CutOff, Door}

-- a table's name
abbrev pub table_text : Table → List ℕ
table_text table.Version = codes "version"
table_text table.Link = codes "link"
table_text table.Class = codes "class"
table_text table.Asset = codes "asset"
table_text table.Piece = codes "piece"
table_text table.Mark = codes "mark"
table_text table.Ref = codes "ref"
table_text table.Span = codes "span"
table_text table.Entered = codes "entered"
table_text table.Gone = codes "gone"
table_text table.Edit = codes "edit"
table_text table.Origin = codes "origin"

-- a fault's name, with the first unsound table of `Unsound`
abbrev pub fault_text : ProgramFault → List ℕ
fault_text Open = codes "Open"
fault_text (OtherInventory found) = codes "OtherInventory"
fault_text (Unsound t) = codes "Unsound:" ++ table_text t
fault_text Memory = codes "Memory"
fault_text Keep = codes "Keep"
fault_text MustReopen = codes "MustReopen"
fault_text Read = codes "Read"
fault_text Write = codes "Write"
fault_text BadHeader = codes "BadHeader"
fault_text BadCsv = codes "BadCsv"
fault_text RepeatedKey = codes "RepeatedKey"
fault_text CutOff = codes "CutOff"
fault_text Door = codes "Door"

-- what it is for the program that a desk is not opened
abbrev pub fault_of_open : OpenFault → ProgramFault
fault_of_open opened.Memory = Memory
fault_of_open opened.Keep = Open
fault_of_open (opened.Unsound t) = Unsound t

-- Why no desk is opened, by the keeper that is given back: its device failed once more, or what an opening may find there has this first unsound table. It holds what it held.
pub record HasNoDesk {K : Type 0} (failures : K → ℕ) (may_hold : K → Result Image Table → Type 0) (before back : K) (fault : ProgramFault) : Type 0 where
  pub why : OpenFault
  pub named : fault ≡ fault_of_open why
  pub device : why ≡ opened.Keep → HasRisen (failures before) (failures back)
  pub unsound : (t : Table) → why ≡ opened.Unsound t → (c : Result Image Table) → may_hold back c → c ≡ Err t
  pub held : (c : Result Image Table) → may_hold back c → may_hold before c

-- what a desk's fault is for the program
abbrev pub fault_of_desk : Fault → ProgramFault
fault_of_desk desk.Memory = Memory
fault_of_desk desk.Keep = Keep
fault_of_desk desk.MustReopen = MustReopen

-- what a sheet's fault is for the program
abbrev pub fault_of_sheet : SheetFault → ProgramFault
fault_of_sheet sheet.Read = Read
fault_of_sheet sheet.Write = Write
fault_of_sheet sheet.BadHeader = BadHeader
fault_of_sheet sheet.BadCsv = BadCsv
fault_of_sheet (sheet.Desk fault) = fault_of_desk fault
fault_of_sheet sheet.Memory = Memory
