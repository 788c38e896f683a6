-- A sheet that was tidied, and one whose bytes were read.
use Rattle.std.proofs.Common.{◌≡◌, Option, Some, Result, Ok, Err, IfOk, IfSome, refl}
use Rattle.std.specs.Io.KnownBytes.{Appends}
use Rattle.lrs_machine.specs.Lines.{Text}
use Rattle.lrs_sheet_records.specs.declared.sheet.Sheet.{Sheet}
use Rattle.lrs_sheet_advice.specs.TidySheets.{IsTidied, IsUntidy}
use Rattle.lrs_cli_tasks.specs.declared.endings.Ending.{Ending}
use Rattle.lrs_cli_tasks.specs.declared.endings.Ending.TheVariants.{Done, RecordsRefused, QuestionRefused, Differs, NotConfirmed, NotDrafted, Unreadable, Misused, Stopped}
use Rattle.lrs_cli_tasks.specs.declared.fault.ProgramFault.{ProgramFault}
use Rattle.lrs_cli_sheets.specs.Tidyings.{EndsTidy, HasNotTidied, HasTidied}
use Rattle.lrs_cli_sheets.proofs.Trying.{is_known}

pub has_tidied : (kind : Sheet) (bytes tidied : Text) (old new : Option Text) → IsTidied kind bytes tidied → Appends old new tidied → HasTidied kind (Some bytes) old new
has_tidied kind bytes tidied old new is written = record { text = bytes; is_text = refl; tidied = tidied; is_tidied = is; written = written }

pub has_not_tidied : (kind : Sheet) (bytes : Text) (old : Option Text) → IsUntidy kind bytes → HasNotTidied kind (Some bytes) old old
has_not_tidied kind bytes old untidy = record { text = bytes; is_text = refl; untidy = untidy; unwritten = refl }

module _ (kind : Sheet) (read : Text) (known : Option Text) (is : IfSome known (λ t. read ≡ t)) (old : Option Text) where
  as_known : (new : Option Text) (ending : Ending) → EndsTidy kind (Some read) old new ending → EndsTidy kind known old new ending
  as_known new Done h = record { text = h.text; is_text = is_known h.text read known is h.is_text; tidied = h.tidied; is_tidied = h.is_tidied; written = h.written }
  as_known new RecordsRefused h = record { text = h.text; is_text = is_known h.text read known is h.is_text; untidy = h.untidy; unwritten = h.unwritten }
  as_known new (Stopped fault) h = h
  as_known new (QuestionRefused cause) h = absurd h
  as_known new (Differs table) h = absurd h
  as_known new NotConfirmed h = absurd h
  as_known new NotDrafted h = absurd h
  as_known new (Unreadable word) h = absurd h
  as_known new Misused h = absurd h

  -- bytes that were read are tidied as the file of their name
  pub tidied_as_named : {W : Type 0} (contents : W → Option Text) (result : Result (W × Ending) ProgramFault) → IfOk result (λ done. EndsTidy kind (Some read) old (contents done.0) done.1)
      → IfOk result (λ done. EndsTidy kind known old (contents done.0) done.1)
  tidied_as_named contents (Ok done) ends = as_known (contents done.0) done.1 ends
  tidied_as_named contents (Err fault) ends = tt
