-- A sheet that is drafted, and how the program ends with it.
use Rattle.std.specs.Prelude.{◌≡◌, Option, map, option_map}
use Rattle.std.specs.Io.KnownBytes.{Appends}
use Rattle.lrs_machine.specs.Lines.{Text}
use Rattle.lrs_machine.specs.declared.image.Image.{Image}
use Rattle.lrs_cli_words.specs.declared.question.BadWord.TheVariants as word
use Rattle.lrs_cli_tasks.specs.declared.endings.Ending.{Ending}
use Rattle.lrs_cli_tasks.specs.declared.endings.Ending.TheVariants.{Done, NotDrafted, Stopped, Unreadable}
use Rattle.lrs_cli_tasks.specs.declared.fault.ProgramFault.TheVariants.{Memory}
use Rattle.lrs_cli_tasks.specs.declared.task.DraftWords.{DraftWords}
use Rattle.lrs_drafts.specs.declared.draft.Draft.{Draft}
use Rattle.lrs_drafts.specs.Drafts.{IsDraft}
use Rattle.lrs_drafts.specs.Words.{SaysDraft}

-- The words say a draft
abbrev pub IsDraftOf : DraftWords → Draft → Type 0
IsDraftOf words draft = SaysDraft words.what.now (map (λ w. w.now) words.words.now) (option_map (λ w. w.now) words.number) draft

-- A sheet is written that does what the words say, as far as it was done on a copy; or nothing is written.
abbrev pub EndsDraft : Image → DraftWords → Option Text → Option Text → Ending → Type 0
EndsDraft i words old new Done = (draft : Draft) × (sheet : Text) × IsDraftOf words draft × IsDraft draft i sheet × Appends old new sheet
EndsDraft i words old new NotDrafted = new ≡ old
EndsDraft i words old new (Unreadable bad) = (bad ≡ word.Draft) × (new ≡ old)
EndsDraft i words old new (Stopped fault) = (fault ≡ Memory) × (new ≡ old)
EndsDraft i words old new other = ⊥
