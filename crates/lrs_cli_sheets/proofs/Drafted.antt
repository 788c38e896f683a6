-- A sheet that is not drafted.
use Rattle.std.proofs.Common.{◌≡◌, ◌⊎◌, Option, refl, subst, sym, inl, inr}
use Rattle.lrs_machine.specs.Lines.{Text}
use Rattle.lrs_machine.specs.declared.image.Image.{Image}
use Rattle.lrs_cli_words.specs.declared.question.BadWord.TheVariants as word
use Rattle.lrs_cli_tasks.specs.declared.endings.Ending.{Ending}
use Rattle.lrs_cli_tasks.specs.declared.endings.Ending.TheVariants.{NotDrafted, Stopped, Unreadable}
use Rattle.lrs_cli_tasks.specs.declared.fault.ProgramFault.TheVariants.{Memory}
use Rattle.lrs_cli_tasks.specs.declared.task.DraftWords.{DraftWords}
use Rattle.lrs_cli_sheets.specs.Drafts.{EndsDraft}

-- where nothing is written, the program ends as it does without a draft
pub undrafted : (i : Image) (words : DraftWords) (old : Option Text) (ending : Ending) → (ending ≡ NotDrafted) ⊎ ((ending ≡ Unreadable word.Draft) ⊎ (ending ≡ Stopped Memory)) → EndsDraft i words old old ending
undrafted i words old ending (inl is) = subst (λ (e : Ending). EndsDraft i words old old e) (sym is) refl
undrafted i words old ending (inr (inl is)) = subst (λ (e : Ending). EndsDraft i words old old e) (sym is) (refl, refl)
undrafted i words old ending (inr (inr is)) = subst (λ (e : Ending). EndsDraft i words old old e) (sym is) (refl, refl)
