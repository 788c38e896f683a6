-- An answer that was made in memory, and is written in a form.
use Rattle.std.proofs.Common.{◌≡◌, ◌∙◌, ◌++◌, ℕ, Bool, true, false, List, [], Option, Some, None, Ok, Err, refl, sym, ap, subst}
use Rattle.std.specs.Io.KnownBytes.{Appends}
use Rattle.lrs_machine.specs.declared.image.Image.{Image}
use Rattle.lrs_machine.specs.declared.question.Question.{Question}
use Rattle.lrs_report_answers.specs.declared.fault.AskFault.{AskFault}
use Rattle.lrs_report_answers.specs.declared.told.Told.{Told}
use Rattle.lrs_report_answers.specs.ToldAnswers.{IsTold}
use Rattle.lrs_cli_tasks.specs.Lines.{told_text}
use Rattle.lrs_cli_tasks.specs.Questions.{HasAnswered, ending_of, in_cells, output_in, picked_of}
use Rattle.lrs_cli_tasks.specs.declared.endings.Ending.{Ending}
use Rattle.lrs_cli_tasks.specs.declared.endings.Ending.TheVariants.{Done}
use Rattle.lrs_cli_tasks.specs.declared.task.ListForm.{ListForm}
use Rattle.lrs_cli_tasks.proofs.TextCells.{appends_none}

-- of nothing, in whatever form, nothing is left
nothing_in : (columns : Option (List ℕ)) (as_text : Bool) → in_cells as_text (picked_of columns []) ≡ []
nothing_in None false = refl
nothing_in None true = refl
nothing_in (Some places) false = refl
nothing_in (Some places) true = refl

module _ (i : Image) (q : Question) (form : ListForm) (old : Option (List ℕ)) where
  -- what was told is all that stands in memory, and was written in the form
  pub told_in_form : (told : Told) (first bytes : List ℕ) (new : Option (List ℕ)) → IsTold i q (Ok told) → first ≡ [] → Appends (Some first) (Some bytes) (told_text told)
      → Appends old new (output_in form bytes) → HasAnswered i q form old new Done
  told_in_form told first bytes new is_told none whole written = record {
    said = Ok told;
    is_told = is_told;
    written = subst (λ (t : List ℕ). Appends old new (output_in form t)) (whole ∙ ap (λ (t : List ℕ). t ++ told_text told) none) written;
    ends = refl;
  }

  -- where nothing was told, nothing is written
  pub refused_in_form : (fault : AskFault) (ending : Ending) → IsTold i q (Err fault) → ending ≡ ending_of (Err fault) → HasAnswered i q form old old ending
  refused_in_form fault ending is_told ends = record {
    said = Err fault;
    is_told = is_told;
    written = subst (Appends old old) (sym (nothing_in form.columns form.as_text)) (appends_none old);
    ends = ends;
  }
