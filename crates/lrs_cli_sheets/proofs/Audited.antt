-- What is compared with what a log makes.
use Rattle.std.proofs.Common.{◌≡◌, ◌⊎◌, List, ℕ, Option, Some, Result, Ok, Err, IfOk, IfSome, subst, inl, inr}
use Rattle.lrs_machine.specs.Sound.{IsSound}
use Rattle.lrs_machine.specs.declared.image.Image.{Image}
use Rattle.lrs_machine.specs.declared.table.Table.{Table}
use Rattle.lrs_sheet.specs.MadeLogs.{IsMadeBy}
use Rattle.lrs_sheet_log.specs.Differences.{IsFirstDifference}
use Rattle.lrs_cli_tasks.specs.declared.endings.Ending.{Ending}
use Rattle.lrs_cli_tasks.specs.declared.endings.Ending.TheVariants.{Stopped}
use Rattle.lrs_cli_tasks.specs.declared.fault.ProgramFault.{ProgramFault}
use Rattle.lrs_cli_tasks.specs.declared.fault.ProgramFault.TheVariants.{Memory, Read}
use Rattle.lrs_cli_sheets.proofs.Trying.{is_known}
use Rattle.lrs_cli_sheets.specs.Audits.{IsAudited, log_of}
use Rattle.lrs_cli_sheets.specs.Differences.{EndsDifference, EndsSince, HasNoInventory, IsMadeByLog, log_before}

-- an image is compared with what its log makes
pub compared : (i made left right : Image) (text : List ℕ) (differs : Option Table) → left ≡ i → right ≡ made → text ≡ log_of i → IsMadeBy text made
    → IsFirstDifference left right differs → IsAudited i differs
compared i made left right text differs same_left same_right same_log is first = record {
  made = made;
  is_made = subst (λ (t : List ℕ). IsMadeBy t made) same_log is;
  compared = subst (λ (x : Image). IsFirstDifference i x differs) same_right (subst (λ (x : Image). IsFirstDifference x right differs) same_left first);
}

pub audited_as : (i j : Image) (d e : Option Table) → i ≡ j → d ≡ e → IsAudited i d → IsAudited j e
audited_as i j d e same equal is = subst (λ (x : Option Table). IsAudited j x) equal (subst (λ (x : Image). IsAudited x d) same is)

-- the difference from what the log of the edits before one made is what that edit and later ones changed
pub told_since : {W : Type 0} (contents : W → Option (List ℕ)) (edit : ℕ) (i made : Image) (log : List ℕ) (old : Option (List ℕ)) (result : Result (W × Ending) ProgramFault)
    → log ≡ log_before edit i → IsSound made → IsMadeBy log made → IfOk result (λ done. EndsDifference made i old (contents done.0) done.1)
    → IfOk result (λ done. EndsSince edit i old (contents done.0) done.1)
told_since contents edit i made log old (Ok done) before sound is told = inl (made, sound, subst (λ (t : List ℕ). IsMadeBy t made) before is, told)
told_since contents edit i made log old (Err fault) before sound is told = tt

-- what the bytes that were read make, the log of their name makes
known_made : (read : List ℕ) (known : Option (List ℕ)) (made : Image) → IfSome known (λ t. read ≡ t) → IsMadeByLog (Some read) made → IsMadeByLog known made
known_made read known made is by = record {
  text = by.text;
  is_text = is_known by.text read known is by.is_text;
  tally = by.tally;
  accepted = by.accepted;
  is_made = by.is_made;
}

pub made_as_named : {D E : Type 0} (image : D → Image) (read : List ℕ) (known : Option (List ℕ)) (result : Result D E) → IfSome known (λ t. read ≡ t)
    → IfOk result (λ desk. IsMadeByLog (Some read) (image desk)) → IfOk result (λ desk. IsMadeByLog known (image desk))
made_as_named image read known (Ok desk) is made = known_made read known (image desk) is made
made_as_named image read known (Err ending) is made = tt

-- a log that is not read makes no inventory
pub none_read : (ending : Ending) → (ending ≡ Stopped Read) ⊎ (ending ≡ Stopped Memory) → HasNoInventory ending
none_read ending (inl is) = inl (Read, is)
none_read ending (inr is) = inl (Memory, is)
