-- When edits are undone.
use Rattle.std.proofs.Common.{◌≡◌, ◌≤◌, ℕ, ◌-◌, Bool, true, Option, Some, length, sym, subst}
use Rattle.lrs_machine.specs.declared.image.Image.{Image}
use Rattle.lrs_machine.specs.Sound.{IsSound}
use Rattle.lrs_sheet.specs.MadeLogs.{IsMadeBy}
use Rattle.lrs_sheet_log.specs.Log.{log_text}
use Rattle.lrs_drafts.specs.Drafts.{DiffersOnlyIn, IsUndone, first_undone, undone_fronts}
use Rattle.lrs_drafts.specs.Holdings.{AreExchanged}

pub undone : (from number : Option ℕ) (first : ℕ) (before former was after : Image) (back : Bool) → first ≡ first_undone from before → 1 ≤ first_undone from before → first_undone from before ≤ length before.edits
    → was ≡ former → IsSound former → IsMadeBy (log_text 1 (Some (first - 1)) before) former
    → (back ≡ true → DiffersOnlyIn (undone_fronts number) was after × AreExchanged was after) → back ≡ true → IsUndone from number before after
undone from number first before former was after back same not_before not_behind is sound made said holds =
    record {
      not_before = not_before;
      not_behind = not_behind;
      was = was;
      sound = subst (λ (i : Image). IsSound i) (sym is) sound;
      is_was = subst (λ (n : ℕ). IsMadeBy (log_text 1 (Some (n - 1)) before) was) same (subst (λ (i : Image). IsMadeBy (log_text 1 (Some (first - 1)) before) i) (sym is) made);
      only_new = (said holds).0;
      exchanged = (said holds).1;
    }
