-- When a sheet is a draft: each of its records is done, and the inventory that it makes is the one that is intended.
use Rattle.std.specs.Prelude.{◌≡◌, ◌≤◌, ◌-◌, ◌==◌, ℕ, Bool, true, false, List, [], ◌∷◌, ◌++◌, codes, length, Option, Some, None, Ok}
use Rattle.std.specs.Fmt.{decimal}
use Rattle.std.specs.List.{flat_map, list_all, list_any, starts_with}
use Rattle.lrs_events.specs.Places.{Place}
use Rattle.lrs_machine.specs.Image.{state_of}
use Rattle.lrs_machine.specs.Lines.{Text}
use Rattle.lrs_machine.specs.Sound.{IsSound}
use Rattle.lrs_machine.specs.declared.image.Image.{Image}
use Rattle.lrs_difference.specs.Text.{difference_text}
use Rattle.lrs_sheet_log.specs.Log.{log_text}
use Rattle.lrs_sheet_records.specs.declared.sheet.Sheet.TheVariants.{Edits}
use Rattle.lrs_sheet_records.specs.Words.{parts_of}
use Rattle.lrs_sheet.specs.declared.reply.Tally.{Tally}
use Rattle.lrs_sheet.specs.MadeLogs.{IsMadeBy}
use Rattle.lrs_sheet.specs.Trials.{IsTried}
use Rattle.lrs_drafts.specs.Holdings.{AreExchanged}
use Rattle.lrs_drafts.specs.declared.draft.Draft.{Draft}
use Rattle.lrs_drafts.specs.declared.draft.Draft.TheVariants.{Split, Bypass, Retire, Replace, Move, Merge, Undo}

-- ---- lines of a difference

-- a line begins in one of these ways
abbrev pub begins_with_one : List Text → Text → Bool
begins_with_one fronts line = list_any (λ front. starts_with (λ a b. a == b) line front) fronts

-- a line is empty, or begins in one of these ways
abbrev pub begins_so : List Text → Text → Bool
begins_so fronts [] = true
begins_so fronts (byte ∷ bytes) = begins_with_one fronts (byte ∷ bytes)

-- The difference of two inventories has only lines that begin so.
abbrev pub DiffersOnlyIn : List Text → Image → Image → Type 0
DiffersOnlyIn fronts before after = list_all (begins_so fronts) (parts_of 10 (difference_text before after)) ≡ true

-- the front of a line of a route, an asset or what an asset holds: `-` or `+`, the kind, the name or number
abbrev pub front : Text → Text → Text → Text
front sign kind name = sign ++ codes "," ++ kind ++ codes "," ++ name ++ codes ","

-- a route is as it was no more
abbrev pub changes_route : Text → List Text
changes_route name = front (codes "-") (codes "route") name ∷ front (codes "+") (codes "route") name ∷ []

-- an asset gives up what it holds
abbrev pub gives_up : ℕ → List Text
gives_up asset = front (codes "-") (codes "holds") (decimal asset) ∷ []

-- an asset is entered
abbrev pub is_entered : ℕ → List Text
is_entered asset = front (codes "+") (codes "asset") (decimal asset) ∷ front (codes "+") (codes "holds") (decimal asset) ∷ []

-- the asset holds nothing
abbrev pub HoldsNothing : ℕ → Image → Type 0
HoldsNothing asset i = (p : Place) → (state_of i).holds asset p ≡ false

-- the one asset holds after what the other held before
abbrev pub HoldsWhatHeld : ℕ → ℕ → Image → Image → Type 0
HoldsWhatHeld number asset before after = (p : Place) → (state_of after).holds number p ≡ (state_of before).holds asset p

-- assets are entered; with a number for the first of them, they hold what others did
abbrev pub undone_fronts : Option ℕ → List Text
undone_fronts None = codes "+,asset," ∷ []
undone_fronts (Some number) = codes "+,asset," ∷ codes "-,holds," ∷ codes "+,holds," ∷ []

-- ---- what is intended

-- the number of the first edit that is undone: the last edit's where none is given
abbrev pub first_undone : Option ℕ → Image → ℕ
first_undone None before = length before.edits
first_undone (Some edit) before = edit

-- The first edit that is undone is there, with all behind it. The inventory before it differs from the one after only in assets that were entered. What is held at each place is the same as it was, but for the number of the asset, which is another only where new assets were to be entered.
pub record IsUndone (from number : Option ℕ) (before after : Image) : Type 0 where
  pub not_before : 1 ≤ first_undone from before
  pub not_behind : first_undone from before ≤ length before.edits
  pub was : Image
  pub sound : IsSound was
  pub is_was : IsMadeBy (log_text 1 (Some (first_undone from before - 1)) before) was
  pub only_new : DiffersOnlyIn (undone_fronts number) was after
  pub exchanged : AreExchanged was after

-- What a draft is for: which lines the difference has.
abbrev pub Intends : Draft → Image → Image → Type 0
Intends (Split route place new) before after = DiffersOnlyIn (changes_route route ++ changes_route new) before after
Intends (Bypass route from to pieces old) before after = DiffersOnlyIn (changes_route route ++ changes_route old) before after
Intends (Retire asset) before after = DiffersOnlyIn (gives_up asset) before after × HoldsNothing asset after
Intends (Replace asset number value) before after =
    DiffersOnlyIn (gives_up asset ++ is_entered number) before after × HoldsNothing asset after × HoldsWhatHeld number asset before after
Intends (Move asset number route from to) before after = DiffersOnlyIn (gives_up asset ++ is_entered number) before after × HoldsNothing asset after
Intends (Merge routes) before after = DiffersOnlyIn (flat_map changes_route routes.items) before after
Intends (Undo from number) before after = IsUndone from number before after

-- A sheet is a draft for an inventory: each of its records is done there, and makes what is intended.
pub record IsDraft (draft : Draft) (i : Image) (sheet : Text) : Type 0 where
  pub made : Image
  pub sound : IsSound made
  pub replies : Text
  pub tally : Tally
  pub tried : IsTried Edits 0 sheet (state_of i) (state_of made) replies (Ok tally)
  pub none_refused : tally.refused ≡ 0
  pub none_again : tally.again ≡ 0
  pub intended : Intends draft i made
