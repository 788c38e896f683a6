-- What is kept in memory.
use Rattle.std.specs.Prelude.{◌≡◌, ◌≤◌, ℕ, List, length, take, Result, Ok, Err, ⊤}
use Rattle.std.proofs.Common.{refl}
use Rattle.lrs_machine.specs.declared.image.Image.{Image}
use Rattle.lrs_machine.specs.declared.table.Table.{Table}
use Rattle.lrs_machine.specs.Sound.{IsSound}
use Rattle.lrs_image.specs.declared.change.Change.{Change}
use Rattle.lrs_desk.specs.declared.plain.Content.{Content}
use Rattle.lrs_desk.specs.declared.plain.Content.TheVariants.{Sound, Unsound}
use Rattle.lrs_image.specs.OpenLists.{image_of}
use Rattle.lrs_image.specs.ChangeLists.{apply_all, CanMakeAll}

-- the image after changes, or the name of a table
abbrev pub content_after : List Change → Content → Result Image Table
content_after changes (Sound kept) = Ok (apply_all changes (image_of kept))
content_after changes (Unsound table) = Err table

-- The image is sound, and these changes can be made of it.
pub record IsBase (kept : List Change) (base : Image) : Type 0 where
  pub sound : IsSound base
  pub can : CanMakeAll kept base

abbrev pub IsContent : List Change → Content → Type 0
IsContent kept (Sound base) = IsBase kept (image_of base)
IsContent kept (Unsound table) = ⊤

-- The first of the changes are kept.
pub record IsPlain (base : Content) (kept : ℕ) (changes : List Change) : Type 0 where
  pub within : kept ≤ length changes
  pub content : IsContent (take kept changes) base

-- What is seen of a keeper in memory.
pub record PlainView : Type 0 where
  pub content : Result Image Table
  -- what the next commit is to keep
  pub staged : List Change

-- what it has is found
pub finds_kept : (k : PlainView) → (c : Result Image Table) × (c ≡ k.content)
finds_kept k = (k.content, refl)
