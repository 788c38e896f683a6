-- The rows of a ledger for what an edit takes away.
use Rattle.std.specs.Prelude.{◌≡◌, ℕ, ◌+◌, Bool, true, ◌&&◌, nat_eq, List, ◌++◌, length}
use Rattle.std.specs.List.{list_any, list_all}
use Rattle.lrs_measure.specs.Lists.{each_two}
use Rattle.lrs_events.specs.declared.part.Gone.{Gone}
use Rattle.lrs_events.specs.Places.{Place}
use Rattle.lrs_events.specs.Parts.{has_pair, IsHadOnce}
use Rattle.lrs_machine.specs.declared.image.Image.{Image}
use Rattle.lrs_machine.specs.State.{Reason, same_reason}
use Rattle.lrs_machine.specs.Image.{reason_of}
use Rattle.lrs_machine.specs.Sound.{gone_before, parts_of, IsSound}
use Rattle.lrs_image_laws.specs.Orderly.{is_filled, share_nothing_for_a_reason}

-- The rows by which an edit takes away these pairs of asset and place, for a reason: each pair once, in their order, and no row is empty.
pub record AreGone (edit : ℕ) (why : Reason) (taken : ℕ → Place → Bool) (gone : List Gone) : Type 0 where
  pub edit_is : list_all (λ g. nat_eq g.part.edit edit) gone ≡ true
  pub pairs : (m : ℕ) (because : Reason) (a : ℕ) (p : Place) → list_any (λ g. same_reason (reason_of g) because && has_pair g.part m a p) gone ≡ ((nat_eq m edit && same_reason because why) && taken a p)
  pub once : IsHadOnce (parts_of gone)
  pub order : each_two gone_before gone ≡ true
  pub filled : list_all is_filled (parts_of gone) ≡ true

-- The rows are in their order, none is empty, and those of one edit and one reason share nothing.
pub record AreInOrder (gone : List Gone) : Type 0 where
  pub order : each_two gone_before gone ≡ true
  pub filled : list_all is_filled (parts_of gone) ≡ true
  pub apart : each_two share_nothing_for_a_reason gone ≡ true

-- A sound image's rows with those of its next edit behind them are in order.
abbrev pub GoneStaysInOrder : Type 0
GoneStaysInOrder = (i : Image) (why : Reason) (taken : ℕ → Place → Bool) (gone : List Gone) → IsSound i → AreGone (length i.edits + 1) why taken gone → AreInOrder (i.gone ++ gone)
