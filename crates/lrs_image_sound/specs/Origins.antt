-- Entered parts and the edits that their assets name, one pair of an asset and a part at a time.
use Rattle.std.specs.Prelude.{ℕ, Bool, ◌||◌, not, nat_eq, List}
use Rattle.std.specs.List.{list_any, list_all}
use Rattle.lrs_events.specs.declared.class.Asset.{Asset}
use Rattle.lrs_events.specs.declared.part.Part.{Part}

abbrev pub has_number : List ℕ → ℕ → Bool
has_number numbers n = list_any (λ m. nat_eq m n) numbers

abbrev pub is_named : List ℕ → Asset → Bool
is_named numbers a = has_number numbers a.number

-- the part is of another asset, or entered by the edit that the asset names
abbrev pub agrees : Asset → Part → Bool
agrees a p = not (nat_eq p.asset a.number) || nat_eq p.edit a.entered_by

abbrev pub agrees_with_all : List Asset → Part → Bool
agrees_with_all assets p = list_all (λ a. agrees a p) assets
