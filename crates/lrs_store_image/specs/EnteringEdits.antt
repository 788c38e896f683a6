-- Assets with the edit that entered each, part by part.
use Rattle.std.specs.Prelude.{◌≡◌, ℕ, ◌<◌, false, nat_eq, List, [], ◌∷◌, map, length, get_or, Option, Some, None, if◌then◌else◌}
use Rattle.std.specs.List.{list_any}
use Rattle.lrs_events.specs.declared.class.Asset.{Asset}
use Rattle.lrs_events.specs.declared.part.Part.{Part}

-- an asset, with the edit of a part that is of it
abbrev pub entered_by : Part → Asset → Asset
entered_by p a = record a { entered_by = if nat_eq p.asset a.number then p.edit else a.entered_by }

-- assets with the edits of these parts, the first part of an asset last
abbrev pub entered_all : List Part → List Asset → List Asset
entered_all [] assets = assets
entered_all (p ∷ ps) assets = map (entered_by p) (entered_all ps assets)

-- where the asset of this number stands, if it is there
abbrev pub IsPlaceOf : ℕ → List Asset → Option ℕ → Type 0
IsPlaceOf number assets (Some at) = (at < length assets) × ((d : Asset) → (get_or assets at d).number ≡ number)
IsPlaceOf number assets None = list_any (λ a. nat_eq a.number number) assets ≡ false
