-- What a list is asked for, and an inventory does not have.
use Rattle.std.specs.Prelude.{ℕ, Bool, false, not, nat_eq, length, Option, None, Some, if◌then◌else◌}
use Rattle.std.specs.List.{list_any}
use Rattle.std.specs.Option.{option_map_or}
use Rattle.lrs_measure.specs.Lists.{is_from_to}
use Rattle.lrs_measure.specs.Texts.{Name, same_name}
use Rattle.lrs_machine.specs.declared.image.Image.{Image}
use Rattle.lrs_machine.specs.declared.absence.Missing.{Missing}
use Rattle.lrs_machine.specs.declared.absence.Missing.TheVariants as missing
use Rattle.lrs_image.specs.Change.{is_named}
use Rattle.lrs_machine.specs.declared.question.RowsWanted.{RowsWanted}

abbrev pub has_route : Image → Name → Bool
has_route i name = list_any (is_named name) i.routes

abbrev pub has_class : Image → Name → Bool
has_class i name = list_any (λ c. same_name c.name name) i.classes

abbrev pub has_asset : Image → ℕ → Bool
has_asset i number = list_any (λ a. nat_eq a.number number) i.assets

-- edits are numbered from 1
abbrev pub has_edit : Image → ℕ → Bool
has_edit i number = is_from_to 1 (length i.edits) number

-- what is named, and is not there
abbrev pub lacks : {A : Type 0} → (A → Bool) → Option A → Bool
lacks has named = option_map_or (λ x. not (has x)) named false

-- the first of the things that are asked of rows, and are not there
abbrev pub missing_row : Image → RowsWanted → Option Missing
missing_row i wanted =
    if lacks (has_route i) wanted.route then Some missing.Route
    else if lacks (has_class i) wanted.class then Some missing.Class
    else if lacks (has_asset i) wanted.asset then Some missing.Asset else None
