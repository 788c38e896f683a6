-- What is listed of an inventory; or which of the things that are named it does not have.
use Rattle.std.specs.Prelude.{◌≡◌, ℕ, Bool, is_some, List, Option, Some, None, Result, MatchResult, if◌then◌else◌}
use Rattle.std.specs.Borrow.{Bor}
use Rattle.lrs_measure.specs.Texts.{Name}
use Rattle.lrs_machine.specs.Image.{state_of}
use Rattle.lrs_machine.specs.Machine.{place_of_key}
use Rattle.lrs_machine.specs.declared.absence.Missing.{Missing}
use Rattle.lrs_machine.specs.declared.absence.Missing.TheVariants as missing
use Rattle.lrs_machine.specs.declared.image.Image.{Image}
use Rattle.lrs_machine.specs.declared.question.Listing.{Listing}
use Rattle.lrs_machine.specs.declared.question.Listing.TheVariants as listing
use Rattle.lrs_machine.specs.declared.question.GoneWanted.{GoneWanted}
use Rattle.lrs_machine.specs.declared.question.RowsAsked.{RowsAsked}
use Rattle.lrs_machine.specs.declared.question.RowsWanted.{RowsWanted}
use Rattle.lrs_report_lists.specs.Absence.{has_asset, has_class, has_edit, has_route, lacks, missing_row}
use Rattle.lrs_report_lists.specs.Length.Lengths.{AreLengths}
use Rattle.lrs_report_lists.specs.declared.length_lists.table.ValueLength.{ValueLength}
use Rattle.lrs_report_answers.specs.declared.fault.AskFault.{AskFault}
use Rattle.lrs_report_answers.specs.Answers.{UnlessMemory, UnlessMissing}

abbrev pub has_key : Image → Name → Bool
has_key i key = is_some (place_of_key key (state_of i).done)

-- the route, where one is named and is not there
abbrev pub missing_route : Image → Option Name → Option Missing
missing_route i route = if lacks (has_route i) route then Some missing.Route else None

-- the edit, and then the class, where one is named and is not there
abbrev pub missing_gone : Image → GoneWanted → Option Missing
missing_gone i wanted = if lacks (has_edit i) wanted.edit then Some missing.Edit else if lacks (has_class i) wanted.class then Some missing.Class else None

-- the asset, where it is not there
abbrev pub missing_asset : Image → ℕ → Option Missing
missing_asset i asset = if has_asset i asset then None else Some missing.Asset

-- the first of the things that a listing names, and the inventory does not have
abbrev pub missing_of : Image → Listing → Option Missing
missing_of i (listing.Refs route exact) = missing_route i route
missing_of i (listing.Marks route) = missing_route i route
missing_of i (listing.Pieces route) = missing_route i route
missing_of i (listing.Gone wanted) = missing_gone i wanted
missing_of i (listing.History asset) = missing_asset i asset
missing_of i (listing.LogOfKey key) = if has_key i key then None else Some missing.Key
missing_of i _ = None

-- the answer is this inventory
abbrev pub IsInventory : Image → Result (Bor Image) AskFault → Type 0
IsInventory i result = MatchResult result (λ inventory. inventory.now ≡ i) (λ fault. ⊥)

-- The answer is the inventory that is listed, or what is missing.
abbrev pub IsListing : Image → Listing → Result (Bor Image) AskFault → Type 0
IsListing i l = UnlessMissing (missing_of i l) (IsInventory i)

-- the rows that are asked for, where the ends of the stretch are found
abbrev pub wanted_of : RowsAsked → Option ℕ → Option ℕ → RowsWanted
wanted_of asked from to = record { route = asked.route; from = from; to = to; class = asked.class; asset = asked.asset; form = asked.form }

-- The answer is the lengths of values on the route of a name, or on all; or the route is missing.
abbrev pub AreLengthsOf : Image → Option Name → Result (List ValueLength) AskFault → Type 0
AreLengthsOf i route = UnlessMissing (missing_route i route) (UnlessMemory (AreLengths route i))
