-- What is asked about, and an inventory does not have: the names under which it is said.
use Rattle.std.specs.Prelude.{codes}
use Rattle.lrs_machine.specs.Lines.{Text}
use Rattle.lrs_machine.specs.declared.absence.Missing.{Missing}
use Rattle.lrs_machine.specs.declared.absence.Missing.TheVariants as missing

abbrev pub missing_text : Missing → Text
missing_text missing.Route = codes "NoRoute"
missing_text missing.Class = codes "NoClass"
missing_text missing.Asset = codes "NoAsset"
missing_text missing.Edit = codes "NoEdit"
missing_text missing.Key = codes "NoKey"
missing_text missing.Link = codes "NoLink"
missing_text missing.Place = codes "OffRoute"
