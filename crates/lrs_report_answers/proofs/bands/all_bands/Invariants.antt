use Rattle.std.proofs.Common.{◌≡◌, length, take}
use Rattle.lrs_report_answers.specs.DrawnRows.{AreBands}
use Rattle.lrs_report_answers.proofs.bands.all_bands.Given as goal

abbrev pub invariant-loop-class : goal.invariant-loop-class
invariant-loop-class l = record {
  bands : AreBands l.assets.rows l.spans l.scale.from l.scale.to (take l.class-index l.classes) l.bands.items;
  count : length l.bands.items ≡ l.class-index;
}
