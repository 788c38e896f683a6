use Rattle.std.proofs.Common.{◌≡◌, ℕ, ◌<◌, take, drop}
use Rattle.std.specs.List.{AllByRecursion}
use Rattle.lrs_machine.specs.Segments.{values_of}
use Rattle.lrs_report.specs.SideValues.{is_holder, HasOneHolder}
use Rattle.lrs_report.specs.Columns.{IsColumn, values_at}
use Rattle.lrs_report.proofs.segmentation.columns_of.Given as goal

abbrev pub invariant-loop-class : goal.invariant-loop-class
invariant-loop-class g l = record {
  columns : AllByRecursion (IsColumn 0 l.len) l.columns.items;
  values : (j : ℕ) → j < l.len → values_at l.columns.items j ≡ values_of (g.A.KnownRows.rows l.assets) (take l.class-index l.wanted) (is_holder l.spans l.side j);
  left : AllByRecursion (HasOneHolder l.spans) (drop l.class-index l.wanted);
}
