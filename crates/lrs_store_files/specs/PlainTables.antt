-- Definitions of tables without tests, computed values or values by default.
use Rattle.std.specs.Prelude.{◌≡◌, []}
use Rattle.std.specs.List.{AllByRecursion}
use Rattle.sqlite_value.specs.declared.value.Value.TheVariants.{Null}
use Rattle.sqlite_schema.specs.declared.schema.Column.{Column}
use Rattle.sqlite_schema.specs.declared.schema.Table.{Table}

-- no value by default
abbrev pub IsPlainColumn : Column → Type 0
IsPlainColumn c = c.default ≡ Null

-- no tests, and no default that is computed
pub record IsPlainTable (t : Table) : Type 0 where
  pub columns : AllByRecursion IsPlainColumn t.columns
  pub checks : t.checks ≡ []
  pub stamps : t.stamps.terms ≡ []
