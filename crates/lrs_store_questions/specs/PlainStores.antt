-- Stores of tables and of indexes alone, without REAL columns, whose keys rise by their bytes.
use Rattle.std.specs.Prelude.{◌≡◌, ℕ, ◌==◌, if◌then◌else◌, codes, true, List, [], map}
use Rattle.std.specs.List.{list_all}
use Rattle.std.specs.Ordering.{is_eq}
use Rattle.sqlite_value.specs.declared.value.Value.TheVariants.{Text}
use Rattle.sqlite_value.specs.Order.{Row, column, value_cmp}
use Rattle.sqlite_value.specs.Keys.{plain}
use Rattle.sqlite_trees.specs.declared.store.Shape.{Shape}
use Rattle.sqlite_trees.specs.declared.store.Shape.TheVariants as kinds
use Rattle.sqlite_schema.specs.declared.schema.Schema.{Schema}
use Rattle.sqlite_schema.specs.Rules.{table_reals}
use Rattle.sqlite_catalog.specs.Reading.{AreRead, coded}

-- the shape of the tree that a row of sqlite_schema names, if it is a table or such an index
abbrev pub plain_shape : Row → Shape
plain_shape row = if is_eq (value_cmp (column row 1) (Text (codes "table"))) then kinds.Table else kinds.Index plain

-- the same, and which of its columns are REAL: none
abbrev pub plain_layout : Row → Shape × ℕ
plain_layout row = (plain_shape row, 0)

-- the row with the code of that shape
abbrev pub plain_row : Row → Row
plain_row row = coded row (plain_shape row)

-- there are no views, no REAL columns and no other keys
pub record IsPlain (schema : Schema) : Type 0 where
  pub views : schema.views ≡ []
  pub tables : list_all (λ t. table_reals t == 0) schema.tables ≡ true
  pub indexes : list_all (λ i. i.order.digits == 0) schema.indexes ≡ true

-- these rows of sqlite_schema list such tables and indexes
pub record ListPlain (rows : List Row) : Type 0 where
  pub schema : Schema
  pub read : AreRead (map plain_row rows) schema
  pub is_plain : IsPlain schema
