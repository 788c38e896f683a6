use Rattle.std.proofs.Common.{rules, ◌≡◌, ◌≤◌, ◌∙◌, sym, arith, refl}
use Rattle.csv.specs.Records.{fields_of}
use Rattle.lrs_sheet_records.specs.declared.sheet.Sheet.{Sheet}
use Rattle.lrs_sheet_records.specs.declared.sheet.Sheet.TheVariants.{Edits, Survey}
use Rattle.lrs_sheet_records.specs.Kinds.{header_of, width_of}
use Rattle.lrs_sheet_records.proofs.HeaderFields.{header-first, header-from, header-other, not-ne}
use Rattle.lrs_sheet_records.proofs.header.is_header.Goals as goal

pub returns-then-ne : goal.returns-then-ne
returns-then-ne c = (
  λ e. cc e,
  λ header.
      let first = header-first (header_of c.args.sheet) (fields_of c.args.row.now) header in
      let same : c.without_mark.result.now ≡ c.column.result.now = c.without_mark.ensures ∙ rw c.field_text.ensures first ∙ sym c.column.ensures in
      not-ne c.without_mark.result.now c.column.result.now c.ne.result c.ne.ensures c.if-ne.true same,
)

pub returns-then-ne-2 : goal.returns-then-ne-2
returns-then-ne-2 c = (
  λ e. cc e,
  λ header.
      let other = header-other (header_of c.args.sheet) (fields_of c.args.row.now) c.loop-place.place header c.loop-place.auto.place in
      let same : c.field_text-in-loop-place.result.now ≡ c.column-in-loop-place.result.now = c.field_text-in-loop-place.ensures ∙ other ∙ sym c.column-in-loop-place.ensures in
      not-ne c.field_text-in-loop-place.result.now c.column-in-loop-place.result.now c.ne-in-loop-place.result c.ne-in-loop-place.ensures c.if-ne-2.true same,
)

some : (sheet : Sheet) → 1 ≤ width_of sheet
some Edits = omega arith
some Survey = omega arith

pub returns : goal.returns
returns c =
    let same : c.without_mark.result.now ≡ c.column.result.now = search rules in
    let wide = c.width-width.ensures in (
      λ e. header-from (header_of c.args.sheet) (fields_of c.args.row.now) (some c.args.sheet) (omega (arith, wide)) (rw c.field_text.ensures at (sym c.without_mark.ensures) ∙ same ∙ c.column.ensures) (λ i low high. c.loop-place.invariant i low (omega (arith, high, wide))),
      λ header. refl,
    )
