use Rattle.std.proofs.Common.{rules, ◌≡◌, ◌∙◌, sym, arith, refl}
use Rattle.csv.specs.Records.{fields_of}
use Rattle.lrs_sheet_records.specs.Questions.{question_header}
use Rattle.lrs_sheet_records.proofs.HeaderFields.{header-first, header-from, header-other, not-ne}
use Rattle.lrs_sheet_records.proofs.header.is_question_header.Goals as goal

pub returns-then-ne : goal.returns-then-ne
returns-then-ne c = (
  λ e. cc e,
  λ header.
      let first = header-first question_header (fields_of c.args.row.now) header in
      let same : c.without_mark.result.now ≡ c.question_column.result.now = c.without_mark.ensures ∙ rw c.field_text.ensures first ∙ sym c.question_column.ensures in
      not-ne c.without_mark.result.now c.question_column.result.now c.ne.result c.ne.ensures c.if-ne.true same,
)

pub returns-then-ne-2 : goal.returns-then-ne-2
returns-then-ne-2 c = (
  λ e. cc e,
  λ header.
      let other = header-other question_header (fields_of c.args.row.now) c.loop-place.place header c.loop-place.auto.place in
      let same : c.field_text-in-loop-place.result.now ≡ c.question_column-in-loop-place.result.now = c.field_text-in-loop-place.ensures ∙ other ∙ sym c.question_column-in-loop-place.ensures in
      not-ne c.field_text-in-loop-place.result.now c.question_column-in-loop-place.result.now c.ne-in-loop-place.result c.ne-in-loop-place.ensures c.if-ne-2.true same,
)

pub returns : goal.returns
returns c =
    let same : c.without_mark.result.now ≡ c.question_column.result.now = search rules in (
      λ e. header-from question_header (fields_of c.args.row.now) (omega arith) (search rules) (rw c.field_text.ensures at (sym c.without_mark.ensures) ∙ same ∙ c.question_column.ensures) (λ i low high. c.loop-place.invariant i low (omega (arith, high))),
      λ header. refl,
    )
