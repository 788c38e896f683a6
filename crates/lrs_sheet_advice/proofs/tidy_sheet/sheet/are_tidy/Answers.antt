use Rattle.std.proofs.Common.{inl, inr, rules}
use Rattle.csv.specs.Records.{fields_of}
use Rattle.lrs_sheet_records.specs.Kinds.{width_of}
use Rattle.lrs_sheet_advice.proofs.TidyRows.{differs_next, given_next, nothing_given}
use Rattle.lrs_sheet_advice.proofs.tidy_sheet.sheet.are_tidy.Goals as goal

pub loop-turn-init : goal.loop-turn-init
loop-turn-init g c = nothing_given c.args.kind g.R.Read.remaining c.args.rows.now c.requires.plain c.requires.width

pub returns-in-Ok-false : goal.returns-in-Ok-false
returns-in-Ok-false g c = (c.loop-turn.rows, c.loop-turn.invariant, c.in-Ok-false.ensures.ended (search rules))

pub returns-in-Err-BadCsv : goal.returns-in-Err-BadCsv
returns-in-Err-BadCsv g c = (
  c.loop-turn.rows,
  c.loop-turn.invariant,
  inl (differs_next g.R.Read.remaining c.loop-turn.rows (width_of c.args.kind) _ (search rules) c.loop-turn.invariant.width c.in-Err-BadCsv.ensures.faults),
)

pub returns-then-not-is_tidy_record : goal.returns-then-not-is_tidy_record
returns-then-not-is_tidy_record g c =
    let found = c.in-Ok-true.field-0-test in (
      c.loop-turn.rows,
      c.loop-turn.invariant,
      inr (c.next_row.new.rows, fields_of c.next_row.new.row, c.in-Ok-true.ensures.found found, search rules),
    )

pub loop-turn-preserved : goal.loop-turn-preserved
loop-turn-preserved g c =
    let found = c.in-Ok-true.field-0-test in
    let wide = rw c.loop-turn.invariant.width at (c.in-Ok-true.ensures.same_width found) in
    given_next c.args.kind g.R.Read.remaining c.args.rows.now c.loop-turn.rows c.next_row.new.rows c.loop-turn.invariant (fields_of c.next_row.new.row)
    (c.in-Ok-true.ensures.plain found) (c.in-Ok-true.ensures.width found) wide (c.in-Ok-true.ensures.found found) (search rules)
