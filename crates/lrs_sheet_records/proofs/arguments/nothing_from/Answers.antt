use Rattle.std.proofs.Common.{length, arith, inl, inr, ap}
use Rattle.std.proofs.lemmas.Bool.{cases_lt}
use Rattle.lrs_sheet_records.specs.Kinds.{edit_fields}
use Rattle.lrs_sheet_records.proofs.Misfits.{text_at-past}
use Rattle.lrs_sheet_records.proofs.arguments.nothing_from.Goals as goal

pub returns : goal.returns
returns c i h = elim (cases_lt i c.loop-i.i) [
  | inl below ↦ c.loop-i.invariant i h below
  | inr above ↦ text_at-past (edit_fields c.args.row.now) i (omega arith)
]

pub returns-then-not-is_empty : goal.returns-then-not-is_empty
returns-then-not-is_empty c = rw c.argument_at.ensures (
  omega arith,
  c.loop-i.invariant,
  λ none. grind (arith, ap length none, ap length c.text_at.ensures),
)
