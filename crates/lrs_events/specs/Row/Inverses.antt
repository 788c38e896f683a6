-- What brings rows back.
use Rattle.std.specs.Prelude.{◌≡◌, ℕ, true, List}
use Rattle.lrs_events.specs.declared.span.Span.{Span}
use Rattle.lrs_events.specs.Spans.{are_rows}
use Rattle.lrs_events.specs.Row.Cuts.{IsCut}
use Rattle.lrs_events.specs.Row.Joins.{end_by, IsJoin}
use Rattle.lrs_events.specs.Row.Turns.{IsTurned}

abbrev pub JoinUndoesCut : Type 0
JoinUndoesCut = (at : ℕ) (rows front rear new : List Span) → are_rows rows ≡ true → are_rows new ≡ true → IsCut at rows front rear → IsJoin at front rear new → new ≡ rows

abbrev pub TurnUndoesTurn : Type 0
TurnUndoesTurn = (len : ℕ) (rows once twice : List Span) → are_rows rows ≡ true → end_by len rows ≡ true → are_rows twice ≡ true → IsTurned len rows once → IsTurned len once twice → twice ≡ rows
