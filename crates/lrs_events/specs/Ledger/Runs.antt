-- Runs: what rows of a route have on one side of it, where those of an asset that touch are one.
use Rattle.std.specs.Prelude.{Bool, ◌&&◌, nat_eq, if◌then◌else◌, List, [], ◌∷◌}
use Rattle.lrs_events.specs.declared.side.LinkSide.{LinkSide}
use Rattle.lrs_events.specs.declared.span.Span.{Span}
use Rattle.lrs_events.specs.Members.{has_side}
use Rattle.lrs_events.specs.declared.ledgers.run.Run.{Run}

-- whether the asset goes on in the second run where the first ends
abbrev pub goes_on : Run → Run → Bool
goes_on x y = nat_eq x.asset y.asset && nat_eq x.to y.from

-- the runs with one more behind them, as a part of the last one where it goes on with that
abbrev pub with_run : List Run → Run → List Run
with_run [] y = y ∷ []
with_run (x ∷ []) y = if goes_on x y then record { asset = x.asset; from = x.from; to = y.to } ∷ [] else x ∷ y ∷ []
with_run (x ∷ z ∷ xs) y = x ∷ with_run (z ∷ xs) y

-- the runs with what one more row has on the side
abbrev pub with_row : LinkSide → List Run → Span → List Run
with_row s runs r = if has_side r.side s then with_run runs (record { asset = r.asset; from = r.from; to = r.to }) else runs

-- ... and with what these rows have there, one after another
abbrev pub runs_from : LinkSide → List Run → List Span → List Run
runs_from s runs [] = runs
runs_from s runs (r ∷ rs) = runs_from s (with_row s runs r) rs
