-- What a row says at its last millimetre, and which row says a thing.
use Rattle.std.proofs.Common.{◌≡◌, ℕ, ◌-◌, ◌<◌, true, List, refl, ◌∙◌, arith}
use Rattle.lrs_measure.specs.Texts.{Name}
use Rattle.lrs_measure.specs.Lists.{In}
use Rattle.lrs_measure.proofs.Members.{any_found, any_of}
use Rattle.lrs_events.specs.declared.side.LinkSide.{LinkSide}
use Rattle.lrs_events.specs.declared.span.Span.{Span}
use Rattle.lrs_events.specs.Members.{has_member, is_member}
use Rattle.lrs_events.proofs.Row.Unique.{IsOver, over, its_sides, some_side, has_some}

-- a row says what it says at its last millimetre
pub its_end : (q : Span) (rows : List Span) → In q rows → q.from < q.to → is_member rows q.class q.asset (q.to - 1) (some_side q.side) ≡ true
its_end q rows m filled =
    any_of (λ r. has_member r q.class q.asset (q.to - 1) (some_side q.side)) q rows m
    (its_sides q q.class q.asset (q.to - 1) (some_side q.side) (record { of_class = refl; of_asset = refl; low = omega (arith, filled); high = omega (arith, filled) }) ∙ has_some q.side)

-- what rows say one of them says
pub said_by : (rows : List Span) (class : Name) (asset j : ℕ) (s : LinkSide) → is_member rows class asset j s ≡ true → (r : Span) × In r rows × IsOver r class asset j
said_by rows class asset j s h = let r = any_found (λ r. has_member r class asset j s) rows h in (r.0, r.1, over r.0 class asset j s r.2)
