-- Rows of a route of which a stretch is replaced by other ground.
use Rattle.std.specs.Prelude.{◌≡◌, ℕ, ◌+◌, ◌-◌, ◌<◌, Bool, false, nat_le, List}
use Rattle.std.specs.List.{list_all}
use Rattle.lrs_measure.specs.Texts.{Name}
use Rattle.lrs_measure.specs.Limits.{longest_route}
use Rattle.lrs_events.specs.declared.side.LinkSide.{LinkSide}
use Rattle.lrs_events.specs.declared.span.Span.{Span}
use Rattle.lrs_events.specs.Members.{is_member}

-- Where len millimetres come for those from `from` up to `to`, what lay before stays, nothing lies on them, and what lay behind goes on behind them.
pub record IsRealigned (from to len : ℕ) (rows new : List Span) : Type 0 where
  pub before : (class : Name) (asset j : ℕ) (s : LinkSide) → j < from → is_member new class asset j s ≡ is_member rows class asset j s
  pub inside : (class : Name) (asset j : ℕ) (s : LinkSide) → j < len → is_member new class asset (j + from) s ≡ false
  pub behind : (class : Name) (asset j : ℕ) (s : LinkSide) → is_member new class asset (j + (from + len)) s ≡ is_member rows class asset (j + to) s

-- whether no row ends beyond the longest route where what lies behind `to` begins at another chainage
abbrev pub have_room_behind : ℕ → ℕ → List Span → Bool
have_room_behind to at rows = list_all (λ r. nat_le ((r.to - to) + at) longest_route) rows
