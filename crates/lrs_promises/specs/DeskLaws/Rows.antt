-- Inventories that say the same of the ground have the same rows.
use Rattle.std.specs.Prelude.{◌≡◌, ℕ, List, map, Option}
use Rattle.std.specs.Option.{option_map}
use Rattle.lrs_measure.specs.Texts.{Name}
use Rattle.lrs_element.specs.declared.link.Ground.{Ground}
use Rattle.lrs_events.specs.declared.span.Span.{Span}
use Rattle.lrs_events.specs.Places.{Place}
use Rattle.lrs_machine.specs.declared.image.Image.{Image}
use Rattle.lrs_machine.specs.Image.{state_of}
use Rattle.lrs_machine.specs.Register.{get, entries}
use Rattle.lrs_machine.specs.Sound.{IsSound}
use Rattle.lrs_machine.specs.State.{State}

-- the course of each route, by its name
abbrev pub courses_by_name : State → List (Name × List Ground)
courses_by_name s = map (λ r. (r.0, r.1.course)) (entries s.routes)

-- the class of the asset of a number
abbrev pub class_of_asset : State → ℕ → Option Name
class_of_asset s n = option_map (λ a. a.class) (get s.assets n)

-- Routes of the same names have the same courses, assets of the same numbers are of the same classes, and the same places are held.
pub record SayAlike (s t : State) : Type 0 where
  pub courses : courses_by_name s ≡ courses_by_name t
  pub classes : (n : ℕ) → class_of_asset s n ≡ class_of_asset t n
  pub holds : (a : ℕ) (p : Place) → s.holds a p ≡ t.holds a p

-- the rows of each route, by its name
abbrev pub rows_by_name : Image → List (Name × List Span)
rows_by_name i = map (λ e. (e.route.name, e.spans)) i.routes

-- Sound images that say the same have the same rows, whatever commands have made them.
abbrev pub RowsAreDetermined : Type 0
RowsAreDetermined = (i j : Image) → IsSound i → IsSound j → SayAlike (state_of i) (state_of j) → rows_by_name i ≡ rows_by_name j
