-- What a text says where a place of a route is asked for.
use Rattle.std.specs.Prelude.{◌≡◌, ℕ, ◌≤◌, ◌∷◌, ◌++◌}
use Rattle.std.specs.Str.Parse.{IsNumeral, digits_value}
use Rattle.lrs_measure.specs.Limits.{longest_route}
use Rattle.lrs_position.specs.declared.expression.Method.{Method}
use Rattle.lrs_position.specs.Readings.{States, method_text}
use Rattle.lrs_machine.specs.Lines.{Text}
use Rattle.lrs_machine.specs.declared.question.Place.{Place}
use Rattle.lrs_machine.specs.declared.question.Place.TheVariants.{Chainage, Position}

-- digits of a number of millimetres that a route can have
pub record SaysChainage (text : Text) (chainage : ℕ) : Type 0 where
  pub digits : IsNumeral 10 text
  pub limit : digits_value 10 text ≤ longest_route
  pub value : chainage ≡ digits_value 10 text

-- the place is the position that a text states by a method
abbrev pub IsStated : Method → Text → Place → Type 0
IsStated m text (Position e) = States m text e
IsStated m text (Chainage c) = ⊥

-- A place is a chainage, or a method, a colon and a position by the method.
abbrev pub SaysPlace : Text → Place → Type 0
SaysPlace text (Chainage c) = SaysChainage text c
SaysPlace text (Position e) = (m : Method) × (position : Text) × (text ≡ method_text m ++ 58 ∷ position) × States m position e
