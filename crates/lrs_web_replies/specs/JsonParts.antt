-- JSON of few parts: whole numbers, texts, lists, and objects. All but those of trials have their members in the order of their names.
use Rattle.std.specs.Prelude.{ℕ, List, [], ◌∷◌, map}
use Rattle.serde_json.specs.Data.{Data, number, unsigned, array, object, Members, no_members, member}
use Rattle.serde_json.specs.View.{items_of}
use Rattle.lrs_machine.specs.Lines.{Text}

abbrev pub whole : ℕ → Data
whole n = number (unsigned n)

abbrev pub list : List Data → Data
list items = array (items_of items)

-- each, as it is shown
abbrev pub each : {A : Type 0} → (A → Data) → List A → Data
each shown xs = list (map shown xs)

abbrev pub members : List (Text × Data) → Members
members [] = no_members
members (m ∷ ms) = member m.0 m.1 (members ms)

-- an object of these members, in this order
abbrev pub with : List (Text × Data) → Data
with ms = object (members ms)
