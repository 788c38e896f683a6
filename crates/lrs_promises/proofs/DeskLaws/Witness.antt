-- Two sound images that hold alike, whose assets are of other classes, and whose rows with their classes differ.
use Rattle.std.proofs.Common.{◌≡◌, ℕ, Bool, true, false, List, [], ◌∷◌, refl, ap, arith}
use Rattle.std.specs.Prelude.{◌≢◌, ◌||◌, map}
use Rattle.lrs_events.specs.Spans.{holds_by_span}
use Rattle.lrs_measure.specs.Texts.{Name}
use Rattle.lrs_element.specs.declared.link.Ground.{Ground}
use Rattle.lrs_element.specs.declared.marks.Mark.{Mark}
use Rattle.lrs_events.specs.declared.class.Asset.{Asset}
use Rattle.lrs_events.specs.declared.class.Kind.TheVariants.{Stretch}
use Rattle.lrs_events.specs.declared.span.Span.{Span}
use Rattle.lrs_events.specs.declared.side.Side.TheVariants.{L, R}
use Rattle.lrs_events.specs.declared.side.LinkSide.TheVariants.{Left, Right}
use Rattle.lrs_machine.specs.declared.image.Image.{Image}
use Rattle.lrs_machine.specs.Image.{state_of}
use Rattle.lrs_machine.specs.Sound.{IsSound, first_unsound}
use Rattle.lrs_promises.specs.DeskLaws.InventoryRows.{HoldAlike}
use Rattle.lrs_promises.specs.DeskLaws.Classes.{rows_by_name, SomeDifferByClasses}

abbrev a : Name
a = 65 ∷ []

abbrev c : Name
c = 67 ∷ []

abbrev course : List Ground
course = record { link = 1; mm = 0; forward = true } ∷ record { link = 1; mm = 1; forward = true } ∷ []

abbrev marks : List Mark
marks = record { chainage = 0; measure = 0 } ∷ record { chainage = 2; measure = 2 } ∷ []

abbrev image_of : Name → Name → List Span → Image
image_of one two spans = record {
  links = record { number = 1; length = 2; limits = refl } ∷ [];
  classes = record { name = a; kind = Stretch } ∷ record { name = c; kind = Stretch } ∷ [];
  assets = record { number = 1; class = one; value = a; lateral = 0; entered_by = 1 } ∷ record { number = 2; class = two; value = a; lateral = 0; entered_by = 2 } ∷ [];
  routes = record { route = record { name = a; course = course; marks = marks; refs = []; fits = refl }; spans = spans } ∷ [];
  entered = record { edit = 1; asset = 1; link = 1; from = 0; to = 2; side = Left } ∷ record { edit = 2; asset = 2; link = 1; from = 0; to = 2; side = Right } ∷ [];
  gone = [];
  edits = record { key = a; line = [] } ∷ record { key = c; line = [] } ∷ [];
}

abbrev i : Image
i = image_of a c (record { asset = 1; class = a; from = 0; to = 2; side = L } ∷ record { asset = 2; class = c; from = 0; to = 2; side = R } ∷ [])

abbrev j : Image
j = image_of c a (record { asset = 2; class = a; from = 0; to = 2; side = R } ∷ record { asset = 1; class = c; from = 0; to = 2; side = L } ∷ [])

sound_i : IsSound i
unfolding first_unsound
sound_i = refl

sound_j : IsSound j
unfolding first_unsound
sound_j = refl

or_swap : (x y : Bool) → ((x || (y || false)) || false) ≡ ((y || (x || false)) || false)
or_swap true true = refl
or_swap true false = refl
or_swap false true = refl
or_swap false false = refl

alike : HoldAlike (state_of i) (state_of j)
unfolding state_of
alike = record {
  courses = λ route. refl;
  holds = λ n p. or_swap (holds_by_span course (record { asset = 1; class = a; from = 0; to = 2; side = L }) n p) (holds_by_span course (record { asset = 2; class = c; from = 0; to = 2; side = R }) n p);
}

-- the number of the first asset that has a row on the first route
first_number : List (Name × List Span) → ℕ
first_number [] = 0
first_number ((n, []) ∷ rest) = 0
first_number ((n, r ∷ rs) ∷ rest) = r.asset

first_byte : List Name → ℕ
first_byte [] = 0
first_byte ([] ∷ rest) = 0
first_byte ((b ∷ bs) ∷ rest) = b

rows_differ : rows_by_name i ≢ rows_by_name j
unfolding first_number
rows_differ h = let e : 1 ≡ 2 = ap first_number h in omega (arith, e)

classes_differ : map (λ (x : Asset). x.class) i.assets ≢ map (λ (x : Asset). x.class) j.assets
unfolding first_byte
classes_differ h = let e : 65 ≡ 67 = ap first_byte h in omega (arith, e)

pub some_differ_by_classes : SomeDifferByClasses
some_differ_by_classes = (i, j, record { one = sound_i; other = sound_j; alike = alike; classes = classes_differ; rows = rows_differ })
