-- Three canonical rows, of which two that overlap say the same.
use Rattle.std.proofs.Common.{◌≡◌, Bool, true, false, List, [], ◌∷◌, refl, arith}
use Rattle.std.specs.Prelude.{◌&&◌, ◌||◌, nat_eq}
use Rattle.lrs_measure.specs.Texts.{Name}
use Rattle.lrs_element.specs.declared.link.Ground.{Ground}
use Rattle.lrs_element.specs.declared.marks.Mark.{Mark}
use Rattle.lrs_events.specs.declared.class.Kind.TheVariants.{Stretch}
use Rattle.lrs_events.specs.declared.span.Span.{Span}
use Rattle.lrs_events.specs.declared.side.Side.TheVariants.{L, R, B}
use Rattle.lrs_events.specs.declared.side.LinkSide.TheVariants.{Left, Right}
use Rattle.lrs_events.specs.Places.{same_place}
use Rattle.lrs_machine.specs.declared.image.Image.{Image}
use Rattle.lrs_machine.specs.Image.{state_of}
use Rattle.lrs_machine.specs.Sound.{IsSound, first_unsound}
use Rattle.lrs_promises.specs.DeskLaws.InventoryRows.{Row, courses_in, StandsFor}
use Rattle.lrs_promises.specs.DeskLaws.Overlaps.{SomeOverlapsAreShorter}

abbrev a : Name
a = 65 ∷ []

abbrev course : List Ground
course = record { link = 1; mm = 0; forward = true } ∷ record { link = 1; mm = 1; forward = true } ∷ record { link = 1; mm = 2; forward = true } ∷ []

abbrev marks : List Mark
marks = record { chainage = 0; measure = 0 } ∷ record { chainage = 3; measure = 3 } ∷ []

abbrev spans : List Span
spans = record { asset = 1; class = a; from = 0; to = 1; side = L } ∷ record { asset = 1; class = a; from = 1; to = 2; side = B } ∷ record { asset = 1; class = a; from = 2; to = 3; side = L } ∷ []

abbrev i : Image
i = record {
  links = record { number = 1; length = 3; limits = refl } ∷ [];
  classes = record { name = a; kind = Stretch } ∷ [];
  assets = record { number = 1; class = a; value = a; lateral = 0; entered_by = 1 } ∷ [];
  routes = record { route = record { name = a; course = course; marks = marks; refs = []; fits = refl }; spans = spans } ∷ [];
  entered = record { edit = 1; asset = 1; link = 1; from = 0; to = 3; side = Left } ∷ record { edit = 1; asset = 1; link = 1; from = 1; to = 2; side = Right } ∷ [];
  gone = [];
  edits = record { key = a; line = [] } ∷ [];
}

abbrev rows : List Row
rows = record { route = a; asset = 1; from = 0; to = 3; side = L } ∷ record { route = a; asset = 1; from = 1; to = 2; side = R } ∷ []

sound : IsSound i
unfolding first_unsound
sound = refl

either : (g x y r z : Bool) → ((g && (x || (y || (z || false)))) || ((g && (r || false)) || false))
    ≡ (((g && (x || false)) || ((g && (y || (r || false))) || ((g && (z || false)) || false))) || false)
either false x y r z = refl
either true true y r z = refl
either true false true r z = refl
either true false false true true = refl
either true false false true false = refl
either true false false false true = refl
either true false false false false = refl

stands : StandsFor (courses_in (state_of i)) rows (state_of i).holds
unfolding state_of
stands n p =
    either (nat_eq 1 n) (same_place p (record { link = 1; mm = 0; side = Left })) (same_place p (record { link = 1; mm = 1; side = Left }))
    (same_place p (record { link = 1; mm = 1; side = Right })) (same_place p (record { link = 1; mm = 2; side = Left }))

pub some_overlaps_are_shorter : SomeOverlapsAreShorter
some_overlaps_are_shorter = (i, rows, record { sound = sound; stands = stands; fewer = omega arith })
