-- A worked example: a speed limit on both sides of a link becomes shorter, and stays on the left side alone; and a link is added.
use Rattle.std.specs.Prelude.{◌≡◌, ℕ, IsTrue, refl, List, [], ◌∷◌, codes}
use Rattle.lrs_measure.specs.Limits.{is_link}
use Rattle.lrs_element.specs.declared.link.Link.{Link}
use Rattle.lrs_events.specs.declared.class.Kind.TheVariants.{Stretch}
use Rattle.lrs_events.specs.declared.side.Side.{Side}
use Rattle.lrs_events.specs.declared.side.Side.TheVariants.{L, R, B}
use Rattle.lrs_events.specs.declared.span.Span.{Span}
use Rattle.lrs_machine.specs.declared.image.Image.{Image}
use Rattle.lrs_difference.specs.declared.line.AssetFacts.{AssetFacts}
use Rattle.lrs_difference.specs.declared.line.Item.TheVariants as item
use Rattle.lrs_difference.specs.Difference.{added, course_of_link, difference, removed}

abbrev pub link : (number length : ℕ) → IsTrue (is_link number length) → Link
link number length fits = record { number = number; length = length; limits = fits }

abbrev pub limit : ℕ → ℕ → Side → Span
limit from to side = record { asset = 10; class = codes "SPEED"; from = from; to = to; side = side }

-- one route along link 1, and these rows of asset 10
abbrev pub road : List Link → List Span → Image
road links spans = record {
  links = links;
  classes = record { name = codes "SPEED"; kind = Stretch } ∷ [];
  assets = record { number = 10; class = codes "SPEED"; value = codes "80"; lateral = 0; entered_by = 1 } ∷ [];
  routes =
      record {
        route = record {
          name = codes "A1";
          course = course_of_link (1, 10);
          marks = record { chainage = 0; measure = 0 } ∷ record { chainage = 10; measure = 10 } ∷ [];
          refs = [];
          fits = refl;
        };
        spans = spans;
      }
      ∷ [];
  entered = [];
  gone = [];
  edits = [];
}

abbrev pub long : Image
long = road (link 1 10 refl ∷ []) (limit 2 8 B ∷ [])

abbrev pub short : Image
short = road (link 1 10 refl ∷ link 2 6 refl ∷ []) (limit 4 8 L ∷ [])

abbrev pub limit_facts : AssetFacts
limit_facts = record { number = 10; class = codes "SPEED"; value = codes "80"; lateral = 0 }

-- The link is added; the two first millimetres are no longer held on either side, and the others not on the right.
abbrev pub ShorterLimitIsTold : Type 0
ShorterLimitIsTold = difference long short ≡ added (item.Link 2 6) ∷ removed (item.Holds limit_facts 1 2 4 B) ∷ removed (item.Holds limit_facts 1 4 8 R) ∷ []
