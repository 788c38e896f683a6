-- The lengths of combinations of the values of exclusive classes, as JSON.
use Rattle.std.specs.Prelude.{List, [], ◌∷◌, codes, map}
use Rattle.serde_json.specs.Data.{Data}
use Rattle.lrs_measure.specs.Texts.{Name}
use Rattle.lrs_report_answers.specs.declared.combinations.Combination.{Combination}
use Rattle.lrs_web_replies.specs.JsonParts.{each, whole, with}
use Rattle.lrs_web_replies.specs.Listings.{named_list}
use Rattle.lrs_web_replies.specs.Overlay.{held_data}

-- a combination: how many millimetres of the routes have it on the left, on either side, and on the right, and the value of each class, in the order in which the classes are asked for
abbrev pub combination_data : Combination → Data
combination_data c = with (
    (codes "left", whole c.left) ∷ (codes "length", whole c.length) ∷ (codes "right", whole c.right) ∷ (codes "values", each held_data c.values) ∷ []
    )

-- every combination; the names of the classes are not repeated
abbrev pub combinations_data : List Name → List Combination → Data
combinations_data classes combinations = named_list (codes "combinations") (map combination_data combinations)
