-- The verbs of edit sheets.
use Rattle.std.specs.Prelude.{Bool, List, [], ◌∷◌, codes}
use Rattle.std.specs.List.{list_any}
use Rattle.std.specs.Str.{bytes_eq}
use Rattle.clap.specs.Words.{Text}

abbrev pub verbs : List Text
verbs =
    codes "link" ∷ codes "class" ∷ codes "route" ∷ codes "ref" ∷ codes "unref" ∷ codes "enter" ∷ codes "retire" ∷ codes "supersede" ∷ codes "split" ∷ codes "join"
    ∷ codes "renumber" ∷ codes "recalibrate" ∷ codes "turn" ∷ codes "realign" ∷ codes "close" ∷ []

abbrev pub is_verb : Text → Bool
is_verb name = list_any (bytes_eq name) verbs
