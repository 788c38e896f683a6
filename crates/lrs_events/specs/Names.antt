-- The alphabets of class names and values, and the texts of kinds and sides.
use Rattle.std.specs.Prelude.{ℕ, ◌&&◌, not, Bool, List, codes}
use Rattle.lrs_measure.specs.Alphabets.{is_capital, is_word_byte, is_text, is_lone_dash}
use Rattle.lrs_events.specs.declared.class.Kind.{Kind}
use Rattle.lrs_events.specs.declared.class.Kind.TheVariants.{Point, Stretch, Exclusive}
use Rattle.lrs_events.specs.declared.side.Side.{Side}
use Rattle.lrs_events.specs.declared.side.Side.TheVariants.{L, R, B}

-- 1 to 8 bytes of `A-Z0-9`
abbrev pub is_class_name : List ℕ → Bool
is_class_name text = is_text 8 is_capital text

-- 1 to 12 bytes of `A-Za-z0-9._-`, not `-` alone
abbrev pub is_value : List ℕ → Bool
is_value text = is_text 12 is_word_byte text && not (is_lone_dash text)

abbrev pub kind_text : Kind → List ℕ
kind_text Point = codes "point"
kind_text Stretch = codes "stretch"
kind_text Exclusive = codes "exclusive"

abbrev pub side_text : Side → List ℕ
side_text L = codes "L"
side_text R = codes "R"
side_text B = codes "B"
