-- The bands of classes: those of the left side above the axis, those of the right side below it, in the order of the classes.
use Rattle.std.specs.Prelude.{ℕ, ◌+◌, List, [], ◌∷◌, ◌++◌, codes}
use Rattle.std.specs.List.{flat_map}
use Rattle.std.specs.Fmt.{decimal}
use Rattle.lrs_events.specs.Names.{kind_text, side_text}
use Rattle.lrs_events.specs.declared.class.Class.{Class}
use Rattle.lrs_events.specs.declared.class.Kind.{Kind}
use Rattle.lrs_events.specs.declared.class.Kind.TheVariants.{Point, Stretch, Exclusive}
use Rattle.lrs_events.specs.declared.side.Side.{Side}
use Rattle.lrs_events.specs.declared.side.Side.TheVariants.{L, R}
use Rattle.lrs_machine.specs.Lines.{Text}
use Rattle.lrs_report.specs.declared.diagrams.diagram.ClassBands.{ClassBands}
use Rattle.lrs_report.specs.declared.diagrams.diagram.DrawnRow.{DrawnRow}
use Rattle.lrs_report.specs.declared.diagrams.scale.Scale.{Scale}
use Rattle.lrs_report.specs.Drawings.Labels.{labels_text, row_place}
use Rattle.lrs_report.specs.Drawings.Shapes.{row_text, value_text}

-- how far the top of a band is below that of the band before it
abbrev pub pitch : ℕ
pitch = 170

-- ticks for points, boxes for stretches
abbrev pub band_style : Kind → Text
band_style Point = codes "t"
band_style Stretch = codes "b"
band_style Exclusive = codes "b"

-- the line above a band, and the name of its class and side
abbrev pub band_name : Class → Side → ℕ → Text
band_name class side top =
    (codes "<path class='l' d='M1000 " ++ decimal top ++ codes "h10000'/>\n")
    ++ codes "<text x='40' y='" ++ decimal (top + 120) ++ codes "'>" ++ class.name ++ codes " " ++ side_text side ++ codes "</text>\n"

-- where the rows of a band lie, and how they are drawn
abbrev pub band_group : Kind → ℕ → Text
band_group kind top = codes "<g class='" ++ band_style kind ++ codes "' transform='translate(0," ++ decimal (top + 85) ++ codes ")'>\n"

-- what stands before the rows of a band: its line and name, and where it lies
abbrev pub band_head : Class → Side → ℕ → Text
band_head class side top = band_name class side top ++ band_group class.kind top

-- what stands between the rows of a band and their labels
abbrev pub band_middle : ℕ → Text
band_middle top = codes "</g>\n<g transform='translate(20," ++ decimal (top + 120) ++ codes ")'>\n"

-- each row once, and then the labels that fit
abbrev pub band_text : Scale → ℕ → List DrawnRow → Text
band_text s top rows = ((flat_map (row_text s) rows ++ band_middle top) ++ labels_text (row_place s) (λ r. value_text r.value) 0 rows) ++ codes "</g>\n"

-- A band of a class on a side: its head, and its rows with their labels. Nothing else is drawn there.
abbrev pub bands_text : Scale → Class → Side → ℕ → List DrawnRow → Text
bands_text s class side top rows = band_head class side top ++ band_text s top rows

abbrev pub class_head : Class → Text
class_head class = codes "<g data-class='" ++ class.name ++ codes "' data-kind='" ++ kind_text class.kind ++ codes "'>\n"

-- the two bands of a class; the right one is so far below the left one
abbrev pub class_text : Scale → ℕ → ℕ → ClassBands → Text
class_text s shift top c =
    ((class_head c.class ++ bands_text s c.class L top c.left) ++ bands_text s c.class R (top + shift) c.right) ++ codes "</g>\n"

-- the bands of classes, each class below the one before it, from a top on
abbrev pub classes_text : Scale → ℕ → ℕ → List ClassBands → Text
classes_text s shift top [] = []
classes_text s shift top (c ∷ cs) = class_text s shift top c ++ classes_text s shift (top + pitch) cs
