-- The axis of a diagram: chainage in metres, measures at the marks, referents, and the links that the route runs over.
use Rattle.std.specs.Prelude.{ℕ, ◌+◌, ◌*◌, ◌/◌, if◌then◌else◌, List, [], ◌∷◌, ◌++◌, codes}
use Rattle.std.specs.List.{flat_map, range_with_len}
use Rattle.std.specs.Fmt.{decimal}
use Rattle.lrs_measure.specs.FractionTexts.{metres_text}
use Rattle.lrs_machine.specs.Lines.{Text}
use Rattle.lrs_report.specs.declared.diagrams.diagram.Diagram.{Diagram}
use Rattle.lrs_report.specs.declared.diagrams.diagram.DrawnPiece.{DrawnPiece}
use Rattle.lrs_report.specs.declared.diagrams.scale.Scale.{Scale}
use Rattle.lrs_report.specs.Drawings.Labels.{labels_text, mark_place, piece_label, piece_place, referent_place}
use Rattle.lrs_report.specs.Drawings.Scales.{has_place, step_of, x_at}
use Rattle.lrs_report.specs.Drawings.Shapes.{mark_text, piece_text, referent_text}

-- the names of the rows, and the axis itself
abbrev pub axis_names : Text
axis_names =
    codes "<text x='40' y='130'>referents</text>\n<text x='40' y='260'>measures</text>\n<text x='40' y='480'>metres</text>\n<text x='40' y='635'>links</text>\n<path d='M1000 340h10000'/>\n"

-- the axis lies so far below the top of the page
abbrev pub axis_head : ℕ → Text
axis_head top = (codes "<g data-axis='true' transform='translate(0," ++ decimal top ++ codes ")'>\n") ++ axis_names

abbrev pub tick_line : ℕ → Text
tick_line x = codes "<path d='M" ++ decimal x ++ codes " 340v50'/>\n"

abbrev pub tick_start : ℕ → Text
tick_start x = codes "<text text-anchor='middle' x='" ++ decimal x ++ codes "' y='480'>"

abbrev pub tick_metres : ℕ → Text
tick_metres chainage = metres_text chainage ++ codes "</text>\n"

-- a tick with its chainage in metres
abbrev pub tick_text : Scale → ℕ → Text
tick_text s chainage = (tick_line (x_at s chainage) ++ tick_start (x_at s chainage)) ++ tick_metres chainage

-- the chainage of the tick of this number, counted from the last one at or before the start
abbrev pub tick_at : Scale → ℕ → ℕ
tick_at s i = (s.from / step_of s + i) * step_of s

-- ... where it stands in the stretch
abbrev pub shown_tick : Scale → ℕ → Text
shown_tick s i = if has_place s (tick_at s i) then tick_text s (tick_at s i) else []

-- the ticks: ten steps are no shorter than the stretch, and one begins before it
abbrev pub ticks_text : Scale → Text
ticks_text s = flat_map (shown_tick s) (range_with_len 0 12)

-- the links, each as a box with its number and direction
abbrev pub links_text : Scale → List DrawnPiece → Text
links_text s pieces =
    ((codes "<g class='p' transform='translate(0,600)'>\n" ++ flat_map (piece_text s) pieces) ++ codes "</g>\n<g transform='translate(20,635)'>\n")
    ++ labels_text (piece_place s) piece_label 0 pieces

-- the ticks of referents, marks and chainages, and the links
abbrev pub axis_lines : Diagram → Text
axis_lines d =
    ((flat_map (referent_text d.scale) d.referents ++ flat_map (mark_text d.scale) d.marks) ++ ticks_text d.scale)
    ++ links_text d.scale d.pieces

-- the names of referents, and the measures at marks
abbrev pub axis_labels : Diagram → Text
axis_labels d =
    ((codes "</g>\n<g transform='translate(20,130)'>\n" ++ labels_text (referent_place d.scale) (λ r. r.name) 0 d.referents) ++ codes "</g>\n<g transform='translate(20,260)'>\n")
    ++ labels_text (mark_place d.scale) (λ m. decimal m.measure) 0 d.marks

-- The axis, so far below the top of the page.
abbrev pub axis_text : Diagram → ℕ → Text
axis_text d top = ((axis_head top ++ axis_lines d) ++ axis_labels d) ++ codes "</g>\n</g>\n"
