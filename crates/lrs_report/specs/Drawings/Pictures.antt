-- A straight-line diagram as an SVG picture. The unit of the page is a tenth of a pixel; the page is 12,000 wide.
use Rattle.std.specs.Prelude.{ℕ, ◌+◌, ◌*◌, ◌/◌, List, ◌++◌, codes, length}
use Rattle.std.specs.Fmt.{decimal}
use Rattle.lrs_measure.specs.FractionTexts.{metres_text}
use Rattle.lrs_machine.specs.Lines.{Text}
use Rattle.lrs_report.specs.declared.diagrams.diagram.Diagram.{Diagram}
use Rattle.lrs_report.specs.declared.diagrams.scale.Scale.{Scale}
use Rattle.lrs_report.specs.Drawings.Axis.{axis_text}
use Rattle.lrs_report.specs.Drawings.Bands.{classes_text, pitch}
use Rattle.lrs_report.specs.Drawings.Scales.{bar_of, step_of}

-- how high all bands of one side are
abbrev pub bands_height : Diagram → ℕ
bands_height d = pitch * length d.classes

-- where the axis begins: behind the heading and the bands of the left side
abbrev pub axis_top : Diagram → ℕ
axis_top d = 400 + bands_height d

-- how far a band of the right side is below that of the left side
abbrev pub shift_of : Diagram → ℕ
shift_of d = bands_height d + 720

-- how high the page is
abbrev pub height_of : Diagram → ℕ
height_of d = axis_top d + shift_of d + 60

-- ---- the heading

-- how large the picture is
abbrev pub root_text : ℕ → Text
root_text height =
    codes "<svg xmlns='http://www.w3.org/2000/svg' viewBox='0 0 12000 " ++ decimal height ++ codes "' width='1200' height='" ++ decimal (height / 10) ++ codes "' role='img' "

abbrev pub range_text : Scale → Text
range_text s = codes "' data-from='" ++ decimal s.from ++ codes "' data-to='" ++ decimal s.to ++ codes "'>\n"

-- the route, and the stretch that is shown in millimetres, for programs that read the picture
abbrev pub data_text : Diagram → Text
data_text d = (codes "data-route='" ++ d.route) ++ range_text d.scale

-- thick lines for stretches, dark and light in turn, and thin ones for points
abbrev pub style_text : Text
style_text =
    codes "<style>text{font:100px monospace}.h{font-size:130px}path{fill:none;stroke:#000;stroke-width:10}.l{stroke:#ccc}.b path{stroke:#8fb0dc;stroke-width:130;stroke-opacity:.8}.b path:nth-of-type(even){stroke:#ccdcf2}.t path{stroke:#b3540a;stroke-width:16}.p path{stroke:#bbb;stroke-width:90}.p path:nth-of-type(even){stroke:#e2e2e2}</style>\n"

-- the style, and a white page
abbrev pub page_text : ℕ → Text
page_text height = style_text ++ codes "<rect width='12000' height='" ++ decimal height ++ codes "' fill='#fff'/>\n"

-- what the diagram is of
abbrev pub title_text : Diagram → Text
title_text d = (codes "Route " ++ d.route) ++ codes " from " ++ metres_text d.scale.from ++ codes " m to " ++ metres_text d.scale.to ++ codes " m"

-- ... as browsers and readers show it
abbrev pub name_text : Diagram → Text
name_text d = (codes "<title>" ++ title_text d) ++ codes "</title>\n"

-- ... at the top of the page
abbrev pub heading_text : Diagram → Text
heading_text d = (codes "<text class='h' x='40' y='160'>" ++ title_text d) ++ codes "</text>\n"

abbrev pub bar_line : ℕ → Text
bar_line length = codes "<path d='M1000 300v-40h" ++ decimal length ++ codes "v40'/>\n"

abbrev pub bar_label : ℕ → Text
bar_label step = codes "<text x='1020' y='380'>" ++ metres_text step ++ codes " m</text>\n"

-- the scale: a line as long as a step of the axis, and how long that is in metres
abbrev pub bar_text : Diagram → Text
bar_text d = bar_line (bar_of d.scale) ++ bar_label (step_of d.scale)

-- how large the picture is, and what it is of
abbrev pub start_text : Diagram → ℕ → Text
start_text d height = (root_text height ++ data_text d) ++ name_text d

abbrev pub head_text : Diagram → ℕ → Text
head_text d height = ((start_text d height ++ page_text height) ++ heading_text d) ++ bar_text d

-- ---- the picture

-- the heading, the bands and the axis on a page of this height: the axis begins at top, and the bands of the right side are so far below those of the left side
abbrev pub parts_text : Diagram → ℕ → ℕ → ℕ → Text
parts_text d top shift height = ((head_text d height ++ classes_text d.scale shift 400 d.classes) ++ axis_text d top) ++ codes "</svg>\n"

-- A diagram: its heading, the bands of its classes, and the axis between them.
abbrev pub diagram_text : Diagram → Text
diagram_text d = parts_text d (axis_top d) (shift_of d) (height_of d)
