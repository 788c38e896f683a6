-- Which parameter is the first malformed one.
use Rattle.std.proofs.Common.{◌≡◌, ℕ, Bool, true, false, if◌then◌else◌, List, [], ◌∷◌, Option, refl, sym, ap, subst, inl, inr}
use Rattle.std.specs.Prelude.{⊤}
use Rattle.lrs_measure.specs.Texts.{Name}
use Rattle.lrs_position.specs.declared.expression.Expr.{Expr}
use Rattle.lrs_events.specs.declared.side.Side.{Side as HandSide}
use Rattle.lrs_events.specs.declared.side.LinkSide.{LinkSide}
use Rattle.lrs_machine.specs.declared.question.Place.{Place}
use Rattle.lrs_web_requests.specs.declared.paths.Resource.{Resource}
use Rattle.lrs_web_requests.specs.declared.paths.Resource.TheVariants as path
use Rattle.lrs_web_replies.specs.declared.question.Parameter.{Parameter}
use Rattle.lrs_web_replies.specs.declared.question.Parameter.TheVariants.{Route, RouteOrAll, Method, Position, To, Side, SideOrBoth, Class, ClassOrAll, ClassesOrAll, From, UpTo, Asset, AssetOrAll, FirstEdit, EditOrAll, Since, Until, Exact, RowsOnLinks, Gaps, Chainage, OnLink, Millimetre, By}
use Rattle.lrs_web_replies.specs.declared.question.QueryFault.{QueryFault}
use Rattle.lrs_web_replies.specs.declared.question.QueryFault.TheVariants.{Malformed, NoRoute, Memory}
use Rattle.lrs_web_replies.specs.Faults.{Lacks, LacksForm, LacksPosition}
use Rattle.lrs_web_replies.specs.Questions.{Text, CannotAsk, GivesAssetOrAll, GivesClassOrAll, GivesClassesOrAll, GivesEditOrAll, GivesFirstEdit, GivesFrom, GivesGaps, GivesLink, GivesPosition, GivesRoute, GivesRouteOrAll, GivesSide, GivesSideOrBoth, GivesSince, GivesUntil, GivesUpTo, IsFirstMalformed, IsGiven, is_on_link, parameters_of}

-- the fault is the first of these, or memory ran out
abbrev FaultAmong : Text → List Parameter → QueryFault → Type 0
FaultAmong query ps (Malformed p) = IsFirstMalformed query ps p
FaultAmong query ps NoRoute = ⊥
FaultAmong query ps Memory = ⊤

first : (query : Text) (q : Parameter) (qs : List Parameter) (e : QueryFault) → Lacks q query e → FaultAmong query (q ∷ qs) e
first query q qs e (inl memory) = subst (FaultAmong query (q ∷ qs)) (sym memory) tt
first query q qs e (inr lacks) = subst (FaultAmong query (q ∷ qs)) (sym lacks.0) (inl (refl, lacks.1))

later : (query : Text) (q : Parameter) (qs : List Parameter) (e : QueryFault) → IsGiven query q → FaultAmong query qs e → FaultAmong query (q ∷ qs) e
later query q qs (Malformed p) given among = inr (given, among)
later query q qs NoRoute given among = absurd among
later query q qs Memory given among = tt

-- nothing is asked where the fault is the first of the parameters of a resource
cannot : (resource : Resource) (query : Text) (e : QueryFault) → FaultAmong query (parameters_of resource query) e → CannotAsk resource query e
cannot resource query (Malformed p) among = among
cannot resource query NoRoute among = absurd among
cannot resource query Memory among = tt

position : (query : Text) (qs : List Parameter) (e : QueryFault) → LacksPosition query e → FaultAmong query (Method ∷ Position ∷ qs) e
position query qs e (inl lacks) = first query Method (Position ∷ qs) e lacks
position query qs e (inr lacks) = later query Method (Position ∷ qs) e lacks.0 (first query Position qs e lacks.1)

pub at_route : (query : Text) (e : QueryFault) → Lacks Route query e → CannotAsk path.At query e
at_route query e lacks = cannot path.At query e (first query Route (Method ∷ Position ∷ []) e lacks)

pub at_position : (query : Text) (e : QueryFault) (route : Name) → GivesRoute query route → LacksPosition query e → CannotAsk path.At query e
at_position query e route given lacks = cannot path.At query e (later query Route (Method ∷ Position ∷ []) e (route, given) (position query [] e lacks))

pub segments_route : (query : Text) (e : QueryFault) → Lacks Route query e → CannotAsk path.Segments query e
segments_route query e lacks = cannot path.Segments query e (first query Route (Side ∷ Class ∷ []) e lacks)

pub segments_side : (query : Text) (e : QueryFault) (route : Name) → GivesRoute query route → Lacks Side query e → CannotAsk path.Segments query e
segments_side query e route given lacks = cannot path.Segments query e (later query Route (Side ∷ Class ∷ []) e (route, given) (first query Side (Class ∷ []) e lacks))

pub segments_class : (query : Text) (e : QueryFault) (route : Name) (side : HandSide) → GivesRoute query route → GivesSide query side → Lacks Class query e → CannotAsk path.Segments query e
segments_class query e route side given seen lacks =
    cannot path.Segments query e (later query Route (Side ∷ Class ∷ []) e (route, given) (later query Side (Class ∷ []) e (side, seen) (first query Class [] e lacks)))

pub translate_route : (query : Text) (e : QueryFault) → Lacks Route query e → CannotAsk path.Translate query e
translate_route query e lacks = cannot path.Translate query e (first query Route (Method ∷ Position ∷ To ∷ []) e lacks)

pub translate_position : (query : Text) (e : QueryFault) (route : Name) → GivesRoute query route → LacksPosition query e → CannotAsk path.Translate query e
translate_position query e route given lacks = cannot path.Translate query e (later query Route (Method ∷ Position ∷ To ∷ []) e (route, given) (position query (To ∷ []) e lacks))

pub translate_to : (query : Text) (e : QueryFault) (route : Name) (x : Expr) → GivesRoute query route → GivesPosition query x → Lacks To query e → CannotAsk path.Translate query e
translate_to query e route x given stated lacks =
    cannot path.Translate query e (
    later query Route (Method ∷ Position ∷ To ∷ []) e (route, given) (
    later query Method (Position ∷ To ∷ []) e (stated.0, stated.1) (later query Position (To ∷ []) e (x, stated) (first query To [] e lacks))
    )
    )

pub diagram_route : (query : Text) (e : QueryFault) → Lacks Route query e → CannotAsk path.Diagram query e
diagram_route query e lacks = cannot path.Diagram query e (first query Route (ClassesOrAll ∷ From ∷ UpTo ∷ []) e lacks)

-- behind a route that is given
behind_route : (query : Text) (e : QueryFault) (route : Name) → GivesRoute query route → FaultAmong query (ClassesOrAll ∷ From ∷ UpTo ∷ []) e → CannotAsk path.Diagram query e
behind_route query e route given among = cannot path.Diagram query e (later query Route (ClassesOrAll ∷ From ∷ UpTo ∷ []) e (route, given) among)

-- behind classes, or none, that are given
behind_classes : (query : Text) (e : QueryFault) (classes : List Name) → GivesClassesOrAll query classes → FaultAmong query (From ∷ UpTo ∷ []) e → FaultAmong query (ClassesOrAll ∷ From ∷ UpTo ∷ []) e
behind_classes query e classes named among = later query ClassesOrAll (From ∷ UpTo ∷ []) e (classes, named) among

pub diagram_classes : (query : Text) (e : QueryFault) (route : Name) → GivesRoute query route → Lacks ClassesOrAll query e → CannotAsk path.Diagram query e
diagram_classes query e route given lacks = behind_route query e route given (first query ClassesOrAll (From ∷ UpTo ∷ []) e lacks)

pub diagram_from : (query : Text) (e : QueryFault) (route : Name) (classes : List Name) → GivesRoute query route → GivesClassesOrAll query classes → Lacks From query e → CannotAsk path.Diagram query e
diagram_from query e route classes given named lacks = behind_route query e route given (behind_classes query e classes named (first query From (UpTo ∷ []) e lacks))

pub diagram_to : (query : Text) (e : QueryFault) (route : Name) (classes : List Name) (from : Option Place) → GivesRoute query route → GivesClassesOrAll query classes → GivesFrom query from → Lacks UpTo query e → CannotAsk path.Diagram query e
diagram_to query e route classes from given named began lacks =
    behind_route query e route given (behind_classes query e classes named (later query From (UpTo ∷ []) e (from, began) (first query UpTo [] e lacks)))

pub find_asset : (query : Text) (e : QueryFault) → Lacks Asset query e → CannotAsk path.Find query e
find_asset query e lacks = cannot path.Find query e (first query Asset [] e lacks)

pub log_edit : (query : Text) (e : QueryFault) → Lacks FirstEdit query e → CannotAsk path.Log query e
log_edit query e lacks = cannot path.Log query e (first query FirstEdit (Until ∷ []) e lacks)

pub log_until : (query : Text) (e : QueryFault) (from : ℕ) → GivesFirstEdit query from → Lacks Until query e → CannotAsk path.Log query e
log_until query e from begun lacks = cannot path.Log query e (later query FirstEdit (Until ∷ []) e (from, begun) (first query Until [] e lacks))

-- ---- lists

pub refs_route : (query : Text) (e : QueryFault) → Lacks RouteOrAll query e → CannotAsk path.Refs query e
refs_route query e lacks = cannot path.Refs query e (first query RouteOrAll (Exact ∷ []) e lacks)

pub refs_exact : (query : Text) (e : QueryFault) (route : Option Name) → GivesRouteOrAll query route → Lacks Exact query e → CannotAsk path.Refs query e
refs_exact query e route given lacks = cannot path.Refs query e (later query RouteOrAll (Exact ∷ []) e (route, given) (first query Exact [] e lacks))

pub marks_route : (query : Text) (e : QueryFault) → Lacks RouteOrAll query e → CannotAsk path.Marks query e
marks_route query e lacks = cannot path.Marks query e (first query RouteOrAll [] e lacks)

pub pieces_route : (query : Text) (e : QueryFault) → Lacks RouteOrAll query e → CannotAsk path.Pieces query e
pieces_route query e lacks = cannot path.Pieces query e (first query RouteOrAll [] e lacks)

pub history_asset : (query : Text) (e : QueryFault) → Lacks Asset query e → CannotAsk path.History query e
history_asset query e lacks = cannot path.History query e (first query Asset [] e lacks)

-- ---- what is gone

pub gone_edit : (query : Text) (e : QueryFault) → Lacks EditOrAll query e → CannotAsk path.Gone query e
gone_edit query e lacks = cannot path.Gone query e (first query EditOrAll (Since ∷ Until ∷ ClassOrAll ∷ []) e lacks)

-- behind an edit, or none, that is given
gone_behind_edit : (query : Text) (e : QueryFault) (edit : Option ℕ) → GivesEditOrAll query edit → FaultAmong query (Since ∷ Until ∷ ClassOrAll ∷ []) e → CannotAsk path.Gone query e
gone_behind_edit query e edit given among = cannot path.Gone query e (later query EditOrAll (Since ∷ Until ∷ ClassOrAll ∷ []) e (edit, given) among)

pub gone_since : (query : Text) (e : QueryFault) (edit : Option ℕ) → GivesEditOrAll query edit → Lacks Since query e → CannotAsk path.Gone query e
gone_since query e edit given lacks = gone_behind_edit query e edit given (first query Since (Until ∷ ClassOrAll ∷ []) e lacks)

-- behind the first edit, or none, that is given
gone_behind_since : (query : Text) (e : QueryFault) (edit since : Option ℕ) → GivesEditOrAll query edit → GivesSince query since → FaultAmong query (Until ∷ ClassOrAll ∷ []) e → CannotAsk path.Gone query e
gone_behind_since query e edit since given begun among = gone_behind_edit query e edit given (later query Since (Until ∷ ClassOrAll ∷ []) e (since, begun) among)

pub gone_until : (query : Text) (e : QueryFault) (edit since : Option ℕ) → GivesEditOrAll query edit → GivesSince query since → Lacks Until query e → CannotAsk path.Gone query e
gone_until query e edit since given begun lacks = gone_behind_since query e edit since given begun (first query Until (ClassOrAll ∷ []) e lacks)

pub gone_class : (query : Text) (e : QueryFault) (edit since until : Option ℕ) → GivesEditOrAll query edit → GivesSince query since → GivesUntil query until → Lacks ClassOrAll query e → CannotAsk path.Gone query e
gone_class query e edit since until given begun ended lacks =
    gone_behind_since query e edit since given begun (later query Until (ClassOrAll ∷ []) e (until, ended) (first query ClassOrAll [] e lacks))

-- ---- rows

-- the parameters of rows from each on, in their order
abbrev from_form : List Parameter
from_form = Exact ∷ RowsOnLinks ∷ []

abbrev from_asset : List Parameter
from_asset = AssetOrAll ∷ from_form

abbrev from_class : List Parameter
from_class = ClassOrAll ∷ from_asset

abbrev from_end : List Parameter
from_end = UpTo ∷ from_class

abbrev from_start : List Parameter
from_start = From ∷ from_end

-- the measures as they are, or the links
form : (query : Text) (qs : List Parameter) (e : QueryFault) → LacksForm query e → FaultAmong query (Exact ∷ RowsOnLinks ∷ qs) e
form query qs e (inl lacks) = first query Exact (RowsOnLinks ∷ qs) e lacks
form query qs e (inr lacks) = later query Exact (RowsOnLinks ∷ qs) e lacks.0 (first query RowsOnLinks qs e lacks.1)

pub rows_route : (query : Text) (e : QueryFault) → Lacks RouteOrAll query e → CannotAsk path.Rows query e
rows_route query e lacks = cannot path.Rows query e (first query RouteOrAll from_start e lacks)

-- behind a route, or none, that is given
rows_behind_route : (query : Text) (e : QueryFault) (route : Option Name) → GivesRouteOrAll query route → FaultAmong query from_start e → CannotAsk path.Rows query e
rows_behind_route query e route given among = cannot path.Rows query e (later query RouteOrAll from_start e (route, given) among)

-- behind a start, or none, that is given
rows_behind_from : (query : Text) (e : QueryFault) (route : Option Name) (from : Option Place) → GivesRouteOrAll query route → GivesFrom query from → FaultAmong query from_end e → CannotAsk path.Rows query e
rows_behind_from query e route from given began among = rows_behind_route query e route given (later query From from_end e (from, began) among)

-- behind an end, or none, that is given
rows_behind_to : (query : Text) (e : QueryFault) (route : Option Name) (from to : Option Place) → GivesRouteOrAll query route → GivesFrom query from → GivesUpTo query to
    → FaultAmong query from_class e → CannotAsk path.Rows query e
rows_behind_to query e route from to given began ended among = rows_behind_from query e route from given began (later query UpTo from_class e (to, ended) among)

-- behind a class, or none, that is given
rows_behind_class : (query : Text) (e : QueryFault) (route : Option Name) (from to : Option Place) (class : Option Name) → GivesRouteOrAll query route → GivesFrom query from → GivesUpTo query to
    → GivesClassOrAll query class → FaultAmong query from_asset e → CannotAsk path.Rows query e
rows_behind_class query e route from to class given began ended named among = rows_behind_to query e route from to given began ended (later query ClassOrAll from_asset e (class, named) among)

pub rows_from : (query : Text) (e : QueryFault) (route : Option Name) → GivesRouteOrAll query route → Lacks From query e → CannotAsk path.Rows query e
rows_from query e route given lacks = rows_behind_route query e route given (first query From from_end e lacks)

pub rows_to : (query : Text) (e : QueryFault) (route : Option Name) (from : Option Place) → GivesRouteOrAll query route → GivesFrom query from → Lacks UpTo query e → CannotAsk path.Rows query e
rows_to query e route from given began lacks = rows_behind_from query e route from given began (first query UpTo from_class e lacks)

pub rows_class : (query : Text) (e : QueryFault) (route : Option Name) (from to : Option Place) → GivesRouteOrAll query route → GivesFrom query from → GivesUpTo query to
    → Lacks ClassOrAll query e → CannotAsk path.Rows query e
rows_class query e route from to given began ended lacks = rows_behind_to query e route from to given began ended (first query ClassOrAll from_asset e lacks)

pub rows_asset : (query : Text) (e : QueryFault) (route : Option Name) (from to : Option Place) (class : Option Name) → GivesRouteOrAll query route → GivesFrom query from → GivesUpTo query to
    → GivesClassOrAll query class → Lacks AssetOrAll query e → CannotAsk path.Rows query e
rows_asset query e route from to class given began ended named lacks = rows_behind_class query e route from to class given began ended named (first query AssetOrAll from_form e lacks)

pub rows_form : (query : Text) (e : QueryFault) (route : Option Name) (from to : Option Place) (class : Option Name) (asset : Option ℕ) → GivesRouteOrAll query route → GivesFrom query from
    → GivesUpTo query to → GivesClassOrAll query class → GivesAssetOrAll query asset → LacksForm query e → CannotAsk path.Rows query e
rows_form query e route from to class asset given began ended named numbered lacks =
    rows_behind_class query e route from to class given began ended named (later query AssetOrAll from_form e (asset, numbered) (form query [] e lacks))

pub lengths_route : (query : Text) (e : QueryFault) → Lacks RouteOrAll query e → CannotAsk path.Lengths query e
lengths_route query e lacks = cannot path.Lengths query e (first query RouteOrAll (By ∷ []) e lacks)

pub lengths_by : (query : Text) (e : QueryFault) (route : Option Name) → GivesRouteOrAll query route → Lacks By query e → CannotAsk path.Lengths query e
lengths_by query e route given lacks = cannot path.Lengths query e (later query RouteOrAll (By ∷ []) e (route, given) (first query By [] e lacks))

-- ---- overlays

-- the parameters of an overlay from each on, in their order
abbrev from_gaps : List Parameter
from_gaps = Gaps ∷ Class ∷ []

abbrev from_up_to : List Parameter
from_up_to = UpTo ∷ from_gaps

abbrev from_stretch : List Parameter
from_stretch = From ∷ from_up_to

abbrev from_side : List Parameter
from_side = SideOrBoth ∷ from_stretch

pub overlay_route : (query : Text) (e : QueryFault) → Lacks RouteOrAll query e → CannotAsk path.Overlay query e
overlay_route query e lacks = cannot path.Overlay query e (first query RouteOrAll from_side e lacks)

-- behind a route, or none, that is given
overlay_behind_route : (query : Text) (e : QueryFault) (route : Option Name) → GivesRouteOrAll query route → FaultAmong query from_side e → CannotAsk path.Overlay query e
overlay_behind_route query e route given among = cannot path.Overlay query e (later query RouteOrAll from_side e (route, given) among)

pub overlay_side : (query : Text) (e : QueryFault) (route : Option Name) → GivesRouteOrAll query route → Lacks SideOrBoth query e → CannotAsk path.Overlay query e
overlay_side query e route given lacks = overlay_behind_route query e route given (first query SideOrBoth from_stretch e lacks)

-- behind a side, or none, that is given
overlay_behind_side : (query : Text) (e : QueryFault) (route : Option Name) (side : Option LinkSide) → GivesRouteOrAll query route → GivesSideOrBoth query side
    → FaultAmong query from_stretch e → CannotAsk path.Overlay query e
overlay_behind_side query e route side given seen among = overlay_behind_route query e route given (later query SideOrBoth from_stretch e (side, seen) among)

pub overlay_from : (query : Text) (e : QueryFault) (route : Option Name) (side : Option LinkSide) → GivesRouteOrAll query route → GivesSideOrBoth query side
    → Lacks From query e → CannotAsk path.Overlay query e
overlay_from query e route side given seen lacks = overlay_behind_side query e route side given seen (first query From from_up_to e lacks)

-- behind a start, or none, that is given
overlay_behind_from : (query : Text) (e : QueryFault) (route : Option Name) (side : Option LinkSide) (from : Option Place) → GivesRouteOrAll query route → GivesSideOrBoth query side
    → GivesFrom query from → FaultAmong query from_up_to e → CannotAsk path.Overlay query e
overlay_behind_from query e route side from given seen began among = overlay_behind_side query e route side given seen (later query From from_up_to e (from, began) among)

pub overlay_to : (query : Text) (e : QueryFault) (route : Option Name) (side : Option LinkSide) (from : Option Place) → GivesRouteOrAll query route → GivesSideOrBoth query side
    → GivesFrom query from → Lacks UpTo query e → CannotAsk path.Overlay query e
overlay_to query e route side from given seen began lacks = overlay_behind_from query e route side from given seen began (first query UpTo from_gaps e lacks)

-- behind an end, or none, that is given
overlay_behind_to : (query : Text) (e : QueryFault) (route : Option Name) (side : Option LinkSide) (from to : Option Place) → GivesRouteOrAll query route → GivesSideOrBoth query side
    → GivesFrom query from → GivesUpTo query to → FaultAmong query from_gaps e → CannotAsk path.Overlay query e
overlay_behind_to query e route side from to given seen began ended among =
    overlay_behind_from query e route side from given seen began (later query UpTo from_gaps e (to, ended) among)

pub overlay_gaps : (query : Text) (e : QueryFault) (route : Option Name) (side : Option LinkSide) (from to : Option Place) → GivesRouteOrAll query route → GivesSideOrBoth query side
    → GivesFrom query from → GivesUpTo query to → Lacks Gaps query e → CannotAsk path.Overlay query e
overlay_gaps query e route side from to given seen began ended lacks = overlay_behind_to query e route side from to given seen began ended (first query Gaps (Class ∷ []) e lacks)

pub overlay_class : (query : Text) (e : QueryFault) (route : Option Name) (side : Option LinkSide) (from to : Option Place) (gaps : Bool) → GivesRouteOrAll query route → GivesSideOrBoth query side
    → GivesFrom query from → GivesUpTo query to → GivesGaps query gaps → Lacks Class query e → CannotAsk path.Overlay query e
overlay_class query e route side from to gaps given seen began ended asked lacks =
    overlay_behind_to query e route side from to given seen began ended (later query Gaps (Class ∷ []) e (gaps, asked) (first query Class [] e lacks))

-- ---- places

-- the parameters are by the way in which a place is asked for
place : (query : Text) (ps : List Parameter) (e : QueryFault) → parameters_of path.Where query ≡ ps → FaultAmong query ps e → CannotAsk path.Where query e
place query ps e is among = cannot path.Where query e (subst (λ qs. FaultAmong query qs e) (sym is) among)

by_way : (query : Text) (by : Bool) → is_on_link query ≡ by → parameters_of path.Where query ≡ (if by then OnLink ∷ Millimetre ∷ [] else Route ∷ Chainage ∷ [])
by_way query by is = ap (λ b. if b then OnLink ∷ Millimetre ∷ [] else Route ∷ Chainage ∷ []) is

pub where_link : (query : Text) (e : QueryFault) → is_on_link query ≡ true → Lacks OnLink query e → CannotAsk path.Where query e
where_link query e on lacks = place query (OnLink ∷ Millimetre ∷ []) e (by_way query true on) (first query OnLink (Millimetre ∷ []) e lacks)

pub where_mm : (query : Text) (e : QueryFault) (link : ℕ) → is_on_link query ≡ true → GivesLink query link → Lacks Millimetre query e → CannotAsk path.Where query e
where_mm query e link on given lacks =
    place query (OnLink ∷ Millimetre ∷ []) e (by_way query true on) (later query OnLink (Millimetre ∷ []) e (link, given) (first query Millimetre [] e lacks))

pub where_route : (query : Text) (e : QueryFault) → is_on_link query ≡ false → Lacks Route query e → CannotAsk path.Where query e
where_route query e on lacks = place query (Route ∷ Chainage ∷ []) e (by_way query false on) (first query Route (Chainage ∷ []) e lacks)

pub where_chainage : (query : Text) (e : QueryFault) (route : Name) → is_on_link query ≡ false → GivesRoute query route → Lacks Chainage query e → CannotAsk path.Where query e
where_chainage query e route on given lacks =
    place query (Route ∷ Chainage ∷ []) e (by_way query false on) (later query Route (Chainage ∷ []) e (route, given) (first query Chainage [] e lacks))
