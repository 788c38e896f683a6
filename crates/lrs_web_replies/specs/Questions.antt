-- What the parameters of a query ask of an inventory.
use Rattle.std.specs.Prelude.{◌≡◌, ⊤, ◌⊎◌, ℕ, ◌≤◌, IsTrue, Bool, true, false, if◌then◌else◌, List, [], ◌∷◌, codes, map, Option, None, Some}
use Rattle.std.specs.List.{list_all}
use Rattle.std.specs.Option.{option_map_or}
use Rattle.std.specs.Str.Parse.{IsNumeral, digits_value}
use Rattle.lrs_measure.specs.Limits.{greatest_asset, greatest_link, longest_link, most_edits}
use Rattle.lrs_measure.specs.Texts.{Name}
use Rattle.lrs_position.specs.declared.expression.Expr.{Expr}
use Rattle.lrs_position.specs.declared.expression.Method.{Method}
use Rattle.lrs_position.specs.Names.{is_route_name}
use Rattle.lrs_position.specs.Readings.{IsNamed, States, method_text, target_text}
use Rattle.lrs_events.specs.declared.side.Side.{Side}
use Rattle.lrs_events.specs.declared.side.LinkSide.{LinkSide}
use Rattle.lrs_events.specs.Names.{is_class_name, side_text}
use Rattle.lrs_machine.specs.PlaceTexts.{SaysPlace}
use Rattle.lrs_machine.specs.declared.question.GoneWanted.{GoneWanted}
use Rattle.lrs_machine.specs.declared.question.OverlayAsked.{OverlayAsked}
use Rattle.lrs_machine.specs.declared.question.Place.{Place}
use Rattle.lrs_machine.specs.declared.question.RowForm.{RowForm}
use Rattle.lrs_machine.specs.declared.question.RowForm.TheVariants as form
use Rattle.lrs_machine.specs.declared.question.RowsAsked.{RowsAsked}
use Rattle.lrs_machine.specs.declared.question.AskedPlace.{AskedPlace}
use Rattle.lrs_machine.specs.declared.question.AskedPlace.TheVariants as spot
use Rattle.lrs_report_lists.specs.Lines.{link_side_text}
use Rattle.lrs_web_requests.specs.Query.{parameter, parameters, switched}
use Rattle.lrs_web_requests.specs.declared.paths.Resource.{Resource}
use Rattle.lrs_web_requests.specs.declared.paths.Resource.TheVariants as path
use Rattle.lrs_machine.specs.declared.question.Destination.{Destination}
use Rattle.lrs_machine.specs.declared.question.Destination.TheVariants as destination
use Rattle.lrs_web_replies.specs.declared.question.Parameter.{Parameter}
use Rattle.lrs_web_replies.specs.declared.question.Parameter.TheVariants.{Route, RouteOrAll, Method as Way, Position, To, Side as Hand, SideOrBoth, Class, ClassOrAll, ClassesOrAll, From, UpTo, Asset, AssetOrAll, FirstEdit, EditOrAll, Since, Until, Exact, RowsOnLinks, Gaps, Chainage, OnLink, Millimetre, By}
use Rattle.lrs_machine.specs.declared.question.Question.{Question}
use Rattle.lrs_machine.specs.declared.question.Question.TheVariants as question
use Rattle.lrs_machine.specs.declared.question.Listing.TheVariants as listing
use Rattle.lrs_web_replies.specs.declared.question.QueryFault.{QueryFault}
use Rattle.lrs_web_replies.specs.declared.question.QueryFault.TheVariants.{Malformed, NoRoute, Memory}

abbrev pub Text : Type 0
Text = Name

-- ---- what a text says

abbrev pub SaysRoute : Text → Name → Type 0
SaysRoute text route = (route ≡ text) × IsTrue (is_route_name text)

abbrev pub SaysClass : Text → Name → Type 0
SaysClass text class = (class ≡ text) × IsTrue (is_class_name text)

abbrev pub SaysMethod : Text → Method → Type 0
SaysMethod text m = text ≡ method_text m

abbrev pub SaysSide : Text → Side → Type 0
SaysSide text side = text ≡ side_text side

-- one side, not both
abbrev pub SaysLinkSide : Text → LinkSide → Type 0
SaysLinkSide text side = text ≡ link_side_text side

-- a method and what it needs, or `link`
abbrev pub SaysDestination : Text → Destination → Type 0
SaysDestination text (destination.Method t) = (text ≡ target_text t) × IsNamed t
SaysDestination text destination.Link = text ≡ codes "link"

-- digits of a number between these bounds
pub record SaysNumber (least greatest : ℕ) (text : Text) (number : ℕ) : Type 0 where
  pub digits : IsNumeral 10 text
  pub value : number ≡ digits_value 10 text
  pub above : least ≤ number
  pub below : number ≤ greatest

abbrev pub SaysAsset : Text → ℕ → Type 0
SaysAsset = SaysNumber 1 greatest_asset

-- the number of a link
abbrev pub SaysLink : Text → ℕ → Type 0
SaysLink = SaysNumber 1 greatest_link

-- whole millimetres along a link
abbrev pub SaysMillimetre : Text → ℕ → Type 0
SaysMillimetre = SaysNumber 0 longest_link

-- the number of an edit
abbrev pub SaysEdit : Text → ℕ → Type 0
SaysEdit = SaysNumber 1 most_edits

-- one name at least, and each the name of a class
abbrev pub are_class_names : List Text → Bool
are_class_names [] = false
are_class_names (text ∷ texts) = list_all is_class_name (text ∷ texts)

-- ---- what a query gives

-- the text that a parameter has, if it has one, says this
abbrev pub Said : {A : Type 0} → (Text → A → Type 0) → Option Text → A → Type 0
Said Says None x = ⊥
Said Says (Some text) x = Says text x

abbrev pub GivesRoute : Text → Name → Type 0
GivesRoute query = Said SaysRoute (parameter (codes "route") query)

abbrev pub GivesMethod : Text → Method → Type 0
GivesMethod query = Said SaysMethod (parameter (codes "method") query)

-- by this method
abbrev pub GivesPositionBy : Text → Method → Expr → Type 0
GivesPositionBy query m = Said (States m) (parameter (codes "pos") query)

-- by the method that is given
abbrev pub GivesPosition : Text → Expr → Type 0
GivesPosition query e = (m : Method) × GivesMethod query m × GivesPositionBy query m e

abbrev pub GivesDestination : Text → Destination → Type 0
GivesDestination query = Said SaysDestination (parameter (codes "to") query)

abbrev pub GivesSide : Text → Side → Type 0
GivesSide query = Said SaysSide (parameter (codes "side") query)

-- all that are given, in their order
abbrev pub GivesClasses : Text → List Name → Type 0
GivesClasses query classes = (classes ≡ parameters (codes "class") query) × IsTrue (are_class_names (parameters (codes "class") query))

-- all that are given, in their order; none is given where all classes are meant
abbrev pub GivesClassesOrAll : Text → List Name → Type 0
GivesClassesOrAll query classes = (classes ≡ parameters (codes "class") query) × IsTrue (list_all is_class_name (parameters (codes "class") query))

-- all that are given, in their order; none is given where the lengths of each value are meant
abbrev pub GivesBy : Text → List Name → Type 0
GivesBy query classes = (classes ≡ parameters (codes "by") query) × IsTrue (list_all is_class_name (parameters (codes "by") query))

-- the text says this, and where there is no text nothing is said
abbrev pub SaidIfGiven : {A : Type 0} → (Text → A → Type 0) → Option Text → Option A → Type 0
SaidIfGiven Says None None = ⊤
SaidIfGiven Says (Some text) (Some x) = Says text x
SaidIfGiven Says _ _ = ⊥

-- where a stretch of a route begins, and where it ends
abbrev pub GivesFrom : Text → Option Place → Type 0
GivesFrom query = SaidIfGiven SaysPlace (parameter (codes "from") query)

abbrev pub GivesUpTo : Text → Option Place → Type 0
GivesUpTo query = SaidIfGiven SaysPlace (parameter (codes "to") query)

abbrev pub GivesAsset : Text → ℕ → Type 0
GivesAsset query = Said SaysAsset (parameter (codes "asset") query)

-- none is given where all routes, classes, assets or edits are meant
abbrev pub GivesRouteOrAll : Text → Option Name → Type 0
GivesRouteOrAll query = SaidIfGiven SaysRoute (parameter (codes "route") query)

abbrev pub GivesClassOrAll : Text → Option Name → Type 0
GivesClassOrAll query = SaidIfGiven SaysClass (parameter (codes "class") query)

abbrev pub GivesAssetOrAll : Text → Option ℕ → Type 0
GivesAssetOrAll query = SaidIfGiven SaysAsset (parameter (codes "asset") query)

abbrev pub GivesEditOrAll : Text → Option ℕ → Type 0
GivesEditOrAll query = SaidIfGiven SaysEdit (parameter (codes "edit") query)

-- the number of the first edit, and of the last, that may have taken parts away; of the log the last one alone
abbrev pub GivesSince : Text → Option ℕ → Type 0
GivesSince query = SaidIfGiven SaysEdit (parameter (codes "since") query)

abbrev pub GivesUntil : Text → Option ℕ → Type 0
GivesUntil query = SaidIfGiven SaysEdit (parameter (codes "until") query)

-- whether measures are told as they are
abbrev pub GivesExact : Text → Bool → Type 0
GivesExact query exact = switched (codes "exact") query ≡ Some exact

-- whether rows are told on the links under them
abbrev pub GivesOnLinks : Text → Bool → Type 0
GivesOnLinks query on_links = switched (codes "on_links") query ≡ Some on_links

-- how rows are told: in one way alone
abbrev pub form_by : Bool → Bool → Option RowForm
form_by false false = Some form.Decimal
form_by true false = Some form.Exact
form_by false true = Some form.OnLinks
form_by true true = None

abbrev pub GivesForm : Text → RowForm → Type 0
GivesForm query told = (exact : Bool) × (on_links : Bool) × GivesExact query exact × GivesOnLinks query on_links × (form_by exact on_links ≡ Some told)

-- which rows are asked for, and how they are told
abbrev pub GivesRows : Text → RowsAsked → Type 0
GivesRows query a =
    GivesRouteOrAll query a.route × GivesFrom query a.from × GivesUpTo query a.to × GivesClassOrAll query a.class × GivesAssetOrAll query a.asset
    × GivesForm query a.form

-- both sides are meant where none is given
abbrev pub GivesSideOrBoth : Text → Option LinkSide → Type 0
GivesSideOrBoth query = SaidIfGiven SaysLinkSide (parameter (codes "side") query)

-- whether an overlay is told only where a class has no value
abbrev pub GivesGaps : Text → Bool → Type 0
GivesGaps query gaps = switched (codes "gaps") query ≡ Some gaps

-- of which classes an overlay is asked for, and where
abbrev pub GivesOverlay : Text → OverlayAsked → Type 0
GivesOverlay query a =
    GivesRouteOrAll query a.route × GivesSideOrBoth query a.side × GivesFrom query a.from × GivesUpTo query a.to × GivesGaps query a.gaps
    × GivesClasses query a.classes

-- which parts that are gone are asked for
abbrev pub GivesGone : Text → GoneWanted → Type 0
GivesGone query w = GivesEditOrAll query w.edit × GivesSince query w.since × GivesUntil query w.until × GivesClassOrAll query w.class

-- the text says the number of the edit, and where there is no text it is the first
abbrev pub SaidOrFirst : Option Text → ℕ → Type 0
SaidOrFirst None number = number ≡ 1
SaidOrFirst (Some text) number = SaysEdit text number

abbrev pub GivesFirstEdit : Text → ℕ → Type 0
GivesFirstEdit query = SaidOrFirst (parameter (codes "from") query)

abbrev pub GivesPlaceOnRoute : Text → Place → Type 0
GivesPlaceOnRoute query = Said SaysPlace (parameter (codes "chainage") query)

abbrev pub GivesLink : Text → ℕ → Type 0
GivesLink query = Said SaysLink (parameter (codes "link") query)

abbrev pub GivesMillimetre : Text → ℕ → Type 0
GivesMillimetre query = Said SaysMillimetre (parameter (codes "mm") query)

-- a place is asked for on a link where a link is named, and else on a route
abbrev pub is_on_link : Text → Bool
is_on_link query = option_map_or (λ text. true) (parameter (codes "link") query) false

abbrev pub GivesSpot : Text → AskedPlace → Type 0
GivesSpot query (spot.OnLink link mm) = (is_on_link query ≡ true) × GivesLink query link × GivesMillimetre query mm
GivesSpot query (spot.OnRoute route place) = (is_on_link query ≡ false) × GivesRoute query route × GivesPlaceOnRoute query place

-- ---- what is asked

-- the lengths of each value of each class, or of the combinations of the values of classes where some are given
abbrev pub lengths_question : Option Name → List Name → Question
lengths_question route [] = question.Lengths route
lengths_question route (c ∷ cs) = question.Combinations route (c ∷ cs)

-- What a resource is asked by this argument: a route by its name, any other by what the parameters of its query give.
abbrev pub AsksOf : Resource → Text → Question → Type 0
AsksOf path.At query q = (route : Name) × (e : Expr) × GivesRoute query route × GivesPosition query e × (q ≡ question.At route e)
AsksOf path.Route name q = (route : Name) × SaysRoute name route × (q ≡ question.Route route)
AsksOf path.Segments query q =
    (route : Name) × (side : Side) × (classes : List Name) × GivesRoute query route × GivesSide query side × GivesClasses query classes
    × (q ≡ question.Segments route side classes)
AsksOf path.Translate query q =
    (route : Name) × (e : Expr) × (to : Destination) × GivesRoute query route × GivesPosition query e × GivesDestination query to
    × (q ≡ question.Translate route e to)
AsksOf path.Totals query q = q ≡ question.Totals
AsksOf path.Diagram query q =
    (route : Name) × (classes : List Name) × (from : Option Place) × (to : Option Place) × GivesRoute query route × GivesClassesOrAll query classes
    × GivesFrom query from × GivesUpTo query to × (q ≡ question.Diagram route classes from to)
AsksOf path.Find query q = (asset : ℕ) × GivesAsset query asset × (q ≡ question.Find asset)
AsksOf path.Where query q = (s : AskedPlace) × GivesSpot query s × (q ≡ question.Where s)
AsksOf path.Lengths query q =
    (route : Option Name) × GivesRouteOrAll query route × ((classes : List Name) × GivesBy query classes × (q ≡ lengths_question route classes))
AsksOf path.Routes query q = q ≡ question.List listing.Routes
AsksOf path.Links query q = q ≡ question.List listing.Links
AsksOf path.Classes query q = q ≡ question.List listing.Classes
AsksOf path.Refs query q = (route : Option Name) × (exact : Bool) × GivesRouteOrAll query route × GivesExact query exact × (q ≡ question.List (listing.Refs route exact))
AsksOf path.Marks query q = (route : Option Name) × GivesRouteOrAll query route × (q ≡ question.List (listing.Marks route))
AsksOf path.Pieces query q = (route : Option Name) × GivesRouteOrAll query route × (q ≡ question.List (listing.Pieces route))
AsksOf path.Rows query q = (asked : RowsAsked) × GivesRows query asked × (q ≡ question.Rows asked)
AsksOf path.Overlay query q = (asked : OverlayAsked) × GivesOverlay query asked × (q ≡ question.Overlay asked)
AsksOf path.Gone query q = (wanted : GoneWanted) × GivesGone query wanted × (q ≡ question.List (listing.Gone wanted))
AsksOf path.History query q = (asset : ℕ) × GivesAsset query asset × (q ≡ question.List (listing.History asset))
AsksOf path.Log query q = (from : ℕ) × (until : Option ℕ) × GivesFirstEdit query from × GivesUntil query until × (q ≡ question.List (listing.Log from until))
AsksOf path.Health query q = q ≡ question.Health
AsksOf _ argument q = ⊥

-- ---- what cannot be asked

-- the parameters of each path, in the order in which they are read; those of a place are by the way in which it is asked for
abbrev pub parameters_of : Resource → Text → List Parameter
parameters_of path.At query = Route ∷ Way ∷ Position ∷ []
parameters_of path.Segments query = Route ∷ Hand ∷ Class ∷ []
parameters_of path.Translate query = Route ∷ Way ∷ Position ∷ To ∷ []
parameters_of path.Diagram query = Route ∷ ClassesOrAll ∷ From ∷ UpTo ∷ []
parameters_of path.Find query = Asset ∷ []
parameters_of path.Log query = FirstEdit ∷ Until ∷ []
parameters_of path.Refs query = RouteOrAll ∷ Exact ∷ []
parameters_of path.Marks query = RouteOrAll ∷ []
parameters_of path.Pieces query = RouteOrAll ∷ []
parameters_of path.Rows query = RouteOrAll ∷ From ∷ UpTo ∷ ClassOrAll ∷ AssetOrAll ∷ Exact ∷ RowsOnLinks ∷ []
parameters_of path.Overlay query = RouteOrAll ∷ SideOrBoth ∷ From ∷ UpTo ∷ Gaps ∷ Class ∷ []
parameters_of path.Lengths query = RouteOrAll ∷ By ∷ []
parameters_of path.Gone query = EditOrAll ∷ Since ∷ Until ∷ ClassOrAll ∷ []
parameters_of path.History query = Asset ∷ []
parameters_of path.Where query = if is_on_link query then OnLink ∷ Millimetre ∷ [] else Route ∷ Chainage ∷ []
parameters_of _ query = []

abbrev pub parameter_text : Parameter → Text
parameter_text Route = codes "route"
parameter_text RouteOrAll = codes "route"
parameter_text Way = codes "method"
parameter_text Position = codes "pos"
parameter_text To = codes "to"
parameter_text Hand = codes "side"
parameter_text SideOrBoth = codes "side"
parameter_text Class = codes "class"
parameter_text ClassOrAll = codes "class"
parameter_text ClassesOrAll = codes "class"
parameter_text From = codes "from"
parameter_text UpTo = codes "to"
parameter_text Asset = codes "asset"
parameter_text AssetOrAll = codes "asset"
parameter_text FirstEdit = codes "from"
parameter_text EditOrAll = codes "edit"
parameter_text Since = codes "since"
parameter_text Until = codes "until"
parameter_text Exact = codes "exact"
parameter_text RowsOnLinks = codes "on_links"
parameter_text Gaps = codes "gaps"
parameter_text Chainage = codes "chainage"
parameter_text OnLink = codes "link"
parameter_text Millimetre = codes "mm"
parameter_text By = codes "by"

-- the parameter is there, or may be left out, and can be read; rows that are told on links are not told with measures
abbrev pub IsGiven : Text → Parameter → Type 0
IsGiven query Route = (route : Name) × GivesRoute query route
IsGiven query RouteOrAll = (route : Option Name) × GivesRouteOrAll query route
IsGiven query Way = (m : Method) × GivesMethod query m
IsGiven query Position = (e : Expr) × GivesPosition query e
IsGiven query To = (to : Destination) × GivesDestination query to
IsGiven query Hand = (side : Side) × GivesSide query side
IsGiven query SideOrBoth = (side : Option LinkSide) × GivesSideOrBoth query side
IsGiven query Class = (classes : List Name) × GivesClasses query classes
IsGiven query ClassOrAll = (class : Option Name) × GivesClassOrAll query class
IsGiven query ClassesOrAll = (classes : List Name) × GivesClassesOrAll query classes
IsGiven query From = (from : Option Place) × GivesFrom query from
IsGiven query UpTo = (to : Option Place) × GivesUpTo query to
IsGiven query Asset = (asset : ℕ) × GivesAsset query asset
IsGiven query AssetOrAll = (asset : Option ℕ) × GivesAssetOrAll query asset
IsGiven query FirstEdit = (from : ℕ) × GivesFirstEdit query from
IsGiven query EditOrAll = (edit : Option ℕ) × GivesEditOrAll query edit
IsGiven query Since = (since : Option ℕ) × GivesSince query since
IsGiven query Until = (until : Option ℕ) × GivesUntil query until
IsGiven query Exact = (exact : Bool) × GivesExact query exact
IsGiven query RowsOnLinks = (told : RowForm) × GivesForm query told
IsGiven query Gaps = (gaps : Bool) × GivesGaps query gaps
IsGiven query Chainage = (place : Place) × GivesPlaceOnRoute query place
IsGiven query OnLink = (link : ℕ) × GivesLink query link
IsGiven query Millimetre = (mm : ℕ) × GivesMillimetre query mm
IsGiven query By = (classes : List Name) × GivesBy query classes

-- the first of these that is not
abbrev pub IsFirstMalformed : Text → List Parameter → Parameter → Type 0
IsFirstMalformed query [] p = ⊥
IsFirstMalformed query (q ∷ qs) p = ((p ≡ q) × (IsGiven query q → ⊥)) ⊎ (IsGiven query q × IsFirstMalformed query qs p)

-- why a resource is asked nothing by this argument
abbrev pub CannotAsk : Resource → Text → QueryFault → Type 0
CannotAsk resource query (Malformed p) = IsFirstMalformed query (parameters_of resource query) p
CannotAsk path.Route name NoRoute = IsTrue (is_route_name name) → ⊥
CannotAsk resource argument NoRoute = ⊥
CannotAsk resource argument Memory = ⊤

-- ---- what is not known

-- the names of the parameters by which a path is asked; of a place, those of either way
abbrev pub known_names : Resource → List Text
known_names path.Where = map parameter_text (Route ∷ Chainage ∷ OnLink ∷ Millimetre ∷ [])
known_names resource = map parameter_text (parameters_of resource [])

-- whether a path passes over parameters that it does not know
abbrev pub passes_over : Resource → Bool
passes_over path.At = true
passes_over path.Route = true
passes_over path.Segments = true
passes_over path.Translate = true
passes_over path.Totals = true
passes_over path.Health = true
passes_over path.Edits = true
passes_over path.Surveys = true
passes_over path.EditsCheck = true
passes_over path.SurveysCheck = true
passes_over path.Questions = true
passes_over (path.Draft kind) = true
passes_over _ = false
