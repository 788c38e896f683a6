-- What a job's words ask of an inventory, and which of them cannot be read.
use Rattle.std.specs.Prelude.{◌≡◌, ◌⊎◌, ⊤, ℕ, ◌≤◌, Bool, false, true, IsTrue, IsSomeAnd, List, [], ◌∷◌, ◌++◌, length, Option, Some, None, is_some, map, option_map, codes, slice_get}
use Rattle.std.specs.Str.Parse.{IsNumeral, digits_value}
use Rattle.clap.specs.Words.{Text}
use Rattle.lrs_measure.specs.Limits.{greatest_asset, greatest_link, longest_link, most_edits}
use Rattle.lrs_measure.specs.Texts.{Name}
use Rattle.lrs_position.specs.declared.expression.Expr.{Expr}
use Rattle.lrs_position.specs.declared.expression.Method.{Method}
use Rattle.lrs_position.specs.Names.{is_route_name}
use Rattle.lrs_position.specs.Readings.{IsNamed, States, method_text, target_text}
use Rattle.lrs_events.specs.declared.side.LinkSide.{LinkSide}
use Rattle.lrs_events.specs.declared.side.LinkSide.TheVariants.{Left, Right}
use Rattle.lrs_events.specs.declared.side.Side.{Side}
use Rattle.lrs_events.specs.Names.{is_class_name, side_text}
use Rattle.lrs_cli_words.specs.declared.comparison.Compared.{Compared}
use Rattle.lrs_cli_words.specs.declared.comparison.Compared.TheVariants as compared
use Rattle.lrs_cli_words.specs.declared.comparison.Source.{Source}
use Rattle.lrs_cli_words.specs.declared.comparison.Source.TheVariants as source
use Rattle.lrs_cli_words.specs.declared.job.Job.{Job}
use Rattle.lrs_cli_words.specs.declared.job.Job.TheVariants as job
use Rattle.lrs_cli_words.specs.declared.question.BadWord.{BadWord}
use Rattle.lrs_cli_words.specs.declared.question.BadWord.TheVariants as word
use Rattle.lrs_machine.specs.Keys.{is_key}
use Rattle.lrs_sheet_records.specs.Words.{AreSaid, parts_of}
use Rattle.lrs_machine.specs.declared.question.Destination.{Destination}
use Rattle.lrs_machine.specs.declared.question.Destination.TheVariants as destination
use Rattle.lrs_machine.specs.declared.question.Listing.{Listing}
use Rattle.lrs_machine.specs.declared.question.Listing.TheVariants as listing
use Rattle.lrs_machine.specs.declared.question.Question.{Question}
use Rattle.lrs_machine.specs.declared.question.Question.TheVariants as question
use Rattle.lrs_machine.specs.declared.question.GoneWanted.{GoneWanted}
use Rattle.lrs_machine.specs.declared.question.OverlayAsked.{OverlayAsked}
use Rattle.lrs_machine.specs.declared.question.Place.{Place}
use Rattle.lrs_machine.specs.declared.question.RowForm.{RowForm}
use Rattle.lrs_machine.specs.declared.question.RowForm.TheVariants as form
use Rattle.lrs_machine.specs.declared.question.RowsAsked.{RowsAsked}
use Rattle.lrs_machine.specs.PlaceTexts.{SaysPlace}
use Rattle.lrs_machine.specs.declared.question.AskedPlace.{AskedPlace}
use Rattle.lrs_machine.specs.declared.question.AskedPlace.TheVariants as spot
use Rattle.lrs_cli_words.specs.declared.question.Service.{Service}
use Rattle.lrs_cli_words.specs.declared.question.QuestionFault.{QuestionFault}
use Rattle.lrs_cli_words.specs.declared.question.QuestionFault.TheVariants.{Unreadable, Memory}

-- ---- what a text says

abbrev pub SaysRoute : Text → Name → Type 0
SaysRoute text route = (route ≡ text) × IsTrue (is_route_name text)

abbrev pub SaysMethod : Text → Method → Type 0
SaysMethod text m = text ≡ method_text m

-- a position by the method that the first text names
abbrev pub SaysPosition : Text → Text → Expr → Type 0
SaysPosition method text e = (m : Method) × SaysMethod method m × States m text e

-- a method and what it needs, or `link`
abbrev pub SaysDestination : Text → Destination → Type 0
SaysDestination text (destination.Method t) = (text ≡ target_text t) × IsNamed t
SaysDestination text destination.Link = text ≡ codes "link"

abbrev pub SaysSide : Text → Side → Type 0
SaysSide text side = text ≡ side_text side

-- one side of a route, seen along it
abbrev pub SaysLinkSide : Text → LinkSide → Type 0
SaysLinkSide text Left = text ≡ codes "L"
SaysLinkSide text Right = text ≡ codes "R"

abbrev pub SaysClass : Text → Name → Type 0
SaysClass text class = (class ≡ text) × IsTrue (is_class_name text)

-- the classes that a text names, with a comma between two: a text has one part at least
abbrev pub SaysClasses : Text → List Name → Type 0
SaysClasses text classes = AreSaid SaysClass (parts_of 44 text) classes

-- digits of a number between these bounds
pub record SaysNumber (least greatest : ℕ) (text : Text) (number : ℕ) : Type 0 where
  pub digits : IsNumeral 10 text
  pub value : number ≡ digits_value 10 text
  pub above : least ≤ number
  pub below : number ≤ greatest

abbrev pub SaysAsset : Text → ℕ → Type 0
SaysAsset = SaysNumber 1 greatest_asset

abbrev pub SaysPort : Text → ℕ → Type 0
SaysPort = SaysNumber 1 65_535

-- what a text says, where there is one
abbrev pub SaysIfGiven : {A : Type 0} → (Text → A → Type 0) → Option Text → Option A → Type 0
SaysIfGiven Says (Some text) (Some x) = Says text x
SaysIfGiven Says None None = ⊤
SaysIfGiven Says _ _ = ⊥

-- the place at an end, where a text says one
abbrev pub SaysEnd : Option Text → Option Place → Type 0
SaysEnd = SaysIfGiven SaysPlace

-- the number of a link, and a millimetre of it
abbrev pub SaysLink : Text → ℕ → Type 0
SaysLink = SaysNumber 1 greatest_link

abbrev pub SaysMillimetre : Text → ℕ → Type 0
SaysMillimetre = SaysNumber 0 longest_link

-- the number of an edit
abbrev pub SaysEdit : Text → ℕ → Type 0
SaysEdit = SaysNumber 1 most_edits

-- the key of a command
abbrev pub SaysKey : Text → Name → Type 0
SaysKey text key = (key ≡ text) × IsTrue (is_key text)

-- what is listed without measures, and not by routes
abbrev pub IsWholeList : Text → Type 0
IsWholeList what = (what ≡ codes "routes") ⊎ (what ≡ codes "links") ⊎ (what ≡ codes "classes")

-- what is listed of each route, without measures that can be fractions
abbrev pub IsListOfRoutes : Text → Type 0
IsListOfRoutes what = (what ≡ codes "marks") ⊎ (what ≡ codes "pieces")

-- what is listed, of one route where it is named, and with measures as they are or as decimals
abbrev pub SaysList : Text → Option Text → Bool → Listing → Type 0
SaysList what route exact listing.Routes = (what ≡ codes "routes") × (route ≡ None) × (exact ≡ false)
SaysList what route exact listing.Links = (what ≡ codes "links") × (route ≡ None) × (exact ≡ false)
SaysList what route exact listing.Classes = (what ≡ codes "classes") × (route ≡ None) × (exact ≡ false)
SaysList what route exact (listing.Refs name are_exact) = (what ≡ codes "refs") × SaysIfGiven SaysRoute route name × (are_exact ≡ exact)
SaysList what route exact (listing.Marks name) = (what ≡ codes "marks") × SaysIfGiven SaysRoute route name × (exact ≡ false)
SaysList what route exact (listing.Pieces name) = (what ≡ codes "pieces") × SaysIfGiven SaysRoute route name × (exact ≡ false)
SaysList what route exact _ = ⊥

-- the form of rows that the options say
abbrev pub IsForm : Bool → Bool → RowForm → Type 0
IsForm exact on_links form.Decimal = (exact ≡ false) × (on_links ≡ false)
IsForm exact on_links form.Exact = (exact ≡ true) × (on_links ≡ false)
IsForm exact on_links form.OnLinks = (exact ≡ false) × (on_links ≡ true)

-- the number of the first edit, which is 1 where none is given
abbrev pub SaysFirst : Option Text → ℕ → Type 0
SaysFirst (Some text) n = SaysEdit text n
SaysFirst None n = n ≡ 1

-- how many connections
abbrev pub SaysMost : Text → ℕ → Type 0
SaysMost = SaysNumber 0 1_000_000

-- a length of replies, in bytes
abbrev pub SaysReplyLength : Text → ℕ → Type 0
SaysReplyLength = SaysNumber 1 1_000_000_000_000

-- how long a reply is at most: as the word says, or 64 MiB
abbrev pub SaysMostReply : Option Text → ℕ → Type 0
SaysMostReply (Some text) bytes = SaysReplyLength text bytes
SaysMostReply None bytes = bytes ≡ 67_108_864

-- the port and how many connections, as these words say, and how they are served, as the options do
pub record SaysService (at most : Text) (tells ends : Bool) (longest : Option Text) (shows : Bool) (service : Service) : Type 0 where
  pub port : SaysPort at service.port
  pub max : SaysMost most service.max
  pub logs : service.logs ≡ tells
  pub ends_on_fault : service.ends_on_fault ≡ ends
  pub most_reply : SaysMostReply longest service.most_reply
  pub shows_page : service.shows_page ≡ shows

-- ---- questions

-- the job asks no single question: it does, checks, drafts or tidies a sheet, answers a sheet of questions, tells a difference, sums its log, audits, serves, or writes the page
abbrev pub AsksNothing : Job → Type 0
AsksNothing (job.Edit db sheet sums resume all whole ask) = ⊤
AsksNothing (job.Survey db sheet sums resume all whole ask) = ⊤
AsksNothing (job.Check db sheet survey diff) = ⊤
AsksNothing (job.Tidy file survey) = ⊤
AsksNothing (job.Ask db questions) = ⊤
AsksNothing (job.Log db from until key text true) = ⊤
AsksNothing (job.Diff db others since) = ⊤
AsksNothing (job.Draft what db words number key) = ⊤
AsksNothing (job.Audit db) = ⊤
AsksNothing (job.Serve db port max sums log end_on_fault most_reply page) = ⊤
AsksNothing (job.Page dir) = ⊤
AsksNothing _ = ⊥

-- a position on a route
abbrev pub AsksAt : Text → Text → Text → Question → Type 0
AsksAt route method position (question.At r e) = SaysRoute route r × SaysPosition method position e
AsksAt route method position _ = ⊥

-- the same, to be said in another way
abbrev pub AsksTranslate : Text → Text → Text → Text → Question → Type 0
AsksTranslate route method position to (question.Translate r e d) = SaysRoute route r × SaysPosition method position e × SaysDestination to d
AsksTranslate route method position to _ = ⊥

-- the segments of a side of a route by these classes
abbrev pub AsksStrip : Text → Text → List Text → Question → Type 0
AsksStrip route side classes (question.Segments r s names) = SaysRoute route r × SaysSide side s × (names ≡ classes)
AsksStrip route side classes _ = ⊥

-- a diagram of a route with these classes, from a place to another
abbrev pub AsksDiagram : Text → List Text → Option Text → Option Text → Question → Type 0
AsksDiagram route classes from to (question.Diagram r names first last) = SaysRoute route r × (names ≡ classes) × SaysEnd from first × SaysEnd to last
AsksDiagram route classes from to _ = ⊥

-- a place of a route
abbrev pub IsOnRoute : Text → Text → AskedPlace → Type 0
IsOnRoute route place (spot.OnRoute r p) = SaysRoute route r × SaysPlace place p
IsOnRoute route place _ = ⊥

-- a millimetre of a link
abbrev pub IsOnLink : Text → Text → AskedPlace → Type 0
IsOnLink link mm (spot.OnLink l m) = SaysLink link l × SaysMillimetre mm m
IsOnLink link mm p = ⊥

-- a route and a place of it; or `link`, a link and a millimetre
abbrev pub IsPlace : Text → Text → Option Text → AskedPlace → Type 0
IsPlace route place None p = IsOnRoute route place p
IsPlace route place (Some mm) p = (route ≡ codes "link") × IsOnLink place mm p

-- the rows that these words ask for
pub record AreAsked (on from to of number : Option Text) (asked : RowsAsked) : Type 0 where
  pub route : SaysIfGiven SaysRoute on asked.route
  pub start : SaysEnd from asked.from
  pub end : SaysEnd to asked.to
  pub class : SaysIfGiven SaysClass of asked.class
  pub asset : SaysIfGiven SaysAsset number asked.asset

-- the overlay that these words ask for
pub record IsOverlayAsked (names : List Text) (on at from to : Option Text) (lacking : Bool) (asked : OverlayAsked) : Type 0 where
  pub classes : asked.classes ≡ names
  pub route : SaysIfGiven SaysRoute on asked.route
  pub side : SaysIfGiven SaysLinkSide at asked.side
  pub start : SaysEnd from asked.from
  pub end : SaysEnd to asked.to
  pub gaps : asked.gaps ≡ lacking

-- what of all that is gone these words ask for
pub record AreGoneAsked (by of from to : Option Text) (wanted : GoneWanted) : Type 0 where
  pub edit : SaysIfGiven SaysEdit by wanted.edit
  pub class : SaysIfGiven SaysClass of wanted.class
  pub since : SaysIfGiven SaysEdit from wanted.since
  pub until : SaysIfGiven SaysEdit to wanted.until

-- the edit of the key; or those from a number on, which is 1 where it is not given, and up to another where that is
abbrev pub AsksLog : Option Text → Option Text → Option Text → Listing → Type 0
AsksLog from until None (listing.Log n last) = SaysFirst from n × SaysIfGiven SaysEdit until last
AsksLog None None (Some key) (listing.LogOfKey k) = SaysKey key k
AsksLog from until key l = ⊥

-- how long each value of each class is; or, where classes are named, each combination of their values
abbrev pub AsksLengths : Option Text → Option Text → Question → Type 0
AsksLengths route None (question.Lengths name) = SaysIfGiven SaysRoute route name
AsksLengths route (Some by) (question.Combinations name classes) = SaysIfGiven SaysRoute route name × SaysClasses by classes
AsksLengths route by q = ⊥

-- the question is what the job's words say
abbrev pub Asks : Job → Question → Type 0
Asks (job.At db route method position) q = AsksAt route.now method.now position.now q
Asks (job.Translate db route method position to) q = AsksTranslate route.now method.now position.now to.now q
Asks (job.Strip db route side classes) q = AsksStrip route.now side.now (map (λ w. w.now) classes.items) q
Asks (job.Diagram db route classes from to) q = AsksDiagram route.now (map (λ w. w.now) classes.items) (option_map (λ w. w.now) from) (option_map (λ w. w.now) to) q
Asks (job.Totals db) question.Totals = ⊤
Asks (job.Find db asset) (question.Find n) = SaysAsset asset.now n
Asks (job.Route db route) (question.Route name) = SaysRoute route.now name
Asks (job.Where db route place mm) (question.Where spot) = IsPlace route.now place.now (option_map (λ w. w.now) mm) spot
Asks (job.Lengths db route by text columns) q = AsksLengths (option_map (λ w. w.now) route) (option_map (λ w. w.now) by) q
Asks (job.List db what route exact text columns) (question.List l) = SaysList what.now (option_map (λ w. w.now) route) exact l
Asks (job.Rows db route from to class asset exact on_links text columns) (question.Rows asked) =
    AreAsked (option_map (λ w. w.now) route) (option_map (λ w. w.now) from) (option_map (λ w. w.now) to) (option_map (λ w. w.now) class) (option_map (λ w. w.now) asset) asked
    × IsForm exact on_links asked.form
Asks (job.Overlay db classes route side from to gaps text columns) (question.Overlay asked) =
    IsOverlayAsked (map (λ w. w.now) classes.items) (option_map (λ w. w.now) route) (option_map (λ w. w.now) side) (option_map (λ w. w.now) from) (option_map (λ w. w.now) to) gaps asked
Asks (job.Gone db edit class since until text columns) (question.List (listing.Gone wanted)) =
    AreGoneAsked (option_map (λ w. w.now) edit) (option_map (λ w. w.now) class) (option_map (λ w. w.now) since) (option_map (λ w. w.now) until) wanted
Asks (job.History db asset text columns) (question.List (listing.History n)) = SaysAsset asset.now n
Asks (job.Log db from until key text false) (question.List l) = AsksLog (option_map (λ w. w.now) from) (option_map (λ w. w.now) until) (option_map (λ w. w.now) key) l
Asks _ q = ⊥

-- ---- sums

-- The number of the edit up to which a log is summed, where it is given; there is no key and no last edit beside it.
abbrev pub SaysSummed : Option Text → Option Text → Option Text → Option ℕ → Type 0
SaysSummed from None None up_to = SaysIfGiven SaysEdit from up_to
SaysSummed from until key up_to = ⊥

-- ---- two inventories

-- the words of a source: the file of an inventory; or `:log` and the file of a log
abbrev pub source_words : Source → List Text
source_words (source.Inventory db) = db.now ∷ []
source_words (source.Log file) = codes ":log" ∷ file.now ∷ []

-- `:log` is no name of an inventory
abbrev pub IsSource : Source → Type 0
IsSource (source.Inventory db) = db.now ≡ codes ":log" → ⊥
IsSource (source.Log file) = ⊤

-- the words of two sources, one behind the other; or those of one inventory, and the number of an edit
abbrev pub SaysCompared : List Text → Option Text → Compared → Type 0
SaysCompared words None (compared.Inventories before after) = (words ≡ source_words before ++ source_words after) × IsSource before × IsSource after
SaysCompared words (Some since) (compared.Since edit) = (length words ≡ 1) × SaysEdit since edit
SaysCompared words since c = ⊥

-- ---- words that cannot be read

-- the fault is this word, which says nothing of its kind
abbrev pub Cannot : {A : Type 0} → BadWord → (A → Type 0) → QuestionFault → Type 0
Cannot {A} w Says fault = (fault ≡ Unreadable w) × ((x : A) → Says x → ⊥)

-- the method, or the position by it
abbrev pub CannotPosition : Text → Text → QuestionFault → Type 0
CannotPosition method text fault = Cannot word.Method (SaysMethod method) fault ⊎ ((m : Method) × SaysMethod method m × Cannot word.Position (States m text) fault)

-- one of the classes
abbrev pub CannotClass : List Text → QuestionFault → Type 0
CannotClass texts fault = (i : ℕ) × IsSomeAnd (slice_get texts i) (λ text. Cannot word.Class (SaysClass text) fault)

-- the route, or the position on it
abbrev pub CannotAt : Text → Text → Text → QuestionFault → Type 0
CannotAt route method position fault = Cannot word.Route (SaysRoute route) fault ⊎ CannotPosition method position fault

-- the route, the position or how to say it
abbrev pub CannotTranslate : Text → Text → Text → Text → QuestionFault → Type 0
CannotTranslate route method position to fault = CannotAt route method position fault ⊎ Cannot word.Destination (SaysDestination to) fault

-- the route, the side or a class, or lack of memory for the classes
abbrev pub CannotStrip : Text → Text → List Text → QuestionFault → Type 0
CannotStrip route side classes fault =
    Cannot word.Route (SaysRoute route) fault ⊎ Cannot word.Side (SaysSide side) fault ⊎ (fault ≡ Memory) ⊎ CannotClass classes fault

-- the same of a word that was given
abbrev pub CannotIfGiven : {A : Type 0} → BadWord → (Text → A → Type 0) → Option Text → QuestionFault → Type 0
CannotIfGiven w Says text fault = IsSomeAnd text (λ t. Cannot w (Says t) fault)

-- the place at an end, which was given
abbrev pub CannotEnd : BadWord → Option Text → QuestionFault → Type 0
CannotEnd w = CannotIfGiven w SaysPlace

-- the route, a class or an end of a diagram, or lack of memory for the classes
abbrev pub CannotDiagram : Text → List Text → Option Text → Option Text → QuestionFault → Type 0
CannotDiagram route classes from to fault =
    Cannot word.Route (SaysRoute route) fault ⊎ (fault ≡ Memory) ⊎ CannotClass classes fault ⊎ CannotEnd word.From from fault ⊎ CannotEnd word.To to fault

-- the port, how many connections, or how long a reply may be
abbrev pub CannotServe : Text → Text → Option Text → QuestionFault → Type 0
CannotServe port max longest fault =
    Cannot word.Port (SaysPort port) fault ⊎ Cannot word.Max (SaysMost max) fault ⊎ CannotIfGiven word.MostReply SaysReplyLength longest fault

-- the route, or the place of it
abbrev pub CannotPlace : Text → Text → QuestionFault → Type 0
CannotPlace route place fault = Cannot word.Route (SaysRoute route) fault ⊎ Cannot word.Place (SaysPlace place) fault

-- the link, or the millimetre
abbrev pub CannotLink : Text → Text → QuestionFault → Type 0
CannotLink link mm fault = Cannot word.Link (SaysLink link) fault ⊎ Cannot word.Millimetre (SaysMillimetre mm) fault

-- a word of a place: a third one says that the first is `link`
abbrev pub CannotWhere : Text → Text → Option Text → QuestionFault → Type 0
CannotWhere route place None fault = CannotPlace route place fault
CannotWhere route place (Some mm) fault = ((fault ≡ Unreadable word.NotLink) × (route ≡ codes "link" → ⊥)) ⊎ CannotLink place mm fault

-- one of the classes that a text names, or lack of memory for them
abbrev pub CannotClasses : Text → QuestionFault → Type 0
CannotClasses text fault = (fault ≡ Memory) ⊎ CannotClass (parts_of 44 text) fault

-- the route of lengths, or the classes by which they are told
abbrev pub CannotLengths : Option Text → Option Text → QuestionFault → Type 0
CannotLengths route by fault = CannotIfGiven word.Route SaysRoute route fault ⊎ IsSomeAnd by (λ t. CannotClasses t fault)

-- a route is named that a list cannot be narrowed to
abbrev pub IsMisplacedRoute : Option Text → QuestionFault → Type 0
IsMisplacedRoute route fault = (fault ≡ Unreadable word.RouteOfList) × (is_some route ≡ true)

-- measures are to be exact where none can be a fraction
abbrev pub IsMisplacedExact : Bool → QuestionFault → Type 0
IsMisplacedExact exact fault = (fault ≡ Unreadable word.ExactOfList) × (exact ≡ true)

-- the word for what is listed, which is none of the six; an option that does not stand beside it; or the name of the route
abbrev pub CannotList : Text → Option Text → Bool → QuestionFault → Type 0
CannotList what route exact fault =
    ((fault ≡ Unreadable word.What) × (IsWholeList what ⊎ IsListOfRoutes what ⊎ (what ≡ codes "refs") → ⊥))
    ⊎ (IsWholeList what × (IsMisplacedRoute route fault ⊎ IsMisplacedExact exact fault))
    ⊎ (IsListOfRoutes what × (IsMisplacedExact exact fault ⊎ CannotIfGiven word.Route SaysRoute route fault))
    ⊎ ((what ≡ codes "refs") × CannotIfGiven word.Route SaysRoute route fault)

-- two forms of rows are asked for
abbrev pub CannotForm : Bool → Bool → QuestionFault → Type 0
CannotForm exact on_links fault = (fault ≡ Unreadable word.TwoForms) × (exact ≡ true) × (on_links ≡ true)

-- one of the words that narrow a list of rows
abbrev pub CannotRows : Option Text → Option Text → Option Text → Option Text → Option Text → QuestionFault → Type 0
CannotRows route from to class asset fault =
    CannotIfGiven word.Route SaysRoute route fault ⊎ CannotEnd word.From from fault ⊎ CannotEnd word.To to fault ⊎ CannotIfGiven word.Class SaysClass class fault
    ⊎ CannotIfGiven word.Asset SaysAsset asset fault

-- one of the words that narrow an overlay, a class of it, or lack of memory for the classes
abbrev pub CannotOverlay : List Text → Option Text → Option Text → Option Text → Option Text → QuestionFault → Type 0
CannotOverlay classes route side from to fault =
    CannotIfGiven word.Route SaysRoute route fault ⊎ CannotIfGiven word.Side SaysLinkSide side fault ⊎ CannotEnd word.From from fault ⊎ CannotEnd word.To to fault
    ⊎ (fault ≡ Memory) ⊎ CannotClass classes fault

-- one of the words that narrow a list of what is gone
abbrev pub CannotGone : Option Text → Option Text → Option Text → Option Text → QuestionFault → Type 0
CannotGone edit class since until fault =
    CannotIfGiven word.Edit SaysEdit edit fault ⊎ CannotIfGiven word.Class SaysClass class fault ⊎ CannotIfGiven word.Since SaysEdit since fault
    ⊎ CannotIfGiven word.Until SaysEdit until fault

-- the number of the first edit or of the last one, or the key; or one of these numbers is given beside a key
abbrev pub CannotLog : Option Text → Option Text → Option Text → QuestionFault → Type 0
CannotLog from until None fault = CannotIfGiven word.Number SaysEdit from fault ⊎ CannotIfGiven word.Until SaysEdit until fault
CannotLog (Some from) until (Some key) fault = fault ≡ Unreadable word.FromBesideKey
CannotLog None (Some until) (Some key) fault = fault ≡ Unreadable word.UntilBesideKey
CannotLog None None (Some key) fault = Cannot word.Key (SaysKey key) fault

-- the number of the last edit of a sum; or a key is given, or the last edit of a list
abbrev pub CannotSum : Option Text → Option Text → Option Text → QuestionFault → Type 0
CannotSum from until (Some key) fault = fault ≡ Unreadable word.SumBesideKey
CannotSum from (Some until) None fault = fault ≡ Unreadable word.UntilBesideSum
CannotSum from None None fault = CannotIfGiven word.Number SaysEdit from fault

-- the answer to `--ask` is read from the standard input, and so is the sheet
abbrev pub CannotAsk : Text → Bool → QuestionFault → Type 0
CannotAsk sheet ask fault = (fault ≡ Unreadable word.AskOfStdin) × (ask ≡ true) × (sheet ≡ codes "stdin")

-- the words name neither two inventories nor one with an edit; or the number of the edit
abbrev pub CannotCompare : List Text → Option Text → QuestionFault → Type 0
CannotCompare words since fault = Cannot word.Compared (SaysCompared words since) fault ⊎ CannotIfGiven word.Since SaysEdit since fault

-- the fault is a word of the job that cannot be read, or lack of memory for the classes
abbrev pub IsFaultOf : Job → QuestionFault → Type 0
IsFaultOf (job.Edit db sheet sums resume all whole ask) fault = CannotAsk sheet.now ask fault
IsFaultOf (job.Survey db sheet sums resume all whole ask) fault = CannotAsk sheet.now ask fault
IsFaultOf (job.Diff db others since) fault = CannotCompare (db.now ∷ map (λ w. w.now) others.items) (option_map (λ w. w.now) since) fault
IsFaultOf (job.At db route method position) fault = CannotAt route.now method.now position.now fault
IsFaultOf (job.Translate db route method position to) fault = CannotTranslate route.now method.now position.now to.now fault
IsFaultOf (job.Strip db route side classes) fault = CannotStrip route.now side.now (map (λ w. w.now) classes.items) fault
IsFaultOf (job.Diagram db route classes from to) fault = CannotDiagram route.now (map (λ w. w.now) classes.items) (option_map (λ w. w.now) from) (option_map (λ w. w.now) to) fault
IsFaultOf (job.Find db asset) fault = Cannot word.Asset (SaysAsset asset.now) fault
IsFaultOf (job.Route db route) fault = Cannot word.Route (SaysRoute route.now) fault
IsFaultOf (job.Where db route place mm) fault = CannotWhere route.now place.now (option_map (λ w. w.now) mm) fault
IsFaultOf (job.Lengths db route by text columns) fault = CannotLengths (option_map (λ w. w.now) route) (option_map (λ w. w.now) by) fault
IsFaultOf (job.List db what route exact text columns) fault = CannotList what.now (option_map (λ w. w.now) route) exact fault
IsFaultOf (job.Rows db route from to class asset exact on_links text columns) fault =
    CannotForm exact on_links fault
    ⊎ CannotRows (option_map (λ w. w.now) route) (option_map (λ w. w.now) from) (option_map (λ w. w.now) to) (option_map (λ w. w.now) class) (option_map (λ w. w.now) asset) fault
IsFaultOf (job.Overlay db classes route side from to gaps text columns) fault =
    CannotOverlay (map (λ w. w.now) classes.items) (option_map (λ w. w.now) route) (option_map (λ w. w.now) side) (option_map (λ w. w.now) from) (option_map (λ w. w.now) to) fault
IsFaultOf (job.Gone db edit class since until text columns) fault =
    CannotGone (option_map (λ w. w.now) edit) (option_map (λ w. w.now) class) (option_map (λ w. w.now) since) (option_map (λ w. w.now) until) fault
IsFaultOf (job.History db asset text columns) fault = Cannot word.Asset (SaysAsset asset.now) fault
IsFaultOf (job.Log db from until key text false) fault = CannotLog (option_map (λ w. w.now) from) (option_map (λ w. w.now) until) (option_map (λ w. w.now) key) fault
IsFaultOf (job.Log db from until key text true) fault = CannotSum (option_map (λ w. w.now) from) (option_map (λ w. w.now) until) (option_map (λ w. w.now) key) fault
IsFaultOf (job.Serve db port max sums log end_on_fault most_reply page) fault = CannotServe port.now max.now (option_map (λ w. w.now) most_reply) fault
IsFaultOf _ fault = ⊥

-- what a word is not
abbrev pub bad_word_text : BadWord → Text
bad_word_text word.Route = codes "ROUTE is no route name"
bad_word_text word.Method = codes "METHOD is none of abs, rel and int"
bad_word_text word.Position = codes "POS is no position by this method"
bad_word_text word.Destination = codes "TO is none of abs, int, rel:NAME and link"
bad_word_text word.Side = codes "SIDE is neither L nor R"
bad_word_text word.Class = codes "CLASS is no class name"
bad_word_text word.From = codes "FROM is no place: millimetres, or abs:, rel: or int: before a position"
bad_word_text word.To = codes "TO is no place: millimetres, or abs:, rel: or int: before a position"
bad_word_text word.Asset = codes "ASSET is no asset number"
bad_word_text word.What = codes "WHAT is none of routes, links, classes, refs, marks and pieces"
bad_word_text word.RouteOfList = codes "--route stands only beside refs, marks and pieces"
bad_word_text word.ExactOfList = codes "--exact stands only beside refs"
bad_word_text word.TwoForms = codes "--exact and --on-links are two forms"
bad_word_text word.Columns = codes "COLUMNS names no column of this list"
bad_word_text word.RepeatedColumn = codes "COLUMNS names a column twice"
bad_word_text word.Edit = codes "EDIT is no number of an edit"
bad_word_text word.Since = codes "SINCE is no number of an edit"
bad_word_text word.Until = codes "UNTIL is no number of an edit"
bad_word_text word.Number = codes "FROM is no number of an edit"
bad_word_text word.Key = codes "KEY is no key"
bad_word_text word.FromBesideKey = codes "FROM and --key KEY are two questions"
bad_word_text word.UntilBesideKey = codes "--until and --key KEY are two questions"
bad_word_text word.SumBesideKey = codes "--sum and --key KEY are two questions"
bad_word_text word.UntilBesideSum = codes "--until and --sum are two questions"
bad_word_text word.Place = codes "PLACE is no place: millimetres, or abs:, rel: or int: before a position"
bad_word_text word.NotLink = codes "MM stands only behind the word link and LINK"
bad_word_text word.Link = codes "LINK is no link number"
bad_word_text word.Millimetre = codes "MM is no millimetre of a link"
bad_word_text word.Port = codes "PORT is no port number"
bad_word_text word.Max = codes "MAX is no number of connections"
bad_word_text word.MostReply = codes "BYTES is no length of a reply"
bad_word_text word.Compared = codes "diff takes two inventories, or one and --since N"
bad_word_text word.Draft = codes "the words say no draft"
bad_word_text word.AskOfStdin = codes "--ask reads the standard input, so that SHEET is a file"
