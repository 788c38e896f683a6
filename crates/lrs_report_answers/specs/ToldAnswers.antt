-- What is told to a question that is asked of an inventory.
use Rattle.std.specs.Prelude.{◌≡◌, ℕ, List, length, Option, Some, None, Result, Ok, Err, MatchOption}
use Rattle.std.specs.List.{find}
use Rattle.std.specs.Option.{option_map_or}
use Rattle.lrs_measure.specs.Fraction.{Fraction}
use Rattle.lrs_measure.specs.Texts.{Name}
use Rattle.lrs_position.specs.declared.expression.Expr.{Expr}
use Rattle.lrs_position.specs.declared.expression.Target.{Target}
use Rattle.lrs_position.specs.declared.route.Route.{Route}
use Rattle.lrs_position.specs.LinkPositions.{IsLinkPosition}
use Rattle.lrs_position.specs.Translations.{RoundTrip, Translates}
use Rattle.lrs_events.specs.declared.side.Side.TheVariants.{L}
use Rattle.lrs_machine.specs.declared.image.Image.{Image}
use Rattle.lrs_machine.specs.declared.question.Destination.TheVariants as destination
use Rattle.lrs_machine.specs.declared.question.OverlayAsked.{OverlayAsked}
use Rattle.lrs_machine.specs.declared.question.Question.{Question}
use Rattle.lrs_machine.specs.declared.question.Question.TheVariants as question
use Rattle.lrs_machine.specs.declared.question.RowsAsked.{RowsAsked}
use Rattle.lrs_machine.specs.declared.total.Total.{Total}
use Rattle.lrs_machine.specs.Image.{state_of}
use Rattle.lrs_machine.specs.Register.{get}
use Rattle.lrs_machine.specs.Segments.{segment_fault}
use Rattle.lrs_machine.specs.State.{State}
use Rattle.lrs_image.specs.Change.{is_named}
use Rattle.lrs_report_lists.specs.Absence.{missing_row}
use Rattle.lrs_report_answers.specs.declared.fault.AskFault.{AskFault}
use Rattle.lrs_report_answers.specs.declared.told.Told.{Told}
use Rattle.lrs_report_answers.specs.declared.told.Told.TheVariants as told
use Rattle.lrs_report_answers.specs.Answers.{AsksRoute, IsAt, UnlessMemory, UnlessMissing, route_missing}
use Rattle.lrs_report_answers.specs.Combinations.{AreCombinationsOf}
use Rattle.lrs_report_answers.specs.DrawnRows.{IsDrawn}
use Rattle.lrs_report_answers.specs.AssetStretches.{IsFound}
use Rattle.lrs_report_answers.specs.Listings.{AreLengthsOf, IsInventory, IsListing, missing_route, wanted_of}
use Rattle.lrs_report_answers.specs.Overlay.{overlay_wanted}
use Rattle.lrs_report_answers.specs.Stretches.{OnStretch}
use Rattle.lrs_report_answers.specs.Place.Answers.{IsWhereabouts}
use Rattle.lrs_report_answers.specs.RouteSegments.{IsSegmented, UnlessRefused, class_list}
use Rattle.lrs_report_answers.specs.Totals.{totals_of}

-- a position on the route of a name, by another method
abbrev pub IsTranslated : State → Name → Expr → Target → Result Expr AskFault → Type 0
IsTranslated s route e target = AsksRoute s route (λ a chainage_on found. Translates a chainage_on e target found × RoundTrip a chainage_on e target found)

-- the link under a position on the route of a name, and how far along the link it is
abbrev pub IsOnLink : State → Name → Expr → Result (ℕ × Fraction) AskFault → Type 0
IsOnLink s route e = AsksRoute s route (λ a chainage_on found. IsLinkPosition a chainage_on e found)

-- the total of every class
abbrev pub AreTotals : State → Result (List Total) AskFault → Type 0
AreTotals s = UnlessMemory (λ totals. totals ≡ totals_of s)

-- the route of a name
abbrev pub IsNamedRoute : Image → Name → Result Route AskFault → Type 0
IsNamedRoute i name result = MatchOption (find (is_named name) i.routes) (result ≡ Err route_missing) (λ e. UnlessMemory (λ route. route ≡ e.route) result)

-- how long the route of a name is, in millimetres
abbrev pub length_on : State → Name → ℕ
length_on s route = option_map_or (λ a. length a.course) (get s.routes route) 0

-- An answer that passes is told as this says; a fault that passes is told as it is.
abbrev pub Tells : {A : Type 0} → (Result A AskFault → Type 0) → (A → Told) → Result Told AskFault → Type 0
Tells {A} Passes told_of (Ok t) = (answer : A) × Passes (Ok answer) × (t ≡ told_of answer)
Tells Passes told_of (Err fault) = Passes (Err fault)

-- The answer is the rows of the inventory between the ends that are asked for; or what is missing, or the fault of an end.
abbrev pub AreRows : Image → RowsAsked → Result Told AskFault → Type 0
AreRows i asked =
    UnlessMissing (missing_row i (wanted_of asked None None))
    (OnStretch i asked.route asked.from asked.to (λ first last. Tells (IsInventory i) (told.Rows (wanted_of asked first last))))

-- The answer is the segments of the inventory between the ends that are asked for; or the route is missing, or the first fault of the classes, or that of an end.
abbrev pub IsOverlay : Image → OverlayAsked → Result Told AskFault → Type 0
IsOverlay i asked =
    UnlessMissing (missing_route i asked.route)
    (UnlessRefused (segment_fault (class_list (state_of i)) asked.classes L)
    (OnStretch i asked.route asked.from asked.to (λ first last. Tells (IsInventory i) (told.Overlay (overlay_wanted asked first last)))))

-- What an inventory tells to each question.
abbrev pub IsTold : Image → Question → Result Told AskFault → Type 0
IsTold i (question.At route e) = Tells (IsAt (state_of i) route e) (told.At route)
IsTold i (question.Route route) = Tells (IsNamedRoute i route) told.Route
IsTold i (question.Segments route side classes) = Tells (IsSegmented (state_of i) route classes side) (told.Segments route side (length_on (state_of i) route) classes)
IsTold i (question.Translate route e (destination.Method target)) = Tells (IsTranslated (state_of i) route e target) (told.Translated route)
IsTold i (question.Translate route e destination.Link) = Tells (IsOnLink (state_of i) route e) (λ on. told.OnLink route on.0 on.1)
IsTold i (question.Diagram route classes from to) = OnStretch i (Some route) from to (λ first last. Tells (IsDrawn i route classes first last) told.Diagram)
IsTold i question.Totals = Tells (AreTotals (state_of i)) told.Totals
IsTold i (question.Find asset) = Tells (IsFound (state_of i) asset) told.Found
IsTold i (question.Where spot) = Tells (IsWhereabouts i spot) told.Where
IsTold i (question.Lengths route) = Tells (AreLengthsOf i route) told.Lengths
IsTold i (question.Combinations route classes) = Tells (AreCombinationsOf i route classes) (told.Combinations classes)
IsTold i (question.Rows asked) = AreRows i asked
IsTold i (question.Overlay asked) = IsOverlay i asked
IsTold i (question.List l) = Tells (IsListing i l) (told.Listing l)
IsTold i question.Health = λ result. result ≡ Ok (told.Health (length i.edits))
