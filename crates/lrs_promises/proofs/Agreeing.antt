-- Two inventories that agree answer alike.
use Rattle.std.proofs.Common.{◌≡◌, inl, inr, ℕ, Bool, true, false, List, [], ◌∷◌, ◌++◌, length, map, Option, Some, None, Result, Ok, Err, refl, sym, ap, subst, ◌∙◌}
use Rattle.std.specs.Prelude.{MatchOption, MatchResult, codes, filter, unwrap_or}
use Rattle.std.specs.List.{AllByRecursion, find, flat_map}
use Rattle.std.proofs.lemmas.Bool.{false≢true}
use Rattle.std.proofs.lemmas.List.{length-map}
use Rattle.lrs_measure.specs.Runs.{Run}
use Rattle.lrs_measure.specs.Texts.{Name}
use Rattle.lrs_position.specs.Translations.{alignment_of}
use Rattle.lrs_events.specs.declared.side.LinkSide.{LinkSide}
use Rattle.lrs_events.specs.declared.side.Side.TheVariants.{L}
use Rattle.lrs_machine.specs.Image.{state_of}
use Rattle.lrs_machine.specs.Lines.{Text}
use Rattle.lrs_machine.specs.Readings.{segments_on}
use Rattle.lrs_machine.specs.Register.{get}
use Rattle.lrs_machine.specs.Segments.{Values, segment_fault}
use Rattle.lrs_machine.specs.Sound.{IsSound}
use Rattle.lrs_machine.specs.State.{State}
use Rattle.lrs_machine.specs.declared.image.Image.{Image}
use Rattle.lrs_machine.specs.declared.image.RouteRow.{RouteRow}
use Rattle.lrs_machine.specs.declared.question.Question.{Question}
use Rattle.lrs_image.specs.Change.{is_named}
use Rattle.lrs_report.specs.declared.diagrams.diagram.Diagram.{Diagram}
use Rattle.lrs_machine.specs.declared.question.Listing.TheVariants as listing
use Rattle.lrs_report_answers.specs.Answers.{IsAt, StandsAt, UnlessMemory, UnlessMissing, route_missing}
use Rattle.lrs_report_answers.specs.Combinations.{AreCombinationsOf, AreCombinationsOn}
use Rattle.lrs_report_lists.specs.Lists.{routes_named}
use Rattle.lrs_report_lists.specs.WantedRows.{is_of_route}
use Rattle.lrs_report_answers.specs.Listings.{AreLengthsOf, missing_route}
use Rattle.lrs_report_answers.specs.Overlay.{is_segment_wanted, overlay_header, overlay_line, overlay_wanted, sides_of}
use Rattle.lrs_report_answers.specs.DrawnRows.{IsDrawn, IsDrawnOn}
use Rattle.lrs_report_answers.specs.AssetStretches.{all_rows_of}
use Rattle.lrs_report_answers.specs.RouteSegments.{IsSegmented, UnlessRefused, class_list}
use Rattle.lrs_report_answers.specs.ToldAnswers.{IsNamedRoute, Tells, length_on}
use Rattle.lrs_report_answers.specs.Totals.{totals_of}
use Rattle.lrs_report_answers.specs.declared.combinations.Combination.{Combination}
use Rattle.lrs_report_answers.specs.declared.fault.AskFault.{AskFault}
use Rattle.lrs_report_answers.specs.declared.told.Told.{Told}
use Rattle.lrs_report_answers.specs.declared.told.Told.TheVariants as told
use Rattle.lrs_machine.specs.PlaceTexts.{SaysPlace}
use Rattle.lrs_machine.specs.declared.question.GoneWanted.{GoneWanted}
use Rattle.lrs_machine.specs.declared.question.Place.{Place as PlaceOfRoute}
use Rattle.lrs_machine.specs.declared.question.OverlayAsked.{OverlayAsked}
use Rattle.lrs_machine.specs.declared.question.OverlayWanted.{OverlayWanted}
use Rattle.lrs_machine.specs.declared.question.RowsAsked.{RowsAsked}
use Rattle.lrs_report_answers.specs.Stretches.{OnStretch, end_of}
use Rattle.lrs_report_answers.specs.declared.stretch.End.TheVariants.{From, To}
use Rattle.lrs_report_answers.specs.Place.Answers.{IsThere, IsWhereabouts}
use Rattle.lrs_report_answers.specs.Place.Places.{Spot, place_of}
use Rattle.lrs_report_answers.specs.declared.places.answer.Whereabouts.{Whereabouts}
use Rattle.lrs_machine.specs.declared.question.AskedPlace.{AskedPlace}
use Rattle.lrs_machine.specs.declared.question.AskedPlace.TheVariants as spot
use Rattle.lrs_sheet_log.specs.Log.{edits_between, edits_text}
use Rattle.lrs_web_requests.specs.Request.{query as asked}
use Rattle.lrs_web_requests.specs.Text.{Answer}
use Rattle.lrs_web_requests.specs.declared.paths.Format.{Format}
use Rattle.lrs_web_requests.specs.declared.paths.Resource.{Resource}
use Rattle.lrs_web_requests.specs.declared.paths.Resource.TheVariants as path
use Rattle.lrs_web_requests.specs.Query.{parameter}
use Rattle.lrs_web_replies.specs.QuestionAnswers.{AnswersQuestion}
use Rattle.lrs_web_replies.specs.declared.pages.Page.{Page}
use Rattle.lrs_web_replies.specs.Answers.{health_data, totals_data}
use Rattle.lrs_web_replies.specs.Questions.{AsksOf, CannotAsk, GivesAsset, GivesExact, GivesFirstEdit, GivesGone, GivesOverlay, GivesRouteOrAll, GivesRows, GivesUntil, IsGiven, SaysDestination, SaysEdit, SaysRoute, SaysSide, lengths_question, parameters_of}
use Rattle.lrs_web_replies.specs.Pages.{key_of, paged, unknown_in}
use Rattle.lrs_web_replies.specs.Replies.{csv_answer, json_answer, unknown_answer, unpaged}
use Rattle.lrs_web_replies.specs.Listings.{in_format, listing_answer, named_list}
use Rattle.lrs_web_replies.specs.Overlay.{overlay_item}
use Rattle.lrs_web_replies.specs.declared.question.QueryFault.TheVariants.{NoRoute}
use Rattle.lrs_web.specs.QueryAnswers.{AnswersAsked, AnswersKnown, AnswersPage}
use Rattle.lrs_promises.specs.Determinism.{IsOfState}
use Rattle.lrs_promises.proofs.Once.{at_once, same_some, segmented_once, stretch_once, told_once}
use Rattle.lrs_promises.proofs.OneInventory.{same_inventories}
use Rattle.lrs_promises.proofs.GivenPages.{one_fault, one_page, page_or_fault, served_fault}
use Rattle.lrs_promises.proofs.Parameters.{one_first, one_if_given, one_number, one_asked, one_gone, one_overlay, one_place, one_position, one_route, one_said, one_side, one_spot}
use Rattle.lrs_promises.proofs.Pictured.{drawn_once, named_once, route_once}
use Rattle.lrs_promises.proofs.Places.{combinations_once, lengths_once, where_once}
use Rattle.lrs_promises.proofs.Translated.{TellsTranslated, one_destination, position_above, translated_once}
use Rattle.lrs_promises.proofs.Asked.{AtTold, DiagramTold, LengthsTold, RouteTold, SegmentsTold, TranslateTold, WhereTold, at_told, between_reply, classes_reply, diagram_told, find_reply, find_told, gone_told, health_told, history_told, lengths_told, list_reply, list_told, log_told, marks_told, named_reply, one_split, overlay_reply, overlay_told, pieces_told, refs_told, route_told, rows_reply, rows_told, segments_told, splits, totals_told, translate_told, where_given, where_told}

-- whether what a resource is answered is read off the state itself, and not off the rows of the image
abbrev is_read : Resource → Bool
is_read path.At = true
is_read path.Segments = true
is_read path.Translate = true
is_read path.Totals = true
is_read path.Find = true
is_read path.Log = true
is_read path.Health = true
is_read _ = false

-- an inventory with the ledgers of another
abbrev pub with_ledgers : Image → Image → Image
with_ledgers i j = record j { entered = i.entered; gone = i.gone }

-- who holds a place does not hang on the ledgers
place_moved : (i j : Image) → state_of i ≡ state_of j → (o : Result Spot AskFault) (r : Result Whereabouts AskFault)
    → MatchResult o (λ at. UnlessMemory (IsThere i at.0 at.1) r) (λ fault. r ≡ Err fault) → MatchResult o (λ at. UnlessMemory (IsThere j at.0 at.1) r) (λ fault. r ≡ Err fault)
place_moved i j e (Ok (r, chainage)) (Ok w) h = record {
  on = h.on;
  stands = subst (λ s. StandsAt s (alignment_of r.route) (chainage, 1) w.found) e h.stands;
  by_targets = h.by_targets;
}
place_moved i j e (Ok at) (Err fault) h = h
place_moved i j e (Err fault) r h = h

pub where_moved : (i j : Image) → state_of (with_ledgers i j) ≡ state_of j → (s : AskedPlace) (r : Result Whereabouts AskFault) → IsWhereabouts (with_ledgers i j) s r → IsWhereabouts j s r
where_moved i j e (spot.OnRoute route place) r h = place_moved (with_ledgers i j) j e (place_of j (spot.OnRoute route place)) r h
where_moved i j e (spot.OnLink link mm) r h = place_moved (with_ledgers i j) j e (place_of j (spot.OnLink link mm)) r h

-- what passes by one test passes by another
pub tells_moved : {A : Type 0} (Passes Meets : Result A AskFault → Type 0) (told_of : A → Told) → ((r : Result A AskFault) → Passes r → Meets r) → (said : Result Told AskFault) → Tells Passes told_of said → Tells Meets told_of said
tells_moved Passes Meets told_of to (Ok t) (x, passes, is) = (x, to (Ok x) passes, is)
tells_moved Passes Meets told_of to (Err fault) passes = to (Err fault) passes

module _ (i j : Image) where
  drawn_on_moved : (r : RouteRow) (names : List Name) (from to : ℕ) (drawn : Result Diagram AskFault) → IsDrawnOn (with_ledgers i j) r names from to drawn → IsDrawnOn j r names from to drawn
  drawn_on_moved r names from to (Ok d) (chosen, are, stretch, h) = (
    chosen,
    are,
    stretch,
    record {
      route = h.route;
      start = h.start;
      stop = h.stop;
      marks = h.marks;
      referents = h.referents;
      pieces = h.pieces;
      classes = h.classes;
    },
  )
  drawn_on_moved r names from to (Err fault) h = h

  -- nor does a drawing hang on the ledgers
  drawn_moved : (name : Name) (names : List Name) (from to : Option ℕ) (drawn : Result Diagram AskFault) → IsDrawn (with_ledgers i j) name names from to drawn → IsDrawn j name names from to drawn
  drawn_moved name names from to drawn h = by (find (is_named name) j.routes) h
    where
      by : (o : Option RouteRow) → MatchOption o (drawn ≡ Err route_missing) (λ e. IsDrawnOn (with_ledgers i j) e names (unwrap_or from 0) (unwrap_or to (length e.route.course)) drawn)
          → MatchOption o (drawn ≡ Err route_missing) (λ e. IsDrawnOn j e names (unwrap_or from 0) (unwrap_or to (length e.route.course)) drawn)
      by None none = none
      by (Some e) on = drawn_on_moved e names (unwrap_or from 0) (unwrap_or to (length e.route.course)) drawn on

  drawn_between_moved : (name : Name) (names : List Name) (from to : Option PlaceOfRoute) (said : Result Told AskFault)
      → OnStretch (with_ledgers i j) (Some name) from to (λ first last. Tells (IsDrawn (with_ledgers i j) name names first last) told.Diagram) said
      → OnStretch j (Some name) from to (λ first last. Tells (IsDrawn j name names first last) told.Diagram) said
  drawn_between_moved name names from to said h = by (end_of j (Some name) From from) (end_of j (Some name) To to) h
    where
      by : (f t : Result (Option ℕ) AskFault)
          → MatchResult f (λ first. MatchResult t (λ last. Tells (IsDrawn (with_ledgers i j) name names first last) told.Diagram said) (λ fault. said ≡ Err fault)) (λ fault. said ≡ Err fault)
          → MatchResult f (λ first. MatchResult t (λ last. Tells (IsDrawn j name names first last) told.Diagram said) (λ fault. said ≡ Err fault)) (λ fault. said ≡ Err fault)
      by (Err fault) t x = x
      by (Ok first) (Err fault) x = x
      by (Ok first) (Ok last) x = tells_moved (IsDrawn (with_ledgers i j) name names first last) (IsDrawn j name names first last) told.Diagram (drawn_moved name names first last) said x

module _ (i j : Image) (e : state_of i ≡ state_of j) where
  edits_same : length i.edits ≡ length j.edits
  unfolding state_of
  edits_same = sym (length-map i.edits _) ∙ ap (λ (s : State). length s.done) e ∙ length-map j.edits _

-- ---- an overlay of the routes of an image, whose segments are those of a state

abbrev segments_in : State → OverlayWanted → RouteRow → LinkSide → List (Run Values)
segments_in s w e side = filter (is_segment_wanted w) (segments_on s e.route.course w.classes side)

abbrev overlay_in : Format → Page → State → Image → OverlayWanted → Answer
overlay_in format page s j w =
    in_format format (named_list (codes "overlay") (paged page (flat_map (λ e. flat_map (λ side. map (overlay_item e.route side) (segments_in s w e side)) (sides_of w.side)) (routes_named w.route j))))
    (overlay_header w.classes ++ flat_map (λ e. flat_map (λ side. flat_map (overlay_line e.route side) (segments_in s w e side)) (sides_of w.side)) (routes_named w.route j))

abbrev overlay_of_state : Format → Page → State → Image → OverlayAsked → Answer
overlay_of_state format page s j a =
    list_reply (missing_route j a.route)
    (classes_reply (segment_fault (class_list s) a.classes L)
    (between_reply (λ first last. overlay_in format page s j (overlay_wanted a first last)) (end_of j a.route From a.from) (end_of j a.route To a.to)))

-- ---- lengths of the routes of an image, by the values of a state

abbrev CombinationsOfState : State → Image → Option Name → List Name → Result (List Combination) AskFault → Type 0
CombinationsOfState s j route classes =
    UnlessMissing (missing_route j route) (UnlessRefused (segment_fault (class_list s) classes L) (UnlessMemory (AreCombinationsOn s classes (filter (is_of_route route) j.routes))))

-- lengths do not hang on the ledgers
lengths_same : (format : Format) (page : Page) (i j : Image) → state_of (with_ledgers i j) ≡ state_of j → (route : Option Name) (classes : List Name) (a b : Answer) → (a.status ≡ 503 → ⊥) → (b.status ≡ 503 → ⊥)
    → AnswersQuestion format page (with_ledgers i j) (lengths_question route classes) a → AnswersQuestion format page j (lengths_question route classes) b → a ≡ b
lengths_same format page i j e route [] a b served also (said, tells, shows) (other, more, too) =
    told_once format page (AreLengthsOf j route) told.Lengths (lengths_once j route) (λ x c d p q. p ∙ sym q) a b served also said other tells more shows too
lengths_same format page i j e route (class ∷ classes) a b served also (said, tells, shows) (other, more, too) =
    told_once format page (AreCombinationsOf j route (class ∷ classes)) (told.Combinations (class ∷ classes)) (combinations_once j route (class ∷ classes)) (λ x c d p q. p ∙ sym q) a b served also said other
    (subst (λ s. Tells (CombinationsOfState s j route (class ∷ classes)) (told.Combinations (class ∷ classes)) said) e tells) more shows too

module _ (format : Format) (page : Page) (query : Text) (one two : Answer) (served : one.status ≡ 503 → ⊥) (also : two.status ≡ 503 → ⊥) where
  module _ (i j : Image) where
    alike : (resource : Resource) (Shows : Image → Answer → Type 0) → (CannotAsk resource query NoRoute → ⊥)
        → ((k : Image) (a : Answer) → (a.status ≡ 503 → ⊥) → (q : Question) → AsksOf resource query q → AnswersQuestion format page k q a → Shows k a)
        → ((a b : Answer) → Shows i a → Shows j b → a ≡ b) → ((k : Image) (a : Answer) → Shows k a → AllByRecursion (IsGiven query) (parameters_of resource query))
        → AnswersPage i format page resource query one → AnswersPage j format page resource query two → one ≡ two
    alike resource Shows named by_question same given h g =
        one_split query (parameters_of resource query) (Shows i) (Shows j) same (given i) (given j) one two
        (splits format page i query one served resource (Shows i) named (by_question i one served) h) (splits format page j query two also resource (Shows j) named (by_question j two also) g)

    -- a question without a parameter, which is answered the same of both
    told_alike : (resource : Resource) (told : Image → Answer) → (CannotAsk resource query NoRoute → ⊥)
        → ((k : Image) (a : Answer) → (a.status ≡ 503 → ⊥) → (q : Question) → AsksOf resource query q → AnswersQuestion format page k q a → a ≡ told k) → AllByRecursion (IsGiven query) (parameters_of resource query)
        → told i ≡ told j → AnswersPage i format page resource query one → AnswersPage j format page resource query two → one ≡ two
    told_alike resource told named by_question given same = alike resource (λ k a. a ≡ told k) named by_question (λ a b h g. h ∙ same ∙ sym g) (λ k a h. given)

    module _ (e : state_of i ≡ state_of j) where
      log_alike : AnswersPage i format page path.Log query one → AnswersPage j format page path.Log query two → one ≡ two
      log_alike = alike path.Log (λ k a. (from : ℕ) × (until : Option ℕ) × GivesFirstEdit query from × GivesUntil query until × (a ≡ named_reply format page k (listing.Log from until))) (λ x. x) (λ k a s. log_told format page k query a s)
          (λ a b h g.
          let from = one_first (parameter (codes "from") query) h.0 g.0 h.2 g.2 in
          let until = one_if_given SaysEdit (one_number _ _) (parameter (codes "until") query) h.1 g.1 h.3 g.3 in
          h.4 ∙ (λ k. csv_answer (edits_text (edits_between (from k) (until k) (e k).done))) ∙ sym g.4)
          (λ k a h. ((h.0, h.2), ((h.1, h.3), tt)))

      find_alike : AnswersPage i format page path.Find query one → AnswersPage j format page path.Find query two → one ≡ two
      find_alike = alike path.Find (λ k a. (asset : ℕ) × GivesAsset query asset × (a ≡ find_reply (get (state_of k).assets asset) (all_rows_of (state_of k) asset))) (λ x. x)
          (λ k a s. find_told format page k query a s)
          (λ a b h g.
          let n = one_said _ (one_number _ _) (parameter (codes "asset") query) h.0 g.0 h.1 g.1 in
          h.2 ∙ (λ k. find_reply (get (e k).assets (n k)) (all_rows_of (e k) (n k))) ∙ sym g.2)
          (λ k a h. ((h.0, h.1), tt))

      at_alike : AnswersPage i format page path.At query one → AnswersPage j format page path.At query two → one ≡ two
      at_alike = alike path.At (AtTold format page query) (λ x. x) (λ k a s. at_told format page k query a s)
          (λ a b h g.
          let route = one_said SaysRoute one_route (parameter (codes "route") query) g.route h.route g.gives_route h.gives_route in
          let position = one_position query g.position h.position g.gives_position h.gives_position in
          told_once format page (IsAt (state_of i) h.route h.position) (told.At h.route) (at_once (state_of i) h.route h.position) (λ x c d p q. p ∙ sym q) a b h.served g.served h.tells.0 g.tells.0 h.tells.1
          (coe 0 1 (k. Tells (IsAt (sym e k) (route k) (position k)) (told.At (route k)) g.tells.0) g.tells.1) h.tells.2 g.tells.2)
          (λ k a h. ((h.route, h.gives_route), ((h.gives_position.0, h.gives_position.1), ((h.position, h.gives_position), tt))))

      segments_alike : AnswersPage i format page path.Segments query one → AnswersPage j format page path.Segments query two → one ≡ two
      segments_alike = alike path.Segments (SegmentsTold format page query) (λ x. x) (λ k a s. segments_told format page k query a s)
          (λ a b h g.
          let route = one_said SaysRoute one_route (parameter (codes "route") query) g.route h.route g.gives_route h.gives_route in
          let side = one_said SaysSide one_side (parameter (codes "side") query) g.side h.side g.gives_side h.gives_side in
          let classes : g.classes ≡ h.classes = g.gives_classes.0 ∙ sym h.gives_classes.0 in
          told_once format page (IsSegmented (state_of i) h.route h.classes h.side) (told.Segments h.route h.side (length_on (state_of i) h.route) h.classes) (segmented_once (state_of i) h.route h.classes h.side)
          (λ x c d p q. p ∙ sym q) a b h.served g.served h.tells.0 g.tells.0 h.tells.1
          (coe 0 1 (k. Tells (IsSegmented (sym e k) (route k) (classes k) (side k)) (told.Segments (route k) (side k) (length_on (sym e k) (route k)) (classes k)) g.tells.0) g.tells.1) h.tells.2 g.tells.2)
          (λ k a h. ((h.route, h.gives_route), ((h.side, h.gives_side), ((h.classes, h.gives_classes), tt))))

      translate_alike : AnswersPage i format page path.Translate query one → AnswersPage j format page path.Translate query two → one ≡ two
      translate_alike = alike path.Translate (TranslateTold format page query) (λ x. x) (λ k a s. translate_told format page k query a s)
          (λ a b h g.
          let route = one_said SaysRoute one_route (parameter (codes "route") query) g.route h.route g.gives_route h.gives_route in
          let position = one_position query g.position h.position g.gives_position h.gives_position in
          let to = one_said SaysDestination one_destination (parameter (codes "to") query) g.to h.to g.gives_to h.gives_to in
          translated_once format page i h.route h.position h.to (position_above query h.position h.gives_position) a b h.served g.served h.said g.said h.tells
          (coe 0 1 (k. TellsTranslated (sym e k) (route k) (position k) (to k) g.said) g.tells) h.shows g.shows)
          (λ k a h. ((h.route, h.gives_route), ((h.gives_position.0, h.gives_position.1), ((h.position, h.gives_position), ((h.to, h.gives_to), tt)))))

      -- what is read off equal states is the same
      state_tells : (resource : Resource) → is_read resource ≡ true → AnswersPage i format page resource query one → AnswersPage j format page resource query two → one ≡ two
      state_tells path.At read = at_alike
      state_tells path.Route read = absurd (false≢true read)
      state_tells path.Segments read = segments_alike
      state_tells path.Totals read = told_alike path.Totals (λ k. json_answer 200 (totals_data (totals_of (state_of k)))) (λ x. x) (λ k a s. totals_told format page k query a s) tt (ap (λ (s : State). json_answer 200 (totals_data (totals_of s))) e)
      state_tells path.Translate read = translate_alike
      state_tells path.Diagram read = absurd (false≢true read)
      state_tells path.Routes read = absurd (false≢true read)
      state_tells path.Find read = find_alike
      state_tells path.Log read = log_alike
      state_tells path.Health read = told_alike path.Health (λ k. json_answer 200 (health_data (length k.edits))) (λ x. x) (λ k a s. health_told format page k query a s) tt (ap (λ n. json_answer 200 (health_data n)) (edits_same i j e))
      state_tells path.Links read = absurd (false≢true read)
      state_tells path.Classes read = absurd (false≢true read)
      state_tells path.Refs read = absurd (false≢true read)
      state_tells path.Marks read = absurd (false≢true read)
      state_tells path.Pieces read = absurd (false≢true read)
      state_tells path.History read = absurd (false≢true read)
      state_tells path.Rows read = absurd (false≢true read)
      state_tells path.Overlay read = absurd (false≢true read)
      state_tells path.Lengths read = absurd (false≢true read)
      state_tells path.Gone read = absurd (false≢true read)
      state_tells path.Where read = absurd (false≢true read)
      state_tells path.Edits read = absurd (false≢true read)
      state_tells path.EditsCheck read = absurd (false≢true read)
      state_tells path.Surveys read = absurd (false≢true read)
      state_tells path.SurveysCheck read = absurd (false≢true read)
      state_tells path.Questions read = absurd (false≢true read)
      state_tells (path.Draft kind) read = absurd (false≢true read)

  -- ---- what is told by the rows of an inventory, but for those of its ledgers

  module _ (i j : Image) (e : state_of (with_ledgers i j) ≡ state_of j) where
    rows_alike : AnswersPage (with_ledgers i j) format page path.Rows query one → AnswersPage j format page path.Rows query two → one ≡ two
    rows_alike = alike (with_ledgers i j) j path.Rows (λ k a. (w : RowsAsked) × GivesRows query w × (a ≡ rows_reply format page k w)) (λ x. x) (λ k a s. rows_told format page k query a s)
        (λ a b h g. h.2 ∙ ap (rows_reply format page j) (one_asked query h.0 g.0 h.1 g.1) ∙ sym g.2)
        (λ k a h. ((h.0.route, h.1.0), ((h.0.from, h.1.1), ((h.0.to, h.1.2), ((h.0.class, h.1.3), ((h.0.asset, h.1.4), ((h.1.5.0, h.1.5.2), ((h.0.form, h.1.5), tt))))))))

    -- the segments of an overlay are those of the state
    overlay_same : (a : OverlayAsked) → overlay_reply format page (with_ledgers i j) a ≡ overlay_reply format page j a
    overlay_same a k = overlay_of_state format page (e k) j a

    overlay_alike : AnswersPage (with_ledgers i j) format page path.Overlay query one → AnswersPage j format page path.Overlay query two → one ≡ two
    overlay_alike = alike (with_ledgers i j) j path.Overlay (λ k a. (w : OverlayAsked) × GivesOverlay query w × (a ≡ overlay_reply format page k w)) (λ x. x) (λ k a s. overlay_told format page k query a s)
        (λ a b h g. h.2 ∙ overlay_same h.0 ∙ ap (overlay_reply format page j) (one_overlay query h.0 g.0 h.1 g.1) ∙ sym g.2)
        (λ k a h. ((h.0.route, h.1.0), ((h.0.side, h.1.1), ((h.0.from, h.1.2), ((h.0.to, h.1.3), ((h.0.gaps, h.1.4), ((h.0.classes, h.1.5), tt)))))))

    refs_alike : AnswersPage (with_ledgers i j) format page path.Refs query one → AnswersPage j format page path.Refs query two → one ≡ two
    refs_alike = alike (with_ledgers i j) j path.Refs (λ k a. (route : Option Name) × (exact : Bool) × GivesRouteOrAll query route × GivesExact query exact × (a ≡ named_reply format page k (listing.Refs route exact))) (λ x. x) (λ k a s. refs_told format page k query a s)
        (λ a b h g.
        let route = one_if_given SaysRoute one_route (parameter (codes "route") query) h.0 g.0 h.2 g.2 in
        let exact = same_some h.1 g.1 (sym h.3 ∙ g.3) in
        h.4 ∙ (λ k. named_reply format page j (listing.Refs (route k) (exact k))) ∙ sym g.4)
        (λ k a h. ((h.0, h.2), ((h.1, h.3), tt)))

    marks_alike : AnswersPage (with_ledgers i j) format page path.Marks query one → AnswersPage j format page path.Marks query two → one ≡ two
    marks_alike = alike (with_ledgers i j) j path.Marks (λ k a. (route : Option Name) × GivesRouteOrAll query route × (a ≡ named_reply format page k (listing.Marks route))) (λ x. x) (λ k a s. marks_told format page k query a s)
        (λ a b h g. h.2 ∙ ap (λ route. named_reply format page j (listing.Marks route)) (one_if_given SaysRoute one_route (parameter (codes "route") query) h.0 g.0 h.1 g.1) ∙ sym g.2)
        (λ k a h. ((h.0, h.1), tt))

    pieces_alike : AnswersPage (with_ledgers i j) format page path.Pieces query one → AnswersPage j format page path.Pieces query two → one ≡ two
    pieces_alike = alike (with_ledgers i j) j path.Pieces (λ k a. (route : Option Name) × GivesRouteOrAll query route × (a ≡ named_reply format page k (listing.Pieces route))) (λ x. x) (λ k a s. pieces_told format page k query a s)
        (λ a b h g. h.2 ∙ ap (λ route. named_reply format page j (listing.Pieces route)) (one_if_given SaysRoute one_route (parameter (codes "route") query) h.0 g.0 h.1 g.1) ∙ sym g.2)
        (λ k a h. ((h.0, h.1), tt))

    lengths_alike : AnswersPage (with_ledgers i j) format page path.Lengths query one → AnswersPage j format page path.Lengths query two → one ≡ two
    lengths_alike = alike (with_ledgers i j) j path.Lengths (λ k a. LengthsTold format page query k a) (λ x. x) (λ k a s. lengths_told format page k query a s)
        (λ a b h g.
        let route = one_if_given SaysRoute one_route (parameter (codes "route") query) g.route h.route g.gives_route h.gives_route in
        let classes : g.classes ≡ h.classes = g.gives_classes.0 ∙ sym h.gives_classes.0 in
        lengths_same format page i j e h.route h.classes a b h.served g.served h.tells (coe 0 1 (k. AnswersQuestion format page j (lengths_question (route k) (classes k)) b) g.tells))
        (λ k a h. ((h.route, h.gives_route), ((h.classes, h.gives_classes), tt)))

    where_alike : AnswersPage (with_ledgers i j) format page path.Where query one → AnswersPage j format page path.Where query two → one ≡ two
    where_alike = alike (with_ledgers i j) j path.Where (λ k a. WhereTold format page query k a) (λ x. x) (λ k a s. where_told format page k query a s)
        (λ a b h g.
        let same = one_spot query g.spot h.spot g.gives_spot h.gives_spot in
        told_once format page (IsWhereabouts j h.spot) told.Where (where_once j h.spot) (λ x c d p q. p ∙ sym q) a b h.served g.served h.tells.0 g.tells.0
        (tells_moved (IsWhereabouts (with_ledgers i j) h.spot) (IsWhereabouts j h.spot) told.Where (where_moved i j e h.spot) h.tells.0 h.tells.1)
        (coe 0 1 (k. Tells (IsWhereabouts j (same k)) told.Where g.tells.0) g.tells.1) h.tells.2 g.tells.2)
        (λ k a h. where_given query h.spot h.gives_spot)

    diagram_alike : AnswersPage (with_ledgers i j) format page path.Diagram query one → AnswersPage j format page path.Diagram query two → one ≡ two
    diagram_alike = alike (with_ledgers i j) j path.Diagram (λ k a. DiagramTold format page query k a) (λ x. x) (λ k a s. diagram_told format page k query a s)
        (λ a b h g.
        let route = one_said SaysRoute one_route (parameter (codes "route") query) g.route h.route g.gives_route h.gives_route in
        let classes : g.classes ≡ h.classes = g.gives_classes.0 ∙ sym h.gives_classes.0 in
        let from = one_if_given SaysPlace one_place (parameter (codes "from") query) g.from h.from g.gives_from h.gives_from in
        let to = one_if_given SaysPlace one_place (parameter (codes "to") query) g.to h.to g.gives_to h.gives_to in
        stretch_once format page j (Some h.route) h.from h.to (IsDrawn j h.route h.classes) told.Diagram (drawn_once j h.route h.classes) (λ x c d p q. p ∙ sym q) a b h.served g.served h.tells.0 g.tells.0
        (drawn_between_moved i j h.route h.classes h.from h.to h.tells.0 h.tells.1)
        (coe 0 1 (k. OnStretch j (Some (route k)) (from k) (to k) (λ first last. Tells (IsDrawn j (route k) (classes k) first last) told.Diagram) g.tells.0) g.tells.1) h.tells.2 g.tells.2)
        (λ k a h. ((h.route, h.gives_route), ((h.classes, h.gives_classes), ((h.from, h.gives_from), ((h.to, h.gives_to), tt)))))

    route_alike : AnswersPage (with_ledgers i j) format page path.Route query one → AnswersPage j format page path.Route query two → one ≡ two
    route_alike h g = by (route_told format page (with_ledgers i j) query one served h) (route_told format page j query two also g)
      where
        by : RouteTold format page query (with_ledgers i j) one → RouteTold format page query j two → one ≡ two
        by (inl (route, says, (said, tells, shows))) (inl (name, is, (other, more, too))) =
            let same = one_route query name route is says in
            told_once format page (IsNamedRoute j route) told.Route (named_once j route) (route_once format page) one two served also said other tells (subst (λ n. Tells (IsNamedRoute j n) told.Route other) same more) shows too
        by (inl (route, says, told)) (inr (none, is)) = absurd (none says.1)
        by (inr (none, is)) (inl (route, says, told)) = absurd (none says.1)
        by (inr (none, is)) (inr (never, so)) = is ∙ sym so

    -- what does sheets answers no query
    nothing_alike : (resource : Resource) → (CannotAsk resource query NoRoute → ⊥) → ((q : Question) → AsksOf resource query q → ⊥)
        → ((k : Image) (a : Answer) → ⊥ → AllByRecursion (IsGiven query) (parameters_of resource query)) → AnswersPage (with_ledgers i j) format page resource query one → AnswersPage j format page resource query two → one ≡ two
    nothing_alike resource named no_question given = alike (with_ledgers i j) j resource (λ k a. ⊥) named (λ k a s q asks h. no_question q asks) (λ a b h g. absurd h) given

    -- what is told of two inventories that differ in their ledgers alone is the same, but for what is gone
    rows_tell : (resource : Resource) → IsOfState (asked resource format query) → AnswersPage (with_ledgers i j) format page resource query one → AnswersPage j format page resource query two → one ≡ two
    rows_tell path.At read = state_tells (with_ledgers i j) j e path.At refl
    rows_tell path.Route read = route_alike
    rows_tell path.Segments read = state_tells (with_ledgers i j) j e path.Segments refl
    rows_tell path.Totals read = state_tells (with_ledgers i j) j e path.Totals refl
    rows_tell path.Translate read = state_tells (with_ledgers i j) j e path.Translate refl
    rows_tell path.Diagram read = diagram_alike
    rows_tell path.Routes read = told_alike (with_ledgers i j) j path.Routes (λ k. listing_answer format page k listing.Routes) (λ x. x) (λ k a s. list_told format page k query a s listing.Routes refl) tt refl
    rows_tell path.Find read = state_tells (with_ledgers i j) j e path.Find refl
    rows_tell path.Log read = state_tells (with_ledgers i j) j e path.Log refl
    rows_tell path.Health read = state_tells (with_ledgers i j) j e path.Health refl
    rows_tell path.Links read = told_alike (with_ledgers i j) j path.Links (λ k. listing_answer format page k listing.Links) (λ x. x) (λ k a s. list_told format page k query a s listing.Links refl) tt refl
    rows_tell path.Classes read = told_alike (with_ledgers i j) j path.Classes (λ k. listing_answer format page k listing.Classes) (λ x. x) (λ k a s. list_told format page k query a s listing.Classes refl) tt refl
    rows_tell path.Refs read = refs_alike
    rows_tell path.Marks read = marks_alike
    rows_tell path.Pieces read = pieces_alike
    rows_tell path.Rows read = rows_alike
    rows_tell path.Overlay read = overlay_alike
    rows_tell path.Lengths read = lengths_alike
    rows_tell path.Gone read = absurd read
    rows_tell path.History read = absurd read
    rows_tell path.Where read = where_alike
    rows_tell path.Edits read = nothing_alike path.Edits (λ x. x) (λ q asks. asks) (λ k a none. absurd none)
    rows_tell path.EditsCheck read = nothing_alike path.EditsCheck (λ x. x) (λ q asks. asks) (λ k a none. absurd none)
    rows_tell path.Surveys read = nothing_alike path.Surveys (λ x. x) (λ q asks. asks) (λ k a none. absurd none)
    rows_tell path.SurveysCheck read = nothing_alike path.SurveysCheck (λ x. x) (λ q asks. asks) (λ k a none. absurd none)
    rows_tell path.Questions read = nothing_alike path.Questions (λ x. x) (λ q asks. asks) (λ k a none. absurd none)
    rows_tell (path.Draft kind) read = nothing_alike (path.Draft kind) (λ x. x) (λ q asks. asks) (λ k a none. absurd none)

  state_known : (i j : Image) → IsSound i → IsSound j → state_of i ≡ state_of j → (resource : Resource) → IsOfState (asked resource format query) → AnswersPage i format page resource query one → AnswersPage j format page resource query two → one ≡ two
  state_known i j sound so same resource read h g =
      let s = same_inventories i j sound so same in
      let p : i ≡ with_ledgers i j = λ t. record { links = s.links t; classes = s.classes t; assets = s.assets t; routes = s.routes t; entered = i.entered; gone = i.gone; edits = s.edits t } in
      rows_tell i j (ap state_of (sym p) ∙ same) resource read (subst (λ x. AnswersPage x format page resource query one) p h) g

  module _ (i : Image) where
    gone_alike : AnswersPage i format page path.Gone query one → AnswersPage i format page path.Gone query two → one ≡ two
    gone_alike = alike i i path.Gone (λ k a. (w : GoneWanted) × GivesGone query w × (a ≡ named_reply format page k (listing.Gone w))) (λ x. x) (λ k a s. gone_told format page k query a s)
        (λ a b h g. h.2 ∙ ap (λ w. named_reply format page i (listing.Gone w)) (one_gone query h.0 g.0 h.1 g.1) ∙ sym g.2)
        (λ k a h. ((h.0.edit, h.1.0), ((h.0.since, h.1.1), ((h.0.until, h.1.2), ((h.0.class, h.1.3), tt)))))

    history_alike : AnswersPage i format page path.History query one → AnswersPage i format page path.History query two → one ≡ two
    history_alike = alike i i path.History (λ k a. (asset : ℕ) × GivesAsset query asset × (a ≡ named_reply format page k (listing.History asset))) (λ x. x) (λ k a s. history_told format page k query a s)
        (λ a b h g. h.2 ∙ ap (λ asset. named_reply format page i (listing.History asset)) (one_said _ (one_number _ _) (parameter (codes "asset") query) h.0 g.0 h.1 g.1) ∙ sym g.2)
        (λ k a h. ((h.0, h.1), tt))

    image_known : (resource : Resource) → AnswersPage i format page resource query one → AnswersPage i format page resource query two → one ≡ two
    image_known path.At = rows_tell i i refl path.At tt
    image_known path.Route = rows_tell i i refl path.Route tt
    image_known path.Segments = rows_tell i i refl path.Segments tt
    image_known path.Totals = rows_tell i i refl path.Totals tt
    image_known path.Translate = rows_tell i i refl path.Translate tt
    image_known path.Diagram = rows_tell i i refl path.Diagram tt
    image_known path.Routes = rows_tell i i refl path.Routes tt
    image_known path.Find = rows_tell i i refl path.Find tt
    image_known path.Log = rows_tell i i refl path.Log tt
    image_known path.Health = rows_tell i i refl path.Health tt
    image_known path.Links = rows_tell i i refl path.Links tt
    image_known path.Classes = rows_tell i i refl path.Classes tt
    image_known path.Refs = rows_tell i i refl path.Refs tt
    image_known path.Marks = rows_tell i i refl path.Marks tt
    image_known path.Pieces = rows_tell i i refl path.Pieces tt
    image_known path.History = history_alike
    image_known path.Rows = rows_tell i i refl path.Rows tt
    image_known path.Overlay = rows_tell i i refl path.Overlay tt
    image_known path.Lengths = rows_tell i i refl path.Lengths tt
    image_known path.Gone = gone_alike
    image_known path.Where = rows_tell i i refl path.Where tt
    image_known path.Edits = rows_tell i i refl path.Edits tt
    image_known path.EditsCheck = rows_tell i i refl path.EditsCheck tt
    image_known path.Surveys = rows_tell i i refl path.Surveys tt
    image_known path.SurveysCheck = rows_tell i i refl path.SurveysCheck tt
    image_known path.Questions = rows_tell i i refl path.Questions tt
    image_known (path.Draft kind) = rows_tell i i refl (path.Draft kind) tt

-- ---- with the page that the query gives

module _ (format : Format) (query : Text) (one two : Answer) (served : one.status ≡ 503 → ⊥) (also : two.status ≡ 503 → ⊥) where
  -- what is told the same with each page is told the same with the one that is given
  by_page : (i j : Image) (resource : Resource) → ((page : Page) → AnswersPage i format page resource query one → AnswersPage j format page resource query two → one ≡ two)
      → AnswersKnown i format resource query one → AnswersKnown j format resource query two → one ≡ two
  by_page i j resource known (inl (page, gives, h)) (inl (other, given, g)) =
      known page h (subst (λ p. AnswersPage j format p resource query two) (one_page (key_of format resource query) query other page given gives) g)
  by_page i j resource known (inl (page, gives, h)) (inr (fault, cannot, is)) = absurd (page_or_fault (key_of format resource query) query page fault gives cannot (served_fault two fault also is))
  by_page i j resource known (inr (fault, cannot, is)) (inl (page, gives, h)) = absurd (page_or_fault (key_of format resource query) query page fault gives cannot (served_fault one fault served is))
  by_page i j resource known (inr (fault, cannot, is)) (inr (other, never, too)) =
      is ∙ ap unpaged (one_fault (key_of format resource query) query fault other cannot never (served_fault one fault served is) (served_fault two other also too)) ∙ sym too

  -- a parameter that is not known is told the same of any inventory
  by_known : (i j : Image) (resource : Resource) → (AnswersKnown i format resource query one → AnswersKnown j format resource query two → one ≡ two)
      → AnswersAsked i format resource query one → AnswersAsked j format resource query two → one ≡ two
  by_known i j resource known = by (unknown_in format resource query)
    where
      by : (o : Option Text) → MatchOption o (AnswersKnown i format resource query one) (λ name. one ≡ unknown_answer name)
          → MatchOption o (AnswersKnown j format resource query two) (λ name. two ≡ unknown_answer name) → one ≡ two
      by None h g = known h g
      by (Some name) h g = h ∙ sym g

  -- what is told of two sound inventories of one state is the same, but for what is gone
  pub state_alike : (i j : Image) → IsSound i → IsSound j → state_of i ≡ state_of j → (resource : Resource) → IsOfState (asked resource format query)
      → AnswersAsked i format resource query one → AnswersAsked j format resource query two → one ≡ two
  state_alike i j sound so same resource read = by_known i j resource (by_page i j resource (λ page. state_known format page query one two served also i j sound so same resource read))

  -- what is told of one inventory is the same
  pub image_alike : (i : Image) (resource : Resource) → AnswersAsked i format resource query one → AnswersAsked i format resource query two → one ≡ two
  image_alike i resource = by_known i i resource (by_page i i resource (λ page. image_known format page query one two served also i resource))
