-- What is asked for is answered by one answer.
use Rattle.std.proofs.Common.{◌≡◌, ◌⊎◌, inl, inr, ℕ, List, [], ◌∷◌, length, Option, Some, None, Result, Ok, Err, sym, ap, subst, ◌∙◌}
use Rattle.std.specs.Prelude.{Bool, IsTrue, MatchOption, MatchResult, if◌then◌else◌}
use Rattle.std.specs.Borrow.{Bor}
use Rattle.std.specs.List.{AllByRecursion}
use Rattle.lrs_measure.specs.Texts.{Name}
use Rattle.lrs_position.specs.Names.{is_route_name}
use Rattle.lrs_position.specs.declared.expression.Expr.{Expr}
use Rattle.lrs_events.specs.declared.side.Side.{Side}
use Rattle.lrs_events.specs.declared.side.Side.TheVariants.{L}
use Rattle.lrs_machine.specs.Image.{state_of}
use Rattle.lrs_machine.specs.Lines.{Text}
use Rattle.lrs_machine.specs.Register.{get}
use Rattle.lrs_machine.specs.Segments.{segment_fault}
use Rattle.lrs_machine.specs.declared.segment.SegFault.{SegFault}
use Rattle.lrs_machine.specs.declared.image.Image.{Image}
use Rattle.lrs_machine.specs.declared.question.Destination.{Destination}
use Rattle.lrs_machine.specs.declared.question.Destination.TheVariants as destination
use Rattle.lrs_machine.specs.declared.question.Question.{Question}
use Rattle.lrs_machine.specs.declared.question.Listing.{Listing}
use Rattle.lrs_machine.specs.declared.question.Listing.TheVariants as listing
use Rattle.lrs_machine.specs.declared.question.Question.TheVariants as question
use Rattle.lrs_report_answers.specs.Answers.{UnlessMemory, UnlessMissing, asset_missing}
use Rattle.lrs_report_answers.specs.Listings.{IsInventory, missing_of, missing_route, wanted_of}
use Rattle.lrs_report_answers.specs.Overlay.{overlay_wanted}
use Rattle.lrs_report_answers.specs.RouteSegments.{class_list}
use Rattle.lrs_report_answers.specs.Stretches.{OnStretch, end_of}
use Rattle.lrs_report_answers.specs.declared.stretch.End.TheVariants.{From, To}
use Rattle.lrs_report_lists.specs.Absence.{missing_row}
use Rattle.lrs_report_answers.specs.AssetStretches.{all_rows_of}
use Rattle.lrs_report_answers.specs.RouteSegments.{UnlessRefused}
use Rattle.lrs_report_answers.specs.ToldAnswers.{IsTold, Tells}
use Rattle.lrs_report_answers.specs.Totals.{totals_of}
use Rattle.lrs_report_answers.specs.declared.fault.AskFault.{AskFault}
use Rattle.lrs_report_answers.specs.declared.fault.AskFault.TheVariants.{Memory}
use Rattle.lrs_report_answers.specs.declared.fault.AskFault.TheVariants as asked
use Rattle.lrs_report_answers.specs.declared.rows.FoundRow.{FoundRow}
use Rattle.lrs_report_answers.specs.declared.told.Told.{Told}
use Rattle.lrs_report_answers.specs.declared.told.Told.TheVariants as told
use Rattle.lrs_machine.specs.declared.question.GoneWanted.{GoneWanted}
use Rattle.lrs_machine.specs.declared.question.OverlayAsked.{OverlayAsked}
use Rattle.lrs_machine.specs.declared.question.Place.{Place}
use Rattle.lrs_machine.specs.declared.question.RowsAsked.{RowsAsked}
use Rattle.lrs_machine.specs.declared.question.AskedPlace.{AskedPlace}
use Rattle.lrs_machine.specs.declared.question.AskedPlace.TheVariants as spot
use Rattle.lrs_web_requests.specs.Text.{Answer}
use Rattle.lrs_web_requests.specs.declared.paths.Format.{Format}
use Rattle.lrs_web_requests.specs.declared.paths.Resource.{Resource}
use Rattle.lrs_web_requests.specs.declared.paths.Resource.TheVariants as path
use Rattle.lrs_web_replies.specs.QuestionAnswers.{AnswersQuestion, IsReplyTo, ShowsTold}
use Rattle.lrs_web_replies.specs.declared.pages.Page.{Page}
use Rattle.lrs_web_replies.specs.Answers.{found_data, health_data, totals_data}
use Rattle.lrs_web_replies.specs.Listings.{listing_answer, rows_answer}
use Rattle.lrs_web_replies.specs.Overlay.{overlay_answer}
use Rattle.lrs_web_replies.specs.Questions.{AsksOf, CannotAsk, GivesAsset, GivesBy, GivesClasses, GivesClassesOrAll, GivesDestination, GivesExact, GivesFirstEdit, GivesFrom, GivesGone, GivesOverlay, GivesPosition, GivesRoute, GivesRouteOrAll, GivesRows, GivesSide, GivesSpot, GivesUntil, GivesUpTo, IsFirstMalformed, IsGiven, SaysRoute, lengths_question, parameters_of}
use Rattle.lrs_web_replies.specs.Replies.{json_answer, refusal, unasked}
use Rattle.lrs_machine.specs.declared.absence.Missing.{Missing}
use Rattle.lrs_web_replies.specs.declared.question.Parameter.{Parameter}
use Rattle.lrs_web_replies.specs.declared.question.Parameter.TheVariants as wanted
use Rattle.lrs_web_replies.specs.declared.question.QueryFault.{QueryFault}
use Rattle.lrs_web_replies.specs.declared.question.QueryFault.TheVariants.{Malformed, NoRoute, Memory as Lacking}
use Rattle.lrs_web.specs.QueryAnswers.{AnswersPage}
use Rattle.lrs_promises.proofs.Once.{ok_is_not_err, same_err}
use Rattle.lrs_promises.proofs.Translated.{TellsTranslated}

-- ---- what is told, or why nothing is asked

-- an answer is what is told, or names the first parameter that is not given
abbrev Splits : Text → List Parameter → (Answer → Type 0) → Answer → Type 0
Splits query ps Shows answer = Shows answer ⊎ ((p : Parameter) × IsFirstMalformed query ps p × (answer ≡ unasked (Malformed p)))

one_malformed : (query : Text) (ps : List Parameter) (p q : Parameter) → IsFirstMalformed query ps p → IsFirstMalformed query ps q → p ≡ q
one_malformed query [] p q h g = absurd h
one_malformed query (x ∷ ps) p q (inl (h, never)) (inl (g, never')) = h ∙ sym g
one_malformed query (x ∷ ps) p q (inl (h, never)) (inr (given, g)) = absurd (never given)
one_malformed query (x ∷ ps) p q (inr (given, h)) (inl (g, never)) = absurd (never given)
one_malformed query (x ∷ ps) p q (inr (given, h)) (inr (given', g)) = one_malformed query ps p q h g

not_malformed : (query : Text) (ps : List Parameter) (p : Parameter) → AllByRecursion (IsGiven query) ps → IsFirstMalformed query ps p → ⊥
not_malformed query [] p given h = h
not_malformed query (x ∷ ps) p given (inl (h, never)) = never given.0
not_malformed query (x ∷ ps) p given (inr (first, h)) = not_malformed query ps p given.1 h

pub one_split : (query : Text) (ps : List Parameter) (Shows Tells : Answer → Type 0) → ((a b : Answer) → Shows a → Tells b → a ≡ b)
    → ((a : Answer) → Shows a → AllByRecursion (IsGiven query) ps) → ((a : Answer) → Tells a → AllByRecursion (IsGiven query) ps)
    → (a b : Answer) → Splits query ps Shows a → Splits query ps Tells b → a ≡ b
one_split query ps Shows Tells one given given' a b (inl h) (inl g) = one a b h g
one_split query ps Shows Tells one given given' a b (inl h) (inr (p, first, is)) = absurd (not_malformed query ps p (given a h) first)
one_split query ps Shows Tells one given given' a b (inr (p, first, is)) (inl g) = absurd (not_malformed query ps p (given' b g) first)
one_split query ps Shows Tells one given given' a b (inr (p, first, is)) (inr (q, first', is')) =
    is ∙ ap (λ (x : Parameter). unasked (Malformed x)) (one_malformed query ps p q first first') ∙ sym is'

-- what a place is asked for by
pub where_given : (query : Text) (s : AskedPlace) → GivesSpot query s → AllByRecursion (IsGiven query) (parameters_of path.Where query)
where_given query (spot.OnLink link mm) (on, l, m) =
    subst (λ b. AllByRecursion (IsGiven query) (if b then wanted.OnLink ∷ wanted.Millimetre ∷ [] else wanted.Route ∷ wanted.Chainage ∷ [])) (sym on) ((link, l), ((mm, m), tt))
where_given query (spot.OnRoute route place) (on, r, c) =
    subst (λ b. AllByRecursion (IsGiven query) (if b then wanted.OnLink ∷ wanted.Millimetre ∷ [] else wanted.Route ∷ wanted.Chainage ∷ [])) (sym on) ((route, r), ((place, c), tt))

-- ---- what is shown

-- the rows of an asset; or there is no such asset
abbrev pub find_reply : {A : Type 0} → Option A → List FoundRow → Answer
find_reply None rows = refusal asset_missing
find_reply (Some a) rows = json_answer 200 (found_data rows)

-- a list; or what it names, and is not there
abbrev pub list_reply : Option Missing → Answer → Answer
list_reply None shown = shown
list_reply (Some what) shown = refusal (asked.Missing what)

-- a list of the inventory; or what it names, and is not there
abbrev pub named_reply : Format → Page → Image → Listing → Answer
named_reply format page i l = list_reply (missing_of i l) (listing_answer format page i l)

-- what is shown between two ends; or the first fault of an end
abbrev pub between_reply : (Option ℕ → Option ℕ → Answer) → Result (Option ℕ) AskFault → Result (Option ℕ) AskFault → Answer
between_reply shown (Ok first) (Ok last) = shown first last
between_reply shown (Ok first) (Err fault) = refusal fault
between_reply shown (Err fault) to = refusal fault

-- the rows that are asked for; or what they name, and is not there
abbrev pub rows_reply : Format → Page → Image → RowsAsked → Answer
rows_reply format page i a =
    list_reply (missing_row i (wanted_of a None None)) (between_reply (λ first last. rows_answer format page i (wanted_of a first last)) (end_of i a.route From a.from) (end_of i a.route To a.to))

-- what is shown, unless the classes refuse it
abbrev pub classes_reply : Option SegFault → Answer → Answer
classes_reply None shown = shown
classes_reply (Some fault) shown = refusal (asked.Seg fault)

-- the overlay that is asked for; or the route is not there, or the classes refuse it
abbrev pub overlay_reply : Format → Page → Image → OverlayAsked → Answer
overlay_reply format page i a =
    list_reply (missing_route i a.route)
    (classes_reply (segment_fault (class_list (state_of i)) a.classes L)
    (between_reply (λ first last. overlay_answer format page i (overlay_wanted a first last)) (end_of i a.route From a.from) (end_of i a.route To a.to)))

-- a position was asked for, and told
pub record AtTold (format : Format) (page : Page) (query : Text) (i : Image) (answer : Answer) : Type 0 where
  pub route : Name
  pub position : Expr
  pub gives_route : GivesRoute query route
  pub gives_position : GivesPosition query position
  pub tells : AnswersQuestion format page i (question.At route position) answer
  pub served : answer.status ≡ 503 → ⊥

-- segments were asked for, and told
pub record SegmentsTold (format : Format) (page : Page) (query : Text) (i : Image) (answer : Answer) : Type 0 where
  pub route : Name
  pub side : Side
  pub classes : List Name
  pub gives_route : GivesRoute query route
  pub gives_side : GivesSide query side
  pub gives_classes : GivesClasses query classes
  pub tells : AnswersQuestion format page i (question.Segments route side classes) answer
  pub served : answer.status ≡ 503 → ⊥

-- a position by another method, or on its link, was asked for, and told
pub record TranslateTold (format : Format) (page : Page) (query : Text) (i : Image) (answer : Answer) : Type 0 where
  pub route : Name
  pub position : Expr
  pub to : Destination
  pub gives_route : GivesRoute query route
  pub gives_position : GivesPosition query position
  pub gives_to : GivesDestination query to
  pub said : Result Told AskFault
  pub tells : TellsTranslated (state_of i) route position to said
  pub shows : IsReplyTo format page said answer
  pub served : answer.status ≡ 503 → ⊥

tells_translated : (i : Image) (route : Name) (e : Expr) (to : Destination) (said : Result Told AskFault) → IsTold i (question.Translate route e to) said → TellsTranslated (state_of i) route e to said
tells_translated i route e (destination.Method t) said h = h
tells_translated i route e destination.Link said h = h

-- a place was asked for, and told
pub record WhereTold (format : Format) (page : Page) (query : Text) (i : Image) (answer : Answer) : Type 0 where
  pub spot : AskedPlace
  pub gives_spot : GivesSpot query spot
  pub tells : AnswersQuestion format page i (question.Where spot) answer
  pub served : answer.status ≡ 503 → ⊥

-- lengths of values were asked for, or of combinations of values, and told
pub record LengthsTold (format : Format) (page : Page) (query : Text) (i : Image) (answer : Answer) : Type 0 where
  pub route : Option Name
  pub classes : List Name
  pub gives_route : GivesRouteOrAll query route
  pub gives_classes : GivesBy query classes
  pub tells : AnswersQuestion format page i (lengths_question route classes) answer
  pub served : answer.status ≡ 503 → ⊥

-- a diagram was asked for, and told
pub record DiagramTold (format : Format) (page : Page) (query : Text) (i : Image) (answer : Answer) : Type 0 where
  pub route : Name
  pub classes : List Name
  pub from : Option Place
  pub to : Option Place
  pub gives_route : GivesRoute query route
  pub gives_classes : GivesClassesOrAll query classes
  pub gives_from : GivesFrom query from
  pub gives_to : GivesUpTo query to
  pub tells : AnswersQuestion format page i (question.Diagram route classes from to) answer
  pub served : answer.status ≡ 503 → ⊥

-- the route of a name was asked for, and told; or the name is none
abbrev pub RouteTold : Format → Page → Text → Image → Answer → Type 0
RouteTold format page name i answer = ((route : Name) × SaysRoute name route × AnswersQuestion format page i (question.Route route) answer) ⊎ ((IsTrue (is_route_name name) → ⊥) × (answer ≡ unasked NoRoute))

module _ (format : Format) (page : Page) (i : Image) (query : Text) (answer : Answer) (served : answer.status ≡ 503 → ⊥) where
  not_asked : (resource : Resource) (Shows : Answer → Type 0) (fault : QueryFault) → (CannotAsk resource query NoRoute → ⊥) → CannotAsk resource query fault → answer ≡ unasked fault
      → Splits query (parameters_of resource query) Shows answer
  not_asked resource Shows (Malformed p) named cannot is = inr (p, cannot, is)
  not_asked resource Shows NoRoute named cannot is = absurd (named cannot)
  not_asked resource Shows Lacking named cannot is = absurd (served (ap (λ (a : Answer). a.status) is))

  pub splits : (resource : Resource) (Shows : Answer → Type 0) → (CannotAsk resource query NoRoute → ⊥)
      → ((q : Question) → AsksOf resource query q → AnswersQuestion format page i q answer → Shows answer) → AnswersPage i format page resource query answer → Splits query (parameters_of resource query) Shows answer
  splits resource Shows named by_question (inl (q, asks, told)) = inl (by_question q asks told)
  splits resource Shows named by_question (inr (fault, cannot, is)) = not_asked resource Shows fault named cannot is

  -- ---- questions

  -- what is answered to a question is answered to the one that it is
  asked_of : (q other : Question) → q ≡ other → AnswersQuestion format page i q answer → AnswersQuestion format page i other answer
  asked_of q other is = subst (λ (r : Question). AnswersQuestion format page i r answer) is

  lacks_memory : (fault : AskFault) → fault ≡ Memory → answer ≡ refusal fault → ⊥
  lacks_memory fault memory is = served (ap (λ (a : Answer). a.status) (is ∙ ap refusal memory))

  totals_said : (said : Result Told AskFault) → Tells (UnlessMemory (λ totals. totals ≡ totals_of (state_of i))) told.Totals said → IsReplyTo format page said answer
      → answer ≡ json_answer 200 (totals_data (totals_of (state_of i)))
  totals_said (Ok t) (totals, are, is) shows = subst (λ u. ShowsTold format page u answer) is shows ∙ ap (λ ts. json_answer 200 (totals_data ts)) are
  totals_said (Err fault) memory is = absurd (lacks_memory fault memory is)

  found_said : {A : Type 0} (said : Result Told AskFault) (o : Option A) (rows : List FoundRow)
      → Tells (λ result. MatchOption o (result ≡ Err asset_missing) (λ a. UnlessMemory (λ found. found ≡ rows) result)) told.Found said → IsReplyTo format page said answer → answer ≡ find_reply o rows
  found_said (Ok t) None rows (found, never, is) shows = absurd (ok_is_not_err found asset_missing never)
  found_said (Ok t) (Some a) rows (found, are, is) shows = subst (λ u. ShowsTold format page u answer) is shows ∙ ap (λ rs. json_answer 200 (found_data rs)) are
  found_said (Err fault) None rows is shows = shows ∙ ap refusal (same_err fault asset_missing is)
  found_said (Err fault) (Some a) rows memory shows = absurd (lacks_memory fault memory shows)

  listed_said : (said : Result Told AskFault) (l : Listing) (o : Option Missing) → Tells (UnlessMissing o (λ result. MatchResult result (λ inventory. inventory.now ≡ i) (λ fault. ⊥))) (told.Listing l) said → IsReplyTo format page said answer
      → answer ≡ list_reply o (listing_answer format page i l)
  listed_said (Ok t) l None (inventory, same, is) shows = subst (λ u. ShowsTold format page u answer) is shows ∙ ap (λ (j : Image). listing_answer format page j l) same
  listed_said (Ok t) l (Some what) (inventory, never, is) shows = absurd (ok_is_not_err inventory (asked.Missing what) never)
  listed_said (Err fault) l None never shows = absurd never
  listed_said (Err fault) l (Some what) is shows = shows ∙ ap refusal (same_err fault (asked.Missing what) is)

  pub listed : (l : Listing) (q : Question) → q ≡ question.List l → AnswersQuestion format page i q answer → answer ≡ list_reply (missing_of i l) (listing_answer format page i l)
  listed l q is h = let (said, tells, shows) = asked_of q (question.List l) is h in listed_said said l (missing_of i l) tells shows

  -- a list without a parameter
  pub list_told : (l : Listing) → missing_of i l ≡ None → (q : Question) → q ≡ question.List l → AnswersQuestion format page i q answer → answer ≡ listing_answer format page i l
  list_told l none q is h = listed l q is h ∙ ap (λ o. list_reply o (listing_answer format page i l)) none

  health_said : (said : Result Told AskFault) → said ≡ Ok (told.Health (length i.edits)) → IsReplyTo format page said answer → answer ≡ json_answer 200 (health_data (length i.edits))
  health_said said is shows = subst (λ r. IsReplyTo format page r answer) is shows

  pub health_told : (q : Question) → q ≡ question.Health → AnswersQuestion format page i q answer → answer ≡ json_answer 200 (health_data (length i.edits))
  health_told q is h = let (said, tells, shows) = asked_of q question.Health is h in health_said said tells shows

  pub totals_told : (q : Question) → q ≡ question.Totals → AnswersQuestion format page i q answer → answer ≡ json_answer 200 (totals_data (totals_of (state_of i)))
  totals_told q is h = let (said, tells, shows) = asked_of q question.Totals is h in totals_said said tells shows

  -- what is told of the inventory between two ends
  between_said : (told_of : Option ℕ → Option ℕ → Bor Image → Told) (shown : Option ℕ → Option ℕ → Answer)
      → ((first last : Option ℕ) (inventory : Bor Image) → inventory.now ≡ i → ShowsTold format page (told_of first last inventory) answer → answer ≡ shown first last) → (said : Result Told AskFault)
      (from to : Result (Option ℕ) AskFault) → MatchResult from (λ first. MatchResult to (λ last. Tells (IsInventory i) (told_of first last) said) (λ fault. said ≡ Err fault)) (λ fault. said ≡ Err fault)
      → IsReplyTo format page said answer → answer ≡ between_reply shown from to
  between_said told_of shown one said (Err fault) to h shows = subst (λ r. IsReplyTo format page r answer) h shows
  between_said told_of shown one said (Ok first) (Err fault) h shows = subst (λ r. IsReplyTo format page r answer) h shows
  between_said told_of shown one (Ok t) (Ok first) (Ok last) (inventory, same, is) shows = one first last inventory same (subst (λ u. ShowsTold format page u answer) is shows)
  between_said told_of shown one (Err fault) (Ok first) (Ok last) never shows = absurd never

  rows_said : (said : Result Told AskFault) (a : RowsAsked) (o : Option Missing)
      → UnlessMissing o (OnStretch i a.route a.from a.to (λ first last. Tells (IsInventory i) (told.Rows (wanted_of a first last)))) said → IsReplyTo format page said answer
      → answer ≡ list_reply o (between_reply (λ first last. rows_answer format page i (wanted_of a first last)) (end_of i a.route From a.from) (end_of i a.route To a.to))
  rows_said said a None tells shows =
      between_said (λ first last. told.Rows (wanted_of a first last)) (λ first last. rows_answer format page i (wanted_of a first last))
      (λ first last inventory same is. is ∙ ap (λ (j : Image). rows_answer format page j (wanted_of a first last)) same) said (end_of i a.route From a.from) (end_of i a.route To a.to) tells shows
  rows_said said a (Some what) tells shows = subst (λ r. IsReplyTo format page r answer) tells shows

  pub rows_told : (q : Question) → AsksOf path.Rows query q → AnswersQuestion format page i q answer → (a : RowsAsked) × GivesRows query a × (answer ≡ rows_reply format page i a)
  rows_told q (a, gives, is) h =
      let (said, tells, shows) = asked_of q (question.Rows a) is h in
      (a, gives, rows_said said a (missing_row i (wanted_of a None None)) tells shows)

  overlay_said : (said : Result Told AskFault) (a : OverlayAsked) (o : Option Missing) (refuses : Option SegFault)
      → UnlessMissing o (UnlessRefused refuses (OnStretch i a.route a.from a.to (λ first last. Tells (IsInventory i) (told.Overlay (overlay_wanted a first last))))) said → IsReplyTo format page said answer
      → answer ≡ list_reply o (classes_reply refuses (between_reply (λ first last. overlay_answer format page i (overlay_wanted a first last)) (end_of i a.route From a.from) (end_of i a.route To a.to)))
  overlay_said said a None None tells shows =
      between_said (λ first last. told.Overlay (overlay_wanted a first last)) (λ first last. overlay_answer format page i (overlay_wanted a first last))
      (λ first last inventory same is. is ∙ ap (λ (j : Image). overlay_answer format page j (overlay_wanted a first last)) same) said (end_of i a.route From a.from) (end_of i a.route To a.to) tells shows
  overlay_said said a None (Some fault) tells shows = subst (λ r. IsReplyTo format page r answer) tells shows
  overlay_said said a (Some what) refuses tells shows = subst (λ r. IsReplyTo format page r answer) tells shows

  pub overlay_told : (q : Question) → AsksOf path.Overlay query q → AnswersQuestion format page i q answer → (a : OverlayAsked) × GivesOverlay query a × (answer ≡ overlay_reply format page i a)
  overlay_told q (a, gives, is) h =
      let (said, tells, shows) = asked_of q (question.Overlay a) is h in
      (a, gives, overlay_said said a (missing_route i a.route) (segment_fault (class_list (state_of i)) a.classes L) tells shows)

  pub refs_told : (q : Question) → AsksOf path.Refs query q → AnswersQuestion format page i q answer
      → (route : Option Name) × (exact : Bool) × GivesRouteOrAll query route × GivesExact query exact × (answer ≡ named_reply format page i (listing.Refs route exact))
  refs_told q (route, exact, gives, told, is) h = (route, exact, gives, told, listed (listing.Refs route exact) q is h)

  pub marks_told : (q : Question) → AsksOf path.Marks query q → AnswersQuestion format page i q answer → (route : Option Name) × GivesRouteOrAll query route × (answer ≡ named_reply format page i (listing.Marks route))
  marks_told q (route, gives, is) h = (route, gives, listed (listing.Marks route) q is h)

  pub pieces_told : (q : Question) → AsksOf path.Pieces query q → AnswersQuestion format page i q answer → (route : Option Name) × GivesRouteOrAll query route × (answer ≡ named_reply format page i (listing.Pieces route))
  pieces_told q (route, gives, is) h = (route, gives, listed (listing.Pieces route) q is h)

  pub gone_told : (q : Question) → AsksOf path.Gone query q → AnswersQuestion format page i q answer → (w : GoneWanted) × GivesGone query w × (answer ≡ named_reply format page i (listing.Gone w))
  gone_told q (w, gives, is) h = (w, gives, listed (listing.Gone w) q is h)

  pub history_told : (q : Question) → AsksOf path.History query q → AnswersQuestion format page i q answer → (asset : ℕ) × GivesAsset query asset × (answer ≡ named_reply format page i (listing.History asset))
  history_told q (asset, gives, is) h = (asset, gives, listed (listing.History asset) q is h)

  pub log_told : (q : Question) → AsksOf path.Log query q → AnswersQuestion format page i q answer
      → (from : ℕ) × (until : Option ℕ) × GivesFirstEdit query from × GivesUntil query until × (answer ≡ named_reply format page i (listing.Log from until))
  log_told q (from, until, gives, ends, is) h = (from, until, gives, ends, listed (listing.Log from until) q is h)

  pub find_told : (q : Question) → AsksOf path.Find query q → AnswersQuestion format page i q answer → (asset : ℕ) × GivesAsset query asset × (answer ≡ find_reply (get (state_of i).assets asset) (all_rows_of (state_of i) asset))
  find_told q (asset, gives, is) h =
      let (said, tells, shows) = asked_of q (question.Find asset) is h in
      (asset, gives, found_said said (get (state_of i).assets asset) (all_rows_of (state_of i) asset) tells shows)

  pub at_told : (q : Question) → AsksOf path.At query q → AnswersQuestion format page i q answer → AtTold format page query i answer
  at_told q (route, e, by_route, by_position, is) h =
      record { route = route; position = e; gives_route = by_route; gives_position = by_position; tells = asked_of q (question.At route e) is h; served = served }

  pub where_told : (q : Question) → AsksOf path.Where query q → AnswersQuestion format page i q answer → WhereTold format page query i answer
  where_told q (s, gives, is) h = record { spot = s; gives_spot = gives; tells = asked_of q (question.Where s) is h; served = served }

  pub lengths_told : (q : Question) → AsksOf path.Lengths query q → AnswersQuestion format page i q answer → LengthsTold format page query i answer
  lengths_told q (route, by_route, (classes, by_classes, is)) h = record {
    route = route;
    classes = classes;
    gives_route = by_route;
    gives_classes = by_classes;
    tells = asked_of q (lengths_question route classes) is h;
    served = served;
  }

  pub segments_told : (q : Question) → AsksOf path.Segments query q → AnswersQuestion format page i q answer → SegmentsTold format page query i answer
  segments_told q (route, side, classes, by_route, by_side, by_classes, is) h = record {
    route = route;
    side = side;
    classes = classes;
    gives_route = by_route;
    gives_side = by_side;
    gives_classes = by_classes;
    tells = asked_of q (question.Segments route side classes) is h;
    served = served;
  }

  pub translate_told : (q : Question) → AsksOf path.Translate query q → AnswersQuestion format page i q answer → TranslateTold format page query i answer
  translate_told q (route, e, to, by_route, by_position, by_to, is) h =
      let (said, tells, shows) = asked_of q (question.Translate route e to) is h in
      record {
        route = route;
        position = e;
        to = to;
        gives_route = by_route;
        gives_position = by_position;
        gives_to = by_to;
        said = said;
        tells = tells_translated i route e to said tells;
        shows = shows;
        served = served;
      }

  pub diagram_told : (q : Question) → AsksOf path.Diagram query q → AnswersQuestion format page i q answer → DiagramTold format page query i answer
  diagram_told q (route, classes, from, to, by_route, by_classes, by_from, by_to, is) h = record {
    route = route;
    classes = classes;
    from = from;
    to = to;
    gives_route = by_route;
    gives_classes = by_classes;
    gives_from = by_from;
    gives_to = by_to;
    tells = asked_of q (question.Diagram route classes from to) is h;
    served = served;
  }

  pub route_told : AnswersPage i format page path.Route query answer → RouteTold format page query i answer
  route_told (inl (q, (route, says, is), told)) = inl (route, says, asked_of q (question.Route route) is told)
  route_told (inr (Malformed p, cannot, is)) = absurd cannot
  route_told (inr (NoRoute, cannot, is)) = inr (cannot, is)
  route_told (inr (Lacking, cannot, is)) = absurd (served (ap (λ (a : Answer). a.status) is))
