-- What a question of a sheet is replied is read off the state.
use Rattle.std.proofs.Common.{◌≡◌, ◌⊎◌, ℕ, ◌<◌, inl, inr, List, [], ◌∷◌, ◌++◌, Option, Some, None, Result, Ok, Err, refl, sym, ap, subst, ◌∙◌}
use Rattle.std.specs.Prelude.{Contains, MatchOption, MatchResult, codes, filter}
use Rattle.std.specs.Borrow.{Bor}
use Rattle.std.specs.List.{AllByRecursion, flat_map}
use Rattle.lrs_position.specs.Translations.{number_of}
use Rattle.lrs_position.specs.declared.expression.Expr.{Expr}
use Rattle.lrs_events.specs.declared.side.Side.TheVariants.{L}
use Rattle.lrs_machine.specs.Image.{state_of}
use Rattle.lrs_machine.specs.Lines.{Text}
use Rattle.lrs_machine.specs.Readings.{segments_on}
use Rattle.lrs_machine.specs.Register.{get}
use Rattle.lrs_machine.specs.Segments.{segment_fault}
use Rattle.lrs_machine.specs.State.{State}
use Rattle.lrs_machine.specs.declared.absence.Missing.{Missing}
use Rattle.lrs_machine.specs.declared.answer.Field.{Field}
use Rattle.lrs_machine.specs.declared.image.Image.{Image}
use Rattle.lrs_machine.specs.declared.question.Destination.TheVariants as destination
use Rattle.lrs_machine.specs.declared.question.Listing.{Listing}
use Rattle.lrs_machine.specs.declared.question.Listing.TheVariants as listing
use Rattle.lrs_machine.specs.declared.question.OverlayAsked.{OverlayAsked}
use Rattle.lrs_machine.specs.declared.question.OverlayWanted.{OverlayWanted}
use Rattle.lrs_machine.specs.declared.question.RowsAsked.{RowsAsked}
use Rattle.lrs_machine.specs.declared.segment.SegFault.{SegFault}
use Rattle.lrs_machine.specs.declared.question.Question.{Question}
use Rattle.lrs_machine.specs.declared.question.Question.TheVariants as question
use Rattle.lrs_report_lists.specs.Absence.{missing_row}
use Rattle.lrs_report_lists.specs.Lists.{routes_named, rows_text}
use Rattle.lrs_report_answers.specs.Answers.{IsAt, UnlessMemory, UnlessMissing, asset_missing}
use Rattle.lrs_report_answers.specs.Listings.{AreLengthsOf, IsInventory, IsListing, missing_of, missing_route, wanted_of}
use Rattle.lrs_report_answers.specs.Overlay.{is_segment_wanted, overlay_header, overlay_line, overlay_text, overlay_wanted, sides_of}
use Rattle.lrs_report_answers.specs.Stretches.{OnStretch, end_of}
use Rattle.lrs_report_answers.specs.declared.stretch.End.TheVariants.{From, To}
use Rattle.lrs_report_answers.specs.AssetStretches.{IsFound, all_rows_of}
use Rattle.lrs_report_answers.specs.RouteSegments.{IsSegmented, UnlessRefused, class_list}
use Rattle.lrs_report_answers.specs.ToldAnswers.{IsOnLink, IsTold, IsTranslated, Tells, length_on}
use Rattle.lrs_report_answers.specs.declared.fault.AskFault.{AskFault}
use Rattle.lrs_report_answers.specs.declared.fault.AskFault.TheVariants.{Memory}
use Rattle.lrs_report_answers.specs.declared.fault.AskFault.TheVariants as asked
use Rattle.lrs_report_answers.specs.declared.told.Told.{Told}
use Rattle.lrs_report_answers.specs.declared.told.Told.TheVariants as told
use Rattle.lrs_sheet_records.specs.Questions.{SaysQuestion, all_questions, question_shapes}
use Rattle.lrs_sheet_records.specs.Records.{place_of, text_at}
use Rattle.lrs_sheet_records.specs.Shapes.{StatesBy}
use Rattle.lrs_sheet_records.proofs.OneCommand.{one-malformed}
use Rattle.lrs_sheet_records.proofs.OneQuestion.{nameless, one-question, well-formed-asked}
use Rattle.lrs_sheet_questions.specs.Entries.{list_lines}
use Rattle.lrs_sheet_questions.specs.Lines.{listing_lines, told_lines}
use Rattle.lrs_sheet_questions.specs.Replies.{AreReplied, IsReplied, Reply, answered, malformed, reply_of}
use Rattle.lrs_report_answers.specs.Place.Answers.{IsWhereabouts}
use Rattle.lrs_promises.specs.Determinism.{IsOfNoHistory, SameInventories}
use Rattle.lrs_promises.proofs.Agreeing.{tells_moved, where_moved, with_ledgers}
use Rattle.lrs_promises.proofs.Places.{lengths_once, where_once}
use Rattle.lrs_promises.proofs.Once.{OneUnlessMemory, at_once, ok_is_not_err, same_err, same_some, segmented_once, some_is_not_none, tells_once, unless_memory}
use Rattle.lrs_promises.proofs.Translated.{by_method_once, on_link_once, stated_above}

-- the rows of an asset
found_once : (s : State) (asset : ℕ) → OneUnlessMemory (IsFound s asset)
found_once s asset r q h g some also = by (get s.assets asset) h g
  where
    by : {A : Type 0} (o : Option A) → MatchOption o (r ≡ Err asset_missing) (λ a. UnlessMemory (λ found. found ≡ all_rows_of s asset) r) → MatchOption o (q ≡ Err asset_missing) (λ a. UnlessMemory (λ found. found ≡ all_rows_of s asset) q) → r ≡ q
    by None x y = x ∙ sym y
    by (Some a) x y = unless_memory (λ found. found ≡ all_rows_of s asset) (λ c d k l. k ∙ sym l) r q x y some also

-- a position that a record states has a denominator
stated_in : (fields : List Text) (name : Text) (e : Expr) → StatesBy name (text_at fields 4) e → 0 < (number_of e).den
stated_in fields name e (method, by, states) = stated_above method (text_at fields 4) e states

-- what is told of the inventory between two ends is replied alike
between_alike : (key : Text) (i j : Image) (told_of : Option ℕ → Option ℕ → Bor Image → Told)
    → ((first last : Option ℕ) (x y : Bor Image) → x.now ≡ i → y.now ≡ j → told_lines key (told_of first last x) ≡ told_lines key (told_of first last y)) → (from to : Result (Option ℕ) AskFault)
    (said other : Result Told AskFault) → MatchResult from (λ first. MatchResult to (λ last. Tells (IsInventory i) (told_of first last) said) (λ fault. said ≡ Err fault)) (λ fault. said ≡ Err fault)
    → MatchResult from (λ first. MatchResult to (λ last. Tells (IsInventory j) (told_of first last) other) (λ fault. other ≡ Err fault)) (λ fault. other ≡ Err fault) → reply_of key said ≡ reply_of key other
between_alike key i j told_of one (Err fault) to said other h g = ap (reply_of key) (h ∙ sym g)
between_alike key i j told_of one (Ok first) (Err fault) said other h g = ap (reply_of key) (h ∙ sym g)
between_alike key i j told_of one (Ok first) (Ok last) (Ok t) (Ok u) (x, is, told) (y, too, also) =
    ap (λ lines. Some (answered lines)) (ap (told_lines key) told ∙ one first last x y is too ∙ ap (told_lines key) (sym also))
between_alike key i j told_of one (Ok first) (Ok last) (Ok t) (Err fault) h never = absurd never
between_alike key i j told_of one (Ok first) (Ok last) (Err fault) other never g = absurd never

-- and so is a list of one inventory
listed_alike : (key : Text) (i : Image) (l : Listing) (o : Option Missing) (said other : Result Told AskFault) → Tells (UnlessMissing o (IsInventory i)) (told.Listing l) said
    → Tells (UnlessMissing o (IsInventory i)) (told.Listing l) other → reply_of key said ≡ reply_of key other
listed_alike key i l None (Ok t) (Ok u) (x, is, told) (y, too, also) =
    ap (λ lines. Some (answered lines)) (ap (told_lines key) told ∙ ap (listing_lines key l) (is ∙ sym too) ∙ ap (told_lines key) (sym also))
listed_alike key i l None (Ok t) (Err fault) h never = absurd never
listed_alike key i l None (Err fault) other never g = absurd never
listed_alike key i l (Some what) (Ok t) other (x, never, is) g = absurd (ok_is_not_err x (asked.Missing what) never)
listed_alike key i l (Some what) (Err fault) (Ok u) h (y, never, is) = absurd (ok_is_not_err y (asked.Missing what) never)
listed_alike key i l (Some what) (Err fault) (Err other) h g =
    ap (λ (e : AskFault). reply_of key (Err e)) (same_err fault (asked.Missing what) h ∙ sym (same_err other (asked.Missing what) g))

-- the segments of routes of an image, as those of a state
abbrev overlay_lines : State → Image → OverlayWanted → Text
overlay_lines s j w =
    overlay_header w.classes
    ++ flat_map (λ e. flat_map (λ side. flat_map (overlay_line e.route side) (filter (is_segment_wanted w) (segments_on s e.route.course w.classes side))) (sides_of w.side)) (routes_named w.route j)

module _ (i j : Image) (same : state_of i ≡ state_of j) (alike : SameInventories i j) (fields : List Text) where
  -- but for their ledgers they are one
  is_with_ledgers : i ≡ with_ledgers i j
  is_with_ledgers t = record { links = alike.links t; classes = alike.classes t; assets = alike.assets t; routes = alike.routes t; entered = i.entered; gone = i.gone; edits = alike.edits t }

  one_state : state_of (with_ledgers i j) ≡ state_of j
  one_state = ap state_of (sym is_with_ledgers) ∙ same

  -- one answer is one reply
  as_one : (key : Text) (said other : Result Told AskFault) → said ≡ other → reply_of key said ≡ reply_of key other
  as_one key said other is = ap (reply_of key) is

  rows_alike : (key : Text) (a : RowsAsked) (o : Option Missing) (said other : Result Told AskFault)
      → UnlessMissing o (OnStretch (with_ledgers i j) a.route a.from a.to (λ first last. Tells (IsInventory (with_ledgers i j)) (told.Rows (wanted_of a first last)))) said
      → UnlessMissing o (OnStretch j a.route a.from a.to (λ first last. Tells (IsInventory j) (told.Rows (wanted_of a first last)))) other → reply_of key said ≡ reply_of key other
  rows_alike key a None said other h g =
      between_alike key (with_ledgers i j) j (λ first last. told.Rows (wanted_of a first last))
      (λ first last x y is too. ap (λ (k : Image). list_lines key (codes "rows") (codes "row") (rows_text (wanted_of a first last) k)) is
      ∙ ap (λ (k : Image). list_lines key (codes "rows") (codes "row") (rows_text (wanted_of a first last) k)) (sym too))
      (end_of j a.route From a.from) (end_of j a.route To a.to) said other h g
  rows_alike key a (Some what) said other h g = ap (reply_of key) (h ∙ sym g)

  overlay_alike : (key : Text) (a : OverlayAsked) (o : Option Missing) (refuses : Option SegFault) (said other : Result Told AskFault)
      → UnlessMissing o (UnlessRefused refuses (OnStretch (with_ledgers i j) a.route a.from a.to (λ first last. Tells (IsInventory (with_ledgers i j)) (told.Overlay (overlay_wanted a first last))))) said
      → UnlessMissing o (UnlessRefused refuses (OnStretch j a.route a.from a.to (λ first last. Tells (IsInventory j) (told.Overlay (overlay_wanted a first last))))) other → reply_of key said ≡ reply_of key other
  overlay_alike key a None None said other h g =
      between_alike key (with_ledgers i j) j (λ first last. told.Overlay (overlay_wanted a first last))
      (λ first last x y is too. ap (λ (k : Image). list_lines key (codes "overlay") (codes "segment") (overlay_text (overlay_wanted a first last) k)) is
      ∙ (λ t. list_lines key (codes "overlay") (codes "segment") (overlay_lines (one_state t) j (overlay_wanted a first last)))
      ∙ ap (λ (k : Image). list_lines key (codes "overlay") (codes "segment") (overlay_text (overlay_wanted a first last) k)) (sym too))
      (end_of j a.route From a.from) (end_of j a.route To a.to) said other h g
  overlay_alike key a None (Some fault) said other h g = ap (reply_of key) (h ∙ sym g)
  overlay_alike key a (Some what) refuses said other h g = ap (reply_of key) (h ∙ sym g)

  -- a history is told by the ledgers; no other list is asked for
  listing_alike : (key : Text) (l : Listing) → SaysQuestion fields key (question.List l) → IsOfNoHistory fields ⊎ (i ≡ j) → (said other : Result Told AskFault) → Tells (IsListing i l) (told.Listing l) said
      → Tells (IsListing j l) (told.Listing l) other → reply_of key said ≡ reply_of key other
  listing_alike key (listing.History asset) says (inl never_asked) said other h g = absurd (never_asked says.same_question)
  listing_alike key (listing.History asset) says (inr one) said other h g =
      listed_alike key j (listing.History asset) (missing_of j (listing.History asset)) said other
      (subst (λ (x : Image). Tells (IsListing x (listing.History asset)) (told.Listing (listing.History asset)) said) one h) g
  listing_alike key listing.Routes says never_asked said other h g = absurd (nameless (subst (Contains all_questions) says.same_question says.is_question))
  listing_alike key listing.Links says never_asked said other h g = absurd (nameless (subst (Contains all_questions) says.same_question says.is_question))
  listing_alike key listing.Classes says never_asked said other h g = absurd (nameless (subst (Contains all_questions) says.same_question says.is_question))
  listing_alike key (listing.Refs route exact) says never_asked said other h g = absurd (nameless (subst (Contains all_questions) says.same_question says.is_question))
  listing_alike key (listing.Marks route) says never_asked said other h g = absurd (nameless (subst (Contains all_questions) says.same_question says.is_question))
  listing_alike key (listing.Pieces route) says never_asked said other h g = absurd (nameless (subst (Contains all_questions) says.same_question says.is_question))
  listing_alike key (listing.Gone wanted) says never_asked said other h g = absurd (nameless (subst (Contains all_questions) says.same_question says.is_question))
  listing_alike key (listing.Log from until) says never_asked said other h g = absurd (nameless (subst (Contains all_questions) says.same_question says.is_question))
  listing_alike key (listing.LogOfKey other_key) says never_asked said other h g = absurd (nameless (subst (Contains all_questions) says.same_question says.is_question))

  -- what is told of two images of one state is replied alike, unless memory runs out
  told_alike : (key : Text) (q : Question) → SaysQuestion fields key q → IsOfNoHistory fields ⊎ (i ≡ j) → (said other : Result Told AskFault) → IsTold i q said → IsTold j q other → (said ≡ Err Memory → ⊥) → (other ≡ Err Memory → ⊥)
      → reply_of key said ≡ reply_of key other
  told_alike key (question.At route e) says never_asked said other h g some also =
      as_one key said other (
      tells_once (IsAt (state_of i) route e) (told.At route) (at_once (state_of i) route e) said other h (subst (λ s. Tells (IsAt s route e) (told.At route) other) (sym same) g) some also
      )
  told_alike key (question.Segments route side classes) says never_asked said other h g some also =
      as_one key said other (
      tells_once (IsSegmented (state_of i) route classes side) (told.Segments route side (length_on (state_of i) route) classes) (segmented_once (state_of i) route classes side) said other h
      (subst (λ s. Tells (IsSegmented s route classes side) (told.Segments route side (length_on s route) classes) other) (sym same) g) some also
      )
  told_alike key (question.Translate route e (destination.Method t)) says never_asked said other h g some also =
      as_one key said other (
      tells_once (IsTranslated (state_of i) route e t) (told.Translated route) (by_method_once i route e t (stated_in fields _ e says.arguments.1.1.0)) said other h
      (subst (λ s. Tells (IsTranslated s route e t) (told.Translated route) other) (sym same) g) some also
      )
  told_alike key (question.Translate route e destination.Link) says never_asked said other h g some also =
      as_one key said other (
      tells_once (IsOnLink (state_of i) route e) (λ on. told.OnLink route on.0 on.1) (on_link_once i route e (stated_in fields _ e says.arguments.1.1.0)) said other h
      (subst (λ s. Tells (IsOnLink s route e) (λ on. told.OnLink route on.0 on.1) other) (sym same) g) some also
      )
  told_alike key (question.Find asset) says never_asked said other h g some also =
      as_one key said other (
      tells_once (IsFound (state_of i) asset) told.Found (found_once (state_of i) asset) said other h (subst (λ s. Tells (IsFound s asset) told.Found other) (sym same) g) some also
      )
  told_alike key (question.Route route) says never_asked said other h g some also = absurd (nameless (subst (Contains all_questions) says.same_question says.is_question))
  told_alike key (question.Diagram route classes from to) says never_asked said other h g some also = absurd (nameless (subst (Contains all_questions) says.same_question says.is_question))
  told_alike key (question.Combinations route classes) says never_asked said other h g some also = absurd (nameless (subst (Contains all_questions) says.same_question says.is_question))
  told_alike key question.Totals says never_asked said other h g some also = absurd (nameless (subst (Contains all_questions) says.same_question says.is_question))
  told_alike key (question.Where spot) says never_asked said other h g some also =
      let moved = tells_moved (IsWhereabouts (with_ledgers i j) spot) (IsWhereabouts j spot) told.Where (where_moved i j (ap state_of (sym is_with_ledgers) ∙ same) spot) said
      (subst (λ (x : Image). Tells (IsWhereabouts x spot) told.Where said) is_with_ledgers h) in
      as_one key said other (tells_once (IsWhereabouts j spot) told.Where (where_once j spot) said other moved g some also)
  told_alike key (question.Rows asked) says never_asked said other h g some also =
      rows_alike key asked (missing_row j (wanted_of asked None None)) said other (subst (λ (x : Image). IsTold x (question.Rows asked) said) is_with_ledgers h) g
  told_alike key (question.Overlay asked) says never_asked said other h g some also =
      overlay_alike key asked (missing_route j asked.route) (segment_fault (class_list (state_of j)) asked.classes L) said other
      (subst (λ s. UnlessMissing (missing_route j asked.route) (UnlessRefused (segment_fault (class_list s) asked.classes L) (OnStretch (with_ledgers i j) asked.route asked.from asked.to (λ first last.
      Tells (IsInventory (with_ledgers i j)) (told.Overlay (overlay_wanted asked first last))))) said) one_state (subst (λ (x : Image). IsTold x (question.Overlay asked) said) is_with_ledgers h)) g
  told_alike key (question.Lengths route) says never_asked said other h g some also =
      as_one key said other (tells_once (AreLengthsOf j route) told.Lengths (lengths_once j route) said other (subst (λ (x : Image). Tells (AreLengthsOf x route) told.Lengths said) is_with_ledgers h) g some also)
  told_alike key (question.List listing) says never_asked said other h g some also = listing_alike key listing says never_asked said other h g
  told_alike key question.Health says never_asked said other h g some also = absurd (nameless (subst (Contains all_questions) says.same_question says.is_question))

  -- there is no reply where memory ran out
  has_memory : (key : Text) (said : Result Told AskFault) (r : Reply) → reply_of key said ≡ Some r → said ≡ Err Memory → ⊥
  has_memory key said r is e = some_is_not_none r (sym is ∙ ap (reply_of key) e)

  -- so is a reply
  reply_alike : IsOfNoHistory fields ⊎ (i ≡ j) → (r p : Reply) → IsReplied i fields r → IsReplied j fields p → r ≡ p
  reply_alike never_asked r p (inl (key, q, said, says, told, is)) (inl (key', q', said', says', told', is')) =
      let (keys, asked) = one-question fields key key' q q' says says' in
      let also : IsTold j q said' = subst (λ x. IsTold j x said') (sym asked) told' in
      let replies = told_alike key q says never_asked said said' told also (has_memory key said r is) (has_memory key' said' p is') in
      same_some r p (sym is ∙ replies ∙ (λ k. reply_of (keys k) said') ∙ is')
  reply_alike never_asked r p (inl (key, q, said, says, told, is)) (inr (at, first, is')) = absurd (first.malformed (well-formed-asked fields key q says (place_of at)))
  reply_alike never_asked r p (inr (at, first, is)) (inl (key, q, said, says, told, is')) = absurd (first.malformed (well-formed-asked fields key q says (place_of at)))
  reply_alike never_asked r p (inr (at, first, is)) (inr (at', first', is')) =
      is ∙ ap (λ (f : Field). malformed fields f) (one-malformed all_questions question_shapes fields at at' first first') ∙ sym is'

-- and so are those of records
pub replies_alike : (i j : Image) → state_of i ≡ state_of j → SameInventories i j → (records : List (List Text)) → AllByRecursion (λ fields. IsOfNoHistory fields ⊎ (i ≡ j)) records → (replies more : List Reply) → AreReplied i records replies → AreReplied j records more → replies ≡ more
replies_alike i j same alike [] none [] [] h g = refl
replies_alike i j same alike [] none [] (p ∷ more) h g = absurd g
replies_alike i j same alike [] none (r ∷ replies) more h g = absurd h
replies_alike i j same alike (fields ∷ records) none [] more h g = absurd h
replies_alike i j same alike (fields ∷ records) none (r ∷ replies) [] h g = absurd g
replies_alike i j same alike (fields ∷ records) none (r ∷ replies) (p ∷ more) h g =
    let first = reply_alike i j same alike fields none.0 r p h.0 g.0 in
    let rest = replies_alike i j same alike records none.1 replies more h.1 g.1 in
    λ k. first k ∷ rest k
