-- Segments of a route with the values of classes side by side: what is told of them, and what is written.
use Rattle.std.proofs.Common.{◌≡◌, ℕ, Bool, true, false, cond, inl, inr, List, [], ◌∷◌, ◌++◌, append_assoc, append-nil, map, length, filter, Option, Some, None, Result, Ok, Err, refl, sym, ap, subst, ◌∙◌}
use Rattle.std.specs.Prelude.{codes}
use Rattle.std.specs.List.{find, flat_map}
use Rattle.std.specs.Option.{option_map_or}
use Rattle.std.specs.Cmp.Lexicographic.{texts_ties}
use Rattle.lrs_measure.specs.Lists.{In}
use Rattle.lrs_measure.specs.Texts.{Name}
use Rattle.lrs_events.specs.declared.class.Class.{Class}
use Rattle.lrs_events.specs.declared.side.LinkSide.{LinkSide}
use Rattle.lrs_events.specs.RouteSpans.Search.{one_side}
use Rattle.lrs_position.specs.declared.route.Route.{Route}
use Rattle.lrs_machine.specs.declared.image.Image.{Image}
use Rattle.lrs_machine.specs.declared.image.RouteRow.{RouteRow}
use Rattle.lrs_machine.specs.declared.question.OverlayWanted.{OverlayWanted}
use Rattle.lrs_machine.specs.declared.segment.SegFault.{SegFault}
use Rattle.lrs_machine.specs.declared.segment.Segment.{Segment}
use Rattle.lrs_machine.specs.Image.{state_of}
use Rattle.lrs_machine.specs.Lines.{Text, fields}
use Rattle.lrs_machine.specs.Readings.{segments_on}
use Rattle.lrs_machine.specs.Segments.{segment_fault, segments_of}
use Rattle.lrs_machine.specs.Sound.{IsSound}
use Rattle.lrs_image.specs.Change.{is_named}
use Rattle.lrs_image.proofs.Tables.{routes_in_order}
use Rattle.lrs_report.specs.SideValues.{IsAnswer, holders_along}
use Rattle.lrs_report.specs.Sweep.{run_of}
use Rattle.lrs_report.proofs.States.{of_state}
use Rattle.lrs_report_lists.specs.Lines.{csv_line}
use Rattle.lrs_report_lists.specs.Lists.{routes_named}
use Rattle.lrs_report_lists.proofs.Chosen.{named_alone}
use Rattle.lrs_report_answers.specs.Overlay.{is_segment_wanted, line_if_wanted, next_fields, overlay_header, overlay_line}
use Rattle.lrs_report_answers.specs.RouteSegments.{class_list}
use Rattle.lrs_report_answers.proofs.OfState.{classes_are, tell_holders}

-- ---- segments

-- an answer that passes one test passes another that follows
answer_follows : {A : Type 0} (o : Option SegFault) (P Q : A → Type 0) (result : Result A SegFault) → ((found : A) → P found → Q found) → IsAnswer o P result → IsAnswer o Q result
answer_follows (Some fault) P Q result k h = h
answer_follows None P Q (Ok found) k h = k found h
answer_follows None P Q (Err fault) k h = h

pub answered : {A : Type 0} (o : Option SegFault) (P : A → Type 0) (found : A) → IsAnswer o P (Ok found) → P found
answered None P found h = h
answered (Some fault) P found h = absurd cc

module _ (i : Image) (e : RouteRow) (sound : IsSound i) (known : In e i.routes) (wanted : List Name) (side : LinkSide) where
  -- the segments by the rows of a route are those of the state
  pub segments_are : (result : Result (List Segment) SegFault)
      → IsAnswer (segment_fault i.classes wanted (one_side side)) (λ found. (s : LinkSide) → one_side side ≡ one_side s → map run_of found ≡ segments_of i.assets wanted (holders_along e.spans s (length e.route.course))) result
      → IsAnswer (segment_fault (class_list (state_of i)) wanted (one_side side)) (λ found. map run_of found ≡ segments_on (state_of i) e.route.course wanted side) result
  segments_are result h =
      subst (λ (classes : List Class). IsAnswer (segment_fault classes wanted (one_side side)) (λ found. map run_of found ≡ segments_on (state_of i) e.route.course wanted side) result) (sym (classes_are i))
      (answer_follows (segment_fault i.classes wanted (one_side side))
      (λ found. (s : LinkSide) → one_side side ≡ one_side s → map run_of found ≡ segments_of i.assets wanted (holders_along e.spans s (length e.route.course)))
      (λ found. map run_of found ≡ segments_on (state_of i) e.route.course wanted side) result
      (λ found k. k side refl ∙ of_state i e.route.course e.spans wanted side (tell_holders i e sound known)) h)

-- ---- which are asked for

-- the lines of the segments that are asked for
pub wanted_lines : (w : OverlayWanted) (route : Route) (side : LinkSide) (found : List Segment)
    → flat_map (line_if_wanted w route side) found ≡ flat_map (overlay_line route side) (filter (is_segment_wanted w) (map run_of found))
wanted_lines w route side [] = refl
wanted_lines w route side (s ∷ ss) = by (is_segment_wanted w (run_of s)) (wanted_lines w route side ss)
  where
    line : Text
    line = overlay_line route side (run_of s)

    by : (b : Bool) → flat_map (line_if_wanted w route side) ss ≡ flat_map (overlay_line route side) (filter (is_segment_wanted w) (map run_of ss))
        → cond b line [] ++ flat_map (line_if_wanted w route side) ss ≡ flat_map (overlay_line route side) (cond b (run_of s ∷ filter (is_segment_wanted w) (map run_of ss)) (filter (is_segment_wanted w) (map run_of ss)))
    by true rest = ap (λ z. line ++ z) rest
    by false rest = rest

-- ---- lines, by their parts

fields_behind : (f : Text) (fs : List Text) → f ++ next_fields fs ≡ fields (f ∷ fs)
fields_behind f [] = append-nil f
fields_behind f (g ∷ gs) = ap (λ z. f ++ 44 ∷ z) (fields_behind g gs)

pub header_parts : (classes : List Name) → (codes "route,from,to,from_measure,to_measure,side" ++ next_fields classes) ++ 10 ∷ [] ≡ overlay_header classes
header_parts classes =
    ap (λ z. (codes "route" ++ 44 ∷ (codes "from" ++ 44 ∷ (codes "to" ++ 44 ∷ (codes "from_measure" ++ 44 ∷ (codes "to_measure" ++ 44 ∷ z))))) ++ 10 ∷ []) (fields_behind (codes "side") classes)

pub place_parts : (a b c d e : List ℕ) → ((a ++ 44 ∷ (b ++ 44 ∷ c)) ++ 44 ∷ d) ++ 44 ∷ e ≡ a ++ 44 ∷ (b ++ 44 ∷ (c ++ 44 ∷ (d ++ 44 ∷ e)))
place_parts a b c d e = simp append_assoc

joined : (a b c d e f r : List ℕ) → (((a ++ 44 ∷ (b ++ 44 ∷ (c ++ 44 ∷ (d ++ 44 ∷ e)))) ++ 44 ∷ f) ++ r) ++ 10 ∷ [] ≡ (a ++ 44 ∷ (b ++ 44 ∷ (c ++ 44 ∷ (d ++ 44 ∷ (e ++ 44 ∷ (f ++ r)))))) ++ 10 ∷ []
joined a b c d e f r = simp append_assoc

pub line_parts : (a b c d e f : List ℕ) (fs : List Text) → (((a ++ 44 ∷ (b ++ 44 ∷ (c ++ 44 ∷ (d ++ 44 ∷ e)))) ++ 44 ∷ f) ++ next_fields fs) ++ 10 ∷ [] ≡ csv_line (a ∷ b ∷ c ∷ d ∷ e ∷ f ∷ fs)
line_parts a b c d e f fs = joined a b c d e f (next_fields fs) ∙ ap (λ z. (a ++ 44 ∷ (b ++ 44 ∷ (c ++ 44 ∷ (d ++ 44 ∷ (e ++ 44 ∷ z))))) ++ 10 ∷ []) (fields_behind f fs)

-- ---- routes

-- what is left to go over is among all
abbrev pub AreAmong : {X : Type 0} → List X → List X → Type 0
AreAmong {X} left all = (x : X) → In x left → In x all

pub among_next : {X : Type 0} (x : X) (rest left all : List X) → AreAmong left all → left ≡ x ∷ rest → In x all × AreAmong rest all
among_next {X} x rest left all h e =
    let within : AreAmong (x ∷ rest) all = subst (λ (xs : List X). AreAmong xs all) e h in
    (within x (inl refl), λ y m. within y (inr m))

-- the routes of a name are the one that a search finds, or none
pub route_alone : (name : Name) (i : Image) → IsSound i → routes_named (Some name) i ≡ option_map_or (λ (e : RouteRow). e ∷ []) (find (is_named name) i.routes) []
route_alone name i sound =
    named_alone name i.routes (routes_in_order i sound)
    ∙ (λ j. option_map_or (λ (e : RouteRow). e ∷ []) (find (λ (e : RouteRow). sym (texts_ties e.route.name name) j) i.routes) [])
