-- The segments of an overlay, as they are added one by one.
use Rattle.std.proofs.Common.{◌≡◌, List, [], ◌∷◌, ◌++◌, append-nil, map, filter, Bool, true, false, cond, Some, None, refl, sym, ap, ◌∙◌}
use Rattle.std.specs.List.{flat_map}
use Rattle.lrs_position.specs.declared.route.Route.{Route}
use Rattle.lrs_events.specs.declared.side.LinkSide.{LinkSide}
use Rattle.lrs_events.specs.declared.side.LinkSide.TheVariants.{Left, Right}
use Rattle.lrs_machine.specs.declared.image.Image.{Image}
use Rattle.lrs_machine.specs.declared.image.RouteRow.{RouteRow}
use Rattle.lrs_machine.specs.declared.question.OverlayWanted.{OverlayWanted}
use Rattle.lrs_machine.specs.declared.segment.Segment.{Segment}
use Rattle.serde_json.specs.Data.{Data}
use Rattle.lrs_report.specs.Sweep.{run_of}
use Rattle.lrs_report_answers.specs.Overlay.{is_segment_wanted, sides_of}
use Rattle.lrs_web_replies.specs.Overlay.{overlay_item, overlay_items, segment_items, side_items}

-- those that are asked for
pub wanted_items : (w : OverlayWanted) (route : Route) (side : LinkSide) (found : List Segment)
    → flat_map (segment_items w route side) found ≡ map (overlay_item route side) (filter (is_segment_wanted w) (map run_of found))
wanted_items w route side [] = refl
wanted_items w route side (s ∷ ss) = by (is_segment_wanted w (run_of s)) (wanted_items w route side ss)
  where
    one : List Data
    one = overlay_item route side (run_of s) ∷ []

    by : (b : Bool) → flat_map (segment_items w route side) ss ≡ map (overlay_item route side) (filter (is_segment_wanted w) (map run_of ss))
        → cond b one [] ++ flat_map (segment_items w route side) ss
        ≡ map (overlay_item route side) (cond b (run_of s ∷ filter (is_segment_wanted w) (map run_of ss)) (filter (is_segment_wanted w) (map run_of ss)))
    by true rest = ap (λ z. one ++ z) rest
    by false rest = rest

module _ (i : Image) (w : OverlayWanted) (e : RouteRow) where
  -- one side is all that is asked for
  pub of_side : (side : LinkSide) → w.side ≡ Some side → side_items i w e side ≡ overlay_items i w e
  of_side side is = sym (append-nil (side_items i w e side)) ∙ ap (λ o. flat_map (side_items i w e) (sides_of o)) (sym is)

  -- both sides are, the left one first
  pub of_sides : w.side ≡ None → side_items i w e Left ++ side_items i w e Right ≡ overlay_items i w e
  of_sides is = ap (λ z. side_items i w e Left ++ z) (sym (append-nil (side_items i w e Right))) ∙ ap (λ o. flat_map (side_items i w e) (sides_of o)) (sym is)
