use Rattle.std.proofs.Common.{◌≡◌, ◌+◌, List, sym, ap, subst, ◌∙◌}
use Rattle.std.specs.List.{flat_map}
use Rattle.lrs_events.specs.declared.span.Span.{Span}
use Rattle.lrs_events.specs.Changes.{changed_rows}
use Rattle.lrs_events.specs.Spans.{are_rows}
use Rattle.lrs_events.specs.Row.Changes.{IsChange}
use Rattle.lrs_events.specs.Row.Clips.{clip}
use Rattle.lrs_events.specs.Row.Joins.{have_room, are_of_one_class, IsJoin}
use Rattle.lrs_events.specs.Row.Removals.{is_within, IsThat}
use Rattle.lrs_events.proofs.Row.Pieces.{clips_rows, clips_hold}
use Rattle.lrs_events.proofs.Row.Sided.{goes_in_order}
use Rattle.lrs_events.specs.RouteSpans.Realignment.{IsRealigned}
use Rattle.lrs_verbs.proofs.RouteVerbs.GoneOn.{front_ends, rear_fits, of_one_class, is_realigned}
use Rattle.lrs_verbs.proofs.routes.realigned_rows.plan_rows.Goals as goal

pub gone_on-requires-clause-front : goal.gone_on-requires-clause-front
gone_on-requires-clause-front c = ap are_rows (c.in_ok-front.ensures ∙ ap (flat_map (clip 0 c.args.from)) c.rows-rows.ensures.rows) ∙ clips_rows 0 c.args.from c.args.spans.now c.rows-rows.ensures.canonical

pub gone_on-requires-clause-ends : goal.gone_on-requires-clause-ends
gone_on-requires-clause-ends c =
    front_ends c.args.from c.args.to c.args.len c.args.spans.now c.in_ok-front.front.items c.in_ok-cut.cut.rear.items c.rows-rows.ensures.canonical
    (c.in_ok-front.ensures ∙ ap (flat_map (clip 0 c.args.from)) c.rows-rows.ensures.rows) c.in_ok-cut.ensures.rear c.in_ok-cut.ensures.cut.behind

pub gone_on-requires-clause-room : goal.gone_on-requires-clause-room
gone_on-requires-clause-room c =
    ap (have_room (c.args.from + c.args.len)) c.deref.ensures.value
    ∙ rear_fits c.args.from c.args.to c.args.len c.args.spans.now c.in_ok-front.front.items c.in_ok-cut.cut.rear.items c.rows-rows.ensures.canonical
    (c.in_ok-front.ensures ∙ ap (flat_map (clip 0 c.args.from)) c.rows-rows.ensures.rows) c.in_ok-cut.ensures.rear c.in_ok-cut.ensures.cut.behind c.requires.room

pub gone_on-requires-clause-one_class : goal.gone_on-requires-clause-one_class
gone_on-requires-clause-one_class c =
    ap (are_of_one_class c.in_ok-front.front.items) c.deref.ensures.value
    ∙ of_one_class c.args.from c.args.to c.args.len c.args.spans.now c.in_ok-front.front.items c.in_ok-cut.cut.rear.items c.rows-rows.ensures.canonical
    (c.in_ok-front.ensures ∙ ap (flat_map (clip 0 c.args.from)) c.rows-rows.ensures.rows) c.in_ok-cut.ensures.rear c.in_ok-cut.ensures.cut.behind

pub returns : goal.returns
returns c =
    let rows = c.args.spans.now in
    let canonical = c.rows-rows.ensures.canonical in
    let front = c.in_ok-front.ensures ∙ ap (flat_map (clip 0 c.args.from)) c.rows-rows.ensures.rows in
    let left : c.in_ok-left.left.items ≡ flat_map (clip c.args.from c.args.to) rows = c.in_ok-left.ensures ∙ ap (flat_map (clip c.args.from c.args.to)) c.rows-rows.ensures.rows in
    let old = c.rows-rows.ensures.rows in
    let change = c.in_ok-change.change in
    let made : changed_rows change rows ≡ c.in_ok-new.new = ap (changed_rows change) (sym old) ∙ c.in_ok-change.ensures.new ∙ c.rows.ensures.rows in
    let joined = subst (λ (l : List Span). IsJoin (c.args.from + c.args.len) c.in_ok-front.front.items l c.in_ok-new.new) c.deref.ensures.value c.in_ok-new.ensures in
    record {
      plan = record {
        kept = ap are_rows made ∙ c.rows.ensures.canonical;
        change = subst (λ (l : List Span). IsChange rows change.gone.items change.come.items l) (c.rows.ensures.rows ∙ sym made)
            (subst (λ (l : List Span). IsChange l change.gone.items change.come.items c.rows.result.now) old c.in_ok-change.ensures.change);
        in_order = goes_in_order c.rows-rows.result.now change.gone.items c.rows.result.now (ap are_rows old ∙ canonical) c.in_ok-change.ensures.gone;
      };
      realigned = subst (λ (l : List Span). IsRealigned c.args.from c.args.to c.args.len rows l) (sym made)
          (is_realigned c.args.from c.args.to c.args.len rows c.in_ok-front.front.items c.in_ok-cut.cut.rear.items canonical front c.in_ok-cut.ensures.rear c.in_ok-cut.ensures.cut.behind c.in_ok-new.new joined);
      left_rows = ap are_rows left ∙ clips_rows c.args.from c.args.to rows canonical;
      left = subst (λ (l : List Span). IsThat (λ class asset j s. is_within c.args.from c.args.to j) rows l) (sym left) (clips_hold c.args.from c.args.to rows);
    }
