use Rattle.std.proofs.Common.{[], ◌∷◌, List, Bool, cond, ap, sym, ◌∙◌}
use Rattle.serde_json.specs.Data.{Data}
use Rattle.lrs_report.specs.Sweep.{run_of}
use Rattle.lrs_web_replies.specs.Overlay.{overlay_item, segment_items}
use Rattle.lrs_web_replies.proofs.Paging.{as_items}
use Rattle.lrs_web_replies.proofs.overlay.add_wanted_segment.Goals as goal

pub returns-then-is_segment_wanted : goal.returns-then-is_segment_wanted
returns-then-is_segment_wanted c =
    let route = c.args.route.now in
    let s = c.args.segment.now in
    let item : List Data = overlay_item route c.args.side (run_of s) ∷ [] in
    as_items c.add_segment.result c.args.text.now c.add_segment.new.text item (segment_items c.args.wanted.now route c.args.side s) c.add_segment.ensures
    (ap (λ (b : Bool). cond b item []) (sym c.if-is_segment_wanted.true ∙ c.is_segment_wanted.ensures))
