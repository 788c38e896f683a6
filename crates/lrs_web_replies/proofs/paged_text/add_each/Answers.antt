use Rattle.std.proofs.Common.{[], ◌∷◌, ap, map}
use Rattle.lrs_web_replies.proofs.Paging.{leads_end, leads_next}
use Rattle.lrs_web_replies.proofs.paged_text.add_each.Goals as goal

pub loop-one-preserved : goal.loop-one-preserved
loop-one-preserved g c =
    let items = map (g.T.Shown.shown) in
    leads_next c.args.text.now c.loop-one.text c.add_one.new.text (g.T.Shown.shown c.in-Some.one.now ∷ []) (items c.next.new.self) (items c.loop-one.one-iterator) (items c.args.list.now.rows) c.loop-one.invariant
    (ap items c.in-Some.ensures.steps) c.in_ok-add_one.ensures

pub returns : goal.returns
returns g c =
    let items = map (g.T.Shown.shown) in
    leads_end c.args.text.now c.loop-one.text (items c.loop-one.one-iterator) (items c.args.list.now.rows) c.loop-one.invariant (ap items c.in-None.ensures.steps.0)
