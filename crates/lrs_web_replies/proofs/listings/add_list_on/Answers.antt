use Rattle.std.proofs.Common.{◌∷◌, [], refl, ap, take_all, ◌∙◌}
use Rattle.std.specs.List.{flat_map}
use Rattle.lrs_web_replies.specs.PagedText.{add_all}
use Rattle.lrs_web_replies.proofs.Paging.{added_next, each_alone}
use Rattle.lrs_web_replies.proofs.listings.add_list_on.Goals as goal

pub loop-one-init : goal.loop-one-init
loop-one-init g c = refl

pub loop-one-preserved : goal.loop-one-preserved
loop-one-preserved g c =
    added_next (λ one. g.T.OnRoute.shown c.args.route.now one ∷ []) c.loop-one.one-index c.args.list.now c.one-item.result c.args.text.now c.loop-one.text c.add_on.new.text c.loop-one-test.true c.one-item.is c.loop-one.invariant c.in_ok-add_on.ensures

pub returns : goal.returns
returns g c =
    c.loop-one.invariant
    ∙ ap (add_all c.args.text.now) (ap (flat_map (λ one. g.T.OnRoute.shown c.args.route.now one ∷ [])) (take_all c.loop-one.one-index c.args.list.now c.loop-one-test.false) ∙ each_alone (g.T.OnRoute.shown c.args.route.now) c.args.list.now)
