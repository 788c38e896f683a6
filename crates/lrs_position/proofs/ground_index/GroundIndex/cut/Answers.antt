use Rattle.std.proofs.Common.{ap, subst, sym, ◌∙◌}
use Rattle.lrs_position.specs.Index.Ground.{Stretches, route_over}
use Rattle.lrs_position.specs.Index.Stretches.{IsCut, AreParts}
use Rattle.lrs_position.proofs.Index.Cutting.{over_cut, parts_cut, is_cut}
use Rattle.lrs_position.proofs.ground_index.GroundIndex.cut.Goals as goal

pub returns-in_ok-cut_stretch-in-Some-clause-same : goal.returns-in_ok-cut_stretch-in-Some-clause-same
returns-in_ok-cut_stretch-in-Some-clause-same c = λ m.
    ap (λ (s : Stretches). route_over s m) c.in_ok-cut_stretch-in-Some.ensures.ok
    ∙ over_cut c.args.self.now c.args.link c.in-Some.begin c.args.edge c.in-Some.stretch c.in-Some.ensures.last.stretch c.in-Some.ensures.last.before c.if-edge-stretch.true c.in-Some.ensures.apart m

pub returns-in_ok-cut_stretch-in-Some-clause-parts : goal.returns-in_ok-cut_stretch-in-Some-clause-parts
returns-in_ok-cut_stretch-in-Some-clause-parts c = subst (AreParts c.args.self.now) (sym c.in_ok-cut_stretch-in-Some.ensures.ok)
    (parts_cut c.args.self.now c.args.link c.in-Some.begin c.args.edge c.in-Some.stretch c.in-Some.ensures.last.stretch c.in-Some.ensures.last.before c.if-edge-stretch.true c.in-Some.ensures.apart)

pub returns-in_ok-cut_stretch-in-Some-clause-cut : goal.returns-in_ok-cut_stretch-in-Some-clause-cut
returns-in_ok-cut_stretch-in-Some-clause-cut c = subst (λ (s : Stretches). IsCut s c.args.link c.args.edge) (sym c.in_ok-cut_stretch-in-Some.ensures.ok)
    (is_cut c.args.self.now c.args.link c.in-Some.begin c.args.edge c.in-Some.stretch c.in-Some.ensures.last.stretch c.in-Some.ensures.last.before c.if-edge-stretch.true c.in-Some.ensures.apart)
