use Rattle.std.proofs.Common.{Option, ap, subst, refl, sym, ◌∙◌}
use Rattle.std.specs.Option.{IsSome}
use Rattle.std.specs.FinMap as map
use Rattle.lrs_measure.specs.Texts.{Name}
use Rattle.lrs_position.specs.Index.Ground.{Stretches}
use Rattle.lrs_position.specs.Index.Stretches.{AreApart, handed}
use Rattle.lrs_position.proofs.Index.Putting.{put_here, put_there, out_here, out_there, apart_other}
use Rattle.lrs_position.proofs.ground_index.GroundIndex.change.Goals as goal

pub replace-requires-clause-there : goal.replace-requires-clause-there
replace-requires-clause-there c = subst IsSome (sym c.requires.there) refl

pub replace-requires-clause-apart : goal.replace-requires-clause-apart
replace-requires-clause-apart c = apart_other c.args.self.now (c.args.link, c.args.begin) c.args.stretch c.in-Some.route (subst AreApart c.self.view_is c.self.invariant) c.requires.there

pub returns-in-Some-clause-here : goal.returns-in-Some-clause-here
returns-in-Some-clause-here c = ap (λ (s : Stretches). map.get s (c.args.link, c.args.begin)) c.replace.ensures ∙ put_here c.args.self.now (c.args.link, c.args.begin) _ ∙ sym (ap (λ (o : Option Name). handed o c.args.stretch) c.in-Some.is)

pub returns-in-Some-clause-others : goal.returns-in-Some-clause-others
returns-in-Some-clause-others c = λ m n. ap (λ (s : Stretches). map.get s m) c.replace.ensures ∙ put_there c.args.self.now (c.args.link, c.args.begin) _ m n

pub returns-in-None-clause-here : goal.returns-in-None-clause-here
returns-in-None-clause-here c = ap (λ (s : Stretches). map.get s (c.args.link, c.args.begin)) c.remove.ensures ∙ out_here c.args.self.now (c.args.link, c.args.begin) ∙ sym (ap (λ (o : Option Name). handed o c.args.stretch) c.in-None.is)

pub returns-in-None-clause-others : goal.returns-in-None-clause-others
returns-in-None-clause-others c = λ m n. ap (λ (s : Stretches). map.get s m) c.remove.ensures ∙ out_there c.args.self.now (c.args.link, c.args.begin) m n
