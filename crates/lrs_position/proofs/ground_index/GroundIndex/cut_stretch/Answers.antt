use Rattle.std.proofs.Common.{ap, subst, refl, sym, ◌∙◌}
use Rattle.std.specs.Option.{IsSome}
use Rattle.std.specs.FinMap as map
use Rattle.lrs_position.specs.Index.Ground.{Stretches}
use Rattle.lrs_position.specs.Index.Stretches.{AreApart}
use Rattle.lrs_position.proofs.Index.Putting.{put_here}
use Rattle.lrs_position.proofs.Index.Cutting.{apart_short, apart_cut, as_it_was}
use Rattle.lrs_position.proofs.ground_index.GroundIndex.cut_stretch.Goals as goal

pub replace-requires : goal.replace-requires
replace-requires c = record {
  there = subst IsSome (sym c.requires.there) refl;
  apart = apart_short c.args.self.now c.args.link c.args.begin c.args.edge c.args.stretch.now c.requires.there c.requires.inside c.requires.crosses (subst AreApart c.self.view_is c.self.invariant);
}

pub put-requires : goal.put-requires
put-requires c = record {
  apart = subst (λ (s : Stretches). AreApart (map.insert s (c.args.link, c.args.edge) c.args.stretch.now)) (sym c.replace.ensures)
      (apart_cut c.args.self.now c.args.link c.args.begin c.args.edge c.args.stretch.now c.requires.there c.requires.inside c.requires.crosses (subst AreApart c.self.view_is c.self.invariant));
}

pub returns-in-Ok-clause-ok : goal.returns-in-Ok-clause-ok
returns-in-Ok-clause-ok c = c.in-Ok.ensures.ok ∙ ap (λ (s : Stretches). map.insert s (c.args.link, c.args.edge) c.args.stretch.now) c.replace.ensures

pub replace-requires-in-Err : goal.replace-requires-in-Err
replace-requires-in-Err c = record {
  there = subst IsSome (sym (ap (λ (s : Stretches). map.get s (c.args.link, c.args.begin)) (c.in-Err.ensures.err ∙ c.replace.ensures) ∙ put_here c.args.self.now (c.args.link, c.args.begin) _)) refl;
  apart = subst AreApart (sym (as_it_was c.args.self.now c.args.link c.args.begin c.args.edge c.args.stretch.now c.requires.there c.requires.inside c.requires.crosses (subst AreApart c.self.view_is c.self.invariant) c.put.new.self (c.in-Err.ensures.err ∙ c.replace.ensures))) (subst AreApart c.self.view_is c.self.invariant);
}

pub returns-in-Err-clause-err : goal.returns-in-Err-clause-err
returns-in-Err-clause-err c = c.replace-in-Err.ensures ∙ as_it_was c.args.self.now c.args.link c.args.begin c.args.edge c.args.stretch.now c.requires.there c.requires.inside c.requires.crosses (subst AreApart c.self.view_is c.self.invariant) c.put.new.self (c.in-Err.ensures.err ∙ c.replace.ensures)
