use Rattle.std.proofs.Common.{subst, sym, ◌∷◌, []}
use Rattle.lrs_position.specs.Index.Ground.{Stretches, HasGained}
use Rattle.lrs_position.specs.Index.Stretches.{AreApart}
use Rattle.lrs_position.proofs.Index.Gaining.{apart_more, gained_one}
use Rattle.lrs_position.proofs.ground_index.GroundIndex.add.Goals as goal

pub put-requires : goal.put-requires
put-requires c = record { apart = apart_more c.args.self.now c.args.route c.args.piece c.requires.free c.requires.filled (subst AreApart c.self.view_is c.self.invariant) }

pub returns-clause-ok : goal.returns-clause-ok
returns-clause-ok c = subst (λ (s : Stretches). HasGained c.args.self.now s c.args.route (c.args.piece ∷ [])) (sym c.in_ok-put.ensures.ok)
    (gained_one c.args.self.now c.args.route c.args.piece c.requires.free c.requires.filled (subst AreApart c.self.view_is c.self.invariant))
