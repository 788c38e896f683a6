use Rattle.std.proofs.Common.{ap, subst, sym, ◌∙◌}
use Rattle.std.specs.FinMap as map
use Rattle.lrs_position.specs.Index.Ground.{Stretches}
use Rattle.lrs_position.specs.Index.Stretches.{AreApart}
use Rattle.lrs_position.proofs.Index.Entries.{removed}
use Rattle.lrs_position.proofs.Index.Order.{total, exact}
use Rattle.lrs_position.proofs.Index.Losing.{apart_less}
use Rattle.lrs_position.proofs.ground_index.GroundIndex.remove.Goals as goal

pub invariant_of-self : goal.invariant_of-self
invariant_of-self c = subst AreApart (sym (removed total exact c.self.inside.stretches.entries c.remove.new.self.entries (c.args.link, c.args.begin) c.remove.ensures.updates.0))
    (apart_less (map.from_entries c.self.inside.stretches.entries) (c.args.link, c.args.begin) c.self.invariant)

pub returns : goal.returns
returns c =
    removed total exact c.self.inside.stretches.entries c.remove.new.self.entries (c.args.link, c.args.begin) c.remove.ensures.updates.0
    ∙ ap (λ (s : Stretches). map.remove s (c.args.link, c.args.begin)) c.self.view_is
