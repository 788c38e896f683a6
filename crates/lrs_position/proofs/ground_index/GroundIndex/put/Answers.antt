use Rattle.std.proofs.Common.{ap, subst, sym, ◌∙◌, ◌≡◌}
use Rattle.std.specs.FinMap as map
use Rattle.lrs_position.specs.Index.Ground.{Stretches}
use Rattle.lrs_position.specs.Index.Stretches.{AreApart}
use Rattle.lrs_position.proofs.Index.Entries.{inserted}
use Rattle.lrs_position.proofs.Index.Order.{total, exact}
use Rattle.lrs_position.proofs.ground_index.GroundIndex.put.Goals.{In_ok-insert}
use Rattle.lrs_position.proofs.ground_index.GroundIndex.put.Goals as goal

abbrev now : In_ok-insert → Stretches
now c = map.from_entries c.insert.new.self.entries

put_in : (c : In_ok-insert) → now c ≡ map.insert c.args.self.now (c.args.link, c.args.begin) c.args.stretch
put_in c =
    inserted total exact c.self.inside.stretches.entries c.insert.new.self.entries (c.args.link, c.args.begin) c.args.stretch c.in_ok-insert.ensures.updates.0
    ∙ ap (λ (s : Stretches). map.insert s (c.args.link, c.args.begin) c.args.stretch) c.self.view_is

pub invariant_of-self-2 : goal.invariant_of-self-2
invariant_of-self-2 c = subst AreApart (sym (put_in c)) c.requires.apart

pub returns-clause-ok : goal.returns-clause-ok
returns-clause-ok c = put_in c
