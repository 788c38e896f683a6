use Rattle.std.proofs.Common.{ap, subst, sym, ◌∙◌, ◌≡◌, None}
use Rattle.std.specs.Option.{IsSome}
use Rattle.std.specs.FinMap as map
use Rattle.lrs_position.specs.Index.Ground.{Stretches}
use Rattle.lrs_position.specs.Index.Stretches.{AreApart}
use Rattle.lrs_position.proofs.Index.Entries.{inserted, get_found}
use Rattle.lrs_position.proofs.Index.Order.{total, exact}
use Rattle.lrs_position.proofs.ground_index.GroundIndex.replace.Goals.{In-Ok}
use Rattle.lrs_position.proofs.ground_index.GroundIndex.replace.Goals as goal

abbrev now : In-Ok → Stretches
now c = map.from_entries c.insert.new.self.entries

put_in : (c : In-Ok) → now c ≡ map.insert c.args.self.now (c.args.link, c.args.begin) c.args.stretch
put_in c =
    inserted total exact c.self.inside.stretches.entries c.insert.new.self.entries (c.args.link, c.args.begin) c.args.stretch c.in-Ok.ensures.updates.0
    ∙ ap (λ (s : Stretches). map.insert s (c.args.link, c.args.begin) c.args.stretch) c.self.view_is

pub unreachable-requires : goal.unreachable-requires
unreachable-requires c =
    let none : map.get c.args.self.now (c.args.link, c.args.begin) ≡ None =
    ap (λ (s : Stretches). map.get s (c.args.link, c.args.begin)) (sym c.self.view_is) ∙ get_found total c.self.inside.stretches.entries (c.args.link, c.args.begin) ∙ c.in-Err.ensures.absent in
    let h = subst IsSome none c.requires.there in
    cc h

pub invariant_of-self : goal.invariant_of-self
invariant_of-self c = subst AreApart (sym (put_in c)) c.requires.apart

pub returns : goal.returns
returns c = put_in c
