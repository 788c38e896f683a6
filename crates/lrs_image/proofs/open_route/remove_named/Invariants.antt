use Rattle.std.proofs.Common.{◌≡◌, true, drop}
use Rattle.lrs_measure.specs.Lists.{each_two}
use Rattle.lrs_position.specs.declared.route.Referent.{Referent}
use Rattle.lrs_position.specs.Routes.{referent_before}
use Rattle.lrs_image.proofs.Named.{others}
use Rattle.lrs_image.proofs.open_route.remove_named.Given as goal

abbrev pub invariant-loop-name : goal.invariant-loop-name
invariant-loop-name l = record {
  order : each_two referent_before l.refs.rows ≡ true;
  rest : others (λ (r : Referent). r.name) (drop l.name-index l.names) l.refs.rows ≡ others (λ (r : Referent). r.name) l.names l.fn.refs.rows;
  room : l.refs.room ≡ l.fn.refs.room;
}
