use Rattle.std.proofs.Common.{◌≡◌, true}
use Rattle.std.specs.List.{list_all}
use Rattle.lrs_store_tables.specs.Contents.Decoders.{each_of}
use Rattle.lrs_store_tables.specs.Contents.Content.{route_with}
use Rattle.lrs_store_image.specs.DecodedRoutes.Referents.{is_measured}
use Rattle.lrs_store_image.proofs.DecodedRoutes.Each.{and_then}
use Rattle.lrs_store_image.proofs.route_decoder.referents.refer_all.Given as goal

abbrev pub invariant-loop-route : goal.invariant-loop-route
invariant-loop-route l = record {
  ready : list_all is_measured l.route-iterator.rest.items ≡ true;
  left : each_of (route_with l.rows) l.fn.measured.items ≡ and_then l.found.items (each_of (route_with l.rows) l.route-iterator.rest.items);
}
