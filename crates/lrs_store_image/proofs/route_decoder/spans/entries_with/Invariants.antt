use Rattle.std.proofs.Common.{◌≡◌, ◌++◌, Some, length}
use Rattle.std.specs.Vec.Iter.{into_iter_items, into_iter_len}
use Rattle.lrs_store_tables.specs.Contents.Decoders.{each_of}
use Rattle.lrs_store_image.specs.DecodedRoutes.Spans.{canonical_entry}
use Rattle.lrs_store_image.proofs.route_decoder.spans.entries_with.Given as goal

abbrev pub invariant-loop-route : goal.invariant-loop-route
invariant-loop-route l = (l.yielded ++ into_iter_items l.route-iterator ≡ into_iter_items l.initial.route-iterator)
    × (each_of (canonical_entry l.said) l.yielded ≡ Some l.entries.items)
    × (into_iter_len l.route-iterator ≡ length (into_iter_items l.route-iterator))
