use Rattle.std.proofs.Common.{◌≡◌, Some, take}
use Rattle.lrs_store_tables.specs.Contents.Decoders.{each_of}
use Rattle.lrs_store_image.specs.DecodedRoutes.Courses.{good_route}
use Rattle.lrs_store_image.proofs.route_decoder.courses.courses_named.Given as goal

abbrev pub invariant-loop-name : goal.invariant-loop-name
invariant-loop-name l = each_of (good_route l.links l.rows) (take l.name-index l.names) ≡ Some l.courses.items
