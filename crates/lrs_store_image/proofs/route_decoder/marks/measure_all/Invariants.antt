use Rattle.std.proofs.Common.{◌≡◌}
use Rattle.lrs_store_tables.specs.Contents.Decoders.{each_of}
use Rattle.lrs_store_image.specs.DecodedRoutes.Marks.{good_measured}
use Rattle.lrs_store_image.proofs.DecodedRoutes.Each.{and_then}
use Rattle.lrs_store_image.proofs.route_decoder.marks.measure_all.Given as goal

abbrev pub invariant-loop-course : goal.invariant-loop-course
invariant-loop-course l = each_of (good_measured l.rows) l.fn.courses.items ≡ and_then l.found.items (each_of (good_measured l.rows) l.course-iterator.rest.items)
