use Rattle.std.proofs.Common.{◌≡◌, ◌∙◌, ap}
use Rattle.std.proofs.lemmas.Result.{IfOk-weaker}
use Rattle.std.specs.Option.{option_map}
use Rattle.lrs_store_tables.specs.Contents.Decoders.{number_before, sorted, counted, said_of}
use Rattle.lrs_store_image.proofs.DecodedRoutes.Grouped.{counted_sorted}
use Rattle.lrs_store_image.proofs.route_decoder.groups.counted_of.Goals as goal

pub returns : goal.returns
returns g c =
    let xs = c.in_ok-said.said.items in
    let ys = c.sort_by_number.new.rows.items in
    IfOk-weaker c.counted.result (λ found. option_map (λ v. v.items) found ≡ counted 0 c.deref.result.now)
    (λ found. option_map (λ v. v.items) found ≡ counted 0 (sorted number_before (said_of c.args.route.now c.args.rows.now)))
    (λ found h. h ∙ ap (counted 0) c.deref.ensures.value ∙ counted_sorted xs ys c.sort_by_number.ensures.same c.sort_by_number.ensures.sorted 0 ∙ ap (λ l. counted 0 (sorted number_before l)) c.in_ok-said.ensures)
    c.counted.ensures
