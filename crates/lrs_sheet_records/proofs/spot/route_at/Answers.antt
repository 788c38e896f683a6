use Rattle.std.proofs.Common.{◌≡◌, true, rules}
use Rattle.lrs_position.specs.Names.{is_route_name}
use Rattle.lrs_sheet_records.specs.Kinds.{edit_fields}
use Rattle.lrs_sheet_records.specs.Records.{place_of, text_at}
use Rattle.lrs_sheet_records.specs.Shapes.{Word, is_link_word}
use Rattle.lrs_sheet_records.proofs.Asked.{or-second}
use Rattle.lrs_sheet_records.proofs.spot.route_at.Goals as goal

pub returns-in-Some : goal.returns-in-Some
returns-in-Some c =
    let text = text_at (edit_fields c.args.row.now) (place_of c.args.field) in
    let named : is_route_name text ≡ true = search rules in
    let same : c.in-Some.name ≡ text = search rules in
    let wanted = or-second (is_link_word text) (is_route_name text) named in
    ((wanted, same), (Word c.in-Some.name, (wanted, same)))
