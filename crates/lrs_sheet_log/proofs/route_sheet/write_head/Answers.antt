use Rattle.std.proofs.Common.{◌++◌, ◌∷◌, [], append_assoc}
use Rattle.lrs_sheet_log.proofs.Written.{appends-more, appends-last}
use Rattle.lrs_sheet_log.proofs.route_sheet.write_head.Goals as goal

pub returns : goal.returns
returns g c =
    let start = g.W.Write.contents c.args.writer.now in
    let one = g.W.Write.contents c.write_all.new.self in
    let two = g.W.Write.contents c.write_all-2.new.self in
    let three = g.W.Write.contents c.write_all-3.new.self in
    let four = g.W.Write.contents c.write_all-4.new.self in
    let to_two = appends-more start one two _ _ c.in_ok-write_all.ensures.bytes c.in_ok-write_all-2.ensures.bytes in
    let to_three = appends-more start two three _ _ to_two c.in_ok-write_all-3.ensures.bytes in
    let to_four = appends-more start three four _ _ to_three c.in_ok-write_all-4.ensures.bytes in
    appends-last c.write_all-5.result start four (g.W.Write.contents c.write_all-5.new.self) _ _ (c.args.before.now ++ (c.args.name.now ++ (c.args.between.now ++ (c.args.name.now ++ 44 ∷ [])))) to_four c.write_all-5.ensures.bytes (simp append_assoc)
