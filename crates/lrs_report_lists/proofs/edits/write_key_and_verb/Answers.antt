use Rattle.std.proofs.Common.{◌++◌, ◌∷◌, [], append_assoc}
use Rattle.lrs_report_lists.proofs.Writing.{appends_last, appends_more}
use Rattle.lrs_report_lists.proofs.edits.write_key_and_verb.Goals as goal

pub returns : goal.returns
returns g c =
    let start = g.W.Write.contents c.args.writer.now in
    let key = g.W.Write.contents c.write_all.new.self in
    let comma = g.W.Write.contents c.write_all-2.new.self in
    let verb = g.W.Write.contents c.write_all-3.new.self in
    let two = appends_more start key comma _ _ c.in_ok-write_all.ensures.bytes c.in_ok-write_all-2.ensures.bytes in
    let three = appends_more start comma verb _ _ two c.in_ok-write_all-3.ensures.bytes in
    appends_last c.write_all-4.result start verb (g.W.Write.contents c.write_all-4.new.self) _ _ (c.args.key.now ++ 44 ∷ (c.args.verb.now ++ 44 ∷ [])) three c.write_all-4.ensures.bytes (simp append_assoc)
