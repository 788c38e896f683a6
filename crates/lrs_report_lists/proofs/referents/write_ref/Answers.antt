use Rattle.std.proofs.Common.{[], ◌∷◌, ◌++◌, subst}
use Rattle.std.specs.Prelude.{List, ℕ}
use Rattle.std.specs.Fmt.{decimal}
use Rattle.std.specs.Io.KnownBytes.{Appends}
use Rattle.lrs_report_lists.specs.Lines.{ref_line}
use Rattle.lrs_report_lists.specs.Measures.{measure_field}
use Rattle.lrs_report_lists.proofs.Writing.{appends_last, appends_more, ref_parts}
use Rattle.lrs_report_lists.proofs.referents.write_ref.Goals as goal

pub returns : goal.returns
returns g c =
    let r = c.args.referent.now in
    let start = g.W.Write.contents c.args.writer.now in
    let name = g.W.Write.contents c.write.new.self in
    let route = g.W.Write.contents c.write_all.new.self in
    let at = g.W.Write.contents c.write-2.new.self in
    let measure = g.W.Write.contents c.write_measure.new.writer in
    let on = subst (λ (t : List ℕ). Appends name route t) c.bytes.ensures.text c.in_ok-write_all.ensures.bytes in
    let one = appends_more start name route (r.name ++ 44 ∷ []) c.args.route.now.name c.in_ok-write.ensures.bytes on in
    let two = appends_more start route at _ (44 ∷ (decimal r.at ++ 44 ∷ [])) one c.in_ok-write-2.ensures.bytes in
    let three = appends_more start at measure _ (measure_field c.args.exact c.args.route.now.marks r.at) two c.in_ok-write_measure.ensures in
    appends_last c.write_all-2.result start measure (g.W.Write.contents c.write_all-2.new.self) _ (10 ∷ []) (ref_line c.args.exact c.args.route.now r) three c.write_all-2.ensures.bytes
    (ref_parts r.name c.args.route.now.name (decimal r.at) (measure_field c.args.exact c.args.route.now.marks r.at))
