use Rattle.std.proofs.Common.{◌++◌, [], ◌∷◌, List, ℕ, codes, subst}
use Rattle.std.specs.Fmt.{decimal}
use Rattle.std.specs.Io.KnownBytes.{Appends}
use Rattle.lrs_sheet_log.proofs.RouteTexts.{set-text}
use Rattle.lrs_sheet_log.proofs.Written.{appends-last, appends-more}
use Rattle.lrs_sheet_log.specs.RouteSheets.{command_line, set_on}
use Rattle.lrs_sheet_log.proofs.route_sheet.write_referent.Goals as goal

pub returns : goal.returns
returns g c =
    let r = c.args.route.now in
    let x = c.args.referent.now in
    let start = g.W.Write.contents c.args.writer.now in
    let head = g.W.Write.contents c.write_head.new.writer in
    let route = g.W.Write.contents c.write_all.new.self in
    let named = subst (λ (t : List ℕ). Appends start head (codes "ref-" ++ (t ++ (codes ",ref," ++ (t ++ 44 ∷ []))))) c.bytes.ensures.text c.in_ok-write_head.ensures in
    let on = subst (λ (t : List ℕ). Appends head route t) c.bytes-2.ensures.text c.in_ok-write_all.ensures.bytes in
    let two = appends-more start head route _ r.name named on in
    appends-last c.writeln.result start route (g.W.Write.contents c.writeln.new.self) _ _ (command_line (set_on r.name x)) two c.writeln.ensures.bytes
    (set-text (codes "ref-") x.name (codes ",ref,") r.name (codes ",abs,") (decimal x.at) (codes ",,,,,") (10 ∷ []))
