use Rattle.std.proofs.Common.{Ok, Err, ap, sym, subst, ◌∙◌, Contains}
use Rattle.std.specs.List.{flat_map}
use Rattle.lrs_machine.specs.declared.image.Image.{Image}
use Rattle.lrs_machine.specs.Image.{state_of}
use Rattle.lrs_machine.specs.Sound.{IsSound}
use Rattle.lrs_image.specs.OpenLists.{image_of}
use Rattle.lrs_image.proofs.Tables.{assets_in_order}
use Rattle.lrs_report_answers.specs.declared.fault.AskFault.TheVariants.{Memory}
use Rattle.lrs_report_answers.specs.AssetStretches.{rows_on, IsFound}
use Rattle.lrs_report_answers.specs.Answers.{asset_missing}
use Rattle.lrs_report_answers.proofs.AllRows.{sought_known, rows_found, no_memory, no_asset}
use Rattle.lrs_report_answers.proofs.Everywhere.{Contains-from_In}
use Rattle.lrs_report_answers.proofs.search.find.Goals as goal

pub find-requires : goal.find-requires
find-requires c = record { order = assets_in_order (image_of c.kept.result.now) (subst IsSound (sym c.kept.ensures.image) c.kept.ensures.sound) }

pub rows_of-requires : goal.rows_of-requires
rows_of-requires c =
    let i = image_of c.kept.result.now in
    let known = c.in-Some.known.now in
    record { known = subst (λ (j : Image). Contains j.assets known) c.kept.ensures.image (Contains-from_In known i.assets (sought_known i c.args.asset known c.in-Some.ensures).0) }

pub returns-in-Ok : goal.returns-in-Ok
returns-in-Ok c =
    let i = image_of c.kept.result.now in
    let known = c.in-Some.known.now in
    let found = c.in-Ok.found in
    subst (λ (j : Image). IsFound (state_of j) c.args.asset (Ok found)) c.kept.ensures.image
    (rows_found i c.args.asset known found (subst IsSound (sym c.kept.ensures.image) c.kept.ensures.sound) c.in-Some.ensures (c.in-Ok.ensures ∙ ap (λ (j : Image). flat_map (rows_on known.class known.number) j.routes) (sym c.kept.ensures.image)))

pub returns-in-Err : goal.returns-in-Err
returns-in-Err c = subst (λ (j : Image). IsFound (state_of j) c.args.asset (Err Memory)) c.kept.ensures.image (no_memory (image_of c.kept.result.now) c.args.asset c.in-Some.known.now c.in-Some.ensures)

pub returns-in-None : goal.returns-in-None
returns-in-None c = subst (λ (j : Image). IsFound (state_of j) c.args.asset (Err asset_missing)) c.kept.ensures.image (no_asset (image_of c.kept.result.now) c.args.asset c.in-None.ensures)
