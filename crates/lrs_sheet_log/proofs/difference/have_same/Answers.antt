use Rattle.std.specs.Prelude.{IsTrue}
use Rattle.lrs_image.specs.OpenLists.{image_of}
use Rattle.lrs_machine.specs.declared.table.Table.TheVariants as table
use Rattle.lrs_sheet_log.specs.Differences.{course_row, marks_row, refs_row, spans_row}
use Rattle.lrs_sheet_log.proofs.Each.{each-equal, each-shown, lists-same}
use Rattle.lrs_sheet_log.proofs.Tables.{as-table}
use Rattle.lrs_sheet_log.proofs.difference.have_same.Goals as goal

pub returns-in-Link : goal.returns-in-Link
returns-in-Link c =
    let i = image_of c.args.left.now in
    let j = image_of c.args.right.now in
    let P : Type 0 = IsTrue c.are_each_in_chunks.result in
    as-table c.args.table table.Link i j P c.in-Link.is (each-equal P i.links j.links c.are_each_in_chunks.ensures)

pub returns-in-Class : goal.returns-in-Class
returns-in-Class c =
    let i = image_of c.args.left.now in
    let j = image_of c.args.right.now in
    let P : Type 0 = IsTrue c.are_each_in_chunks-in-Class.result in
    as-table c.args.table table.Class i j P c.in-Class.is (each-equal P i.classes j.classes c.are_each_in_chunks-in-Class.ensures)

pub returns-in-Asset : goal.returns-in-Asset
returns-in-Asset c =
    let i = image_of c.args.left.now in
    let j = image_of c.args.right.now in
    let P : Type 0 = IsTrue c.are_each_in_chunks-in-Asset.result in
    as-table c.args.table table.Asset i j P c.in-Asset.is (each-equal P i.assets j.assets c.are_each_in_chunks-in-Asset.ensures)

pub returns-in-Entered : goal.returns-in-Entered
returns-in-Entered c =
    let i = image_of c.args.left.now in
    let j = image_of c.args.right.now in
    let P : Type 0 = IsTrue c.are_each.result in
    as-table c.args.table table.Entered i j P c.in-Entered.is (lists-same P c.as_slice.result.now c.as_slice-in-Entered.result.now i.entered j.entered c.as_slice.ensures.value c.as_slice-in-Entered.ensures.value c.are_each.ensures)

pub returns-in-Gone : goal.returns-in-Gone
returns-in-Gone c =
    let i = image_of c.args.left.now in
    let j = image_of c.args.right.now in
    let P : Type 0 = IsTrue c.are_each-in-Gone.result in
    as-table c.args.table table.Gone i j P c.in-Gone.is (lists-same P c.as_slice-in-Gone.result.now c.as_slice-in-Gone-2.result.now i.gone j.gone c.as_slice-in-Gone.ensures.value c.as_slice-in-Gone-2.ensures.value c.are_each-in-Gone.ensures)

pub returns-in-Edit : goal.returns-in-Edit
returns-in-Edit c =
    let i = image_of c.args.left.now in
    let j = image_of c.args.right.now in
    let P : Type 0 = IsTrue c.are_each-in-Edit.result in
    as-table c.args.table table.Edit i j P c.in-Edit.is (lists-same P c.as_slice-in-Edit.result.now c.as_slice-in-Edit-2.result.now i.edits j.edits c.as_slice-in-Edit.ensures.value c.as_slice-in-Edit-2.ensures.value c.are_each-in-Edit.ensures)

pub returns-in-Piece : goal.returns-in-Piece
returns-in-Piece c =
    let i = image_of c.args.left.now in
    let j = image_of c.args.right.now in
    let P : Type 0 = IsTrue c.have_same_routes.result in
    as-table c.args.table table.Piece i j P c.in-Piece.is (each-shown course_row P i.routes j.routes c.have_same_routes.ensures)

pub returns-in-Mark : goal.returns-in-Mark
returns-in-Mark c =
    let i = image_of c.args.left.now in
    let j = image_of c.args.right.now in
    let P : Type 0 = IsTrue c.have_same_routes-in-Mark.result in
    as-table c.args.table table.Mark i j P c.in-Mark.is (each-shown marks_row P i.routes j.routes c.have_same_routes-in-Mark.ensures)

pub returns-in-Ref : goal.returns-in-Ref
returns-in-Ref c =
    let i = image_of c.args.left.now in
    let j = image_of c.args.right.now in
    let P : Type 0 = IsTrue c.have_same_routes-in-Ref.result in
    as-table c.args.table table.Ref i j P c.in-Ref.is (each-shown refs_row P i.routes j.routes c.have_same_routes-in-Ref.ensures)

pub returns-in-Span : goal.returns-in-Span
returns-in-Span c =
    let i = image_of c.args.left.now in
    let j = image_of c.args.right.now in
    let P : Type 0 = IsTrue c.have_same_routes-in-Span.result in
    as-table c.args.table table.Span i j P c.in-Span.is (each-shown spans_row P i.routes j.routes c.have_same_routes-in-Span.ensures)
