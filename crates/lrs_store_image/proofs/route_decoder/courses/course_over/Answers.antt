use Rattle.std.proofs.Common.{◌∙◌, Some, sym, ap}
use Rattle.lrs_element.specs.Course.{course_of}
use Rattle.lrs_store_tables.specs.Contents.Decoders.{only_if}
use Rattle.lrs_store_image.proofs.DecodedRoutes.Coursing.{good, not_linked, not_inside, not_once}
use Rattle.lrs_store_image.proofs.route_decoder.courses.course_over.Goals as goal

pub returns-in-Ok : goal.returns-in-Ok
returns-in-Ok c =
    let ps = c.args.pieces.now in
    ap Some c.in-Ok.ensures.course ∙ sym (ap (λ b. only_if b (course_of ps)) (good c.args.links.now c.requires.links ps c.requires.filled c.in-Ok.ensures.ok c.requires.some))

pub returns-in-Err-NoLink : goal.returns-in-Err-NoLink
returns-in-Err-NoLink c =
    let ps = c.args.pieces.now in
    let at = c.in-Err-NoLink.field-0-0 in
    sym (ap (λ b. only_if b (course_of ps)) (not_linked c.args.links.now c.requires.links ps c.requires.filled at (c.new.ensures.no_link at (cc (c.in-Err-NoLink.is, c.in-Err-NoLink.field-0-is)))))

pub returns-in-Err-BadPiece : goal.returns-in-Err-BadPiece
returns-in-Err-BadPiece c =
    let ps = c.args.pieces.now in
    let at = c.in-Err-BadPiece.field-0-0 in
    let said = c.new.ensures.bad_piece at (cc (c.in-Err-BadPiece.is, c.in-Err-BadPiece.field-0-is)) in
    sym (ap (λ b. only_if b (course_of ps)) (not_inside c.args.links.now c.requires.links ps c.requires.filled at said.1))

pub returns-in-Err-Twice : goal.returns-in-Err-Twice
returns-in-Err-Twice c =
    let ps = c.args.pieces.now in
    let at = c.in-Err-Twice.field-0-0 in
    let said = c.new.ensures.twice at (cc (c.in-Err-Twice.is, c.in-Err-Twice.field-0-is)) in
    sym (ap (λ b. only_if b (course_of ps)) (not_once c.args.links.now c.requires.links ps c.requires.filled at said.2))
