use Rattle.std.proofs.Common.{Ok, ap, sym, ◌∙◌}
use Rattle.lrs_inventory.specs.Prelude.{Image, state_of, image_of}
use Rattle.lrs_image.proofs.Tables.{links_in_order}
use Rattle.lrs_inventory.specs.NewCourses.{new_course}
use Rattle.lrs_inventory.proofs.NewCourse.{no_link, bad_piece, twice, too_long, good_pieces}
use Rattle.lrs_inventory.proofs.inventory.Inventory.course.Goals as goal

pub new-requires : goal.new-requires
new-requires c = links_in_order (image_of c.self.inside.kept) c.self.invariant.sound

pub returns-in-Ok : goal.returns-in-Ok
returns-in-Ok c =
    let i = image_of c.self.inside.kept in
    let pieces = c.args.pieces.now in
    ap (λ (j : Image). new_course (state_of j) pieces) (sym c.self.view_is) ∙ good_pieces i pieces c.in-Ok.ensures.ok ∙ ap Ok (sym c.in-Ok.ensures.course)

pub returns-in-Err-NoLink : goal.returns-in-Err-NoLink
returns-in-Err-NoLink c =
    let i = image_of c.self.inside.kept in
    let pieces = c.args.pieces.now in
    let at = c.in-Err-NoLink.field-0-0 in
    ap (λ (j : Image). new_course (state_of j) pieces) (sym c.self.view_is) ∙ no_link i pieces at (c.new.ensures.no_link at (cc (c.in-Err-NoLink.is, c.in-Err-NoLink.field-0-is)))

pub returns-in-Err-BadPiece : goal.returns-in-Err-BadPiece
returns-in-Err-BadPiece c =
    let i = image_of c.self.inside.kept in
    let pieces = c.args.pieces.now in
    let at = c.in-Err-BadPiece.i in
    let said = c.new.ensures.bad_piece at (cc (c.in-Err-BadPiece.is, c.in-Err-BadPiece.field-0-is)) in
    ap (λ (j : Image). new_course (state_of j) pieces) (sym c.self.view_is) ∙ bad_piece i pieces said.0 at said.1

pub returns-in-Err-Twice : goal.returns-in-Err-Twice
returns-in-Err-Twice c =
    let i = image_of c.self.inside.kept in
    let pieces = c.args.pieces.now in
    let at = c.in-Err-Twice.i in
    let said = c.new.ensures.twice at (cc (c.in-Err-Twice.is, c.in-Err-Twice.field-0-is)) in
    ap (λ (j : Image). new_course (state_of j) pieces) (sym c.self.view_is) ∙ twice i pieces said.0 at said.1 said.2

pub returns-in-Err-TooLong : goal.returns-in-Err-TooLong
returns-in-Err-TooLong c =
    let i = image_of c.self.inside.kept in
    let pieces = c.args.pieces.now in
    let said = c.new.ensures.too_long (cc (c.in-Err-TooLong.is, c.in-Err-TooLong.field-0-is)) in
    ap (λ (j : Image). new_course (state_of j) pieces) (sym c.self.view_is) ∙ too_long i pieces said.0 said.1 said.2 said.3
