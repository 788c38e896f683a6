use Rattle.std.proofs.Common.{◌∙◌, ◌++◌, ap, sym, subst}
use Rattle.std.specs.List.{AllByRecursion}
use Rattle.lrs_element.specs.Course.{course_of}
use Rattle.lrs_element.specs.Pieces.{IsFilled}
use Rattle.lrs_image_sound.proofs.Laid.{course_of-append, all-append}
use Rattle.lrs_store_image.proofs.route_decoder.courses.push_pieces.Goals as goal

pub returns-clause-course : goal.returns-clause-course
returns-clause-course c =
    let before = c.args.pieces.now.items in
    ap course_of c.in_ok-extend_from_slice.ensures.items ∙ course_of-append before c.pieces.result.now ∙ ap (λ l. course_of before ++ l) c.pieces.ensures.course

pub returns-clause-filled : goal.returns-clause-filled
returns-clause-filled c =
    subst (AllByRecursion IsFilled) (sym c.in_ok-extend_from_slice.ensures.items) (all-append IsFilled c.args.pieces.now.items c.pieces.result.now c.requires.filled c.pieces.ensures.fewest.filled)
