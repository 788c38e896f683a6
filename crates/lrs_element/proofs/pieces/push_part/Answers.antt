use Rattle.std.proofs.Common.{◌≡◌, min, length, List, ◌++◌, sym, ap, ◌∙◌, append-nil}
use Rattle.lrs_element.specs.declared.link.Ground.{Ground}
use Rattle.lrs_element.specs.Course.{expand, course_of}
use Rattle.lrs_element.proofs.Walking.{range_capped, range_none}
use Rattle.lrs_element.proofs.Expanding.{length-expand}
use Rattle.lrs_element.proofs.pieces.push_part.Goals as goal

-- the end of the part
end_is : (c : goal.In_ok-push_piece) → c.min-end.result ≡ min c.args.to (length (expand c.args.piece))
end_is c = c.min-end.ensures ∙ ap (min c.args.to) (c.len.ensures.len ∙ sym (length-expand c.args.piece))

pub returns-in_ok-push_piece-clause-ok : goal.returns-in_ok-push_piece-clause-ok
returns-in_ok-push_piece-clause-ok c =
    c.in_ok-push_piece.ensures.ok
    ∙ ap (λ (xs : List Ground). course_of c.args.pieces.now.items ++ xs) (c.part.ensures.part ∙ range_capped c.args.from c.args.to c.min-end.result (expand c.args.piece) (end_is c))

pub returns-else-from-end-clause-ok : goal.returns-else-from-end-clause-ok
returns-else-from-end-clause-ok c =
    sym (append-nil (course_of c.args.pieces.now.items)) ∙ ap (λ (xs : List Ground). course_of c.args.pieces.now.items ++ xs) (sym (range_none c.args.from c.args.to c.min-end.result (expand c.args.piece) (c.min-end.ensures ∙ ap (min c.args.to) (c.len.ensures.len ∙ sym (length-expand c.args.piece))) c.if-from-end.false))
