use Rattle.std.proofs.Common.{◌∙◌, sym, ap, string_bytes, nat_eq, slice_index_or, false}
use Rattle.lrs_element.specs.declared.link.Piece.{Piece}
use Rattle.lrs_machine.specs.Lines
use Rattle.lrs_machine.specs.Texts.{after_words}
use Rattle.lrs_machine.proofs.Words.{one_more}
use Rattle.lrs_machine.proofs.texts.pieces_text.Goals as goal

pub loop-i-preserved : goal.loop-i-preserved
loop-i-preserved c =
    let d : Piece = record { link = 0; from = 0; to = 0; forward = false } in
    let i = c.loop-i.i in
    c.in_ok-push_word.ensures
    ∙ ap (after_words (nat_eq i 0) (string_bytes c.loop-i.words)) (c.as_str.ensures.value ∙ c.in_ok-word.ensures)
    ∙ ap (λ words. after_words (nat_eq i 0) words (Lines.piece_text (slice_index_or c.args.pieces.now i d))) c.loop-i.invariant
    ∙ sym (one_more Lines.piece_text c.args.pieces.now i d c.loop-i-test.true)
