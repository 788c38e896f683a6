use Rattle.std.proofs.Common.{Bool, subst, sym}
use Rattle.std.specs.Prelude.{◌↔◌, IsTrue}
use Rattle.lrs_sheet_records.specs.Words.{IsMarkText, IsPieceText}
use Rattle.lrs_sheet_advice.proofs.ListWords.{read_is}
use Rattle.lrs_sheet_advice.proofs.item.is_item.Goals as goal
use Rattle.lrs_sheet_advice.specs.Parts.{IsItem}

pub returns-then-of_pieces : goal.returns-then-of_pieces
returns-then-of_pieces c =
    let told = read_is (IsPieceText c.args.word.now) c.read_piece.result c.is_some.result c.is_some.ensures c.read_piece.ensures.some c.read_piece.ensures.none in
    subst (λ (b : Bool). IsTrue c.is_some.result ↔ IsItem b c.args.word.now) (sym c.if-of_pieces.true) told

pub returns-else-of_pieces : goal.returns-else-of_pieces
returns-else-of_pieces c =
    let told = read_is (IsMarkText c.args.word.now) c.read_mark.result c.is_some-else-of_pieces.result c.is_some-else-of_pieces.ensures c.read_mark.ensures.some c.read_mark.ensures.none in
    subst (λ (b : Bool). IsTrue c.is_some-else-of_pieces.result ↔ IsItem b c.args.word.now) (sym c.if-of_pieces.false) told
