use Rattle.std.proofs.Common.{arith, true, false}
use Rattle.lrs_position.proofs.Entries.{none_in_piece, none_below, none_above, found_in_piece, place_is}
use Rattle.lrs_position.proofs.link_position.place_in.Goals as goal
use Rattle.lrs_position.proofs.link_position.place_in.Goals.{then-piece-link-via-then-piece-link, then-piece-link-via-else-piece-link+then-mm-piece, then-piece-link-via-else-piece-link+else-mm-piece+then-piece-mm}
use Rattle.lrs_position.proofs.link_position.place_in.Goals.{then-piece, else-piece}

pub returns-then-piece-link : goal.returns-then-piece-link
returns-then-piece-link c = elim c.then-piece-link.branch [
  | then-piece-link-via-then-piece-link w ↦ none_in_piece c.args.piece c.args.link c.args.mm (λ k l e _. w.if-piece-link.true e)
  | then-piece-link-via-else-piece-link+then-mm-piece w ↦ none_below c.args.piece c.args.link c.args.mm w.if-mm-piece.true
  | then-piece-link-via-else-piece-link+else-mm-piece+then-piece-mm w ↦ none_above c.args.piece c.args.link c.args.mm w.if-piece-mm.true
]

pub returns : goal.returns
returns c = elim c.if-piece.branch [
  | then-piece w ↦ found_in_piece c.args.piece c.args.link c.args.mm c.from.result c.if-piece-link.false (omega (arith, w.place-is)) (place_is c.args.piece c.args.mm c.from.result true w.if-piece.true (omega (arith, w.place-is)))
  | else-piece w ↦ found_in_piece c.args.piece c.args.link c.args.mm c.from.result c.if-piece-link.false (omega (arith, w.place-is)) (place_is c.args.piece c.args.mm c.from.result false w.if-piece.false (omega (arith, w.place-is)))
]
