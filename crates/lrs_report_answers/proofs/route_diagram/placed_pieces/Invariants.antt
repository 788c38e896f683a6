use Rattle.std.proofs.Common.{◌≡◌, ◌≤◌, ◌*◌, ◌^◌, ◌++◌, length, drop}
use Rattle.std.specs.List.{AllByRecursion}
use Rattle.lrs_element.specs.Pieces.{IsFilled}
use Rattle.lrs_report_answers.specs.DrawnRows.{placed}
use Rattle.lrs_report_answers.proofs.route_diagram.placed_pieces.Given as goal

abbrev pub invariant-loop-piece : goal.invariant-loop-piece
invariant-loop-piece l = record {
  placed : l.placed.items ++ placed l.from (drop l.piece-index l.piece-items) ≡ placed 0 l.piece-items;
  low : l.from ≤ 2 ^ 32 * l.piece-index;
  few : length l.piece-items ≤ 1_000;
  filled : AllByRecursion IsFilled (drop l.piece-index l.piece-items);
}
