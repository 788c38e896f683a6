use Rattle.std.proofs.Common.{◌≡◌, map, take, length, pos}
use Rattle.sqlite_value.specs.declared.value.Value.TheVariants.{Int}
use Rattle.sqlite.specs.Values.{bound}
use Rattle.lrs_store_commit.proofs.cells.fill_numbers.Given as goal

abbrev pub invariant-loop-i : goal.invariant-loop-i
invariant-loop-i l = record {
  room : length l.cells ≡ length l.numbers;
  filled : take l.i (bound l.cells) ≡ map (λ n. Int (pos n)) (take l.i l.numbers);
}
