use Rattle.std.proofs.Common.{◌≡◌, ◌++◌, take}
use Rattle.lrs_sheet_advice.specs.AdviceLines.{shown}
use Rattle.lrs_sheet_advice.proofs.line.AdviceLine.say_bytes.Given as goal

abbrev pub invariant-loop-byte : goal.invariant-loop-byte
invariant-loop-byte l = l.self ≡ l.initial.self ++ shown (take l.byte-index l.text)
