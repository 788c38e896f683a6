use Rattle.std.proofs.Common.{◌≡◌, map, take}
use Rattle.lrs_cli_help.specs.Shown.{shown_byte}
use Rattle.lrs_cli_help.proofs.shown.shown_bytes.Given as goal

abbrev pub invariant-loop-byte : goal.invariant-loop-byte
invariant-loop-byte l = l.shown.items ≡ map shown_byte (take l.byte-index l.text)
