use Rattle.std.proofs.Common.{◌≡◌, false, take, fold}
use Rattle.clap.specs.Words.{app_of}
use Rattle.clap.specs.declared.builder.command.Command.TheViews.{out-Command}
use Rattle.lrs_cli_words.specs.Parts.{with_part}
use Rattle.lrs_cli_words.proofs.parts.with_parts.Given as goal

abbrev pub invariant-loop-part : goal.invariant-loop-part
invariant-loop-part l = record {
  so_far : app_of l.line ≡ fold with_part (app_of l.initial.line) (take l.part-index l.parts);
  local : (out-Command l.line).has_globals ≡ false;
}
