-- The parts of a line, as the program's table has them, and what each adds for `clap`.
use Rattle.std.specs.Prelude.{fold}
use Rattle.clap.specs.Words.{App, Rule, new_app, with_rule}
use Rattle.lrs_cli_words.specs.Words.{any, flag, option, optional, required, several}
use Rattle.lrs_cli_words.specs.declared.parts.JobLine.{JobLine}
use Rattle.lrs_cli_words.specs.declared.parts.LinePart.{LinePart}
use Rattle.lrs_cli_words.specs.declared.parts.LinePart.TheVariants as part

abbrev pub rule_of_part : LinePart → Rule
rule_of_part (part.Required id help) = required id.now
rule_of_part (part.Several id help) = several id.now
rule_of_part (part.Any id help) = any id.now
rule_of_part (part.Optional id help) = optional id.now
rule_of_part (part.Valued name called help) = option name.now
rule_of_part (part.Switch name help) = flag name.now

-- a line with one more part
abbrev pub with_part : App → LinePart → App
with_part a p = with_rule a (rule_of_part p)

-- the whole line
abbrev pub app_of_line : JobLine → App
app_of_line l = fold with_part (new_app l.name.now) l.parts.now
