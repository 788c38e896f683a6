-- Why a parameter is not read.
use Rattle.std.specs.Prelude.{◌≡◌, ◌⊎◌}
use Rattle.lrs_web_replies.specs.declared.question.Parameter.{Parameter}
use Rattle.lrs_web_replies.specs.declared.question.Parameter.TheVariants.{Exact, Method, Position, RowsOnLinks}
use Rattle.lrs_web_replies.specs.declared.question.QueryFault.{QueryFault}
use Rattle.lrs_web_replies.specs.declared.question.QueryFault.TheVariants.{Malformed, Memory}
use Rattle.lrs_web_replies.specs.Questions.{Text, IsGiven}

-- the parameter is not given, or memory ran out
abbrev pub Lacks : Parameter → Text → QueryFault → Type 0
Lacks p query e = (e ≡ Memory) ⊎ ((e ≡ Malformed p) × (IsGiven query p → ⊥))

-- the method, or the position by it
abbrev pub LacksPosition : Text → QueryFault → Type 0
LacksPosition query e = Lacks Method query e ⊎ (IsGiven query Method × Lacks Position query e)

-- how rows are told
abbrev pub LacksForm : Text → QueryFault → Type 0
LacksForm query e = Lacks Exact query e ⊎ (IsGiven query Exact × Lacks RowsOnLinks query e)
