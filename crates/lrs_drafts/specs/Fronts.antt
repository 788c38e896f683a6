-- Texts in memory.
use Rattle.std.specs.Prelude.{ℕ, List, map}
use Rattle.std.specs.Global.{Vec}
use Rattle.lrs_machine.specs.Lines.{Text}

-- the bytes of each
abbrev pub texts_of : List (Vec ℕ) → List Text
texts_of texts = map (λ text. text.items) texts
