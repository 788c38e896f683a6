-- Words that are joined one after another.
use Rattle.std.specs.Prelude.{ℕ, Bool, List, ◌∷◌, ◌++◌, if◌then◌else◌}

-- a text with one more word, behind a space unless it is the first
abbrev pub after_words : Bool → List ℕ → List ℕ → List ℕ
after_words is_first words word = if is_first then words ++ word else words ++ 32 ∷ word
