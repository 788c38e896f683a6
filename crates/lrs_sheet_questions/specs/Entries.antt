-- The entries of a list: its lines behind the header, each behind a key and a word.
use Rattle.std.specs.Prelude.{ℕ, ◌==◌, Bool, true, false, [], ◌∷◌, ◌++◌, codes, count_by, if◌then◌else◌}
use Rattle.std.specs.Fmt.{decimal}
use Rattle.lrs_machine.specs.Lines.{Text, fields}

-- how many lines end in a text
abbrev pub line_count : Text → ℕ
line_count text = count_by (λ byte. byte == 10) text

-- what stands behind the first line of a text
abbrev pub behind_first : Text → Text
behind_first [] = []
behind_first (byte ∷ text) = if byte == 10 then text else behind_first text

-- a text with a front before each line that begins in it; where a line goes on at its start, that one has none
abbrev pub fronted : Text → Bool → Text → Text
fronted front true [] = []
fronted front false [] = []
fronted front true (byte ∷ text) = front ++ byte ∷ fronted front (byte == 10) text
fronted front false (byte ∷ text) = byte ∷ fronted front (byte == 10) text

-- a key and a word, each with a comma behind it
abbrev pub front_of : Text → Text → Text
front_of key word = key ++ (44 ∷ (word ++ 44 ∷ []))

-- each line of a body behind a key and a word
abbrev pub entry_lines : Text → Text → Text → Text
entry_lines key word body = fronted (front_of key word) true body

-- the line that says how many lines a body has
abbrev pub count_line : Text → Text → Text → Text
count_line key list body = fields (key ∷ list ∷ decimal (line_count body) ∷ []) ++ 10 ∷ []

-- the lines of a list under a key: how many its entries are, and each of them behind its word; the header is left out
abbrev pub list_lines : Text → Text → Text → Text → Text
list_lines key list entry text = count_line key list (behind_first text) ++ entry_lines key entry (behind_first text)
