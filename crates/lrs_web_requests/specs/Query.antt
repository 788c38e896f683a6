-- The parameters of a query (the URL Standard, section 5).
use Rattle.std.specs.Prelude.{ℕ, Bool, true, false, List, [], ◌∷◌, Option, None, Some, codes, if◌then◌else◌, bytes_eq}
use Rattle.std.specs.Str.Lossy.{utf8_lossy}
use Rattle.form_urlencoded.specs.Form.{decode, raw_pairs}

-- the text that a name or a value stands for
abbrev pub text_of : List ℕ → List ℕ
text_of bytes = utf8_lossy (decode bytes)

-- the value of the first pair of this name
abbrev pub first_value : List ℕ → List (List ℕ × List ℕ) → Option (List ℕ)
first_value name [] = None
first_value name (pair ∷ pairs) = if bytes_eq (text_of pair.0) name then Some (text_of pair.1) else first_value name pairs

-- the value of a parameter of the query
abbrev pub parameter : List ℕ → List ℕ → Option (List ℕ)
parameter name query = first_value name (raw_pairs query)

-- what a parameter says that is 1 or is left out; any other value says nothing
abbrev pub switch : Option (List ℕ) → Option Bool
switch None = Some false
switch (Some value) = if bytes_eq value (codes "1") then Some true else None

-- whether a parameter of the query that is 1 or is left out is there
abbrev pub switched : List ℕ → List ℕ → Option Bool
switched name query = switch (parameter name query)

-- the values of all pairs of this name
abbrev pub all_values : List ℕ → List (List ℕ × List ℕ) → List (List ℕ)
all_values name [] = []
all_values name (pair ∷ pairs) = if bytes_eq (text_of pair.0) name then text_of pair.1 ∷ all_values name pairs else all_values name pairs

-- the values of a parameter that may be given more than once
abbrev pub parameters : List ℕ → List ℕ → List (List ℕ)
parameters name query = all_values name (raw_pairs query)

-- the first name that is not known
abbrev pub first_unknown : (List ℕ → Bool) → List (List ℕ × List ℕ) → Option (List ℕ)
first_unknown knows [] = None
first_unknown knows (pair ∷ pairs) = if knows (text_of pair.0) then first_unknown knows pairs else Some (text_of pair.0)

-- the name of the first parameter of the query that is not known
abbrev pub unknown_name : (List ℕ → Bool) → List ℕ → Option (List ℕ)
unknown_name knows query = first_unknown knows (raw_pairs query)
