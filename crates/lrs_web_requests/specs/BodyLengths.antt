-- How long the body of a POST is, by its fields (RFC 9112, section 6.3, with the limits of this server).
use Rattle.std.specs.Prelude.{ℕ, Bool, true, false, ◌&&◌, List, [], ◌∷◌, map, length, Result, Ok, Err, if◌then◌else◌, nat_lt, nat_le, codes, bytes_eq}
use Rattle.std.specs.List.{list_all}
use Rattle.std.specs.Char.{is_ascii_digit, to_ascii_lowercase}
use Rattle.std.specs.Str.Parse.{digits_value}

-- a field's name and value
abbrev pub Field : Type 0
Field = List ℕ × List ℕ

-- the name, in any case of its letters
abbrev pub is_named : List ℕ → Field → Bool
is_named name field = bytes_eq (map to_ascii_lowercase field.0) (map to_ascii_lowercase name)

-- the values of the fields of this name
abbrev pub values_named : List ℕ → List Field → List (List ℕ)
values_named name [] = []
values_named name (field ∷ fields) = if is_named name field then field.1 ∷ values_named name fields else values_named name fields

abbrev pub transfer_encoding : List ℕ
transfer_encoding = codes "transfer-encoding"

abbrev pub content_length : List ℕ
content_length = codes "content-length"

abbrev pub most : ℕ
most = 1048576

-- 1*19DIGIT
abbrev pub is_number : List ℕ → Bool
is_number value = nat_lt 0 (length value) && (nat_le (length value) 19 && list_all is_ascii_digit value)

-- the length that a value states, or the status that refuses it
abbrev pub stated_length : List ℕ → Result ℕ ℕ
stated_length value =
    if is_number value then (if nat_lt most (digits_value 10 value) then Err 413 else Ok (digits_value 10 value)) else Err 400

-- the same of all the values
abbrev pub one_length : List (List ℕ) → Result ℕ ℕ
one_length [] = Err 411
one_length (value ∷ []) = stated_length value
one_length (value ∷ second ∷ values) = Err 400

abbrev pub is_empty : List (List ℕ) → Bool
is_empty [] = true
is_empty (value ∷ values) = false

-- the length of the body, or the status that refuses the request
abbrev pub body_length : List Field → Result ℕ ℕ
body_length fields = if is_empty (values_named transfer_encoding fields) then one_length (values_named content_length fields) else Err 411
