-- What is kept of the values of one field name: none, one, or that there are several.
use Rattle.std.specs.Prelude.{ℕ, ◌+◌, ◌*◌, List, [], ◌∷◌, Bool, true, false, Result, Err, Option, None, Some, min, if◌then◌else◌}
use Rattle.std.specs.Char.{is_ascii_digit, digit_value}
use Rattle.lrs_web_requests.specs.BodyLengths.{stated_length}
use Rattle.lrs_web_requests.specs.declared.framing.Values.{Values}
use Rattle.lrs_web_requests.specs.declared.framing.Values.TheVariants as values

pub data Summary : Type 0 where
  nothing : Summary
  one : List ℕ → Summary
  several : Summary

abbrev pub summary_of : Values → Summary
summary_of values.Nothing = nothing
summary_of (values.One value) = one value.now
summary_of values.Several = several

abbrev pub with_value : Summary → List ℕ → Summary
with_value nothing value = one value
with_value (one first) value = several
with_value several value = several

abbrev pub with_values : Summary → List (List ℕ) → Summary
with_values s [] = s
with_values s (value ∷ values) = with_values (with_value s value) values

-- the length that these state, or the status that refuses the request
abbrev pub length_by : Summary → Result ℕ ℕ
length_by nothing = Err 411
length_by (one value) = stated_length value
length_by several = Err 400

-- one more than is accepted, and what stands for each number above
abbrev pub cap : ℕ
cap = 1048577

-- the number that digits write after those of n, or the cap
abbrev pub capped_from : ℕ → List ℕ → Option ℕ
capped_from n [] = Some n
capped_from n (c ∷ cs) = if is_ascii_digit c then capped_from (min (n * 10 + digit_value c) cap) cs else None

abbrev pub is_nothing : Summary → Bool
is_nothing nothing = true
is_nothing (one value) = false
is_nothing several = false
