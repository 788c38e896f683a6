-- How numbers and times are written in the line that says how far long work is.
use Rattle.std.specs.Prelude.{ℕ, List, ◌∷◌, ◌++◌, ◌/◌, ◌%◌, if◌then◌else◌, nat_lt, codes}
use Rattle.std.specs.Fmt.{decimal}

-- the last three digits of a number
abbrev pub last_three : ℕ → List ℕ
last_three n = decimal (n / 100 % 10) ++ decimal (n / 10 % 10) ++ decimal (n % 10)

-- a number with a comma before each three of its last six digits
abbrev pub grouped : ℕ → List ℕ
grouped n =
    if nat_lt n 1000 then decimal n
    else (if nat_lt n 1000000 then decimal (n / 1000) ++ 44 ∷ last_three n
    else decimal (n / 1000000) ++ 44 ∷ last_three (n / 1000) ++ 44 ∷ last_three n)

-- seconds in whole seconds below two minutes, in minutes below two hours, and else in hours
abbrev pub time_text : ℕ → List ℕ
time_text s =
    if nat_lt s 120 then decimal s ++ codes " s"
    else (if nat_lt s 7200 then decimal (s / 60) ++ codes " min" else decimal (s / 3600) ++ codes " h")
