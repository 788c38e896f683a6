-- The alphabets of the names of routes and referents.
use Rattle.std.specs.Prelude.{ℕ, ◌==◌, ◌||◌, ◌&&◌, not, Bool, List}
use Rattle.lrs_measure.specs.Alphabets.{is_capital, is_text, has_dash_first}

-- a byte of `A-Z0-9-`
abbrev pub is_route_byte : ℕ → Bool
is_route_byte byte = is_capital byte || (byte == 45)

-- 1 to 12 such bytes, the first not `-`
abbrev pub is_route_name : List ℕ → Bool
is_route_name text = is_text 12 is_route_byte text && not (has_dash_first text)

-- 1 to 12 bytes of `A-Z0-9`
abbrev pub is_referent_name : List ℕ → Bool
is_referent_name text = is_text 12 is_capital text
