-- How much of requests that are not whole is kept.
use Rattle.std.specs.Prelude.{ℕ}

-- the bytes of a request, of its head and its body
abbrev pub most_held : ℕ
most_held = 1056768

-- the connections whose requests have not been served: as many as may wait, and one that has just come
abbrev pub most_arrivals : ℕ
most_arrivals = 257
