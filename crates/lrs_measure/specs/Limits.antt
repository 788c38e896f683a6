-- The limits of links, routes, measures and inventories (this project's profile of ISO 19148), in millimetres where they are lengths.
use Rattle.std.specs.Prelude.{ℕ, Bool, ◌&&◌, nat_le}
use Rattle.lrs_measure.specs.Lists.{is_from_to}

abbrev pub longest_link : ℕ
longest_link = 1_000_000_000

abbrev pub longest_route : ℕ
longest_route = 10_000_000_000

-- the most pieces of a route, counted in the fewest pieces
abbrev pub most_pieces : ℕ
most_pieces = 1_000

-- the most marks of a route
abbrev pub most_marks : ℕ
most_marks = 1_000

abbrev pub greatest_measure : ℕ
greatest_measure = 100_000_000_000

-- the greatest number of a link
abbrev pub greatest_link : ℕ
greatest_link = 999_999

-- the greatest number of an asset
abbrev pub greatest_asset : ℕ
greatest_asset = 1_000_000_000_000

-- the greatest lateral offset of an asset
abbrev pub greatest_lateral : ℕ
greatest_lateral = 100_000

-- the greatest denominator at which a measure line is read
abbrev pub finest : ℕ
finest = 10_000_000_000_000_000

-- the number of a link
abbrev pub is_link_number : ℕ → Bool
is_link_number n = is_from_to 1 greatest_link n

-- a link of this number and length
abbrev pub is_link : ℕ → ℕ → Bool
is_link number length = is_link_number number && is_from_to 1 longest_link length

-- ---- how much an inventory may hold

-- routes at one time
abbrev pub most_routes : ℕ
most_routes = 10_000

-- assets ever
abbrev pub most_assets : ℕ
most_assets = 1_000_000

-- edits ever
abbrev pub most_edits : ℕ
most_edits = 10_000_000

-- (asset, place) pairs of one asset, in each ledger
abbrev pub most_pairs : ℕ
most_pairs = 20_000_000_000

abbrev pub are_limits : ℕ → ℕ → ℕ → Bool
are_limits routes assets edits = nat_le routes most_routes && nat_le assets most_assets && nat_le edits most_edits
