-- The routes that are met between two edges of a link.
use Rattle.std.specs.Prelude.{◌≡◌, ℕ, ◌<◌, ◌≤◌, Option, Some, IsTrue}
use Rattle.std.specs.BTreeSet.{BTreeSet, contains}
use Rattle.lrs_measure.specs.Texts.{Name, name_cmp}
use Rattle.lrs_element.specs.Course.{Millimetre}

-- The route runs over a millimetre of the link, from one edge up to another.
pub record RunsBetween (over : Millimetre → Option Name) (link from to : ℕ) (route : Name) : Type 0 where
  pub mm : ℕ
  pub low : from ≤ mm
  pub high : mm < to
  pub runs : over (link, mm) ≡ Some route

-- The name is one of these.
abbrev pub IsAmong : Name → BTreeSet Name → Type 0
IsAmong name names = IsTrue (contains name_cmp names name)
