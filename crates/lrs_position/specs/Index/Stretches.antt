-- Stretches one by one: how they are kept, and which is the last before an edge.
use Rattle.std.specs.Prelude.{◌≡◌, ℕ, ◌<◌, ◌≤◌, Option, Some, None, option_map}
use Rattle.lrs_measure.specs.Texts.{Name}
use Rattle.std.specs.FinMap.{get, insert}
use Rattle.lrs_position.specs.declared.ground_index.LinkStretch.{LinkStretch}
use Rattle.lrs_position.specs.Index.Ground.{Stretches}

-- Each stretch has a millimetre, and two of a link have none in common.
pub record AreApart (kept : Stretches) : Type 0 where
  pub filled : (l a : ℕ) (s : LinkStretch) → get kept (l, a) ≡ Some s → a < s.end
  pub apart : (l a c : ℕ) (s t : LinkStretch) → get kept (l, a) ≡ Some s → get kept (l, c) ≡ Some t → a < c → s.end ≤ c

-- No stretch of the link begins before the edge.
abbrev pub IsFirst : Stretches → ℕ → ℕ → Type 0
IsFirst kept link edge = (a : ℕ) → a < edge → get kept (link, a) ≡ None

-- The last stretch of the link that begins before the edge begins at a.
pub record IsLast (kept : Stretches) (link edge a : ℕ) (s : LinkStretch) : Type 0 where
  pub stretch : get kept (link, a) ≡ Some s
  pub before : a < edge
  pub last : (c : ℕ) (t : LinkStretch) → get kept (link, c) ≡ Some t → c < edge → c ≤ a

-- No stretch of the link begins before the edge and ends behind it.
abbrev pub IsCut : Stretches → ℕ → ℕ → Type 0
IsCut kept link edge = (a : ℕ) (s : LinkStretch) → get kept (link, a) ≡ Some s → a < edge → s.end ≤ edge

-- What begins at a was a stretch of the link, or a part of one.
pub record IsPart (old : Stretches) (link a : ℕ) (s : LinkStretch) : Type 0 where
  pub from : ℕ
  pub before : LinkStretch
  pub was : get old (link, from) ≡ Some before
  pub begins : from ≤ a
  pub ends : s.end ≤ before.end

-- Each stretch was one before, or a part of one.
abbrev pub AreParts : Stretches → Stretches → Type 0
AreParts old new = (l a : ℕ) (s : LinkStretch) → get new (l, a) ≡ Some s → IsPart old l a s

-- The stretches once the one from a is cut at an edge within it.
abbrev pub cut_in_two : Stretches → ℕ → ℕ → ℕ → LinkStretch → Stretches
cut_in_two kept link a edge s = insert (insert kept (link, a) (record { end = edge; route = s.route })) (link, edge) s

-- What becomes of a stretch whose ground another route gets, or none.
abbrev pub handed : Option Name → LinkStretch → Option LinkStretch
handed route s = option_map (λ r. record { end = s.end; route = r }) route
