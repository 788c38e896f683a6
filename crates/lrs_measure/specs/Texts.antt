-- Texts as contracts see them: lists of bytes, in the order of their bytes.
use Rattle.std.specs.Prelude.{ℕ, Bool, List, nat_eq}
use Rattle.std.specs.declared.cmp.Ordering.{Ordering}
use Rattle.std.specs.Ordering.{nat_cmp, is_lt}
use Rattle.std.specs.Cmp.Lexicographic.{slice_cmp, pointwise}

abbrev pub Name : Type 0
Name = List ℕ

abbrev pub name_cmp : Name → Name → Ordering
name_cmp = slice_cmp nat_cmp

abbrev pub name_before : Name → Name → Bool
name_before a b = is_lt (name_cmp a b)

abbrev pub same_name : Name → Name → Bool
same_name = pointwise nat_eq
