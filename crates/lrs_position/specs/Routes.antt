-- What is true of every route: it is not empty, its marks fit, and its referents stand on it.
use Rattle.std.specs.Prelude.{ℕ, Bool, ◌&&◌, not, nat_lt, is_none, List, length}
use Rattle.std.specs.List.{list_all}
use Rattle.lrs_measure.specs.Lists.{each_two, is_nothing}
use Rattle.lrs_measure.specs.Texts.{name_before}
use Rattle.lrs_element.specs.declared.link.Ground.{Ground}
use Rattle.lrs_element.specs.declared.marks.Mark.{Mark}
use Rattle.lrs_element.specs.Course.{is_too_long}
use Rattle.lrs_element.specs.Marks.{bad_mark}
use Rattle.lrs_position.specs.declared.route.Referent.{Referent}

abbrev pub referent_before : Referent → Referent → Bool
referent_before a b = name_before a.name b.name

-- the marks are those of a course of this length
abbrev pub have_marks : List Ground → List Mark → Bool
have_marks course marks = is_none (bad_mark (length course) marks)

-- sorted by name, and in millimetres of a course of this length
abbrev pub are_referents : ℕ → List Referent → Bool
are_referents len refs = each_two referent_before refs && list_all (λ r. nat_lt r.at len) refs

-- a course that a route can have
abbrev pub is_route_course : List Ground → Bool
is_route_course course = not (is_nothing course) && not (is_too_long course)

abbrev pub is_route : List Ground → List Mark → List Referent → Bool
is_route course marks refs = is_route_course course && have_marks course marks && are_referents (length course) refs
