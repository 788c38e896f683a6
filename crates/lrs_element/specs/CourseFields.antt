-- What a course keeps: its pieces, where each one starts, and its length.
use Rattle.std.specs.Prelude.{◌≡◌, false, List, length}
use Rattle.lrs_element.specs.declared.link.Ground.{Ground}
use Rattle.lrs_element.specs.declared.course.Course.TheInside.{Inside}
use Rattle.lrs_element.specs.Course.{course_of, is_too_long, IsFewest}
use Rattle.lrs_element.specs.Pieces.{AreStarts}

-- the ground that the pieces run over
abbrev pub ground_of_course : Inside → List Ground
ground_of_course c = course_of c.pieces.items

pub record IsKept (c : Inside) : Type 0 where
  pub fewest : IsFewest c.pieces.items
  pub starts : AreStarts c.starts.items c.pieces.items
  pub len : c.len ≡ length (course_of c.pieces.items)
  pub limits : is_too_long (course_of c.pieces.items) ≡ false
