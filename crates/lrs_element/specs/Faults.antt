-- Which fault of pieces a fault of a join is.
use Rattle.std.specs.Prelude.{◌≡◌}
use Rattle.lrs_element.specs.declared.course.JoinFault.{JoinFault}
use Rattle.lrs_element.specs.declared.course.JoinFault.TheVariants as join
use Rattle.lrs_element.specs.declared.course.CourseFault.{CourseFault}
use Rattle.lrs_element.specs.declared.course.CourseFault.TheVariants as course

-- the fault of pieces that is a fault of a join
abbrev pub SameFault : JoinFault → CourseFault → Type 0
SameFault join.TooLong e = e ≡ course.TooLong
SameFault join.Memory e = e ≡ course.Memory
