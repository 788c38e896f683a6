use Rattle.std.proofs.Common.{sym}
use Rattle.std.specs.Prelude.{nat_le}
use Rattle.lrs_element.specs.declared.link.Link.{Link}
use Rattle.lrs_image_sound.proofs.lookups.link_reaches.Goals as goal

pub returns-in-Some : goal.returns-in-Some
returns-in-Some c = sym (c.in-Some.ensures (λ (l : Link). nat_le c.args.to l.length))

pub returns-in-None : goal.returns-in-None
returns-in-None c = sym (c.in-None.ensures (λ (l : Link). nat_le c.args.to l.length))
