use Rattle.std.proofs.Common.{sym, ap, ◌∙◌, Some}
use Rattle.lrs_element.proofs.Walking.{reads_place, starts_in_order}
use Rattle.lrs_element.proofs.course.Course.ground.Goals as goal

pub starts_up_to-at-requires : goal.starts_up_to-at-requires
starts_up_to-at-requires c = rw c.deref.ensures.value (starts_in_order _ _ c.self.invariant.starts)

pub ground-requires : goal.ground-requires
ground-requires c = (reads_place _ _ _ c.args.j _ _ _ c.deref.ensures.value c.self.invariant.starts (rw (← c.self.view_is) at c.requires) c.starts_up_to-at.ensures.bound c.starts_up_to-at.ensures.up_to c.starts_up_to-at.ensures.behind c.index-2.ensures c.index.ensures).inside

pub returns : goal.returns
returns c = rw (← c.self.view_is) ((reads_place _ _ _ c.args.j _ _ _ c.deref.ensures.value c.self.invariant.starts (rw (← c.self.view_is) at c.requires) c.starts_up_to-at.ensures.bound c.starts_up_to-at.ensures.up_to c.starts_up_to-at.ensures.behind c.index-2.ensures c.index.ensures).is ∙ ap Some (sym c.ground.ensures))
