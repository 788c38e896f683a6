use Rattle.std.proofs.Common.{map, sym, ap, subst, ◌∙◌}
use Rattle.lrs_machine.specs.State.{Abandoned, Retired}
use Rattle.std.specs.Prelude.{if◌then◌else◌}
use Rattle.lrs_events.specs.Spans.{holds_by_spans}
use Rattle.lrs_image_laws.specs.GoneRows.{AreGone}
use Rattle.lrs_image_laws.proofs.GoneParts.{gone_of, are_gone}
use Rattle.lrs_image_laws.proofs.ledger.taken_away.Goals as goal

pub returns : goal.returns
returns c =
    let parts = c.in_ok-parts.ensures in
    let taken = holds_by_spans c.args.course.now c.args.rows.now in
    subst (AreGone c.args.edit (if c.args.abandoned then Abandoned else Retired) taken) (sym (c.from_vec.ensures ∙ c.in_ok-gone.ensures ∙ ap (map (gone_of c.args.abandoned)) c.deref.ensures.value))
    (are_gone c.args.edit c.args.abandoned taken c.in_ok-parts.parts.items parts.edit parts.pairs (parts.once c.requires.once) (parts.order c.requires.once) parts.filled)
