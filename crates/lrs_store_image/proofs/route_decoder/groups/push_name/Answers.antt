use Rattle.std.proofs.Common.{◌∙◌, ap, sym}
use Rattle.lrs_store_image.specs.DecodedRoutes.Groups.{ends_with}
use Rattle.lrs_store_image.proofs.DecodedRoutes.Naming.{named_again, named_next}
use Rattle.lrs_store_image.proofs.route_decoder.groups.push_name.Goals as goal

pub returns-then-is_at_end : goal.returns-then-is_at_end
returns-then-is_at_end c = named_again c.args.name c.args.names.now.items (ap (ends_with c.args.name) (sym c.deref.ensures.value) ∙ sym c.is_at_end.ensures ∙ c.if-is_at_end.true)

pub returns : goal.returns
returns c =
    c.in_ok-push.ensures.items
    ∙ named_next c.args.name c.args.names.now.items c.requires.order c.requires.last (ap (ends_with c.args.name) (sym c.deref.ensures.value) ∙ sym c.is_at_end.ensures ∙ c.if-is_at_end.false)
