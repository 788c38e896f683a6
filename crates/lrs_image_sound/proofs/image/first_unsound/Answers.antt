use Rattle.std.proofs.Common.{sym, ◌∙◌}
use Rattle.lrs_image_sound.proofs.Named.{at_link, at_class, at_asset, at_piece, at_ref, at_span, at_entered, at_gone, at_edit, at_origin, at_none}
use Rattle.lrs_image_sound.proofs.image.first_unsound.Goals as goal

pub returns-then-not-links_pass : goal.returns-then-not-links_pass
returns-then-not-links_pass c = at_link c.args.image.now (sym c.links_pass.ensures ∙ c.if-not-links_pass.true)

pub returns-then-not-classes_pass : goal.returns-then-not-classes_pass
returns-then-not-classes_pass c = at_class c.args.image.now (sym c.links_pass.ensures ∙ c.if-not-links_pass.false) (sym c.classes_pass.ensures ∙ c.if-not-classes_pass.true)

pub returns-then-not-assets_pass : goal.returns-then-not-assets_pass
returns-then-not-assets_pass c = at_asset c.args.image.now (sym c.links_pass.ensures ∙ c.if-not-links_pass.false) (sym c.classes_pass.ensures ∙ c.if-not-classes_pass.false) (sym c.assets_pass.ensures ∙ c.if-not-assets_pass.true)

pub returns-then-not-pieces : goal.returns-then-not-pieces
returns-then-not-pieces c = at_piece c.args.image.now (sym c.links_pass.ensures ∙ c.if-not-links_pass.false) (sym c.classes_pass.ensures ∙ c.if-not-classes_pass.false) (sym c.assets_pass.ensures ∙ c.if-not-assets_pass.false) (sym c.in_ok-pieces.ensures ∙ c.if-not-pieces.true)

pub returns-then-not-referents : goal.returns-then-not-referents
returns-then-not-referents c = at_ref c.args.image.now (sym c.links_pass.ensures ∙ c.if-not-links_pass.false) (sym c.classes_pass.ensures ∙ c.if-not-classes_pass.false) (sym c.assets_pass.ensures ∙ c.if-not-assets_pass.false) (sym c.in_ok-pieces.ensures ∙ c.if-not-pieces.false) (sym c.in_ok-referents.ensures ∙ c.if-not-referents.true)

pub returns-then-not-spans : goal.returns-then-not-spans
returns-then-not-spans c = at_span c.args.image.now (sym c.links_pass.ensures ∙ c.if-not-links_pass.false) (sym c.classes_pass.ensures ∙ c.if-not-classes_pass.false) (sym c.assets_pass.ensures ∙ c.if-not-assets_pass.false) (sym c.in_ok-pieces.ensures ∙ c.if-not-pieces.false) (sym c.in_ok-referents.ensures ∙ c.if-not-referents.false) (sym c.in_ok-spans.ensures ∙ c.if-not-spans.true)

pub returns-then-not-entered : goal.returns-then-not-entered
returns-then-not-entered c = at_entered c.args.image.now (sym c.links_pass.ensures ∙ c.if-not-links_pass.false) (sym c.classes_pass.ensures ∙ c.if-not-classes_pass.false) (sym c.assets_pass.ensures ∙ c.if-not-assets_pass.false) (sym c.in_ok-pieces.ensures ∙ c.if-not-pieces.false) (sym c.in_ok-referents.ensures ∙ c.if-not-referents.false) (sym c.in_ok-spans.ensures ∙ c.if-not-spans.false) (sym c.in_ok-entered.ensures ∙ c.if-not-entered.true)

pub returns-then-not-gone : goal.returns-then-not-gone
returns-then-not-gone c = at_gone c.args.image.now (sym c.links_pass.ensures ∙ c.if-not-links_pass.false) (sym c.classes_pass.ensures ∙ c.if-not-classes_pass.false) (sym c.assets_pass.ensures ∙ c.if-not-assets_pass.false) (sym c.in_ok-pieces.ensures ∙ c.if-not-pieces.false) (sym c.in_ok-referents.ensures ∙ c.if-not-referents.false) (sym c.in_ok-spans.ensures ∙ c.if-not-spans.false) (sym c.in_ok-entered.ensures ∙ c.if-not-entered.false) (sym c.in_ok-gone.ensures ∙ c.if-not-gone.true)

pub returns-then-not-edits : goal.returns-then-not-edits
returns-then-not-edits c = at_edit c.args.image.now (sym c.links_pass.ensures ∙ c.if-not-links_pass.false) (sym c.classes_pass.ensures ∙ c.if-not-classes_pass.false) (sym c.assets_pass.ensures ∙ c.if-not-assets_pass.false) (sym c.in_ok-pieces.ensures ∙ c.if-not-pieces.false) (sym c.in_ok-referents.ensures ∙ c.if-not-referents.false) (sym c.in_ok-spans.ensures ∙ c.if-not-spans.false) (sym c.in_ok-entered.ensures ∙ c.if-not-entered.false) (sym c.in_ok-gone.ensures ∙ c.if-not-gone.false) (sym c.in_ok-edits.ensures ∙ c.if-not-edits.true)

pub returns-then-not-origins : goal.returns-then-not-origins
returns-then-not-origins c = at_origin c.args.image.now (sym c.links_pass.ensures ∙ c.if-not-links_pass.false) (sym c.classes_pass.ensures ∙ c.if-not-classes_pass.false) (sym c.assets_pass.ensures ∙ c.if-not-assets_pass.false) (sym c.in_ok-pieces.ensures ∙ c.if-not-pieces.false) (sym c.in_ok-referents.ensures ∙ c.if-not-referents.false) (sym c.in_ok-spans.ensures ∙ c.if-not-spans.false) (sym c.in_ok-entered.ensures ∙ c.if-not-entered.false) (sym c.in_ok-gone.ensures ∙ c.if-not-gone.false) (sym c.in_ok-edits.ensures ∙ c.if-not-edits.false) (sym c.in_ok-origins.ensures ∙ c.if-not-origins.true)

pub returns : goal.returns
returns c = at_none c.args.image.now (sym c.links_pass.ensures ∙ c.if-not-links_pass.false) (sym c.classes_pass.ensures ∙ c.if-not-classes_pass.false) (sym c.assets_pass.ensures ∙ c.if-not-assets_pass.false) (sym c.in_ok-pieces.ensures ∙ c.if-not-pieces.false) (sym c.in_ok-referents.ensures ∙ c.if-not-referents.false) (sym c.in_ok-spans.ensures ∙ c.if-not-spans.false) (sym c.in_ok-entered.ensures ∙ c.if-not-entered.false) (sym c.in_ok-gone.ensures ∙ c.if-not-gone.false) (sym c.in_ok-edits.ensures ∙ c.if-not-edits.false) (sym c.in_ok-origins.ensures ∙ c.if-not-origins.false)
