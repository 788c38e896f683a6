use Rattle.std.proofs.Common.{◌≡◌, ◌∷◌, [], ◌∙◌, string_bytes}
use Rattle.std.specs.Fmt.{decimal}
use Rattle.std.proofs.lemmas.Result.{IfOk-weaker}
use Rattle.lrs_events.specs.Names.{side_text}
use Rattle.lrs_machine.specs.Lines.{fields, new_asset_fields, method_text, expression_text, end_text}
use Rattle.lrs_machine.proofs.Words.{fields-joined}
use Rattle.lrs_machine.proofs.line.new_asset_text.Goals as goal

pub returns : goal.returns
returns c =
    let e = c.args.asked.now in
    let ends = e.location in
    let entered = c.as_str.result.now in
    let location = c.as_str-2.result.now in
    let told = c.as_str-3.result.now in
    IfOk-weaker c.joined_text.result (λ text. string_bytes text ≡ fields (entered ∷ location ∷ told ∷ [])) (λ text. string_bytes text ≡ fields (new_asset_fields e))
    (λ text h. h ∙ fields-joined (decimal e.asset) e.class e.route (side_text e.side) (method_text ends.from) (expression_text ends.from) (end_text ends.to) e.value (decimal e.offset) entered location told
    (c.as_str.ensures.value ∙ c.in_ok-entered.ensures) (c.as_str-2.ensures.value ∙ c.in_ok-location.ensures) (c.as_str-3.ensures.value ∙ c.in_ok-told.ensures)) c.joined_text.ensures
