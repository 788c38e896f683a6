use Rattle.std.proofs.Common.{◌∙◌, ◌++◌, ◌∷◌, ap}
use Rattle.hex.specs.Hex.{encode_lower}
use Rattle.sha2.specs.Sha256.{sha256}
use Rattle.lrs_sheet_log.proofs.Written.{row-as}
use Rattle.lrs_sheet_log.proofs.sums.next_sum.Goals as goal

pub returns : goal.returns
returns c =
    let line = row-as c.args.edit.now c.bytes.result.now c.as_bytes-line.result.now c.empty_fields.result.now c.bytes.ensures.text (c.as_bytes-line.ensures.value ∙ c.as_str.ensures) c.empty_fields.ensures in
    let number = c.as_bytes-number.ensures.value ∙ c.format.ensures.text in
    c.digits_of.ensures ∙ ap encode_lower (c.digest_of.ensures ∙ (λ i. sha256 (c.args.sum.now ++ 44 ∷ (number i ++ 44 ∷ line i))))
