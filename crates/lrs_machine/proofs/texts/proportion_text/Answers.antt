use Rattle.std.proofs.Common.{◌≡◌, ◌∷◌, ◌++◌, ◌∙◌, IfOk, string_bytes, rules, sym}
use Rattle.std.specs.Prelude.{codes, unsigned_abs}
use Rattle.std.specs.Fmt.{decimal}
use Rattle.std.proofs.lemmas.List.{append_assoc}
use Rattle.std.proofs.lemmas.Result.{IfOk-weaker}
use Rattle.lrs_machine.proofs.texts.proportion_text.Goals as goal

pub returns : goal.returns
returns c =
    let n = unsigned_abs c.args.proportion.now.num in
    let d = c.args.proportion.now.den in
    let ok : IfOk c.format.result (λ text. string_bytes text ≡ decimal n ++ 47 ∷ decimal d) = search rules in
    IfOk-weaker c.format.result (λ text. string_bytes text ≡ decimal n ++ 47 ∷ decimal d) (λ text. string_bytes text ≡ (decimal n ++ codes "/") ++ decimal d)
    (λ text h. h ∙ sym (append_assoc (decimal n) (codes "/") (decimal d))) ok
