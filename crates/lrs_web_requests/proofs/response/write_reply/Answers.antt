use Rattle.std.proofs.Common.{refl, inl, ◌∙◌, subst}
use Rattle.std.specs.Io.KnownBytes.{Appends}
use Rattle.lrs_web_requests.proofs.WriteLemmas.{Appends-then}
use Rattle.lrs_web_requests.specs.Text.{answer_of}
use Rattle.lrs_web_requests.proofs.response.write_reply.Goals as goal

pub returns : goal.returns
returns g c =
    let head = subst (Appends _ _) (c.as_bytes.ensures.value ∙ c.in-Ok.ensures) c.in_ok-write_all.ensures.bytes in
    let body = subst (Appends _ _) c.body.ensures c.in_ok-write_all-2.ensures.bytes in
    (answer_of c.args.reply.now, inl refl, c.as_u16.ensures.value, Appends-then _ _ _ _ _ head body)
