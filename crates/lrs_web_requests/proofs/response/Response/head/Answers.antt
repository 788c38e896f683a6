use Rattle.std.proofs.Common.{ap, length, ◌∙◌}
use Rattle.lrs_web_requests.specs.Text.{head_text, content_length_line}
use Rattle.lrs_web_requests.proofs.WriteLemmas.{grown}
use Rattle.lrs_web_requests.proofs.response.Response.head.Goals as goal

pub returns : goal.returns
unfolding head_text
returns c = grown _ _ _ _ _ _ _ _ _ _ _ _ _ _ _ _
    c.in_ok-push_str.ensures.bytes c.in_ok-push_str-2.ensures.bytes c.in_ok-push_str-3.ensures.bytes c.in_ok-push_str-4.ensures.bytes
    c.in_ok-head.ensures c.as_str.ensures.value c.as_str-2.ensures.value c.as_str-3.ensures.value
    c.in_ok-content_type.ensures c.in_ok-allow.ensures (c.in_ok-length.ensures ∙ ap (λ bytes. content_length_line (length bytes)) c.body.ensures)
