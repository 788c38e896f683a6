use Rattle.std.specs.Fmt.{digits}
use Rattle.lrs_web_requests.specs.Text.{head_text}
use Rattle.lrs_web_requests.proofs.response.write_unavailable.Goals as goal

pub returns : goal.returns
unfolding head_text digits
returns g c = c.write_all.ensures.bytes
