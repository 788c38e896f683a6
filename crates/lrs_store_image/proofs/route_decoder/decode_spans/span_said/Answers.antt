use Rattle.std.proofs.Common.{arith}
use Rattle.std.proofs.lemmas.Grind.{common_steps}
use Rattle.lrs_store_image.proofs.route_decoder.decode_spans.span_said.Goals as goal

pub returns : goal.returns
returns c = grind (arith, common_steps)
