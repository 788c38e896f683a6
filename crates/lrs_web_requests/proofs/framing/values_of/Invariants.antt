use Rattle.std.proofs.Common.{◌≡◌, map, drop}
use Rattle.httparse.specs.Spans.{header_bytes}
use Rattle.lrs_web_requests.specs.BodyLengths.{values_named}
use Rattle.lrs_web_requests.specs.Values.{summary_of, with_values, nothing}
use Rattle.lrs_web_requests.proofs.framing.values_of.Given as goal

-- those so far and those of what is left are those of all
abbrev pub invariant-loop-field : goal.invariant-loop-field
invariant-loop-field l =
    with_values (summary_of l.values) (values_named l.name (map (header_bytes l.text) (drop l.field-index l.fields)))
    ≡ with_values nothing (values_named l.name (map (header_bytes l.text) l.fields))
