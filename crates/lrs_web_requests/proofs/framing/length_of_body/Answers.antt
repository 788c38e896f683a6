use Rattle.std.proofs.Common.{◌∙◌, sym, map}
use Rattle.httparse.specs.Spans.{header_bytes}
use Rattle.lrs_web_requests.specs.BodyLengths.{values_named, transfer_encoding, content_length}
use Rattle.lrs_web_requests.specs.Values.{nothing, several, one}
use Rattle.lrs_web_requests.proofs.LengthLemmas.{length_by_summaries}
use Rattle.lrs_web_requests.proofs.framing.length_of_body.Goals as goal

pub returns-in-Nothing-values_of : goal.returns-in-Nothing-values_of
returns-in-Nothing-values_of c =
    let fields = map (header_bytes c.args.text.now) c.args.fields.now in
    sym (length_by_summaries (values_named transfer_encoding fields) (values_named content_length fields) nothing nothing c.in-Nothing.ensures c.in-Nothing-values_of.ensures)

pub returns-in-One : goal.returns-in-One
returns-in-One c =
    let fields = map (header_bytes c.args.text.now) c.args.fields.now in
    c.length_stated.ensures
    ∙ sym (length_by_summaries (values_named transfer_encoding fields) (values_named content_length fields) nothing (one c.in-One.value.now) c.in-Nothing.ensures c.in-One.ensures)

pub returns-in-Several : goal.returns-in-Several
returns-in-Several c =
    let fields = map (header_bytes c.args.text.now) c.args.fields.now in
    sym (length_by_summaries (values_named transfer_encoding fields) (values_named content_length fields) nothing several c.in-Nothing.ensures c.in-Several.ensures)
