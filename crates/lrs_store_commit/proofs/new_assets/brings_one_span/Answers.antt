use Rattle.std.proofs.Common.{rules, ◌≡◌, None, length}
use Rattle.lrs_store_commit.proofs.EntryLemmas.{brings_span}
use Rattle.lrs_store_commit.proofs.new_assets.brings_one_span.Goals as goal

pub returns-then-is_none : goal.returns-then-is_none
returns-then-is_none c known =
    let r = c.args.change.now in
    let name : r.name ≡ r.route = search rules in
    let course : r.course ≡ None = search rules in
    let marks : r.marks ≡ None = search rules in
    let refs : length r.keys.refs ≡ 0 = search rules in
    let spans : length r.keys.spans ≡ 0 = search rules in
    let gone : length r.refs.gone ≡ 0 = search rules in
    let come : length r.refs.come ≡ 0 = search rules in
    let spans_gone : length r.spans_gone ≡ 0 = search rules in
    let spans_come : length r.spans_come ≡ 1 = search rules in
    brings_span r name course marks refs spans gone come spans_gone spans_come
