use Rattle.std.proofs.Common.{rules, ◌≡◌, ◌<◌, Some, length}
use Rattle.lrs_store_commit.specs.NewAssets.{BringsOneSpan, BringsOneAsset}
use Rattle.lrs_store_commit.proofs.EntryLemmas.{enters}
use Rattle.lrs_store_commit.proofs.new_assets.is_new_asset.Goals as goal

pub returns-then-brings_one_span : goal.returns-then-brings_one_span
returns-then-brings_one_span c known =
    let change = c.args.change.now in
    let changed = c.in-Some.changed in
    let there : change.difference.changed ≡ Some changed = search rules in
    let some : 0 < length change.difference.entered = search rules in
    let spanned : BringsOneSpan changed = search rules in
    let named : BringsOneAsset change.difference = search rules in
    enters change changed there some spanned named
