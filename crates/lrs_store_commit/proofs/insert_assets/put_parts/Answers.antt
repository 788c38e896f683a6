use Rattle.std.proofs.Common.{◌∙◌, arith}
use Rattle.lrs_store_commit.proofs.EntryRows.{puts_both_parts}
use Rattle.lrs_store_commit.proofs.Leaves.{leaves_then}
use Rattle.lrs_store_commit.proofs.Last.{fails_behind, handed_on}
use Rattle.lrs_store_commit.proofs.insert_assets.put_parts.Goals as goal

pub returns : goal.returns
returns g c = record {
  same_reference = c.put_other_parts.ensures.same_reference ∙ c.put_first_parts.ensures.same_reference;
  does = λ clean writing.
      let one = c.in_ok-put_first_parts.ensures.does (omega (arith, clean, c.put_other_parts.ensures.survives.clean)) writing in
      puts_both_parts c.args.entries.now _ _ _ one (c.in_ok-put_other_parts.ensures.does clean one.writing);
  survives = leaves_then c.put_first_parts.ensures.survives c.put_other_parts.ensures.survives;
}

pub returns-in_err-put_other_parts : goal.returns-in_err-put_other_parts
returns-in_err-put_other_parts g c = handed_on c.from_residual-in_err-put_other_parts.result c.from_residual-in_err-put_other_parts.ensures.1 (fails_behind c.in_ok-put_first_parts.ensures c.in_err-put_other_parts.ensures)
