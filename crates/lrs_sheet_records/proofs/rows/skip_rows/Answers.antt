use Rattle.std.proofs.Common.{◌++◌, ◌∷◌, [], ap, ◌∙◌, refl, Some, length-append, arith}
use Rattle.std.proofs.lemmas.Grind.{common_steps}
use Rattle.csv.specs.Records.{fields_of}
use Rattle.lrs_sheet_records.proofs.ReadRows.{gave-more, gave-none}
use Rattle.lrs_sheet_records.proofs.rows.skip_rows.Goals as goal

pub loop-turn-init : goal.loop-turn-init
loop-turn-init g c = record {
  plain = c.requires;
  width = λ sheet is. is;
  gave = ([], refl, gave-none g.R.Read.remaining c.args.rows.now);
}

pub loop-turn-preserved : goal.loop-turn-preserved
loop-turn-preserved g c =
    let found = c.in-Ok-true.field-0-test in
    let (records, count, gave) = c.loop-turn.invariant.gave in
    let wide = c.in-Ok-true.ensures.width found in
    record {
      plain = c.in-Ok-true.ensures.plain found;
      width = λ sheet is.
          let same = rw (c.loop-turn.invariant.width sheet is) at (c.in-Ok-true.ensures.same_width found) in
          wide ∙ ap Some same;
      gave = (
        records ++ fields_of c.next_row.new.row ∷ [],
        (let one = length-append records (fields_of c.next_row.new.row ∷ []) in omega (arith, one, count)),
        gave-more g.R.Read.remaining c.args.rows.now c.loop-turn.rows c.next_row.new.rows records (fields_of c.next_row.new.row ∷ []) gave (c.in-Ok-true.ensures.found found),
      );
    }

pub returns : goal.returns
returns c = grind (arith, common_steps)
