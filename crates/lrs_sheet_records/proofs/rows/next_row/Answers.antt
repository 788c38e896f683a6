use Rattle.csv.specs.Reading.{default_config, strip_bom}
use Rattle.csv.specs.Records.{fields_of}
use Rattle.csv.specs.declared.parser.State.TheVariants as st
use Rattle.csv.proofs.ReadFacts.{rows-more}
use Rattle.lrs_sheet_records.proofs.ReadRows.{ended, explained}
use Rattle.lrs_sheet_records.proofs.rows.next_row.Goals as goal

pub returns-in-Ok-clause-found : goal.returns-in-Ok-clause-found
returns-in-Ok-clause-found g c is input records (rest, source, reached) =
    let read = rw is at (c.in-Ok.ensures.reads c.requires.trim c.requires.ready) in
    rows-more g.R.Read.remaining c.args.rows.now c.read_byte_record.new.self (fields_of c.read_byte_record.new.row) default_config st.StartRecord (strip_bom input) rest records c.requires.config source reached read

pub returns-in-Err-clause-faults : goal.returns-in-Err-clause-faults
returns-in-Err-clause-faults g c =
    rw c.fault_of.ensures (explained g.R.Read.remaining c.args.rows.now c.read_byte_record.new.self c.in-Err.error.kind c.requires (c.in-Err.ensures.why c.requires.ready))

pub returns-in-Ok-clause-ended : goal.returns-in-Ok-clause-ended
returns-in-Ok-clause-ended g c is =
    ended g.R.Read.remaining c.args.rows.now c.read_byte_record.new.self (fields_of c.read_byte_record.new.row) c.requires
    (rw is at (c.in-Ok.ensures.reads c.requires.trim c.requires.ready))
