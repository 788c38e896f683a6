use Rattle.std.proofs.Common.{sym, ◌∙◌}
use Rattle.sqlite.specs.Files.{file_state, image_of}
use Rattle.lrs_store_files.proofs.FoundLemmas.{opened_found, left_over}
use Rattle.lrs_store_files.proofs.RefusedLemmas.{refused_files}
use Rattle.lrs_store_files.proofs.files.open_tables.Goals as goal

pub taken-requires-clause-found : goal.taken-requires-clause-found
taken-requires-clause-found g c clean =
    let opened = c.in-Ok.ensures.opened clean in
    opened_found (image_of g.D.Disk c.args.files) (file_state c.in-Ok.conn) opened.0 opened.1 (c.in-Ok.ensures.found clean).reads

pub returns-in-Ok-taken-clause-found : goal.returns-in-Ok-taken-clause-found
returns-in-Ok-taken-clause-found g c = c.in-Ok-taken.ensures.found (image_of g.D.Disk c.args.files) (λ clean. let found = c.in-Ok.ensures.found clean in record { holds = found.holds; reads = found.reads })

pub returns-in-Err-taken-clause-left : goal.returns-in-Err-taken-clause-left
returns-in-Err-taken-clause-left g c = c.in-Err-taken.ensures.left (image_of g.D.Disk c.args.files) (λ clean. let found = c.in-Ok.ensures.found clean in record { holds = found.holds; reads = found.reads })

pub returns-in-Err-clause-left : goal.returns-in-Err-clause-left
returns-in-Err-clause-left g c = left_over c.args.files c.in-Err.left c.in-Err.ensures.unharmed

pub returns-in-Err-taken-clause-cause : goal.returns-in-Err-taken-clause-cause
returns-in-Err-taken-clause-cause g c is = c.in-Err-taken.ensures.cause is (image_of g.D.Disk c.args.files) (λ clean. let found = c.in-Ok.ensures.found clean in record { holds = found.holds; reads = found.reads })

pub returns-in-Err-clause-cause : goal.returns-in-Err-clause-cause
returns-in-Err-clause-cause g c is =
    refused_files c.args.files c.in-Err.left c.in-Err.error (λ memory. absurd (let both = sym (c.fault_of.ensures.memory memory) ∙ is in cc)) c.in-Err.ensures.cause
