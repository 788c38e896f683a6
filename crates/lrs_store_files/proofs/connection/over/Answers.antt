use Rattle.std.proofs.Common.{sym, ap, ◌∙◌, arith}
use Rattle.lrs_store_tables.specs.TableCreation.{first_tables}
use Rattle.lrs_store_tables.proofs.MakeLemmas.{none_made, all_made}
use Rattle.lrs_store_files.proofs.FirstTables.{other_tables}
use Rattle.lrs_store_files.proofs.connection.over.Goals as goal

pub made-requires-clause-nothing : goal.made-requires-clause-nothing
made-requires-clause-nothing g c =
    let known = (c.which.ensures c.in-First-eq0.field-0).0 c.in-First-eq0.is in
    sym c.schema.ensures.value ∙ known.1 ∙ ap first_tables c.in-First-eq0.field-0-test ∙ none_made

pub kept-requires-clause-all : goal.kept-requires-clause-all
kept-requires-clause-all g c =
    let known = (c.which.ensures c.in-First-eq12.field-0).0 c.in-First-eq12.is in
    sym c.schema.ensures.value ∙ known.1 ∙ ap first_tables c.in-First-eq12.field-0-test ∙ all_made

pub grown-requires-clause-few : goal.grown-requires-clause-few
grown-requires-clause-few g c =
    let known = (c.which.ensures c.in-First.first).0 c.in-First.is in
    omega (arith, known.0, c.in-First.first-test.1)

pub returns-in-First-clause-other : goal.returns-in-First-clause-other
returns-in-First-clause-other g c none =
    let known = (c.which.ensures c.in-First.first).0 c.in-First.is in
    absurd (none (c.in-First.first, known.0, sym c.schema.ensures.value ∙ known.1))

pub returns-in_default-clause-failed : goal.returns-in_default-clause-failed
returns-in_default-clause-failed g c known is clean = absurd (let both = sym c.unchanged.ensures.fault ∙ is in cc)

pub returns-clause-failed : goal.returns-clause-failed
returns-clause-failed g c known is clean = absurd (other_tables c.which.result _ _ c.in-Other.is c.which.ensures c.schema.ensures.value known)
