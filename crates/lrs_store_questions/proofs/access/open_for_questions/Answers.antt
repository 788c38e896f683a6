use Rattle.std.proofs.Common.{ℕ, Bool, cond, List, ap₂, subst}
use Rattle.std.proofs.lemmas.Result.{IfOk-weaker}
use Rattle.sqlite_disk.specs.Events.{Event, replay}
use Rattle.sqlite_wal.specs.Recovery.{Image}
use Rattle.lrs_store_questions.specs.FileAnswers.{HasRead}
use Rattle.lrs_store_questions.proofs.ReadLemmas.{if_err, if_some}
use Rattle.lrs_store_questions.proofs.access.open_for_questions.Goals as goal

-- what reads of a pair of files return
abbrev pair_of : List ℕ → List ℕ → Image
pair_of log db = record { log = log; db = db }

abbrev seen : List ℕ → List ℕ → Bool → List Event → List ℕ
seen log db is_log history = (replay (cond is_log log db) history).seen

pub returns-clause-held : goal.returns-clause-held
returns-clause-held g c =
    let fresh = c.in-Ok.ensures.fresh in
    IfOk-weaker c.files_for_questions.result _ _ (λ k held x may.
    subst (λ i. HasRead i x) (ap₂ pair_of (ap₂ (seen g.S.Start.log g.S.Start.db) fresh.0.0 fresh.0.1) (ap₂ (seen g.S.Start.log g.S.Start.db) fresh.1.0 fresh.1.1)) (held x may)) c.files_for_questions.ensures.held

pub returns-clause-still : goal.returns-clause-still
returns-clause-still g c =
    let fresh = c.in-Ok.ensures.fresh in
    IfOk-weaker c.files_for_questions.result _ _ (λ k still clean.
    (c.in-Ok.files, ap₂ pair_of (ap₂ (seen g.S.Start.log g.S.Start.db) fresh.0.0 fresh.0.1) (ap₂ (seen g.S.Start.log g.S.Start.db) fresh.1.0 fresh.1.1), still clean)) c.files_for_questions.ensures.still

pub returns-clause-unharmed : goal.returns-clause-unharmed
returns-clause-unharmed g c =
    let fresh = c.in-Ok.ensures.fresh in
    if_err c.files_for_questions.result _ _ (λ e unharmed. if_some e.left _ _ (λ left still clean.
    (c.in-Ok.files, ap₂ pair_of (ap₂ (seen g.S.Start.log g.S.Start.db) fresh.0.0 fresh.0.1) (ap₂ (seen g.S.Start.log g.S.Start.db) fresh.1.0 fresh.1.1), still clean)) unharmed) c.files_for_questions.ensures.unharmed
