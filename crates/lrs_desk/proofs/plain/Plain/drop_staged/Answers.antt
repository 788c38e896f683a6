use Rattle.std.proofs.Common.{refl}
use Rattle.lrs_desk.proofs.PlainContents.{truncated}
use Rattle.lrs_desk.proofs.plain.Plain.drop_staged.Goals as goal

pub returns-clause-sound : goal.returns-clause-sound
returns-clause-sound c =
    let d = c.self.inside in
    truncated d.kept d.changes.items c.truncate.new.self.items d.base c.self.invariant.within c.truncate.ensures.items c.self.invariant.content _ refl
