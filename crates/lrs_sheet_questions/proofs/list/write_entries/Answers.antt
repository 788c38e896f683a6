use Rattle.std.proofs.Common.{[], ap, refl, rules, sym}
use Rattle.std.specs.Io.KnownBytes.{Appends}
use Rattle.lrs_sheet_questions.specs.Entries.{behind_first, entry_lines, front_of}
use Rattle.lrs_sheet_questions.specs.Kinds.{entry_word}
use Rattle.lrs_sheet_questions.specs.Lists.{list_text}
use Rattle.lrs_sheet_questions.specs.Passing.{stage_of}
use Rattle.lrs_sheet_questions.proofs.Story.{begun-text, has-begun, has-ended}
use Rattle.lrs_sheet_questions.proofs.list.write_entries.Goals as goal

pub invariant_of-entries-2 : goal.invariant_of-entries-2
invariant_of-entries-2 g c =
    let front = front_of c.args.key (entry_word c.args.kind) in
    let known = g.W.Write.contents c.args.to.now in
    let story = c.given_to-entries in
    record {
      staged = sym (ap stage_of (begun-text _ front known story.result.text story.ensures));
      told = λ broken. has-begun _ front known known story.result.text story.ensures refl;
    }

pub returns : goal.returns
returns g c =
    let front = front_of c.args.key (entry_word c.args.kind) in
    let known = g.W.Write.contents c.args.to.now in
    let story = c.given_to-entries in
    let body = list_text c.args.told.now in
    let entries = c.write_text.new.writer in
    let (name, told) = has-ended entries.to.ghost_name _ (front_of entries.key (entry_word entries.kind)) front known (g.W.Write.contents entries.to.now) entries.given.text story.result.text body story.ensures c.in_ok-write_text.ensures (entries.told c.if-is_broken.false) in
    let bytes : Appends known (g.W.Write.contents entries.to.now) (entry_lines c.args.key (entry_word c.args.kind) (behind_first body)) = told in
    search rules
