use Rattle.std.proofs.Common.{◌≡◌, [], sym, subst, ◌∙◌}
use Rattle.sqlite_wal.proofs.CleanLemmas.{both_clean}
use Rattle.sqlite_wal.specs.PageSize.{bytes_of}
use Rattle.sqlite_pool.specs.Stored.{used_size}
use Rattle.sqlite.specs.Files.{HoldsDatabase, NamesSize, BeginsWell, SaysSums, image_of}
use Rattle.sqlite.specs.Opening.{AreToSeal}
use Rattle.sqlite.proofs.FileLemmas.{same_image}
use Rattle.lrs_store_questions.proofs.look.look.Goals as goal

pub returns-clause-ok : goal.returns-clause-ok
returns-clause-ok g c last =
    let size = bytes_of c.in_ok-size.size in
    let sums = c.in_ok-has_sums.has_sums in
    let start = image_of g.D.Disk c.args.files.now in
    let looked = c.are_new.ensures in
    let named = c.page_size.ensures in
    let summed = c.keeps_sums.ensures in
    let logged = c.refuse_log.ensures in
    let third = both_clean _ _ _ _ logged.log.clean logged.db.clean last in
    let second = both_clean _ _ _ _ summed.log.clean summed.db.clean third in
    let first = both_clean _ _ _ _ named.log.clean named.db.clean second in
    let a : image_of g.D.Disk c.are_new.new.files ≡ start = same_image looked.log looked.db in
    let b : image_of g.D.Disk c.page_size.new.files ≡ start = same_image named.log named.db ∙ a in
    let d : image_of g.D.Disk c.keeps_sums.new.files ≡ start = same_image summed.log summed.db ∙ b in
    record {
      something = c.in_ok-are_new.ensures.ok first c.if-branch.false;
      named = subst (λ i. NamesSize i size) a (c.in_ok-size.ensures.named second);
      held = subst (λ i. (db : _) (held : HoldsDatabase i db) → held.0 ≡ used_size size sums) a (λ db held. c.in_ok-has_sums.ensures.held third db (subst (λ i. HoldsDatabase i db) (sym (same_image named.log named.db)) held) (c.in_ok-size.ensures.held second db held));
      begins = subst (BeginsWell size) b (c.in_ok-has_sums.ensures.begins third);
      says = λ are. subst (SaysSums size) b (c.in_ok-has_sums.ensures.says third are);
      sealed = subst (λ i. AreToSeal (used_size size sums) i []) d (c.in_ok-refuse_log.ensures.ok last);
    }
