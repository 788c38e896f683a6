use Rattle.std.proofs.Common.{◌≡◌, ◌≤◌, [], sym, ap, subst, subst₂, ◌∙◌, inl, inr}
use Rattle.sqlite_wal.specs.Recovery.{Image}
use Rattle.sqlite_wal.specs.Reads.{are_clean}
use Rattle.sqlite_wal.specs.Files.{outcomes, seen_image}
use Rattle.sqlite_wal.specs.PageSize.{bytes_of}
use Rattle.sqlite_pool.specs.Stored.{stored_size, is_summed, Adopts, StandsAs, IsUnreadable}
use Rattle.sqlite_pool.proofs.ResealLemmas.{adopts_of}
use Rattle.sqlite_store.specs.FileStore.{state}
use Rattle.sqlite_store.specs.Unopened.{state_of, image}
use Rattle.sqlite_store.proofs.StoreLemmas.{pair}
use Rattle.sqlite.specs.Files.{NamesSize, BeginsWell, SaysSums, image_of}
use Rattle.sqlite.specs.Opening.{HoldsIn, AreToSeal}
use Rattle.sqlite.proofs.FileLemmas.{same_image, stored_used, summed_used, stays_something}
use Rattle.sqlite.proofs.OpenLemmas.{pool_files}
use Rattle.lrs_store_questions.proofs.FileLemmas.{holds_at, stands_as}
use Rattle.lrs_store_questions.proofs.files.open_store.Goals as goal

pub returns-in-Ok-attach-clause-ok : goal.returns-in-Ok-attach-clause-ok
returns-in-Ok-attach-clause-ok g c clean =
    let start = image_of g.D.Disk c.args.files in
    let fresh = c.in-Ok-unopened.fresh in
    let made = c.in-Ok-unopened.ensures in
    let before = sym ((pool_files fresh.pool).1 ∙ ap (λ f. are_clean g.D.Disk f.0 f.1) made.files) ∙ c.in-Ok-attach.ensures.honest clean in
    let looks = c.in-Ok.ensures.ok before in
    let seen : image fresh ≡ start = ap (λ f. seen_image g.D.Disk f.0 f.1) made.files ∙ same_image c.look.ensures.log c.look.ensures.db in
    let size = (state_of fresh).page_size in
    let sealed = subst₂ (λ n i. AreToSeal n i []) (sym made.size) (sym seen) looks.sealed in
    let it = c.in-Ok-attach.ensures.ok clean in
    record {
      is_open = it.is_open;
      settled = it.fresh.clean;
      found = inl (size, _, it.wanted, subst (λ i. Adopts size i (state c.in-Ok-attach.store).committed) seen (adopts_of size (image fresh) _ it.found), it.ours, it.reads);
      holds = λ db held. it.holds db (holds_at size (image fresh) db sealed (subst₂ (λ n i. HoldsIn n i db) (looks.held db held ∙ sym made.size) (sym seen) held.2));
    }

pub returns-in-Err-attach-clause-unharmed : goal.returns-in-Err-attach-clause-unharmed
returns-in-Err-attach-clause-unharmed g c clean =
    let files = c.args.files in
    let start = image_of g.D.Disk files in
    let told = c.in-Ok.told in
    let fresh = c.in-Ok-unopened.fresh in
    let made = c.in-Ok-unopened.ensures in
    let read = c.look.ensures in
    let before = sym ((pool_files fresh.pool).1 ∙ ap (λ f. are_clean g.D.Disk f.0 f.1) made.files) ∙ c.in-Err-attach.ensures.falls clean in
    let looks = c.in-Ok.ensures.ok before in
    let seen : image fresh ≡ start = ap (λ f. seen_image g.D.Disk f.0 f.1) made.files ∙ same_image read.log read.db in
    let stored : stored_size (state_of fresh).page_size ≡ bytes_of told.0 = ap stored_size made.size ∙ stored_used told.0 told.1 in
    let kept = c.in-Err-attach.ensures.kept clean in
    let now : bytes_of told.0 ≡ stored_size (state_of c.in-Err-attach.left).page_size = sym (ap stored_size kept.size ∙ stored) in
    let sealed = subst₂ (λ n i. AreToSeal n i []) (sym made.size) (sym seen) looks.sealed in
    let large : 512 ≤ stored_size (state_of fresh).page_size = rw stored told.0.smallest in
    let back = λ (left : Image) (was : (state_of fresh).may_leave left).
    let old = subst (λ f. outcomes g.D.Disk f.0 f.1 left) made.files ((pool_files fresh.pool).2 left was) in pair (read.log.crash _ old.0) (read.db.crash _ old.1) in
    inr (
      looks.something,
      subst (NamesSize start) now looks.named,
      subst (λ n. BeginsWell n start) now looks.begins,
      λ sums. subst (λ n. SaysSums n start) now (looks.says (sym (ap is_summed (kept.size ∙ made.size) ∙ summed_used told.0 told.1) ∙ sums)),
      λ left may. record {
        same = elim (kept.crash left may).same [
          | inl was ↦ inl (back left was)
          | inr alike ↦ inr (subst₂ (λ n i. StandsAs n i left) (sym kept.size) seen (stands_as (state_of fresh).page_size (image fresh) left sealed alike))
        ];
        unread = λ unreadable. back left ((kept.crash left may).unread (subst₂ IsUnreadable kept.size (sym seen) unreadable));
        something = λ new. elim (kept.crash left may).same [
          | inl was ↦ absurd (new (back left was))
          | inr alike ↦ stays_something (state_of fresh).page_size (image fresh) left large (subst₂ BeginsWell (sym stored) (sym seen) looks.begins) (stands_as (state_of fresh).page_size (image fresh) left sealed alike) (λ unreadable. new (back left ((kept.crash left may).unread unreadable)))
        ];
      },
    )
