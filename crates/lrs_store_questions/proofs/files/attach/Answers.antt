use Rattle.std.proofs.Common.{◌≡◌, sym, ap, ap₂, subst, ◌∙◌, inl, inr, arith}
use Rattle.std.proofs.Math.Path.{subst₃}
use Rattle.std.proofs.Math.Logic.{∥∥₁_map}
use Rattle.std.proofs.lemmas.Bool.{cond-true}
use Rattle.sqlite_trees.specs.Tree.{no_trees}
use Rattle.sqlite_trees.proofs.Doubt.{no_doubt}
use Rattle.sqlite_pool.specs.Stored.{Recovers, RecoversAs}
use Rattle.sqlite_pool.specs.StoredLaws.{carried, readable, recovers_once, RecoversAs-from}
use Rattle.sqlite_store.specs.FileStore.{state, view}
use Rattle.sqlite_store.specs.Listing.{file_trees, IsOurs}
use Rattle.sqlite_store.specs.Saved.{kept_schema}
use Rattle.sqlite_store.specs.Unopened.{state_of, wanted_by, image}
use Rattle.lrs_store_questions.proofs.files.attach.Goals as goal

pub returns-in-Ok-clause-honest : goal.returns-in-Ok-clause-honest
returns-in-Ok-clause-honest g c clean = c.read_schema.ensures.honest (c.in-Ok.ensures.honest clean)

pub returns-in-Ok-clause-ok : goal.returns-in-Ok-clause-ok
returns-in-Ok-clause-ok g c clean =
    let old = c.args.files in
    let mid = c.read_schema.new.files in
    let store = c.in-Ok.store in
    let size = (state_of old).page_size in
    let made = c.in-Ok.ensures in
    let before = made.honest clean in
    let first = c.read_schema.ensures.kept before in
    let listed = c.in_default.ensures.ok before in
    let second = made.kept clean in
    let sized = second.size ∙ first.size in
    let same = recovers_once size (image mid) listed.pages (state store).committed listed.again (subst (λ n. Recovers n (image mid) (state store).committed) first.size (made.found clean)) in
    let wanted : kept_schema store.saved store.schema.items ≡ wanted_by mid = ap (λ o. kept_schema o store.schema.items) made.ready.unaltered ∙ made.schema in
    let reads : (view store).trees ≡ file_trees size (wanted_by mid) (state store).committed = made.ready.clean
    ∙ cond-true _ (file_trees (state store).page_size (kept_schema store.saved store.schema.items) (state store).committed) no_trees clean
    ∙ ap₂ (λ n s. file_trees n s (state store).committed) sized wanted in
    let is_open = made.ready.is_open (no_doubt _ clean) in
    record {
      fresh = record { sound = made.ready.sound (no_doubt _ clean); numbered = made.numbered; clean = made.ready.clean; unmarked = made.ready.unmarked };
      is_open = is_open;
      size = sized;
      counts = omega (arith, first.counts, second.counts, made.counted);
      found = subst (Recovers size (image old)) same listed.found;
      wanted = wanted_by mid;
      ours = ∥∥₁_map (store.stored is_open) (λ s. subst₃ (λ n b x. IsOurs n b x (state store).committed) sized made.numbered wanted s.ours);
      reads = reads;
      holds = λ db held. reads ∙ ap (λ p. file_trees size (wanted_by mid) p) (sym same) ∙ sym (listed.fits db held).1;
    }

pub returns-in-Err-open_numbered-clause-kept : goal.returns-in-Err-open_numbered-clause-kept
returns-in-Err-open_numbered-clause-kept g c clean =
    let old = c.args.files in
    let mid = c.read_schema.new.files in
    let size = (state_of old).page_size in
    let before = c.in-Err-open_numbered.ensures.falls clean in
    let first = c.read_schema.ensures.kept before in
    let listed = c.in_default.ensures.ok before in
    let second = c.in-Err-open_numbered.ensures.unharmed clean in
    record {
      size = second.size ∙ first.size;
      counts = omega (arith, first.counts, second.counts);
      crash = λ left may. elim (second.crash left may).same [
        | inl was ↦ first.crash left was
        | inr alike ↦
            let now = carried size (image mid) left (subst (λ n. RecoversAs n (image mid) left) first.size alike) listed.pages listed.again in
            record {
              same = inr (RecoversAs-from size (image old) left listed.pages listed.found now);
              unread = λ unreadable. absurd (readable size (image old) listed.pages listed.found unreadable);
            }
      ];
    }
