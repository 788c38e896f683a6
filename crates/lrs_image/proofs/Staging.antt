-- What calls that only stage leave, one after the other.
use Rattle.std.proofs.Common.{refl, ◌∙◌}
use Rattle.lrs_image.specs.declared.holder.Holder.{Ghosts as Holder}
use Rattle.lrs_image.specs.KeeperCalls.{OnlyStages}

module _ {K : Type 0} (h : Holder K) where
  -- no call
  pub stages_none : (k : K) → OnlyStages h k k
  stages_none k = record { content = λ c. (λ m. m, λ m. m); loaded = refl; clean = λ is. is; reached = λ is. is; quiet = refl }

  -- one more
  pub stages_more : (old mid new : K) → OnlyStages h old mid → OnlyStages h mid new → OnlyStages h old new
  stages_more old mid new before after = record {
    content = λ c. (λ m. (before.content c).0 ((after.content c).0 m), λ m. (after.content c).1 ((before.content c).1 m));
    loaded = after.loaded ∙ before.loaded;
    clean = λ is. before.clean (after.clean is);
    reached = λ is. after.reached (before.reached is);
    quiet = after.quiet ∙ before.quiet;
  }
