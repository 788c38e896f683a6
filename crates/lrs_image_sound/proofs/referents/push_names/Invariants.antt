use Rattle.std.proofs.Common.{◌≡◌, ◌++◌, map, take}
use Rattle.lrs_position.specs.declared.route.Referent.{Referent}
use Rattle.lrs_image_sound.proofs.referents.push_names.Given as goal

abbrev pub invariant-loop-referent : goal.invariant-loop-referent
invariant-loop-referent l = l.names.items ≡ l.initial.names.items ++ map (λ (r : Referent). r.name) (take l.referent-index l.refs)
