-- What a file tells that is only read.
use Rattle.std.specs.Prelude.{◌≡◌, Bool, [], ◌∷◌}
use Rattle.sqlite_disk.specs.declared.modelled.Modelled.{Modelled}
use Rattle.sqlite_disk.specs.declared.calls.Calls as calls
use Rattle.sqlite_disk.specs.declared.start.Start.{Ghosts}
use Rattle.sqlite_disk.specs.Modelled.{start_of}
use Rattle.sqlite_disk.specs.Events.{settled, replay}
use Rattle.lrs_store_questions.specs.declared.still.Still.{Still}

module _ {S : Type 0} {g : calls.Ghosts Still} where
  -- its member `is_usable`
  abbrev pub still_is_usable : (start : Ghosts S) → Modelled Still S g start → Bool
  still_is_usable start f = (replay (start_of start f) f.calls.log.events).is_usable

  -- it is the log or the database file, was settled, and nothing has happened since
  abbrev pub IsFresh : {start : Ghosts S} → Bool → Modelled Still S g start → Type 0
  IsFresh is_log f = (f.is_log ≡ is_log) × (f.calls.log.events ≡ settled f.key ∷ [])
