-- Files whose log has no page without its sum.
use Rattle.std.proofs.Common.{ℕ, [], inl, inr}
use Rattle.sqlite_wal.specs.Recovery.{Pages, Image}
use Rattle.sqlite_trees.specs.Tree.{Trees}
use Rattle.sqlite_pool.specs.Stored.{Recovers, Adopts, RecoversAs, StandsAs}
use Rattle.sqlite_pool.specs.StoredLaws.{carried}
use Rattle.sqlite_pool.proofs.ResealLemmas.{adopts_of, plain_adopts, unlogged_adopts}
use Rattle.sqlite.specs.Opening.{HoldsAt, HoldsIn, AreToSeal}

recovers_too : (size : ℕ) (image : Image) (pages : Pages) → AreToSeal size image [] → Adopts size image pages → Recovers size image pages
recovers_too size image pages (inl plain) found = plain_adopts size image pages plain.0 found
recovers_too size image pages (inr frames) found = unlogged_adopts size image pages frames found

-- their database is found with no page changed
pub holds_at : (size : ℕ) (image : Image) (db : Trees) → AreToSeal size image [] → HoldsIn size image db → HoldsAt size image db
holds_at size image db none held =
    record { pages = held.pages; wanted = held.wanted; schema = held.schema; found = recovers_too size image held.pages none held.found; ours = held.ours; reads = held.reads; sound = held.sound }

-- and what has the same pages stands for it
pub stands_as : (size : ℕ) (old new : Image) → AreToSeal size old [] → RecoversAs size old new → StandsAs size old new
stands_as size old new none alike = (inl alike, λ pages found. adopts_of size new pages (carried size old new alike pages (recovers_too size old pages none found)))
