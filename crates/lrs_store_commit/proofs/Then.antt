-- One call after another makes of the rows of a store what the second makes of what the first made.

use Rattle.sqlite.specs.State.{State}
use Rattle.lrs_store_tables.specs.Contents.Tables.{Tables}
use Rattle.lrs_store_tables.specs.Contents.Tables.{AreSame}
use Rattle.lrs_store_tables.specs.StoredRows.{stored, IsWriting, Makes}
use Rattle.lrs_store_tables.specs.RowLaws.{same_trans}
use Rattle.lrs_store_tables.proofs.Steady.{IsSteady}

pub makes_nothing : (made : Tables → Tables) (s : State) → ((t : Tables) → AreSame (made t) t) → IsWriting s → Makes made s s
makes_nothing made s none writing = record { writing = writing; was_open = λ opened. opened; rows = none (stored s.now.trees) }

pub makes_then : (one two both : Tables → Tables) (a b c : State) → ((t u : Tables) → AreSame (one t) u → AreSame (both t) (two u)) → Makes one a b → Makes two b c → Makes both a c
makes_then one two both a b c step first second = record {
  writing = second.writing;
  was_open = λ opened. first.was_open (second.was_open opened);
  rows = same_trans _ _ _ (step (stored a.now.trees) (stored b.now.trees) first.rows) second.rows;
}

-- a second call on what the first made
pub makes_on : (f g : Tables → Tables) (a b c : State) → IsSteady g → Makes f a b → Makes g b c → Makes (λ t. g (f t)) a c
makes_on f g a b c steady first second = makes_then f g (λ t. g (f t)) a b c (λ t u h. steady (f t) u h) first second
