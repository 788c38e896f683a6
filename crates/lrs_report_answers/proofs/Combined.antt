-- Combinations of values: how they are counted, and that there is one list of them.
use Rattle.lrs_report_answers.specs.Combinations.{CombinationsAreUnique}
use Rattle.lrs_report_answers.proofs.Combined.Unique.{are_unique}
pub mod Order
pub mod Groups
pub mod Sides
pub mod Routes
pub mod Unique

pub combinations_unique : CombinationsAreUnique
combinations_unique = are_unique
