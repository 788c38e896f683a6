pub mod FailingKeepers
