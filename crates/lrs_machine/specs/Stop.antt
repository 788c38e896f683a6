pub mod KnownEdits
pub mod StoppedRuns
pub mod Laws
pub mod Resumptions
pub mod WorkedRuns
