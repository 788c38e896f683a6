pub mod HeadLemmas
pub mod KnownLemmas
pub mod BodyLemmas
pub mod LengthLemmas
pub mod LiteralLemmas
pub mod PathLemmas
pub mod WriteLemmas
pub mod RequestLemmas
