pub mod Tables
pub mod Decoders
pub mod Content
pub mod Encoders
pub mod EncodedImages
pub mod Laws
pub mod OrderLaws
