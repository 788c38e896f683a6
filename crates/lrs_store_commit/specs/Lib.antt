pub mod NewAssets
pub mod UndoneChanges
pub mod Laws
