pub mod WrittenLines
pub mod RefusedLines
pub mod RefusalsLeft
pub mod ListedItems
pub mod SlotRows
pub mod ListWords
pub mod TidyForms
pub mod TidyRows
