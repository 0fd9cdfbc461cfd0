pub mod Scripts
pub mod Cells
pub mod Texts
pub mod Memories
pub mod Parts
pub mod CellsLegible
pub mod TextLegible
pub mod StoreMeaning
