-- The definitions that contracts cite, and the definitions that their proofs need.
pub mod Ascending
pub mod Cells
pub mod CellsBack
pub mod Drafts
pub mod Inside
pub mod KeyOrders
pub mod Keys
pub mod Kinds
pub mod Neighbours
pub mod Order
pub mod OrderLaws
pub mod Ranks
pub mod RecallOrders
pub mod Recalls
pub mod Rules
pub mod Sets
pub mod Transfers
