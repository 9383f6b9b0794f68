-- The lemmas of a site whose journal is on a disk.
pub mod KeeperLemmas
