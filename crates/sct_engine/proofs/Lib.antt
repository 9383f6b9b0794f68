-- The lemmas of the program.
mod PerformLemmas
mod ServeLemmas
mod Unasked
