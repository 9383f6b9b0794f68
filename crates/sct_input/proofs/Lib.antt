-- The lemmas behind the blocks of an input.
mod BlockLemmas
