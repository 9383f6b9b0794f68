-- The lemmas of the commands.
mod AgainLemmas
mod AnswerLemmas
mod CommandLineLemmas
mod FileLemmas
mod GatherLemmas
mod JobLemmas
mod PieceLemmas
mod Prefixes
mod RunFaults
mod RunLemmas
mod UnionLemmas
mod Values
