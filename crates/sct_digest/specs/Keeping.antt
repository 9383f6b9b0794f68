-- The digests that are kept. Serves proofs.
use Rattle.std.specs.Prelude.{◌≡◌, ◌≤◌, ◌<◌, ◌+◌, ◌*◌, ℕ, List, length, slice_index_or, take}
use Rattle.sct_message.specs.declared.draft.Draft.{Draft}
use Rattle.sct_delta.specs.Entries.{Placed, log_of}
use Rattle.sct_digest.specs.Digests.{digest_of}
use Rattle.sct_digest.specs.declared.chain.Chain.{Chain}
use Rattle.sct_digest.specs.declared.digests.Digests.{Digests}

-- what is kept is of the first messages of a log: the digest of `count`, and that of each 1,024
pub record IsKept (chain : Chain) (log : List Draft) : Type 0 where
  pub within : chain.count ≤ length log
  pub newest : chain.newest ≡ digest_of (take chain.count log)
  pub reached : 1024 * length chain.marks.items ≤ chain.count
  pub marks : (k : ℕ) (d : List ℕ) → k < length chain.marks.items → slice_index_or chain.marks.items k d ≡ digest_of (take (1024 * (k + 1)) log)

-- what is kept of each origin is of its entries; the chain of origin k + 1 is at place k
pub record AreKept (digests : Digests) (arrivals : List Placed) : Type 0 where
  pub each : (k : ℕ) (chain : Chain) → k < length digests.chains.items → chain ≡ slice_index_or digests.chains.items k chain
      → IsKept chain (log_of (k + 1) arrivals)
