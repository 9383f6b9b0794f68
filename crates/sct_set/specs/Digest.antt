-- A number for each message, by which it is found among others. Proof plumbing: no public clause uses it.
use Rattle.std.specs.Prelude.{ℕ}
use Rattle.std.specs.List.{fold}
use Rattle.std.specs.Hash.FoldHasher as folding
use Rattle.sct_message.specs.declared.draft.Draft.{Draft}
use Rattle.sct_message.specs.contracts.messages.MessageHash.TheImpl as hashed

-- the number that the hasher of std computes from a message's elements
unfoldable pub digest_of : Draft → ℕ
digest_of draft = folding.finish (fold folding.write folding.initial (hashed.ghosts.hash_input draft))
