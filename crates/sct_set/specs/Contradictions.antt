-- The contradicted identities of a set of messages. Read by an auditor. Cases, the archive and the view use them.
use Rattle.std.specs.FinSet as set
use Rattle.std.specs.Prelude.{not, ◌&&◌, List, map, filter}
use Rattle.sct_message.specs.declared.draft.Draft.{Draft}
use Rattle.sct_message.specs.declared.keys.Identity.{Identity}
use Rattle.sct_message.specs.Keys.{identity_of}
use Rattle.sct_message.specs.Order.{identity_order, same_identity}
use Rattle.sct_message.specs.Ascending.{ascending}
use Rattle.sct_set.specs.Contents.{Contents}
use Rattle.sct_message.specs.Sets.{in_order}
pub use Rattle.sct_message.specs.Sets.{IsContradicted, is_contradicted as is_disputed}

-- the identities of disputed messages of the set, each once, in ascending order
unfoldable pub contradicted_identities : Contents → List Identity
contradicted_identities contents =
    ascending identity_order (map identity_of (filter (is_disputed contents) (set.items contents)))

-- the messages of the set that have the identity, if it is not contradicted: at most one
abbrev pub undisputed_of : Contents → Identity → List Draft
undisputed_of contents identity =
    filter (λ draft. same_identity (identity_of draft) identity && not (is_disputed contents draft)) (in_order contents)
