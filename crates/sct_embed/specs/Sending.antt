-- Messages that are sent to an embedded site in the name of banks. Read by an auditor.
use Rattle.std.specs.Prelude.{◌≡◌, ◌≢◌, ℕ, List, Option, Some, None, Ok, Err, ⊤}
use Rattle.sct_message.specs.declared.draft.Draft.{Draft}
use Rattle.sct_json.specs.Reading.{message_in}
use Rattle.sct_delta.specs.Entries.{messages_of}
use Rattle.sct_site.specs.Cores.{Core, core_taken, took_by}
use Rattle.sct_site.specs.declared.answers.Took.{Took}
use Rattle.sct_rights.specs.Rights.{verdict}
use Rattle.sct_rights.specs.declared.permission.Permission.{Permission}
use Rattle.sct_rights.specs.declared.permission.Permission.TheVariants as permission
use Rattle.sct_embed.specs.declared.faults.EmbedFault.{EmbedFault}
use Rattle.sct_embed.specs.declared.faults.EmbedFault.TheVariants as fault

-- The bytes are a form of a message that may be sent in the name of the banks, by what the site held then, and the site took it.
pub record IsTakenAs (before : Core) (banks : List (List ℕ)) (json : List ℕ) (took : Took) (after : Core) : Type 0 where
  pub message : Draft
  pub read : message_in json ≡ Ok message
  pub allowed : verdict banks (messages_of before.arrivals) message ≡ permission.Allowed
  pub answer : took ≡ took_by before message
  pub left : after ≡ core_taken before message

-- The bytes are a form of a message that may not be sent in the name of the banks, for this reason.
pub record IsWithheld (before : Core) (banks : List (List ℕ)) (json : List ℕ) (reason : Permission) : Type 0 where
  pub message : Draft
  pub read : message_in json ≡ Ok message
  pub judged : verdict banks (messages_of before.arrivals) message ≡ reason
  pub withheld : reason ≢ permission.Allowed

-- The bytes are refused for their first fault, or the message may not be sent. Or the call is out of memory.
abbrev pub RefusesMessageAs : Core → List (List ℕ) → List ℕ → EmbedFault → Type 0
RefusesMessageAs before banks json (fault.Message reason) = message_in json ≡ Err reason
RefusesMessageAs before banks json (fault.Withheld reason) = IsWithheld before banks json reason
RefusesMessageAs before banks json fault.Memory = ⊤
RefusesMessageAs before banks json other = ⊥

-- ---- banks that a text lists

-- the same for the banks of a list, which is one
abbrev pub IsTakenFor : Core → Option (List (List ℕ)) → List ℕ → Took → Core → Type 0
IsTakenFor before None json took after = ⊥
IsTakenFor before (Some banks) json took after = IsTakenAs before banks json took after

-- The text does not list banks. Or the call is out of memory.
abbrev pub RefusesBanks : EmbedFault → Type 0
RefusesBanks (fault.BadArgument place) = place ≡ 1
RefusesBanks fault.Memory = ⊤
RefusesBanks other = ⊥

abbrev pub RefusesFor : Core → Option (List (List ℕ)) → List ℕ → EmbedFault → Type 0
RefusesFor before None json = RefusesBanks
RefusesFor before (Some banks) json = RefusesMessageAs before banks json
