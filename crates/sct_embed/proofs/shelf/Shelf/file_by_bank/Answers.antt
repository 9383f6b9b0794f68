-- What is new is filed after what was filed; or nothing is filed.
use Rattle.std.proofs.Common.{◌≡◌, ◌∙◌, ◌++◌, ap, subst, List, length, map, arith}
use Rattle.std.proofs.lemmas.List.{take_rest}
use Rattle.sct_message.specs.Sets.{messages_in}
use Rattle.sct_message.specs.declared.draft.Draft.{Draft}
use Rattle.sct_delta.specs.Entries.{Placed}
use Rattle.sct_rights.specs.ByBanks.{IsFiledByBanks}
use Rattle.sct_embed.specs.Shelves.{first_messages}
use Rattle.sct_embed.proofs.ShelfLemmas.{messages_joined}
use Rattle.sct_embed.proofs.shelf.Shelf.file_by_bank.Goals as goal

pub returns-clause-shelf : goal.returns-clause-shelf
returns-clause-shelf c =
    let es = c.args.arrivals.now in
    let k = c.args.self.now.transfers_filed in
    let joined : first_messages k es ++ messages_in c.deref.result.now ≡ first_messages (length es) es =
    messages_joined k es (messages_in c.deref.result.now)
    (ap messages_in c.deref.ensures.value ∙ c.in_ok-messages.ensures ∙ ap (λ (ds : List Placed). map (λ entry. entry.message) ds) (take_rest es k)) in
    record {
      transfers_within = omega arith;
      transfers = subst (λ (ms : List Draft). IsFiledByBanks c.file_banks.new.index ms) joined (c.in_default.ensures (first_messages k es) c.requires.transfers);
      messages_within = c.requires.messages_within;
      messages = c.requires.messages;
    }
