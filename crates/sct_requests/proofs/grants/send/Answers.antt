-- What the site is given, by what became of the message.
use Rattle.std.proofs.Common.{◌∙◌, ap, subst, sym}
use Rattle.sct_embed.specs.Embeddings.{Embedding}
use Rattle.sct_embed.specs.Sending.{RefusesMessageAs}
use Rattle.sct_requests.proofs.GrantLemmas.{given_allowed, given_unread, given_withheld}
use Rattle.sct_requests.proofs.grants.send.Goals as goal

pub returns-in-Ok-clause-core : goal.returns-in-Ok-clause-core
returns-in-Ok-clause-core c =
    let taken = c.in-Ok.ensures.taken in
    taken.left ∙ sym (given_allowed c.args.site.now.core c.args.banks.now c.args.line.now c.requires taken.message taken.read taken.allowed)

pub returns-in-Err-Message-clause-core : goal.returns-in-Err-Message-clause-core
returns-in-Err-Message-clause-core c =
    ap (λ (e : Embedding). e.core) c.in-Err-Message.ensures.unchanged
    ∙ sym (given_unread c.args.site.now.core c.args.banks.now c.args.line.now c.requires _ (subst (RefusesMessageAs c.args.site.now.core c.args.banks.now c.args.line.now) c.in-Err-Message.field-0-is c.in-Err-Message.ensures.err))

pub returns-in-Err-Withheld-clause-core : goal.returns-in-Err-Withheld-clause-core
returns-in-Err-Withheld-clause-core c =
    let left = subst (RefusesMessageAs c.args.site.now.core c.args.banks.now c.args.line.now) c.in-Err-Withheld.field-0-is c.in-Err-Withheld.ensures.err in
    ap (λ (e : Embedding). e.core) c.in-Err-Withheld.ensures.unchanged
    ∙ sym (given_withheld c.args.site.now.core c.args.banks.now c.args.line.now c.requires left.message _ left.read left.judged left.withheld)
