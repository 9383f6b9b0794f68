-- An empty place gets the site that was opened, or stays empty.
use Rattle.std.proofs.Common.{◌≡◌, ◌≢◌, ◌∙◌, sym, subst, refl, ℕ, List, [], true, false, Option, Some, None, Result, Ok, Err, OnOk, IfOk, IfErr, inl, inr}
use Rattle.std.specs.Option.{is_some}
use Rattle.std.proofs.lemmas.Bool.{false≢true}
use Rattle.sct_delta.specs.declared.fault.DeltaFault.TheVariants as delta
use Rattle.sct_site.specs.Cores.{is_open}
use Rattle.sct_embed.specs.Embeddings.{Embedding}
use Rattle.sct_place.specs.declared.kept.KeptSite.{KeptSite}
use Rattle.sct_place.specs.Places.{IsFilledWith, IsOpened, IsPlaceFilled, IsRestored, NoSite, Opens, Restores}
use Rattle.sct_embed.specs.Restoring.{core_restored, restored_text}
use Rattle.sct_embed.specs.declared.faults.EmbedFault.{EmbedFault}
use Rattle.sct_embed.specs.declared.faults.EmbedFault.TheVariants as fault
use Rattle.sct_place.specs.declared.outcomes.CallOutcome.{CallOutcome}

none_of : (held : Option KeptSite) → is_some held ≡ false → held ≡ None
none_of (Some site) empty = absurd (false≢true (sym empty))
none_of None empty = refl

filled : (Opened : Embedding → Type 0) (Refused : EmbedFault → Type 0) (opened : Result Embedding EmbedFault) (before after : Option KeptSite) (outcome : CallOutcome)
    → before ≡ None → IfOk opened Opened → IfErr opened Refused → Refused fault.Memory → IsFilledWith opened before outcome after
    → IsPlaceFilled Opened Refused before outcome after
filled Opened Refused (Ok site) before after outcome empty there err memory (inl (told, is)) =
    subst (λ (b : Option KeptSite). IsPlaceFilled Opened Refused b outcome after) (sym empty)
    (subst (IsPlaceFilled Opened Refused None outcome) (sym is) (told, (there, (refl, refl))))
filled Opened Refused (Ok site) before after outcome empty there err memory (inr (told, is)) =
    subst (λ (b : Option KeptSite). IsPlaceFilled Opened Refused b outcome after) (sym empty)
    (subst (IsPlaceFilled Opened Refused None outcome) (sym (is ∙ empty)) (fault.Memory, (told, memory)))
filled Opened Refused (Err reason) before after outcome empty there err memory (told, is) =
    subst (λ (b : Option KeptSite). IsPlaceFilled Opened Refused b outcome after) (sym empty)
    (subst (IsPlaceFilled Opened Refused None outcome) (sym (is ∙ empty)) (reason, (told, err)))

bad_site : (number group : ℕ) (reason : EmbedFault) → (reason ≡ fault.Delta delta.BadSite) × (is_open number group ≡ false) → NoSite number group reason
bad_site number group reason (is, closed) = subst (NoSite number group) (sym is) closed

bad_or_memory : (number group : ℕ) (reason : EmbedFault) → (reason ≢ fault.Memory → (reason ≡ fault.Delta delta.BadSite) × (is_open number group ≡ false)) → NoSite number group reason
bad_or_memory number group fault.Memory bad = tt
bad_or_memory number group (fault.Message m) bad = bad_site number group (fault.Message m) (bad (λ same. cc))
bad_or_memory number group (fault.Delta d) bad = bad_site number group (fault.Delta d) (bad (λ same. cc))
bad_or_memory number group (fault.BadList n) bad = bad_site number group (fault.BadList n) (bad (λ same. cc))
bad_or_memory number group fault.Empty bad = bad_site number group fault.Empty (bad (λ same. cc))
bad_or_memory number group fault.Full bad = bad_site number group fault.Full (bad (λ same. cc))
bad_or_memory number group fault.BadVector bad = bad_site number group fault.BadVector (bad (λ same. cc))
bad_or_memory number group (fault.BadArgument n) bad = bad_site number group (fault.BadArgument n) (bad (λ same. cc))
bad_or_memory number group fault.NotYours bad = bad_site number group fault.NotYours (bad (λ same. cc))
bad_or_memory number group (fault.Withheld p) bad = bad_site number group (fault.Withheld p) (bad (λ same. cc))
bad_or_memory number group fault.Snapshot bad = bad_site number group fault.Snapshot (bad (λ same. cc))

pub opens : (number group : ℕ) (opened : Result Embedding EmbedFault) (before after : Option KeptSite) (outcome : CallOutcome) → is_some before ≡ false
    → IfOk opened (λ site. site ≡ record { core = record { number = number; group = group; arrivals = [] }; answer = []; watched = None })
    → OnOk opened (is_open number group ≡ true) → IfErr opened (λ e. (e ≡ fault.Delta delta.BadSite) × (is_open number group ≡ false))
    → IsFilledWith opened before outcome after → Opens number group before outcome after
opens number group (Ok site) before after outcome empty is there err filling =
    filled (IsOpened number group) (NoSite number group) (Ok site) before after outcome (none_of before empty) (there, is) tt tt filling
opens number group (Err reason) before after outcome empty is there err filling =
    filled (IsOpened number group) (NoSite number group) (Err reason) before after outcome (none_of before empty) tt (bad_site number group reason err) tt filling

pub restores : (number group : ℕ) (journal text : List ℕ) (opened : Result Embedding EmbedFault) (before after : Option KeptSite) (outcome : CallOutcome)
    → is_some before ≡ false
    → IfOk opened (λ site. site.core ≡ core_restored number group journal text) → IfOk opened (λ site. site.answer ≡ restored_text number group journal text)
    → IfOk opened (λ site. site.watched ≡ None) → OnOk opened (is_open number group ≡ true)
    → IfErr opened (λ e. e ≢ fault.Memory → (e ≡ fault.Delta delta.BadSite) × (is_open number group ≡ false))
    → IsFilledWith opened before outcome after → Restores number group journal text before outcome after
restores number group journal text (Ok site) before after outcome empty core answer watched there err filling =
    filled (IsRestored number group journal text) (NoSite number group) (Ok site) before after outcome (none_of before empty)
    (there, λ i. record { core = core i; answer = answer i; watched = watched i }) tt tt filling
restores number group journal text (Err reason) before after outcome empty core answer watched there err filling =
    filled (IsRestored number group journal text) (NoSite number group) (Err reason) before after outcome (none_of before empty)
    tt (bad_or_memory number group reason err) tt filling
