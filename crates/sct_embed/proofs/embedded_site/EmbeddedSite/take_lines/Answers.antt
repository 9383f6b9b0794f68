-- The messages of the lines are taken; the view shows what it showed.
use Rattle.std.proofs.Common.{◌≡◌, ◌∙◌, ap, arith, sym, subst, ◌-◌, length, take}
use Rattle.std.proofs.lemmas.List.{length-map}
use Rattle.std.specs.Arc.{arc_value}
use Rattle.sct_message.specs.Sets.{messages_in}
use Rattle.sct_lines.specs.Lines.{messages_read, told_after, told_text_of}
use Rattle.sct_site.specs.Cores.{Core}
use Rattle.sct_embed.specs.Embeddings.{Embedding}
use Rattle.sct_embed.specs.Showing.{IsShowing}
use Rattle.sct_exchange.specs.Journals.{core_taking}
use Rattle.sct_embed.specs.Taking.{AreTaken}
use Rattle.sct_embed.specs.declared.taking.TakenLines.{TakenLines}
use Rattle.sct_embed.proofs.ShownLemmas.{showing_after_takes}
use Rattle.sct_embed.proofs.TakingLemmas.{grown_to}
use Rattle.sct_embed.proofs.embedded_site.EmbeddedSite.take_lines.Goals as goal

pub invariant_of-self : goal.invariant_of-self
invariant_of-self c =
    let s = c.self.inside in
    subst (λ (core : Core). IsShowing s.showing core.arrivals) (sym c.in_err-take_all.ensures.partly.left)
    (showing_after_takes s.showing s.core (take c.in_err-take_all.ensures.partly.count (messages_in c.deref.result.now)) c.self.invariant)

pub overflow_sub-fresh : goal.overflow_sub-fresh
overflow_sub-fresh c =
    (grown_to c.self.inside.core c.take_all.new.core (messages_in c.deref.result.now) _ _ c.arrivals-before.ensures.arrivals c.arrivals.ensures.arrivals c.in_ok-take_all.ensures.ok).least

pub overflow_sub-repeats : goal.overflow_sub-repeats
overflow_sub-repeats c =
    let grows = grown_to c.self.inside.core c.take_all.new.core (messages_in c.deref.result.now) _ _ c.arrivals-before.ensures.arrivals c.arrivals.ensures.arrivals c.in_ok-take_all.ensures.ok in
    let as_many : length (messages_in c.deref.result.now) ≡ c.len.result =
    length-map c.deref.result.now arc_value ∙ c.deref.ensures.len ∙ sym c.len.ensures in
    omega (arith, grows.least, grows.most, as_many)

pub invariant_of-self-2 : goal.invariant_of-self-2
invariant_of-self-2 c =
    let s = c.self.inside in
    subst (λ (core : Core). IsShowing s.showing core.arrivals) (sym c.in_ok-take_all.ensures.ok)
    (showing_after_takes s.showing s.core (messages_in c.deref.result.now) c.self.invariant)

pub returns-clause-taken : goal.returns-clause-taken
returns-clause-taken c =
    let core = c.self.inside.core in
    let after = c.take_all.new.core in
    let grows = grown_to core after (messages_in c.deref.result.now) _ _ c.arrivals-before.ensures.arrivals c.arrivals.ensures.arrivals c.in_ok-take_all.ensures.ok in
    let read : messages_in c.deref.result.now ≡ messages_read c.args.text.now = ap messages_in c.deref.ensures.value ∙ c.in_ok-intake.ensures.messages in
    let as_many : c.len.result ≡ length (messages_in c.deref.result.now) =
    c.len.ensures ∙ sym c.deref.ensures.len ∙ sym (length-map c.deref.result.now arc_value) in
    let first : length c.arrivals-before.result.now ≡ length core.arrivals = ap length c.arrivals-before.ensures.arrivals in
    let last : length c.arrivals.result.now ≡ length after.arrivals = ap length c.arrivals.ensures.arrivals in
    let sealed : length c.seal.new.self.core.arrivals ≡ length after.arrivals = ap (λ (e : Embedding). length e.core.arrivals) c.seal.ensures in
    let count : length (messages_in c.deref.result.now) ≡ length (messages_read c.args.text.now) = ap length read in
    let fresh = length c.arrivals.result.now - length c.arrivals-before.result.now in
    let taken : TakenLines = record { fresh = fresh; repeats = c.len.result - fresh; refused = c.into_parts-refused_text.result.1 } in
    subst (λ (before : Core). AreTaken before c.args.text.now taken c.seal.new.self.core) (ap (λ (e : Embedding). e.core) c.self.view_is)
    (record {
      left = ap (λ (e : Embedding). e.core) c.seal.ensures ∙ c.in_ok-take_all.ensures.ok ∙ ap (core_taking core) read;
      fresh = omega (arith, grows.least, first, last, sealed);
      repeats = omega (arith, grows.least, grows.most, as_many, count);
      refused = c.into_parts-refused_text.ensures.count ∙ c.in_ok-intake.ensures.refused;
    })

pub returns-clause-told : goal.returns-clause-told
unfolding told_text_of told_after
returns-clause-told c = ap (λ (e : Embedding). e.answer) c.seal.ensures ∙ ap (λ v. v.items) c.into_bytes.ensures.value ∙ c.into_parts-refused_text.ensures.text ∙ c.in_ok-intake.ensures.told
