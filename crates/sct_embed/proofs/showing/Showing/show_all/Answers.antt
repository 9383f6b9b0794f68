-- The view shows the first arrivals, and is joined with the messages of the others.
use Rattle.std.proofs.Common.{◌≡◌, ◌∙◌, ap, sym, subst, List, take, drop}
use Rattle.std.specs.FinSet as set
use Rattle.std.proofs.lemmas.List.{take-append-drop, take_rest}
use Rattle.sct_message.specs.Sets.{MessageSet, messages_in}
use Rattle.sct_set.specs.Contents.{contents_of}
use Rattle.sct_delta.specs.Entries.{Placed, messages_of}
use Rattle.sct_site.proofs.AcceptLemmas.{messages-append}
use Rattle.sct_embed.specs.Showing.{IsLater}
use Rattle.sct_embed.proofs.ShownLemmas.{all_shown}
use Rattle.sct_embed.proofs.WatchLemmas.{watched_more}
use Rattle.sct_embed.proofs.showing.Showing.show_all.Goals as goal

pub returns-clause-view : goal.returns-clause-view
returns-clause-view c =
    let es = c.args.arrivals.now in let k = c.args.self.now.count in
    c.in_ok-apply.ensures.ok
    ∙ (λ i. set.union (c.requires.shown.held i) (contents_of ((ap messages_in c.deref-2.ensures.value ∙ c.in_ok-messages.ensures) i)))
    ∙ ap (λ (ds : List Placed). set.union (messages_of (take k es)) (messages_of ds)) (take_rest es k)
    ∙ sym (messages-append (take k es) (drop k es))
    ∙ ap messages_of (take-append-drop k es)

pub returns-clause-shown : goal.returns-clause-shown
returns-clause-shown c =
    let es = c.args.arrivals.now in let k = c.args.self.now.count in let was = c.args.self.now.watch in
    let later = c.in_ok-watch.watch in
    let batch : contents_of (messages_in c.deref.result.now) ≡ messages_of (drop k es) =
    ap contents_of (ap messages_in c.deref.ensures.value ∙ c.in_ok-messages.ensures) ∙ ap messages_of (take_rest es k) in
    record {
      shown = all_shown es c.apply.new.view (returns-clause-view c);
      watched = watched_more was later k es c.requires.shown.within c.requires.watched
          (subst (λ (held : MessageSet). IsLater was held (messages_of (drop k es)) later) c.requires.shown.held
          (subst (λ (b : MessageSet). IsLater was c.args.self.now.view b later) batch c.in_ok-watch.ensures));
      digests = c.requires.digests;
      shelf = c.requires.shelf;
      blocks = c.requires.blocks;
    }
