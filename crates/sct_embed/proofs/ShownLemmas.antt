-- A view that shows the first arrivals shows them whatever comes after them, and what changed up to then stays, as do digests.
use Rattle.std.proofs.Common.{◌≡◌, ◌∙◌, refl, ap, sym, subst, ℕ, ◌≤◌, List, [], ◌∷◌, ◌++◌, Bool, true, false, Option, Some, None, length, arith}
use Rattle.std.proofs.lemmas.List.{length-append, take-append-le, take_all}
use Rattle.sct_message.specs.declared.draft.Draft.{Draft}
use Rattle.sct_message.specs.Sets.{MessageSet}
use Rattle.sct_delta.specs.Entries.{Placed, messages_of}
use Rattle.sct_site.specs.Cores.{Core, arrivals_taken, core_taken, is_repeat, own_entry}
use Rattle.sct_site.proofs.Prefixes.{prefix_trans}
use Rattle.sct_site.proofs.TakeLemmas.{arrivals-held, arrivals-new}
use Rattle.sct_view.specs.Touched.{touched_in}
use Rattle.sct_embed.specs.Showing.{IsShowing, IsShown, IsWatched}
use Rattle.sct_embed.specs.declared.changes.Watch.{Watch}
use Rattle.sct_embed.specs.declared.showing.Showing.{Showing}
use Rattle.sct_digest.proofs.KeepingLemmas.{kept_before}
use Rattle.sct_embed.proofs.ShelfLemmas.{shelf_before}
use Rattle.sct_exchange.specs.Journals.{core_taking}

shown_before : (k : ℕ) (es ds : List Placed) (v : MessageSet) → IsShown k es v → IsShown k (es ++ ds) v
shown_before k es ds v was = record {
  within = subst (λ (n : ℕ). k ≤ n) (sym (length-append es ds)) (omega (arith, was.within));
  held = was.held ∙ ap messages_of (sym (take-append-le k es ds was.within));
}

watched_before : (w : Option Watch) (k : ℕ) (es ds : List Placed) → k ≤ length es → IsWatched w k es → IsWatched w k (es ++ ds)
watched_before None k es ds within was = was
watched_before (Some watch) k es ds within was = record {
  within = was.within;
  since = was.since
      ∙ (λ i. touched_in (messages_of (sym (take-append-le watch.asked es ds (omega (arith, was.within, within))) i)) (messages_of (sym (take-append-le k es ds within) i)));
}

pub showing_before : (s : Showing) (es ds : List Placed) → IsShowing s es → IsShowing s (es ++ ds)
showing_before s es ds was = record {
  shown = shown_before s.count es ds s.view was.shown;
  watched = watched_before s.watch s.count es ds was.shown.within was.watched;
  digests = kept_before s.digests es ds was.digests;
  shelf = shelf_before s.shelf es ds was.shelf;
  blocks = prefix_trans s.blocks es (es ++ ds) was.blocks (ds, refl);
}

showing_by : (s : Showing) (core : Core) (m : Draft) (b : Bool) → is_repeat core m ≡ b → IsShowing s core.arrivals → IsShowing s (arrivals_taken core m)
showing_by s core m true e was = subst (λ (es : List Placed). IsShowing s es) (arrivals-held core m e) was
showing_by s core m false e was = subst (λ (es : List Placed). IsShowing s es) (arrivals-new core m e) (showing_before s core.arrivals (own_entry core m ∷ []) was)

-- also after a take
pub showing_after_take : (s : Showing) (core : Core) (m : Draft) → IsShowing s core.arrivals → IsShowing s (arrivals_taken core m)
showing_after_take s core m was = showing_by s core m (is_repeat core m) (λ _. is_repeat core m) was

-- and after many
pub showing_after_takes : (s : Showing) (core : Core) (ms : List Draft) → IsShowing s core.arrivals → IsShowing s (core_taking core ms).arrivals
showing_after_takes s core [] was = was
showing_after_takes s core (m ∷ ms) was = showing_after_takes s (core_taken core m) ms (showing_after_take s core m was)

-- ---- all arrivals

pub all_shown : (es : List Placed) (v : MessageSet) → v ≡ messages_of es → IsShown (length es) es v
all_shown es v is = record {
  within = omega (arith);
  held = is ∙ sym (ap messages_of (take_all (length es) es (omega (arith))));
}
