-- A view that shows the first arrivals of a site, the transfers that changed since its changes were asked for, digests, what is filed,
-- and the first arrivals in blocks. Serves proofs.
use Rattle.std.specs.Prelude.{◌≡◌, ◌≤◌, ◌++◌, ℕ, List, [], Option, Some, None, length, take, option_map, flat_map, ⊤}
use mathlib.Core.List.{IsPrefix}
use Rattle.sct_message.specs.Ascending.{ascending}
use Rattle.sct_message.specs.Order.{transfer_order}
use Rattle.sct_message.specs.Sets.{MessageSet}
use Rattle.sct_message.specs.declared.keys.TransferKey.{TransferKey}
use Rattle.sct_delta.specs.Entries.{Placed, messages_of}
use Rattle.sct_view.specs.Touched.{touched_in}
use Rattle.sct_digest.specs.Keeping.{AreKept}
use Rattle.sct_embed.specs.Shelves.{IsShelf}
use Rattle.sct_embed.specs.Questions.{transfer_line}
use Rattle.sct_embed.specs.declared.changes.Watch.{Watch}
use Rattle.sct_embed.specs.declared.showing.Showing.{Showing}

-- how many arrivals there were when changes were asked for last
abbrev pub watched_by : Option Watch → Option ℕ
watched_by watch = option_map (λ w. w.asked) watch

-- the view shows the first arrivals
pub record IsShown (count : ℕ) (arrivals : List Placed) (view : MessageSet) : Type 0 where
  pub within : count ≤ length arrivals
  pub held : view ≡ messages_of (take count arrivals)

-- the transfers are those that changed from the first arrivals that were there then, to those shown
pub record AreChanged (asked count : ℕ) (arrivals : List Placed) (changed : List TransferKey) : Type 0 where
  pub within : asked ≤ count
  pub since : changed ≡ touched_in (messages_of (take asked arrivals)) (messages_of (take count arrivals))

abbrev pub IsWatched : Option Watch → ℕ → List Placed → Type 0
IsWatched None count arrivals = ⊤
IsWatched (Some watch) count arrivals = AreChanged watch.asked count arrivals watch.changed.items

pub record IsShowing (showing : Showing) (arrivals : List Placed) : Type 0 where
  pub shown : IsShown showing.count arrivals showing.view
  pub watched : IsWatched showing.watch showing.count arrivals
  pub digests : AreKept showing.digests arrivals
  pub shelf : IsShelf showing.shelf arrivals
  pub blocks : IsPrefix showing.blocks arrivals

-- The watch after a view that shows `held` is joined with a batch. Before changes were asked for, nothing is kept.
abbrev pub IsLater : Option Watch → MessageSet → MessageSet → Option Watch → Type 0
IsLater None held batch later = later ≡ None
IsLater (Some watch) held batch None = ⊥
IsLater (Some watch) held batch (Some later) =
    (later.asked ≡ watch.asked)
    × (later.changed.items ≡ ascending transfer_order (watch.changed.items ++ touched_in held batch))

-- the text of what changed
abbrev pub text_of_changes : Option Watch → List ℕ
text_of_changes None = []
text_of_changes (Some watch) = flat_map transfer_line watch.changed.items
