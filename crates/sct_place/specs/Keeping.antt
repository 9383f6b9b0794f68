-- What a place keeps, as a caller sees it: a site, or a snapshot of one. Read by an auditor.
use Rattle.std.specs.Prelude.{◌≡◌, [], Bool, true, false, None, ⊤}
use Rattle.sct_embed.specs.Embeddings.{Embedding}
use Rattle.sct_place.specs.declared.kept.Content.{Content}
use Rattle.sct_place.specs.declared.kept.Content.TheVariants.{Own, Ahead, Followed}

-- what it answers as: a site itself, or the site that a snapshot is of, as it was then
abbrev pub seen : Content → Embedding
seen (Own site) = site
seen (Ahead snapshot) = record { core = snapshot; answer = []; watched = None }
seen (Followed site) = site

-- it is a snapshot
abbrev pub is_snapshot : Content → Bool
is_snapshot (Own site) = false
is_snapshot (Ahead snapshot) = true
is_snapshot (Followed site) = true

-- a snapshot has taken in all that it has
abbrev pub IsReady : Content → Type 0
IsReady (Ahead snapshot) = ⊥
IsReady other = ⊤

-- It answers as before, and is a snapshot if it was one.
pub record IsSeenAlike (before later : Content) : Type 0 where
  pub site : seen later ≡ seen before
  pub kind : is_snapshot later ≡ is_snapshot before
