-- A site that is made anew from its own journal and a delta text, as the command `site` makes it. Read by an auditor.
use Rattle.std.specs.Prelude.{ℕ, List, [], ◌∷◌, ◌++◌, ◌==◌, if◌then◌else◌, length, codes}
use Rattle.sct_lines.specs.Lines.{refusals_told, told_after}
use Rattle.sct_site.specs.Cores.{Core}
use Rattle.sct_exchange.specs.RefusedFiles.{refused_text}
use Rattle.sct_exchange.specs.Sites.{refused_after, site_after}

-- the delta texts that the site is offered: the one that is given, or none if it is empty
abbrev pub offered : List ℕ → List (List ℕ)
offered text = if length text == 0 then [] else text ∷ []

-- the site that took the messages of its journal, and then was offered the text
abbrev pub core_restored : ℕ → ℕ → List ℕ → List ℕ → Core
core_restored number group journal text = (site_after number group journal (offered text)).core

-- The report: a line for each refused line of the journal, which is file 1, and one for the text, file 2, if it is refused.
abbrev pub restored_text : ℕ → ℕ → List ℕ → List ℕ → List ℕ
restored_text number group journal text =
    told_after (codes "file 1 ") (refusals_told journal) ++ refused_text (refused_after number group journal (offered text))
