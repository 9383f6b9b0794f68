-- That the archive text is an input which gives the set back. Proof plumbing.
use Rattle.std.proofs.Common.{ℕ, ◌≡◌, ◌+◌, suc, ◌++◌, ◌∷◌, [], List, true, false, cond, not, ◌==◌, ◌&&◌, refl, ap, ◌∙◌, append_assoc, arith}
use Rattle.std.specs.List.{Contains, flat_map}
use Rattle.sct_message.specs.declared.draft.Draft.{Draft}
use Rattle.sct_json.specs.Writing.{written_text, has_no_line_feed}
use Rattle.sct_json.proofs.Texts.{text_is_one_line}
use Rattle.sct_set.specs.Archive.{in_text_order, line_of, IsReadAgain}
use Rattle.sct_set.specs.Contents.{contents_of}
use Rattle.sct_set.proofs.TextLemmas.{archive_text-lines, contents-in_text_order, Contains-in_text_order}
use Rattle.sct_lines.specs.Lines.{is_blank, lines_of, onto_first, numbered_from, messages_among, refusals_among}
use Rattle.sct_commands.specs.Again.{ArchiveGivesBack}
use Rattle.sct_lines.proofs.LineLemmas.{lines_of_none, numbered_none, messages_of_none, refusals_of_none, numbered-cons, written_line, messages_by_line, refusals_by_line, message_line, no_refusal, visible}

-- the first line of a text that begins with bytes none of which is a line feed, and a line feed
line_first : (line rest : List ℕ) → has_no_line_feed line ≡ true → lines_of (line ++ 10 ∷ rest) ≡ line ∷ lines_of rest
unfolding lines_of
line_first [] rest parted = refl
line_first (byte ∷ bytes) rest parted =
    (elim (byte == 10) as (λ feed. (byte == 10) ≡ feed → (not feed && has_no_line_feed bytes) ≡ true → cond feed ([] ∷ lines_of (bytes ++ 10 ∷ rest)) (onto_first byte (lines_of (bytes ++ 10 ∷ rest))) ≡ (byte ∷ bytes) ∷ lines_of rest) [
      | true ↦ λ is all. cc
      | false ↦ λ is all. rw (line_first bytes rest all) refl
    ]) refl parted

-- each message of a list is what its written text is read as
abbrev AllReadAgain : List Draft → Type 0
AllReadAgain [] = Unit {0}
AllReadAgain (draft ∷ drafts) = IsReadAgain draft × AllReadAgain drafts

all_read_again : (drafts : List Draft) → ((draft : Draft) → Contains drafts draft → IsReadAgain draft) → AllReadAgain drafts
all_read_again [] again = tt
all_read_again (first ∷ drafts) again =
    (again first (0, omega arith, refl), all_read_again drafts (λ draft held. again draft (suc held.0, omega (arith, held.1), held.2)))

-- the lines of the written texts, each with a line feed after it, count from a number on
abbrev lines_from : ℕ → List Draft → List (ℕ × List ℕ)
lines_from number drafts = numbered_from number (lines_of (flat_map line_of drafts))

lines-cons : (number : ℕ) (draft : Draft) (drafts : List Draft) → lines_from number (draft ∷ drafts) ≡ (number, written_text draft) ∷ [] ++ lines_from (number + 1) drafts
lines-cons number draft drafts =
    let text : lines_of (flat_map line_of (draft ∷ drafts)) ≡ written_text draft ∷ lines_of (flat_map line_of drafts) =
    ap lines_of (append_assoc (written_text draft) (10 ∷ []) (flat_map line_of drafts)) ∙ line_first (written_text draft) (flat_map line_of drafts) (text_is_one_line draft) in
    ap (numbered_from number) text ∙ numbered-cons number (written_text draft) (lines_of (flat_map line_of drafts))
    ∙ ap (λ l. l ++ lines_from (number + 1) drafts) (written_line number (written_text draft) (visible draft))

messages_again : (number : ℕ) (drafts : List Draft) → AllReadAgain drafts → messages_among (lines_from number drafts) ≡ drafts
messages_again number [] all = rw (lines_of_none, numbered_none, messages_of_none) refl
messages_again number (draft ∷ drafts) all =
    ap messages_among (lines-cons number draft drafts) ∙ messages_by_line.append ((number, written_text draft) ∷ []) (lines_from (number + 1) drafts)
    ∙ rw (message_line number (written_text draft) draft all.0, messages_again (number + 1) drafts all.1) refl

refusals_again : (number : ℕ) (drafts : List Draft) → AllReadAgain drafts → refusals_among (lines_from number drafts) ≡ []
refusals_again number [] all = rw (lines_of_none, numbered_none, refusals_of_none) refl
refusals_again number (draft ∷ drafts) all =
    ap refusals_among (lines-cons number draft drafts) ∙ refusals_by_line.append ((number, written_text draft) ∷ []) (lines_from (number + 1) drafts)
    ∙ rw (no_refusal number (written_text draft) draft all.0, refusals_again (number + 1) drafts all.1) refl

pub archive_gives_back : ArchiveGivesBack
archive_gives_back contents again =
    let all = all_read_again (in_text_order contents) (λ draft held. again draft ((Contains-in_text_order contents draft).0 held)) in
    record {
      taken = ap (λ text. refusals_among (numbered_from 1 (lines_of text))) (archive_text-lines contents) ∙ refusals_again 1 (in_text_order contents) all;
      same = ap (λ text. contents_of (messages_among (numbered_from 1 (lines_of text)))) (archive_text-lines contents)
          ∙ ap contents_of (messages_again 1 (in_text_order contents) all) ∙ contents-in_text_order contents;
    }
