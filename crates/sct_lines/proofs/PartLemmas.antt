-- A text cut behind a line feed, and what is read of its two parts. Proof plumbing.
use Rattle.std.proofs.Common.{ℕ, ◌≡◌, ◌+◌, ◌-◌, ◌<◌, ◌≤◌, suc, zero, ◌++◌, ◌∷◌, [], List, true, false, cond, ◌==◌, length, take, drop, get_or, filter, not, refl, sym, ap, subst, ◌∙◌, arith, add-one, append_assoc, length-append, length-drop, take-add, eqb-true}
use Rattle.std.specs.List.{filter_map}
use Rattle.std.specs.Result.{result_ok}
use Rattle.std.proofs.lemmas.List.{drop-drop, drop-take, get_or-drop, length-take-le, take-take}
use Rattle.std.proofs.lemmas.List.Elements.{filter-append}
use Rattle.std.proofs.lemmas.List.Sums.{length-filter}
use Rattle.memchr.specs.Find.{is_byte, places}
use Rattle.memchr.proofs.lemmas.CallerLemmas.{length-places}
use Rattle.sct_message.specs.Sets.{messages_in}
use Rattle.sct_lines.specs.declared.intake.PartRead.{PartRead}
use Rattle.sct_json.specs.Reading.{message_in}
use Rattle.sct_lines.specs.LineLaws.{with_last_feed, IsOfWholeLines, MessagesStay, WholeLinesJoin, WholeLinesStay}
use Rattle.sct_lines.specs.Blocks.{IsReadOf}
use Rattle.sct_lines.specs.Lines.{is_blank, lines_of, messages_among, messages_read, numbered_from, onto_first, refusals_among, refusals_told, told_after}
use Rattle.sct_lines.specs.Parts.{refusals_after, IsPartOf, IsReadAfter}
use Rattle.sct_lines.proofs.LineLemmas.{is_feed, messages_by_line, numbered-cons, numbered_none, refusals_by_line, told_by_line, told_plainly}

-- as many places have a line feed as there are line feeds
pub feeds_counted : (text found : List ℕ) → found ≡ places (is_byte 10) text → length found ≡ length (filter is_feed text)
feeds_counted text found is = ap length is ∙ length-places (is_byte 10) text ∙ sym (length-filter is_feed text)

pub few_feeds : (text : List ℕ) → length (filter is_feed text) ≤ length text
few_feeds [] = omega arith
few_feeds (byte ∷ bytes) =
    let few = few_feeds bytes in
    elim (byte == 10) as (λ feed. length (cond feed (byte ∷ filter is_feed bytes) (filter is_feed bytes)) ≤ length (byte ∷ bytes))
    [ true ↦ omega (arith, few) | false ↦ omega (arith, few) ]

onto_few : (byte : ℕ) (lines : List (List ℕ)) → length (onto_first byte lines) ≤ length lines + 1
onto_few byte [] = omega arith
onto_few byte (line ∷ lines) = omega arith

-- a text has no more lines than bytes
pub few_lines : (text : List ℕ) → length (lines_of text) ≤ length text
unfolding lines_of
few_lines [] = omega arith
few_lines (byte ∷ bytes) =
    let few = few_lines bytes in
    elim (byte == 10) as (λ feed. length (cond feed ([] ∷ lines_of bytes) (onto_first byte (lines_of bytes))) ≤ length (byte ∷ bytes))
    [ true ↦ omega (arith, few) | false ↦ omega (arith, few, onto_few byte (lines_of bytes)) ]

-- a text is cut in two behind a line feed
pub record IsCutAt (text front back : List ℕ) : Type 0 where
  pub some : 0 < length front
  pub lines : lines_of text ≡ lines_of front ++ lines_of back
  pub feeds : length (lines_of front) ≡ length (filter is_feed front)

onto-append : (byte : ℕ) (lines more : List (List ℕ)) → 0 < length lines → onto_first byte (lines ++ more) ≡ onto_first byte lines ++ more
onto-append byte [] more some = absurd (omega arith)
onto-append byte (line ∷ lines) more some = refl

onto-length : (byte : ℕ) (lines : List (List ℕ)) → 0 < length lines → length (onto_first byte lines) ≡ length lines
onto-length byte [] some = absurd (omega arith)
onto-length byte (line ∷ lines) some = refl

onto_some : (byte : ℕ) (lines : List (List ℕ)) → 0 < length (onto_first byte lines)
onto_some byte [] = omega arith
onto_some byte (line ∷ lines) = omega arith

lines_of_some : (text : List ℕ) → 0 < length text → 0 < length (lines_of text)
unfolding lines_of
lines_of_some [] some = absurd (omega arith)
lines_of_some (byte ∷ bytes) some =
    elim (byte == 10) as (λ feed. 0 < length (cond feed ([] ∷ lines_of bytes) (onto_first byte (lines_of bytes))))
    [ true ↦ omega arith | false ↦ onto_some byte (lines_of bytes) ]

cut_here : (byte : ℕ) (bytes : List ℕ) → byte ≡ 10 → IsCutAt (byte ∷ bytes) (byte ∷ []) bytes
unfolding lines_of
cut_here byte bytes feed = record {
  some = omega arith;
  lines = rw feed refl;
  feeds = rw feed refl;
}

cut_later : (byte : ℕ) (bytes front back : List ℕ) → 0 < length (lines_of front) → IsCutAt bytes front back → IsCutAt (byte ∷ bytes) (byte ∷ front) back
unfolding lines_of
cut_later byte bytes front back some cut = record {
  some = omega arith;
  lines =
      rw cut.lines
      (elim (byte == 10) as (λ feed. cond feed ([] ∷ (lines_of front ++ lines_of back)) (onto_first byte (lines_of front ++ lines_of back))
      ≡ cond feed ([] ∷ lines_of front) (onto_first byte (lines_of front)) ++ lines_of back) [
        | true ↦ refl
        | false ↦ onto-append byte (lines_of front) (lines_of back) some
      ]);
  feeds =
      elim (byte == 10) as (λ feed. length (cond feed ([] ∷ lines_of front) (onto_first byte (lines_of front)))
      ≡ length (cond feed (byte ∷ filter is_feed front) (filter is_feed front))) [
        | true ↦ ap suc cut.feeds
        | false ↦ onto-length byte (lines_of front) some ∙ cut.feeds
      ];
}

pub cut_at_feed : (text : List ℕ) (at : ℕ) → at < length text → get_or text at 0 ≡ 10 → IsCutAt text (take (at + 1) text) (drop (at + 1) text)
cut_at_feed [] at within feed = absurd (omega arith)
cut_at_feed (byte ∷ bytes) zero within feed = cut_here byte bytes feed
cut_at_feed (byte ∷ bytes) (suc at) within feed =
    let cut : IsCutAt bytes (take (suc at) bytes) (drop (suc at) bytes) = simp add-one at (cut_at_feed bytes at (omega arith) feed) in
    simp add-one (cut_later byte bytes (take (suc at) bytes) (drop (suc at) bytes) (lines_of_some (take (suc at) bytes) cut.some) cut)

-- ---- a text of whole lines, and more

feed_ends : (byte : ℕ) → IsOfWholeLines (byte ∷ []) → byte ≡ 10
feed_ends byte whole =
    elim (byte == 10) as (λ feed. (byte == 10) ≡ feed → cond feed (10 ∷ []) (byte ∷ 10 ∷ []) ≡ byte ∷ [] → byte ≡ 10) [
      | true ↦ λ feed e. eqb-true byte 10 feed
      | false ↦ λ other e. cc
    ] refl whole

whole_cut : (text more : List ℕ) → 0 < length text → IsOfWholeLines text → IsCutAt (text ++ more) text more
whole_cut [] more some whole = absurd (omega arith)
whole_cut (byte ∷ []) more some whole = cut_here byte more (feed_ends byte whole)
whole_cut (byte ∷ next ∷ bytes) more some whole =
    let rest : IsOfWholeLines (next ∷ bytes) = cc in
    cut_later byte (next ∷ bytes ++ more) (next ∷ bytes) more (lines_of_some (next ∷ bytes) (omega arith))
    (whole_cut (next ∷ bytes) more (omega arith) rest)

pub lines_stay : WholeLinesStay
unfolding lines_of
lines_stay [] more whole = refl
lines_stay (byte ∷ bytes) more whole = (whole_cut (byte ∷ bytes) more (omega arith) whole).lines

pub lines_join : WholeLinesJoin
lines_join [] more whole then = then
lines_join (byte ∷ []) [] whole then = whole
lines_join (byte ∷ []) (next ∷ more) whole then = ap (λ t. byte ∷ t) then
lines_join (byte ∷ next ∷ bytes) more whole then =
    let rest : IsOfWholeLines (next ∷ bytes) = cc in
    ap (λ t. byte ∷ t) (lines_join (next ∷ bytes) more rest then)

-- a text up to a line feed, with it
pub whole_to_feed : (text : List ℕ) (at : ℕ) → at < length text → get_or text at 0 ≡ 10 → IsOfWholeLines (take (at + 1) text)
whole_to_feed [] at within feed = absurd (omega arith)
whole_to_feed (byte ∷ bytes) zero within feed = rw feed refl
whole_to_feed (byte ∷ []) (suc at) within feed = absurd (omega arith)
whole_to_feed (byte ∷ next ∷ bytes) (suc at) within feed =
    simp add-one (ap (λ t. byte ∷ t) (simp add-one at (whole_to_feed (next ∷ bytes) at (omega arith) feed)))

-- ---- what is read of both parts

pub numbered-append : (first : ℕ) (some more : List (List ℕ)) → numbered_from first (some ++ more) ≡ numbered_from first some ++ numbered_from (first + length some) more
numbered-append first [] more =
    let same : first + 0 ≡ first = omega arith in
    rw (numbered_none, same) refl
numbered-append first (line ∷ lines) more =
    let next : first + 1 + length lines ≡ first + length (line ∷ lines) = omega arith in
    numbered-cons first line (lines ++ more)
    ∙ ap (λ l. numbered_from first (line ∷ []) ++ l) (numbered-append (first + 1) lines more)
    ∙ sym (append_assoc (numbered_from first (line ∷ [])) (numbered_from (first + 1) lines) (numbered_from (first + 1 + length lines) more))
    ∙ ap (λ l. l ++ numbered_from (first + 1 + length lines) more) (sym (numbered-cons first line lines))
    ∙ ap (λ n. numbered_from first (line ∷ lines) ++ numbered_from n more) next

pub read_in_two : (shown : List ℕ) (before : ℕ) (text front back : List ℕ) (first second both : PartRead) → lines_of text ≡ lines_of front ++ lines_of back
    → IsReadAfter shown before front first → IsReadAfter shown (before + length (lines_of front)) back second
    → messages_in both.intake.messages.items ≡ messages_in first.intake.messages.items ++ messages_in second.intake.messages.items
    → both.intake.refusals.text ≡ first.intake.refusals.text ++ second.intake.refusals.text
    → both.intake.refusals.count ≡ first.intake.refusals.count + second.intake.refusals.count
    → both.lines ≡ first.lines + second.lines
    → IsReadAfter shown before text both
read_in_two shown before text front back first second both lines one two messages told refused count =
    let some = numbered_from (before + 1) (lines_of front) in
    let more = numbered_from (before + length (lines_of front) + 1) (lines_of back) in
    let next : before + length (lines_of front) + 1 ≡ before + 1 + length (lines_of front) = omega arith in
    let numbered : numbered_from (before + 1) (lines_of text) ≡ some ++ more = rw (lines, next) (numbered-append (before + 1) (lines_of front) (lines_of back)) in
    let refusals : length (refusals_after before text) ≡ length (refusals_among some) + length (refusals_among more) =
    rw (numbered, refusals_by_line.append some more) (length-append (refusals_among some) (refusals_among more)) in
    record {
      messages = messages ∙ rw (one.messages, two.messages, numbered) (sym (messages_by_line.append some more));
      told = told ∙ rw (one.told, two.told, numbered) (sym ((told_by_line shown).append some more));
      refused = omega (arith, refused, one.refused, two.refused, refusals);
      lines = omega (arith, count, one.lines, two.lines, ap length lines, length-append (lines_of front) (lines_of back));
    }

-- ---- a part of a text

feeds_in_two : (text : List ℕ) (from more : ℕ) → length (filter is_feed (take (from + more) text)) ≡ length (filter is_feed (take from text)) + length (filter is_feed (take more (drop from text)))
feeds_in_two text from more =
    ap (λ ts. length (filter is_feed ts)) (take-add from more text)
    ∙ ap length (filter-append is_feed (take from text) (take more (drop from text)))
    ∙ length-append (filter is_feed (take from text)) (filter is_feed (take more (drop from text)))

-- the part of a text that begins at a place is read in two, cut behind a line feed
pub halves_read : (shown : List ℕ) (counted : ℕ) (text : List ℕ) (from more : ℕ) (first second both : PartRead) → from + more < length text → get_or text (from + more) 0 ≡ 10
    → IsPartOf shown counted (take (from + more + 1) text) from first → IsPartOf shown counted text (from + more + 1) second → messages_in both.intake.messages.items ≡ messages_in first.intake.messages.items ++ messages_in second.intake.messages.items
    → both.intake.refusals.text ≡ first.intake.refusals.text ++ second.intake.refusals.text
    → both.intake.refusals.count ≡ first.intake.refusals.count + second.intake.refusals.count
    → both.lines ≡ first.lines + second.lines
    → IsPartOf shown counted text from both
halves_read shown counted text from more first second both within feed one two messages told refused count =
    let part = drop from text in
    let size : length part ≡ length text - from = length-drop from text in
    let cut : IsCutAt part (take (more + 1) part) (drop (more + 1) part) =
    cut_at_feed part more (omega (arith, size, within)) (get_or-drop from text more 0 ∙ feed) in
    let end : from + more + 1 ≡ from + (more + 1) = omega arith in
    let head : take from (take (from + more + 1) text) ≡ take from text = take-take from (from + more + 1) text (omega arith) in
    let front : drop from (take (from + more + 1) text) ≡ take (more + 1) part = ap (λ n. drop from (take n text)) end ∙ drop-take from (more + 1) text in
    let back : drop (from + more + 1) text ≡ drop (more + 1) part = ap (λ n. drop n text) end ∙ sym (drop-drop (more + 1) from text) in
    let feeds : counted + length (filter is_feed (take (from + more + 1) text))
    ≡ counted + length (filter is_feed (take from text)) + length (lines_of (take (more + 1) part)) =
    let counts = ap (λ n. length (filter is_feed (take n text))) end ∙ feeds_in_two text from (more + 1) in omega (arith, counts, cut.feeds) in
    read_in_two shown (counted + length (filter is_feed (take from text))) part (take (more + 1) part) (drop (more + 1) part) first second both cut.lines
    (subst (λ f. IsReadAfter shown (counted + length (filter is_feed (take from text))) f first) front
    (subst (λ h. IsReadAfter shown (counted + length (filter is_feed h)) (drop from (take (from + more + 1) text)) first) head one))
    (subst (λ b. IsReadAfter shown (counted + length (filter is_feed (take from text)) + length (lines_of (take (more + 1) part))) b second) back
    (subst (λ n. IsReadAfter shown n (drop (from + more + 1) text) second) feeds two))
    messages told refused count

pub halves_read_at : (shown : List ℕ) (counted : ℕ) (text : List ℕ) (from at : ℕ) (first second both : PartRead) → from ≤ at → at < length text → get_or text at 0 ≡ 10
    → IsPartOf shown counted (take (at + 1) text) from first → IsPartOf shown counted text (at + 1) second → messages_in both.intake.messages.items ≡ messages_in first.intake.messages.items ++ messages_in second.intake.messages.items
    → both.intake.refusals.text ≡ first.intake.refusals.text ++ second.intake.refusals.text
    → both.intake.refusals.count ≡ first.intake.refusals.count + second.intake.refusals.count
    → both.lines ≡ first.lines + second.lines
    → IsPartOf shown counted text from both
halves_read_at shown counted text from at first second both behind within feed one two messages told refused count =
    let more : ℕ = at - from in
    let same : from + more ≡ at = omega (arith, behind) in
    subst (λ n. n < length text → get_or text n 0 ≡ 10 → IsPartOf shown counted (take (n + 1) text) from first → IsPartOf shown counted text (n + 1) second
    → IsPartOf shown counted text from both) same
    (λ w f o t. halves_read shown counted text from more first second both w f o t messages told refused count) within feed one two

-- the lines of both parts are no more than the bytes of the text
pub halves_few : (shown : List ℕ) (counted : ℕ) (text : List ℕ) (from at : ℕ) (first second : PartRead) → from ≤ at → at < length text
    → counted + length text < 18446744073709551616
    → IsPartOf shown counted (take (at + 1) text) from first → IsPartOf shown counted text (at + 1) second → first.lines + second.lines < 18446744073709551616
halves_few shown counted text from at first second behind within few one two =
    omega (
      arith,
      few,
      behind,
      within,
      one.lines,
      two.lines,
      few_lines (drop from (take (at + 1) text)),
      few_lines (drop (at + 1) text),
      length-drop from (take (at + 1) text),
      length-drop (at + 1) text,
      length-take-le (at + 1) text (omega (arith, within)),
    )

-- ---- messages do not depend on the numbers of their lines

renumbered_line : (first other : ℕ) (line : List ℕ) → messages_among (numbered_from first (line ∷ [])) ≡ messages_among (numbered_from other (line ∷ []))
unfolding messages_among numbered_from
renumbered_line first other line =
    elim (is_blank line) as (λ blank. filter_map (λ (l : ℕ × List ℕ). result_ok (message_in l.1)) (cond (not blank) ((first, line) ∷ []) [])
    ≡ filter_map (λ (l : ℕ × List ℕ). result_ok (message_in l.1)) (cond (not blank) ((other, line) ∷ []) []))
    [ true ↦ refl | false ↦ refl ]

renumbered : (first other : ℕ) (lines : List (List ℕ)) → messages_among (numbered_from first lines) ≡ messages_among (numbered_from other lines)
renumbered first other [] = ap messages_among (numbered_none first ∙ sym (numbered_none other))
renumbered first other (line ∷ lines) =
    ap messages_among (numbered-cons first line lines)
    ∙ messages_by_line.append (numbered_from first (line ∷ [])) (numbered_from (first + 1) lines)
    ∙ (λ i. renumbered_line first other line i ++ renumbered (first + 1) (other + 1) lines i)
    ∙ sym (messages_by_line.append (numbered_from other (line ∷ [])) (numbered_from (other + 1) lines))
    ∙ ap messages_among (sym (numbered-cons other line lines))

pub messages_stay : MessagesStay
messages_stay text more whole =
    ap (λ ls. messages_among (numbered_from 1 ls)) (lines_stay text more whole)
    ∙ ap messages_among (numbered-append 1 (lines_of text) (lines_of more))
    ∙ messages_by_line.append (numbered_from 1 (lines_of text)) (numbered_from (1 + length (lines_of text)) (lines_of more))
    ∙ ap (λ ms. messages_read text ++ ms) (renumbered (1 + length (lines_of text)) 1 (lines_of more))

-- ---- a block more

ended-cons : (byte : ℕ) (text : List ℕ) → 0 < length text → with_last_feed (byte ∷ text) ≡ byte ∷ with_last_feed text
ended-cons byte [] some = absurd (omega arith)
ended-cons byte (next ∷ bytes) some = refl

ended_some : (next : ℕ) (bytes : List ℕ) → 0 < length (with_last_feed (next ∷ bytes))
ended_some next [] =
    elim (next == 10) as (λ feed. 0 < length (cond feed (10 ∷ []) (next ∷ 10 ∷ [])))
    [ true ↦ omega arith | false ↦ omega arith ]
ended_some next (after ∷ bytes) = omega arith

-- a line feed at the end makes whole lines
pub ended_whole : (text : List ℕ) → IsOfWholeLines (with_last_feed text)
ended_whole [] = refl
ended_whole (byte ∷ []) =
    elim (byte == 10) as (λ feed. with_last_feed (cond feed (10 ∷ []) (byte ∷ 10 ∷ [])) ≡ cond feed (10 ∷ []) (byte ∷ 10 ∷ []))
    [ true ↦ refl | false ↦ refl ]
ended_whole (byte ∷ next ∷ bytes) =
    ended-cons byte (with_last_feed (next ∷ bytes)) (ended_some next bytes) ∙ ap (λ t. byte ∷ t) (ended_whole (next ∷ bytes))

-- and leaves the lines as they are
pub ended_lines : (text : List ℕ) → lines_of (with_last_feed text) ≡ lines_of text
unfolding lines_of
ended_lines [] = refl
ended_lines (byte ∷ []) =
    (elim (byte == 10) as (λ feed. (byte == 10) ≡ feed → lines_of (cond feed (10 ∷ []) (byte ∷ 10 ∷ [])) ≡ cond feed ([] ∷ []) (onto_first byte [])) [
      | true ↦ λ feed. refl
      | false ↦ λ other. rw other refl
    ]) refl
ended_lines (byte ∷ next ∷ bytes) = ap (λ ls. cond (byte == 10) ([] ∷ ls) (onto_first byte ls)) (ended_lines (next ∷ bytes))

-- what is read of a text and of the lines of the block behind it
pub record AreReadBehind (text block : List ℕ) (both : PartRead) : Type 0 where
  pub read : IsReadOf (with_last_feed text ++ block) both.intake
  pub counted : both.lines ≡ length (lines_of (with_last_feed text ++ block))

-- what is read of lines, which count from 1
record IsReadLines (lines : List (List ℕ)) (read : PartRead) : Type 0 where
  messages : messages_in read.intake.messages.items ≡ messages_among (numbered_from 1 lines)
  told : read.intake.refusals.text ≡ told_after [] (refusals_among (numbered_from 1 lines))
  refused : read.intake.refusals.count ≡ length (refusals_among (numbered_from 1 lines))
  lines_are : read.lines ≡ length lines

-- a block is read, behind a text
pub block_read : (text block : List ℕ) (old next both : PartRead) (counted : ℕ) → IsReadOf text old.intake → old.lines ≡ length (lines_of text) → counted ≡ old.lines → IsReadAfter [] counted block next
    → messages_in both.intake.messages.items ≡ messages_in old.intake.messages.items ++ messages_in next.intake.messages.items
    → both.intake.refusals.text ≡ old.intake.refusals.text ++ next.intake.refusals.text
    → both.intake.refusals.count ≡ old.intake.refusals.count + next.intake.refusals.count
    → both.lines ≡ old.lines + next.lines
    → AreReadBehind text block both
block_read text block old next both counted one lines same_count two messages told refused count =
    let front : List ℕ = with_last_feed text in
    let same : lines_of front ≡ lines_of text = ended_lines text in
    let before : counted ≡ 0 + length (lines_of front) = omega (arith, lines, same_count, ap length same) in
    let first : IsReadLines (lines_of front) old =
    subst (λ ls. IsReadLines ls old) (sym same)
    (record { messages = one.messages; told = one.told ∙ sym (told_plainly (refusals_told text)); refused = one.refused; lines_are = lines }) in
    let all : IsReadAfter [] 0 (front ++ block) both =
    read_in_two [] 0 (front ++ block) front block old next both (lines_stay front block (ended_whole text))
    (record { messages = first.messages; told = first.told; refused = first.refused; lines = first.lines_are })
    (subst (λ n. IsReadAfter [] n block next) before two) messages told refused count in
    record {
      read = record { messages = all.messages; told = all.told ∙ told_plainly (refusals_told (front ++ block)); refused = all.refused };
      counted = all.lines;
    }
