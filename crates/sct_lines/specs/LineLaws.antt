-- What holds of the lines of every text. Read by an auditor.
use Rattle.std.specs.Prelude.{ℕ, ◌≡◌, ◌≢◌, List, [], ◌∷◌, ◌++◌, ◌==◌, if◌then◌else◌, All}
use Rattle.std.specs.List.{flat_map}
use Rattle.sct_lines.specs.Lines.{lines_of, messages_read}

-- the text with a line feed at its end, unless it is empty or has one there
abbrev pub with_last_feed : List ℕ → List ℕ
with_last_feed [] = []
with_last_feed (byte ∷ []) = if byte == 10 then 10 ∷ [] else byte ∷ 10 ∷ []
with_last_feed (byte ∷ next ∷ bytes) = byte ∷ with_last_feed (next ∷ bytes)

-- the lines, each with a line feed after it, are the text with a line feed at its end
abbrev pub LinesMakeTheText : Type 0
LinesMakeTheText = (text : List ℕ) → flat_map (λ line. line ++ 10 ∷ []) (lines_of text) ≡ with_last_feed text

-- no line has a line feed in it
abbrev pub NoLineHasAFeed : Type 0
NoLineHasAFeed = (text : List ℕ) → All (λ line. All (λ byte. byte ≢ 10) line) (lines_of text)

-- the text is empty or ends with a line feed
abbrev pub IsOfWholeLines : List ℕ → Type 0
IsOfWholeLines text = with_last_feed text ≡ text

-- More text after a text of whole lines leaves its lines as they are, and brings lines of its own.
abbrev pub WholeLinesStay : Type 0
WholeLinesStay = (text more : List ℕ) → IsOfWholeLines text → lines_of (text ++ more) ≡ lines_of text ++ lines_of more

-- It leaves the messages that are read as they are, and brings messages of its own.
abbrev pub MessagesStay : Type 0
MessagesStay =
    (text more : List ℕ) → IsOfWholeLines text → messages_read (text ++ more) ≡ messages_read text ++ messages_read more

-- A text of whole lines after another makes a text of whole lines.
abbrev pub WholeLinesJoin : Type 0
WholeLinesJoin = (text more : List ℕ) → IsOfWholeLines text → IsOfWholeLines more → IsOfWholeLines (text ++ more)
