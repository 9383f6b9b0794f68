-- The words that a command does not take: the argument that a word is for, and the line that says so. Read by an auditor.
use Rattle.std.specs.Prelude.{ℕ, ◌++◌, ◌∷◌, List, [], Option, Some, None, codes, option_and_then, option_map, slice_get}
use Rattle.std.specs.Option.{option_or}
use Rattle.clap.specs.Words.{Row, Text, all_of, first_of}
use Rattle.sct_element.specs.Bank.{written_bic}
use Rattle.sct_element.specs.Date.{written_day}
use Rattle.sct_commands.specs.Places.{counts_in, group_in, place_ordered}
use Rattle.sct_commands.specs.declared.mistakes.Argument.{Argument}
use Rattle.sct_commands.specs.declared.mistakes.Argument.TheVariants.{Bank, Day, Sites, Site, Have, File}

-- ---- the line

-- the name of an argument in the usage of its command
abbrev pub argument_name : Argument → Text
argument_name Bank = codes "BANK"
argument_name Day = codes "DAY"
argument_name Sites = codes "SITES"
argument_name Site = codes "SITE"
argument_name Have = codes "HAVE"
argument_name File = codes "FILE"

-- what a word for the argument has to be
abbrev pub expected_word : Argument → Text
expected_word Bank = codes "a BIC of 8 or 11 characters, in capital letters"
expected_word Day = codes "a day, written as 2024-05-02"
expected_word Sites = codes "a number from 1 to 1024"
expected_word Site = codes "a number from 1 to SITES"
expected_word Have = codes "a version vector, as 1:3,2:5, or - for a site without entries"
expected_word File = codes "at most 16 files"

-- a word that is not valid for its argument
abbrev pub Wrong : Type 0
Wrong = Argument × Text

-- the line that says which word is wrong for which argument, and what is expected
abbrev pub mistake_text : Text → Text → Text → List ℕ
mistake_text word name expected =
    codes "error: invalid value '" ++ word ++ codes "' for '<" ++ name ++ codes ">': expected " ++ expected ++ 10 ∷ []

abbrev pub mistake_line : Wrong → List ℕ
mistake_line wrong = mistake_text wrong.1 (argument_name wrong.0) (expected_word wrong.0)

-- ---- the word

-- the word, if nothing is read from it
abbrev pub unless_read : {X : Type 0} → Option X → Text → Option Text
unless_read (Some value) word = None
unless_read None word = Some word

-- the word for an argument, if nothing is read from it
abbrev pub unread_word : {X : Type 0} → (Text → Option X) → Text → List Row → Option Text
unread_word read name given = option_and_then (λ word. unless_read (read word) word) (first_of name given)

abbrev pub wrong_bank : List Row → Option Text
wrong_bank given = unread_word written_bic (codes "BANK") given

abbrev pub wrong_day : List Row → Option Text
wrong_day given = unread_word written_day (codes "DAY") given

-- no group has so many sites
abbrev pub wrong_sites : List Row → Option Text
wrong_sites given = unread_word group_in (codes "SITES") given

-- the group has no such site
abbrev pub wrong_site : List Row → Option Text
wrong_site given = unread_word (λ word. place_ordered given) (codes "SITE") given

abbrev pub wrong_have : List Row → Option Text
wrong_have given = unread_word counts_in (codes "HAVE") given

-- the seventeenth file
abbrev pub wrong_file : List Row → Option Text
wrong_file given = option_and_then (λ files. slice_get files 16) (all_of (codes "FILE") given)

-- the word for an argument, if one is wrong
abbrev pub for_argument : Argument → Option Text → Option Wrong
for_argument argument word = option_map (λ w. (argument, w)) word

-- the first wrong word of a bank and a day
abbrev pub wrong_of_day : List Row → Option Wrong
wrong_of_day given = option_or (for_argument Bank (wrong_bank given)) (for_argument Day (wrong_day given))

-- the first wrong word of a place: the number of sites before the number of the site, which is compared with it
abbrev pub wrong_of_place : List Row → Option Wrong
wrong_of_place given = option_or (for_argument Sites (wrong_sites given)) (for_argument Site (wrong_site given))

-- the first wrong word of the arguments of a command
abbrev pub wrong_word : List Row → Option Wrong
wrong_word given =
    option_or (option_or (option_or (wrong_of_day given) (wrong_of_place given)) (for_argument Have (wrong_have given))) (for_argument File (wrong_file given))
