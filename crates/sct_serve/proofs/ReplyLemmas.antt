-- Replies to lines, one after another. Proof plumbing.
use Rattle.std.proofs.Common.{◌≡◌, ◌∙◌, refl, ap, sym, ℕ, Bool, true, false, cond, List, [], ◌∷◌, ◌++◌, append_assoc, drop}
use Rattle.std.specs.Prelude.{flat_map, Option, Ok, codes, length}
use Rattle.std.specs.Fmt.{decimal}
use Rattle.sct_streams.specs.Stream.{AppendsIfTold, AppendsPrefixIfTold}
use Rattle.sct_streams.proofs.StreamLemmas.{appends_on, prefix_front, prefix_on}
use Rattle.sct_site.specs.Cores.{Core}
use Rattle.sct_requests.specs.Questions.{answer_asked, watched_after, watched_site_given}
use Rattle.sct_requests.specs.WatchedSites.{WatchedSite}
use Rattle.sct_requests.specs.Grants.{answer_to_request, answers_to_requests, core_after_requests, core_requested}
use Rattle.sct_requests.specs.Steps.{is_question_line}
use Rattle.sct_serve.specs.Replies.{question_reply, replies_to, reply_line, reply_to, watched_site_after}
use Rattle.sct_serve.specs.Serving.{HasNoQuestion}

pub watched_site_join : (xs ys : List (List ℕ)) (s : WatchedSite) → watched_site_after s (xs ++ ys) ≡ watched_site_after (watched_site_after s xs) ys
watched_site_join [] ys s = refl
watched_site_join (x ∷ xs) ys s = watched_site_join xs ys (watched_site_given s x)

pub replies_join : (xs ys : List (List ℕ)) (s : WatchedSite) → replies_to s (xs ++ ys) ≡ replies_to s xs ++ replies_to (watched_site_after s xs) ys
replies_join [] ys s = refl
replies_join (x ∷ xs) ys s =
    ap (λ (l : List ℕ). reply_to s x ++ l) (replies_join xs ys (watched_site_given s x))
    ∙ sym (append_assoc (reply_to s x) (replies_to (watched_site_given s x) xs) (replies_to (watched_site_after (watched_site_given s x) xs) ys))

given_core : (s : WatchedSite) (line : List ℕ) → (watched_site_given s line).core ≡ core_requested s.core line
unfolding watched_site_given
given_core s line = refl

pub watched_site_core : (lines : List (List ℕ)) (s : WatchedSite) → (watched_site_after s lines).core ≡ core_after_requests s.core lines
watched_site_core [] s = refl
watched_site_core (x ∷ xs) s = watched_site_core xs (watched_site_given s x) ∙ ap (λ (c : Core). core_after_requests c xs) (given_core s x)

-- ---- lines that are no questions

abbrev pub with_core : WatchedSite → Core → WatchedSite
with_core s core = record { core = core; watched = s.watched }

quiet_given : (s : WatchedSite) (line : List ℕ) → is_question_line line ≡ false → watched_site_given s line ≡ with_core s (core_requested s.core line)
unfolding watched_site_given
quiet_given s line quiet = ap (λ (b : Bool). record { core = core_requested s.core line; watched = cond b (watched_after s (drop 2 line)) s.watched }) quiet

quiet_reply : (s : WatchedSite) (line : List ℕ) → is_question_line line ≡ false → reply_to s line ≡ reply_line (answer_to_request s.core line)
unfolding reply_to
quiet_reply s line quiet = ap (λ (b : Bool). cond b (question_reply (answer_asked s (drop 2 line))) (reply_line (answer_to_request s.core line))) quiet

pub quiet_site : (lines : List (List ℕ)) (s : WatchedSite) → HasNoQuestion lines → watched_site_after s lines ≡ with_core s (core_after_requests s.core lines)
quiet_site [] s none = refl
quiet_site (x ∷ xs) s none =
    ap (λ (t : WatchedSite). watched_site_after t xs) (quiet_given s x none.0) ∙ quiet_site xs (with_core s (core_requested s.core x)) none.1

pub quiet_replies : (lines : List (List ℕ)) (s : WatchedSite) → HasNoQuestion lines → replies_to s lines ≡ flat_map reply_line (answers_to_requests s.core lines)
quiet_replies [] s none = refl
quiet_replies (x ∷ xs) s none =
    (λ i. quiet_reply s x none.0 i ++ replies_to (quiet_given s x none.0 i) xs)
    ∙ ap (λ (l : List ℕ). reply_line (answer_to_request s.core x) ++ l) (quiet_replies xs (with_core s (core_requested s.core x)) none.1)

-- ---- a question

pub question_reply_is : (s : WatchedSite) (line : List ℕ) → is_question_line line ≡ true → reply_to s line ≡ question_reply (answer_asked s (drop 2 line))
unfolding reply_to
question_reply_is s line told = ap (λ (b : Bool). cond b (question_reply (answer_asked s (drop 2 line))) (reply_line (answer_to_request s.core line))) told

pub question_site : (s : WatchedSite) (line : List ℕ) → is_question_line line ≡ true → watched_site_given s line ≡ record { core = core_requested s.core line; watched = watched_after s (drop 2 line) }
unfolding watched_site_given
question_site s line told = ap (λ (b : Bool). record { core = core_requested s.core line; watched = cond b (watched_after s (drop 2 line)) s.watched }) told

-- ---- a text that is written in three parts

abbrev head_of : List ℕ → List ℕ
head_of text = codes "TEXT " ++ decimal (length text) ++ codes "\n"

module _ (text : List ℕ) (a : Option (List ℕ)) where
  pub text_cut_first : (b : Option (List ℕ)) → AppendsPrefixIfTold a b (codes "TEXT " ++ decimal (length text) ++ codes "\n") → AppendsPrefixIfTold a b (question_reply (Ok text))
  unfolding question_reply
  text_cut_first b part = prefix_front a b (head_of text ++ text) (codes "\n") (prefix_front a b (head_of text) text part)

  pub text_cut_second : (b c : Option (List ℕ)) → AppendsIfTold a b (codes "TEXT " ++ decimal (length text) ++ codes "\n") → AppendsPrefixIfTold b c text → AppendsPrefixIfTold a c (question_reply (Ok text))
  unfolding question_reply
  text_cut_second b c whole part = prefix_front a c (head_of text ++ text) (codes "\n") (prefix_on a b c (head_of text) text whole part)

  pub text_cut_third : (b c d : Option (List ℕ)) → AppendsIfTold a b (codes "TEXT " ++ decimal (length text) ++ codes "\n") → AppendsIfTold b c text → AppendsPrefixIfTold c d (codes "\n") → AppendsPrefixIfTold a d (question_reply (Ok text))
  unfolding question_reply
  text_cut_third b c d whole also part = prefix_on a c d (head_of text ++ text) (codes "\n") (appends_on a b c (head_of text) text whole also) part

  pub text_written : (b c d : Option (List ℕ)) → AppendsIfTold a b (codes "TEXT " ++ decimal (length text) ++ codes "\n") → AppendsIfTold b c text → AppendsIfTold c d (codes "\n") → AppendsIfTold a d (question_reply (Ok text))
  unfolding question_reply
  text_written b c d whole also end = appends_on a c d (head_of text ++ text) (codes "\n") (appends_on a b c (head_of text) text whole also) end
