-- What filing a message and taking it out do to an index. Proof plumbing.
use Rattle.std.proofs.Common.{◌≡◌, ℕ, ◌+◌, ◌-◌, Bool, true, false, cond, List, [], ◌∷◌, ◌++◌, map, length, take, refl, sym, ap, subst, ◌∙◌, filter, arith, length-append, Result, Ok, Err, OnErr, is_some, nat_lt}
use Rattle.std.proofs.lemmas.List.{append-nil, length-map, map-append, take-map}
use Rattle.std.proofs.lemmas.List.Elements.{filter-append}
use Rattle.std.proofs.Math.Seq.{take-append_seam}
use Rattle.std.specs.Arc.{arc_value}
use Rattle.std.specs.Global.{Global}
use Rattle.std.specs.declared.sync.Arc.{Arc}
use Rattle.indexmap.specs.IndexMap.{IndexMap, get}
use Rattle.sct_message.specs.declared.draft.Draft.{Draft}
use Rattle.sct_set.specs.Buckets.{bucket, HasNoEmptyList}
use Rattle.sct_set.specs.Drafts.{drafts_in, IsIndexBy}

one_less : {n m : ℕ} → n ≡ m + 1 → n - 1 ≡ m
one_less e = omega arith

but_last : {A : Type 0} (xs : List A) (x : A) → take (length (xs ++ x ∷ []) - 1) (xs ++ x ∷ []) ≡ xs
but_last xs x = ap (λ (n : ℕ). take n (xs ++ x ∷ [])) (one_less (length-append xs (x ∷ []))) ∙ take-append_seam xs (x ∷ [])

-- what an error leaves
pub on_err : {T F : Type 0} {P : Type 0} (r : Result T F) → P → OnErr r P
on_err (Ok x) p = tt
on_err (Err e) p = p

-- a value is what an item holds, and an item is of a key where its value passes the key's test
module _ {A D : Type 0} (value : A → D) (is_of : D → Bool) where
  pub filed : (old new : List A) (item : A) (ds : List D) → map value old ≡ filter is_of ds → new ≡ cond (is_of (value item)) (old ++ item ∷ []) old
      → map value new ≡ filter is_of (ds ++ value item ∷ [])
  filed old new item ds was is =
      ap (map value) is
      ∙ elim (is_of (value item)) as (λ b. map value (cond b (old ++ item ∷ []) old) ≡ filter is_of ds ++ cond b (value item ∷ []) []) [
        | true ↦ map-append value old (item ∷ []) ∙ ap (λ (xs : List D). xs ++ value item ∷ []) was
        | false ↦ was ∙ sym (append-nil (filter is_of ds))
      ]
      ∙ sym (filter-append is_of ds (value item ∷ []))

  pub unfiled : (old new : List A) (d : D) (ds : List D) → map value old ≡ filter is_of (ds ++ d ∷ []) → new ≡ cond (is_of d) (take (length old - 1) old) old
      → map value new ≡ filter is_of ds
  unfiled old new d ds was is =
      let parts = was ∙ filter-append is_of ds (d ∷ []) in
      ap (map value) is
      ∙ elim (is_of d) as (λ b. map value old ≡ filter is_of ds ++ cond b (d ∷ []) [] → map value (cond b (take (length old - 1) old) old) ≡ filter is_of ds) [
        | true ↦ λ e. sym (take-map value (length old - 1) old) ∙ ap (λ (n : ℕ). take (n - 1) (map value old)) (sym (length-map old value))
            ∙ ap (λ (xs : List D). take (length xs - 1) xs) e ∙ but_last (filter is_of ds) d
        | false ↦ λ e. e ∙ append-nil (filter is_of ds)
      ] parts

-- a map compares its keys by a test that answers as the one of the index does
module _ {K S : Type 0} (key_of : Draft → K) (T E : K → K → Bool) (ties : (j k : K) → E j k ≡ T j k) (old new : IndexMap K (List (Arc Draft Global)) S) where
  is_same : E ≡ T
  is_same = λ n j k. ties j k n

  -- a map that had no empty list has none
  HasNoEmptyList-kept : (HasNoEmptyList E old → HasNoEmptyList E new) → HasNoEmptyList T old → HasNoEmptyList T new
  HasNoEmptyList-kept keeps was = subst (λ (F : K → K → Bool). HasNoEmptyList F new) is_same (keeps (subst (λ (F : K → K → Bool). HasNoEmptyList F old) (sym is_same) was))

  -- an index in which a message was filed
  pub IsIndexBy-filed : (key : K) (message : Arc Draft Global) (d : Draft) (ds : List Draft) → arc_value message ≡ d → key ≡ key_of d → IsIndexBy key_of T old ds
      → ((k : K) → bucket E new k ≡ cond (E key k) (bucket E old k ++ message ∷ []) (bucket E old k)) → (HasNoEmptyList E old → HasNoEmptyList E new)
      → IsIndexBy key_of T new (ds ++ d ∷ [])
  IsIndexBy-filed key message d ds value is was became keeps = record {
    messages = λ k.
        let told : bucket T new k ≡ cond (T (key_of (arc_value message)) k) (bucket T old k ++ message ∷ []) (bucket T old k)
        = subst (λ (j : K). bucket T new k ≡ cond (T j k) (bucket T old k ++ message ∷ []) (bucket T old k)) (is ∙ ap key_of (sym value))
        (subst (λ (F : K → K → Bool). bucket F new k ≡ cond (F key k) (bucket F old k ++ message ∷ []) (bucket F old k)) is_same (became k)) in
        filed arc_value (λ m. T (key_of m) k) (bucket T old k) (bucket T new k) message ds (was.messages k) told
        ∙ ap (λ (m : Draft). filter (λ n. T (key_of n) k) (ds ++ m ∷ [])) value;
    no_empty = HasNoEmptyList-kept keeps was.no_empty;
  }

  -- an index in which the first message of its key was filed
  pub IsIndexBy-first : (key : K) (d : Draft) (ds : List Draft) → key ≡ key_of d → IsIndexBy key_of T old ds
      → ((k : K) → T key k ≡ true → filter (λ m. T (key_of m) k) ds ≡ [])
      → ((k : K) → drafts_in (bucket E new k) ≡ cond (E key k) (d ∷ []) (drafts_in (bucket E old k))) → (HasNoEmptyList E old → HasNoEmptyList E new)
      → IsIndexBy key_of T new (ds ++ d ∷ [])
  IsIndexBy-first key d ds is was none became keeps = record {
    messages = λ k.
        let told : drafts_in (bucket T new k) ≡ cond (T key k) (d ∷ []) (drafts_in (bucket T old k))
        = subst (λ (F : K → K → Bool). drafts_in (bucket F new k) ≡ cond (F key k) (d ∷ []) (drafts_in (bucket F old k))) is_same (became k) in
        told
        ∙ elim (T key k) as (λ b. T key k ≡ b → cond b (d ∷ []) (drafts_in (bucket T old k)) ≡ filter (λ m. T (key_of m) k) ds ++ cond b (d ∷ []) []) [
          | true ↦ λ e. ap (λ (xs : List Draft). xs ++ d ∷ []) (sym (none k e))
          | false ↦ λ _. was.messages k ∙ sym (append-nil (filter (λ m. T (key_of m) k) ds))
        ] refl
        ∙ ap (λ (j : K). filter (λ m. T (key_of m) k) ds ++ cond (T j k) (d ∷ []) []) is
        ∙ sym (filter-append (λ m. T (key_of m) k) ds (d ∷ []));
    no_empty = HasNoEmptyList-kept keeps was.no_empty;
  }

  -- an index out of which the last message was taken
  pub IsIndexBy-unfiled : (key : K) (d : Draft) (ds : List Draft) → key ≡ key_of d → IsIndexBy key_of T old (ds ++ d ∷ [])
      → ((k : K) → bucket E new k ≡ cond (E key k) (take (length (bucket E old k) - 1) (bucket E old k)) (bucket E old k)) → (HasNoEmptyList E old → HasNoEmptyList E new)
      → IsIndexBy key_of T new ds
  IsIndexBy-unfiled key d ds is was became keeps = record {
    messages = λ k.
        let told : bucket T new k ≡ cond (T (key_of d) k) (take (length (bucket T old k) - 1) (bucket T old k)) (bucket T old k)
        = subst (λ (j : K). bucket T new k ≡ cond (T j k) (take (length (bucket T old k) - 1) (bucket T old k)) (bucket T old k)) is
        (subst (λ (F : K → K → Bool). bucket F new k ≡ cond (F key k) (take (length (bucket F old k) - 1) (bucket F old k)) (bucket F old k)) is_same (became k)) in
        unfiled arc_value (λ m. T (key_of m) k) (bucket T old k) (bucket T new k) d ds (was.messages k) told;
    no_empty = HasNoEmptyList-kept keeps was.no_empty;
  }

  -- an index whose lists are those of another has the same messages
  pub IsIndexBy-kept : (ds : List Draft) → IsIndexBy key_of T old ds → ((k : K) → bucket E new k ≡ bucket E old k) → (HasNoEmptyList E old → HasNoEmptyList E new) → IsIndexBy key_of T new ds
  IsIndexBy-kept ds was same keeps = record {
    messages = λ k. ap drafts_in (subst (λ (F : K → K → Bool). bucket F new k ≡ bucket F old k) is_same (same k)) ∙ was.messages k;
    no_empty = HasNoEmptyList-kept keeps was.no_empty;
  }

  -- the list at a key has the messages of it
  pub IsIndexBy-at : (ds : List Draft) (k : K) → IsIndexBy key_of T old ds → drafts_in (bucket E old k) ≡ filter (λ d. T (key_of d) k) ds
  IsIndexBy-at ds k was = ap (λ (F : K → K → Bool). drafts_in (bucket F old k)) is_same ∙ was.messages k

  -- the map has a key if the list at it is not empty
  pub IsIndexBy-some : (ds : List Draft) (k : K) → IsIndexBy key_of T old ds → is_some (get E old k) ≡ nat_lt 0 (length (bucket E old k))
  IsIndexBy-some ds k was = ap (λ (F : K → K → Bool). is_some (get F old k)) is_same ∙ was.no_empty k ∙ ap (λ (F : K → K → Bool). nat_lt 0 (length (bucket F old k))) (sym is_same)

-- an index with the entries of another has the same messages
pub IsIndexBy-entries : {K S : Type 0} (key_of : Draft → K) (same : K → K → Bool) (old new : IndexMap K (List (Arc Draft Global)) S) (ds : List Draft)
    → new.entries ≡ old.entries → IsIndexBy key_of same old ds → IsIndexBy key_of same new ds
IsIndexBy-entries key_of same old new ds e was = record {
  messages = λ k. rw e (was.messages k);
  no_empty = λ k. rw e (was.no_empty k);
}
