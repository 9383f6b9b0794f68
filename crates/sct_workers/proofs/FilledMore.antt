-- One input and one site more. Proof plumbing.
use Rattle.std.proofs.Common.{◌≡◌, ◌∙◌, sym, ap, subst, ℕ, ◌+◌, ◌<◌, List, [], ◌∷◌, ◌++◌, length, take, get_or, arith, append_assoc, append-nil}
use Rattle.std.specs.Prelude.{Result, Ok, Err, IfOk}
use Rattle.std.proofs.lemmas.List.{length-take-le, take_more}
use Rattle.std.proofs.lemmas.Option.{slice_get-get_or}
use Rattle.sct_lines.specs.Lines.{refusals_told, set_read}
use Rattle.sct_workers.specs.Stands.{Stands}
use Rattle.sct_site.specs.Cores.{Core}
use Rattle.sct_workers.specs.declared.filled.Filled.{Filled}
use Rattle.sct_workers.specs.declared.filled.Sites.{Sites}
use Rattle.sct_workers.specs.Files.{refused_in, told_from, told_of_file}
use Rattle.sct_workers.specs.Filling.{AllStand, AreFilled, IsFilled}
use Rattle.sct_workers.specs.Reported.{AnswersTo}

-- ---- how files are told

told_push : (file : ℕ) (inputs : List (List ℕ)) (input : List ℕ)
    → told_from file (inputs ++ input ∷ []) ≡ told_from file inputs ++ told_of_file (file + length inputs) input
told_push file [] input =
    let here : file ≡ file + length {A = List ℕ} [] = omega arith in
    append-nil (told_of_file file input) ∙ ap (λ (f : ℕ). told_of_file f input) here
told_push file (first ∷ inputs) input =
    let next : (file + 1) + length inputs ≡ file + length (first ∷ inputs) = omega arith in
    ap (λ (told : List ℕ). told_of_file file first ++ told) (told_push (file + 1) inputs input)
    ∙ sym (append_assoc (told_of_file file first) (told_from (file + 1) inputs) (told_of_file ((file + 1) + length inputs) input))
    ∙ ap (λ (f : ℕ). (told_of_file file first ++ told_from (file + 1) inputs) ++ told_of_file f input) next

refused_push : (inputs : List (List ℕ)) (input : List ℕ) → refused_in (inputs ++ input ∷ []) ≡ refused_in inputs + length (refusals_told input)
refused_push [] input = omega arith
refused_push (first ∷ inputs) input = let rest = refused_push inputs input in omega (arith, rest)

-- ---- one site more

stand_push : (number size : ℕ) (inputs : List (List ℕ)) (cores : List Core) (input : List ℕ) (core : Core) → AllStand number size inputs cores
    → Stands (length inputs + number) size (set_read input) core → AllStand number size (inputs ++ input ∷ []) (cores ++ core ∷ [])
stand_push number size [] [] input core all one =
    let here : length {A = List ℕ} [] + number ≡ number = omega arith in (subst (λ (n : ℕ). Stands n size (set_read input) core) here one, tt)
stand_push number size (i ∷ inputs) (c ∷ cores) input core all one =
    let next : length (i ∷ inputs) + number ≡ length inputs + (number + 1) = omega arith in
    (all.0, stand_push (number + 1) size inputs cores input core all.1 (subst (λ (n : ℕ). Stands n size (set_read input) core) next one))
stand_push number size [] (c ∷ cores) input core all one = absurd all
stand_push number size (i ∷ inputs) [] input core all one = absurd all

pub one_more : (size : ℕ) (inputs : List (List ℕ)) (input : List ℕ) (before after : Sites) (one : Filled) → AreFilled size inputs before
    → IsFilled (length inputs + 1) size input one → after.cores.items ≡ before.cores.items ++ one.core ∷ []
    → after.refusals.text ≡ before.refusals.text ++ one.refusals.text → after.refusals.count ≡ before.refusals.count + one.refusals.count
    → AreFilled size (inputs ++ input ∷ []) after
one_more size inputs input before after one all filled cores told refused =
    let at : length inputs + 1 ≡ 1 + length inputs = omega arith in
    record {
      stand = subst (AllStand 1 size (inputs ++ input ∷ [])) (sym cores) (stand_push 1 size inputs before.cores.items input one.core all.stand filled.stands);
      told =
          told ∙ (λ i. all.told i ++ (filled.told ∙ ap (λ (f : ℕ). told_of_file f input) at) i) ∙ sym (told_push 1 inputs input);
      refused = refused ∙ (λ i. all.refused i + filled.refused i) ∙ sym (refused_push inputs input);
    }

-- ---- what several sites answered

pub ok_so : {T E : Type 0} (P Q : T → Type 0) (r : Result T E) → ((t : T) → P t → Q t) → IfOk r P → IfOk r Q
ok_so P Q (Ok t) so is = so t is
ok_so P Q (Err e) so is = tt

-- the input at a place, with the site that was filled from it
pub filled_at : (inputs : List (List ℕ)) (size place : ℕ) (one : Filled) → place < length inputs → AnswersTo size inputs place (Ok one)
    → IsFilled (place + 1) size (get_or inputs place []) one
filled_at inputs size place one low answers = answers (get_or inputs place []) (slice_get-get_or inputs place [] low)

-- the sites so far were filled from the inputs up to a place, and the next one from the input there
pub site_more : (inputs : List (List ℕ)) (size place : ℕ) (before after : Sites) (one : Filled) → place < length inputs → AnswersTo size inputs place (Ok one)
    → AreFilled size (take place inputs) before → after.cores.items ≡ before.cores.items ++ one.core ∷ []
    → after.refusals.text ≡ before.refusals.text ++ one.refusals.text → after.refusals.count ≡ before.refusals.count + one.refusals.count
    → AreFilled size (take (place + 1) inputs) after
site_more inputs size place before after one low answers all cores told refused =
    let input = get_or inputs place [] in
    let many : length (take place inputs) ≡ place = length-take-le place inputs (omega (arith, low)) in
    let filled : IsFilled (length (take place inputs) + 1) size input one =
    subst (λ (n : ℕ). IsFilled (n + 1) size input one) (sym many) (filled_at inputs size place one low answers) in
    subst (λ (xs : List (List ℕ)). AreFilled size xs after) (sym (take_more inputs place [] low))
    (one_more size (take place inputs) input before after one all filled cores told refused)
