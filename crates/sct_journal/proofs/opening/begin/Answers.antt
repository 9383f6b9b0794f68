-- Each front of a file.
use Rattle.std.proofs.Common.{◌≡◌, ◌∙◌, ◌+◌, ◌∷◌, [], IsTrue, sym, ap, subst, arith, length, take}
use Rattle.sct_journal.specs.Fronts.{front_in}
use Rattle.sct_journal.specs.Kept.{at_rest}
use Rattle.sct_journal.specs.declared.front.Front.TheVariants.{New}
use Rattle.sct_journal.proofs.MakingLemmas.{left_making}
use Rattle.sct_journal.proofs.OpeningLemmas.{made_length, made_same, made_stands, new_whole, ours_fits, ours_stand, read_front}
use Rattle.sct_journal.proofs.opening.begin.Goals as goal

pub returns-in-Ours-clause-fits : goal.returns-in-Ours-clause-fits
returns-in-Ours-clause-fits g c =
    ours_fits c.args.header.now c.deref.result.now c.in_ok-len.len (omega (arith, ap length c.deref.ensures.value, c.in_ok-bytes.ensures.length, c.min-count.ensures))
    (sym c.front_of.ensures ∙ c.in-Ours.is)

pub returns-in-Ours-clause-first : goal.returns-in-Ours-clause-first
returns-in-Ours-clause-first g c clean =
    let len_clean : IsTrue (g.D.Disk.is_clean c.len.new.self) = c.read_part.ensures.clean clean in
    let is : c.deref.result.now ≡ take (length c.args.header.now + 6) (g.D.Disk.seen c.args.disk.now) =
    read_front c.args.header.now (g.D.Disk.seen c.args.disk.now) (g.D.Disk.seen c.len.new.self) c.in_ok-bytes.bytes.items c.deref.result.now c.min-count.result c.in_ok-len.len
    (c.in_ok-len.ensures.len len_clean) c.min-count.ensures c.len.ensures.seen (c.in_ok-bytes.ensures.bytes clean) c.deref.ensures.value in
    ours_stand c.args.header.now (g.D.Disk.seen c.args.disk.now) c.deref.result.now (g.D.Disk.seen c.read_part.new.disk) is
    (sym c.front_of.ensures ∙ c.in-Ours.is) (c.read_part.ensures.seen ∙ c.len.ensures.seen)

pub returns-in_err-make-in-New-clause-crash : goal.returns-in_err-make-in-New-clause-crash
returns-in_err-make-in-New-clause-crash g c clean f left =
    let read_clean : IsTrue (g.D.Disk.is_clean c.read_part.new.disk) = subst (λ b. IsTrue b) c.make.ensures.clean clean in
    let len_clean : IsTrue (g.D.Disk.is_clean c.len.new.self) = c.read_part.ensures.clean read_clean in
    let is : c.deref.result.now ≡ take (length c.args.header.now + 6) (g.D.Disk.seen c.args.disk.now) =
    read_front c.args.header.now (g.D.Disk.seen c.args.disk.now) (g.D.Disk.seen c.len.new.self) c.in_ok-bytes.bytes.items c.deref.result.now c.min-count.result c.in_ok-len.len
    (c.in_ok-len.ensures.len len_clean) c.min-count.ensures c.len.ensures.seen (c.in_ok-bytes.ensures.bytes read_clean) c.deref.ensures.value in
    let front : front_in c.args.header.now c.deref.result.now ≡ New = sym c.front_of.ensures ∙ c.in-New.is in
    let whole : c.deref.result.now ≡ g.D.Disk.seen c.args.disk.now = new_whole c.args.header.now (g.D.Disk.seen c.args.disk.now) c.deref.result.now is front in
    let same : c.deref-in-New.result.now ≡ c.deref.result.now = c.deref-in-New.ensures.value ∙ sym c.deref.ensures.value in
    let all : c.deref-in-New.result.now ≡ g.D.Disk.seen c.read_part.new.disk = same ∙ whole ∙ sym (c.read_part.ensures.seen ∙ c.len.ensures.seen) in
    let new : front_in c.args.header.now c.deref-in-New.result.now ≡ New = ap (front_in c.args.header.now) same ∙ front in
    let first : front_in c.args.header.now (g.D.Disk.seen c.args.disk.now) ≡ New = ap (front_in c.args.header.now) (sym whole) ∙ front in
    left_making c.args.header.now (g.D.Disk.seen c.args.disk.now) f c.requires.line first (c.make.ensures.crash all new f left)

pub returns-in-New-clause-len : goal.returns-in-New-clause-len
returns-in-New-clause-len g c clean =
    let read_clean : IsTrue (g.D.Disk.is_clean c.read_part.new.disk) = subst (λ b. IsTrue b) c.make.ensures.clean clean in
    let len_clean : IsTrue (g.D.Disk.is_clean c.len.new.self) = c.read_part.ensures.clean read_clean in
    let is : c.deref.result.now ≡ take (length c.args.header.now + 6) (g.D.Disk.seen c.args.disk.now) =
    read_front c.args.header.now (g.D.Disk.seen c.args.disk.now) (g.D.Disk.seen c.len.new.self) c.in_ok-bytes.bytes.items c.deref.result.now c.min-count.result c.in_ok-len.len
    (c.in_ok-len.ensures.len len_clean) c.min-count.ensures c.len.ensures.seen (c.in_ok-bytes.ensures.bytes read_clean) c.deref.ensures.value in
    let front : front_in c.args.header.now c.deref.result.now ≡ New = sym c.front_of.ensures ∙ c.in-New.is in
    let whole : c.deref.result.now ≡ g.D.Disk.seen c.args.disk.now = new_whole c.args.header.now (g.D.Disk.seen c.args.disk.now) c.deref.result.now is front in
    let same : c.deref-in-New.result.now ≡ c.deref.result.now = c.deref-in-New.ensures.value ∙ sym c.deref.ensures.value in
    let all : c.deref-in-New.result.now ≡ g.D.Disk.seen c.read_part.new.disk = same ∙ whole ∙ sym (c.read_part.ensures.seen ∙ c.len.ensures.seen) in
    let new : front_in c.args.header.now c.deref-in-New.result.now ≡ New = ap (front_in c.args.header.now) same ∙ front in
    let made : g.D.Disk.seen c.make.new.disk ≡ at_rest (c.args.header.now ∷ []) = c.in_ok-make-in-New.ensures.made all new in
    made_length c.args.header.now (g.D.Disk.seen c.make.new.disk) made

pub returns-in-New-clause-first : goal.returns-in-New-clause-first
returns-in-New-clause-first g c clean =
    let read_clean : IsTrue (g.D.Disk.is_clean c.read_part.new.disk) = subst (λ b. IsTrue b) c.make.ensures.clean clean in
    let len_clean : IsTrue (g.D.Disk.is_clean c.len.new.self) = c.read_part.ensures.clean read_clean in
    let is : c.deref.result.now ≡ take (length c.args.header.now + 6) (g.D.Disk.seen c.args.disk.now) =
    read_front c.args.header.now (g.D.Disk.seen c.args.disk.now) (g.D.Disk.seen c.len.new.self) c.in_ok-bytes.bytes.items c.deref.result.now c.min-count.result c.in_ok-len.len
    (c.in_ok-len.ensures.len len_clean) c.min-count.ensures c.len.ensures.seen (c.in_ok-bytes.ensures.bytes read_clean) c.deref.ensures.value in
    let front : front_in c.args.header.now c.deref.result.now ≡ New = sym c.front_of.ensures ∙ c.in-New.is in
    let whole : c.deref.result.now ≡ g.D.Disk.seen c.args.disk.now = new_whole c.args.header.now (g.D.Disk.seen c.args.disk.now) c.deref.result.now is front in
    let same : c.deref-in-New.result.now ≡ c.deref.result.now = c.deref-in-New.ensures.value ∙ sym c.deref.ensures.value in
    let all : c.deref-in-New.result.now ≡ g.D.Disk.seen c.read_part.new.disk = same ∙ whole ∙ sym (c.read_part.ensures.seen ∙ c.len.ensures.seen) in
    let new : front_in c.args.header.now c.deref-in-New.result.now ≡ New = ap (front_in c.args.header.now) same ∙ front in
    let made : g.D.Disk.seen c.make.new.disk ≡ at_rest (c.args.header.now ∷ []) = c.in_ok-make-in-New.ensures.made all new in
    made_stands c.args.header.now (g.D.Disk.seen c.make.new.disk) made

pub returns-in-New-clause-same : goal.returns-in-New-clause-same
returns-in-New-clause-same g c clean =
    let read_clean : IsTrue (g.D.Disk.is_clean c.read_part.new.disk) = subst (λ b. IsTrue b) c.make.ensures.clean clean in
    let len_clean : IsTrue (g.D.Disk.is_clean c.len.new.self) = c.read_part.ensures.clean read_clean in
    let is : c.deref.result.now ≡ take (length c.args.header.now + 6) (g.D.Disk.seen c.args.disk.now) =
    read_front c.args.header.now (g.D.Disk.seen c.args.disk.now) (g.D.Disk.seen c.len.new.self) c.in_ok-bytes.bytes.items c.deref.result.now c.min-count.result c.in_ok-len.len
    (c.in_ok-len.ensures.len len_clean) c.min-count.ensures c.len.ensures.seen (c.in_ok-bytes.ensures.bytes read_clean) c.deref.ensures.value in
    let front : front_in c.args.header.now c.deref.result.now ≡ New = sym c.front_of.ensures ∙ c.in-New.is in
    let whole : c.deref.result.now ≡ g.D.Disk.seen c.args.disk.now = new_whole c.args.header.now (g.D.Disk.seen c.args.disk.now) c.deref.result.now is front in
    let same : c.deref-in-New.result.now ≡ c.deref.result.now = c.deref-in-New.ensures.value ∙ sym c.deref.ensures.value in
    let all : c.deref-in-New.result.now ≡ g.D.Disk.seen c.read_part.new.disk = same ∙ whole ∙ sym (c.read_part.ensures.seen ∙ c.len.ensures.seen) in
    let new : front_in c.args.header.now c.deref-in-New.result.now ≡ New = ap (front_in c.args.header.now) same ∙ front in
    let first : front_in c.args.header.now (g.D.Disk.seen c.args.disk.now) ≡ New = ap (front_in c.args.header.now) (sym whole) ∙ front in
    let made : g.D.Disk.seen c.make.new.disk ≡ at_rest (c.args.header.now ∷ []) = c.in_ok-make-in-New.ensures.made all new in
    made_same c.args.header.now (g.D.Disk.seen c.args.disk.now) (g.D.Disk.seen c.make.new.disk) c.requires.line first made

pub returns-in-New-clause-crash : goal.returns-in-New-clause-crash
returns-in-New-clause-crash g c clean f left =
    let read_clean : IsTrue (g.D.Disk.is_clean c.read_part.new.disk) = subst (λ b. IsTrue b) c.make.ensures.clean clean in
    let len_clean : IsTrue (g.D.Disk.is_clean c.len.new.self) = c.read_part.ensures.clean read_clean in
    let is : c.deref.result.now ≡ take (length c.args.header.now + 6) (g.D.Disk.seen c.args.disk.now) =
    read_front c.args.header.now (g.D.Disk.seen c.args.disk.now) (g.D.Disk.seen c.len.new.self) c.in_ok-bytes.bytes.items c.deref.result.now c.min-count.result c.in_ok-len.len
    (c.in_ok-len.ensures.len len_clean) c.min-count.ensures c.len.ensures.seen (c.in_ok-bytes.ensures.bytes read_clean) c.deref.ensures.value in
    let front : front_in c.args.header.now c.deref.result.now ≡ New = sym c.front_of.ensures ∙ c.in-New.is in
    let whole : c.deref.result.now ≡ g.D.Disk.seen c.args.disk.now = new_whole c.args.header.now (g.D.Disk.seen c.args.disk.now) c.deref.result.now is front in
    let same : c.deref-in-New.result.now ≡ c.deref.result.now = c.deref-in-New.ensures.value ∙ sym c.deref.ensures.value in
    let all : c.deref-in-New.result.now ≡ g.D.Disk.seen c.read_part.new.disk = same ∙ whole ∙ sym (c.read_part.ensures.seen ∙ c.len.ensures.seen) in
    let new : front_in c.args.header.now c.deref-in-New.result.now ≡ New = ap (front_in c.args.header.now) same ∙ front in
    let first : front_in c.args.header.now (g.D.Disk.seen c.args.disk.now) ≡ New = ap (front_in c.args.header.now) (sym whole) ∙ front in
    left_making c.args.header.now (g.D.Disk.seen c.args.disk.now) f c.requires.line first (c.make.ensures.crash all new f left)
