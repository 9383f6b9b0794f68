-- The type that a handle keeps, under the names that the other proofs use. Five `use` lines name it.
use mathlib.Core.List.{[], ◌∷◌}
use mathlib.Core.Path.{refl}
use seplogic.Ra.Ura.{Ura}
use mir.Raw.{raw as bare}
use mir.Syntax.{Callee, Dict, impl, method, no_args, tnil, dnil}
use base.Fml.{ftrue, fsep}
use base.Logic.{SProp, ent, sep, ex, emp, emp∗}
use prog.Model.{Model}
use prog.Wired.{Wired}
use types.Logic.{Logic, sem}
use types.Kit.{raw, ◌$◌, ◌∵◌, !, qed, keep, join, show, done}
use contract.Running.{Running}
use denote.Exit.{no}
use denote.RattleType.{RattleType}
use denote.Steps.{nothing}
use denote.Param.{arg, layout}
use denote.Param.Glue.{Met}
use denote.Param.Laws.{Laws, arg_laws}
use denote.Triple.Carry.{beside, spared}
use denote.Triple.Spec.{Spec, triple_of}
use denote.Triple.Table.{run_framed, widened}
use Rattle.sct_place.specs.contracts.kept.KeptSite.{the_row}
use Rattle.sct_place.proofs.kept.KeptSite.TheLaws.{the_row_laws}
use Rattle.sct_place.specs.contracts.sct_place++kept++KeptSite+Destruct.drop as dropping
use Rattle.sct_place.proofs.sct_place++kept++KeptSite+Destruct.drop.Symbol as drop_code
use Rattle.sct_place.proofs.sct_place++kept++KeptSite+Destruct.drop.Met.{met}

abbrev pub Site : RattleType
Site = the_row

-- The site as an argument for a type parameter, and what a call has to show of it
abbrev pub SiteArg : RattleType
SiteArg = arg (bare (layout Site)) no Site

abbrev pub site_laws : Laws SiteArg
site_laws = arg_laws (bare (layout Site)) no Site the_row_laws refl

-- The code that drops a site
abbrev pub drops_site : Dict
drops_site = impl (drop_code.symbol ∷ []) tnil dnil

abbrev drops : Callee
drops = method drops_site 0 no_args

-- A function with the bound `Drop` asks for that code with a contract that says nothing, and passes it the token of a lifetime.
-- The code meets this contract: it returns the token, which it does not use, and what its own contract says is forgotten.
module _ {M : Type 1} {𝓤 : Ura M} (𝓛 : Logic 𝓤) (𝓜 : Model 𝓤 𝓛.H) (𝓡 : Running 𝓤 𝓛.H 𝓜) where
  abbrev nothing_said : SProp 𝓤
  nothing_said = ex 𝓤 (λ (_ : Unit {0} × Unit {0}). sep 𝓤 (sem 𝓛 (fsep ftrue ftrue)) (emp 𝓤))

  abbrev silent : Spec 𝓤 dropping.signature
  silent κs a = record { ghost = Unit {0}; requires = λ _. emp 𝓤; ensures = λ _ r. nothing_said }

  forgotten : (P : SProp 𝓤) → ent 𝓤 (sep 𝓤 P (emp 𝓤)) nothing_said
  forgotten P = qed 𝓛 (raw P ∷ raw (emp 𝓤) ∷ []) ∵ keep ! [] $
      show ! (λ (_ : Unit {0} × Unit {0}). sep 𝓤 (sem 𝓛 (fsep ftrue ftrue)) (emp 𝓤)) (tt, tt) $
      nothing ! $ nothing ! $ nothing ! $ join ! $ done !

  pub site_dropped : Wired 𝓡.env drop_code.code → Met 𝓛 𝓜 𝓡 𝓡.env SiteArg drops_site
  site_dropped wired =
      let S = dropping.signature in let spec = dropping.spec 𝓛 𝓜.mem 𝓡.returns in
      let run = 𝓡.run (𝓡.env drops) in let framed = run_framed 𝓤 𝓛.H 𝓜 𝓡 (𝓡.env drops) in
      let meets = widened 𝓤 𝓛.H (triple_of 𝓛 S spec) 𝓜 𝓡 𝓡.env (𝓡.env drop_code.name) (𝓡.env drops)
      (drop_code.as_method 𝓡.env wired drops refl) (met 𝓤 𝓛 𝓜 𝓡 wired) in
      spared 𝓛 S run framed 1 (Site.lives, tt) silent
      (beside 𝓛 S run framed spec silent (λ κs a g. g) (λ κs a g. emp 𝓤) (λ κs a g. emp∗ 𝓤 (emp 𝓤))
      (λ κs a g r. forgotten ((spec κs a).ensures g r)) meets)
