use Rattle.std.proofs.Common.{sym, ◌∙◌, ap, subst, List, [], take, refl}
use Rattle.std.proofs.lemmas.List.{take_all}
use Rattle.jx_base.specs.declared.value.Word.{Word}
use Rattle.portal_table.specs.ServiceLists.{IsService, ServicesState, with_holder}
use Rattle.parcel_carriage.specs.Words.{has_portal, with_held}
use Rattle.parcel_carriage.proofs.PortalSteps.{held_none, portal_held, portal_left, portal_there, service_still}
use Rattle.parcel_carriage.proofs.carriage.give_words.Goals as goal
use Rattle.parcel_carriage.proofs.carriage.give_words.Goals.{in-Portal, in_default}

pub loop-word-init : goal.loop-word-init
loop-word-init c = held_none c.args.domain.0 c.args.services.now (has_portal []) (λ j. refl)

pub hold-requires-clause-service : goal.hold-requires-clause-service
hold-requires-clause-service c =
    let k = c.in-Portal.service.0 in let words = c.args.words.now in let i = c.loop-word.word-index in
    let made = c.requires.services k (portal_there c.args.domain.0 c.args.services.now words i _ c.loop-word-test.true c.in-Portal.service c.in-Portal.field-1 c.in-Portal.is) in
    subst (λ (x : ServicesState). IsService x k) (sym c.loop-word.invariant) (service_still c.args.domain.0 (has_portal (take i words)) c.args.services.now k made)

pub loop-word-preserved : goal.loop-word-preserved
loop-word-preserved c =
    elim c.match-word.branch [
      | in-Portal w ↦
          let k = w.in-Portal.service.0 in let words = c.args.words.now in let i = c.loop-word.word-index in
          let made = c.requires.services k (portal_there c.args.domain.0 c.args.services.now words i _ c.loop-word-test.true w.in-Portal.service w.in-Portal.field-1 w.in-Portal.is) in
          w.services-is ∙ w.hold.ensures
          ∙ ap (λ (x : ServicesState). with_holder x c.args.domain.0 k) c.loop-word.invariant
          ∙ portal_held c.args.domain.0 c.args.services.now words i _ c.loop-word-test.true w.in-Portal.service w.in-Portal.field-1 w.in-Portal.is made.0
      | in_default w ↦
          w.services-is ∙ c.loop-word.invariant
          ∙ portal_left c.args.domain.0 c.args.services.now c.args.words.now c.loop-word.word-index _ c.loop-word-test.true w.in_default.not-Portal
    ]

pub returns : goal.returns
returns c =
    c.loop-word.invariant
    ∙ ap (λ (words : List Word). with_held c.args.domain.0 (has_portal words) c.args.services.now) (take_all c.loop-word.word-index c.args.words.now c.loop-word-test.false)
