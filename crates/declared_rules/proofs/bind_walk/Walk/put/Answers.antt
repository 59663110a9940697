-- Proves that what was found in a text is looked at where arguments are put in.
use Rattle.std.proofs.Common.{List, Option, refl, subst}
use Rattle.tla_token.specs.declared.rule.Refusal.{Refusal}
use Rattle.algorithm_answer.specs.Joined.{joined}
use Rattle.pcal_tree.specs.OffencesRebind.{any_name, putting_in}
use Rattle.pcal_tree.specs.laws.MacroBindings.{offences_where}
use Rattle.declared_rules.specs.declared.binding.Binding.{Binding}
use Rattle.declared_rules.specs.declared.bind_walk.Walk.{Walk}
use Rattle.declared_rules.specs.Telling.{binding_of, held_where, Adds}
use Rattle.declared_rules.proofs.TellLaws.{list_then, list_done}
use Rattle.declared_rules.proofs.PutLaws.{kept_adds}
use Rattle.declared_rules.proofs.bind_walk.Walk.put.Goals as goal

pub loop-binding-init : goal.loop-binding-init
loop-binding-init c = λ ts e k g.
    let old = c.args.self.now in
    subst (λ (o : Option Refusal). Adds c.args.sight.now any_name (record { bound = old.bound; first = o; free = old.free }) k (λ ms r. held_where ms (putting_in c.args.params.now ts r r) c.as_slice-list.result.now)) c.least-self.ensures g

pub loop-binding-preserved : goal.loop-binding-preserved
loop-binding-preserved c = λ ts e k g.
    c.loop-binding.invariant ts e k
    (list_then c.args.sight.now any_name (λ (b : Binding) ms r. offences_where ms (putting_in c.args.params.now ts r r) (binding_of b)) c.loop-binding.self c.put_one.new.self k c.as_slice-list.result.now c.loop-binding.binding-index c.binding-item.result
    c.binding-item.is c.loop-binding-test.true (c.in_ok-put_one.ensures ts e) g)

pub returns : goal.returns
returns c = λ ts e.
    let g = c.args.sight.now in
    let w = c.args.found.now in
    let old = c.args.self.now in
    let mid : Walk = record { bound = old.bound; first = joined old.first w.first; free = old.free } in
    kept_adds g any_name old mid c.loop-binding.self w.first (λ ms r. held_where ms (putting_in c.args.params.now ts r r) w.free.keys) refl refl refl
    (subst (λ (bs : List Binding). Adds g any_name mid c.loop-binding.self (λ ms r. held_where ms (putting_in c.args.params.now ts r r) bs)) c.as_slice-list.ensures.keys
    (c.loop-binding.invariant ts e c.loop-binding.self
    (list_done g any_name (λ (b : Binding) ms r. offences_where ms (putting_in c.args.params.now ts r r) (binding_of b)) c.loop-binding.self c.as_slice-list.result.now c.loop-binding.binding-index c.loop-binding-test.false)))
