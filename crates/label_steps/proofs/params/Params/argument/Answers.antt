-- Proves that the argument that stands for a name is found.
use Rattle.std.proofs.Common.{◌≡◌, suc, ◌+◌, ◌-◌, ◌<◌, List, length, slice_index_or, sym, ap, ◌∙◌, arith}
use Rattle.std.proofs.lemmas.List.{get_or_default}
use Rattle.tla_tree.specs.Tree.{Name}
use Rattle.tla_tree.proofs.PoolNumbers.{past_at}
use Rattle.pcal_tree.specs.InMemory.{past_number}
use Rattle.label_steps.specs.ParamsIn.{place_from}
use Rattle.label_steps.proofs.ParamLaws.{no_place, late_place, found_place}
use Rattle.label_steps.proofs.params.Params.argument.Goals as goal

pub returns-then-place-eq0-clause-value : goal.returns-then-place-eq0-clause-value
returns-then-place-eq0-clause-value c = λ ts.
    let x = c.args.name.now in
    let e : c.get-place.result ≡ place_from 1 c.args.self.now x = c.get-place.ensures ∙ c.self.invariant x ∙ ap (λ (ps : List Name). place_from 1 ps x) c.self.view_is in
    no_place ts x 0 c.args.self.now c.args.args.now (sym e ∙ c.if-place-eq0.true)

pub returns-then-place-args-clause-value : goal.returns-then-place-args-clause-value
returns-then-place-args-clause-value c = λ ts.
    let x = c.args.name.now in
    let e : c.get-place.result ≡ place_from 1 c.args.self.now x = c.get-place.ensures ∙ c.self.invariant x ∙ ap (λ (ps : List Name). place_from 1 ps x) c.self.view_is in
    late_place ts x 0 c.args.self.now c.args.args.now (omega (arith, e, c.if-place-args.true))

pub returns-clause-value : goal.returns-clause-value
returns-clause-value c = λ ts.
    let x = c.args.name.now in
    let es = c.args.args.now in
    let i = c.get-place.result - 1 in
    let e : c.get-place.result ≡ place_from 1 c.args.self.now x = c.get-place.ensures ∙ c.self.invariant x ∙ ap (λ (ps : List Name). place_from 1 ps x) c.self.view_is in
    let one : c.get-place.result ≡ suc (0 + i) = omega (arith, c.if-place-eq0.false) in
    let inside : i < length es = omega (arith, c.if-place-args.false, c.if-place-eq0.false) in
    found_place ts x 0 c.args.self.now es i (slice_index_or es i 0) (sym e ∙ one) inside (get_or_default es i 0 (slice_index_or es i 0) inside)

pub returns-clause-within : goal.returns-clause-within
returns-clause-within c =
    let es = c.args.args.now in
    let i = c.get-place.result - 1 in
    let inside : i < length es = omega (arith, c.if-place-args.false, c.if-place-eq0.false) in
    let less = past_at past_number es i (slice_index_or es i 0) (get_or_default es i 0 (slice_index_or es i 0) inside) inside in
    omega (arith, less)
