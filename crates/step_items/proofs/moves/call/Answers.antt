-- Proves that a call enters the first procedure of its name, or is a choice of nothing.
use Rattle.std.proofs.Common.{◌≡◌, List, Vec, Global, Option, Some, None, length, sym, ap, ◌∙◌, subst, arith}
use Rattle.tla_token.specs.Signs.{is_among}
use Rattle.tla_token.specs.Places.{nowhere}
use Rattle.tla_tree.specs.Tree.{Word, Trees, grafts}
use Rattle.tla_tree.specs.Pool.{trees_at}
use Rattle.module_tree.specs.Module.{no_items, item}
use Rattle.module_tree.specs.Module as tree
use Rattle.module_tree.specs.Formulas.{self}
use Rattle.module_write.specs.declared.«module».Item.{Item}
use Rattle.module_write.specs.declared.«module».Item.TheVariants.{Either}
use Rattle.module_write.specs.InMemory.{item_at, items_at, branches_at, past_branches}
use Rattle.module_write.proofs.ItemEquations.{either_at, past_either}
use Rattle.pcal_tree.specs.Algorithm.{Routine, procedure_routine, procedure_routines, Statements, either, no_branches, done, then}
use Rattle.pcal_tree.specs.Calls.{routine_named}
use Rattle.pcal_tree.specs.Expand.{graft_all}
use Rattle.pcal_tree.specs.InMemory.{procedure_at}
use Rattle.pcal_tree.specs.Variables.{vars}
use Rattle.pcal_tree.proofs.StepVariables.{named_one}
use Rattle.action_builder.specs.Jumps.{spot, call_to}
use Rattle.action_builder.specs.LabelActions.{no_jump_places, written_initials}
use Rattle.action_builder.specs.Written.{onto}
use Rattle.action_builder.specs.WrittenNames.{renames}
use Rattle.right_sides.specs.After.{put_items}
use Rattle.step_items.specs.Writing.{own_of, Plain, Writes}
use Rattle.step_items.proofs.DeskLaws.{desk_kept}
use Rattle.step_items.proofs.WritesLaws.{if_ok, none_put, item_pushed, past_pushed, writes_from}
use Rattle.step_items.proofs.moves.call.Goals as goal

pub returns-in-Some-clause-made : goal.returns-in-Some-clause-made
returns-in-Some-clause-made c = λ P u x h s j is plain.
    let ts = c.args.pool.now in
    let us = c.named_numbers.new.pool in
    let kept = c.in_ok-named.ensures.kept in
    let desk = desk_kept ts us kept c.args.desk.now P u x c.requires.desk h in
    let p : Routine = procedure_routine c.in-Some.callee.number (procedure_at us c.in-Some.callee.procedure.now) in
    let found : routine_named c.args.name.now.word (procedure_routines P.algorithm) ≡ Some p =
    ap (λ (w : Word). routine_named w (procedure_routines P.algorithm)) (sym (ap (λ n. n.word) c.name.view_is)) ∙ c.in-Some.ensures.named us P u x desk in
    let put : trees_at us c.deref.result.now ≡ grafts (renames P u) (trees_at ts c.args.arguments.now) = ap (trees_at us) c.deref.ensures.value ∙ c.in_ok-named.ensures.tree P u x h in
    let of : Option Routine → Trees → Statements = λ o es. graft_all (own_of P) (call_to P u (written_initials P) no_jump_places s es c.args.follow.now j o) in
    let same : of (Some p) (trees_at us c.deref.result.now) ≡ of (routine_named c.args.name.now.word (procedure_routines P.algorithm)) (grafts (renames P u) (trees_at ts c.args.arguments.now)) = λ k. of (sym found k) (put k) in
    if_ok c.enter_with.result _ _ (c.enter_with.ensures.made P u x desk (named_one c.args.name.now.word (procedure_routines P.algorithm) p found) s j is (subst (Plain P) (sym same) plain)) (λ r w.
    subst (Writes P (put_items self x) ts c.enter_with.new.pool c.args.out.now.items c.enter_with.new.out.items c.args.before.now r) same
    (writes_from P (put_items self x) ts us c.enter_with.new.pool c.args.out.now.items c.enter_with.new.out.items c.args.before.now r (of (Some p) (trees_at us c.deref.result.now)) kept c.requires.items w))

pub returns-clause-made : goal.returns-clause-made
returns-clause-made c = λ P u x h s j is plain.
    let ts = c.args.pool.now in
    let us = c.named_numbers.new.pool in
    let kept = c.in_ok-named.ensures.kept in
    let desk = desk_kept ts us kept c.args.desk.now P u x c.requires.desk h in
    let found : routine_named c.args.name.now.word (procedure_routines P.algorithm) ≡ None =
    ap (λ (w : Word). routine_named w (procedure_routines P.algorithm)) (sym (ap (λ n. n.word) c.name.view_is)) ∙ c.in-None.ensures.named us P u x desk in
    let none : item_at us (Either c.new.result) ≡ tree.either tree.no_branches = either_at us c.new.result ∙ ap (λ (bs : List (Vec Item Global)). tree.either (branches_at us bs)) c.new.ensures.items in
    let made : Writes P (put_items self x) ts us c.args.out.now.items c.push.new.self.items c.args.before.now c.empty.result (then (spot nowhere) (either no_branches) done) = record {
      items =
          item_pushed ts us kept c.args.out.now.items c.push.new.self.items (Either c.new.result) (tree.either tree.no_branches) c.requires.items c.in_ok-push-in-None.ensures.items none
          ∙ ap (onto (items_at ts c.args.out.now.items)) (sym (none_put self x));
      names = λ y. ap (λ (xs : List Word). is_among xs y) (c.empty.ensures.names (vars P));
    } in
    subst (λ (o : Option Routine). Writes P (put_items self x) ts us c.args.out.now.items c.push.new.self.items c.args.before.now c.empty.result
    (graft_all (own_of P) (call_to P u (written_initials P) no_jump_places s (grafts (renames P u) (trees_at ts c.args.arguments.now)) c.args.follow.now j o))) (sym found) made

pub returns-clause-within : goal.returns-clause-within
returns-clause-within c =
    let none = ap past_branches c.new.ensures.items in
    past_pushed (length c.args.pool.now) (length c.named_numbers.new.pool) c.args.out.now.items c.push.new.self.items (Either c.new.result) c.requires.items c.in_ok-named.ensures.kept.longer
    (omega (arith, past_either c.new.result, none)) c.in_ok-push-in-None.ensures.items
