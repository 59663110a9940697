-- Proves what is asked of `settings`.
use Rattle.std.proofs.Common.{[], ◌∷◌, ◌++◌, arith, sym, ◌∙◌, vec_len}
use Rattle.std.proofs.lemmas.Result.{err_from_is_err_and}
use Rattle.tla_pool.specs.FormOf.{steps_of, slots_of}
use Rattle.tla_tree.specs.Tree.{Slot}
use Rattle.tla_tree.proofs.PoolNumbers.{Keeps-then}
use Rattle.expr_rows.proofs.ReadGrown.{same_pool}
use Rattle.expr_lists.proofs.ReadSettings.{settings_first, bang_lost, path_lost, no_path, equal_lost, side_lost, settings_end, settings_next, paths_push, paths_may, none_there, some_there}
use Rattle.expr_lists.proofs.ListsRead.{settings_many}
use Rattle.expr_lists.proofs.read_setting.settings.Goals as goal

pub loop-all-init : goal.loop-all-init
loop-all-init g c = record {
  settings = rw (c.new.ensures.items, c.new-2.ensures.items) (settings_first _ c.args.tokens.now c.args.s.left c.args.s.edge c.args.place c.args.pool.now c.args.s.at);
  kept = same_pool;
  paths = rw (c.new.ensures.items) tt;
  small = omega arith;
  inside = c.requires.given.there;
  further = omega arith;
}

pub loop-all-preserved : goal.loop-all-preserved
loop-all-preserved g c =
    let s = c.args.s in
    let so_far = c.loop-all.invariant in
    let path = c.in_ok-route.ensures in
    let more = c.in_ok-keep.ensures in
    let slot : Slot = record { path = steps_of c.in_ok-route.route.steps.items; place = c.args.place } in
    let some = some_there _ (vec_len c.in_ok-route.route.steps) (sym c.is_empty.ensures ∙ c.if-is_empty.false) c.in_ok-route.route.steps.ok.0 in
    let one = c.requires.given.reads _ _ _ _ _ (omega arith) c.in_ok-from-2.ensures.inside c.in_ok-a.ensures in
    let next = settings_next _ c.args.tokens.now s.left s.edge c.args.place so_far.settings c.in_ok-from.from _ c.in_ok-from.ensures.value c.in_ok-route.past path.read some c.in_ok-from-2.from _ c.in_ok-from-2.ensures.value c.in_ok-a.next path.kept one.kept one.read c.in-Some.from c.in-Some.ensures.there c.in-Some.ensures.rest in
    record {
      settings = rw (more.slots, more.ids, more.nesting) next;
      kept = Keeps-then _ _ _ so_far.kept (Keeps-then _ _ _ path.kept one.kept);
      paths = rw (more.slots) (paths_may (slots_of c.loop-all.all.slots.items ++ slot ∷ []) (paths_push (slots_of c.loop-all.all.slots.items) slot so_far.paths some));
      small = omega (arith, more.nesting, so_far.small, path.small, one.small);
      inside = c.in-Some.ensures.inside;
      further = omega (arith, so_far.further, c.in_ok-from.ensures.further, path.further, c.in_ok-from-2.ensures.further, one.further, c.in-Some.ensures.further);
    }

pub returns-in_err-from-clause-read : goal.returns-in_err-from-clause-read
returns-in_err-from-clause-read g c =
    let p = err_from_is_err_and c.from_residual.result c.from_residual.ensures.1 in
    rw (p.1, p.2) (bang_lost _ c.args.tokens.now c.args.s.left c.args.s.edge c.args.place c.loop-all.invariant.settings _ c.in_err-from.ensures.value)

pub returns-in_err-route-clause-read : goal.returns-in_err-route-clause-read
returns-in_err-route-clause-read g c =
    let p = err_from_is_err_and c.from_residual-in_err-route.result c.from_residual-in_err-route.ensures.1 in
    rw (p.1, p.2) (path_lost _ c.args.tokens.now c.args.s.left c.args.s.edge c.args.place c.loop-all.invariant.settings c.in_ok-from.from _ c.in_ok-from.ensures.value _ c.in_err-route.ensures.read)

pub returns-then-is_empty-clause-read : goal.returns-then-is_empty-clause-read
returns-then-is_empty-clause-read g c =
    let none = none_there _ (vec_len c.in_ok-route.route.steps) (sym c.is_empty.ensures ∙ c.if-is_empty.true) c.in_ok-route.route.steps.ok.0 in
    no_path _ c.args.tokens.now c.args.s.left c.args.s.edge c.args.place c.loop-all.invariant.settings c.in_ok-from.from _ c.in_ok-from.ensures.value c.in_ok-route.past c.in_ok-route.ensures.read _ none c.refused.ensures

pub returns-in_err-from-2-clause-read : goal.returns-in_err-from-2-clause-read
returns-in_err-from-2-clause-read g c =
    let some = some_there _ (vec_len c.in_ok-route.route.steps) (sym c.is_empty.ensures ∙ c.if-is_empty.false) c.in_ok-route.route.steps.ok.0 in
    let p = err_from_is_err_and c.from_residual-in_err-from-2.result c.from_residual-in_err-from-2.ensures.1 in
    rw (p.1, p.2) (equal_lost _ c.args.tokens.now c.args.s.left c.args.s.edge c.args.place c.loop-all.invariant.settings c.in_ok-from.from _ c.in_ok-from.ensures.value c.in_ok-route.past c.in_ok-route.ensures.read some _ c.in_err-from-2.ensures.value)

pub returns-in_err-a-clause-read : goal.returns-in_err-a-clause-read
returns-in_err-a-clause-read g c =
    let some = some_there _ (vec_len c.in_ok-route.route.steps) (sym c.is_empty.ensures ∙ c.if-is_empty.false) c.in_ok-route.route.steps.ok.0 in
    let one = c.requires.given.reads _ _ _ _ _ (omega arith) c.in_ok-from-2.ensures.inside c.in_err-a.ensures in
    let p = err_from_is_err_and c.from_residual-in_err-a.result c.from_residual-in_err-a.ensures.1 in
    rw (p.1, p.2) (side_lost _ c.args.tokens.now c.args.s.left c.args.s.edge c.args.place c.loop-all.invariant.settings c.in_ok-from.from _ c.in_ok-from.ensures.value c.in_ok-route.past c.in_ok-route.ensures.read some c.in_ok-from-2.from _ c.in_ok-from-2.ensures.value _ one.read)

pub returns-in_default : goal.returns-in_default
returns-in_default g c =
    let s = c.args.s in
    let so_far = c.loop-all.invariant in
    let path = c.in_ok-route.ensures in
    let more = c.in_ok-keep.ensures in
    let slot : Slot = record { path = steps_of c.in_ok-route.route.steps.items; place = c.args.place } in
    let some = some_there _ (vec_len c.in_ok-route.route.steps) (sym c.is_empty.ensures ∙ c.if-is_empty.false) c.in_ok-route.route.steps.ok.0 in
    let one = c.requires.given.reads _ _ _ _ _ (omega arith) c.in_ok-from-2.ensures.inside c.in_ok-a.ensures in
    let all = settings_end _ c.args.tokens.now s.left s.edge c.args.place so_far.settings c.in_ok-from.from _ c.in_ok-from.ensures.value c.in_ok-route.past path.read some c.in_ok-from-2.from _ c.in_ok-from-2.ensures.value c.in_ok-a.next path.kept one.kept one.read c.in_default.ensures.none in
    record {
      read = rw (more.slots, more.ids, more.nesting) all;
      kept = Keeps-then _ _ _ so_far.kept (Keeps-then _ _ _ path.kept one.kept);
      below = rw (more.ids) all.told.below;
      as_many = rw (more.slots, more.ids) (settings_many all.told);
      paths = rw (more.slots) (paths_push (slots_of c.loop-all.all.slots.items) slot so_far.paths some);
      small = omega (arith, more.nesting, so_far.small, path.small, one.small);
      inside = one.inside;
      further = omega (arith, so_far.further, c.in_ok-from.ensures.further, path.further, c.in_ok-from-2.ensures.further, one.further);
    }
