-- Proves that the function is on the identifiers of all.
use Rattle.std.proofs.Common.{[], List, None, map, sym, ap, subst, ◌∙◌}
use Rattle.tla_value.specs.Order.{IsAscending}
use Rattle.tla_value.specs.Value.{Value, fun, values_in}
use Rattle.step_moves.specs.InMemory.{actor_at}
use Rattle.step_meaning.proofs.ActorLaws.{ascending_of, have_ids}
use Rattle.step_meaning.proofs.SpreadLaws.{bounded_is}
use Rattle.step_meaning.proofs.ready.on_all.Goals as goal

pub function_for-requires : goal.function_for-requires
function_for-requires c =
    record {
      ascending = subst (λ (ws : List Value). IsAscending (values_in ws)) (sym c.deref.ensures.value) (ascending_of None (map (actor_at []) c.args.actors.now) c.in_ok-ids.ids.items (c.in_ok-ids.ensures []) (c.requires.ascending []));
    }

pub returns-in-Ok : goal.returns-in-Ok
returns-in-Ok c ts =
    bounded_is c.args.place _ c.in-Ok.all c.in-Ok.ensures
    ∙ ap (λ (ws : List Value). fun (values_in ws) (values_in c.args.values.items)) (c.deref.ensures.value ∙ sym (have_ids (map (actor_at ts) c.args.actors.now) c.in_ok-ids.ids.items (c.in_ok-ids.ensures ts)))
