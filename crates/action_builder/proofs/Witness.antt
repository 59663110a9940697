-- The sample step meets all that the laws ask.
use Rattle.std.proofs.Common.{◌≡◌, List, [], ◌∷◌, Bool, true, false, cond, bytes_eq, codes, Option, Some, None, refl, sym, subst}
use Rattle.tla_token.specs.Signs.{is_among}
use Rattle.tla_token.specs.declared.place.Place.{Place}
use Rattle.tla_tree.specs.Tree.{Word, Each}
use Rattle.tla_value.specs.Stops.{plain}
use Rattle.tla_value.specs.Meaning.{Env, just}
use Rattle.tla_value.specs.Value.{Value}
use Rattle.tla_value.specs.Standard.{standard_of, standard_called}
use Rattle.tla_value.specs.Definitions.{with_arguments, body_sense}
use Rattle.action_builder.specs.laws.States.{mid}
use Rattle.tla_value.specs.Grafts.{owned, own_part}
use Rattle.pcal_tree.specs.Algorithm.{Routine}
use Rattle.pcal_tree.specs.Scope.{State, Scope, origin_in}
use Rattle.pcal_tree.specs.laws.Expansion.{Calls, FineCall, BareBodies}
use Rattle.pcal_tree.specs.Program.{local_index}
use Rattle.pcal_tree.specs.Variables.{pc, stack, written_all}
use Rattle.action_builder.specs.Assigned.{Names, more}
use Rattle.tla_value.specs.laws.Grafting.{Apart}
use Rattle.tla_value.proofs.Graft.{apart_clear}
use Rattle.tla_value.proofs.Owned.{owned_apart}
use Rattle.action_builder.proofs.Equal.{other-name}
use Rattle.std.proofs.lemmas.Bool.{or_parts, or_right}
use Rattle.action_builder.specs.laws.Ready as Ready
use Rattle.action_builder.specs.laws.Ready.{Settled, Paired, Scoped}
use Rattle.action_builder.specs.laws.Scopes.{StandsAtPath, Inner, own_scope, own_path, Whole}
use Rattle.action_builder.specs.laws.Jumps.{RoutineStands, Initials, RoutinesStand, RoutinesStandWithin, PairStands, PairsStand}
use Rattle.action_builder.specs.Settled.{settled}
use Rattle.action_builder.specs.laws.LabelSteps.{prepared_of, IsPrepared, IsReady}
use Rattle.action_builder.specs.Prepared.{none}
use Rattle.action_builder.specs.laws.Sample.{macros, unexpanded, program, routine, called, me, actor, self, variables, own, larger_of_two, variables_env, plain_env, plain_scope, scope, env, any_name, initials, places, step}
use Rattle.action_builder.proofs.Names.{each_name}
use Rattle.action_builder.proofs.Decided.{clear_list, fine_list}
use Rattle.action_builder.proofs.Prepared.{own_stands}
use Rattle.action_builder.proofs.Rules.{rules_do}
use Rattle.action_builder.proofs.Matching.{paired_bound, scoped_bound}

-- ---- macros

pub sample_calls : Calls (FineCall macros) unexpanded
sample_calls = (((((tt, tt), (tt, ((tt, tt), ((tt, tt), tt))), tt), tt), (tt, tt), tt, (tt, tt)), (tt, (tt, (((tt, tt), (tt, tt)), (tt, tt)))))

pub sample_bare : BareBodies macros
sample_bare = ((tt, tt), tt)

-- ---- scopes

whole : Whole (is_among variables) self me own scope
whole = record { part = λ x m at s. refl; identity = λ x o at s. refl }

scoped : Scoped variables plain_scope
scoped = record { part = λ x m at s. refl; reads = λ x m at s. refl }

reads : Scoped variables scope
reads = scoped_bound variables plain_scope self me refl scoped

there : (x : Word) → is_among variables x ≡ true → StandsAtPath (own_scope plain self own scope) (own_path (own x) me) x
there x m = own_stands plain (is_among variables) self me own scope whole x m (reads.reads x m)

-- with no names bound, the scope is the one
only_scope : (sc inner : Scope) → Inner (λ w. false) sc inner → inner ≡ sc
only_scope sc inner ([], k, e) = e
only_scope sc inner (b ∷ bs, k, e) = cc

origins : (x : Word) (at : Place) → (own_scope plain self own scope).origin x at ≡ at
origins x at = by (own x)
  where
    by : (b : Bool) → origin_in (cond b (Some (own_part self x at)) None) x at scope ≡ at
    by true = refl
    by false = refl

machine : (p : Routine) → Each (StandsAtPath (own_scope plain self own scope) (local_index actor p)) (written_all program p (Rattle.pcal_tree.specs.Algorithm.locals p)) → RoutineStands program actor p (own_scope plain self own scope)
machine p h = record {
  pc = there pc refl;
  stack = there stack refl;
  own = h;
  head = λ s. refl;
  tail = λ s. refl;
  origin = origins;
}

pub some_is : (b : Bool) (r p : Routine) → ◌≡◌ {A = Option Routine} (cond b (Some r) None) (Some p) → r ≡ p
some_is true r p e = cc
some_is false r p e = cc

machines : RoutinesStand program actor routine initials (own_scope plain self own scope)
machines = record {
  own = machine routine (there (codes "y") refl, tt);
  called = λ x p e. subst (λ q. RoutineStands program actor q (own_scope plain self own scope)) (some_is (bytes_eq (codes "P") x) _ p e) (machine _ (there (codes "a") refl, (there (codes "b") refl, tt)));
  initials = λ x p e at. subst (λ q. Initials program actor q at (own_scope plain self own scope) (initials.initial q) q.variables) (some_is (bytes_eq (codes "P") x) _ p e) ((λ s. refl), tt);
}

pub within : RoutinesStandWithin program actor routine initials (λ w. false) (own_scope plain self own scope)
within inner k = subst (RoutinesStand program actor routine initials) (sym (only_scope (own_scope plain self own scope) inner k)) machines

-- ---- the step

-- names that no expression may bind
abbrev avoided : Word → Bool
avoided w = is_among (self ∷ variables) w

own_apart : (x : Word) → avoided x ≡ false → Apart (owned self own) x
own_apart x h =
    let p = or_parts (bytes_eq self x) (is_among variables x) h in
    owned_apart self own x (or_parts (bytes_eq (codes "x") x) (own x) p.1).1 (other-name self x p.0)

pub prepared : IsPrepared step
prepared = record {
  free = λ x at p s. refl;
  does = rules_do program actor routine initials places (λ w. false) (own_scope plain self own scope) refl within;
  tidy = (tt, (tt, (tt, (((tt, tt), (refl, tt), (λ e. tt)), tt))));
  clean = clear_list avoided plain (owned self own) (λ x h. apart_clear plain (owned self own) x (own_apart x h)) (settled step.jumps step.here step.exit step.statements) refl;
}

pub apart : (A : Names) (xs : List Word) → Each (λ w. A w ≡ false) xs → Ready.Apart A xs
apart A xs h = each_name (λ w. A w ≡ false) xs h

-- Max reads its arguments alone
max_same : (e f : Env) (at : Place) (vs : List Value) → body_sense plain larger_of_two (with_arguments larger_of_two.params vs e) at ≡ body_sense plain larger_of_two (with_arguments larger_of_two.params vs f) at
max_same e f at [] = refl
max_same e f at (v ∷ []) = refl
max_same e f at (v ∷ w ∷ []) = refl
max_same e f at (v ∷ w ∷ u ∷ us) = refl

paired : Paired any_name variables plain_scope plain_env
paired = record {
  halfway = λ A w s t. record { now = λ y u at. by (A y) s t y; defs = λ y u. defs y (variables_env s t) (variables_env (mid s t A) (mid s t A)) };
  print = λ s t. refl;
  assert = λ s t. refl;
}
  where
    defs : (y : Word) (e f : Env) → cond (bytes_eq (codes "Max") y) (Some (λ at vs. body_sense plain larger_of_two (with_arguments larger_of_two.params vs e) at)) (standard_called plain (standard_of y))
        ≡ cond (bytes_eq (codes "Max") y) (Some (λ at vs. body_sense plain larger_of_two (with_arguments larger_of_two.params vs f) at)) (standard_called plain (standard_of y))
    defs y e f = λ i. cond (bytes_eq (codes "Max") y) (Some (λ at vs. max_same e f at vs i)) (standard_called plain (standard_of y))

    by : (b : Bool) (s t : State) (y : Word) → just (cond b (t y) (s y)) ≡ cond b (just (t y)) (just (s y))
    by true s t y = refl
    by false s t y = refl

abbrev pub after_x : Names
after_x = more none (codes "x" ∷ [])

abbrev pub after_y : Names
after_y = more after_x (codes "y" ∷ [])

abbrev pub after_await : Names
after_await = more after_y []

abbrev pub after_call : Names
after_call = more after_await (stack ∷ codes "a" ∷ [])

abbrev pub after_b : Names
after_b = more after_call (codes "b" ∷ [])

settled_step : Settled (is_among variables) (prepared_of step)
settled_step = ((refl, tt), ((refl, tt), (tt, ((((refl, tt), tt), ((refl, (refl, tt)), ((refl, tt), ((refl, tt), tt)))), tt))))

pub ready : IsReady any_name variables env none step
ready = record {
  settled = settled_step;
  fine = fine_list avoided variables (λ x m. or_right (bytes_eq self x) (is_among variables x) m) none (λ x e. cc) (prepared_of step) settled_step refl;
  once = (
    apart none (codes "x" ∷ []) (refl, tt),
    (
      apart after_x (codes "y" ∷ []) (refl, tt),
      (
        tt,
        (
          (
            (apart after_await (pc ∷ []) (refl, tt), tt),
            (apart after_await (stack ∷ codes "a" ∷ []) (refl, (refl, tt)), (apart after_call (codes "b" ∷ []) (refl, tt), (apart after_b (pc ∷ []) (refl, tt), tt))),
          ),
          tt,
        ),
      ),
    ),
  );
  within = λ x e. cc;
  stands = record { paired = paired_bound any_name variables plain_scope plain_env self me refl paired; scoped = reads };
}

-- ---- a call of the procedure in itself, with a return

-- its own initial value is a number
pub pairs_stand : PairsStand program actor called
pairs_stand x p e = subst (PairStands program actor called) (some_is (bytes_eq (codes "P") x) called p e) own_call
  where
    own_call : PairStands program actor called called
    own_call = record {
      same = λ n. refl;
      pc_of_u = (refl, (refl, tt));
      pc_of_p = (refl, (refl, tt));
      stack_of_u = (refl, (refl, tt));
      stack_of_p = (refl, (refl, tt));
      apart = λ n. cc;
      unread = λ n at. cc;
      once = ((refl, tt), (tt, tt));
      initials = λ at. (((λ w s. refl), ((λ w s. refl), tt)), tt);
    }
