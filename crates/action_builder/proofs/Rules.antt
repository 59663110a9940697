-- The assignments written for a routine's jumps, calls and returns do what the rules of a step say.
use Rattle.std.proofs.Common.{◌≡◌, Bool, true, false, not, ◌&&◌, Option, Some, None, refl, sym, ◌∙◌, ap, subst}
use Rattle.tla_token.specs.declared.place.Place.{Place}
use Rattle.tla_tree.specs.Tree.{Word, Trees}
use Rattle.tla_value.specs.Stops.{plain}
use Rattle.tla_value.specs.Meaning.{evals, part_values}
use Rattle.tla_value.specs.laws.Grafting.{In}
use Rattle.pcal_tree.specs.Algorithm.{Name, Span, Routine, procedure_routines}
use Rattle.pcal_tree.specs.Scope.{State, Scope, bound, places_of}
use Rattle.tla_value.specs.Value.{Value}
use Rattle.std.proofs.lemmas.Bool.{and_parts}
use Rattle.action_builder.specs.Written.{old_stack}
use Rattle.pcal_tree.specs.Assign.{after_assignments}
use Rattle.pcal_tree.specs.Run.{Has, after, Partner, no_partner, goto_partner, return_partner, is_return, unlabelled, run}
use Rattle.pcal_tree.specs.Program.{Program, Actor, index}
use Rattle.pcal_tree.specs.Calls.{label_value, label_name, jumped, returned, entered, returned_and_entered, entered_at, finished, routine_named, rules_without_macros}
use Rattle.action_builder.specs.laws.Settling.{to_end, Close, Outcomes, DoesAsRules}
use Rattle.action_builder.specs.laws.Scopes.{Inner}
use Rattle.action_builder.specs.laws.Jumps.{fitting, callable, callable_in_pairs, all_lack, RoutinesStand, RoutinesStandWithin, PairsStand}
use Rattle.action_builder.specs.Jumps.{InitialValues, JumpPlaces, return_assignments, return_written, call_written, pair_written, call_to, written_jumps}
use Rattle.action_builder.proofs.Settle.{close_after, inner_bind}
use Rattle.action_builder.proofs.Jumps.{after_end, pc_law, return_law}
use Rattle.action_builder.proofs.Call.{alike_of, close_finished, call_law}
use Rattle.action_builder.proofs.AnyPlace.{set_same, entered_same, returned_same, returned_and_entered_same}
use Rattle.action_builder.proofs.PairWritten.{pair_law}
use Rattle.pcal_tree.specs.Variables.{pc}

close_trans : (P Q R : Outcomes) → Close P Q → Close Q R → Close P R
close_trans P Q R h k = record {
  ends = λ u. (λ x. (k.ends u).0 ((h.ends u).0 x), λ x. (h.ends u).1 ((k.ends u).1 x));
  faults = (λ x. k.faults.0 (h.faults.0 x), λ x. h.faults.1 (k.faults.1 x));
}

-- a call of x that keeps the label l
keeps_does : (P : Program) (v : Actor) (u : Routine) (I : InitialValues) (sc : Scope) → P.check ≡ plain → RoutinesStand P v u I sc → (c at : Place) (p : Name) (ts : Trees) (l : Word) (x : Routine) → routine_named p.word (procedure_routines P.algorithm) ≡ Some x → fitting P (Some x) ts ≡ true → (s : State) →
    Close (Has (run (rules_without_macros P v u) unlabelled (call_written P x c ts (label_name P u l) (I.place x) (I.initial x)) sc to_end s)) (Has (after (part_values (evals P.check ts) (sc.env s)) (λ vs. finished (entered P v at (label_value P u l) x (places_of ts sc) vs s))))
keeps_does P v u I sc q k c at p ts l x e h s =
    close_trans _ _ _
    (call_law (rules_without_macros P v u) P v x c ts (label_name P u l) (I.place x) (I.initial x) sc refl q (k.called p.word x e) h (k.initials p.word x e c) s)
    (close_after (part_values (evals P.check ts) (sc.env s)) _ _ (λ vs. close_finished _ _ (alike_of _ _ (entered_same P q v c at (label_value P u l) x (places_of ts sc) vs s))))

call_does : (P : Program) (v : Actor) (u : Routine) (I : InitialValues) (places : JumpPlaces) (sc : Scope) → P.check ≡ plain → RoutinesStand P v u I sc → (at : Span) (p : Name) (ts : Trees) (l : Word) (j : Partner) → (o : Option Routine) → routine_named p.word (procedure_routines P.algorithm) ≡ o → (not (is_return j) && fitting P o ts) ≡ true → (s : State) →
    Close (Has (run (rules_without_macros P v u) unlabelled (call_to P u I places at ts l j o) sc to_end s)) (Has (after (part_values (evals P.check ts) (sc.env s)) (λ vs. entered_at P v u at.first o (places_of ts sc) vs l j s)))
call_does P v u I places sc q k at p ts l no_partner None e h s = cc
call_does P v u I places sc q k at p ts l (goto_partner m) None e h s = cc
call_does P v u I places sc q k at p ts l (return_partner end) o e h s = cc
call_does P v u I places sc q k at p ts l no_partner (Some x) e h s = keeps_does P v u I sc q k (places.call at) at.first p ts l x e h s
call_does P v u I places sc q k at p ts l (goto_partner m) (Some x) e h s = keeps_does P v u I sc q k (places.call at) at.first p ts m x e h s

-- a call of x that is one statement with a return in u
replaces_does : (P : Program) (v : Actor) (u : Routine) (I : InitialValues) (places : JumpPlaces) (sc : Scope) → P.check ≡ plain → RoutinesStand P v u I sc → ((w : Value) → RoutinesStand P v u I (bound old_stack w sc)) → PairsStand P v u → (at end : Span) (p : Name) (ts : Trees) (x : Routine) → routine_named p.word (procedure_routines P.algorithm) ≡ Some x → fitting P (Some x) ts ≡ true → all_lack old_stack ts ≡ true → (s : State) →
    Close (Has (run (rules_without_macros P v u) unlabelled (pair_written P u x (places.call at) (places.return end) ts (I.place x) (I.initial x)) sc to_end s)) (Has (after (part_values (evals P.check ts) (sc.env s)) (λ vs. finished (returned_and_entered P v at.first end.first u x (places_of ts sc) vs s))))
replaces_does P v u I places sc q k inside r at end p ts x e h lack s =
    subst (λ c. Close (Has (run (rules_without_macros P v u) unlabelled (pair_written P u x (places.call at) (places.return end) ts (I.place x) (I.initial x)) sc to_end s)) (Has (after (part_values (evals c ts) (sc.env s)) (λ vs. finished (returned_and_entered P v at.first end.first u x (places_of ts sc) vs s))))) (sym q)
    (close_trans _ _ _
    (pair_law P q v u x (places.call at) (places.return end) sc (r p.word x e) k.own (rules_without_macros P v u) q ts h lack (I.place x) (I.initial x)
    (λ w. record { own = (inside w).own; called = (inside w).called p.word x e; initials = (inside w).initials p.word x e (places.call at) }) s)
    (close_after (part_values (evals plain ts) (sc.env s)) _ _ (λ vs. close_finished _ _ (alike_of _ _ (returned_and_entered_same P q v (places.call at) at.first (places.return end) end.first u x (places_of ts sc) vs s)))))

pairs_do : (P : Program) (v : Actor) (u : Routine) (I : InitialValues) (places : JumpPlaces) (sc : Scope) → P.check ≡ plain → RoutinesStand P v u I sc → ((w : Value) → RoutinesStand P v u I (bound old_stack w sc)) → PairsStand P v u → (at : Span) (p : Name) (ts : Trees) (l : Word) (j : Partner) → (o : Option Routine) → routine_named p.word (procedure_routines P.algorithm) ≡ o → (fitting P o ts ≡ true) × (all_lack old_stack ts ≡ true) → (s : State) →
    Close (Has (run (rules_without_macros P v u) unlabelled (call_to P u I places at ts l j o) sc to_end s)) (Has (after (part_values (evals P.check ts) (sc.env s)) (λ vs. entered_at P v u at.first o (places_of ts sc) vs l j s)))
pairs_do P v u I places sc q k inside r at p ts l j None e h s = none h.0
  where
    none : {X : Type 0} → false ≡ true → X
    none z = cc
pairs_do P v u I places sc q k inside r at p ts l no_partner (Some x) e h s = keeps_does P v u I sc q k (places.call at) at.first p ts l x e h.0 s
pairs_do P v u I places sc q k inside r at p ts l (goto_partner m) (Some x) e h s = keeps_does P v u I sc q k (places.call at) at.first p ts m x e h.0 s
pairs_do P v u I places sc q k inside r at p ts l (return_partner end) (Some x) e h s = replaces_does P v u I places sc q k inside r at end p ts x e h.0 h.1 s

pub rules_do : (P : Program) (v : Actor) (u : Routine) (I : InitialValues) (places : JumpPlaces) (f : Word → Bool) (sc : Scope) → P.check ≡ plain → RoutinesStandWithin P v u I f sc → DoesAsRules (rules_without_macros P v u) (written_jumps P u I places) (Inner f sc) (In f) (callable P)
rules_do P v u I places f sc q k = record {
  goto = λ l inner fit s. subst (λ z. Close (Has z) (Has (finished (jumped P v u l s)))) (sym (pc_law (rules_without_macros P v u) P v places.goto (label_name P u l) inner (k inner fit).own.pc s refl))
      (close_finished _ _ (alike_of _ _ (set_same P.check q places.goto v.own.name.place pc (index v.self) (label_value P u l) s)));
  call = λ at p ts l j inner fit h s. call_does P v u I places inner q (k inner fit) at p ts l j (routine_named p.word (procedure_routines P.algorithm)) refl h s;
  return = λ at inner fit r s. subst (λ z. Close (Has z) (Has (finished (returned P v at.first u s)))) (sym (back (places.return at) inner fit s)) (close_finished _ _ (alike_of _ _ (returned_same P q v (places.return at) at.first u s)));
  bind = λ x w inner h fit. inner_bind f sc x w inner h fit;
}
  where
    back : (at : Place) (inner : Scope) → Inner f sc inner → (s : State) → run (rules_without_macros P v u) unlabelled (return_written P u at) inner to_end s ≡ finished (returned P v at u s)
    back at inner fit s = after_end (after_assignments P.check (return_assignments P u at) inner s) ∙ ap finished (return_law P v u inner (k inner fit).own q at s)

-- where a `with` may bind the name of the old stack
pub rules_do_pairs : (P : Program) (v : Actor) (u : Routine) (I : InitialValues) (places : JumpPlaces) (f : Word → Bool) (sc : Scope) → P.check ≡ plain → RoutinesStandWithin P v u I f sc → f old_stack ≡ true → PairsStand P v u → DoesAsRules (rules_without_macros P v u) (written_jumps P u I places) (Inner f sc) (In f) (callable_in_pairs P)
rules_do_pairs P v u I places f sc q k m r =
    let d = rules_do P v u I places f sc q k in
    record {
      goto = d.goto;
      call = λ at p ts l j inner fit h s.
          pairs_do P v u I places inner q (k inner fit) (λ w. k (bound old_stack w inner) (inner_bind f sc old_stack w inner m fit)) r at p ts l j (routine_named p.word (procedure_routines P.algorithm)) refl
          (and_parts (fitting P (routine_named p.word (procedure_routines P.algorithm)) ts) (all_lack old_stack ts) h) s;
      return = d.return;
      bind = d.bind;
    }

-- where there are no procedures, no statement calls or returns: of the variables only pc need stand
pub rules_do_alone : (P : Program) (v : Actor) (u : Routine) (I : InitialValues) (places : JumpPlaces) (f : Word → Bool) (sc : Scope) → P.check ≡ plain
    → ((inner : Scope) → Inner f sc inner → Rattle.action_builder.specs.laws.Scopes.StandsAtPath inner (index v.self) pc)
    → DoesAsRules (rules_without_macros P v u) (written_jumps P u I places) (Inner f sc) (In f) Rattle.action_builder.specs.laws.Jumps.no_calls
rules_do_alone P v u I places f sc q k = record {
  goto = λ l inner fit s. subst (λ z. Close (Has z) (Has (finished (jumped P v u l s)))) (sym (pc_law (rules_without_macros P v u) P v places.goto (label_name P u l) inner (k inner fit) s refl))
      (close_finished _ _ (alike_of _ _ (set_same P.check q places.goto v.own.name.place pc (index v.self) (label_value P u l) s)));
  call = λ at p ts l j inner fit h s. cc;
  return = λ at inner fit r s. cc;
  bind = λ x w inner h fit. inner_bind f sc x w inner h fit;
}
