-- The action of a label, with its test of pc, is true exactly where the process steps from that label.
use Rattle.std.proofs.Common.{◌≡◌, List, [], ◌∷◌, ◌++◌, Bool, true, false, cond, bytes_eq, Option, Some, None, refl, sym, ◌∙◌, ap, Ok, Err}
use Rattle.std.proofs.lemmas.Bool.{both_ways}
use Rattle.std.proofs.lemmas.Slice.Eq.{bytes_eq-Decides}
use Rattle.tla_token.specs.declared.place.Place.{Place}
use Rattle.tla_token.specs.Places.{nowhere}
use Rattle.tla_token.specs.Signs.{is_among}
use Rattle.tla_tree.specs.Tree.{Word, Every, operator}
use Rattle.tla_tree.specs.declared.op.Op.TheVariants.{Equal}
use Rattle.tla_value.specs.Value.{Value, truth, text, Trouble, Outcome, ◌>>=◌, TrueExactly, and_then, fun, fault, int, model, set}
use Rattle.tla_value.specs.Order.{same, found_at}
use Rattle.tla_value.specs.OrderLaws.{same_is, same_self}
use Rattle.tla_value.specs.Stops.{plain, truth_at, sense_of}
use Rattle.tla_value.specs.Strict.{applied, strict_value}
use Rattle.tla_value.specs.Meaning.{Env, just}
use Rattle.tla_value.specs.Grafts.{owned, through as through_env}
use Rattle.tla_value.specs.Definitions.{Valuation, Definition, scope_of, or_sense, base}
use Rattle.tla_value.proofs.Graft.{grafted_law}
use Rattle.module_tree.specs.Formulas.{self, named, quoted, equal}
use Rattle.module_tree.specs.ActionTruth.{truth_in, items_hold}
use Rattle.module_tree.proofs.Tells.{tells_and, tells_as}
use Rattle.pcal_tree.specs.Scope.{State, Scope}
use Rattle.pcal_tree.specs.Run.{Has}
use Rattle.pcal_tree.specs.Program.{Program, Actor, index, read_at}
use Rattle.pcal_tree.specs.Processes.{OneOf, identifier}
use Rattle.pcal_tree.specs.Calls.{label_name, label_value}
use Rattle.pcal_tree.specs.Variables.{vars, pc}
use Rattle.pcal_tree.specs.StepStart.{at_label}
use Rattle.pcal_tree.specs.Step.{Stand, pc_of, routines_of, StandsAt, StepFrom, course_of}
use Rattle.action_builder.specs.OwnVariables.{is_own_variable}
use Rattle.action_builder.specs.LabelActions.{at_test, items_from}
use Rattle.action_builder.specs.Prepared.{none}
use Rattle.action_builder.specs.laws.Scopes.{part_at, own_path, own_scope, Whole, StandsAtPath}
use Rattle.action_builder.specs.laws.Settling.{Callable}
use Rattle.action_builder.specs.laws.Ready.{Readable, values_of, holds_on}
use Rattle.action_builder.specs.laws.LabelSteps.{IsPrepared, IsReady, action_of as step_action}
use Rattle.action_builder.proofs.Prepared.{own_stands}
use Rattle.action_builder.specs.laws.WrittenScope.{self_bound, written_part, definitions_of, NamesApart}
use Rattle.action_builder.specs.laws.StepsOfLabels.{step_of, pair_env, NamesGiven, Goes, PcStands}
use Rattle.action_builder.proofs.StepsOfLabels.{label_exactly}
use Rattle.std.specs.Option.{ok_or}
use Rattle.tla_value.specs.declared.fault.FaultKind.TheVariants.{NotInDomain, NotFunction}
use Rattle.pcal_tree.specs.Algorithm.{Algorithm, Naming}
use Rattle.tla_value.proofs.Untitled.{looked_through}
use Rattle.tla_value.specs.laws.Grafting.{BindsClear}

-- ---- the test of pc

abbrev good : Value → Outcome Value
good z = Ok z

one_value : (x y : Value) → good x ≡ good y → x ≡ y
one_value x y e = ap (λ (o : Outcome Value). elim o [ Ok z ↦ z | Err k ↦ x ]) e

-- what is read at a path doesn't rest on the place
pub applied_anywhere : (p q : Place) (f k v : Value) → applied p f k ≡ Ok v → applied q f k ≡ Ok v
applied_anywhere p q (fun ds rs) k v e = by (found_at ds rs k) e
  where
    by : (o : Option Value) → ok_or o (fault NotInDomain p) ≡ Ok v
        → ok_or o (fault NotInDomain q) ≡ Ok v
    by (Some w) e = ap (λ (o : Outcome Value). elim o [ Ok x ↦ Ok x | Err k ↦ Ok w ]) e
    by None e = cc
applied_anywhere p q (truth b) k v e = cc
applied_anywhere p q (int z) k v e = cc
applied_anywhere p q (text w) k v e = cc
applied_anywhere p q (model w) k v e = cc
applied_anywhere p q (set vs) k v e = cc

read_anywhere : (p q : Place) (path : List Value) (f v : Value) → read_at p path f ≡ Ok v → read_at q path f ≡ Ok v
read_anywhere p q [] f v e = e
read_anywhere p q (k ∷ ks) f v e = by (λ w h. read_anywhere p q ks w v h) (applied p f k) refl e
  where
    by : ((w : Value) → read_at p ks w ≡ Ok v → read_at q ks w ≡ Ok v) → (o : Outcome Value) → applied p f k ≡ o → (o >>= (read_at p ks)) ≡ Ok v → (applied q f k >>= (read_at q ks)) ≡ Ok v
    by h (Ok w) d e = (λ i. applied_anywhere p q f k w d i >>= (read_at q ks)) ∙ h w e
    by h (Err z) d e = cc

module _ (constants : Valuation) (outside : List Definition) (a : Algorithm) (names : Naming) (extra : List Definition) (v : Actor) (d : Stand) where
  abbrev P : Program
  P = record { check = plain; constants = constants; outside = outside; algorithm = a; naming = names }

  abbrev E : State → State → Env
  E s t = pair_env P extra v s t

  module _ (k : NamesApart P extra v d.routine) (c : PcStands P v) (t : State) where
    -- the scope of the pairs with this second state
    abbrev W : Scope
    W = record { env = λ s. E s t; part = λ x at s. written_part P x; origin = λ x at. at }

    apart_self : (x : Word) → is_among (vars P) x ≡ true → bytes_eq self x ≡ false
    apart_self x m = by (bytes_eq self x) refl
      where
        by : (b : Bool) → bytes_eq self x ≡ b → b ≡ false
        by true q = absurd (both_ways (is_among (vars P) self) k.self_free (ap (is_among (vars P)) ((bytes_eq-Decides self x).0 q) ∙ m))
        by false q = refl

    whole : Whole (is_among (vars P)) self (identifier v.self) (is_own_variable P) W
    whole = record {
      part = λ x m at s. ap (λ b. cond b (Ok (part_at x [])) (Err (fault NotFunction nowhere))) m;
      identity = λ x o at s. identified ((k.own x o).1.0) ((k.own x o).1.1) at s;
    }
      where
        identified : (w : Value) → v.self ≡ Some w → (at : Place) (s : State) → (W.env s).now self at ≡ just (identifier v.self)
        identified w q at s = (λ i. (self_bound (q i) (scope_of plain constants (definitions_of P ++ extra) (values_of (vars P) s) (values_of (vars P) t))).now self at) ∙ ap (λ (o : Option Value). just (identifier o)) (sym q)

    pc_reads : (at : Place) (s : State) → (W.env s).now pc at ≡ just (s pc)
    pc_reads at s =
        other v.self (scope_of plain constants (definitions_of P ++ extra) (values_of (vars P) s) (values_of (vars P) t)) pc at (apart_self pc c.among)
        ∙ looked_through plain (definitions_of P ++ extra) _ pc at (k.untitled pc c.among)
        ∙ ap (λ b. or_sense (cond b (Some (s pc)) None) ((base plain constants).now pc at)) c.among
      where
        other : (w : Option Value) (e : Env) (x : Word) (at : Place) → bytes_eq self x ≡ false → (self_bound w e).now x at ≡ e.now x at
        other (Some w) e x at q = ap (λ b. cond b (just w) (e.now x at)) q
        other None e x at q = refl

    pc_stands : StandsAtPath (own_scope plain self (is_own_variable P) W) (own_path (is_own_variable P pc) (identifier v.self)) pc
    pc_stands = own_stands plain (is_among (vars P)) self (identifier v.self) (is_own_variable P) W whole pc c.among pc_reads

    -- pc[self] = "L", or pc = "L"
    test_is : (s : State) (l : Word) → Every (BindsClear plain (owned self (is_own_variable P))) (equal (named pc) (quoted (label_name P d.routine l))) → (w : Value) → pc_of v s ≡ Ok w
        → truth_in plain (E s t) (at_test P d.routine l) ≡ Ok (same w (label_value P d.routine l))
    test_is s l clear w e =
        (λ i. (grafted_law plain (owned self (is_own_variable P)) (equal (named pc) (quoted (label_name P d.routine l))) clear (E s t) (through_env plain (owned self (is_own_variable P)) (E s t))
        (record { now = λ x u at. refl; primed = λ x at. refl; defs = λ x u. refl }) i).value >>= (truth_at nowhere))
        ∙ (λ i. ((((pc_stands nowhere s).1 ∙ (λ j. sense_of (read_at nowhere (c.path j) (s pc))) ∙ (λ j. sense_of (read_anywhere v.own.name.place nowhere (index v.self) (s pc) w e j))) i).value
        >>= (λ x. Ok (x ∷ text (label_name P d.routine l) ∷ []))) >>= (strict_value plain (operator Equal) nowhere) >>= (truth_at nowhere))

    -- the label's action on a pair of states, without trouble: true exactly if the process steps from there
    pub label_true : (s : State) (w : Value) → pc_of v s ≡ Ok w → OneOf d.routine (routines_of P v) → at_label d.routine d.label ≡ Some d.begins
        → NamesGiven P extra d → (binds : Word → Bool) (callable : Callable) → IsPrepared (step_of P extra v d binds callable) → (U : Readable) → IsReady U (vars P) (E) none (step_of P extra v d binds callable)
        → ((q : Trouble) → StandsAt P s v d → Has (course_of P v d s) (Err q) → ⊥)
        → TrueExactly (items_hold plain (values_of (vars P) s) (values_of (vars P) t) (E s t) (items_from P d.routine d.label (Some d.begins))) (StepFrom P v d s t)
    label_true s w e one at n binds callable p U r fine =
        let first = truth_in plain (E s t) (at_test P d.routine d.label) in
        let then = holds_on (vars P) E (step_action (vars P) (step_of P extra v d binds callable)) s t in
        let here : Type 0 = pc_of v s ≡ Ok (label_value P d.routine d.label) in
        tells_as (and_then first then) (here × Goes P v d s t) (StepFrom P v d s t)
        (tells_and first then here (Goes P v d s t) (
          same w (label_value P d.routine d.label),
          test_is s d.label (tt, ((tt, tt), ((tt, tt), tt))) w e,
          (λ q. e ∙ ap (λ z. Ok z) (same_is w (label_value P d.routine d.label) q), λ q. ap (λ z. same z (label_value P d.routine d.label)) (one_value w (label_value P d.routine d.label) (sym e ∙ q)) ∙ same_self (label_value P d.routine d.label)),
        )
        (λ q. label_exactly P extra v d binds callable refl k n p U r s t (λ z. fine z (one, at, q))))
        (λ h. ((one, at, h.0), h.1)) (λ h. (h.0.2, h.1))
