-- Actions, and definitions, that follow one another.
use Rattle.std.proofs.Common.{◌≡◌, ℕ, ◌<◌, List, [], ◌∷◌, ◌++◌, Option, Some, None, refl, sym, ap, ◌∙◌, subst, append_assoc, append-nil}
use Rattle.std.specs.Prelude.{option_map}
use Rattle.std.proofs.lemmas.List.{map_push}
use Rattle.std.specs.Vec.Iter.{into_iter_items}
use Rattle.tla_value.specs.declared.names.Definition.{Definition}
use Rattle.tla_value.specs.Definitions as value
use Rattle.tla_value.specs.Defs.{definition_at, definitions_at, DefinitionsIn}
use Rattle.module_tree.specs.Module.{Region}
use Rattle.module_tree.specs.Module as tree
use Rattle.module_write.specs.declared.«module».Action.{Action}
use Rattle.module_write.specs.InMemory.{action_at, actions_at, BodyIn, ActionsIn}
use Rattle.region_reading.specs.RegionReader.{no_definition, no_action, one_action_more, one_definition_more, from_terminating, from_actions, from_vars, from_definitions}
use Rattle.region_made.specs.declared.unit.Unit.{Unit as Kept}
use Rattle.region_made.specs.declared.unit.Unit.TheVariants as unit
use Rattle.region_made.specs.UnitsAt.{units_at}
use Rattle.region_made.specs.Parts.{ahead, with_actions, with_definitions, Parts}
use Rattle.region_made.proofs.UnitsTaken.{Units, no_action_there, no_definition_there}

-- ---- actions

abbrev actions_first : List tree.Action → Region → Region
actions_first acts r = record r { actions = acts ++ r.actions }

-- these are the first actions
abbrev pub ActionsSoFar : List Action → List Kept → List Kept → Type 0
ActionsSoFar acts us rest = Parts from_actions from_actions (λ ts. actions_first (actions_at ts acts)) (λ m. ActionsIn m acts) us rest

actions_more : (xs : List tree.Action) (x : tree.Action) (o : Option Region) → option_map (actions_first xs) (option_map (one_action_more x) o) ≡ option_map (actions_first (xs ++ x ∷ [])) o
actions_more xs x None = refl
actions_more xs x (Some r) = λ i. Some (record r { actions = sym (append_assoc xs (x ∷ []) r.actions) i })

actions_in : (m : ℕ) (acts : List Action) (a : Action) → ActionsIn m acts → BodyIn m a.body → ActionsIn m (acts ++ a ∷ [])
actions_in m [] a h k = (k, tt)
actions_in m (b ∷ acts) a h k = (h.0, actions_in m acts a h.1 k)

pub action_more : (acts new : List Action) (a : Action) (us : List Kept) (vs : Units) (rest : List Kept) (next : Option Kept) → next ≡ Some (unit.Action a) → new ≡ acts ++ a ∷ [] → into_iter_items vs ≡ rest → ActionsSoFar acts us (ahead next vs) → ActionsSoFar new us rest
action_more acts new a us vs rest next n e i g = subst (λ (bs : List Action). ActionsSoFar bs us rest) (sym e) (subst (ActionsSoFar (acts ++ a ∷ []) us) i more)
  where
    h : ActionsSoFar acts us (unit.Action a ∷ into_iter_items vs)
    h = subst (λ (p : Option Kept). ActionsSoFar acts us (ahead p vs)) n g

    more : ActionsSoFar (acts ++ a ∷ []) us (into_iter_items vs)
    more = record {
      region = λ ts. h.region ts ∙ actions_more (actions_at ts acts) (action_at ts a) (from_actions (units_at ts (into_iter_items vs))) ∙ ap (λ (xs : List tree.Action). option_map (actions_first xs) (from_actions (units_at ts (into_iter_items vs)))) (sym (map_push (action_at ts) acts a));
      within = λ m w. (actions_in m acts a (h.within m w).0 (h.within m w).1.0, (h.within m w).1.1);
    }

pub actions_all : (acts : List Action) (us : List Kept) (rest : Units) (o next : Option Kept) → (o ≡ next) × ((a : Action) → next ≡ Some (unit.Action a) → ⊥) → ActionsSoFar acts us (ahead next rest)
    → Parts from_actions from_terminating (λ ts. with_actions (actions_at ts acts)) (λ m. ActionsIn m acts) us (ahead o rest)
actions_all acts us rest o next e h = subst (λ (p : Option Kept). Parts from_actions from_terminating (λ ts. with_actions (actions_at ts acts)) (λ m. ActionsIn m acts) us (ahead p rest)) (sym e.0) (record {
  region = λ ts. h.region ts ∙ ap (option_map (actions_first (actions_at ts acts))) (no_action_there rest next e.1 ts) ∙ all (actions_at ts acts) (from_terminating (units_at ts (ahead next rest)));
  within = h.within;
})
  where
    all : (xs : List tree.Action) (o : Option Region) → option_map (actions_first xs) (option_map no_action o) ≡ option_map (with_actions xs) o
    all xs None = refl
    all xs (Some r) = λ i. Some (record r { actions = append-nil xs i })

-- ---- definitions

abbrev definitions_first : List value.Definition → Region → Region
definitions_first ds r = record r { definitions = ds ++ r.definitions }

-- these are the first definitions
abbrev pub DefinitionsSoFar : List Definition → List Kept → List Kept → Type 0
DefinitionsSoFar ds us rest = Parts from_definitions from_definitions (λ ts. definitions_first (definitions_at ts ds)) (λ m. DefinitionsIn m ds) us rest

definitions_more : (xs : List value.Definition) (x : value.Definition) (o : Option Region) → option_map (definitions_first xs) (option_map (one_definition_more x) o) ≡ option_map (definitions_first (xs ++ x ∷ [])) o
definitions_more xs x None = refl
definitions_more xs x (Some r) = λ i. Some (record r { definitions = sym (append_assoc xs (x ∷ []) r.definitions) i })

definitions_in : (m : ℕ) (ds : List Definition) (d : Definition) → DefinitionsIn m ds → d.body < m → DefinitionsIn m (ds ++ d ∷ [])
definitions_in m [] d h k = (k, tt)
definitions_in m (b ∷ ds) d h k = (h.0, definitions_in m ds d h.1 k)

pub definition_more : (ds new : List Definition) (d : Definition) (us : List Kept) (vs : Units) (rest : List Kept) (next : Option Kept) → next ≡ Some (unit.Definition d) → new ≡ ds ++ d ∷ [] → into_iter_items vs ≡ rest → DefinitionsSoFar ds us (ahead next vs) → DefinitionsSoFar new us rest
definition_more ds new d us vs rest next n e i g = subst (λ (bs : List Definition). DefinitionsSoFar bs us rest) (sym e) (subst (DefinitionsSoFar (ds ++ d ∷ []) us) i more)
  where
    h : DefinitionsSoFar ds us (unit.Definition d ∷ into_iter_items vs)
    h = subst (λ (p : Option Kept). DefinitionsSoFar ds us (ahead p vs)) n g

    more : DefinitionsSoFar (ds ++ d ∷ []) us (into_iter_items vs)
    more = record {
      region = λ ts. h.region ts ∙ definitions_more (definitions_at ts ds) (definition_at ts d) (from_definitions (units_at ts (into_iter_items vs)))
          ∙ ap (λ (xs : List value.Definition). option_map (definitions_first xs) (from_definitions (units_at ts (into_iter_items vs)))) (sym (map_push (definition_at ts) ds d));
      within = λ m w. (definitions_in m ds d (h.within m w).0 (h.within m w).1.0, (h.within m w).1.1);
    }

pub definitions_all : (ds : List Definition) (us : List Kept) (rest : Units) (o next : Option Kept) → (o ≡ next) × ((d : Definition) → next ≡ Some (unit.Definition d) → ⊥) → DefinitionsSoFar ds us (ahead next rest)
    → Parts from_definitions from_vars (λ ts. with_definitions (definitions_at ts ds)) (λ m. DefinitionsIn m ds) us (ahead o rest)
definitions_all ds us rest o next e h = subst (λ (p : Option Kept). Parts from_definitions from_vars (λ ts. with_definitions (definitions_at ts ds)) (λ m. DefinitionsIn m ds) us (ahead p rest)) (sym e.0) (record {
  region = λ ts. h.region ts ∙ ap (option_map (definitions_first (definitions_at ts ds))) (no_definition_there rest next e.1 ts) ∙ all (definitions_at ts ds) (from_vars (units_at ts (ahead next rest)));
  within = h.within;
})
  where
    all : (xs : List value.Definition) (o : Option Region) → option_map (definitions_first xs) (option_map no_definition o) ≡ option_map (with_definitions xs) o
    all xs None = refl
    all xs (Some r) = λ i. Some (record r { definitions = append-nil xs i })
