-- A translation with one more part, before those that it has.
use Rattle.std.proofs.Common.{◌≡◌, ℕ, ◌<◌, List, [], ◌∷◌, map, Vec, Global, Option, Some, None, IfSome, refl, sym, ap, ◌∙◌, subst}
use Rattle.std.specs.Prelude.{option_map}
use Rattle.tla_tree.specs.Tree.{Word, Tree}
use Rattle.tla_tree.specs.Pool.{at, AllBelow}
use Rattle.tla_value.specs.declared.names.Definition.{Definition}
use Rattle.tla_value.specs.Defs.{definitions_at, DefinitionsIn}
use Rattle.module_tree.specs.Module.{RegionUnit}
use Rattle.module_tree.specs.Module as tree
use Rattle.module_write.specs.declared.«module».Action.{Action}
use Rattle.module_write.specs.declared.«module».Way.{Way}
use Rattle.module_write.specs.declared.«module».Fairness.{Fairness}
use Rattle.module_write.specs.declared.«module».Region.{Region}
use Rattle.module_write.specs.InMemory.{region_at, fairness_at, AllFairnessIn, actions_at, ways_at, ActionsIn, WaysIn, MaybeIn, RegionIn}
use Rattle.region_reading.specs.RegionReader as part
use Rattle.region_made.specs.declared.unit.Unit.{Unit as Kept}
use Rattle.region_made.specs.declared.unit.Unit.TheVariants as unit
use Rattle.region_made.specs.UnitsAt.{units_at}
use Rattle.region_made.specs.Parts.{with_actions, with_definitions, IsMade, Parts}

pub none_made : (from : List RegionUnit → Option tree.Region) (us : List Kept) → ((ts : List Tree) → from (units_at ts us) ≡ None) → IsMade from us None
none_made from us h = record { region = λ ts. sym (h ts); within = λ m w. tt }

-- f puts a part into the translation
pub record Puts (put : List Tree → tree.Region → tree.Region) (PartIn : ℕ → Type 0) (f : Region → Region) : Type 0 where
  pub region : (ts : List Tree) (r : Region) → region_at ts (f r) ≡ put ts (region_at ts r)
  pub within : (m : ℕ) (r : Region) → PartIn m → RegionIn m r → RegionIn m (f r)

module _ {from behind : List RegionUnit → Option tree.Region} {put : List Tree → tree.Region → tree.Region} {PartIn : ℕ → Type 0} {f : Region → Region} {us rest : List Kept} (p : Puts put PartIn f) (h : Parts from behind put PartIn us rest) where
  made : (o : Option Region) → IsMade behind rest o → IsMade from us (option_map f o)
  made o k = record {
    region = λ ts. mapped ts o ∙ ap (option_map (put ts)) (k.region ts) ∙ sym (h.region ts);
    within = λ m w. inside m o (h.within m w).0 (k.within m (h.within m w).1);
  }
    where
      mapped : (ts : List Tree) (o : Option Region) → option_map (region_at ts) (option_map f o) ≡ option_map (put ts) (option_map (region_at ts) o)
      mapped ts None = refl
      mapped ts (Some r) = ap Some (p.region ts r)

      inside : (m : ℕ) (o : Option Region) → PartIn m → IfSome o (RegionIn m) → IfSome (option_map f o) (RegionIn m)
      inside m None i j = tt
      inside m (Some r) i j = p.within m r i j

  pub with_part : (o : Option Region) (r : Region) → o ≡ Some r → IsMade behind rest o → IsMade from us (Some (f r))
  with_part o r e k = made (Some r) (subst (IsMade behind rest) e k)

  pub without : (o : Option Region) → o ≡ None → IsMade behind rest o → IsMade from us None
  without o e k = made None (subst (IsMade behind rest) e k)

-- the last two units
pub last_made : (us : List Kept) (fs : Vec Fairness Global) (e : ℕ) (r : Region) → us ≡ unit.Spec fs ∷ unit.Termination e ∷ [] → ((ts : List Tree) → region_at ts r ≡ part.last_parts (map (fairness_at ts) fs.items) (at ts e))
    → ((m : ℕ) → AllFairnessIn m fs.items → e < m → RegionIn m r) → IsMade part.from_spec us (Some r)
last_made us fs e r h k w = subst (λ (vs : List Kept). IsMade part.from_spec vs (Some r)) (sym h) (record { region = λ ts. ap Some (k ts); within = λ m i. w m i.0 i.1.0 })

-- ---- each part

pub puts_next : (ys : Vec Way Global) → Puts (λ ts. part.with_next (ways_at ts ys.items)) (λ m. WaysIn m ys.items) (λ r. record r { next = ys })
puts_next ys = record { region = λ ts r. refl; within = λ m r i j. record { definitions = j.definitions; process_set = j.process_set; init = j.init; actions = j.actions; ended = j.ended; next = i; fairness = j.fairness; termination = j.termination } }

pub puts_ended : (o : Option ℕ) → Puts (λ ts. part.with_ended (option_map (at ts) o)) (λ m. MaybeIn m o) (λ r. record r { ended = o })
puts_ended o = record { region = λ ts r. refl; within = λ m r i j. record { definitions = j.definitions; process_set = j.process_set; init = j.init; actions = j.actions; ended = i; next = j.next; fairness = j.fairness; termination = j.termination } }

pub puts_actions : (acts : Vec Action Global) → Puts (λ ts. with_actions (actions_at ts acts.items)) (λ m. ActionsIn m acts.items) (λ r. record r { actions = acts })
puts_actions acts = record { region = λ ts r. refl; within = λ m r i j. record { definitions = j.definitions; process_set = j.process_set; init = j.init; actions = i; ended = j.ended; next = j.next; fairness = j.fairness; termination = j.termination } }

pub puts_init : (es : Vec ℕ Global) → Puts (λ ts. part.with_init (map (at ts) es.items)) (λ m. AllBelow m es.items) (λ r. record r { init = es })
puts_init es = record { region = λ ts r. refl; within = λ m r i j. record { definitions = j.definitions; process_set = j.process_set; init = i; actions = j.actions; ended = j.ended; next = j.next; fairness = j.fairness; termination = j.termination } }

pub puts_process_set : (o : Option ℕ) → Puts (λ ts. part.with_process_set (option_map (at ts) o)) (λ m. MaybeIn m o) (λ r. record r { process_set = o })
puts_process_set o = record { region = λ ts r. refl; within = λ m r i j. record { definitions = j.definitions; process_set = i; init = j.init; actions = j.actions; ended = j.ended; next = j.next; fairness = j.fairness; termination = j.termination } }

pub puts_vars : (xs : List Word) → Puts (λ ts. part.with_vars xs) (λ m. Unit {0}) (λ r. record r { vars = xs })
puts_vars xs = record { region = λ ts r. refl; within = λ m r i j. record { definitions = j.definitions; process_set = j.process_set; init = j.init; actions = j.actions; ended = j.ended; next = j.next; fairness = j.fairness; termination = j.termination } }

pub puts_definitions : (ds : List Definition) → Puts (λ ts. with_definitions (definitions_at ts ds)) (λ m. DefinitionsIn m ds) (λ r. record r { definitions = ds })
puts_definitions ds = record { region = λ ts r. refl; within = λ m r i j. record { definitions = i; process_set = j.process_set; init = j.init; actions = j.actions; ended = j.ended; next = j.next; fairness = j.fairness; termination = j.termination } }

pub puts_variables : (xs : List Word) → Puts (λ ts. part.with_variables xs) (λ m. Unit {0}) (λ r. record r { variables = xs })
puts_variables xs = record { region = λ ts r. refl; within = λ m r i j. record { definitions = j.definitions; process_set = j.process_set; init = j.init; actions = j.actions; ended = j.ended; next = j.next; fairness = j.fairness; termination = j.termination } }

pub puts_model_values : (xs : List Word) → Puts (λ ts. part.with_model_values xs) (λ m. Unit {0}) (λ r. record r { model_values = xs })
puts_model_values xs = record { region = λ ts r. refl; within = λ m r i j. record { definitions = j.definitions; process_set = j.process_set; init = j.init; actions = j.actions; ended = j.ended; next = j.next; fairness = j.fairness; termination = j.termination } }
