-- An action is found under its name, also where actions of other names come after it.
use Rattle.std.proofs.Common.{◌≡◌, Bool, false, List, [], ◌∷◌, ◌++◌, map, Some, bytes_eq, cond, refl, ap, ◌∙◌}
use Rattle.std.proofs.lemmas.Bool.{or_parts}
use Rattle.std.proofs.lemmas.Slice.Eq.{bytes_eq-Decides}
use Rattle.tla_token.specs.Signs.{is_among}
use Rattle.tla_tree.specs.Tree.{Word}
use Rattle.tla_value.specs.Stops.{Check}
use Rattle.tla_value.specs.Meaning.{Env}
use Rattle.tla_value.specs.Definitions.{Valuation}
use Rattle.module_tree.specs.Module.{Action}
use Rattle.module_tree.specs.ActionTruth.{Acts, action_of, acts_of}

abbrev pub titles : List Action → List Word
titles xs = map (λ (a : Action). a.title) xs

-- later actions of other names change nothing
later_actions : (c : Check) (s t : Valuation) (env : Env) (ys : List Action) (acts : Acts) (x : Word) → is_among (titles ys) x ≡ false → acts_of c s t env ys acts x ≡ acts x
later_actions c s t env [] acts x h = refl
later_actions c s t env (y ∷ ys) acts x h =
    let k = or_parts (bytes_eq y.title x) (is_among (titles ys) x) h in
    later_actions c s t env ys _ x k.1 ∙ ap (λ (b : Bool). cond b (Some (action_of c s t env acts y)) (acts x)) k.0

-- it calls those before it
pub action_found : (c : Check) (s t : Valuation) (env : Env) (xs ys : List Action) (b : Action) (acts : Acts) → is_among (titles ys) b.title ≡ false
    → acts_of c s t env (xs ++ b ∷ ys) acts b.title ≡ Some (action_of c s t env (acts_of c s t env xs acts) b)
action_found c s t env [] ys b acts h =
    later_actions c s t env ys _ b.title h ∙ ap (λ (z : Bool). cond z (Some (action_of c s t env acts b)) (acts b.title)) ((bytes_eq-Decides b.title b.title).1 refl)
action_found c s t env (x ∷ xs) ys b acts h = action_found c s t env xs ys b _ h
