-- A name that no definition has is looked up as if there were none; and so are primed names.
use Rattle.std.proofs.Common.{◌≡◌, Bool, false, List, [], ◌∷◌, ◌++◌, bytes_eq, cond, Some, refl, ap, ◌∙◌}
use Rattle.tla_token.specs.declared.place.Place.{Place}
use Rattle.tla_tree.specs.Tree.{Word}
use Rattle.tla_value.specs.Stops.{Check}
use Rattle.tla_value.specs.Meaning.{Env}
use Rattle.tla_value.specs.Definitions.{Definition, body_sense, defined, with_definitions}
use Rattle.tla_value.specs.laws.Untitled.{Untitled}

passed : (c : Check) (d : Definition) (ps : List Word) (env : Env) (x : Word) (at : Place) → bytes_eq d.title x ≡ false → (defined c d ps env).now x at ≡ env.now x at
passed c d [] env x at e = ap (λ (b : Bool). cond b (body_sense c d (Some env) at) (env.now x at)) e
passed c d (p ∷ ps) env x at e = refl

pub looked_through : (c : Check) (ds : List Definition) (env : Env) (x : Word) (at : Place) → Untitled x ds → (with_definitions c ds env).now x at ≡ env.now x at
looked_through c [] env x at h = refl
looked_through c (d ∷ ds) env x at h = looked_through c ds (defined c d d.params env) x at h.1 ∙ passed c d d.params env x at h.0

defined_primed : (c : Check) (d : Definition) (ps : List Word) (env : Env) (x : Word) (at : Place) → (defined c d ps env).primed x at ≡ env.primed x at
defined_primed c d [] env x at = refl
defined_primed c d (p ∷ ps) env x at = refl

pub primed_through : (c : Check) (ds : List Definition) (env : Env) (x : Word) (at : Place) → (with_definitions c ds env).primed x at ≡ env.primed x at
primed_through c [] env x at = refl
primed_through c (d ∷ ds) env x at = primed_through c ds (defined c d d.params env) x at ∙ defined_primed c d d.params env x at

pub untitled_append : (x : Word) (ds es : List Definition) → Untitled x ds → Untitled x es → Untitled x (ds ++ es)
untitled_append x [] es h k = k
untitled_append x (d ∷ ds) es h k = (h.0, untitled_append x ds es h.1 k)
