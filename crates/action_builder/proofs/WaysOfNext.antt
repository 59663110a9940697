-- Next as a disjunction: the own action of a routine is true exactly where one of its labels' is, and so \E self \in S of it over the processes of S.
use Rattle.std.proofs.Common.{◌≡◌, List, [], ◌∷◌, ◌++◌, true, false, ◌⊎◌, Some, None, map, refl, sym, ◌∙◌, ap, Ok, Err}
use Rattle.tla_tree.specs.Tree.{Word, Tree, root_place}
use Rattle.tla_value.specs.Value.{Value, set, TrueExactly, or_all, ◌>>=◌}
use Rattle.tla_value.specs.Stops.{plain, members_at}
use Rattle.tla_value.specs.Meaning.{Env, bind, eval}
use Rattle.tla_value.specs.Definitions.{Valuation}
use Rattle.module_tree.specs.Formulas.{self, named}
use Rattle.module_tree.specs.Module.{call, call_with, Way, one_way, some_way, some_of}
use Rattle.module_tree.specs.ActionTruth.{Verdict, Acts, acted, action_of, way_holds, some_way_holds, some_member}
use Rattle.module_tree.proofs.Tells.{tells_or, tells_of}
use Rattle.pcal_tree.specs.Program.{Actor}
use Rattle.pcal_tree.proofs.ProcessesInOrder.{id, ids}
use Rattle.std.proofs.Math.Bool.{or_assoc}
use Rattle.std.specs.List.{AllByRecursion}

abbrev pub AnyOf : {X : Type 0} → (X → Type 0) → List X → Type 0
AnyOf P [] = ⊥
AnyOf P (x ∷ xs) = P x ⊎ AnyOf P xs

never : TrueExactly (Ok false) ⊥
never = (false, refl, (λ b. absurd (no b), λ x. absurd x))
  where
    no : false ≡ true → ⊥
    no e = cc

-- one of some ways
pub ways_true : {X : Type 0} (env : Env) (acts : Acts) (f : X → Way) (P : X → Type 0) (xs : List X) → AllByRecursion (λ x. TrueExactly (way_holds plain env acts (f x)) (P x)) xs
    → TrueExactly (some_way_holds plain env acts (map f xs)) (AnyOf P xs)
ways_true env acts f P [] h = never
ways_true env acts f P (x ∷ xs) h = tells_or (way_holds plain env acts (f x)) (some_way_holds plain env acts (map f xs)) (P x) (AnyOf P xs) h.0 (ways_true env acts f P xs h.1)

all_assoc : (a b c : Verdict) → or_all a (or_all b c) ≡ or_all (or_all a b) c
all_assoc (Ok a) (Ok b) (Ok c) = ap (λ z. Ok z) (sym (or_assoc a b c))
all_assoc (Ok a) (Ok b) (Err k) = refl
all_assoc (Ok a) (Err k) c = refl
all_assoc (Err k) b c = refl

or_false : (v : Verdict) → v ≡ or_all (Ok false) v
or_false (Ok b) = refl
or_false (Err k) = refl

ways_joined : (env : Env) (acts : Acts) (xs ys : List Way) → some_way_holds plain env acts (xs ++ ys) ≡ or_all (some_way_holds plain env acts xs) (some_way_holds plain env acts ys)
ways_joined env acts [] ys = or_false (some_way_holds plain env acts ys)
ways_joined env acts (x ∷ xs) ys = ap (or_all (way_holds plain env acts x)) (ways_joined env acts xs ys) ∙ all_assoc (way_holds plain env acts x) (some_way_holds plain env acts xs) (some_way_holds plain env acts ys)

pub ways_both : (env : Env) (acts : Acts) (xs ys : List Way) (P Q : Type 0) → TrueExactly (some_way_holds plain env acts xs) P → TrueExactly (some_way_holds plain env acts ys) Q → TrueExactly (some_way_holds plain env acts (xs ++ ys)) (P ⊎ Q)
ways_both env acts xs ys P Q h k =
    tells_of (some_way_holds plain env acts (xs ++ ys)) (or_all (some_way_holds plain env acts xs) (some_way_holds plain env acts ys)) (P ⊎ Q) (ways_joined env acts xs ys)
    (tells_or (some_way_holds plain env acts xs) (some_way_holds plain env acts ys) P Q h k)

-- A(self): one of its labels' actions
pub own_true : (s t : Valuation) (env : Env) (acts : Acts) (title : Word) (label : Word → Word) (labels : List Word) (v : Value) (P : Word → Type 0)
    → AllByRecursion (λ l. TrueExactly (acted (acts (label l)) (Some v)) (P l)) labels
    → TrueExactly (action_of plain s t env acts (record { title = title; parameter = Some self; body = some_of (map (λ l. one_way (call_with (label l) (named self))) labels) }) (Some v)) (AnyOf P labels)
own_true s t env acts title label labels v P h = ways_true (bind self v env) acts (λ l. one_way (call_with (label l) (named self))) P labels h

-- without a parameter
pub own_alone_true : (s t : Valuation) (env : Env) (acts : Acts) (title : Word) (label : Word → Word) (labels : List Word) (P : Word → Type 0)
    → AllByRecursion (λ l. TrueExactly (acted (acts (label l)) None) (P l)) labels
    → TrueExactly (action_of plain s t env acts (record { title = title; parameter = None; body = some_of (map (λ l. one_way (call (label l))) labels) }) None) (AnyOf P labels)
own_alone_true s t env acts title label labels P h = ways_true env acts (λ l. one_way (call (label l))) P labels h

-- \E self \in S : A(self), over the processes whose identifiers are the members of S
each_member : (go : Value → Verdict) (P : Actor → Type 0) (vs : List Actor) → AllByRecursion (λ v. TrueExactly (go (id v)) (P v)) vs → TrueExactly (some_member (ids vs) go) (AnyOf P vs)
each_member go P [] h = never
each_member go P (v ∷ vs) h = tells_or (go (id v)) (some_member (ids vs) go) (P v) (AnyOf P vs) h.0 (each_member go P vs h.1)

pub set_true : (env : Env) (acts : Acts) (S : Tree) (a : Word) (vs : List Actor) (P : Actor → Type 0) → (eval plain S env).value ≡ Ok (set (ids vs))
    → AllByRecursion (λ v. TrueExactly (acted (acts a) (Some (id v))) (P v)) vs
    → TrueExactly (way_holds plain env acts (some_way self S (call_with a (named self)))) (AnyOf P vs)
set_true env acts S a vs P e h =
    tells_of (way_holds plain env acts (some_way self S (call_with a (named self)))) (some_member (ids vs) (λ v. acted (acts a) (Some v))) (AnyOf P vs)
    (λ i. (e i >>= (members_at (root_place S))) >>= (λ us. some_member us (λ v. acted (acts a) (Some v))))
    (each_member (λ v. acted (acts a) (Some v)) P vs h)
