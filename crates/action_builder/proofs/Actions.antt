-- The action that is written for effects, over what expressions give on a pair of states.
use Rattle.std.specs.Prelude.{List, [], ◌∷◌, Bool, true, false, cond, ◌&&◌, bytes_eq, Ok, Err}
use Rattle.tla_token.specs.Signs.{is_among}
use Rattle.tla_tree.specs.Tree.{Word}
use Rattle.tla_value.specs.Value.{Value, Values, no_values, and, Trouble, Outcome, ◌>>=◌, and_then, or_all}
use Rattle.tla_value.specs.Order.{same}
use Rattle.pcal_tree.specs.Algorithm.{Statements}
use Rattle.pcal_tree.specs.Scope.{State, Scope, bound}
use Rattle.pcal_tree.specs.Run.{Has, Rules, unlabelled, run}
use Rattle.action_builder.specs.Assigned.{Names, more, assigned_in}
use Rattle.action_builder.specs.laws.States.{mid, SameOn}
use Rattle.action_builder.specs.laws.Settling.{to_end}
use Rattle.action_builder.specs.laws.Ready.{Settled, Apart}
use Rattle.action_builder.proofs.Effects.{Exp, Change, Parts, no_parts, part, Effect, assign, await, branch, either, choose, Effects, done, then, Ways, no_ways, way, firsts, effect_names, effects_names, ways_names, effects_of, Named}

abbrev pub PairExp : Type 0 → Type 0
PairExp X = Scope → State → State → Outcome X

-- settings in a row
pub data Settings : Type 0 where
  no_settings : Settings
  setting : Word → PairExp Value → Settings → Settings

mutual
  pub data Item : Type 0 where
    test : PairExp Bool → Item
    sets : Settings → Item
    unchanged : List Word → Item
    fork : PairExp Bool → Items → Items → Item
    any : Lists → Item
    some : Word → PairExp Values → Items → Item

  pub data Items : Type 0 where
    none : Items
    item : Item → Items → Items

  pub data Lists : Type 0 where
    no_lists : Lists
    list : Items → Lists → Lists

abbrev pub all_same : List Word → State → State → Bool
all_same [] s t = true
all_same (x ∷ xs) s t = same (t x) (s x) && all_same xs s t

abbrev pub some_member : Values → (Value → Outcome Bool) → Outcome Bool
some_member no_values p = Ok false
some_member (and v vs) p = or_all (p v) (some_member vs p)

abbrev pub hold_sets : Settings → Scope → State → State → Outcome Bool
hold_sets no_settings c s t = Ok true
hold_sets (setting x e es) c s t = and_then ((e c s t) >>= (λ v. Ok (same (t x) v))) (hold_sets es c s t)

abbrev mutual
  pub holds : Item → Scope → State → State → Outcome Bool
  holds (test e) c s t = e c s t
  holds (sets es) c s t = hold_sets es c s t
  holds (unchanged xs) c s t = Ok (all_same xs s t)
  holds (fork e a b) c s t = (e c s t) >>= (λ p. cond p (hold a c s t) (hold b c s t))
  holds (any ls) c s t = hold_some ls c s t
  holds (some x e a) c s t = (e c s t) >>= (λ vs. some_member vs (λ v. hold a (bound x v c) s t))

  pub hold : Items → Scope → State → State → Outcome Bool
  hold none c s t = Ok true
  hold (item i is) c s t = and_then (holds i c s t) (hold is c s t)

  pub hold_some : Lists → Scope → State → State → Outcome Bool
  hold_some no_lists c s t = Ok false
  hold_some (list a ls) c s t = or_all (hold a c s t) (hold_some ls c s t)

-- what is written for an expression after A is assigned; for a tree this is the law of priming
abbrev pub primed : {X : Type 0} → Names → Exp X → PairExp X
primed A e c s t = e c (mid s t A)

abbrev pub ended : Items → Item → Items
ended none j = item j none
ended (item i is) j = item i (ended is j)

abbrev pub minus : List Word → List Word → List Word
minus [] ys = []
minus (x ∷ xs) ys = cond (is_among ys x) (minus xs ys) (x ∷ minus xs ys)

-- the value of [y EXCEPT ..] with all parts of y
abbrev pub changes_for : Word → Parts → Scope → State → Outcome (List Change)
changes_for y no_parts c s = Ok []
changes_for y (part x e ps) c s =
    cond (bytes_eq x y) ((e c s) >>= (λ f. (changes_for y ps c s) >>= (λ fs. Ok (f ∷ fs)))) (changes_for y ps c s)

-- all changes, in order
abbrev pub all_changes : Parts → Scope → State → Outcome (List Change)
all_changes no_parts c s = Ok []
all_changes (part x e ps) c s = (e c s) >>= (λ f. (all_changes ps c s) >>= (λ fs. Ok (f ∷ fs)))

abbrev pub folded : List Change → Change
folded [] v = Ok v
folded (f ∷ fs) v = (f v) >>= (folded fs)

abbrev pub value_for : Word → Parts → Exp Value
value_for y ps c s = (changes_for y ps c s) >>= (λ fs. folded fs (s y))

abbrev pub settings_of : Names → Parts → List Word → Settings
settings_of A ps [] = no_settings
settings_of A ps (y ∷ ys) = setting y (primed A (value_for y ps)) (settings_of A ps ys)

abbrev mutual
  pub build_one : Names → Effect → Item
  build_one A (assign ps) = sets (settings_of A ps (firsts ps))
  build_one A (await e) = test (primed A e)
  build_one A (branch e a b) =
      fork (primed A e) (ended (build A a) (unchanged (minus (effects_names b) (effects_names a)))) (ended (build A b) (unchanged (minus (effects_names a) (effects_names b))))
  build_one A (either bs) = any (build_some A (ways_names bs) bs)
  build_one A (choose x e b) = some x (primed A e) (build A b)

  pub build : Names → Effects → Items
  build A done = none
  build A (then st rest) = item (build_one A st) (build (more A (effect_names st)) rest)

  pub build_some : Names → List Word → Ways → Lists
  build_some A all no_ways = no_lists
  build_some A all (way b bs) = list (ended (build A b) (unchanged (minus all (effects_names b)))) (build_some A all bs)

abbrev mutual
  pub OnceOne : Names → Effect → Type 0
  OnceOne A (assign ps) = Apart A (firsts ps)
  OnceOne A (await e) = Unit {0}
  OnceOne A (branch e a b) = Once A a × Once A b
  OnceOne A (either bs) = OnceSome A bs
  OnceOne A (choose x e b) = Once A b

  pub Once : Names → Effects → Type 0
  Once A done = Unit {0}
  Once A (then st rest) = OnceOne A st × Once (more A (effect_names st)) rest

  pub OnceSome : Names → Ways → Type 0
  OnceSome A no_ways = Unit {0}
  OnceSome A (way b bs) = Once A b × OnceSome A bs

-- ---- of statements

-- an outcome of the statements, begun where the variables of A have their new values already
abbrev pub Runs : Rules → Names → Statements → Scope → State → State → Outcome State → Type 0
Runs M A ss sc s t r = Has (run M unlabelled ss sc to_end (mid s t A)) r

-- an end that agrees with t on A and on all that the statements assign
abbrev pub Fits : Rules → Names → Statements → Scope → State → State → Type 0
Fits M A ss sc s t = (u : State) × Runs M A ss sc s t (Ok u) × SameOn (more A (assigned_in ss)) u t

abbrev pub NoTrouble : Rules → Names → Statements → Scope → State → State → Type 0
NoTrouble M A ss sc s t = (k : Trouble) → Runs M A ss sc s t (Err k) → ⊥

-- what the written action is of a pair of states
abbrev pub verdict : Rules → Names → Statements → Scope → State → State → Outcome Bool
verdict M A ss sc s t = hold (build A (effects_of M.check ss)) sc s t

abbrev pub SomeTrouble : Rules → Names → Statements → Scope → State → State → Type 0
SomeTrouble M A ss sc s t = (k : Trouble) × Runs M A ss sc s t (Err k)

-- statements of one step, in a scope in which the names of V are variables, that assign nothing twice and nothing of A
abbrev pub Built : Rules → Names → Names → Statements → Scope → Type 0
Built M V A ss sc = Settled V ss × Named V sc × Once A (effects_of M.check ss)
