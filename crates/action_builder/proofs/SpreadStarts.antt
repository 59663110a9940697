-- The conjuncts of Init for a variable of a process set or of a procedure: x = [self \in S |-> e] and x \in [S -> T] are true just where the walk through the initial values
-- allows the variable's value.
use Rattle.std.proofs.Common.{◌≡◌, List, [], ◌∷◌, ◌++◌, Bool, true, false, ◌&&◌, cond, map, refl, sym, ◌∙◌, ap, Ok, Err}
use Rattle.std.specs.Ordering.{is_eq}
use Rattle.std.specs.declared.cmp.Ordering.TheVariants.{Equal}
use Rattle.tla_token.specs.declared.place.Place.{Place}
use Rattle.tla_token.specs.Places.{nowhere}
use Rattle.tla_tree.specs.declared.op.Binder.TheVariants.{Function}
use Rattle.tla_tree.specs.Tree.{Word, Tree, operator, functions}
use Rattle.tla_value.specs.Value.{Value, Values, no_values, and, truth, set, fun, values_in, Outcome, ◌>>=◌, in_order, int, text, model}
use Rattle.tla_value.specs.Order.{orders, same, holds, count, pairs_of, fun_from, IsAscending, IsCanonical}
use Rattle.tla_value.specs.OrderLaws.{orders_equal, is_equal}
use Rattle.tla_value.specs.Sets.{repeated, all_chosen, is_function_over}
use Rattle.tla_value.specs.Stops.{plain, members_at, truth_at}
use Rattle.tla_value.specs.Meaning.{Env, just, bind, Row, with_first, at_members, at_choices, at_body, table, gathered, eval}
use Rattle.tla_value.proofs.OrderFuns.{fun_from_pairs}
use Rattle.module_tree.specs.Formulas.{self, named, equal, is_in, function_of_self, functions_from}
use Rattle.module_tree.specs.ActionTruth.{truth_in}
use Rattle.pcal_tree.specs.Program.{Actor}
use Rattle.pcal_tree.specs.InitialStates.{function_on, has_members, all_hold}
use Rattle.pcal_tree.proofs.ProcessesInOrder.{id, ids}
use Rattle.std.specs.Prelude.{suc, pred}
use Rattle.tla_value.specs.Strict.{strict_value, strict_test, same_truth}
use Rattle.tla_tree.specs.declared.op.Op.TheVariants.{Equal}
use Rattle.tla_value.proofs.UntestedSets.{sets_same}

abbrev rows_of : List Actor → List Value → List Row
rows_of [] ws = []
rows_of (v ∷ vs) [] = []
rows_of (v ∷ vs) (w ∷ ws) = (id v ∷ [], w) ∷ rows_of vs ws

-- the values of the body at each identifier, in order
abbrev pub at_each_self : Tree → Env → List Actor → Outcome (List Value)
at_each_self e env vs = in_order (λ v. (eval plain e (bind self (id v) env)).value) vs

-- an order of outcomes, taken apart
in_order_parts : {X Y : Type 0} (go : X → Outcome Y) (x : X) (xs : List X) (ws : List Y) → in_order go (x ∷ xs) ≡ Ok ws
    → (y : Y) × (ys : List Y) × (go x ≡ Ok y) × (in_order go xs ≡ Ok ys) × (ws ≡ y ∷ ys)
in_order_parts {Y = Y} go x xs ws e = by (go x) refl (in_order go xs) refl e
  where
    by : (o : Outcome Y) → go x ≡ o → (r : Outcome (List Y)) → in_order go xs ≡ r → (o >>= (λ y. r >>= (λ ys. Ok (y ∷ ys)))) ≡ Ok ws
        → (y : Y) × (ys : List Y) × (go x ≡ Ok y) × (in_order go xs ≡ Ok ys) × (ws ≡ y ∷ ys)
    by (Ok y) d (Ok ys) f e = (y, ys, d, f, ap (λ (o : Outcome (List Y)). elim o [ Ok x ↦ x | Err k ↦ ws ]) (sym e))
    by (Ok y) d (Err k) f e = cc
    by (Err k) d r f e = cc

result_of : {X : Type 0} (x y : X) (o : Outcome X) → o ≡ Ok x → o ≡ Ok y → x ≡ y
result_of {X = X} x y o d e = ap (λ (p : Outcome X). elim p [ Ok z ↦ z | Err k ↦ x ]) (sym d ∙ e)

visited : (e : Tree) (env : Env) (at : Place) (vs : List Actor) (ws : List Value) → at_each_self e env vs ≡ Ok ws → at_members self (ids vs) (at_body Function at (eval plain e)) env ≡ Ok (rows_of vs ws)
visited e env at [] ws q = refl
visited e env at (v ∷ vs) ws q =
    let (y, ys, d, f, r) = in_order_parts (λ v. (eval plain e (bind self (id v) env)).value) v vs ws q in
    (λ i. (d i >>= (λ w. Ok (([], w) ∷ []))) >>= (λ first. visited e env at vs ys f i >>= (λ more. Ok (map (with_first (id v)) first ++ more))))
    ∙ sym (ap (λ zs. Ok (rows_of (v ∷ vs) zs)) r)

table_rows : (vs : List Actor) (ws : List Value) → table (rows_of vs ws) ≡ pairs_of (ids vs) (values_in ws)
table_rows [] ws = refl
table_rows (v ∷ vs) [] = refl
table_rows (v ∷ vs) (w ∷ ws) = ap (λ ps. (id v, w) ∷ ps) (table_rows vs ws)

as_many : (e : Tree) (env : Env) (vs : List Actor) (ws : List Value) → at_each_self e env vs ≡ Ok ws → count (ids vs) ≡ count (values_in ws)
as_many e env [] ws q = ap (λ zs. count (values_in zs)) (result_of [] ws (Ok []) refl q)
as_many e env (v ∷ vs) ws q =
    let (y, ys, d, f, r) = in_order_parts (λ v. (eval plain e (bind self (id v) env)).value) v vs ws q in
    ap (λ n. suc n) (as_many e env vs ys f) ∙ sym (ap (λ zs. count (values_in zs)) r)

-- [self \in S |-> e] is the function on the identifiers with these values
pub function_is : (S e : Tree) (env : Env) (vs : List Actor) (ws : List Value) → (eval plain S env).value ≡ Ok (set (ids vs)) → IsAscending (ids vs) → at_each_self e env vs ≡ Ok ws
    → (eval plain (function_of_self S e) env).value ≡ Ok (function_on vs ws)
function_is S e env vs ws s a q =
    (λ i. (s i >>= (λ v. Ok (v ∷ [], eval plain e))) >>= (λ (us, d). in_order (members_at nowhere) us >>= (λ ss. at_choices ((record { word = self; place = nowhere } ∷ []) ∷ []) ss (at_body Function nowhere d) env >>= (λ rs. plain nowhere (gathered Function rs)))))
    ∙ (λ i. visited e env nowhere vs ws q i >>= (λ rs. plain nowhere (gathered Function rs)))
    ∙ (λ i. Ok (fun_from (table_rows vs ws i)))
    ∙ ap (λ f. Ok f) (fun_from_pairs (ids vs) (values_in ws) a (as_many e env vs ws q))

-- x = e
pub equal_is : (x : Word) (e : Tree) (env : Env) (v w : Value) → env.now x nowhere ≡ just v → (eval plain e env).value ≡ Ok w → truth_in plain env (equal (named x) e) ≡ Ok (same v w)
equal_is x e env v w d f = λ i. ((d i).value >>= (λ a. (f i >>= (λ b. Ok (b ∷ []))) >>= (λ bs. Ok (a ∷ bs)))) >>= (λ vs. strict_value plain (operator Equal) nowhere vs) >>= (truth_at nowhere)

-- ---- x \in [S -> T]

all_chosen_is : (us ds ws : Values) → count ds ≡ count us → all_chosen us (repeated ds (set ws)) ≡ all_hold us ws
all_chosen_is no_values no_values ws e = refl
all_chosen_is no_values (and d ds) ws e = cc
all_chosen_is (and u us) no_values ws e = cc
all_chosen_is (and u us) (and d ds) ws e = by (holds u ws) (all_chosen_is us ds ws (ap (λ n. pred n) e))
  where
    by : (b : Bool) → all_chosen us (repeated ds (set ws)) ≡ all_hold us ws → (b && all_chosen us (repeated ds (set ws))) ≡ cond b (all_hold us ws) false
    by true h = h
    by false h = refl

-- of a value in canonical order
members_by : (is ws ds us : Values) (b : Bool) → is_eq (orders ds is) ≡ b → count ds ≡ count us → cond b (all_hold us ws) false ≡ (b && all_chosen us (repeated is (set ws)))
members_by is ws ds us true q e = sym (all_chosen_is us is ws (sym (ap count (orders_equal ds is (is_equal (orders ds is) q))) ∙ e))
members_by is ws ds us false q e = refl

pub has_members_is : (is ws : Values) (f : Value) → IsCanonical f → has_members is ws f ≡ is_function_over f is (repeated is (set ws))
has_members_is is ws (fun ds us) h =
    members_by is ws ds us (is_eq (orders ds is)) refl h.3
    ∙ (λ i. sym (sets_same ds is) i && all_chosen us (repeated is (set ws)))
has_members_is is ws (truth b) h = refl
has_members_is is ws (int z) h = refl
has_members_is is ws (text w) h = refl
has_members_is is ws (model w) h = refl
has_members_is is ws (set vs) h = refl

-- x \in [S -> T] is true just where x is a function on the identifiers with members of T
pub functions_are : (x : Word) (S T : Tree) (env : Env) (f t : Value) (is ws : Values) → IsCanonical f → env.now x nowhere ≡ just f → (eval plain S env).value ≡ Ok (set is) → (eval plain T env).value ≡ Ok (set ws)
    → truth_in plain env (is_in true (named x) (functions_from S T)) ≡ Ok (has_members is ws f)
functions_are x S T env f t is ws h d s e =
    (λ i. ((d i).value >>= (λ v. ((s i >>= (λ a. (e i >>= (λ b. Ok (b ∷ []))) >>= (λ bs. Ok (a ∷ bs)))) >>= (λ vs. strict_test plain functions nowhere nowhere v vs)) >>= (λ b. Ok (truth (same_truth true b))))) >>= (truth_at nowhere))
    ∙ (λ i. Ok (sym (has_members_is is ws f h) i))
