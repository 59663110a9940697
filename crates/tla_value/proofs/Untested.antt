-- A test for membership that lists nothing says what the listed set says: of [A -> B] and [a : A, b : B].
use Rattle.std.proofs.Common.{◌≡◌, Bool, true, false, ◌&&◌, ◌||◌, List, [], ◌∷◌, ◌++◌, map, refl, ◌∙◌, ap}
use Rattle.std.specs.Ordering.{nat_cmp, ordering_then, is_eq}
use Rattle.std.specs.declared.cmp.Ordering.{Ordering}
use Rattle.std.specs.declared.cmp.Ordering.TheVariants.{Less, Equal, Greater}
use Rattle.tla_value.specs.Value.{Value, Values, truth, int, text, model, set, fun, no_values, and, values_in}
use Rattle.tla_value.specs.Order.{count, order, orders, same, holds}
use Rattle.tla_value.specs.Sets.{fronted, members, choices, all_chosen, functions_over, is_function_over}
use Rattle.tla_value.proofs.OrderSets.{holds_set_from}

pub then_eq : (r q : Ordering) → is_eq (ordering_then r q) ≡ (is_eq r && is_eq q)
then_eq Less q = refl
then_eq Equal q = refl
then_eq Greater q = refl

-- one of the lists is us
abbrev pub is_among : Values → List Values → Bool
is_among us [] = false
is_among us (t ∷ ts) = is_eq (orders us t) || is_among us ts

pub among_both : (us : Values) (ss ts : List Values) → is_among us (ss ++ ts) ≡ (is_among us ss || is_among us ts)
among_both us [] ts = refl
among_both us (s ∷ ss) ts = ap (λ b. is_eq (orders us s) || b) (among_both us ss ts) ∙ assoc (is_eq (orders us s)) (is_among us ss) (is_among us ts)
  where
    assoc : (a b d : Bool) → (a || (b || d)) ≡ ((a || b) || d)
    assoc true b d = refl
    assoc false b d = refl

left_factor : (a p q : Bool) → ((a && p) || (a && q)) ≡ (a && (p || q))
left_factor true p q = refl
left_factor false p q = refl

right_factor : (p r q : Bool) → ((p && q) || (r && q)) ≡ ((p || r) && q)
right_factor true true true = refl
right_factor true true false = refl
right_factor true false true = refl
right_factor true false false = refl
right_factor false r q = refl

none_in : (a : Bool) → false ≡ (a && false)
none_in true = refl
none_in false = refl

-- after one first member
pub among_fronts : (u w : Value) (us : Values) (ts : List Values) → is_among (and u us) (map (and w) ts) ≡ (same u w && is_among us ts)
among_fronts u w us [] = none_in (same u w)
among_fronts u w us (t ∷ ts) =
    (λ i. then_eq (order u w) (orders us t) i || among_fronts u w us ts i)
    ∙ left_factor (same u w) (is_eq (orders us t)) (is_among us ts)

among_fronted : (u : Value) (us ws : Values) (ts : List Values) → is_among (and u us) (fronted ws ts) ≡ (holds u ws && is_among us ts)
among_fronted u us no_values ts = refl
among_fronted u us (and w ws) ts =
    among_both (and u us) (map (and w) ts) (fronted ws ts)
    ∙ (λ i. among_fronts u w us ts i || among_fronted u us ws ts i)
    ∙ right_factor (same u w) (holds u ws) (is_among us ts)

empty_fronts : (w : Value) (ts : List Values) → is_among no_values (map (and w) ts) ≡ false
empty_fronts w [] = refl
empty_fronts w (t ∷ ts) = empty_fronts w ts

empty_fronted : (ws : Values) (ts : List Values) → is_among no_values (fronted ws ts) ≡ false
empty_fronted no_values ts = refl
empty_fronted (and w ws) ts = among_both no_values (map (and w) ts) (fronted ws ts) ∙ (λ i. empty_fronts w ts i || empty_fronted ws ts i)

among_choices : (us ss : Values) → is_among us (choices ss) ≡ all_chosen us ss
among_choices no_values no_values = refl
among_choices (and u us) no_values = refl
among_choices no_values (and s ss) = empty_fronted (members s) (choices ss)
among_choices (and u us) (and s ss) = among_fronted u us (members s) (choices ss) ∙ ap (λ b. holds u (members s) && b) (among_choices us ss)

-- the functions on one domain
among_functions : (es us ds : Values) (ts : List Values) → holds (fun es us) (values_in (map (fun ds) ts)) ≡ (same (set es) (set ds) && is_among us ts)
among_functions es us ds [] = none_in (same (set es) (set ds))
among_functions es us ds (t ∷ ts) =
    (λ i. then_eq (ordering_then (nat_cmp (count es) (count ds)) (orders es ds)) (orders us t) i || among_functions es us ds ts i)
    ∙ left_factor (same (set es) (set ds)) (is_eq (orders us t)) (is_among us ts)

no_function : (v : Value) (ds : Values) (ts : List Values) → ((t : Values) → same v (fun ds t) ≡ false) → holds v (values_in (map (fun ds) ts)) ≡ false
no_function v ds [] h = refl
no_function v ds (t ∷ ts) h = λ i. h t i || no_function v ds ts h i

by_kind : (v : Value) (ds ss : Values) → holds v (values_in (map (fun ds) (choices ss))) ≡ is_function_over v ds ss
by_kind (fun es us) ds ss = among_functions es us ds (choices ss) ∙ ap (λ b. same (set es) (set ds) && b) (among_choices us ss)
by_kind (truth b) ds ss = no_function (truth b) ds (choices ss) (λ t. refl)
by_kind (int n) ds ss = no_function (int n) ds (choices ss) (λ t. refl)
by_kind (text w) ds ss = no_function (text w) ds (choices ss) (λ t. refl)
by_kind (model w) ds ss = no_function (model w) ds (choices ss) (λ t. refl)
by_kind (set vs) ds ss = no_function (set vs) ds (choices ss) (λ t. refl)

-- v is a member of the set of functions exactly if the test says so
pub functions_tested : (v : Value) (ds ss : Values) → holds v (functions_over ds ss) ≡ is_function_over v ds ss
functions_tested v ds ss = holds_set_from v (map (fun ds) (choices ss)) ∙ by_kind v ds ss
