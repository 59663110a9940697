-- ProcSet has the identifiers of all processes: its chain of \cup is the set of the members of all its sets, in canonical order.
use Rattle.std.proofs.Common.{◌≡◌, List, [], ◌∷◌, ◌++◌, Bool, false, ◌||◌, sym, ◌∙◌, ap, Ok}
use Rattle.tla_token.specs.Places.{nowhere}
use Rattle.tla_tree.specs.declared.op.Op.TheVariants.{Cup}
use Rattle.tla_tree.specs.Tree.{Tree, node, tree, no_trees, strict, operator}
use Rattle.tla_value.specs.Value.{Value, Values, no_values, and, set, values_in, ◌>>=◌}
use Rattle.tla_value.specs.Order.{same, holds, listed, IsAscending}
use Rattle.tla_value.specs.Sets.{cup}
use Rattle.tla_value.specs.Stops.{plain}
use Rattle.tla_value.specs.Strict.{strict_value}
use Rattle.tla_value.specs.Meaning.{Env, eval}
use Rattle.tla_value.proofs.OrderSets.{set_from_ascending, holds_set_from, same_members}
use Rattle.action_builder.specs.ProcessSets.{union, union_from}
use Rattle.pcal_tree.specs.Program.{Actor}
use Rattle.pcal_tree.specs.Processes.{sorted}
use Rattle.pcal_tree.proofs.ProcessesInOrder.{ids, Distinct, sorted_ascending, holds_sorted}
use Rattle.std.proofs.Math.Bool.{or_assoc, or-false}
use Rattle.tla_value.proofs.OrderFuns.{values_listed}

held_both : (x : Value) (vs ws : Values) → holds x (values_in (listed vs ++ listed ws)) ≡ (holds x vs || holds x ws)
held_both x no_values ws = ap (holds x) (values_listed ws)
held_both x (and v vs) ws = ap (λ b. same x v || b) (held_both x vs ws) ∙ sym (or_assoc (same x v) (holds x vs) (holds x ws))

holds_cup : (x : Value) (vs ws : Values) → holds x (cup vs ws) ≡ (holds x vs || holds x ws)
holds_cup x vs ws = holds_set_from x (listed vs ++ listed ws) ∙ held_both x vs ws

-- each of the trees has such a set, in canonical order
abbrev pub AreSets : Env → List Tree → List Values → Type 0
AreSets env [] [] = Unit {0}
AreSets env (e ∷ es) (vs ∷ vss) = ((eval plain e env).value ≡ Ok (set vs)) × IsAscending vs × AreSets env es vss
AreSets env _ _ = ⊥

abbrev pub held_in : Value → List Values → Bool
held_in x [] = false
held_in x (vs ∷ vss) = holds x vs || held_in x vss

union_from_is : (env : Env) (a : Tree) (vs : Values) → (eval plain a env).value ≡ Ok (set vs) → IsAscending vs → (es : List Tree) (vss : List Values) → AreSets env es vss
    → (us : Values) × ((eval plain (union_from a es) env).value ≡ Ok (set us)) × IsAscending us × ((x : Value) → holds x us ≡ held_in x (vs ∷ vss))
union_from_is env a vs e up [] [] h = (vs, e, up, λ x. sym (or-false (holds x vs)))
union_from_is env a vs e up (b ∷ es) (ws ∷ vss) h =
    let (us, f, asc, k) = union_from_is env (node (strict (operator Cup)) nowhere (tree a (tree b no_trees))) (cup vs ws)
    (λ i. (e i >>= (λ v. (h.0 i >>= (λ w. Ok (w ∷ []))) >>= (λ rest. Ok (v ∷ rest)))) >>= (strict_value plain (operator Cup) nowhere)) (set_from_ascending (listed vs ++ listed ws)) es vss h.2 in
    (us, f, asc, λ x. k x ∙ ap (λ b. b || held_in x vss) (holds_cup x vs ws) ∙ or_assoc (holds x vs) (holds x ws) (held_in x vss))
union_from_is env a vs e up [] (ws ∷ vss) h = absurd h
union_from_is env a vs e up (b ∷ es) [] h = absurd h

-- so it is the set of the identifiers of the processes, in their order
pub process_set_is : (env : Env) (e : Tree) (es : List Tree) (vs : Values) (vss : List Values) → AreSets env (e ∷ es) (vs ∷ vss) → (ws : List Actor) → Distinct ws
    → ((x : Value) → held_in x (vs ∷ vss) ≡ holds x (ids ws)) → (eval plain (union (e ∷ es)) env).value ≡ Ok (set (ids (sorted ws)))
process_set_is env e es vs vss h ws d k =
    let (us, f, asc, m) = union_from_is env e vs h.0 h.1 es vss h.2 in
    f ∙ ap (λ z. Ok (set z)) (same_members us (ids (sorted ws)) asc (sorted_ascending ws d) (λ x. m x ∙ k x ∙ sym (holds_sorted x ws)))
