-- Initial values with written names: for each process they are what the routine's scope gives, so the conjunct of Init for a variable of many processes is true
-- just where the walk allows the variable's value; and the CASE of pc gives each process its first label.
use Rattle.std.proofs.Common.{◌≡◌, List, [], ◌∷◌, ◌++◌, Bool, true, false, cond, refl, sym, ◌∙◌, ap, Ok, Err, ◌⊎◌, inl, inr}
use Rattle.tla_token.specs.Places.{nowhere}
use Rattle.tla_tree.specs.Tree.{Tree, Every, root_place}
use Rattle.tla_tree.specs.TreeOf.{trees_from}
use Rattle.tla_value.specs.Value.{Outcome, ◌>>=◌, and_then}
use Rattle.tla_value.specs.Stops.{plain, truth_at}
use Rattle.tla_value.specs.Meaning.{Env, eval, evals, test, first_arm}
use Rattle.tla_value.specs.Grafts.{owned, through as through_env}
use Rattle.tla_value.specs.Definitions.{Definition}
use Rattle.tla_value.specs.laws.Grafting.{BindsClear}
use Rattle.tla_value.proofs.Graft.{grafted_law}
use Rattle.tla_value.proofs.Graft.{free_law}
use Rattle.module_tree.specs.Formulas.{self}
use Rattle.module_tree.specs.ActionTruth.{Verdict, truth_in}
use Rattle.module_tree.specs.ModuleTruth.{all_hold}
use Rattle.pcal_tree.specs.Algorithm.{Routine}
use Rattle.pcal_tree.specs.Scope.{State}
use Rattle.pcal_tree.specs.Program.{Program, Actor, routine_scope}
use Rattle.pcal_tree.specs.Takers.{Taken, Takers, each_of, single, lone}
use Rattle.action_builder.specs.WrittenNames.{renames, renamed}
use Rattle.action_builder.specs.OwnVariables.{is_own_variable}
use Rattle.action_builder.specs.InitialFormulas.{written_in, is_taker, first_pc, arms, pc_value}
use Rattle.pcal_tree.specs.laws.ReadNames.{Reads}
use Rattle.action_builder.specs.laws.WrittenScope.{Seen, written_scope, NamesApart}
use Rattle.action_builder.proofs.WrittenScope.{routine_meets}
use Rattle.tla_value.specs.laws.FreeNames.{Any}

-- ---- an expression with written names

-- what is asked of it in a routine
pub record IsNamed (P : Program) (extra : List Definition) (u : Routine) (e : Tree) : Type 0 where
  pub names : Every (BindsClear P.check (renames P u)) e
  pub own : Every (BindsClear P.check (owned self (is_own_variable P))) (renamed P u e)
  pub reads : Reads (Seen P extra u) e

pub written_expression : (P : Program) (extra : List Definition) (v : Actor) (u : Routine) → NamesApart P extra v u → (e : Tree) → IsNamed P extra u e → (s : State)
    → eval P.check (written_in P u e) ((written_scope P extra v).env s) ≡ eval P.check e ((routine_scope P v u).env s)
written_expression P extra v u k e n s =
    let W = (written_scope P extra v).env s in
    grafted_law P.check (owned self (is_own_variable P)) (renamed P u e) n.own W (through_env P.check (owned self (is_own_variable P)) W) (record { now = λ x a at. refl; primed = λ x at. refl; defs = λ x a. refl })
    ∙ free_law P.check (renames P u) (Seen P extra u) Any e n.names n.reads _ _ ((routine_meets P extra v u k).env s)

-- ---- pc

-- the first arm of the CASE whose test is true is that of t; those before it are false
abbrev pub Takes : Program → Env → List Taken → Taken → Type 0
Takes P env [] t = ⊥
Takes P env (r ∷ rs) t = ((truth_in plain env (is_taker r.takers) ≡ Ok true) × (r ≡ t)) ⊎ ((truth_in plain env (is_taker r.takers) ≡ Ok false) × Takes P env rs t)

-- the tests stand nowhere
test_is : (e : Tree) (env : Env) (b : Bool) → root_place e ≡ nowhere → truth_in plain env e ≡ Ok b → test nowhere (eval plain e) env ≡ Ok b
test_is e env b p q = (λ i. (eval plain e env).value >>= (truth_at (sym p i))) ∙ q

taker_nowhere : (t : Takers) → root_place (is_taker t) ≡ nowhere
taker_nowhere (each_of s) = refl
taker_nowhere (single e) = refl
taker_nowhere lone = refl

arm_is : (P : Program) (env : Env) (ts : List Taken) (t : Taken) → Takes P env ts t → first_arm false nowhere (evals plain (trees_from (arms P ts))) env ≡ (eval plain (first_pc P t) env).value
arm_is P env [] t h = absurd h
arm_is P env (r ∷ rs) t (inl h) = (λ i. test_is (is_taker r.takers) env true (taker_nowhere r.takers) h.0 i >>= (λ b. cond b (eval plain (first_pc P r) env).value (first_arm false nowhere (evals plain (trees_from (arms P rs))) env))) ∙ ap (λ z. (eval plain (first_pc P z) env).value) h.1
arm_is P env (r ∷ rs) t (inr h) = (λ i. test_is (is_taker r.takers) env false (taker_nowhere r.takers) h.0 i >>= (λ b. cond b (eval plain (first_pc P r) env).value (first_arm false nowhere (evals plain (trees_from (arms P rs))) env))) ∙ arm_is P env rs t h.1

-- with one process or many
pub pc_is : (P : Program) (env : Env) (ts : List Taken) (t : Taken) → Takes P env ts t → (eval plain (pc_value P ts) env).value ≡ (eval plain (first_pc P t) env).value
pc_is P env [] t h = absurd h
pc_is P env (r ∷ []) t (inl h) = ap (λ z. (eval plain (first_pc P z) env).value) h.1
pc_is P env (r ∷ []) t (inr h) = absurd h.1
pc_is P env (r ∷ q ∷ rs) t h = arm_is P env (r ∷ q ∷ rs) t h

-- ---- all conjuncts

-- where the first is a truth value, so is the second, and the same
abbrev pub Follows : Outcome Bool → Verdict → Type 0
Follows o v = (b : Bool) → o ≡ Ok b → v ≡ Ok b

pub follows_and : (o q : Outcome Bool) (v w : Verdict) → Follows o v → Follows q w → Follows (and_then o q) (and_then v w)
follows_and (Ok true) q v w h k b e = (λ i. and_then (h true refl i) w) ∙ k b e
follows_and (Ok false) q v w h k b e = (λ i. and_then (h false refl i) w) ∙ e
follows_and (Err z) q v w h k b e = cc

pub hold_both : (env : Env) (xs ys : List Tree) → all_hold plain env (xs ++ ys) ≡ and_then (all_hold plain env xs) (all_hold plain env ys)
hold_both env [] ys = refl
hold_both env (x ∷ xs) ys = ap (and_then (truth_in plain env x)) (hold_both env xs ys) ∙ and_assoc (truth_in plain env x) (all_hold plain env xs) (all_hold plain env ys)
  where
    and_assoc : (a b c : Verdict) → and_then a (and_then b c) ≡ and_then (and_then a b) c
    and_assoc (Ok true) b c = refl
    and_assoc (Ok false) b c = refl
    and_assoc (Err k) b c = refl
