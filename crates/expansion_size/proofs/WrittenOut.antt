-- What is left at the end, by the size of the expansion.
use Rattle.std.proofs.Common.{◌≡◌, ℕ, nat_lt, List, [], ◌∷◌, map, reverse, Bool, true, false, cond, bytes_eq, Option, Some, None, refl, sym, ap, ◌∙◌}
use Rattle.tla_token.specs.declared.place.Place.{Place}
use Rattle.tla_token.specs.Limits.{deepest_expression}
use Rattle.tla_tree.specs.Tree.{Word, Name, name, Tree, node, Trees, Graft, graft, grafts, grafted_name}
use Rattle.tla_tree.specs.Nesting.{tree_nesting}
use Rattle.pcal_tree.specs.Algorithm.{Span, Statements, Definition, Macro, Procedure, Process, Main, alone, processes, Algorithm}
use Rattle.pcal_tree.specs.Run.{arguments}
use Rattle.pcal_tree.specs.Expand.{expand, expanded, written_out, graft_all, placed_at, graft_left}
use Rattle.pcal_tree.specs.OffencesSteps.{called_with, nothing_put}
use Rattle.pcal_tree.proofs.TargetLaws.{Anywhere, called_anywhere}
use Rattle.macro_expand.specs.Measured.{Measure, Calls, of_all, of_each, of_declared, of_procedure, of_process, of_main, of_algorithm}
use Rattle.macro_expand.specs.Size.{Size, sizes, call_size, expansion, expanded_main, expanded_size, nodes, subscript_nodes, left_nesting}
use Rattle.macro_expand.proofs.MeasureLaws.{Carries, carry_algorithm, Joins, written_all, Puts, put_all}
use Rattle.expansion_size.specs.Spent.{spend, spent}
use Rattle.expansion_size.specs.Budget.{After, budget, calls}
use Rattle.expansion_size.proofs.SpendLaws.{spent_nothing, spent_both, spent_expression, spent_left, spent_statement, spent_label, spent_inside}
use Rattle.expansion_size.proofs.GraftLaws.{graft_none, grafts_none, graft_called, grafts_called}

-- ---- left sides with trees put in twice

-- what is put in for a left side's name rests on no place, and a left side's own place doesn't count
left_again : (g : Graft) → Anywhere g → (l : Tree) → (at : Place) → (f : ℕ → ℕ → After) → f (subscript_nodes (graft g (placed_at at l))) (left_nesting (graft g (placed_at at l))) ≡ f (subscript_nodes (graft g l)) (left_nesting (graft g l))
left_again g free (node (name x) p ts) at f = by (g x at) (g x p) (free x at p)
  where
    of : Option Tree → Place → After
    of o at = f (subscript_nodes (grafted_name o (name x) at (grafts g ts))) (left_nesting (grafted_name o (name x) at (grafts g ts)))

    by : (a b : Option Tree) → a ≡ b → of a at ≡ of b p
    by a b h = ap (λ (o : Option Tree). of o at) h ∙ place b
      where
        place : (o : Option Tree) → of o at ≡ of o p
        place (Some t) = refl
        place None = refl
left_again g free (node m p ts) at f = refl

abbrev after_left : ℕ → ℕ → After
after_left n k d l = spend n 0 (nat_lt deepest_expression k) (spend 1 0 false l)

left_put : (g : Graft) → Anywhere g → (ps : List Name) (us : Trees) (t : Tree) → (budget g).left (graft_left (arguments ps us) t) ≡ (budget (called_with ps (grafts g us) g)).left t
left_put g free ps us (node m at ts) =
    left_again g free (graft (arguments ps us) (node m at ts)) at after_left
    ∙ ap (λ (u : Tree). after_left (subscript_nodes u) (left_nesting u)) (graft_called g ps us (node m at ts))

-- ---- macro calls written out

joins : (g : Graft) → Joins After (budget g)
joins g = record { nothing = λ x. refl; three = λ x y z. refl; label = λ x y. refl }

puts : (g : Graft) → Anywhere g → (ps : List Name) (us : Trees) → Puts After (budget g) (budget (called_with ps (grafts g us) g)) (arguments ps us)
puts g free ps us = record {
  expression = λ t. ap {B = After} (λ (u : Tree) d l. spend (nodes u) 0 (nat_lt deepest_expression (tree_nesting u)) l) (graft_called g ps us t);
  left = left_put g free ps us;
  nothing = refl;
  both = λ x y. refl;
  statement = λ x. refl;
  inside = λ k x. refl;
  label = λ x. refl;
}

-- of a call that isn't written out, where there is none
abbrev left_alone : Graft → Calls After
left_alone g m ts = spent (call_size m (grafts g ts))

either_way : (b : Bool) (x y : After) (g : Graft) (p q : Statements) → x ≡ of_all (budget g) (left_alone g) p → y ≡ of_all (budget g) (left_alone g) q → cond b x y ≡ of_all (budget g) (left_alone g) (cond b p q)
either_way true x y g p q h k = h
either_way false x y g p q h k = k

body_is_written : (g : Graft) → Anywhere g → (ps : List Name) (us : Trees) (C : Calls After) (W : Span → Word → Trees → Statements)
    → ((at : Span) (m : Word) (ts : Trees) → C m ts ≡ of_all (budget (called_with ps (grafts g us) g)) (left_alone (called_with ps (grafts g us) g)) (W at m ts)) → (b : Statements)
    → of_all (budget (called_with ps (grafts g us) g)) C b ≡ of_all (budget g) (left_alone g) (graft_all (arguments ps us) (expand W b))
body_is_written g free ps us C W h b =
    written_all (joins inner) C (left_alone inner) W h b
    ∙ sym (put_all (puts g free ps us) (left_alone g) (left_alone inner) (λ m ts. ap (λ (z : Trees). spent (call_size m z)) (grafts_called g ps us ts)) (expand W b))
  where
    inner : Graft
    inner = called_with ps (grafts g us) g

call_is_written : (ms : List Macro) (g : Graft) → Anywhere g → (at : Span) (m : Word) (ts : Trees) → calls ms g m ts ≡ of_all (budget g) (left_alone g) (written_out ms at m ts)
call_is_written [] g free at m ts = refl
call_is_written (o ∷ older) g free at m ts =
    either_way (bytes_eq o.name.word m) (of_all (budget (called_with o.params (grafts g ts) g)) (calls older (called_with o.params (grafts g ts) g)) o.body) (calls older g m ts) g
    (graft_all (arguments o.params ts) (expand (written_out older) o.body)) (written_out older at m ts)
    (body_is_written g free o.params ts (calls older (called_with o.params (grafts g ts) g)) (written_out older) (call_is_written older (called_with o.params (grafts g ts) g) (called_anywhere o.params (grafts g ts) g free)) o.body)
    (call_is_written older g free at m ts)

-- ---- algorithms

module _ {X : Type 0} (N : Measure X) (J : Joins X N) (C D : Calls X) (ms : List Macro) (c : (at : Span) (m : Word) (ts : Trees) → C m ts ≡ of_all N D (written_out ms at m ts)) where
  procedures_written : (ps : List Procedure)
      → of_each N (of_procedure N C) ps ≡ of_each N (of_procedure N D) (map (λ (p : Procedure). record { name = p.name; params = p.params; variables = p.variables; body = expanded ms p.body }) ps)
  procedures_written [] = refl
  procedures_written (p ∷ ps) = λ z. N.both (N.both (of_declared N p.params) (N.both (of_declared N p.variables) (written_all J C D (written_out ms) c p.body z))) (procedures_written ps z)

  processes_written : (ps : List Process)
      → of_each N (of_process N C) ps
      ≡ of_each N (of_process N D) (map (λ (p : Process). record { name = p.name; fairness = p.fairness; several = p.several; identity = p.identity; variables = p.variables; body = expanded ms p.body }) ps)
  processes_written [] = refl
  processes_written (p ∷ ps) = λ z. N.both (N.both (N.expression p.identity) (N.both (of_declared N p.variables) (written_all J C D (written_out ms) c p.body z))) (processes_written ps z)

  main_written : (m : Main) → of_main N C m ≡ of_main N D (expanded_main (expanded ms) m)
  main_written (alone b) = written_all J C D (written_out ms) c b
  main_written (processes ps) = processes_written ps

-- what is counted in an algorithm's own text, call by call, is what its expansion counts
pub same_as_expanded : (a : Algorithm) → of_algorithm (budget nothing_put) (calls (reverse a.macros) nothing_put) a ≡ spent (expanded_size a)
same_as_expanded a = written ∙ sym (carry_algorithm carries call_size (left_alone nothing_put) (λ m ts. ap (λ (z : Trees). spent (call_size m z)) (sym (grafts_none ts))) (expansion a))
  where
    N : Measure After
    N = budget nothing_put

    C : Calls After
    C = calls (reverse a.macros) nothing_put

    c : (at : Span) (m : Word) (ts : Trees) → C m ts ≡ of_all N (left_alone nothing_put) (written_out (reverse a.macros) at m ts)
    c = call_is_written (reverse a.macros) nothing_put (λ x p q. refl)

    written : of_algorithm N C a ≡ of_algorithm N (left_alone nothing_put) (expansion a)
    written =
        λ z. N.both (of_declared N a.globals) (N.both (of_each N (λ (d : Definition). N.expression d.body) a.definitions)
        (N.both (procedures_written N (joins nothing_put) C (left_alone nothing_put) (reverse a.macros) c a.procedures z) (main_written N (joins nothing_put) C (left_alone nothing_put) (reverse a.macros) c a.main z)))

    carries : Carries Size After sizes N spent
    carries = record {
      nothing = λ z d l. spent_nothing d l z;
      both = λ x y z d l. spent_both x y d l z;
      expression = λ t z d l. (spent_expression (nodes t) (tree_nesting t) d l ∙ ap (λ (u : Tree). spend (nodes u) 0 (nat_lt deepest_expression (tree_nesting u)) l) (sym (graft_none t))) z;
      left = λ t z d l. (spent_left (subscript_nodes t) (left_nesting t) d l ∙ ap (λ (u : Tree). after_left (subscript_nodes u) (left_nesting u) d l) (sym (graft_none t))) z;
      statement = λ x z d l. spent_statement x d l z;
      inside = λ k x z d l. spent_inside k x d l z;
      label = λ x z d l. spent_label x d l z;
    }
