-- What is counted once for each macro gives the size of the expansion.
use Rattle.std.proofs.Common.{◌≡◌, ℕ, ◌+◌, suc, List, [], ◌∷◌, map, reverse, Bool, true, false, cond, max, bytes_eq, refl, sym, ap, ◌∙◌, arith}
use Rattle.std.proofs.Math.Nat.{zero-max}
use Rattle.tla_tree.specs.Tree.{Word, Name, Tree, Trees, Graft, grafts}
use Rattle.pcal_tree.specs.Algorithm.{Span, Statements, Definition, Macro, Procedure, Process, Main, alone, processes, Algorithm}
use Rattle.pcal_tree.specs.Run.{arguments}
use Rattle.pcal_tree.specs.Expand.{expand, expanded, written_out, graft_all, graft_left}
use Rattle.macro_expand.specs.Measured.{Measure, Calls, of_trees, of_all, of_each, of_declared, of_procedure, of_process, of_main, of_algorithm}
use Rattle.macro_expand.specs.Size.{Size, no_size, both, one_node_more, deeper, one_label_more, sizes, call_size, expansion, expanded_main, expanded_size}
use Rattle.macro_expand.specs.laws.Sums.{Unknown, counting, nesting, number, plus, value, as_names, tree_sum, left_sum, argument}
use Rattle.macro_expand.specs.laws.MacroSizes.{Counts, counts, MacroCounts, with_arguments, unknown_call, call_counts, with_macro, macro_counts, size_at_names, size_by_macros}
use Rattle.macro_expand.specs.laws.MacroSizes as macros
use Rattle.macro_expand.proofs.SumLaws.{is_counting, is_nesting, value_plus, value_put, max_of_three}
use Rattle.macro_expand.proofs.TreeSums.{under, tree_put, left_put, nodes_are, nesting_is, subscript_nodes_are, left_nesting_is}
use Rattle.macro_expand.proofs.MeasureLaws.{Carries, carry_trees, carry_all, carry_algorithm, Joins, written_all, Puts, put_trees, put_all}

-- numbers for names
record Numbers : Type 0 where
  nodes : Unknown → ℕ
  nesting : Unknown → ℕ

abbrev names : Numbers
names = record { nodes = as_names counting; nesting = as_names nesting }

abbrev with_put : Numbers → List Name → Trees → Numbers
with_put e ps ts = record { nodes = under counting e.nodes ps ts; nesting = under nesting e.nesting ps ts }

abbrev size_at : Numbers → Counts → Size
size_at e c = record { nodes = value counting e.nodes c.nodes; expressions = value nesting e.nesting c.expressions; statements = c.statements; labels = c.labels }

abbrev sizes_at : Numbers → Measure Size
sizes_at e = record {
  nothing = no_size;
  both = both;
  expression = λ t. size_at e (counts.expression t);
  left = λ l. size_at e (counts.left l);
  statement = one_node_more;
  inside = deeper;
  label = one_label_more;
}

abbrev call_size_at : Numbers → Calls Size
call_size_at e m ts = one_node_more (of_trees (sizes_at e) ts)

-- ---- the measures agree

at_both : (e : Numbers) (a b : Counts) → size_at e (macros.both a b) ≡ both (size_at e a) (size_at e b)
at_both e a b = λ z. record {
  nodes = value_plus counting is_counting e.nodes a.nodes b.nodes z;
  expressions = value_plus nesting is_nesting e.nesting a.expressions b.expressions z;
  statements = max a.statements b.statements;
  labels = a.labels + b.labels;
}

at_statement : (e : Numbers) (c : Counts) → size_at e (macros.one_node_more c) ≡ one_node_more (size_at e c)
at_statement e c = λ z. record {
  nodes = value_plus counting is_counting e.nodes (number 1) c.nodes z;
  expressions = value nesting e.nesting c.expressions;
  statements = c.statements;
  labels = c.labels;
}

at_carries : (e : Numbers) → Carries Counts Size counts (sizes_at e) (size_at e)
at_carries e = record {
  nothing = refl;
  both = at_both e;
  expression = λ t. refl;
  left = λ t. refl;
  statement = at_statement e;
  inside = λ k x. refl;
  label = λ x. refl;
}

at_names_expression : (t : Tree) → size_at names (counts.expression t) ≡ sizes.expression t
at_names_expression t = λ z. record { nodes = nodes_are t z; expressions = nesting_is t z; statements = 0; labels = 0 }

at_names_left : (t : Tree) → size_at names (counts.left t) ≡ sizes.left t
at_names_left t = λ z. record {
  nodes = (value_plus counting is_counting (as_names counting) (number 1) (left_sum counting t) ∙ ap (λ (n : ℕ). 1 + n) (subscript_nodes_are t)) z;
  expressions = left_nesting_is t z;
  statements = 0;
  labels = 0;
}

names_carry : Carries Size Size (sizes_at names) sizes (λ s. s)
names_carry = record {
  nothing = refl;
  both = λ x y. refl;
  expression = at_names_expression;
  left = at_names_left;
  statement = λ x. refl;
  inside = λ k x. refl;
  label = λ x. refl;
}

names_call : (m : Word) (ts : Trees) → call_size_at names m ts ≡ call_size m ts
names_call m ts = ap one_node_more (carry_trees names_carry ts)

plus_of_three : (a b c : ℕ) → a + b + c ≡ a + (b + c)
plus_of_three a b c = omega arith

nothing_more : (a : ℕ) → 0 + a ≡ a
nothing_more a = omega arith

suc_plus : (a b : ℕ) → suc a + b ≡ suc (a + b)
suc_plus a b = omega arith

joins : (e : Numbers) → Joins Size (sizes_at e)
joins e = record {
  nothing = λ x. λ z. record { nodes = nothing_more x.nodes z; expressions = zero-max x.expressions z; statements = zero-max x.statements z; labels = nothing_more x.labels z };
  three = λ x y w. λ z. record { nodes = plus_of_three x.nodes y.nodes w.nodes z; expressions = max_of_three x.expressions y.expressions w.expressions z; statements = max_of_three x.statements y.statements w.statements z; labels = plus_of_three x.labels y.labels w.labels z };
  label = λ x y. λ z. record { nodes = x.nodes + y.nodes; expressions = max x.expressions y.expressions; statements = max x.statements y.statements; labels = suc_plus x.labels y.labels z };
}

-- ---- arguments put in

at_arguments : (e : Numbers) (ps : List Name) (ts : Trees) (c : Counts) → size_at e (with_arguments ps ts c) ≡ size_at (with_put e ps ts) c
at_arguments e ps ts c = λ z. record {
  nodes = value_put counting is_counting e.nodes (argument counting ps ts) c.nodes z;
  expressions = value_put nesting is_nesting e.nesting (argument nesting ps ts) c.expressions z;
  statements = c.statements;
  labels = c.labels;
}

puts : (e : Numbers) (ps : List Name) (ts : Trees) → Puts Size (sizes_at e) (sizes_at (with_put e ps ts)) (arguments ps ts)
puts e ps ts = record {
  expression = λ t. λ z. record { nodes = tree_put counting is_counting e.nodes ps ts t z; expressions = tree_put nesting is_nesting e.nesting ps ts t z; statements = 0; labels = 0 };
  left = λ t. λ z. record {
    nodes = (value_plus counting is_counting e.nodes (number 1) (left_sum counting (graft_left (arguments ps ts) t)) ∙ ap (λ (n : ℕ). 1 + n) (left_put counting is_counting e.nodes ps ts t) ∙ sym (value_plus counting is_counting (under counting e.nodes ps ts) (number 1) (left_sum counting t))) z;
    expressions = left_put nesting is_nesting e.nesting ps ts t z;
    statements = 0;
    labels = 0;
  };
  nothing = refl;
  both = λ x y. refl;
  statement = λ x. refl;
  inside = λ k x. refl;
  label = λ x. refl;
}

put_call : (e : Numbers) (ps : List Name) (ts : Trees) (m : Word) (us : Trees) → call_size_at e m (grafts (arguments ps ts) us) ≡ call_size_at (with_put e ps ts) m us
put_call e ps ts m us = ap one_node_more (put_trees (puts e ps ts) us)

-- ---- macros

either_way : (e : Numbers) (b : Bool) (c d : Counts) (x y : Statements) → size_at e c ≡ of_all (sizes_at e) (call_size_at e) x → size_at e d ≡ of_all (sizes_at e) (call_size_at e) y
    → size_at e (cond b c d) ≡ of_all (sizes_at e) (call_size_at e) (cond b x y)
either_way e true c d x y p q = p
either_way e false c d x y p q = q

-- a body with its calls written out and the arguments put in, where calls are so
body_is_written : (e : Numbers) (ps : List Name) (ts : Trees) (X : Word → Trees → Counts) (W : Span → Word → Trees → Statements)
    → ((at : Span) (m : Word) (us : Trees) → size_at (with_put e ps ts) (X m us) ≡ of_all (sizes_at (with_put e ps ts)) (call_size_at (with_put e ps ts)) (W at m us)) → (b : Statements)
    → size_at e (with_arguments ps ts (of_all counts X b)) ≡ of_all (sizes_at e) (call_size_at e) (graft_all (arguments ps ts) (expand W b))
body_is_written e ps ts X W h b =
    at_arguments e ps ts (of_all counts X b)
    ∙ carry_all (at_carries (with_put e ps ts)) X (λ m us. size_at (with_put e ps ts) (X m us)) (λ m us. refl) b
    ∙ written_all (joins (with_put e ps ts)) (λ m us. size_at (with_put e ps ts) (X m us)) (call_size_at (with_put e ps ts)) W h b
    ∙ sym (put_all (puts e ps ts) (call_size_at e) (call_size_at (with_put e ps ts)) (put_call e ps ts) (expand W b))

call_is_written : (ms : List Macro) (e : Numbers) (at : Span) (m : Word) (ts : Trees) → size_at e (call_counts (macro_counts ms) m ts) ≡ of_all (sizes_at e) (call_size_at e) (written_out ms at m ts)
call_is_written [] e at m ts = refl
call_is_written (d ∷ older) e at m ts =
    either_way e (bytes_eq d.name.word m) (with_arguments d.params ts (of_all counts (call_counts (macro_counts older)) d.body)) (call_counts (macro_counts older) m ts)
    (graft_all (arguments d.params ts) (expand (written_out older) d.body)) (written_out older at m ts)
    (body_is_written e d.params ts (call_counts (macro_counts older)) (written_out older) (call_is_written older (with_put e d.params ts)) d.body)
    (call_is_written older e at m ts)

-- ---- algorithms

procedures_written : (N : Measure Size) (J : Joins Size N) (C D : Calls Size) (ms : List Macro) → ((at : Span) (m : Word) (ts : Trees) → C m ts ≡ of_all N D (written_out ms at m ts)) → (ps : List Procedure)
    → of_each N (of_procedure N C) ps ≡ of_each N (of_procedure N D) (map (λ (p : Procedure). record { name = p.name; params = p.params; variables = p.variables; body = expanded ms p.body }) ps)
procedures_written N J C D ms c [] = refl
procedures_written N J C D ms c (p ∷ ps) =
    λ z. N.both (N.both (of_declared N p.params) (N.both (of_declared N p.variables) (written_all J C D (written_out ms) c p.body z))) (procedures_written N J C D ms c ps z)

processes_written : (N : Measure Size) (J : Joins Size N) (C D : Calls Size) (ms : List Macro) → ((at : Span) (m : Word) (ts : Trees) → C m ts ≡ of_all N D (written_out ms at m ts)) → (ps : List Process)
    → of_each N (of_process N C) ps ≡ of_each N (of_process N D) (map (λ (p : Process). record { name = p.name; fairness = p.fairness; several = p.several; identity = p.identity; variables = p.variables; body = expanded ms p.body }) ps)
processes_written N J C D ms c [] = refl
processes_written N J C D ms c (p ∷ ps) =
    λ z. N.both (N.both (N.expression p.identity) (N.both (of_declared N p.variables) (written_all J C D (written_out ms) c p.body z))) (processes_written N J C D ms c ps z)

main_written : (N : Measure Size) (J : Joins Size N) (C D : Calls Size) (ms : List Macro) → ((at : Span) (m : Word) (ts : Trees) → C m ts ≡ of_all N D (written_out ms at m ts)) → (m : Main)
    → of_main N C m ≡ of_main N D (expanded_main (expanded ms) m)
main_written N J C D ms c (alone b) = written_all J C D (written_out ms) c b
main_written N J C D ms c (processes ps) = processes_written N J C D ms c ps

algorithm_written : (N : Measure Size) (J : Joins Size N) (C D : Calls Size) (a : Algorithm) → ((at : Span) (m : Word) (ts : Trees) → C m ts ≡ of_all N D (written_out (reverse a.macros) at m ts))
    → of_algorithm N C a ≡ of_algorithm N D (expansion a)
algorithm_written N J C D a c =
    λ z. N.both (of_declared N a.globals) (N.both (of_each N (λ (d : Definition). N.expression d.body) a.definitions)
    (N.both (procedures_written N J C D (reverse a.macros) c a.procedures z) (main_written N J C D (reverse a.macros) c a.main z)))

pub counted_once : (a : Algorithm) → size_by_macros a ≡ expanded_size a
counted_once a =
    let X : Calls Counts = call_counts (macro_counts (reverse a.macros)) in
    carry_algorithm (at_carries names) X (λ m ts. size_at names (X m ts)) (λ m ts. refl) a
    ∙ algorithm_written (sizes_at names) (joins names) (λ m ts. size_at names (X m ts)) (call_size_at names) a (λ at m ts. call_is_written (reverse a.macros) names at m ts)
    ∙ carry_algorithm names_carry (call_size_at names) call_size names_call (expansion a)
