-- The assignments of whole calls.
use Rattle.std.proofs.Common.{◌≡◌, ℕ, Bool, true, false, cond, nat_eq, List, [], ◌∷◌, ◌++◌, map, Option, Some, None, refl, sym, ap, ◌∙◌, append_assoc, eqb-true, ◌≤◌, length, arith}
use Rattle.std.proofs.lemmas.Simd.{map-map}
use Rattle.tla_tree.specs.Tree.{Word, Tree, Trees}
use Rattle.tla_tree.specs.TreeOf.{trees_from}
use Rattle.tla_tree.specs.Pool.{at, trees_at, Keeps}
use Rattle.tla_tree.proofs.PoolNumbers.{map_at-kept}
use Rattle.pcal_tree.specs.declared.algorithm.Procedure.{Procedure as Called}
use Rattle.pcal_tree.specs.Algorithm.{nowhere, Declaration, Routine, locals, procedure_routine, Assignments, no_assignments, assignment, Naming, Statements, assign, then}
use Rattle.pcal_tree.specs.InMemory.{declaration_at, procedure_at, past_numbers, past_declaration, past_procedure}
use Rattle.pcal_tree.proofs.InMemoryEach.{past_all_below}
use Rattle.pcal_tree.proofs.InMemoryGrown.{each_kept}
use Rattle.pcal_tree.specs.Program.{Program}
use Rattle.pcal_tree.specs.Calls.{label_name, first_label}
use Rattle.pcal_tree.specs.Variables.{pc, stack, declared, written_all}
use Rattle.action_builder.specs.Jumps.{name_at, text_at, one_assignment, spot, stack_rest, names_at, kept_fields, arguments_assigned, pushed_on, variables_written, values_kept, fields_of, call_written, pair_body}
use Rattle.action_builder.specs.LabelActions.{initial_tree}
use Rattle.action_builder.specs.Written.{old_stack}
use Rattle.draft.specs.RoutineNames.{words_of}
use Rattle.draft.proofs.NameLaws.{words_declared, both_declared}
use Rattle.proc_stack.specs.Moves.{in_order}
use Rattle.proc_stack.specs.Pieces.{frame_tree, first_of, selected, value_kept, frame_for, pushed, joined, field_sides, arguments_sides, entry, variable_move, entered}
use Rattle.proc_stack.proofs.MadeLaws.{declaration_kept}
use Rattle.proc_stack.proofs.PieceLaws.{others_are, arguments_are, names_kept, fields_kept, frame_is, in_front, order_both, variables_are}

-- a procedure in memory, by its names in a program
module _ (P : Program) (q : ℕ) (ts : List Tree) (p : Called) (N : Naming) (named : N ≡ P.naming) where
  abbrev pub routine : Routine
  routine = procedure_routine q (procedure_at ts p)

  abbrev names : List Word
  names = words_of p.params.items ++ words_of p.variables.items

  pub names_are : declared (locals routine) ≡ names
  names_are = both_declared ts p.params.items p.variables.items

  pub frame_kept : (back : Tree) → frame_for N q names back None ≡ frame_tree P routine nowhere back (names_at nowhere (written_all P routine (locals routine)))
  frame_kept back = frame_is P routine N names back None (names_at nowhere (written_all P routine (locals routine))) named names_are (names_kept (P.naming.local q) (declared (locals routine)))

  module _ (back : Tree) (r : Option Tree) (kept : Trees) (rest : Tree) (es : List Tree) (same : trees_from (map (λ x. value_kept r (P.naming.local q x)) (declared (locals routine))) ≡ kept) where
    arguments_given : joined (arguments_sides (N.local q) (words_of p.params.items) es) no_assignments ≡ arguments_assigned (written_all P routine routine.params) (trees_from es)
    arguments_given =
        (λ j. joined (arguments_sides ((named j).local q) (sym (words_declared ts p.params.items) j) es) no_assignments)
        ∙ arguments_are (P.naming.local q) (declared routine.params) es

    entry_is : entry N q names (words_of p.params.items) back r rest es ≡ assignment (name_at nowhere stack) (pushed_on P routine nowhere back kept rest) (arguments_assigned (written_all P routine routine.params) (trees_from es))
    entry_is = λ j. assignment (name_at nowhere stack) (pushed (frame_is P routine N names back r kept named names_are same j) rest) (arguments_given j)

    starts_are : map (λ d. variable_move (N.local q) names (declaration_at ts d)) p.variables.items ≡ map (variable_move (P.naming.local q) (declared (locals routine))) routine.variables
    starts_are =
        (λ j. map (λ d. variable_move ((named j).local q) (sym names_are j) (declaration_at ts d)) p.variables.items)
        ∙ sym (map-map (variable_move (P.naming.local q) (declared (locals routine))) (declaration_at ts) p.variables.items)

    pub entered_is : (last : List Assignments) → in_order (entered N q ts p back r rest es ++ last)
        ≡ then (spot nowhere) (assign (assignment (name_at nowhere stack) (pushed_on P routine nowhere back kept rest) (arguments_assigned (written_all P routine routine.params) (trees_from es))))
        (variables_written P routine (λ d. nowhere) (λ d. initial_tree P routine d.start) routine.variables (in_order last))
    entered_is last =
        let after : List Assignments → Statements = λ (ms : List Assignments). in_front ms (in_order last) in
        let starts = map (λ d. variable_move (N.local q) names (declaration_at ts d)) p.variables.items in
        let behind = order_both starts last ∙ ap after starts_are ∙ variables_are P routine routine.variables (in_order last) in
        λ j. then (spot nowhere) (assign (entry_is j)) (behind j)

  -- pc := the first label
  abbrev pub jump : Assignments
  jump = one_assignment (name_at nowhere pc) (text_at nowhere (label_name P routine (first_label routine)))

  pub call_is : (back : Word) (es : List ℕ) (moves : List Assignments) → moves ≡ entered N q ts p (text_at nowhere back) None (name_at nowhere stack) (map (at ts) es) ++ jump ∷ []
      → in_order moves ≡ call_written P routine nowhere (trees_at ts es) back (λ d. nowhere) (λ d. initial_tree P routine d.start)
  call_is back es moves e =
      ap in_order e
      ∙ entered_is (text_at nowhere back) None (names_at nowhere (written_all P routine (locals routine))) (name_at nowhere stack) (map (at ts) es) (names_kept (P.naming.local q) (declared (locals routine))) (jump ∷ [])

  -- ---- with a return

  module _ (u : Routine) (xs : List Word) (variables : declared (locals u) ≡ xs) (own : u.number ≡ q → xs ≡ names) where
    -- the values of the record that is taken off, where the routine calls itself
    kept_by : (b : Bool) → nat_eq u.number q ≡ b
        → trees_from (map (λ x. value_kept (cond b (Some (first_of stack)) None) (P.naming.local q x)) (declared (locals routine)))
        ≡ cond b (kept_fields nowhere (written_all P u (locals u))) (names_at nowhere (written_all P routine (locals routine)))
    kept_by true e =
        let number = eqb-true u.number q e in
        fields_kept (P.naming.local q) (declared (locals routine))
        ∙ (λ j. kept_fields nowhere (map (P.naming.local (sym number j)) ((names_are ∙ sym (own number) ∙ sym variables) j)))
    kept_by false e = names_kept (P.naming.local q) (declared (locals routine))

    -- what the return restores
    abbrev pub others : ℕ → Assignments
    others n = cond (nat_eq n q) no_assignments (joined (map (field_sides (N.local n) (first_of old_stack)) xs) no_assignments)

    -- all assignments
    abbrev pub paired : ℕ → List Tree → List Assignments
    paired n es = (entered N q ts p (selected (first_of stack) pc) (cond (nat_eq n q) (Some (first_of stack)) None) (stack_rest nowhere) es ++ others n ∷ []) ++ jump ∷ []

    others_are_restored : (b : Bool) → cond b no_assignments (joined (map (field_sides (N.local u.number) (first_of old_stack)) xs) no_assignments)
        ≡ cond b no_assignments (fields_of nowhere old_stack (written_all P u (locals u)))
    others_are_restored b =
        (λ j. cond b no_assignments (joined (map (field_sides ((named j).local u.number) (first_of old_stack)) (sym variables j)) no_assignments))
        ∙ ap (cond b no_assignments) (others_are (P.naming.local u.number) old_stack (declared (locals u)))

    pub pair_is : (n : ℕ) → u.number ≡ n → (es : List ℕ) (moves : List Assignments) → moves ≡ paired n (map (at ts) es)
        → in_order moves ≡ pair_body P u routine nowhere nowhere (trees_at ts es) (λ d. nowhere) (λ d. initial_tree P routine d.start)
    pair_is n number es moves e =
        let b = nat_eq u.number q in
        let first = entered N q ts p (selected (first_of stack) pc) (cond b (Some (first_of stack)) None) (stack_rest nowhere) (map (at ts) es) in
        let behind : Assignments → Statements = λ (m : Assignments). then (spot nowhere) (assign (assignment (name_at nowhere stack) (pushed_on P routine nowhere (selected (first_of stack) pc) (values_kept P u routine nowhere nowhere) (stack_rest nowhere)) (arguments_assigned (written_all P routine routine.params) (trees_at ts es))))
        (variables_written P routine (λ d. nowhere) (λ d. initial_tree P routine d.start) routine.variables (then (spot nowhere) (assign m) (in_order (jump ∷ [])))) in
        ap in_order (e ∙ (λ j. paired (sym number j) (map (at ts) es)) ∙ append_assoc first (others u.number ∷ []) (jump ∷ []))
        ∙ entered_is (selected (first_of stack) pc) (cond b (Some (first_of stack)) None) (values_kept P u routine nowhere nowhere) (stack_rest nowhere) (map (at ts) es) (kept_by b refl) (others u.number ∷ jump ∷ [])
        ∙ ap behind (others_are_restored b)

-- ---- as the pool grows

pub entered_kept : (N : Naming) (q : ℕ) (ts us : List Tree) → Keeps ts us → (p : Called) → past_procedure p ≤ length ts → (es : List ℕ) → past_numbers es ≤ length ts
    → (back : Tree) (r : Option Tree) (rest : Tree) → entered N q us p back r rest (map (at us) es) ≡ entered N q ts p back r rest (map (at ts) es)
entered_kept N q ts us k p h es l back r rest =
    let names = words_of p.params.items ++ words_of p.variables.items in
    let set : Declaration → Assignments = variable_move (N.local q) names in
    let given = map_at-kept ts us es k (past_all_below (length ts) es l) in
    let starts = each_kept ts us k (λ d. set (declaration_at us d)) (λ d. set (declaration_at ts d)) past_declaration (λ d m. ap set (declaration_kept ts us k d m)) p.variables.items (omega (arith, h)) in
    λ j. entry N q names (words_of p.params.items) back r rest (given j) ∷ starts j
