-- What is read before it has a value or after it has another, and where `self` is used, rests on no place.
use Rattle.std.proofs.Common.{◌≡◌, List, [], ◌∷◌, ◌++◌, map, flat_map, reverse, filter, Bool, true, false, ◌&&◌, ◌||◌, not, cond, bytes_eq, codes, refl, sym, ap, ◌∙◌}
use Rattle.std.specs.List.{list_any}
use Rattle.tla_token.specs.declared.place.Place.{Place}
use Rattle.tla_token.specs.declared.rule.Rule.TheVariants.{ProcessNotConstant, InitSelf, InitLater, SelfOutside, DefinedStale}
use Rattle.tla_token.specs.Signs.{is_among}
use Rattle.tla_tree.specs.Tree.{Word, Name, words, Tree, root_place}
use Rattle.tla_tree.specs.laws.Placeless.{name_placeless, names_placeless, tree_placeless}
use Rattle.pcal_tree.specs.Algorithm.{nowhere, Start, unset, equals, among, Declaration, declares, Definition, Macro, Procedure, Process, Main, alone, processes, Routine, locals, routines, Statement, goto, call, Statements, Algorithm}
use Rattle.pcal_tree.specs.Expand.{expanded}
use Rattle.pcal_tree.specs.Offences.{offence_if}
use Rattle.pcal_tree.specs.OffencesCounts.{calls_of}
use Rattle.pcal_tree.specs.OffencesReads.{processes_of, not_constant, process_offences, of_one_process, own_in_start, own_in_sets, own_offences, all_variables, is_later, reads_later, later_in, order_offences}
use Rattle.pcal_tree.specs.OffencesSelf.{self_offence, selves, used_by_starts, without, reached, used_in_macros, used_by_procedure, used_outside, used_at_the_top, self_offences}
use Rattle.pcal_tree.specs.OffencesStale.{used_by_variables, used_by_call, self_at, jumps_use, stands_for, stale_at, Looking, stale_in, stale_in_procedure, stale_in_process, stale_in_main, written_out_spots, stale_offences}
use Rattle.pcal_tree.specs.Paths.{has_assigned}
use Rattle.pcal_tree.specs.Placeless.{statement_placeless, statements_placeless, start_placeless, declarations_placeless, procedures_placeless, main_placeless, placeless}
use Rattle.pcal_tree.specs.Reads.{named, used, initial, Reading, through, looked_at, among_looked_at, readings, readings_of}
use Rattle.pcal_tree.specs.Spots.{Spot, spots_in, used_in_body}
use Rattle.pcal_tree.specs.Variables.{declared}
use Rattle.translation.proofs.AgainOffences.{rules, rules_two, rules_if, rules_each}
use Rattle.translation.proofs.AgainParts.{definition_placeless, macro_placeless, procedure_placeless, process_placeless, definitions_each, macros_each, procedures_each, processes_each}
use Rattle.translation.proofs.AgainUsed.{used_bare, initial_bare, starts_used_in, starts_used, spot_placeless, spots_bare, body_used, calls_bare}
use Rattle.translation.proofs.BareNames.{both, declarations_joined, each_joined, each_list, each_one, map_reversed, words_bare}
use Rattle.translation.proofs.NoPlaces.{declared_bare}
use Rattle.translation.proofs.PlacelessAlgorithm.{expanded_bare}
use Rattle.translation.proofs.PlacelessJumps.{routine_placeless, locals_bare}
use Rattle.translation.proofs.PlacelessUnits.{all_routines}

-- names that are those without their places
abbrev Bare : List Name → List Name → Type 0
Bare xs ys = ys ≡ names_placeless xs

two : (xs ys us vs : List Name) → Bare xs us → Bare ys vs → Bare (xs ++ ys) (us ++ vs)
two = both name_placeless

-- ---- what definitions read

looked_bare : (ds : List Reading) (ns : List Name) (y : Word) → among_looked_at ds (names_placeless ns) y ≡ among_looked_at ds ns y
looked_bare ds [] y = refl
looked_bare ds (n ∷ ns) y = ap (λ (b : Bool). is_among (looked_at ds n) y || b) (looked_bare ds ns y)

readings_same : (gs : List Word) (ds : List Definition) → readings gs (map definition_placeless ds) ≡ readings gs ds
readings_same gs [] = refl
readings_same gs (d ∷ older) =
    (λ i. record { title = d.name.word; variables = filter (λ y. among_looked_at (readings_same gs older i) (used (tree_placeless d.body) (words_bare d.params i)) y) gs } ∷ readings_same gs older i)
    ∙ (λ i. record { title = d.name.word; variables = filter (λ y. among_looked_at (readings gs older) (used_bare d.body (words d.params) i) y) gs } ∷ readings gs older)
    ∙ (λ i. record { title = d.name.word; variables = filter (λ y. looked_bare (readings gs older) (used d.body (words d.params)) y i) gs } ∷ readings gs older)

pub readings_bare : (a : Algorithm) → readings_of (placeless a) ≡ readings_of a
readings_bare a =
    (λ i. readings (declared_bare a.globals i) (reverse (definitions_each a.definitions i)))
    ∙ ap (readings (declared a.globals)) (map_reversed definition_placeless a.definitions) ∙ readings_same (declared a.globals) (reverse a.definitions)

-- ---- processes

of_processes : (m : Main) → processes_of (main_placeless m) ≡ map process_placeless (processes_of m)
of_processes (alone b) = refl
of_processes (processes ps) = processes_each ps

constant_bare : (a : Algorithm) (p : Process) → rules (not_constant (placeless a) (process_placeless p)) ≡ rules (not_constant a p)
constant_bare a p =
    ap (λ (ns : List Name). rules (flat_map (λ n. offence_if (list_any (declares (declarations_placeless a.globals)) (looked_at (readings_of (placeless a)) n)) ProcessNotConstant n.place) ns)) (used_bare p.identity [])
    ∙ rules_each name_placeless (λ n. offence_if (list_any (declares (declarations_placeless a.globals)) (looked_at (readings_of (placeless a)) n)) ProcessNotConstant n.place)
    (λ n. offence_if (list_any (declares a.globals) (looked_at (readings_of a) n)) ProcessNotConstant n.place)
    (λ n. rules_if _ _ ProcessNotConstant nowhere n.place (λ i. list_any (λ x. is_among (declared_bare a.globals i) x) (n.word ∷ through (readings_bare a i) n.word))) (used p.identity [])

pub process_offences_bare : (a : Algorithm) → rules (process_offences (placeless a)) ≡ rules (process_offences a)
process_offences_bare a =
    ap (λ (ps : List Process). rules (flat_map (not_constant (placeless a)) ps)) (of_processes a.main)
    ∙ rules_each process_placeless (not_constant (placeless a)) (not_constant a) (constant_bare a) (processes_of a.main)

own_start : (p : Process) (d : Start) → rules (own_in_start (process_placeless p) (start_placeless d)) ≡ rules (own_in_start p d)
own_start p unset = refl
own_start p (equals e) = refl
own_start p (among e) =
    ap (λ (ns : List Name). rules (flat_map (λ n. offence_if (of_one_process (process_placeless p) n) InitSelf n.place) ns)) (used_bare e [])
    ∙ rules_each name_placeless (λ n. offence_if (of_one_process (process_placeless p) n) InitSelf n.place) (λ n. offence_if (of_one_process p n) InitSelf n.place)
    (λ n. rules_if _ _ InitSelf nowhere n.place (λ i. bytes_eq (codes "self") n.word || is_among (declared_bare p.variables i) n.word)) (used e [])

own_sets : (p : Process) → rules (own_in_sets (process_placeless p)) ≡ rules (own_in_sets p)
own_sets p = by p.several
  where
    starts : (ds : List Declaration) → rules (flat_map (λ d. own_in_start (process_placeless p) d.start) (declarations_placeless ds)) ≡ rules (flat_map (λ d. own_in_start p d.start) ds)
    starts [] = refl
    starts (d ∷ ds) =
        rules_two (own_in_start (process_placeless p) (start_placeless d.start)) (flat_map (λ d. own_in_start (process_placeless p) d.start) (declarations_placeless ds)) (own_in_start p d.start)
        (flat_map (λ d. own_in_start p d.start) ds) (own_start p d.start) (starts ds)

    by : (b : Bool) → rules (cond b (flat_map (λ d. own_in_start (process_placeless p) d.start) (declarations_placeless p.variables)) []) ≡ rules (cond b (flat_map (λ d. own_in_start p d.start) p.variables) [])
    by true = starts p.variables
    by false = refl

pub own_offences_bare : (a : Algorithm) → rules (own_offences (placeless a)) ≡ rules (own_offences a)
own_offences_bare a =
    ap (λ (ps : List Process). rules (flat_map own_in_sets ps)) (of_processes a.main) ∙ rules_each process_placeless own_in_sets own_in_sets own_sets (processes_of a.main)

-- ---- the order of initial values

own_declared : (u : Routine) → declared (locals (routine_placeless u)) ≡ declared (locals u)
own_declared u = ap declared (locals_bare u) ∙ declared_bare (locals u)

variables_same : (a : Algorithm) → all_variables (placeless a) ≡ all_variables a
variables_same a =
    λ i. declared_bare a.globals i ++ (ap (flat_map (λ (u : Routine). declared (locals u))) (all_routines a)
    ∙ each_joined routine_placeless (λ u. declared (locals u)) (λ u. declared (locals u)) own_declared (routines a)) i

later_bare : (a : Algorithm) (before : List Word) (e : Tree) → reads_later (placeless a) before (tree_placeless e) ≡ reads_later a before e
later_bare a before e =
    (λ i. list_any (λ y. is_among (variables_same a i) y && not (is_among before y)) (flat_map (looked_at (readings_bare a i)) (used_bare e [] i)))
    ∙ ap (list_any (is_later a before)) (each_joined name_placeless (looked_at (readings_of a)) (looked_at (readings_of a)) (λ n. refl) (used e []))

later_ones : (a : Algorithm) (before : List Word) (ds : List Declaration) → rules (later_in (placeless a) before (declarations_placeless ds)) ≡ rules (later_in a before ds)
later_ones a before [] = refl
later_ones a before (d ∷ ds) =
    rules_two (flat_map (λ e. offence_if (reads_later (placeless a) before e) InitLater (root_place e)) (initial (start_placeless d.start))) (later_in (placeless a) (d.name.word ∷ before) (declarations_placeless ds))
    (flat_map (λ e. offence_if (reads_later a before e) InitLater (root_place e)) (initial d.start)) (later_in a (d.name.word ∷ before) ds)
    (ap (λ (es : List Tree). rules (flat_map (λ e. offence_if (reads_later (placeless a) before e) InitLater (root_place e)) es)) (initial_bare d.start)
    ∙ rules_each tree_placeless (λ e. offence_if (reads_later (placeless a) before e) InitLater (root_place e)) (λ e. offence_if (reads_later a before e) InitLater (root_place e))
    (λ e. rules_if _ _ InitLater (root_place (tree_placeless e)) (root_place e) (later_bare a before e)) (initial d.start))
    (later_ones a (d.name.word ∷ before) ds)

pub order_offences_bare : (a : Algorithm) → rules (order_offences (placeless a)) ≡ rules (order_offences a)
order_offences_bare a =
    rules_two (later_in (placeless a) [] (declarations_placeless a.globals)) (flat_map (λ u. later_in (placeless a) (declared (declarations_placeless a.globals)) (locals u)) (routines (placeless a)))
    (later_in a [] a.globals) (flat_map (λ u. later_in a (declared a.globals) (locals u)) (routines a)) (later_ones a [] a.globals)
    ((λ i. rules (flat_map (λ (u : Routine). later_in (placeless a) (declared_bare a.globals i) (locals u)) (all_routines a i)))
    ∙ rules_each routine_placeless (λ u. later_in (placeless a) (declared a.globals) (locals u)) (λ u. later_in a (declared a.globals) (locals u))
    (λ u. ap (λ (ds : List Declaration). rules (later_in (placeless a) (declared a.globals) ds)) (locals_bare u) ∙ later_ones a (declared a.globals) (locals u)) (routines a))

-- ---- `self` where no process is

selves_bare : (ns us : List Name) → Bare ns us → rules (selves us) ≡ rules (selves ns)
selves_bare ns us e =
    ap (λ (vs : List Name). rules (selves vs)) e ∙ rules_each name_placeless self_offence self_offence (λ n. rules_if (bytes_eq (codes "self") n.word) _ SelfOutside nowhere n.place refl) ns

reached_bare : (calls : List Word) (ds : List Macro) → reached calls (map macro_placeless ds) ≡ map macro_placeless (reached calls ds)
reached_bare calls [] = refl
reached_bare calls (d ∷ older) =
    (λ i. cond (is_among calls d.name.word) (macro_placeless d ∷ reached (calls_bare d.body i ++ without d.name.word calls) (map macro_placeless older)) (reached_bare calls older i))
    ∙ by (is_among calls d.name.word) (reached_bare (calls_of d.body ++ without d.name.word calls) older)
  where
    by : (b : Bool) → reached (calls_of d.body ++ without d.name.word calls) (map macro_placeless older) ≡ map macro_placeless (reached (calls_of d.body ++ without d.name.word calls) older)
        → cond b (macro_placeless d ∷ reached (calls_of d.body ++ without d.name.word calls) (map macro_placeless older)) (map macro_placeless (reached calls older))
        ≡ map macro_placeless (cond b (d ∷ reached (calls_of d.body ++ without d.name.word calls) older) (reached calls older))
    by true e = ap (λ ds. macro_placeless d ∷ ds) e
    by false e = refl

macros_used : (ds : List Macro) → Bare (used_in_macros ds) (used_in_macros (map macro_placeless ds))
macros_used = each_list macro_placeless name_placeless (λ d. used_in_body d.body) (λ d. used_in_body d.body) (λ d. body_used d.body)

procedure_used : (p : Procedure) → Bare (used_by_procedure p) (used_by_procedure (procedure_placeless p))
procedure_used p =
    two (used_by_starts (p.params ++ p.variables)) (used_in_body p.body) _ _ (ap used_by_starts (declarations_joined p.params p.variables) ∙ starts_used (p.params ++ p.variables)) (body_used p.body)

outside_used : (a : Algorithm) (m : Main) → Bare (used_outside a m) (used_outside (placeless a) (main_placeless m))
outside_used a (alone b) =
    two (flat_map used_by_procedure a.procedures) _ _ _
    (ap (flat_map used_by_procedure) (procedures_each a.procedures) ∙ each_list procedure_placeless name_placeless used_by_procedure used_by_procedure procedure_used a.procedures)
    (two (used_in_body b) (used_in_macros (reached calls (reverse a.macros))) _ _ (body_used b)
    ((λ i. used_in_macros (reached (same i) (reverse (macros_each a.macros i)))) ∙ ap (λ (ds : List Macro). used_in_macros (reached calls ds)) (map_reversed macro_placeless a.macros)
    ∙ ap used_in_macros (reached_bare calls (reverse a.macros)) ∙ macros_used (reached calls (reverse a.macros))))
  where
    calls : List Word
    calls = flat_map (λ p. calls_of p.body) a.procedures ++ calls_of b

    same : flat_map (λ (p : Procedure). calls_of p.body) (procedures_placeless a.procedures) ++ calls_of (statements_placeless b) ≡ calls
    same =
        λ i. (ap (flat_map (λ (p : Procedure). calls_of p.body)) (procedures_each a.procedures)
        ∙ each_joined procedure_placeless (λ p. calls_of p.body) (λ p. calls_of p.body) (λ p. calls_bare p.body) a.procedures) i ++ calls_bare b i
outside_used a (processes ps) =
    ap (flat_map (λ (p : Process). used p.identity [])) (processes_each ps)
    ∙ each_list process_placeless name_placeless (λ p. used p.identity []) (λ p. used p.identity []) (λ p. used_bare p.identity []) ps

top_used : (a : Algorithm) → Bare (used_at_the_top a) (used_at_the_top (placeless a))
top_used a =
    two (used_by_starts a.globals) (flat_map (λ d. used d.body (words d.params)) a.definitions) _ _ (starts_used a.globals)
    (ap (flat_map (λ (d : Definition). used d.body (words d.params))) (definitions_each a.definitions)
    ∙ each_list definition_placeless name_placeless (λ d. used d.body (words d.params)) (λ d. used d.body (words d.params))
    (λ d. ap (used (tree_placeless d.body)) (words_bare d.params) ∙ used_bare d.body (words d.params)) a.definitions)

pub self_offences_bare : (a : Algorithm) → rules (self_offences (placeless a)) ≡ rules (self_offences a)
self_offences_bare a =
    selves_bare (used_at_the_top a ++ used_outside a a.main) _ (two (used_at_the_top a) (used_outside a a.main) _ _ (top_used a) (outside_used a a.main))

-- ---- definitions used after assignments

variables_used : (p : Procedure) → Bare (used_by_variables p) (used_by_variables (procedure_placeless p))
variables_used p =
    ap (λ (xs : List Word). flat_map (λ (d : Declaration). flat_map (λ e. used e xs) (initial d.start)) (declarations_placeless p.variables)) (ap declared (declarations_joined p.params p.variables) ∙ declared_bare (p.params ++ p.variables))
    ∙ starts_used_in (declared (p.params ++ p.variables)) p.variables

call_used : (ps : List Procedure) (q : Name) → Bare (used_by_call ps q) (used_by_call (procedures_placeless ps) (name_placeless q))
call_used [] q = refl
call_used (p ∷ ps) q = (λ i. cond (bytes_eq p.name.word q.word) (variables_used p i) (call_used ps q i)) ∙ by (bytes_eq p.name.word q.word)
  where
    by : (b : Bool) → cond b (names_placeless (used_by_variables p)) (names_placeless (used_by_call ps q)) ≡ names_placeless (cond b (used_by_variables p) (used_by_call ps q))
    by true = refl
    by false = refl

jumps_used : (ps : List Procedure) (at : Place) (st : Statement) → Bare (jumps_use ps at st) (jumps_use (procedures_placeless ps) nowhere (statement_placeless st))
jumps_used ps at (goto l) = refl
jumps_used ps at (call q ts) =
    ap (λ (ns : List Name). self_at nowhere ∷ map (λ (n : Name). named n.word nowhere) ns) (call_used ps q)
    ∙ ap (λ (ns : List Name). self_at nowhere ∷ ns) (each_one name_placeless name_placeless (λ n. named n.word nowhere) (λ n. named n.word at) (λ n. refl) (used_by_call ps q))
jumps_used ps at st = refl

stands_bare : (ns : List Name) (n : Name) → Bare (stands_for ns n) (stands_for (names_placeless ns) (name_placeless n))
stands_bare ns n = ap (λ us. name_placeless n ∷ us) (by (bytes_eq (codes "self") n.word))
  where
    by : (b : Bool) → cond b (names_placeless ns) [] ≡ names_placeless (cond b ns [])
    by true = refl
    by false = refl

stale_at_bare : (ds : List Reading) (ns : List Name) (s : Spot) → rules (stale_at ds (names_placeless ns) (spot_placeless s)) ≡ rules (stale_at ds ns s)
stale_at_bare ds ns s =
    ap (λ (us : List Name). rules (flat_map (λ n. offence_if (has_assigned s.path (through ds n.word)) DefinedStale n.place) us)) (stands_bare ns s.name)
    ∙ rules_each name_placeless (λ n. offence_if (has_assigned s.path (through ds n.word)) DefinedStale n.place) (λ n. offence_if (has_assigned s.path (through ds n.word)) DefinedStale n.place)
    (λ n. rules_if (has_assigned s.path (through ds n.word)) _ DefinedStale nowhere n.place refl) (stands_for ns s.name)

module _ (a : Algorithm) where
  spots_same : (xs : List Word) (b : Statements) → written_out_spots (placeless a) xs (statements_placeless b) ≡ map spot_placeless (written_out_spots a xs b)
  spots_same xs b =
      ap (λ (c : Statements). spots_of c) (sym (expanded_bare a.macros b))
      ∙ spots_bare (jumps_use a.procedures) (jumps_use (procedures_placeless a.procedures)) (jumps_used a.procedures) (expanded (reverse a.macros) b) xs
    where
      spots_of : Statements → List Spot
      spots_of c = spots_in (jumps_use (procedures_placeless a.procedures)) c xs

  stale_bare : (ds : List Reading) (ns us : List Name) (xs : List Word) (b : Statements) → Bare ns us
      → rules (stale_in (written_out_spots (placeless a)) ds us xs (statements_placeless b)) ≡ rules (stale_in (written_out_spots a) ds ns xs b)
  stale_bare ds ns us xs b e =
      (λ i. rules (flat_map (stale_at ds (e i)) (spots_same xs b i))) ∙ rules_each spot_placeless (stale_at ds (names_placeless ns)) (stale_at ds ns) (stale_at_bare ds ns) (written_out_spots a xs b)

  procedure_stale : (ds : List Reading) (p : Procedure) → rules (stale_in_procedure (written_out_spots (placeless a)) ds (procedure_placeless p)) ≡ rules (stale_in_procedure (written_out_spots a) ds p)
  procedure_stale ds p =
      ap (λ (xs : List Word). rules (stale_in (written_out_spots (placeless a)) ds [] xs (statements_placeless p.body))) (ap declared (declarations_joined p.params p.variables) ∙ declared_bare (p.params ++ p.variables))
      ∙ stale_bare ds [] [] (declared (p.params ++ p.variables)) p.body refl

  process_stale : (ds : List Reading) (p : Process) → rules (stale_in_process (written_out_spots (placeless a)) ds (process_placeless p)) ≡ rules (stale_in_process (written_out_spots a) ds p)
  process_stale ds p =
      ap (λ (xs : List Word). rules (stale_in (written_out_spots (placeless a)) ds (cond p.several [] (used (tree_placeless p.identity) [])) xs (statements_placeless p.body))) (declared_bare p.variables)
      ∙ stale_bare ds (cond p.several [] (used p.identity [])) (cond p.several [] (used (tree_placeless p.identity) [])) (declared p.variables) p.body
      (ap (λ (ns : List Name). cond p.several [] ns) (used_bare p.identity []) ∙ by p.several)
    where
      by : (b : Bool) → cond b [] (names_placeless (used p.identity [])) ≡ names_placeless (cond b [] (used p.identity []))
      by true = refl
      by false = refl

  main_stale : (ds : List Reading) (m : Main) → rules (stale_in_main (written_out_spots (placeless a)) ds (main_placeless m)) ≡ rules (stale_in_main (written_out_spots a) ds m)
  main_stale ds (alone b) = stale_bare ds [] [] [] b refl
  main_stale ds (processes ps) =
      ap (λ (qs : List Process). rules (flat_map (stale_in_process (written_out_spots (placeless a)) ds) qs)) (processes_each ps)
      ∙ rules_each process_placeless (stale_in_process (written_out_spots (placeless a)) ds) (stale_in_process (written_out_spots a) ds) (process_stale ds) ps

  pub stale_offences_bare : rules (stale_offences (placeless a)) ≡ rules (stale_offences a)
  stale_offences_bare =
      ap (λ (ds : List Reading). rules (flat_map (stale_in_procedure L ds) (procedures_placeless a.procedures) ++ stale_in_main L ds (main_placeless a.main))) (readings_bare a)
      ∙ rules_two (flat_map (stale_in_procedure L ds) (procedures_placeless a.procedures)) (stale_in_main L ds (main_placeless a.main)) (flat_map (stale_in_procedure (written_out_spots a) ds) a.procedures)
      (stale_in_main (written_out_spots a) ds a.main)
      (ap (λ (ps : List Procedure). rules (flat_map (stale_in_procedure L ds) ps)) (procedures_each a.procedures)
      ∙ rules_each procedure_placeless (stale_in_procedure L ds) (stale_in_procedure (written_out_spots a) ds) (procedure_stale ds) a.procedures)
      (main_stale ds a.main)
    where
      L : Looking
      L = written_out_spots (placeless a)

      ds : List Reading
      ds = readings_of a
