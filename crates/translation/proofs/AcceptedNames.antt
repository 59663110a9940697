-- What rules say of an algorithm that breaks none: no name of a routine is declared twice, definitions don't have the translation's own names, and each
-- body begins with a label.
use Rattle.std.proofs.Common.{◌≡◌, ℕ, suc, List, [], ◌∷◌, ◌++◌, map, reverse, Bool, true, false, not, ◌||◌, bytes_eq, ◌⊎◌, inl, inr, refl, sym, ap, subst, ◌∙◌}
use Rattle.std.specs.List.{flat_map, AllByRecursion}
use Rattle.std.proofs.lemmas.Bool.{or_parts}
use Rattle.std.specs.Bool.{IsTrue}
use Rattle.tla_token.specs.declared.place.Place.{Place}
use Rattle.tla_token.specs.declared.rule.Rule.{Rule}
use Rattle.tla_token.specs.Signs.{is_among}
use Rattle.tla_token.specs.Words.{is_own, is_standard}
use Rattle.tla_tree.specs.Tree.{Word, Name, words, Each, Trees}
use Rattle.tla_value.specs.Outside.{Outside}
use Rattle.pcal_tree.specs.Algorithm.{Statements, done, then, mark, Declaration, locals, Definition, Macro, Procedure, Process, Main, alone, processes, Routine, procedure_routine, process_routine, numbered, first_procedure, first_process, procedure_routines, main_routines, routines, Algorithm}
use Rattle.pcal_tree.specs.BoundNames.{bound_lists}
use Rattle.pcal_tree.specs.Outside.{unit_names}
use Rattle.pcal_tree.specs.Offences.{offence_if}
use Rattle.pcal_tree.specs.OffencesLabels.{label_words, of_macro, of_procedure, of_body, of_main, label_offences}
use Rattle.pcal_tree.specs.OffencesNames.{repeated, names_of, process_names, repeated_in_main, kept_names, repeated_names}
use Rattle.pcal_tree.specs.OffencesReserved.{names_of_definition, reserved_name, reserved_outside, declared_names, reserved_declared}
use Rattle.pcal_tree.specs.OffencesSteps.{call_effect, missing_in_body, procedure_effects, outer_effects}
use Rattle.pcal_tree.specs.Paths.{Effect, Effects}
use Rattle.pcal_tree.specs.Processes.{OneOf}
use Rattle.pcal_tree.specs.Variables.{declared}
use Rattle.pcal_tree.proofs.RoutineNames.{one_either}
use Rattle.action_builder.specs.laws.Jumps.{Unlike, AllUnlike}
use Rattle.translation.specs.laws.WritableAlgorithm.{IsLabelled, IsStarted}
use Rattle.pcal_tree.proofs.ClearLabels.{both_none}

-- ---- lists without an offence

pub each_none : {X Y : Type 0} (f : X → List Y) (xs : List X) → flat_map f xs ≡ [] → (x : X) → OneOf x xs → f x ≡ []
each_none f [] e x k = absurd k
each_none f (y ∷ ys) e x (inl q) = ap f q ∙ (both_none (f y) (flat_map f ys) e).0
each_none f (y ∷ ys) e x (inr k) = each_none f ys (both_none (f y) (flat_map f ys) e).1 x k

pub no_offence : (b : Bool) (r : Rule) (at : Place) → offence_if b r at ≡ [] → b ≡ false
no_offence true r at e = cc
no_offence false r at e = refl

-- ---- names declared twice

pub apart_from : (seen : List Word) (ns : List Name) → repeated seen ns ≡ [] → Each (λ x. is_among seen x ≡ false) (words ns)
apart_from seen [] e = tt
apart_from seen (n ∷ ns) e =
    let p = both_none _ (repeated (n.word ∷ seen) ns) e in
    (no_offence (is_among seen n.word) _ n.place p.0, later (words ns) (apart_from (n.word ∷ seen) ns p.1))
  where
    later : (xs : List Word) → Each (λ x. is_among (n.word ∷ seen) x ≡ false) xs → Each (λ x. is_among seen x ≡ false) xs
    later [] h = tt
    later (x ∷ xs) h = ((or_parts (bytes_eq n.word x) (is_among seen x) h.0).1, later xs h.1)

each_once : (seen : List Word) (ns : List Name) → repeated seen ns ≡ [] → AllUnlike (words ns)
each_once seen [] e = tt
each_once seen (n ∷ ns) e =
    let p = both_none _ (repeated (n.word ∷ seen) ns) e in
    (first (words ns) (apart_from (n.word ∷ seen) ns p.1), each_once (n.word ∷ seen) ns p.1)
  where
    first : (xs : List Word) → Each (λ x. is_among (n.word ∷ seen) x ≡ false) xs → Unlike n.word xs
    first [] h = tt
    first (x ∷ xs) h = ((or_parts (bytes_eq n.word x) (is_among seen x) h.0).0, first xs h.1)

pub words_declared : (ds : List Declaration) → words (names_of ds) ≡ declared ds
words_declared [] = refl
words_declared (d ∷ ds) = ap (λ xs. d.name.word ∷ xs) (words_declared ds)

declared_once : (ds : List Declaration) → repeated [] (names_of ds) ≡ [] → AllUnlike (declared ds)
declared_once ds e = subst AllUnlike (words_declared ds) (each_once [] (names_of ds) e)

procedures_once : (n : ℕ) (ps : List Procedure) → flat_map (λ (p : Procedure). repeated [] (names_of (p.params ++ p.variables))) ps ≡ [] → (u : Routine) → OneOf u (numbered procedure_routine n ps) → AllUnlike (declared (locals u))
procedures_once n [] e u k = absurd k
procedures_once n (p ∷ ps) e u (inl q) =
    subst (λ (v : Routine). AllUnlike (declared (locals v))) (sym q) (declared_once (p.params ++ p.variables) (both_none (repeated [] (names_of (p.params ++ p.variables))) _ e).0)
procedures_once n (p ∷ ps) e u (inr k) = procedures_once (suc n) ps (both_none (repeated [] (names_of (p.params ++ p.variables))) _ e).1 u k

processes_once : (n : ℕ) (ps : List Process) → flat_map (λ (p : Process). repeated [] (names_of p.variables)) ps ≡ [] → (u : Routine) → OneOf u (numbered process_routine n ps) → AllUnlike (declared (locals u))
processes_once n [] e u k = absurd k
processes_once n (p ∷ ps) e u (inl q) =
    subst (λ (v : Routine). AllUnlike (declared (locals v))) (sym q) (declared_once p.variables (both_none (repeated [] (names_of p.variables)) _ e).0)
processes_once n (p ∷ ps) e u (inr k) = processes_once (suc n) ps (both_none (repeated [] (names_of p.variables)) _ e).1 u k

main_once : (a : Algorithm) (m : Main) → repeated_in_main m ≡ [] → (u : Routine) → OneOf u (main_routines a m) → AllUnlike (declared (locals u))
main_once a (alone ss) e u (inl q) = subst (λ (v : Routine). AllUnlike (declared (locals v))) (sym q) tt
main_once a (alone ss) e u (inr k) = absurd k
main_once a (processes ps) e u k = processes_once (first_process a) ps e u k

pub names_once : (a : Algorithm) (o : Outside) → repeated_names a o ≡ [] → (u : Routine) → OneOf u (routines a) → AllUnlike (declared (locals u))
names_once a o e u k =
    let b1 = (both_none (repeated (unit_names o) (kept_names a)) _ e).1 in
    let b2 = (both_none (repeated (words (kept_names a)) (map (λ (m : Macro). m.name) a.macros ++ (map (λ (p : Procedure). p.name) a.procedures ++ process_names a.main))) _ b1).1 in
    let b3 = (both_none (flat_map (λ (d : Definition). repeated [] d.params) a.definitions) _ b2).1 in
    let b4 = (both_none (flat_map (λ (m : Macro). repeated [] m.params) a.macros) _ b3).1 in
    let c = both_none (flat_map (λ (p : Procedure). repeated [] (names_of (p.params ++ p.variables))) a.procedures) _ b4 in
    let d = both_none (repeated_in_main a.main) (flat_map (repeated []) (bound_lists a)) c.1 in
    by c.0 d.0 (one_either u (procedure_routines a) (main_routines a a.main) k)
  where
    by : flat_map (λ (p : Procedure). repeated [] (names_of (p.params ++ p.variables))) a.procedures ≡ [] → repeated_in_main a.main ≡ [] → OneOf u (procedure_routines a) ⊎ OneOf u (main_routines a a.main) → AllUnlike (declared (locals u))
    by c d (inl q) = procedures_once (first_procedure a) a.procedures c u q
    by c d (inr q) = main_once a a.main d u q

-- ---- the translation's own names

definition_names : (o : Outside) (ds : List Definition) → flat_map (reserved_name o) (flat_map names_of_definition ds) ≡ [] → AllByRecursion (λ (d : Definition). IsTrue (not (is_own d.name.word))) ds
definition_names o [] e = tt
definition_names o (d ∷ ds) e =
    let p = both_none (reserved_name o d.name) _ e in
    (ap not (or_parts (is_own d.name.word) (is_standard o.extended d.name.word) (no_offence (is_own d.name.word || is_standard o.extended d.name.word) _ d.name.place p.0)).0, definition_names o ds (rest d.params p.1))
  where
    rest : (xs : List Name) → flat_map (reserved_name o) (xs ++ flat_map names_of_definition ds) ≡ [] → flat_map (reserved_name o) (flat_map names_of_definition ds) ≡ []
    rest [] q = q
    rest (x ∷ xs) q = rest xs (both_none (reserved_name o x) _ q).1

pub after : (o : Outside) (xs ys : List Name) → flat_map (reserved_name o) (xs ++ ys) ≡ [] → flat_map (reserved_name o) ys ≡ []
after o [] ys e = e
after o (x ∷ xs) ys e = after o xs ys (both_none (reserved_name o x) _ e).1

pub before : (o : Outside) (xs ys : List Name) → flat_map (reserved_name o) (xs ++ ys) ≡ [] → flat_map (reserved_name o) xs ≡ []
before o [] ys e = refl
before o (x ∷ xs) ys e = (let p = both_none (reserved_name o x) _ e in (λ i. p.0 i ++ before o xs ys p.1 i))

pub definitions_free : (a : Algorithm) (o : Outside) → reserved_declared a o ≡ [] → AllByRecursion (λ (d : Definition). IsTrue (not (is_own d.name.word))) a.definitions
definitions_free a o e =
    let b = (both_none (flat_map (reserved_name o) (declared_names a)) _ (both_none (reserved_outside o) _ e).1).0 in
    definition_names o a.definitions (before o (flat_map names_of_definition a.definitions) _ (after o (names_of a.globals) _ b))

-- ---- first labels

first_label : (E : Effects) (b : Statements) → IsStarted b → missing_in_body E b ≡ [] → IsLabelled (label_words b)
first_label E done s e = absurd s
first_label E (then at st rest) s e = cc
first_label E (mark n k rest) s e = tt

procedures_labelled : (C : Word → Trees → Effect) (n : ℕ) (ps : List Procedure) → flat_map (of_procedure C) ps ≡ [] → (u : Routine) → OneOf u (numbered procedure_routine n ps) → IsStarted u.body → IsLabelled (label_words u.body)
procedures_labelled C n [] e u k s = absurd k
procedures_labelled C n (p ∷ ps) e u (inl q) s =
    subst (λ (v : Routine). IsLabelled (label_words v.body)) (sym q)
    (first_label (procedure_effects C p) p.body (subst (λ (v : Routine). IsStarted v.body) q s) (both_none (missing_in_body (procedure_effects C p) p.body) _ (both_none (of_procedure C p) _ e).0).0)
procedures_labelled C n (p ∷ ps) e u (inr k) s = procedures_labelled C (suc n) ps (both_none (of_procedure C p) _ e).1 u k s

processes_labelled : (C : Word → Trees → Effect) (n : ℕ) (ps : List Process) → flat_map (λ (p : Process). of_body C p.body) ps ≡ [] → (u : Routine) → OneOf u (numbered process_routine n ps) → IsStarted u.body → IsLabelled (label_words u.body)
processes_labelled C n [] e u k s = absurd k
processes_labelled C n (p ∷ ps) e u (inl q) s =
    subst (λ (v : Routine). IsLabelled (label_words v.body)) (sym q)
    (first_label (outer_effects C) p.body (subst (λ (v : Routine). IsStarted v.body) q s) (both_none (missing_in_body (outer_effects C) p.body) _ (both_none (of_body C p.body) _ e).0).0)
processes_labelled C n (p ∷ ps) e u (inr k) s = processes_labelled C (suc n) ps (both_none (of_body C p.body) _ e).1 u k s

main_labelled : (C : Word → Trees → Effect) (a : Algorithm) (m : Main) → of_main C m ≡ [] → (u : Routine) → OneOf u (main_routines a m) → IsStarted u.body → IsLabelled (label_words u.body)
main_labelled C a (alone ss) e u (inl q) s =
    subst (λ (v : Routine). IsLabelled (label_words v.body)) (sym q) (first_label (outer_effects C) ss (subst (λ (v : Routine). IsStarted v.body) q s) (both_none (missing_in_body (outer_effects C) ss) _ e).0)
main_labelled C a (alone ss) e u (inr k) s = absurd k
main_labelled C a (processes ps) e u k s = processes_labelled C (first_process a) ps e u k s

pub bodies_labelled : (a : Algorithm) → label_offences a ≡ [] → (u : Routine) → OneOf u (routines a) → IsStarted u.body → IsLabelled (label_words u.body)
bodies_labelled a e u k s =
    let C = call_effect (reverse a.macros) in
    let b = both_none (flat_map (of_procedure C) a.procedures) (of_main C a.main) (both_none (flat_map of_macro a.macros) _ e).1 in
    by b.0 b.1 (one_either u (procedure_routines a) (main_routines a a.main) k)
  where
    by : flat_map (of_procedure (call_effect (reverse a.macros))) a.procedures ≡ [] → of_main (call_effect (reverse a.macros)) a.main ≡ [] → OneOf u (procedure_routines a) ⊎ OneOf u (main_routines a a.main) → IsLabelled (label_words u.body)
    by b c (inl q) = procedures_labelled (call_effect (reverse a.macros)) (first_procedure a) a.procedures b u q s
    by b c (inr q) = main_labelled (call_effect (reverse a.macros)) a a.main c u q s
