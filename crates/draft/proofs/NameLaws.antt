-- Names of routines, by a naming and by a program that has it.
use Rattle.std.proofs.Common.{◌≡◌, ℕ, ◌+◌, ◌<◌, List, [], ◌∷◌, ◌++◌, append_assoc, append-nil, length, map, Bool, true, false, ◌||◌, cond, filter, refl, sym, ap, ◌∙◌, arith}
use Rattle.std.proofs.lemmas.List.{length-map, map-append}
use Rattle.tla_tree.specs.Tree.{Word, Tree}
use Rattle.pcal_tree.specs.declared.algorithm.Declaration as code_declaration
use Rattle.pcal_tree.specs.declared.algorithm.Process as code_process
use Rattle.pcal_tree.specs.declared.algorithm.Main as code_main
use Rattle.pcal_tree.specs.declared.algorithm.Main.TheVariants as main
use Rattle.pcal_tree.specs.declared.algorithm.Algorithm as code_algorithm
use Rattle.pcal_tree.specs.Algorithm as pure
use Rattle.pcal_tree.specs.Algorithm.{Naming, Routine, locals, numbered, procedure_routine, process_routine, procedure_routines, alone_routine, main_routines, first_procedure, first_process}
use Rattle.pcal_tree.specs.InMemory.{statements_at, declarations_at, macro_at, procedure_at, process_at, main_at, algorithm_at}
use Rattle.pcal_tree.specs.Program.{Program}
use Rattle.pcal_tree.specs.Variables.{pc, stack, stack_for, declared, written_all, written_by_all, vars}
use Rattle.action_builder.specs.OwnVariables.{own_under, own_variables}
use Rattle.draft.specs.RoutineNames.{words_of, names_where, all_names_where, main_names_where}

pub words_declared : (ts : List Tree) (ds : List code_declaration.Declaration) → declared (declarations_at ts ds) ≡ words_of ds
words_declared ts [] = refl
words_declared ts (d ∷ ds) = ap (λ (l : List Word). d.name.word ∷ l) (words_declared ts ds)

pub both_declared : (ts : List Tree) (ds es : List code_declaration.Declaration) → declared (declarations_at ts ds ++ declarations_at ts es) ≡ words_of ds ++ words_of es
both_declared ts [] es = words_declared ts es
both_declared ts (d ∷ ds) es = ap (λ (l : List Word). d.name.word ∷ l) (both_declared ts ds es)

pub names_of_all : (P : Program) (us : List Routine) → all_names_where P.naming true us ≡ written_by_all P us
names_of_all P [] = refl
names_of_all P (u ∷ us) = ap (λ (l : List Word). written_all P u (locals u) ++ l) (names_of_all P us)

pub names_of_some : (P : Program) (every : Bool) (us : List Routine) → all_names_where P.naming every us ≡ written_by_all P (filter (λ u. every || u.spread) us)
names_of_some P every [] = refl
names_of_some P every (u ∷ us) = by (every || u.spread) (names_of_some P every us)
  where
    by : (b : Bool) → all_names_where P.naming every us ≡ written_by_all P (filter (λ v. every || v.spread) us)
        → cond b (written_all P u (locals u)) [] ++ all_names_where P.naming every us ≡ written_by_all P (cond b (u ∷ filter (λ v. every || v.spread) us) (filter (λ v. every || v.spread) us))
    by true h = ap (λ (l : List Word). written_all P u (locals u) ++ l) h
    by false h = h

pub all_are_some : (us : List Routine) → filter (λ u. true || u.spread) us ≡ us
all_are_some [] = refl
all_are_some (u ∷ us) = ap (λ (l : List Routine). u ∷ l) (all_are_some us)

none_of_one_body : (f : Naming) (every : Bool) (u : Routine) → u.params ≡ [] → u.variables ≡ [] → all_names_where f every (u ∷ []) ≡ []
none_of_one_body f every u p q = ap (λ (l : List Word). l ++ []) (by every u.spread (ap declared (λ i. p i ++ q i)))
  where
    by : (b c : Bool) → declared (locals u) ≡ [] → cond (b || c) (map (f.local u.number) (declared (locals u))) [] ≡ []
    by true c h = ap (map (f.local u.number)) h
    by false true h = ap (map (f.local u.number)) h
    by false false h = refl

main_is : (f : Naming) (every : Bool) (ts : List Tree) (a : pure.Algorithm) (m : code_main.Main)
    → main_names_where f every (first_process a) ts m ≡ all_names_where f every (main_routines a (main_at ts m))
main_is f every ts a (main.Alone ss) = sym (none_of_one_body f every (alone_routine a (statements_at ts ss.items)) refl refl)
main_is f every ts a (main.Processes ps) = refl

-- all but those of globals, one after another
pub all_names : (ts : List Tree) (a : code_algorithm.Algorithm) (f : Naming) (every : Bool) (P : Program) → algorithm_at ts a ≡ P.algorithm → f ≡ P.naming
    → (first n : ℕ) (old now between new : List Word) → first ≡ length a.macros.items → n ≡ first + length a.procedures.items
    → ((k : ℕ) → now ≡ old ++ (pc ∷ stack_for (numbered procedure_routine k (map (procedure_at ts) a.procedures.items))))
    → between ≡ now ++ all_names_where f true (numbered procedure_routine first (map (procedure_at ts) a.procedures.items))
    → new ≡ between ++ main_names_where f every n ts a.main
    → new ≡ old ++ (pc ∷ stack_for (procedure_routines P.algorithm)) ++ written_by_all P (procedure_routines P.algorithm) ++ written_by_all P (filter (λ u. every || u.spread) (main_routines P.algorithm P.algorithm.main))
all_names ts a f every P e same first n old now between new p q control procedures mains =
    let b = algorithm_at ts a in
    let first_is : first ≡ first_procedure b = p ∙ sym (length-map a.macros.items (macro_at ts)) in
    let n_is : n ≡ first_process b = q ∙ (λ i. first_is i + sym (length-map a.procedures.items (procedure_at ts)) i) in
    mains
    ∙ (λ i. (procedures ∙ (λ j. control first j ++ all_names_where f true (numbered procedure_routine first (map (procedure_at ts) a.procedures.items)))) i ++ main_names_where f every (n_is i) ts a.main)
    ∙ (λ i. old ++ (pc ∷ stack_for (numbered procedure_routine (first_is i) b.procedures)) ++ all_names_where f true (numbered procedure_routine (first_is i) b.procedures) ++ main_is f every ts b a.main i)
    ∙ (λ i. old ++ (pc ∷ stack_for (procedure_routines (e i))) ++ all_names_where (same i) true (procedure_routines (e i)) ++ all_names_where (same i) every (main_routines (e i) (e i).main))
    ∙ (λ i. old ++ (pc ∷ stack_for (procedure_routines P.algorithm)) ++ names_of_all P (procedure_routines P.algorithm) i ++ names_of_some P every (main_routines P.algorithm P.algorithm.main) i)

-- those of globals before them
pub all_variables : (ts : List Tree) (a : code_algorithm.Algorithm) (P : Program) → algorithm_at ts a ≡ P.algorithm → (start globals new : List Word) → start ≡ [] → globals ≡ start ++ words_of a.globals.items
    → new ≡ globals ++ (pc ∷ stack_for (procedure_routines P.algorithm)) ++ written_by_all P (procedure_routines P.algorithm) ++ written_by_all P (filter (λ u. true || u.spread) (main_routines P.algorithm P.algorithm.main))
    → new ≡ vars P
all_variables ts a P e start globals new none h k =
    let g : globals ≡ declared P.algorithm.globals =
    h ∙ (λ i. none i ++ sym (words_declared ts a.globals.items) i) ∙ ap (λ (b : pure.Algorithm). declared b.globals) e in
    k ∙ (λ i. g i ++ (pc ∷ stack_for (procedure_routines P.algorithm)) ++ written_by_all P (procedure_routines P.algorithm) ++ written_by_all P (all_are_some (main_routines P.algorithm P.algorithm.main) i))

pub all_own : (ts : List Tree) (a : code_algorithm.Algorithm) (P : Program) → algorithm_at ts a ≡ P.algorithm → (ps : _) → a.main ≡ main.Processes ps → (start new : List Word) → start ≡ []
    → new ≡ start ++ (pc ∷ stack_for (procedure_routines P.algorithm)) ++ written_by_all P (procedure_routines P.algorithm) ++ written_by_all P (filter (λ u. false || u.spread) (main_routines P.algorithm P.algorithm.main))
    → new ≡ own_variables P
all_own ts a P e ps is start new none k =
    let of : pure.Main → List Word = own_under P (procedure_routines P.algorithm) (main_routines P.algorithm P.algorithm.main) in
    let m : pure.processes (map (process_at ts) ps.items) ≡ P.algorithm.main = ap (main_at ts) (sym is) ∙ ap (λ (b : pure.Algorithm). b.main) e in
    k ∙ ap (λ (l : List Word). l ++ (pc ∷ stack_for (procedure_routines P.algorithm)) ++ written_by_all P (procedure_routines P.algorithm) ++ written_by_all P (filter (λ u. false || u.spread) (main_routines P.algorithm P.algorithm.main))) none
    ∙ ap of m

-- ---- a routine

pub both_lists : (ts : List Tree) (g : Word → Word) (ds es : List code_declaration.Declaration) (now between new : List Word) → between ≡ now ++ map g (words_of ds) → new ≡ between ++ map g (words_of es)
    → new ≡ now ++ map g (declared (declarations_at ts ds ++ declarations_at ts es))
both_lists ts g ds es now between new h k =
    k ∙ ap (λ (l : List Word). l ++ map g (words_of es)) h ∙ append_assoc now (map g (words_of ds)) (map g (words_of es))
    ∙ ap (λ (l : List Word). now ++ l) (sym (map-append g (words_of ds) (words_of es)) ∙ ap (map g) (sym (both_declared ts ds es)))

pub process_names : (ts : List Tree) (f : Naming) (every : Bool) (n : ℕ) (p : code_process.Process) → (every || p.several) ≡ true
    → map (f.local n) (words_of p.variables.items) ≡ names_where f every (process_routine n (process_at ts p)) ++ []
process_names ts f every n p h =
    let own = map (f.local n) (declared (declarations_at ts p.variables.items)) in
    ap (map (f.local n)) (sym (words_declared ts p.variables.items)) ∙ ap (λ (b : Bool). cond b own []) (sym h) ∙ sym (append-nil (cond (every || p.several) own []))

-- there is a stack where there are procedures
pub some_stack : {A : Type 0} (r : ℕ → A → Routine) (n : ℕ) (xs : List A) → 0 < length xs → stack ∷ [] ≡ stack_for (numbered r n xs)
some_stack r n [] h = absurd (let no : ⊥ = omega (arith, h) in no)
some_stack r n (x ∷ xs) h = refl
