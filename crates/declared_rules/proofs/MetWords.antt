-- The names of an algorithm's parts are those that its definition keeps, in another order; and those outside are the definition's.
use Rattle.std.proofs.Common.{◌≡◌, List, [], ◌∷◌, ◌++◌, map, Bool, true, false, ◌||◌, refl, sym, ap, ◌∙◌, append-nil, append_assoc}
use Rattle.std.proofs.lemmas.List.{map-append}
use Rattle.std.specs.List.{flat_map}
use Rattle.std.proofs.lemmas.Grind.{flat_map-append}
use Rattle.tla_token.specs.Signs.{is_among}
use Rattle.tla_token.specs.declared.place.Place.{Place}
use Rattle.tla_tree.specs.Tree as tree_of
use Rattle.tla_tree.specs.Tree.{Name, Word, Tree, words}
use Rattle.tla_tree.specs.Pool.{at}
use Rattle.pcal_tree.specs.declared.algorithm.Start as code_start
use Rattle.pcal_tree.specs.declared.algorithm.Start.TheVariants as start
use Rattle.pcal_tree.specs.declared.algorithm.Declaration.{Declaration}
use Rattle.pcal_tree.specs.declared.algorithm.Definition.{Definition}
use Rattle.pcal_tree.specs.declared.algorithm.Macro.{Macro}
use Rattle.pcal_tree.specs.declared.algorithm.Procedure.{Procedure}
use Rattle.pcal_tree.specs.declared.algorithm.Process.{Process}
use Rattle.pcal_tree.specs.declared.algorithm.Main.{Main}
use Rattle.pcal_tree.specs.declared.algorithm.Main.TheVariants as main
use Rattle.pcal_tree.specs.declared.algorithm.Algorithm.{Algorithm}
use Rattle.pcal_tree.specs.Algorithm as tree
use Rattle.pcal_tree.specs.InMemory.{start_at, declarations_at, definitions_at, macro_at, procedure_at, process_at, main_at, algorithm_at, statements_at}
use Rattle.pcal_tree.specs.BoundNames.{Lists, all_of, names_of_binds, lists_in, lists_in_body, lists_in_start, lists_in_declared, lists_in_procedure, lists_in_process, lists_in_main}
use Rattle.pcal_tree.specs.Variables.{declared}
use Rattle.pcal_tree.specs.Names.{kept}
use Rattle.pcal_tree.proofs.SetLaws.{or_both, or_mixed}
use Rattle.written_names.specs.Giving.{SameNames}
use Rattle.tla_value.specs.Outside as pure
use Rattle.module_outside.specs.declared.definition.ReadDefinition.{ReadDefinition}
use Rattle.module_outside.specs.OutsideAt.{definition_seen}
use Rattle.pcal_tree.specs.BoundNames.{lists_in_all, lists_in_assignments, lists_in_binds, lists_in_one, lists_in_branches}
use Rattle.declared_rules.specs.Parts.{Part, expression, in_trees, in_assignments, in_binds, in_one, in_body, in_branches, body_parts, start_parts, declaration_parts, global_parts, definition_parts, macro_parts, procedure_parts, process_parts, main_parts, parts_of_algorithm}
use Rattle.declared_rules.specs.Met.{bound_words, expr_words, parts_words, words_within}
use Rattle.declared_rules.proofs.MetWalks.{among_both}
use Rattle.declared_rules.proofs.WalkLaws.{words_both}
use Rattle.declared_rules.proofs.MetBodies.{bound_both, one_bound}

-- ---- the names of parts

-- one expression before others
one_words : (t : tree_of.Tree) (xs : List Part) (ls : Lists) → parts_words xs ≡ bound_words ls → bound_words (lists_in t) ++ parts_words xs ≡ bound_words (lists_in t ++ ls)
one_words t xs ls e = ap (λ l. bound_words (lists_in t) ++ l) e ∙ bound_both (lists_in t) ls

-- some parts before others
then_words : (xs ys : List Part) (ls ms : Lists) → parts_words xs ≡ bound_words ls → parts_words ys ≡ bound_words ms → parts_words (xs ++ ys) ≡ bound_words (ls ++ ms)
then_words xs ys ls ms e f = sym (words_both xs ys) ∙ (λ i. e i ++ f i) ∙ bound_both ls ms

-- a list of names before others
names_before : (ns : List Name) (ls : Lists) → words ns ++ bound_words ls ≡ bound_words (ns ∷ ls)
names_before ns ls = sym (map-append (λ (x : Name). x.word) ns (all_of ls))

tree_words : (ts : tree_of.Trees) → parts_words (in_trees ts) ≡ bound_words (lists_in_all ts)
tree_words tree_of.no_trees = refl
tree_words (tree_of.tree t ts) = one_words t (in_trees ts) (lists_in_all ts) (tree_words ts)

assigned_words : (ms : tree.Assignments) → parts_words (in_assignments ms) ≡ bound_words (lists_in_assignments ms)
assigned_words tree.no_assignments = refl
assigned_words (tree.assignment l e ms) =
    one_words l (expression e ∷ in_assignments ms) (lists_in e ++ lists_in_assignments ms) (one_words e (in_assignments ms) (lists_in_assignments ms) (assigned_words ms))

with_words : (bs : tree.Binds) → parts_words (in_binds bs) ≡ bound_words (lists_in_binds bs)
with_words tree.no_binds = refl
with_words (tree.one_of x e bs) = one_words e (in_binds bs) (lists_in_binds bs) (with_words bs)
with_words (tree.is x e bs) = one_words e (in_binds bs) (lists_in_binds bs) (with_words bs)

mutual
  statement_words : (p : Place) (s : tree.Statement) → parts_words (in_one p s) ≡ bound_words (lists_in_one s)
  statement_words p (tree.assign ms) = assigned_words ms
  statement_words p (tree.await e) = append-nil (bound_words (lists_in e))
  statement_words p (tree.print e) = append-nil (bound_words (lists_in e))
  statement_words p (tree.assert e) = append-nil (bound_words (lists_in e))
  statement_words p tree.skip = refl
  statement_words p (tree.branch e a b) = one_words e (in_body a ++ in_body b) (lists_in_body a ++ lists_in_body b) (then_words (in_body a) (in_body b) (lists_in_body a) (lists_in_body b) (body_words_are a) (body_words_are b))
  statement_words p (tree.either bs) = branches_words bs
  statement_words p (tree.with bs b) =
      ap (λ l. words (names_of_binds bs) ++ l) (then_words (in_binds bs) (in_body b) (lists_in_binds bs) (lists_in_body b) (with_words bs) (body_words_are b))
      ∙ names_before (names_of_binds bs) (lists_in_binds bs ++ lists_in_body b)
  statement_words p (tree.while e b) = one_words e (in_body b) (lists_in_body b) (body_words_are b)
  statement_words p (tree.goto l) = refl
  statement_words p (tree.macro m ts) = tree_words ts
  statement_words p (tree.call q ts) = tree_words ts
  statement_words p tree.return = refl

  body_words_are : (b : tree.Statements) → parts_words (in_body b) ≡ bound_words (lists_in_body b)
  body_words_are tree.done = refl
  body_words_are (tree.then s st rest) = then_words (in_one s.first st) (in_body rest) (lists_in_one st) (lists_in_body rest) (statement_words s.first st) (body_words_are rest)
  body_words_are (tree.mark l k rest) = body_words_are rest

  branches_words : (bs : tree.Branches) → parts_words (in_branches bs) ≡ bound_words (lists_in_branches bs)
  branches_words tree.no_branches = refl
  branches_words (tree.or b bs) = then_words (in_body b) (in_branches bs) (lists_in_body b) (lists_in_branches bs) (body_words_are b) (branches_words bs)

-- ---- parts in memory

start_is : (ts : List Tree) (s : code_start.Start) → parts_words (start_parts ts s) ≡ bound_words (lists_in_start (start_at ts s))
start_is ts start.Unset = refl
start_is ts (start.Equals e) = append-nil (expr_words ts e)
start_is ts (start.Among e) = append-nil (expr_words ts e)

starts_are : (ts : List Tree) (ds : List Declaration) → parts_words (flat_map (declaration_parts ts) ds) ≡ bound_words (lists_in_declared (declarations_at ts ds))
starts_are ts [] = refl
starts_are ts (d ∷ ds) =
    then_words (start_parts ts d.start) (flat_map (declaration_parts ts) ds) (lists_in_start (start_at ts d.start)) (lists_in_declared (declarations_at ts ds)) (start_is ts d.start) (starts_are ts ds)

globals_are : (ts : List Tree) (ds : List Declaration) (w : Word)
    → is_among (parts_words (flat_map (global_parts ts) ds)) w ≡ (is_among (declared (declarations_at ts ds)) w || is_among (bound_words (lists_in_declared (declarations_at ts ds))) w)
globals_are ts [] w = refl
globals_are ts (d ∷ ds) w =
    ap (λ l. is_among l w) (sym (words_both (global_parts ts d) (flat_map (global_parts ts) ds)))
    ∙ ap (λ l. is_among ((d.name.word ∷ l) ++ parts_words (flat_map (global_parts ts) ds)) w) (start_is ts d.start)
    ∙ one_bound w d.name.word (lists_in_start (start_at ts d.start)) (lists_in_declared (declarations_at ts ds)) (declared (declarations_at ts ds)) (parts_words (flat_map (global_parts ts) ds)) (globals_are ts ds w)

-- names and what is bound, of one before others
both_bound : (w : Word) (ns ms rest : List Word) (ls ks : Lists) → is_among rest w ≡ (is_among ms w || is_among (bound_words ks) w)
    → is_among ((ns ++ bound_words ls) ++ rest) w ≡ (is_among (ns ++ ms) w || is_among (bound_words (ls ++ ks)) w)
both_bound w ns ms rest ls ks h =
    among_both (ns ++ bound_words ls) rest w
    ∙ (λ i. among_both ns (bound_words ls) w i || h i)
    ∙ or_mixed (is_among ns w) (is_among (bound_words ls) w) (is_among ms w) (is_among (bound_words ks) w)
    ∙ (λ i. sym (among_both ns ms w) i || (sym (among_both (bound_words ls) (bound_words ks) w) ∙ ap (λ l. is_among l w) (bound_both ls ks)) i)

definitions_are : (ts : List Tree) (ds : List Definition) (w : Word)
    → is_among (parts_words (flat_map (definition_parts ts) ds)) w ≡ (is_among (flat_map (λ (d : tree.Definition). d.name.word ∷ words d.params) (definitions_at ts ds)) w || is_among (bound_words (flat_map (λ (d : tree.Definition). lists_in d.body) (definitions_at ts ds))) w)
definitions_are ts [] w = refl
definitions_are ts (d ∷ ds) w =
    ap (λ l. is_among l w) (sym (words_both (definition_parts ts d) (flat_map (definition_parts ts) ds)))
    ∙ ap (λ l. is_among ((d.name.word ∷ (words d.params.items ++ l)) ++ parts_words (flat_map (definition_parts ts) ds)) w) (append-nil (expr_words ts d.body))
    ∙ both_bound w (d.name.word ∷ words d.params.items) (flat_map (λ (d : tree.Definition). d.name.word ∷ words d.params) (definitions_at ts ds)) (parts_words (flat_map (definition_parts ts) ds)) (lists_in (at ts d.body))
    (flat_map (λ (d : tree.Definition). lists_in d.body) (definitions_at ts ds)) (definitions_are ts ds w)

macros_are : (ts : List Tree) (ds : List Macro) (w : Word)
    → is_among (parts_words (flat_map (macro_parts ts) ds)) w ≡ (is_among (flat_map (λ (d : tree.Macro). words d.params) (map (macro_at ts) ds)) w || is_among (bound_words (flat_map (λ (d : tree.Macro). lists_in_body d.body) (map (macro_at ts) ds))) w)
macros_are ts [] w = refl
macros_are ts (d ∷ ds) w =
    ap (λ l. is_among l w) (sym (words_both (macro_parts ts d) (flat_map (macro_parts ts) ds)))
    ∙ ap (λ l. is_among ((words d.params.items ++ l) ++ parts_words (flat_map (macro_parts ts) ds)) w) (body_words_are (statements_at ts d.body.items))
    ∙ both_bound w (words d.params.items) (flat_map (λ (d : tree.Macro). words d.params) (map (macro_at ts) ds)) (parts_words (flat_map (macro_parts ts) ds)) (lists_in_body (statements_at ts d.body.items))
    (flat_map (λ (d : tree.Macro). lists_in_body d.body) (map (macro_at ts) ds)) (macros_are ts ds w)

-- ---- routines

declared_both : (ds es : List tree.Declaration) → lists_in_declared ds ++ lists_in_declared es ≡ lists_in_declared (ds ++ es)
declared_both ds es = sym (flat_map-append (λ (d : tree.Declaration). lists_in_start d.start) ds es)

procedure_is : (ts : List Tree) (p : Procedure) → parts_words (procedure_parts ts p) ≡ bound_words (lists_in_procedure (procedure_at ts p))
procedure_is ts p =
    then_words (flat_map (declaration_parts ts) p.params.items) (flat_map (declaration_parts ts) p.variables.items ++ body_parts ts p.body.items) ps (vs ++ b) (starts_are ts p.params.items)
    (then_words (flat_map (declaration_parts ts) p.variables.items) (body_parts ts p.body.items) vs b (starts_are ts p.variables.items) (body_words_are (statements_at ts p.body.items)))
    ∙ ap bound_words (sym (append_assoc ps vs b) ∙ ap (λ l. l ++ b) (declared_both (declarations_at ts p.params.items) (declarations_at ts p.variables.items)))
  where
    ps : Lists
    ps = lists_in_declared (declarations_at ts p.params.items)

    vs : Lists
    vs = lists_in_declared (declarations_at ts p.variables.items)

    b : Lists
    b = lists_in_body (statements_at ts p.body.items)

process_is : (ts : List Tree) (p : Process) → parts_words (process_parts ts p) ≡ bound_words (lists_in_process (process_at ts p))
process_is ts p =
    one_words (at ts p.identity) (flat_map (declaration_parts ts) p.variables.items ++ body_parts ts p.body.items) (lists_in_declared (declarations_at ts p.variables.items) ++ lists_in_body (statements_at ts p.body.items))
    (then_words (flat_map (declaration_parts ts) p.variables.items) (body_parts ts p.body.items) (lists_in_declared (declarations_at ts p.variables.items)) (lists_in_body (statements_at ts p.body.items)) (starts_are ts p.variables.items)
    (body_words_are (statements_at ts p.body.items)))

module _ {A B : Type 0} (f : A → List Part) (g : A → B) (h : B → Lists) (same : (x : A) → parts_words (f x) ≡ bound_words (h (g x))) where
  each_is : (xs : List A) → parts_words (flat_map f xs) ≡ bound_words (flat_map h (map g xs))
  each_is [] = refl
  each_is (x ∷ xs) = then_words (f x) (flat_map f xs) (h (g x)) (flat_map h (map g xs)) (same x) (each_is xs)

main_is : (ts : List Tree) (m : Main) → parts_words (main_parts ts m) ≡ bound_words (lists_in_main (main_at ts m))
main_is ts (main.Alone ss) = body_words_are (statements_at ts ss.items)
main_is ts (main.Processes ps) = each_is (process_parts ts) (process_at ts) lists_in_process (process_is ts) ps.items

-- ---- the algorithm

reordered : (a b c d e f p : Bool) → ((a || b) || ((c || d) || ((e || f) || p))) ≡ (a || (c || (e || (b || (d || (f || p))))))
reordered true b c d e f p = refl
reordered false true true d e f p = refl
reordered false true false d true f p = refl
reordered false true false d false f p = refl
reordered false false true d e f p = refl
reordered false false false true true f p = refl
reordered false false false true false f p = refl
reordered false false false false e f p = or_both e f p

pub kept_words : (ts : List Tree) (a : Algorithm) → SameNames (parts_words (parts_of_algorithm ts a)) (kept (algorithm_at ts a))
kept_words ts a w =
    ap (λ l. is_among l w)
    (sym (words_both (flat_map (global_parts ts) a.globals.items) _)
    ∙ ap (λ l. parts_words (flat_map (global_parts ts) a.globals.items) ++ l)
    (sym (words_both (flat_map (definition_parts ts) a.definitions.items) _) ∙ ap (λ l. parts_words (flat_map (definition_parts ts) a.definitions.items) ++ l) (sym (words_both (flat_map (macro_parts ts) a.macros.items) _))))
    ∙ among_both (parts_words (flat_map (global_parts ts) a.globals.items)) _ w
    ∙ (λ i. globals_are ts a.globals.items w i || (among_both (parts_words (flat_map (definition_parts ts) a.definitions.items)) _ w
    ∙ (λ j. definitions_are ts a.definitions.items w j || (among_both (parts_words (flat_map (macro_parts ts) a.macros.items)) _ w ∙ ap (λ b. b || is_among rest w) (macros_are ts a.macros.items w)) j)) i)
    ∙ reordered (is_among g w) (is_among (bound_words gl) w) (is_among d w) (is_among (bound_words dl) w) (is_among m w) (is_among (bound_words ml) w) (is_among rest w)
    ∙ sym (among_both g (d ++ (m ++ bound_words (gl ++ (dl ++ (ml ++ (pl ++ nl)))))) w
    ∙ ap (λ b. is_among g w || b) (among_both d (m ++ bound_words (gl ++ (dl ++ (ml ++ (pl ++ nl))))) w
    ∙ ap (λ b. is_among d w || b) (among_both m (bound_words (gl ++ (dl ++ (ml ++ (pl ++ nl))))) w
    ∙ ap (λ b. is_among m w || b) (split gl (dl ++ (ml ++ (pl ++ nl)))
    ∙ ap (λ b. is_among (bound_words gl) w || b) (split dl (ml ++ (pl ++ nl))
    ∙ ap (λ b. is_among (bound_words dl) w || b) (split ml (pl ++ nl)
    ∙ ap (λ b. is_among (bound_words ml) w || b) (ap (λ l. is_among l w) (sym (bound_both pl nl) ∙ sym routines_are))))))))
  where
    g : List Word
    g = declared (declarations_at ts a.globals.items)

    d : List Word
    d = flat_map (λ (d : tree.Definition). d.name.word ∷ words d.params) (definitions_at ts a.definitions.items)

    m : List Word
    m = flat_map (λ (d : tree.Macro). words d.params) (map (macro_at ts) a.macros.items)

    gl : Lists
    gl = lists_in_declared (declarations_at ts a.globals.items)

    dl : Lists
    dl = flat_map (λ (d : tree.Definition). lists_in d.body) (definitions_at ts a.definitions.items)

    ml : Lists
    ml = flat_map (λ (d : tree.Macro). lists_in_body d.body) (map (macro_at ts) a.macros.items)

    pl : Lists
    pl = flat_map lists_in_procedure (map (procedure_at ts) a.procedures.items)

    nl : Lists
    nl = lists_in_main (main_at ts a.main)

    rest : List Word
    rest = parts_words (flat_map (procedure_parts ts) a.procedures.items ++ main_parts ts a.main)

    routines_are : rest ≡ bound_words pl ++ bound_words nl
    routines_are =
        sym (words_both (flat_map (procedure_parts ts) a.procedures.items) (main_parts ts a.main))
        ∙ (λ i. each_is (procedure_parts ts) (procedure_at ts) lists_in_procedure (procedure_is ts) a.procedures.items i ++ main_is ts a.main i)

    split : (xs ys : Lists) → is_among (bound_words (xs ++ ys)) w ≡ (is_among (bound_words xs) w || is_among (bound_words ys) w)
    split xs ys = ap (λ l. is_among l w) (sym (bound_both xs ys)) ∙ among_both (bound_words xs) (bound_words ys) w

-- ---- what is outside

pub bound_read : (ts : List Tree) (ds : List ReadDefinition)
    → flat_map (words_within ts) ds ≡ flat_map (λ (d : pure.ReadDefinition). d.definition.params ++ bound_words (lists_in d.definition.body)) (map (definition_seen ts) ds)
bound_read ts [] = refl
bound_read ts (d ∷ ds) = ap (λ (ws : List Word). words_within ts d ++ ws) (bound_read ts ds)
