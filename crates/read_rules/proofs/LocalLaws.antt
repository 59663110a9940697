-- The variables of procedures and processes, one list after another.
use Rattle.std.proofs.Common.{◌≡◌, ℕ, suc, ◌+◌, ◌<◌, ◌≤◌, Bool, ◌||◌, not, ◌&&◌, List, [], ◌∷◌, ◌++◌, length, take, map, get_or, Option, refl, sym, ap, ◌∙◌, subst, arith, le-ltb}
use Rattle.std.specs.List.{list_any, flat_map}
use Rattle.std.proofs.lemmas.List.{take_more, take_all, append-nil, append_assoc, map-append}
use Rattle.std.proofs.lemmas.Grind.{flat_map-append}
use Rattle.tla_token.specs.declared.rule.Rule.TheVariants.{InitLater}
use Rattle.tla_token.specs.declared.rule.Refusal.{Refusal}
use Rattle.tla_token.specs.Signs.{is_among}
use Rattle.tla_tree.specs.Tree.{Word, Tree, root_place}
use Rattle.pcal_tree.specs.declared.algorithm.Declaration.{Declaration}
use Rattle.pcal_tree.specs.declared.algorithm.Procedure.{Procedure}
use Rattle.pcal_tree.specs.declared.algorithm.Process.{Process}
use Rattle.pcal_tree.specs.declared.algorithm.Main.{Main}
use Rattle.pcal_tree.specs.declared.algorithm.Main.TheVariants as main
use Rattle.pcal_tree.specs.declared.algorithm.Algorithm.{Algorithm}
use Rattle.pcal_tree.specs.Algorithm as tree
use Rattle.pcal_tree.specs.InMemory.{declarations_at, procedure_at, process_at, main_at, algorithm_at}
use Rattle.pcal_tree.specs.Offences.{offence_if, first}
use Rattle.pcal_tree.specs.Reads.{used, initial}
use Rattle.pcal_tree.specs.OffencesReads.{processes_of}
use Rattle.pcal_tree.specs.Variables.{declared}
use Rattle.algorithm_limits.specs.DepthsIn.{Hides}
use Rattle.algorithm_limits.proofs.BoundLemmas.{hides_then, hides_as}
use Rattle.algorithm_answer.specs.Joined.{joined}
use Rattle.algorithm_answer.proofs.Joins.{joined_assoc, first_append}
use Rattle.read_rules.specs.EarlyReads.{early_in_start, early_in, early_in_locals, variables_of}
use Rattle.read_rules.specs.declared.order.Known.{Known}
use Rattle.read_rules.specs.NumbersIn.{declared_in}
use Rattle.read_rules.specs.Order.{Knows, behind}
use Rattle.read_rules.specs.Locals.{procedure_words, process_words, main_words, algorithm_words, procedure_list, process_list}
use Rattle.read_rules.proofs.NumberLaws.{declared_is}
use Rattle.read_rules.proofs.FoundLaws.{Found, found_none, found_more, found_all, flat_mapped}

-- ---- names

pub hides_more : {X : Type 0} (f : X → List Word) (old now new : List Word) (xs : List X) (i : ℕ) (x : X) → x ≡ get_or xs i x → i < length xs → Hides old now (flat_map f (take i xs)) → Hides now new (f x) → Hides old new (flat_map f (take (i + 1) xs))
hides_more f old now new xs i x e l h k =
    hides_as old new (flat_map f (take i xs) ++ f x) (flat_map f (take (i + 1) xs))
    (sym (ap (flat_map f) (take_more xs i x l) ∙ flat_map-append f (take i xs) (get_or xs i x ∷ []) ∙ (λ j. flat_map f (take i xs) ++ append-nil (f (sym e j)) j)))
    (hides_then old now new (flat_map f (take i xs)) (f x) h k)

pub hides_all : {X : Type 0} (f : X → List Word) (old now : List Word) (xs : List X) (i : ℕ) → length xs ≤ i → Hides old now (flat_map f (take i xs)) → Hides old now (flat_map f xs)
hides_all f old now xs i l h = hides_as old now _ _ (ap (flat_map f) (take_all i xs l)) h

declared_both : (ds es : List tree.Declaration) → declared (ds ++ es) ≡ declared ds ++ declared es
declared_both ds es = map-append (λ (d : tree.Declaration). d.name.word) ds es

procedures_declared : (ts : List Tree) (ps : List Procedure) → flat_map declared (map procedure_list (map (procedure_at ts) ps)) ≡ flat_map procedure_words ps
procedures_declared ts [] = refl
procedures_declared ts (p ∷ ps) =
    λ i. (declared_both (declarations_at ts p.params.items) (declarations_at ts p.variables.items) ∙ (λ j. declared_is ts p.params.items j ++ declared_is ts p.variables.items j)) i ++ procedures_declared ts ps i

processes_declared : (ts : List Tree) (ps : List Process) → flat_map declared (map process_list (map (process_at ts) ps)) ≡ flat_map process_words ps
processes_declared ts [] = refl
processes_declared ts (p ∷ ps) = λ i. declared_is ts p.variables.items i ++ processes_declared ts ps i

main_declared : (ts : List Tree) (m : Main) → flat_map declared (map process_list (processes_of (main_at ts m))) ≡ main_words m
main_declared ts (main.Alone ss) = refl
main_declared ts (main.Processes ps) = processes_declared ts ps.items

pub variables_declared : (ts : List Tree) (a : Algorithm) → variables_of (algorithm_at ts a) ≡ algorithm_words a
variables_declared ts a =
    λ i. declared_is ts a.globals.items i ++ (flat_map-append declared (map procedure_list (map (procedure_at ts) a.procedures.items)) (map process_list (processes_of (main_at ts a.main))) ∙ (λ j. procedures_declared ts a.procedures.items j ++ main_declared ts a.main j)) i

-- ---- one list after another

-- where definitions read nothing late, no number matters
counts_alike : (all before : List Word) (i j : ℕ) (ds : List tree.Declaration) → early_in all [] before i ds ≡ early_in all [] before j ds
counts_alike all before i j [] = refl
counts_alike all before i j (d ∷ ds) = λ k. start i j k ++ counts_alike all (d.name.word ∷ before) (suc i) (suc j) ds k
  where
    start_of : Bool → List Refusal
    start_of b = flat_map (λ e. offence_if (list_any (λ n. (is_among all n.word && not (is_among before n.word)) || b) (used e [])) InitLater (root_place e)) (initial d.start)

    start : (i j : ℕ) → early_in_start all [] before i d.start ≡ early_in_start all [] before j d.start
    start i j = ap start_of (le-ltb i 0 (omega arith) ∙ sym (le-ltb j 0 (omega arith)))

lists_append : (all before : List Word) (i : ℕ) (ds es : List tree.Declaration) → early_in all [] before i (ds ++ es) ≡ early_in all [] before i ds ++ early_in all [] (behind (declared ds) before) 0 es
lists_append all before i [] es = counts_alike all before i 0 es
lists_append all before i (d ∷ ds) es =
    ap (λ (rs : List Refusal). early_in_start all [] before i d.start ++ rs) (lists_append all (d.name.word ∷ before) (suc i) ds es)
    ∙ sym (append_assoc (early_in_start all [] before i d.start) (early_in all [] (d.name.word ∷ before) (suc i) ds) (early_in all [] (behind (declared ds) (d.name.word ∷ before)) 0 es))

pub two_lists : (all before : List Word) (start mid found : Option Refusal) (ts : List Tree) (ds es : List Declaration) → mid ≡ joined start (first (early_in all [] before 0 (declarations_at ts ds)))
    → found ≡ joined mid (first (early_in all [] (behind (declared_in ds) before) 0 (declarations_at ts es))) → found ≡ joined start (first (early_in_locals all before (declarations_at ts ds ++ declarations_at ts es)))
two_lists all before start mid found ts ds es h k =
    let here = early_in all [] before 0 (declarations_at ts ds) in
    let more = λ (ws : List Word). early_in all [] (behind ws before) 0 (declarations_at ts es) in
    k ∙ ap (λ (o : Option Refusal). joined o (first (more (declared_in ds)))) h ∙ joined_assoc start (first here) (first (more (declared_in ds)))
    ∙ ap (joined start) (sym (first_append here (more (declared_in ds))) ∙ ap (λ (ws : List Word). first (here ++ more ws)) (sym (declared_is ts ds)) ∙ ap first (sym (lists_append all before 0 (declarations_at ts ds) (declarations_at ts es))))

-- ---- in loops

-- the first offence, and nothing more is known
pub record MetLocals {X : Type 0} (h : X → List tree.Declaration) (old now : Known) (start found : Option Refusal) (xs : List X) (i : ℕ) : Type 0 where
  pub kept : now ≡ old
  pub finds : (all before : List Word) → Knows old all [] before → Found (λ x. early_in_locals all before (h x)) xs i start found

pub locals_start : {X : Type 0} (h : X → List tree.Declaration) (k : Known) (start : Option Refusal) (xs : List X) → MetLocals h k k start start xs 0
locals_start h k start xs = record { kept = refl; finds = λ all before n. found_none (λ x. early_in_locals all before (h x)) xs start }

pub locals_more : {X : Type 0} (h : X → List tree.Declaration) (old now next : Known) (start found then : Option Refusal) (xs : List X) (i : ℕ) (x : X) → x ≡ get_or xs i x → i < length xs
    → ((all before : List Word) → Knows now all [] before → then ≡ joined found (first (early_in_locals all before (h x)))) → next ≡ now → MetLocals h old now start found xs i → MetLocals h old next start then xs (i + 1)
locals_more h old now next start found then xs i x e l t k m = record {
  kept = k ∙ m.kept;
  finds = λ all before n.
      found_more (λ x. early_in_locals all before (h x)) xs i x start found then e l (t all before (subst (λ (w : Known). Knows w all [] before) (sym m.kept) n)) (m.finds all before n);
}

pub locals_all : {X Y : Type 0} (f : Y → List tree.Declaration) (g : X → Y) (old now : Known) (start found : Option Refusal) (xs : List X) (i : ℕ) → length xs ≤ i → MetLocals (λ x. f (g x)) old now start found xs i
    → (all before : List Word) → Knows old all [] before → found ≡ joined start (first (flat_map (early_in_locals all before) (map f (map g xs))))
locals_all f g old now start found xs i l m all before n =
    found_all (λ x. early_in_locals all before (f (g x))) xs i start found l (m.finds all before n)
    ∙ ap (λ (rs : List Refusal). joined start (first rs)) (flat_mapped (λ y. early_in_locals all before (f y)) g xs ∙ flat_mapped (early_in_locals all before) f (map g xs))

-- ---- globals, procedures and processes

pub order_joined : (f : List tree.Declaration → List Refusal) (g p r : Option Refusal) (gs : List Refusal) (xs ys : List (List tree.Declaration)) → g ≡ first gs → p ≡ joined g (first (flat_map f xs)) → r ≡ joined p (first (flat_map f ys))
    → r ≡ first (gs ++ flat_map f (xs ++ ys))
order_joined f g p r gs xs ys e h k =
    k ∙ ap (λ (o : Option Refusal). joined o (first (flat_map f ys))) (h ∙ ap (λ (o : Option Refusal). joined o (first (flat_map f xs))) e)
    ∙ joined_assoc (first gs) (first (flat_map f xs)) (first (flat_map f ys))
    ∙ ap (joined (first gs)) (sym (first_append (flat_map f xs) (flat_map f ys)) ∙ ap first (sym (flat_map-append f xs ys)))
    ∙ sym (first_append gs (flat_map f (xs ++ ys)))
