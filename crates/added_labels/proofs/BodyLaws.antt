-- Bodies with their labels, one after another.
use Rattle.std.proofs.Common.{◌≡◌, ℕ, ◌+◌, ◌<◌, ◌≤◌, Bool, true, false, List, [], ◌∷◌, ◌++◌, length, map, take, drop, get_or, Some, None, Vec, Global, refl, sym, ap, ◌∙◌, subst, cond, reverse, arith}
use Rattle.std.proofs.lemmas.List.{take_more, take_all, map-append}
use Rattle.tla_tree.specs.Tree.{Tree, Word, Trees}
use Rattle.tla_tree.specs.Nesting.{greatest}
use Rattle.tla_token.specs.declared.rule.Rule.TheVariants.{FirstLabel}
use Rattle.pcal_tree.specs.declared.algorithm.Stmt.{Stmt}
use Rattle.pcal_tree.specs.declared.algorithm.Macro.{Macro}
use Rattle.pcal_tree.specs.declared.algorithm.Procedure.{Procedure}
use Rattle.pcal_tree.specs.declared.algorithm.Process.{Process}
use Rattle.pcal_tree.specs.declared.algorithm.Main.{Main}
use Rattle.pcal_tree.specs.declared.algorithm.Main.TheVariants as main
use Rattle.tla_tree.specs.Pool.{at as expr_at}
use Rattle.pcal_tree.specs.InMemory as at
use Rattle.pcal_tree.specs.Algorithm as tree
use Rattle.pcal_tree.specs.declared.algorithm.Algorithm as code
use Rattle.pcal_tree.specs.InMemory.{statements_at, macro_at, procedure_at, process_at, main_at, algorithm_at}
use Rattle.pcal_tree.specs.Labelled.{Supply, with_labels}
use Rattle.pcal_tree.specs.OffencesSteps.{Before, at_first, outer_effects, call_effect}
use Rattle.pcal_tree.specs.Paths.{Effect, Effects, nothing}
use Rattle.pcal_tree.specs.laws.MacroSummaries.{Summary, summaries, summary_effect}
use Rattle.pcal_tree.proofs.InMemoryEach.{past_one_more}
use Rattle.label_steps.specs.AroundIn.{effects_around, names_of}
use Rattle.label_steps.specs.KnownIn.{AreMacros}
use Rattle.label_steps.proofs.TwiceLaws.{in_procedure, outside}
use Rattle.placed_labels.specs.declared.place.Plan.{Plan}
use Rattle.added_labels.specs.declared.seen.Where.{Where}
use Rattle.added_labels.specs.Chosen.{begins_with}
use Rattle.added_labels.specs.Decided.{chosen}
use Rattle.placed_labels.specs.InMemory.{AreLeft, PutsAll}
use Rattle.added_labels.specs.Bodies.{macro_with, past_macro, procedure_with, past_procedure, process_with, past_process, each_with, past_each, main_with, past_macros, all_names}
use Rattle.added_labels.specs.Sight.{effects_of}
use Rattle.added_labels.specs.WithLabels.{BodyWith, OneWith, EachWith, MainWith, IsSilent, IsOutside, Begun}
use Rattle.added_labels.proofs.RootLaws.{with_labels_alike}
use Rattle.added_labels.proofs.PlacedLaws.{all_added}
use Rattle.added_labels.proofs.SightLaws.{effects_there}

-- ---- a body

pub body_is : (E : Effects) (p : Before) (ts : List Tree) (old mid new : Plan) (b r : List Stmt) → mid.wanted.items ≡ chosen E p (statements_at ts b) [] → mid.passed ≡ 0 → mid.names ≡ old.names → PutsAll mid new b r
    → BodyWith E p ts old new b r
body_is E p ts old mid new b r w z n h s a =
    let k = h ts (record { wanted = chosen E p (statements_at ts b) []; names = s }) (record { wanted = ap (λ (i : ℕ). drop i mid.wanted.items) z ∙ w; names = subst (λ (m : _). AreLeft m s) (sym n) a }) in
    record { with = k.0; left = k.1.names }

-- ---- one after another

module _ {A X : Type 0} (at : A → X) (f : Supply → X → X) (g : Supply → X → Supply) where
  each_more : (s : Supply) (xs : List X) (x : X) → each_with f g s (xs ++ x ∷ []) ≡ each_with f g s xs ++ f (past_each g s xs) x ∷ []
  each_more s [] x = refl
  each_more s (y ∷ ys) x = ap (λ (zs : List X). f s y ∷ zs) (each_more (g s y) ys x)

  past_more : (s : Supply) (xs : List X) (x : X) → past_each g s (xs ++ x ∷ []) ≡ g (past_each g s xs) x
  past_more s [] x = refl
  past_more s (y ∷ ys) x = past_more (g s y) ys x

  pub none_with : (old : Plan) → EachWith at f g old old [] []
  none_with old s a = record { with = refl; left = a }

  one_with : (old mid new : Plan) (xs rs : List A) (x r : A) → EachWith at f g old mid xs rs → OneWith at f g mid new x r → EachWith at f g old new (xs ++ x ∷ []) (rs ++ r ∷ [])
  one_with old mid new xs rs x r h k s a =
      let l = h s a in
      let o = k (past_each g s (map at xs)) l.left in
      record {
        with = map-append at rs (r ∷ []) ∙ (λ i. l.with i ++ o.with i ∷ []) ∙ sym (each_more s (map at xs) (at x)) ∙ ap (each_with f g s) (sym (map-append at xs (x ∷ [])));
        left = subst (AreLeft new.names) (sym (ap (past_each g s) (map-append at xs (x ∷ [])) ∙ past_more s (map at xs) (at x))) o.left;
      }

  pub next_with : (old mid new : Plan) (all rs : List A) (n m : ℕ) (x r : A) → m ≡ n + 1 → (n < length all) × (x ≡ get_or all n x) → EachWith at f g old mid (take n all) rs → OneWith at f g mid new x r
      → (out : List A) → out ≡ rs ++ r ∷ [] → EachWith at f g old new (take m all) out
  next_with old mid new all rs n m x r w t h k out o =
      subst (λ (zs : List A). EachWith at f g old new (take m all) zs) (sym o)
      (subst (λ (zs : List A). EachWith at f g old new zs (rs ++ r ∷ [])) (sym (ap (λ (j : ℕ). take j all) w ∙ take_more all n x t.0 ∙ ap (λ (z : A). take n all ++ z ∷ []) (sym t.1))) (one_with old mid new (take n all) rs x r h k))

  pub all_with : (old new : Plan) (all rs : List A) (n : ℕ) → length all ≤ n → EachWith at f g old new (take n all) rs → EachWith at f g old new all rs
  all_with old new all rs n l h = subst (λ (zs : List A). EachWith at f g old new zs rs) (take_all n all l) h

pub next_numbers : {A : Type 0} (past : A → ℕ) (all rs : List A) (n m : ℕ) (x r : A) → m ≡ n + 1 → (n < length all) × (x ≡ get_or all n x) → greatest (map past rs) ≤ greatest (map past (take n all)) → past r ≤ past x
    → (out : List A) → out ≡ rs ++ r ∷ [] → greatest (map past out) ≤ greatest (map past (take m all))
next_numbers {A = A} past all rs n m x r w t h k out o =
    let a = ap (λ (zs : List A). greatest (map past zs)) o ∙ past_one_more past rs r in
    let b = ap (λ (zs : List A). greatest (map past zs)) (ap (λ (j : ℕ). take j all) w ∙ take_more all n x t.0 ∙ ap (λ (z : A). take n all ++ z ∷ []) (sym t.1)) ∙ past_one_more past (take n all) x in
    omega (arith, a, b, h, k)

pub all_numbers : {A : Type 0} (past : A → ℕ) (all rs : List A) (n : ℕ) → length all ≤ n → greatest (map past rs) ≤ greatest (map past (take n all)) → greatest (map past rs) ≤ greatest (map past all)
all_numbers {A = A} past all rs n l h = subst (λ (zs : List A). greatest (map past rs) ≤ greatest (map past zs)) (take_all n all l) h

-- ---- macros, procedures, processes

first_begins : begins_with true (at_first (Some FirstLabel))
first_begins = (refl, refl, refl)

none_begins : begins_with false (at_first None)
none_begins = (refl, refl, refl)

pub macro_is : (ts : List Tree) (w : Where) (old new : Plan) (one : Macro) (b : Vec Stmt Global) → IsSilent w
    → ((ms : List Summary) → AreMacros w.around.known ms → (p : Before) → begins_with false p → BodyWith (effects_of w ms) p ts old new one.body.items b.items)
    → OneWith (macro_at ts) macro_with past_macro old new one (record { name = one.name; params = one.params; body = b })
macro_is ts w old new one b q h s a =
    let k = subst (λ (E : Effects). BodyWith E (at_first None) ts old new one.body.items b.items) (ap (λ (t : Bool). cond t (λ st. nothing) (effects_around w.around [])) q.0) (h [] q.1 (at_first None) none_begins) s a in
    record { with = λ i. record { name = one.name; params = one.params.items; body = k.with i }; left = k.left }

pub procedure_is : (ts : List Tree) (w : Where) (ms : List Summary) (old new : Plan) (one : Procedure) (b : Vec Stmt Global) → w.silent ≡ false → w.around.name ≡ Some one.name → w.around.own.items ≡ names_of one.params.items ++ names_of one.variables.items
    → ((p : Before) → begins_with true p → BodyWith (effects_of w ms) p ts old new one.body.items b.items)
    → OneWith (procedure_at ts) (procedure_with (summary_effect ms)) (past_procedure (summary_effect ms)) old new one (record { name = one.name; params = one.params; variables = one.variables; body = b })
procedure_is ts w ms old new one b l nm ow h s a =
    let k = subst (λ (E : Effects). BodyWith E (at_first (Some FirstLabel)) ts old new one.body.items b.items) (effects_there w ms l ∙ in_procedure w.around ms ts one nm ow) (h (at_first (Some FirstLabel)) first_begins) s a in
    record { with = λ i. record { name = one.name; params = map (at.declaration_at ts) one.params.items; variables = map (at.declaration_at ts) one.variables.items; body = k.with i }; left = k.left }

outside_is : (ts : List Tree) (w : Where) (ms : List Summary) (old new : Plan) (b r : List Stmt) → IsOutside w
    → ((p : Before) → begins_with true p → BodyWith (effects_of w ms) p ts old new b r) → BodyWith (outer_effects (summary_effect ms)) (at_first (Some FirstLabel)) ts old new b r
outside_is ts w ms old new b r q h =
    subst (λ (E : Effects). BodyWith E (at_first (Some FirstLabel)) ts old new b r) (effects_there w ms q.loud ∙ outside w.around ms q.name q.own) (h (at_first (Some FirstLabel)) first_begins)

pub process_is : (ts : List Tree) (w : Where) (ms : List Summary) (old new : Plan) (one : Process) (b : Vec Stmt Global) → IsOutside w → ((p : Before) → begins_with true p → BodyWith (effects_of w ms) p ts old new one.body.items b.items)
    → OneWith (process_at ts) (process_with (summary_effect ms)) (past_process (summary_effect ms)) old new one
    (record { name = one.name; fairness = one.fairness; several = one.several; identity = one.identity; variables = one.variables; body = b })
process_is ts w ms old new one b q h s a =
    let k = outside_is ts w ms old new one.body.items b.items q h s a in
    record {
      with = λ i. record {
        name = one.name;
        fairness = one.fairness;
        several = one.several;
        identity = expr_at ts one.identity;
        variables = map (at.declaration_at ts) one.variables.items;
        body = k.with i;
      };
      left = k.left;
    }

pub alone_is : (ts : List Tree) (w : Where) (ms : List Summary) (old new : Plan) (m : Main) (b r : Vec Stmt Global) → IsOutside w → m ≡ main.Alone b → ((p : Before) → begins_with true p → BodyWith (effects_of w ms) p ts old new b.items r.items)
    → MainWith (summary_effect ms) ts old m (main.Alone r)
alone_is ts w ms old new m b r q e h s a =
    ap tree.alone (outside_is ts w ms old new b.items r.items q h s a).with ∙ ap (λ (z : Main). main_with (summary_effect ms) s (main_at ts z)) (sym e)

pub processes_are : (ts : List Tree) (ms : List Summary) (old new : Plan) (m : Main) (b r : Vec Process Global) → m ≡ main.Processes b
    → EachWith (process_at ts) (process_with (summary_effect ms)) (past_process (summary_effect ms)) old new b.items r.items → MainWith (summary_effect ms) ts old m (main.Processes r)
processes_are ts ms old new m b r e h s a = ap tree.processes (h s a).with ∙ ap (λ (z : Main). main_with (summary_effect ms) s (main_at ts z)) (sym e)

pub chosen_here : (E : Effects) (p : Before) (ts : List Tree) (cs b : List Stmt) (none ws : List Bool) → cs ≡ b → none ≡ [] → ws ≡ none ++ chosen E p (statements_at ts cs) [] → ws ≡ chosen E p (statements_at ts b) []
chosen_here E p ts cs b none ws e n h = h ∙ (λ i. n i ++ chosen E p (statements_at ts (e i)) [])

-- ---- algorithms

abbrev Summed : List tree.Macro → Word → Trees → Effect
Summed ms = summary_effect (summaries ms)

pub routines_are : (root : Word) (ts : List Tree) (plan mid : Plan) (x : code.Algorithm) (a : tree.Algorithm) (ps : List Procedure) (vs : Vec Procedure Global) (m n : Main) → Begun root ts plan x a
    → EachWith (procedure_at ts) (procedure_with (Summed (reverse (map (macro_at ts) x.macros.items)))) (past_procedure (Summed (reverse (map (macro_at ts) x.macros.items)))) plan mid ps vs.items
    → MainWith (Summed (reverse (map (macro_at ts) x.macros.items))) ts mid m n → ps ≡ x.procedures.items → m ≡ x.main
    → algorithm_at ts (record { name = x.name; fair = x.fair; globals = x.globals; definitions = x.definitions; macros = x.macros; procedures = vs; main = n }) ≡ with_labels call_effect root a
routines_are root ts plan mid x a ps vs m n b h k is im =
    let s = past_macros (all_names root a) a.macros in
    let C = Summed (reverse (map (macro_at ts) x.macros.items)) in
    let p = h s b.left in
    let r = k (past_each (past_procedure C) s (map (procedure_at ts) ps)) p.left in
    (λ i. record {
      name = (b.now i).name;
      fair = (b.now i).fair;
      globals = (b.now i).globals;
      definitions = (b.now i).definitions;
      macros = (b.now i).macros;
      procedures = (p.with ∙ (λ j. each_with (procedure_with C) (past_procedure C) s (map (procedure_at ts) (is j)))
          ∙ (λ j. each_with (procedure_with (Summed (reverse ((b.now j).macros)))) (past_procedure (Summed (reverse ((b.now j).macros)))) s ((b.now j).procedures))) i;
      main = (r ∙ (λ j. main_with C (past_each (past_procedure C) s (map (procedure_at ts) (is j))) (main_at ts (im j)))
          ∙ (λ j. main_with (Summed (reverse ((b.now j).macros))) (past_each (past_procedure (Summed (reverse ((b.now j).macros)))) s ((b.now j).procedures)) ((b.now j).main))) i;
    })
    ∙ sym (with_labels_alike root a ∙ all_added Summed root a)
