-- What is known of macros, one after another.
use Rattle.std.proofs.Common.{◌≡◌, ℕ, zero, suc, arith, ◌+◌, ◌<◌, Bool, true, false, ◌||◌, List, [], ◌∷◌, ◌++◌, length, take, get_or, map, reverse, Option, Some, None, refl, sym, ap, ◌∙◌, subst, cond, bytes_eq}
use Rattle.std.specs.List.{list_any}
use Rattle.std.proofs.lemmas.Bool.{or_parts}
use Rattle.std.proofs.lemmas.List.{take_more, map-append}
use Rattle.std.proofs.lemmas.List.Folds.{list_any-append}
use Rattle.std.proofs.lemmas.List.{reverse-append}
use Rattle.std.proofs.Math.Bool.{or-false}
use Rattle.tla_token.specs.Signs.{is_among}
use Rattle.tla_tree.specs.Tree.{Word, Trees, no_trees, tree}
use Rattle.indexmap.specs.IndexSet.{insert_key}
use Rattle.algorithm_limits.proofs.Tables.{equal, equal_is}
use Rattle.pcal_tree.specs.Algorithm.{Name, Statements}
use Rattle.pcal_tree.specs.Paths.{Effects}
use Rattle.pcal_tree.specs.laws.MacroSummaries as found
use Rattle.pcal_tree.specs.laws.MacroSummaries.{Found, argument, found_here, found, is_broken}
use Rattle.pcal_tree.proofs.TargetLaws.{put_for}
use Rattle.label_steps.specs.declared.put.Pair.{Pair}
use Rattle.label_steps.specs.PutIn.{pair_of, breaks}
use Rattle.label_steps.specs.declared.around.Around.{Around}
use Rattle.label_steps.specs.declared.gathered.Gathered.{Gathered}
use Rattle.label_steps.specs.declared.known.Known.{Known}
use Rattle.label_steps.specs.declared.walk.Met.{Met}
use Rattle.label_steps.specs.AroundIn.{effects_around}
use Rattle.label_steps.specs.Gathered.{assigning, gathered, gathered_generally, FoundAlike}
use Rattle.label_steps.specs.GatheredIn.{AddsSome, Adds}
use Rattle.label_steps.specs.MacrosIn.{params_of, AreInside, IsGathered}
use Rattle.label_steps.specs.MissingLabels.{due_in}
use Rattle.label_steps.specs.StraightPaths.{straight_visits}
use Rattle.label_steps.specs.WalksIn.{SameVariables, Gains}
use Rattle.label_steps.proofs.AddsLaws.{any_inserted, plain_names}
use Rattle.label_steps.proofs.GatherLaws.{gathered_is}
use Rattle.label_steps.proofs.GeneralLaws.{general_is}
use Rattle.label_steps.proofs.TwiceLaws.{outside}

-- ---- parameters

no_argument : (ps : List Name) (x : Word) → is_among (params_of ps) x ≡ false → (ts : Trees) → argument ps ts x ≡ None
no_argument [] x e ts = refl
no_argument (p ∷ ps) x e no_trees = refl
no_argument (p ∷ ps) x e (tree t ts) =
    let h = or_parts (bytes_eq p.word x) (is_among (params_of ps) x) e in
    ap (λ (b : Bool). cond b (Some t) (argument ps ts x)) h.0 ∙ no_argument ps x h.1 ts

pub none_inside : (xs : List Word) (ps : List Name) → AreInside xs ps → (x : Word) → is_among xs x ≡ false → (ts : Trees) → argument ps ts x ≡ None
none_inside xs ps h x e ts = no_argument ps x (h x e) ts

pub params_more : (old now new : List Word) (ps : List Name) (i : ℕ) (p : Name) → p ≡ get_or ps i p → i < length ps → ((x : Word) → is_among now x ≡ (is_among old x || is_among (params_of (take i ps)) x)) → new ≡ insert_key equal now p.word
    → (x : Word) → is_among new x ≡ (is_among old x || is_among (params_of (take (i + 1) ps)) x)
params_more old now new ps i p e l h n x =
    ap (λ (ys : List Word). is_among ys x) n ∙ any_inserted equal equal_is (λ v. bytes_eq v x) now p.word ∙ ap (λ (b : Bool). b || bytes_eq p.word x) (h x)
    ∙ or_first (is_among old x) (is_among (params_of (take i ps)) x) (bytes_eq p.word x)
    ∙ ap (λ (b : Bool). is_among old x || b)
    (sym (ap (λ (qs : List Name). is_among (params_of qs) x) (take_more ps i p l ∙ ap (λ (z : Name). take i ps ++ z ∷ []) (sym e)) ∙ ap (λ (ys : List Word). is_among ys x) (map-append (λ (q : Name). q.word) (take i ps) (p ∷ []))
    ∙ list_any-append (λ v. bytes_eq v x) (params_of (take i ps)) (p.word ∷ []) ∙ ap (λ (b : Bool). is_among (params_of (take i ps)) x || b) (or-false (bytes_eq p.word x))))
  where
    or_first : (a b c : Bool) → ((a || b) || c) ≡ (a || (b || c))
    or_first true b c = refl
    or_first false b c = refl

pub params_first : (old : List Word) (x : Word) → is_among old x ≡ (is_among old x || false)
params_first old x = sym (or-false (is_among old x))

pub any_more : {X : Type 0} (f : X → Bool) (xs : List X) (i : ℕ) (x : X) (b c : Bool) → x ≡ get_or xs i x → i < length xs → b ≡ list_any f (take i xs) → c ≡ (b || f x) → c ≡ list_any f (take (i + 1) xs)
any_more {X = X} f xs i x b c e l h k =
    k ∙ (λ j. h j || sym (or-false (f x)) j) ∙ sym (list_any-append f (take i xs) (x ∷ [])) ∙ ap (list_any f) (sym (take_more xs i x l ∙ ap (λ (z : X). take i xs ++ z ∷ []) (sym e)))

-- one of a list is inside all
pub one_inside : {X : Type 0} (f : X → Bool) (xs : List X) (i : ℕ) (x : X) → x ≡ get_or xs i x → i < length xs → list_any f xs ≡ false → f x ≡ false
one_inside f [] i x e l h = absurd (omega (arith, l))
one_inside f (y ∷ ys) zero x e l h = ap f e ∙ (or_parts (f y) (list_any f ys) h).0
one_inside f (y ∷ ys) (suc i) x e l h = one_inside f ys i x e (omega (arith, l)) (or_parts (f y) (list_any f ys) h).1

-- ---- what is gathered

pub same_variables : (a : Around) (ms : List found.Summary) → a.name ≡ None → a.own.items ≡ [] → SameVariables (assigning (found_here ms)) (effects_around a ms)
same_variables a ms n o st f = sym (ap (λ (E : Effects). list_any f (E st).variables) (outside a ms n o) ∙ ap (list_any f) (plain_names ms st))

module _ (k : Known) (ms : List found.Summary) (b : Statements) where
  is_gathered : (empty r : Gathered) (f : Found) → empty.names.keys ≡ [] → empty.pairs.keys ≡ [] → Adds k empty r f.names f.pairs
      → FoundAlike f (found (found_here ms) false (Some []) b) → IsGathered k.params.keys r ms b
  is_gathered empty r f none no_pairs adds is = record {
    names = λ g. adds.names g ∙ ap (λ (xs : List Word). list_any g (xs ++ f.names)) none ∙ is.names g;
    pairs = λ h z. adds.pairs h z ∙ ap (λ (ps : List Pair). breaks h (map pair_of ps ++ f.pairs)) no_pairs ∙ is.pairs (is_broken (put_for h));
  }

  -- what came of nothing
  gathered_of : (empty r : Gathered) (m n : Option Gathered) (f : Found) → empty.names.keys ≡ [] → empty.pairs.keys ≡ [] → m ≡ Some empty → ((g : Gathered) → n ≡ Some g → r ≡ g)
      → AddsSome k m n f.names f.pairs → FoundAlike f (found (found_here ms) false (Some []) b) → IsGathered k.params.keys r ms b
  gathered_of empty r m n f none no_pairs before after adds is = by n after (subst (λ (o : Option Gathered). AddsSome k o n f.names f.pairs) before adds)
    where
      by : (o : Option Gathered) → ((g : Gathered) → o ≡ Some g → r ≡ g) → AddsSome k (Some empty) o f.names f.pairs → IsGathered k.params.keys r ms b
      by None g a = absurd a
      by (Some x) g a = subst (λ (z : Gathered). IsGathered k.params.keys z ms b) (sym (g x refl)) (is_gathered empty x f none no_pairs a is)

  -- whatever labels are missing
  pub taken_generally : (empty r : Gathered) (m n : Option Gathered) → empty.names.keys ≡ [] → empty.pairs.keys ≡ [] → m ≡ Some empty → ((g : Gathered) → n ≡ Some g → r ≡ g)
      → AddsSome k m n (gathered_generally (found_here ms) (Some []) b).names (gathered_generally (found_here ms) (Some []) b).pairs → IsGathered k.params.keys r ms b
  taken_generally empty r m n none no_pairs before after adds =
      gathered_of empty r m n (gathered_generally (found_here ms) (Some []) b) none no_pairs before after adds (general_is (found_here ms) b)

pub taken_gathered : (a : Around) (ms : List found.Summary) (empty r : Gathered) (m n : Met) (b : Statements) → a.name ≡ None → a.own.items ≡ [] → due_in false None b ≡ [] → empty.names.keys ≡ [] → empty.pairs.keys ≡ [] → m.found ≡ Some empty
    → ((g : Gathered) → n.found ≡ Some g → r ≡ g) → Gains a ms m n (straight_visits (assigning (found_here ms)) (Some []) b) → IsGathered a.known.params.keys r ms b
taken_gathered a ms empty r m n b name own due none no_pairs before after g =
    gathered_of a.known ms b empty r m.found n.found (gathered (found_here ms) (Some []) b) none no_pairs before after (g.found name own) (gathered_is (found_here ms) b due)

-- ---- one more

pub newest_first : {X Y : Type 0} (h : X → Y) (xs : List X) (i : ℕ) (x : X) → x ≡ get_or xs i x → i < length xs → reverse (map h (take (i + 1) xs)) ≡ h x ∷ reverse (map h (take i xs))
newest_first {X = X} h xs i x e l =
    ap (λ (ys : List X). reverse (map h ys)) (take_more xs i x l ∙ ap (λ (z : X). take i xs ++ z ∷ []) (sym e)) ∙ ap reverse (map-append h (take i xs) (x ∷ [])) ∙ reverse-append (map h (take i xs)) (h x ∷ [])
