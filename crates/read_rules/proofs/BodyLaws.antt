-- Names that are met in statements, one after another.
use Rattle.std.proofs.Common.{◌≡◌, ℕ, ◌+◌, ◌<◌, ◌≤◌, List, [], ◌∷◌, ◌++◌, length, take, drop, map, get_or, Bool, Vec, Global, ◌⊎◌, ⊎_elim, refl, sym, ap, ◌∙◌, subst, append-nil, append_assoc}
use Rattle.std.proofs.lemmas.List.{drop_more, drop_all, take_more, take_all, map-append}
use Rattle.tla_tree.specs.Tree.{Word, Tree, words}
use Rattle.tla_tree.specs.Pool.{at, trees_at}
use Rattle.pcal_tree.specs.declared.mark.Mark.{Mark}
use Rattle.pcal_tree.specs.declared.algorithm.Span.{Span}
use Rattle.pcal_tree.specs.declared.algorithm.Assignment.{Assignment}
use Rattle.pcal_tree.specs.declared.algorithm.Bind.{Bind}
use Rattle.pcal_tree.specs.declared.algorithm.Bind.TheVariants as bind
use Rattle.pcal_tree.specs.declared.algorithm.Simple as declared_simple
use Rattle.pcal_tree.specs.declared.algorithm.Stmt.{Stmt}
use Rattle.pcal_tree.specs.declared.algorithm.Stmt.TheVariants.{Label, Simple, If, Either, With, While}
use Rattle.pcal_tree.specs.Algorithm.{Name, branch, either, with, while, Statements, then, mark}
use Rattle.pcal_tree.specs.BoundNames.{names_of_binds}
use Rattle.pcal_tree.specs.InMemory.{span_of, simple_at, assignments_at, binds_at, Before, stmt_at, statements_at, branches_at}
use Rattle.pcal_tree.specs.Reads.{used, used_by_all, used_by_assignments, used_by_binds}
use Rattle.pcal_tree.proofs.InMemoryEach.{label_at, simple_in_list_at, if_at, either_at, with_at, while_at}
use Rattle.algorithm_limits.specs.DepthsIn.{Hides}
use Rattle.algorithm_limits.proofs.BoundLemmas.{hides_none, hides_then, hides_as, first_kept}
use Rattle.read_rules.specs.BodyNames.{names_in_one, names_in, names_in_some}
use Rattle.module_outside.specs.SightIn.{Binds}
use Rattle.module_outside.proofs.SightLaws.{binds_more}
use Rattle.read_rules.specs.declared.used.Used.{Used}
use Rattle.read_rules.specs.Using.{kept, Adds}
use Rattle.read_rules.specs.UsingBodies.{bind_word, bind_number, AddsBind, AddsBinds, AddsStmt}
use Rattle.read_rules.specs.Order.{behind}
use Rattle.read_rules.proofs.OrderLaws.{behind_last, behind_among}
use Rattle.read_rules.proofs.UsedLaws.{kept_none, kept_both}

-- ---- names one after another

pub adds_none : (u : Used) → Adds u u (λ xs. [])
adds_none u = record {
  only = refl;
  bound = refl;
  meets = λ xs b. sym (append-nil u.names.items) ∙ ap (λ (ns : List Name). u.names.items ++ ns) (sym (kept_none u.only_self));
}

pub adds_as : (j k : Used) (f g : List Word → List Name) → ((xs : List Word) → f xs ≡ g xs) → Adds j k f → Adds j k g
adds_as j k f g e a = record { only = a.only; bound = a.bound; meets = λ xs b. a.meets xs b ∙ ap (λ (ns : List Name). j.names.items ++ kept j.only_self ns) (e xs) }

pub adds_then : (j k l : Used) (f g : List Word → List Name) → Adds j k f → Adds k l g → Adds j l (λ xs. f xs ++ g xs)
adds_then j k l f g a h = record {
  only = h.only ∙ a.only;
  bound = h.bound ∙ a.bound;
  meets = λ xs b.
      h.meets xs (subst (λ (hs : List Word). Binds hs xs) (sym a.bound) b)
      ∙ (λ i. a.meets xs b i ++ kept (a.only i) (g xs))
      ∙ append_assoc j.names.items (kept j.only_self (f xs)) (kept j.only_self (g xs))
      ∙ ap (λ (ns : List Name). j.names.items ++ ns) (sym (kept_both j.only_self (f xs) (g xs)));
}

-- ---- expressions and assignments: what is left still gives the whole

pub trees_then : (ts : List Tree) (j k l : Used) (es : List ℕ) (i e : ℕ) → e ≡ get_or es i e → i < length es → Adds j k (used (at ts e)) → Adds k l (used_by_all (trees_at ts (drop (i + 1) es))) → Adds j l (used_by_all (trees_at ts (drop i es)))
trees_then ts j k l es i e is less a h =
    adds_as j l _ _ (λ xs. ap (λ (js : List ℕ). used_by_all (trees_at ts js) xs) (ap (λ (z : ℕ). z ∷ drop (i + 1) es) is ∙ sym (drop_more es i e less))) (adds_then j k l (used (at ts e)) (used_by_all (trees_at ts (drop (i + 1) es))) a h)

pub trees_done : (ts : List Tree) (k : Used) (es : List ℕ) (i : ℕ) → length es ≤ i → Adds k k (used_by_all (trees_at ts (drop i es)))
trees_done ts k es i less = adds_as k k _ _ (λ xs. ap (λ (js : List ℕ). used_by_all (trees_at ts js) xs) (sym (drop_all i es less))) (adds_none k)

pub assigned_then : (ts : List Tree) (j k l m : Used) (ms : List Assignment) (i : ℕ) (a : Assignment) → a ≡ get_or ms i a → i < length ms → Adds j k (used (at ts a.left)) → Adds k l (used (at ts a.right))
    → Adds l m (used_by_assignments (assignments_at ts (drop (i + 1) ms))) → Adds j m (used_by_assignments (assignments_at ts (drop i ms)))
assigned_then ts j k l m ms i a is less left right h =
    adds_as j m _ _ (λ xs. ap (λ (ns : List Assignment). used_by_assignments (assignments_at ts ns) xs) (ap (λ (z : Assignment). z ∷ drop (i + 1) ms) is ∙ sym (drop_more ms i a less)))
    (adds_then j k m (used (at ts a.left)) (λ xs. used (at ts a.right) xs ++ used_by_assignments (assignments_at ts (drop (i + 1) ms)) xs) left
    (adds_then k l m (used (at ts a.right)) (used_by_assignments (assignments_at ts (drop (i + 1) ms))) right h))

pub assigned_done : (ts : List Tree) (k : Used) (ms : List Assignment) (i : ℕ) → length ms ≤ i → Adds k k (used_by_assignments (assignments_at ts (drop i ms)))
assigned_done ts k ms i less = adds_as k k _ _ (λ xs. ap (λ (ns : List Assignment). used_by_assignments (assignments_at ts ns) xs) (sym (drop_all i ms less))) (adds_none k)

-- ---- what a `with` names

-- one that a `with` names, in either form
pub bind_adds : (ts : List Tree) (b : Bind) (x : Name) (e : ℕ) (old mid new : Used) → (b ≡ bind.Among x e) ⊎ (b ≡ bind.Is x e) → Adds old mid (used (at ts e)) → new.only_self ≡ mid.only_self
    → new.names.items ≡ mid.names.items → Hides mid.bound new.bound (x.word ∷ []) → AddsBind ts b old new
bind_adds ts b x e old mid new is a own same h =
    ⊎_elim (λ (i : b ≡ bind.Among x e). subst (λ (z : Bind). AddsBind ts z old new) (sym i) (by (bind.Among x e) refl refl))
    (λ (i : b ≡ bind.Is x e). subst (λ (z : Bind). AddsBind ts z old new) (sym i) (by (bind.Is x e) refl refl)) is
  where
    by : (z : Bind) → bind_word z ≡ x.word → bind_number z ≡ e → AddsBind ts z old new
    by z w n = record {
      only = own ∙ a.only;
      hides = subst (λ (y : Word). Hides old.bound new.bound (y ∷ [])) (sym w) (subst (λ (ws : List Word). Hides ws new.bound (x.word ∷ [])) a.bound h);
      meets = λ xs k. same ∙ a.meets xs k ∙ ap (λ (i : ℕ). old.names.items ++ kept old.only_self (used (at ts i) xs)) (sym n);
    }

abbrev bind_words : List Bind → List Word
bind_words bs = map bind_word bs

words_bound : (ts : List Tree) (bs : List Bind) → words (names_of_binds (binds_at ts bs)) ≡ bind_words bs
words_bound ts [] = refl
words_bound ts (bind.Among x e ∷ bs) = ap (λ (ws : List Word). x.word ∷ ws) (words_bound ts bs)
words_bound ts (bind.Is x e ∷ bs) = ap (λ (ws : List Word). x.word ∷ ws) (words_bound ts bs)

bind_first : (ts : List Tree) (b : Bind) (bs : List Bind) (xs : List Word) → used_by_binds (binds_at ts (b ∷ bs)) xs ≡ used (at ts (bind_number b)) xs ++ used_by_binds (binds_at ts bs) (bind_word b ∷ xs)
bind_first ts (bind.Among x e) bs xs = refl
bind_first ts (bind.Is x e) bs xs = refl

words_more : (bs : List Bind) (i : ℕ) (b : Bind) → b ≡ get_or bs i b → i < length bs → bind_words (take i bs) ++ bind_word b ∷ [] ≡ bind_words (take (i + 1) bs)
words_more bs i b e l = sym (ap bind_words (take_more bs i b l) ∙ map-append bind_word (take i bs) (get_or bs i b ∷ []) ∙ ap (λ (z : Bind). bind_words (take i bs) ++ bind_word z ∷ []) (sym e))

-- in the loop
pub record MetBinds (ts : List Tree) (bs : List Bind) (old now : Used) (i : ℕ) : Type 0 where
  pub only : now.only_self ≡ old.only_self
  pub hides : Hides old.bound now.bound (bind_words (take i bs))
  pub meets : (xs : List Word) → Binds old.bound xs
      → now.names.items ++ kept old.only_self (used_by_binds (binds_at ts (drop i bs)) (behind (bind_words (take i bs)) xs)) ≡ old.names.items ++ kept old.only_self (used_by_binds (binds_at ts bs) xs)

pub binds_start : (ts : List Tree) (bs : List Bind) (u : Used) → MetBinds ts bs u u 0
binds_start ts bs u = record { only = refl; hides = hides_none u.bound; meets = λ xs b. refl }

pub binds_step : (ts : List Tree) (bs : List Bind) (old now next : Used) (i : ℕ) (b : Bind) → b ≡ get_or bs i b → i < length bs → AddsBind ts b now next → MetBinds ts bs old now i → MetBinds ts bs old next (i + 1)
binds_step ts bs old now next i b e l a m = record {
  only = a.only ∙ m.only;
  hides = hides_as old.bound next.bound _ _ (words_more bs i b e l) (hides_then old.bound now.bound next.bound (bind_words (take i bs)) (bind_word b ∷ []) m.hides a.hides);
  meets = λ xs h.
      let o = old.only_self in
      let ws = bind_words (take i bs) in
      let more = binds_at ts (drop (i + 1) bs) in
      let here = used (at ts (bind_number b)) (behind ws xs) in
      let there = used_by_binds more (bind_word b ∷ behind ws xs) in
      (λ j. a.meets (behind ws xs) (λ y. binds_more old.bound now.bound ws xs h m.hides y ∙ sym (behind_among ws xs y)) j
      ++ kept o (used_by_binds more ((ap (λ (vs : List Word). behind vs xs) (sym (words_more bs i b e l)) ∙ behind_last ws (bind_word b) xs) j)))
      ∙ ap (λ (only : Bool). (now.names.items ++ kept only here) ++ kept o there) m.only
      ∙ append_assoc now.names.items (kept o here) (kept o there)
      ∙ ap (λ (ns : List Name). now.names.items ++ ns)
      (sym (kept_both o here there)
      ∙ ap (kept o)
      (sym (bind_first ts b (drop (i + 1) bs) (behind ws xs)) ∙ ap (λ (cs : List Bind). used_by_binds (binds_at ts cs) (behind ws xs)) (ap (λ (z : Bind). z ∷ drop (i + 1) bs) e ∙ sym (drop_more bs i b l))))
      ∙ m.meets xs h;
}

pub binds_done : (ts : List Tree) (bs : List Bind) (old now : Used) (i : ℕ) → length bs ≤ i → MetBinds ts bs old now i → AddsBinds ts bs old now
binds_done ts bs old now i l m = record {
  only = m.only;
  hides = hides_as old.bound now.bound _ _ (ap bind_words (take_all i bs l) ∙ sym (words_bound ts bs)) m.hides;
  meets = λ xs b.
      sym (append-nil now.names.items)
      ∙ ap (λ (ns : List Name). now.names.items ++ ns)
      (sym (kept_none old.only_self) ∙ ap (λ (cs : List Bind). kept old.only_self (used_by_binds (binds_at ts cs) (behind (bind_words (take i bs)) xs))) (sym (drop_all i bs l)))
      ∙ m.meets xs b;
}

-- ---- each kind of statement

standing : (ts : List Tree) (j k : Used) (s : Stmt) (f : Before) (these : List Word → List Name) → stmt_at ts s ≡ f → ((rest : Statements) (xs : List Word) → names_in (f rest) xs ≡ these xs ++ names_in rest xs) → Adds j k these
    → AddsStmt ts s j k
standing ts j k s f these e a g = record { these = these; ahead = λ rest xs. ap (λ (f : Before). names_in (f rest) xs) e ∙ a rest xs; adds = g }

pub label_adds : (ts : List Tree) (j : Used) (x : Name) (m : Mark) → AddsStmt ts (Label x m) j j
label_adds ts j x m = standing ts j j (Label x m) (mark x m) (λ xs. []) (label_at ts x m) (λ rest xs. refl) (adds_none j)

pub simple_adds : (ts : List Tree) (j k : Used) (s : Span) (x : declared_simple.Simple) → Adds j k (names_in_one (simple_at ts x)) → AddsStmt ts (Simple s x) j k
simple_adds ts j k s x g = standing ts j k (Simple s x) (then (span_of s) (simple_at ts x)) (names_in_one (simple_at ts x)) (simple_in_list_at ts s x) (λ rest xs. refl) g

pub if_adds : (ts : List Tree) (i j k l : Used) (s : Span) (e : ℕ) (a b : Vec Stmt Global) → Adds i j (used (at ts e)) → Adds j k (names_in (statements_at ts a.items)) → Adds k l (names_in (statements_at ts b.items)) → AddsStmt ts (If s e a b) i l
if_adds ts i j k l s e a b g h m =
    standing ts i l (If s e a b) (then (span_of s) (branch (at ts e) (statements_at ts a.items) (statements_at ts b.items))) (names_in_one (branch (at ts e) (statements_at ts a.items) (statements_at ts b.items))) (if_at ts s e a b) (λ rest xs. refl)
    (adds_then i j l (used (at ts e)) (λ xs. names_in (statements_at ts a.items) xs ++ names_in (statements_at ts b.items) xs) g (adds_then j k l (names_in (statements_at ts a.items)) (names_in (statements_at ts b.items)) h m))

pub either_adds : (ts : List Tree) (j k : Used) (s : Span) (bs : Vec (Vec Stmt Global) Global) → Adds j k (names_in_some (branches_at ts bs.items)) → AddsStmt ts (Either s bs) j k
either_adds ts j k s bs g = standing ts j k (Either s bs) (then (span_of s) (either (branches_at ts bs.items))) (names_in_some (branches_at ts bs.items)) (either_at ts s bs) (λ rest xs. refl) g

pub while_adds : (ts : List Tree) (j k l : Used) (s : Span) (e : ℕ) (b : Vec Stmt Global) → Adds j k (used (at ts e)) → Adds k l (names_in (statements_at ts b.items)) → AddsStmt ts (While s e b) j l
while_adds ts j k l s e b g h =
    standing ts j l (While s e b) (then (span_of s) (while (at ts e) (statements_at ts b.items))) (names_in_one (while (at ts e) (statements_at ts b.items))) (while_at ts s e b) (λ rest xs. refl)
    (adds_then j k l (used (at ts e)) (names_in (statements_at ts b.items)) g h)

pub with_adds : (ts : List Tree) (j k l m : Used) (s : Span) (bs : Vec Bind Global) (b : Vec Stmt Global) → AddsBinds ts bs.items j k → Adds k l (names_in (statements_at ts b.items)) → m.only_self ≡ l.only_self
    → m.names.items ≡ l.names.items → m.bound ≡ take (length j.bound) l.bound → AddsStmt ts (With s bs b) j m
with_adds ts j k l m s bs b g h own same cut =
    standing ts j m (With s bs b) (then (span_of s) (with (binds_at ts bs.items) (statements_at ts b.items))) (names_in_one (with (binds_at ts bs.items) (statements_at ts b.items))) (with_at ts s bs b) (λ rest xs. refl)
    (record {
      only = own ∙ h.only ∙ g.only;
      bound = cut ∙ ap (take (length j.bound)) h.bound ∙ first_kept j.bound k.bound ws g.hides;
      meets = λ xs n.
          let o = j.only_self in
          let named = used_by_binds (binds_at ts bs.items) xs in
          let inside = names_in (statements_at ts b.items) (ws ++ xs) in
          same ∙ h.meets (ws ++ xs) (binds_more j.bound k.bound ws xs n g.hides)
          ∙ (λ i. g.meets xs n i ++ kept (g.only i) inside)
          ∙ append_assoc j.names.items (kept o named) (kept o inside)
          ∙ ap (λ (ns : List Name). j.names.items ++ ns) (sym (kept_both o named inside));
    })
  where
    ws : List Word
    ws = words (names_of_binds (binds_at ts bs.items))

-- ---- lists: what is left of one still gives the whole

pub body_then : (ts : List Tree) (j k l : Used) (ss : List Stmt) (i : ℕ) (s : Stmt) → s ≡ get_or ss i s → i < length ss → AddsStmt ts s j k → Adds k l (names_in (statements_at ts (drop (i + 1) ss))) → Adds j l (names_in (statements_at ts (drop i ss)))
body_then ts j k l ss i s e less n g =
    adds_as j l _ _ (λ xs. sym (n.ahead (statements_at ts (drop (i + 1) ss)) xs) ∙ ap (λ (ys : List Stmt). names_in (statements_at ts ys) xs) (ap (λ (y : Stmt). y ∷ drop (i + 1) ss) e ∙ sym (drop_more ss i s less)))
    (adds_then j k l n.these (names_in (statements_at ts (drop (i + 1) ss))) n.adds g)

pub body_done : (ts : List Tree) (k : Used) (ss : List Stmt) (i : ℕ) → length ss ≤ i → Adds k k (names_in (statements_at ts (drop i ss)))
body_done ts k ss i less = adds_as k k _ _ (λ xs. ap (λ (ys : List Stmt). names_in (statements_at ts ys) xs) (sym (drop_all i ss less))) (adds_none k)

pub branches_then : (ts : List Tree) (j k l : Used) (bs : List (Vec Stmt Global)) (i : ℕ) (b : Vec Stmt Global) → b ≡ get_or bs i b → i < length bs → Adds j k (names_in (statements_at ts b.items)) → Adds k l (names_in_some (branches_at ts (drop (i + 1) bs)))
    → Adds j l (names_in_some (branches_at ts (drop i bs)))
branches_then ts j k l bs i b e less n g =
    adds_as j l _ _ (λ xs. ap (λ (ys : List (Vec Stmt Global)). names_in_some (branches_at ts ys) xs) (ap (λ (y : Vec Stmt Global). y ∷ drop (i + 1) bs) e ∙ sym (drop_more bs i b less)))
    (adds_then j k l (names_in (statements_at ts b.items)) (names_in_some (branches_at ts (drop (i + 1) bs))) n g)

pub branches_over : (ts : List Tree) (k : Used) (bs : List (Vec Stmt Global)) (i : ℕ) → length bs ≤ i → Adds k k (names_in_some (branches_at ts (drop i bs)))
branches_over ts k bs i less = adds_as k k _ _ (λ xs. ap (λ (ys : List (Vec Stmt Global)). names_in_some (branches_at ts ys) xs) (sym (drop_all i bs less))) (adds_none k)
