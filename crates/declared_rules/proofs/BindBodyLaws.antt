-- What statements offend, one after another.
use Rattle.std.proofs.Common.{◌≡◌, ℕ, ◌+◌, ◌<◌, ◌≤◌, Bool, List, [], ◌∷◌, ◌++◌, length, take, drop, map, get_or, Vec, Global, codes, arith, refl, sym, ap, ◌∙◌, subst, append-nil, append_assoc}
use Rattle.std.specs.List.{flat_map}
use Rattle.std.proofs.lemmas.List.{drop_more, drop_all}
use Rattle.tla_token.specs.declared.rule.Refusal.{Refusal}
use Rattle.tla_tree.specs.Tree.{Word, Name, Tree, words}
use Rattle.tla_tree.specs.Pool.{at}
use Rattle.pcal_tree.specs.declared.mark.Mark.{Mark}
use Rattle.pcal_tree.specs.declared.algorithm.Span.{Span}
use Rattle.pcal_tree.specs.declared.algorithm.Assignment.{Assignment}
use Rattle.pcal_tree.specs.declared.algorithm.Bind.{Bind}
use Rattle.pcal_tree.specs.declared.algorithm.Bind.TheVariants as bind
use Rattle.pcal_tree.specs.declared.algorithm.Simple as declared_simple
use Rattle.pcal_tree.specs.declared.algorithm.Stmt.{Stmt}
use Rattle.pcal_tree.specs.declared.algorithm.Stmt.TheVariants.{Label, Simple, If, Either, With, While}
use Rattle.pcal_tree.specs.declared.algorithm.Declaration.{Declaration}
use Rattle.pcal_tree.specs.Algorithm.{branch, either, with, while, Statements, then, mark, Procedure}
use Rattle.pcal_tree.specs.BoundNames.{names_of_binds}
use Rattle.pcal_tree.specs.InMemory.{span_of, simple_at, assignments_at, binds_at, past_bind, Before, stmt_at, statements_at, branches_at, start_at, declarations_at}
use Rattle.pcal_tree.specs.Offences.{first}
use Rattle.pcal_tree.specs.OffencesRebind.{Standings, naming, rebound_all, brought, jump_rebinds, any_name, Calls, start_rebinds, starts_rebind, whole_rebinds, tree_rebinds, assignments_rebind, binds_rebind, one_rebinds, body_rebinds, branches_rebind}
use Rattle.pcal_tree.proofs.InMemoryEach.{label_at, simple_in_list_at, if_at, either_at, with_at, while_at}
use Rattle.algorithm_limits.specs.DepthsIn.{Hides}
use Rattle.algorithm_limits.proofs.BoundLemmas.{hides_none, hides_then, hides_as}
use Rattle.declared_rules.specs.declared.sight.Sight.{Sight}
use Rattle.declared_rules.specs.declared.bind_walk.Walk.{Walk}
use Rattle.declared_rules.specs.Telling.{told, Adds, AddsNaming}
use Rattle.declared_rules.specs.Parts.{bind_name}
use Rattle.declared_rules.specs.Bodies.{bind_number, AddsBind, AddsBinds, AddsStmt}
use Rattle.declared_rules.proofs.ScopeLaws.{around_hides}
use Rattle.declared_rules.proofs.TellLaws.{first_then, adds_none, adds_as, adds_then, adds_within}

-- ---- first values

pub each_start : (ts : List Tree) (ms : List Word) (K : Word → Bool) (r : Standings) (ds : List Declaration) → flat_map (λ d. start_rebinds ms K (start_at ts d.start) r) ds ≡ starts_rebind ms K (declarations_at ts ds) r
each_start ts ms K r [] = refl
each_start ts ms K r (d ∷ ds) = ap (λ (rs : List Refusal). start_rebinds ms K (start_at ts d.start) r ++ rs) (each_start ts ms K r ds)

-- ---- assignments

abbrev pub assigned : List Tree → Assignment → List Word → Standings → List Refusal
assigned ts a ms r = whole_rebinds ms (at ts a.left) r ++ whole_rebinds ms (at ts a.right) r

pub each_assigned : (ts : List Tree) (ms : List Word) (r : Standings) (others : List Assignment) → flat_map (λ a. assigned ts a ms r) others ≡ assignments_rebind ms (assignments_at ts others) r
each_assigned ts ms r [] = refl
each_assigned ts ms r (a ∷ others) =
    append_assoc (whole_rebinds ms (at ts a.left) r) (whole_rebinds ms (at ts a.right) r) (flat_map (λ a. assigned ts a ms r) others)
    ∙ ap (λ (rs : List Refusal). whole_rebinds ms (at ts a.left) r ++ (whole_rebinds ms (at ts a.right) r ++ rs)) (each_assigned ts ms r others)

-- ---- what a `with` names

pub bind_names_are : (ts : List Tree) (bs : List Bind) → map bind_name bs ≡ names_of_binds (binds_at ts bs)
bind_names_are ts [] = refl
bind_names_are ts (bind.Among x e ∷ bs) = ap (λ (ns : List Name). x ∷ ns) (bind_names_are ts bs)
bind_names_are ts (bind.Is x e ∷ bs) = ap (λ (ns : List Name). x ∷ ns) (bind_names_are ts bs)

bind_first : (ts : List Tree) (ms : List Word) (b : Bind) (bs : List Bind) (r : Standings) → binds_rebind ms (binds_at ts (b ∷ bs)) r ≡ whole_rebinds ms (at ts (bind_number b)) r ++ binds_rebind ms (binds_at ts bs) (naming ((bind_name b).word ∷ []) r)
bind_first ts ms (bind.Among x e) bs r = refl
bind_first ts ms (bind.Is x e) bs r = refl

pub past_number : (b : Bind) → bind_number b < past_bind b
past_number (bind.Among x e) = omega arith
past_number (bind.Is x e) = omega arith

pub bind_adds : (g : Sight) (K : Word → Bool) (j k l : Walk) (x : Word) (f : List Word → Standings → List Refusal) → Adds g K j k f → l.first ≡ k.first → l.free ≡ k.free → Hides k.bound l.bound (x ∷ []) → AddsNaming g K j l (x ∷ []) f
bind_adds g K j k l x f a same free h = record {
  hides = subst (λ (b : List Word). Hides b l.bound (x ∷ [])) a.bound h;
  tells = λ ms s r q. (λ i. first (told ms (record { bound = l.bound; first = same i; free = free i }) s)) ∙ a.tells ms s r q;
}

pub bind_then : (g : Sight) (ts : List Tree) (j k l : Walk) (b : Bind) (bs : List Bind) → AddsBind g ts b j k → AddsBinds g ts bs k l → AddsBinds g ts (b ∷ bs) j l
bind_then g ts j k l b bs a h = record {
  hides = hides_as j.bound l.bound ((bind_name b).word ∷ words (names_of_binds (binds_at ts bs))) _ (names b bs)
      (hides_then j.bound k.bound l.bound ((bind_name b).word ∷ []) (words (names_of_binds (binds_at ts bs))) a.hides h.hides);
  tells = λ ms s r q.
      let x = (bind_name b).word in
      let inner = naming (x ∷ []) r in
      first_then (told ms k s) (told ms j s) (whole_rebinds ms (at ts (bind_number b)) r) (binds_rebind ms (binds_at ts bs) inner) (told ms l s) (a.tells ms s r q)
      (h.tells ms s inner (record { modules = q.modules; lets = q.lets; around = around_hides j.bound k.bound (x ∷ []) s r a.hides q.around }))
      ∙ ap (λ (rs : List Refusal). first (told ms j s ++ rs)) (sym (bind_first ts ms b bs r));
}
  where
    names : (b : Bind) (bs : List Bind) → (bind_name b).word ∷ words (names_of_binds (binds_at ts bs)) ≡ words (names_of_binds (binds_at ts (b ∷ bs)))
    names (bind.Among x e) bs = refl
    names (bind.Is x e) bs = refl

pub binds_step : (g : Sight) (ts : List Tree) (j k l : Walk) (bs : List Bind) (i : ℕ) (b : Bind) → b ≡ get_or bs i b → i < length bs → AddsBind g ts b j k → AddsBinds g ts (drop (i + 1) bs) k l → AddsBinds g ts (drop i bs) j l
binds_step g ts j k l bs i b e less a h =
    subst (λ (cs : List Bind). AddsBinds g ts cs j l) (ap (λ (z : Bind). z ∷ drop (i + 1) bs) e ∙ sym (drop_more bs i b less)) (bind_then g ts j k l b (drop (i + 1) bs) a h)

pub binds_done : (g : Sight) (ts : List Tree) (k : Walk) (bs : List Bind) (i : ℕ) → length bs ≤ i → AddsBinds g ts (drop i bs) k k
binds_done g ts k bs i less =
    subst (λ (cs : List Bind). AddsBinds g ts cs k k) (sym (drop_all i bs less)) (record { hides = hides_none k.bound; tells = λ ms s r q. ap first (sym (append-nil (told ms k s))) })

-- ---- each kind of statement

module _ (g : Sight) (C : List Word → Calls) (ps : List Procedure) (ts : List Tree) where
  standing : (j k : Walk) (s : Stmt) (f : Before) (these : List Word → Standings → List Refusal) → stmt_at ts s ≡ f
      → ((rest : Statements) (ms : List Word) (r : Standings) → body_rebinds ms ps (C ms) (f rest) r ≡ these ms r ++ body_rebinds ms ps (C ms) rest r) → Adds g any_name j k these → AddsStmt g C ps ts s j k
  standing j k s f these e a h = record { these = these; ahead = λ rest ms r. ap (λ (f : Before). body_rebinds ms ps (C ms) (f rest) r) e ∙ a rest ms r; adds = h }

  pub label_adds : (j : Walk) (x : Name) (m : Mark) → AddsStmt g C ps ts (Label x m) j j
  label_adds j x m = standing j j (Label x m) (mark x m) (λ ms r. []) (label_at ts x m) (λ rest ms r. refl) (adds_none g any_name j)

  pub simple_adds : (j k : Walk) (s : Span) (x : declared_simple.Simple) → Adds g any_name j k (λ ms r. one_rebinds ms ps (C ms) (simple_at ts x) r) → AddsStmt g C ps ts (Simple s x) j k
  simple_adds j k s x a = standing j k (Simple s x) (then (span_of s) (simple_at ts x)) (λ ms r. one_rebinds ms ps (C ms) (simple_at ts x) r) (simple_in_list_at ts s x) (λ rest ms r. refl) a

  pub if_adds : (i j k l : Walk) (s : Span) (e : ℕ) (a b : Vec Stmt Global) → Adds g any_name i j (λ ms r. tree_rebinds ms any_name (at ts e) r) → Adds g any_name j k (λ ms r. body_rebinds ms ps (C ms) (statements_at ts a.items) r)
      → Adds g any_name k l (λ ms r. body_rebinds ms ps (C ms) (statements_at ts b.items) r) → AddsStmt g C ps ts (If s e a b) i l
  if_adds i j k l s e a b u v w =
      standing i l (If s e a b) (then (span_of s) (branch (at ts e) (statements_at ts a.items) (statements_at ts b.items))) (λ ms r. one_rebinds ms ps (C ms) (branch (at ts e) (statements_at ts a.items) (statements_at ts b.items)) r) (if_at ts s e a b) (λ rest ms r. refl)
      (adds_then g any_name i j l (λ ms r. whole_rebinds ms (at ts e) r) (λ ms r. body_rebinds ms ps (C ms) (statements_at ts a.items) r ++ body_rebinds ms ps (C ms) (statements_at ts b.items) r) u
      (adds_then g any_name j k l (λ ms r. body_rebinds ms ps (C ms) (statements_at ts a.items) r) (λ ms r. body_rebinds ms ps (C ms) (statements_at ts b.items) r) v w))

  pub either_adds : (j k : Walk) (s : Span) (bs : Vec (Vec Stmt Global) Global) → Adds g any_name j k (λ ms r. branches_rebind ms ps (C ms) (branches_at ts bs.items) r) → AddsStmt g C ps ts (Either s bs) j k
  either_adds j k s bs a = standing j k (Either s bs) (then (span_of s) (either (branches_at ts bs.items))) (λ ms r. branches_rebind ms ps (C ms) (branches_at ts bs.items) r) (either_at ts s bs) (λ rest ms r. refl) a

  pub while_adds : (j k l : Walk) (s : Span) (e : ℕ) (b : Vec Stmt Global) → Adds g any_name j k (λ ms r. tree_rebinds ms any_name (at ts e) r) → Adds g any_name k l (λ ms r. body_rebinds ms ps (C ms) (statements_at ts b.items) r)
      → AddsStmt g C ps ts (While s e b) j l
  while_adds j k l s e b u v =
      standing j l (While s e b) (then (span_of s) (while (at ts e) (statements_at ts b.items))) (λ ms r. one_rebinds ms ps (C ms) (while (at ts e) (statements_at ts b.items)) r) (while_at ts s e b) (λ rest ms r. refl)
      (adds_then g any_name j k l (λ ms r. whole_rebinds ms (at ts e) r) (λ ms r. body_rebinds ms ps (C ms) (statements_at ts b.items) r) u v)

  pub with_adds : (i j k l m : Walk) (s : Span) (bs : Vec Bind Global) (b : Vec Stmt Global) → Adds g any_name i j (λ ms r. rebound_all ms r (map bind_name bs.items)) → AddsBinds g ts bs.items j k
      → Adds g any_name k l (λ ms r. body_rebinds ms ps (C ms) (statements_at ts b.items) r) → m.first ≡ l.first → m.free ≡ l.free → m.bound ≡ take (length j.bound) l.bound → AddsStmt g C ps ts (With s bs b) i m
  with_adds i j k l m s bs b u v w same free cut =
      standing i m (With s bs b) (then (span_of s) (with (binds_at ts bs.items) (statements_at ts b.items))) (λ ms r. one_rebinds ms ps (C ms) (with (binds_at ts bs.items) (statements_at ts b.items)) r) (with_at ts s bs b) (λ rest ms r. refl)
      (adds_then g any_name i j m (λ ms r. rebound_all ms r ns) (λ ms r. binds_rebind ms (binds_at ts bs.items) r ++ body_rebinds ms ps (C ms) (statements_at ts b.items) (naming (words ns) r))
      (adds_as g any_name i j _ _ (λ ms r. ap (rebound_all ms r) (bind_names_are ts bs.items)) u)
      (adds_within g any_name j k l m (words ns) (λ ms r. binds_rebind ms (binds_at ts bs.items) r) (λ ms r. body_rebinds ms ps (C ms) (statements_at ts b.items) r) v w same free cut))
    where
      ns : List Name
      ns = names_of_binds (binds_at ts bs.items)

  -- ---- lists: what is left of one still gives the whole

  pub body_then : (j k l : Walk) (ss : List Stmt) (i : ℕ) (s : Stmt) → s ≡ get_or ss i s → i < length ss → AddsStmt g C ps ts s j k → Adds g any_name k l (λ ms r. body_rebinds ms ps (C ms) (statements_at ts (drop (i + 1) ss)) r)
      → Adds g any_name j l (λ ms r. body_rebinds ms ps (C ms) (statements_at ts (drop i ss)) r)
  body_then j k l ss i s e less n h =
      adds_as g any_name j l _ _ (λ ms r. sym (n.ahead (statements_at ts (drop (i + 1) ss)) ms r) ∙ ap (λ (ys : List Stmt). body_rebinds ms ps (C ms) (statements_at ts ys) r) (ap (λ (y : Stmt). y ∷ drop (i + 1) ss) e ∙ sym (drop_more ss i s less)))
      (adds_then g any_name j k l n.these (λ ms r. body_rebinds ms ps (C ms) (statements_at ts (drop (i + 1) ss)) r) n.adds h)

  pub body_done : (k : Walk) (ss : List Stmt) (i : ℕ) → length ss ≤ i → Adds g any_name k k (λ ms r. body_rebinds ms ps (C ms) (statements_at ts (drop i ss)) r)
  body_done k ss i less = adds_as g any_name k k _ _ (λ ms r. ap (λ (ys : List Stmt). body_rebinds ms ps (C ms) (statements_at ts ys) r) (sym (drop_all i ss less))) (adds_none g any_name k)

  pub each_branch : (ms : List Word) (r : Standings) (bs : List (Vec Stmt Global)) → flat_map (λ b. body_rebinds ms ps (C ms) (statements_at ts b.items) r) bs ≡ branches_rebind ms ps (C ms) (branches_at ts bs) r
  each_branch ms r [] = refl
  each_branch ms r (b ∷ bs) = ap (λ (rs : List Refusal). body_rebinds ms ps (C ms) (statements_at ts b.items) r ++ rs) (each_branch ms r bs)

-- ---- jumps and calls

pub jump_adds : (g : Sight) (j k : Walk) (x : Word) → x ≡ codes "self" → Adds g any_name j k (λ ms r. rebound_all ms r (brought r x)) → Adds g any_name j k (λ ms r. jump_rebinds ms r)
jump_adds g j k x e a = adds_as g any_name j k _ _ (λ ms r. ap (λ (w : Word). rebound_all ms r (brought r w)) e) a
