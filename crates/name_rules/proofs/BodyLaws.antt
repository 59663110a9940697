-- What is found in statements, one after another.
use Rattle.std.proofs.Common.{◌≡◌, ℕ, ◌+◌, ◌<◌, ◌≤◌, List, [], ◌∷◌, ◌++◌, length, take, drop, get_or, Option, Vec, Global, refl, sym, ap, ◌∙◌, subst, append-nil, append_assoc, arith}
use Rattle.std.proofs.lemmas.List.{drop_more, drop_all}
use Rattle.std.proofs.Math.Seq.{take-append_seam}
use Rattle.tla_token.specs.declared.rule.Refusal.{Refusal}
use Rattle.tla_tree.specs.Tree.{Word, Tree}
use Rattle.tla_tree.specs.Pool.{at}
use Rattle.pcal_tree.specs.declared.mark.Mark.{Mark}
use Rattle.pcal_tree.specs.declared.algorithm.Span.{Span}
use Rattle.pcal_tree.specs.declared.algorithm.Assignment.{Assignment}
use Rattle.pcal_tree.specs.declared.algorithm.Bind.{Bind}
use Rattle.pcal_tree.specs.declared.algorithm.Bind.TheVariants as bind
use Rattle.pcal_tree.specs.declared.algorithm.Simple as declared_simple
use Rattle.pcal_tree.specs.declared.algorithm.Stmt.{Stmt}
use Rattle.pcal_tree.specs.declared.algorithm.Stmt.TheVariants.{Label, Simple, If, Either, With, While}
use Rattle.pcal_tree.specs.Algorithm.{Name, Binds, no_binds, one_of, is, branch, either, with, while, Statements, then, mark, Procedure}
use Rattle.pcal_tree.specs.InMemory.{span_of, simple_at, assignments_at, bind_at, binds_at, past_bind, Before, stmt_at, statements_at, branches_at}
use Rattle.pcal_tree.specs.Offences.{first}
use Rattle.pcal_tree.specs.NameUses.{Sight, seeing_plain}
use Rattle.pcal_tree.specs.OffencesNames.{Calls, in_whole, in_left, in_assignments, in_binds, after_binds, in_one, in_body, in_branches}
use Rattle.pcal_tree.proofs.InMemoryEach.{label_at, simple_in_list_at, if_at, either_at, with_at, while_at}
use Rattle.algorithm_answer.specs.Joined.{joined}
use Rattle.algorithm_answer.proofs.Joins.{joined_assoc, joined_none, first_append}
use Rattle.algorithm_limits.specs.DepthsIn.{Hides}
use Rattle.name_rules.specs.declared.found.Found.{Found}
use Rattle.declared_rules.specs.UsesTold.{told_by, Inside}
use Rattle.name_rules.specs.Finding.{told, Tells}
use Rattle.declared_rules.specs.Parts.{bind_name}
use Rattle.declared_rules.specs.Bodies.{bind_number}
use Rattle.name_rules.specs.Walking.{Behind, TellsBinds, TellsStmt}
use Rattle.name_rules.proofs.TellLaws.{tells_none, tells_as, tells_then, inside_more}

-- ---- assignments: what is left still gives the whole

pub assigned_then : (ts : List Tree) (j k l m : Found) (ms : List Assignment) (i : ℕ) (a : Assignment) → a ≡ get_or ms i a → i < length ms → Tells j k (in_left (at ts a.left)) → Tells k l (in_whole (at ts a.right))
    → Tells l m (in_assignments (assignments_at ts (drop (i + 1) ms))) → Tells j m (in_assignments (assignments_at ts (drop i ms)))
assigned_then ts j k l m ms i a e less left right h =
    tells_as j m _ _ (λ r. ap (λ (ns : List Assignment). in_assignments (assignments_at ts ns) r) (ap (λ (z : Assignment). z ∷ drop (i + 1) ms) e ∙ sym (drop_more ms i a less)))
    (tells_then j k m (in_left (at ts a.left)) (λ r. in_whole (at ts a.right) r ++ in_assignments (assignments_at ts (drop (i + 1) ms)) r) left
    (tells_then k l m (in_whole (at ts a.right)) (in_assignments (assignments_at ts (drop (i + 1) ms))) right h))

pub assigned_done : (ts : List Tree) (k : Found) (ms : List Assignment) (i : ℕ) → length ms ≤ i → Tells k k (in_assignments (assignments_at ts (drop i ms)))
assigned_done ts k ms i less = tells_as k k _ _ (λ r. ap (λ (ns : List Assignment). in_assignments (assignments_at ts ns) r) (sym (drop_all i ms less))) (tells_none k)

-- ---- what a `with` names

module _ (j k l : Found) (t : Tree) (x : Name) (a : Tells j k (in_whole t)) (p : l.first ≡ k.first) (q : l.free.keys ≡ k.free.keys) (h : Hides k.bound l.bound (x.word ∷ [])) where
  named_behind : Behind j.bound l.bound
  named_behind = record { more = h.more; kept = h.behind ∙ ap (λ (hs : List Word). hs ++ h.more) a.bound }

  named_inside : (s r : Sight) → Inside j.bound s r → Inside l.bound s (seeing_plain (x.word ∷ []) r)
  named_inside s r i = inside_more k.bound l.bound (x.word ∷ []) s r (subst (λ (hs : List Word). Inside hs s r) (sym a.bound) i) h

  named_tells : (s r : Sight) → Inside j.bound s r → told l s ≡ joined (told j s) (first (in_whole t r ++ []))
  named_tells s r i = (λ z. told_by (p z) (q z) s) ∙ a.tells s r i ∙ ap (λ (rs : List Refusal). joined (told j s) (first rs)) (sym (append-nil (in_whole t r)))

  pub one_named : TellsBinds (one_of x t no_binds) j l
  one_named = record { behind = named_behind; inside = named_inside; tells = named_tells }

  pub is_named : TellsBinds (is x t no_binds) j l
  is_named = record { behind = named_behind; inside = named_inside; tells = named_tells }

pub past_number : (b : Bind) → bind_number b < past_bind b
past_number (bind.Among x e) = omega arith
past_number (bind.Is x e) = omega arith

pub bind_named : (ts : List Tree) (b : Bind) (j k l : Found) → Tells j k (in_whole (at ts (bind_number b))) → l.first ≡ k.first → l.free.keys ≡ k.free.keys → Hides k.bound l.bound ((bind_name b).word ∷ []) → TellsBinds (bind_at ts b no_binds) j l
bind_named ts (bind.Among x e) j k l a p q h = one_named j k l (at ts e) x a p q h
bind_named ts (bind.Is x e) j k l a p q h = is_named j k l (at ts e) x a p q h

behind_then : (a b c : List Word) → Behind a b → Behind b c → Behind a c
behind_then a b c p q = record { more = p.more ++ q.more; kept = q.kept ∙ ap (λ (hs : List Word). hs ++ q.more) p.kept ∙ append_assoc a p.more q.more }

chained : (a b c : Option Refusal) (xs ys : List Refusal) → b ≡ joined a (first (xs ++ [])) → c ≡ joined b (first ys) → c ≡ joined a (first (xs ++ ys))
chained a b c xs ys e h =
    h ∙ ap (λ (o : Option Refusal). joined o (first ys)) (e ∙ ap (λ (zs : List Refusal). joined a (first zs)) (append-nil xs))
    ∙ joined_assoc a (first xs) (first ys) ∙ ap (joined a) (sym (first_append xs ys))

bind_then : (ts : List Tree) (b : Bind) (bs : Binds) (j k l : Found) → TellsBinds (bind_at ts b no_binds) j k → TellsBinds bs k l → TellsBinds (bind_at ts b bs) j l
bind_then ts (bind.Among x e) bs j k l a h = record {
  behind = behind_then j.bound k.bound l.bound a.behind h.behind;
  inside = λ s r i. h.inside s (seeing_plain (x.word ∷ []) r) (a.inside s r i);
  tells = λ s r i. chained (told j s) (told k s) (told l s) (in_whole (at ts e) r) (in_binds bs (seeing_plain (x.word ∷ []) r)) (a.tells s r i) (h.tells s (seeing_plain (x.word ∷ []) r) (a.inside s r i));
}
bind_then ts (bind.Is x e) bs j k l a h = record {
  behind = behind_then j.bound k.bound l.bound a.behind h.behind;
  inside = λ s r i. h.inside s (seeing_plain (x.word ∷ []) r) (a.inside s r i);
  tells = λ s r i. chained (told j s) (told k s) (told l s) (in_whole (at ts e) r) (in_binds bs (seeing_plain (x.word ∷ []) r)) (a.tells s r i) (h.tells s (seeing_plain (x.word ∷ []) r) (a.inside s r i));
}

binds_as : (j k : Found) (bs cs : Binds) → bs ≡ cs → TellsBinds bs j k → TellsBinds cs j k
binds_as j k bs cs e h = subst (λ (z : Binds). TellsBinds z j k) e h

pub binds_then : (ts : List Tree) (j k l : Found) (bs : List Bind) (i : ℕ) (b : Bind) → b ≡ get_or bs i b → i < length bs → TellsBinds (bind_at ts b no_binds) j k → TellsBinds (binds_at ts (drop (i + 1) bs)) k l
    → TellsBinds (binds_at ts (drop i bs)) j l
binds_then ts j k l bs i b e less a h =
    binds_as j l _ _ (ap (binds_at ts) (ap (λ (z : Bind). z ∷ drop (i + 1) bs) e ∙ sym (drop_more bs i b less))) (bind_then ts b (binds_at ts (drop (i + 1) bs)) j k l a h)

pub binds_done : (ts : List Tree) (k : Found) (bs : List Bind) (i : ℕ) → length bs ≤ i → TellsBinds (binds_at ts (drop i bs)) k k
binds_done ts k bs i less =
    binds_as k k no_binds _ (ap (binds_at ts) (sym (drop_all i bs less))) (record {
      behind = record { more = []; kept = sym (append-nil k.bound) };
      inside = λ s r h. h;
      tells = λ s r h. sym (joined_none (told k s));
    })

-- ---- each kind of statement

module _ (C : Calls) (ps : List Procedure) (ts : List Tree) where
  standing : (j k : Found) (s : Stmt) (f : Before) (these : Sight → List Refusal) → stmt_at ts s ≡ f → ((rest : Statements) (r : Sight) → in_body C ps (f rest) r ≡ these r ++ in_body C ps rest r) → Tells j k these
      → TellsStmt C ps ts s j k
  standing j k s f these e a g = record { these = these; ahead = λ rest r. ap (λ (f : Before). in_body C ps (f rest) r) e ∙ a rest r; tells = g }

  pub label_tells : (j : Found) (x : Name) (m : Mark) → TellsStmt C ps ts (Label x m) j j
  label_tells j x m = standing j j (Label x m) (mark x m) (λ r. []) (label_at ts x m) (λ rest r. refl) (tells_none j)

  pub simple_tells : (j k : Found) (s : Span) (x : declared_simple.Simple) → Tells j k (in_one C ps s.first (simple_at ts x)) → TellsStmt C ps ts (Simple s x) j k
  simple_tells j k s x g = standing j k (Simple s x) (then (span_of s) (simple_at ts x)) (in_one C ps s.first (simple_at ts x)) (simple_in_list_at ts s x) (λ rest r. refl) g

  pub if_tells : (i j k l : Found) (s : Span) (e : ℕ) (a b : Vec Stmt Global) → Tells i j (in_whole (at ts e)) → Tells j k (in_body C ps (statements_at ts a.items)) → Tells k l (in_body C ps (statements_at ts b.items)) → TellsStmt C ps ts (If s e a b) i l
  if_tells i j k l s e a b g h m =
      standing i l (If s e a b) (then (span_of s) (branch (at ts e) (statements_at ts a.items) (statements_at ts b.items))) (in_one C ps s.first (branch (at ts e) (statements_at ts a.items) (statements_at ts b.items))) (if_at ts s e a b) (λ rest r. refl)
      (tells_then i j l (in_whole (at ts e)) (λ r. in_body C ps (statements_at ts a.items) r ++ in_body C ps (statements_at ts b.items) r) g (tells_then j k l (in_body C ps (statements_at ts a.items)) (in_body C ps (statements_at ts b.items)) h m))

  pub either_tells : (j k : Found) (s : Span) (bs : Vec (Vec Stmt Global) Global) → Tells j k (in_branches C ps (branches_at ts bs.items)) → TellsStmt C ps ts (Either s bs) j k
  either_tells j k s bs g = standing j k (Either s bs) (then (span_of s) (either (branches_at ts bs.items))) (in_branches C ps (branches_at ts bs.items)) (either_at ts s bs) (λ rest r. refl) g

  pub while_tells : (j k l : Found) (s : Span) (e : ℕ) (b : Vec Stmt Global) → Tells j k (in_whole (at ts e)) → Tells k l (in_body C ps (statements_at ts b.items)) → TellsStmt C ps ts (While s e b) j l
  while_tells j k l s e b g h =
      standing j l (While s e b) (then (span_of s) (while (at ts e) (statements_at ts b.items))) (in_one C ps s.first (while (at ts e) (statements_at ts b.items))) (while_at ts s e b) (λ rest r. refl)
      (tells_then j k l (in_whole (at ts e)) (in_body C ps (statements_at ts b.items)) g h)

  within : (j k l m : Found) (bs : Binds) (b : Statements) → TellsBinds bs j k → Tells k l (in_body C ps b) → m.first ≡ l.first → m.free.keys ≡ l.free.keys → m.bound ≡ take (length j.bound) l.bound
      → Tells j m (λ r. in_binds bs r ++ in_body C ps b (after_binds bs r))
  within j k l m bs b g h p q cut = record {
    bound = cut ∙ ap (take (length j.bound)) (h.bound ∙ g.behind.kept) ∙ take-append_seam j.bound g.behind.more;
    tells = λ s r i.
        let inner = in_body C ps b (after_binds bs r) in
        (λ z. told_by (p z) (q z) s) ∙ h.tells s (after_binds bs r) (g.inside s r i)
        ∙ ap (λ (o : Option Refusal). joined o (first inner)) (g.tells s r i)
        ∙ joined_assoc (told j s) (first (in_binds bs r)) (first inner) ∙ ap (joined (told j s)) (sym (first_append (in_binds bs r) inner));
  }

  pub with_tells : (j k l m : Found) (s : Span) (bs : Vec Bind Global) (b : Vec Stmt Global) → TellsBinds (binds_at ts bs.items) j k → Tells k l (in_body C ps (statements_at ts b.items)) → m.first ≡ l.first → m.free.keys ≡ l.free.keys
      → m.bound ≡ take (length j.bound) l.bound → TellsStmt C ps ts (With s bs b) j m
  with_tells j k l m s bs b g h p q cut =
      standing j m (With s bs b) (then (span_of s) (with (binds_at ts bs.items) (statements_at ts b.items))) (in_one C ps s.first (with (binds_at ts bs.items) (statements_at ts b.items))) (with_at ts s bs b) (λ rest r. refl)
      (within j k l m (binds_at ts bs.items) (statements_at ts b.items) g h p q cut)

  -- ---- lists: what is left of one still gives the whole

  pub body_then : (j k l : Found) (ss : List Stmt) (i : ℕ) (s : Stmt) → s ≡ get_or ss i s → i < length ss → TellsStmt C ps ts s j k → Tells k l (in_body C ps (statements_at ts (drop (i + 1) ss))) → Tells j l (in_body C ps (statements_at ts (drop i ss)))
  body_then j k l ss i s e less n g =
      tells_as j l _ _ (λ r. sym (n.ahead (statements_at ts (drop (i + 1) ss)) r) ∙ ap (λ (ys : List Stmt). in_body C ps (statements_at ts ys) r) (ap (λ (y : Stmt). y ∷ drop (i + 1) ss) e ∙ sym (drop_more ss i s less)))
      (tells_then j k l n.these (in_body C ps (statements_at ts (drop (i + 1) ss))) n.tells g)

  pub body_done : (k : Found) (ss : List Stmt) (i : ℕ) → length ss ≤ i → Tells k k (in_body C ps (statements_at ts (drop i ss)))
  body_done k ss i less = tells_as k k _ _ (λ r. ap (λ (ys : List Stmt). in_body C ps (statements_at ts ys) r) (sym (drop_all i ss less))) (tells_none k)

  pub branches_then : (j k l : Found) (bs : List (Vec Stmt Global)) (i : ℕ) (b : Vec Stmt Global) → b ≡ get_or bs i b → i < length bs → Tells j k (in_body C ps (statements_at ts b.items)) → Tells k l (in_branches C ps (branches_at ts (drop (i + 1) bs)))
      → Tells j l (in_branches C ps (branches_at ts (drop i bs)))
  branches_then j k l bs i b e less n g =
      tells_as j l _ _ (λ r. ap (λ (ys : List (Vec Stmt Global)). in_branches C ps (branches_at ts ys) r) (ap (λ (y : Vec Stmt Global). y ∷ drop (i + 1) bs) e ∙ sym (drop_more bs i b less)))
      (tells_then j k l (in_body C ps (statements_at ts b.items)) (in_branches C ps (branches_at ts (drop (i + 1) bs))) n g)

  pub branches_over : (k : Found) (bs : List (Vec Stmt Global)) (i : ℕ) → length bs ≤ i → Tells k k (in_branches C ps (branches_at ts (drop i bs)))
  branches_over k bs i less = tells_as k k _ _ (λ r. ap (λ (ys : List (Vec Stmt Global)). in_branches C ps (branches_at ts ys) r) (sym (drop_all i bs less))) (tells_none k)
