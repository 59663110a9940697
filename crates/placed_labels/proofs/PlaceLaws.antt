-- Labels that are put before statements one after another.
use Rattle.std.proofs.Common.{◌≡◌, ℕ, ◌+◌, ◌<◌, ◌≤◌, Bool, true, false, List, [], ◌∷◌, ◌++◌, length, map, take, get_or, Option, Some, None, Vec, Global, refl, sym, ap, ◌∙◌, subst, append-nil, arith}
use Rattle.std.proofs.lemmas.List.{take_more, take_all, map-append}
use Rattle.tla_token.specs.declared.place.Place.{Place}
use Rattle.tla_tree.specs.Tree.{Name, Tree}
use Rattle.tla_tree.specs.Nesting.{greatest}
use Rattle.pcal_tree.specs.declared.mark.Mark.{Mark}
use Rattle.pcal_tree.specs.declared.algorithm.Stmt.{Stmt}
use Rattle.pcal_tree.specs.declared.algorithm.Span as code_span
use Rattle.pcal_tree.specs.declared.algorithm.Bind.{Bind}
use Rattle.pcal_tree.specs.declared.algorithm.Simple as declared_simple
use Rattle.pcal_tree.specs.declared.algorithm.Simple.TheVariants as simple
use Rattle.pcal_tree.specs.declared.algorithm.Stmt.TheVariants.{Label, Simple, If, Either, With, While}
use Rattle.tla_tree.specs.Pool.{at as expr_at}
use Rattle.pcal_tree.specs.InMemory as at
use Rattle.pcal_tree.specs.Algorithm.{Span, Statement, skip, branch, either, with, while, Statements, done, then, mark, Branches, no_branches, or}
use Rattle.pcal_tree.specs.InMemory.{Before, statements_from, branches_from, simple_at, binds_at, stmt_at, statements_at, branches_at, past_stmt, past_statements, past_branches}
use Rattle.pcal_tree.specs.Labelled.{labelled_if}
use Rattle.pcal_tree.proofs.InMemoryEach.{label_at, simple_in_list_at, if_at, either_at, with_at, while_at, past_if, past_either, past_while, past_one_more}
use Rattle.placed_labels.specs.declared.place.Plan as code
use Rattle.placed_labels.specs.Placed.{Plan, is_wanted, passed, past_inside, past, past_some, placed_inside, placed, placed_some}
use Rattle.placed_labels.specs.InMemory.{IsPlan, with_label, past_label, IsLabel, IsPlaceOf, IsPut, PutsInside, onto, PutsLabel, PutsAll, PutsBranches}

-- ---- a label and a statement are two things

abbrev is_mark : Statements → Bool
is_mark (mark x m rest) = true
is_mark _ = false

abbrev span_of : Statements → Span
span_of (then s st rest) = s
span_of _ = record { first = record { line = 0; col = 0 }; last = record { line = 0; col = 0 } }

abbrev statement_of : Statements → Statement
statement_of (then s st rest) = st
statement_of _ = skip

pub apart : (x : Name) (m : Mark) (s : Span) (st : Statement) → (mark x m) ≡ (then s st) → ⊥
apart x m s st e = let h : true ≡ false = ap (λ (f : Before). is_mark (f done)) e in cc

same_span : (s r : Span) (st su : Statement) → (then s st) ≡ (then r su) → s ≡ r
same_span s r st su e = ap (λ (f : Before). span_of (f done)) e

pub same_statement : (s r : Span) (st su : Statement) → (then s st) ≡ (then r su) → st ≡ su
same_statement s r st su e = ap (λ (f : Before). statement_of (f done)) e

-- ---- a statement with labels inside it

label_inside : (k : Plan) (new : code.Plan) (f : Before) (x : Name) (m : Mark) → f ≡ mark x m → IsPlan new k → IsPut k new f f
label_inside k new f x m e p = record { label = λ y n h. (h, p); statement = λ s st h. absurd (apart x m s st (sym e ∙ h)) }

inside_put : (k : Plan) (new : code.Plan) (f g : Before) (s : Span) (st su : Statement) → f ≡ then s st → g ≡ then s su → su ≡ placed_inside k st → IsPlan new (past_inside k st) → IsPut k new f g
inside_put k new f g s st su e h q p = record {
  label = λ y n j. absurd (apart y n s st (sym j ∙ e));
  statement = λ r sv j.
      let c = sym e ∙ j in
      (h ∙ (λ i. then (same_span s r st sv c i) ((q ∙ ap (placed_inside k) (same_statement s r st sv c)) i)), subst (λ (z : Statement). IsPlan new (past_inside k z)) (same_statement s r st sv c) p);
}

pub in_label : (old : code.Plan) (s : Stmt) (x : Name) (m : Mark) → s ≡ Label x m → PutsInside old old s (Label x m)
in_label old s x m e ts k p =
    subst (λ (z : Stmt). IsPut k old (stmt_at ts z) (stmt_at ts (Label x m))) (sym e) (label_inside k old (stmt_at ts (Label x m)) x m (label_at ts x m) p)

simple_inside : (ts : List Tree) (k : Plan) (x : declared_simple.Simple) → (simple_at ts x ≡ placed_inside k (simple_at ts x)) × (k ≡ past_inside k (simple_at ts x))
simple_inside ts k (simple.Assign ms) = (refl, refl)
simple_inside ts k (simple.Await e) = (refl, refl)
simple_inside ts k (simple.Print e) = (refl, refl)
simple_inside ts k (simple.Assert e) = (refl, refl)
simple_inside ts k simple.Skip = (refl, refl)
simple_inside ts k (simple.Goto x) = (refl, refl)
simple_inside ts k (simple.Macro x es) = (refl, refl)
simple_inside ts k (simple.Call x es) = (refl, refl)
simple_inside ts k simple.Return = (refl, refl)

pub in_simple : (old : code.Plan) (s : Stmt) (sp : code_span.Span) (x : declared_simple.Simple) → s ≡ Simple sp x → PutsInside old old s (Simple sp x)
in_simple old s sp x e ts k p =
    let h = simple_inside ts k x in
    subst (λ (z : Stmt). IsPut k old (stmt_at ts z) (stmt_at ts (Simple sp x))) (sym e)
    (inside_put k old _ _ (at.span_of sp) (simple_at ts x) (simple_at ts x) (simple_in_list_at ts sp x) (simple_in_list_at ts sp x) h.0 (subst (IsPlan old) h.1 p))

pub in_with : (old : code.Plan) (s : Stmt) (sp : code_span.Span) (bs : Vec Bind Global) (b : Vec Stmt Global) → s ≡ With sp bs b → PutsInside old old s (With sp bs b)
in_with old s sp bs b e ts k p =
    let st = with (binds_at ts bs.items) (statements_at ts b.items) in
    subst (λ (z : Stmt). IsPut k old (stmt_at ts z) (stmt_at ts (With sp bs b))) (sym e) (inside_put k old _ _ (at.span_of sp) st st (with_at ts sp bs b) (with_at ts sp bs b) refl p)

pub in_if : (old mid new : code.Plan) (s : Stmt) (sp : code_span.Span) (e : ℕ) (a b c d : Vec Stmt Global) → s ≡ If sp e a b → PutsAll old mid a.items c.items → PutsAll mid new b.items d.items
    → PutsInside old new s (If sp e c d)
in_if old mid new s sp e a b c d is h l ts k p =
    let q = h ts k p in
    let r = l ts (past k (statements_at ts a.items)) q.1 in
    subst (λ (z : Stmt). IsPut k new (stmt_at ts z) (stmt_at ts (If sp e c d))) (sym is)
    (inside_put k new _ _ (at.span_of sp) (branch (expr_at ts e) (statements_at ts a.items) (statements_at ts b.items)) (branch (expr_at ts e) (statements_at ts c.items) (statements_at ts d.items))
    (if_at ts sp e a b) (if_at ts sp e c d) (λ i. branch (expr_at ts e) (q.0 i) (r.0 i)) r.1)

pub in_either : (old new : code.Plan) (s : Stmt) (sp : code_span.Span) (bs cs : Vec (Vec Stmt Global) Global) → s ≡ Either sp bs → PutsBranches old new bs.items cs.items → PutsInside old new s (Either sp cs)
in_either old new s sp bs cs is h ts k p =
    let q = h ts k p in
    subst (λ (z : Stmt). IsPut k new (stmt_at ts z) (stmt_at ts (Either sp cs))) (sym is)
    (inside_put k new _ _ (at.span_of sp) (either (branches_at ts bs.items)) (either (branches_at ts cs.items)) (either_at ts sp bs) (either_at ts sp cs) (ap either q.0) q.1)

pub in_while : (old new : code.Plan) (s : Stmt) (sp : code_span.Span) (e : ℕ) (a c : Vec Stmt Global) → s ≡ While sp e a → PutsAll old new a.items c.items → PutsInside old new s (While sp e c)
in_while old new s sp e a c is h ts k p =
    let q = h ts k p in
    subst (λ (z : Stmt). IsPut k new (stmt_at ts z) (stmt_at ts (While sp e c))) (sym is)
    (inside_put k new _ _ (at.span_of sp) (while (expr_at ts e) (statements_at ts a.items)) (while (expr_at ts e) (statements_at ts c.items)) (while_at ts sp e a) (while_at ts sp e c) (ap (while (expr_at ts e)) q.0) q.1)

-- past which numbers they are
pub if_numbers : (s : Stmt) (sp : code_span.Span) (e : ℕ) (a b c d : Vec Stmt Global) → s ≡ If sp e a b → past_statements c.items ≤ past_statements a.items → past_statements d.items ≤ past_statements b.items
    → past_stmt (If sp e c d) ≤ past_stmt s
if_numbers s sp e a b c d is m n = let h = ap past_stmt is ∙ past_if sp e a b in let l = past_if sp e c d in omega (arith, h, l, m, n)

pub either_numbers : (s : Stmt) (sp : code_span.Span) (bs cs : Vec (Vec Stmt Global) Global) → s ≡ Either sp bs → past_branches cs.items ≤ past_branches bs.items → past_stmt (Either sp cs) ≤ past_stmt s
either_numbers s sp bs cs is m = let h = ap past_stmt is ∙ past_either sp bs in let l = past_either sp cs in omega (arith, h, l, m)

pub while_numbers : (s : Stmt) (sp : code_span.Span) (e : ℕ) (a c : Vec Stmt Global) → s ≡ While sp e a → past_statements c.items ≤ past_statements a.items → past_stmt (While sp e c) ≤ past_stmt s
while_numbers s sp e a c is m = let h = ap past_stmt is ∙ past_while sp e a in let l = past_while sp e c in omega (arith, h, l, m)

-- ---- the label of a statement

pub no_label : (old : code.Plan) (s : Stmt) (before : List Stmt) (at : Option Place) → ((ts : List Tree) → IsPlaceOf at (stmt_at ts s)) → at ≡ None → PutsLabel old old s before before
no_label old s before at h e = record {
  more = [];
  kept = sym (append-nil before);
  numbers = omega arith;
  at = at;
  place = h;
  label = λ ts x m f. (refl, refl);
  statement = λ ts k p sp st f.
      let g = subst (λ (o : Option Place). IsPlaceOf o (stmt_at ts s)) e (h ts) in
      absurd (apart g.0 g.1 sp st (sym g.2 ∙ f));
}

abbrev listed : Option Stmt → List Stmt
listed None = []
listed (Some s) = s ∷ []

listed_is : (ts : List Tree) (o : Option Stmt) (rest : Statements) → onto (map (stmt_at ts) (listed o)) rest ≡ with_label ts o rest
listed_is ts None rest = refl
listed_is ts (Some s) rest = refl

some_label : (old new : code.Plan) (s : Stmt) (before after : List Stmt) (o : Option Place) (at : Place) (l : Option Stmt)
    → ((ts : List Tree) → IsPlaceOf o (stmt_at ts s)) → o ≡ Some at → ((k : Plan) → IsPlan old k → IsLabel l k at) → ((k : Plan) → IsPlan old k → IsPlan new (passed k))
    → after ≡ before ++ listed l → past_statements after ≤ past_statements before → PutsLabel old new s before after
some_label old new s before after o at l h e w p a n = record {
  more = listed l;
  kept = a;
  numbers = n;
  at = o;
  place = h;
  label = λ ts x m f.
      let g = subst (λ (o : Option Place). IsPlaceOf o (stmt_at ts s)) e (h ts) in
      absurd (apart x m g.0 g.1 (sym f ∙ g.2));
  statement = λ ts k q sp st f.
      let g = subst (λ (o : Option Place). IsPlaceOf o (stmt_at ts s)) e (h ts) in (
        λ rest. listed_is ts l rest ∙ w k q ts rest ∙ ap (λ (z : Place). labelled_if (is_wanted k) k.names z rest) (g.3 ∙ ap (λ (z : Span). z.first) (same_span g.0 sp g.1 st (sym g.2 ∙ f))),
        p k q,
      );
}

pub one_label : (old new : code.Plan) (s : Stmt) (before after : List Stmt) (o : Option Place) (at : Place) (l : Option Stmt) (x : Stmt)
    → ((ts : List Tree) → IsPlaceOf o (stmt_at ts s)) → o ≡ Some at → ((k : Plan) → IsPlan old k → IsLabel l k at) → ((k : Plan) → IsPlan old k → IsPlan new (passed k))
    → l ≡ Some x → past_label l ≡ 0 → after ≡ before ++ x ∷ [] → PutsLabel old new s before after
one_label old new s before after o at l x h e w p is n a =
    some_label old new s before after o at (Some x) h e (λ k q. subst (λ (z : Option Stmt). IsLabel z k at) is (w k q)) p a
    (let b = ap past_statements a ∙ past_one_more past_stmt before x in let c = sym (ap past_label is) ∙ n in omega (arith, b, c))

pub missing_label : (old new : code.Plan) (s : Stmt) (before : List Stmt) (o : Option Place) (at : Place) (l : Option Stmt)
    → ((ts : List Tree) → IsPlaceOf o (stmt_at ts s)) → o ≡ Some at → ((k : Plan) → IsPlan old k → IsLabel l k at) → ((k : Plan) → IsPlan old k → IsPlan new (passed k))
    → l ≡ None → PutsLabel old new s before before
missing_label old new s before o at l h e w p is =
    some_label old new s before before o at None h e (λ k q. subst (λ (z : Option Stmt). IsLabel z k at) is (w k q)) p (sym (append-nil before)) (omega arith)

-- ---- lists

onto_append : (fs gs : List Before) (rest : Statements) → onto (fs ++ gs) rest ≡ onto fs (onto gs rest)
onto_append [] gs rest = refl
onto_append (f ∷ fs) gs rest = ap f (onto_append fs gs rest)

onto_done : (fs : List Before) → onto fs done ≡ statements_from fs
onto_done [] = refl
onto_done (f ∷ fs) = ap f (onto_done fs)

abbrev Onto : List Tree → List Stmt → Statements → Statements
Onto ts ss rest = onto (map (stmt_at ts) ss) rest

onto_both : (ts : List Tree) (ss rs : List Stmt) (rest : Statements) → Onto ts (ss ++ rs) rest ≡ Onto ts ss (Onto ts rs rest)
onto_both ts ss rs rest = ap (λ (fs : List Before). onto fs rest) (map-append (stmt_at ts) ss rs) ∙ onto_append (map (stmt_at ts) ss) (map (stmt_at ts) rs) rest

-- in memory the plan is what these leave of it, and these statements are those
pub record ArePut (ts : List Tree) (k : Plan) (new : code.Plan) (ss rs : List Stmt) : Type 0 where
  pub left : Plan
  pub plan : IsPlan new left
  pub placed : (rest : Statements) → placed k (Onto ts ss rest) ≡ Onto ts rs (placed left rest)
  pub past : (rest : Statements) → past k (Onto ts ss rest) ≡ past left rest

pub record PutsSome (old new : code.Plan) (ss rs : List Stmt) : Type 0 where
  pub put : (ts : List Tree) (k : Plan) → IsPlan old k → ArePut ts k new ss rs
  pub numbers : past_statements rs ≤ past_statements ss

pub none_put : (old : code.Plan) → PutsSome old old [] []
none_put old = record {
  put = λ ts k p. record { left = k; plan = p; placed = λ rest. refl; past = λ rest. refl };
  numbers = omega arith;
}

-- one more, where it is a label and where it is none
label_put : (ts : List Tree) (k : Plan) (mid now new : code.Plan) (ss rs ns : List Stmt) (s r : Stmt) → ArePut ts k mid ss rs → PutsLabel mid now s rs ns → PutsInside now new s r
    → (x : Name) (m : Mark) → stmt_at ts s ≡ mark x m → ArePut ts k new (ss ++ s ∷ []) (ns ++ r ∷ [])
label_put ts k mid now new ss rs ns s r h l i x m e =
    let g = l.label ts x m e in
    let q = (i ts h.left (subst (λ (z : code.Plan). IsPlan z h.left) (sym g.1) h.plan)).label x m e in
    record {
      left = h.left;
      plan = q.1;
      placed = λ rest.
          ap (placed k) (onto_both ts ss (s ∷ []) rest) ∙ h.placed (stmt_at ts s rest) ∙ ap (λ (f : Before). Onto ts rs (placed h.left (f rest))) e
          ∙ ap (λ (f : Before). Onto ts rs (f (placed h.left rest))) (sym q.0)
          ∙ sym (onto_both ts rs (r ∷ []) (placed h.left rest))
          ∙ ap (λ (zs : List Stmt). Onto ts (zs ++ r ∷ []) (placed h.left rest)) (sym (l.kept ∙ ap (λ (zs : List Stmt). rs ++ zs) g.0 ∙ append-nil rs));
      past = λ rest. ap (past k) (onto_both ts ss (s ∷ []) rest) ∙ h.past (stmt_at ts s rest) ∙ ap (λ (f : Before). past h.left (f rest)) e;
    }

statement_put : (ts : List Tree) (k : Plan) (mid now new : code.Plan) (ss rs ns : List Stmt) (s r : Stmt) → ArePut ts k mid ss rs → PutsLabel mid now s rs ns → PutsInside now new s r
    → (sp : Span) (st : Statement) → stmt_at ts s ≡ then sp st → ArePut ts k new (ss ++ s ∷ []) (ns ++ r ∷ [])
statement_put ts k mid now new ss rs ns s r h l i sp st e =
    let g = l.statement ts h.left h.plan sp st e in
    let q = (i ts (passed h.left) g.1).statement sp st e in
    let left = past_inside (passed h.left) st in
    record {
      left = left;
      plan = q.1;
      placed = λ rest.
          ap (placed k) (onto_both ts ss (s ∷ []) rest) ∙ h.placed (stmt_at ts s rest) ∙ ap (λ (f : Before). Onto ts rs (placed h.left (f rest))) e
          ∙ ap (Onto ts rs) (sym (g.0 (then sp (placed_inside (passed h.left) st) (placed left rest))) ∙ ap (λ (f : Before). Onto ts l.more (f (placed left rest))) (sym q.0))
          ∙ sym (onto_both ts rs l.more (stmt_at ts r (placed left rest)))
          ∙ ap (λ (zs : List Stmt). Onto ts zs (stmt_at ts r (placed left rest))) (sym l.kept)
          ∙ sym (onto_both ts ns (r ∷ []) (placed left rest));
      past = λ rest. ap (past k) (onto_both ts ss (s ∷ []) rest) ∙ h.past (stmt_at ts s rest) ∙ ap (λ (f : Before). past h.left (f rest)) e;
    }

one_put : (old mid now new : code.Plan) (ss rs ns : List Stmt) (s r : Stmt) → PutsSome old mid ss rs → PutsLabel mid now s rs ns → PutsInside now new s r → past_stmt r ≤ past_stmt s
    → PutsSome old new (ss ++ s ∷ []) (ns ++ r ∷ [])
one_put old mid now new ss rs ns s r h l i n = record {
  put = λ ts k p. by ts k (h.put ts k p) l.at (l.place ts);
  numbers =
      let a = past_one_more past_stmt ss s in
      let b = past_one_more past_stmt ns r in
      let c = l.numbers in
      let d = h.numbers in
      omega (arith, n, a, b, c, d);
}
  where
    by : (ts : List Tree) (k : Plan) → ArePut ts k mid ss rs → (o : Option Place) → IsPlaceOf o (stmt_at ts s) → ArePut ts k new (ss ++ s ∷ []) (ns ++ r ∷ [])
    by ts k a None g = label_put ts k mid now new ss rs ns s r a l i g.0 g.1 g.2
    by ts k a (Some at) g = statement_put ts k mid now new ss rs ns s r a l i g.0 g.1 g.2

pub next_put : (old mid now new : code.Plan) (all rs ns : List Stmt) (n m : ℕ) (s r : Stmt) → m ≡ n + 1 → (n < length all) × (s ≡ get_or all n s) → PutsSome old mid (take n all) rs → PutsLabel mid now s rs ns
    → PutsInside now new s r → past_stmt r ≤ past_stmt s → (out : List Stmt) → out ≡ ns ++ r ∷ [] → PutsSome old new (take m all) out
next_put old mid now new all rs ns n m s r w t h l i q out o =
    subst (λ (ys : List Stmt). PutsSome old new (take m all) ys) (sym o) (subst (λ (zs : List Stmt). PutsSome old new zs (ns ++ r ∷ [])) (sym (ap (λ (j : ℕ). take j all) w ∙ take_more all n s t.0 ∙ ap (λ (z : Stmt). take n all ++ z ∷ []) (sym t.1))) (one_put old mid now new (take n all) rs ns s r h l i q))

pub all_put : (old new : code.Plan) (all rs : List Stmt) (n : ℕ) → length all ≤ n → PutsSome old new (take n all) rs → PutsAll old new all rs
all_put old new all rs n l h ts k p =
    let a = (subst (λ (zs : List Stmt). PutsSome old new zs rs) (take_all n all l) h).put ts k p in (
      sym (ap (placed k) (sym (onto_done (map (stmt_at ts) all))) ∙ a.placed done ∙ onto_done (map (stmt_at ts) rs)),
      subst (IsPlan new) (sym (ap (past k) (sym (onto_done (map (stmt_at ts) all))) ∙ a.past done)) a.plan,
    )

pub all_numbers : (old new : code.Plan) (all rs : List Stmt) (n : ℕ) → length all ≤ n → PutsSome old new (take n all) rs → past_statements rs ≤ past_statements all
all_numbers old new all rs n l h = (subst (λ (zs : List Stmt). PutsSome old new zs rs) (take_all n all l) h).numbers

-- ---- branches

abbrev or_onto : List Statements → Branches → Branches
or_onto [] rest = rest
or_onto (b ∷ bs) rest = or b (or_onto bs rest)

or_append : (fs gs : List Statements) (rest : Branches) → or_onto (fs ++ gs) rest ≡ or_onto fs (or_onto gs rest)
or_append [] gs rest = refl
or_append (f ∷ fs) gs rest = ap (or f) (or_append fs gs rest)

or_done : (fs : List Statements) → or_onto fs no_branches ≡ branches_from fs
or_done [] = refl
or_done (f ∷ fs) = ap (or f) (or_done fs)

abbrev List_at : List Tree → Vec Stmt Global → Statements
List_at ts b = statements_at ts b.items

abbrev Or : List Tree → List (Vec Stmt Global) → Branches → Branches
Or ts bs rest = or_onto (map (List_at ts) bs) rest

or_both : (ts : List Tree) (ss rs : List (Vec Stmt Global)) (rest : Branches) → Or ts (ss ++ rs) rest ≡ Or ts ss (Or ts rs rest)
or_both ts ss rs rest = ap (λ (fs : List Statements). or_onto fs rest) (map-append (List_at ts) ss rs) ∙ or_append (map (List_at ts) ss) (map (List_at ts) rs) rest

pub record ArePutIn (ts : List Tree) (k : Plan) (new : code.Plan) (ss rs : List (Vec Stmt Global)) : Type 0 where
  pub left : Plan
  pub plan : IsPlan new left
  pub placed : (rest : Branches) → placed_some k (Or ts ss rest) ≡ Or ts rs (placed_some left rest)
  pub past : (rest : Branches) → past_some k (Or ts ss rest) ≡ past_some left rest

abbrev Past : Vec Stmt Global → ℕ
Past b = past_statements b.items

pub record PutsIn (old new : code.Plan) (ss rs : List (Vec Stmt Global)) : Type 0 where
  pub put : (ts : List Tree) (k : Plan) → IsPlan old k → ArePutIn ts k new ss rs
  pub numbers : greatest (map Past rs) ≤ greatest (map Past ss)

pub none_in : (old : code.Plan) → PutsIn old old [] []
none_in old = record {
  put = λ ts k p. record { left = k; plan = p; placed = λ rest. refl; past = λ rest. refl };
  numbers = omega arith;
}

one_in : (old mid new : code.Plan) (ss rs : List (Vec Stmt Global)) (s r : Vec Stmt Global) → PutsIn old mid ss rs → PutsAll mid new s.items r.items → past_statements r.items ≤ past_statements s.items
    → PutsIn old new (ss ++ s ∷ []) (rs ++ r ∷ [])
one_in old mid new ss rs s r h i n = record {
  put = λ ts k p.
      let a = h.put ts k p in
      let q = i ts a.left a.plan in
      let left = past a.left (statements_at ts s.items) in
      record {
        left = left;
        plan = q.1;
        placed = λ rest.
            ap (placed_some k) (or_both ts ss (s ∷ []) rest) ∙ a.placed (or (statements_at ts s.items) rest)
            ∙ ap (λ (z : Statements). Or ts rs (or z (placed_some left rest))) (sym q.0) ∙ sym (or_both ts rs (r ∷ []) (placed_some left rest));
        past = λ rest. ap (past_some k) (or_both ts ss (s ∷ []) rest) ∙ a.past (or (statements_at ts s.items) rest);
      };
  numbers =
      let a = past_one_more Past ss s in
      let b = past_one_more Past rs r in
      let d = h.numbers in
      omega (arith, n, a, b, d);
}

pub next_in : (old mid new : code.Plan) (all rs : List (Vec Stmt Global)) (n m : ℕ) (s r : Vec Stmt Global) → m ≡ n + 1 → (n < length all) × (s ≡ get_or all n s) → PutsIn old mid (take n all) rs → PutsAll mid new s.items r.items
    → past_statements r.items ≤ past_statements s.items → (out : List (Vec Stmt Global)) → out ≡ rs ++ r ∷ [] → PutsIn old new (take m all) out
next_in old mid new all rs n m s r w t h i q out o =
    subst (λ (ys : List (Vec Stmt Global)). PutsIn old new (take m all) ys) (sym o) (subst (λ (zs : List (Vec Stmt Global)). PutsIn old new zs (rs ++ r ∷ [])) (sym (ap (λ (j : ℕ). take j all) w ∙ take_more all n s t.0 ∙ ap (λ (z : Vec Stmt Global). take n all ++ z ∷ []) (sym t.1))) (one_in old mid new (take n all) rs s r h i q))

pub all_in : (old new : code.Plan) (all rs : List (Vec Stmt Global)) (n : ℕ) → length all ≤ n → PutsIn old new (take n all) rs → PutsBranches old new all rs
all_in old new all rs n l h ts k p =
    let a = (subst (λ (zs : List (Vec Stmt Global)). PutsIn old new zs rs) (take_all n all l) h).put ts k p in (
      sym (ap (placed_some k) (sym (or_done (map (List_at ts) all))) ∙ a.placed no_branches ∙ or_done (map (List_at ts) rs)),
      subst (IsPlan new) (sym (ap (past_some k) (sym (or_done (map (List_at ts) all))) ∙ a.past no_branches)) a.plan,
    )

pub in_numbers : (old new : code.Plan) (all rs : List (Vec Stmt Global)) (n : ℕ) → length all ≤ n → PutsIn old new (take n all) rs → greatest (map Past rs) ≤ greatest (map Past all)
in_numbers old new all rs n l h = (subst (λ (zs : List (Vec Stmt Global)). PutsIn old new zs rs) (take_all n all l) h).numbers

pub not_some : {A : Type 0} (o : Option A) → ((x : A) → o ≡ Some x → ⊥) → o ≡ None
not_some None h = refl
not_some (Some x) h = absurd (h x refl)
