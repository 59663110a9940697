-- Where names are used as they may be, a body with its macro calls written out reads only what is seen where it stands; and so does each step of it from a label on.
use Rattle.std.proofs.Common.{◌≡◌, List, [], ◌∷◌, ◌++◌, Bool, true, false, ◌||◌, ◌⊎◌, inl, inr, not, cond, bytes_eq, Option, Some, None, nat_eq, length, refl, ap, subst, arith}
use Rattle.std.specs.Option.{option_or}
use Rattle.std.proofs.lemmas.Bool.{eqb-true}
use Rattle.tla_token.specs.declared.place.Place.{Place}
use Rattle.tla_token.specs.declared.rule.Rule.TheVariants.{Arity}
use Rattle.tla_token.specs.Signs.{is_among}
use Rattle.tla_tree.specs.Tree.{Word, Name, words, Form, name, operator_call, Tree, node, Trees, no_trees, tree, seen_names, root_place, Graft, graft}
use Rattle.tla_value.specs.laws.FreeNames.{Also, Any, FormReads, FreeInParts}
use Rattle.pcal_tree.specs.Algorithm.{Span, Assignments, no_assignments, assignment, Binds, no_binds, one_of, is, Statement, assign, await, print, assert, skip, branch, either, with, while, goto, macro, call, return, Statements, done, then, mark, Branches, no_branches, or, Macro, Procedure}
use Rattle.pcal_tree.specs.Offences.{offence_if}
use Rattle.pcal_tree.specs.OffencesNames.{Use, takes, variable, argument, standard, unread, Sight, knowing, use_of, left_offences, root_offences, in_left_parts, parameter_use, count, in_whole, in_each, in_left, in_assignments, in_binds, after_binds, in_one, in_body, in_branches, call_offences, seeing_plain, seeing_parameters, macro_offences}
use Rattle.pcal_tree.specs.Run.{arguments, unlabelled, label_of}
use Rattle.pcal_tree.specs.StepStart.{Begin, begin, begin_in, begin_some}
use Rattle.pcal_tree.specs.Expand.{placed_at, graft_left, graft_assignments, graft_binds, graft_one, graft_all, graft_some, followed_by, expand_one, expand, expand_some, written_out}
use Rattle.pcal_tree.specs.laws.ReadNames.{Names, Reads, ReadsAll, ReadsAssignments, ReadsBinds, ReadsOneAlways, ReadsAlways, ReadsSomeAlways, BindsIn, WithsInOne, WithsIn, WithsInSome, WithsInMacros}
use Rattle.pcal_tree.specs.Paths.{root}
use Rattle.std.proofs.lemmas.Slice.Eq.{bytes_eq-Decides}
use Rattle.pcal_tree.proofs.CallsFine.{Usable, Sees, free_weaker, in_also, tree_seen, parts_seen}
use Rattle.pcal_tree.proofs.ClearLabels.{both_none}
use Rattle.pcal_tree.proofs.GraftsRead.{IfFree, Puts, free_put, parts_put}

-- ---- trees put in

abbrev pub HasFree : Names → Option Tree → Type 0
HasFree N o = IfFree N Any o

-- of N' where nothing is put in, N is what is left; and what is put in reads N
abbrev pub PutsIn : Graft → Names → Names → Type 0
PutsIn g N' N = Puts g N' Any N Any

module _ (g : Graft) (N' N : Names) (k : PutsIn g N' N) where
  placed_free : (at : Place) (t : Tree) → Reads N t → Reads N (placed_at at t)
  placed_free at (node m p ts) h = h

  left_free : (l : Tree) → Reads N' l → Reads N (graft_left g l)
  left_free (node m at ts) h = placed_free at (graft g (node m at ts)) (free_put g N' Any N Any k (node m at ts) h)

  assignments_free : (ms : Assignments) → ReadsAssignments N' ms → ReadsAssignments N (graft_assignments g ms)
  assignments_free no_assignments h = tt
  assignments_free (assignment l e ms) h = (left_free l h.0, free_put g N' Any N Any k e h.1, assignments_free ms h.2)

  binds_free : (bs : Binds) → ReadsBinds N' bs → ReadsBinds N (graft_binds g bs)
  binds_free no_binds h = tt
  binds_free (one_of x e bs) h = (free_put g N' Any N Any k e h.0, binds_free bs h.1)
  binds_free (is x e bs) h = (free_put g N' Any N Any k e h.0, binds_free bs h.1)

  mutual
    one_free : (st : Statement) → ReadsOneAlways N' st → ReadsOneAlways N (graft_one g st)
    one_free (assign ms) h = assignments_free ms h
    one_free (await e) h = free_put g N' Any N Any k e h
    one_free (print e) h = free_put g N' Any N Any k e h
    one_free (assert e) h = free_put g N' Any N Any k e h
    one_free skip h = tt
    one_free (branch e a b) h = (free_put g N' Any N Any k e h.0, body_free a h.1, body_free b h.2)
    one_free (either bs) h = some_free bs h
    one_free (with bs b) h = (binds_free bs h.0, body_free b h.1)
    one_free (while e b) h = (free_put g N' Any N Any k e h.0, body_free b h.1)
    one_free (goto l) h = tt
    one_free (macro m ts) h = parts_put g N' Any N Any k [] ts h
    one_free (call p ts) h = parts_put g N' Any N Any k [] ts h
    one_free return h = tt

    body_free : (b : Statements) → ReadsAlways N' b → ReadsAlways N (graft_all g b)
    body_free done h = tt
    body_free (then at st rest) h = (one_free st h.0, body_free rest h.1)
    body_free (mark l m rest) h = body_free rest h

    some_free : (bs : Branches) → ReadsSomeAlways N' bs → ReadsSomeAlways N (graft_some g bs)
    some_free no_branches h = tt
    some_free (or b bs) h = (body_free b h.0, some_free bs h.1)

followed_free : (N : Names) (a b : Statements) → ReadsAlways N a → ReadsAlways N b → ReadsAlways N (followed_by a b)
followed_free N done b h k = k
followed_free N (then at st a) b h k = (h.0, followed_free N a b h.1 k)
followed_free N (mark l m a) b h k = followed_free N a b h k

-- ---- statements that are used as they may be

abbrev OneOf : List Word → Names → Names
OneOf xs N y = (is_among xs y ≡ true) ⊎ N y

variable_is : (s : Sight) (N : Names) → Sees s N → (x : Word) (at : Place) → left_offences (use_of s x) at ≡ [] → N x
variable_is s N h x at e = h x (by (use_of s x) e)
  where
    by : (u : Option Use) → left_offences u at ≡ [] → Usable u
    by None e = cc
    by (Some variable) e = tt
    by (Some (argument p)) e = cc
    by (Some (takes k)) e = cc
    by (Some (standard d b)) e = cc
    by (Some unread) e = cc

root_seen : (s : Sight) (N : Names) → Sees s N → (m : Form) (at : Place) → root_offences s m at ≡ [] → FormReads N Any m
root_seen s N h (name x) at e = variable_is s N h x at e
root_seen s N h (operator_call f) at e = tt
root_seen s N h m at e = tt

-- seeing more does no harm
parts_more : (N : Names) (names : List (List Word)) (ts : Trees) → ReadsAll N ts → FreeInParts N Any names ts
parts_more N names no_trees h = tt
parts_more N [] (tree t ts) h = h
parts_more N (xs ∷ names) (tree t ts) h = (free_weaker N (Also xs N) (in_also N xs) t h.0, parts_more N names ts h.1)

mutual
  left_seen : (l : Tree) (s : Sight) (N : Names) → Sees s N → in_left l s ≡ [] → Reads N l
  left_seen (node m at ts) s N h e =
      let k = both_none (root_offences s m at) (in_left_parts ts s) e in
      (root_seen s N h m at k.0, parts_more N (seen_names m) ts (left_parts_seen ts s N h k.1))

  left_parts_seen : (ts : Trees) (s : Sight) (N : Names) → Sees s N → in_left_parts ts s ≡ [] → ReadsAll N ts
  left_parts_seen no_trees s N h e = tt
  left_parts_seen (tree t ts) s N h e =
      let k = both_none (in_left t s) (in_each ts s) e in
      (left_seen t s N h k.0, parts_seen [] false ts s N h k.1)

assignments_seen : (ms : Assignments) (s : Sight) (N : Names) → Sees s N → in_assignments ms s ≡ [] → ReadsAssignments N ms
assignments_seen no_assignments s N h e = tt
assignments_seen (assignment l r ms) s N h e =
    let j = both_none (in_left l s) (in_whole r s ++ in_assignments ms s) e in
    let k = both_none (in_whole r s) (in_assignments ms s) j.1 in
    (left_seen l s N h j.0, tree_seen r false s N h k.0, assignments_seen ms s N h k.1)

-- a name more that is of N
sees_one : (x : Word) (s : Sight) (N : Names) → N x → Sees s N → Sees (seeing_plain (x ∷ []) s) N
sees_one x s N n h y u = by (bytes_eq x y) refl u
  where
    by : (b : Bool) → bytes_eq x y ≡ b → Usable (cond b (Some (takes 0)) (use_of s y)) → N y
    by true q k = subst N ((bytes_eq-Decides x y).0 q) n
    by false q k = h y k

binds_seen : (bs : Binds) (s : Sight) (N : Names) → BindsIn N bs → Sees s N → in_binds bs s ≡ [] → ReadsBinds N bs × Sees (after_binds bs s) N
binds_seen no_binds s N w h e = (tt, h)
binds_seen (one_of x r bs) s N w h e =
    let j = both_none (in_whole r s) (in_binds bs (seeing_plain (x.word ∷ []) s)) e in
    let k = binds_seen bs (seeing_plain (x.word ∷ []) s) N w.1 (sees_one x.word s N w.0 h) j.1 in
    ((tree_seen r false s N h j.0, k.0), k.1)
binds_seen (is x r bs) s N w h e =
    let j = both_none (in_whole r s) (in_binds bs (seeing_plain (x.word ∷ []) s)) e in
    let k = binds_seen bs (seeing_plain (x.word ∷ []) s) N w.1 (sees_one x.word s N w.0 h) j.1 in
    ((tree_seen r false s N h j.0, k.0), k.1)

-- ---- macros

no_offence : (b : Bool) (at : Place) → offence_if (not b) Arity at ≡ [] → b ≡ true
no_offence true at e = refl
no_offence false at e = cc

not_so : false ≡ true → ⊥
not_so e = cc

-- with as many arguments, each parameter has one
given : (qs : List Name) (ts : Trees) → length qs ≡ count ts → (y : Word) (at : Place) → is_among (words qs) y ≡ true → arguments qs ts y at ≡ None → ⊥
given [] ts e y at m q = not_so m
given (p ∷ qs) no_trees e y at m q = absurd (omega (arith, e))
given (p ∷ qs) (tree t ts) e y at m q = by (bytes_eq p.word y) (given qs ts (omega (arith, e)) y at) m q
  where
    by : (b : Bool) → (is_among (words qs) y ≡ true → arguments qs ts y at ≡ None → ⊥) → (b || is_among (words qs) y) ≡ true → ◌≡◌ {A = Option Tree} (cond b (Some t) (arguments qs ts y at)) None → ⊥
    by true h m q = some t q
      where
        some : (t : Tree) → ◌≡◌ {A = Option Tree} (Some t) None → ⊥
        some t e = cc
    by false h m q = h m q

arguments_free : (N : Names) (qs : List Name) (ts : Trees) → ReadsAll N ts → (y : Word) (at : Place) → HasFree N (arguments qs ts y at)
arguments_free N [] ts h y at = tt
arguments_free N (q ∷ qs) no_trees h y at = tt
arguments_free N (q ∷ qs) (tree t ts) h y at = by (bytes_eq q.word y) (arguments qs ts y at) (arguments_free N qs ts h.1 y at)
  where
    by : (b : Bool) (o : Option Tree) → HasFree N o → HasFree N (cond b (Some t) o)
    by true o k = h.0
    by false o k = k

puts_arguments : (N : Names) (qs : List Name) (ts : Trees) → length qs ≡ count ts → ReadsAll N ts → PutsIn (arguments qs ts) (OneOf (words qs) N) N
puts_arguments N qs ts e h = record {
  left = λ y at n q. by y at n q;
  put = λ y at. arguments_free N qs ts h y at;
  operators = λ y u. u;
}
  where
    by : (y : Word) (at : Place) → OneOf (words qs) N y → arguments qs ts y at ≡ None → N y
    by y at (inl m) q = absurd (given qs ts e y at m q)
    by y at (inr n) q = n

-- a name that is known besides is one of these
sees_more : (u : Use) (x : Word) (s : Sight) (N : Names) → N x → Sees s N → Sees (knowing u x ∷ s) N
sees_more u x s N n h y k = by (bytes_eq x y) refl k
  where
    by : (b : Bool) → bytes_eq x y ≡ b → Usable (cond b (Some u) (use_of s y)) → N y
    by true q k = subst N ((bytes_eq-Decides x y).0 q) n
    by false q k = h y k

sees_parameters : (qs : List Name) (ts : Trees) (s r : Sight) (N : Names) → ((y : Word) → is_among (words qs) y ≡ true → N y) → Sees r N → Sees (seeing_parameters qs ts s r) N
sees_parameters [] ts s r N m h = h
sees_parameters (q ∷ qs) no_trees s r N m h =
    sees_more variable q.word (seeing_parameters qs no_trees s r) N (m q.word (first q.word (words qs))) (sees_parameters qs no_trees s r N (λ y e. m y (second (bytes_eq q.word y) (is_among (words qs) y) e)) h)
  where
    first : (x : Word) (xs : List Word) → (bytes_eq x x || is_among xs x) ≡ true
    first x xs = ap (λ b. b || is_among xs x) ((bytes_eq-Decides x x).1 refl)

    second : (a b : Bool) → b ≡ true → (a || b) ≡ true
    second true b e = refl
    second false b e = e
sees_parameters (q ∷ qs) (tree t ts) s r N m h =
    sees_more (parameter_use (root t) (root_place t) s) q.word (seeing_parameters qs ts s r) N (m q.word (first q.word (words qs))) (sees_parameters qs ts s r N (λ y e. m y (second (bytes_eq q.word y) (is_among (words qs) y) e)) h)
  where
    first : (x : Word) (xs : List Word) → (bytes_eq x x || is_among xs x) ≡ true
    first x xs = ap (λ b. b || is_among xs x) ((bytes_eq-Decides x x).1 refl)

    second : (a b : Bool) → b ≡ true → (a || b) ≡ true
    second true b e = refl
    second false b e = e

-- ---- the names of each `with` are of more names too

binds_in_weaker : (N M : Names) → ((y : Word) → N y → M y) → (bs : Binds) → BindsIn N bs → BindsIn M bs
binds_in_weaker N M h no_binds k = tt
binds_in_weaker N M h (one_of x e bs) k = (h x.word k.0, binds_in_weaker N M h bs k.1)
binds_in_weaker N M h (is x e bs) k = (h x.word k.0, binds_in_weaker N M h bs k.1)

mutual
  withs_one_weaker : (N M : Names) → ((y : Word) → N y → M y) → (st : Statement) → WithsInOne N st → WithsInOne M st
  withs_one_weaker N M h (branch e a b) k = (withs_weaker N M h a k.0, withs_weaker N M h b k.1)
  withs_one_weaker N M h (either bs) k = withs_some_weaker N M h bs k
  withs_one_weaker N M h (with bs b) k = (binds_in_weaker N M h bs k.0, withs_weaker N M h b k.1)
  withs_one_weaker N M h (while e b) k = withs_weaker N M h b k
  withs_one_weaker N M h (assign ms) k = tt
  withs_one_weaker N M h (await e) k = tt
  withs_one_weaker N M h (print e) k = tt
  withs_one_weaker N M h (assert e) k = tt
  withs_one_weaker N M h skip k = tt
  withs_one_weaker N M h (goto l) k = tt
  withs_one_weaker N M h (macro m ts) k = tt
  withs_one_weaker N M h (call p ts) k = tt
  withs_one_weaker N M h return k = tt

  withs_weaker : (N M : Names) → ((y : Word) → N y → M y) → (b : Statements) → WithsIn N b → WithsIn M b
  withs_weaker N M h done k = tt
  withs_weaker N M h (then at st rest) k = (withs_one_weaker N M h st k.0, withs_weaker N M h rest k.1)
  withs_weaker N M h (mark l m rest) k = withs_weaker N M h rest k

  withs_some_weaker : (N M : Names) → ((y : Word) → N y → M y) → (bs : Branches) → WithsInSome N bs → WithsInSome M bs
  withs_some_weaker N M h no_branches k = tt
  withs_some_weaker N M h (or b bs) k = (withs_weaker N M h b k.0, withs_some_weaker N M h bs k.1)

macros_weaker : (N M : Names) → ((y : Word) → N y → M y) → (ms : List Macro) → WithsInMacros N ms → WithsInMacros M ms
macros_weaker N M h [] k = tt
macros_weaker N M h (d ∷ ds) k = (withs_weaker N M h d.body k.0, macros_weaker N M h ds k.1)

module _ (ps : List Procedure) where
  -- what is written for a call reads what is seen where the call is
  abbrev pub CallsRead : List Macro → Type 1
  CallsRead ms = (N : Names) → WithsInMacros N ms → (s : Sight) (p : Place) (at : Span) (m : Word) (ts : Trees) → macro_offences ms ps s p m ts ≡ [] → Sees s N → ReadsAll N ts → ReadsAlways N (written_out ms at m ts)

  module _ (ms : List Macro) (c : CallsRead ms) (N : Names) (w : WithsInMacros N ms) where
    mutual
      one_reads : (at : Span) (st : Statement) (rest : Statements) (s : Sight) → WithsInOne N st → Sees s N → in_one (macro_offences ms ps) ps at.first st s ≡ [] → ReadsAlways N rest → ReadsAlways N (expand_one (written_out ms) at st rest)
      one_reads at (assign ms) rest s v h e r = (assignments_seen ms s N h e, r)
      one_reads at (await t) rest s v h e r = (tree_seen t false s N h e, r)
      one_reads at (print t) rest s v h e r = (tree_seen t false s N h e, r)
      one_reads at (assert t) rest s v h e r = (tree_seen t false s N h e, r)
      one_reads at skip rest s v h e r = (tt, r)
      one_reads at (branch t a b) rest s v h e r =
          let j = both_none (in_whole t s) (in_body (macro_offences ms ps) ps a s ++ in_body (macro_offences ms ps) ps b s) e in
          let k = both_none (in_body (macro_offences ms ps) ps a s) (in_body (macro_offences ms ps) ps b s) j.1 in
          ((tree_seen t false s N h j.0, body_reads a s v.0 h k.0, body_reads b s v.1 h k.1), r)
      one_reads at (either bs) rest s v h e r = (some_read bs s v h e, r)
      one_reads at (with bs b) rest s v h e r =
          let j = both_none (in_binds bs s) (in_body (macro_offences ms ps) ps b (after_binds bs s)) e in
          let k = binds_seen bs s N v.0 h j.0 in
          ((k.0, body_reads b (after_binds bs s) v.1 k.1 j.1), r)
      one_reads at (while t b) rest s v h e r =
          let k = both_none (in_whole t s) (in_body (macro_offences ms ps) ps b s) e in
          ((tree_seen t false s N h k.0, body_reads b s v h k.1), r)
      one_reads at (goto l) rest s v h e r = (tt, r)
      one_reads at (macro m ts) rest s v h e r =
          let k = both_none (macro_offences ms ps s at.first m ts) (in_each ts s) e in
          followed_free N (written_out ms at m ts) rest (c N w s at.first at m ts k.0 h (parts_seen [] false ts s N h k.1)) r
      one_reads at (call p ts) rest s v h e r =
          let k = both_none (call_offences ps at.first p (count ts)) (in_each ts s) e in
          (parts_seen [] false ts s N h k.1, r)
      one_reads at return rest s v h e r = (tt, r)

      pub body_reads : (b : Statements) (s : Sight) → WithsIn N b → Sees s N → in_body (macro_offences ms ps) ps b s ≡ [] → ReadsAlways N (expand (written_out ms) b)
      body_reads done s v h e = tt
      body_reads (then at st rest) s v h e =
          let k = both_none (in_one (macro_offences ms ps) ps at.first st s) (in_body (macro_offences ms ps) ps rest s) e in
          one_reads at st (expand (written_out ms) rest) s v.0 h k.0 (body_reads rest s v.1 h k.1)
      body_reads (mark l k rest) s v h e = body_reads rest s v h e

      some_read : (bs : Branches) (s : Sight) → WithsInSome N bs → Sees s N → in_branches (macro_offences ms ps) ps bs s ≡ [] → ReadsSomeAlways N (expand_some (written_out ms) bs)
      some_read no_branches s v h e = tt
      some_read (or b bs) s v h e =
          let k = both_none (in_body (macro_offences ms ps) ps b s) (in_branches (macro_offences ms ps) ps bs s) e in
          (body_reads b s v.0 h k.0, some_read bs s v.1 h k.1)

  pub calls_read : (ms : List Macro) → CallsRead ms
  calls_read [] N w s p at m ts e h r = (tt, tt)
  calls_read (d ∷ older) N w s p at m ts e h r = by (bytes_eq d.name.word m) (calls_read older) e
    where
      by : (b : Bool) → CallsRead older
          → cond b (offence_if (not (nat_eq (length d.params) (count ts))) Arity p ++ in_body (macro_offences older ps) ps d.body (seeing_parameters d.params ts s s)) (macro_offences older ps s p m ts) ≡ []
          → ReadsAlways N (cond b (graft_all (arguments d.params ts) (expand (written_out older) d.body)) (written_out older at m ts))
      by true c e =
          let k = both_none (offence_if (not (nat_eq (length d.params) (count ts))) Arity p) (in_body (macro_offences older ps) ps d.body (seeing_parameters d.params ts s s)) e in
          let M = OneOf (words d.params) N in
          body_free (arguments d.params ts) M N (puts_arguments N d.params ts (eqb-true (length d.params) (count ts) (no_offence (nat_eq (length d.params) (count ts)) p k.0)) r) (expand (written_out older) d.body)
          (body_reads older c M (macros_weaker N M (λ y n. inr n) older w.1) d.body (seeing_parameters d.params ts s s) (withs_weaker N M (λ y n. inr n) d.body w.0)
          (sees_parameters d.params ts s s M (λ y m. inl m) (λ y u. inr (h y u))) k.1)
      by false c e = c N w.1 s p at m ts e h r

-- ---- from a label on

abbrev ItemsRead : Names → Option Begin → Type 0
ItemsRead N (Some b) = ReadsAlways N b.items
ItemsRead N None = Unit {0}

or_reads : (N : Names) (o p : Option Begin) (b : Begin) → option_or o p ≡ Some b → ((c : Begin) → o ≡ Some c → ReadsAlways N c.items) → ((c : Begin) → p ≡ Some c → ReadsAlways N c.items) → ReadsAlways N b.items
or_reads N (Some x) p b e f g = f b e
or_reads N None p b e f g = g b e

mutual
  begins_one : (N : Names) (l here : Word) (st : Statement) (x : Word) (b : Begin) → ReadsOneAlways N st → begin_in l here st x ≡ Some b → ReadsAlways N b.items
  begins_one N l here (branch t a c) x b h e = or_reads N (begin l unlabelled a x) (begin l unlabelled c x) b e (λ d q. begins N l unlabelled a x d h.1 q) (λ d q. begins N l unlabelled c x d h.2 q)
  begins_one N l here (either bs) x b h e = begins_some N l bs x b h e
  begins_one N l here (with bs c) x b h e = begins N l unlabelled c x b h.1 e
  begins_one N l here (while t c) x b h e = begins N l unlabelled c here b h.1 e
  begins_one N l here (assign ms) x b h e = cc
  begins_one N l here (await t) x b h e = cc
  begins_one N l here (print t) x b h e = cc
  begins_one N l here (assert t) x b h e = cc
  begins_one N l here skip x b h e = cc
  begins_one N l here (goto m) x b h e = cc
  begins_one N l here (macro m ts) x b h e = cc
  begins_one N l here (call p ts) x b h e = cc
  begins_one N l here return x b h e = cc

  pub begins : (N : Names) (l here : Word) (ss : Statements) (x : Word) (b : Begin) → ReadsAlways N ss → begin l here ss x ≡ Some b → ReadsAlways N b.items
  begins N l here done x b h e = cc
  begins N l here (then at st rest) x b h e =
      or_reads N (begin_in l here st (label_of rest x)) (begin l unlabelled rest x) b e (λ d q. begins_one N l here st (label_of rest x) d h.0 q) (λ d q. begins N l unlabelled rest x d h.1 q)
  begins N l here (mark m k rest) x b h e = by (bytes_eq l m.word) (λ d q. begins N l m.word rest x d h q) e
    where
      by : (c : Bool) → ((d : Begin) → begin l m.word rest x ≡ Some d → ReadsAlways N d.items) → cond c (Some (record { items = rest; exit = x })) (begin l m.word rest x) ≡ Some b → ReadsAlways N b.items
      by true f e = subst (ItemsRead N) e h
      by false f e = f b e

  begins_some : (N : Names) (l : Word) (bs : Branches) (x : Word) (b : Begin) → ReadsSomeAlways N bs → begin_some l bs x ≡ Some b → ReadsAlways N b.items
  begins_some N l no_branches x b h e = cc
  begins_some N l (or c bs) x b h e = or_reads N (begin l unlabelled c x) (begin_some l bs x) b e (λ d q. begins N l unlabelled c x d h.0 q) (λ d q. begins_some N l bs x d h.1 q)
