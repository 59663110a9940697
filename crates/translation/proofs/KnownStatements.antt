-- Statements that use names as they may: with macro calls written out, the procedures that are called exist, and left sides are of variables.
use Rattle.std.proofs.Common.{◌≡◌, ℕ, List, [], ◌∷◌, ◌++◌, map, length, Bool, true, false, not, ◌||◌, cond, bytes_eq, nat_eq, Option, Some, None, refl, ap, ◌∙◌, arith}
use Rattle.std.specs.Prelude.{is_some}
use Rattle.std.specs.Bool.{IsTrue}
use Rattle.std.specs.List.{AllByRecursion}
use Rattle.std.proofs.lemmas.Bool.{eqb-true}
use Rattle.tla_token.specs.declared.place.Place.{Place}
use Rattle.tla_token.specs.declared.rule.Rule.TheVariants.{Arity}
use Rattle.tla_token.specs.Signs.{is_among}
use Rattle.tla_tree.specs.Tree.{Word, apply, select, name, strict, Tree, node, Trees, no_trees, tree, graft, grafts, root_place}
use Rattle.tla_tree.specs.laws.Writable.{IsIdentifier, IsWritable, AreWritable}
use Rattle.pcal_tree.specs.Algorithm.{Name, Span, Assignments, no_assignments, assignment, Binds, no_binds, one_of, is, Statement, assign, await, print, assert, skip, branch, either, with, while, goto, macro, call, return, Statements, done, then, mark, Branches, no_branches, or, Macro, Procedure}
use Rattle.pcal_tree.specs.Expand.{placed_at, graft_left, graft_assignments, graft_binds, graft_one, graft_all, graft_some, followed_by, Writing, expand_one, expand, expand_some, written_out}
use Rattle.pcal_tree.specs.NameUses.{Use, takes, variable, argument, standard, unread, Sight, use_of, left_offences, handed_use, seeing_plain}
use Rattle.pcal_tree.specs.Offences.{offence_if}
use Rattle.pcal_tree.specs.OffencesNames.{Calls, count, in_whole, in_each, in_left, in_left_parts, call_offences, in_assignments, in_binds, after_binds, in_one, in_body, in_branches, parameter_use, seeing_parameters, macro_offences}
use Rattle.pcal_tree.specs.Paths.{root}
use Rattle.pcal_tree.specs.Run.{arguments}
use Rattle.pcal_tree.specs.laws.MacroSummaries.{argument as argument_for, variable_of}
use Rattle.pcal_tree.proofs.TargetLaws.{root_after, root_left}
use Rattle.action_builder.proofs.FitTrees.{Puts, IsPut, fit_writable, writable_fits, graft_fits}
use Rattle.translation.specs.laws.WritableAlgorithm.{IsLeftSide, AreWritableAssignments, AreWritableBinds, IsWritableStatement, AreWritableStatements, AreWritableBranches}
use Rattle.translation.specs.laws.TypedAlgorithm.{AreTypedAssignments, IsTypedStatement, AreTypedStatements, AreTypedBranches, IsTypedMacro}
use Rattle.translation.specs.laws.AssignedOnce.{AssignsOnce, AssignOnce, AllAssignOnce}
use Rattle.translation.proofs.AcceptedNames.{no_offence}
use Rattle.pcal_tree.proofs.ClearLabels.{both_none}

-- ---- statements that can be written, but that they may assign a variable twice

abbrev mutual
  pub IsKnown : (Word → Bool) → (Word → Bool) → Statement → Type 0
  IsKnown C V (assign ms) = AreWritableAssignments V ms
  IsKnown C V (await e) = IsWritable e
  IsKnown C V (print e) = IsWritable e
  IsKnown C V (assert e) = IsWritable e
  IsKnown C V skip = Unit {0}
  IsKnown C V (branch e a b) = IsWritable e × AreKnown C V a × AreKnown C V b
  IsKnown C V (either no_branches) = ⊥
  IsKnown C V (either (or b bs)) = AreKnown C V b × AllKnown C V bs
  IsKnown C V (with bs b) = AreWritableBinds bs × AreKnown C V b
  IsKnown C V (while e b) = IsWritable e × AreKnown C V b
  IsKnown C V (goto l) = IsIdentifier l
  IsKnown C V (macro m ts) = ⊥
  IsKnown C V (call p ts) = (C p.word ≡ true) × AreWritable ts
  IsKnown C V return = Unit {0}

  pub AreKnown : (Word → Bool) → (Word → Bool) → Statements → Type 0
  AreKnown C V done = Unit {0}
  AreKnown C V (then at st rest) = IsKnown C V st × AreKnown C V rest
  AreKnown C V (mark l k rest) = IsIdentifier l.word × AreKnown C V rest

  pub AllKnown : (Word → Bool) → (Word → Bool) → Branches → Type 0
  AllKnown C V no_branches = Unit {0}
  AllKnown C V (or b bs) = AreKnown C V b × AllKnown C V bs

module _ (C V : Word → Bool) where
  mutual
    one_once : (st : Statement) → IsKnown C V st → AssignsOnce st → IsWritableStatement C V st
    one_once (assign ms) h k = (h, k)
    one_once (await e) h k = h
    one_once (print e) h k = h
    one_once (assert e) h k = h
    one_once skip h k = tt
    one_once (branch e a b) h k = (h.0, all_once a h.1 k.0, all_once b h.2 k.1)
    one_once (either no_branches) h k = absurd h
    one_once (either (or b bs)) h k = (all_once b h.0 k.0, some_once bs h.1 k.1)
    one_once (with bs b) h k = (h.0, all_once b h.1 k)
    one_once (while e b) h k = (h.0, all_once b h.1 k)
    one_once (goto l) h k = h
    one_once (macro m ts) h k = absurd h
    one_once (call p ts) h k = h
    one_once return h k = tt

    pub all_once : (b : Statements) → AreKnown C V b → AssignOnce b → AreWritableStatements C V b
    all_once done h k = tt
    all_once (then at st rest) h k = (one_once st h.0 k.0, all_once rest h.1 k.1)
    all_once (mark l m rest) h k = (h.0, all_once rest h.1 k)

    some_once : (bs : Branches) → AllKnown C V bs → AllAssignOnce bs → AreWritableBranches C V bs
    some_once no_branches h k = tt
    some_once (or b bs) h k = (all_once b h.0 k.0, some_once bs h.1 k.1)

  -- what a list is, before another one
  followed : (a b : Statements) → AreKnown C V a → AreKnown C V b → AreKnown C V (followed_by a b)
  followed done b h k = k
  followed (then at st a) b h k = (h.0, followed a b h.1 k)
  followed (mark l m a) b h k = (h.0, followed a b h.1 k)

-- ---- more variables

module _ (C V W : Word → Bool) (more : (x : Word) → V x ≡ true → W x ≡ true) where
  assignments_more : (ms : Assignments) → AreWritableAssignments V ms → AreWritableAssignments W ms
  assignments_more no_assignments h = tt
  assignments_more (assignment l e ms) h = ((h.0.0, (h.0.1.0, h.0.1.1, more h.0.1.0 h.0.1.2)), h.1, assignments_more ms h.2)

  mutual
    one_more : (st : Statement) → IsKnown C V st → IsKnown C W st
    one_more (assign ms) h = assignments_more ms h
    one_more (await e) h = h
    one_more (print e) h = h
    one_more (assert e) h = h
    one_more skip h = tt
    one_more (branch e a b) h = (h.0, all_more a h.1, all_more b h.2)
    one_more (either no_branches) h = h
    one_more (either (or b bs)) h = (all_more b h.0, some_more bs h.1)
    one_more (with bs b) h = (h.0, all_more b h.1)
    one_more (while e b) h = (h.0, all_more b h.1)
    one_more (goto l) h = h
    one_more (macro m ts) h = h
    one_more (call p ts) h = h
    one_more return h = tt

    pub all_more : (b : Statements) → AreKnown C V b → AreKnown C W b
    all_more done h = tt
    all_more (then at st rest) h = (one_more st h.0, all_more rest h.1)
    all_more (mark l m rest) h = (h.0, all_more rest h.1)

    some_more : (bs : Branches) → AllKnown C V bs → AllKnown C W bs
    some_more no_branches h = tt
    some_more (or b bs) h = (all_more b h.0, some_more bs h.1)

-- ---- arguments put in

placed_writable : (at : Place) (t : Tree) → IsWritable t → IsWritable (placed_at at t)
placed_writable at (node m p ts) h = h

arguments_put : (ps : List Name) (ts : Trees) → AreWritable ts → Puts IsIdentifier IsIdentifier (arguments ps ts)
arguments_put [] ts h x at i = i
arguments_put (p ∷ ps) no_trees h x at i = i
arguments_put (p ∷ ps) (tree t ts) h x at i = by (bytes_eq p.word x) (arguments_put ps ts h.1 x at i)
  where
    by : (b : Bool) → IsPut IsIdentifier (arguments ps ts x at) x → IsPut IsIdentifier (cond b (Some t) (arguments ps ts x at)) x
    by true k = writable_fits IsIdentifier (λ y j. j) t h.0
    by false k = k

-- a name of V is still one, or what stands for it begins with one of W
abbrev Sends : List Name → Trees → (Word → Bool) → (Word → Bool) → Type 0
Sends ps ts V W = (x : Word) → V x ≡ true → (y : Word) × (variable_of (argument_for ps ts x) x ≡ Some y) × (W y ≡ true)

module _ (C V W : Word → Bool) (ps : List Name) (ts : Trees) (w : AreWritable ts) (sends : Sends ps ts V W) where
  tree_put : (e : Tree) → IsWritable e → IsWritable (graft (arguments ps ts) e)
  tree_put e h = fit_writable (graft (arguments ps ts) e) (graft_fits IsIdentifier IsIdentifier (arguments ps ts) (arguments_put ps ts w) e (writable_fits IsIdentifier (λ x i. i) e h))

  trees_put : (us : Trees) → AreWritable us → AreWritable (grafts (arguments ps ts) us)
  trees_put no_trees h = tt
  trees_put (tree t us) h = (tree_put t h.0, trees_put us h.1)

  side_written : (l : Tree) → IsWritable l → IsWritable (graft_left (arguments ps ts) l)
  side_written (node m at us) h = placed_writable at (graft (arguments ps ts) (node m at us)) (tree_put (node m at us) h)

  side_put : (l : Tree) → IsLeftSide V l → IsLeftSide W (graft_left (arguments ps ts) l)
  side_put l h =
      let q = sends h.1.0 h.1.2 in
      (side_written l h.0, (q.0, root_left ps ts l ∙ (ap (root_after (argument_for ps ts)) h.1.1 ∙ q.1), q.2))

  assignments_put : (ms : Assignments) → AreWritableAssignments V ms → AreWritableAssignments W (graft_assignments (arguments ps ts) ms)
  assignments_put no_assignments h = tt
  assignments_put (assignment l e ms) h = (side_put l h.0, tree_put e h.1, assignments_put ms h.2)

  binds_put : (bs : Binds) → AreWritableBinds bs → AreWritableBinds (graft_binds (arguments ps ts) bs)
  binds_put no_binds h = tt
  binds_put (one_of x e bs) h = (h.0, tree_put e h.1, binds_put bs h.2)
  binds_put (is x e bs) h = (h.0, tree_put e h.1, binds_put bs h.2)

  mutual
    one_put : (st : Statement) → IsKnown C V st → IsKnown C W (graft_one (arguments ps ts) st)
    one_put (assign ms) h = assignments_put ms h
    one_put (await e) h = tree_put e h
    one_put (print e) h = tree_put e h
    one_put (assert e) h = tree_put e h
    one_put skip h = tt
    one_put (branch e a b) h = (tree_put e h.0, all_put a h.1, all_put b h.2)
    one_put (either no_branches) h = h
    one_put (either (or b bs)) h = (all_put b h.0, some_put bs h.1)
    one_put (with bs b) h = (binds_put bs h.0, all_put b h.1)
    one_put (while e b) h = (tree_put e h.0, all_put b h.1)
    one_put (goto l) h = h
    one_put (macro m us) h = h
    one_put (call p us) h = (h.0, trees_put us h.1)
    one_put return h = tt

    all_put : (b : Statements) → AreKnown C V b → AreKnown C W (graft_all (arguments ps ts) b)
    all_put done h = tt
    all_put (then at st rest) h = (one_put st h.0, all_put rest h.1)
    all_put (mark l m rest) h = (h.0, all_put rest h.1)

    some_put : (bs : Branches) → AllKnown C V bs → AllKnown C W (graft_some (arguments ps ts) bs)
    some_put no_branches h = tt
    some_put (or b bs) h = (all_put b h.0, some_put bs h.1)

-- ---- names that may be assigned

abbrev pub is_variable_use : Option Use → Bool
is_variable_use (Some variable) = true
is_variable_use _ = false

abbrev pub assignable : Sight → Word → Bool
assignable s x = is_variable_use (use_of s x)

left_use : (u : Option Use) (at : Place) → left_offences u at ≡ [] → is_variable_use u ≡ true
left_use None at e = cc
left_use (Some (takes n)) at e = cc
left_use (Some variable) at e = refl
left_use (Some (argument p)) at e = cc
left_use (Some (standard d b)) at e = cc
left_use (Some unread) at e = cc

left_known : (s : Sight) (l : Tree) → IsTrue (is_some (root l)) → in_left l s ≡ [] → (x : Word) × (root l ≡ Some x) × (assignable s x ≡ true)
left_known s (node (name x) at ts) r e = (x, refl, left_use (use_of s x) at (both_none (left_offences (use_of s x) at) (in_left_parts ts s) e).0)
left_known s (node (strict apply) at no_trees) r e = cc
left_known s (node (strict apply) at (tree t ts)) r e = left_known s t r (both_none (in_left t s) (in_each ts s) e).0
left_known s (node (strict (select a)) at no_trees) r e = cc
left_known s (node (strict (select a)) at (tree t ts)) r e = left_known s t r (both_none (in_left t s) (in_each ts s) e).0
left_known s (node m at ts) r e = cc

assignments_known : (s : Sight) (ms : Assignments) → AreTypedAssignments ms → in_assignments ms s ≡ [] → AreWritableAssignments (assignable s) ms
assignments_known s no_assignments h q = tt
assignments_known s (assignment l e ms) h q =
    let p = both_none (in_left l s) _ q in
    ((h.0, left_known s l h.1 p.0), h.2, assignments_known s ms h.3 (both_none (in_whole e s) (in_assignments ms s) p.1).1)

-- a name that is bound may not be assigned
bound_less : (x : Word) (s : Sight) (y : Word) → assignable (seeing_plain (x ∷ []) s) y ≡ true → assignable s y ≡ true
bound_less x s y h = by (bytes_eq x y) h
  where
    by : (b : Bool) → is_variable_use (cond b (Some (takes 0)) (use_of s y)) ≡ true → is_variable_use (use_of s y) ≡ true
    by true q = cc
    by false q = q

binds_less : (bs : Binds) (s : Sight) (y : Word) → assignable (after_binds bs s) y ≡ true → assignable s y ≡ true
binds_less no_binds s y h = h
binds_less (one_of x e bs) s y h = bound_less x.word s y (binds_less bs (seeing_plain (x.word ∷ []) s) y h)
binds_less (is x e bs) s y h = bound_less x.word s y (binds_less bs (seeing_plain (x.word ∷ []) s) y h)

-- ---- macro calls written out

abbrev named_in : List Procedure → Word → Bool
named_in ds x = is_among (map (λ d. d.name.word) ds) x

call_known : (ds : List Procedure) (at : Place) (p : Name) (n : ℕ) → call_offences ds at p n ≡ [] → named_in ds p.word ≡ true
call_known [] at p n e = cc
call_known (d ∷ ds) at p n e = by (bytes_eq d.name.word p.word) e (call_known ds at p n)
  where
    by : (b : Bool) → cond b (offence_if (not (nat_eq (length d.params) n)) Arity p.place) (call_offences ds at p n) ≡ [] → (call_offences ds at p n ≡ [] → named_in ds p.word ≡ true) → (b || named_in ds p.word) ≡ true
    by true q k = refl
    by false q k = k q

-- where what is written for a macro call is known where the call doesn't offend
module _ (ds : List Procedure) (K : Calls) (X : Writing) (calls : (s : Sight) (at : Span) (m : Word) (ts : Trees) → AreWritable ts → K s at.first m ts ≡ [] → AreKnown (named_in ds) (assignable s) (X at m ts)) where
  mutual
    one_known : (s : Sight) (at : Span) (st : Statement) (rest : Statements) → IsTypedStatement st → in_one K ds at.first st s ≡ [] → AreKnown (named_in ds) (assignable s) rest → AreKnown (named_in ds) (assignable s) (expand_one X at st rest)
    one_known s at (assign ms) rest h q r = (assignments_known s ms h q, r)
    one_known s at (await e) rest h q r = (h, r)
    one_known s at (print e) rest h q r = (h, r)
    one_known s at (assert e) rest h q r = (h, r)
    one_known s at skip rest h q r = (tt, r)
    one_known s at (branch e a b) rest h q r =
        let p = both_none (in_body K ds a s) (in_body K ds b s) (both_none (in_whole e s) _ q).1 in
        ((h.0, all_known s a h.1 p.0, all_known s b h.2 p.1), r)
    one_known s at (either no_branches) rest h q r = absurd h
    one_known s at (either (or b bs)) rest h q r =
        let p = both_none (in_body K ds b s) (in_branches K ds bs s) q in
        ((all_known s b h.0 p.0, some_known s bs h.1 p.1), r)
    one_known s at (with bs b) rest h q r =
        let p = both_none (in_binds bs s) (in_body K ds b (after_binds bs s)) q in
        ((h.0, all_more (named_in ds) (assignable (after_binds bs s)) (assignable s) (binds_less bs s) (expand X b) (all_known (after_binds bs s) b h.1 p.1)), r)
    one_known s at (while e b) rest h q r = ((h.0, all_known s b h.1 (both_none (in_whole e s) (in_body K ds b s) q).1), r)
    one_known s at (goto l) rest h q r = (h, r)
    one_known s at (macro m ts) rest h q r = followed (named_in ds) (assignable s) (X at m ts) rest (calls s at m ts h.1 (both_none (K s at.first m ts) (in_each ts s) q).0) r
    one_known s at (call p ts) rest h q r = ((call_known ds at.first p (count ts) (both_none (call_offences ds at.first p (count ts)) (in_each ts s) q).0, h.1), r)
    one_known s at return rest h q r = (tt, r)

    all_known : (s : Sight) (b : Statements) → AreTypedStatements b → in_body K ds b s ≡ [] → AreKnown (named_in ds) (assignable s) (expand X b)
    all_known s done h q = tt
    all_known s (then at st rest) h q =
        let p = both_none (in_one K ds at.first st s) (in_body K ds rest s) q in
        one_known s at st (expand X rest) h.0 p.0 (all_known s rest h.1 p.1)
    all_known s (mark l k rest) h q = (h.0, all_known s rest h.1 q)

    some_known : (s : Sight) (bs : Branches) → AreTypedBranches bs → in_branches K ds bs s ≡ [] → AllKnown (named_in ds) (assignable s) (expand_some X bs)
    some_known s no_branches h q = tt
    some_known s (or b bs) h q =
        let p = both_none (in_body K ds b s) (in_branches K ds bs s) q in
        (all_known s b h.0 p.0, some_known s bs h.1 p.1)

-- a parameter that is handed a variable
handed : (u : Option Use) (at : Place) → is_variable_use (Some (handed_use u at)) ≡ true → is_variable_use u ≡ true
handed None at q = cc
handed (Some (takes n)) at q = cc
handed (Some variable) at q = refl
handed (Some (argument p)) at q = cc
handed (Some (standard d b)) at q = cc
handed (Some unread) at q = cc

parameter_known : (o : Option Word) (at : Place) (s : Sight) → is_variable_use (Some (parameter_use o at s)) ≡ true → (y : Word) × (o ≡ Some y) × (assignable s y ≡ true)
parameter_known None at s q = cc
parameter_known (Some y) at s q = (y, refl, handed (use_of s y) at q)

parameters_sent : (ps : List Name) (ts : Trees) (s : Sight) → length ps ≡ count ts → Sends ps ts (assignable (seeing_parameters ps ts s s)) (assignable s)
parameters_sent [] ts s n x h = (x, refl, h)
parameters_sent (p ∷ ps) no_trees s n x h = absurd cc
parameters_sent (p ∷ ps) (tree t ts) s n x h = by (bytes_eq p.word x) h (parameters_sent ps ts s (omega arith) x)
  where
    by : (b : Bool) → is_variable_use (cond b (Some (parameter_use (root t) (root_place t) s)) (use_of (seeing_parameters ps ts s s) x)) ≡ true
        → (assignable (seeing_parameters ps ts s s) x ≡ true → (y : Word) × (variable_of (argument_for ps ts x) x ≡ Some y) × (assignable s y ≡ true))
        → (y : Word) × (variable_of (cond b (Some t) (argument_for ps ts x)) x ≡ Some y) × (assignable s y ≡ true)
    by true q k = parameter_known (root t) (root_place t) s q
    by false q k = k q

unnegated : (b : Bool) → not b ≡ false → b ≡ true
unnegated true e = refl
unnegated false e = cc

-- a call that doesn't offend is known, written out
abbrev IsKnownCall : List Procedure → List Macro → Type 0
IsKnownCall ds ms = (s : Sight) (at : Span) (m : Word) (ts : Trees) → AreWritable ts → macro_offences ms ds s at.first m ts ≡ [] → AreKnown (named_in ds) (assignable s) (written_out ms at m ts)

macros_known : (ds : List Procedure) (ms : List Macro) → AllByRecursion IsTypedMacro ms → IsKnownCall ds ms
macros_known ds [] k s at m ts w q = cc
macros_known ds (d ∷ older) k s at m ts w q = by (macros_known ds older k.1) (bytes_eq d.name.word m) q
  where
    by : IsKnownCall ds older → (b : Bool) → cond b (offence_if (not (nat_eq (length d.params) (count ts))) Arity at.first ++ in_body (macro_offences older ds) ds d.body (seeing_parameters d.params ts s s)) (macro_offences older ds s at.first m ts) ≡ []
        → AreKnown (named_in ds) (assignable s) (cond b (graft_all (arguments d.params ts) (expand (written_out older) d.body)) (written_out older at m ts))
    by f true e =
        let p = both_none (offence_if (not (nat_eq (length d.params) (count ts))) Arity at.first) _ e in
        let n = eqb-true (length d.params) (count ts) (unnegated (nat_eq (length d.params) (count ts)) (no_offence (not (nat_eq (length d.params) (count ts))) Arity at.first p.0)) in
        all_put (named_in ds) (assignable (seeing_parameters d.params ts s s)) (assignable s) d.params ts w (parameters_sent d.params ts s n) (expand (written_out older) d.body)
        (all_known ds (macro_offences older ds) (written_out older) f (seeing_parameters d.params ts s s) d.body k.0.2.1 p.1)
    by f false e = f s at m ts w e

-- the statements of a body
pub statements_known : (ds : List Procedure) (ms : List Macro) → AllByRecursion IsTypedMacro ms → (s : Sight) (b : Statements) → AreTypedStatements b → in_body (macro_offences ms ds) ds b s ≡ [] → AreKnown (named_in ds) (assignable s) (expand (written_out ms) b)
statements_known ds ms k s b h q = all_known ds (macro_offences ms ds) (written_out ms) (macros_known ds ms k) s b h q
