-- What statements do within one step under limits.
use Rattle.std.proofs.Common.{◌≡◌, List, [], ◌∷◌, bytes_eq, refl, ap, subst}
use Rattle.tla_token.specs.declared.place.Place.{Place}
use Rattle.tla_tree.specs.Tree.{Word, Trees}
use Rattle.tla_value.specs.declared.fault.FaultKind.TheVariants.{AssertFailed}
use Rattle.tla_value.specs.Value.{Value, fault}
use Rattle.tla_value.specs.Limits.{bounded}
use Rattle.tla_value.specs.Stops.{Check, plain}
use Rattle.tla_value.specs.Meaning.{evals, part_values}
use Rattle.pcal_tree.specs.Algorithm.{Binds, no_binds, one_of, is, Statement, assign, await, print, assert, skip, branch, either, with, while, goto, macro, call, return, Statements, done, then, mark, Branches, no_branches, or, Macro}
use Rattle.pcal_tree.specs.Scope.{State, Scope, bound, places_of, value_of, test, members}
use Rattle.pcal_tree.specs.Assign.{after_assignments}
use Rattle.pcal_tree.specs.Run.{Course, stops, held, Partner, no_partner, partner_of, Follow, Rules, unlabelled, label_of, run_binds, run_one, run, run_branches, arguments, Calling, with_calls, called}
use Rattle.run_answer.proofs.Outcomes.{CourseBelow, course_same, after_below, CoursesBelow, chooses_below, each_below, cond_below}
use Rattle.run_answer.proofs.Scopes.{ScopesBelow, bound_scope, of_places, value_below, test_below, members_below, values_below, through_scope, assignments_below}

-- what follows
pub record FollowBelow (K L : Follow) : Type 0 where
  pub label : K.label ≡ L.label
  pub partner : K.partner ≡ L.partner
  pub goes : (s : State) → CourseBelow (K.goes s) (L.goes s)

abbrev pub CallingBelow : Calling → Calling → Type 0
CallingBelow f g =
    (here : Word) (at : Place) (m : Word) (ts : Trees) (sc sd : Scope) (K L : Follow) (s : State) → ScopesBelow sc sd → FollowBelow K L → CourseBelow (f here at m ts sc K s) (g here at m ts sd L s)

-- what a step does but for its statements and macro calls
pub record PartsBelow (M N : Rules) : Type 0 where
  pub goto : (l : Word) (s : State) → CourseBelow (M.goto l s) (N.goto l s)
  pub call : (at : Place) (p : Word) (places : List Place) (vs : List Value) (l : Word) (j : Partner) (s : State) → CourseBelow (M.call at p places vs l j s) (N.call at p places vs l j s)
  pub return : (at : Place) (s : State) → CourseBelow (M.return at s) (N.return at s)

abbrev pub limited : Check → Rules → Rules
limited c M = record { check = c; goto = M.goto; call = M.call; return = M.return; macros = M.macros }

-- ---- the binds of a `with`

binds_below : (at : Place) (bs : Binds) (f g : Scope → State → Course) (sc sd : Scope) (s : State) → ((sc sd : Scope) → ScopesBelow sc sd → CourseBelow (f sc s) (g sd s)) → ScopesBelow sc sd
    → CourseBelow (run_binds bounded at bs f sc s) (run_binds plain at bs g sd s)
binds_below at no_binds f g sc sd s h k = h sc sd k
binds_below at (one_of x e bs) f g sc sd s h k =
    after_below (members bounded e sc s) (members plain e sd s) _ _ (members_below e sc sd s k)
    (λ vs. chooses_below at _ _ (each_below vs _ _ (λ v. binds_below at bs f g (bound x.word v sc) (bound x.word v sd) s h (bound_scope x.word v sc sd k))))
binds_below at (is x e bs) f g sc sd s h k =
    after_below (value_of bounded e sc s) (value_of plain e sd s) _ _ (value_below e sc sd s k) (λ v. binds_below at bs f g (bound x.word v sc) (bound x.word v sd) s h (bound_scope x.word v sc sd k))

-- ---- statements

module _ (M' N' : Rules) (parts : PartsBelow M' N') (calls : CallingBelow M'.macros N'.macros) where
  abbrev M : Rules
  M = limited bounded M'

  abbrev N : Rules
  N = limited plain N'

  mutual
    one_below : (here : Word) (at : Place) (st : Statement) (sc sd : Scope) (K L : Follow) (s : State) → ScopesBelow sc sd → FollowBelow K L → CourseBelow (run_one M here at st sc K s) (run_one N here at st sd L s)
    one_below here at (assign ms) sc sd K L s k f = after_below (after_assignments bounded ms sc s) (after_assignments plain ms sd s) K.goes L.goes (assignments_below ms sc sd s k) f.goes
    one_below here at (await e) sc sd K L s k f =
        after_below (test bounded e sc s) (test plain e sd s) _ _ (test_below e sc sd s k) (λ t. cond_below t K.goes (λ u. held at) L.goes (λ u. held at) s (f.goes s) (course_same (held at)))
    one_below here at (print e) sc sd K L s k f = after_below (value_of bounded e sc s) (value_of plain e sd s) _ _ (value_below e sc sd s k) (λ v. f.goes s)
    one_below here at (assert e) sc sd K L s k f =
        after_below (test bounded e sc s) (test plain e sd s) _ _ (test_below e sc sd s k)
        (λ t. cond_below t K.goes (λ u. stops (fault AssertFailed at)) L.goes (λ u. stops (fault AssertFailed at)) s (f.goes s) (course_same (stops (fault AssertFailed at))))
    one_below here at skip sc sd K L s k f = f.goes s
    one_below here at (branch e a b) sc sd K L s k f =
        after_below (test bounded e sc s) (test plain e sd s) _ _ (test_below e sc sd s k)
        (λ t. cond_below t (run M unlabelled a sc K) (run M unlabelled b sc K) (run N unlabelled a sd L) (run N unlabelled b sd L) s (list_below unlabelled a sc sd K L s k f) (list_below unlabelled b sc sd K L s k f))
    one_below here at (either bs) sc sd K L s k f = chooses_below at (run_branches M bs sc K s) (run_branches N bs sd L s) (branches_below bs sc sd K L s k f)
    one_below here at (with bs b) sc sd K L s k f =
        binds_below at bs (λ inner. run M unlabelled b inner K) (λ inner. run N unlabelled b inner L) sc sd s (λ i j l. list_below unlabelled b i j K L s l f) k
    one_below here at (while e b) sc sd K L s k f =
        let again : Follow = record { label = here; partner = no_partner; goes = M.goto here } in
        let back : Follow = record { label = here; partner = no_partner; goes = N.goto here } in
        after_below (test bounded e sc s) (test plain e sd s) _ _ (test_below e sc sd s k)
        (λ t. cond_below t (run M unlabelled b sc again) K.goes (run N unlabelled b sd back) L.goes s
        (list_below unlabelled b sc sd again back s k (record { label = refl; partner = refl; goes = parts.goto here })) (f.goes s))
    one_below here at (goto x) sc sd K L s k f = parts.goto x s
    one_below here at (macro m ts) sc sd K L s k f = calls here at m ts sc sd K L s k f
    one_below here at (call p ts) sc sd K L s k f =
        after_below (part_values (evals bounded ts) (sc.env s)) (part_values (evals plain ts) (sd.env s)) _ _ (values_below ts (sc.env s) (sd.env s) (k.env s))
        (λ vs. subst (λ (c : Course). CourseBelow (M.call at p.word (places_of ts sc) vs K.label K.partner s) c)
        (λ i. N.call at p.word (of_places ts sc sd k i) vs (f.label i) (f.partner i) s)
        (parts.call at p.word (places_of ts sc) vs K.label K.partner s))
    one_below here at return sc sd K L s k f = parts.return at s

    pub list_below : (here : Word) (ss : Statements) (sc sd : Scope) (K L : Follow) (s : State) → ScopesBelow sc sd → FollowBelow K L → CourseBelow (run M here ss sc K s) (run N here ss sd L s)
    list_below here done sc sd K L s k f = f.goes s
    list_below here (then at st rest) sc sd K L s k f =
        one_below here at.first st sc sd (record { label = label_of rest K.label; partner = partner_of rest; goes = run M unlabelled rest sc K }) (record { label = label_of rest L.label; partner = partner_of rest; goes = run N unlabelled rest sd L }) s k
        (record { label = ap (label_of rest) f.label; partner = refl; goes = λ t. list_below unlabelled rest sc sd K L t k f })
    list_below here (mark x m rest) sc sd K L s k f = parts.goto x.word s

    branches_below : (bs : Branches) (sc sd : Scope) (K L : Follow) (s : State) → ScopesBelow sc sd → FollowBelow K L → CoursesBelow (run_branches M bs sc K s) (run_branches N bs sd L s)
    branches_below no_branches sc sd K L s k f = tt
    branches_below (or b bs) sc sd K L s k f = (list_below unlabelled b sc sd K L s k f, branches_below bs sc sd K L s k f)

-- ---- macros

pub macros_below : (M N : Rules) → PartsBelow M N → (ms : List Macro) → CallingBelow (called (limited bounded M) ms) (called (limited plain N) ms)
macros_below M N parts [] here at m ts sc sd K L s k f = course_same (held at)
macros_below M N parts (d ∷ older) here at m ts sc sd K L s k f =
    cond_below (bytes_eq d.name.word m) _ _ _ _ s
    (list_below (with_calls (limited bounded M) (called (limited bounded M) older)) (with_calls (limited plain N) (called (limited plain N) older))
    (record { goto = parts.goto; call = parts.call; return = parts.return }) (macros_below M N parts older) here d.body _ _ K L s (through_scope (arguments d.params ts) sc sd k) f)
    (macros_below M N parts older here at m ts sc sd K L s k f)
