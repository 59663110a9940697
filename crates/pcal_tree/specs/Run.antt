-- What statements do within one step: all courses that they can take ("A PlusCal User's Manual", section 3.2, the statements).
use Rattle.std.specs.Prelude.{◌≡◌, List, [], ◌∷◌, Bool, true, false, cond, bytes_eq, Some, None, ◌⊎◌, Ok, Err}
use Rattle.tla_token.specs.declared.place.Place.{Place}
use Rattle.tla_tree.specs.Tree.{Word, Trees, tree, Graft}
use Rattle.tla_value.specs.declared.fault.FaultKind.TheVariants.{AssertFailed}
use Rattle.tla_value.specs.Value.{Value, Values, no_values, and, Trouble, fault, Outcome}
use Rattle.tla_value.specs.Stops.{Check}
use Rattle.tla_value.specs.Meaning.{evals, part_values}
use Rattle.pcal_tree.specs.Algorithm.{Name, Span, Binds, no_binds, one_of, is, Statement, assign, await, print, assert, skip, branch, either, with, while, goto, macro, call, return, Statements, done, then, mark, Branches, no_branches, or, Macro}
use Rattle.pcal_tree.specs.Scope.{State, Scope, bound, through, places_of, value_of, test, members}
use Rattle.pcal_tree.specs.Assign.{after_assignments}

-- ---- courses

-- the courses of a step: it ends in a state, or stops, or one of some courses is chosen at a statement
mutual
  pub data Course : Type 0 where
    ends : State → Course
    stops : Trouble → Course
    chooses : Place → Courses → Course

  pub data Courses : Type 0 where
    no_courses : Courses
    course : Course → Courses → Courses

-- nothing to choose: the step can't be taken
abbrev pub held : Place → Course
held at = chooses at no_courses

-- the outcomes of a course: end states and troubles
abbrev mutual
  pub Has : Course → Outcome State → Type 0
  Has (ends t) r = r ≡ Ok t
  Has (stops k) r = r ≡ Err k
  Has (chooses at cs) r = HasSome cs r

  pub HasSome : Courses → Outcome State → Type 0
  HasSome no_courses r = ⊥
  HasSome (course c cs) r = Has c r ⊎ HasSome cs r

abbrev pub after : {X : Type 0} → Outcome X → (X → Course) → Course
after (Ok x) go = go x
after (Err k) go = stops k

abbrev pub at_each : Values → (Value → Course) → Courses
at_each no_values go = no_courses
at_each (and v vs) go = course (go v) (at_each vs go)

-- ---- what surrounds a statement

-- what a call is one statement with, a pair: an unlabelled `goto` or `return` directly after it
pub data Partner : Type 0 where
  no_partner : Partner
  goto_partner : Word → Partner
  return_partner : Span → Partner

-- the list that directly follows a statement begins with its partner, if that is a call
abbrev pub partner_of : Statements → Partner
partner_of (then at (goto l) rest) = goto_partner l
partner_of (then at return rest) = return_partner at
partner_of _ = no_partner

abbrev pub is_pair : Partner → Bool
is_pair no_partner = false
is_pair _ = true

abbrev pub is_return : Partner → Bool
is_return (return_partner at) = true
is_return _ = false

-- what follows it: the label at which a later step goes on, which a call keeps, its partner, and the rest of this step
pub record Follow : Type 0 where
  pub label : Word
  pub partner : Partner
  pub goes : State → Course

-- what a step does but for its statements: limits, a jump to a label, a call with its arguments' places and values, the label that it keeps and its
-- partner, a return, and macro calls with the label and the place at which they are
pub record Rules : Type 0 where
  pub check : Check
  pub goto : Word → State → Course
  pub call : Place → Word → List Place → List Value → Word → Partner → State → Course
  pub return : Place → State → Course
  pub macros : Word → Place → Word → Trees → Scope → Follow → State → Course

-- no label: where a statement stands that has none
abbrev pub unlabelled : Word
unlabelled = []

-- the label of a list's first statement, or the exit where there is no statement
abbrev pub label_of : Statements → Word → Word
label_of done x = x
label_of (then at st rest) x = unlabelled
label_of (mark l m rest) x = l.word

-- ---- statements

-- each bind of a `with` in turn, seen by those after it, and then the body
abbrev pub run_binds : Check → Place → Binds → (Scope → State → Course) → Scope → State → Course
run_binds c at no_binds body sc s = body sc s
run_binds c at (one_of x e bs) body sc s =
    after (members c e sc s) (λ vs. chooses at (at_each vs (λ v. run_binds c at bs body (bound x.word v sc) s)))
run_binds c at (is x e bs) body sc s = after (value_of c e sc s) (λ v. run_binds c at bs body (bound x.word v sc) s)

-- `here` is the label at which the statement or list is; K is what follows it. A jump, call or return drops what follows, so a pair's second part too.
abbrev mutual
  pub run_one : Rules → Word → Place → Statement → Scope → Follow → State → Course
  run_one M here at (assign ms) sc K s = after (after_assignments M.check ms sc s) K.goes
  run_one M here at (await e) sc K s = after (test M.check e sc s) (λ t. cond t K.goes (λ u. held at) s)
  run_one M here at (print e) sc K s = after (value_of M.check e sc s) (λ v. K.goes s)
  run_one M here at (assert e) sc K s = after (test M.check e sc s) (λ t. cond t K.goes (λ u. stops (fault AssertFailed at)) s)
  run_one M here at skip sc K s = K.goes s
  run_one M here at (branch e a b) sc K s =
      after (test M.check e sc s) (λ t. cond t (run M unlabelled a sc K) (run M unlabelled b sc K) s)
  run_one M here at (either bs) sc K s = chooses at (run_branches M bs sc K s)
  run_one M here at (with bs b) sc K s = run_binds M.check at bs (λ inner. run M unlabelled b inner K) sc s
  run_one M here at (while e b) sc K s =
      after (test M.check e sc s) (λ t. cond t (run M unlabelled b sc (record { label = here; partner = no_partner; goes = M.goto here })) K.goes s)
  run_one M here at (goto l) sc K s = M.goto l s
  run_one M here at (macro m ts) sc K s = M.macros here at m ts sc K s
  run_one M here at (call p ts) sc K s =
      after (part_values (evals M.check ts) (sc.env s)) (λ vs. M.call at p.word (places_of ts sc) vs K.label K.partner s)
  run_one M here at return sc K s = M.return at s

  pub run : Rules → Word → Statements → Scope → Follow → State → Course
  run M here done sc K s = K.goes s
  run M here (then at st rest) sc K s =
      run_one M here at.first st sc (record { label = label_of rest K.label; partner = partner_of rest; goes = run M unlabelled rest sc K }) s
  run M here (mark l m rest) sc K s = M.goto l.word s

  pub run_branches : Rules → Branches → Scope → Follow → State → Courses
  run_branches M no_branches sc K s = no_courses
  run_branches M (or b bs) sc K s = course (run M unlabelled b sc K s) (run_branches M bs sc K s)

-- ---- macros

-- each parameter stands for its argument
abbrev pub arguments : List Name → Trees → Graft
arguments (p ∷ ps) (tree t ts) x at = cond (bytes_eq p.word x) (Some t) (arguments ps ts x at)
arguments _ _ x at = None

abbrev pub Calling : Type 0
Calling = Word → Place → Word → Trees → Scope → Follow → State → Course

abbrev pub with_calls : Rules → Calling → Rules
with_calls M f = record { check = M.check; goto = M.goto; call = M.call; return = M.return; macros = f }

-- the macros, the newest first. A call runs the body in the scope of the call; the body's own calls are of older macros.
abbrev pub called : Rules → List Macro → Calling
called M [] here at m ts sc K s = held at
called M (d ∷ older) here at m ts sc K s =
    cond (bytes_eq d.name.word m)
    (run (with_calls M (called M older)) here d.body (through M.check (arguments d.params ts) sc) K)
    (called M older here at m ts sc K) s

-- M's own macros are not looked at
abbrev pub with_macros : Rules → List Macro → Rules
with_macros M ms = with_calls M (called M ms)

-- where an end of the list goes to a label
abbrev pub exit_to : Rules → Word → Follow
exit_to M l = record { label = l; partner = no_partner; goes = M.goto l }
