-- Where labels must be, and variables assigned twice in a step ("A PlusCal User's Manual", section 3.7, labels).
use Rattle.std.specs.Prelude.{List, [], ◌∷◌, ◌++◌, Bool, true, false, ◌||◌, cond, bytes_eq, Option, Some, None}
use Rattle.std.specs.List.{list_any, flat_map}
use Rattle.std.specs.Option.{option_or}
use Rattle.tla_token.specs.declared.place.Place.{Place}
use Rattle.tla_token.specs.declared.rule.Rule.{Rule}
use Rattle.tla_token.specs.declared.rule.Rule.TheVariants.{FirstLabel, WhileLabel, AfterJump, AfterBranch, AssignTwice}
use Rattle.tla_token.specs.declared.rule.Refusal.{Refusal}
use Rattle.tla_tree.specs.Tree.{Word, Trees, Graft}
use Rattle.pcal_tree.specs.Algorithm.{Name, Statement, branch, either, with, while, goto, macro, call, return, Statements, done, then, mark, Branches, no_branches, or, Macro, Procedure}
use Rattle.pcal_tree.specs.Run.{Partner, return_partner, partner_of, is_pair, arguments}
use Rattle.pcal_tree.specs.Expand.{graft_all}
use Rattle.pcal_tree.specs.Offences.{offence, offence_if}
use Rattle.pcal_tree.specs.Paths.{Effect, Effects, sets_once, nothing, assigned, Path, after_one, is_reached, has_assigned}
use Rattle.pcal_tree.specs.Variables.{declared}

-- ---- where labels must be

-- a statement that holds a label, `call`, `return` or `goto`
abbrev mutual
  pub holds_one : Statement → Bool
  holds_one (branch e a b) = holds a || holds b
  holds_one (either bs) = holds_some bs
  holds_one (with bs b) = holds b
  holds_one (while e b) = holds b
  holds_one (goto n) = true
  holds_one (call p ts) = true
  holds_one return = true
  holds_one _ = false

  pub holds : Statements → Bool
  holds done = false
  holds (mark n k rest) = true
  holds (then at st rest) = holds_one st || holds rest

  pub holds_some : Branches → Bool
  holds_some no_branches = false
  holds_some (or b bs) = holds b || holds_some bs

-- the rule by which the statement after this one needs a label: a call's partner needs none
abbrev pub due_after : Statement → Partner → Option Rule
due_after (goto n) j = Some AfterJump
due_after (call p ts) j = cond (is_pair j) None (Some AfterJump)
due_after return j = Some AfterJump
due_after (branch e a b) j = cond (holds a || holds b) (Some AfterBranch) None
due_after (either bs) j = cond (holds_some bs) (Some AfterBranch) None
due_after (with bs b) j = cond (holds b) (Some AfterBranch) None
due_after _ j = None

-- what is before a statement: a label, or the rule by which one must be there, and the path that leads to it
pub record Before : Type 0 where
  pub labelled : Bool
  pub due : Option Rule
  pub path : Path

abbrev pub at_label : Before
at_label = record { labelled = true; due = None; path = Some [] }

-- at the first statement of a body
abbrev pub at_first : Option Rule → Before
at_first r = record { labelled = false; due = r; path = Some [] }

-- at the first statement inside another
abbrev pub inside : Path → Before
inside p = record { labelled = false; due = None; path = p }

abbrev pub next : Effects → Before → Statement → Partner → Before
next E p st j = record { labelled = false; due = due_after st j; path = after_one E st p.labelled p.path }

-- a statement with what is before it, and the partner that it has if it is a call
pub record Visit : Type 0 where
  pub before : Before
  pub place : Place
  pub statement : Statement
  pub partner : Partner

-- all statements, those inside others too, in the order of the text
abbrev mutual
  pub visits_inside : Effects → Before → Statement → List Visit
  visits_inside E p (branch e a b) = visits E (inside p.path) a ++ visits E (inside p.path) b
  visits_inside E p (either bs) = visits_of_some E (inside p.path) bs
  visits_inside E p (with bs b) = visits E (inside p.path) b
  visits_inside E p (while e b) = visits E (inside (after_one E (while e b) p.labelled p.path)) b
  visits_inside E p _ = []

  pub visits : Effects → Before → Statements → List Visit
  visits E p done = []
  visits E p (mark n k rest) = visits E at_label rest
  visits E p (then at st rest) =
      record { before = p; place = at.first; statement = st; partner = partner_of rest } ∷ (visits_inside E p st ++ visits E (next E p st (partner_of rest)) rest)

  pub visits_of_some : Effects → Before → Branches → List Visit
  visits_of_some E p no_branches = []
  visits_of_some E p (or b bs) = visits E p b ++ visits_of_some E p bs

abbrev pub due_offence : Option Rule → Place → List Refusal
due_offence None at = []
due_offence (Some r) at = offence r at

abbrev pub while_offence : Statement → Place → List Refusal
while_offence (while e b) at = offence WhileLabel at
while_offence _ at = []

-- a label is missing before the statement
abbrev pub missing_label : Visit → List Refusal
missing_label v = cond v.before.labelled [] (due_offence v.before.due v.place ++ while_offence v.statement v.place)

-- a call that is one statement with a `return` assigns what the `return` assigns: the called procedure's variables are these, or are assigned by nothing
-- else in the step
abbrev pub effect_with : Effects → Statement → Partner → Effect
effect_with E (call p ts) (return_partner at) = E return
effect_with E st j = E st

abbrev pub effect_at : Effects → Visit → Effect
effect_at E v = effect_with E v.statement v.partner

-- it assigns what some path to it, or the statement itself, has assigned
abbrev pub assigns_twice : Effects → Visit → Bool
assigns_twice E v = (effect_at E v).twice || has_assigned v.before.path (effect_at E v).variables

abbrev pub offences_at : Effects → Visit → List Refusal
offences_at E v = missing_label v ++ offence_if (assigns_twice E v) AssignTwice v.place

abbrev pub step_offences : Effects → Before → Statements → List Refusal
step_offences E p b = flat_map (offences_at E) (visits E p b)

-- ---- what macro calls assign

-- in a macro's body, where macro calls assign what C says
abbrev pub in_macro : (Word → Trees → Effect) → Effects
in_macro C (macro m ts) = C m ts
in_macro C st = assigned st

-- from the beginning of a macro's body
abbrev pub body_visits : Effects → Statements → List Visit
body_visits E b = visits E (inside (Some [])) b

abbrev pub reached_variables : Effects → Visit → List Word
reached_variables E v = cond (is_reached v.before.path) (effect_at E v).variables []

-- what the statements assign on any path, and whether one of them assigns twice
abbrev pub effect_of_body : Effects → Statements → Effect
effect_of_body E b = record { variables = flat_map (reached_variables E) (body_visits E b); twice = list_any (assigns_twice E) (body_visits E b) }

-- what stands for a name in a macro's body: its argument, and for a name that is no parameter what stands for it where the call is
abbrev pub called_with : List Name → Trees → Graft → Graft
called_with ps ts g x at = option_or (arguments ps ts x at) (g x at)

-- that of the body with what stands for its names, where g stands for names around the call and has been put into its arguments. The macros are given with
-- the newest first, and each calls older ones. A call of no macro assigns nothing.
abbrev pub effect_within : List Macro → Graft → Word → Trees → Effect
effect_within [] g m ts = nothing
effect_within (d ∷ older) g m ts =
    cond (bytes_eq d.name.word m)
    (effect_of_body (in_macro (effect_within older (called_with d.params ts g))) (graft_all (called_with d.params ts g) d.body))
    (effect_within older g m ts)

-- outside macros each name stands for itself
abbrev pub nothing_put : Graft
nothing_put x at = None

abbrev pub call_effect : List Macro → Word → Trees → Effect
call_effect ms m ts = effect_within ms nothing_put m ts

-- ---- bodies

-- in a procedure of this name with these parameters and variables, or outside one; `call` assigns those of its procedure, and those of
-- another one are assigned by nothing else in the step
abbrev pub effects_in : (Word → Trees → Effect) → Option Name → List Word → Effects
effects_in C p xs (macro m ts) = C m ts
effects_in C (Some p) xs (call q ts) = cond (bytes_eq p.word q.word) (sets_once xs) nothing
effects_in C p xs return = sets_once xs
effects_in C p xs st = assigned st

abbrev pub procedure_effects : (Word → Trees → Effect) → Procedure → Effects
procedure_effects C p = effects_in C (Some p.name) (declared (p.params ++ p.variables))

abbrev pub outer_effects : (Word → Trees → Effect) → Effects
outer_effects C = effects_in C None []

-- what a macro assigns is looked at where it is called alone
abbrev pub missing_in_macro : Macro → List Refusal
missing_in_macro d = step_offences (λ st. nothing) (at_first None) d.body

abbrev pub missing_in_body : Effects → Statements → List Refusal
missing_in_body E b = step_offences E (at_first (Some FirstLabel)) b
