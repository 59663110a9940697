-- How the units of a translation are spelled, each from column 1 on ("Specifying Systems", section 15.2; formulas of fairness, section 8.9).
use Rattle.std.specs.Prelude.{◌≡◌, ℕ, not, Bool, true, false, cond, IsTrue, List, [], ◌∷◌, Option, Some, None, codes}
use Rattle.tla_token.specs.declared.place.Place.{Place}
use Rattle.tla_token.specs.Words.{is_own}
use Rattle.tla_tree.specs.declared.op.Op.TheVariants as op
use Rattle.tla_tree.specs.Tree.{Word, Tree}
use Rattle.tla_tree.specs.Lexical.{TokenView, Token, sign, mark, key}
use Rattle.tla_tree.specs.Lexical as tk
use Rattle.tla_tree.specs.Spelling.{Phrase, Right, Good, spell, tree_of, word}
use Rattle.module_tree.specs.Module.{Body, all_of, some_of, Fairness, RegionUnit, constant_unit, variables_unit, definition_unit, vars_unit, process_set_unit, init_unit, action_unit, terminating_unit, next_unit, spec_unit, termination_unit}
use Rattle.module_tree.specs.Grammar.{Tokens, see, keyword, Names, spell_names, words_of, GoodNames, ListForm, spell_list, items_of, list_column, GoodList, CallForm, spell_call, call_of, GoodCall, WayForm, spell_way, way_of, GoodWay, spell_bullets, GoodSome, each}

-- ---- fairness

-- \A x \in S :
pub record OverForm : Type 0 where
  pub all : Place
  pub at : Place
  pub name : Word
  pub in_at : Place
  pub set : Phrase
  pub colon : Place

-- (e) /\
pub record GuardForm : Type 0 where
  pub left : Place
  pub test : Phrase
  pub right : Place
  pub and_at : Place

pub record FairForm : Type 0 where
  pub over : Option OverForm
  pub at : Place
  pub strong : Bool
  pub left : Place
  pub guard : Option GuardForm
  pub action : CallForm
  pub right : Place

abbrev pub spell_over : Option OverForm → Tokens
spell_over None r = r
spell_over (Some f) r = see f.all (key tk.for_all_key) (word f.at f.name (see f.in_at (sign op.In) (spell f.set (see f.colon (mark tk.colon) r))))

abbrev pub spell_guard : Option GuardForm → Tokens
spell_guard None r = r
spell_guard (Some f) r = see f.left (mark tk.open_bracket) (spell f.test (see f.right (mark tk.close_bracket) (see f.and_at (sign op.And) r)))

abbrev pub spell_fair : FairForm → Tokens
spell_fair f r =
    spell_over f.over (keyword f.at (cond f.strong (codes "SF_vars") (codes "WF_vars")) (see f.left (mark tk.open_bracket)
    (spell_guard f.guard (spell_call f.action (see f.right (mark tk.close_bracket) r)))))

abbrev pub over_of : Option OverForm → Option (Word × Tree)
over_of None = None
over_of (Some f) = Some (f.name, tree_of f.set)

abbrev pub guard_of : Option GuardForm → Option Tree
guard_of None = None
guard_of (Some f) = Some (tree_of f.test)

abbrev pub fairness_of : FairForm → Fairness
fairness_of f = record { over = over_of f.over; strong = f.strong; guard = guard_of f.guard; action = call_of f.action }

abbrev pub GoodOver : ℕ → Option OverForm → Type 0
GoodOver e None = Unit {0}
GoodOver e (Some f) = Right e f.all × Right e f.at × Right e f.in_at × Good e f.set × Right e f.colon

abbrev pub GoodGuard : ℕ → Option GuardForm → Type 0
GoodGuard e None = Unit {0}
GoodGuard e (Some f) = Right e f.left × Good e f.test × Right e f.right × Right e f.and_at

abbrev pub GoodFair : ℕ → FairForm → Type 0
GoodFair e f = GoodOver e f.over × Right e f.at × Right e f.left × GoodGuard e f.guard × GoodCall e f.action × Right e f.right

-- a conjunct of Spec
pub data SpecForm : Type 0 where
  start_line : Place → SpecForm  -- Init
  steps_line : Place → Place → Place → Place → Place → SpecForm  -- [][Next]_vars
  fair_line : FairForm → SpecForm

abbrev pub spell_spec : SpecForm → Tokens
spell_spec (start_line p) r = word p (codes "Init") r
spell_spec (steps_line p q s t u) r = see p (mark tk.box) (see q (mark tk.open_square) (word s (codes "Next") (see t (mark tk.close_square) (word u (codes "_vars") r))))
spell_spec (fair_line f) r = spell_fair f r

abbrev pub GoodSpec : ℕ → SpecForm → Type 0
GoodSpec e (start_line p) = Right e p
GoodSpec e (steps_line p q s t u) = Right e p × Right e q × Right e s × Right e t × Right e u
GoodSpec e (fair_line f) = GoodFair e f

abbrev pub fair_specs : List (Place × FairForm) → List (Place × SpecForm)
fair_specs [] = []
fair_specs (f ∷ fs) = (f.0, fair_line f.1) ∷ fair_specs fs

-- ---- units

-- (a, b), of a definition with parameters
pub record ParameterForm : Type 0 where
  pub left : Place
  pub names : Names
  pub right : Place

abbrev pub spell_parameters : Option ParameterForm → Tokens
spell_parameters None r = r
spell_parameters (Some f) r = see f.left (mark tk.open_bracket) (spell_names f.names (see f.right (mark tk.close_bracket) r))

abbrev pub parameters : Option ParameterForm → List Word
parameters None = []
parameters (Some f) = words_of f.names

abbrev pub GoodParameters : ℕ → Option ParameterForm → Type 0
GoodParameters e None = Unit {0}
GoodParameters e (Some f) = Right e f.left × GoodNames e f.names × Right e f.right

pub data BodyForm : Type 0 where
  all_form : ListForm → BodyForm
  some_form : List (Place × WayForm) → BodyForm

abbrev pub spell_body : BodyForm → Tokens
spell_body (all_form is) r = spell_list is r
spell_body (some_form ys) r = spell_bullets (sign op.Or) spell_way ys r

abbrev pub body_of : BodyForm → Body
body_of (all_form is) = all_of (items_of is)
body_of (some_form ys) = some_of (each way_of ys)

abbrev pub GoodBody : BodyForm → Type 0
GoodBody (all_form is) = Right 1 (record { line = 1; col = list_column is }) × GoodList (list_column is) is
GoodBody (some_form ys) = GoodSome GoodWay ys

pub data UnitForm : Type 0 where
  constant_form : Place → Names → UnitForm
  variables_form : Place → Names → UnitForm
  definition_form : Place → Word → Option ParameterForm → Place → Phrase → UnitForm
  vars_form : Place → Place → Place → Names → Place → UnitForm
  process_set_form : Place → Place → Phrase → UnitForm
  init_form : Place → Place → List (Place × Phrase) → UnitForm
  action_form : Place → Word → Option (Place × Place × Word × Place) → Place → BodyForm → UnitForm  -- the bracket, the parameter, the bracket
  terminating_form : Place → Place → Place → Place → Phrase → Place → Place → Place → Place → UnitForm  -- /\ (e) /\ UNCHANGED vars
  next_form : Place → Place → List (Place × WayForm) → UnitForm
  spec_form : Place → Place → Place → Place → Place → SpecForm → List (Place × FairForm) → UnitForm  -- /\ Init /\ [][Next]_vars, then formulas of fairness
  termination_form : Place → Place → Place → Place → Place → Phrase → Place → UnitForm  -- < > ( e )

abbrev pub titled : Place → Word → Place → Tokens
titled p x q r = word p x (see q (mark tk.defines) r)

abbrev pub spell_parameter : Option (Place × Place × Word × Place) → Tokens
spell_parameter None r = r
spell_parameter (Some f) r = see f.0 (mark tk.open_bracket) (word f.1 f.2 (see f.3 (mark tk.close_bracket) r))

abbrev pub spell_unit : UnitForm → Tokens
spell_unit (constant_form p ns) r = keyword p (codes "CONSTANT") (spell_names ns r)
spell_unit (variables_form p ns) r = keyword p (codes "VARIABLES") (spell_names ns r)
spell_unit (definition_form p x f q a) r = word p x (spell_parameters f (see q (mark tk.defines) (spell a r)))
spell_unit (vars_form p q s ns t) r = titled p (codes "vars") q (see s (mark tk.open_tuple) (spell_names ns (see t (mark tk.close_tuple) r)))
spell_unit (process_set_form p q a) r = titled p (codes "ProcSet") q (spell a r)
spell_unit (init_form p q es) r = titled p (codes "Init") q (spell_bullets (sign op.And) spell es r)
spell_unit (action_form p x f q b) r = word p x (spell_parameter f (see q (mark tk.defines) (spell_body b r)))
spell_unit (terminating_form p q s t a u v w z) r =
    titled p (codes "Terminating") q (see s (sign op.And) (see t (mark tk.open_bracket) (spell a (see u (mark tk.close_bracket)
    (see v (sign op.And) (keyword w (codes "UNCHANGED") (word z (codes "vars") r)))))))
spell_unit (next_form p q ys) r = titled p (codes "Next") q (spell_bullets (sign op.Or) spell_way ys r)
spell_unit (spec_form p q s t u f fs) r = titled p (codes "Spec") q (spell_bullets (sign op.And) spell_spec ((s, start_line t) ∷ (u, f) ∷ fair_specs fs) r)
spell_unit (termination_form p q s t u a v) r =
    titled p (codes "Termination") q (see s (sign op.Less) (see t (sign op.Greater) (see u (mark tk.open_bracket) (spell a (see v (mark tk.close_bracket) r)))))

abbrev pub parameter_of : Option (Place × Place × Word × Place) → Option Word
parameter_of None = None
parameter_of (Some f) = Some f.2

abbrev pub unit_of : UnitForm → RegionUnit
unit_of (constant_form p ns) = constant_unit (words_of ns)
unit_of (variables_form p ns) = variables_unit (words_of ns)
unit_of (definition_form p x f q a) = definition_unit (record { title = x; params = parameters f; body = tree_of a; outside = false })
unit_of (vars_form p q s ns t) = vars_unit (words_of ns)
unit_of (process_set_form p q a) = process_set_unit (tree_of a)
unit_of (init_form p q es) = init_unit (each tree_of es)
unit_of (action_form p x f q b) = action_unit (record { title = x; parameter = parameter_of f; body = body_of b })
unit_of (terminating_form p q s t a u v w z) = terminating_unit (tree_of a)
unit_of (next_form p q ys) = next_unit (each way_of ys)
unit_of (spec_form p q s t u f fs) = spec_unit (each fairness_of fs)
unit_of (termination_form p q s t u a v) = termination_unit (tree_of a)

-- the body of a definition begins with no bullet: what does is an action
abbrev pub begins_list : List Token → Bool
begins_list [] = false
begins_list (t ∷ ts) = is_bullet t.kind
  where
    is_bullet : TokenView → Bool
    is_bullet (sign op.And) = true
    is_bullet (sign op.Or) = true
    is_bullet _ = false

abbrev pub is_steps : SpecForm → Bool
is_steps (steps_line p q s t u) = true
is_steps _ = false

abbrev pub GoodParameter : Option (Place × Place × Word × Place) → Type 0
GoodParameter None = Unit {0}
GoodParameter (Some f) = Right 1 f.0 × Right 1 f.1 × Right 1 f.3

-- all but the first token stand right of column 1
abbrev pub GoodUnit : UnitForm → Type 0
GoodUnit (constant_form p ns) = GoodNames 1 ns
GoodUnit (variables_form p ns) = GoodNames 1 ns
GoodUnit (definition_form p x f q a) = IsTrue (not (is_own x)) × GoodParameters 1 f × Right 1 q × Good 1 a × IsTrue (not (begins_list (spell a [])))
GoodUnit (vars_form p q s ns t) = Right 1 q × Right 1 s × GoodNames 1 ns × Right 1 t
GoodUnit (process_set_form p q a) = Right 1 q × Good 1 a
GoodUnit (init_form p q es) = Right 1 q × GoodSome Good es
GoodUnit (action_form p x f q b) = IsTrue (not (is_own x)) × GoodParameter f × Right 1 q × GoodBody b
GoodUnit (terminating_form p q s t a u v w z) = Right 1 q × Right 1 s × Right s.col t × Good s.col a × Right s.col u × (v.col ≡ s.col) × Right s.col w × Right s.col z
GoodUnit (next_form p q ys) = Right 1 q × GoodSome GoodWay ys
GoodUnit (spec_form p q s t u f fs) = Right 1 q × IsTrue (is_steps f) × GoodSome GoodSpec ((s, start_line t) ∷ (u, f) ∷ fair_specs fs)
GoodUnit (termination_form p q s t u a v) = Right 1 q × Right 1 s × Right 1 t × Right 1 u × Good 1 a × Right 1 v

-- these tokens are that unit
abbrev pub IsUnit : List Token → RegionUnit → Type 0
IsUnit ts u = (f : UnitForm) × GoodUnit f × (ts ≡ spell_unit f []) × (unit_of f ≡ u)
