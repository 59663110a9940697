-- Entries of a procedure in memory, in the parts in which they are made.
use Rattle.std.proofs.Common.{◌≡◌, ℕ, zero, suc, ◌+◌, ◌<◌, ◌≤◌, List, [], ◌∷◌, ◌++◌, length, map, drop, get_or, cond, codes, refl, sym, ap, subst, ◌∙◌, arith, Option, Ok, Result}
use Rattle.std.proofs.lemmas.List.{drop_more, drop_all}
use Rattle.std.specs.Option.{option_copied}
use Rattle.tla_token.specs.declared.place.Place.{Place}
use Rattle.tla_tree.specs.Tree.{Word, Each, Tree}
use Rattle.tla_tree.specs.Pool as pool
use Rattle.tla_value.specs.declared.stop.EvalStop.{EvalStop}
use Rattle.tla_value.specs.Value.{Value, text, Outcome, ◌>>=◌}
use Rattle.tla_value.specs.Order.{seq_from, record_from}
use Rattle.tla_value.specs.Limits.{bounded}
use Rattle.pcal_tree.specs.declared.algorithm.Declaration.{Declaration}
use Rattle.pcal_tree.specs.Algorithm.{Routine, locals}
use Rattle.pcal_tree.specs.InMemory.{start_at, declaration_at, declarations_at}
use Rattle.pcal_tree.specs.declared.algorithm.Start.{Start}
use Rattle.pcal_tree.specs.declared.algorithm.Start.TheVariants as start
use Rattle.pcal_tree.specs.Scope.{State, Scope, value_of}
use Rattle.pcal_tree.specs.Assign as pure
use Rattle.pcal_tree.specs.Program.{Program, Actor, index, local_index}
use Rattle.pcal_tree.specs.Calls.{label_value, first_label, setting, frame, all_read, on_stack, argument_settings, initial_place}
use Rattle.pcal_tree.specs.Variables.{pc, declared, written_all}
use Rattle.action_builder.specs.laws.WrittenScope.{written_scope}
use Rattle.value_forms.specs.Gives.{Stops, Tells}
use Rattle.value_forms.proofs.StopLaws.{then_stops}
use Rattle.written_names.specs.Units.{naming_of}
use Rattle.step_walks.specs.FirstValues.{Evaluation}
use Rattle.step_walks.specs.WrittenCalls.{first_value, variables_by, entered_keeping_by, entered_by}
use Rattle.step_spots.specs.declared.routine.Routine as spots
use Rattle.step_spots.specs.InMemory.{routine_at}
use Rattle.step_moves.specs.Programs.{program_at}
use Rattle.step_moves.specs.declared.runner.Runner.{Runner}
use Rattle.step_moves.specs.Prepared.{as_prepared, started, given}
use Rattle.step_moves.specs.Runners.{names_of, written_names, IsReady}
use Rattle.step_moves.proofs.CallForms.{variables_step, keeping_form}

-- ---- names of what is called

pub declared_at : (ts : List Tree) (ds : List Declaration) → declared (declarations_at ts ds) ≡ names_of ds
declared_at ts [] = refl
declared_at ts (d ∷ ds) = ap (λ (xs : List Word). d.name.word ∷ xs) (declared_at ts ds)

pub locals_at : (ts : List Tree) (us ds : List Declaration) → declared (declarations_at ts us ++ declarations_at ts ds) ≡ names_of us ++ names_of ds
locals_at ts [] ds = declared_at ts ds
locals_at ts (u ∷ us) ds = ap (λ (xs : List Word). u.name.word ∷ xs) (locals_at ts us ds)

pub callee_names : (r : Runner) (c : spots.Routine) → written_all (program_at r.program) (routine_at r.program.pool.now c) (locals (routine_at r.program.pool.now c)) ≡ written_names r.program c
callee_names r c = ap (map ((naming_of r.program.naming.now).local c.number)) (locals_at r.program.pool.now c.params.now c.variables.now)

-- those of the first are such names
pub params_known : (N : Word → Type 0) (f : Word → Word) (xs ys : List Word) → Each N (map f (xs ++ ys)) → Each N (map f xs)
params_known N f [] ys h = tt
params_known N f (x ∷ xs) ys h = (h.0, params_known N f xs ys h.1)

each_item : (N : Word → Type 0) (f : Word → Word) (ds : List Declaration) (i : ℕ) (d : Declaration) → i < length ds → d ≡ get_or ds i d → Each N (map f (names_of ds)) → N (f d.name.word)
each_item N f [] i d less is h = absurd (omega (arith, less))
each_item N f (x ∷ ds) zero d less is h = subst (λ (y : Declaration). N (f y.name.word)) (sym is) h.0
each_item N f (x ∷ ds) (suc i) d less is h = each_item N f ds i d (omega (arith, less)) is h.1

pub variable_known : (N : Word → Type 0) (f : Word → Word) (xs : List Word) (ds : List Declaration) (i : ℕ) (d : Declaration) → i < length ds → d ≡ get_or ds i d → Each N (map f (xs ++ names_of ds)) → N (f d.name.word)
variable_known N f [] ds i d less is h = each_item N f ds i d less is h
variable_known N f (x ∷ xs) ds i d less is h = variable_known N f xs ds i d less is h.1

-- ---- the stack and parameters

abbrev pub pushing : Runner → Place → Value → pure.Setting
pushing r at new = setting at r.stack.now (index (option_copied r.identifier)) new

abbrev pub giving : Runner → spots.Routine → List Place → List Value → List pure.Setting
giving r c places vs =
    argument_settings (cond c.spread (index (option_copied r.identifier)) []) (map ((naming_of r.program.naming.now).local c.number) (names_of c.params.now)) places vs

module _ (r : Runner) (v : Actor) (c : spots.Routine) (g : IsReady r) (e : v.self ≡ option_copied r.identifier) (at : Place) (front : Value) (places : List Place) (vs : List Value) (s : State) where
  abbrev given_all : Outcome State
  given_all = given (program_at r.program) v (routine_at r.program.pool.now c) at front places vs s

  abbrev set_both : Value → Outcome State
  set_both new = (pure.set_one bounded (pushing r at new) s) >>= (pure.set_all bounded (giving r c places vs))

  abbrev push_on : List Value → Outcome State
  push_on frames = (bounded at (seq_from (front ∷ frames))) >>= set_both

  given_form : given_all ≡ (on_stack v at s) >>= push_on
  given_form =
      λ i. (on_stack v at s) >>= (λ frames. (bounded at (seq_from (front ∷ frames))) >>= (λ new. (pure.set_one bounded (setting at (sym g.stack_is i) (index (e i)) new) s) >>= (pure.set_all bounded
      (argument_settings (cond c.spread (index (e i)) []) (map ((naming_of r.program.naming.now).local c.number) (declared_at r.program.pool.now c.params.now i)) places vs))))

  -- there is no stack
  pub given_no_stack : (stop : EvalStop) → Stops stop (on_stack v at s) → Stops stop given_all
  given_no_stack stop h = subst (Stops stop) (sym given_form) (then_stops stop (on_stack v at s) push_on h)

  module _ (frames : List Value) (ef : on_stack v at s ≡ Ok frames) where
    after_stack : given_all ≡ push_on frames
    after_stack = given_form ∙ ap (λ (o : Outcome (List Value)). o >>= push_on) ef

    -- the stack is past the limits
    pub given_over : (stop : EvalStop) → Stops stop (bounded at (seq_from (front ∷ frames))) → Stops stop given_all
    given_over stop h = subst (Stops stop) (sym after_stack) (then_stops stop (bounded at (seq_from (front ∷ frames))) set_both h)

    module _ (new : Value) (en : bounded at (seq_from (front ∷ frames)) ≡ Ok new) where
      after_push : given_all ≡ set_both new
      after_push = after_stack ∙ ap (λ (o : Outcome Value). o >>= set_both) en

      -- the stack can't be set
      pub given_unset : (stop : EvalStop) → Stops stop (pure.set_one bounded (pushing r at new) s) → Stops stop given_all
      given_unset stop h = subst (Stops stop) (sym after_push) (then_stops stop (pure.set_one bounded (pushing r at new) s) (pure.set_all bounded (giving r c places vs)) h)

      -- the stack is set
      pub given_last : (t : State) → pure.set_one bounded (pushing r at new) s ≡ Ok t → given_all ≡ pure.set_all bounded (giving r c places vs) t
      given_last t et = after_push ∙ ap (λ (o : Outcome State). o >>= (pure.set_all bounded (giving r c places vs))) et

-- ---- a first value

pub first_equals : (P : Program) (ts : List Tree) (v : Actor) (p : Routine) (at : Place) (one : Start) (e : ℕ) (sc : Scope) (s : State) (r : Result Value EvalStop) → one ≡ start.Equals e → sc ≡ written_scope P [] v
    → Tells r (value_of P.check (pool.at ts e) sc s) → Tells r (first_value (as_prepared P) v p at (start_at ts one) s)
first_equals P ts v p at one e sc s r is b h =
    subst (λ (o : Outcome Value). Tells r o) ((λ i. value_of P.check (pool.at ts e) (b i) s) ∙ ap (λ (d : Start). first_value (as_prepared P) v p at (start_at ts d) s) (sym is)) h

module _ (r : Runner) (v : Actor) (c : spots.Routine) (e : v.self ≡ option_copied r.identifier) (at : Place) (d : Declaration) (s : State) where
  abbrev starting : Outcome State
  starting = started (as_prepared (program_at r.program)) (program_at r.program) v (routine_at r.program.pool.now c) at (declaration_at r.program.pool.now d) s

  abbrev first : Outcome Value
  first = first_value (as_prepared (program_at r.program)) v (routine_at r.program.pool.now c) at (start_at r.program.pool.now d.start) s

  abbrev first_setting : Value → List Value → pure.Setting
  first_setting w path = setting (initial_place at (start_at r.program.pool.now d.start)) ((naming_of r.program.naming.now).local c.number d.name.word) path w

  abbrev first_set : Value → Outcome State
  first_set w = pure.set_one bounded (first_setting w (cond c.spread (index v.self) [])) s

  -- there is none
  pub start_none : (stop : EvalStop) → Stops stop first → Stops stop starting
  start_none stop h = then_stops stop first first_set h

  -- it is set
  pub start_last : (w : Value) → first ≡ Ok w → (one : pure.Setting) (path : List Value) → path ≡ cond c.spread (index (option_copied r.identifier)) [] → one ≡ first_setting w path → starting ≡ pure.set_one bounded one s
  start_last w ew one path ep is =
      ap (λ (o : Outcome Value). o >>= first_set) ew ∙ (λ i. pure.set_one bounded (first_setting w ((ap (λ (o : Option Value). cond c.spread (index o) []) e ∙ sym ep) i)) s) ∙ ap (λ (m : pure.Setting). pure.set_one bounded m s) (sym is)

-- ---- variables, one after another

module _ (E : Evaluation) (P : Program) (v : Actor) (p : Routine) (at : Place) (ts : List Tree) (ds : List Declaration) (i : ℕ) where
  abbrev from_next : State → Outcome State
  from_next t = variables_by E P v p at (declarations_at ts (drop (i + 1) ds)) t

  module _ (d : Declaration) (s : State) (whole : Outcome State) (less : i < length ds) (is : d ≡ get_or ds i d) (h : variables_by E P v p at (declarations_at ts (drop i ds)) s ≡ whole) where
    first_started : whole ≡ (started E P v p at (declaration_at ts d) s) >>= from_next
    first_started =
        sym h
        ∙ ap (λ (xs : List Declaration). variables_by E P v p at (declarations_at ts xs) s) (drop_more ds i d less ∙ ap (λ (y : Declaration). y ∷ drop (i + 1) ds) (sym is))
        ∙ variables_step E P v p at (declaration_at ts d) (declarations_at ts (drop (i + 1) ds)) s

    pub started_next : (t : State) → started E P v p at (declaration_at ts d) s ≡ Ok t → from_next t ≡ whole
    started_next t e = sym (first_started ∙ ap (λ (o : Outcome State). o >>= from_next) e)

    pub started_stops : (stop : EvalStop) → Stops stop (started E P v p at (declaration_at ts d) s) → Stops stop whole
    started_stops stop k = subst (Stops stop) (sym first_started) (then_stops stop (started E P v p at (declaration_at ts d) s) from_next k)

  pub started_end : (s : State) (whole : Outcome State) → length ds ≤ i → variables_by E P v p at (declarations_at ts (drop i ds)) s ≡ whole → whole ≡ Ok s
  started_end s whole le h = sym h ∙ ap (λ (xs : List Declaration). variables_by E P v p at (declarations_at ts xs) s) (drop_all i ds le)

-- ---- an entry

module _ (E : Evaluation) (P : Program) (v : Actor) (at : Place) (back : Value) (p : Routine) (places : List Place) (vs olds : List Value) (s : State) where
  abbrev entry : Outcome State
  entry = entered_keeping_by E P v at back p places vs olds s

  abbrev at_first : State → Outcome State
  at_first w = pure.set_one P.check (setting at pc (index v.self) (label_value P p (first_label p))) w

  abbrev start_then : State → Outcome State
  start_then t = (variables_by E P v p at p.variables t) >>= at_first

  abbrev give_then : Value → Outcome State
  give_then front = (given P v p at front places vs s) >>= start_then

  -- the record is past the limits
  pub entry_over : (stop : EvalStop) → Stops stop (P.check at (frame P p back olds)) → Stops stop entry
  entry_over stop h = subst (Stops stop) (sym (keeping_form E P v at back p places vs olds s)) (then_stops stop (P.check at (frame P p back olds)) give_then h)

  module _ (front : Value) (ef : P.check at (frame P p back olds) ≡ Ok front) where
    after_frame : entry ≡ give_then front
    after_frame = keeping_form E P v at back p places vs olds s ∙ ap (λ (o : Outcome Value). o >>= give_then) ef

    -- the stack or a parameter can't be set
    pub entry_not_given : (stop : EvalStop) → Stops stop (given P v p at front places vs s) → Stops stop entry
    entry_not_given stop h = subst (Stops stop) (sym after_frame) (then_stops stop (given P v p at front places vs s) start_then h)

    module _ (t : State) (et : given P v p at front places vs s ≡ Ok t) where
      after_given : entry ≡ start_then t
      after_given = after_frame ∙ ap (λ (o : Outcome State). o >>= start_then) et

      -- a first value is none, or can't be set
      pub entry_not_started : (stop : EvalStop) → Stops stop (variables_by E P v p at p.variables t) → Stops stop entry
      entry_not_started stop h = subst (Stops stop) (sym after_given) (then_stops stop (variables_by E P v p at p.variables t) at_first h)

      -- all before pc is set
      pub entry_last : (w : State) → variables_by E P v p at p.variables t ≡ Ok w → entry ≡ at_first w
      entry_last w ew = after_given ∙ ap (λ (o : Outcome State). o >>= at_first) ew

-- the record, by the names in memory
pub frame_is : (r : Runner) (c : spots.Routine) (back : Value) (olds : List Value) (names : List Word) (title : Word) → names ≡ written_names r.program c → title ≡ (naming_of r.program.naming.now).title c.number
    → frame (program_at r.program) (routine_at r.program.pool.now c) back olds ≡ record_from (codes "procedure" ∷ codes "pc" ∷ names) (text title ∷ back ∷ olds)
frame_is r c back olds names title en et = λ i. record_from (codes "procedure" ∷ codes "pc" ∷ (callee_names r c ∙ sym en) i) (text (sym et i) ∷ back ∷ olds)

-- the values to keep are those of the names in memory
pub olds_are : (r : Runner) (v : Actor) (c : spots.Routine) → v.self ≡ option_copied r.identifier → (at : Place) (s : State) (names : List Word) (path : List Value) → names ≡ written_names r.program c
    → path ≡ cond c.spread (index (option_copied r.identifier)) []
    → all_read at (local_index v (routine_at r.program.pool.now c)) (written_all (program_at r.program) (routine_at r.program.pool.now c) (locals (routine_at r.program.pool.now c))) s ≡ all_read at path names s
olds_are r v c e at s names path en ep = λ i. all_read at ((ap (λ (o : Option Value). cond c.spread (index o) []) e ∙ sym ep) i) ((callee_names r c ∙ sym en) i) s

-- they are read
module _ (E : Evaluation) (P : Program) (v : Actor) (at : Place) (back : Value) (p : Routine) (places : List Place) (vs : List Value) (s : State) where
  abbrev enter_then : List Value → Outcome State
  enter_then olds = entered_keeping_by E P v at back p places vs olds s

  abbrev olds_read : Outcome (List Value)
  olds_read = all_read at (local_index v p) (written_all P p (locals p)) s

  pub entered_unread : (stop : EvalStop) → Stops stop olds_read → Stops stop (entered_by E P v at back p places vs s)
  entered_unread stop h = then_stops stop olds_read enter_then h

  pub entered_read : (olds : List Value) → olds_read ≡ Ok olds → entered_by E P v at back p places vs s ≡ enter_then olds
  entered_read olds e = ap (λ (o : Outcome (List Value)). o >>= enter_then) e
