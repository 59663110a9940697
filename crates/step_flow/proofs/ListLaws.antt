-- What comes of a list of statements: what comes of its first, and then of the rest; and of each kind of statement that has others in it.
use Rattle.std.proofs.Common.{◌≡◌, ℕ, ◌+◌, ◌-◌, ◌<◌, List, [], ◌∷◌, length, take, drop, get_or, Bool, true, false, cond, Vec, Global, Ok, Err, refl, sym, ap, subst, ◌∙◌, arith}
use Rattle.std.proofs.lemmas.List.{drop_more, take_all, length-drop}
use Rattle.tla_token.specs.declared.place.Place.{Place}
use Rattle.tla_tree.specs.Pool.{at}
use Rattle.tla_tree.specs.Tree.{Word, Tree, Name}
use Rattle.tla_value.specs.Value.{Outcome}
use Rattle.tla_value.specs.Limits.{bounded}
use Rattle.pcal_tree.specs.declared.mark.Mark.{Mark}
use Rattle.pcal_tree.specs.declared.algorithm.Span as code_span
use Rattle.pcal_tree.specs.declared.algorithm.Bind.{Bind}
use Rattle.pcal_tree.specs.declared.algorithm.Simple as declared_simple
use Rattle.pcal_tree.specs.declared.algorithm.Stmt.{Stmt}
use Rattle.pcal_tree.specs.declared.algorithm.Stmt.TheOpen.{Stmt-F}
use Rattle.pcal_tree.specs.declared.algorithm.Stmt.TheFolds.{fold-roll-Stmt, ind-Stmt, map-Stmt}
use Rattle.pcal_tree.specs.declared.algorithm.Stmt.TheViews.{roll-Stmt}
use Rattle.pcal_tree.specs.declared.algorithm.Stmt.TheVariants.{Label, Simple, If, Either, With, While}
use Rattle.pcal_tree.specs.Algorithm.{Routine, Statements, done, then, mark, branch, either, with, while}
use Rattle.pcal_tree.specs.InMemory.{span_of, simple_at, binds_at, Before, stmt_step, stmt_at, statements_at, branches_at}
use Rattle.pcal_tree.proofs.InMemoryEach.{label_at, simple_in_list_at, if_at, either_at, with_at, while_at}
use Rattle.pcal_tree.specs.Program.{Actor}
use Rattle.pcal_tree.specs.Run.{Partner, no_partner, partner_of, Rules, unlabelled, label_of}
use Rattle.pcal_tree.specs.Scope.{State, Scope, test}
use Rattle.step_walks.specs.Flows.{Flow, falls, onward, flowing}
use Rattle.step_walks.specs.StepFlows.{flow, flow_binds, back}
use Rattle.step_walks.specs.WrittenCalls.{written_rules}
use Rattle.step_moves.specs.Programs.{program_at}
use Rattle.step_moves.specs.StatesOf.{state_of}
use Rattle.step_moves.specs.ScopeIn.{scope_in}
use Rattle.step_moves.specs.declared.runner.Runner.{Runner}
use Rattle.step_flow.specs.declared.going.End.TheVariants as end
use Rattle.step_flow.specs.declared.going.Going.{Going}
use Rattle.step_choices.specs.declared.pause.Pause.{Pause}
use Rattle.step_flow.specs.Ends.{Ends, left_of, scope_of, first_flow, item_from, list_from, one_from, jump_from, Rebound}
use Rattle.step_flow.proofs.FlowLaws.{onward_pauses}

-- ---- the first of a list

module _ (M : Rules) (here : Word) (sc : Scope) (x : Word) (j : Partner) (s : State) (ns : List ℕ) where
  -- what follows plays no part but for its label and as a partner
  abbrev Splits : Before → Type 0
  Splits b = (rest : Statements) → flow M here (b rest) sc x j s ns ≡ onward (first_flow M here (b done) sc (label_of rest x) (partner_of rest) s ns) (λ t ms. flow M unlabelled rest sc x j t ms)

  layer_splits : (ts : List Tree) (y : Stmt-F Before) → Splits (stmt_step ts y)
  layer_splits ts (Stmt-F.Label l m) rest = refl
  layer_splits ts (Stmt-F.Simple p a) rest = refl
  layer_splits ts (Stmt-F.If p e a b) rest = refl
  layer_splits ts (Stmt-F.Either p bs) rest = refl
  layer_splits ts (Stmt-F.With p bs a) rest = refl
  layer_splits ts (Stmt-F.While p e a) rest = refl

  abbrev AllSplit : Stmt → Type 0
  AllSplit one = (ts : List Tree) → Splits (stmt_at ts one)

  pub all_split : (one : Stmt) → AllSplit one
  all_split = ind-Stmt AllSplit (λ a y is. subst (λ z. AllSplit (roll-Stmt z)) is (λ ts.
      let z = map-Stmt _ Stmt (λ e. e.0) y in
      subst Splits (sym (fold-roll-Stmt Before (stmt_step ts) z)) (layer_splits ts (map-Stmt Stmt Before (stmt_at ts) z))))

-- a slice to the end
pub slice_rest : {X : Type 0} (xs : List X) (k : ℕ) → take (length xs - k) (drop k xs) ≡ drop k xs
slice_rest xs k = (let h = length-drop k xs in take_all (length xs - k) (drop k xs) (omega (arith, h)))

from_here : (ts : List Tree) (ss : List Stmt) (i : ℕ) (s : Stmt) → s ≡ get_or ss i s → i < length ss → statements_at ts (drop i ss) ≡ stmt_at ts s (statements_at ts (drop (i + 1) ss))
from_here ts ss i s is less = ap (statements_at ts) (drop_more ss i s less ∙ ap (λ (y : Stmt). y ∷ drop (i + 1) ss) (sym is))

module _ (r : Runner) (v : Actor) (u : Routine) where
  abbrev ts : List Tree
  ts = r.program.pool.now

  abbrev M : Rules
  M = written_rules (program_at r.program) [] v u

  -- the rest of the list after the statement of this number, where it falls through
  abbrev rest_from : List Stmt → ℕ → Word → Partner → Going → State → List ℕ → Flow State
  rest_from ss i x j g t ms = flow M unlabelled (statements_at ts (drop (i + 1) ss)) (scope_of (program_at r.program) g) x j t ms

  pub list_splits : (here : Word) (ss : List Stmt) (i : ℕ) (one : Stmt) (x : Word) (j : Partner) (g : Going) (choices : List ℕ) → one ≡ get_or ss i one → i < length ss
      → list_from r v u here (drop i ss) x j g choices
      ≡ onward (item_from r v u here one (label_of (statements_at ts (drop (i + 1) ss)) x) (partner_of (statements_at ts (drop (i + 1) ss))) g choices) (rest_from ss i x j g)
  list_splits here ss i one x j g choices is less =
      ap (λ (zs : Statements). flow M here zs (scope_of (program_at r.program) g) x j (state_of g.state) (left_of choices g)) (from_here ts ss i one is less)
      ∙ all_split M here (scope_of (program_at r.program) g) x j (state_of g.state) (left_of choices g) one ts (statements_at ts (drop (i + 1) ss))

  same_scope : (g h : Going) → Rebound g h → scope_of (program_at r.program) g ≡ scope_of (program_at r.program) h
  same_scope g h b = λ k. scope_in (program_at r.program) (sym b.names k) (sym b.values k)

  pub list_goes_on : (here : Word) (ss : List Stmt) (i : ℕ) (one : Stmt) (x next : Word) (p j : Partner) (g h : Going) (choices : List ℕ) → one ≡ get_or ss i one → i < length ss
      → next ≡ label_of (statements_at ts (drop (i + 1) ss)) x → p ≡ partner_of (statements_at ts (drop (i + 1) ss))
      → Rebound g h → Ends (Ok end.Falls) h choices (item_from r v u here one next p g choices)
      → list_from r v u here (drop i ss) x j g choices ≡ list_from r v u unlabelled (drop (i + 1) ss) x j h choices
  list_goes_on here ss i one x next p j g h choices is less e q b f =
      list_splits here ss i one x j g choices is less
      ∙ (λ k. onward (item_from r v u here one (sym e k) (sym q k) g choices) (rest_from ss i x j g))
      ∙ ap (λ (z : Flow State). onward z (rest_from ss i x j g)) f
      ∙ ap (λ (sc : Scope). flow M unlabelled (statements_at ts (drop (i + 1) ss)) sc x j (state_of h.state) (left_of choices h)) (same_scope g h b)

  pub list_over : (here : Word) (ss : List Stmt) (i : ℕ) (one : Stmt) (x next : Word) (p j : Partner) (g h : Going) (choices : List ℕ) → one ≡ get_or ss i one → i < length ss
      → next ≡ label_of (statements_at ts (drop (i + 1) ss)) x → p ≡ partner_of (statements_at ts (drop (i + 1) ss))
      → Ends (Ok end.Over) h choices (item_from r v u here one next p g choices) → Ends (Ok end.Over) h choices (list_from r v u here (drop i ss) x j g choices)
  list_over here ss i one x next p j g h choices is less e q f =
      list_splits here ss i one x j g choices is less
      ∙ (λ k. onward (item_from r v u here one (sym e k) (sym q k) g choices) (rest_from ss i x j g))
      ∙ ap (λ (z : Flow State). onward z (rest_from ss i x j g)) f

  pub list_pauses : (here : Word) (ss : List Stmt) (i : ℕ) (one : Stmt) (x next : Word) (p j : Partner) (g h : Going) (choices : List ℕ) (w : Pause) → one ≡ get_or ss i one → i < length ss
      → next ≡ label_of (statements_at ts (drop (i + 1) ss)) x → p ≡ partner_of (statements_at ts (drop (i + 1) ss))
      → Ends (Err w) h choices (item_from r v u here one next p g choices) → Ends (Err w) h choices (list_from r v u here (drop i ss) x j g choices)
  list_pauses here ss i one x next p j g h choices w is less e q f =
      subst (Ends (Err w) h choices)
      (sym (list_splits here ss i one x j g choices is less ∙ (λ k. onward (item_from r v u here one (sym e k) (sym q k) g choices) (rest_from ss i x j g))))
      (onward_pauses w (item_from r v u here one next p g choices) (rest_from ss i x j g) f)

  -- ---- each kind of statement

  module _ (here : Word) (one : Stmt) (x : Word) (j : Partner) (g : Going) (choices : List ℕ) where
    kind : (b : Before) → stmt_at ts one ≡ b → item_from r v u here one x j g choices ≡ first_flow M here (b done) (scope_of (program_at r.program) g) x j (state_of g.state) (left_of choices g)
    kind b e = ap (λ (k : Before). first_flow M here (k done) (scope_of (program_at r.program) g) x j (state_of g.state) (left_of choices g)) e

    pub label_item : (y : Name) (m : Mark) → one ≡ Label y m → item_from r v u here one x j g choices ≡ jump_from r v u y.word g choices
    label_item y m e = kind (mark y m) (ap (stmt_at ts) e ∙ label_at ts y m)

    pub simple_item : (p : code_span.Span) (y : declared_simple.Simple) → one ≡ Simple p y → item_from r v u here one x j g choices ≡ one_from r v u here p.first (simple_at ts y) x j g choices
    simple_item p y e = kind (then (span_of p) (simple_at ts y)) (ap (stmt_at ts) e ∙ simple_in_list_at ts p y)

    pub if_item : (p : code_span.Span) (e : ℕ) (a b : Vec Stmt Global) → one ≡ If p e a b
        → item_from r v u here one x j g choices ≡ one_from r v u here p.first (branch (at ts e) (statements_at ts a.items) (statements_at ts b.items)) x j g choices
    if_item p e a b q = kind (then (span_of p) (branch (at ts e) (statements_at ts a.items) (statements_at ts b.items))) (ap (stmt_at ts) q ∙ if_at ts p e a b)

    pub either_item : (p : code_span.Span) (bs : Vec (Vec Stmt Global) Global) → one ≡ Either p bs → item_from r v u here one x j g choices ≡ one_from r v u here p.first (either (branches_at ts bs.items)) x j g choices
    either_item p bs q = kind (then (span_of p) (either (branches_at ts bs.items))) (ap (stmt_at ts) q ∙ either_at ts p bs)

    pub with_item : (p : code_span.Span) (bs : Vec Bind Global) (a : Vec Stmt Global) → one ≡ With p bs a
        → item_from r v u here one x j g choices ≡ one_from r v u here p.first (with (binds_at ts bs.items) (statements_at ts a.items)) x j g choices
    with_item p bs a q = kind (then (span_of p) (with (binds_at ts bs.items) (statements_at ts a.items))) (ap (stmt_at ts) q ∙ with_at ts p bs a)

    pub while_item : (p : code_span.Span) (e : ℕ) (a : Vec Stmt Global) → one ≡ While p e a → item_from r v u here one x j g choices ≡ one_from r v u here p.first (while (at ts e) (statements_at ts a.items)) x j g choices
    while_item p e a q = kind (then (span_of p) (while (at ts e) (statements_at ts a.items))) (ap (stmt_at ts) q ∙ while_at ts p e a)

  -- ---- names that are bound

  -- the names of a `with` are bound, and its body goes on from there
  pub with_bound : (here : Word) (p : Place) (bs : List Bind) (b : List Stmt) (x : Word) (j : Partner) (g h : Going) (choices : List ℕ)
      → ((body : Scope → List ℕ → Flow State) → flow_binds bounded p (binds_at ts bs) body (scope_of (program_at r.program) g) (state_of g.state) (left_of choices g) ≡ body (scope_of (program_at r.program) h) (left_of choices h))
      → h.state ≡ g.state → one_from r v u here p (with (binds_at ts bs) (statements_at ts b)) x j g choices ≡ list_from r v u unlabelled b x j h choices
  with_bound here p bs b x j g h choices leads same =
      leads (λ inner ms. flow M unlabelled (statements_at ts b) inner x j (state_of g.state) ms)
      ∙ (λ k. flow M unlabelled (statements_at ts b) (scope_of (program_at r.program) h) x j (state_of (sym same k)) (left_of choices h))

  -- ---- tests

  pub branch_taken : (here : Word) (p : Place) (e : ℕ) (a b taken : List Stmt) (x : Word) (j : Partner) (g : Going) (choices : List ℕ) (t : Bool)
      → test bounded (at ts e) (scope_of (program_at r.program) g) (state_of g.state) ≡ Ok t → taken ≡ cond t a b
      → one_from r v u here p (branch (at ts e) (statements_at ts a) (statements_at ts b)) x j g choices ≡ list_from r v u unlabelled taken x j g choices
  branch_taken here p e a b taken x j g choices t h is =
      ap (λ (o : Outcome Bool). flowing o (λ q. cond q (list_from r v u unlabelled a x j g choices) (list_from r v u unlabelled b x j g choices))) h
      ∙ by t
      ∙ ap (λ (ss : List Stmt). list_from r v u unlabelled ss x j g choices) (sym is)
    where
      by : (q : Bool) → cond q (list_from r v u unlabelled a x j g choices) (list_from r v u unlabelled b x j g choices) ≡ list_from r v u unlabelled (cond q a b) x j g choices
      by true = refl
      by false = refl

  abbrev body_from : List Stmt → Word → Going → List ℕ → Flow State
  body_from b here g choices = onward (list_from r v u unlabelled b here no_partner g choices) (back M here)

  loop_is : (here : Word) (p : Place) (e : ℕ) (b : List Stmt) (x : Word) (j : Partner) (g : Going) (choices : List ℕ) (t : Bool)
      → test bounded (at ts e) (scope_of (program_at r.program) g) (state_of g.state) ≡ Ok t
      → one_from r v u here p (while (at ts e) (statements_at ts b)) x j g choices ≡ cond t (body_from b here g choices) (falls (state_of g.state) (left_of choices g))
  loop_is here p e b x j g choices t h = ap (λ (o : Outcome Bool). flowing o (λ q. cond q (body_from b here g choices) (falls (state_of g.state) (left_of choices g)))) h

  pub loop_left : (here : Word) (p : Place) (e : ℕ) (b : List Stmt) (x : Word) (j : Partner) (g : Going) (choices : List ℕ) (t : Bool)
      → test bounded (at ts e) (scope_of (program_at r.program) g) (state_of g.state) ≡ Ok t → t ≡ false → Ends (Ok end.Falls) g choices (one_from r v u here p (while (at ts e) (statements_at ts b)) x j g choices)
  loop_left here p e b x j g choices t h f = loop_is here p e b x j g choices t h ∙ ap (λ (q : Bool). cond q (body_from b here g choices) (falls (state_of g.state) (left_of choices g))) f

  pub loop_entered : (here : Word) (p : Place) (e : ℕ) (b : List Stmt) (x : Word) (j : Partner) (g : Going) (choices : List ℕ) (t : Bool)
      → test bounded (at ts e) (scope_of (program_at r.program) g) (state_of g.state) ≡ Ok t → t ≡ true → one_from r v u here p (while (at ts e) (statements_at ts b)) x j g choices ≡ body_from b here g choices
  loop_entered here p e b x j g choices t h f = loop_is here p e b x j g choices t h ∙ ap (λ (q : Bool). cond q (body_from b here g choices) (falls (state_of g.state) (left_of choices g))) f

  -- its body falls through, and goes back
  pub loop_back : (here : Word) (b : List Stmt) (g h : Going) (choices : List ℕ) → Ends (Ok end.Falls) h choices (list_from r v u unlabelled b here no_partner g choices) → body_from b here g choices ≡ jump_from r v u here h choices
  loop_back here b g h choices f = ap (λ (z : Flow State). onward z (back M here)) f

  pub loop_over : (here : Word) (b : List Stmt) (g h : Going) (choices : List ℕ) → Ends (Ok end.Over) h choices (list_from r v u unlabelled b here no_partner g choices) → Ends (Ok end.Over) h choices (body_from b here g choices)
  loop_over here b g h choices f = ap (λ (z : Flow State). onward z (back M here)) f

  pub loop_pauses : (here : Word) (b : List Stmt) (g h : Going) (choices : List ℕ) (w : Pause) → Ends (Err w) h choices (list_from r v u unlabelled b here no_partner g choices) → Ends (Err w) h choices (body_from b here g choices)
  loop_pauses here b g h choices w f = onward_pauses w (list_from r v u unlabelled b here no_partner g choices) (back M here) f
