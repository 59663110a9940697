-- Lists of statements in code, whole: from each state on the run is that of the steps that are left.
use Rattle.std.proofs.Common.{◌≡◌, ℕ, zero, suc, ◌<◌, ◌≤◌, List, [], length, Vec, Global, Ok, refl, sym, ap, subst, ◌∙◌, arith}
use Rattle.tla_token.specs.declared.token.Tokens.{Tokens}
use Rattle.tla_tree.specs.Tree.{Tree}
use Rattle.tla_tree.specs.Reader.{Out, then_read}
use Rattle.expr_nodes.specs.declared.cursor.Halt.{Halt}
use Rattle.expr_nodes.specs.ReadIn.{Reads, Fails}
use Rattle.expr_nodes.specs.Ahead.{ahead}
use Rattle.pcal_tree.specs.declared.algorithm.Stmt.{Stmt}
use Rattle.pcal_tree.specs.InMemory.{past_statements}
use Rattle.pcal_tree.specs.GrammarParts.{no_labels}
use Rattle.pcal_tree.specs.GrammarC.{Sequence, statements}
use Rattle.algorithm_reader.specs.PartsRead.{StandsFor, parts_in, Enough, StepLess}
use Rattle.algorithm_reader.proofs.Gathered.{fails_then}
use Rattle.c_reading.specs.ReadStatements as reader
use Rattle.c_reading.specs.ReadStatements.{none, bottom, begin, on, done, step, turned, run, read_sequence}
use Rattle.c_syntax.specs.declared.open.Point.TheVariants as point
use Rattle.c_syntax.specs.declared.open.State.{State}
use Rattle.c_syntax.specs.declared.open.Turn.TheVariants as turn
use Rattle.algorithm_reader.specs.ListsRead.{in_list}
use Rattle.c_syntax.specs.StatesRead.{statement_step, StateStands, TurnStands, list_at, past_list}

-- what a run gives is what it gives from here on, with steps enough for the tokens that are left
pub record RunsOn (v : Tokens) (ts : List Tree) (s : State) (i : ℕ) (o : Out Sequence) : Type 0 where
  pub steps : ℕ
  pub enough : Enough v i steps
  pub now : reader.State
  pub stands : StateStands ts s now
  pub is : o ≡ run (parts_in v) steps now (ahead v i)

went_on : (ts : List Tree) (s : State) (t : reader.Turn) → TurnStands ts (turn.On s) t → (x : reader.State) × (t ≡ on x) × StateStands ts s x
went_on ts s (on x) h = (x, refl, h)
went_on ts s (done c) h = absurd h

was_done : (ts : List Tree) (l : Vec Stmt Global) (t : reader.Turn) → TurnStands ts (turn.Done l) t → (c : Sequence) × (t ≡ done c) × StandsFor list_at past_list statements ts l c
was_done ts l (on x) h = absurd h
was_done ts l (done c) h = (c, refl, h)

-- the step that is next, with as many steps for what it reads
abbrev pub NextStep : (v : Tokens) (ts : List Tree) (s : State) (i : ℕ) (o : Out Sequence) → RunsOn v ts s i o → (Out reader.Turn → Type 0) → Type 0
NextStep v ts s i o h P = (n : ℕ) → StepLess v i n → P (step (parts_in v) n h.now (ahead v i))

module _ (v : Tokens) (ts : List Tree) (s : State) (i : ℕ) (o : Out Sequence) (b : i ≤ length v.items.items) (h : RunsOn v ts s i o) where
  goes_with : (us : List Tree) (t : State) (j k : ℕ) → h.steps ≡ k → i < j → NextStep v ts s i o h (Reads (TurnStands us (turn.On t)) (ahead v j)) → RunsOn v us t j o
  goes_with us t j zero e l r = absurd (omega (arith, h.enough, e, b))
  goes_with us t j (suc n) e l r =
      let said = r n (omega (arith, h.enough, e)) in
      let x = went_on us t said.what said.told in
      record {
        steps = n;
        enough = omega (arith, h.enough, e, l);
        now = x.0;
        stands = x.2;
        is = h.is ∙ ap (λ (k : ℕ). run (parts_in v) k h.now (ahead v i)) e ∙ ap (λ (q : Out reader.Turn). then_read q (turned (run (parts_in v) n))) (said.is ∙ ap (λ (u : reader.Turn). Ok (u, ahead v j)) x.1);
      }

  pub goes_on : (us : List Tree) (t : State) (j : ℕ) → i < j → NextStep v ts s i o h (Reads (TurnStands us (turn.On t)) (ahead v j)) → RunsOn v us t j o
  goes_on us t j l r = goes_with us t j h.steps refl l r

  ends_with : (us : List Tree) (l : Vec Stmt Global) (j k : ℕ) → h.steps ≡ k → NextStep v ts s i o h (Reads (TurnStands us (turn.Done l)) (ahead v j)) → Reads (StandsFor list_at past_list statements us l) (ahead v j) o
  ends_with us l j zero e r = absurd (omega (arith, h.enough, e, b))
  ends_with us l j (suc n) e r =
      let said = r n (omega (arith, h.enough, e)) in
      let x = was_done us l said.what said.told in
      record {
        what = x.0;
        is = h.is ∙ ap (λ (k : ℕ). run (parts_in v) k h.now (ahead v i)) e ∙ ap (λ (q : Out reader.Turn). then_read q (turned (run (parts_in v) n))) (said.is ∙ ap (λ (u : reader.Turn). Ok (u, ahead v j)) x.1);
        told = x.2;
      }

  pub ends_there : (us : List Tree) (l : Vec Stmt Global) (j : ℕ) → NextStep v ts s i o h (Reads (TurnStands us (turn.Done l)) (ahead v j)) → Reads (StandsFor list_at past_list statements us l) (ahead v j) o
  ends_there us l j r = ends_with us l j h.steps refl r

  fails_with : (e : Halt) (k : ℕ) → h.steps ≡ k → NextStep v ts s i o h (Fails e) → Fails e o
  fails_with e zero q r = absurd (omega (arith, h.enough, q, b))
  fails_with e (suc n) q r = subst (Fails e) (sym (h.is ∙ ap (λ (k : ℕ). run (parts_in v) k h.now (ahead v i)) q)) (fails_then e (step (parts_in v) n h.now (ahead v i)) (turned (run (parts_in v) n)) (r n (omega (arith, h.enough, q))))

  pub fails_there : (e : Halt) → NextStep v ts s i o h (Fails e) → Fails e o
  fails_there e r = fails_with e h.steps refl r

-- before its first statement
pub begins_there : (ts : List Tree) (s : State) → s.list.items ≡ [] → s.point ≡ point.Begins → s.stack.items ≡ [] → s.depth ≡ 0 → StateStands ts s (begin no_labels (bottom none))
begins_there ts s l p k d = (p, record { list = record { below = omega (arith, ap past_statements l); tree = λ rest. ap (λ (xs : List Stmt). in_list ts xs rest) l }; stack = k; depth = d })

-- the first statement is read, or refused
module _ (v : Tokens) (ts : List Tree) (s : State) (i n : ℕ) (e : Enough v i n) (b : i ≤ length v.items.items) (h : StateStands ts s (begin no_labels (bottom none))) where
  abbrev whole : Out Sequence
  whole = read_sequence (parts_in v) n (ahead v i)

  abbrev runs : RunsOn v ts s i whole
  runs = record { steps = n; enough = e; now = begin no_labels (bottom none); stands = h; is = refl }

  abbrev pub FirstStep : (Out reader.Turn → Type 0) → Type 0
  FirstStep P = (n : ℕ) → StepLess v i n → P (statement_step (parts_in v) n no_labels (bottom none) (ahead v i))

  pub goes_first : (us : List Tree) (t : State) (j : ℕ) → i < j → FirstStep (Reads (TurnStands us (turn.On t)) (ahead v j)) → RunsOn v us t j whole
  goes_first us t j l r = goes_on v ts s i whole b runs us t j l r

  pub fails_first : (x : Halt) → FirstStep (Fails x) → Fails x whole
  fails_first x r = fails_there v ts s i whole b runs x r
