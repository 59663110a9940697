-- A whole trace: its first state, and the states after it.
use Rattle.std.proofs.Common.{◌≡◌, List, [], ◌∷◌, ◌++◌, length, map, refl, sym, ap, subst, ◌∙◌, append_assoc, Option, Some, None, Ok, Err}
use Rattle.std.proofs.lemmas.List.{append-nil}
use Rattle.tla_value.specs.Definitions.{Valuation}
use Rattle.tla_value.specs.States.{Entries}
use Rattle.tla_value.specs.Value.{Trouble, Outcome}
use Rattle.module_tree.specs.ActionTruth.{Verdict}
use Rattle.module_tree.specs.Module.{Module}
use Rattle.module_tree.specs.ModuleTruth.{init_holds}
use Rattle.pcal_tree.specs.Program.{Program, Actor}
use Rattle.pcal_tree.specs.Scope.{State}
use Rattle.pcal_tree.specs.Variables.{on_variables}
use Rattle.step_runner.specs.Explained as pure
use Rattle.step_runner.specs.Explained.{told, troubled}
use Rattle.step_runner.specs.Fronts.{Text}
use Rattle.step_runner.specs.Shown.{initial, state_text, pairs_text, trace_text}
use Rattle.step_moves.specs.StatesOf.{state_of}
use Rattle.written_traces.specs.WrittenTraces.{written_start_trouble, pairs_explained_once, states_explained_once, explained_for}
use Rattle.explained_traces.specs.declared.explaining.Halt.{Halt}
use Rattle.explained_traces.specs.Halts.{halt_of}
use Rattle.explained_traces.specs.Judging.{truth_of, halts}
use Rattle.explained_traces.specs.Shows.{Shows}
use Rattle.explained_traces.proofs.VerdictLaws.{after, after_is}

module _ (P : Program) (m : Module) (constants : Valuation) where
  abbrev pub TraceShown : Text → Text → Option Halt → pure.Explained → Type 0
  TraceShown old new o x = Shows (trace_text P m constants) old new o x

  -- no state is shown
  pub none_shown : (old : Text) (o : Option Halt) (x : pure.Explained) → x ≡ record { states = []; halt = halt_of o } → TraceShown old old o x
  none_shown old o x is = record {
    text = sym (append-nil old) ∙ ap (λ (y : pure.Explained). old ++ trace_text P m constants y.states) (sym is);
    halt = ap (λ (y : pure.Explained). y.halt) (sym is);
  }

  module _ (vs : List Actor) (s : State) (ts : List State) where
    abbrev rest : pure.Explained
    rest = pairs_explained_once P m constants vs 1 s ts

    abbrev whole : pure.Explained
    whole = states_explained_once P m constants vs (s ∷ ts)

    abbrev said : Verdict
    said = init_holds P.check m constants (on_variables P s)

    abbrev trouble : Trouble
    trouble = told P (written_start_trouble P vs s)

    abbrev pub stops_first : Option pure.Halt
    stops_first = halts 0 (truth_of said) trouble

    comes : (o : Option pure.Halt) → o ≡ stops_first → whole ≡ after o s rest
    comes o e = after_is 0 said trouble s rest ∙ ap (λ (x : Option pure.Halt). after x s rest) (sym e)

    not_begun : (h : pure.Halt) (o : Option Halt) (old : Text) → Some h ≡ stops_first → halt_of o ≡ Some h → TraceShown old old o whole
    not_begun h o old e is = none_shown old o whole (comes (Some h) e ∙ ap (λ (x : Option pure.Halt). record { states = []; halt = x }) (sym is))

    begun : (old first new : Text) (o : Option Halt) → None ≡ stops_first → first ≡ old ++ state_text P 0 initial s → Shows (pairs_text P m constants 1 s) first new o rest → TraceShown old new o whole
    begun old first new o none more g =
        let is : whole ≡ after None s rest = comes None none in
        let one = state_text P 0 initial s in
        let others = pairs_text P m constants 1 s rest.states in
        record {
          text = g.text ∙ ap (λ (x : Text). x ++ others) more ∙ append_assoc old one others ∙ ap (λ (x : pure.Explained). old ++ trace_text P m constants x.states) (sym is);
          halt = g.halt ∙ ap (λ (x : pure.Explained). x.halt) (sym is);
        }

  -- ---- of a trace in memory

  module _ (vs : List Actor) (all : List Entries) where
    abbrev pub AllShown : Text → Text → Option Halt → Type 0
    AllShown old new o = TraceShown old new o (states_explained_once P m constants vs (map state_of all))

    pub no_states : (old : Text) → length all ≡ 0 → AllShown old old None
    no_states old e = by all e
      where
        by : (es : List Entries) → length es ≡ 0 → TraceShown old old None (states_explained_once P m constants vs (map state_of es))
        by [] h = none_shown old None (states_explained_once P m constants vs []) refl
        by (x ∷ xs) h = cc

    module _ (x : Entries) (left : List Entries) (split : all ≡ x ∷ left) where
      by_split : (old new : Text) (o : Option Halt) → TraceShown old new o (states_explained_once P m constants vs (state_of x ∷ map state_of left)) → AllShown old new o
      by_split old new o g = subst (λ (es : List Entries). TraceShown old new o (states_explained_once P m constants vs (map state_of es))) (sym split) g

      pub not_begun_from : (h : pure.Halt) (o : Option Halt) (old : Text) → Some h ≡ stops_first vs (state_of x) (map state_of left) → halt_of o ≡ Some h → AllShown old old o
      not_begun_from h o old e is = by_split old old o (not_begun vs (state_of x) (map state_of left) h o old e is)

      pub begun_from : (old first new : Text) (o : Option Halt) → None ≡ stops_first vs (state_of x) (map state_of left) → first ≡ old ++ state_text P 0 initial (state_of x)
          → Shows (pairs_text P m constants 1 (state_of x)) first new o (pairs_explained_once P m constants vs 1 (state_of x) (map state_of left)) → AllShown old new o
      begun_from old first new o none more g = by_split old new o (begun vs (state_of x) (map state_of left) old first new o none more g)

  -- ---- by the processes that are told

  pub told_shown : (ss : List State) (vs : List Actor) (p : Outcome (List Actor)) (old new : Text) (o : Option Halt) → p ≡ Ok vs → TraceShown old new o (states_explained_once P m constants vs ss)
      → TraceShown old new o (explained_for P m constants ss p)
  told_shown ss vs p old new o e g = subst (λ (q : Outcome (List Actor)). TraceShown old new o (explained_for P m constants ss q)) (sym e) g

  pub untold_shown : (ss : List State) (k : Trouble) (p : Outcome (List Actor)) (o : Option Halt) (old : Text) → p ≡ Err k → halt_of o ≡ Some (troubled k) → TraceShown old old o (explained_for P m constants ss p)
  untold_shown ss k p o old e is =
      none_shown old o (explained_for P m constants ss p) (ap (explained_for P m constants ss) e ∙ ap (λ (x : Option pure.Halt). record { states = []; halt = x }) (sym is))
