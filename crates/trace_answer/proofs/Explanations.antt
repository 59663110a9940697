-- Of three files one is refused, once, or they give one trace, with one explanation.
use Rattle.std.proofs.Common.{◌≡◌, ◌⊎◌, inl, inr, Bool, List, [], map, Option, Some, None, refl, sym, ap, subst, ◌∙◌}
use Rattle.tla_token.specs.declared.rule.Refusal.{Refusal}
use Rattle.tla_tree.specs.Tree.{Word}
use Rattle.tla_value.specs.Limits.{bounded}
use Rattle.tla_value.specs.Outside.{Outside}
use Rattle.tla_value.specs.States.{Entries}
use Rattle.pcal_tree.specs.Labelled.{labelled}
use Rattle.pcal_tree.specs.Programs.{program_in}
use Rattle.pcal_tree.specs.Variables.{vars}
use Rattle.module_tree.specs.TextFront.{Text}
use Rattle.action_builder.specs.WrittenNames.{with_names}
use Rattle.file_answer.specs.Checking.{AnswersChecking}
use Rattle.file_answer.proofs.CheckAnswers.{some_check, one_check}
use Rattle.promise.specs.Options.{Options}
use Rattle.translation.specs.Region.{written_region, written_module}
use Rattle.step_runner.specs.Config.{SpellsConfig, ConfigOffends, constants_of}
use Rattle.step_runner.specs.Explained.{state_of, Halt, explained}
use Rattle.step_runner.specs.Shown.{trace_text}
use Rattle.step_runner.specs.Trace.{SpellsTrace, TraceOffends}
use Rattle.step_runner.proofs.FilesOnce.{config_once, config_or_offence, trace_once, trace_or_offence, trace_refused_once}
use Rattle.step_runner.proofs.FilesTold.{config_told, trace_told}
use Rattle.run_answer.specs.Chosen.{Files, Which, of_module, of_config, of_third, Right}
use Rattle.run_answer.proofs.Choices.{one_typed, one_outside, some_right, refused_once}
use Rattle.trace_answer.specs.Traced.{variables_of, RefusesTrace, Given, traced_program, states_in, module_for, explained_of, IsTrace}
use Rattle.trace_answer.proofs.Titles.{text_same, explained_same}

-- the variables are told by the algorithm and by what is outside
variables_once : (forced : Bool) (x : Text) (m n : Right forced x) → variables_of m ≡ variables_of n
variables_once forced x m n = λ i. vars (with_names (one_outside forced x m n i) (labelled forced (one_typed forced x m n i)))

not_refused : (forced : Bool) (x : Text) (r : Refusal) → AnswersChecking forced x None → AnswersChecking forced x (Some r) → ⊥
not_refused forced x r clean h = (let f : None ≡ Some r = one_check forced x None (Some r) clean h in absurd cc)

-- ---- a file is refused, or none

abbrev Answer : Bool → Files → Type 0
Answer forced f = ((w : Which) × (r : Refusal) × RefusesTrace forced f w r) ⊎ Given forced f

by_trace : (forced : Bool) (f : Files) (m : Right forced f.source) (es : Entries) → SpellsConfig m.outside f.config es
    → ((a : List Entries) × SpellsTrace (variables_of m) f.third a) ⊎ ((r : Refusal) × TraceOffends (variables_of m) f.third r) → Answer forced f
by_trace forced f m es h (inl a) = inr (record { right = m; constants = es; spells_constants = h; trace = a.0; spells_trace = a.1 })
by_trace forced f m es h (inr o) = inl (of_third, o.0, (m, es, h, o.1))

by_config : (forced : Bool) (f : Files) (m : Right forced f.source)
    → ((es : Entries) × SpellsConfig m.outside f.config es) ⊎ ((r : Refusal) × ConfigOffends m.outside f.config r) → Answer forced f
by_config forced f m (inl s) = by_trace forced f m s.0 s.1 (trace_told (variables_of m) f.third)
by_config forced f m (inr o) = inl (of_config, o.0, (m, o.1))

by_module : (forced : Bool) (f : Files) (r : Option Refusal) → AnswersChecking forced f.source r → Answer forced f
by_module forced f None h = (let m = some_right forced f.source h in by_config forced f m (config_told m.outside f.config))
by_module forced f (Some r) h = inl (of_module, r, h)

pub refused_or_given : (forced : Bool) (f : Files) → ((w : Which) × (r : Refusal) × RefusesTrace forced f w r) ⊎ Given forced f
refused_or_given forced f = (let a = some_check forced f.source in by_module forced f a.0 a.1)

-- ---- never both

config_moved : (forced : Bool) (f : Files) (m n : Right forced f.source) (es : Entries) → SpellsConfig m.outside f.config es → SpellsConfig n.outside f.config es
config_moved forced f m n es h = subst (λ (o : Outside). SpellsConfig o f.config es) (one_outside forced f.source m n) h

offence_moved : (forced : Bool) (f : Files) (m n : Right forced f.source) (r : Refusal) → ConfigOffends m.outside f.config r → ConfigOffends n.outside f.config r
offence_moved forced f m n r h = subst (λ (o : Outside). ConfigOffends o f.config r) (one_outside forced f.source m n) h

trace_moved : (forced : Bool) (f : Files) (m n : Right forced f.source) (a : List Entries) → SpellsTrace (variables_of m) f.third a → SpellsTrace (variables_of n) f.third a
trace_moved forced f m n a h = subst (λ (xs : List Word). SpellsTrace xs f.third a) (variables_once forced f.source m n) h

stray_moved : (forced : Bool) (f : Files) (m n : Right forced f.source) (r : Refusal) → TraceOffends (variables_of m) f.third r → TraceOffends (variables_of n) f.third r
stray_moved forced f m n r h = subst (λ (xs : List Word). TraceOffends xs f.third r) (variables_once forced f.source m n) h

pub not_both : (forced : Bool) (f : Files) (w : Which) (r : Refusal) → RefusesTrace forced f w r → Given forced f → ⊥
not_both forced f of_module r h c = not_refused forced f.source r c.right.clean h
not_both forced f of_config r (m, o) c = config_or_offence c.right.outside f.config c.constants r c.spells_constants (offence_moved forced f m c.right r o)
not_both forced f of_third r (m, es, h, o) c = trace_or_offence (variables_of c.right) f.third c.trace r c.spells_trace (stray_moved forced f m c.right r o)

-- ---- once

pub trace_refused : (forced : Bool) (f : Files) (w v : Which) (r q : Refusal) → RefusesTrace forced f w r → RefusesTrace forced f v q → (w ≡ v) × (r ≡ q)
trace_refused forced f of_module of_module r q h k = refused_once forced f of_module of_module r q h k
trace_refused forced f of_module of_config r q h k = refused_once forced f of_module of_config r q h k
trace_refused forced f of_config of_module r q h k = refused_once forced f of_config of_module r q h k
trace_refused forced f of_config of_config r q h k = refused_once forced f of_config of_config r q h k
trace_refused forced f of_module of_third r q h (n, fs, k, p) = absurd (not_refused forced f.source r n.clean h)
trace_refused forced f of_third of_module r q (m, es, h, o) k = absurd (not_refused forced f.source q m.clean k)
trace_refused forced f of_config of_third r q (m, o) (n, fs, k, p) = absurd (config_or_offence n.outside f.config fs r k (offence_moved forced f m n r o))
trace_refused forced f of_third of_config r q (m, es, h, o) (n, p) = absurd (config_or_offence n.outside f.config es q (config_moved forced f m n es h) p)
trace_refused forced f of_third of_third r q (m, es, h, o) (n, fs, k, p) =
    (refl, trace_refused_once (variables_of n) f.third r q (stray_moved forced f m n r o) p)

-- ---- one explanation

pub some_trace : (options : Options) (f : Files) → Given options.label f → (w : Text) × (h : Option Halt) × IsTrace options f w h
some_trace options f c =
    let e = explained_of options.no_terminating [] c in (
      trace_text (traced_program c) (module_for options.no_terminating [] c) (constants_of c.constants) e.states,
      e.halt,
      record { given = c; title = []; text = refl; halted = refl },
    )

module _ (forced : Bool) (f : Files) (c d : Given forced f) where
  same_constants : c.constants ≡ d.constants
  same_constants = config_once d.right.outside f.config c.constants d.constants (config_moved forced f c.right d.right c.constants c.spells_constants) d.spells_constants

  same_trace : c.trace ≡ d.trace
  same_trace = trace_once (variables_of d.right) f.third c.trace d.trace (trace_moved forced f c.right d.right c.trace c.spells_trace) d.spells_trace

  same_program : traced_program c ≡ traced_program d
  same_program = λ i. program_in bounded (one_outside forced f.source c.right d.right i) (labelled forced (one_typed forced f.source c.right d.right i)) (constants_of (same_constants i))

  same_module : (b : Bool) (title : Word) → module_for b title c ≡ module_for b title d
  same_module b title = λ i. written_module b title (one_outside forced f.source c.right d.right i) (labelled forced (one_typed forced f.source c.right d.right i))

  same_states : states_in c ≡ states_in d
  same_states = ap (map state_of) same_trace

pub one_trace : (options : Options) (f : Files) (w v : Text) (h k : Option Halt) → IsTrace options f w h → IsTrace options f v k → (w ≡ v) × (h ≡ k)
one_trace options f w v h k g l =
    let b = options.no_terminating in
    let d = l.given in
    let P = traced_program d in
    let r = written_region b d.right.outside (labelled options.label d.right.typed) in
    let values = constants_of d.constants in
    let p = same_program options.label f g.given d in
    let m = same_module options.label f g.given d b g.title in
    let c = same_constants options.label f g.given d in
    let s = same_states options.label f g.given d in
    let e = explained_same P d.right.outside r values g.title l.title (states_in d) in (
      g.text ∙ (λ i. trace_text (p i) (m i) (constants_of (c i)) (explained (p i) (m i) (constants_of (c i)) (s i)).states)
          ∙ text_same P d.right.outside r values g.title l.title (explained_of b g.title d).states ∙ ap (λ x. trace_text P (module_for b l.title d) values x.states) e ∙ sym l.text,
      g.halted ∙ (λ i. (explained (p i) (m i) (constants_of (c i)) (s i)).halt) ∙ ap (λ x. x.halt) e ∙ sym l.halted,
    )
