-- Of three files one is refused, once, or they choose one run; and a module with which nothing is wrong is one alone.
use Rattle.std.proofs.Common.{◌≡◌, ◌⊎◌, inl, inr, ◌<◌, Bool, length, Option, Some, None, refl, sym, ap, subst, ◌∙◌}
use Rattle.tla_token.specs.declared.rule.Refusal.{Refusal}
use Rattle.tla_token.specs.Limits.{past_text}
use Rattle.tla_value.specs.Outside.{Outside}
use Rattle.tla_value.specs.States.{Entries}
use Rattle.tla_value.specs.Limits.{bounded}
use Rattle.pcal_tree.specs.Algorithm.{Algorithm}
use Rattle.pcal_tree.specs.InitialStates.{is_multiprocess}
use Rattle.pcal_tree.specs.Labelled.{labelled}
use Rattle.pcal_tree.specs.Programs.{program_in}
use Rattle.module_tree.specs.TextFront.{Text}
use Rattle.module_tree.specs.Walk.{walk}
use Rattle.module_tree.proofs.SomeOutside.{some_outside, one_outside_of}
use Rattle.promise.specs.Headline.{Stands}
use Rattle.file_answer.specs.Checking.{AnswersChecking}
use Rattle.file_answer.proofs.CheckAnswers.{some_check, one_check, accepted_is_rewritten}
use Rattle.file_answer.proofs.OneTree.{one_held}
use Rattle.file_answer.proofs.SpelledInFile.{stand_there}
use Rattle.file_answer.proofs.Unrefused.{unrefused_holds}
use Rattle.step_runner.specs.Config.{SpellsConfig, ConfigOffends, constants_of}
use Rattle.step_runner.specs.Followed.{Stop, followed}
use Rattle.step_runner.specs.Script.{Script, SpellsScript, ScriptOffends}
use Rattle.step_runner.specs.Shown.{run_text}
use Rattle.step_runner.proofs.FilesOnce.{config_once, config_or_offence, config_refused_once, script_once, script_or_offence, script_refused_once}
use Rattle.step_runner.proofs.FilesTold.{config_told, script_told}
use Rattle.translation.specs.laws.AcceptedAlgorithm.{IsAcceptedInFile}
use Rattle.translation.proofs.KeptAccepted.{checked_is_fine, stands_in_file}
use Rattle.run_answer.specs.Chosen.{Files, Which, of_module, of_config, of_third, Right, algorithm_in, has_identifiers, Refuses, Chosen, program_of, followed_of, IsRun}

-- ---- the module

pub stands_right : (forced : Bool) (x : Text) (m : Right forced x) → Stands x m.typed
stands_right forced x m = stand_there x m.holds.text m.holds.syntax m.typed (checked_is_fine forced x m.clean) m.holds.is_text m.holds.spelled

pub right_accepted : (forced : Bool) (x : Text) (m : Right forced x) → length x < past_text → IsAcceptedInFile m.outside (algorithm_in m)
right_accepted forced x m short = stands_in_file forced x m.clean m.typed (stands_right forced x m) m.outside m.has short

pub one_typed : (forced : Bool) (x : Text) (m n : Right forced x) → m.typed ≡ n.typed
one_typed forced x m n = one_held x m.typed n.typed m.holds n.holds

pub one_outside : (forced : Bool) (x : Text) (m n : Right forced x) → m.outside ≡ n.outside
one_outside forced x m n = one_outside_of (walk x) m.outside n.outside m.has n.has

pub one_right : (forced : Bool) (x : Text) (m n : Right forced x) → (m.typed ≡ n.typed) × (m.outside ≡ n.outside)
one_right forced x m n = (one_typed forced x m n, one_outside forced x m n)

-- whether the lines of a script name a process is told by the algorithm
identified_once : (forced : Bool) (x : Text) (m n : Right forced x) → has_identifiers m ≡ has_identifiers n
identified_once forced x m n = ap (λ (g : Algorithm). is_multiprocess (labelled forced g).main) (one_typed forced x m n)

pub some_right : (forced : Bool) (x : Text) → AnswersChecking forced x None → Right forced x
some_right forced x clean =
    let held = unrefused_holds x (accepted_is_rewritten forced x clean) in
    let o = some_outside (walk x) in
    record { clean = clean; typed = held.0; holds = held.1; outside = o.0; has = o.1 }

not_refused : (forced : Bool) (x : Text) (r : Refusal) → AnswersChecking forced x None → AnswersChecking forced x (Some r) → ⊥
not_refused forced x r clean h = (let f : None ≡ Some r = one_check forced x None (Some r) clean h in absurd cc)

-- ---- a file is refused, or none

abbrev Answer : Bool → Files → Type 0
Answer forced f = ((w : Which) × (r : Refusal) × Refuses forced f w r) ⊎ Chosen forced f

by_script : (forced : Bool) (f : Files) (m : Right forced f.source) (es : Entries) → SpellsConfig m.outside f.config es
    → ((s : Script) × SpellsScript (has_identifiers m) f.third s) ⊎ ((r : Refusal) × ScriptOffends (has_identifiers m) f.third r) → Answer forced f
by_script forced f m es h (inl s) = inr (record { right = m; constants = es; spells_constants = h; script = s.0; spells_script = s.1 })
by_script forced f m es h (inr o) = inl (of_third, o.0, (m, es, h, o.1))

by_config : (forced : Bool) (f : Files) (m : Right forced f.source)
    → ((es : Entries) × SpellsConfig m.outside f.config es) ⊎ ((r : Refusal) × ConfigOffends m.outside f.config r) → Answer forced f
by_config forced f m (inl s) = by_script forced f m s.0 s.1 (script_told (has_identifiers m) f.third)
by_config forced f m (inr o) = inl (of_config, o.0, (m, o.1))

by_module : (forced : Bool) (f : Files) (r : Option Refusal) → AnswersChecking forced f.source r → Answer forced f
by_module forced f None h = (let m = some_right forced f.source h in by_config forced f m (config_told m.outside f.config))
by_module forced f (Some r) h = inl (of_module, r, h)

pub refused_or_chosen : (forced : Bool) (f : Files) → ((w : Which) × (r : Refusal) × Refuses forced f w r) ⊎ Chosen forced f
refused_or_chosen forced f = (let a = some_check forced f.source in by_module forced f a.0 a.1)

-- ---- never both

config_moved : (forced : Bool) (f : Files) (m n : Right forced f.source) (es : Entries) → SpellsConfig m.outside f.config es → SpellsConfig n.outside f.config es
config_moved forced f m n es h = subst (λ (o : Outside). SpellsConfig o f.config es) (one_outside forced f.source m n) h

offence_moved : (forced : Bool) (f : Files) (m n : Right forced f.source) (r : Refusal) → ConfigOffends m.outside f.config r → ConfigOffends n.outside f.config r
offence_moved forced f m n r h = subst (λ (o : Outside). ConfigOffends o f.config r) (one_outside forced f.source m n) h

script_moved : (forced : Bool) (f : Files) (m n : Right forced f.source) (s : Script) → SpellsScript (has_identifiers m) f.third s → SpellsScript (has_identifiers n) f.third s
script_moved forced f m n s h = subst (λ (b : Bool). SpellsScript b f.third s) (identified_once forced f.source m n) h

stray_moved : (forced : Bool) (f : Files) (m n : Right forced f.source) (r : Refusal) → ScriptOffends (has_identifiers m) f.third r → ScriptOffends (has_identifiers n) f.third r
stray_moved forced f m n r h = subst (λ (b : Bool). ScriptOffends b f.third r) (identified_once forced f.source m n) h

pub not_both : (forced : Bool) (f : Files) (w : Which) (r : Refusal) → Refuses forced f w r → Chosen forced f → ⊥
not_both forced f of_module r h c = not_refused forced f.source r c.right.clean h
not_both forced f of_config r (m, o) c = config_or_offence c.right.outside f.config c.constants r c.spells_constants (offence_moved forced f m c.right r o)
not_both forced f of_third r (m, es, h, o) c = script_or_offence (has_identifiers c.right) f.third c.script r c.spells_script (stray_moved forced f m c.right r o)

-- ---- once

given : {X : Type 0} (x y : X) → Some x ≡ Some y → x ≡ y
given x y e = cc

pub refused_once : (forced : Bool) (f : Files) (w v : Which) (r q : Refusal) → Refuses forced f w r → Refuses forced f v q → (w ≡ v) × (r ≡ q)
refused_once forced f of_module of_module r q h k = (refl, given r q (one_check forced f.source (Some r) (Some q) h k))
refused_once forced f of_module of_config r q h (n, p) = absurd (not_refused forced f.source r n.clean h)
refused_once forced f of_module of_third r q h (n, fs, k, p) = absurd (not_refused forced f.source r n.clean h)
refused_once forced f of_config of_module r q (m, o) k = absurd (not_refused forced f.source q m.clean k)
refused_once forced f of_config of_config r q (m, o) (n, p) = (refl, config_refused_once n.outside f.config r q (offence_moved forced f m n r o) p)
refused_once forced f of_config of_third r q (m, o) (n, fs, k, p) = absurd (config_or_offence n.outside f.config fs r k (offence_moved forced f m n r o))
refused_once forced f of_third of_module r q (m, es, h, o) k = absurd (not_refused forced f.source q m.clean k)
refused_once forced f of_third of_config r q (m, es, h, o) (n, p) = absurd (config_or_offence n.outside f.config es q (config_moved forced f m n es h) p)
refused_once forced f of_third of_third r q (m, es, h, o) (n, fs, k, p) =
    (refl, script_refused_once (has_identifiers n) f.third r q (stray_moved forced f m n r o) p)

-- ---- one run

pub some_run : (forced : Bool) (f : Files) → Chosen forced f → (w : Text) × (s : Option Stop) × IsRun forced f w s
some_run forced f c = (run_text (program_of c) c.script.turns (followed_of c).states, (followed_of c).stop, record { chosen = c; text = refl; stopped = refl })

module _ (forced : Bool) (f : Files) (c d : Chosen forced f) where
  same_typed : c.right.typed ≡ d.right.typed
  same_typed = one_typed forced f.source c.right d.right

  same_outside : c.right.outside ≡ d.right.outside
  same_outside = one_outside forced f.source c.right d.right

  pub same_constants : c.constants ≡ d.constants
  same_constants = config_once d.right.outside f.config c.constants d.constants (config_moved forced f c.right d.right c.constants c.spells_constants) d.spells_constants

  pub same_script : c.script ≡ d.script
  same_script = script_once (has_identifiers d.right) f.third c.script d.script (script_moved forced f c.right d.right c.script c.spells_script) d.spells_script

  pub same_program : program_of c ≡ program_of d
  same_program = λ i. program_in bounded (same_outside i) (labelled forced (same_typed i)) (constants_of (same_constants i))

pub one_run : (forced : Bool) (f : Files) (w v : Text) (s t : Option Stop) → IsRun forced f w s → IsRun forced f v t → (w ≡ v) × (s ≡ t)
one_run forced f w v s t g h =
    let p = same_program forced f g.chosen h.chosen in
    let c = same_script forced f g.chosen h.chosen in (
      g.text ∙ (λ i. run_text (p i) (c i).turns (followed (p i) (c i)).states) ∙ sym h.text,
      g.stopped ∙ (λ i. (followed (p i) (c i)).stop) ∙ sym h.stopped,
    )
