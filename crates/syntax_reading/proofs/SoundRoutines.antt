-- What is read is spelled: macros, procedures, processes and `define`.
use Rattle.std.proofs.Common.{ℕ, zero, suc, true, false, List, [], refl, codes}
use Rattle.std.specs.List.{AllByRecursion}
use Rattle.tla_token.specs.declared.place.Place.{Place}
use Rattle.tla_tree.specs.Tree.{Word}
use Rattle.tla_tree.specs.Lexical.{TokenView}
use Rattle.tla_tree.specs.Reader.{Reader, gives, refuses}
use Rattle.pcal_tree.specs.GrammarParts.{key}
use Rattle.pcal_tree.specs.Grammar.{body, GoodBody, Macro, macro, GoodMacro, Procedure, procedure, GoodProcedure, Fair, unfair, fair, identity, GoodIdentity, Process, process, GoodProcess, no_define, define, GoodDefine, each, Syntax}
use Rattle.syntax_reading.specs.TokenReaders.{Parts, pick}
use Rattle.syntax_reading.proofs.Sound.{Sound, SoundAt, here, AllSound, sound_gives, sound_refuses, sound_bind, sound_after, sound_next, sound_stays, sound_past, sound_pick, sound_key, sound_name}
use Rattle.syntax_reading.proofs.SoundParts.{SoundParts, section_sound, macro_parameters_sound, procedure_parameters_sound}
use Rattle.syntax_reading.specs.ReadAround.{all_more}
use Rattle.syntax_reading.proofs.SoundAround.{more_sound, more_at, by_fair_sound}
use Rattle.syntax_reading.specs.ReadRoutines.{Ways, read_macro, read_procedure, read_process, process_words, macro_words, macros_by, read_macros, procedure_words, procedures_by, read_procedures, processes_by, read_processes, define_words, define_by}
use Rattle.tla_tree.specs.Lexical as tk

-- of readers of what is spelled in two ways
pub record SoundWays (syntax : Syntax) (ways : Ways) : Type 0 where
  pub body : (n : ℕ) (w : Word) → Sound here (GoodBody syntax) (body w) (ways.body n w)
  pub identity : Sound here (GoodIdentity syntax) identity ways.identity
  pub define : (n : ℕ) (p : Place) → Sound (λ ts. key p (codes "define") ts) (GoodDefine syntax) define (ways.define n p)

module _ (syntax : Syntax) (m : Parts) (h : SoundParts m) (ways : Ways) (facts : SoundWays syntax ways) where
  pub macro_sound : (n : ℕ) (p : Place) → Sound (λ ts. key p (codes "macro") ts) (GoodMacro syntax) macro (read_macro ways n p)
  macro_sound n p =
      sound_bind sound_name (λ x u. sound_bind (macro_parameters_sound n) (λ ps v. sound_bind (facts.body n (codes "macro")) (λ b g. sound_gives (record { place = p; name = x; parameters = ps; body = b }) g (λ ts. refl))))

  pub procedure_sound : (n : ℕ) (p : Place) → Sound (λ ts. key p (codes "procedure") ts) (GoodProcedure syntax) procedure (read_procedure m ways n p)
  procedure_sound n p =
      sound_bind sound_name (λ x u. sound_bind (procedure_parameters_sound m h n) (λ ps i. sound_bind (section_sound m h false n) (λ vs j. sound_bind (facts.body n (codes "procedure")) (λ b g.
      sound_gives (record { place = p; name = x; parameters = ps; variables = vs; body = b }) (i, j, g) (λ ts. refl)))))

  pub process_sound : (n : ℕ) (f : Fair) (p : Place) → Sound (λ ts. fair f (key p (codes "process") ts)) (GoodProcess syntax) process (read_process m ways n f p)
  process_sound n f p =
      sound_bind facts.identity (λ x i. sound_bind (section_sound m h true n) (λ vs j. sound_bind (facts.body n (codes "process")) (λ b g.
      sound_gives (record { fair = f; place = p; identity = x; variables = vs; body = b }) (i, j, g) (λ ts. refl))))

  pub processes_words : (n : ℕ) (p : Place) → AllSound p here (GoodProcess syntax) process (process_words m ways n p)
  processes_words n p = (
    sound_past refl (process_sound n unfair p),
    (
      sound_past refl (sound_after (λ ts. ts) (sound_next (by_fair_sound p)) (λ f u. sound_bind (sound_key (codes "process")) (λ q v. process_sound n f q))),
      tt,
    ),
  )

  pub by_macros_sound : (n : ℕ) (r : Reader (List Macro)) → Sound here (AllByRecursion (GoodMacro syntax)) (each macro) r → (p : Place) (k : TokenView) → SoundAt p k here (AllByRecursion (GoodMacro syntax)) (each macro) (macros_by ways n r p k)
  by_macros_sound n r i p (tk.reserved w) = sound_pick w (macro_words ways n r p) (gives []) (sound_past refl (more_sound (macro_sound n p) i), tt) (sound_stays (sound_gives [] tt (λ ts. refl)))
  by_macros_sound n r i p k = sound_stays (sound_gives [] tt (λ ts. refl))

  pub macros_sound : (n : ℕ) → Sound here (AllByRecursion (GoodMacro syntax)) (each macro) (read_macros ways n)
  macros_sound zero = sound_refuses
  macros_sound (suc n) = sound_next (by_macros_sound n (read_macros ways n) (macros_sound n))

  pub by_procedures_sound : (n : ℕ) (r : Reader (List Procedure)) → Sound here (AllByRecursion (GoodProcedure syntax)) (each procedure) r → (p : Place) (k : TokenView)
      → SoundAt p k here (AllByRecursion (GoodProcedure syntax)) (each procedure) (procedures_by m ways n r p k)
  by_procedures_sound n r i p (tk.reserved w) = sound_pick w (procedure_words m ways n r p) (gives []) (sound_past refl (more_sound (procedure_sound n p) i), tt) (sound_stays (sound_gives [] tt (λ ts. refl)))
  by_procedures_sound n r i p k = sound_stays (sound_gives [] tt (λ ts. refl))

  pub procedures_sound : (n : ℕ) → Sound here (AllByRecursion (GoodProcedure syntax)) (each procedure) (read_procedures m ways n)
  procedures_sound zero = sound_refuses
  procedures_sound (suc n) = sound_next (by_procedures_sound n (read_procedures m ways n) (procedures_sound n))

  pub by_processes_sound : (n : ℕ) (r : Reader (List Process)) → Sound here (AllByRecursion (GoodProcess syntax)) (each process) r → (p : Place) (k : TokenView)
      → SoundAt p k here (AllByRecursion (GoodProcess syntax)) (each process) (processes_by m ways n r p k)
  by_processes_sound n r i p (tk.reserved w) =
      (let ws = processes_words n p in
      sound_pick w (all_more r (process_words m ways n p)) (gives []) (more_at ws.0 i, (more_at ws.1.0 i, tt)) (sound_stays (sound_gives [] tt (λ ts. refl))))
  by_processes_sound n r i p k = sound_stays (sound_gives [] tt (λ ts. refl))

  pub processes_sound : (n : ℕ) → Sound here (AllByRecursion (GoodProcess syntax)) (each process) (read_processes m ways n)
  processes_sound zero = sound_refuses
  processes_sound (suc n) = sound_next (by_processes_sound n (read_processes m ways n) (processes_sound n))

  -- ---- `define`, and the processes of a whole algorithm
  pub by_define_sound : (n : ℕ) (p : Place) (k : TokenView) → SoundAt p k here (GoodDefine syntax) define (define_by ways n p k)
  by_define_sound n p (tk.reserved w) = sound_pick w (define_words ways n p) (gives no_define) (sound_past refl (facts.define n p), tt) (sound_stays (sound_gives no_define tt (λ ts. refl)))
  by_define_sound n p k = sound_stays (sound_gives no_define tt (λ ts. refl))

  pub first_process_sound : (n : ℕ) (p : Place) (w : Word) → SoundAt p (tk.reserved w) here (GoodProcess syntax) process (pick w (process_words m ways n p) refuses)
  first_process_sound n p w = sound_pick w (process_words m ways n p) refuses (processes_words n p) (sound_stays sound_refuses)
