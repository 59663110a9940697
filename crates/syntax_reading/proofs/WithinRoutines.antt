-- What was read within the limits can be gone on with within them: macros, procedures, processes and `define`.
use Rattle.std.proofs.Common.{ℕ, zero, suc, true, false, List, [], ◌∷◌, ◌++◌, refl, append_assoc, codes}
use Rattle.std.specs.List.{AllByRecursion, flat_map}
use Rattle.std.proofs.lemmas.List.{append-nil}
use Rattle.tla_token.specs.declared.place.Place.{Place}
use Rattle.tla_tree.specs.Tree.{Word}
use Rattle.tla_tree.specs.Lexical.{TokenView}
use Rattle.tla_tree.specs.Reader.{gives, refuses}
use Rattle.tla_tree.specs.FirstStop.{Open}
use Rattle.tla_tree.proofs.SpellAhead.{held, put_ahead, then_ahead}
use Rattle.tla_tree.proofs.Limited.{told_ok}
use Rattle.pcal_tree.specs.GrammarParts.{key, macro_parameters}
use Rattle.pcal_tree.specs.Grammar.{body, GoodBody, macro, GoodMacro, procedure, GoodProcedure, Fair, unfair, weak, fair, identity, GoodIdentity, process, GoodProcess, no_define, define, GoodDefine, processes, each, main, GoodMain, Syntax, Process}
use Rattle.pcal_tree.specs.OpenForms.{here, plain, section_opens, procedure_parameters_open, body_opens, macro_opens, procedure_opens, identity_opens, process_opens, define_opens, main_opens}
use Rattle.syntax_reading.specs.TokenReaders.{limited_parts}
use Rattle.syntax_reading.proofs.Sound.{sound_next}
use Rattle.syntax_reading.proofs.Beside.{sits, beside_next}
use Rattle.syntax_reading.proofs.Within.{before, Filled, Ends, EndsAt, Part, AllEnd, fits_of, here_filled, ends_gives, ends_refuses, ends_after, ends_bind, ends_then, ends_next, ends_stays, ends_past, ends_pick, ends_moved, key_part, name_part}
use Rattle.syntax_reading.proofs.WithinParts.{limited_sound, section_part, macro_parameters_part, procedure_parameters_part}
use Rattle.syntax_reading.specs.ReadAround.{all_more}
use Rattle.syntax_reading.proofs.SoundAround.{by_fair_sound}
use Rattle.syntax_reading.proofs.MendAround.{ahead_fair, ahead_each}
use Rattle.syntax_reading.proofs.BesideAround.{fair_beside}
use Rattle.syntax_reading.proofs.WithinAround.{Every, by_fair}
use Rattle.syntax_reading.specs.ReadRoutines.{Ways, read_macro, read_procedure, read_process, process_words, macro_words, macros_by, read_macros, procedure_words, procedures_by, read_procedures, processes_by, read_processes, define_words, define_by, read_define, main_processes}
use Rattle.syntax_reading.proofs.SoundRoutines.{SoundWays, macro_sound, procedure_sound, processes_words, macros_sound, procedures_sound, processes_sound, by_define_sound, first_process_sound}
use Rattle.syntax_reading.proofs.MendRoutines.{AheadWays, ahead_macro_whole, ahead_procedure_whole, ahead_process}
use Rattle.syntax_reading.proofs.BesideRoutines.{BesideWays, macro_beside, procedure_beside, process_words_beside, macros_beside, procedures_beside, processes_beside, define_beside, first_process_beside}
use Rattle.tla_tree.specs.Lexical as tk

-- of readers of what is spelled in two ways, within the limits, with some process
pub record WithinWays (syntax : Syntax) (limited free : Ways) : Type 0 where
  pub sound : SoundWays syntax limited
  pub heads : AheadWays syntax
  pub beside : BesideWays limited free
  pub some : (y : List Open) → Filled before (GoodProcess syntax) process y (λ x. y ++ process_opens x)
  pub body : (n : ℕ) (w : Word) (y : List Open) → Part (GoodBody syntax) (body w) y (λ b. y ++ body_opens b) (limited.body n w)
  pub identity : (y : List Open) → Part (GoodIdentity syntax) identity y (λ i. y ++ identity_opens i) limited.identity
  pub define : (n : ℕ) (p : Place) (y : List Open) → Ends (λ ts. key p (codes "define") ts) (GoodDefine syntax) define (y ++ here 0) (λ d. y ++ define_opens d) (limited.define n p)

module _ (syntax : Syntax) (e : ℕ) (limited free : Ways) (facts : WithinWays syntax limited free) where
  pub macro_ends : (n : ℕ) (p : Place) (y : List Open) → Ends (λ ts. key p (codes "macro") ts) (GoodMacro syntax) macro (y ++ here 0) (λ m. y ++ macro_opens m) (read_macro limited n p)
  macro_ends n p y =
      ends_bind (put_ahead held) (name_part 0 sits) (λ x u hx. ends_bind hx (macro_parameters_part n (y ++ here 0 ++ here 0)) (λ ps v hp. ends_bind hp (facts.body n (codes "macro") (y ++ here 0 ++ here 0 ++ plain 0 (macro_parameters ps))) (λ b g hb.
      ends_gives (record { place = p; name = x; parameters = ps; body = b }) g (λ ts. refl) (simp append_assoc refl))))

  pub procedure_ends : (n : ℕ) (p : Place) (y : List Open) → Ends (λ ts. key p (codes "procedure") ts) (GoodProcedure syntax) procedure (y ++ here 0) (λ m. y ++ procedure_opens m) (read_procedure (limited_parts e) limited n p)
  procedure_ends n p y =
      ends_bind (put_ahead held) (name_part 0 sits) (λ x u hx. ends_bind hx (procedure_parameters_part e n (y ++ here 0 ++ here 0)) (λ ps i hp. ends_bind hp (section_part e false n (y ++ here 0 ++ here 0 ++ procedure_parameters_open ps)) (λ vs j hv.
      ends_bind hv (facts.body n (codes "procedure") (y ++ here 0 ++ here 0 ++ procedure_parameters_open ps ++ section_opens vs)) (λ b g hb. ends_gives (record { place = p; name = x; parameters = ps; variables = vs; body = b }) (i, j, g) (λ ts. refl) (simp append_assoc refl)))))

  pub process_ends : (n : ℕ) (f : Fair) (p : Place) (y : List Open) → Ends (λ ts. fair f (key p (codes "process") ts)) (GoodProcess syntax) process (y ++ plain 0 (fair f) ++ here 0) (λ x. y ++ process_opens x) (read_process (limited_parts e) limited n f p)
  process_ends n f p y =
      (let z = y ++ plain 0 (fair f) ++ here 0 in
      ends_bind (then_ahead (ahead_fair f) (put_ahead held)) (facts.identity z) (λ x i hx. ends_bind hx (section_part e true n (z ++ identity_opens x)) (λ vs j hv. ends_bind hv (facts.body n (codes "process") (z ++ identity_opens x ++ section_opens vs)) (λ b g hb.
      ends_gives (record { fair = f; place = p; identity = x; variables = vs; body = b }) (i, j, g) (λ ts. refl) (simp append_assoc refl)))))

  pub words_end : (n : ℕ) (p : Place) (y : List Open) → AllEnd p before (GoodProcess syntax) process y (λ x. y ++ process_opens x) (process_words (limited_parts e) limited n p)
  words_end n p y = (
    ends_past 0 sits refl (ends_moved (simp append-nil refl) (process_ends n unfair p y)),
    (
      ends_past 0 sits refl (ends_after (λ ts. ts) held (sound_next (by_fair_sound p)) (λ f u. ahead_fair f) (fits_of (beside_next (λ q k. fair_beside p q k y))) (ends_next (here_filled (weak p) tt (λ ts. refl) refl) (λ q k. by_fair p q k y))
          (λ f u hf. ends_bind hf (key_part 0 sits (codes "process")) (λ q v hq. process_ends n f q y))),
      tt,
    ),
  )

  pub macros_part : (n : ℕ) → Every (GoodMacro syntax) macro macro_opens (read_macros limited n)
  macros_part zero y = record { sound = macros_sound syntax (limited_parts e) (limited_sound e) limited facts.sound zero; ahead = ahead_each macro (GoodMacro syntax) (ahead_macro_whole syntax facts.heads); fits = fits_of (macros_beside e limited free facts.beside zero y); ends = ends_refuses held (here_filled [] tt (λ ts. refl) (append-nil y)) }
  macros_part (suc n) y = record { sound = macros_sound syntax (limited_parts e) (limited_sound e) limited facts.sound (suc n); ahead = ahead_each macro (GoodMacro syntax) (ahead_macro_whole syntax facts.heads); fits = fits_of (macros_beside e limited free facts.beside (suc n) y); ends = ends_next (here_filled [] tt (λ ts. refl) (append-nil y)) (by (macros_part n)) }
    where
      by : Every (GoodMacro syntax) macro macro_opens (read_macros limited n) → (p : Place) (k : TokenView) → EndsAt p k before (AllByRecursion (GoodMacro syntax)) (each macro) y (λ xs. y ++ flat_map macro_opens xs) (macros_by limited n (read_macros limited n) p k)
      by i p (tk.reserved w) =
          ends_pick w (macro_words limited n (read_macros limited n) p) (gives [])
          (ends_past 0 sits refl (ends_after (λ ts. ts) held (macro_sound syntax (limited_parts e) (limited_sound e) limited facts.sound n p) (ahead_macro_whole syntax facts.heads) (fits_of (macro_beside e limited free facts.beside n p y)) (macro_ends n p y) (λ x g hx. ends_bind hx (i (y ++ macro_opens x)) (λ xs k hy. ends_gives (x ∷ xs) (g, k) (λ ts. refl) (simp append_assoc refl)))), tt)
          (ends_stays (ends_gives [] tt (λ ts. refl) (append-nil y)))
      by i p k = ends_stays (ends_gives [] tt (λ ts. refl) (append-nil y))

  pub procedures_part : (n : ℕ) → Every (GoodProcedure syntax) procedure procedure_opens (read_procedures (limited_parts e) limited n)
  procedures_part zero y = record { sound = procedures_sound syntax (limited_parts e) (limited_sound e) limited facts.sound zero; ahead = ahead_each procedure (GoodProcedure syntax) (ahead_procedure_whole syntax facts.heads); fits = fits_of (procedures_beside e limited free facts.beside zero y); ends = ends_refuses held (here_filled [] tt (λ ts. refl) (append-nil y)) }
  procedures_part (suc n) y = record { sound = procedures_sound syntax (limited_parts e) (limited_sound e) limited facts.sound (suc n); ahead = ahead_each procedure (GoodProcedure syntax) (ahead_procedure_whole syntax facts.heads); fits = fits_of (procedures_beside e limited free facts.beside (suc n) y); ends = ends_next (here_filled [] tt (λ ts. refl) (append-nil y)) (by (procedures_part n)) }
    where
      by : Every (GoodProcedure syntax) procedure procedure_opens (read_procedures (limited_parts e) limited n) → (p : Place) (k : TokenView) → EndsAt p k before (AllByRecursion (GoodProcedure syntax)) (each procedure) y (λ xs. y ++ flat_map procedure_opens xs) (procedures_by (limited_parts e) limited n (read_procedures (limited_parts e) limited n) p k)
      by i p (tk.reserved w) =
          ends_pick w (procedure_words (limited_parts e) limited n (read_procedures (limited_parts e) limited n) p) (gives [])
          (ends_past 0 sits refl (ends_after (λ ts. ts) held (procedure_sound syntax (limited_parts e) (limited_sound e) limited facts.sound n p) (ahead_procedure_whole syntax facts.heads) (fits_of (procedure_beside e limited free facts.beside n p y)) (procedure_ends n p y) (λ x g hx. ends_bind hx (i (y ++ procedure_opens x)) (λ xs k hy. ends_gives (x ∷ xs) (g, k) (λ ts. refl) (simp append_assoc refl)))), tt)
          (ends_stays (ends_gives [] tt (λ ts. refl) (append-nil y)))
      by i p k = ends_stays (ends_gives [] tt (λ ts. refl) (append-nil y))

  pub processes_part : (n : ℕ) → Every (GoodProcess syntax) process process_opens (read_processes (limited_parts e) limited n)
  processes_part zero y = record { sound = processes_sound syntax (limited_parts e) (limited_sound e) limited facts.sound zero; ahead = ahead_each process (GoodProcess syntax) (ahead_process syntax facts.heads); fits = fits_of (processes_beside e limited free facts.beside zero y); ends = ends_refuses held (here_filled [] tt (λ ts. refl) (append-nil y)) }
  processes_part (suc n) y = record { sound = processes_sound syntax (limited_parts e) (limited_sound e) limited facts.sound (suc n); ahead = ahead_each process (GoodProcess syntax) (ahead_process syntax facts.heads); fits = fits_of (processes_beside e limited free facts.beside (suc n) y); ends = ends_next (here_filled [] tt (λ ts. refl) (append-nil y)) (by (processes_part n)) }
    where
      by : Every (GoodProcess syntax) process process_opens (read_processes (limited_parts e) limited n) → (p : Place) (k : TokenView) → EndsAt p k before (AllByRecursion (GoodProcess syntax)) (each process) y (λ xs. y ++ flat_map process_opens xs) (processes_by (limited_parts e) limited n (read_processes (limited_parts e) limited n) p k)
      by i p (tk.reserved w) =
          (let s = processes_words syntax (limited_parts e) (limited_sound e) limited facts.sound n p in
          let t = words_end n p y in
          let u = process_words_beside e limited free facts.beside n p (codes "process") y in
          let v = process_words_beside e limited free facts.beside n p (codes "fair") y in
          ends_pick w (all_more (read_processes (limited_parts e) limited n) (process_words (limited_parts e) limited n p)) (gives []) (
            ends_then (λ ts. ts) held s.0 (ahead_process syntax facts.heads) (λ ts o a us q. (told_ok (u.1.is ts o) q).1) t.0 (λ x g hx. ends_bind hx (i (y ++ process_opens x)) (λ xs k hy. ends_gives (x ∷ xs) (g, k) (λ ts. refl) (simp append_assoc refl))),
            (ends_then (λ ts. ts) held s.1.0 (ahead_process syntax facts.heads) (λ ts o a us q. (told_ok (v.2.1.is ts o) q).1) t.1.0 (λ x g hx. ends_bind hx (i (y ++ process_opens x)) (λ xs k hy. ends_gives (x ∷ xs) (g, k) (λ ts. refl) (simp append_assoc refl))), tt),
          )
          (ends_stays (ends_gives [] tt (λ ts. refl) (append-nil y))))
      by i p k = ends_stays (ends_gives [] tt (λ ts. refl) (append-nil y))

  pub define_part : (n : ℕ) (y : List Open) → Part (GoodDefine syntax) define y (λ d. y ++ define_opens d) (read_define limited n)
  define_part n y = record { sound = sound_next (by_define_sound syntax (limited_parts e) (limited_sound e) limited facts.sound n); ahead = facts.heads.define; fits = fits_of (define_beside e limited free facts.beside n y); ends = ends_next (here_filled no_define tt (λ ts. refl) (append-nil y)) by }
    where
      by : (p : Place) (k : TokenView) → EndsAt p k before (GoodDefine syntax) define y (λ d. y ++ define_opens d) (define_by limited n p k)
      by p (tk.reserved w) = ends_pick w (define_words limited n p) (gives no_define) (ends_past 0 sits refl (facts.define n p y), tt) (ends_stays (ends_gives no_define tt (λ ts. refl) (append-nil y)))
      by p k = ends_stays (ends_gives no_define tt (λ ts. refl) (append-nil y))

  -- the processes of a whole algorithm
  pub main_processes_end : (n : ℕ) (p : Place) (w : Word) (y : List Open) → ((x : Process) (xs : List Process) → GoodProcess syntax x → AllByRecursion (GoodProcess syntax) xs → GoodMain syntax (processes x xs))
      → EndsAt p (tk.reserved w) before (GoodMain syntax) main y (λ b. y ++ main_opens b) (main_processes (limited_parts e) limited n p w)
  main_processes_end n p w y good =
      ends_then (λ ts. ts) held (first_process_sound syntax (limited_parts e) (limited_sound e) limited facts.sound n p w) (ahead_process syntax facts.heads) (λ ts o a us q. (told_ok ((first_process_beside e limited free facts.beside n p w y).is ts o) q).1)
      (ends_pick w (process_words (limited_parts e) limited n p) refuses (words_end n p y) (ends_stays (ends_refuses held (facts.some y))))
      (λ x g hx. ends_bind hx (processes_part n (y ++ process_opens x)) (λ xs i hy. ends_gives (processes x xs) (good x xs g i) (λ ts. refl) (simp append_assoc refl)))
