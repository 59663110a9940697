-- What stands before a refused token can be gone on with: macros, procedures, processes and `define`.
use Rattle.std.proofs.Common.{ℕ, zero, suc, ◌≤◌, true, false, List, [], ◌∷◌, ◌++◌, length, length-append, append_assoc, refl, codes, arith}
use Rattle.std.specs.List.{AllByRecursion, flat_map}
use Rattle.tla_token.specs.declared.place.Place.{Place}
use Rattle.tla_token.specs.Places.{nowhere}
use Rattle.tla_tree.specs.Tree.{Word}
use Rattle.tla_tree.specs.Lexical.{TokenView, Token}
use Rattle.tla_tree.specs.Reader.{Reader, ◌>>=◌, gives}
use Rattle.tla_tree.proofs.SpellAhead.{Ahead, held, put_ahead, then_ahead}
use Rattle.pcal_tree.specs.GrammarParts.{key}
use Rattle.pcal_tree.specs.Grammar.{Body, body, GoodBody, Macro, macro, GoodMacro, Procedure, procedure, GoodProcedure, Fair, unfair, weak, fair, Identity, identity, GoodIdentity, Process, process, GoodProcess, Define, no_define, define, GoodDefine, processes, each, main, GoodMain, Syntax}
use Rattle.syntax_reading.specs.TokenReaders.{Parts, by_next, a_key}
use Rattle.syntax_reading.proofs.Sound.{here, sound_next}
use Rattle.syntax_reading.proofs.Aheads.{ahead_section, ahead_macro, ahead_procedure}
use Rattle.syntax_reading.proofs.Mends.{none, Fill, Mends, MendsAt, IsPart, AllMend, filled, mends_gives, mends_give, mends_refuses, mends_after, mends_bind, mends_then, mends_next, mends_stays, mends_past, mends_pick, part_key, part_name}
use Rattle.syntax_reading.proofs.MendParts.{MendsParts, part_section, part_macro_parameters, part_procedure_parameters}
use Rattle.tla_tree.specs.FirstStop.{Open}
use Rattle.pcal_tree.specs.OpenForms as form
use Rattle.pcal_tree.specs.OpenForms.{body_opens, macro_opens, procedure_opens, identity_opens, process_opens, define_opens, main_opens}
use Rattle.syntax_reading.specs.Missing.{Missing, then_misses, all_of, past_misses, key_then, an_identifier, PartsMiss}
use Rattle.syntax_reading.specs.MissingParts.{no_list}
use Rattle.syntax_reading.specs.MissingRoutines.{WaysMiss, process_after_word, missing_macro, missing_procedure, missing_process, missing_process_words, missing_macros_by, missing_macros, missing_procedures_by, missing_procedures, all_more_miss, missing_processes_by, missing_processes, missing_main_processes, missing_define_by, missing_define}
use Rattle.syntax_reading.specs.ReadAround.{fair_by, all_more}
use Rattle.syntax_reading.proofs.SoundAround.{by_fair_sound}
use Rattle.syntax_reading.proofs.MendAround.{ahead_fair, ahead_each, more_mends, by_fair_mends}
use Rattle.syntax_reading.specs.ReadRoutines.{Ways, read_macro, read_procedure, read_process, process_words, macro_words, macros_by, read_macros, procedure_words, procedures_by, read_procedures, processes_by, read_processes, define_words, define_by, read_define, main_processes}
use Rattle.syntax_reading.proofs.SoundRoutines.{SoundWays, macro_sound, procedure_sound, processes_words, macros_sound, procedures_sound, processes_sound, by_define_sound, first_process_sound}
use Rattle.tla_tree.specs.Lexical as tk

-- of what is spelled in two ways: tokens that come before others
pub record AheadWays (syntax : Syntax) : Type 0 where
  pub body : (w : Word) (b : Body) → GoodBody syntax b → Ahead (body w b)
  pub identity : (x : Identity) → GoodIdentity syntax x → Ahead (identity x)
  pub define : (d : Define) → GoodDefine syntax d → Ahead (define d)

-- and their readers: some process, short bodies and identities, and what is missing of them
pub record MendWays (syntax : Syntax) (ways : Ways) (v : WaysMiss) : Type 0 where
  pub sound : SoundWays syntax ways
  pub heads : AheadWays syntax
  pub process : Fill here [] (GoodProcess syntax) process process_opens none 0 12 (key nowhere (codes "process") (process_after_word v))
  pub short_body : (z : Word) → length (v.a_body z) ≤ 4
  pub short_identity : length v.an_identity ≤ 5
  pub body : (n : ℕ) (z : Word) → IsPart (GoodBody syntax) (body z) body_opens 0 8 (v.a_body z) (v.body n z) (ways.body n z)
  pub identity : IsPart (GoodIdentity syntax) identity identity_opens 0 6 v.an_identity v.identity ways.identity
  pub a_define : List Token
  pub define : (n : ℕ) (p : Place) → Mends (λ ts. key p (codes "define") ts) (form.here 0) (GoodDefine syntax) define define_opens none 0 8 a_define (v.define n) (ways.define n p)

module _ (syntax : Syntax) (heads : AheadWays syntax) where
  pub ahead_macro_whole : (x : Macro) → GoodMacro syntax x → Ahead (macro x)
  ahead_macro_whole x i = put_ahead (put_ahead (then_ahead (ahead_macro x.parameters) (heads.body (codes "macro") x.body i)))

  pub ahead_procedure_whole : (x : Procedure) → GoodProcedure syntax x → Ahead (procedure x)
  ahead_procedure_whole x i = put_ahead (put_ahead (then_ahead (ahead_procedure x.parameters) (then_ahead (ahead_section x.variables) (heads.body (codes "procedure") x.body i.2))))

  pub ahead_process : (x : Process) → GoodProcess syntax x → Ahead (process x)
  ahead_process x i = then_ahead (ahead_fair x.fair) (put_ahead (then_ahead (heads.identity x.identity i.0) (then_ahead (ahead_section x.variables) (heads.body (codes "process") x.body i.2))))

module _ (syntax : Syntax) (m : Parts) (w : PartsMiss) (h : MendsParts m w) (ways : Ways) (v : WaysMiss) (facts : MendWays syntax ways v) where
  macro_mends : (n : ℕ) (p : Place) → Mends (λ ts. key p (codes "macro") ts) (form.here 0) (GoodMacro syntax) macro macro_opens none 0 12 (an_identifier (no_list (v.a_body (codes "macro")))) (missing_macro v n) (read_macro ways n p)
  macro_mends n p =
      let s = facts.short_body (codes "macro") in
      mends_bind (put_ahead held) (part_name 0) (omega (arith, s)) (λ x u hx. mends_bind hx (part_macro_parameters n) (omega (arith, s)) (λ ps i hp.
      mends_give (λ b. record { place = p; name = x; parameters = ps; body = b }) hp (facts.body n (codes "macro")) (omega arith) (λ b g. g) (λ b ts. refl) (λ b. simp append_assoc refl)))

  procedure_mends : (n : ℕ) (p : Place)
      → Mends (λ ts. key p (codes "procedure") ts) (form.here 0) (GoodProcedure syntax) procedure procedure_opens none 0 12 (an_identifier (no_list (v.a_body (codes "procedure")))) (missing_procedure m w v n) (read_procedure m ways n p)
  procedure_mends n p =
      let s = facts.short_body (codes "procedure") in
      mends_bind (put_ahead held) (part_name 0) (omega (arith, s)) (λ x u hx. mends_bind hx (part_procedure_parameters m w h n) (omega (arith, s)) (λ ps i hp. mends_bind hp (part_section m w h false n) (omega (arith, s)) (λ vs j hv.
      mends_give (λ b. record { place = p; name = x; parameters = ps; variables = vs; body = b }) hv (facts.body n (codes "procedure")) (omega arith) (λ b g. (i, j, g)) (λ b ts. refl) (λ b. simp append_assoc refl))))

  process_mends : (n : ℕ) (f : Fair) (p : Place)
      → Mends (λ ts. fair f (key p (codes "process") ts)) (form.plain 0 (fair f) ++ form.here 0) (GoodProcess syntax) process process_opens none 0 12 (process_after_word v) (missing_process m w ways v n) (read_process m ways n f p)
  process_mends n f p =
      let s = facts.short_body (codes "process") in
      mends_bind (then_ahead (ahead_fair f) (put_ahead held)) facts.identity (omega (arith, s)) (λ x i hx. mends_bind hx (part_section m w h true n) (omega (arith, s)) (λ vs j hv.
      mends_give (λ b. record { fair = f; place = p; identity = x; variables = vs; body = b }) hv (facts.body n (codes "process")) (omega arith) (λ b g. (i, j, g)) (λ b ts. refl) (λ b. simp append_assoc refl)))

  -- past `fair`, and maybe `+`
  fair_mends : (n : ℕ) (p : Place) → Mends (λ ts. key p (codes "fair") ts) (form.here 0) (GoodProcess syntax) process process_opens none 0 12 (key nowhere (codes "process") (process_after_word v))
      (then_misses (by_next (fair_by p)) (all_of []) (key nowhere (codes "process") (process_after_word v)) (λ a. key_then (codes "process") (process_after_word v) (λ q. missing_process m w ways v n))) (by_next (fair_by p) >>= λ f. a_key (codes "process") >>= λ q. read_process m ways n f q)
  fair_mends n p =
      let s = facts.short_body (codes "process") in
      let i = facts.short_identity in
      let l = length-append v.an_identity (v.a_body (codes "process")) in
      mends_after (λ ts. ts) [] held (sound_next (by_fair_sound p)) (λ f u. ahead_fair f) (mends_next (filled (weak p) tt (λ ts. refl) refl) (by_fair_mends p)) (omega (arith, s, i, l))
      (λ f u hf. mends_bind hf (part_key 0 (codes "process")) (omega (arith, s, i, l)) (λ q j hq. process_mends n f q))

  pub words_mend : (n : ℕ) (p : Place) → AllMend p here [] (GoodProcess syntax) process process_opens none 0 12 (missing_process_words m w ways v n p) (process_words m ways n p)
  words_mend n p = (refl, mends_past (form.here 0) refl (process_mends n unfair p), (refl, mends_past (form.here 0) refl (fair_mends n p), tt))

  -- ---- those that come
  abbrev EachPart : {A : Type 0} → (A → Type 0) → (A → List Token → List Token) → (A → List Open) → Missing → Reader (List A) → Type 0
  EachPart Q put counted n r = IsPart (AllByRecursion Q) (each put) (flat_map counted) 0 12 [] n r

  pub part_macros : (n : ℕ) → EachPart (GoodMacro syntax) macro macro_opens (missing_macros ways v n) (read_macros ways n)
  part_macros zero = record { sound = macros_sound syntax m h.sound ways facts.sound zero; ahead = ahead_each macro (GoodMacro syntax) (ahead_macro_whole syntax facts.heads); mends = mends_refuses held (filled [] tt (λ ts. refl) refl) }
  part_macros (suc n) = record { sound = macros_sound syntax m h.sound ways facts.sound (suc n); ahead = ahead_each macro (GoodMacro syntax) (ahead_macro_whole syntax facts.heads); mends = mends_next (filled [] tt (λ ts. refl) refl) (by n (part_macros n)) }
    where
      by : (n : ℕ) → EachPart (GoodMacro syntax) macro macro_opens (missing_macros ways v n) (read_macros ways n) → (p : Place) (k : TokenView)
          → MendsAt p k here [] (AllByRecursion (GoodMacro syntax)) (each macro) (flat_map macro_opens) none 0 12 (missing_macros_by ways v n (missing_macros ways v n) p k) (macros_by ways n (read_macros ways n) p k)
      by n i p (tk.reserved z) =
          mends_pick z ((codes "macro", past_misses (then_misses (read_macro ways n p) (missing_macro v n) [] (λ x. missing_macros ways v n))) ∷ []) (macro_words ways n (read_macros ways n) p) {d = gives []}
          (refl, mends_past (form.here 0) refl (more_mends (macro_sound syntax m h.sound ways facts.sound n p) (ahead_macro_whole syntax facts.heads) (macro_mends n p) i), tt) (mends_stays (mends_gives [] tt (λ ts. refl) refl))
      by n i p k = mends_stays (mends_gives [] tt (λ ts. refl) refl)

  pub part_procedures : (n : ℕ) → EachPart (GoodProcedure syntax) procedure procedure_opens (missing_procedures m w ways v n) (read_procedures m ways n)
  part_procedures zero = record { sound = procedures_sound syntax m h.sound ways facts.sound zero; ahead = ahead_each procedure (GoodProcedure syntax) (ahead_procedure_whole syntax facts.heads); mends = mends_refuses held (filled [] tt (λ ts. refl) refl) }
  part_procedures (suc n) = record { sound = procedures_sound syntax m h.sound ways facts.sound (suc n); ahead = ahead_each procedure (GoodProcedure syntax) (ahead_procedure_whole syntax facts.heads); mends = mends_next (filled [] tt (λ ts. refl) refl) (by n (part_procedures n)) }
    where
      by : (n : ℕ) → EachPart (GoodProcedure syntax) procedure procedure_opens (missing_procedures m w ways v n) (read_procedures m ways n) → (p : Place) (k : TokenView)
          → MendsAt p k here [] (AllByRecursion (GoodProcedure syntax)) (each procedure) (flat_map procedure_opens) none 0 12 (missing_procedures_by m w ways v n (missing_procedures m w ways v n) p k) (procedures_by m ways n (read_procedures m ways n) p k)
      by n i p (tk.reserved z) =
          mends_pick z ((codes "procedure", past_misses (then_misses (read_procedure m ways n p) (missing_procedure m w v n) [] (λ x. missing_procedures m w ways v n))) ∷ []) (procedure_words m ways n (read_procedures m ways n) p) {d = gives []}
          (refl, mends_past (form.here 0) refl (more_mends (procedure_sound syntax m h.sound ways facts.sound n p) (ahead_procedure_whole syntax facts.heads) (procedure_mends n p) i), tt) (mends_stays (mends_gives [] tt (λ ts. refl) refl))
      by n i p k = mends_stays (mends_gives [] tt (λ ts. refl) refl)

  part_processes : (n : ℕ) → EachPart (GoodProcess syntax) process process_opens (missing_processes m w ways v n) (read_processes m ways n)
  part_processes zero = record { sound = processes_sound syntax m h.sound ways facts.sound zero; ahead = ahead_each process (GoodProcess syntax) (ahead_process syntax facts.heads); mends = mends_refuses held (filled [] tt (λ ts. refl) refl) }
  part_processes (suc n) = record { sound = processes_sound syntax m h.sound ways facts.sound (suc n); ahead = ahead_each process (GoodProcess syntax) (ahead_process syntax facts.heads); mends = mends_next (filled [] tt (λ ts. refl) refl) (by n (part_processes n)) }
    where
      by : (n : ℕ) → EachPart (GoodProcess syntax) process process_opens (missing_processes m w ways v n) (read_processes m ways n) → (p : Place) (k : TokenView)
          → MendsAt p k here [] (AllByRecursion (GoodProcess syntax)) (each process) (flat_map process_opens) none 0 12 (missing_processes_by m w ways v n (missing_processes m w ways v n) p k) (processes_by m ways n (read_processes m ways n) p k)
      by n i p (tk.reserved z) =
          (let s = processes_words syntax m h.sound ways facts.sound n p in
          let t = words_mend n p in
          mends_pick z (all_more_miss (missing_processes m w ways v n) (process_words m ways n p) (missing_process_words m w ways v n p)) (all_more (read_processes m ways n) (process_words m ways n p)) {d = gives []} (
            refl,
            mends_then (λ ts. ts) [] held s.0 (ahead_process syntax facts.heads) t.1 (omega arith) (λ x g hx. mends_give (λ xs. x ∷ xs) hx i (omega arith) (λ xs k. (g, k)) (λ xs ts. refl) (λ xs. refl)),
            (refl, mends_then (λ ts. ts) [] held s.1.0 (ahead_process syntax facts.heads) t.2.1 (omega arith) (λ x g hx. mends_give (λ xs. x ∷ xs) hx i (omega arith) (λ xs k. (g, k)) (λ xs ts. refl) (λ xs. refl)), tt),
          )
          (mends_stays (mends_gives [] tt (λ ts. refl) refl)))
      by n i p k = mends_stays (mends_gives [] tt (λ ts. refl) refl)

  pub part_define : (n : ℕ) → IsPart (GoodDefine syntax) define define_opens 0 8 [] (missing_define v n) (read_define ways n)
  part_define n = record { sound = sound_next (by_define_sound syntax m h.sound ways facts.sound n); ahead = facts.heads.define; mends = mends_next (filled no_define tt (λ ts. refl) refl) by }
    where
      by : (p : Place) (k : TokenView) → MendsAt p k here [] (GoodDefine syntax) define define_opens none 0 8 (missing_define_by v n p k) (define_by ways n p k)
      by p (tk.reserved z) = mends_pick z ((codes "define", past_misses (v.define n)) ∷ []) (define_words ways n p) {d = gives no_define} (refl, mends_past (form.here 0) refl (facts.define n p), tt) (mends_stays (mends_gives no_define tt (λ ts. refl) refl))
      by p k = mends_stays (mends_gives no_define tt (λ ts. refl) refl)

  -- the processes of a whole algorithm
  pub main_processes_mend : (n : ℕ) (p : Place) (z : Word) → ((x : Process) (xs : List Process) → GoodProcess syntax x → AllByRecursion (GoodProcess syntax) xs → GoodMain syntax (processes x xs))
      → MendsAt p (tk.reserved z) here [] (GoodMain syntax) main main_opens none 0 12 (missing_main_processes m w ways v n p z) (main_processes m ways n p z)
  main_processes_mend n p z good =
      mends_then (λ ts. ts) [] held (first_process_sound syntax m h.sound ways facts.sound n p z) (ahead_process syntax facts.heads) (mends_pick z (missing_process_words m w ways v n p) (process_words m ways n p) (words_mend n p) (mends_stays (mends_refuses held facts.process))) (omega arith)
      (λ x g hx. mends_give (λ xs. processes x xs) hx (part_processes n) (omega arith) (λ xs i. good x xs g i) (λ xs ts. refl) (λ xs. refl))
