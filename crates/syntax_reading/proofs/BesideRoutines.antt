-- Reading within the limits beside reading without: macros, procedures, processes and `define`.
use Rattle.std.proofs.Common.{ℕ, zero, suc, List, [], ◌++◌, refl, append_assoc, true, false, codes}
use Rattle.std.specs.List.{flat_map}
use Rattle.std.proofs.lemmas.List.{append-nil}
use Rattle.tla_token.specs.declared.place.Place.{Place}
use Rattle.tla_tree.specs.Tree.{Word}
use Rattle.tla_tree.specs.Lexical.{TokenView}
use Rattle.tla_tree.specs.Reader.{gives, refuses}
use Rattle.tla_tree.specs.FirstStop.{Open}
use Rattle.pcal_tree.specs.GrammarParts.{macro_parameters}
use Rattle.pcal_tree.specs.Grammar.{Fair, unfair, no_define, processes}
use Rattle.pcal_tree.specs.OpenForms.{here, plain, section_opens, procedure_parameters_open, body_opens, macro_opens, procedure_opens, identity_opens, process_opens, define_opens, main_opens}
use Rattle.syntax_reading.specs.TokenReaders.{pick, limited_parts}
use Rattle.syntax_reading.proofs.Beside.{sits, Beside, BesideAt, BothAt, beside_gives, beside_refuses, beside_bind, beside_then, beside_next, beside_stays, beside_moved, beside_skip, beside_key, beside_name, beside_pick}
use Rattle.syntax_reading.proofs.BesideParts.{unlimited_parts, beside_section, beside_macro_parameters, beside_procedure_parameters}
use Rattle.syntax_reading.specs.ReadAround.{all_more}
use Rattle.syntax_reading.proofs.BesideAround.{more_beside, more_beside_at, fair_beside}
use Rattle.syntax_reading.specs.ReadRoutines.{Ways, read_macro, read_procedure, read_process, process_words, macro_words, macros_by, read_macros, procedure_words, procedures_by, read_procedures, processes_by, read_processes, define_words, define_by, read_define, main_processes}
use Rattle.tla_tree.specs.Lexical as tk
use Rattle.pcal_tree.specs.Grammar as gr

-- of readers of what is spelled in two ways, within the limits and without
pub record BesideWays (limited free : Ways) : Type 0 where
  pub body : (n : ℕ) (w : Word) (x : List Open) → Beside x (λ b. x ++ body_opens b) (limited.body n w) (free.body n w)
  pub identity : (x : List Open) → Beside x (λ i. x ++ identity_opens i) limited.identity free.identity
  pub define : (n : ℕ) (p : Place) (x : List Open) → Beside (x ++ here 0) (λ d. x ++ define_opens d) (limited.define n p) (free.define n p)

module _ (e : ℕ) (limited free : Ways) (facts : BesideWays limited free) where
  pub macro_beside : (n : ℕ) (p : Place) (x : List Open) → Beside (x ++ here 0) (λ m. x ++ macro_opens m) (read_macro limited n p) (read_macro free n p)
  macro_beside n p x =
      beside_bind (beside_name 0 sits) (λ y. beside_bind (beside_macro_parameters n (x ++ here 0 ++ here 0)) (λ ps. beside_bind (facts.body n (codes "macro") (x ++ here 0 ++ here 0 ++ plain 0 (macro_parameters ps))) (λ b.
      beside_gives (record { place = p; name = y; parameters = ps; body = b }) (simp append_assoc refl))))

  pub procedure_beside : (n : ℕ) (p : Place) (x : List Open) → Beside (x ++ here 0) (λ m. x ++ procedure_opens m) (read_procedure (limited_parts e) limited n p) (read_procedure (unlimited_parts e) free n p)
  procedure_beside n p x =
      beside_bind (beside_name 0 sits) (λ y. beside_bind (beside_procedure_parameters e n (x ++ here 0 ++ here 0)) (λ ps. beside_bind (beside_section e false n (x ++ here 0 ++ here 0 ++ procedure_parameters_open ps)) (λ vs.
      beside_bind (facts.body n (codes "procedure") (x ++ here 0 ++ here 0 ++ procedure_parameters_open ps ++ section_opens vs)) (λ b. beside_gives (record { place = p; name = y; parameters = ps; variables = vs; body = b }) (simp append_assoc refl)))))

  pub process_beside : (n : ℕ) (f : Fair) (p : Place) (x : List Open) → Beside (x ++ plain 0 (gr.fair f) ++ here 0) (λ y. x ++ process_opens y) (read_process (limited_parts e) limited n f p) (read_process (unlimited_parts e) free n f p)
  process_beside n f p x =
      (let y = x ++ plain 0 (gr.fair f) ++ here 0 in
      beside_bind (facts.identity y) (λ i. beside_bind (beside_section e true n (y ++ identity_opens i)) (λ vs. beside_bind (facts.body n (codes "process") (y ++ identity_opens i ++ section_opens vs)) (λ b.
      beside_gives (record { fair = f; place = p; identity = i; variables = vs; body = b }) (simp append_assoc refl)))))

  pub process_words_beside : (n : ℕ) (p : Place) (w : Word) (x : List Open) → BothAt p w x (λ y. x ++ process_opens y) (process_words (limited_parts e) limited n p) (process_words (unlimited_parts e) free n p)
  process_words_beside n p w x = (
    refl,
    beside_skip 0 sits refl (beside_moved (simp append-nil refl) (process_beside n unfair p x)),
    (
      refl,
      beside_skip 0 sits refl (beside_bind (beside_next (λ q k. fair_beside p q k x)) (λ f. beside_bind (beside_key 0 sits (codes "process")) (λ q. process_beside n f q x))),
      tt,
    ),
  )

  pub macros_beside : (n : ℕ) (x : List Open) → Beside x (λ ms. x ++ flat_map macro_opens ms) (read_macros limited n) (read_macros free n)
  macros_beside zero x = beside_refuses
  macros_beside (suc n) x = beside_next (by (macros_beside n))
    where
      by : ((z : List Open) → Beside z (λ ms. z ++ flat_map macro_opens ms) (read_macros limited n) (read_macros free n)) → (p : Place) (k : TokenView)
          → BesideAt p k x (λ ms. x ++ flat_map macro_opens ms) (macros_by limited n (read_macros limited n) p k) (macros_by free n (read_macros free n) p k)
      by h p (tk.reserved w) =
          beside_pick w (macro_words limited n (read_macros limited n) p) (macro_words free n (read_macros free n) p) (gives []) (gives [])
          (refl, beside_skip 0 sits refl (more_beside macro_opens x (x ++ here 0) (macro_beside n p x) h), tt) (beside_stays (beside_gives [] (append-nil x)))
      by h p k = beside_stays (beside_gives [] (append-nil x))

  pub procedures_beside : (n : ℕ) (x : List Open) → Beside x (λ ps. x ++ flat_map procedure_opens ps) (read_procedures (limited_parts e) limited n) (read_procedures (unlimited_parts e) free n)
  procedures_beside zero x = beside_refuses
  procedures_beside (suc n) x = beside_next (by (procedures_beside n))
    where
      by : ((z : List Open) → Beside z (λ ps. z ++ flat_map procedure_opens ps) (read_procedures (limited_parts e) limited n) (read_procedures (unlimited_parts e) free n)) → (p : Place) (k : TokenView)
          → BesideAt p k x (λ ps. x ++ flat_map procedure_opens ps) (procedures_by (limited_parts e) limited n (read_procedures (limited_parts e) limited n) p k) (procedures_by (unlimited_parts e) free n (read_procedures (unlimited_parts e) free n) p k)
      by h p (tk.reserved w) =
          beside_pick w (procedure_words (limited_parts e) limited n (read_procedures (limited_parts e) limited n) p) (procedure_words (unlimited_parts e) free n (read_procedures (unlimited_parts e) free n) p) (gives []) (gives [])
          (refl, beside_skip 0 sits refl (more_beside procedure_opens x (x ++ here 0) (procedure_beside n p x) h), tt) (beside_stays (beside_gives [] (append-nil x)))
      by h p k = beside_stays (beside_gives [] (append-nil x))

  pub processes_beside : (n : ℕ) (x : List Open) → Beside x (λ ps. x ++ flat_map process_opens ps) (read_processes (limited_parts e) limited n) (read_processes (unlimited_parts e) free n)
  processes_beside zero x = beside_refuses
  processes_beside (suc n) x = beside_next (by (processes_beside n))
    where
      by : ((z : List Open) → Beside z (λ ps. z ++ flat_map process_opens ps) (read_processes (limited_parts e) limited n) (read_processes (unlimited_parts e) free n)) → (p : Place) (k : TokenView)
          → BesideAt p k x (λ ps. x ++ flat_map process_opens ps) (processes_by (limited_parts e) limited n (read_processes (limited_parts e) limited n) p k) (processes_by (unlimited_parts e) free n (read_processes (unlimited_parts e) free n) p k)
      by h p (tk.reserved w) =
          (let ws = process_words_beside n p w x in
          beside_pick w (all_more (read_processes (limited_parts e) limited n) (process_words (limited_parts e) limited n p)) (all_more (read_processes (unlimited_parts e) free n) (process_words (unlimited_parts e) free n p)) (gives []) (gives [])
          (refl, more_beside_at process_opens x ws.1 h, (refl, more_beside_at process_opens x ws.2.1 h, tt)) (beside_stays (beside_gives [] (append-nil x))))
      by h p k = beside_stays (beside_gives [] (append-nil x))

  -- ---- `define`, and the processes of a whole algorithm
  pub define_beside : (n : ℕ) (x : List Open) → Beside x (λ d. x ++ define_opens d) (read_define limited n) (read_define free n)
  define_beside n x = beside_next by
    where
      by : (p : Place) (k : TokenView) → BesideAt p k x (λ d. x ++ define_opens d) (define_by limited n p k) (define_by free n p k)
      by p (tk.reserved w) = beside_pick w (define_words limited n p) (define_words free n p) (gives no_define) (gives no_define) (refl, beside_skip 0 sits refl (facts.define n p x), tt) (beside_stays (beside_gives no_define (append-nil x)))
      by p k = beside_stays (beside_gives no_define (append-nil x))

  pub first_process_beside : (n : ℕ) (p : Place) (w : Word) (x : List Open) → BesideAt p (tk.reserved w) x (λ y. x ++ process_opens y) (pick w (process_words (limited_parts e) limited n p) refuses) (pick w (process_words (unlimited_parts e) free n p) refuses)
  first_process_beside n p w x = beside_pick w (process_words (limited_parts e) limited n p) (process_words (unlimited_parts e) free n p) refuses refuses (process_words_beside n p w x) (beside_stays beside_refuses)

  pub main_processes_beside : (n : ℕ) (p : Place) (w : Word) (x : List Open) → BesideAt p (tk.reserved w) x (λ b. x ++ main_opens b) (main_processes (limited_parts e) limited n p w) (main_processes (unlimited_parts e) free n p w)
  main_processes_beside n p w x = beside_then (first_process_beside n p w x) (λ y. beside_bind (processes_beside n (x ++ process_opens y)) (λ ys. beside_gives (processes y ys) (simp append_assoc refl)))
