-- A reader looks no further than the token at which it stops: macros, procedures, processes and `define`.
use Rattle.std.proofs.Common.{ℕ, suc, ◌+◌, ◌*◌, ◌≤◌, true, false, [], refl, arith, codes}
use Rattle.tla_token.specs.declared.place.Place.{Place}
use Rattle.tla_tree.specs.Tree.{Word}
use Rattle.tla_tree.specs.Lexical.{TokenView}
use Rattle.tla_tree.specs.Reader.{gives, refuses}
use Rattle.tla_tree.proofs.Alike.{IsFair, fair_gives, fair_refuses, fair_skip, fair_bind}
use Rattle.pcal_tree.specs.Grammar.{Fair, unfair, no_define}
use Rattle.syntax_reading.specs.TokenReaders.{pick, Parts}
use Rattle.syntax_reading.proofs.Fair.{fair_next, pick_both, fair_steps, FairParts, left_parts, right_parts}
use Rattle.syntax_reading.proofs.FairParts.{fair_name, section_fair, macro_parameters_fair, procedure_parameters_fair}
use Rattle.syntax_reading.specs.ReadAround.{fair_by, all_more}
use Rattle.syntax_reading.proofs.FairAround.{fair_key, more_fair}
use Rattle.syntax_reading.specs.ReadRoutines.{Ways, read_macro, read_procedure, read_process, process_words, macro_words, macros_by, read_macros, procedure_words, procedures_by, read_procedures, processes_by, read_processes, define_words, define_by, read_define, main_processes}
use Rattle.tla_tree.specs.declared.op.Op.TheVariants as op
use Rattle.tla_tree.specs.Lexical as tk

-- of readers of what is spelled in two ways
pub record FairWays (d : ℕ) (ways others : Ways) : Type 0 where
  pub body : (n o b : ℕ) → b ≤ d → b ≤ 4 * n → b ≤ 4 * o → (w : Word) → IsFair b (ways.body n w) (others.body o w)
  pub identity : (b : ℕ) → b ≤ d → IsFair b ways.identity others.identity
  pub define : (n o b : ℕ) → b ≤ d → b ≤ 4 * n → b ≤ 4 * o → (p : Place) → IsFair b (ways.define n p) (others.define o p)

module _ (d : ℕ) (m q : Parts) (h : FairParts d m q) (ways others : Ways) (facts : FairWays d ways others) where
  macro_fair : (n o b : ℕ) → b ≤ d → b ≤ 4 * n → b ≤ 4 * o → (p : Place) → IsFair b (read_macro ways n p) (read_macro others o p)
  macro_fair n o b l k s p = fair_name {n = b} (omega arith) (λ x. fair_bind (macro_parameters_fair n o b k s) (λ y. fair_bind (facts.body n o b l k s (codes "macro")) (λ z. fair_gives)))

  procedure_fair : (n o b : ℕ) → b ≤ d → b ≤ 4 * n → b ≤ 4 * o → (p : Place) → IsFair b (read_procedure m ways n p) (read_procedure q others o p)
  procedure_fair n o b l k s p =
      fair_name {n = b} (omega arith) (λ x. fair_bind (procedure_parameters_fair d h n o b l k s) (λ y. fair_bind (section_fair d h false n o b l k s) (λ z. fair_bind (facts.body n o b l k s (codes "procedure")) (λ t. fair_gives))))

  process_fair : (n o b : ℕ) → b ≤ d → b ≤ 4 * n → b ≤ 4 * o → (f : Fair) (p : Place) → IsFair b (read_process m ways n f p) (read_process q others o f p)
  process_fair n o b l k s f p =
      fair_bind (facts.identity b l)
      (λ x. fair_bind (section_fair d h true n o b l k s) (λ z. fair_bind (facts.body n o b l k s (codes "process")) (λ t. fair_gives)))

  fair_words : (p x : Place) (b : ℕ) (k : TokenView) → IsFair b (fair_by p x k) (fair_by p x k)
  fair_words p x b (tk.sign op.Plus) = fair_skip {n = b} (omega arith) fair_gives
  fair_words p x b k = fair_gives

  macros_step : (b c n o : ℕ) → b ≤ d → b ≤ c + 4 → c ≤ b → c ≤ 4 * n → c ≤ 4 * o → IsFair c (read_macros ways n) (read_macros others o) → IsFair b (read_macros ways (suc n)) (read_macros others (suc o))
  macros_step b c n o l k e s t f = fair_next by
    where
      by : (p : Place) (v : TokenView) → IsFair b (macros_by ways n (read_macros ways n) p v) (macros_by others o (read_macros others o) p v)
      by p (tk.reserved w) = pick_both (IsFair b) w (macro_words ways n (read_macros ways n) p) (macro_words others o (read_macros others o) p) (gives []) (gives []) (refl, fair_skip k (more_fair (macro_fair n o c (omega (arith, l, e)) s t p) f), tt) fair_gives
      by p v = fair_gives

  procedures_step : (b c n o : ℕ) → b ≤ d → b ≤ c + 4 → c ≤ b → c ≤ 4 * n → c ≤ 4 * o → IsFair c (read_procedures m ways n) (read_procedures q others o) → IsFair b (read_procedures m ways (suc n)) (read_procedures q others (suc o))
  procedures_step b c n o l k e s t f = fair_next by
    where
      by : (p : Place) (v : TokenView) → IsFair b (procedures_by m ways n (read_procedures m ways n) p v) (procedures_by q others o (read_procedures q others o) p v)
      by p (tk.reserved w) =
          pick_both (IsFair b) w (procedure_words m ways n (read_procedures m ways n) p) (procedure_words q others o (read_procedures q others o) p) (gives []) (gives []) (refl, fair_skip k (more_fair (procedure_fair n o c (omega (arith, l, e)) s t p) f), tt) fair_gives
      by p v = fair_gives

  processes_step : (b c n o : ℕ) → b ≤ d → b ≤ c + 4 → c ≤ b → c ≤ 4 * n → c ≤ 4 * o → IsFair c (read_processes m ways n) (read_processes q others o) → IsFair b (read_processes m ways (suc n)) (read_processes q others (suc o))
  processes_step b c n o l k e s t f = fair_next by
    where
      on : (f : Fair) (p : Place) → IsFair c (read_process m ways n f p) (read_process q others o f p)
      on f p = process_fair n o c (omega (arith, l, e)) s t f p

      by : (p : Place) (v : TokenView) → IsFair b (processes_by m ways n (read_processes m ways n) p v) (processes_by q others o (read_processes q others o) p v)
      by p (tk.reserved w) =
          pick_both (IsFair b) w (all_more (read_processes m ways n) (process_words m ways n p)) (all_more (read_processes q others o) (process_words q others o p)) (gives []) (gives [])
          (refl, fair_skip k (more_fair (on unfair p) f), (refl, fair_skip k (more_fair (fair_bind (fair_next (λ x. fair_words p x c)) (λ y. fair_key {n = c} (codes "process") (omega arith) (λ z. on y z))) f), tt)) fair_gives
      by p v = fair_gives

  process_pick : (n o b : ℕ) → b ≤ d → b ≤ 4 * n → b ≤ 4 * o → (p : Place) (w : Word) → IsFair b (pick w (process_words m ways n p) refuses) (pick w (process_words q others o p) refuses)
  process_pick n o b l k s p w =
      pick_both (IsFair b) w (process_words m ways n p) (process_words q others o p) refuses refuses (
        refl,
        fair_skip {n = b} (omega arith) (process_fair n o b l k s unfair p),
        (refl, fair_skip {n = b} (omega arith) (fair_bind (fair_next (λ x. fair_words p x b)) (λ y. fair_key {n = b} (codes "process") (omega arith) (λ z. process_fair n o b l k s y z))), tt),
      ) fair_refuses

  pub define_fair : (n o b : ℕ) → b ≤ d → b ≤ 4 * n → b ≤ 4 * o → IsFair b (read_define ways n) (read_define others o)
  define_fair n o b l k s = fair_next by
    where
      by : (p : Place) (v : TokenView) → IsFair b (define_by ways n p v) (define_by others o p v)
      by p (tk.reserved w) = pick_both (IsFair b) w (define_words ways n p) (define_words others o p) (gives no_define) (gives no_define) (refl, fair_skip {n = b} (omega arith) (facts.define n o b l k s p), tt) fair_gives
      by p v = fair_gives

module _ (d : ℕ) (m q : Parts) (h : FairParts d m q) (ways others : Ways) (left : FairWays 0 ways ways) (right : FairWays 0 others others) (facts : FairWays d ways others) where
  pub macros_fair : (n o b : ℕ) → b ≤ d → b ≤ 4 * n → b ≤ 4 * o → IsFair b (read_macros ways n) (read_macros others o)
  macros_fair n o b l k s =
      fair_steps d (λ i (u : Unit {0}). read_macros ways i) (λ i (u : Unit {0}). read_macros others i) (λ u. fair_refuses) (λ u. fair_refuses)
      (λ b c n o x y z v w f u. macros_step 0 m m (left_parts h) ways ways left b c n o x y z v w (f tt)) (λ b c n o x y z v w f u. macros_step 0 q q (right_parts h) others others right b c n o x y z v w (f tt)) (λ b c n o x y z v w f u. macros_step d m q h ways others facts b c n o x y z v w (f tt)) n o b l k s tt

  pub procedures_fair : (n o b : ℕ) → b ≤ d → b ≤ 4 * n → b ≤ 4 * o → IsFair b (read_procedures m ways n) (read_procedures q others o)
  procedures_fair n o b l k s =
      fair_steps d (λ i (u : Unit {0}). read_procedures m ways i) (λ i (u : Unit {0}). read_procedures q others i) (λ u. fair_refuses) (λ u. fair_refuses)
      (λ b c n o x y z v w f u. procedures_step 0 m m (left_parts h) ways ways left b c n o x y z v w (f tt)) (λ b c n o x y z v w f u. procedures_step 0 q q (right_parts h) others others right b c n o x y z v w (f tt))
      (λ b c n o x y z v w f u. procedures_step d m q h ways others facts b c n o x y z v w (f tt)) n o b l k s tt

  pub processes_fair : (n o b : ℕ) → b ≤ d → b ≤ 4 * n → b ≤ 4 * o → IsFair b (read_processes m ways n) (read_processes q others o)
  processes_fair n o b l k s =
      fair_steps d (λ i (u : Unit {0}). read_processes m ways i) (λ i (u : Unit {0}). read_processes q others i) (λ u. fair_refuses) (λ u. fair_refuses)
      (λ b c n o x y z v w f u. processes_step 0 m m (left_parts h) ways ways left b c n o x y z v w (f tt)) (λ b c n o x y z v w f u. processes_step 0 q q (right_parts h) others others right b c n o x y z v w (f tt))
      (λ b c n o x y z v w f u. processes_step d m q h ways others facts b c n o x y z v w (f tt)) n o b l k s tt

  pub main_processes_fair : (n o b : ℕ) → b ≤ d → b ≤ 4 * n → b ≤ 4 * o → (p : Place) (w : Word) → IsFair b (main_processes m ways n p w) (main_processes q others o p w)
  main_processes_fair n o b l k s p w = fair_bind (process_pick d m q h ways others facts n o b l k s p w) (λ x. fair_bind (processes_fair n o b l k s) (λ y. fair_gives))
