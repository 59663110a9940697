-- Reading within the limits beside reading without: algorithms.
use Rattle.std.proofs.Common.{ℕ, suc, ◌*◌, List, [], ◌++◌, length, refl, append_assoc, true}
use Rattle.std.specs.List.{flat_map}
use Rattle.tla_token.specs.declared.place.Place.{Place}
use Rattle.tla_tree.specs.Tree.{Word}
use Rattle.tla_tree.specs.Lexical.{TokenView, Token}
use Rattle.tla_tree.specs.Lexical as tk
use Rattle.tla_tree.specs.FirstStop.{Open}
use Rattle.tla_tree.proofs.Limited.{Limited}
use Rattle.pcal_tree.specs.Grammar.{braces, bracketed, define_braces, in_braces, block}
use Rattle.pcal_tree.specs.Grammar as gr
use Rattle.pcal_tree.specs.OpenForms.{here, plain, section_opens, definitions_open, c_sequence, body_opens, macro_opens, procedure_opens, identity_opens, define_opens, main_opens, opens}
use Rattle.syntax_reading.specs.TokenReaders.{limited_parts}
use Rattle.syntax_reading.proofs.Beside.{Fit, Late, sits, Beside, BesideAt, beside_gives, beside_refuses, beside_bind, beside_next, beside_stays, beside_skip, beside_mark, beside_name}
use Rattle.syntax_reading.proofs.BesideParts.{unlimited_parts, beside_expr, beside_semicolon, beside_section, beside_definitions, beside_bind_sign}
use Rattle.syntax_reading.proofs.BesideAround.{head_beside, last_beside}
use Rattle.syntax_reading.proofs.BesideRoutines.{BesideWays, macros_beside, procedures_beside, define_beside, main_processes_beside}
use Rattle.c_reading.specs.ReadAlgorithm.{read_body, read_identity, define_from, ways, main_by, read_main, read_text, read_algorithm, read_limited_algorithm}
use Rattle.c_reading.proofs.BesideStatements.{beside_sequence}

module _ (e : ℕ) where
  pub body_beside : (n : ℕ) (w : Word) (x : List Open) → Beside x (λ b. x ++ body_opens b) (read_body (limited_parts e) n) (read_body (unlimited_parts e) n)
  body_beside n w x =
      beside_bind (beside_mark 0 sits tk.open_brace) (λ a. beside_bind (beside_sequence e (x ++ here 0) n) (λ ss. beside_bind (beside_mark 0 sits tk.close_brace) (λ b.
      beside_bind (beside_semicolon (x ++ here 0 ++ c_sequence 0 ss ++ here 0)) (λ s. beside_gives (braces a ss b s) (simp append_assoc refl)))))

  pub identity_beside : (x : List Open) → Beside x (λ i. x ++ identity_opens i) (read_identity (limited_parts e)) (read_identity (unlimited_parts e))
  identity_beside x =
      beside_bind (beside_mark 0 sits tk.open_bracket) (λ q. beside_bind (beside_name 0 sits) (λ y. beside_bind (beside_bind_sign 0 (x ++ here 0 ++ here 0) sits) (λ b. beside_bind (beside_expr e 0 (x ++ here 0 ++ here 0 ++ here 0) sits) (λ a.
      beside_bind (beside_mark 0 sits tk.close_bracket) (λ r. beside_gives (bracketed q y b.0 b.1 a r) (simp append_assoc refl))))))

  define_beside_from : (n : ℕ) (p : Place) (x : List Open) → Beside (x ++ here 0) (λ d. x ++ define_opens d) (define_from (limited_parts e) n p) (define_from (unlimited_parts e) n p)
  define_beside_from n p x =
      beside_bind (beside_mark 0 sits tk.open_brace) (λ b. beside_bind (beside_definitions e n (x ++ here 0 ++ here 0)) (λ ds. beside_bind (beside_mark 0 sits tk.close_brace) (λ d.
      beside_bind (beside_semicolon (x ++ here 0 ++ here 0 ++ definitions_open ds ++ here 0)) (λ s. beside_gives (define_braces p b ds d s) (simp append_assoc refl)))))

  pub ways_beside : BesideWays (ways (limited_parts e)) (ways (unlimited_parts e))
  ways_beside = record { body = body_beside; identity = identity_beside; define = define_beside_from }

  -- ---- the whole
  pub main_beside : (n : ℕ) (x : List Open) → Beside x (λ b. x ++ main_opens b) (read_main (limited_parts e) n) (read_main (unlimited_parts e) n)
  main_beside n x = beside_next by
    where
      by : (p : Place) (k : TokenView) → BesideAt p k x (λ b. x ++ main_opens b) (main_by (limited_parts e) n p k) (main_by (unlimited_parts e) n p k)
      by p (tk.reserved w) = main_processes_beside e (ways (limited_parts e)) (ways (unlimited_parts e)) ways_beside n p w x
      by p (tk.mark tk.open_brace) =
          beside_skip 0 sits refl (beside_bind (beside_sequence e (x ++ here 0) n) (λ ss. beside_bind (beside_mark 0 sits tk.close_brace) (λ b.
          beside_bind (beside_semicolon (x ++ here 0 ++ c_sequence 0 ss ++ here 0)) (λ s. beside_gives (block p ss b s) (simp append_assoc refl)))))
      by p k = beside_stays beside_refuses

  pub text_beside : (n : ℕ) → Beside [] opens (read_text (limited_parts e) n) (read_text (unlimited_parts e) n)
  text_beside n =
      beside_bind head_beside (λ a. (let x0 = plain 0 (gr.head a) ++ here 0 ++ here 0 in
      beside_bind (beside_name 0 sits) (λ y. beside_bind (beside_mark 0 sits tk.open_brace) (λ p. beside_bind (beside_section e true n x0) (λ vs. (let x1 = x0 ++ section_opens vs in
      beside_bind (define_beside e (ways (limited_parts e)) (ways (unlimited_parts e)) ways_beside n x1) (λ d. (let x2 = x1 ++ define_opens d in
      beside_bind (macros_beside e (ways (limited_parts e)) (ways (unlimited_parts e)) ways_beside n x2) (λ ms. (let x3 = x2 ++ flat_map macro_opens ms in
      beside_bind (procedures_beside e (ways (limited_parts e)) (ways (unlimited_parts e)) ways_beside n x3) (λ ps. (let x4 = x3 ++ flat_map procedure_opens ps in
      beside_bind (main_beside n x4) (λ b. beside_bind (beside_mark 0 sits tk.close_brace) (λ q.
      beside_gives (record { head = a; name = y; around = in_braces p q; variables = vs; define = d; macros = ms; procedures = ps; main = b }) (simp append_assoc refl)))))))))))))))

pub beside : (ts : List Token) → Limited (Fit []) (Late []) (λ z. Fit (opens z)) (λ z. Late (opens z)) ts (read_limited_algorithm ts) (read_algorithm ts)
beside ts = (beside_bind (text_beside (4 * length ts) (suc (length ts))) last_beside).is ts
