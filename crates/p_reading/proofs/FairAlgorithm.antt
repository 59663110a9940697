-- A reader looks no further than the token at which it stops: algorithms; so none begins with tokens through the refused one.
use Rattle.std.proofs.Common.{◌≡◌, ℕ, suc, ◌+◌, ◌*◌, ◌≤◌, true, List, [], ◌∷◌, ◌++◌, length, None, Ok, Err, inl, inr, refl, sym, ap, subst, ◌∙◌, arith, length-append, codes}
use Rattle.tla_token.specs.declared.place.Place.{Place}
use Rattle.tla_token.specs.declared.rule.Rule.{Rule}
use Rattle.tla_tree.specs.Lexical.{TokenView, Token}
use Rattle.tla_tree.specs.Lexical as tk
use Rattle.tla_tree.specs.Reader.{Out, Stop, ◌>>=◌, readers}
use Rattle.tla_tree.proofs.Alike.{Alike, IsFair, fair_gives, fair_refuses, fair_skip, fair_bind}
use Rattle.pcal_tree.specs.Grammar.{p_syntax, Text, Good, spell}
use Rattle.syntax_reading.specs.TokenReaders.{Parts, parts_of}
use Rattle.syntax_reading.specs.ReadParts.{bind_by}
use Rattle.syntax_reading.proofs.Fair.{fair_next, fair_past, pick_both, FairParts, less_parts, left_parts, right_parts, parts_fair}
use Rattle.syntax_reading.proofs.FairParts.{fair_name, semicolon_fair, section_fair, definitions_fair}
use Rattle.syntax_reading.specs.ReadAround.{to_last}
use Rattle.syntax_reading.proofs.FairAround.{fair_key, head_fair, last_fair}
use Rattle.syntax_reading.specs.ReadRoutines.{main_processes}
use Rattle.p_reading.specs.ReadAlgorithm.{ways, main_words, main_by, read_main, read_text, read_algorithm}
use Rattle.p_reading.proofs.FairStatements.{sequence_fair}
use Rattle.p_reading.proofs.WholeAlgorithm.{text_read}
use Rattle.syntax_reading.proofs.FairRoutines.{FairWays, define_fair, macros_fair, procedures_fair, main_processes_fair}

ways_fair : (d : ℕ) (m q : Parts) → FairParts d m q → FairWays d (ways m) (ways q)
ways_fair d m q h = record {
  body = λ n o b l k s w.
      fair_key {n = b} (codes "begin") (omega arith) (λ x. fair_bind (sequence_fair d h n o b l k s) (λ ss. fair_key {n = b} (codes "end") (omega arith) (λ y. fair_key {n = b} w (omega arith) (λ z. fair_bind semicolon_fair (λ t. fair_gives)))));
  identity = λ b l. fair_name {n = b} (omega arith) (λ x. fair_past {n = b} bind_by (omega arith) (λ y. fair_bind (less_parts l h).expr (λ z. fair_gives)));
  define = λ n o b l k s p.
      fair_bind (definitions_fair d h n o b l k s) (λ x. fair_key {n = b} (codes "end") (omega arith) (λ y. fair_key {n = b} (codes "define") (omega arith) (λ z. fair_bind semicolon_fair (λ t. fair_gives))));
}

module _ (d : ℕ) (m q : Parts) (h : FairParts d m q) where
  main_fair : (n o b : ℕ) → b ≤ d → b ≤ 4 * n → b ≤ 4 * o → IsFair b (read_main m n) (read_main q o)
  main_fair n o b l k s = fair_next by
    where
      by : (p : Place) (v : TokenView) → IsFair b (main_by m n p v) (main_by q o p v)
      by p (tk.reserved w) =
          pick_both (IsFair b) w (main_words m n p) (main_words q o p) (main_processes m (ways m) n p w) (main_processes q (ways q) o p w)
          (refl, fair_skip {n = b} (omega arith) (fair_bind (sequence_fair d h n o b l k s) (λ x. fair_gives)), tt) (main_processes_fair d m q h (ways m) (ways q) (ways_fair 0 m m (left_parts h)) (ways_fair 0 q q (right_parts h)) (ways_fair d m q h) n o b l k s p w)
      by p v = fair_refuses

  pub text_fair : (n o b : ℕ) → b ≤ d → b ≤ 4 * n → b ≤ 4 * o → IsFair b (read_text m n) (read_text q o)
  text_fair n o b l k s =
      fair_bind head_fair (λ x1. fair_name {n = b} (omega arith) (λ x2. fair_bind (section_fair d h true n o b l k s) (λ x3. fair_bind (define_fair d m q h (ways m) (ways q) (ways_fair d m q h) n o b l k s) (λ x4. fair_bind (macros_fair d m q h (ways m) (ways q) (ways_fair 0 m m (left_parts h)) (ways_fair 0 q q (right_parts h)) (ways_fair d m q h) n o b l k s) (λ x5.
      fair_bind (procedures_fair d m q h (ways m) (ways q) (ways_fair 0 m m (left_parts h)) (ways_fair 0 q q (right_parts h)) (ways_fair d m q h) n o b l k s) (λ x6. fair_bind (main_fair n o b l k s) (λ x7. fair_key {n = b} (codes "end") (omega arith) (λ x8. fair_key {n = b} (codes "algorithm") (omega arith) (λ x9. fair_gives)))))))))

-- ---- none begins with the tokens through the refused one
pub none_through : (ts : List Token) (t : Token) (rest : List Token) (q : Rule) → read_algorithm ts ≡ Err (q, t ∷ rest) → (passed : List Token) → ts ≡ passed ++ t ∷ rest → (x : Text) → Good p_syntax x → (more : List Token) → spell x [] ≡ passed ++ t ∷ more → ⊥
none_through ts t rest q o passed s x g more e =
    let us = passed ++ t ∷ more in
    let n = length ts in
    let m = length us in
    let b = 4 + 4 * length passed in
    let ln : b ≤ 4 * n = omega (arith, ap length s, length-append passed (t ∷ rest)) in
    let lm : b ≤ 4 * m = omega (arith, length-append passed (t ∷ more)) in
    let f = fair_bind (text_fair b (parts_of (readers (4 * n) None)) (parts_of (readers (4 * m) None)) (parts_fair b (4 * n) (4 * m) ln lm) (suc n) (suc m) b (omega arith) (omega (arith, ln)) (omega (arith, lm))) (λ y. last_fair y) in
    let both : Alike passed t rest more (read_algorithm ts) (read_algorithm us) =
    subst (λ (v : List Token). Alike passed t rest more ((read_text (parts_of (readers (4 * n) None)) (suc n) >>= (λ y. to_last y)) v) (read_algorithm us)) (sym s) (f.alike passed t rest more (omega arith)) in
    apart (read_algorithm ts) (read_algorithm us) o (text_read x g us e) both
  where
    apart : (y z : Out Text) → y ≡ Err (q, t ∷ rest) → z ≡ Ok (x, []) → Alike passed t rest more y z → ⊥
    apart (Ok y) z i j a = cc
    apart (Err u) z i j (inl (k, l, e, d)) = (let two : ◌≡◌ {A = Out Text} (Ok (x, [])) (Err (u.0, k ++ t ∷ more)) = sym j ∙ d in cc)
    apart (Err u) z i j (inr (w, v)) =
        let pair : ◌≡◌ {A = Stop} u (q, t ∷ rest) = cc in
        let same : u.1 ≡ t ∷ rest = ap (λ (y : Stop). y.1) pair in
        let lengths : length rest ≡ length w.0 + suc (length rest) = ap length (w.1 ∙ ap (λ (y : List Token). w.0 ++ y) same) ∙ length-append w.0 (t ∷ rest) in
        omega (arith, lengths)

pub unspelled : (ts rest : List Token) (q : Rule) → read_algorithm ts ≡ Err (q, rest) → (x : Text) → Good p_syntax x → ts ≡ spell x [] → ⊥
unspelled ts rest q o x g s = (let two : ◌≡◌ {A = Out Text} (Err (q, rest)) (Ok (x, [])) = sym o ∙ text_read x g ts (sym s) in cc)
