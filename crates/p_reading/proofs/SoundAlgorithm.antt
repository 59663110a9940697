-- What is read is spelled: the algorithm around its statements.
use Rattle.std.proofs.Common.{◌≡◌, ℕ, suc, ◌*◌, true, List, [], length, None, Ok, refl, sym, ap, subst, ◌∙◌, codes}
use Rattle.tla_token.specs.declared.place.Place.{Place}
use Rattle.tla_tree.specs.Tree.{Word}
use Rattle.tla_tree.specs.Lexical.{TokenView, Token}
use Rattle.tla_tree.specs.Lexical as tk
use Rattle.tla_tree.specs.Reader.{readers}
use Rattle.tla_tree.proofs.SoundTokens.{then_ok}
use Rattle.pcal_tree.specs.GrammarParts.{key}
use Rattle.pcal_tree.specs.Grammar.{p_syntax, begin_end, body, GoodBody, bare, identity, GoodIdentity, define_end, define, GoodDefine, begin, processes, main, GoodMain, to_end, Text, spell, Good}
use Rattle.syntax_reading.specs.TokenReaders.{Parts, parts_of}
use Rattle.syntax_reading.proofs.Sound.{Sound, SoundAt, here, sound_gives, sound_refuses, sound_bind, sound_next, sound_stays, sound_past, sound_then, sound_pick, sound_key, sound_name}
use Rattle.syntax_reading.proofs.SoundParts.{SoundParts, parts_sound, semicolon_sound, section_sound, definitions_sound, bind_sound}
use Rattle.syntax_reading.proofs.SoundAround.{head_sound, last_is}
use Rattle.syntax_reading.specs.ReadRoutines.{main_processes}
use Rattle.p_reading.specs.ReadAlgorithm.{read_body, read_identity, define_from, ways, main_words, main_by, read_text, read_algorithm}
use Rattle.p_reading.proofs.SoundStatements.{sequence_sound}
use Rattle.syntax_reading.proofs.SoundRoutines.{SoundWays, macros_sound, procedures_sound, processes_sound, by_define_sound, first_process_sound}

module _ (m : Parts) (h : SoundParts m) where
  pub body_sound : (n : ℕ) (w : Word) → Sound here (GoodBody p_syntax) (body w) (read_body m n w)
  body_sound n w =
      sound_bind (sound_key (codes "begin")) (λ a u. sound_bind (sequence_sound m h n) (λ ss g. sound_bind (sound_key (codes "end")) (λ b v. sound_bind (sound_key w) (λ d x. sound_bind semicolon_sound (λ s y.
      sound_gives (begin_end a ss b d s) g (λ ts. refl))))))

  pub identity_sound : Sound here (GoodIdentity p_syntax) identity (read_identity m)
  identity_sound = sound_bind sound_name (λ x u. sound_bind bind_sound (λ b v. sound_bind h.expr (λ e g. sound_gives (bare x b.0 b.1 e) g (λ ts. refl))))

  define_sound : (n : ℕ) (p : Place) → Sound (λ ts. key p (codes "define") ts) (GoodDefine p_syntax) define (define_from m n p)
  define_sound n p =
      sound_bind (definitions_sound m h n) (λ ds g. sound_bind (sound_key (codes "end")) (λ b u. sound_bind (sound_key (codes "define")) (λ d v. sound_bind semicolon_sound (λ s x.
      sound_gives (define_end p ds b d s) g (λ ts. refl)))))

  pub ways_sound : SoundWays p_syntax (ways m)
  ways_sound = record { body = body_sound; identity = identity_sound; define = define_sound }

  -- ---- the whole
  pub by_main_sound : (n : ℕ) (p : Place) (k : TokenView) → SoundAt p k here (GoodMain p_syntax) main (main_by m n p k)
  by_main_sound n p (tk.reserved w) =
      sound_pick w (main_words m n p) (main_processes m (ways m) n p w)
      (sound_past refl (sound_bind (sequence_sound m h n) (λ ss g. sound_gives (begin p ss) g (λ ts. refl))), tt)
      (sound_then (λ ts. ts) (first_process_sound p_syntax m h (ways m) ways_sound n p w) (λ x g. sound_bind (processes_sound p_syntax m h (ways m) ways_sound n) (λ xs i. sound_gives (processes x xs) (g, i) (λ ts. refl))))
  by_main_sound n p k = sound_stays sound_refuses

  pub text_sound : (n : ℕ) → Sound here (Good p_syntax) (λ x. spell x) (read_text m n)
  text_sound n =
      sound_bind head_sound (λ a u. sound_bind sound_name (λ x v. sound_bind (section_sound m h true n) (λ vs gv. sound_bind (sound_next (by_define_sound p_syntax m h (ways m) ways_sound n)) (λ d gd. sound_bind (macros_sound p_syntax m h (ways m) ways_sound n) (λ ms gm.
      sound_bind (procedures_sound p_syntax m h (ways m) ways_sound n) (λ ps gp. sound_bind (sound_next (by_main_sound n)) (λ b gb. sound_bind (sound_key (codes "end")) (λ e w. sound_bind (sound_key (codes "algorithm")) (λ f y.
      sound_gives (record { head = a; name = x; around = to_end e f; variables = vs; define = d; macros = ms; procedures = ps; main = b }) (tt, gv, gd, gm, gp, gb) (λ ts. refl))))))))))

pub read_is_spelled : (ts : List Token) (x : Text) (us : List Token) → read_algorithm ts ≡ Ok (x, us) → Good p_syntax x × (ts ≡ spell x []) × (us ≡ [])
read_is_spelled ts x us e =
    let n = 4 * length ts in
    let v = then_ok e in
    let z = (text_sound (parts_of (readers n None)) (parts_sound n) (suc (length ts))).is ts v.0 v.1 v.2 in
    let w = last_is v.0 v.1 x us v.3 in
    subst (λ (y : Text). Good p_syntax y × (ts ≡ spell y []) × (us ≡ [])) w.0 (z.0, sym z.1 ∙ ap (λ (vs : List Token). spell v.0 vs) w.1, w.2)
