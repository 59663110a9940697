-- What was read within the limits can be gone on with within them: algorithms.
use Rattle.std.proofs.Common.{◌≡◌, ℕ, suc, ◌*◌, true, List, [], ◌++◌, length, Err, refl, append_assoc, codes}
use Rattle.std.specs.List.{flat_map}
use Rattle.tla_token.specs.declared.place.Place.{Place}
use Rattle.tla_token.specs.Places.{nowhere}
use Rattle.tla_tree.specs.Tree.{Word}
use Rattle.tla_tree.specs.Lexical.{TokenView, Token}
use Rattle.tla_tree.specs.Reader.{Stop}
use Rattle.tla_tree.specs.FirstStop.{Open}
use Rattle.tla_tree.proofs.SpellAhead.{held, put_ahead}
use Rattle.pcal_tree.specs.GrammarParts.{key}
use Rattle.pcal_tree.specs.Grammar.{p_syntax, begin_end, body, GoodBody, bare, identity, GoodIdentity, process, GoodProcess, head, define_end, define, GoodDefine, begin, main, GoodMain, to_end, Good}
use Rattle.pcal_tree.specs.OpenForms.{here, plain, section_opens, definitions_open, p_sequence, body_opens, macro_opens, procedure_opens, identity_opens, process_opens, define_opens, main_opens, opens}
use Rattle.syntax_reading.specs.TokenReaders.{limited_parts}
use Rattle.syntax_reading.proofs.Sound.{sound_next}
use Rattle.syntax_reading.proofs.Beside.{sits}
use Rattle.syntax_reading.proofs.BesideParts.{unlimited_parts}
use Rattle.syntax_reading.proofs.MendParts.{some_good}
use Rattle.syntax_reading.proofs.Within.{before, Ending, Filled, Ends, EndsAt, Part, fits_of, ends_gives, ends_refuses, ends_bind, ends_next, ends_stays, ends_past, ends_pick, key_part, name_part}
use Rattle.syntax_reading.proofs.WithinParts.{limited_sound, expr_part, semicolon_part, section_part, definitions_part, bind_part}
use Rattle.syntax_reading.proofs.WithinAround.{head_part, last_ends}
use Rattle.syntax_reading.proofs.WithinRoutines.{WithinWays, macros_part, procedures_part, define_part, main_processes_end}
use Rattle.syntax_reading.specs.ReadRoutines.{main_processes}
use Rattle.p_reading.specs.ReadAlgorithm.{read_body, read_identity, define_from, ways, main_words, main_by, read_main, read_text, read_limited_algorithm}
use Rattle.p_reading.proofs.SoundAlgorithm.{body_sound, identity_sound, ways_sound, by_main_sound, text_sound}
use Rattle.p_reading.proofs.MendAlgorithm.{some_list, a_process, ahead_body, ahead_identity, heads, ahead_main, ahead_text}
use Rattle.p_reading.proofs.BesideAlgorithm.{body_beside, identity_beside, ways_beside, main_beside, text_beside}
use Rattle.p_reading.proofs.WithinStatements.{sequence_part}
use Rattle.tla_tree.specs.Lexical as tk
use Rattle.pcal_tree.specs.Grammar as gr

some_process : (y : List Open) → Filled before (GoodProcess p_syntax) process y (λ x. y ++ process_opens x)
some_process y = record { whole = a_process; good = (some_good, tt, tt); more = process_opens a_process; counts = refl; fix = process a_process []; long = refl; tokens = λ v. refl }

some_main : (y : List Open) → Filled before (GoodMain p_syntax) main y (λ x. y ++ main_opens x)
some_main y = record { whole = begin nowhere some_list; good = tt; more = main_opens (begin nowhere some_list); counts = refl; fix = main (begin nowhere some_list) []; long = refl; tokens = λ v. refl }

module _ (e : ℕ) where
  body_part : (n : ℕ) (w : Word) (y : List Open) → Part (GoodBody p_syntax) (body w) y (λ b. y ++ body_opens b) (read_body (limited_parts e) n w)
  body_part n w y = record {
    sound = body_sound (limited_parts e) (limited_sound e) n w;
    ahead = ahead_body w;
    fits = fits_of (body_beside e n w y);
    ends = ends_bind held (key_part 0 sits (codes "begin")) (λ a u ha. ends_bind ha (sequence_part e (y ++ here 0) n) (λ ss g hs. ends_bind hs (key_part 0 sits (codes "end")) (λ b v hb. ends_bind hb (key_part 0 sits w) (λ d x hd.
        ends_bind hd (semicolon_part (y ++ here 0 ++ p_sequence 0 ss ++ here 0 ++ here 0)) (λ s t hz. ends_gives (begin_end a ss b d s) g (λ ts. refl) (simp append_assoc refl))))));
  }

  identity_part : (y : List Open) → Part (GoodIdentity p_syntax) identity y (λ i. y ++ identity_opens i) (read_identity (limited_parts e))
  identity_part y = record {
    sound = identity_sound (limited_parts e) (limited_sound e);
    ahead = ahead_identity;
    fits = fits_of (identity_beside e y);
    ends = ends_bind held (name_part 0 sits) (λ x u hx. ends_bind hx (bind_part 0 (y ++ here 0) sits) (λ b v hb. ends_bind hb (expr_part e 0 (y ++ here 0 ++ here 0) sits) (λ a g he. ends_gives (bare x b.0 b.1 a) g (λ ts. refl) (simp append_assoc refl))));
  }

  define_ends : (n : ℕ) (p : Place) (y : List Open) → Ends (λ ts. key p (codes "define") ts) (GoodDefine p_syntax) define (y ++ here 0) (λ d. y ++ define_opens d) (define_from (limited_parts e) n p)
  define_ends n p y =
      ends_bind (put_ahead held) (definitions_part e n (y ++ here 0)) (λ ds g hd. ends_bind hd (key_part 0 sits (codes "end")) (λ b u hb. ends_bind hb (key_part 0 sits (codes "define")) (λ d v he.
      ends_bind he (semicolon_part (y ++ here 0 ++ definitions_open ds ++ here 0 ++ here 0)) (λ s x hs. ends_gives (define_end p ds b d s) g (λ ts. refl) (simp append_assoc refl)))))

  ways_within : WithinWays p_syntax (ways (limited_parts e)) (ways (unlimited_parts e))
  ways_within = record { sound = ways_sound (limited_parts e) (limited_sound e); heads = heads; beside = ways_beside e; some = some_process; body = body_part; identity = identity_part; define = define_ends }

  -- ---- the whole
  main_part : (n : ℕ) (y : List Open) → Part (GoodMain p_syntax) main y (λ b. y ++ main_opens b) (read_main (limited_parts e) n)
  main_part n y = record { sound = sound_next (by_main_sound (limited_parts e) (limited_sound e) n); ahead = ahead_main; fits = fits_of (main_beside e n y); ends = ends_next (some_main y) by }
    where
      by : (p : Place) (k : TokenView) → EndsAt p k before (GoodMain p_syntax) main y (λ b. y ++ main_opens b) (main_by (limited_parts e) n p k)
      by p (tk.reserved w) =
          ends_pick w (main_words (limited_parts e) n p) (main_processes (limited_parts e) (ways (limited_parts e)) n p w)
          (ends_past 0 sits refl (ends_bind (put_ahead held) (sequence_part e (y ++ here 0) n) (λ ss g hs. ends_gives (begin p ss) g (λ ts. refl) (simp append_assoc refl))), tt)
          (main_processes_end p_syntax e (ways (limited_parts e)) (ways (unlimited_parts e)) ways_within n p w y (λ x xs g i. (g, i)))
      by p k = ends_stays (ends_refuses held (some_main y))

  text_part : (n : ℕ) → Part (Good p_syntax) gr.spell [] opens (read_text (limited_parts e) n)
  text_part n = record {
    sound = text_sound (limited_parts e) (limited_sound e) n;
    ahead = ahead_text;
    fits = fits_of (text_beside e n);
    ends =
        ends_bind held head_part (λ a u h1. (let x0 = plain 0 (head a) ++ here 0 in
        ends_bind h1 (name_part 0 sits) (λ x v h2. ends_bind h2 (section_part e true n x0) (λ vs gv h3. (let x1 = x0 ++ section_opens vs in
        ends_bind h3 (define_part p_syntax e (ways (limited_parts e)) (ways (unlimited_parts e)) ways_within n x1) (λ d gd h4. (let x2 = x1 ++ define_opens d in
        ends_bind h4 (macros_part p_syntax e (ways (limited_parts e)) (ways (unlimited_parts e)) ways_within n x2) (λ ms gm h5. (let x3 = x2 ++ flat_map macro_opens ms in
        ends_bind h5 (procedures_part p_syntax e (ways (limited_parts e)) (ways (unlimited_parts e)) ways_within n x3) (λ ps gp h6. (let x4 = x3 ++ flat_map procedure_opens ps in
        ends_bind h6 (main_part n x4) (λ b gb h7. ends_bind h7 (key_part 0 sits (codes "end")) (λ p w h8. ends_bind h8 (key_part 0 sits (codes "algorithm")) (λ q y h9.
        ends_gives (record { head = a; name = x; around = to_end p q; variables = vs; define = d; macros = ms; procedures = ps; main = b }) (tt, gv, gd, gm, gp, gb) (λ ts. refl) (simp append_assoc refl)))))))))))))));
  }

pub refused_ends : (ts : List Token) (u : Stop) → read_limited_algorithm ts ≡ Err u → Ending (Good p_syntax) gr.spell [] opens ts u
refused_ends ts u o = (ends_bind held (text_part (4 * length ts) (suc (length ts))) (λ x g hx. last_ends p_syntax x g hx)).is ts u o
