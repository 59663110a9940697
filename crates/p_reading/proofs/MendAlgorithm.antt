-- What stands before a refused token can be gone on with, by the tokens that are missing: algorithms.
use Rattle.std.proofs.Common.{◌≡◌, ℕ, suc, ◌*◌, true, false, List, [], length, None, Err, refl, append_assoc, arith, codes}
use Rattle.tla_token.specs.declared.place.Place.{Place}
use Rattle.tla_token.specs.Places.{nowhere}
use Rattle.tla_tree.specs.Tree.{Word}
use Rattle.tla_tree.specs.Lexical.{TokenView, Token}
use Rattle.tla_tree.specs.Lexical as tk
use Rattle.tla_tree.specs.Reader.{Stop, readers}
use Rattle.tla_tree.proofs.SpellAhead.{Ahead, held, put_ahead, then_ahead, ahead}
use Rattle.pcal_tree.specs.GrammarParts.{key, name, no_section, no_labels, skip, section_tokens}
use Rattle.pcal_tree.specs.GrammarP.{simple, Sequence, last_statement}
use Rattle.pcal_tree.specs.Grammar.{p_syntax, Body, begin_end, braces, body, GoodBody, macro, GoodMacro, procedure, GoodProcedure, unfair, Identity, bare, bracketed, identity, GoodIdentity, Process, process, GoodProcess, head, Define, no_define, define_end, define_braces, define, GoodDefine, Main, begin, block, processes, each, main, GoodMain, to_end, in_braces, around, Text, Good}
use Rattle.pcal_tree.specs.Grammar as gr
use Rattle.pcal_tree.specs.OpenForms.{body_opens, identity_opens, process_opens, define_opens, main_opens, opens}
use Rattle.pcal_tree.specs.OpenForms as form
use Rattle.syntax_reading.specs.TokenReaders.{Parts, parts_of}
use Rattle.syntax_reading.specs.Missing.{an_identifier, PartsMiss, parts_miss}
use Rattle.syntax_reading.specs.MissingParts.{a_meaning, a_value}
use Rattle.syntax_reading.specs.MissingRoutines.{a_head}
use Rattle.syntax_reading.specs.MissingRoutines as wants
use Rattle.syntax_reading.proofs.Sound.{here, sound_next}
use Rattle.syntax_reading.proofs.Aheads.{ahead_semicolon, ahead_section, ahead_definitions}
use Rattle.syntax_reading.proofs.Mends.{none, Mend, Fill, Mends, MendsAt, IsPart, mends_gives, mends_refuses, mends_bind, mends_next, mends_stays, mends_past, mends_pick, part_key, part_name}
use Rattle.syntax_reading.proofs.MendParts.{MendsParts, parts_mend, some_name, some_phrase, some_good, part_semicolon, part_section, part_definitions, part_bind}
use Rattle.syntax_reading.proofs.MendAround.{ahead_head, ahead_each, part_head, last_mends}
use Rattle.syntax_reading.proofs.MendRoutines.{AheadWays, MendWays, ahead_macro_whole, ahead_procedure_whole, ahead_process, part_macros, part_procedures, part_define, main_processes_mend}
use Rattle.p_reading.specs.ReadStatements.{ends_with}
use Rattle.p_reading.specs.ReadAlgorithm.{read_body, read_identity, define_from, ways, main_words, main_by, read_main, read_text, read_algorithm}
use Rattle.p_reading.specs.Resume.{main_rest}
use Rattle.p_reading.specs.MissingAlgorithm.{missing_body, missing_identity, missing_define_from, ways_miss, a_main, missing_main_words, missing_main_by, missing_main, missing_text, missing_algorithm}
use Rattle.p_reading.proofs.SoundAlgorithm.{body_sound, identity_sound, ways_sound, by_main_sound, text_sound}
use Rattle.p_reading.proofs.MendStatements.{ahead_sequence, part_sequence}

-- ---- tokens before those that come
pub ahead_body : (w : Word) (b : Body) → GoodBody p_syntax b → Ahead (body w b)
ahead_body w (begin_end a ss b d s) i = put_ahead (then_ahead (ahead_sequence ss) (put_ahead (put_ahead (ahead_semicolon s))))
ahead_body w (braces a ss b s) i = absurd i

pub ahead_identity : (x : Identity) → GoodIdentity p_syntax x → Ahead (identity x)
ahead_identity (bare x b p e) i = put_ahead (put_ahead (ahead e))
ahead_identity (bracketed q x b p e r) i = absurd i

pub ahead_define : (d : Define) → GoodDefine p_syntax d → Ahead (define d)
ahead_define no_define i = held
ahead_define (define_end a ds b d s) i = put_ahead (then_ahead (ahead_definitions ds) (put_ahead (put_ahead (ahead_semicolon s))))
ahead_define (define_braces a b ds d s) i = absurd i

pub heads : AheadWays p_syntax
heads = record { body = ahead_body; identity = ahead_identity; define = ahead_define }

pub ahead_main : (x : Main) → GoodMain p_syntax x → Ahead (main x)
ahead_main (begin a ss) i = put_ahead (ahead_sequence ss)
ahead_main (block a ss b s) i = absurd i
ahead_main (processes x xs) i = then_ahead (ahead_process p_syntax heads x i.0) (ahead_each process (GoodProcess p_syntax) (ahead_process p_syntax heads) xs i.1)

pub ahead_text : (x : Text) → Good p_syntax x → Ahead (gr.spell x)
ahead_text x i = by x.around i.0
  where
    by : (c : gr.Around) → gr.GoodAround p_syntax c → Ahead (λ ts. head x.head (name x.name (around c (λ us. section_tokens x.variables (define x.define (each macro x.macros (each procedure x.procedures (main x.main us))))) ts)))
    by (to_end p q) j =
        then_ahead (ahead_head x.head) (put_ahead (then_ahead (ahead_section x.variables) (then_ahead (ahead_define x.define i.2) (then_ahead (ahead_each macro (GoodMacro p_syntax) (ahead_macro_whole p_syntax heads) x.macros i.3)
        (then_ahead (ahead_each procedure (GoodProcedure p_syntax) (ahead_procedure_whole p_syntax heads) x.procedures i.4) (then_ahead (ahead_main x.main i.5) (put_ahead (put_ahead held))))))))
    by (in_braces p q) j = absurd j

-- ---- some list, process and body
abbrev pub some_list : Sequence
some_list = last_statement no_labels (simple (skip nowhere)) None

abbrev pub a_process : Process
a_process = record { fair = unfair; place = nowhere; identity = bare some_name false nowhere some_phrase; variables = no_section; body = begin_end nowhere some_list nowhere nowhere None }

some_main : Fill here [] (GoodMain p_syntax) main main_opens none 0 12 a_main
some_main = record { whole = begin nowhere some_list; good = tt; fix = a_main; tokens = λ v. refl; given = refl; back = main_opens (begin nowhere some_list); opens = refl; long = refl; enough = omega arith }

-- ---- lists
module _ (m : Parts) (w : PartsMiss) (h : MendsParts m w) where
  part_body : (n : ℕ) (z : Word) → IsPart (GoodBody p_syntax) (body z) body_opens 0 8 ((ways_miss m w).a_body z) (missing_body m w n z) (read_body m n z)
  part_body n z = record {
    sound = body_sound m h.sound n z;
    ahead = ahead_body z;
    mends =
        mends_bind held (part_key 0 (codes "begin")) (omega arith) (λ a u ha. mends_bind ha (part_sequence m w h n) (omega arith) (λ ss g hs. mends_bind hs (part_key 0 (codes "end")) (omega arith) (λ b v hb. mends_bind hb (part_key 0 z) (omega arith) (λ d x hd.
        mends_bind hd (part_semicolon 0) (omega arith) (λ s y hz. mends_gives (begin_end a ss b d s) g (λ ts. refl) (simp append_assoc refl))))));
  }

  part_identity : IsPart (GoodIdentity p_syntax) identity identity_opens 0 6 (an_identifier (a_value [])) (missing_identity m w) (read_identity m)
  part_identity = record {
    sound = identity_sound m h.sound;
    ahead = ahead_identity;
    mends = mends_bind held (part_name 0) (omega arith) (λ x u hx. mends_bind hx (part_bind 0) (omega arith) (λ b v hb. mends_bind hb (h.expr 0) (omega arith) (λ e g he. mends_gives (bare x b.0 b.1 e) g (λ ts. refl) (simp append_assoc refl))));
  }

  define_mends : (n : ℕ) (p : Place)
      → Mends (λ ts. key p (codes "define") ts) (form.here 0) (GoodDefine p_syntax) define define_opens none 0 8 (an_identifier (a_meaning (ends_with (codes "define") []))) (missing_define_from m w n) (define_from m n p)
  define_mends n p =
      mends_bind (put_ahead held) (part_definitions m w h n) (omega arith) (λ ds g hd. mends_bind hd (part_key 0 (codes "end")) (omega arith) (λ b u hb. mends_bind hb (part_key 0 (codes "define")) (omega arith) (λ d v he. mends_bind he (part_semicolon 0) (omega arith) (λ s x hs.
      mends_gives (define_end p ds b d s) g (λ ts. refl) (simp append_assoc refl)))))

  ways_mend : MendWays p_syntax (ways m) (ways_miss m w)
  ways_mend = record {
    sound = ways_sound m h.sound;
    heads = heads;
    process = record { whole = a_process; good = (some_good, tt, tt); fix = key nowhere (codes "process") (wants.process_after_word (ways_miss m w)); tokens = λ v. refl; given = refl; back = process_opens a_process; opens = refl; long = refl; enough = omega arith };
    short_body = λ z. omega arith;
    short_identity = omega arith;
    body = part_body;
    identity = part_identity;
    a_define = an_identifier (a_meaning (ends_with (codes "define") []));
    define = define_mends;
  }

  -- ---- the whole
  part_main : (n : ℕ) → IsPart (GoodMain p_syntax) main main_opens 0 12 a_main (missing_main m w n) (read_main m n)
  part_main n = record { sound = sound_next (by_main_sound m h.sound n); ahead = ahead_main; mends = mends_next some_main by }
    where
      by : (p : Place) (k : TokenView) → MendsAt p k here [] (GoodMain p_syntax) main main_opens none 0 12 (missing_main_by m w n p k) (main_by m n p k)
      by p (tk.reserved z) =
          mends_pick z (missing_main_words m w n) (main_words m n p)
          (refl, mends_past (form.here 0) refl (mends_bind (put_ahead held) (part_sequence m w h n) (omega arith) (λ ss g hs. mends_gives (begin p ss) g (λ ts. refl) (simp append_assoc refl))), tt)
          (main_processes_mend p_syntax m w h (ways m) (ways_miss m w) ways_mend n p z (λ x xs g i. (g, i)))
      by p k = mends_stays (mends_refuses held some_main)

  part_text : (n : ℕ) → IsPart (Good p_syntax) gr.spell opens 0 16 (a_head (an_identifier main_rest)) (missing_text m w n) (read_text m n)
  part_text n = record {
    sound = text_sound m h.sound n;
    ahead = ahead_text;
    mends =
        mends_bind held part_head (omega arith) (λ a u h1. mends_bind h1 (part_name 0) (omega arith) (λ x v h2. mends_bind h2 (part_section m w h true n) (omega arith) (λ vs gv h3. mends_bind h3 (part_define p_syntax m w h (ways m) (ways_miss m w) ways_mend n) (omega arith) (λ d gd h4.
        mends_bind h4 (part_macros p_syntax m w h (ways m) (ways_miss m w) ways_mend n) (omega arith) (λ ms gm h5. mends_bind h5 (part_procedures p_syntax m w h (ways m) (ways_miss m w) ways_mend n) (omega arith) (λ ps gp h6. mends_bind h6 (part_main n) (omega arith) (λ b gb h7.
        mends_bind h7 (part_key 0 (codes "end")) (omega arith) (λ e y h8. mends_bind h8 (part_key 0 (codes "algorithm")) (omega arith) (λ f z h9.
        mends_gives (record { head = a; name = x; around = to_end e f; variables = vs; define = d; macros = ms; procedures = ps; main = b }) (tt, gv, gd, gm, gp, gb) (λ ts. refl) (simp append_assoc refl))))))))));
  }

-- what was passed, and what completes it
pub refused_is_mended : (ts : List Token) (u : Stop) → read_algorithm ts ≡ Err u → Mend (Good p_syntax) gr.spell opens none 0 16 (missing_algorithm ts) ts u
refused_is_mended ts u o =
    (let n = 4 * length ts in
    let all = mends_bind {y = []} held (part_text (parts_of (readers n None)) (parts_miss n) (parts_mend n) (suc (length ts))) (omega arith) (λ x g hx. last_mends p_syntax x g hx) in
    all.is ts u o)
