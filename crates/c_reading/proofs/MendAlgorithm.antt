-- What stands before a refused token can be gone on with, by few tokens: algorithms.
use Rattle.std.proofs.Common.{◌≡◌, ℕ, suc, ◌*◌, true, false, List, [], length, None, Err, refl, append_assoc, arith, codes}
use Rattle.tla_token.specs.declared.place.Place.{Place}
use Rattle.tla_token.specs.Places.{nowhere}
use Rattle.tla_tree.specs.Tree.{Word}
use Rattle.tla_tree.specs.Lexical.{TokenView, Token}
use Rattle.tla_tree.specs.Reader.{Stop, readers}
use Rattle.tla_tree.proofs.SpellAhead.{Ahead, held, put_ahead, then_ahead, ahead}
use Rattle.pcal_tree.specs.GrammarParts.{key, mark, name, no_section, no_labels, skip, section_tokens}
use Rattle.pcal_tree.specs.GrammarC.{simple, labelled, Sequence, last_statement}
use Rattle.pcal_tree.specs.Grammar.{c_syntax, Body, begin_end, braces, body, GoodBody, macro, GoodMacro, procedure, GoodProcedure, unfair, Identity, bare, bracketed, identity, GoodIdentity, Process, process, GoodProcess, head, Define, no_define, define_end, define_braces, define, GoodDefine, Main, begin, block, processes, each, main, GoodMain, to_end, in_braces, around, Text, Good}
use Rattle.pcal_tree.specs.OpenForms as form
use Rattle.pcal_tree.specs.OpenForms.{body_opens, identity_opens, process_opens, define_opens, main_opens, opens}
use Rattle.syntax_reading.specs.TokenReaders.{Parts, parts_of}
use Rattle.syntax_reading.specs.Missing.{PartsMiss, parts_miss}
use Rattle.syntax_reading.specs.MissingRoutines.{a_head}
use Rattle.syntax_reading.proofs.Sound.{here, sound_next}
use Rattle.syntax_reading.proofs.Aheads.{ahead_semicolon, ahead_section, ahead_definitions}
use Rattle.syntax_reading.proofs.Mends.{none, Mend, Fill, Mends, MendsAt, IsPart, mends_gives, mends_refuses, mends_bind, mends_next, mends_stays, mends_past, part_mark, part_name}
use Rattle.syntax_reading.proofs.MendParts.{MendsParts, parts_mend, some_name, some_phrase, some_good, part_semicolon, part_section, part_definitions, part_bind}
use Rattle.syntax_reading.proofs.MendAround.{ahead_head, ahead_each, part_head, last_mends}
use Rattle.syntax_reading.proofs.MendRoutines.{AheadWays, MendWays, ahead_macro_whole, ahead_procedure_whole, ahead_process, part_macros, part_procedures, part_define, main_processes_mend}
use Rattle.c_reading.specs.ReadAlgorithm.{read_body, read_identity, define_from, ways, main_by, read_main, read_text, read_algorithm}
use Rattle.c_reading.specs.MissingAlgorithm.{a_block, some_definitions, missing_body, an_identity, missing_identity, missing_define_from, ways_miss, missing_main_by, missing_main, a_text, missing_text, missing_algorithm}
use Rattle.c_reading.proofs.SoundAlgorithm.{body_sound, identity_sound, ways_sound, by_main_sound, text_sound}
use Rattle.c_reading.proofs.MendStatements.{ahead_sequence, part_sequence}
use Rattle.tla_tree.specs.Lexical as tk
use Rattle.pcal_tree.specs.Grammar as gr

-- ---- tokens before those that come
pub ahead_body : (w : Word) (b : Body) → GoodBody c_syntax b → Ahead (body w b)
ahead_body w (begin_end a ss b d s) i = absurd i
ahead_body w (braces a ss b s) i = put_ahead (then_ahead (ahead_sequence ss) (put_ahead (ahead_semicolon s)))

pub ahead_identity : (x : Identity) → GoodIdentity c_syntax x → Ahead (identity x)
ahead_identity (bare x b p e) i = absurd i
ahead_identity (bracketed q x b p e r) i = put_ahead (put_ahead (put_ahead (then_ahead (ahead e) (put_ahead held))))

pub ahead_define : (d : Define) → GoodDefine c_syntax d → Ahead (define d)
ahead_define no_define i = held
ahead_define (define_end a ds b d s) i = absurd i
ahead_define (define_braces a b ds d s) i = put_ahead (put_ahead (then_ahead (ahead_definitions ds) (put_ahead (ahead_semicolon s))))

pub heads : AheadWays c_syntax
heads = record { body = ahead_body; identity = ahead_identity; define = ahead_define }

pub ahead_main : (x : Main) → GoodMain c_syntax x → Ahead (main x)
ahead_main (begin a ss) i = absurd i
ahead_main (block a ss b s) i = put_ahead (then_ahead (ahead_sequence ss) (put_ahead (ahead_semicolon s)))
ahead_main (processes x xs) i = then_ahead (ahead_process c_syntax heads x i.0) (ahead_each process (GoodProcess c_syntax) (ahead_process c_syntax heads) xs i.1)

pub ahead_text : (x : Text) → Good c_syntax x → Ahead (gr.spell x)
ahead_text x i = by x.around i.0
  where
    by : (c : gr.Around) → gr.GoodAround c_syntax c → Ahead (λ ts. head x.head (name x.name (around c (λ us. section_tokens x.variables (define x.define (each macro x.macros (each procedure x.procedures (main x.main us))))) ts)))
    by (to_end p q) j = absurd j
    by (in_braces p q) j =
        then_ahead (ahead_head x.head) (put_ahead (put_ahead (then_ahead (ahead_section x.variables) (then_ahead (ahead_define x.define i.2) (then_ahead (ahead_each macro (GoodMacro c_syntax) (ahead_macro_whole c_syntax heads) x.macros i.3)
        (then_ahead (ahead_each procedure (GoodProcedure c_syntax) (ahead_procedure_whole c_syntax heads) x.procedures i.4) (then_ahead (ahead_main x.main i.5) (put_ahead held))))))))

-- ---- some list, process and body
abbrev pub some_list : Sequence
some_list = last_statement (labelled no_labels (simple (skip nowhere))) None

abbrev pub a_process : Process
a_process = record { fair = unfair; place = nowhere; identity = bracketed nowhere some_name false nowhere some_phrase nowhere; variables = no_section; body = braces nowhere some_list nowhere None }

-- its tokens are those that are told
process_filled : Fill here [] (GoodProcess c_syntax) process process_opens none 0 12 (key nowhere (codes "process") (an_identity (a_block [])))
process_filled = record { whole = a_process; good = (some_good, tt, tt); fix = key nowhere (codes "process") (an_identity (a_block [])); tokens = λ v. refl; given = refl; back = process_opens a_process; opens = refl; long = refl; enough = omega arith }

some_main : Fill here [] (GoodMain c_syntax) main main_opens none 0 12 (a_block [])
some_main = (let it = block nowhere some_list nowhere None in record { whole = it; good = tt; fix = a_block []; tokens = λ v. refl; given = refl; back = main_opens it; opens = refl; long = refl; enough = omega arith })

-- ---- lists
module _ (m : Parts) (w : PartsMiss) (h : MendsParts m w) where
  part_body : (n : ℕ) (z : Word) → IsPart (GoodBody c_syntax) (body z) body_opens 0 8 (a_block []) (missing_body m w n) (read_body m n)
  part_body n z = record {
    sound = body_sound m h.sound n z;
    ahead = ahead_body z;
    mends =
        mends_bind held (part_mark 0 tk.open_brace) (omega arith) (λ a u ha. mends_bind ha (part_sequence m w h n) (omega arith) (λ ss g hs. mends_bind hs (part_mark 0 tk.close_brace) (omega arith) (λ b v hb. mends_bind hb (part_semicolon 0) (omega arith) (λ s y hz.
        mends_gives (braces a ss b s) g (λ ts. refl) (simp append_assoc refl)))));
  }

  part_identity : IsPart (GoodIdentity c_syntax) identity identity_opens 0 6 (an_identity []) (missing_identity m w) (read_identity m)
  part_identity = record {
    sound = identity_sound m h.sound;
    ahead = ahead_identity;
    mends =
        mends_bind held (part_mark 0 tk.open_bracket) (omega arith) (λ q t hq. mends_bind hq (part_name 0) (omega arith) (λ x u hx. mends_bind hx (part_bind 0) (omega arith) (λ b v hb. mends_bind hb (h.expr 0) (omega arith) (λ e g he. mends_bind he (part_mark 0 tk.close_bracket) (omega arith) (λ r z hr.
        mends_gives (bracketed q x b.0 b.1 e r) g (λ ts. refl) (simp append_assoc refl))))));
  }

  -- `{`, and the shortest definitions
  abbrev a_define : List Token
  a_define = mark nowhere tk.open_brace (some_definitions [])

  define_mends : (n : ℕ) (p : Place) → Mends (λ ts. key p (codes "define") ts) (form.here 0) (GoodDefine c_syntax) define define_opens none 0 8 a_define (missing_define_from m w n) (define_from m n p)
  define_mends n p =
      mends_bind (put_ahead held) (part_mark 0 tk.open_brace) (omega arith) (λ b u hb. mends_bind hb (part_definitions m w h n) (omega arith) (λ ds g hd. mends_bind hd (part_mark 0 tk.close_brace) (omega arith) (λ d v he. mends_bind he (part_semicolon 0) (omega arith) (λ s x hs.
      mends_gives (define_braces p b ds d s) g (λ ts. refl) (simp append_assoc refl)))))

  ways_mend : MendWays c_syntax (ways m) (ways_miss m w)
  ways_mend = record {
    sound = ways_sound m h.sound;
    heads = heads;
    process = process_filled;
    short_body = λ z. omega arith;
    short_identity = omega arith;
    body = part_body;
    identity = part_identity;
    a_define = a_define;
    define = define_mends;
  }

  -- ---- the whole
  part_main : (n : ℕ) → IsPart (GoodMain c_syntax) main main_opens 0 12 (a_block []) (missing_main m w n) (read_main m n)
  part_main n = record { sound = sound_next (by_main_sound m h.sound n); ahead = ahead_main; mends = mends_next some_main by }
    where
      by : (p : Place) (k : TokenView) → MendsAt p k here [] (GoodMain c_syntax) main main_opens none 0 12 (missing_main_by m w n p k) (main_by m n p k)
      by p (tk.reserved z) = main_processes_mend c_syntax m w h (ways m) (ways_miss m w) ways_mend n p z (λ x xs g i. (g, i))
      by p (tk.mark tk.open_brace) =
          mends_past (form.here 0) refl (mends_bind (put_ahead held) (part_sequence m w h n) (omega arith) (λ ss g hs. mends_bind hs (part_mark 0 tk.close_brace) (omega arith) (λ b u hb. mends_bind hb (part_semicolon 0) (omega arith) (λ s v hz.
          mends_gives (block p ss b s) g (λ ts. refl) (simp append_assoc refl)))))
      by p k = mends_stays (mends_refuses held some_main)

  part_text : (n : ℕ) → IsPart (Good c_syntax) gr.spell opens 0 16 (a_head a_text) (missing_text m w n) (read_text m n)
  part_text n = record {
    sound = text_sound m h.sound n;
    ahead = ahead_text;
    mends =
        (let ds = part_define c_syntax m w h (ways m) (ways_miss m w) ways_mend n in
        let macros = part_macros c_syntax m w h (ways m) (ways_miss m w) ways_mend n in
        let procedures = part_procedures c_syntax m w h (ways m) (ways_miss m w) ways_mend n in
        mends_bind held part_head (omega arith) (λ a u h1. mends_bind h1 (part_name 0) (omega arith) (λ x v h2. mends_bind h2 (part_mark 0 tk.open_brace) (omega arith) (λ e y h8. mends_bind h8 (part_section m w h true n) (omega arith) (λ vs gv h3. mends_bind h3 ds (omega arith) (λ d gd h4. mends_bind h4 macros (omega arith) (λ ms gm h5.
        mends_bind h5 procedures (omega arith) (λ ps gp h6. mends_bind h6 (part_main n) (omega arith) (λ b gb h7. mends_bind h7 (part_mark 0 tk.close_brace) (omega arith) (λ f z h9.
        mends_gives (record { head = a; name = x; around = in_braces e f; variables = vs; define = d; macros = ms; procedures = ps; main = b }) (tt, gv, gd, gm, gp, gb) (λ ts. refl) (simp append_assoc refl)))))))))));
  }

-- what was passed, and what completes it
pub refused_is_mended : (ts : List Token) (u : Stop) → read_algorithm ts ≡ Err u → Mend (Good c_syntax) gr.spell opens none 0 16 (missing_algorithm ts) ts u
refused_is_mended ts u o =
    (let n = 4 * length ts in
    let all = mends_bind {y = []} held (part_text (parts_of (readers n None)) (parts_miss n) (parts_mend n) (suc (length ts))) (omega arith) (λ x g hx. last_mends c_syntax x g hx) in
    all.is ts u o)
