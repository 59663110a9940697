-- Algorithms as they are printed: the text is cut into just the tokens of an algorithm, which spell it in the syntax, places aside; it holds no mark of a comment.
use Rattle.std.proofs.Common.{◌≡◌, ℕ, ◌+◌, ◌-◌, Bool, true, false, not, ◌||◌, nat_eq, List, [], ◌∷◌, ◌++◌, length, map, refl, sym, ap, subst, ◌∙◌, arith, append_assoc, append-nil, length-append, codes}
use Rattle.std.specs.List.{starts_with, AllByRecursion}
use Rattle.std.proofs.lemmas.Bool.{not-true}
use Rattle.std.proofs.lemmas.List.{take_all}
use Rattle.tla_token.specs.declared.place.Place.{Place}
use Rattle.tla_token.specs.Lexemes as lexeme
use Rattle.tla_token.specs.Tokens.{Piece, blank, text_of, tokens_of, holds_mark, AllFit, TokAlgorithm}
use Rattle.tla_token.specs.Tokens as text
use Rattle.tla_token.specs.Places.{after}
use Rattle.tla_token.specs.declared.sign.Sign.TheVariants.{CloseCurly}
use Rattle.tla_token.specs.Cut.{run, parts, pieces as pieces_of}
use Rattle.tla_token.specs.Lexemes.{is_word}
use Rattle.tla_token.proofs.Before.{word_before}
use Rattle.tla_token.proofs.Less.{text_append}
use Rattle.tla_token.proofs.Unique.{pieces_back, sound_pieces}
use Rattle.tla_tree.specs.Tree.{Name}
use Rattle.tla_tree.specs.Lexical.{Token}
use Rattle.tla_tree.specs.Lexical as tk
use Rattle.tla_tree.specs.Spelling.{Right}
use Rattle.tla_tree.specs.laws.InText.{ends_word}
use Rattle.tla_tree.specs.laws.Placeless.{name_placeless}
use Rattle.tla_tree.proofs.FitTokens.{close_brace_fits}
use Rattle.pcal_tree.specs.Algorithm.{Algorithm}
use Rattle.pcal_tree.specs.Placeless.{declarations_placeless, definitions_placeless, macros_placeless, procedures_placeless, main_placeless, placeless}
use Rattle.pcal_tree.specs.AlgorithmTokens.{views}
use Rattle.pcal_tree.specs.GrammarParts.{Tokens, key, mark}
use Rattle.pcal_tree.specs.GrammarParts as grammar
use Rattle.pcal_tree.specs.Grammar.{Syntax, p_syntax, c_syntax, Head, algorithm, fair_algorithm, head, is_fair, Around, to_end, in_braces, around, GoodAround, GoodDefine, GoodMacro, GoodProcedure, GoodMain, Good, spell, algorithm_of}
use Rattle.pcal_tree.specs.Grammar as g
use Rattle.pcal_tree.specs.Printed.{line, separated, opening, algorithm_word, last_line, printed}
use Rattle.pcal_tree.specs.Printed as lines
use Rattle.module_tree.proofs.OptionsSwapped.{Apart}
use Rattle.printed_text.specs.laws.Printable.{IsName, IsPrintable}
use Rattle.printed_text.proofs.Chunks.{Chunk, any, put, later, in_line, Fine, none_fine, newline_fine, tokens_unmarked, seen, seen_is, join, space}
use Rattle.printed_text.proofs.TokenChunks.{name_at, key_at, key_space, close_curly, narrowed}
use Rattle.printed_text.proofs.ListChunks.{named}
use Rattle.printed_text.proofs.Blocks.{Stands, Block, follow}
use Rattle.printed_text.proofs.SectionBlocks.{section_at, define_at}
use Rattle.printed_text.proofs.UnitBlocks.{macros_at, procedures_at, main_at}
use Rattle.printed_text.proofs.StatementsC.{curly_at}
use Rattle.printed_text.proofs.Stages.{ends_in_token, ends_there}
use Rattle.printed_text.proofs.Followed.{AllFitBefore, lines_fit, both_fit, fit_alone}

-- ---- the beginning

abbrev pub front_word : Bool → List ℕ
front_word false = codes "--algorithm"
front_word true = codes "--fair"

-- the column behind it, in a text of its own
abbrev front_col : Bool → ℕ
front_col false = 12
front_col true = 7

abbrev pub behind_front : Bool → Place → Place
behind_front b at = after at (front_word b)

behind_first : (b : Bool) → behind_front b (put 1 1) ≡ put 1 (front_col b)
behind_first false = refl
behind_first true = refl

record FrontAt (b : Bool) (at : Place) : Type 0 where
  more : List ℕ
  word : algorithm_word b ≡ front_word b ++ more
  form : Head
  fair : is_fair form ≡ b
  rest : Tokens
  tokens : (ts : List Token) → head form ts ≡ grammar.word at (front_word b) (rest ts)
  chunk : Chunk any (behind_front b at) more rest

front_at : (b : Bool) (at : Place) → Right 0 at → FrontAt b at
front_at false at r = record { more = codes " "; word = refl; form = algorithm at; fair = refl; rest = λ ts. ts; tokens = λ ts. refl; chunk = space (behind_front false at) (later at (front_word false) r) }
front_at true at r =
    let s = space (behind_front true at) (later at (front_word true) r) in
    let k = key_space s.end s.right (codes "algorithm") refl (refl, refl) in
    record { more = codes " algorithm "; word = refl; form = fair_algorithm at s.end; fair = refl; rest = λ ts. key s.end (codes "algorithm") ts; tokens = λ ts. refl; chunk = join s k (λ y q. refl) }

-- the tokens of a text that begins so
cut_of : (b : Bool) (ps : List Piece) → Fine ps → TokAlgorithm (front_word b ++ text_of ps) 0 (length (front_word b ++ text_of ps)) (record { kind = lexeme.name (front_word b); at = 0; place = put 1 1 } ∷ tokens_of (put 1 (front_col b)) (length (front_word b)) ps)
cut_of false ps f =
    let w : List ℕ = codes "--algorithm" ++ text_of ps in
    record {
      opening = codes "--algorithm";
      is_opening = refl;
      stands = ap (λ (u : List ℕ). starts_with nat_eq u (codes "--algorithm")) (take_all (length w - 0) w (omega arith));
      more = tokens_of (put 1 12) 11 ps;
      tok = record { pieces = ps; cut = take_all (length w - 11) (text_of ps) (omega (arith, length-append (codes "--algorithm") (text_of ps))); fit = f.fit; tokens = refl };
      unmarked = tokens_unmarked (put 1 12) 11 ps ∙ f.unmarked;
      tokens = refl;
    }
cut_of true ps f =
    let w : List ℕ = codes "--fair" ++ text_of ps in
    record {
      opening = codes "--fair";
      is_opening = refl;
      stands = ap (λ (u : List ℕ). starts_with nat_eq u (codes "--fair")) (take_all (length w - 0) w (omega arith));
      more = tokens_of (put 1 7) 6 ps;
      tok = record { pieces = ps; cut = take_all (length w - 6) (text_of ps) (omega (arith, length-append (codes "--fair") (text_of ps))); fit = f.fit; tokens = refl };
      unmarked = tokens_unmarked (put 1 7) 6 ps ∙ f.unmarked;
      tokens = refl;
    }

views_of : (b : Bool) (ps : List Piece) → views (record { kind = lexeme.name (front_word b); at = 0; place = put 1 1 } ∷ tokens_of (put 1 (front_col b)) (length (front_word b)) ps) ≡ grammar.word (put 1 1) (front_word b) (seen (put 1 (front_col b)) ps)
views_of false ps = ap (λ (ts : List Token). grammar.word (put 1 1) (codes "--algorithm") ts) (seen_is (put 1 12) 11 ps)
views_of true ps = ap (λ (ts : List Token). grammar.word (put 1 1) (codes "--fair") ts) (seen_is (put 1 7) 6 ps)

front_clear : (b : Bool) (w : List ℕ) → holds_mark w ≡ false → holds_mark (front_word b ++ w) ≡ false
front_clear false w h = h
front_clear true w h = h

-- ---- what is around all after the name

abbrev opened : Syntax → Place → Tokens
opened p_syntax q ts = ts
opened c_syntax q ts = mark q tk.open_brace ts

abbrev closed : Syntax → Place → Place → Tokens
closed p_syntax a b ts = key a (codes "end") (key b (codes "algorithm") ts)
closed c_syntax a b ts = mark a tk.close_brace ts

abbrev around_form : Syntax → Place → Place → Place → Around
around_form p_syntax q a b = to_end a b
around_form c_syntax q a b = in_braces q a

around_good : (s : Syntax) (q a b : Place) → GoodAround s (around_form s q a b)
around_good p_syntax q a b = tt
around_good c_syntax q a b = tt

around_is : (s : Syntax) (q a b : Place) (inside : Tokens) → opened s q (inside (closed s a b [])) ≡ around (around_form s q a b) inside []
around_is p_syntax q a b inside = refl
around_is c_syntax q a b inside = refl

record TitleAt (s : Syntax) (x : Name) (at : Place) : Type 0 where
  opens : Place
  chunk : Chunk ends_word at (opening s x.word) (λ ts. grammar.name (named at x) (opened s opens ts))

title_at : (s : Syntax) (x : Name) → IsName x → (at : Place) → Right 0 at → TitleAt s x at
title_at p_syntax x h at r = record { opens = at; chunk = name_at at r x.word h }
title_at c_syntax x h at r =
    let n = name_at at r x.word h in
    let o = curly_at n.end n.right in
    record { opens = o.place; chunk = narrowed ends_word (join n o.chunk (λ y q. refl)) }

-- ---- the last line

-- it begins no comment and ends none
abbrev pub is_calm_byte : ℕ → Bool
is_calm_byte c = not (nat_eq c 40 || nat_eq c 42)

-- its last byte is none of a mark
pub record Ends (w : List ℕ) : Type 0 where
  pub before : List ℕ
  pub byte : ℕ
  pub is : w ≡ before ++ byte ∷ []
  pub calm : is_calm_byte byte ≡ true

-- what the last word wants after it
abbrev pub needs : Syntax → List ℕ → Bool
needs p_syntax q = ends_word q
needs c_syntax q = true

no_word : (q : List ℕ) → ends_word q ≡ true → run is_word q ≡ []
no_word [] h = refl
no_word (b ∷ q) h = (let f : is_word b ≡ false = not-true (is_word b) h in rw f refl)

abbrev last_pieces : Syntax → List Piece
last_pieces p_syntax = text.lexeme (lexeme.name (codes "end")) (codes "end") ∷ blank 32 ∷ text.lexeme (lexeme.name (codes "algorithm")) (codes "algorithm") ∷ []
last_pieces c_syntax = text.lexeme (lexeme.one CloseCurly) (codes "}") ∷ []

last_fit : (s : Syntax) (q : List ℕ) → needs s q ≡ true → AllFitBefore q (last_pieces s)
last_fit p_syntax q h =
    ((refl, (refl, (refl, refl)), word_before 101 (codes "nd") (codes " algorithm" ++ q) refl refl), (refl, ((refl, (refl, (refl, refl)), word_before 97 (codes "lgorithm") q refl (no_word q h)), tt)))
last_fit c_syntax q h = (((close_brace_fits q).0, refl, (close_brace_fits q).1), tt)

last_token : (s : Syntax) → (ends_in_token (last_pieces s) ≡ true) × (last_pieces s ≡ [] → ⊥)
last_token p_syntax = (refl, λ e. cc)
last_token c_syntax = (refl, λ e. cc)

needs_nothing : (s : Syntax) → needs s [] ≡ true
needs_nothing p_syntax = refl
needs_nothing c_syntax = refl

-- a text is cut in one way
one_cut : (ps qs : List Piece) → AllFit ps → AllFit qs → text_of ps ≡ text_of qs → ps ≡ qs
one_cut ps qs h k e = sym (sound_pieces ps) ∙ ap pieces_of (sym (pieces_back ps h) ∙ ap parts e ∙ pieces_back qs k) ∙ sound_pieces qs

record LastAt (s : Syntax) (n : ℕ) : Type 0 where
  first : Place
  second : Place
  pieces : List Piece
  stands : Stands (line 0 (last_line s) []) pieces
  fine : Fine pieces
  seen : seen (put n 1) pieces ≡ closed s first second []
  ends : Ends (text_of pieces)
  apart : Apart ends.byte
  is : pieces ≡ last_pieces s

last_at : (s : Syntax) (n : ℕ) → LastAt s n
last_at p_syntax n =
    let e = key_space (put n 1) (in_line n 0) (codes "end") refl (refl, refl) in
    let a = key_at e.end e.right (codes "algorithm") refl (refl, refl) in
    let x = join e a (λ y q. refl) in
    record {
      first = put n 1;
      second = e.end;
      pieces = x.pieces [];
      stands = record { bytes = x.bytes []; some = λ q. cc };
      fine = x.fine [] none_fine refl;
      seen = x.seen [];
      ends = record { before = codes "end algorith"; byte = 109; is = x.bytes []; calm = refl };
      apart = record { blank = refl; first = refl; second = refl; bracket = refl };
      is = one_cut (x.pieces []) (last_pieces p_syntax) (x.fine [] none_fine refl).fit (fit_alone (last_pieces p_syntax) [] (last_fit p_syntax [] refl)) (x.bytes []);
    }
last_at c_syntax n =
    let x = close_curly (put n 1) (in_line n 0) in
    record {
      first = put n 1;
      second = put n 1;
      pieces = x.pieces [];
      stands = record { bytes = x.bytes []; some = λ q. cc };
      fine = x.fine [] none_fine refl;
      seen = x.seen [];
      ends = record { before = []; byte = 125; is = x.bytes []; calm = refl };
      apart = record { blank = refl; first = refl; second = refl; bracket = refl };
      is = one_cut (x.pieces []) (last_pieces c_syntax) (x.fine [] none_fine refl).fit (fit_alone (last_pieces c_syntax) [] (last_fit c_syntax [] refl)) (x.bytes []);
    }

-- ---- what is between them

record InsideAt (s : Syntax) (a : Algorithm) (n : ℕ) : Type 0 where
  variables : grammar.Section
  define : g.Define
  macros : List g.Macro
  procedures : List g.Procedure
  main : g.Main
  good : grammar.GoodSection true variables × GoodDefine s define × AllByRecursion (GoodMacro s) macros × AllByRecursion (GoodProcedure s) procedures × GoodMain s main
  same_variables : declarations_placeless (grammar.declared variables) ≡ declarations_placeless a.globals
  same_define : definitions_placeless (g.defined define) ≡ definitions_placeless a.definitions
  same_macros : macros_placeless (map g.macro_tree macros) ≡ macros_placeless a.macros
  same_procedures : procedures_placeless (map g.procedure_tree procedures) ≡ procedures_placeless a.procedures
  same_main : main_placeless (g.main_tree main) ≡ main_placeless a.main
  block : Block n (λ ls. lines.variables a.globals (lines.define s a.definitions (lines.macros s a.macros (lines.procedures s a.procedures (lines.main s a.main ls)))))
      (λ ts. grammar.section_tokens variables (g.define define (g.each g.macro macros (g.each g.procedure procedures (g.main main ts)))))

inside_at : (s : Syntax) (a : Algorithm) → IsPrintable a → (n : ℕ) → InsideAt s a n
inside_at s a h n =
    let v = section_at n true a.globals h.globals in
    let d = define_at s v.block.next a.definitions h.definitions in
    let m = macros_at s d.block.next a.macros h.macros in
    let p = procedures_at s m.block.next a.procedures h.procedures in
    let x = main_at s p.block.next a.main h.main in
    record {
      variables = v.form;
      define = d.form;
      macros = m.forms;
      procedures = p.forms;
      main = x.form;
      good = (v.good, d.good, m.good, p.good, x.good);
      same_variables = v.same;
      same_define = d.same;
      same_macros = m.same;
      same_procedures = p.same;
      same_main = x.tree;
      block = follow (follow (follow (follow v.block d.block) m.block) p.block) x.block;
    }

-- ---- the whole

lines_joined : (w : List ℕ) (ls : List (List ℕ)) (r : List Piece) → Stands ls r → separated (codes "\n") (w ∷ ls) ≡ w ++ 10 ∷ text_of r
lines_joined w [] r h = absurd (h.some refl)
lines_joined w (v ∷ vs) r h = append_assoc w (codes "\n") (separated (codes "\n") (v ∷ vs)) ∙ ap (λ (x : List ℕ). w ++ 10 ∷ x) (sym h.bytes)

pub record PrintedAt (s : Syntax) (a : Algorithm) : Type 0 where
  pub tokens : List text.Token
  pub form : g.Text
  pub good : Good s form
  pub same : placeless (algorithm_of form) ≡ placeless a
  pub cut : TokAlgorithm (printed s a) 0 (length (printed s a)) tokens
  pub spelled : views tokens ≡ spell form []
  pub clear : holds_mark (printed s a) ≡ false
  pub ends : Ends (printed s a)

-- at a place, in pieces behind `--algorithm` or `--fair`
pub record BehindAt (s : Syntax) (a : Algorithm) (at : Place) : Type 0 where
  pub form : g.Text
  pub good : Good s form
  pub same : placeless (algorithm_of form) ≡ placeless a
  pub pieces : List Piece
  pub bytes : printed s a ≡ front_word a.fair ++ text_of pieces
  pub fine : Fine pieces
  pub seen : grammar.word at (front_word a.fair) (seen (behind_front a.fair at) pieces) ≡ spell form []
  pub ends : Ends (printed s a)
  -- its last byte is in no options
  pub apart : Apart ends.byte
  pub clear : holds_mark (printed s a) ≡ false
  -- also before a text
  pub fit : (q : List ℕ) → needs s q ≡ true → AllFitBefore q pieces
  pub token : ends_in_token pieces ≡ true
  pub begins : (more : List ℕ) × (printed s a ≡ algorithm_word a.fair ++ (opening s a.name.word ++ more))

-- so its pieces are those of its whole lines, and of the last one
divided : (ps lines last : List Piece) (v : List ℕ) → AllFit ps → AllFit lines → text_of lines ≡ v ++ 10 ∷ [] → AllFitBefore [] last → text_of ps ≡ text_of lines ++ text_of last → ps ≡ lines ++ last
divided ps lines last v h k e m t = one_cut ps (lines ++ last) h (fit_alone (lines ++ last) [] (both_fit lines last [] (lines_fit lines v (text_of last ++ []) e k) m)) (t ∙ sym (text_append lines last))

-- what is printed, part by part
record PartsAt (s : Syntax) (a : Algorithm) (at : Place) : Type 0 where
  front : FrontAt a.fair at
  title : TitleAt s a.name front.chunk.end
  inside : InsideAt s a (title.chunk.end.line + 1)
  last : LastAt s inside.block.next

parts_at : (s : Syntax) (a : Algorithm) → IsPrintable a → (at : Place) → Right 0 at → PartsAt s a at
parts_at s a h at right =
    let f = front_at a.fair at right in
    let t = title_at s a.name h.name f.chunk.end f.chunk.right in
    let i = inside_at s a h (t.chunk.end.line + 1) in
    record { front = f; title = t; inside = i; last = last_at s i.block.next }

module _ (s : Syntax) (a : Algorithm) (at : Place) (x : PartsAt s a at) where
  -- the first line, behind its first word
  abbrev line_text : List ℕ
  line_text = x.front.more ++ opening s a.name.word

  abbrev first_line : Chunk ends_word (behind_front a.fair at) line_text (λ ts. x.front.rest (grammar.name (named x.front.chunk.end a.name) (opened s x.title.opens ts)))
  first_line = join x.front.chunk x.title.chunk (λ y q. refl)

  abbrev more : List Piece
  more = x.inside.block.pieces x.last.pieces

  abbrev all : List Piece
  all = first_line.pieces (blank 10 ∷ more)

  abbrev before_last : List Piece
  before_last = first_line.pieces (blank 10 ∷ x.inside.block.pieces [])

  all_fine : Fine all
  all_fine = first_line.fine (blank 10 ∷ more) (newline_fine (x.inside.block.fine x.last.pieces x.last.fine)) refl

  before_fine : Fine before_last
  before_fine = first_line.fine (blank 10 ∷ x.inside.block.pieces []) (newline_fine (x.inside.block.fine [] none_fine)) refl

  abbrev lined : (v : List ℕ) × (line_text ++ 10 ∷ x.inside.block.front ≡ v ++ 10 ∷ [])
  lined = x.inside.block.lined line_text

  before_text : text_of before_last ≡ lined.0 ++ 10 ∷ []
  before_text = first_line.bytes (blank 10 ∷ x.inside.block.pieces []) ∙ ap (λ (y : List ℕ). line_text ++ 10 ∷ y) (x.inside.block.text [] ∙ append-nil x.inside.block.front) ∙ lined.1

  all_text : text_of all ≡ text_of before_last ++ text_of x.last.pieces
  all_text =
      first_line.bytes (blank 10 ∷ more) ∙ ap (λ (y : List ℕ). line_text ++ 10 ∷ y) (x.inside.block.text x.last.pieces)
      ∙ sym (append_assoc line_text (10 ∷ x.inside.block.front) (text_of x.last.pieces)) ∙ ap (λ (y : List ℕ). y ++ text_of x.last.pieces) (lined.1 ∙ sym before_text)

  in_two : all ≡ before_last ++ last_pieces s
  in_two =
      divided all before_last (last_pieces s) lined.0 all_fine.fit before_fine.fit before_text (last_fit s [] (needs_nothing s))
      (all_text ∙ ap (λ (ps : List Piece). text_of before_last ++ text_of ps) x.last.is)

  abbrev title : List ℕ
  title = algorithm_word a.fair ++ opening s a.name.word

  lines_there : printed s a ≡ title ++ 10 ∷ text_of more
  lines_there = lines_joined title _ more (x.inside.block.stands (line 0 (last_line s) []) x.last.pieces x.last.stands)

  bytes_there : printed s a ≡ front_word a.fair ++ text_of all
  bytes_there =
      lines_there ∙ ap (λ (y : List ℕ). (y ++ opening s a.name.word) ++ 10 ∷ text_of more) x.front.word
      ∙ ap (λ (y : List ℕ). y ++ 10 ∷ text_of more) (append_assoc (front_word a.fair) x.front.more (opening s a.name.word)) ∙ append_assoc (front_word a.fair) line_text (10 ∷ text_of more)
      ∙ ap (λ (y : List ℕ). front_word a.fair ++ y) (sym (first_line.bytes (blank 10 ∷ more)))

  abbrev within : Tokens
  within ts = grammar.section_tokens x.inside.variables (g.define x.inside.define (g.each g.macro x.inside.macros (g.each g.procedure x.inside.procedures (g.main x.inside.main ts))))

  abbrev form_there : g.Text
  form_there = record {
    head = x.front.form;
    name = named x.front.chunk.end a.name;
    around = around_form s x.title.opens x.last.first x.last.second;
    variables = x.inside.variables;
    define = x.inside.define;
    macros = x.inside.macros;
    procedures = x.inside.procedures;
    main = x.inside.main;
  }

  seen_there : grammar.word at (front_word a.fair) (seen (behind_front a.fair at) all) ≡ spell form_there []
  seen_there =
      ap (λ (ts : List Token). grammar.word at (front_word a.fair) ts)
      (first_line.seen (blank 10 ∷ more)
      ∙ ap (λ (ts : List Token). x.front.rest (grammar.name (named x.front.chunk.end a.name) (opened s x.title.opens ts))) (x.inside.block.seen x.last.pieces ∙ ap within x.last.seen)
      ∙ ap (λ (ts : List Token). x.front.rest (grammar.name (named x.front.chunk.end a.name) ts)) (around_is s x.title.opens x.last.first x.last.second within))
      ∙ sym (x.front.tokens _)

  ends_so : Ends (printed s a)
  ends_so =
      let front = x.inside.block.front in
      let e = x.last.ends in
      record {
        before = title ++ 10 ∷ (front ++ e.before);
        byte = e.byte;
        is = lines_there ∙ ap (λ (y : List ℕ). title ++ 10 ∷ y) (x.inside.block.text x.last.pieces ∙ ap (λ (y : List ℕ). front ++ y) e.is ∙ sym (append_assoc front e.before (e.byte ∷ [])))
            ∙ sym (append_assoc title (10 ∷ (front ++ e.before)) (e.byte ∷ []));
        calm = e.calm;
      }

  apart_so : Apart ends_so.byte
  unfolding ends_so
  apart_so = x.last.apart

pub behind_at : (s : Syntax) (a : Algorithm) → IsPrintable a → (at : Place) → Right 0 at → BehindAt s a at
behind_at s a h at right =
    let x = parts_at s a h at right in
    let i = x.inside in
    let before : List Piece = before_last s a at x in
    record {
      form = form_there s a at x;
      good = (around_good s x.title.opens x.last.first x.last.second, i.good.0, i.good.1, i.good.2, i.good.3, i.good.4);
      same = λ j. record { name = name_placeless a.name; fair = x.front.fair j; globals = i.same_variables j; definitions = i.same_define j; macros = i.same_macros j; procedures = i.same_procedures j; main = i.same_main j };
      pieces = all s a at x;
      bytes = bytes_there s a at x;
      fine = all_fine s a at x;
      clear = ap holds_mark (bytes_there s a at x) ∙ front_clear a.fair (text_of (all s a at x)) (all_fine s a at x).clear;
      seen = seen_there s a at x;
      ends = ends_so s a at x;
      apart = apart_so s a at x;
      fit = λ q n.
          subst (AllFitBefore q) (sym (in_two s a at x))
          (both_fit before (last_pieces s) q (lines_fit before (lined s a at x).0 (text_of (last_pieces s) ++ q) (before_text s a at x) (before_fine s a at x).fit) (last_fit s q n));
      token = ap ends_in_token (in_two s a at x) ∙ ends_there before (last_pieces s) (last_token s).1 (last_token s).0;
      begins = (10 ∷ text_of (more s a at x), lines_there s a at x ∙ append_assoc (algorithm_word a.fair) (opening s a.name.word) (10 ∷ text_of (more s a at x)));
    }

pub printed_at : (s : Syntax) (a : Algorithm) → IsPrintable a → PrintedAt s a
printed_at s a h =
    let x = behind_at s a h (put 1 1) refl in
    let first = behind_first a.fair in
    let ts : List text.Token = record { kind = lexeme.name (front_word a.fair); at = 0; place = put 1 1 } ∷ tokens_of (put 1 (front_col a.fair)) (length (front_word a.fair)) x.pieces in
    record {
      tokens = ts;
      form = x.form;
      good = x.good;
      same = x.same;
      cut = subst (λ (w : List ℕ). TokAlgorithm w 0 (length w) ts) (sym x.bytes) (cut_of a.fair x.pieces x.fine);
      spelled = views_of a.fair x.pieces ∙ ap (λ (p : Place). grammar.word (put 1 1) (front_word a.fair) (seen p x.pieces)) (sym first) ∙ x.seen;
      clear = x.clear;
      ends = x.ends;
    }
