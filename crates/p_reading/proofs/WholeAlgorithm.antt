-- What is spelled is read: the algorithm around its statements; so tokens spell one at most.
use Rattle.std.proofs.Common.{◌≡◌, ℕ, zero, suc, ◌≤◌, ◌*◌, Bool, true, false, nat_le, List, [], ◌∷◌, length, None, Ok, Err, refl, sym, ap, subst, ◌∙◌, arith, codes}
use Rattle.std.specs.List.{AllByRecursion}
use Rattle.tla_token.specs.declared.place.Place.{Place}
use Rattle.tla_token.specs.Tokens as text
use Rattle.tla_tree.specs.Tree.{Word}
use Rattle.tla_tree.specs.Lexical.{TokenView, Token}
use Rattle.tla_tree.specs.Lexical as tk
use Rattle.tla_tree.specs.Spelling.{spell}
use Rattle.tla_tree.specs.Reader.{Out, Reader, ◌>>=◌, then_read, gives, readers}
use Rattle.pcal_tree.specs.GrammarParts.{name, key, maybe_semicolon, section_tokens, macro_parameters, procedure_parameters}
use Rattle.pcal_tree.specs.GrammarParts as g
use Rattle.pcal_tree.specs.Grammar.{p_syntax, Body, begin_end, braces, body, GoodBody, Macro, macro, GoodMacro, Procedure, procedure, GoodProcedure, Fair, unfair, weak, strong, fair, Identity, bare, bracketed, identity, GoodIdentity, Process, process, GoodProcess, Head, algorithm, fair_algorithm, head, Define, no_define, define_end, define_braces, define, GoodDefine, Main, begin, block, processes, each, main, GoodMain, Around, to_end, in_braces, around, GoodAround, Text, Good}
use Rattle.pcal_tree.specs.Grammar as gr
use Rattle.pcal_tree.specs.Algorithm.{Algorithm}
use Rattle.syntax_reading.specs.TokenReaders.{Parts, parts_of, first, by_next, a_key}
use Rattle.syntax_reading.specs.ReadParts.{section_by}
use Rattle.syntax_reading.proofs.Whole.{Fits, smaller, less, then_is, is_word_next, word_divides, divider_calm, WholeParts, parts_whole}
use Rattle.syntax_reading.proofs.WholeParts.{semicolon_whole, section_whole, macro_parameters_whole, procedure_parameters_whole, definitions_whole, signed}
use Rattle.syntax_reading.proofs.Lengths.{Grows, GrowsMore, grow_semicolon, grow_section, grow_fair, grow_each, grow_macro, grow_procedure, grow_phrase, grow_definitions}
use Rattle.syntax_reading.specs.ReadAround.{read_head}
use Rattle.syntax_reading.specs.ReadRoutines.{read_macro, read_procedure, read_process, macros_by, read_macros, procedures_by, read_procedures, processes_by, read_processes, define_by, read_define}
use Rattle.p_reading.specs.ReadAlgorithm.{read_body, read_identity, ways, read_main, read_text, read_algorithm}
use Rattle.p_reading.proofs.WholeStatements.{grow_sequence, sequence_whole}

-- ---- tokens before others
grow_body : (w : Word) (b : Body) → GoodBody p_syntax b → GrowsMore (body w b)
grow_body w (begin_end a ss b d s) i ts = (let us = key b (codes "end") (key d w (maybe_semicolon s ts)) in omega (arith, grow_sequence ss us, grow_semicolon s ts))
grow_body w (braces a ss b s) i ts = absurd i

grow_macro_whole : (x : Macro) → GoodMacro p_syntax x → GrowsMore (macro x)
grow_macro_whole x i ts = (let us = body (codes "macro") x.body ts in omega (arith, grow_macro x.parameters us, grow_body (codes "macro") x.body i ts))

grow_procedure_whole : (x : Procedure) → GoodProcedure p_syntax x → GrowsMore (procedure x)
grow_procedure_whole x i ts = (let us = body (codes "procedure") x.body ts in omega (arith, grow_procedure x.parameters (section_tokens x.variables us), grow_section x.variables us, grow_body (codes "procedure") x.body i.2 ts))

grow_identity : (x : Identity) → GoodIdentity p_syntax x → Grows (identity x)
grow_identity (bare x b p e) i ts = omega (arith, grow_phrase e ts)
grow_identity (bracketed q x b p e s) i ts = absurd i

grow_process : (x : Process) → GoodProcess p_syntax x → GrowsMore (process x)
grow_process x i ts =
    (let us = body (codes "process") x.body ts in
    omega (arith, grow_fair x.fair (key x.place (codes "process") (identity x.identity (section_tokens x.variables us))), grow_identity x.identity i.0 (section_tokens x.variables us), grow_section x.variables us, grow_body (codes "process") x.body i.2 ts))

grow_define : (d : Define) → GoodDefine p_syntax d → Grows (define d)
grow_define no_define i ts = omega arith
grow_define (define_end a ds b d s) i ts = (let us = key b (codes "end") (key d (codes "define") (maybe_semicolon s ts)) in omega (arith, grow_definitions ds us, grow_semicolon s ts))
grow_define (define_braces a b ds d s) i ts = absurd i

grow_head : (x : Head) → GrowsMore (head x)
grow_head (algorithm p) ts = omega arith
grow_head (fair_algorithm p q) ts = omega arith

-- ---- the part that comes next
data Part : Type 0 where
  at_define : Part
  at_macro : Part
  at_procedure : Part
  at_begin : Part
  at_process : Part
  at_fair : Part

abbrev part_word : Part → Word
part_word at_define = codes "define"
part_word at_macro = codes "macro"
part_word at_procedure = codes "procedure"
part_word at_begin = codes "begin"
part_word at_process = codes "process"
part_word at_fair = codes "fair"

-- their order
abbrev stage : Part → ℕ
stage at_define = 0
stage at_macro = 1
stage at_procedure = 2
stage k = 3

record Comes (i : ℕ) (ts : List Token) : Type 0 where
  part : Part
  kind : (first ts).kind ≡ tk.reserved (part_word part)
  late : nat_le i (stage part) ≡ true

later : (i j : ℕ) (ts : List Token) → ((k : Part) → nat_le i (stage k) ≡ true → nat_le j (stage k) ≡ true) → Comes i ts → Comes j ts
later i j ts h c = record { part = c.part; kind = c.kind; late = h c.part c.late }

three_two : (k : Part) → nat_le 3 (stage k) ≡ true → nat_le 2 (stage k) ≡ true
three_two at_define h = absurd cc
three_two at_macro h = absurd cc
three_two k h = refl

two_one : (k : Part) → nat_le 2 (stage k) ≡ true → nat_le 1 (stage k) ≡ true
two_one at_define h = absurd cc
two_one k h = refl

any_stage : (k : Part) → nat_le 0 (stage k) ≡ true
any_stage at_define = refl
any_stage at_macro = refl
any_stage at_procedure = refl
any_stage at_begin = refl
any_stage at_process = refl
any_stage at_fair = refl

comes_word : (i : ℕ) (ts : List Token) → Comes i ts → is_word_next (first ts).kind ≡ true
comes_word i ts c = ap is_word_next c.kind

comes_some : (i : ℕ) (ts : List Token) → Comes i ts → 1 ≤ length ts
comes_some i [] c = (let e = c.kind in absurd cc)
comes_some i (t ∷ ts) c = omega arith

-- where a word that is none of its own comes, a part ends
at_word : {A : Type 0} (i : ℕ) (ts : List Token) (f : Place → TokenView → Reader A) (o : Out A) → ((k : Part) → nat_le i (stage k) ≡ true → (p : Place) → f p (tk.reserved (part_word k)) ts ≡ o) → Comes i ts → by_next f ts ≡ o
at_word i ts f o h c = ap (λ (k : TokenView). f (first ts).place k ts) c.kind ∙ h c.part c.late (first ts).place

body_comes : (w : Word) (b : Body) → GoodBody p_syntax b → (ts : List Token) → Comes 3 (body w b ts)
body_comes w (begin_end a ss b d s) i ts = record { part = at_begin; kind = refl; late = refl }
body_comes w (braces a ss b s) i ts = absurd i

process_comes : (x : Process) (f : Fair) (ts : List Token) → Comes 3 (fair f (key x.place (codes "process") ts))
process_comes x unfair ts = record { part = at_process; kind = refl; late = refl }
process_comes x (weak p) ts = record { part = at_fair; kind = refl; late = refl }
process_comes x (strong p q) ts = record { part = at_fair; kind = refl; late = refl }

main_comes : (x : Main) → GoodMain p_syntax x → (ts : List Token) → Comes 3 (main x ts)
main_comes (begin a ss) i ts = record { part = at_begin; kind = refl; late = refl }
main_comes (block a ss b s) i ts = absurd i
main_comes (processes x xs) i ts = process_comes x x.fair (identity x.identity (section_tokens x.variables (body (codes "process") x.body (each process xs ts))))

procedures_come : (xs : List Procedure) (ts : List Token) → Comes 3 ts → Comes 2 (each procedure xs ts)
procedures_come [] ts c = later 3 2 ts three_two c
procedures_come (x ∷ xs) ts c = record { part = at_procedure; kind = refl; late = refl }

macros_come : (xs : List Macro) (ts : List Token) → Comes 2 ts → Comes 1 (each macro xs ts)
macros_come [] ts c = later 2 1 ts two_one c
macros_come (x ∷ xs) ts c = record { part = at_macro; kind = refl; late = refl }

define_comes : (d : Define) → GoodDefine p_syntax d → (ts : List Token) → Comes 1 ts → Comes 0 (define d ts)
define_comes no_define i ts c = later 1 0 ts (λ k e. any_stage k) c
define_comes (define_end a ds b d s) i ts c = record { part = at_define; kind = refl; late = refl }
define_comes (define_braces a b ds d s) i ts c = absurd i

-- with this around it
abbrev spelled : Text → Around → List Token → List Token
spelled x c ts = head x.head (name x.name (around c (λ us. section_tokens x.variables (define x.define (each macro x.macros (each procedure x.procedures (main x.main us))))) ts))

abbrev put_around : Text → Around → Text
put_around x c = record { head = x.head; name = x.name; around = c; variables = x.variables; define = x.define; macros = x.macros; procedures = x.procedures; main = x.main }

more : {n m : ℕ} {ts : List Token} → Fits n m ts → Fits (suc n) m ts
more f = record { list = omega (arith, f.list); all = f.all }

head_whole : (x : Head) (ts : List Token) → read_head (head x ts) ≡ Ok (x, ts)
head_whole (algorithm p) ts = refl
head_whole (fair_algorithm p q) ts = refl

module _ (m : ℕ) (r : Parts) (h : WholeParts m r) where
  body_whole : (n : ℕ) (w : Word) → ((p : Place) (us : List Token) → a_key w (key p w us) ≡ Ok (p, us)) → (b : Body) → GoodBody p_syntax b → (ts : List Token) → is_word_next (first ts).kind ≡ true → Fits n m (body w b ts) → read_body r n w (body w b ts) ≡ Ok (b, ts)
  body_whole zero w e (begin_end a ss b d s) i ts c f = absurd (omega (arith, f.list))
  body_whole (suc n) w e (begin_end a ss b d s) i ts c f =
      then_is _ (sequence_whole m r h n ss i b (key d w (maybe_semicolon s ts)) (less (omega arith) f)) (then_is _ (e d (maybe_semicolon s ts)) (then_is _ (semicolon_whole s ts c) refl))
  body_whole n w e (braces a ss b s) i ts c f = absurd i

  -- a section before a part that comes
  section_read : (b : Bool) (n : ℕ) (x : g.Section) → g.GoodSection b x → (ts : List Token) → Comes 0 ts → Fits n m (section_tokens x ts) → by_next (section_by b r n) (section_tokens x ts) ≡ Ok (x, ts)
  section_read b n x i ts c f = section_whole m r h b n x i ts (comes_word 0 ts c) (at_word 0 ts (section_by b r n) (Ok (g.no_section, ts)) none c) f
    where
      none : (k : Part) → nat_le 0 (stage k) ≡ true → (p : Place) → section_by b r n p (tk.reserved (part_word k)) ts ≡ Ok (g.no_section, ts)
      none at_define e p = refl
      none at_macro e p = refl
      none at_procedure e p = refl
      none at_begin e p = refl
      none at_process e p = refl
      none at_fair e p = refl

  macro_whole : (n : ℕ) (x : Macro) → GoodMacro p_syntax x → (ts : List Token) → is_word_next (first ts).kind ≡ true → Fits (suc n) m (macro x ts) → read_macro (ways r) n x.place (name x.name (macro_parameters x.parameters (body (codes "macro") x.body ts))) ≡ Ok (x, ts)
  macro_whole n x i ts c f =
      (let us = body (codes "macro") x.body ts in
      then_is _ (macro_parameters_whole n m x.parameters us (less (omega arith) f))
      (then_is _ (body_whole n (codes "macro") (λ p vs. refl) x.body i ts c (less (omega (arith, grow_macro x.parameters us)) f)) refl))

  procedure_whole : (n : ℕ) (x : Procedure) → GoodProcedure p_syntax x → (ts : List Token) → is_word_next (first ts).kind ≡ true → Fits (suc n) m (procedure x ts)
      → read_procedure r (ways r) n x.place (name x.name (procedure_parameters x.parameters (section_tokens x.variables (body (codes "procedure") x.body ts)))) ≡ Ok (x, ts)
  procedure_whole n x i ts c f =
      (let us = body (codes "procedure") x.body ts in
      let vs = section_tokens x.variables us in
      then_is _ (procedure_parameters_whole m r h n x.parameters i.0 vs (less (omega arith) f))
      (then_is _ (section_read false n x.variables i.1 us (later 3 0 us (λ k e. any_stage k) (body_comes (codes "procedure") x.body i.2 ts)) (less (omega (arith, grow_procedure x.parameters vs)) f))
      (then_is _ (body_whole n (codes "procedure") (λ p ws. refl) x.body i.2 ts c (less (omega (arith, grow_procedure x.parameters vs, grow_section x.variables us)) f)) refl)))

  identity_whole : (x : Identity) → GoodIdentity p_syntax x → (ts : List Token) → is_word_next (first ts).kind ≡ true → length (identity x ts) ≤ m → read_identity r (identity x ts) ≡ Ok (x, ts)
  identity_whole (bare x b p e) i ts c l = then_is _ (signed b p (spell e ts)) (then_is _ (h.expr e i ts (divider_calm (first ts).kind (word_divides (first ts).kind c)) (omega (arith, l))) refl)
  identity_whole (bracketed q x b p e s) i ts c l = absurd i

  section_next : (x : g.Section) (ts : List Token) → is_word_next (first ts).kind ≡ true → is_word_next (first (section_tokens x ts)).kind ≡ true
  section_next g.no_section ts c = c
  section_next (g.section p b vs) ts c = refl

  -- after its words
  process_whole : (n : ℕ) (x : Process) → GoodProcess p_syntax x → (ts : List Token) → is_word_next (first ts).kind ≡ true → Fits (suc n) m (process x ts)
      → read_process r (ways r) n x.fair x.place (identity x.identity (section_tokens x.variables (body (codes "process") x.body ts))) ≡ Ok (x, ts)
  process_whole n x i ts c f =
      (let us = body (codes "process") x.body ts in
      let vs = section_tokens x.variables us in
      let b = body_comes (codes "process") x.body i.2 ts in
      let l = grow_fair x.fair (key x.place (codes "process") (identity x.identity vs)) in
      then_is _ (identity_whole x.identity i.0 vs (section_next x.variables us (comes_word 3 us b)) (omega (arith, f.all, l)))
      (then_is _ (section_read true n x.variables i.1 us (later 3 0 us (λ k e. any_stage k) b) (less (omega (arith, l, grow_identity x.identity i.0 vs)) f))
      (then_is _ (body_whole n (codes "process") (λ p ws. refl) x.body i.2 ts c (less (omega (arith, l, grow_identity x.identity i.0 vs, grow_section x.variables us)) f)) refl)))

  -- ---- lists
  macros_whole : (n : ℕ) (xs : List Macro) → AllByRecursion (GoodMacro p_syntax) xs → (ts : List Token) → Comes 2 ts → Fits n m (each macro xs ts) → read_macros (ways r) n (each macro xs ts) ≡ Ok (xs, ts)
  macros_whole zero [] i ts c f = absurd (omega (arith, f.list, comes_some 2 ts c))
  macros_whole zero (x ∷ xs) i ts c f = absurd (omega (arith, f.list))
  macros_whole (suc n) [] i ts c f = at_word 2 ts (macros_by (ways r) n (read_macros (ways r) n)) (Ok ([], ts)) none c
    where
      none : (k : Part) → nat_le 2 (stage k) ≡ true → (p : Place) → macros_by (ways r) n (read_macros (ways r) n) p (tk.reserved (part_word k)) ts ≡ Ok ([], ts)
      none at_define e p = absurd cc
      none at_macro e p = absurd cc
      none at_procedure e p = refl
      none at_begin e p = refl
      none at_process e p = refl
      none at_fair e p = refl
  macros_whole (suc n) (x ∷ xs) i ts c f =
      (let us = each macro xs ts in
      then_is _ (macro_whole n x i.0 us (comes_word 1 us (macros_come xs ts c)) f) (then_is _ (macros_whole n xs i.1 ts c (less (grow_macro_whole x i.0 us) f)) refl))

  procedures_whole : (n : ℕ) (xs : List Procedure) → AllByRecursion (GoodProcedure p_syntax) xs → (ts : List Token) → Comes 3 ts → Fits n m (each procedure xs ts) → read_procedures r (ways r) n (each procedure xs ts) ≡ Ok (xs, ts)
  procedures_whole zero [] i ts c f = absurd (omega (arith, f.list, comes_some 3 ts c))
  procedures_whole zero (x ∷ xs) i ts c f = absurd (omega (arith, f.list))
  procedures_whole (suc n) [] i ts c f = at_word 3 ts (procedures_by r (ways r) n (read_procedures r (ways r) n)) (Ok ([], ts)) none c
    where
      none : (k : Part) → nat_le 3 (stage k) ≡ true → (p : Place) → procedures_by r (ways r) n (read_procedures r (ways r) n) p (tk.reserved (part_word k)) ts ≡ Ok ([], ts)
      none at_define e p = absurd cc
      none at_macro e p = absurd cc
      none at_procedure e p = absurd cc
      none at_begin e p = refl
      none at_process e p = refl
      none at_fair e p = refl
  procedures_whole (suc n) (x ∷ xs) i ts c f =
      (let us = each procedure xs ts in
      then_is _ (procedure_whole n x i.0 us (comes_word 2 us (procedures_come xs ts c)) f) (then_is _ (procedures_whole n xs i.1 ts c (less (grow_procedure_whole x i.0 us) f)) refl))

  -- processes, to the `end` after them
  processes_next : (xs : List Process) (p : Place) (ts : List Token) → is_word_next (first (each process xs (key p (codes "end") ts))).kind ≡ true
  processes_next [] p ts = refl
  processes_next (x ∷ xs) p ts = (let us = each process xs (key p (codes "end") ts) in comes_word 3 _ (process_comes x x.fair (identity x.identity (section_tokens x.variables (body (codes "process") x.body us)))))

  -- the words of a process, and then what is after them
  process_words_read : (n : ℕ) (rs : Reader (List Process)) (x : Process) (q : Fair) → q ≡ x.fair → (us vs : List Token) (o : Out (List Process)) → then_read (read_process r (ways r) n q x.place us) (λ y. rs >>= λ ys. gives (y ∷ ys)) ≡ o
      → by_next (processes_by r (ways r) n rs) (fair q (key x.place (codes "process") us)) ≡ o
  process_words_read n rs x unfair e us vs o k = k
  process_words_read n rs x (weak p) e us vs o k = k
  process_words_read n rs x (strong p q) e us vs o k = k

  processes_whole : (n : ℕ) (xs : List Process) → AllByRecursion (GoodProcess p_syntax) xs → (p : Place) (ts : List Token) → Fits n m (each process xs (key p (codes "end") ts)) → read_processes r (ways r) n (each process xs (key p (codes "end") ts)) ≡ Ok (xs, key p (codes "end") ts)
  processes_whole zero [] i p ts f = absurd (omega (arith, f.list))
  processes_whole zero (x ∷ xs) i p ts f = (let us = each process xs (key p (codes "end") ts) in absurd (omega (arith, f.list, grow_process x i.0 us)))
  processes_whole (suc n) [] i p ts f = refl
  processes_whole (suc n) (x ∷ xs) i p ts f =
      (let us = each process xs (key p (codes "end") ts) in
      process_words_read n (read_processes r (ways r) n) x x.fair refl (identity x.identity (section_tokens x.variables (body (codes "process") x.body us))) us (Ok (x ∷ xs, key p (codes "end") ts))
      (then_is _ (process_whole n x i.0 us (processes_next xs p ts) f) (then_is _ (processes_whole n xs i.1 p ts (less (grow_process x i.0 us) f)) refl)))

  -- ---- the whole
  define_whole : (n : ℕ) (d : Define) → GoodDefine p_syntax d → (ts : List Token) → Comes 1 ts → Fits n m (define d ts) → read_define (ways r) n (define d ts) ≡ Ok (d, ts)
  define_whole n no_define i ts c f = at_word 1 ts (define_by (ways r) n) (Ok (no_define, ts)) none c
    where
      none : (k : Part) → nat_le 1 (stage k) ≡ true → (p : Place) → define_by (ways r) n p (tk.reserved (part_word k)) ts ≡ Ok (no_define, ts)
      none at_define e p = absurd cc
      none at_macro e p = refl
      none at_procedure e p = refl
      none at_begin e p = refl
      none at_process e p = refl
      none at_fair e p = refl
  define_whole n (define_end a ds b d s) i ts c f =
      then_is _ (definitions_whole m r h n ds i (key b (codes "end") (key d (codes "define") (maybe_semicolon s ts))) refl (smaller (omega arith) f)) (then_is _ (semicolon_whole s ts (comes_word 1 ts c)) refl)
  define_whole n (define_braces a b ds d s) i ts c f = absurd i

  main_words_read : (n : ℕ) (x : Process) (q : Fair) (us : List Token) (o : Out Main) → then_read (read_process r (ways r) n q x.place us) (λ y. read_processes r (ways r) n >>= λ ys. gives (processes y ys)) ≡ o
      → read_main r n (fair q (key x.place (codes "process") us)) ≡ o
  main_words_read n x unfair us o k = k
  main_words_read n x (weak p) us o k = k
  main_words_read n x (strong p q) us o k = k

  main_whole : (n : ℕ) (x : Main) → GoodMain p_syntax x → (p : Place) (ts : List Token) → Fits n m (main x (key p (codes "end") ts)) → read_main r n (main x (key p (codes "end") ts)) ≡ Ok (x, key p (codes "end") ts)
  main_whole zero (begin a ss) i p ts f = absurd (omega (arith, f.list))
  main_whole (suc n) (begin a ss) i p ts f = then_is _ (sequence_whole m r h n ss i p ts (less (omega arith) f)) refl
  main_whole n (block a ss b s) i p ts f = absurd i
  main_whole n (processes x xs) i p ts f =
      (let us = each process xs (key p (codes "end") ts) in
      main_words_read n x x.fair (identity x.identity (section_tokens x.variables (body (codes "process") x.body us))) (Ok (processes x xs, key p (codes "end") ts))
      (then_is _ (process_whole n x i.0 us (processes_next xs p ts) (more f)) (then_is _ (processes_whole n xs i.1 p ts (smaller (omega (arith, grow_process x i.0 us)) f)) refl)))

  text_whole : (n : ℕ) (x : Text) → Good p_syntax x → (c : Around) → c ≡ x.around → Fits n m (spelled x c []) → read_text r n (spelled x c []) ≡ Ok (put_around x c, [])
  text_whole n x i (to_end p q) e f =
      (let us = key p (codes "end") (key q (codes "algorithm") []) in
      let b = main x.main us in
      let ps = each procedure x.procedures b in
      let ms = each macro x.macros ps in
      let d = define x.define ms in
      let s = section_tokens x.variables d in
      let cb = main_comes x.main i.5 us in
      let cp = procedures_come x.procedures b cb in
      let cm = macros_come x.macros ps cp in
      let cd = define_comes x.define i.2 ms cm in
      let l = grow_head x.head (name x.name s) in
      let ls = grow_section x.variables d in
      let ld = grow_define x.define i.2 ms in
      let lm = grow_each macro (GoodMacro p_syntax) grow_macro_whole x.macros i.3 ps in
      let lp = grow_each procedure (GoodProcedure p_syntax) grow_procedure_whole x.procedures i.4 b in
      then_is _ (head_whole x.head (name x.name s))
      (then_is _ (section_read true n x.variables i.1 d cd (smaller (omega (arith, l)) f))
      (then_is _ (define_whole n x.define i.2 ms cm (smaller (omega (arith, l, ls)) f))
      (then_is _ (macros_whole n x.macros i.3 ps cp (smaller (omega (arith, l, ls, ld)) f))
      (then_is _ (procedures_whole n x.procedures i.4 b cb (smaller (omega (arith, l, ls, ld, lm)) f))
      (then_is _ (main_whole n x.main i.5 p (key q (codes "algorithm") []) (smaller (omega (arith, l, ls, ld, lm, lp)) f)) refl))))))
  text_whole n x i (in_braces p q) e f = (let none = i.0 in absurd (let Q : Around → Type 0 = λ a. GoodAround p_syntax a in subst Q (sym e) none))

-- ---- all tokens
pub spelled_is_read : (x : Text) → Good p_syntax x → read_algorithm (gr.spell x []) ≡ Ok (x, [])
spelled_is_read x i =
    (let ts = gr.spell x [] in
    let m = length ts in
    then_is _ (text_whole m (parts_of (readers (4 * m) None)) (parts_whole m) (suc m) x i x.around refl (record { list = omega arith; all = omega arith })) refl)

pub text_read : (x : Text) → Good p_syntax x → (ts : List Token) → gr.spell x [] ≡ ts → read_algorithm ts ≡ Ok (x, [])
text_read x i ts e = ap read_algorithm (sym e) ∙ spelled_is_read x i

text_of : Text → Out Text → Text
text_of d (Ok x) = x.0
text_of d (Err u) = d

-- tokens spell one algorithm at most
pub one_text : (x y : Text) → Good p_syntax x → Good p_syntax y → gr.spell x [] ≡ gr.spell y [] → x ≡ y
unfolding text_of
one_text x y i j e =
    (let both : ◌≡◌ {A = Out Text} (Ok (x, [])) (Ok (y, [])) = sym (spelled_is_read x i) ∙ ap read_algorithm e ∙ spelled_is_read y j in
    ap (text_of x) both)

pub one_tree : (ts : List text.Token) (a b : Algorithm) → gr.SpellsP ts a → gr.SpellsP ts b → a ≡ b
one_tree ts a b (x, i, s, u) (y, j, t, v) = sym u ∙ ap gr.algorithm_of (one_text x y i j (sym s ∙ t)) ∙ v
