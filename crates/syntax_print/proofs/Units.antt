-- Parts of a printed algorithm, one after another.
use Rattle.std.proofs.Common.{◌≡◌, ◌<◌, List, [], ◌∷◌, ◌++◌, length, sym, ap, ◌∙◌, arith, append_assoc, append-nil}
use Rattle.std.specs.Prelude.{codes}
use Rattle.pcal_tree.specs.Grammar.{Syntax, p_syntax, c_syntax}
use Rattle.pcal_tree.specs.Algorithm.{Definition, Procedure, Process, processes, Algorithm}
use Rattle.pcal_tree.specs.Printed.{Text, separated, blanks, line, opening, define, define_end, definitions, variables, body, macros, procedures, bracketed, declarations_text, main, last_line, process_lines}
use Rattle.syntax_print.specs.Adding.{behind, lines_behind, Adds}
use Rattle.syntax_print.proofs.Lines.{line_adds, line_alone}

-- a `define` block that isn't empty
pub define_adds : (s : Syntax) (old begun opened all new : Text) (ds : List Definition) → 0 < length ds → begun ≡ old ++ (codes "\n" ++ (blanks 0 ++ [])) → opened ≡ begun ++ opening s (codes "define") → Adds opened all (definitions ds)
    → new ≡ all ++ (codes "\n" ++ (blanks 0 ++ define_end s)) → Adds old new (define s ds)
define_adds s old begun opened all new [] lt p q a e rest = absurd (omega arith)
define_adds s old begun opened all new (d ∷ ds) lt p q a e rest =
    line_alone all new 0 (define_end s) e rest ∙ a (line 0 (define_end s) rest) ∙ line_adds old begun opened 0 [] (opening s (codes "define")) p q (definitions (d ∷ ds) (line 0 (define_end s) rest))

-- a procedure: its head, with the declarations in brackets, its variables, its body
pub procedure_adds : (s : Syntax) (old begun named opened listed headed with_variables new : Text) (p : Procedure) → begun ≡ old ++ (codes "\n" ++ (blanks 0 ++ codes "procedure ")) → named ≡ begun ++ p.name.word → opened ≡ named ++ codes "(" → listed ≡ opened ++ declarations_text p.params
    → headed ≡ listed ++ codes ")" → Adds headed with_variables (variables p.variables) → Adds with_variables new (body s (codes "procedure") p.body) → Adds old new (procedures s (p ∷ []))
procedure_adds s old begun named opened listed headed with_variables new p e1 e2 e3 e4 e5 a b rest =
    b rest ∙ a (body s (codes "procedure") p.body rest)
    ∙ line_adds old begun headed 0 (codes "procedure ") (p.name.word ++ bracketed (declarations_text p.params)) e1 head (variables p.variables (body s (codes "procedure") p.body rest))
    ∙ ap (λ (w : Text). old ++ behind (line 0 w (variables p.variables (body s (codes "procedure") p.body rest)))) (sym (append_assoc (codes "procedure ") p.name.word (bracketed (declarations_text p.params))))
  where
    head : headed ≡ begun ++ (p.name.word ++ bracketed (declarations_text p.params))
    head = rw (e5, e4, e3, e2) (simp append_assoc)

pub main_of_processes : (s : Syntax) (old new : Text) (ps : List Process) → Adds old new (process_lines s ps) → Adds old new (main s (processes ps))
main_of_processes p_syntax old new ps a = a
main_of_processes c_syntax old new ps a = a

-- ---- the lines behind the first

-- the first line, and those behind it
pub first_and_behind : (w : Text) (ls : List Text) → separated (codes "\n") (w ∷ ls) ≡ w ++ behind ls
first_and_behind w [] = sym (append-nil w)
first_and_behind w (v ∷ ls) = append_assoc w (codes "\n") (separated (codes "\n") (v ∷ ls)) ∙ ap (λ (u : Text). w ++ (10 ∷ u)) (first_and_behind v ls)

pub rest_adds : (s : Syntax) (a : Algorithm) (old vs ds ms ps mn new : Text) → Adds old vs (variables a.globals) → Adds vs ds (define s a.definitions) → Adds ds ms (macros s a.macros) → Adds ms ps (procedures s a.procedures) → Adds ps mn (main s a.main)
    → new ≡ mn ++ (codes "\n" ++ (blanks 0 ++ last_line s)) → new ≡ old ++ behind (lines_behind s a)
rest_adds s a old vs ds ms ps mn new f g h k l e =
    sym (append-nil new) ∙ line_alone mn new 0 (last_line s) e [] ∙ l (line 0 (last_line s) []) ∙ k (main s a.main (line 0 (last_line s) [])) ∙ h (procedures s a.procedures (main s a.main (line 0 (last_line s) [])))
    ∙ g (macros s a.macros (procedures s a.procedures (main s a.main (line 0 (last_line s) []))))
    ∙ f (define s a.definitions (macros s a.macros (procedures s a.procedures (main s a.main (line 0 (last_line s) [])))))
