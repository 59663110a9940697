-- The lines of macros, procedures and processes: their tokens are those of units of the syntax, places aside.
use Rattle.std.proofs.Common.{◌≡◌, ℕ, ◌+◌, Bool, true, false, List, [], ◌∷◌, ◌++◌, Some, None, map, refl, ap, ◌∙◌, append_assoc, codes}
use Rattle.std.specs.List.{AllByRecursion}
use Rattle.tla_token.specs.declared.place.Place.{Place}
use Rattle.tla_token.specs.Words.{is_pluscal_word}
use Rattle.tla_token.specs.Lexemes as lexeme
use Rattle.tla_tree.specs.Tree.{Word, Name, Tree}
use Rattle.tla_tree.specs.Spelling.{Phrase, Right, IsGood, tree_of}
use Rattle.tla_tree.specs.Written.{written}
use Rattle.tla_tree.specs.laws.InText.{ends_word}
use Rattle.tla_tree.specs.laws.Placeless.{name_placeless, tree_placeless}
use Rattle.tla_tree.proofs.FitTokens.{starts}
use Rattle.pcal_tree.specs.declared.mark.Fairness.{Fairness}
use Rattle.pcal_tree.specs.declared.mark.Fairness.TheVariants as fairness
use Rattle.pcal_tree.specs.Marks.{text_of_fairness}
use Rattle.pcal_tree.specs.Algorithm as tree
use Rattle.pcal_tree.specs.Placeless.{statements_placeless, macros_placeless, procedures_placeless, processes_placeless, main_placeless}
use Rattle.pcal_tree.specs.GrammarParts.{key, expression, bind_sign}
use Rattle.pcal_tree.specs.GrammarParts as grammar
use Rattle.pcal_tree.specs.Grammar.{Syntax, p_syntax, c_syntax, Body, begin_end, braces, body_tree, GoodBody, Macro, macro_tree, GoodMacro, Procedure, procedure_tree, GoodProcedure, Fair, unfair, weak, strong, fair, fairness_of, Identity, bare, bracketed, identity, process_name, is_several, identifiers, GoodIdentity, Process, process_tree, GoodProcess, Main, main_tree, GoodMain, each}
use Rattle.pcal_tree.specs.Grammar as g
use Rattle.pcal_tree.specs.Printed.{Text, sign_text, identity_text}
use Rattle.pcal_tree.specs.Printed as printed
use Rattle.module_tree.proofs.ExprChunks.{name_starts}
use Rattle.printed_text.specs.laws.Printable.{IsName, IsExpression, AreStatements, IsMacro, IsProcedure, IsProcess, IsMain}
use Rattle.printed_text.proofs.Chunks.{Chunk, any, put, in_line, join, nothing}
use Rattle.printed_text.proofs.TokenChunks.{narrowed, name_at, key_at, key_space, spaced_equal, spaced_in, plus_space, open_round, close_round, open_curly, close_curly}
use Rattle.printed_text.proofs.ExprChunks.{expr_at}
use Rattle.printed_text.proofs.ListChunks.{named, macro_parameters_at, procedure_parameters_at}
use Rattle.printed_text.proofs.SimpleChunks.{no_labels_at}
use Rattle.printed_text.proofs.Blocks.{Block, line_of, no_lines, follow}
use Rattle.printed_text.proofs.SectionBlocks.{section_at}
use Rattle.printed_text.proofs.StatementsP as p
use Rattle.printed_text.proofs.StatementsC as c

-- ---- bodies

pub record BodyAt (s : Syntax) (n : ℕ) (w : Word) (ss : tree.Statements) : Type 0 where
  pub form : Body
  pub good : GoodBody s form
  pub tree : statements_placeless (body_tree form) ≡ statements_placeless ss
  pub block : Block n (λ ls. printed.body s w ss ls) (g.body w form)

pub body_at : (s : Syntax) (n : ℕ) (w : Word) → is_pluscal_word w ≡ true → lexeme.IsName w → (ss : tree.Statements) → AreStatements ss → BodyAt s n w ss
body_at p_syntax n w i m ss h =
    let l = line_of n 0 (key_at (put n (1 + 0)) (in_line n 0) (codes "begin") refl (refl, refl)) (λ z. refl) in
    let x = p.sequence_at l.next 2 (no_labels_at l.next 2) ss h in
    let e = p.closing_at x.block.next 0 w i m in
    record { form = begin_end (put n (1 + 0)) x.form e.first e.second (Some e.end); good = x.good; tree = x.tree; block = follow (follow l x.block) e.block }
body_at c_syntax n w i m ss h =
    let l = line_of n 0 (open_curly (put n (1 + 0)) (in_line n 0)) (λ z. refl) in
    let x = c.sequence_at l.next 2 (no_labels_at l.next 2) ss h in
    let e = line_of x.block.next 0 (close_curly (put x.block.next (1 + 0)) (in_line x.block.next 0)) (λ z. refl) in
    record { form = braces (put n (1 + 0)) x.form (put x.block.next (1 + 0)) None; good = x.good; tree = x.tree; block = follow (follow l x.block) e }

-- ---- macros

pub record MacrosAt (s : Syntax) (n : ℕ) (ms : List tree.Macro) : Type 0 where
  pub forms : List Macro
  pub good : AllByRecursion (GoodMacro s) forms
  pub same : macros_placeless (map macro_tree forms) ≡ macros_placeless ms
  pub block : Block n (λ ls. printed.macros s ms ls) (each g.macro forms)

pub macros_at : (s : Syntax) (n : ℕ) (ms : List tree.Macro) → AllByRecursion IsMacro ms → MacrosAt s n ms
macros_at s n [] h = record { forms = []; good = tt; same = refl; block = no_lines n }
macros_at s n (m ∷ ms) h =
    let k = key_space (put n (1 + 0)) (in_line n 0) (codes "macro") refl (refl, refl) in
    let x = name_at k.end k.right m.name.word h.0.0 in
    let a = macro_parameters_at m.params h.0.1 x.end x.right in
    let l = line_of n 0 (join (join k x (λ z q. refl)) a.chunk (λ z q. refl)) (λ z. refl) in
    let b = body_at s l.next (codes "macro") refl (refl, refl) m.body h.0.2 in
    let more = macros_at s b.block.next ms h.1 in
    record {
      forms = record { place = put n (1 + 0); name = named k.end m.name; parameters = a.form; body = b.form } ∷ more.forms;
      good = (b.good, more.good);
      same = λ j. record { name = name_placeless m.name; params = a.same j; body = b.tree j } ∷ more.same j;
      block = follow (follow l b.block) more.block;
    }

-- ---- procedures

pub record ProceduresAt (s : Syntax) (n : ℕ) (xs : List tree.Procedure) : Type 0 where
  pub forms : List Procedure
  pub good : AllByRecursion (GoodProcedure s) forms
  pub same : procedures_placeless (map procedure_tree forms) ≡ procedures_placeless xs
  pub block : Block n (λ ls. printed.procedures s xs ls) (each g.procedure forms)

pub procedures_at : (s : Syntax) (n : ℕ) (xs : List tree.Procedure) → AllByRecursion IsProcedure xs → ProceduresAt s n xs
procedures_at s n [] h = record { forms = []; good = tt; same = refl; block = no_lines n }
procedures_at s n (x ∷ xs) h =
    let k = key_space (put n (1 + 0)) (in_line n 0) (codes "procedure") refl (refl, refl) in
    let y = name_at k.end k.right x.name.word h.0.0 in
    let a = procedure_parameters_at x.params h.0.1 y.end y.right in
    let l = line_of n 0 (join (join k y (λ z q. refl)) a.chunk (λ z q. refl)) (λ z. refl) in
    let v = section_at l.next false x.variables h.0.2 in
    let b = body_at s v.block.next (codes "procedure") refl (refl, refl) x.body h.0.3 in
    let more = procedures_at s b.block.next xs h.1 in
    record {
      forms = record { place = put n (1 + 0); name = named k.end x.name; parameters = a.form; variables = v.form; body = b.form } ∷ more.forms;
      good = ((a.good, v.good, b.good), more.good);
      same = λ j. record { name = name_placeless x.name; params = a.same j; variables = v.same j; body = b.tree j } ∷ more.same j;
      block = follow (follow (follow l v.block) b.block) more.block;
    }

-- ---- processes

record FairAt (f : Fairness) (at : Place) : Type 0 where
  form : Fair
  same : fairness_of form ≡ f
  chunk : Chunk any at (text_of_fairness f) (fair form)

fair_at : (f : Fairness) (at : Place) → Right 0 at → FairAt f at
fair_at fairness.Unfair at r = record { form = unfair; same = refl; chunk = nothing at r }
fair_at fairness.Weak at r = record { form = weak at; same = refl; chunk = key_space at r (codes "fair") refl (refl, refl) }
fair_at fairness.Strong at r =
    let k = key_at at r (codes "fair") refl (refl, refl) in
    record { form = strong at k.end; same = refl; chunk = join k (plus_space k.end k.right) (λ y q. refl) }

-- `P \in S`
record BareAt (x : Name) (b : Bool) (e : Tree) (at : Place) : Type 0 where
  sign : Place
  phrase : Phrase
  good : IsGood phrase
  tree : tree_placeless (tree_of phrase) ≡ tree_placeless e
  chunk : Chunk ends_word at (x.word ++ sign_text b ++ written e) (λ ts. grammar.name (named at x) (grammar.sign sign (bind_sign b) (expression phrase ts)))

bare_at : (x : Name) (b : Bool) (e : Tree) → IsName x → IsExpression e → (at : Place) → Right 0 at → BareAt x b e at
bare_at x true e h v at r =
    let n = name_at at r x.word h in
    let s = spaced_in n.end n.right in
    let a = expr_at e v s.chunk.end s.chunk.right in
    record { sign = s.place; phrase = a.phrase; good = a.good; tree = a.tree; chunk = join (join n s.chunk (λ y k. refl)) a.chunk (λ y k. refl) }
bare_at x false e h v at r =
    let n = name_at at r x.word h in
    let s = spaced_equal n.end n.right in
    let a = expr_at e v s.chunk.end s.chunk.right in
    record { sign = s.place; phrase = a.phrase; good = a.good; tree = a.tree; chunk = join (join n s.chunk (λ y k. refl)) a.chunk (λ y k. refl) }

record IdentityAt (s : Syntax) (x : Name) (b : Bool) (e : Tree) (at : Place) : Type 0 where
  form : Identity
  good : GoodIdentity s form
  name : name_placeless (process_name form) ≡ name_placeless x
  several : is_several form ≡ b
  tree : tree_placeless (tree_of (identifiers form)) ≡ tree_placeless e
  chunk : Chunk ends_word at (identity_text s (x.word ++ sign_text b ++ written e)) (identity form)

identity_at : (s : Syntax) (x : Name) (b : Bool) (e : Tree) → IsName x → IsExpression e → (at : Place) → Right 0 at → IdentityAt s x b e at
identity_at p_syntax x b e h v at r =
    let a = bare_at x b e h v at r in
    record { form = bare (named at x) b a.sign a.phrase; good = a.good; name = refl; several = refl; tree = a.tree; chunk = a.chunk }
identity_at c_syntax x b e h v at r =
    let o = open_round at r in
    let a = bare_at x b e h v o.end o.right in
    let d = close_round a.chunk.end a.chunk.right in
    record {
      form = bracketed at (named o.end x) b a.sign a.phrase a.chunk.end;
      good = a.good;
      name = refl;
      several = refl;
      tree = a.tree;
      chunk = narrowed ends_word (join (join o a.chunk (λ y k. ap starts (append_assoc (x.word ++ sign_text b) (written e) y ∙ append_assoc x.word (sign_text b) _) ∙ name_starts x.word _ h)) d (λ y k. refl));
    }

pub record ProcessAt (s : Syntax) (n : ℕ) (x : tree.Process) : Type 0 where
  pub form : Process
  pub good : GoodProcess s form
  pub same : processes_placeless (process_tree form ∷ []) ≡ processes_placeless (x ∷ [])
  pub block : Block n (λ ls. printed.process_lines s (x ∷ []) ls) (g.process form)

pub process_at : (s : Syntax) (n : ℕ) (x : tree.Process) → IsProcess x → ProcessAt s n x
process_at s n x h =
    let f = fair_at x.fairness (put n (1 + 0)) (in_line n 0) in
    let k = key_space f.chunk.end f.chunk.right (codes "process") refl (refl, refl) in
    let i = identity_at s x.name x.several x.identity h.0 h.1 k.end k.right in
    let l = line_of n 0 (join (join f.chunk k (λ z q. refl)) i.chunk (λ z q. refl)) (λ z. refl) in
    let v = section_at l.next true x.variables h.2 in
    let b = body_at s v.block.next (codes "process") refl (refl, refl) x.body h.3 in
    record {
      form = record { fair = f.form; place = f.chunk.end; identity = i.form; variables = v.form; body = b.form };
      good = (i.good, v.good, b.good);
      same = λ j. record { name = i.name j; fairness = f.same j; several = i.several j; identity = i.tree j; variables = v.same j; body = b.tree j } ∷ [];
      block = follow (follow l v.block) b.block;
    }

pub record ProcessesAt (s : Syntax) (n : ℕ) (xs : List tree.Process) : Type 0 where
  pub forms : List Process
  pub good : AllByRecursion (GoodProcess s) forms
  pub same : processes_placeless (map process_tree forms) ≡ processes_placeless xs
  pub block : Block n (λ ls. printed.process_lines s xs ls) (each g.process forms)

processes_at : (s : Syntax) (n : ℕ) (xs : List tree.Process) → AllByRecursion IsProcess xs → ProcessesAt s n xs
processes_at s n [] h = record { forms = []; good = tt; same = refl; block = no_lines n }
processes_at s n (x ∷ xs) h =
    let y = process_at s n x h.0 in
    let more = processes_at s y.block.next xs h.1 in
    record { forms = y.form ∷ more.forms; good = (y.good, more.good); same = λ j. y.same j ++ more.same j; block = follow y.block more.block }

-- ---- the one body, or processes

pub record MainAt (s : Syntax) (n : ℕ) (m : tree.Main) : Type 0 where
  pub form : Main
  pub good : GoodMain s form
  pub tree : main_placeless (main_tree form) ≡ main_placeless m
  pub block : Block n (λ ls. printed.main s m ls) (g.main form)

pub main_at : (s : Syntax) (n : ℕ) (m : tree.Main) → IsMain m → MainAt s n m
main_at p_syntax n (tree.alone ss) h =
    let l = line_of n 0 (key_at (put n (1 + 0)) (in_line n 0) (codes "begin") refl (refl, refl)) (λ z. refl) in
    let x = p.sequence_at l.next 2 (no_labels_at l.next 2) ss h in
    record { form = g.begin (put n (1 + 0)) x.form; good = x.good; tree = ap tree.alone x.tree; block = follow l x.block }
main_at c_syntax n (tree.alone ss) h =
    let l = line_of n 0 (open_curly (put n (1 + 0)) (in_line n 0)) (λ z. refl) in
    let x = c.sequence_at l.next 2 (no_labels_at l.next 2) ss h in
    let e = line_of x.block.next 0 (close_curly (put x.block.next (1 + 0)) (in_line x.block.next 0)) (λ z. refl) in
    record { form = g.block (put n (1 + 0)) x.form (put x.block.next (1 + 0)) None; good = x.good; tree = ap tree.alone x.tree; block = follow (follow l x.block) e }
main_at s n (tree.processes []) h = absurd h
main_at p_syntax n (tree.processes (x ∷ xs)) h =
    let y = process_at p_syntax n x h.0 in
    let more = processes_at p_syntax y.block.next xs h.1 in
    record { form = g.processes y.form more.forms; good = (y.good, more.good); tree = λ j. tree.processes (y.same j ++ more.same j); block = follow y.block more.block }
main_at c_syntax n (tree.processes (x ∷ xs)) h =
    let y = process_at c_syntax n x h.0 in
    let more = processes_at c_syntax y.block.next xs h.1 in
    record { form = g.processes y.form more.forms; good = (y.good, more.good); tree = λ j. tree.processes (y.same j ++ more.same j); block = follow y.block more.block }
