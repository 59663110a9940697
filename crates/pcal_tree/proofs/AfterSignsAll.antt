-- After the sign of an operator, and after `:=`, no algorithm has a semicolon.
use Rattle.std.proofs.Common.{◌≡◌, true, false, List, [], ◌∷◌, ◌++◌, Some, map, codes, refl, sym, ap, ◌∙◌}
use Rattle.tla_tree.specs.declared.op.Op.TheVariants as op
use Rattle.tla_tree.specs.Tree.{Word}
use Rattle.tla_tree.specs.Lexical.{Token, sign_of}
use Rattle.tla_tree.specs.Lexical as tk
use Rattle.tla_tree.specs.FirstStop.{looks, Begins}
use Rattle.pcal_tree.specs.GrammarParts as part
use Rattle.pcal_tree.specs.GrammarP as psyntax
use Rattle.pcal_tree.specs.GrammarC as csyntax
use Rattle.pcal_tree.specs.Grammar as g
use Rattle.pcal_tree.specs.OffencesSyntax.{algorithms}
use Rattle.pcal_tree.proofs.LinesGood.{begun}
use Rattle.pcal_tree.proofs.PartTokens.{assignments_begin, keep_binds, keep_define, keep_identity, keep_macro_parameters, keep_maybe_semicolon, keep_procedure_parameters, keep_section_tokens, keep_simple_tokens}
use Rattle.pcal_tree.proofs.AfterSigns.{first_ends, sound, Sound, after, begins_on, kept, keeps_one}

keeps_colon_tokens : (x : part.Colon) (ts : List Token) → first_ends ts ≡ false → Sound ts → Sound (part.colon_tokens x ts)
keeps_colon_tokens (part.colon p) ts f so = so
keeps_colon_tokens (part.colon_plus p q) ts f so = after (sign_of op.Plus) q ts f so
keeps_colon_tokens (part.colon_minus p q) ts f so = after (sign_of op.Minus) q ts f so

starts_labels : (x : part.Labels) (ts : List Token) → first_ends ts ≡ false → first_ends (part.labels x ts) ≡ false
starts_labels part.no_labels ts f = f
starts_labels (part.label x c ls) ts f = refl

keeps_labels : (x : part.Labels) (ts : List Token) → first_ends ts ≡ false → Sound ts → Sound (part.labels x ts)
keeps_labels part.no_labels ts f so = so
keeps_labels (part.label x c ls) ts f so = keeps_colon_tokens c (part.labels ls ts) (starts_labels ls ts f) (keeps_labels ls ts f so)

starts_simple_tokens : (x : part.Simple) (ts : List Token) → first_ends (part.simple_tokens x ts) ≡ false
starts_simple_tokens (part.assign ms) ts = begins_on (part.assignments ms ts) (assignments_begin ms ts)
starts_simple_tokens (part.await p e) ts = refl
starts_simple_tokens (part.when p e) ts = refl
starts_simple_tokens (part.print p e) ts = refl
starts_simple_tokens (part.assert p e) ts = refl
starts_simple_tokens (part.skip p) ts = refl
starts_simple_tokens (part.goto p x) ts = refl
starts_simple_tokens (part.call p x xs) ts = refl
starts_simple_tokens (part.return p) ts = refl
starts_simple_tokens (part.macro x xs) ts = refl

mutual
  starts_p_statement : (x : psyntax.Statement) (ts : List Token) → first_ends (psyntax.statement x ts) ≡ false
  starts_p_statement (psyntax.simple s) ts = starts_simple_tokens s ts
  starts_p_statement (psyntax.branch p e q a b r s) ts = refl
  starts_p_statement (psyntax.either p a bs r s) ts = refl
  starts_p_statement (psyntax.with p bs q a r s) ts = refl
  starts_p_statement (psyntax.while p e q a r s) ts = refl

mutual
  keeps_p_statement : (x : psyntax.Statement) (ts : List Token) → Sound ts → Sound (psyntax.statement x ts)
  keeps_p_statement (psyntax.simple s) ts so = (keep_simple_tokens kept s).keeps ts so
  keeps_p_statement (psyntax.branch p e q a b r s) ts so = keeps_one e (part.key q (codes "then") (psyntax.sequence a (psyntax.else_tokens b (part.key r (codes "end") (part.key s (codes "if") ts))))) (keeps_p_sequence a (psyntax.else_tokens b (part.key r (codes "end") (part.key s (codes "if") ts))) (keeps_p_else_tokens b (part.key r (codes "end") (part.key s (codes "if") ts)) so))
  keeps_p_statement (psyntax.either p a bs r s) ts so = keeps_p_sequence a (psyntax.branches bs (part.key r (codes "end") (part.key s (codes "either") ts))) (keeps_p_branches bs (part.key r (codes "end") (part.key s (codes "either") ts)) so)
  keeps_p_statement (psyntax.with p bs q a r s) ts so = (keep_binds kept bs).keeps (part.key q (codes "do") (psyntax.sequence a (part.key r (codes "end") (part.key s (codes "with") ts)))) (keeps_p_sequence a (part.key r (codes "end") (part.key s (codes "with") ts)) so)
  keeps_p_statement (psyntax.while p e q a r s) ts so = keeps_one e (part.key q (codes "do") (psyntax.sequence a (part.key r (codes "end") (part.key s (codes "while") ts)))) (keeps_p_sequence a (part.key r (codes "end") (part.key s (codes "while") ts)) so)

  keeps_p_else_tokens : (x : psyntax.Else) (ts : List Token) → Sound ts → Sound (psyntax.else_tokens x ts)
  keeps_p_else_tokens psyntax.no_else ts so = so
  keeps_p_else_tokens (psyntax.else_then p a) ts so = keeps_p_sequence a ts so
  keeps_p_else_tokens (psyntax.else_if p e q a b) ts so = keeps_one e (part.key q (codes "then") (psyntax.sequence a (psyntax.else_tokens b ts))) (keeps_p_sequence a (psyntax.else_tokens b ts) (keeps_p_else_tokens b ts so))

  keeps_p_branches : (x : psyntax.Branches) (ts : List Token) → Sound ts → Sound (psyntax.branches x ts)
  keeps_p_branches (psyntax.last_branch p a) ts so = keeps_p_sequence a ts so
  keeps_p_branches (psyntax.more_branches p a bs) ts so = keeps_p_sequence a (psyntax.branches bs ts) (keeps_p_branches bs ts so)

  keeps_p_sequence : (x : psyntax.Sequence) (ts : List Token) → Sound ts → Sound (psyntax.sequence x ts)
  keeps_p_sequence (psyntax.last_statement ls st p) ts so = keeps_labels ls (psyntax.statement st (part.maybe_semicolon p ts)) (starts_p_statement st (part.maybe_semicolon p ts)) (keeps_p_statement st (part.maybe_semicolon p ts) ((keep_maybe_semicolon kept p).keeps ts so))
  keeps_p_sequence (psyntax.more_statements ls st p ss) ts so = keeps_labels ls (psyntax.statement st (part.semicolon p (psyntax.sequence ss ts))) (starts_p_statement st (part.semicolon p (psyntax.sequence ss ts))) (keeps_p_statement st (part.semicolon p (psyntax.sequence ss ts)) (keeps_p_sequence ss ts so))

mutual
  starts_c_statement : (x : csyntax.Statement) (ts : List Token) → first_ends (csyntax.statement x ts) ≡ false
  starts_c_statement (csyntax.simple s) ts = starts_simple_tokens s ts
  starts_c_statement (csyntax.branch p q e r a b) ts = refl
  starts_c_statement (csyntax.either p a bs) ts = refl
  starts_c_statement (csyntax.with p q bs r a) ts = refl
  starts_c_statement (csyntax.while p q e r a) ts = refl
  starts_c_statement (csyntax.compound p ss q) ts = refl

mutual
  keeps_c_statement : (x : csyntax.Statement) (ts : List Token) → Sound ts → Sound (csyntax.statement x ts)
  keeps_c_statement (csyntax.simple s) ts so = (keep_simple_tokens kept s).keeps ts so
  keeps_c_statement (csyntax.branch p q e r a b) ts so = keeps_one e (part.mark r tk.close_bracket (csyntax.labelled_tokens a (csyntax.else_tokens b ts))) (keeps_c_labelled_tokens a (csyntax.else_tokens b ts) (keeps_c_else_tokens b ts so))
  keeps_c_statement (csyntax.either p a bs) ts so = keeps_c_labelled_tokens a (csyntax.branches bs ts) (keeps_c_branches bs ts so)
  keeps_c_statement (csyntax.with p q bs r a) ts so = (keep_binds kept bs).keeps (part.mark r tk.close_bracket (csyntax.labelled_tokens a ts)) (keeps_c_labelled_tokens a ts so)
  keeps_c_statement (csyntax.while p q e r a) ts so = keeps_one e (part.mark r tk.close_bracket (csyntax.labelled_tokens a ts)) (keeps_c_labelled_tokens a ts so)
  keeps_c_statement (csyntax.compound p ss q) ts so = keeps_c_sequence ss (part.mark q tk.close_brace ts) so

  keeps_c_labelled_tokens : (x : csyntax.Labelled) (ts : List Token) → Sound ts → Sound (csyntax.labelled_tokens x ts)
  keeps_c_labelled_tokens (csyntax.labelled ls st) ts so = keeps_labels ls (csyntax.statement st ts) (starts_c_statement st ts) (keeps_c_statement st ts so)

  keeps_c_else_tokens : (x : csyntax.Else) (ts : List Token) → Sound ts → Sound (csyntax.else_tokens x ts)
  keeps_c_else_tokens csyntax.no_else ts so = so
  keeps_c_else_tokens (csyntax.else_then s p a) ts so = (keep_maybe_semicolon kept s).keeps (part.key p (codes "else") (csyntax.labelled_tokens a ts)) (keeps_c_labelled_tokens a ts so)

  keeps_c_branches : (x : csyntax.Branches) (ts : List Token) → Sound ts → Sound (csyntax.branches x ts)
  keeps_c_branches (csyntax.last_branch s p a) ts so = (keep_maybe_semicolon kept s).keeps (part.key p (codes "or") (csyntax.labelled_tokens a ts)) (keeps_c_labelled_tokens a ts so)
  keeps_c_branches (csyntax.more_branches s p a bs) ts so = (keep_maybe_semicolon kept s).keeps (part.key p (codes "or") (csyntax.labelled_tokens a (csyntax.branches bs ts))) (keeps_c_labelled_tokens a (csyntax.branches bs ts) (keeps_c_branches bs ts so))

  keeps_c_sequence : (x : csyntax.Sequence) (ts : List Token) → Sound ts → Sound (csyntax.sequence x ts)
  keeps_c_sequence (csyntax.last_statement a s) ts so = keeps_c_labelled_tokens a (part.maybe_semicolon s ts) ((keep_maybe_semicolon kept s).keeps ts so)
  keeps_c_sequence (csyntax.more_statements a s ss) ts so = keeps_c_labelled_tokens a (part.maybe_semicolon s (csyntax.sequence ss ts)) ((keep_maybe_semicolon kept s).keeps (csyntax.sequence ss ts) (keeps_c_sequence ss ts so))

keeps_body : (w : Word) (x : g.Body) (ts : List Token) → Sound ts → Sound (g.body w x ts)
keeps_body w (g.begin_end a ss b d s) ts so = keeps_p_sequence ss (part.key b (codes "end") (part.key d w (part.maybe_semicolon s ts))) ((keep_maybe_semicolon kept s).keeps ts so)
keeps_body w (g.braces a ss b s) ts so = keeps_c_sequence ss (part.mark b tk.close_brace (part.maybe_semicolon s ts)) ((keep_maybe_semicolon kept s).keeps ts so)

keeps_fair : (x : g.Fair) (ts : List Token) → first_ends ts ≡ false → Sound ts → Sound (g.fair x ts)
keeps_fair g.unfair ts f so = so
keeps_fair (g.weak a) ts f so = so
keeps_fair (g.strong a b) ts f so = after (sign_of op.Plus) b ts f so

keeps_macro : (m : g.Macro) (ts : List Token) → Sound ts → Sound (g.macro m ts)
keeps_macro m ts so = (keep_macro_parameters kept m.parameters).keeps (g.body (codes "macro") m.body ts) (keeps_body (codes "macro") m.body ts so)

keeps_procedure : (x : g.Procedure) (ts : List Token) → Sound ts → Sound (g.procedure x ts)
keeps_procedure x ts so =
    (keep_procedure_parameters kept x.parameters).keeps (part.section_tokens x.variables (g.body (codes "procedure") x.body ts))
    ((keep_section_tokens kept x.variables).keeps (g.body (codes "procedure") x.body ts) (keeps_body (codes "procedure") x.body ts so))

keeps_process : (x : g.Process) (ts : List Token) → Sound ts → Sound (g.process x ts)
keeps_process x ts so =
    keeps_fair x.fair (part.key x.place (codes "process") (g.identity x.identity (part.section_tokens x.variables (g.body (codes "process") x.body ts)))) refl
    ((keep_identity kept x.identity).keeps (part.section_tokens x.variables (g.body (codes "process") x.body ts))
    ((keep_section_tokens kept x.variables).keeps (g.body (codes "process") x.body ts) (keeps_body (codes "process") x.body ts so)))

keeps_each : {A : Type 0} (f : A → List Token → List Token) → ((x : A) (ts : List Token) → Sound ts → Sound (f x ts)) → (xs : List A) (ts : List Token) → Sound ts → Sound (g.each f xs ts)
keeps_each f h [] ts so = so
keeps_each f h (x ∷ xs) ts so = h x (g.each f xs ts) (keeps_each f h xs ts so)

keeps_main : (m : g.Main) (ts : List Token) → Sound ts → Sound (g.main m ts)
keeps_main (g.begin a ss) ts so = keeps_p_sequence ss ts so
keeps_main (g.block a ss b s) ts so = keeps_c_sequence ss (part.mark b tk.close_brace (part.maybe_semicolon s ts)) ((keep_maybe_semicolon kept s).keeps ts so)
keeps_main (g.processes x xs) ts so = keeps_process x (g.each g.process xs ts) (keeps_each g.process keeps_process xs ts so)

keeps_inside : (x : g.Text) (ts : List Token) → Sound ts → Sound (part.section_tokens x.variables (g.define x.define (g.each g.macro x.macros (g.each g.procedure x.procedures (g.main x.main ts)))))
keeps_inside x ts so =
    (keep_section_tokens kept x.variables).keeps (g.define x.define (g.each g.macro x.macros (g.each g.procedure x.procedures (g.main x.main ts))))
    ((keep_define kept x.define).keeps (g.each g.macro x.macros (g.each g.procedure x.procedures (g.main x.main ts)))
    (keeps_each g.macro keeps_macro x.macros (g.each g.procedure x.procedures (g.main x.main ts))
    (keeps_each g.procedure keeps_procedure x.procedures (g.main x.main ts) (keeps_main x.main ts so))))

keeps_around : (r : g.Around) (f : List Token → List Token) → ((ts : List Token) → Sound ts → Sound (f ts)) → Sound (g.around r f [])
keeps_around (g.to_end a b) f h = h (part.key a (codes "end") (part.key b (codes "algorithm") [])) refl
keeps_around (g.in_braces a b) f h = h (part.mark b tk.close_brace []) refl

keeps_head : (k : g.Head) (ts : List Token) → Sound ts → Sound (g.head k ts)
keeps_head (g.algorithm a) ts so = so
keeps_head (g.fair_algorithm a b) ts so = so

pub all_sound : (x : g.Text) → Sound (g.spell x [])
all_sound x =
    let tokens : List Token → List Token = λ us. part.section_tokens x.variables (g.define x.define (g.each g.macro x.macros (g.each g.procedure x.procedures (g.main x.main us)))) in
    keeps_head x.head (part.name x.name (g.around x.around tokens [])) (keeps_around x.around tokens (keeps_inside x))

-- what no algorithm begins with
pub begins_none : (s : g.Syntax) (ts : List Token) → ((more : List Token) → sound (ts ++ more) ≡ false) → Begins (algorithms s) (map Some (looks ts)) → ⊥
begins_none s ts h b =
    let x = begun s ts b in
    let so : true ≡ false = sym (all_sound x.0) ∙ ap sound x.3 ∙ h x.1 in
    absurd cc
