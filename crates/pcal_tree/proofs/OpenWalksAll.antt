-- The forms that are open at the tokens of statements, and so of all algorithms in both syntaxes.
use Rattle.std.proofs.Common.{◌≡◌, ℕ, ◌+◌, List, [], ◌∷◌, ◌++◌, codes, refl, sym, subst, append_assoc}
use Rattle.std.specs.List.{flat_map}
use Rattle.tla_tree.specs.Tree.{Word}
use Rattle.tla_tree.specs.Lexical.{Token}
use Rattle.tla_tree.specs.Lexical as tk
use Rattle.tla_tree.specs.FirstStop.{Open}
use Rattle.pcal_tree.specs.GrammarParts as part
use Rattle.pcal_tree.specs.GrammarP as psyntax
use Rattle.pcal_tree.specs.GrammarC as csyntax
use Rattle.pcal_tree.specs.Grammar as g
use Rattle.pcal_tree.specs.OpenForms.{here, plain, section_opens, binds_open, after_binds, p_statement, p_else, p_branches, p_sequence, c_statement, c_labelled, c_else, c_branches, c_sequence, body_opens, macro_opens, procedure_opens, process_opens, define_opens, main_opens, around_opens, opens}
use Rattle.pcal_tree.proofs.OpenWalks.{Where, plainly, anywhere, below, Walks, Closes, nothing, loosen, put, put_end, put_bracket, word_head, bracket_head}
use Rattle.pcal_tree.proofs.OpenWalksParts.{expression, semicolons, section, macro_parameters, procedure_parameters, define, labels, simple, binds, binds_first, identity}

-- ---- statements of the P-syntax

closes_then : Closes (codes "then")
closes_then = record { closes = refl; no_head = refl; no_end = refl }

closes_do : Closes (codes "do")
closes_do = record { closes = refl; no_head = refl; no_end = refl }

regroup : (n : ℕ) (qs ps os : List Open) → (qs ++ (here n ++ ps ++ here n ++ here n)) ++ os ≡ qs ++ (here n ++ (ps ++ (here n ++ (here n ++ os))))
regroup n qs ps os = simp append_assoc refl

mutual
  statement_p : (d : ℕ) (x : psyntax.Statement) {ts : List Token} {os : List Open} → Walks plainly ts os → Walks (below d) (psyntax.statement x ts) (p_statement d x ++ os)
  statement_p d (psyntax.simple s) h = simple d s h
  statement_p d (psyntax.branch p e q a b r s) h = simp append_assoc (word_head q e refl closes_then (sequence_p (d + 1) a (else_p (d + 1) b (put_end h))))
  statement_p d (psyntax.either p a bs r s) h = simp append_assoc (put refl refl (loosen (sequence_p (d + 1) a (branches_p (d + 1) bs (put_end h)))))
  statement_p d (psyntax.with p bs q a r s) {ts} {os} h =
      let n = after_binds d bs in
      subst (λ (qs : List Open). Walks (below d) (psyntax.statement (psyntax.with p bs q a r s) ts) (record { expressions = 0; statements = d } ∷ qs)) (sym (regroup n (binds_open d bs) (p_sequence n a) os)) (put refl refl (binds d bs (put refl refl (loosen (sequence_p n a (put_end h))))))
  statement_p d (psyntax.while p e q a r s) h = simp append_assoc (word_head q e refl closes_do (sequence_p (d + 1) a (put_end h)))

  else_p : (d : ℕ) (x : psyntax.Else) {ts : List Token} {os : List Open} → Walks plainly ts os → Walks plainly (psyntax.else_tokens x ts) (p_else d x ++ os)
  else_p d psyntax.no_else h = h
  else_p d (psyntax.else_then p a) h = put refl refl (loosen (sequence_p d a h))
  else_p d (psyntax.else_if p e q a b) h = simp append_assoc (put refl refl (expression (d + 1) e (put refl refl (loosen (sequence_p (d + 1) a (else_p (d + 1) b h))))))

  branches_p : (d : ℕ) (x : psyntax.Branches) {ts : List Token} {os : List Open} → Walks plainly ts os → Walks plainly (psyntax.branches x ts) (p_branches d x ++ os)
  branches_p d (psyntax.last_branch p a) h = put refl refl (loosen (sequence_p d a h))
  branches_p d (psyntax.more_branches p a bs) h = simp append_assoc (put refl refl (loosen (sequence_p d a (branches_p d bs h))))

  sequence_p : (d : ℕ) (x : psyntax.Sequence) {ts : List Token} {os : List Open} → Walks plainly ts os → Walks (below d) (psyntax.sequence x ts) (p_sequence d x ++ os)
  sequence_p d (psyntax.last_statement ls st s) h = simp append_assoc (labels d ls (statement_p d st (semicolons d s h)))
  sequence_p d (psyntax.more_statements ls st s ss) h = simp append_assoc (labels d ls (statement_p d st (put refl refl (loosen (sequence_p d ss h)))))

-- ---- statements of the C-syntax

mutual
  statement_c : (d : ℕ) (x : csyntax.Statement) {ts : List Token} {os : List Open} → Walks plainly ts os → Walks (below d) (csyntax.statement x ts) (c_statement d x ++ os)
  statement_c d (csyntax.simple s) h = simple d s h
  statement_c d (csyntax.branch p q e r a b) h = simp append_assoc (bracket_head r e refl (labelled_c (d + 1) a (else_c (d + 1) b h)))
  statement_c d (csyntax.either p a bs) h = simp append_assoc (put refl refl (loosen (labelled_c (d + 1) a (branches_c (d + 1) bs h))))
  statement_c d (csyntax.with p q bs r a) {ts} h =
      simp append_assoc (put refl refl (put_bracket (binds_first bs (part.mark r tk.close_bracket (csyntax.labelled_tokens a ts))) (binds d bs (put refl refl (loosen (labelled_c (after_binds d bs) a h))))))
  statement_c d (csyntax.while p q e r a) h = simp append_assoc (bracket_head r e refl (labelled_c (d + 1) a h))
  statement_c d (csyntax.compound p ss q) h = simp append_assoc (put refl refl (loosen (sequence_c (d + 1) ss (put refl refl h))))

  labelled_c : (d : ℕ) (x : csyntax.Labelled) {ts : List Token} {os : List Open} → Walks plainly ts os → Walks (below d) (csyntax.labelled_tokens x ts) (c_labelled d x ++ os)
  labelled_c d (csyntax.labelled ls st) h = simp append_assoc (labels d ls (statement_c d st h))

  else_c : (d : ℕ) (x : csyntax.Else) {ts : List Token} {os : List Open} → Walks plainly ts os → Walks plainly (csyntax.else_tokens x ts) (c_else d x ++ os)
  else_c d csyntax.no_else h = h
  else_c d (csyntax.else_then s p a) h = simp append_assoc (semicolons d s (put refl refl (loosen (labelled_c d a h))))

  branches_c : (d : ℕ) (x : csyntax.Branches) {ts : List Token} {os : List Open} → Walks plainly ts os → Walks plainly (csyntax.branches x ts) (c_branches d x ++ os)
  branches_c d (csyntax.last_branch s p a) h = simp append_assoc (semicolons d s (put refl refl (loosen (labelled_c d a h))))
  branches_c d (csyntax.more_branches s p a bs) h = simp append_assoc (semicolons d s (put refl refl (loosen (labelled_c d a (branches_c d bs h)))))

  sequence_c : (d : ℕ) (x : csyntax.Sequence) {ts : List Token} {os : List Open} → Walks plainly ts os → Walks (below d) (csyntax.sequence x ts) (c_sequence d x ++ os)
  sequence_c d (csyntax.last_statement a s) h = simp append_assoc (labelled_c d a (semicolons d s h))
  sequence_c d (csyntax.more_statements a s ss) h = simp append_assoc (labelled_c d a (semicolons d s (loosen (sequence_c d ss h))))

-- ---- macros, procedures, processes

body : {w : Where} {ts : List Token} {os : List Open} → (v : Word) (x : g.Body) → Walks plainly ts os → Walks w (g.body v x ts) (body_opens x ++ os)
body v (g.begin_end a ss b d s) h = simp append_assoc (put refl refl (loosen (sequence_p 0 ss (put_end (semicolons 0 s h)))))
body v (g.braces a ss b s) h = simp append_assoc (put refl refl (loosen (sequence_c 0 ss (put refl refl (semicolons 0 s h)))))

macro : {w : Where} {ts : List Token} {os : List Open} → (x : g.Macro) → Walks plainly ts os → Walks w (g.macro x ts) (macro_opens x ++ os)
macro x h = simp append_assoc (put refl refl (put refl refl (macro_parameters x.parameters (body (codes "macro") x.body h))))

procedure : {w : Where} {ts : List Token} {os : List Open} → (x : g.Procedure) → Walks plainly ts os → Walks w (g.procedure x ts) (procedure_opens x ++ os)
procedure x h = simp append_assoc (put refl refl (put refl refl (procedure_parameters x.parameters (loosen (section x.variables (body (codes "procedure") x.body h))))))

fair : {w : Where} {ts : List Token} {os : List Open} → (x : g.Fair) → Walks w ts os → Walks w (g.fair x ts) (plain 0 (g.fair x) ++ os)
fair g.unfair h = h
fair (g.weak a) h = put refl refl (loosen h)
fair (g.strong a b) h = put refl refl (put refl refl (loosen h))

process : {w : Where} {ts : List Token} {os : List Open} → (x : g.Process) → Walks plainly ts os → Walks w (g.process x ts) (process_opens x ++ os)
process x h = simp append_assoc (fair x.fair (put refl refl (identity x.identity (loosen (section x.variables (body (codes "process") x.body h))))))

each : {A : Type 0} {w : Where} {ts : List Token} {os : List Open} → (f : A → List Token → List Token) (o : A → List Open) → ((x : A) (us : List Token) (qs : List Open) → Walks plainly us qs → Walks w (f x us) (o x ++ qs)) → (xs : List A)
    → Walks w ts os → Walks w (g.each f xs ts) (flat_map o xs ++ os)
each f o k [] h = h
each {ts} {os} f o k (x ∷ xs) h = simp append_assoc (k x (g.each f xs ts) (flat_map o xs ++ os) (loosen (each f o k xs h)))

joined : {w : Where} {ts : List Token} → (ps qs os : List Open) → Walks w ts (ps ++ (qs ++ os)) → Walks w ts (ps ++ qs ++ os)
joined {w} {ts} ps qs os h = subst (λ (us : List Open). Walks w ts us) (sym (append_assoc ps qs os)) h

main : (x : g.Main) {ts : List Token} {os : List Open} → Walks plainly ts os → Walks anywhere (g.main x ts) (main_opens x ++ os)
main (g.begin a ss) h = put refl refl (loosen (sequence_p 0 ss h))
main (g.block a ss b s) h = simp append_assoc (put refl refl (loosen (sequence_c 0 ss (put refl refl (semicolons 0 s h)))))
main (g.processes x xs) {ts} {os} h = joined (process_opens x) (flat_map process_opens xs) os (process x (each g.process process_opens (λ y us qs k. process y k) xs h))

-- ---- algorithms

abbrev inside_tokens : g.Text → List Token → List Token
inside_tokens x ts = part.section_tokens x.variables (g.define x.define (g.each g.macro x.macros (g.each g.procedure x.procedures (g.main x.main ts))))

abbrev inside_opens : g.Text → List Open
inside_opens x = section_opens x.variables ++ define_opens x.define ++ flat_map macro_opens x.macros ++ flat_map procedure_opens x.procedures ++ main_opens x.main

inside : {ts : List Token} {os : List Open} → (x : g.Text) → Walks plainly ts os → Walks anywhere (inside_tokens x ts) (inside_opens x ++ os)
inside x h =
    let ms = main x.main h in
    let ps = each g.procedure procedure_opens (λ y us qs k. procedure y k) x.procedures ms in
    let ds = each g.macro macro_opens (λ y us qs k. macro y k) x.macros ps in
    simp append_assoc (section x.variables (define x.define ds))

around : (r : g.Around) (f : List Token → List Token) (qs : List Open) → ((ts : List Token) (os : List Open) → Walks plainly ts os → Walks anywhere (f ts) (qs ++ os)) → Walks plainly (g.around r f []) (around_opens r qs)
around (g.to_end a b) f qs k = simp append_assoc (loosen (k (part.key a (codes "end") (part.key b (codes "algorithm") [])) (here 0 ++ here 0) (put_end nothing)))
around (g.in_braces a b) f qs k = put refl refl (loosen (k (part.mark b tk.close_brace []) (here 0) (put refl refl nothing)))

heads : {ts : List Token} {os : List Open} → (x : g.Head) → Walks plainly ts os → Walks plainly (g.head x ts) (plain 0 (g.head x) ++ os)
heads (g.algorithm a) h = put refl refl h
heads (g.fair_algorithm a b) h = put refl refl (put refl refl h)

-- in the tokens of an algorithm, as it is spelled
pub walks : (x : g.Text) → Walks plainly (g.spell x []) (opens x)
walks x = joined (plain 0 (g.head x.head)) (here 0) (around_opens x.around (inside_opens x)) (heads x.head (put refl refl (around x.around (inside_tokens x) (inside_opens x) (λ ts os h. inside x h))))
