-- Behind the colon of a label, `await` and `if` have an expression, and after it comes a token that ends it: in algorithms in P-syntax.
use Rattle.std.proofs.Common.{◌≡◌, ℕ, zero, suc, ◌+◌, ◌≤◌, Bool, true, false, List, [], ◌∷◌, ◌++◌, Option, Some, None, Ok, Err, map, codes, nat_lt, refl, sym, ap, ◌∙◌, subst, arith}
use Rattle.std.specs.List.{AllByRecursion}
use Rattle.tla_token.specs.declared.place.Place.{Place}
use Rattle.tla_tree.specs.Tree.{Word}
use Rattle.tla_tree.specs.Lexical.{TokenView, Token}
use Rattle.tla_tree.specs.Lexical as tk
use Rattle.tla_tree.specs.Spelling.{Phrase}
use Rattle.tla_tree.specs.Reader.{Out, readers, free}
use Rattle.tla_tree.specs.FirstStop.{looks, Begins}
use Rattle.tla_tree.specs.laws.Following.{is_calm, Calm}
use Rattle.tla_tree.proofs.Steps.{steps}
use Rattle.tla_tree.proofs.ReadPhrases.{closed}
use Rattle.tla_tree.proofs.ReadAll.{reads}
use Rattle.tla_tree.proofs.StopLaws.{steps_and}
use Rattle.pcal_tree.specs.GrammarParts as part
use Rattle.pcal_tree.specs.GrammarP as psyntax
use Rattle.pcal_tree.specs.Grammar.{p_syntax}
use Rattle.pcal_tree.specs.Grammar as g
use Rattle.pcal_tree.specs.OffencesSyntax.{algorithms}
use Rattle.pcal_tree.proofs.LinesGood.{begun}
use Rattle.pcal_tree.proofs.PartTokens.{assignments_begin, keep_binds, keep_define, keep_identity, keep_macro_parameters, keep_maybe_semicolon, keep_procedure_parameters, keep_section_tokens, keep_simple_tokens}
use Rattle.pcal_tree.proofs.AfterColons.{is_stop, stops, Expression, AfterColon, Sound, other_first, kept, keeps_one}

keeps_colon_tokens : (x : part.Colon) (ts : List Token) → AfterColon ts → Sound ts → Sound (part.colon_tokens x ts)
keeps_colon_tokens (part.colon p) ts f so = (f, so)
keeps_colon_tokens (part.colon_plus p q) ts f so = (tt, so)
keeps_colon_tokens (part.colon_minus p q) ts f so = (tt, so)

starts_labels : (x : part.Labels) (ts : List Token) → AfterColon ts → AfterColon (part.labels x ts)
starts_labels part.no_labels ts f = f
starts_labels (part.label x c ls) ts f = tt

keeps_labels : (x : part.Labels) (ts : List Token) → AfterColon ts → Sound ts → Sound (part.labels x ts)
keeps_labels part.no_labels ts f so = so
keeps_labels (part.label x c ls) ts f so = keeps_colon_tokens c (part.labels ls ts) (starts_labels ls ts f) (keeps_labels ls ts f so)

-- ---- statements

starts_simple : (x : part.Simple) (ts : List Token) → part.GoodSimple x → stops ts ≡ true → AfterColon (part.simple_tokens x ts)
starts_simple (part.assign ms) ts k s = other_first (part.assignments ms ts) (assignments_begin ms ts)
starts_simple (part.await p e) ts k s = (e, ts, k, s, refl)
starts_simple (part.when p e) ts k s = tt
starts_simple (part.print p e) ts k s = tt
starts_simple (part.assert p e) ts k s = tt
starts_simple (part.skip p) ts k s = tt
starts_simple (part.goto p x) ts k s = tt
starts_simple (part.call p x xs) ts k s = tt
starts_simple (part.return p) ts k s = tt
starts_simple (part.macro x xs) ts k s = tt

starts_statement : (x : psyntax.Statement) (ts : List Token) → psyntax.GoodStatement x → stops ts ≡ true → AfterColon (psyntax.statement x ts)
starts_statement (psyntax.simple x) ts k s = starts_simple x ts k s
starts_statement (psyntax.branch p e q a b r t) ts k s = (e, part.key q (codes "then") (psyntax.sequence a (psyntax.else_tokens b (part.key r (codes "end") (part.key t (codes "if") ts)))), k.0, refl, refl)
starts_statement (psyntax.either p a bs r t) ts k s = tt
starts_statement (psyntax.with p bs q a r t) ts k s = tt
starts_statement (psyntax.while p e q a r t) ts k s = tt

stops_maybe_semicolon : (x : Option Place) (ts : List Token) → stops ts ≡ true → stops (part.maybe_semicolon x ts) ≡ true
stops_maybe_semicolon None ts s = s
stops_maybe_semicolon (Some p) ts s = refl

stops_else : (x : psyntax.Else) (ts : List Token) → stops ts ≡ true → stops (psyntax.else_tokens x ts) ≡ true
stops_else psyntax.no_else ts s = s
stops_else (psyntax.else_then p a) ts s = refl
stops_else (psyntax.else_if p e q a b) ts s = refl

stops_branches : (x : psyntax.Branches) (ts : List Token) → stops (psyntax.branches x ts) ≡ true
stops_branches (psyntax.last_branch p a) ts = refl
stops_branches (psyntax.more_branches p a bs) ts = refl

mutual
  keeps_statement : (x : psyntax.Statement) (ts : List Token) → psyntax.GoodStatement x → Sound ts → Sound (psyntax.statement x ts)
  keeps_statement (psyntax.simple x) ts k so = (keep_simple_tokens kept x).keeps ts so
  keeps_statement (psyntax.branch p e q a b r t) ts k so =
      let end : List Token = part.key r (codes "end") (part.key t (codes "if") ts) in
      keeps_one e (part.key q (codes "then") (psyntax.sequence a (psyntax.else_tokens b end))) (keeps_sequence a (psyntax.else_tokens b end) k.1 (stops_else b end refl) (keeps_else b end k.2 refl so))
  keeps_statement (psyntax.either p a bs r t) ts k so =
      let end : List Token = part.key r (codes "end") (part.key t (codes "either") ts) in
      keeps_sequence a (psyntax.branches bs end) k.0 (stops_branches bs end) (keeps_branches bs end k.1 refl so)
  keeps_statement (psyntax.with p bs q a r t) ts k so =
      let end : List Token = part.key r (codes "end") (part.key t (codes "with") ts) in
      (keep_binds kept bs).keeps (part.key q (codes "do") (psyntax.sequence a end)) (keeps_sequence a end k.1 refl so)
  keeps_statement (psyntax.while p e q a r t) ts k so =
      let end : List Token = part.key r (codes "end") (part.key t (codes "while") ts) in
      keeps_one e (part.key q (codes "do") (psyntax.sequence a end)) (keeps_sequence a end k.1 refl so)

  keeps_else : (x : psyntax.Else) (ts : List Token) → psyntax.GoodElse x → stops ts ≡ true → Sound ts → Sound (psyntax.else_tokens x ts)
  keeps_else psyntax.no_else ts k s so = so
  keeps_else (psyntax.else_then p a) ts k s so = keeps_sequence a ts k s so
  keeps_else (psyntax.else_if p e q a b) ts k s so =
      keeps_one e (part.key q (codes "then") (psyntax.sequence a (psyntax.else_tokens b ts))) (keeps_sequence a (psyntax.else_tokens b ts) k.1 (stops_else b ts s) (keeps_else b ts k.2 s so))

  keeps_branches : (x : psyntax.Branches) (ts : List Token) → psyntax.GoodBranches x → stops ts ≡ true → Sound ts → Sound (psyntax.branches x ts)
  keeps_branches (psyntax.last_branch p a) ts k s so = keeps_sequence a ts k s so
  keeps_branches (psyntax.more_branches p a bs) ts k s so = keeps_sequence a (psyntax.branches bs ts) k.0 (stops_branches bs ts) (keeps_branches bs ts k.1 s so)

  keeps_sequence : (x : psyntax.Sequence) (ts : List Token) → psyntax.GoodSequence x → stops ts ≡ true → Sound ts → Sound (psyntax.sequence x ts)
  keeps_sequence (psyntax.last_statement ls st p) ts k s so =
      let end : List Token = part.maybe_semicolon p ts in
      keeps_labels ls (psyntax.statement st end) (starts_statement st end k (stops_maybe_semicolon p ts s)) (keeps_statement st end k ((keep_maybe_semicolon kept p).keeps ts so))
  keeps_sequence (psyntax.more_statements ls st p ss) ts k s so =
      let end : List Token = part.semicolon p (psyntax.sequence ss ts) in
      keeps_labels ls (psyntax.statement st end) (starts_statement st end k.0 refl) (keeps_statement st end k.0 (keeps_sequence ss ts k.1 s so))

-- ---- algorithms

keeps_body : (w : Word) (x : g.Body) (ts : List Token) → g.GoodBody p_syntax x → Sound ts → Sound (g.body w x ts)
keeps_body w (g.begin_end a ss b d s) ts k so = keeps_sequence ss (part.key b (codes "end") (part.key d w (part.maybe_semicolon s ts))) k refl ((keep_maybe_semicolon kept s).keeps ts so)
keeps_body w (g.braces a ss b s) ts k so = absurd k

keeps_fair : (x : g.Fair) (ts : List Token) → Sound ts → Sound (g.fair x ts)
keeps_fair g.unfair ts so = so
keeps_fair (g.weak a) ts so = so
keeps_fair (g.strong a b) ts so = so

keeps_macro : (m : g.Macro) (ts : List Token) → g.GoodMacro p_syntax m → Sound ts → Sound (g.macro m ts)
keeps_macro m ts k so = (keep_macro_parameters kept m.parameters).keeps (g.body (codes "macro") m.body ts) (keeps_body (codes "macro") m.body ts k so)

keeps_procedure : (x : g.Procedure) (ts : List Token) → g.GoodProcedure p_syntax x → Sound ts → Sound (g.procedure x ts)
keeps_procedure x ts k so =
    (keep_procedure_parameters kept x.parameters).keeps (part.section_tokens x.variables (g.body (codes "procedure") x.body ts))
    ((keep_section_tokens kept x.variables).keeps (g.body (codes "procedure") x.body ts) (keeps_body (codes "procedure") x.body ts k.2 so))

keeps_process : (x : g.Process) (ts : List Token) → g.GoodProcess p_syntax x → Sound ts → Sound (g.process x ts)
keeps_process x ts k so =
    keeps_fair x.fair (part.key x.place (codes "process") (g.identity x.identity (part.section_tokens x.variables (g.body (codes "process") x.body ts))))
    ((keep_identity kept x.identity).keeps (part.section_tokens x.variables (g.body (codes "process") x.body ts))
    ((keep_section_tokens kept x.variables).keeps (g.body (codes "process") x.body ts) (keeps_body (codes "process") x.body ts k.2 so)))

keeps_each : {A : Type 0} (f : A → List Token → List Token) (Q : A → Type 0) → ((x : A) (ts : List Token) → Q x → Sound ts → Sound (f x ts)) → (xs : List A) (ts : List Token) → AllByRecursion Q xs → Sound ts → Sound (g.each f xs ts)
keeps_each f Q h [] ts k so = so
keeps_each f Q h (x ∷ xs) ts k so = h x (g.each f xs ts) k.0 (keeps_each f Q h xs ts k.1 so)

keeps_main : (m : g.Main) (ts : List Token) → g.GoodMain p_syntax m → stops ts ≡ true → Sound ts → Sound (g.main m ts)
keeps_main (g.begin a ss) ts k s so = keeps_sequence ss ts k s so
keeps_main (g.block a ss b t) ts k s so = absurd k
keeps_main (g.processes x xs) ts k s so = keeps_process x (g.each g.process xs ts) k.0 (keeps_each g.process (g.GoodProcess p_syntax) keeps_process xs ts k.1 so)

abbrev inside : g.Text → List Token → List Token
inside x ts = part.section_tokens x.variables (g.define x.define (g.each g.macro x.macros (g.each g.procedure x.procedures (g.main x.main ts))))

keeps_inside : (x : g.Text) (ts : List Token) → g.Good p_syntax x → stops ts ≡ true → Sound ts → Sound (inside x ts)
keeps_inside x ts k s so =
    (keep_section_tokens kept x.variables).keeps (g.define x.define (g.each g.macro x.macros (g.each g.procedure x.procedures (g.main x.main ts))))
    ((keep_define kept x.define).keeps (g.each g.macro x.macros (g.each g.procedure x.procedures (g.main x.main ts)))
    (keeps_each g.macro (g.GoodMacro p_syntax) keeps_macro x.macros (g.each g.procedure x.procedures (g.main x.main ts)) k.3
    (keeps_each g.procedure (g.GoodProcedure p_syntax) keeps_procedure x.procedures (g.main x.main ts) k.4 (keeps_main x.main ts k.5 s so))))

keeps_around : (r : g.Around) (f : List Token → List Token) → g.GoodAround p_syntax r → ((ts : List Token) → stops ts ≡ true → Sound ts → Sound (f ts)) → Sound (g.around r f [])
keeps_around (g.to_end a b) f k h = h (part.key a (codes "end") (part.key b (codes "algorithm") [])) refl tt
keeps_around (g.in_braces a b) f k h = absurd k

keeps_head : (x : g.Head) (ts : List Token) → Sound ts → Sound (g.head x ts)
keeps_head (g.algorithm a) ts so = so
keeps_head (g.fair_algorithm a b) ts so = so

pub all_sound : (x : g.Text) → g.Good p_syntax x → Sound (g.spell x [])
all_sound x k = keeps_head x.head (part.name x.name (g.around x.around (inside x) [])) (keeps_around x.around (inside x) k.0 (λ ts s so. keeps_inside x ts k s so))

-- ---- what no algorithm begins with

calm_stop : (k : TokenView) → is_stop k ≡ true → is_calm k ≡ true
calm_stop (tk.mark tk.semicolon) h = refl
calm_stop (tk.reserved w) h = refl
calm_stop k h = absurd cc

calm : (ts : List Token) → stops ts ≡ true → Calm 0 ts
calm [] h = refl
calm (t ∷ ts) h = by (nat_lt 0 t.place.col) refl
  where
    by : (b : Bool) → nat_lt 0 t.place.col ≡ b → Calm 0 (t ∷ ts)
    by true e = rw e (calm_stop t.kind h)
    by false e = rw e refl

-- an expression is read, and what is left can come after it
abbrev pub stops_after : Out Phrase → Bool
stops_after (Ok x) = stops x.1
stops_after (Err ts) = false

at_least : (k m : ℕ) → m ≤ steps_and k m
at_least zero m = omega arith
at_least (suc k) m = (let h = at_least k m in omega arith)

-- where reading leaves what can't come after an expression there is none
no_expression : (k : ℕ) (ts : List Token) → ((m : ℕ) → stops_after ((readers (steps_and k m) None).expr 0 free ts) ≡ false) → Expression ts → ⊥
no_expression k ts h (a, rest, good, s, same) =
    let n = steps_and k (steps a + 3) in
    let read = closed a (reads a) 0 good rest (calm rest s) n (at_least k (steps a + 3)) in
    let so : true ≡ false = sym s ∙ sym (ap stops_after read) ∙ ap (λ (us : List Token). stops_after ((readers n None).expr 0 free us)) same ∙ h (steps a + 3) in
    absurd cc

pub no_expression_begins : (k : ℕ) (ts us : List Token) → ((more : List Token) → Sound (ts ++ more) → Expression (us ++ more)) → ((m : ℕ) (more : List Token) → stops_after ((readers (steps_and k m) None).expr 0 free (us ++ more)) ≡ false) → Begins (algorithms p_syntax) (map Some (looks ts)) → ⊥
no_expression_begins k ts us f h b =
    let x = begun p_syntax ts b in
    no_expression k (us ++ x.1) (λ m. h m x.1) (f x.1 (subst (λ (vs : List Token). Sound vs) x.3 (all_sound x.0 x.2)))
