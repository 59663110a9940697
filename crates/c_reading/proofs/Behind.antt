-- What comes after a statement, and how statements begin.
use Rattle.std.proofs.Common.{◌≡◌, Bool, true, false, not, List, [], ◌∷◌, Option, Some, None, refl, ap, codes}
use Rattle.std.specs.Prelude.{IsTrue}
use Rattle.tla_token.specs.declared.place.Place.{Place}
use Rattle.tla_tree.specs.Tree.{Word, Name}
use Rattle.tla_tree.specs.Lexical.{TokenView, Token}
use Rattle.tla_tree.specs.Lexical as tk
use Rattle.tla_tree.specs.Reader.{tail}
use Rattle.pcal_tree.specs.GrammarParts.{name, key, mark, semicolon, maybe_semicolon, Labels, no_labels, label, labels, assignments}
use Rattle.pcal_tree.specs.GrammarParts as g
use Rattle.pcal_tree.specs.GrammarC.{Statement, simple, branch, either, with, while, compound, Labelled, labelled, Branches, last_branch, more_branches, Sequence, last_statement, more_statements}
use Rattle.pcal_tree.specs.GrammarC.{statement, labelled_tokens, branches, sequence, ends_in_block, labelled_ends_in_block, takes_else, takes_or, labelled_takes_else, labelled_takes_or, Divided, GoodStatement, GoodLabelled, GoodSequence}
use Rattle.syntax_reading.specs.TokenReaders.{first, pick}
use Rattle.syntax_reading.proofs.WholeSimple.{root, first_left, after_first, assignment_tokens}
use Rattle.c_reading.specs.ReadStatements.{Ask, ask_else, ask_or, ask_other}
use Rattle.c_reading.specs.ReadStatements.{is_divided}
use Rattle.syntax_reading.proofs.WholeEnds.{is_divider_next, is_statement_start}

-- ---- what a token asks for after a statement
abbrev pub word_ask : Word → Ask
word_ask w = pick w ((codes "else", ask_else) ∷ (codes "or", ask_or) ∷ []) ask_other

abbrev pub ask_of : TokenView → Ask
ask_of (tk.reserved w) = word_ask w
ask_of k = ask_other

-- the next token, or the one after a `;`
abbrev pub ask_past : TokenView → List Token → Ask
ask_past (tk.mark tk.semicolon) ts = ask_of (first ts).kind
ask_past k ts = ask_of k

abbrev pub ask_at : List Token → Ask
ask_at ts = ask_past (first ts).kind (tail ts)

-- nothing after a statement goes on with it: e where it takes an `else`, o where it takes an `or`, c where it ends in a `{..}`
pub record Quiet (e o c : Bool) (ts : List Token) : Type 0 where
  pub no_else : e ≡ true → ask_at ts ≡ ask_else → ⊥
  pub no_or : o ≡ true → ask_at ts ≡ ask_or → ⊥
  pub plain : c ≡ false → is_divider_next (first ts).kind ≡ true

abbrev pub QuietStatement : Statement → List Token → Type 0
QuietStatement a ts = Quiet (takes_else a) (takes_or a) (ends_in_block a) ts

abbrev pub QuietLabelled : Labelled → List Token → Type 0
QuietLabelled a ts = Quiet (labelled_takes_else a) (labelled_takes_or a) (labelled_ends_in_block a) ts

pub quiet_else : (e o c : Bool) (ts : List Token) → IsTrue (not e) → ask_at ts ≡ ask_else → is_divider_next (first ts).kind ≡ true → Quiet e o c ts
quiet_else true o c ts i k l = absurd cc
quiet_else false o c ts i k l = record { no_else = λ y z. absurd cc; no_or = λ y z. absurd cc; plain = λ y. l }

pub quiet_or : (e o c : Bool) (ts : List Token) → IsTrue (not o) → ask_at ts ≡ ask_or → is_divider_next (first ts).kind ≡ true → Quiet e o c ts
quiet_or e true c ts i k l = absurd cc
quiet_or e false c ts i k l = record { no_else = λ y z. absurd cc; no_or = λ y z. absurd cc; plain = λ y. l }

pub quiet_other : (e o c : Bool) (ts : List Token) → ask_at ts ≡ ask_other → (c ≡ false → is_divider_next (first ts).kind ≡ true) → Quiet e o c ts
quiet_other e o c ts k l = record { no_else = λ y z. absurd cc; no_or = λ y z. absurd cc; plain = l }

-- before an `else` and an `or`, also after a `;`
pub else_asks : (s : Option Place) (p : Place) (ts : List Token) → ask_at (maybe_semicolon s (key p (codes "else") ts)) ≡ ask_else
else_asks None p ts = refl
else_asks (Some q) p ts = refl

pub else_divides : (s : Option Place) (p : Place) (ts : List Token) → is_divider_next (first (maybe_semicolon s (key p (codes "else") ts))).kind ≡ true
else_divides None p ts = refl
else_divides (Some q) p ts = refl

or_asks : (s : Option Place) (p : Place) (ts : List Token) → ask_at (maybe_semicolon s (key p (codes "or") ts)) ≡ ask_or
or_asks None p ts = refl
or_asks (Some q) p ts = refl

or_divides : (s : Option Place) (p : Place) (ts : List Token) → is_divider_next (first (maybe_semicolon s (key p (codes "or") ts))).kind ≡ true
or_divides None p ts = refl
or_divides (Some q) p ts = refl

pub branches_ask : (bs : Branches) (ts : List Token) → ask_at (branches bs ts) ≡ ask_or
branches_ask (last_branch s p a) ts = or_asks s p (labelled_tokens a ts)
branches_ask (more_branches s p a bs) ts = or_asks s p (labelled_tokens a (branches bs ts))

pub branches_divide : (bs : Branches) (ts : List Token) → is_divider_next (first (branches bs ts)).kind ≡ true
branches_divide (last_branch s p a) ts = or_divides s p (labelled_tokens a ts)
branches_divide (more_branches s p a bs) ts = or_divides s p (labelled_tokens a (branches bs ts))

pub brace_asks : (s : Option Place) (p : Place) (ts : List Token) → ask_at (maybe_semicolon s (mark p tk.close_brace ts)) ≡ ask_other
brace_asks None p ts = refl
brace_asks (Some q) p ts = refl

pub brace_divides : (s : Option Place) (p : Place) (ts : List Token) → is_divider_next (first (maybe_semicolon s (mark p tk.close_brace ts))).kind ≡ true
brace_divides None p ts = refl
brace_divides (Some q) p ts = refl

-- ---- how statements begin
pub record Starts (ts : List Token) : Type 0 where
  pub start : is_statement_start (first ts).kind ≡ true
  pub asks : ask_of (first ts).kind ≡ ask_other

start_named : (ts us : List Token) (x : Name) → ts ≡ name x us → Starts ts
start_named ts us x e = record { start = ap (λ (vs : List Token). is_statement_start (first vs).kind) e; asks = ap (λ (vs : List Token). ask_of (first vs).kind) e }

pub start_statement : (a : Statement) → GoodStatement a → (ts : List Token) → Starts (statement a ts)
start_statement (simple (g.assign ms)) i ts = start_named (assignments ms ts) (after_first ms ts) (root (first_left ms)) (assignment_tokens ms i ts)
start_statement (simple (g.await p e)) i ts = record { start = refl; asks = refl }
start_statement (simple (g.when p e)) i ts = record { start = refl; asks = refl }
start_statement (simple (g.print p e)) i ts = record { start = refl; asks = refl }
start_statement (simple (g.assert p e)) i ts = record { start = refl; asks = refl }
start_statement (simple (g.skip p)) i ts = record { start = refl; asks = refl }
start_statement (simple (g.goto p x)) i ts = record { start = refl; asks = refl }
start_statement (simple (g.call p x xs)) i ts = record { start = refl; asks = refl }
start_statement (simple (g.return p)) i ts = record { start = refl; asks = refl }
start_statement (simple (g.macro x xs)) i ts = record { start = refl; asks = refl }
start_statement (branch p q e w a b) i ts = record { start = refl; asks = refl }
start_statement (either p a bs) i ts = record { start = refl; asks = refl }
start_statement (with p q bs w a) i ts = record { start = refl; asks = refl }
start_statement (while p q e w a) i ts = record { start = refl; asks = refl }
start_statement (compound p ss q) i ts = record { start = refl; asks = refl }

pub start_labels : (ls : Labels) (ts : List Token) → Starts ts → Starts (labels ls ts)
start_labels no_labels ts h = h
start_labels (label x c ls) ts h = record { start = refl; asks = refl }

start_labelled : (a : Labelled) → GoodLabelled a → (ts : List Token) → Starts (labelled_tokens a ts)
start_labelled (labelled ls st) i ts = start_labels ls (statement st ts) (start_statement st i ts)

pub start_sequence : (ss : Sequence) → GoodSequence ss → (ts : List Token) → Starts (sequence ss ts)
start_sequence (last_statement a s) i ts = start_labelled a i (maybe_semicolon s ts)
start_sequence (more_statements a s ss) i ts = start_labelled a i.0 (maybe_semicolon s (sequence ss ts))

pub start_asks : (s : Option Place) (ts : List Token) → Starts ts → ask_at (maybe_semicolon s ts) ≡ ask_other
start_asks (Some p) ts h = h.asks
start_asks None ts h = by (first ts).kind h.start h.asks
  where
    by : (k : TokenView) → is_statement_start k ≡ true → ask_of k ≡ ask_other → ask_past k (tail ts) ≡ ask_other
    by (tk.reserved w) d e = e
    by (tk.word x) d e = refl
    by (tk.mark tk.open_brace) d e = refl
    by k d e = absurd cc

pub start_divides : (s : Option Place) (a : Labelled) (ts : List Token) → Divided s a → labelled_ends_in_block a ≡ false → is_divider_next (first (maybe_semicolon s ts)).kind ≡ true
start_divides (Some p) a ts d e = refl
start_divides None a ts d e = absurd cc

pub divided : (s : Option Place) (a : Labelled) → Divided s a → is_divided s a ≡ true
divided (Some p) a d = refl
divided None a d = d
