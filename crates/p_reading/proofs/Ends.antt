-- The tokens of statements before others, and where their last token is.
use Rattle.std.proofs.Common.{◌≡◌, List, [], ◌∷◌, ◌++◌, Option, Some, None, refl, sym, ap, ◌∙◌}
use Rattle.tla_token.specs.declared.place.Place.{Place}
use Rattle.tla_tree.specs.Lexical.{Token}
use Rattle.tla_tree.specs.Spelling.{Phrase, Phrases, spell, spell_all}
use Rattle.tla_tree.proofs.SpellAppend.{spell_then, all_more}
use Rattle.pcal_tree.specs.GrammarParts.{Tokens, key, last_place, Separator, by_semicolon, by_comma, Colon, colon, colon_plus, colon_minus, colon_tokens, Labels, no_labels, label, labels, Binds, last_bind, bind, binds, Arguments, no_arguments, some_arguments, arguments, Assignments, last_assignment, assignment, assignments, Simple, simple_tokens, maybe_semicolon, separator, maybe_separator}
use Rattle.pcal_tree.specs.GrammarParts as g
use Rattle.pcal_tree.specs.GrammarP.{Statement, simple, branch, either, with, while, Else, no_else, else_then, else_if, Branches, last_branch, more_branches, Sequence, last_statement, more_statements, statement, else_tokens, branches, sequence}
use Rattle.std.proofs.lemmas.List.{append_assoc}

-- what stands behind tokens stands behind those that are put before them
abbrev pub Puts : Tokens → Type 0
Puts x = (r s : List Token) → x r ++ s ≡ x (r ++ s)

pub spell_puts : (e : Phrase) → Puts (spell e)
spell_puts e r s = ap (λ (z : List Token). z ++ s) (spell_then e r) ∙ append_assoc (spell e []) r s ∙ sym (spell_then e (r ++ s))

all_puts : (xs : Phrases) → Puts (spell_all xs)
all_puts xs r s = sym (all_more xs r s)

semicolon_puts : (x : Option Place) → Puts (maybe_semicolon x)
semicolon_puts None r s = refl
semicolon_puts (Some p) r s = refl

separator_puts : (x : Separator) → Puts (separator x)
separator_puts (by_semicolon p) r s = refl
separator_puts (by_comma p) r s = refl

maybe_separator_puts : (x : Option Separator) → Puts (maybe_separator x)
maybe_separator_puts None r s = refl
maybe_separator_puts (Some x) r s = separator_puts x r s

colon_puts : (c : Colon) → Puts (colon_tokens c)
colon_puts (colon p) r s = refl
colon_puts (colon_plus p q) r s = refl
colon_puts (colon_minus p q) r s = refl

labels_puts : (ls : Labels) → Puts (labels ls)
labels_puts no_labels r s = refl
labels_puts (label x c ls) r s = simp (colon_puts, labels_puts ls) refl

pub binds_puts : (bs : Binds) → Puts (binds bs)
binds_puts (last_bind x b p e z) r s = simp (spell_puts, maybe_separator_puts) refl
binds_puts (bind x b p e z bs) r s = simp (spell_puts, separator_puts, binds_puts bs) refl

arguments_puts : (xs : Arguments) → Puts (arguments xs)
arguments_puts (no_arguments p q) r s = refl
arguments_puts (some_arguments p xs q) r s = simp (all_puts) refl

assignments_puts : (ms : Assignments) → Puts (assignments ms)
assignments_puts (last_assignment l p e) r s = simp (spell_puts) refl
assignments_puts (assignment l p e q ms) r s = simp (spell_puts, assignments_puts ms) refl

pub simple_puts : (x : Simple) → Puts (simple_tokens x)
simple_puts (g.assign ms) r s = assignments_puts ms r s
simple_puts (g.await p e) r s = simp (spell_puts) refl
simple_puts (g.when p e) r s = simp (spell_puts) refl
simple_puts (g.print p e) r s = simp (spell_puts) refl
simple_puts (g.assert p e) r s = simp (spell_puts) refl
simple_puts (g.skip p) r s = refl
simple_puts (g.goto p x) r s = refl
simple_puts (g.call p x xs) r s = simp (arguments_puts) refl
simple_puts (g.return p) r s = refl
simple_puts (g.macro x xs) r s = simp (arguments_puts) refl

mutual
  statement_puts : (a : Statement) → Puts (statement a)
  statement_puts (simple x) r s = simple_puts x r s
  statement_puts (branch p e q a b t u) r s = simp (spell_puts, sequence_puts a, else_puts b) refl
  statement_puts (either p a bs t u) r s = simp (sequence_puts a, branches_puts bs) refl
  statement_puts (with p bs q a t u) r s = simp (binds_puts, sequence_puts a) refl
  statement_puts (while p e q a t u) r s = simp (spell_puts, sequence_puts a) refl

  pub else_puts : (b : Else) → Puts (else_tokens b)
  else_puts no_else r s = refl
  else_puts (else_then p a) r s = simp (sequence_puts a) refl
  else_puts (else_if p e q a b) r s = simp (spell_puts, sequence_puts a, else_puts b) refl

  pub branches_puts : (bs : Branches) → Puts (branches bs)
  branches_puts (last_branch p a) r s = simp (sequence_puts a) refl
  branches_puts (more_branches p a bs) r s = simp (sequence_puts a, branches_puts bs) refl

  pub sequence_puts : (ss : Sequence) → Puts (sequence ss)
  sequence_puts (last_statement ls a p) r s = simp (labels_puts, statement_puts a, semicolon_puts) refl
  sequence_puts (more_statements ls a p ss) r s = simp (labels_puts, statement_puts a, sequence_puts ss) refl

-- ---- the last one
last_behind : (xs : List Token) (t : Token) (ts : List Token) → last_place (xs ++ t ∷ ts) ≡ last_place (t ∷ ts)
last_behind [] t ts = refl
last_behind (x ∷ []) t ts = refl
last_behind (x ∷ y ∷ xs) t ts = last_behind (y ∷ xs) t ts

pub last_put : (x : Tokens) → Puts x → (t : Token) (ts : List Token) → last_place (x (t ∷ ts)) ≡ last_place (t ∷ ts)
last_put x h t ts = ap last_place (sym (h [] (t ∷ ts))) ∙ last_behind (x []) t ts

-- of a statement that ends with two words, behind a list, what is behind it, and what was passed before
pub ends_with_words : (x : Tokens) → Puts x → (t u : Token) → last_place (x (t ∷ u ∷ [])) ≡ u.place
ends_with_words x h t u = last_put x h t (u ∷ [])
