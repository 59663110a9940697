-- Which reserved word of PlusCal is next, by the word that its token keeps.
use Rattle.std.proofs.Common.{◌≡◌, ℕ, ◌<◌, ◌≤◌, Bool, true, false, List, nat_eq, codes, get_or, length, if◌then◌else◌, refl, sym, ap, ◌∙◌}
use Rattle.std.specs.List.{position_or_len}
use Rattle.std.specs.Str.{bytes_eq}
use Rattle.std.proofs.lemmas.Bool.{false_from_ne_true, eqb-true, eq-eqb, both_ways}
use Rattle.std.proofs.lemmas.List.{drop_more, drop_all}
use Rattle.std.proofs.lemmas.Slice.Eq.{bytes_eq-Decides}
use Rattle.tla_token.specs.declared.word.PluscalWord.{PluscalWord}
use Rattle.tla_token.specs.declared.word.PluscalWord.TheVariants as pluscal
use Rattle.tla_token.specs.declared.word.TlaWord.{TlaWord}
use Rattle.tla_token.specs.declared.word.TlaWord.TheVariants as tla
use Rattle.tla_token.specs.declared.sign.Sign.{Sign}
use Rattle.tla_token.specs.declared.sign.Sign.TheVariants as sign
use Rattle.tla_token.specs.declared.token.Kind.{Kind}
use Rattle.tla_token.specs.declared.token.Kind.TheVariants as code
use Rattle.tla_token.specs.declared.token.Span.{Span}
use Rattle.tla_token.specs.declared.token.Token as code_token
use Rattle.tla_token.specs.declared.token.Tokens.{Tokens}
use Rattle.tla_token.specs.Lexemes as lexeme
use Rattle.tla_token.specs.ReservedWords.{pluscal_spelling, tla_spelling, all_pluscal_words}
use Rattle.tla_token.specs.KeptWords.{is_kept}
use Rattle.tla_token.specs.TokensSeen.{kind_seen, span_bytes}
use Rattle.tla_token.proofs.KeptLemmas.{kept_pluscal, kept_tla}
use Rattle.tla_tree.specs.Tree.{Word}
use Rattle.tla_tree.specs.TokenViews.{kind_of, sign_kind, word_kind}
use Rattle.tla_tree.specs.Lexical as tk
use Rattle.expr_nodes.specs.ReadIn.{seen}
use Rattle.expr_nodes.specs.Ahead.{ahead}
use Rattle.expr_nodes.proofs.ViewLemmas.{name_view, reserved_view, fairness_view}
use Rattle.syntax_reading.specs.TokenReaders.{first, is_reserved}

-- ---- words are told by their numbers

abbrev number : PluscalWord → ℕ
number r = position_or_len (λ w. bytes_eq (pluscal_spelling w) (pluscal_spelling r)) all_pluscal_words

numbered : (r : PluscalWord) → get_or all_pluscal_words (number r) pluscal.Algorithm ≡ r
numbered pluscal.Algorithm = refl
numbered pluscal.Assert = refl
numbered pluscal.Await = refl
numbered pluscal.Begin = refl
numbered pluscal.Call = refl
numbered pluscal.Define = refl
numbered pluscal.Do = refl
numbered pluscal.Either = refl
numbered pluscal.Else = refl
numbered pluscal.Elsif = refl
numbered pluscal.End = refl
numbered pluscal.Fair = refl
numbered pluscal.Goto = refl
numbered pluscal.If = refl
numbered pluscal.Macro = refl
numbered pluscal.Or = refl
numbered pluscal.Print = refl
numbered pluscal.Procedure = refl
numbered pluscal.Process = refl
numbered pluscal.Return = refl
numbered pluscal.Skip = refl
numbered pluscal.Then = refl
numbered pluscal.Variable = refl
numbered pluscal.Variables = refl
numbered pluscal.When = refl
numbered pluscal.While = refl
numbered pluscal.With = refl

same_number : (r s : PluscalWord) → number r ≡ number s → r ≡ s
same_number r s e = sym (numbered r) ∙ ap (λ (n : ℕ). get_or all_pluscal_words n pluscal.Algorithm) e ∙ numbered s

by_number : (r s : PluscalWord) (k : Bool) → nat_eq (number r) (number s) ≡ k → k ≡ bytes_eq (pluscal_spelling s) (pluscal_spelling r)
by_number r s true e =
    sym ((bytes_eq-Decides (pluscal_spelling s) (pluscal_spelling r)).1 (ap pluscal_spelling (sym (same_number r s (eqb-true (number r) (number s) e)))))
by_number r s false e =
    sym (false_from_ne_true (bytes_eq (pluscal_spelling s) (pluscal_spelling r)) (λ t.
    absurd (both_ways (nat_eq (number r) (number s)) e (eq-eqb (number r) (number s) (ap position (sym ((bytes_eq-Decides (pluscal_spelling s) (pluscal_spelling r)).0 t)))))))
  where
    position : List ℕ → ℕ
    position u = position_or_len (λ w. bytes_eq (pluscal_spelling w) u) all_pluscal_words

pub numbers_tell : (r s : PluscalWord) (n m : ℕ) → n ≡ position_or_len (λ w. bytes_eq (pluscal_spelling w) (pluscal_spelling r)) all_pluscal_words → m ≡ position_or_len (λ w. bytes_eq (pluscal_spelling w) (pluscal_spelling s)) all_pluscal_words
    → nat_eq n m ≡ bytes_eq (pluscal_spelling s) (pluscal_spelling r)
numbers_tell r s n m e f = (λ i. nat_eq (e i) (f i)) ∙ by_number r s (nat_eq (number r) (number s)) refl

-- ---- a token

reserved_next : (bytes : List ℕ) (s : Span) (r t : PluscalWord) (k : Bool) → is_kept bytes (code.PluscalWord s t) ≡ true → k ≡ bytes_eq (pluscal_spelling r) (pluscal_spelling t) → k ≡ is_reserved (pluscal_spelling r) (kind_of (kind_seen bytes (code.PluscalWord s t)))
reserved_next bytes s r t k h d =
    d
    ∙ ap (bytes_eq (pluscal_spelling r)) (sym (kept_pluscal bytes s t h))
    ∙ ap (is_reserved (pluscal_spelling r)) (reserved_view bytes s t h)

pub reserved_at : (bytes : List ℕ) (kind : Kind) (s : Span) (r t : PluscalWord) (k : Bool) → kind ≡ code.PluscalWord s t → is_kept bytes kind ≡ true → k ≡ bytes_eq (pluscal_spelling r) (pluscal_spelling t) → k ≡ is_reserved (pluscal_spelling r) (kind_of (kind_seen bytes kind))
reserved_at bytes kind s r t k e h d =
    reserved_next bytes s r t k (ap (is_kept bytes) (sym e) ∙ h) d ∙ ap (λ (u : Kind). is_reserved (pluscal_spelling r) (kind_of (kind_seen bytes u))) (sym e)

sign_next : (w : Word) (s : Sign) → false ≡ is_reserved w (sign_kind s)
sign_next w sign.MapsTo = refl
sign_next w sign.Equivalent = refl
sign_next w sign.Assign = refl
sign_next w sign.Parallel = refl
sign_next w sign.Pair = refl
sign_next w sign.Override = refl
sign_next w sign.Range = refl
sign_next w sign.And = refl
sign_next w sign.Or = refl
sign_next w sign.Implies = refl
sign_next w sign.Arrow = refl
sign_next w sign.Defined = refl
sign_next w sign.OpenTuple = refl
sign_next w sign.CloseTuple = refl
sign_next w sign.AtMost = refl
sign_next w sign.AtLeast = refl
sign_next w sign.NotEqual = refl
sign_next w sign.Box = refl
sign_next w sign.Colon = refl
sign_next w sign.Semicolon = refl
sign_next w sign.Comma = refl
sign_next w sign.Dot = refl
sign_next w sign.OpenRound = refl
sign_next w sign.CloseRound = refl
sign_next w sign.OpenSquare = refl
sign_next w sign.CloseSquare = refl
sign_next w sign.OpenCurly = refl
sign_next w sign.CloseCurly = refl
sign_next w sign.Equal = refl
sign_next w sign.Less = refl
sign_next w sign.Greater = refl
sign_next w sign.Plus = refl
sign_next w sign.Minus = refl
sign_next w sign.Times = refl
sign_next w sign.Percent = refl
sign_next w sign.Not = refl
sign_next w sign.Bang = refl
sign_next w sign.Without = refl
sign_next w sign.In = refl
sign_next w sign.NotIn = refl
sign_next w sign.SubsetEq = refl
sign_next w sign.Cup = refl
sign_next w sign.Cap = refl
sign_next w sign.Divide = refl
sign_next w sign.Concat = refl
sign_next w sign.ForAll = refl
sign_next w sign.Exists = refl

tla_next : (w : Word) (r : TlaWord) → false ≡ is_reserved w (word_kind (tla_spelling r))
tla_next w tla.Assume = refl
tla_next w tla.Assumption = refl
tla_next w tla.Axiom = refl
tla_next w tla.Boolean = refl
tla_next w tla.Case = refl
tla_next w tla.Choose = refl
tla_next w tla.Constant = refl
tla_next w tla.Constants = refl
tla_next w tla.Domain = refl
tla_next w tla.Else = refl
tla_next w tla.Enabled = refl
tla_next w tla.Except = refl
tla_next w tla.Extends = refl
tla_next w tla.False = refl
tla_next w tla.If = refl
tla_next w tla.In = refl
tla_next w tla.Instance = refl
tla_next w tla.Lambda = refl
tla_next w tla.Let = refl
tla_next w tla.Local = refl
tla_next w tla.Module = refl
tla_next w tla.Other = refl
tla_next w tla.Recursive = refl
tla_next w tla.String = refl
tla_next w tla.Subset = refl
tla_next w tla.Then = refl
tla_next w tla.Theorem = refl
tla_next w tla.True = refl
tla_next w tla.Unchanged = refl
tla_next w tla.Union = refl
tla_next w tla.Variable = refl
tla_next w tla.Variables = refl
tla_next w tla.With = refl

other_next : (w v : Word) → false ≡ is_reserved w (kind_of (lexeme.other v))
other_next w v = by (bytes_eq v (codes "'"))
  where
    by : (b : Bool) → false ≡ is_reserved w (if b then tk.mark tk.prime else tk.other v)
    by true = refl
    by false = refl

pub unreserved_next : (bytes : List ℕ) (k : Kind) (r : PluscalWord) → ((s : Span) (t : PluscalWord) → k ≡ code.PluscalWord s t → ⊥) → is_kept bytes k ≡ true → false ≡ is_reserved (pluscal_spelling r) (kind_of (kind_seen bytes k))
unreserved_next bytes (code.PluscalWord s t) r n h = absurd (n s t refl)
unreserved_next bytes (code.Name s) r n h = ap (is_reserved (pluscal_spelling r)) (name_view bytes s h)
unreserved_next bytes (code.TlaWord s t) r n h = tla_next (pluscal_spelling r) t ∙ ap (λ (w : Word). is_reserved (pluscal_spelling r) (word_kind w)) (sym (kept_tla bytes s t h))
unreserved_next bytes (code.Fairness s) r n h = ap (is_reserved (pluscal_spelling r)) (fairness_view bytes s h)
unreserved_next bytes (code.Number m) r n h = refl
unreserved_next bytes (code.BigNumber s) r n h = refl
unreserved_next bytes (code.Text s) r n h = refl
unreserved_next bytes (code.Sign s) r n h = sign_next (pluscal_spelling r) s
unreserved_next bytes (code.Other s) r n h = other_next (pluscal_spelling r) (span_bytes bytes s)

-- ---- the next token

pub word_there : (v : Tokens) (at : ℕ) (t : code_token.Token) (w : Word) (k : Bool) → t ≡ get_or v.items.items at t → at < length v.items.items → k ≡ is_reserved w (kind_of (kind_seen v.bytes.items t.kind))
    → k ≡ is_reserved w (first (ahead v at)).kind
word_there v at t w k e l h =
    h
    ∙ ap (λ (u : code_token.Token). is_reserved w (kind_of (kind_seen v.bytes.items u.kind))) e
    ∙ ap (λ (us : List code_token.Token). is_reserved w (first (seen v.bytes.items us)).kind) (sym (drop_more v.items.items at t l))

pub no_word_there : (v : Tokens) (at : ℕ) (w : Word) → length v.items.items ≤ at → false ≡ is_reserved w (first (ahead v at)).kind
no_word_there v at w l = ap (λ (us : List code_token.Token). is_reserved w (first (seen v.bytes.items us)).kind) (sym (drop_all at v.items.items l))
