-- Which words are left out, by what a token keeps.
use Rattle.std.proofs.Common.{◌≡◌, ℕ, Bool, true, false, ◌||◌, List, refl, sym, ap, ◌∙◌}
use Rattle.std.proofs.lemmas.Bool.{or_parts}
use Rattle.tla_token.specs.declared.word.PluscalWord.{PluscalWord}
use Rattle.tla_token.specs.declared.word.PluscalWord.TheVariants as pluscal
use Rattle.tla_token.specs.declared.word.TlaWord.{TlaWord}
use Rattle.tla_token.specs.declared.word.TlaWord.TheVariants as tla
use Rattle.tla_token.specs.declared.sign.Sign.{Sign}
use Rattle.tla_token.specs.declared.token.Kind.{Kind}
use Rattle.tla_token.specs.declared.token.Kind.TheVariants as code
use Rattle.tla_token.specs.declared.token.Span.{Span}
use Rattle.tla_token.specs.Lexemes.{name}
use Rattle.tla_token.specs.Tokens.{Token}
use Rattle.tla_token.specs.Signs.{is_among}
use Rattle.tla_token.specs.Words.{is_pluscal_word, is_tla_word, tla_words, begins_fairness}
use Rattle.tla_token.specs.ReservedWords.{pluscal_spelling, tla_spelling}
use Rattle.tla_token.specs.KeptWords.{is_kept}
use Rattle.tla_token.specs.TokensSeen.{kind_seen, span_bytes}
use Rattle.tla_token.specs.AlgorithmOffences.{left_out_words, is_left_out}
use Rattle.tla_token.proofs.KeptLemmas.{among_fewer, kept_name, kept_pluscal, kept_tla, kept_fairness}

pub word_kept : (r : TlaWord) → (r ≡ tla.Choose → ⊥) → (r ≡ tla.Lambda → ⊥) → (r ≡ tla.Recursive → ⊥) → (r ≡ tla.Instance → ⊥) → (r ≡ tla.Enabled → ⊥) → (r ≡ tla.Unchanged → ⊥)
    → false ≡ is_among left_out_words (tla_spelling r)
word_kept tla.Choose a b c d e f = absurd (a refl)
word_kept tla.Lambda a b c d e f = absurd (b refl)
word_kept tla.Recursive a b c d e f = absurd (c refl)
word_kept tla.Instance a b c d e f = absurd (d refl)
word_kept tla.Enabled a b c d e f = absurd (e refl)
word_kept tla.Unchanged a b c d e f = absurd (f refl)
word_kept r a b c d e f = refl

name_stands : (bytes : List ℕ) (s : Span) (rest : List Token) → is_kept bytes (code.Name s) ≡ true → false ≡ is_left_out (name (span_bytes bytes s)) rest
name_stands bytes s rest h =
    let w = span_bytes bytes s in
    let p = or_parts (is_pluscal_word w) (is_tla_word w) (kept_name bytes s h) in
    let q = or_parts (is_among tla_words w) (begins_fairness w) p.1 in
    sym (λ i. among_fewer left_out_words tla_words w refl q.0 i || q.1 i)

pluscal_none : (r : PluscalWord) → false ≡ (is_among left_out_words (pluscal_spelling r) || begins_fairness (pluscal_spelling r))
pluscal_none pluscal.Algorithm = refl
pluscal_none pluscal.Assert = refl
pluscal_none pluscal.Await = refl
pluscal_none pluscal.Begin = refl
pluscal_none pluscal.Call = refl
pluscal_none pluscal.Define = refl
pluscal_none pluscal.Do = refl
pluscal_none pluscal.Either = refl
pluscal_none pluscal.Else = refl
pluscal_none pluscal.Elsif = refl
pluscal_none pluscal.End = refl
pluscal_none pluscal.Fair = refl
pluscal_none pluscal.Goto = refl
pluscal_none pluscal.If = refl
pluscal_none pluscal.Macro = refl
pluscal_none pluscal.Or = refl
pluscal_none pluscal.Print = refl
pluscal_none pluscal.Procedure = refl
pluscal_none pluscal.Process = refl
pluscal_none pluscal.Return = refl
pluscal_none pluscal.Skip = refl
pluscal_none pluscal.Then = refl
pluscal_none pluscal.Variable = refl
pluscal_none pluscal.Variables = refl
pluscal_none pluscal.When = refl
pluscal_none pluscal.While = refl
pluscal_none pluscal.With = refl

pluscal_stands : (bytes : List ℕ) (s : Span) (r : PluscalWord) (rest : List Token) → is_kept bytes (code.PluscalWord s r) ≡ true → false ≡ is_left_out (name (span_bytes bytes s)) rest
pluscal_stands bytes s r rest h =
    pluscal_none r ∙ ap (λ (w : List ℕ). is_among left_out_words w || begins_fairness w) (sym (kept_pluscal bytes s r h))

tla_unfair : (r : TlaWord) (k : Bool) → k ≡ (k || begins_fairness (tla_spelling r))
tla_unfair r true = refl
tla_unfair tla.Assume false = refl
tla_unfair tla.Assumption false = refl
tla_unfair tla.Axiom false = refl
tla_unfair tla.Boolean false = refl
tla_unfair tla.Case false = refl
tla_unfair tla.Choose false = refl
tla_unfair tla.Constant false = refl
tla_unfair tla.Constants false = refl
tla_unfair tla.Domain false = refl
tla_unfair tla.Else false = refl
tla_unfair tla.Enabled false = refl
tla_unfair tla.Except false = refl
tla_unfair tla.Extends false = refl
tla_unfair tla.False false = refl
tla_unfair tla.If false = refl
tla_unfair tla.In false = refl
tla_unfair tla.Instance false = refl
tla_unfair tla.Lambda false = refl
tla_unfair tla.Let false = refl
tla_unfair tla.Local false = refl
tla_unfair tla.Module false = refl
tla_unfair tla.Other false = refl
tla_unfair tla.Recursive false = refl
tla_unfair tla.String false = refl
tla_unfair tla.Subset false = refl
tla_unfair tla.Then false = refl
tla_unfair tla.Theorem false = refl
tla_unfair tla.True false = refl
tla_unfair tla.Unchanged false = refl
tla_unfair tla.Union false = refl
tla_unfair tla.Variable false = refl
tla_unfair tla.Variables false = refl
tla_unfair tla.With false = refl

tla_stands : (bytes : List ℕ) (s : Span) (r : TlaWord) (k : Bool) (rest : List Token) → is_kept bytes (code.TlaWord s r) ≡ true → k ≡ is_among left_out_words (tla_spelling r) → k ≡ is_left_out (name (span_bytes bytes s)) rest
tla_stands bytes s r k rest h e =
    e ∙ tla_unfair r (is_among left_out_words (tla_spelling r)) ∙ ap (λ (w : List ℕ). is_among left_out_words w || begins_fairness w) (sym (kept_tla bytes s r h))

fairness_left_out : (bytes : List ℕ) (s : Span) (rest : List Token) → is_kept bytes (code.Fairness s) ≡ true → true ≡ is_left_out (name (span_bytes bytes s)) rest
fairness_left_out bytes s rest h = (let w = span_bytes bytes s in sym ((λ i. is_among left_out_words w || (kept_fairness bytes s h).0 i) ∙ either (is_among left_out_words w)))
  where
    either : (k : Bool) → (k || true) ≡ true
    either true = refl
    either false = refl

-- ---- by the kind of a token

pub tla_found : (bytes : List ℕ) (k : Kind) (s : Span) (r : TlaWord) (b : Bool) (rest : List Token) → k ≡ code.TlaWord s r → is_kept bytes k ≡ true → b ≡ is_among left_out_words (tla_spelling r)
    → b ≡ is_left_out (kind_seen bytes k) rest
tla_found bytes k s r b rest e h t =
    tla_stands bytes s r b rest (ap (is_kept bytes) (sym e) ∙ h) t ∙ ap (λ (k : Kind). is_left_out (kind_seen bytes k) rest) (sym e)

pub fairness_found : (bytes : List ℕ) (k : Kind) (s : Span) (rest : List Token) → k ≡ code.Fairness s → is_kept bytes k ≡ true → true ≡ is_left_out (kind_seen bytes k) rest
fairness_found bytes k s rest e h = fairness_left_out bytes s rest (ap (is_kept bytes) (sym e) ∙ h) ∙ ap (λ (k : Kind). is_left_out (kind_seen bytes k) rest) (sym e)

pub others_stand : (bytes : List ℕ) (k : Kind) (rest : List Token) → ((s : Span) (r : TlaWord) → k ≡ code.TlaWord s r → ⊥) → ((s : Span) → k ≡ code.Fairness s → ⊥) → ((s : Sign) → k ≡ code.Sign s → ⊥) → ((s : Span) → k ≡ code.Other s → ⊥)
    → is_kept bytes k ≡ true → false ≡ is_left_out (kind_seen bytes k) rest
others_stand bytes (code.Name s) rest t f g o h = name_stands bytes s rest h
others_stand bytes (code.PluscalWord s r) rest t f g o h = pluscal_stands bytes s r rest h
others_stand bytes (code.TlaWord s r) rest t f g o h = absurd (t s r refl)
others_stand bytes (code.Fairness s) rest t f g o h = absurd (f s refl)
others_stand bytes (code.Number n) rest t f g o h = refl
others_stand bytes (code.BigNumber s) rest t f g o h = refl
others_stand bytes (code.Text s) rest t f g o h = refl
others_stand bytes (code.Sign s) rest t f g o h = absurd (g s refl)
others_stand bytes (code.Other s) rest t f g o h = absurd (o s refl)
