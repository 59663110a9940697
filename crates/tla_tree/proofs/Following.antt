-- Before tokens that go on with nothing, no two phrases have the same tokens.
use Rattle.std.proofs.Common.{◌≡◌, ℕ, ◌+◌, Bool, true, false, List, ◌++◌, None, Ok, Err, refl, sym, ap, ◌∙◌, arith}
use Rattle.tla_token.specs.Tokens as text
use Rattle.tla_tree.specs.Tree.{Tree}
use Rattle.tla_tree.specs.Lexical.{TokenView, Token}
use Rattle.tla_tree.specs.Lexical as tk
use Rattle.tla_tree.specs.TokenViews.{views}
use Rattle.tla_tree.specs.Spelling.{Phrase, list, Good, spell, tree_of, head, primary, is_primary, end_list}
use Rattle.tla_tree.specs.Reader as reader
use Rattle.tla_tree.specs.Reader.{Out, next, readers, peek}
use Rattle.tla_tree.specs.laws.Placeless.{tree_placeless}
use Rattle.tla_tree.specs.laws.InText.{IsSpelling}
use Rattle.tla_tree.specs.laws.Following.{is_tail, NoTail, Calm}
use Rattle.tla_tree.proofs.Steps.{steps}
use Rattle.tla_tree.proofs.ReadSoon.{Soon, postfix_ends}
use Rattle.tla_tree.proofs.ReadPhrases.{is_call, NoCall, Inner}
use Rattle.tla_tree.proofs.ReadAll.{reads, one_before}
use Rattle.tla_tree.proofs.SpellAppend.{spell_then}

no_call : (k : TokenView) → is_tail k ≡ false → is_call k ≡ false
no_call (tk.mark tk.open_bracket) h = absurd cc
no_call (tk.mark tk.prime) h = absurd cc
no_call k h = refl

inner : (e : ℕ) (a : Phrase) (ts : List Token) → end_list a ≡ None → NoCall e ts → Inner e a ts
inner e (list o bs) ts n h = absurd cc
inner e a ts n h = h

-- a primary is read to its end
primary_ends : (e : ℕ) (a : Phrase) → Good e a → head a ≡ primary → end_list a ≡ None → (ts : List Token) → NoTail e ts → Soon (1 + steps a) (λ r. peek e (reader.primary (reader.any r) r e) (spell a ts)) (Ok (a, ts))
primary_ends e a g h n ts t = (reads a).prime (ap is_primary h) e g ts (inner e a ts n (no_call (next e ts).kind t)) 1 (Ok (a, ts)) (postfix_ends e a ts t)

one_primary : (e : ℕ) (a b : Phrase) → Good e a → Good e b → head a ≡ primary → head b ≡ primary → end_list a ≡ None → end_list b ≡ None → (r s : List Token) → NoTail e r → NoTail e s → spell a r ≡ spell b s → (a ≡ b) × (r ≡ s)
one_primary e a b ga gb ha hb na nb r s tr ts same_tokens =
    let u = primary_ends e a ga ha na r tr in
    let v = primary_ends e b gb hb nb s ts in
    let n = (1 + steps a) + (1 + steps b) in
    let pair : ◌≡◌ {A = Out Phrase} (Ok (a, r)) (Ok (b, s)) = sym (u n (omega arith)) ∙ ap (λ (us : List Token). peek e (reader.primary (reader.any (readers n None)) (readers n None) e) us) same_tokens ∙ v n (omega arith) in
    (ap (λ (x : Out Phrase). phrase_of a x) pair, ap (λ (x : Out Phrase). rest_of r x) pair)
  where
    phrase_of : Phrase → Out Phrase → Phrase
    phrase_of d (Ok x) = x.0
    phrase_of d (Err ts) = d

    rest_of : List Token → Out Phrase → List Token
    rest_of d (Ok x) = x.1
    rest_of d (Err ts) = d

-- the tokens of a spelling, before others
spelling_then : (edge : ℕ) (o : Bool) (t : Tree) (ts : List text.Token) (p : IsSpelling edge o t ts) (r : List Token) → spell p.phrase r ≡ views ts ++ r
spelling_then edge o t ts p r = spell_then p.phrase r ∙ ap (λ (us : List Token). us ++ r) (sym p.tokens)

pub alone_before : (edge : ℕ) (o : Bool) (t : Tree) (ts : List text.Token) → IsSpelling edge o t ts → (b : Phrase) (r s : List Token) → Good edge b → Calm edge r → Calm edge s → views ts ++ r ≡ spell b s → (tree_placeless (tree_of b) ≡ tree_placeless t) × (r ≡ s)
alone_before edge o t ts p b r s g cr cs e =
    let w = one_before edge p.phrase b p.good g r s cr cs (spelling_then edge o t ts p r ∙ e) in
    (ap (λ (c : Phrase). tree_placeless (tree_of c)) (sym w.0) ∙ p.tree, w.1)

pub operand_before : (edge : ℕ) (t : Tree) (ts : List text.Token) → IsSpelling edge true t ts → (b : Phrase) (r s : List Token) → Good edge b → head b ≡ primary → end_list b ≡ None → NoTail edge r → NoTail edge s → views ts ++ r ≡ spell b s → (tree_placeless (tree_of b) ≡ tree_placeless t) × (r ≡ s)
operand_before edge t ts p b r s g h n tr us e =
    let w = one_primary edge p.phrase b p.good g (p.operand refl) h p.unlisted n r s tr us (spelling_then edge true t ts p r ∙ e) in
    (ap (λ (c : Phrase). tree_placeless (tree_of c)) (sym w.0) ∙ p.tree, w.1)
