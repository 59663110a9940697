-- Algorithms that are spelled by the tokens of a text have what their text gives.
use Rattle.std.proofs.Common.{ℕ, List, [], ◌∷◌, sym, subst}
use Rattle.tla_token.specs.Lexemes.{Kind}
use Rattle.tla_token.specs.Lexemes as lexeme
use Rattle.tla_token.specs.Tokens as text
use Rattle.tla_token.specs.Tokens.{TokAlgorithm}
use Rattle.tla_tree.specs.Lexical.{Token}
use Rattle.tla_tree.specs.TokenViews as expression
use Rattle.tla_tree.specs.laws.Writable.{IsOfText, AreOfText, AreSmall}
use Rattle.tla_tree.proofs.TextTokens.{text_tokens}
use Rattle.pcal_tree.specs.Algorithm.{Algorithm}
use Rattle.pcal_tree.specs.AlgorithmTokens.{kind_of, views}
use Rattle.pcal_tree.specs.Grammar.{Syntax, Head, algorithm, fair_algorithm, head, Spells}
use Rattle.translation.specs.laws.TypedAlgorithm.{IsTypedAlgorithm}
use Rattle.translation.proofs.TypedAlgorithms.{tokens_after_head, typed_algorithm}

own_kind : (k : Kind) → IsOfText (expression.kind_of k) → IsOfText (kind_of k)
own_kind (lexeme.name w) h = h
own_kind (lexeme.number n) h = h
own_kind (lexeme.string w) h = h
own_kind (lexeme.one s) h = h
own_kind (lexeme.other w) h = tt

own_tokens : (ts : List text.Token) → AreOfText (expression.views ts) → AreOfText (views ts)
own_tokens [] h = tt
own_tokens (t ∷ ts) h = (own_kind t.kind h.0, own_tokens ts h.1)

abbrev all_but_first : List Token → List Token
all_but_first [] = []
all_but_first (t ∷ ts) = ts

of_head : (h : Head) (ts : List Token) → AreOfText (all_but_first (head h ts)) → AreOfText ts
of_head (algorithm a) ts h = h
of_head (fair_algorithm a b) ts h = h.1

pub text_typed : (s : Syntax) (w : List ℕ) (from to : ℕ) (ts : List text.Token) (a : Algorithm) → TokAlgorithm w from to ts → AreSmall ts → Spells s ts a → IsTypedAlgorithm a
text_typed s w from to ts a k h (x, g, e, q) =
    let small = subst (λ (us : List text.Token). AreSmall us) k.tokens h in
    let own : AreOfText (views k.more) = own_tokens k.more (text_tokens w _ to k.more k.tok small.1) in
    let all : AreOfText (all_but_first (views ts)) = subst (λ (us : List text.Token). AreOfText (all_but_first (views us))) (sym k.tokens) own in
    subst IsTypedAlgorithm q (typed_algorithm s x g (of_head x.head (tokens_after_head x []) (subst (λ (us : List Token). AreOfText (all_but_first us)) e all)))
