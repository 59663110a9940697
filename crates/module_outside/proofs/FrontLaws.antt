-- Tokens from a number on, by the first of them.
use Rattle.std.proofs.Common.{◌≡◌, ℕ, ◌+◌, ◌<◌, ◌≤◌, [], ◌∷◌, length, drop, get_or, sym, ap, ◌∙◌}
use Rattle.std.proofs.lemmas.List.{drop_more, drop_all}
use Rattle.tla_token.specs.declared.token.Token as code
use Rattle.tla_token.specs.declared.token.Tokens.{Tokens}
use Rattle.tla_token.specs.TokensSeen.{kind_seen}
use Rattle.tla_tree.specs.Lexical.{TokenView, token}
use Rattle.tla_tree.specs.TokenViews.{kind_of}
use Rattle.expr_nodes.specs.ReadIn.{seen}
use Rattle.expr_nodes.specs.Ahead.{ahead}

pub ahead_there : (v : Tokens) (i : ℕ) (t : code.Token) (k : TokenView) → t ≡ get_or v.items.items i t → i < length v.items.items → k ≡ kind_of (kind_seen v.bytes.items t.kind) → ahead v i ≡ token t.place k ∷ ahead v (i + 1)
ahead_there v i t k e l h = ap (seen v.bytes.items) (drop_more v.items.items i t l ∙ ap (λ (u : code.Token). u ∷ drop (i + 1) v.items.items) (sym e)) ∙ ap (λ (k : TokenView). token t.place k ∷ ahead v (i + 1)) (sym h)

pub ahead_end : (v : Tokens) (i : ℕ) → length v.items.items ≤ i → ahead v i ≡ []
ahead_end v i l = ap (seen v.bytes.items) (drop_all i v.items.items l)
