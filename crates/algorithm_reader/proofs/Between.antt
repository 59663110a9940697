-- The tokens between two numbers of tokens: where the first and the last of them are.
use Rattle.std.proofs.Common.{◌≡◌, ℕ, ◌+◌, ◌-◌, ◌<◌, ◌≤◌, List, [], ◌∷◌, ◌++◌, length, map, drop, drop-drop, length-append, length-drop, refl, sym, ap, ◌∙◌, arith}
use Rattle.std.proofs.lemmas.List.{drop-map, length-map}
use Rattle.tla_token.specs.declared.token.Tokens.{Tokens}
use Rattle.tla_token.specs.declared.token.Token as code_token
use Rattle.tla_token.specs.TokensSeen.{token_seen}
use Rattle.tla_tree.specs.TokenViews.{view}
use Rattle.tla_tree.specs.Lexical.{Token}
use Rattle.expr_nodes.specs.Ahead.{ahead}
use Rattle.pcal_tree.specs.GrammarParts.{first_place, last_place}
use Rattle.syntax_reading.specs.TokenReaders.{first}

last_first : (x : Token) (xs ys : List Token) → (first (drop (length xs) (x ∷ (xs ++ ys)))).place ≡ last_place (x ∷ xs)
last_first x [] ys = refl
last_first x (y ∷ xs) ys = last_first y xs ys

ahead_on : (v : Tokens) (i k : ℕ) → drop k (ahead v i) ≡ ahead v (i + k)
ahead_on v i k = (let see : code_token.Token → Token = λ t. view (token_seen v.bytes.items t) in drop-map see k (drop i v.items.items) ∙ ap (map see) (drop-drop k i v.items.items))

pub ahead_length : (v : Tokens) (i : ℕ) → i ≤ length v.items.items → length (ahead v i) + i ≡ length v.items.items
ahead_length v i h = (let see : code_token.Token → Token = λ t. view (token_seen v.bytes.items t) in omega (arith, h, length-map (drop i v.items.items) see, length-drop i v.items.items))

pub between : (v : Tokens) (i j : ℕ) (xs : List Token) → i < j → j ≤ length v.items.items → ahead v i ≡ xs ++ ahead v j → ((first (ahead v i)).place ≡ first_place xs) × ((first (ahead v (j - 1))).place ≡ last_place xs)
between v i j [] l b e = absurd (omega (arith, l, b, ahead_length v i (omega (arith, l, b)), ahead_length v j b, ap length e))
between v i j (x ∷ xs) l b e =
    let at : j - 1 ≡ i + length xs = omega (arith, l, b, ahead_length v i (omega (arith, l, b)), ahead_length v j b, ap length e, length-append xs (ahead v j)) in (
      ap (λ (ts : List Token). (first ts).place) e,
      ap (λ (k : ℕ). (first (ahead v k)).place) at ∙ ap (λ (ts : List Token). (first ts).place) (sym (ahead_on v i (length xs)) ∙ ap (drop (length xs)) e) ∙ last_first x xs (ahead v j),
    )
