-- Numbers that are not too large, and expressions that are all the tokens left.
use Rattle.std.proofs.Common.{◌≡◌, ℕ, zero, suc, ◌+◌, ◌*◌, ◌<◌, ◌≤◌, Bool, true, false, ◌&&◌, nat_lt, List, [], ◌∷◌, length, drop, Some, None, Result, Ok, Err, refl, sym, ap, ◌∙◌, subst, arith, ltb-true}
use Rattle.std.specs.Prelude.{if◌then◌else◌}
use Rattle.std.proofs.lemmas.Bool.{and_parts}
use Rattle.std.proofs.lemmas.List.{drop-map}
use Rattle.tla_token.specs.declared.token.Tokens.{Tokens}
use Rattle.tla_token.specs.declared.token.Token as code
use Rattle.tla_token.specs.declared.rule.Rule.{Rule}
use Rattle.tla_token.specs.Limits.{past_numbers, deepest_expression}
use Rattle.tla_token.specs.TokensSeen.{token_seen}
use Rattle.tla_tree.specs.Tree.{Tree}
use Rattle.tla_tree.specs.Lexical.{TokenView, Token}
use Rattle.tla_tree.specs.Lexical as tk
use Rattle.tla_tree.specs.TokenViews.{view}
use Rattle.tla_tree.specs.Spelling.{Phrase}
use Rattle.tla_tree.specs.Pool.{at}
use Rattle.tla_tree.specs.Reader.{Out, next, read_limited}
use Rattle.expr_nodes.specs.declared.cursor.Halt.{Halt}
use Rattle.expr_nodes.specs.declared.cursor.Halt.TheVariants as halt
use Rattle.expr_nodes.specs.ReadIn.{Fails}
use Rattle.expr_nodes.specs.Ahead.{ahead}
use Rattle.tla_expr.specs.Numbers.{NumbersFit}
use Rattle.tla_expr.specs.ReadTrees.{ReadsTree}
use Rattle.outside_reading.specs.PlainUnits.{whole_tree, body_in}
use Rattle.outside_reading.specs.SmallNumbers.{is_small, all_small}
use Rattle.module_outside.proofs.FrontLaws.{ahead_end}
use Rattle.module_outside.proofs.UnitLaws.{ahead_length}

-- ---- numbers

small_dropped : (ts : List Token) (i : ℕ) → all_small ts ≡ true → all_small (drop i ts) ≡ true
small_dropped ts zero h = h
small_dropped [] (suc i) h = refl
small_dropped (t ∷ ts) (suc i) h = small_dropped ts i (and_parts (is_small t.kind) (all_small ts) h).1

ahead_dropped : (v : Tokens) (i : ℕ) → ahead v i ≡ drop i (ahead v 0)
ahead_dropped v i = sym (drop-map (λ (t : code.Token). view (token_seen v.bytes.items t)) i v.items.items)

next_small : (e : ℕ) (ts : List Token) → all_small ts ≡ true → is_small (next e ts).kind ≡ true
next_small e [] h = refl
next_small e (t ∷ ts) h = by (nat_lt e t.place.col)
  where
    by : (b : Bool) → is_small (if b then t else next e []).kind ≡ true
    by true = (and_parts (is_small t.kind) (all_small ts) h).0
    by false = refl

number_small : (k : TokenView) (n : ℕ) → is_small k ≡ true → k ≡ tk.number n → n < past_numbers
number_small k n h e = ltb-true n past_numbers (ap is_small (sym e) ∙ h)

pub numbers_fit : (v : Tokens) → all_small (ahead v 0) ≡ true → NumbersFit v
numbers_fit v h i e n k = number_small (next e (ahead v i)).kind n (next_small e (ahead v i) (ap all_small (ahead_dropped v i) ∙ small_dropped (ahead v 0) i h)) k

-- ---- in a loop

front_small : (ts : List Token) (t : Token) (us : List Token) → ts ≡ t ∷ us → all_small ts ≡ (is_small t.kind && all_small us)
front_small ts t us e = ap all_small e

pub large_here : (v : Tokens) (i : ℕ) (t : Token) (b : Bool) → ahead v i ≡ t ∷ ahead v (i + 1) → b ≡ is_small t.kind → b ≡ false → all_small (ahead v i) ≡ all_small (ahead v 0) → false ≡ all_small (ahead v 0)
large_here v i t b e h f inv = ap (λ (c : Bool). c && all_small (ahead v (i + 1))) (sym f ∙ h) ∙ sym (ap all_small e) ∙ inv

pub small_here : (v : Tokens) (i : ℕ) (t : Token) (b : Bool) → ahead v i ≡ t ∷ ahead v (i + 1) → b ≡ is_small t.kind → b ≡ true → all_small (ahead v i) ≡ all_small (ahead v 0) → all_small (ahead v (i + 1)) ≡ all_small (ahead v 0)
small_here v i t b e h f inv = ap (λ (c : Bool). c && all_small (ahead v (i + 1))) (sym f ∙ h) ∙ sym (ap all_small e) ∙ inv

pub small_end : (v : Tokens) (i : ℕ) → length v.items.items ≤ i → all_small (ahead v i) ≡ all_small (ahead v 0) → true ≡ all_small (ahead v 0)
small_end v i l inv = ap all_small (sym (ahead_end v i l)) ∙ inv

-- ---- bodies

pub body_whole : (v : Tokens) (ts : List Tree) (i e end : ℕ) (r : Result (ℕ × ℕ) Halt) → r ≡ Ok (e, end) → ReadsTree v ts i deepest_expression r → end ≡ length v.items.items → Some (at ts e) ≡ body_in (ahead v i)
body_whole v ts i e end r n h l =
    let w : ReadsTree v ts i deepest_expression (Ok (e, end)) = subst (λ (r : Result (ℕ × ℕ) Halt). ReadsTree v ts i deepest_expression r) n h in
    let k = w (4 * length (ahead v i)) (omega arith) in
    ap (λ (t : Tree). Some t) k.told.tree ∙ ap (λ (us : List Token). whole_tree (Ok (k.what, us))) (sym (ahead_end v end (omega (arith, l)))) ∙ ap whole_tree (sym k.is)

pub body_longer : (v : Tokens) (ts : List Tree) (i e end : ℕ) (r : Result (ℕ × ℕ) Halt) → r ≡ Ok (e, end) → ReadsTree v ts i deepest_expression r → end < length v.items.items → None ≡ body_in (ahead v i)
body_longer v ts i e end r n h l =
    let w : ReadsTree v ts i deepest_expression (Ok (e, end)) = subst (λ (r : Result (ℕ × ℕ) Halt). ReadsTree v ts i deepest_expression r) n h in
    let k = w (4 * length (ahead v i)) (omega arith) in
    more k.what (ahead v end) (let n = ahead_length v end (omega (arith, l)) in omega (arith, n, l)) ∙ ap whole_tree (sym k.is)
  where
    more : (a : Phrase) (us : List Token) → 0 < length us → None ≡ whole_tree (Ok (a, us))
    more a [] l = absurd (omega (arith, l))
    more a (u ∷ us) l = refl

pub body_refused : (v : Tokens) (ts : List Tree) (i : ℕ) (r : Result (ℕ × ℕ) Halt) (q : Rule) (n : ℕ) → r ≡ Err (halt.Refused q n) → ReadsTree v ts i deepest_expression r → None ≡ body_in (ahead v i)
body_refused v ts i r q n e h =
    let w : ReadsTree v ts i deepest_expression (Err (halt.Refused q n)) = subst (λ (r : Result (ℕ × ℕ) Halt). ReadsTree v ts i deepest_expression r) e h in
    by (read_limited (ahead v i)) (w (4 * length (ahead v i)) (omega arith))
  where
    by : (o : Out Phrase) → Fails (halt.Refused q n) o → None ≡ whole_tree o
    by (Ok x) f = absurd f
    by (Err s) f = refl
