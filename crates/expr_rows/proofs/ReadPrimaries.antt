-- Primaries from their first token on: what is read where one form more is open, and then what comes after it.
use Rattle.std.proofs.Common.{◌≡◌, ℕ, suc, ◌+◌, ◌≤◌, Bool, true, List, length, IfOk, Result, Ok, Err, Some, refl, sym, ap, ◌∙◌, subst, arith}
use Rattle.tla_token.specs.declared.place.Place.{Place}
use Rattle.tla_token.specs.declared.token.Tokens.{Tokens}
use Rattle.tla_tree.specs.Tree.{Tree}
use Rattle.tla_tree.specs.declared.op.Op.{Op}
use Rattle.tla_tree.specs.Lexical.{TokenView, Token}
use Rattle.tla_tree.specs.Lexical as tk
use Rattle.tla_tree.specs.Pool.{Keeps}
use Rattle.tla_tree.specs.Spelling.{Phrase, brackets, no_tuple, prefix_of}
use Rattle.tla_tree.specs.Reader.{Context, is_free, under_by, signed, gives, Out, Reader, then_read, next, tail, free, peek, a_mark, is_mark, room, primary, tuples, keyed, choice_from}
use Rattle.tla_tree.specs.Whole.{whole_in}
use Rattle.tla_tree.proofs.Opened.{in_brackets, in_tuples, in_choice, in_signed}
use Rattle.tla_tree.proofs.SoundTokens.{mark_is}
use Rattle.expr_nodes.specs.declared.cursor.Halt.{Halt}
use Rattle.expr_nodes.specs.declared.make.Read.{Read}
use Rattle.expr_nodes.specs.ReadIn.{IsIn, Told}
use Rattle.expr_nodes.specs.Ahead.{ahead}
use Rattle.expr_rows.specs.HasRead.{HasRead, Stands, bracketed, under_prefix}
use Rattle.expr_rows.proofs.ReadLinks.{open_at, then_two}
use Rattle.expr_rows.proofs.ReadNames.{read_on}

weaker : {X E : Type 0} {P Q : X → Type 0} (r : Result X E) → ((x : X) → P x → Q x) → IfOk r P → IfOk r Q
weaker (Ok x) f h = f x h
weaker (Err e) f h = tt

-- from further on, and with more that may be open
pub read_as : {linked : Bool} (v : Tokens) (old new : List Tree) (from n : ℕ) (r : Result (Read × ℕ) Halt) (o : Out Phrase) (j k : ℕ) → HasRead linked v old new from n r o → j ≤ from → n ≤ k → HasRead linked v old new j k r o
read_as {linked} v old new from n r o j k h l m = record {
  read = h.read;
  kept = h.kept;
  within = h.within;
  small = weaker r (λ x s. omega (arith, s, m)) h.small;
  inside = h.inside;
  further = weaker r (λ x s. omega (arith, s, l)) h.further;
}

pub bracket_more : (linked : Bool) (b e : ℕ) (p : Place) (ts us : List Token) (d : ℕ) → d + 1 ≡ b → us ≡ tail ts
    → primary (room linked (whole_in linked) (Some b)) (whole_in linked (Some b)) e p (tk.mark tk.open_bracket) ts ≡ then_read (bracketed (whole_in linked (Some d)) e p us) (λ a. (whole_in linked (Some b)).postfix e a)
bracket_more linked b e p ts us d l t =
    open_at d 0 b l (in_brackets (whole_in linked (Some b)) e p) ts
    ∙ then_two ((whole_in linked (Some d)).expr e free (tail ts)) (λ a. a_mark e tk.close_bracket) (λ a q. brackets p a q) (λ a. (whole_in linked (Some b)).postfix e a)
    ∙ ap (λ (us : List Token). then_read (bracketed (whole_in linked (Some d)) e p us) (λ a. (whole_in linked (Some b)).postfix e a)) (sym t)

pub tuple_none : (linked : Bool) (b e : ℕ) (p : Place) (ts us : List Token) → is_mark tk.close_tuple (next e ts).kind ≡ true → us ≡ tail ts → peek e (tuples (whole_in linked (Some b)) e p) ts ≡ Ok (no_tuple p (next e ts).place, us)
tuple_none linked b e p ts us h t = ap (λ (k : TokenView). tuples (whole_in linked (Some b)) e p (next e ts).place k ts) (mark_is tk.close_tuple (next e ts).kind h) ∙ ap (λ (us : List Token). Ok (no_tuple p (next e ts).place, us)) (sym t)

-- a form that opens, read where the edge is the same, and then what comes after it
pub opened_on : {linked : Bool} (v : Tokens) (old mid new : List Tree) (e f d b j from i : ℕ) (x : Read) (r : Result (Read × ℕ) Halt) (p : Out Phrase) (o : ℕ → Out Phrase) (k : Phrase → Reader Phrase)
    → f ≡ e → HasRead linked v old mid from (suc d) (Ok (x, i)) (o f) → j ≤ from → suc d ≤ b → p ≡ then_read (o e) k
    → Keeps mid new → ((a : Phrase) → IsIn linked mid x a → Told (λ (y : Read × ℕ) a. IsIn linked new y.0 a) (λ y. ahead v y.1) r (k a (ahead v i))) → IfOk r (λ y. Stands v new i b y) → HasRead linked v old new j b r p
opened_on {linked} v old mid new e f d b j from i x r p o k g h l m q kept told stands =
    subst (λ (o : Out Phrase). HasRead linked v old new j b r o) (sym q)
    (read_on v old mid new j i b x r (o e) k (read_as v old mid from (suc d) (Ok (x, i)) (o e) j b (subst (λ (e : ℕ). HasRead linked v old mid from (suc d) (Ok (x, i)) (o e)) g h) l m) kept told stands)

-- a form that opens, and nothing after it
pub opened_as : {linked : Bool} (v : Tokens) (old new : List Tree) (e f d b j from : ℕ) (r : Result (Read × ℕ) Halt) (p : Out Phrase) (o : ℕ → Out Phrase)
    → f ≡ e → HasRead linked v old new from (suc d) r (o f) → j ≤ from → suc d ≤ b → p ≡ o e → HasRead linked v old new j b r p
opened_as {linked} v old new e f d b j from r p o g h l m q =
    subst (λ (o : Out Phrase). HasRead linked v old new j b r o) (sym q) (read_as v old new from (suc d) r (o e) j b (subst (λ (e : ℕ). HasRead linked v old new from (suc d) r (o e)) g h) l m)

pub tuple_more : (linked : Bool) (b e : ℕ) (p : Place) (ts us : List Token) (d : ℕ) → d + 1 ≡ b → us ≡ tail ts
    → primary (room linked (whole_in linked) (Some b)) (whole_in linked (Some b)) e p (tk.mark tk.open_tuple) ts ≡ then_read (peek e (tuples (whole_in linked (Some d)) e p) us) (λ a. (whole_in linked (Some b)).postfix e a)
tuple_more linked b e p ts us d l t = open_at d 0 b l (in_tuples (whole_in linked (Some b)) e p) ts ∙ ap (λ (us : List Token). then_read (peek e (tuples (whole_in linked (Some d)) e p) us) (λ a. (whole_in linked (Some b)).postfix e a)) (sym t)

pub if_more : (linked : Bool) (b e : ℕ) (p : Place) (ts us : List Token) (d : ℕ) → d + 1 ≡ b → us ≡ tail ts → keyed (room linked (whole_in linked) (Some b)) e p tk.if_key ts ≡ choice_from (whole_in linked (Some d)) e p us
if_more linked b e p ts us d l t = open_at d 0 b l (in_choice e p) ts ∙ ap (choice_from (whole_in linked (Some d)) e p) (sym t)

-- a primary of one token, and then what comes after it
pub token_on : {linked : Bool} (v : Tokens) (old mid new : List Tree) (b j i : ℕ) (x : Read) (r : Result (Read × ℕ) Halt) (a : Phrase) (k : Phrase → Reader Phrase) (p : Out Phrase)
    → IsIn linked mid x a → Keeps old mid → x.shape.nesting ≤ b → i ≤ length v.items.items → j ≤ i → p ≡ k a (ahead v i)
    → Keeps mid new → ((a : Phrase) → IsIn linked mid x a → Told (λ (y : Read × ℕ) a. IsIn linked new y.0 a) (λ y. ahead v y.1) r (k a (ahead v i))) → IfOk r (λ y. Stands v new i b y) → HasRead linked v old new j b r p
token_on {linked} v old mid new b j i x r a k p h kept low l m q kept' told stands =
    let one : HasRead linked v old mid j b (Ok (x, i)) (Ok (a, ahead v i)) = record { read = record { what = a; is = refl; told = h }; kept = kept; within = h.below; small = low; inside = l; further = m } in
    subst (λ (o : Out Phrase). HasRead linked v old new j b r o) (sym q) (read_on v old mid new j i b x r (Ok (a, ahead v i)) k one kept' told stands)

pub prefix_more : (linked : Bool) (b e : ℕ) (c : Context) (p : Place) (q : Op) (ts us : List Token) (d : ℕ) → is_free c q ≡ true → d + 1 ≡ b → us ≡ tail ts
    → signed (room linked (whole_in linked) (Some b)) (whole_in linked (Some b)) e c p q (Some q) ts ≡ under_prefix (whole_in linked (Some d)) e p q us
prefix_more linked b e c p q ts us d f l t =
    open_at d 0 b l (in_signed e c p q) ts
    ∙ ap (λ (free : Bool). then_read (under_by free (whole_in linked (Some d)) e q (tail ts)) (λ a. gives (prefix_of p q a))) f
    ∙ ap (under_prefix (whole_in linked (Some d)) e p q) (sym t)
