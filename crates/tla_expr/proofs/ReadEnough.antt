-- With enough steps the readers read the same, and what they read has a token at least.
use Rattle.std.proofs.Common.{Bool, ◌≡◌, ℕ, zero, suc, ◌+◌, ◌*◌, ◌<◌, ◌≤◌, List, [], ◌∷◌, length, Some, Result, Ok, Err, false, refl, sym, ap, ◌∙◌, subst, length-append, arith, true}
use Rattle.std.proofs.lemmas.List.{length-drop}
use Rattle.std.specs.Prelude.{Vec, drop, IfOk}
use Rattle.std.specs.declared.alloc.Global.{Global}
use Rattle.tla_token.specs.declared.token.Tokens.{Tokens}
use Rattle.tla_token.specs.declared.token.Token as code_token
use Rattle.tla_tree.specs.Tree.{Tree}
use Rattle.tla_tree.specs.Lexical.{Token}
use Rattle.tla_tree.specs.Spelling.{Phrase, number, string, constant, name, primed, call, brackets, no_set, set_of, filter, image, no_tuple, tuple, fields, records, function, functions, except, apply, select, list, quantified, if_then_else, cases, local, infix_of, prefix_of, Phrases, last, more, last_bullet, bullet, spell, spell_all}
use Rattle.tla_tree.specs.Reader.{Limit, Out, Context, free, readers, readers_in}
use Rattle.tla_tree.specs.Whole.{whole_in}
use Rattle.tla_tree.proofs.Whole.{fair_whole}
use Rattle.tla_tree.proofs.SoundLists.{sound}
use Rattle.tla_tree.proofs.SpellAppend.{spell_then, all_more}
use Rattle.tla_tree.proofs.SpellAhead.{held}
use Rattle.tla_tree.proofs.Limited.{told_ok}
use Rattle.tla_tree.proofs.LimitedAll.{limited}
use Rattle.expr_nodes.specs.declared.cursor.Halt.{Halt}
use Rattle.expr_nodes.specs.declared.make.Read.{Read}
use Rattle.expr_nodes.specs.declared.make.Row.{Row}
use Rattle.expr_nodes.specs.ReadIn.{seen, IsIn, AreIn, Reads, Fails, Told}
use Rattle.expr_nodes.specs.Ahead.{ahead}
use Rattle.tla_expr.specs.ReadTrees.{ReadsTree, ReadsTrees}

-- ---- steps
-- four for each token are enough
pub expr_enough : (linked : Bool) (n : ℕ) (b : Limit) (e : ℕ) (c : Context) (ts : List Token) → 4 * length ts ≤ n → (readers_in linked n b).expr e c ts ≡ (whole_in linked b).expr e c ts
unfolding readers_in
expr_enough linked zero b e c [] h = refl
expr_enough linked zero b e c (t ∷ ts) h = absurd (omega (arith, h))
expr_enough linked (suc n) b e c ts h = ((fair_whole linked n b).expr e c).same ts (omega (arith, h))

pub phrases_enough : (linked : Bool) (n : ℕ) (b : Limit) (e : ℕ) (ts : List Token) → 4 * length ts ≤ n → (readers_in linked n b).phrases e ts ≡ (whole_in linked b).phrases e ts
unfolding readers_in
phrases_enough linked zero b e [] h = refl
phrases_enough linked zero b e (t ∷ ts) h = absurd (omega (arith, h))
phrases_enough linked (suc n) b e ts h = ((fair_whole linked n b).phrases e).same ts (omega (arith, h))

-- ---- tokens
-- a phrase has one at least
pub some_token : (a : Phrase) (r : List Token) → 1 ≤ length (spell a r)
some_token (number p n) r = omega arith
some_token (string p x) r = omega arith
some_token (constant p c) r = omega arith
some_token (name p x) r = omega arith
some_token (primed p x q) r = omega arith
some_token (call p x q xs s) r = omega arith
some_token (brackets p a q) r = omega arith
some_token (no_set p q) r = omega arith
some_token (set_of p xs q) r = omega arith
some_token (filter p q x s t u a b) r = omega arith
some_token (image p a q bs s) r = omega arith
some_token (no_tuple p q) r = omega arith
some_token (tuple p xs q) r = omega arith
some_token (fields p fs q) r = omega arith
some_token (records p fs q) r = omega arith
some_token (function p bs q a s) r = omega arith
some_token (functions p a q b s) r = omega arith
some_token (except p a q ss s) r = omega arith
some_token (apply a p xs q) r = some_token a _
some_token (select a p f) r = some_token a _
some_token (list o (last_bullet p a)) r = omega arith
some_token (list o (bullet p a bs)) r = omega arith
some_token (quantified b p bs q a) r = omega arith
some_token (if_then_else p a q b s c) r = omega arith
some_token (cases p xs) r = omega arith
some_token (local p ls q a) r = omega arith
some_token (infix_of a p o b) r = some_token a _
some_token (prefix_of p o a) r = omega arith

some_tokens : (xs : Phrases) (r : List Token) → 1 ≤ length (spell_all xs r)
some_tokens (last a) r = some_token a r
some_tokens (more a p xs) r = some_token a _

-- what is read is spelled by the tokens up to those that are left
expr_spelled : (linked : Bool) (b e : ℕ) (ts us : List Token) (a : Phrase) → (whole_in linked (Some b)).expr e free ts ≡ Ok (a, us) → spell a us ≡ ts
expr_spelled linked b e ts us a i =
    let n = suc (suc (4 * length ts)) in
    ((sound n).expr e free ts a us (told_ok ((limited linked b n 0 b (omega arith)).expr e free refl (λ u. u) held ts) i).0).2

all_spelled : (linked : Bool) (b e : ℕ) (ts us : List Token) (xs : Phrases) → (whole_in linked (Some b)).phrases e ts ≡ Ok (xs, us) → spell_all xs us ≡ ts
all_spelled linked b e ts us xs i =
    let n = suc (suc (4 * length ts)) in
    ((sound n).phrases e ts xs us (told_ok ((limited linked b n 0 b (omega arith)).phrases e (λ u. u) held ts) i).0).1

module _ (v : Tokens) (i : ℕ) where
  seen_length : (bytes : List ℕ) (ts : List code_token.Token) → length (seen bytes ts) ≡ length ts
  seen_length bytes [] = refl
  seen_length bytes (t ∷ ts) = ap suc (seen_length bytes ts)

  ahead_length : (i : ℕ) → i ≤ length v.items.items → length (ahead v i) + i ≡ length v.items.items
  ahead_length i k = (let m = seen_length v.bytes.items (drop i v.items.items) in let d = length-drop i v.items.items in omega (arith, m, d, k))

  -- ---- what the code gives
  module _ (new : List Tree) (b : ℕ) where
    pub reads_tree : (x : Read) (j : ℕ) → Reads (IsIn true new x) (ahead v j) ((whole_in true (Some b)).expr 0 free (ahead v i)) → ReadsTree v new i b (Ok (x.id, j))
    reads_tree x j r n k = record { what = r.what; is = expr_enough true n (Some b) 0 free (ahead v i) k ∙ r.is; told = record { below = r.told.below; tree = r.told.tree } }

    pub fails_tree : (e : Halt) → Fails e ((whole_in true (Some b)).expr 0 free (ahead v i)) → ReadsTree v new i b (Err e)
    fails_tree e f n k = subst (λ (o : Out Phrase). Fails e o) (sym (expr_enough true n (Some b) 0 free (ahead v i) k)) f

    pub reads_further : (linked : Bool) (e : ℕ) (x : Read) (j : ℕ) → i ≤ length v.items.items → j ≤ length v.items.items → Reads (IsIn linked new x) (ahead v j) ((whole_in linked (Some b)).expr e free (ahead v i)) → i < j
    reads_further linked e x j h k r =
        let s = ap length (sym (spell_then r.what (ahead v j)) ∙ expr_spelled linked b e (ahead v i) (ahead v j) r.what r.is) in
        omega (arith, s, length-append (spell r.what []) (ahead v j), some_token r.what [], ahead_length i h, ahead_length j k)

    pub reads_trees : (is : Vec ℕ Global) (row : Row) (j : ℕ) → Reads (AreIn true new is.items row) (ahead v j) ((whole_in true (Some b)).phrases 0 (ahead v i)) → ReadsTrees v new i b (Ok (is, j))
    reads_trees is row j r n k = record { what = r.what; is = phrases_enough true n (Some b) 0 (ahead v i) k ∙ r.is; told = record { below = r.told.below; trees = r.told.trees } }

    pub fails_trees : (e : Halt) → Fails e ((whole_in true (Some b)).phrases 0 (ahead v i)) → ReadsTrees v new i b (Err e)
    fails_trees e f n k = subst (λ (o : Out Phrases). Fails e o) (sym (phrases_enough true n (Some b) 0 (ahead v i) k)) f

    pub all_further : (is : List ℕ) (row : Row) (j : ℕ) → i ≤ length v.items.items → j ≤ length v.items.items → Reads (AreIn true new is row) (ahead v j) ((whole_in true (Some b)).phrases 0 (ahead v i)) → i < j
    all_further is row j h k r =
        let s = ap length (sym (all_more r.what [] (ahead v j)) ∙ all_spelled true b 0 (ahead v i) (ahead v j) r.what r.is) in
        omega (arith, s, length-append (spell_all r.what []) (ahead v j), some_tokens r.what [], ahead_length i h, ahead_length j k)

    pub bounded_further : (e : ℕ) (r : Result (Read × ℕ) Halt) → i ≤ length v.items.items → IfOk r (λ x. x.1 ≤ length v.items.items) → Told (λ (x : Read × ℕ) a. IsIn false new x.0 a) (λ x. ahead v x.1) r ((whole_in false (Some b)).expr e free (ahead v i)) → IfOk r (λ x. i < x.1)
    bounded_further e (Ok (x, j)) h k t = reads_further false e x j h k t
    bounded_further e (Err w) h k t = tt
