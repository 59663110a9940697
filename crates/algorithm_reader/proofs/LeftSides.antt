-- Left sides: their trees in a pool, and how reading goes on behind a subscript or field.
use Rattle.std.proofs.Common.{◌≡◌, ℕ, zero, suc, ◌+◌, ◌*◌, ◌<◌, ◌≤◌, Bool, true, false, List, [], ◌∷◌, length, Ok, Err, Some, refl, sym, ap, subst, ◌∙◌, arith}
use Rattle.tla_token.specs.declared.place.Place.{Place}
use Rattle.tla_token.specs.declared.token.Tokens.{Tokens}
use Rattle.tla_tree.specs.Tree.{Word, Tree, node, tree, no_trees}
use Rattle.tla_tree.specs.Tree as pure
use Rattle.tla_tree.specs.Pool.{at, trees_at, Keeps}
use Rattle.tla_tree.specs.Lexical.{Mark, TokenView, Token}
use Rattle.tla_tree.specs.Lexical as tk
use Rattle.tla_tree.specs.Spelling.{Field, Phrase, Phrases, last, more, number, string, constant, name, primed, call, brackets, no_set, set_of, filter, image, no_tuple, tuple, fields, records, function, functions, except, apply, select, list, last_bullet, bullet, quantified, if_then_else, cases, local, infix_of, prefix_of, tree_of, start, spell, spell_all, subscript}
use Rattle.tla_tree.specs.Reader.{Out, Reader, ◌>>=◌, then_read, gives, next, tail, peek, a_mark, a_field, is_mark, readers}
use Rattle.tla_tree.proofs.SoundTokens.{mark_is}
use Rattle.tla_tree.proofs.SoundLists.{sound}
use Rattle.tla_tree.proofs.SpellAhead.{held}
use Rattle.tla_tree.proofs.Limited.{told_ok}
use Rattle.tla_tree.proofs.LimitedAll.{limited}
use Rattle.expr_nodes.specs.declared.cursor.Halt.{Halt}
use Rattle.expr_nodes.specs.declared.make.Read.{Read}
use Rattle.expr_nodes.specs.ReadIn.{Reads, Fails, first_of, IsIn}
use Rattle.expr_nodes.specs.Ahead.{ahead}
use Rattle.pcal_tree.specs.InMemory.{past_number}
use Rattle.syntax_reading.specs.TokenReaders.{first, Parts}
use Rattle.syntax_reading.specs.ReadSimple.{left_by, read_left}
use Rattle.algorithm_reader.specs.PartsRead.{StandsFor, parts_in}
use Rattle.algorithm_reader.specs.SimpleRead.{subscripted, selected, LeftStands, LinkOn}
use Rattle.algorithm_reader.proofs.Gathered.{fails_then}

-- ---- the name

-- a name that is in the pool stands there
pub name_stands : (p : Place) (x : Word) (ts : List Tree) (r : Read) → ((w : Bool) → IsIn w ts r (name p x)) → LeftStands p ts r.id (name p x)
name_stands p x ts r h = (let i = h true in record { below = i.below; tree = i.tree; starts = refl })

-- ---- the place at which a phrase begins is that of its first token
begins : (a : Phrase) (ts : List Token) → (first (spell a ts)).place ≡ start a
begins (number p n) ts = refl
begins (string p x) ts = refl
begins (constant p c) ts = refl
begins (name p x) ts = refl
begins (primed p x q) ts = refl
begins (call p x q xs r) ts = refl
begins (brackets p a q) ts = refl
begins (no_set p q) ts = refl
begins (set_of p xs q) ts = refl
begins (filter p q x r s t a u) ts = refl
begins (image p a q bs r) ts = refl
begins (no_tuple p q) ts = refl
begins (tuple p xs q) ts = refl
begins (fields p fs q) ts = refl
begins (records p fs q) ts = refl
begins (function p bs q a r) ts = refl
begins (functions p a q b r) ts = refl
begins (except p a q ss r) ts = refl
begins (apply a p xs q) ts = begins a _
begins (select a p f) ts = begins a _
begins (list o (last_bullet p a)) ts = refl
begins (list o (bullet p a bs)) ts = refl
begins (quantified b p bs q a) ts = refl
begins (if_then_else p a q b r c) ts = refl
begins (cases p xs) ts = refl
begins (local p ls q a) ts = refl
begins (infix_of a p o b) ts = begins a _
begins (prefix_of p o a) ts = refl

all_begin : (xs : Phrases) (ts : List Token) → (first (spell_all xs ts)).place ≡ start (first_of xs)
all_begin (last a) ts = begins a ts
all_begin (more a p xs) ts = begins a _

subscripts_spelled : (n : ℕ) (ts us : List Token) (xs : Phrases) → (readers n (Some 199)).phrases 0 ts ≡ Ok (xs, us) → spell_all xs us ≡ ts
subscripts_spelled n ts us xs e = ((sound n).phrases 0 ts xs us (told_ok ((limited true 199 n 0 199 (omega arith)).phrases 0 (λ u. u) held ts) e).0).1

pub subscripts_begin : (v : Tokens) (i : ℕ) (us : List Token) (xs : Phrases) → (parts_in v).subscripts (ahead v i) ≡ Ok (xs, us) → start (first_of xs) ≡ (first (ahead v i)).place
subscripts_begin v i us xs e = sym (all_begin xs us) ∙ ap (λ (ts : List Token). (first ts).place) (subscripts_spelled (4 * length v.items.items) (ahead v i) us xs e)

-- ---- their trees
pub subscripted_stands : {old mid new : List Tree} {p : Place} {a : Phrase} (xs : Phrases) (i j x : ℕ) (q r : Place) → Keeps old mid → x < length new → at new x ≡ node (pure.strict pure.apply) p (trees_at mid (i ∷ j ∷ [])) → at mid j ≡ subscript xs → LeftStands p old i a → LeftStands p new x (apply a q xs r)
subscripted_stands xs i j x q r k l t e h = record {
  below = l;
  tree = t ∙ (λ y. node (pure.strict pure.apply) (sym h.starts y) (tree ((k.same i h.below ∙ h.tree) y) (tree (e y) no_trees)));
  starts = h.starts;
}

pub selected_stands : {old new : List Tree} {p : Place} {a : Phrase} (f : Field) (w : Word) (i x : ℕ) (q : Place) → x < length new → at new x ≡ node (pure.strict (pure.select w)) p (trees_at old (i ∷ [])) → w ≡ f.text → LeftStands p old i a → LeftStands p new x (select a q f)
selected_stands f w i x q l t e h = record {
  below = l;
  tree = t ∙ (λ y. node (pure.strict (pure.select (e y))) (sym h.starts y) (tree (h.tree y) no_trees));
  starts = h.starts;
}

-- ---- reading behind one
pub then_on : {A B C : Type 0} (o : Out A) (g : A → Reader B) (r : B → Reader C) → then_read o (λ a. g a >>= r) ≡ then_read (then_read o g) r
then_on (Ok x) g r = refl
then_on (Err s) g r = refl

module _ (m : Parts) (a : Phrase) (ts us : List Token) (r : Phrase → Reader Phrase) where
  pub square_on : is_mark tk.open_square (next 0 ts).kind ≡ true → us ≡ tail ts → peek 0 (left_by m r a) ts ≡ then_read (subscripted m a (next 0 ts).place us) r
  square_on h t =
      let p = (next 0 ts).place in
      ap (λ (k : TokenView). left_by m r a p k ts) (mark_is tk.open_square (next 0 ts).kind h)
      ∙ ap (λ (ws : List Token). then_read (m.subscripts ws) (λ xs. a_mark 0 tk.close_square >>= λ q. r (apply a p xs q))) (sym t)
      ∙ ap (λ (f : Phrases → Reader Phrase). then_read (m.subscripts us) f) (λ j xs ws. then_on (a_mark 0 tk.close_square ws) (λ q. gives (apply a p xs q)) r j)
      ∙ then_on (m.subscripts us) (λ xs. a_mark 0 tk.close_square >>= λ q. gives (apply a p xs q)) r

  pub dot_on : is_mark tk.dot (next 0 ts).kind ≡ true → us ≡ tail ts → peek 0 (left_by m r a) ts ≡ then_read (selected a (next 0 ts).place us) r
  dot_on h t =
      let p = (next 0 ts).place in
      ap (λ (k : TokenView). left_by m r a p k ts) (mark_is tk.dot (next 0 ts).kind h)
      ∙ ap (λ (ws : List Token). then_read (a_field 0 ws) (λ f. r (select a p f))) (sym t)
      ∙ then_on (a_field 0 us) (λ f. gives (select a p f)) r

no_link_by : (m : Parts) (r : Phrase → Reader Phrase) (a : Phrase) (p : Place) (k : TokenView) (ts : List Token) → is_mark tk.open_square k ≡ false → is_mark tk.dot k ≡ false → left_by m r a p k ts ≡ Ok (a, ts)
no_link_by m r a p (tk.mark tk.open_square) ts h g = (let no : true ≡ false = h in absurd cc)
no_link_by m r a p (tk.mark tk.dot) ts h g = (let no : true ≡ false = g in absurd cc)
no_link_by m r a p k ts h g = refl

pub no_link : (m : Parts) (r : Phrase → Reader Phrase) (a : Phrase) (ts : List Token) → is_mark tk.open_square (next 0 ts).kind ≡ false → is_mark tk.dot (next 0 ts).kind ≡ false → peek 0 (left_by m r a) ts ≡ Ok (a, ts)
no_link m r a ts h g = no_link_by m r a (next 0 ts).place (next 0 ts).kind ts h g

-- one more, by what was told of what is behind
pub link_on : (m : Parts) (v : Tokens) (p : Place) (ts : List Tree) (a : Phrase) (i x j : ℕ) (o : Out Phrase) → ((r : Phrase → Reader Phrase) → peek 0 (left_by m r a) (ahead v i) ≡ then_read o r) → Reads (LeftStands p ts x) (ahead v j) o → LinkOn m v p ts a i x j
link_on m v p ts a i x j o g h = record { what = h.what; stands = h.told; goes = λ r. g r ∙ ap (λ (o : Out Phrase). then_read o r) h.is }

pub link_fails : (m : Parts) (v : Tokens) (a : Phrase) (i : ℕ) (o : Out Phrase) (e : Halt) → ((r : Phrase → Reader Phrase) → peek 0 (left_by m r a) (ahead v i) ≡ then_read o r) → Fails e o → (r : Phrase → Reader Phrase) → Fails e (peek 0 (left_by m r a) (ahead v i))
link_fails m v a i o e g h r = subst (Fails e) (sym (g r)) (fails_then e o r h)

-- ---- so far: some steps are left
pub record LeftSoFar (m : Parts) (v : Tokens) (p : Place) (ts : List Tree) (x i : ℕ) (o : Out Phrase) : Type 0 where
  pub steps : ℕ
  pub enough : length v.items.items < steps + i
  pub what : Phrase
  pub stands : LeftStands p ts x what
  pub is : o ≡ read_left m steps what (ahead v i)

pub left_begun : (m : Parts) (v : Tokens) (p : Place) (ts : List Tree) (x i n : ℕ) (a : Phrase) → length v.items.items < n + i → LeftStands p ts x a → LeftSoFar m v p ts x i (read_left m n a (ahead v i))
left_begun m v p ts x i n a h s = record { steps = n; enough = h; what = a; stands = s; is = refl }

-- one more
longer_in : (m : Parts) (v : Tokens) (p : Place) (ts us : List Tree) (x y i j k : ℕ) (a : Phrase) (o : Out Phrase) → i ≤ length v.items.items → i < j → length v.items.items < k + i → o ≡ read_left m k a (ahead v i) → LinkOn m v p us a i y j → LeftSoFar m v p us y j o
longer_in m v p ts us x y i j zero a o b l h e g = absurd (omega (arith, b, h))
longer_in m v p ts us x y i j (suc k) a o b l h e g = record { steps = k; enough = omega (arith, h, l); what = g.what; stands = g.stands; is = e ∙ g.goes (read_left m k) }

pub left_longer : (m : Parts) (v : Tokens) (p : Place) (ts us : List Tree) (x y i j : ℕ) (o : Out Phrase) → i ≤ length v.items.items → i < j → (s : LeftSoFar m v p ts x i o) → LinkOn m v p us s.what i y j → LeftSoFar m v p us y j o
left_longer m v p ts us x y i j o b l s g = longer_in m v p ts us x y i j s.steps s.what o b l s.enough s.is g

-- or none
ended_in : (m : Parts) (v : Tokens) (i k : ℕ) (a : Phrase) → i ≤ length v.items.items → length v.items.items < k + i → ((r : Phrase → Reader Phrase) → peek 0 (left_by m r a) (ahead v i) ≡ Ok (a, ahead v i)) → read_left m k a (ahead v i) ≡ Ok (a, ahead v i)
ended_in m v i zero a b h g = absurd (omega (arith, b, h))
ended_in m v i (suc k) a b h g = g (read_left m k)

pub left_ended : (m : Parts) (v : Tokens) (p : Place) (ts us : List Tree) (x i : ℕ) (o : Out Phrase) → i ≤ length v.items.items → Keeps ts us → (s : LeftSoFar m v p ts x i o) → ((r : Phrase → Reader Phrase) → peek 0 (left_by m r s.what) (ahead v i) ≡ Ok (s.what, ahead v i)) → Reads (StandsFor at past_number tree_of us x) (ahead v i) o
left_ended m v p ts us x i o b k s g = record {
  what = s.what;
  is = s.is ∙ ended_in m v i s.steps s.what b s.enough g;
  told = record { below = omega (arith, s.stands.below, k.longer); tree = k.same x s.stands.below ∙ s.stands.tree };
}

-- or it is refused
failed_in : (m : Parts) (v : Tokens) (i k : ℕ) (a : Phrase) (e : Halt) → i ≤ length v.items.items → length v.items.items < k + i → ((r : Phrase → Reader Phrase) → Fails e (peek 0 (left_by m r a) (ahead v i))) → Fails e (read_left m k a (ahead v i))
failed_in m v i zero a e b h g = absurd (omega (arith, b, h))
failed_in m v i (suc k) a e b h g = g (read_left m k)

pub left_failed : (m : Parts) (v : Tokens) (p : Place) (ts : List Tree) (x i : ℕ) (o : Out Phrase) (e : Halt) → i ≤ length v.items.items → (s : LeftSoFar m v p ts x i o) → ((r : Phrase → Reader Phrase) → Fails e (peek 0 (left_by m r s.what) (ahead v i))) → Fails e o
left_failed m v p ts x i o e b s g = subst (Fails e) (sym s.is) (failed_in m v i s.steps s.what e b s.enough g)

pub subscripted_is : (m : Parts) (a : Phrase) (p : Place) (ts us ws : List Token) (xs : Phrases) (q : Place) → m.subscripts ts ≡ Ok (xs, us) → a_mark 0 tk.close_square us ≡ Ok (q, ws) → subscripted m a p ts ≡ Ok (apply a p xs q, ws)
subscripted_is m a p ts us ws xs q e h =
    ap (λ (o : Out Phrases). then_read o (λ xs. a_mark 0 tk.close_square >>= λ q. gives (apply a p xs q))) e
    ∙ ap (λ (o : Out Place). then_read o (λ q. gives (apply a p xs q))) h
