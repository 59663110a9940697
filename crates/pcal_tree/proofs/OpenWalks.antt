-- Walks over the tokens of parts of algorithms with the forms that are open at each: brackets that follow one another, and heads right behind one another.
use Rattle.std.proofs.Common.{◌≡◌, ℕ, suc, ◌+◌, ◌≤◌, Bool, true, false, List, [], ◌∷◌, ◌++◌, length, map, Option, Some, None, codes, refl, sym, ap, ◌∙◌, subst, arith}
use Rattle.tla_token.specs.declared.place.Place.{Place}
use Rattle.tla_tree.specs.Tree.{Word}
use Rattle.tla_tree.specs.Lexical.{TokenView, Token, token}
use Rattle.tla_tree.specs.Lexical as tk
use Rattle.tla_tree.specs.Spelling.{Phrase, Phrases}
use Rattle.tla_tree.specs.Spelling as spelled
use Rattle.tla_tree.specs.Nesting.{counts, counts_all}
use Rattle.tla_tree.specs.FirstStop.{Look, looks, Open}
use Rattle.tla_tree.proofs.BracketCounts.{is_open, leads, Climbs, pass, off_field, climb_one, climb_all}
use Rattle.tla_tree.proofs.Columns.{looks_ahead}
use Rattle.tla_tree.proofs.CountsLaws.{count_one, count_all}
use Rattle.tla_tree.proofs.SpellAppend.{spell_then, all_more}
use Rattle.pcal_tree.specs.GrammarParts as part
use Rattle.pcal_tree.specs.OpenForms.{here, within, expression_opens}
use Rattle.pcal_tree.proofs.CountsAhead.{ahead, ahead_all}
use Rattle.pcal_tree.proofs.FieldWords.{introduces, Named, named_one, named_all}
use Rattle.pcal_tree.proofs.HeadWalks.{Behind, other, naming, head, closed, is_head, is_close, is_end, by_word, by_close, When, Nests, Stands, pass_named, calm, Outside, calm_step, introducing_step, like_other}
use Rattle.pcal_tree.proofs.ExpressionTokens.{begins_phrase}
use Rattle.std.proofs.lemmas.Option.{same_Some}
use Rattle.std.proofs.lemmas.Bool.{both_ways}

abbrev pub expressions_of : List Open → List ℕ
expressions_of os = map (λ (o : Open). o.expressions) os

abbrev pub statements_of : List Open → List ℕ
statements_of os = map (λ (o : Open). o.statements) os

-- where tokens stand: behind what isn't told; or anywhere outside heads; or there and behind the head of form d
pub data Where : Type 0 where
  plainly : Where
  anywhere : Where
  below : ℕ → Where

abbrev pub Enters : Where → Behind → Type 0
Enters w other = Unit {0}
Enters w (head m) = ⊥
Enters plainly s = ⊥
Enters w naming = Unit {0}
Enters anywhere s = ⊥
Enters (below d) (closed m) = d ≡ m

pub record Walks (w : Where) (ts : List Token) (os : List Open) : Type 0 where
  pub brackets : (k : ℕ) → Climbs false k (looks ts) (expressions_of os)
  pub heads : (s : Behind) → Enters w s → Nests s (looks ts) (statements_of os)

outside : (w : Where) (s : Behind) → Enters w s → Outside s
outside w other e = tt
outside w naming e = tt
outside w (head m) e = e
outside w (closed m) e = tt

pub loosen : {w : Where} {ts : List Token} {os : List Open} → Walks w ts os → Walks plainly ts os
loosen {w} {ts} {os} h = record { brackets = h.brackets; heads = by }
  where
    by : (s : Behind) → Enters plainly s → Nests s (looks ts) (statements_of os)
    by other e = h.heads other tt
    by naming e = absurd e
    by (head m) e = absurd e
    by (closed m) e = absurd e

pub nothing : Walks plainly [] []
nothing = record { brackets = λ k. tt; heads = λ s e. tt }

-- ---- single tokens

pub put : {w : Where} {t : Token} {o : Open} {ts : List Token} {os : List Open} → leads t.kind ≡ false → calm t.kind ≡ true → Walks plainly ts os → Walks w (t ∷ ts) (o ∷ os)
put {w} {t} {o} {ts} {os} l c h = record { brackets = λ k. pass t false k o.expressions ts (expressions_of os) l (h.brackets o.expressions); heads = by }
  where
    by : (s : Behind) → Enters w s → Nests s (looks (t ∷ ts)) (statements_of (o ∷ os))
    by s e = (let v = calm_step s t.kind o.statements (outside w s e) c in (v.0, subst (λ (b : Behind). Nests b (looks ts) (statements_of os)) (sym v.1) (h.heads other tt)))

-- a token that a field's name may come after
pub put_before_name : {w : Where} {t : Token} {o : Open} {ts : List Token} {os : List Open} → leads t.kind ≡ false → introduces t.kind ≡ true → Walks anywhere ts os → Walks w (t ∷ ts) (o ∷ os)
put_before_name {w} {t} {o} {ts} {os} l c h = record { brackets = λ k. pass t false k o.expressions ts (expressions_of os) l (h.brackets o.expressions); heads = by }
  where
    by : (s : Behind) → Enters w s → Nests s (looks (t ∷ ts)) (statements_of (o ∷ os))
    by s e = (let v = introducing_step s t.kind o.statements (outside w s e) c in (v.0, subst (λ (b : Behind). Nests b (looks ts) (statements_of os)) (sym v.1) (h.heads naming tt)))

-- a dot and the field's name
pub put_field : {w : Where} {p : Place} {o q : Open} {ts : List Token} {os : List Open} → (f : spelled.Field) → Walks plainly ts os → Walks w (spelled.mark p tk.dot (spelled.field_token f ts)) (o ∷ q ∷ os)
put_field {w} {p} {o} {q} {ts} {os} f h = record {
  brackets = λ k. pass (token p (tk.mark tk.dot)) false k o.expressions (spelled.field_token f ts) (q.expressions ∷ expressions_of os) refl (pass (token f.place (tk.field_kind f.is_reserved f.text)) false o.expressions q.expressions ts (expressions_of os) (off_field f) (h.brackets q.expressions));
  heads = by;
}
  where
    named : (b : Bool) → Nests naming (looks (token f.place (tk.field_kind b f.text) ∷ ts)) (statements_of (q ∷ os))
    named true = (tt, h.heads other tt)
    named false = (tt, h.heads other tt)

    by : (s : Behind) → Enters w s → Nests s (looks (spelled.mark p tk.dot (spelled.field_token f ts))) (statements_of (o ∷ q ∷ os))
    by s e = (let v = introducing_step s (tk.mark tk.dot) o.statements (outside w s e) refl in (v.0, subst (λ (b : Behind). Nests b (looks (spelled.field_token f ts)) (statements_of (q ∷ os))) (sym v.1) (named f.is_reserved)))

-- `end` and a word
pub put_end : {a b : Place} {w : Word} {o q : Open} {ts : List Token} {os : List Open} → Walks plainly ts os → Walks plainly (part.key a (codes "end") (part.key b w ts)) (o ∷ q ∷ os)
put_end {a} {b} {w} {o} {q} {ts} {os} h = record {
  brackets = λ k. pass (token a (tk.reserved (codes "end"))) false k o.expressions (part.key b w ts) (q.expressions ∷ expressions_of os) refl (pass (token b (tk.reserved w)) false o.expressions q.expressions ts (expressions_of os) refl (h.brackets q.expressions));
  heads = by;
}
  where
    by : (s : Behind) → Enters plainly s → Nests s (looks (part.key a (codes "end") (part.key b w ts))) (statements_of (o ∷ q ∷ os))
    by other e = (tt, (tt, h.heads other tt))
    by naming e = absurd e
    by (head m) e = absurd e
    by (closed m) e = absurd e

-- a round bracket before what doesn't begin with one
abbrev pub first_open : List Token → Bool
first_open [] = false
first_open (t ∷ ts) = is_open t.kind

after_lead : (j : ℕ) (ts : List Token) (ns : List ℕ) → first_open ts ≡ false → ((k : ℕ) → Climbs false k (looks ts) ns) → Climbs true j (looks ts) ns
after_lead j [] ns f h = tt
after_lead j (t ∷ ts) [] f h = tt
after_lead j (t ∷ ts) (n ∷ ns) f h = (λ e o. absurd (both_ways (is_open t.kind) f o), (h j).1)

pub put_bracket : {w : Where} {p : Place} {o : Open} {ts : List Token} {os : List Open} → first_open ts ≡ false → Walks plainly ts os → Walks w (part.mark p tk.open_bracket ts) (o ∷ os)
put_bracket {w} {p} {o} {ts} {os} f h = record {
  brackets = λ k. ((λ e q. absurd (both_ways false refl e)), after_lead o.expressions ts (expressions_of os) f h.brackets);
  heads = by;
}
  where
    by : (s : Behind) → Enters w s → Nests s (looks (part.mark p tk.open_bracket ts)) (statements_of (o ∷ os))
    by s e = (let v = calm_step s (tk.mark tk.open_bracket) o.statements (outside w s e) refl in (v.0, subst (λ (b : Behind). Nests b (looks ts) (statements_of os)) (sym v.1) (h.heads other tt)))

-- ---- expressions

-- tokens and counts of an expression or of some, put before others, n forms being open round it
pub record Counted (n : ℕ) (x : List Token → List Token) (c : List ℕ → List ℕ) : Type 0 where
  pub climbs : (r : List ℕ) (ts : List Token) → ((k : ℕ) → Climbs false k (looks ts) r) → (b : Bool) (k : ℕ) → (b ≡ true → k ≡ n) → Climbs b k (looks (x ts)) (c r)
  pub before : (r s : List ℕ) → c (r ++ s) ≡ c r ++ s
  pub tokens : (ts : List Token) → x ts ≡ x [] ++ ts
  pub as_many : length (x []) ≡ length (c [])
  pub named : (b : Bool) → Named b (x [])

pub counted_one : (n : ℕ) (e : Phrase) → Counted n (spelled.spell e) (counts n e)
counted_one n e = record {
  climbs = climb_one n e;
  before = (ahead e n).is;
  tokens = spell_then e;
  as_many = omega (arith, count_one n e [] []);
  named = λ b. (named_one {b = b} e).named [] refl;
}

pub counted_all : (n : ℕ) (xs : Phrases) → Counted n (spelled.spell_all xs) (counts_all n xs)
counted_all n xs = record {
  climbs = climb_all n xs;
  before = (ahead_all xs n).is;
  tokens = λ ts. all_more xs [] ts;
  as_many = omega (arith, count_all n xs [] []);
  named = λ b. (named_all {b = b} xs).named [] refl;
}

expressions_within : (d : ℕ) (ns : List ℕ) (os : List Open) → expressions_of (within d ns ++ os) ≡ ns ++ expressions_of os
expressions_within d [] os = refl
expressions_within d (n ∷ ns) os = ap (λ (ms : List ℕ). n ∷ ms) (expressions_within d ns os)

abbrev same : ℕ → List ℕ → List ℕ
same d ns = map (λ (n : ℕ). d) ns

statements_within : (d : ℕ) (ns ms : List ℕ) (os : List Open) → statements_of (within d (ns ++ ms) ++ os) ≡ same d ns ++ statements_of (within d ms ++ os)
statements_within d [] ms os = refl
statements_within d (n ∷ ns) ms os = ap (λ (ks : List ℕ). d ∷ ks) (statements_within d ns ms os)

same_length : (d : ℕ) (ns : List ℕ) → length (same d ns) ≡ length ns
same_length d [] = refl
same_length d (n ∷ ns) = ap suc (same_length d ns)

climbs_through : {n : ℕ} {x : List Token → List Token} {c : List ℕ → List ℕ} → Counted n x c → (d : ℕ) (r : List ℕ) (ts : List Token) (os : List Open) → ((k : ℕ) → Climbs false k (looks ts) (expressions_of (within d r ++ os)))
    → (b : Bool) (k : ℕ) → (b ≡ true → k ≡ n) → Climbs b k (looks (x ts)) (expressions_of (within d (c r) ++ os))
climbs_through {n} {x} {c} q d r ts os h b k pre =
    let es = expressions_of os in
    let rest : (i : ℕ) → Climbs false i (looks ts) (r ++ es) = λ i. subst (λ (ns : List ℕ). Climbs false i (looks ts) ns) (expressions_within d r os) (h i) in
    subst (λ (ns : List ℕ). Climbs b k (looks (x ts)) ns) (q.before r es ∙ sym (expressions_within d (c r) os)) (q.climbs (r ++ es) ts rest b k pre)

nests_through : {n : ℕ} {x : List Token → List Token} {c : List ℕ → List ℕ} → Counted n x c → (h : Option ℕ) (d : ℕ) (r : List ℕ) (ts : List Token) (os : List Open)
    → ((s : Behind) → Stands h false s → Nests s (looks ts) (statements_of (within d r ++ os))) → (b : Bool) (s : Behind) → Stands h b s → Nests s (looks (x ts)) (statements_of (within d (c r) ++ os))
nests_through {n} {x} {c} q h d r ts os rest b s p =
    let ls = ap looks (q.tokens ts) ∙ looks_ahead (x []) ts in
    let ns = ap (λ (ms : List ℕ). statements_of (within d ms ++ os)) (q.before [] r) ∙ statements_within d (c []) r os in
    let l = same_length d (c []) in
    let v = pass_named h (x []) (same d (c [])) (looks ts) (statements_of (within d r ++ os)) (q.as_many ∙ sym l) rest b s p (q.named b) in
    subst (λ (ms : List ℕ). Nests s (looks (x ts)) ms) (sym ns) (subst (λ (ks : List Look). Nests s ks (same d (c []) ++ statements_of (within d r ++ os))) (sym ls) v)

no_head : {A : Type 0} (m : ℕ) → None ≡ Some m → A
no_head m e = absurd cc

not_in_head : (ts : List Token) (ns : List ℕ) → Nests other (looks ts) ns → (s : Behind) → Stands None false s → Nests s (looks ts) ns
not_in_head ts ns h other p = h
not_in_head ts ns h naming p = absurd (both_ways false refl p)
not_in_head ts ns h (head m) p = no_head m p.1
not_in_head ts ns h (closed m) p = no_head m p.1

-- the forms open in the expression, before further counts in the same one
pub through : {n : ℕ} {x : List Token → List Token} {c : List ℕ → List ℕ} {ts : List Token} → Counted n x c → (d : ℕ) (r : List ℕ) (os : List Open) → Walks plainly ts (within d r ++ os) → Walks anywhere (x ts) (within d (c r) ++ os)
through {x} {c} {ts} q d r os h = record { brackets = λ k. climbs_through q d r ts os h.brackets false k (λ e. absurd (both_ways false refl e)); heads = by }
  where
    by : (s : Behind) → Enters anywhere s → Nests s (looks (x ts)) (statements_of (within d (c r) ++ os))
    by other e = nests_through q None d r ts os (not_in_head ts (statements_of (within d r ++ os)) (h.heads other tt)) false other refl
    by naming e = nests_through q None d r ts os (not_in_head ts (statements_of (within d r ++ os)) (h.heads other tt)) true naming refl
    by (head m) e = absurd e
    by (closed m) e = absurd e

-- right behind a bracket or `:=` where as many forms are open
pub led : {w : Where} {n : ℕ} {x : List Token → List Token} {c : List ℕ → List ℕ} {t : Token} {ts : List Token} {os : List Open} → Counted n x c → (i d : ℕ) → i ≡ n → leads t.kind ≡ true → calm t.kind ≡ true → Walks plainly ts os
    → Walks w (t ∷ x ts) (record { expressions = i; statements = d } ∷ (within d (c []) ++ os))
led {w} {n} {x} {c} {t} {ts} {os} q i d same_forms l k h = record {
  brackets = λ j. ((λ e o. absurd (both_ways false refl e)), subst (λ (b : Bool). Climbs b i (looks (x ts)) (expressions_of (within d (c []) ++ os))) (sym l) (climbs_through q d [] ts os h.brackets true i (λ e. same_forms)));
  heads = by;
}
  where
    by : (s : Behind) → Enters w s → Nests s (looks (t ∷ x ts)) (d ∷ statements_of (within d (c []) ++ os))
    by s e =
        let v = calm_step s t.kind d (outside w s e) k in
        (v.0, subst (λ (b : Behind). Nests b (looks (x ts)) (statements_of (within d (c []) ++ os))) (sym v.1) ((through q d [] os h).heads other tt))

-- what begins as an expression may as well stand right behind a head
pub begins_below : {w : Where} {ts : List Token} {os : List Open} → begins_phrase ts ≡ true → Walks anywhere ts os → Walks w ts os
begins_below {w} {ts} {os} f h = record { brackets = h.brackets; heads = by }
  where
    by : (s : Behind) → Enters w s → Nests s (looks ts) (statements_of os)
    by other i = h.heads other tt
    by naming i = h.heads naming tt
    by (head m) i = absurd i
    by (closed m) i = like_other m ts (statements_of os) f (h.heads other tt)

-- ---- heads

head_step : (a b : Bool) (n : ℕ) → a ≡ true → by_word a b n ≡ head n
head_step true b n h = refl
head_step false b n h = absurd cc

deeper_step : (a : Bool) (A : Type 0) → A → When a A
deeper_step true A h = h
deeper_step false A h = tt

calm_word_step : (a b : Bool) (n : ℕ) → a ≡ false → b ≡ false → by_word a b n ≡ other
calm_word_step true b n h k = absurd cc
calm_word_step false true n h k = absurd cc
calm_word_step false false n h k = refl

pub close_step : (a : Bool) (m : ℕ) (s : Behind) → a ≡ true → by_close a m s ≡ closed m
close_step true m s h = refl
close_step false m s h = absurd cc

none_asked : (a : Bool) (A : Type 0) → a ≡ false → When a A
none_asked true A h = absurd cc
none_asked false A h = tt

-- the word that opens a head, with d + 1 forms open
open_head : (d : ℕ) (w : Word) (ls : List Look) (ns : List ℕ) → is_head w ≡ true → Nests other ls ns → Nests (head (d + 1)) ls ns → (c : ℕ) → (s : Behind) → Enters (below d) s → Nests s ((tk.reserved w, c) ∷ ls) ((d + 1) ∷ ns)
open_head d w ls ns h o i c other e = (deeper_step (is_head w) (1 ≤ d + 1) (omega arith), subst (λ (b : Behind). Nests b ls ns) (sym (head_step (is_head w) (is_end w) (d + 1) h)) i)
open_head d w ls ns h o i c naming e = (tt, o)
open_head d w ls ns h o i c (head m) e = absurd e
open_head d w ls ns h o i c (closed m) e = (deeper_step (is_head w) (d + 1 ≡ m + 1) (ap (λ (n : ℕ). n + 1) e), subst (λ (b : Behind). Nests b ls ns) (sym (head_step (is_head w) (is_end w) (d + 1) h)) i)

-- what is said of a head's last word
pub record Closes (v : Word) : Type 0 where
  pub closes : is_close v ≡ true
  pub no_head : is_head v ≡ false
  pub no_end : is_end v ≡ false

close_by_word : (d : ℕ) (v : Word) (c : ℕ) (ls : List Look) (ns : List ℕ) → Closes v → ((s : Behind) → Enters (below d) s → Nests s ls ns) → (s : Behind) → Stands (Some d) false s → Nests s ((tk.reserved v, c) ∷ ls) (d ∷ ns)
close_by_word d v c ls ns k h other p = (none_asked (is_head v) (1 ≤ d) k.no_head, subst (λ (b : Behind). Nests b ls ns) (sym (calm_word_step (is_head v) (is_end v) d k.no_head k.no_end)) (h other tt))
close_by_word d v c ls ns k h naming p = absurd (both_ways false refl p)
close_by_word d v c ls ns k h (head m) p = (none_asked (is_head v) (1 ≤ d) k.no_head, subst (λ (b : Behind). Nests b ls ns) (sym (close_step (is_close v) m (by_word (is_head v) (is_end v) d) k.closes)) (h (closed m) (same_Some d m p.1)))
close_by_word d v c ls ns k h (closed m) p = (none_asked (is_head v) (d ≡ m + 1) k.no_head, subst (λ (b : Behind). Nests b ls ns) (sym (calm_word_step (is_head v) (is_end v) d k.no_head k.no_end)) (h other tt))

close_by_bracket : (d c : ℕ) (ls : List Look) (ns : List ℕ) → ((s : Behind) → Enters (below d) s → Nests s ls ns) → (s : Behind) → Stands (Some d) false s → Nests s ((tk.mark tk.close_bracket, c) ∷ ls) (d ∷ ns)
close_by_bracket d c ls ns h other p = (tt, h other tt)
close_by_bracket d c ls ns h naming p = absurd (both_ways false refl p)
close_by_bracket d c ls ns h (head m) p = (tt, h (closed m) (same_Some d m p.1))
close_by_bracket d c ls ns h (closed m) p = (tt, h other tt)

-- if e then .., while e do ..
pub word_head : {d : ℕ} {p : Place} {w v : Word} {ts : List Token} {os : List Open} → (q : Place) (e : Phrase) → is_head w ≡ true → Closes v → Walks (below (d + 1)) ts os
    → Walks (below d) (part.key p w (part.expression e (part.key q v ts))) (here (d + 1) ++ (expression_opens (d + 1) e ++ (here (d + 1) ++ os)))
word_head {d} {p} {w} {v} {ts} {os} q e i k h =
    let us : List Token = part.key q v ts in
    let rest : List Open = here (d + 1) ++ os in
    let c = counted_one 0 e in
    let inner = close_by_word (d + 1) v q.col (looks ts) (statements_of os) k h.heads in
    let below_it : Walks plainly us rest = record { brackets = λ j. pass (token q (tk.reserved v)) false j 0 ts (expressions_of os) refl (h.brackets 0); heads = by inner } in
    record {
      brackets = λ j. pass (token p (tk.reserved w)) false j 0 (part.expression e us) (expressions_of (expression_opens (d + 1) e ++ rest)) refl (climbs_through c (d + 1) [] us rest below_it.brackets false 0 (λ x. absurd (both_ways false refl x)));
      heads = open_head d w (looks (part.expression e us)) (statements_of (expression_opens (d + 1) e ++ rest)) i ((through c (d + 1) [] rest below_it).heads other tt) (nests_through c (Some (d + 1)) (d + 1) [] us rest inner false (head (d + 1)) (refl, refl)) p.col;
    }
  where
    by : ((s : Behind) → Stands (Some (d + 1)) false s → Nests s (looks (part.key q v ts)) (statements_of (here (d + 1) ++ os))) → (s : Behind) → Enters plainly s → Nests s (looks (part.key q v ts)) (statements_of (here (d + 1) ++ os))
    by f other x = f other refl
    by f naming x = absurd x
    by f (head m) x = absurd x
    by f (closed m) x = absurd x

-- if (e) .., while (e) ..
pub bracket_head : {d : ℕ} {p q : Place} {w : Word} {ts : List Token} {os : List Open} → (r : Place) (e : Phrase) → is_head w ≡ true → Walks (below (d + 1)) ts os
    → Walks (below d) (part.key p w (part.mark q tk.open_bracket (part.expression e (part.mark r tk.close_bracket ts)))) (here (d + 1) ++ (here (d + 1) ++ (expression_opens (d + 1) e ++ (here (d + 1) ++ os))))
bracket_head {d} {p} {q} {w} {ts} {os} r e i h =
    let us : List Token = part.mark r tk.close_bracket ts in
    let rest : List Open = here (d + 1) ++ os in
    let c = counted_one 0 e in
    let inner = close_by_bracket (d + 1) r.col (looks ts) (statements_of os) h.heads in
    let below_it : Walks plainly us rest = put refl refl (loosen h) in
    let bracketed : Walks plainly (part.mark q tk.open_bracket (part.expression e us)) (here (d + 1) ++ (expression_opens (d + 1) e ++ rest)) = led c 0 (d + 1) refl refl refl below_it in
    record {
      brackets = λ j. pass (token p (tk.reserved w)) false j 0 (part.mark q tk.open_bracket (part.expression e us)) (expressions_of (here (d + 1) ++ (expression_opens (d + 1) e ++ rest))) refl (bracketed.brackets 0);
      heads = open_head d w (looks (part.mark q tk.open_bracket (part.expression e us))) (statements_of (here (d + 1) ++ (expression_opens (d + 1) e ++ rest))) i (bracketed.heads other tt) (tt, nests_through c (Some (d + 1)) (d + 1) [] us rest inner false (head (d + 1)) (refl, refl)) p.col;
    }
