-- Phrases that begin with a name, after a brace or square bracket.
use Rattle.std.proofs.Common.{◌≡◌, ◌≤◌, ℕ, ◌+◌, suc, Bool, true, false, ◌&&◌, List, [], ◌∷◌, Ok, Err, refl, sym, ap, ◌∙◌, arith, None}
use Rattle.std.proofs.lemmas.Bool.{not-true}
use Rattle.tla_token.specs.declared.place.Place.{Place}
use Rattle.tla_tree.specs.declared.op.Op.TheVariants as op
use Rattle.tla_tree.specs.Tree.{Word}
use Rattle.tla_tree.specs.Lexical.{TokenView, Token, token}
use Rattle.tla_tree.specs.Lexical as tk
use Rattle.tla_tree.specs.Spelling.{Phrase, name, primed, call, set_of, image, Phrases, last, more, apply, select, list, quantified, infix_of, prefix_of, Binds, last_bullet, bullet, mark, sign, word, field_token, spell, spell_all, spell_binds, is_word, is_in, is_bind, Right, Good}
use Rattle.tla_tree.specs.Reader.{any, Out, then_read, ◌>>=◌, next, peek, free, Readers, readers, readers_in, from_name, element, set_from, set_rest, member_rest, brace_name, brace_rest, braces}
use Rattle.tla_tree.proofs.Steps.{steps, steps_all, steps_binds}
use Rattle.tla_tree.proofs.ReadSoon.{Soon, same}
use Rattle.tla_tree.proofs.ReadStops.{is_calm, Calm}
use Rattle.tla_tree.proofs.ReadMembers.{first_in, name_bind, sign_no_word, is_member, cut, bind_member, member}
use Rattle.tla_tree.proofs.ReadPhrases.{Prime, Reads, ReadsAll, closed, closed_behind, primary_reads, tail_call}
use Rattle.tla_tree.proofs.ReadForms.{is_start, Starts, starts, ReadsBinds}

-- an expression that begins with a name, after that name
pub from_word : (e : ℕ) (p : Place) (x : Word) (vs : List Token) (o : Out Phrase) {k : ℕ} → Right e p → Soon k (λ r. r.expr e free (word p x vs)) o
    → Soon k (λ r. then_read (from_name (any r) r e p x vs) (λ a us. r.climb e free a us)) o
unfolding readers_in
from_word e p x vs o g h = (λ n l. (let at : (readers (suc n) None).expr e free (word p x vs) ≡ then_read (from_name (any (readers n None)) (readers n None) e p x vs) (λ a us. (readers n None).climb e free a us) = rw g refl in sym at ∙ h (suc n) (omega arith)))

brace_name_other : (r : Readers) (e : ℕ) (p q : Place) (x : Word) (s : Place) (k : TokenView) (vs : List Token) → is_in k ≡ false
    → brace_name (any r) r e p q x s k vs ≡ (from_name (any r) r e q x >>= λ a. r.climb e free a >>= λ b. peek e (brace_rest r e p b)) vs
brace_name_other r e p q x s (tk.sign op.In) vs h = absurd cc
brace_name_other r e p q x s k vs h = refl

-- ---- after a brace
abbrev pub NotBind : ℕ → List Token → Type 0
NotBind e [] = Unit {0}
NotBind e (t ∷ vs) = (is_word t.kind && is_in (next e vs).kind) ≡ false

braces_other : (r : Readers) (e : ℕ) (p q : Place) (k : TokenView) (us : List Token) → is_start k ≡ true → is_word k ≡ false
    → braces (any r) r e p q k us ≡ (r.expr e free >>= λ a. peek e (brace_rest r e p a)) us
braces_other r e p q (tk.mark tk.close_brace) us h w = absurd cc
braces_other r e p q (tk.word x) us h w = absurd cc
braces_other r e p q k us h w = refl

pub assoc : {A B C : Type 0} (x : Out A) (f : A → List Token → Out B) (g : B → List Token → Out C)
    → then_read (then_read x f) g ≡ then_read x (λ a us. then_read (f a us) g)
assoc (Ok x) f g = refl
assoc (Err x) f g = refl

abbrev Braced : ℕ → Place → List Token → Type 0
Braced e p us = (b : Phrase) (ts : List Token) (o : Out Phrase) (j k : ℕ) → Soon j (λ r. r.expr e free us) (Ok (b, ts)) → Soon k (λ r. peek e (brace_rest r e p b) ts) o → Soon (j + k) (λ r. peek e (braces (any r) r e p) us) o

braced_word : (e : ℕ) (p q : Place) (x : Word) (vs : List Token) → Right e q → is_in (next e vs).kind ≡ false → Braced e p (word q x vs)
braced_word e p q x vs g n b ts o j k h i =
    let v = from_word e q x vs (Ok (b, ts)) g h in
    (λ n' l. rw g (brace_name_other (readers n' None) e p q x (next e vs).place (next e vs).kind vs n ∙ sym (assoc (from_name (any (readers n' None)) (readers n' None) e q x vs) (λ a us. (readers n' None).climb e free a us) (λ b us. peek e (brace_rest (readers n' None) e p b) us)) ∙ ap (λ (y : Out Phrase). then_read y (λ b us. peek e (brace_rest (readers n' None) e p b) us)) (v n' (omega arith)) ∙ i n' (omega arith)))

braced_token : (e : ℕ) (p q : Place) (k : TokenView) (vs : List Token) → Right e q → is_start k ≡ true → (is_word k && is_in (next e vs).kind) ≡ false
    → Braced e p (token q k ∷ vs)
braced_token e p q (tk.word x) vs g t n b ts o j m h i = braced_word e p q x vs g n b ts o j m h i
braced_token e p q k vs g t n b ts o u w h i = (λ m l. rw g (braces_other (readers m None) e p q k (token q k ∷ vs) t refl ∙ ap (λ (y : Out Phrase). then_read y (λ b us. peek e (brace_rest (readers m None) e p b) us)) (h m (omega arith)) ∙ i m (omega arith)))

pub braced : (e : ℕ) (p : Place) (us : List Token) → Starts e us → NotBind e us → Braced e p us
braced e p us s n = rw s.same_as (braced_token e p s.first.place s.first.kind s.rest s.right s.start (rw s.same_as at n))

-- ---- a phrase that does not begin with a name and `\in`
pub not_bind : (e : ℕ) (a : Phrase) → Good e a → (ts us : List Token) → first_in ts ≡ is_in (next e us).kind → is_bind (spell a ts) ≡ false → NotBind e (spell a us)
not_bind e (name p x) g ts us f h = sym f ∙ sym (name_bind p x ts) ∙ h
not_bind e (primed p x q) g ts us f h = rw g.1 refl
not_bind e (call p x q xs r) g ts us f h = rw g.1 refl
not_bind e (apply a p xs q) g ts us f h = not_bind e a g.0 (mark p tk.open_square (spell_all xs (mark q tk.close_square ts))) (mark p tk.open_square (spell_all xs (mark q tk.close_square us))) (rw g.2 refl) h
not_bind e (select a p d) g ts us f h = not_bind e a g.0 (mark p tk.dot (field_token d ts)) (mark p tk.dot (field_token d us)) (rw g.2 refl) h
not_bind e (infix_of a p o b) g ts us f h = not_bind e a g.3 (sign p o (spell b ts)) (sign p o (spell b us)) (rw g.4 refl) h
not_bind e (prefix_of p o a) g ts us f h = rw (sign_no_word o) refl
not_bind e (list o (last_bullet p a)) g ts us f h = rw (sign_no_word o) refl
not_bind e (list o (bullet p a bs)) g ts us f h = rw (sign_no_word o) refl
not_bind e (quantified true p bs q a) g ts us f h = refl
not_bind e (quantified false p bs q a) g ts us f h = refl
not_bind e a g ts us f h = refl

-- ---- {a : x \in S}
pub reads_image : (p : Place) (a : Phrase) (q : Place) (bs : Binds) (s : Place) → Reads a → ReadsBinds bs → Reads (image p a q bs s)
reads_image p a q bs s ha hb = primary_reads (image p a q bs s) (λ e d ts s. s) (λ e d ts s. tail_call (next e ts).kind s) (λ e g ts. record { first = token p (tk.mark tk.open_brace); rest = spell a (mark q tk.colon (spell_binds bs (mark s tk.close_brace ts))); same_as = refl; right = g.0; as_operand = λ r c us. refl; as_short = λ r us. refl }) prime
  where
    prime : Prime (image p a q bs s)
    prime e (gp, ga, gq, gb, gs, nb) ts c k o h =
        let us = mark q tk.colon (spell_binds bs (mark s tk.close_brace ts)) in
        let v = closed a ha e ga us (rw gq refl) in
        let w = hb e gb (mark s tk.close_brace ts) (rw gs refl) in
        let i : Soon (steps_binds bs) (λ r. peek e (brace_rest r e p a) us) (Ok (image p a q bs s, ts)) = (λ n l. rw (gq, w.same_as, w.right, w.reads n (omega arith), gs) refl) in
        let z = braced e p (spell a us) (starts e a ga us) (not_bind e a ga [] us (rw gq refl) (not-true (is_bind (spell a [])) nb)) a us (Ok (image p a q bs s, ts)) (steps a + 3) (steps_binds bs) v i in
        (λ n l. rw (gp, z n (omega arith)) (h n (omega arith)))

-- ---- {a, b}
abbrev is_colon : TokenView → Bool
is_colon (tk.mark tk.colon) = true
is_colon k = false

rest_other : (r : Readers) (e : ℕ) (p : Place) (a : Phrase) (q : Place) (k : TokenView) (us : List Token) → is_colon k ≡ false
    → brace_rest r e p a q k us ≡ set_rest r e p a q k us
rest_other r e p a q (tk.mark tk.colon) us h = absurd cc
rest_other r e p a q k us h = refl

member_other : (r : Readers) (e : ℕ) (p q : Place) (x : Word) (s : Place) (b : Phrase) (t : Place) (k : TokenView) (us : List Token) → is_colon k ≡ false
    → member_rest (any r) r e p q x s b t k us ≡ set_from (any r) r e p (element q x s b) us
member_other r e p q x s b t (tk.mark tk.colon) us h = absurd cc
member_other r e p q x s b t k us h = refl

pub calm_in : (k : TokenView) → is_calm k ≡ true → is_in k ≡ false
calm_in (tk.sign o) h = absurd cc
calm_in k h = refl

pub cut_steps : (a : Phrase) → steps (cut a) ≤ steps a
cut_steps (infix_of (name p x) q o b) = omega arith
cut_steps (infix_of a q o b) = omega (arith, cut_steps a)
cut_steps a = omega arith

-- the first element, before a comma or the closing brace
first_element : (e : ℕ) (p : Place) (a : Phrase) → Reads a → Reads (cut a) → Good e a → (us : List Token) → Calm e us
    → is_colon (next e us).kind ≡ false → (j : ℕ) (o : Out Phrase) → Soon j (λ r. peek e (set_rest r e p a) us) o
    → Soon (j + steps a + 3) (λ r. peek e (braces (any r) r e p) (spell a us)) o
first_element e p a ha hc g us k n j o h = by (is_member a) refl
  where
    by : (b : Bool) → is_member a ≡ b → Soon (j + steps a + 3) (λ r. peek e (braces (any r) r e p) (spell a us)) o
    by false m n' l =
        let i : Soon j (λ r. peek e (brace_rest r e p a) us) o = same (λ r. peek e (brace_rest r e p a) us) (λ r. peek e (set_rest r e p a) us) o (λ r. rest_other r e p a (next e us).place (next e us).kind us n) h in
        braced e p (spell a us) (starts e a g us) (not_bind e a g [] us (sym (calm_in (next e us).kind k)) (bind_member e a g ∙ m)) a us o (steps a + 3) j (closed a ha e g us k) i n' (omega arith)
    by true m n' l =
        let v = member e a g m in
        let w = closed_behind (cut a) hc e v.place v.word_of v.place_in v.good us k in
        let f = cut_steps a in (rw (v.same_as us, v.right, v.right_in, w n' (omega arith))
        (member_other (readers n' None) e p v.place v.word_of v.place_in (cut a) (next e us).place (next e us).kind us n ∙ rw v.joins (h n' (omega arith))))

pub reads_set_last : (p : Place) (a : Phrase) (q : Place) → Reads a → Reads (cut a) → Reads (set_of p (last a) q)
reads_set_last p a q ha hc = primary_reads (set_of p (last a) q) (λ e d ts s. s) (λ e d ts s. tail_call (next e ts).kind s) (λ e g ts. record { first = token p (tk.mark tk.open_brace); rest = spell a (mark q tk.close_brace ts); same_as = refl; right = g.0; as_operand = λ r c us. refl; as_short = λ r us. refl }) prime
  where
    prime : Prime (set_of p (last a) q)
    prime e (gp, ga, gq) ts i k o h =
        let us = mark q tk.close_brace ts in
        let z = first_element e p a ha hc ga us (rw gq refl) (rw gq refl) 0 (Ok (set_of p (last a) q, ts)) (λ n l. rw (gq, gq) refl) in
        (λ n l. rw (gp, z n (omega arith)) (h n (omega arith)))

pub reads_set_more : (p : Place) (a : Phrase) (t : Place) (xs : Phrases) (q : Place) → Reads a → Reads (cut a) → ReadsAll xs → Reads (set_of p (more a t xs) q)
reads_set_more p a t xs q ha hc hx = primary_reads (set_of p (more a t xs) q) (λ e d ts s. s) (λ e d ts s. tail_call (next e ts).kind s) (λ e g ts. record { first = token p (tk.mark tk.open_brace); rest = spell a (mark t tk.comma (spell_all xs (mark q tk.close_brace ts))); same_as = refl; right = g.0; as_operand = λ r c us. refl; as_short = λ r us. refl }) prime
  where
    prime : Prime (set_of p (more a t xs) q)
    prime e (gp, (ga, gt, gx), gq) ts i k o h =
        let us = mark t tk.comma (spell_all xs (mark q tk.close_brace ts)) in
        let w = hx e gx (mark q tk.close_brace ts) (rw gq refl) in
        let z = first_element e p a ha hc ga us (rw gt refl) (rw gt refl) (steps_all xs) (Ok (set_of p (more a t xs) q, ts)) (λ n l. rw (gt, w n (omega arith), gq) refl) in
        (λ n l. rw (gp, z n (omega arith)) (h n (omega arith)))
