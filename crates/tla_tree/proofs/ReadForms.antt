-- What is spelled is read: tuples, subscripts, fields, open forms; and all forms together.
use Rattle.std.proofs.Common.{◌≡◌, ℕ, nat_eq, ◌+◌, Bool, true, false, not, ◌&&◌, ◌||◌, nat_lt, List, ◌∷◌, Some, Ok, refl, ap, ◌∙◌, arith, None}
use Rattle.std.proofs.lemmas.Bool.{not-true, or_parts}
use Rattle.tla_token.specs.declared.place.Place.{Place}
use Rattle.tla_tree.specs.declared.op.Op.{Op}
use Rattle.tla_tree.specs.declared.op.Op.TheVariants as op
use Rattle.tla_tree.specs.Tree.{Word}
use Rattle.tla_tree.specs.Lexical.{TokenView, Token, token, sign_of, field_kind}
use Rattle.tla_tree.specs.Lexical as tk
use Rattle.tla_tree.specs.Spelling.{Field, Phrase, number, string, constant, name, primed, call, brackets, no_set, set_of, filter, image, no_tuple, tuple, fields, records, function, functions, except, apply, select, list, quantified, if_then_else, cases, local, infix_of, prefix_of}
use Rattle.tla_tree.specs.Spelling.{Phrases, last, more, Binds, last_bind, bind, share, Locals, last_local, more_locals, last_bullet, bullet}
use Rattle.tla_tree.specs.Spelling.{mark, key, sign, word, field_token, spell, spell_all, spell_binds, spell_locals, Good, GoodAll, GoodBinds, GoodLocals, Right, head, is_primary, can_be_head, first_bullet, spell_bullets}
use Rattle.tla_tree.specs.Spelling as sp
use Rattle.tla_tree.specs.Reader.{is_sign, Out, field_of, a_field, tuples, then_read, ◌>>=◌, gives, next, peek, a_mark, free, Readers, readers, bind_rest, locals_by}
use Rattle.tla_tree.proofs.Steps.{steps_all, steps_binds, steps_locals}
use Rattle.tla_tree.proofs.ReadSoon.{Soon, step, is_tail}
use Rattle.tla_tree.proofs.ReadStops.{bullets_behind, is_calm}
use Rattle.tla_tree.proofs.ReadPhrases.{is_call, NoCall, Inner, tail_call, Prime, Full, Begins, Reads, ended, closed, is_end, Ends, end_calm, ReadsAll, primary_reads}

-- ---- how a phrase begins
abbrev pub is_start : TokenView → Bool
is_start (tk.number n) = true
is_start (tk.string x) = true
is_start (tk.constant c) = true
is_start (tk.word x) = true
is_start (tk.sign o) = true
is_start (tk.key tk.other_key) = false
is_start (tk.key k) = true
is_start (tk.mark tk.open_bracket) = true
is_start (tk.mark tk.open_brace) = true
is_start (tk.mark tk.open_tuple) = true
is_start (tk.mark tk.open_square) = true
is_start k = false

pub record Starts (e : ℕ) (us : List Token) : Type 0 where
  pub first : Token
  pub rest : List Token
  pub same_as : us ≡ first ∷ rest
  pub right : Right e first.place
  pub start : is_start first.kind ≡ true

sign_starts : (o : Op) → is_start (sign_of o) ≡ true
sign_starts op.Negate = refl
sign_starts o = refl

starts_with : (e : ℕ) (p : Place) (k : TokenView) (us : List Token) → Right e p → is_start k ≡ true → Starts e (token p k ∷ us)
starts_with e p k us r h = record { first = token p k; rest = us; same_as = refl; right = r; start = h }

quantifier_starts : (e : ℕ) (b : Bool) (p : Place) (us : List Token) → Right e p → Starts e (key p (sp.quantifier b) us)
quantifier_starts e true p us r = starts_with e p (tk.key tk.for_all_key) us r refl
quantifier_starts e false p us r = starts_with e p (tk.key tk.exists_key) us r refl

pub starts : (e : ℕ) (a : Phrase) → Good e a → (ts : List Token) → Starts e (spell a ts)
starts e (number p n) g ts = starts_with e p _ _ g refl
starts e (string p x) g ts = starts_with e p _ _ g refl
starts e (constant p c) g ts = starts_with e p _ _ g refl
starts e (name p x) g ts = starts_with e p _ _ g refl
starts e (primed p x q) g ts = starts_with e p _ _ g.0 refl
starts e (call p x q xs r) g ts = starts_with e p _ _ g.0 refl
starts e (brackets p a q) g ts = starts_with e p _ _ g.0 refl
starts e (no_set p q) g ts = starts_with e p _ _ g.0 refl
starts e (set_of p xs q) g ts = starts_with e p _ _ g.0 refl
starts e (filter p q x r s t a u) g ts = starts_with e p _ _ g.0 refl
starts e (image p a q bs r) g ts = starts_with e p _ _ g.0 refl
starts e (no_tuple p q) g ts = starts_with e p _ _ g.0 refl
starts e (tuple p xs q) g ts = starts_with e p _ _ g.0 refl
starts e (fields p fs q) g ts = starts_with e p _ _ g.0 refl
starts e (records p fs q) g ts = starts_with e p _ _ g.0 refl
starts e (function p bs q a r) g ts = starts_with e p _ _ g.0 refl
starts e (functions p a q b r) g ts = starts_with e p _ _ g.0 refl
starts e (except p a q ss r) g ts = starts_with e p _ _ g.0 refl
starts e (apply a p xs q) g ts = starts e a g.0 (mark p tk.open_square (spell_all xs (mark q tk.close_square ts)))
starts e (select a p f) g ts = starts e a g.0 (mark p tk.dot (field_token f ts))
starts e (list o (last_bullet p a)) g ts = starts_with e p (sign_of o) (spell a ts) g.1 (sign_starts o)
starts e (list o (bullet p a bs)) g ts = starts_with e p (sign_of o) (spell a (spell_bullets o bs ts)) g.1 (sign_starts o)
starts e (quantified b p bs q a) g ts = quantifier_starts e b p (spell_binds bs (mark q tk.colon (spell a ts))) g.0
starts e (if_then_else p a q b r c) g ts = starts_with e p _ _ g.0 refl
starts e (cases p xs) g ts = starts_with e p _ _ g.0 refl
starts e (local p ls q a) g ts = starts_with e p _ _ g.0 refl
starts e (infix_of a p o b) g ts = starts e a g.3 (sign p o (spell b ts))
starts e (prefix_of p o a) g ts = starts_with e p (sign_of o) (spell a ts) g.2 (sign_starts o)

pub starts_all : (e : ℕ) (xs : Phrases) → GoodAll e xs → (ts : List Token) → Starts e (spell_all xs ts)
starts_all e (last a) g ts = starts e a g ts
starts_all e (more a p xs) g ts = starts e a g.0 (mark p tk.comma (spell_all xs ts))

-- ---- tuples
tuples_by : (r : Readers) (e : ℕ) (p q : Place) (k : TokenView) (us : List Token) → is_start k ≡ true → tuples r e p q k us ≡ (r.phrases e >>= λ xs. a_mark e tk.close_tuple >>= λ s. gives (tuple p xs s)) us
tuples_by r e p q (tk.mark tk.close_tuple) us h = absurd cc
tuples_by r e p q k us h = refl

tuples_at : (r : Readers) (e : ℕ) (p : Place) (us : List Token) → Starts e us → peek e (tuples r e p) us ≡ (r.phrases e >>= λ xs. a_mark e tk.close_tuple >>= λ s. gives (tuple p xs s)) us
tuples_at r e p us s = rw (s.same_as, s.right) (tuples_by r e p s.first.place s.first.kind (s.first ∷ s.rest) s.start)

pub reads_tuple : (p : Place) (xs : Phrases) (q : Place) → ReadsAll xs → Reads (tuple p xs q)
reads_tuple p xs q hx = primary_reads (tuple p xs q) (λ e d ts s. s) (λ e d ts s. tail_call (next e ts).kind s) (λ e g ts. record { first = token p (tk.mark tk.open_tuple); rest = spell_all xs (mark q tk.close_tuple ts); same_as = refl; right = g.0; as_operand = λ r c us. refl; as_short = λ r us. refl }) prime
  where
    prime : Prime (tuple p xs q)
    prime e (gp, gx, gq) ts i k o h =
        let us = mark q tk.close_tuple ts in
        let v = hx e gx us (rw gq refl) in
        (λ m l. rw gp (ap (λ (x : Out Phrase). then_read x (λ a ts. (readers m None).postfix e a ts)) (tuples_at (readers m None) e p (spell_all xs us) (starts_all e xs gx us)) ∙ rw (v m (omega arith), gq) (h m (omega arith))))

-- ---- f[a] and r.b
head_primary : (a : Phrase) (p : Place) → can_be_head a p ≡ true → is_primary (head a) ≡ true
head_primary (list o bs) p h = refl
head_primary a p h = h

-- a list ends before a subscript or field that may be after it
no_bullet : (o : Op) (b : Bool) (k : TokenView) → (is_call k || not (is_calm k || is_tail k)) ≡ false → (is_sign o k && b) ≡ false
no_bullet o b (tk.sign q) h = absurd cc
no_bullet o b k h = refl

head_inner : (e : ℕ) (a : Phrase) (p : Place) (k : TokenView) (us : List Token) → Good e a → can_be_head a p ≡ true → next e us ≡ token p k → (is_call k || not (is_calm k || is_tail k)) ≡ false → Inner e a us
head_inner e a p k us g can s t = inner a g can
  where
    no_call : NoCall e us
    no_call = rw s (or_parts (is_call k) (not (is_calm k || is_tail k)) t).0

    inner : (a : Phrase) → Good e a → can_be_head a p ≡ true → Inner e a us
    inner (list o bs) g can = (rw s (no_bullet o (nat_eq (first_bullet bs).col p.col) k t), bullets_behind e (first_bullet bs).col bs us p k g.2 g.1 s (not-true (nat_lt (first_bullet bs).col p.col) can))
    inner a g can = no_call

pub reads_apply : (a : Phrase) (p : Place) (xs : Phrases) (q : Place) → Reads a → ReadsAll xs → Reads (apply a p xs q)
reads_apply a p xs q ha hx = primary_reads (apply a p xs q) (λ e d ts s. s) (λ e d ts s. tail_call (next e ts).kind s) begins prime
  where
    begins : (e : ℕ) → Good e (apply a p xs q) → (ts : List Token) → Begins e (apply a p xs q) ts
    begins e (ga, can, gp, gx, gq) ts = (let b = ha.begins (head_primary a p can) e ga (mark p tk.open_square (spell_all xs (mark q tk.close_square ts))) in record { first = b.first; rest = b.rest; same_as = b.same_as; right = b.right; as_operand = b.as_operand; as_short = b.as_short })

    prime : Prime (apply a p xs q)
    prime e (ga, can, gp, gx, gq) ts i k o h j u =
        let us = mark p tk.open_square (spell_all xs (mark q tk.close_square ts)) in
        let v = hx e gx (mark q tk.close_square ts) (rw gq refl) in
        ha.prime (head_primary a p can) e ga us (head_inner e a p (tk.mark tk.open_square) us ga can (rw gp refl) refl) (k + steps_all xs + 1) o (step (λ r. r.postfix e a us) o (omega arith) (λ n l. rw (gp, can, v n (omega arith), gq) (h n (omega arith)))) j (omega arith)

field_seen : (p : Place) (b : Bool) (x : Word) → field_of p (field_kind b x) ≡ Some (record { place = p; is_reserved = b; text = x })
field_seen p true x = refl
field_seen p false x = refl

pub field_read : (e : ℕ) (f : Field) (ts : List Token) → Right e f.place → a_field e (field_token f ts) ≡ Ok (f, ts)
field_read e f ts g = rw (g, field_seen f.place f.is_reserved f.text) refl

pub reads_select : (a : Phrase) (p : Place) (f : Field) → Reads a → Reads (select a p f)
reads_select a p f ha = primary_reads (select a p f) (λ e d ts s. s) (λ e d ts s. tail_call (next e ts).kind s) begins prime
  where
    begins : (e : ℕ) → Good e (select a p f) → (ts : List Token) → Begins e (select a p f) ts
    begins e (ga, can, gp, gf) ts = (let b = ha.begins (head_primary a p can) e ga (mark p tk.dot (field_token f ts)) in record { first = b.first; rest = b.rest; same_as = b.same_as; right = b.right; as_operand = b.as_operand; as_short = b.as_short })

    prime : Prime (select a p f)
    prime e (ga, can, gp, gf) ts i k o h j u =
        let us = mark p tk.dot (field_token f ts) in
        ha.prime (head_primary a p can) e ga us (head_inner e a p (tk.mark tk.dot) us ga can (rw gp refl) refl) (k + 1) o (step (λ r. r.postfix e a us) o (omega arith) (λ n l. rw (gp, can, field_read e f ts gf) (h n (omega arith)))) j (omega arith)

-- ---- names with their sets
pub record BindsRead (e : ℕ) (bs : Binds) (ts : List Token) : Type 0 where
  pub place : Place
  pub word_of : Word
  pub rest : List Token
  pub same_as : spell_binds bs ts ≡ word place word_of rest
  pub right : Right e place
  pub reads : Soon (steps_binds bs) (λ r. r.binds e place word_of rest) (Ok (bs, ts))

abbrev pub ReadsBinds : Binds → Type 0
ReadsBinds bs = (e : ℕ) → GoodBinds e bs → (ts : List Token) → Ends e ts → BindsRead e bs ts

bind_end : (r : Readers) (e : ℕ) (p : Place) (x : Word) (q : Place) (a : Phrase) (s : Place) (k : TokenView) (ts : List Token) → is_end k ≡ true → bind_rest r e p x q a s k ts ≡ Ok (last_bind p x q a, ts)
bind_end r e p x q a s (tk.mark tk.comma) ts h = absurd cc
bind_end r e p x q a s k ts h = refl

pub reads_last_bind : (p : Place) (x : Word) (q : Place) (a : Phrase) → Reads a → ReadsBinds (last_bind p x q a)
reads_last_bind p x q a h e (gp, gq, ga) ts k =
    let us = sign q op.In (spell a ts) in
    let w = closed a h e ga ts (end_calm (next e ts).kind k) in
    record { place = p; word_of = x; rest = us; same_as = refl; right = gp; reads = step (λ r. r.binds e p x us) (Ok (last_bind p x q a, ts)) (omega arith) (λ n l. rw (gq, w n (omega arith)) (bind_end (readers n None) e p x q a (next e ts).place (next e ts).kind ts k)) }

pub reads_bind : (p : Place) (x : Word) (q : Place) (a : Phrase) (s : Place) (bs : Binds) → Reads a → ReadsBinds bs → ReadsBinds (bind p x q a s bs)
reads_bind p x q a s bs h i e (gp, gq, ga, gs, gb) ts k =
    let us = sign q op.In (spell a (mark s tk.comma (spell_binds bs ts))) in
    let w = closed a h e ga (mark s tk.comma (spell_binds bs ts)) (rw gs refl) in
    let v = i e gb ts k in
    record { place = p; word_of = x; rest = us; same_as = refl; right = gp; reads = step (λ r. r.binds e p x us) (Ok (bind p x q a s bs, ts)) (omega arith) (λ n l. rw (gq, w n (omega arith), gs, v.same_as, v.right, v.reads n (omega arith)) refl) }

pub reads_share : (p : Place) (x : Word) (q : Place) (bs : Binds) → ReadsBinds bs → ReadsBinds (share p x q bs)
reads_share p x q bs i e (gp, gq, gb) ts k =
    let us = mark q tk.comma (spell_binds bs ts) in
    let v = i e gb ts k in
    record { place = p; word_of = x; rest = us; same_as = refl; right = gp; reads = step (λ r. r.binds e p x us) (Ok (share p x q bs, ts)) (omega arith) (λ n l. rw (gq, v.same_as, v.right, v.reads n (omega arith)) refl) }

-- ---- open forms
pub reads_for : (b : Bool) (p : Place) (bs : Binds) (q : Place) (a : Phrase) → ReadsBinds bs → Reads a → Reads (quantified b p bs q a)
reads_for b p bs q a hb ha = record { begins = λ h. absurd cc; prime = λ h. absurd cc; brief = λ e g h. absurd cc; full = full b }
  where
    full : (b : Bool) → Full (quantified b p bs q a)
    full true e c f (gp, gb, gq, ga) t ts (s, k) w o h =
        let v = hb e gb (mark q tk.colon (spell a ts)) (rw gq refl) in
        let u = ended a ha e free tt ga refl ts s k in
        step (λ r. r.expr e c (spell (quantified true p bs q a) ts)) o (omega arith) (λ n l. rw (gp, v.same_as, v.right, v.reads n (omega arith), gq, u n (omega arith)) (h n (omega arith)))
    full false e c f (gp, gb, gq, ga) t ts (s, k) w o h =
        let v = hb e gb (mark q tk.colon (spell a ts)) (rw gq refl) in
        let u = ended a ha e free tt ga refl ts s k in
        step (λ r. r.expr e c (spell (quantified false p bs q a) ts)) o (omega arith) (λ n l. rw (gp, v.same_as, v.right, v.reads n (omega arith), gq, u n (omega arith)) (h n (omega arith)))

pub reads_choice : (p : Place) (a : Phrase) (q : Place) (b : Phrase) (s : Place) (d : Phrase) → Reads a → Reads b → Reads d → Reads (if_then_else p a q b s d)
reads_choice p a q b s d ha hb hd = record { begins = λ h. absurd cc; prime = λ h. absurd cc; brief = λ e g h. absurd cc; full = full }
  where
    full : Full (if_then_else p a q b s d)
    full e c f (gp, ga, gq, gb, gs, gd) t ts (z, k) w o h =
        let vb = closed b hb e gb (key s tk.else_key (spell d ts)) (rw gs refl) in
        let va = closed a ha e ga (key q tk.then_key (spell b (key s tk.else_key (spell d ts)))) (rw gq refl) in
        let vd = ended d hd e free tt gd refl ts z k in
        step (λ r. r.expr e c (spell (if_then_else p a q b s d) ts)) o (omega arith) (λ n l. rw (gp, va n (omega arith), gq, vb n (omega arith), gs, vd n (omega arith)) (h n (omega arith)))

-- ---- local definitions
abbrev pub is_stop : TokenView → Bool
is_stop (tk.word x) = false
is_stop k = is_calm k

stop_calm : (k : TokenView) → is_stop k ≡ true → is_calm k ≡ true
stop_calm (tk.word x) h = refl
stop_calm k h = h

pub record LocalsRead (e : ℕ) (ls : Locals) (ts : List Token) : Type 0 where
  pub place : Place
  pub word_of : Word
  pub rest : List Token
  pub same_as : spell_locals ls ts ≡ word place word_of rest
  pub right : Right e place
  pub reads : Soon (steps_locals ls) (λ r. r.locals e (spell_locals ls ts)) (Ok (ls, ts))

abbrev pub ReadsLocals : Locals → Type 0
ReadsLocals ls = (e : ℕ) → GoodLocals e ls → (ts : List Token) → is_stop (next e ts).kind ≡ true → LocalsRead e ls ts

locals_end : (r : Readers) (e : ℕ) (p : Place) (x : Word) (q : Place) (a : Phrase) (s : Place) (k : TokenView) (ts : List Token) → is_stop k ≡ true → locals_by r e p x q a s k ts ≡ Ok (last_local p x q a, ts)
locals_end r e p x q a s (tk.word y) ts h = absurd cc
locals_end r e p x q a s k ts h = refl

pub reads_last_local : (p : Place) (x : Word) (q : Place) (a : Phrase) → Reads a → ReadsLocals (last_local p x q a)
reads_last_local p x q a h e (gp, gq, ga) ts k =
    let w = closed a h e ga ts (stop_calm (next e ts).kind k) in
    record { place = p; word_of = x; rest = mark q tk.defines (spell a ts); same_as = refl; right = gp; reads = step (λ r. r.locals e (spell_locals (last_local p x q a) ts)) (Ok (last_local p x q a, ts)) (omega arith) (λ n l. rw (gp, gq, w n (omega arith)) (locals_end (readers n None) e p x q a (next e ts).place (next e ts).kind ts k)) }

pub reads_more_locals : (p : Place) (x : Word) (q : Place) (a : Phrase) (ls : Locals) → Reads a → ReadsLocals ls → ReadsLocals (more_locals p x q a ls)
reads_more_locals p x q a ls h i e (gp, gq, ga, gl) ts k =
    let v = i e gl ts k in
    let w = closed a h e ga (spell_locals ls ts) (rw (v.same_as, v.right) refl) in
    let again : Soon (steps_locals ls) (λ r. r.locals e (word v.place v.word_of v.rest)) (Ok (ls, ts)) = rw v.same_as at v.reads in
    record { place = p; word_of = x; rest = mark q tk.defines (spell a (spell_locals ls ts)); same_as = refl; right = gp; reads = step (λ r. r.locals e (spell_locals (more_locals p x q a ls) ts)) (Ok (more_locals p x q a ls, ts)) (omega arith) (λ n l. rw (gp, gq, w n (omega arith), v.same_as, v.right, again n (omega arith)) refl) }

pub reads_local : (p : Place) (ls : Locals) (q : Place) (a : Phrase) → ReadsLocals ls → Reads a → Reads (local p ls q a)
reads_local p ls q a hl ha = record { begins = λ h. absurd cc; prime = λ h. absurd cc; brief = λ e g h. absurd cc; full = full }
  where
    full : Full (local p ls q a)
    full e c f (gp, gl, gq, ga) t ts (s, k) w o h =
        let v = hl e gl (key q tk.in_key (spell a ts)) (rw gq refl) in
        let u = ended a ha e free tt ga refl ts s k in
        step (λ r. r.expr e c (spell (local p ls q a) ts)) o (omega arith) (λ n l. rw (gp, v.reads n (omega arith), gq, u n (omega arith)) (h n (omega arith)))
