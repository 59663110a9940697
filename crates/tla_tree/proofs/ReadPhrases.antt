-- What is spelled is read, form by form.
use Rattle.std.proofs.Common.{◌≡◌, ℕ, ◌+◌, Bool, true, false, List, ◌∷◌, Option, Some, None, Ok, refl, ap, ◌∙◌, arith, MatchBool}
use Rattle.std.proofs.lemmas.Bool.{lt-ltb, not-true}
use Rattle.tla_token.specs.declared.place.Place.{Place}
use Rattle.tla_tree.specs.declared.op.Op.{Op}
use Rattle.tla_tree.specs.declared.op.Op.TheVariants as op
use Rattle.tla_tree.specs.Tree.{Word}
use Rattle.tla_tree.specs.Rank.{rank, is_prefix}
use Rattle.tla_tree.specs.Lexical.{Constant, TokenView, Token, token, sign_of}
use Rattle.tla_tree.specs.Lexical as tk
use Rattle.tla_tree.specs.Spelling.{Phrase, number, string, constant, name, primed, call, brackets, no_set, no_tuple, list, infix_of, prefix_of}
use Rattle.tla_tree.specs.Spelling.{Phrases, last, more}
use Rattle.tla_tree.specs.Spelling.{mark, sign, spell, spell_all, Good, GoodAll, Right, head, is_primary, is_short, first_bullet}
use Rattle.tla_tree.specs.Reader.{any, Out, then_read, ◌>>=◌, gives, skip, next, peek, Context, free, right_of, under, behind, bound, fits, is_free, goes_on, Readers, readers, named, primary, under_by, operand, short_by, phrases_by}
use Rattle.tla_tree.proofs.Steps.{steps, steps_all}
use Rattle.tla_tree.proofs.ReadSoon.{Soon, step, is_tail, NoTail, Stays, postfix_ends, climb_ends}
use Rattle.tla_tree.proofs.ReadStops.{Stops, ListEnds, BulletsStop, is_calm, Calm, calm_stays, calm_stops, Fine, seen_sign, sign_infix, above_bound, left_parts, fits_left, left_stops, fits_short}

-- ---- the claim
abbrev pub is_call : TokenView → Bool
is_call (tk.mark tk.open_bracket) = true
is_call (tk.mark tk.prime) = true
is_call k = false

abbrev pub NoCall : ℕ → List Token → Type 0
NoCall e ts = is_call (next e ts).kind ≡ false

-- nothing within a primary goes on
abbrev pub Inner : ℕ → Phrase → List Token → Type 0
Inner e (list o bs) ts = ListEnds e o (first_bullet bs).col ts × BulletsStop (first_bullet bs).col bs ts
Inner e a ts = NoCall e ts

-- a primary is read up to its `[a]` and `.b`, a short form to its end, and any phrase up to its operators: what the loop that goes on from it
-- gives is given
abbrev pub Prime : Phrase → Type 0
Prime a = (e : ℕ) → Good e a → (ts : List Token) → Inner e a ts → (k : ℕ) (o : Out Phrase) → Soon k (λ r. r.postfix e a ts) o → Soon (k + steps a) (λ r. peek e (primary (any r) r e) (spell a ts)) o

abbrev pub Brief : Phrase → Type 0
Brief a = (e : ℕ) → Good e a → is_short a ≡ true → (ts : List Token) → Stops e None a ts → Soon (steps a + 2) (λ r. r.short e (spell a ts)) (Ok (a, ts))

abbrev pub Full : Phrase → Type 0
Full a = (e : ℕ) (c : Context) → Fine c → Good e a → fits c a ≡ true → (ts : List Token) → Stops e (Some c) a ts → (k : ℕ) (o : Out Phrase) → Soon k (λ r. r.climb e c a ts) o → Soon (k + steps a + 2) (λ r. r.expr e c (spell a ts)) o

pub record Begins (e : ℕ) (a : Phrase) (ts : List Token) : Type 0 where
  pub first : Token
  pub rest : List Token
  pub same_as : spell a ts ≡ first ∷ rest
  pub right : Right e first.place
  pub as_operand : (r : Readers) (c : Context) (us : List Token) → operand (any r) r e c first.place first.kind us ≡ primary (any r) r e first.place first.kind us
  pub as_short : (r : Readers) (us : List Token) → short_by (any r) r e first.place first.kind us ≡ primary (any r) r e first.place first.kind us

pub record Reads (a : Phrase) : Type 0 where
  pub begins : is_primary (head a) ≡ true → (e : ℕ) → Good e a → (ts : List Token) → Begins e a ts
  pub prime : is_primary (head a) ≡ true → Prime a
  pub brief : Brief a
  pub full : Full a

-- to its end
pub ended : (a : Phrase) → Reads a → (e : ℕ) (c : Context) → Fine c → Good e a → fits c a ≡ true → (ts : List Token) → Stops e (Some c) a ts → Stays e (bound c) a ts → Soon (steps a + 3) (λ r. r.expr e c (spell a ts)) (Ok (a, ts))
ended a h e c f g t ts s k n l = h.full e c f g t ts s 1 (Ok (a, ts)) (climb_ends e c a ts k) n (omega arith)

-- free, before a token that goes on nothing
pub closed : (a : Phrase) → Reads a → (e : ℕ) → Good e a → (ts : List Token) → Calm e ts → Soon (steps a + 3) (λ r. r.expr e free (spell a ts)) (Ok (a, ts))
closed a h e g ts k = ended a h e free tt g refl ts (calm_stops e (Some free) a ts g k) (calm_stays e 0 a ts k)

-- and so behind `x \in`
pub closed_behind : (a : Phrase) → Reads a → (e : ℕ) (q : Place) (x : Word) (r : Place) → Good e a → (ts : List Token) → Calm e ts → Soon (steps a + 3) (λ d. d.expr e (behind q x r) (spell a ts)) (Ok (a, ts))
closed_behind a h e q x r g ts k = ended a h e (behind q x r) tt g refl ts (calm_stops e (Some (behind q x r)) a ts g k) (calm_stays e 0 a ts k)

-- ---- lists
abbrev pub is_end : TokenView → Bool
is_end (tk.mark tk.comma) = false
is_end k = is_calm k

abbrev pub Ends : ℕ → List Token → Type 0
Ends e ts = is_end (next e ts).kind ≡ true

pub end_calm : (k : TokenView) → is_end k ≡ true → is_calm k ≡ true
end_calm (tk.mark tk.comma) h = refl
end_calm k h = h

abbrev pub ReadsAll : Phrases → Type 0
ReadsAll xs = (e : ℕ) → GoodAll e xs → (ts : List Token) → Ends e ts → Soon (steps_all xs) (λ r. r.phrases e (spell_all xs ts)) (Ok (xs, ts))

phrases_end : (r : Readers) (e : ℕ) (a : Phrase) (p : Place) (k : TokenView) (ts : List Token) → is_end k ≡ true → phrases_by r e a p k ts ≡ Ok (last a, ts)
phrases_end r e a p (tk.mark tk.comma) ts h = absurd cc
phrases_end r e a p k ts h = refl

pub reads_last : (a : Phrase) → Reads a → ReadsAll (last a)
reads_last a h e g ts k =
    let w = closed a h e g ts (end_calm (next e ts).kind k) in
    step (λ r. r.phrases e (spell a ts)) (Ok (last a, ts)) (omega arith) (λ n l. rw (w n (omega arith)) (phrases_end (readers n None) e a (next e ts).place (next e ts).kind ts k))

pub reads_more : (a : Phrase) (p : Place) (xs : Phrases) → Reads a → ReadsAll xs → ReadsAll (more a p xs)
reads_more a p xs h i e (ga, gp, gx) ts k =
    let w = closed a h e ga (mark p tk.comma (spell_all xs ts)) (rw gp refl) in
    let v = i e gx ts k in
    step (λ r. r.phrases e (spell_all (more a p xs) ts)) (Ok (more a p xs, ts)) (omega arith) (λ n l. rw (w n (omega arith), gp, v n (omega arith)) refl)

-- ---- primaries
operand_is : (e : ℕ) (a : Phrase) (ts : List Token) → Begins e a ts → (r : Readers) (c : Context) → peek e (operand (any r) r e c) (spell a ts) ≡ peek e (primary (any r) r e) (spell a ts)
operand_is e a ts b r c = rw (b.same_as, b.right) (b.as_operand r c (b.first ∷ b.rest))

short_is : (e : ℕ) (a : Phrase) (ts : List Token) → Begins e a ts → (r : Readers) → peek e (short_by (any r) r e) (spell a ts) ≡ peek e (primary (any r) r e) (spell a ts)
short_is e a ts b r = rw (b.same_as, b.right) (b.as_short r (b.first ∷ b.rest))

pub tail_call : (k : TokenView) → is_tail k ≡ false → is_call k ≡ false
tail_call (tk.mark tk.open_bracket) h = absurd cc
tail_call (tk.mark tk.prime) h = absurd cc
tail_call k h = refl

pub primary_reads : (a : Phrase) → ((e : ℕ) (d : Option Context) (ts : List Token) → Stops e d a ts → NoTail e ts) → ((e : ℕ) (d : Option Context) (ts : List Token) → Stops e d a ts → Inner e a ts) → ((e : ℕ) → Good e a → (ts : List Token) → Begins e a ts) → Prime a → Reads a
primary_reads a stop inner begins prime = record { begins = λ h. begins; prime = λ h. prime; brief = brief; full = full }
  where
    read : (e : ℕ) (d : Option Context) → Good e a → (ts : List Token) → Stops e d a ts → Soon (1 + steps a) (λ r. peek e (primary (any r) r e) (spell a ts)) (Ok (a, ts))
    read e d g ts s = prime e g ts (inner e d ts s) 1 (Ok (a, ts)) (postfix_ends e a ts (stop e d ts s))

    brief : Brief a
    brief e g h ts s =
        step (λ r. r.short e (spell a ts)) (Ok (a, ts)) (omega arith) (λ n l. short_is e a ts (begins e g ts) (readers n None) ∙ read e None g ts s n (omega arith))

    full : Full a
    full e c f g t ts s k o h =
        step (λ r. r.expr e c (spell a ts)) o (omega arith) (λ n l. ap (λ (x : Out Phrase). then_read x (λ a us. (readers n None).climb e c a us)) (operand_is e a ts (begins e g ts) (readers n None) c ∙ read e (Some c) g ts s n (omega arith)) ∙ h n (omega arith))

pub reads_number : (p : Place) (n : ℕ) → Reads (number p n)
reads_number p n = primary_reads (number p n) (λ e d ts s. s) (λ e d ts s. tail_call (next e ts).kind s) (λ e g ts. record { first = token p (tk.number n); rest = ts; same_as = refl; right = g; as_operand = λ r c us. refl; as_short = λ r us. refl })
    (λ e g ts i k o h. (λ m l. rw g (h m (omega arith))))

pub reads_quote : (p : Place) (x : Word) → Reads (string p x)
reads_quote p x = primary_reads (string p x) (λ e d ts s. s) (λ e d ts s. tail_call (next e ts).kind s) (λ e g ts. record { first = token p (tk.string x); rest = ts; same_as = refl; right = g; as_operand = λ r c us. refl; as_short = λ r us. refl })
    (λ e g ts i k o h. (λ m l. rw g (h m (omega arith))))

pub reads_constant : (p : Place) (x : Constant) → Reads (constant p x)
reads_constant p x = primary_reads (constant p x) (λ e d ts s. s) (λ e d ts s. tail_call (next e ts).kind s) (λ e g ts. record { first = token p (tk.constant x); rest = ts; same_as = refl; right = g; as_operand = λ r c us. refl; as_short = λ r us. refl })
    (λ e g ts i k o h. (λ m l. rw g (h m (omega arith))))

named_plain : (r : Readers) (e : ℕ) (p : Place) (x : Word) (q : Place) (k : TokenView) (ts : List Token) → is_call k ≡ false → named (any r) e p x q k ts ≡ Ok (name p x, ts)
named_plain r e p x q (tk.mark tk.open_bracket) ts h = absurd cc
named_plain r e p x q (tk.mark tk.prime) ts h = absurd cc
named_plain r e p x q k ts h = refl

pub reads_name : (p : Place) (x : Word) → Reads (name p x)
reads_name p x = primary_reads (name p x) (λ e d ts s. s) (λ e d ts s. tail_call (next e ts).kind s) (λ e g ts. record { first = token p (tk.word x); rest = ts; same_as = refl; right = g; as_operand = λ r c us. refl; as_short = λ r us. refl })
    (λ e g ts i k o h. (λ m l. rw g (ap (λ (x : Out Phrase). then_read x (λ a us. (readers m None).postfix e a us)) (named_plain (readers m None) e p x (next e ts).place (next e ts).kind ts i) ∙ h m (omega arith))))

pub reads_primed : (p : Place) (x : Word) (q : Place) → Reads (primed p x q)
reads_primed p x q = primary_reads (primed p x q) (λ e d ts s. s) (λ e d ts s. tail_call (next e ts).kind s) (λ e g ts. record { first = token p (tk.word x); rest = mark q tk.prime ts; same_as = refl; right = g.0; as_operand = λ r c us. refl; as_short = λ r us. refl })
    (λ e g ts i k o h. (λ m l. rw (g.0, g.1) (h m (omega arith))))

pub reads_call : (p : Place) (x : Word) (q : Place) (xs : Phrases) (s : Place) → ReadsAll xs → Reads (call p x q xs s)
reads_call p x q xs s hx = primary_reads (call p x q xs s) (λ e d ts s. s) (λ e d ts s. tail_call (next e ts).kind s) (λ e g ts. record { first = token p (tk.word x); rest = mark q tk.open_bracket (spell_all xs (mark s tk.close_bracket ts)); same_as = refl; right = g.0; as_operand = λ r c us. refl; as_short = λ r us. refl }) prime
  where
    prime : Prime (call p x q xs s)
    prime e (gp, gq, gx, gs) ts i k o h = (let v = hx e gx (mark s tk.close_bracket ts) (rw gs refl) in (λ m l. rw (gp, gq, v m (omega arith), gs) (h m (omega arith))))

pub reads_brackets : (p : Place) (a : Phrase) (q : Place) → Reads a → Reads (brackets p a q)
reads_brackets p a q ha = primary_reads (brackets p a q) (λ e d ts s. s) (λ e d ts s. tail_call (next e ts).kind s) (λ e g ts. record { first = token p (tk.mark tk.open_bracket); rest = spell a (mark q tk.close_bracket ts); same_as = refl; right = g.0; as_operand = λ r c us. refl; as_short = λ r us. refl }) prime
  where
    prime : Prime (brackets p a q)
    prime e (gp, ga, gq) ts i k o h = (let v = closed a ha e ga (mark q tk.close_bracket ts) (rw gq refl) in (λ m l. rw (gp, v m (omega arith), gq) (h m (omega arith))))

pub reads_no_set : (p q : Place) → Reads (no_set p q)
reads_no_set p q = primary_reads (no_set p q) (λ e d ts s. s) (λ e d ts s. tail_call (next e ts).kind s) (λ e g ts. record { first = token p (tk.mark tk.open_brace); rest = mark q tk.close_brace ts; same_as = refl; right = g.0; as_operand = λ r c us. refl; as_short = λ r us. refl })
    (λ e g ts i k o h. (λ m l. rw (g.0, g.1) (h m (omega arith))))

pub reads_no_tuple : (p q : Place) → Reads (no_tuple p q)
reads_no_tuple p q = primary_reads (no_tuple p q) (λ e d ts s. s) (λ e d ts s. tail_call (next e ts).kind s) (λ e g ts. record { first = token p (tk.mark tk.open_tuple); rest = mark q tk.close_tuple ts; same_as = refl; right = g.0; as_operand = λ r c us. refl; as_short = λ r us. refl })
    (λ e g ts i k o h. (λ m l. rw (g.0, g.1) (h m (omega arith))))

-- ---- operators
pub reads_infix : (a : Phrase) (p : Place) (o : Op) (b : Phrase) → Reads a → Reads b → Reads (infix_of a p o b)
reads_infix a p o b ha hb = record { begins = λ h. absurd cc; prime = λ h. absurd cc; brief = λ e g h. absurd cc; full = full }
  where
    full : Full (infix_of a p o b)
    full e c f (n, l, m, ga, gp, gb) t ts (s, k) w out h j i =
        let between : is_prefix o ≡ false = not-true (is_prefix o) n in
        let above = above_bound c f a p o b between t in
        let parts = left_parts a p o l in
        let more_ts = sign p o (spell b ts) in
        let v = ended b hb e (right_of o) tt gb m ts s k in
        let goes : goes_on (bound c) a p o ≡ true = rw (between, lt-ltb (bound c) (rank o).0 above, l) refl in
        ha.full e c f ga (fits_left c a o parts.0 above) more_ts (left_stops e c a p o more_ts ga parts.1 parts.0 above (seen_sign e p o (spell b ts) gp between)) (w + steps b + 4) out
        (step (λ r. r.climb e c a more_ts) out (omega arith) (λ n l. rw (gp, sign_infix o between, goes, v n (omega arith)) (h n (omega arith)))) j (omega arith)

prefix_operand : (r : Readers) (e : ℕ) (c : Context) (p : Place) (o : Op) (us : List Token) → is_prefix o ≡ true → operand (any r) r e c p (sign_of o) us ≡ skip (under_by (is_free c o) r e o >>= λ a. gives (prefix_of p o a)) us
prefix_operand r e c p op.Not us h = refl
prefix_operand r e c p op.Subset us h = refl
prefix_operand r e c p op.Union us h = refl
prefix_operand r e c p op.Domain us h = refl
prefix_operand r e c p op.Negate us h = refl
prefix_operand r e c p o us h = absurd cc

prefix_short : (r : Readers) (e : ℕ) (p : Place) (o : Op) (us : List Token) → is_prefix o ≡ true → short_by (any r) r e p (sign_of o) us ≡ skip (r.short e >>= λ a. gives (prefix_of p o a)) us
prefix_short r e p op.Not us h = refl
prefix_short r e p op.Subset us h = refl
prefix_short r e p op.Union us h = refl
prefix_short r e p op.Domain us h = refl
prefix_short r e p op.Negate us h = refl
prefix_short r e p o us h = absurd cc

pub reads_prefix : (p : Place) (o : Op) (a : Phrase) → Reads a → Reads (prefix_of p o a)
reads_prefix p o a ha = record { begins = λ h. absurd cc; prime = λ h. absurd cc; brief = brief; full = full }
  where
    brief : Brief (prefix_of p o a)
    brief e (n, m, gp, ga) t ts s =
        let v = ha.brief e ga t ts s in
        step (λ r. r.short e (spell (prefix_of p o a) ts)) (Ok (prefix_of p o a, ts)) (omega arith) (λ n' l. rw gp (prefix_short (readers n' None) e p o (sign p o (spell a ts)) n ∙ rw (v n' (omega arith)) refl))

    under_read : (e : ℕ) (c : Context) (b : Bool) → is_free c o ≡ b → Good e (prefix_of p o a) → fits c (prefix_of p o a) ≡ true → (ts : List Token) → MatchBool b (Stops e (Some (under o)) a ts × Stays e (rank o).1 a ts) (Stops e None a ts)
        → Soon (steps a + 3) (λ r. under_by b r e o (spell a ts)) (Ok (a, ts))
    under_read e c true i (n, m, gp, ga) t ts (s, k) j l = ended a ha e (under o) n ga m ts s k j l
    under_read e c false i (n, m, gp, ga) t ts s j l = ha.brief e ga (fits_short c p o a i t) ts s j (omega arith)

    full : Full (prefix_of p o a)
    full e c f g t ts s k out h =
        let v = under_read e c (is_free c o) refl g t ts s in
        step (λ r. r.expr e c (spell (prefix_of p o a) ts)) out
        (omega arith) (λ n l. rw (g.2, ap (λ (x : Out Phrase). then_read x (λ a us. (readers n None).climb e c a us)) (prefix_operand (readers n None) e c p o (sign p o (spell a ts)) g.0), v n (omega arith)) (h n (omega arith)))
