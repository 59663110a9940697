-- What is spelled is read: records, functions, and sets with a filter.
use Rattle.std.proofs.Common.{eq-eqb, ◌≡◌, ℕ, ◌+◌, Bool, true, false, List, ◌∷◌, Ok, refl, arith, None}
use Rattle.tla_token.specs.declared.place.Place.{Place}
use Rattle.tla_tree.specs.declared.op.Op.TheVariants as op
use Rattle.tla_tree.specs.Tree.{Word}
use Rattle.tla_tree.specs.Lexical.{Mark, TokenView, Token, token, field_kind}
use Rattle.tla_tree.specs.Lexical as tk
use Rattle.tla_tree.specs.Spelling.{Field, Phrase, filter, fields, records, function}
use Rattle.tla_tree.specs.Spelling.{Binds, last_bind, bind, share, Fields, last_field, field}
use Rattle.tla_tree.specs.Spelling.{mark, sign, word, field_token, spell, spell_binds, Good, GoodBinds, Right, spell_fields, GoodFields}
use Rattle.tla_tree.specs.Reader.{any, mark_number, fields_by, squares, field_rest, next, peek, a_mark, Readers, readers}
use Rattle.tla_tree.proofs.Steps.{steps, steps_binds, steps_fields}
use Rattle.tla_tree.proofs.ReadSoon.{Soon, step}
use Rattle.tla_tree.proofs.ReadPhrases.{tail_call, Prime, Reads, closed, closed_behind, is_end, Ends, end_calm, primary_reads}
use Rattle.tla_tree.proofs.ReadForms.{field_read, ReadsBinds, BindsRead}

mark_read : (e : ℕ) (p : Place) (m : Mark) (ts : List Token) → Right e p → a_mark e m (mark p m ts) ≡ Ok (p, ts)
mark_read e p m ts g = rw (g, eq-eqb (mark_number m) (mark_number m) refl) refl

-- ---- fields
pub record FieldsRead (e : ℕ) (m : Mark) (fs : Fields) (ts : List Token) : Type 0 where
  pub first : Field
  pub place : Place
  pub rest : List Token
  pub same_as : spell_fields m fs ts ≡ field_token first (mark place m rest)
  pub right : Right e first.place
  pub right_mark : Right e place
  pub reads : Soon (steps_fields fs) (λ r. r.fields e m first (mark place m rest)) (Ok (fs, ts))

abbrev pub ReadsFields : Fields → Type 0
ReadsFields fs = (e : ℕ) (m : Mark) → GoodFields e fs → (ts : List Token) → Ends e ts → FieldsRead e m fs ts

fields_end : (r : Readers) (e : ℕ) (m : Mark) (f : Field) (p : Place) (a : Phrase) (q : Place) (k : TokenView) (ts : List Token) → is_end k ≡ true → fields_by r e m f p a q k ts ≡ Ok (last_field f p a, ts)
fields_end r e m f p a q (tk.mark tk.comma) ts h = absurd cc
fields_end r e m f p a q k ts h = refl

pub reads_last_field : (f : Field) (p : Place) (a : Phrase) → Reads a → ReadsFields (last_field f p a)
reads_last_field f p a h e m (gf, gp, ga) ts k =
    let us = mark p m (spell a ts) in
    let w = closed a h e ga ts (end_calm (next e ts).kind k) in
    record { first = f; place = p; rest = spell a ts; same_as = refl; right = gf; right_mark = gp; reads = step (λ r. r.fields e m f us) (Ok (last_field f p a, ts)) (omega arith) (λ n l. rw (mark_read e p m (spell a ts) gp, w n (omega arith)) (fields_end (readers n None) e m f p a (next e ts).place (next e ts).kind ts k)) }

pub reads_field : (f : Field) (p : Place) (a : Phrase) (q : Place) (fs : Fields) → Reads a → ReadsFields fs → ReadsFields (field f p a q fs)
reads_field f p a q fs h i e m (gf, gp, ga, gq, gs) ts k =
    let v = i e m gs ts k in
    let us = spell a (mark q tk.comma (spell_fields m fs ts)) in
    let w = closed a h e ga (mark q tk.comma (spell_fields m fs ts)) (rw gq refl) in
    record { first = f; place = p; rest = us; same_as = refl; right = gf; right_mark = gp; reads = step (λ r. r.fields e m f (mark p m us)) (Ok (field f p a q fs, ts)) (omega arith) (λ n l. rw (mark_read e p m us gp, w n (omega arith), gq, v.same_as, field_read e v.first (mark v.place m v.rest) v.right, v.reads n (omega arith)) refl) }

maps_at : (r : Readers) (e : ℕ) (p q : Place) (b : Bool) (x : Word) (s : Place) (us : List Token) → Right e q → Right e s → peek e (squares (any r) r e p) (token q (field_kind b x) ∷ mark s tk.maps us) ≡ field_rest r e p (record { place = q; is_reserved = b; text = x }) s (tk.mark tk.maps) (mark s tk.maps us)
maps_at r e p q true x s us g h = rw (g, h) refl
maps_at r e p q false x s us g h = rw (g, h) refl

colon_at : (r : Readers) (e : ℕ) (p q : Place) (b : Bool) (x : Word) (s : Place) (us : List Token) → Right e q → Right e s → peek e (squares (any r) r e p) (token q (field_kind b x) ∷ mark s tk.colon us) ≡ field_rest r e p (record { place = q; is_reserved = b; text = x }) s (tk.mark tk.colon) (mark s tk.colon us)
colon_at r e p q true x s us g h = rw (g, h) refl
colon_at r e p q false x s us g h = rw (g, h) refl

pub reads_fields : (p : Place) (fs : Fields) (q : Place) → ReadsFields fs → Reads (fields p fs q)
reads_fields p fs q hf = primary_reads (fields p fs q) (λ e d ts s. s) (λ e d ts s. tail_call (next e ts).kind s) (λ e g ts. record { first = token p (tk.mark tk.open_square); rest = spell_fields tk.maps fs (mark q tk.close_square ts); same_as = refl; right = g.0; as_operand = λ r c us. refl; as_short = λ r us. refl }) prime
  where
    prime : Prime (fields p fs q)
    prime e (gp, gf, gq) ts i k o h =
        let v = hf e tk.maps gf (mark q tk.close_square ts) (rw gq refl) in
        (λ n l. rw (gp, v.same_as, maps_at (readers n None) e p v.first.place v.first.is_reserved v.first.text v.place v.rest v.right v.right_mark, v.reads n (omega arith), gq) (h n (omega arith)))

pub reads_records : (p : Place) (fs : Fields) (q : Place) → ReadsFields fs → Reads (records p fs q)
reads_records p fs q hf = primary_reads (records p fs q) (λ e d ts s. s) (λ e d ts s. tail_call (next e ts).kind s) (λ e g ts. record { first = token p (tk.mark tk.open_square); rest = spell_fields tk.colon fs (mark q tk.close_square ts); same_as = refl; right = g.0; as_operand = λ r c us. refl; as_short = λ r us. refl }) prime
  where
    prime : Prime (records p fs q)
    prime e (gp, gf, gq) ts i k o h =
        let v = hf e tk.colon gf (mark q tk.close_square ts) (rw gq refl) in
        (λ n l. rw (gp, v.same_as, colon_at (readers n None) e p v.first.place v.first.is_reserved v.first.text v.place v.rest v.right v.right_mark, v.reads n (omega arith), gq) (h n (omega arith)))

-- ---- functions, by how their names begin
abbrev IsRead : ℕ → Place → Binds → Place → Phrase → Place → Type 0
IsRead e p bs q a s = (ts : List Token) → Soon (steps_binds bs + steps a + 3) (λ r. peek e (squares (any r) r e p) (spell_binds bs (mark q tk.maps (spell a (mark s tk.close_square ts))))) (Ok (function p bs q a s, ts))

square_form : (p : Place) (bs : Binds) (q : Place) (a : Phrase) (s : Place) → ((e : ℕ) → Good e (function p bs q a s) → IsRead e p bs q a s) → Reads (function p bs q a s)
square_form p bs q a s read = primary_reads (function p bs q a s) (λ e d ts s. s) (λ e d ts s. tail_call (next e ts).kind s) (λ e g ts. record { first = token p (tk.mark tk.open_square); rest = spell_binds bs (mark q tk.maps (spell a (mark s tk.close_square ts))); same_as = refl; right = g.0; as_operand = λ r c us. refl; as_short = λ r us. refl }) prime
  where
    prime : Prime (function p bs q a s)
    prime e g ts i k o h = (let v = read e g ts in (λ n l. rw (g.0, v n (omega arith)) (h n (omega arith))))

pub reads_function_last : (p y : Place) (x : Word) (z : Place) (b : Phrase) (q : Place) (a : Phrase) (s : Place) → Reads b → Reads a → Reads (function p (last_bind y x z b) q a s)
reads_function_last p y x z b q a s hb ha = square_form p (last_bind y x z b) q a s (λ e (gp, (gy, gz, gb), gq, ga, gs) ts. (
    let v = closed_behind b hb e y x z gb (mark q tk.maps (spell a (mark s tk.close_square ts))) (rw gq refl) in
    let u = closed a ha e ga (mark s tk.close_square ts) (rw gs refl) in
    (λ n l. rw (gy, gz, v n (omega arith), gq, gq, u n (omega arith), gs) refl)))

pub reads_function_bind : (p y : Place) (x : Word) (z : Place) (b : Phrase) (t : Place) (bs : Binds) (q : Place) (a : Phrase) (s : Place) → Reads b → ReadsBinds bs → Reads a → Reads (function p (bind y x z b t bs) q a s)
reads_function_bind p y x z b t bs q a s hb hs ha = square_form p (bind y x z b t bs) q a s (λ e (gp, (gy, gz, gb, gt, gbs), gq, ga, gs) ts. (
    let us = mark q tk.maps (spell a (mark s tk.close_square ts)) in
    let v = closed_behind b hb e y x z gb (mark t tk.comma (spell_binds bs us)) (rw gt refl) in
    let w = hs e gbs us (rw gq refl) in
    let u = closed a ha e ga (mark s tk.close_square ts) (rw gs refl) in
    (λ n l. rw (gy, gz, v n (omega arith), gt, gt, w.same_as, w.right, w.reads n (omega arith), gq, u n (omega arith), gs) refl)))

-- the names after the first
binds_share : (p : Place) (x : Word) (q : Place) (bs : Binds) (e : ℕ) → GoodBinds e (share p x q bs) → (ts : List Token) → BindsRead e bs ts → Soon (steps_binds bs + 1) (λ r. r.binds e p x (mark q tk.comma (spell_binds bs ts))) (Ok (share p x q bs, ts))
binds_share p x q bs e (gp, gq, gb) ts v = step (λ r. r.binds e p x (mark q tk.comma (spell_binds bs ts))) (Ok (share p x q bs, ts)) (omega arith) (λ n l. rw (gq, v.same_as, v.right, v.reads n (omega arith)) refl)

pub reads_function_share : (p y : Place) (x : Word) (z : Place) (bs : Binds) (q : Place) (a : Phrase) (s : Place) → ReadsBinds bs → Reads a → Reads (function p (share y x z bs) q a s)
reads_function_share p y x z bs q a s hs ha = square_form p (share y x z bs) q a s (λ e (gp, gbs, gq, ga, gs) ts. (
    let us = mark q tk.maps (spell a (mark s tk.close_square ts)) in
    let w = binds_share y x z bs e gbs us (hs e gbs.2 us (rw gq refl)) in
    let u = closed a ha e ga (mark s tk.close_square ts) (rw gs refl) in
    (λ n l. rw (gbs.0, gbs.1, w n (omega arith), gq, u n (omega arith), gs) refl)))

-- ---- filters
pub reads_filter : (p q : Place) (x : Word) (r : Place) (d : Phrase) (t : Place) (a : Phrase) (u : Place) → Reads d → Reads a → Reads (filter p q x r d t a u)
reads_filter p q x r d t a u hd ha = primary_reads (filter p q x r d t a u) (λ e d ts s. s) (λ e d ts s. tail_call (next e ts).kind s) (λ e g ts. record { first = token p (tk.mark tk.open_brace); rest = word q x (sign r op.In (spell d (mark t tk.colon (spell a (mark u tk.close_brace ts))))); same_as = refl; right = g.0; as_operand = λ r c us. refl; as_short = λ r us. refl }) prime
  where
    prime : Prime (filter p q x r d t a u)
    prime e (gp, gq, gr, gd, gt, ga, gu) ts i k o h =
        let v = closed_behind d hd e q x r gd (mark t tk.colon (spell a (mark u tk.close_brace ts))) (rw gt refl) in
        let w = closed a ha e ga (mark u tk.close_brace ts) (rw gu refl) in
        (λ n l. rw (gp, gq, gr, v n (omega arith), gt, w n (omega arith), gu) (h n (omega arith)))
