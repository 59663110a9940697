-- What is spelled is read: sets of functions, and EXCEPT.
use Rattle.std.proofs.Common.{◌≡◌, ℕ, ◌+◌, Bool, true, false, ◌&&◌, List, [], ◌∷◌, Ok, refl, sym, ap, ◌∙◌, arith, None}
use Rattle.std.proofs.lemmas.Bool.{or_parts}
use Rattle.std.proofs.Math.Bool.{and-false}
use Rattle.tla_token.specs.declared.place.Place.{Place}
use Rattle.tla_tree.specs.declared.op.Op.{Op}
use Rattle.tla_tree.specs.declared.op.Op.TheVariants as op
use Rattle.tla_tree.specs.Tree.{Word}
use Rattle.tla_tree.specs.Lexical.{TokenView, Token, token, sign_of}
use Rattle.tla_tree.specs.Lexical as tk
use Rattle.tla_tree.specs.Spelling.{Field, Phrase, name, primed, call, functions, except, apply, select, list, quantified, infix_of, prefix_of, last_bullet, bullet, Phrases, Settings, last_setting, setting, Path, path_end, index, at_field}
use Rattle.tla_tree.specs.Spelling.{mark, key, sign, word, spell, spell_settings, spell_path, is_word, is_in, Right, Good, GoodSettings, GoodPath}
use Rattle.tla_tree.specs.Reader.{any, Out, then_read, ◌>>=◌, next, peek, free, Readers, readers, element, from_name, squares, square_name, square_member, square_from, square_rest, settings_by, path_by}
use Rattle.tla_tree.proofs.Steps.{steps, steps_path, steps_settings}
use Rattle.tla_tree.proofs.ReadSoon.{Soon, step, is_tail, NoTail}
use Rattle.tla_tree.proofs.ReadStops.{is_calm, Calm}
use Rattle.tla_tree.proofs.ReadPhrases.{Prime, Reads, closed, closed_behind, is_end, Ends, end_calm, ReadsAll, primary_reads, tail_call}
use Rattle.tla_tree.proofs.ReadForms.{is_start, Starts, starts, field_read}
use Rattle.tla_tree.proofs.ReadElements.{from_word, assoc, cut_steps}
use Rattle.tla_tree.proofs.ReadMembers.{is_name, is_member, cut, member, primary_member, sign_no_word}

-- ---- after a square bracket
-- a token that decides after a first name
abbrev is_decisive : TokenView → Bool
is_decisive (tk.mark tk.maps) = true
is_decisive (tk.mark tk.colon) = true
is_decisive (tk.mark tk.comma) = true
is_decisive (tk.sign op.In) = true
is_decisive k = false

-- a token after a first expression
abbrev is_divider : TokenView → Bool
is_divider (tk.mark tk.arrow) = true
is_divider (tk.key tk.except_key) = true
is_divider k = false

divider_calm : (k : TokenView) → is_divider k ≡ true → is_calm k ≡ true
divider_calm (tk.mark tk.arrow) h = refl
divider_calm (tk.key tk.except_key) h = refl
divider_calm k h = absurd cc

divider_decides : (k : TokenView) → is_divider k ≡ true → is_decisive k ≡ false
divider_decides (tk.mark tk.arrow) h = refl
divider_decides (tk.key tk.except_key) h = refl
divider_decides k h = absurd cc

member_divided : (r : Readers) (e : ℕ) (p q : Place) (x : Word) (s : Place) (b : Phrase) (t : Place) (k : TokenView) (us : List Token)
    → is_divider k ≡ true → square_member (any r) r e p q x s b t k us ≡ square_from (any r) r e p (element q x s b) us
member_divided r e p q x s b t (tk.mark tk.arrow) us h = refl
member_divided r e p q x s b t (tk.key tk.except_key) us h = refl
member_divided r e p q x s b t k us h = absurd cc

squares_other : (r : Readers) (e : ℕ) (p q : Place) (k : TokenView) (us : List Token) → is_start k ≡ true → is_word k ≡ false
    → squares (any r) r e p q k us ≡ (r.expr e free >>= λ a. peek e (square_rest r e p a)) us
squares_other r e p q (tk.reserved x) us h w = absurd cc
squares_other r e p q (tk.word x) us h w = absurd cc
squares_other r e p q k us h w = refl

name_other : (r : Readers) (e : ℕ) (p q : Place) (x : Word) (s : Place) (k : TokenView) (vs : List Token) → is_decisive k ≡ false
    → square_name (any r) r e p q x s k vs ≡ (from_name (any r) r e q x >>= λ a. r.climb e free a >>= λ b. peek e (square_rest r e p b)) vs
name_other r e p q x s (tk.mark tk.maps) vs h = absurd cc
name_other r e p q x s (tk.mark tk.colon) vs h = absurd cc
name_other r e p q x s (tk.mark tk.comma) vs h = absurd cc
name_other r e p q x s (tk.sign op.In) vs h = absurd cc
name_other r e p q x s k vs h = refl

abbrev Undecided : ℕ → List Token → Type 0
Undecided e [] = Unit {0}
Undecided e (t ∷ vs) = (is_word t.kind && is_decisive (next e vs).kind) ≡ false

abbrev Squared : ℕ → Place → List Token → Type 0
Squared e p us = (b : Phrase) (ts : List Token) (o : Out Phrase) (j k : ℕ) → Soon j (λ r. r.expr e free us) (Ok (b, ts)) → Soon k (λ r. peek e (square_rest r e p b) ts) o → Soon (j + k) (λ r. peek e (squares (any r) r e p) us) o

squared_word : (e : ℕ) (p q : Place) (x : Word) (vs : List Token) → Right e q → is_decisive (next e vs).kind ≡ false → Squared e p (word q x vs)
squared_word e p q x vs g n b ts o j k h i =
    let v = from_word e q x vs (Ok (b, ts)) g h in (λ n' l. rw g (name_other (readers n' None) e p q x (next e vs).place (next e vs).kind vs n
    ∙ sym (assoc (from_name (any (readers n' None)) (readers n' None) e q x vs) (λ a us. (readers n' None).climb e free a us) (λ b us. peek e (square_rest (readers n' None) e p b) us))
    ∙ ap (λ (y : Out Phrase). then_read y (λ b us. peek e (square_rest (readers n' None) e p b) us)) (v n' (omega arith)) ∙ i n' (omega arith)))

squared_token : (e : ℕ) (p q : Place) (k : TokenView) (vs : List Token) → Right e q → is_start k ≡ true
    → (is_word k && is_decisive (next e vs).kind) ≡ false → Squared e p (token q k ∷ vs)
squared_token e p q (tk.word x) vs g t n b ts o j m h i = squared_word e p q x vs g n b ts o j m h i
squared_token e p q k vs g t n b ts o u w h i = (λ m l. rw g (squares_other (readers m None) e p q k (token q k ∷ vs) t refl
    ∙ ap (λ (y : Out Phrase). then_read y (λ b us. peek e (square_rest (readers m None) e p b) us)) (h m (omega arith)) ∙ i m (omega arith)))

squared : (e : ℕ) (p : Place) (us : List Token) → Starts e us → Undecided e us → Squared e p us
squared e p us s n = rw s.same_as (squared_token e p s.first.place s.first.kind s.rest s.right s.start (rw s.same_as at n))

-- ---- what is after a first name decides nothing
sign_decides : (o : Op) → is_decisive (sign_of o) ≡ is_in (sign_of o)
sign_decides op.In = refl
sign_decides op.Negate = refl
sign_decides o = refl

undecided : (e : ℕ) (a : Phrase) → Good e a → (us : List Token) → is_member a ≡ false → (is_name a && is_decisive (next e us).kind) ≡ false → Undecided e (spell a us)
undecided e (name p x) g us m h = h
undecided e (primed p x q) g us m h = rw g.1 refl
undecided e (call p x q xs r) g us m h = rw g.1 refl
undecided e (apply a p xs q) g us m h = undecided e a g.0 _ (primary_member a p g.1) (rw g.2 (and-false (is_name a)))
undecided e (select a p d) g us m h = undecided e a g.0 _ (primary_member a p g.1) (rw g.2 (and-false (is_name a)))
undecided e (infix_of a p o b) g us m h =
    let w = or_parts (is_member a) (is_name a && is_in (sign_of o)) m in
    undecided e a g.3 (sign p o (spell b us)) w.0 (rw (g.4, sign_decides o) w.1)
undecided e (prefix_of p o a) g us m h = rw (sign_no_word o) refl
undecided e (list o (last_bullet p a)) g us m h = rw (sign_no_word o) refl
undecided e (list o (bullet p a bs)) g us m h = rw (sign_no_word o) refl
undecided e (quantified true p bs q a) g us m h = refl
undecided e (quantified false p bs q a) g us m h = refl
undecided e a g us m h = refl

-- the first expression, before `->` or EXCEPT
first_part : (e : ℕ) (p : Place) (a : Phrase) → Reads a → Reads (cut a) → Good e a → (us : List Token) → is_divider (next e us).kind ≡ true
    → (j : ℕ) (o : Out Phrase) → Soon j (λ r. peek e (square_rest r e p a) us) o
    → Soon (j + steps a + 3) (λ r. peek e (squares (any r) r e p) (spell a us)) o
first_part e p a ha hc g us n j o h = by (is_member a) refl
  where
    calm : Calm e us
    calm = divider_calm (next e us).kind n

    by : (b : Bool) → is_member a ≡ b → Soon (j + steps a + 3) (λ r. peek e (squares (any r) r e p) (spell a us)) o
    by false m n' l = squared e p (spell a us) (starts e a g us) (undecided e a g us m (rw (divider_decides (next e us).kind n) (and-false (is_name a)))) a us o (steps a + 3) j (closed a ha e g us calm) h n' (omega arith)
    by true m n' l =
        let v = member e a g m in
        let w = closed_behind (cut a) hc e v.place v.word_of v.place_in v.good us calm in
        let f = cut_steps a in (rw (v.same_as us, v.right, v.right_in, w n' (omega arith))
        (member_divided (readers n' None) e p v.place v.word_of v.place_in (cut a) (next e us).place (next e us).kind us n ∙ rw v.joins (h n' (omega arith))))

-- ---- [S -> T]
pub reads_functions : (p : Place) (a : Phrase) (q : Place) (b : Phrase) (s : Place) → Reads a → Reads (cut a) → Reads b → Reads (functions p a q b s)
reads_functions p a q b s ha hc hb = primary_reads (functions p a q b s) (λ e d ts s. s) (λ e d ts s. tail_call (next e ts).kind s)
    (λ e g ts. record { first = token p (tk.mark tk.open_square); rest = spell a (mark q tk.arrow (spell b (mark s tk.close_square ts))); same_as = refl; right = g.0; as_operand = λ r c us. refl; as_short = λ r us. refl }) prime
  where
    prime : Prime (functions p a q b s)
    prime e (gp, ga, gq, gb, gs) ts i k o h =
        let us = mark q tk.arrow (spell b (mark s tk.close_square ts)) in
        let w = closed b hb e gb (mark s tk.close_square ts) (rw gs refl) in
        let z = first_part e p a ha hc ga us (rw gq refl) (steps b + 3) (Ok (functions p a q b s, ts)) (λ n l. rw (gq, w n (omega arith), gs) refl) in
        (λ n l. rw (gp, z n (omega arith)) (h n (omega arith)))

-- ---- the places that are set
abbrev pub ReadsPath : Path → Type 0
ReadsPath path = (e : ℕ) → GoodPath e path → (ts : List Token) → NoTail e ts → Soon (steps_path path) (λ r. r.path e (spell_path path ts)) (Ok (path, ts))

path_stops : (r : Readers) (e : ℕ) (p : Place) (k : TokenView) (ts : List Token) → is_tail k ≡ false → path_by (any r) r e p k ts ≡ Ok (path_end, ts)
path_stops r e p (tk.mark tk.open_square) ts h = absurd cc
path_stops r e p (tk.mark tk.dot) ts h = absurd cc
path_stops r e p k ts h = refl

pub reads_path_end : ReadsPath path_end
reads_path_end e g ts k = step (λ r. r.path e ts) (Ok (path_end, ts)) (omega arith) (λ n l. path_stops (readers n None) e (next e ts).place (next e ts).kind ts k)

pub reads_index : (p : Place) (xs : Phrases) (q : Place) (path : Path) → ReadsAll xs → ReadsPath path → ReadsPath (index p xs q path)
reads_index p xs q path hx hp e (gp, gx, gq, g) ts k =
    let v = hx e gx (mark q tk.close_square (spell_path path ts)) (rw gq refl) in
    let w = hp e g ts k in
    step (λ r. r.path e (spell_path (index p xs q path) ts)) (Ok (index p xs q path, ts)) (omega arith) (λ n l. rw (gp, v n (omega arith), gq, w n (omega arith)) refl)

pub reads_at_field : (p : Place) (f : Field) (path : Path) → ReadsPath path → ReadsPath (at_field p f path)
reads_at_field p f path hp e (gp, gf, g) ts k =
    let w = hp e g ts k in
    step (λ r. r.path e (spell_path (at_field p f path) ts)) (Ok (at_field p f path, ts)) (omega arith) (λ n l. rw (gp, field_read e f (spell_path path ts) gf, w n (omega arith)) refl)

-- ---- settings
abbrev pub ReadsSettings : Settings → Type 0
ReadsSettings ss = (e : ℕ) → GoodSettings e ss → (ts : List Token) → Ends e ts → Soon (steps_settings ss) (λ r. r.settings e (spell_settings ss ts)) (Ok (ss, ts))

settings_end : (r : Readers) (e : ℕ) (p : Place) (path : Path) (q : Place) (a : Phrase) (s : Place) (k : TokenView) (ts : List Token) → is_end k ≡ true
    → settings_by r e p path q a s k ts ≡ Ok (last_setting p path q a, ts)
settings_end r e p path q a s (tk.mark tk.comma) ts h = absurd cc
settings_end r e p path q a s k ts h = refl

pub reads_last_setting : (p : Place) (path : Path) (q : Place) (a : Phrase) → ReadsPath path → Reads a → ReadsSettings (last_setting p path q a)
reads_last_setting p path q a hp ha e (gp, some, gpath, gq, ga) ts k =
    let v = hp e gpath (sign q op.Equal (spell a ts)) (rw gq refl) in
    let w = closed a ha e ga ts (end_calm (next e ts).kind k) in
    step (λ r. r.settings e (spell_settings (last_setting p path q a) ts)) (Ok (last_setting p path q a, ts)) (omega arith) (λ n l. rw (gp, v n (omega arith), some, gq, w n (omega arith)) (settings_end (readers n None) e p path q a (next e ts).place (next e ts).kind ts k))

pub reads_setting : (p : Place) (path : Path) (q : Place) (a : Phrase) (s : Place) (ss : Settings) → ReadsPath path → Reads a → ReadsSettings ss
    → ReadsSettings (setting p path q a s ss)
reads_setting p path q a s ss hp ha hs e (gp, some, gpath, gq, ga, gs, gss) ts k =
    let us = mark s tk.comma (spell_settings ss ts) in
    let v = hp e gpath (sign q op.Equal (spell a us)) (rw gq refl) in
    let w = closed a ha e ga us (rw gs refl) in
    let u = hs e gss ts k in
    step (λ r. r.settings e (spell_settings (setting p path q a s ss) ts)) (Ok (setting p path q a s ss, ts)) (omega arith) (λ n l. rw (gp, v n (omega arith), some, gq, w n (omega arith), gs, u n (omega arith)) refl)

-- ---- [f EXCEPT !.a = e, ![b] = f]
pub reads_except : (p : Place) (a : Phrase) (q : Place) (ss : Settings) (s : Place) → Reads a → Reads (cut a) → ReadsSettings ss → Reads (except p a q ss s)
reads_except p a q ss s ha hc hs = primary_reads (except p a q ss s) (λ e d ts s. s) (λ e d ts s. tail_call (next e ts).kind s)
    (λ e g ts. record { first = token p (tk.mark tk.open_square); rest = spell a (key q tk.except_key (spell_settings ss (mark s tk.close_square ts))); same_as = refl; right = g.0; as_operand = λ r c us. refl; as_short = λ r us. refl }) prime
  where
    prime : Prime (except p a q ss s)
    prime e (gp, ga, gq, gss, gs) ts i k o h =
        let us = key q tk.except_key (spell_settings ss (mark s tk.close_square ts)) in
        let w = hs e gss (mark s tk.close_square ts) (rw gs refl) in
        let z = first_part e p a ha hc ga us (rw gq refl) (steps_settings ss) (Ok (except p a q ss s, ts)) (λ n l. rw (gq, w n (omega arith), gs) refl) in
        (λ n l. rw (gp, z n (omega arith)) (h n (omega arith)))
