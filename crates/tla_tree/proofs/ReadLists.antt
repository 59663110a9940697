-- What is spelled is read: lists by columns, and CASE.
use Rattle.std.proofs.Common.{eq-eqb, ◌≡◌, ℕ, nat_eq, ◌+◌, true, false, not, ◌&&◌, nat_lt, List, ◌∷◌, Some, Ok, refl, ◌∙◌, arith, None}
use Rattle.std.proofs.lemmas.Bool.{le-ltb, not-true}
use Rattle.tla_token.specs.declared.place.Place.{Place}
use Rattle.tla_tree.specs.declared.op.Op.{Op}
use Rattle.tla_tree.specs.declared.op.Op.TheVariants as op
use Rattle.tla_tree.specs.Rank.{is_prefix, is_bullet, number_of}
use Rattle.tla_tree.specs.Lexical.{TokenView, Token, token, sign_of}
use Rattle.tla_tree.specs.Lexical as tk
use Rattle.tla_tree.specs.Spelling.{Phrase, list, cases}
use Rattle.tla_tree.specs.Spelling.{Bullets, last_bullet, bullet, Arms, last_arm, other_arm, arm}
use Rattle.tla_tree.specs.Spelling.{mark, key, sign, spell, Good, Right, first_bullet, spell_bullets, spell_arms, GoodBullets, GoodArms, takes_box}
use Rattle.tla_tree.specs.Reader.{any, is_sign, take, bullet_of, arms_by, arms_other, end, ◌>>=◌, gives, next, peek, Context, free, Readers, readers, primary, operand, short_by}
use Rattle.tla_tree.proofs.Steps.{steps, steps_bullets, steps_arms}
use Rattle.tla_tree.proofs.ReadSoon.{Soon, step}
use Rattle.tla_tree.proofs.ReadStops.{ListEnds, BulletsStop, ArmsStop, is_box, box_stops, box_stays, sign_infix}
use Rattle.tla_tree.proofs.ReadPhrases.{Prime, Full, Begins, Reads, ended, closed, primary_reads}
use Rattle.tla_tree.proofs.ReadForms.{is_start, Starts, starts}

-- ---- lists
bullet_between : (o : Op) → is_bullet o ≡ true → is_prefix o ≡ false
bullet_between op.And h = refl
bullet_between op.Or h = refl
bullet_between o h = absurd cc

bullet_operand : (r : Readers) (e : ℕ) (c : Context) (p : Place) (o : Op) (us : List Token) → is_bullet o ≡ true → operand (any r) r e c p (sign_of o) us ≡ primary (any r) r e p (sign_of o) us
bullet_operand r e c p op.And us h = refl
bullet_operand r e c p op.Or us h = refl
bullet_operand r e c p o us h = absurd cc

bullet_short : (r : Readers) (e : ℕ) (p : Place) (o : Op) (us : List Token) → is_bullet o ≡ true → short_by (any r) r e p (sign_of o) us ≡ primary (any r) r e p (sign_of o) us
bullet_short r e p op.And us h = refl
bullet_short r e p op.Or us h = refl
bullet_short r e p o us h = absurd cc

-- a bullet is seen from outside of its list, in its column
record IsBullet (e : ℕ) (o : Op) (c : ℕ) (q : Place) (us : List Token) : Type 0 where
  seen : next e us ≡ token q (tk.sign o)
  here : (is_sign o (tk.sign o) && nat_eq c q.col) ≡ true
  hidden : next c us ≡ end

is_here : (e : ℕ) (o : Op) (c : ℕ) (q : Place) (us : List Token) → is_bullet o ≡ true → nat_lt e c ≡ true → q.col ≡ c → IsBullet e o c q (sign q o us)
is_here e o c q us b l s = record {
  seen = rw (s, l, sign_infix o (bullet_between o b)) refl;
  here = rw (s, eq-eqb (number_of o) (number_of o) refl, eq-eqb c c refl) refl;
  hidden = rw (s, le-ltb c c (omega arith)) refl;
}

abbrev pub ReadsBullets : Bullets → Type 0
ReadsBullets bs = (e : ℕ) (o : Op) (c : ℕ) → is_bullet o ≡ true → nat_lt e c ≡ true → GoodBullets c bs → (ts : List Token) → ListEnds e o c ts → BulletsStop c bs ts → Soon (steps_bullets bs) (λ r. r.bullets e o c (spell_bullets o bs ts)) (Ok (bs, ts))

take_bullet : (e : ℕ) (o : Op) (c : ℕ) (q : Place) (us : List Token) → IsBullet e o c q (sign q o us) → take e (bullet_of o c) (sign q o us) ≡ Ok (q, us)
take_bullet e o c q us b = rw (b.seen, b.here) refl

pub reads_last_bullet : (p : Place) (a : Phrase) → Reads a → ReadsBullets (last_bullet p a)
reads_last_bullet p a h e o c b l (pc, ga) ts k (s, z) =
    let w = ended a h c free tt ga refl ts s z in
    step (λ r. r.bullets e o c (sign p o (spell a ts))) (Ok (last_bullet p a, ts)) (omega arith) (λ n m. rw (take_bullet e o c p (spell a ts) (is_here e o c p (spell a ts) b l pc), w n (omega arith), k) refl)

bullets_first : (o : Op) (bs : Bullets) (ts : List Token) → (us : List Token) × (spell_bullets o bs ts ≡ sign (first_bullet bs) o us)
bullets_first o (last_bullet p a) ts = (spell a ts, refl)
bullets_first o (bullet p a bs) ts = (spell a (spell_bullets o bs ts), refl)

pub first_column : (c : ℕ) (bs : Bullets) → GoodBullets c bs → (first_bullet bs).col ≡ c
first_column c (last_bullet p a) g = g.0
first_column c (bullet p a bs) g = g.0

pub reads_bullet : (p : Place) (a : Phrase) (bs : Bullets) → Reads a → ReadsBullets bs → ReadsBullets (bullet p a bs)
reads_bullet p a bs h i e o c b l (pc, ga, gb) ts k s =
    let us = spell_bullets o bs ts in
    let f = bullets_first o bs ts in
    let next_one : IsBullet e o c (first_bullet bs) us = rw f.1 (is_here e o c (first_bullet bs) f.0 b l (first_column c bs gb)) in
    let w = closed a h c ga us (rw next_one.hidden refl) in
    let v = i e o c b l gb ts k s in
    step (λ r. r.bullets e o c (sign p o (spell a us))) (Ok (bullet p a bs, ts)) (omega arith) (λ n m. rw (take_bullet e o c p (spell a us) (is_here e o c p (spell a us) b l pc), w n (omega arith), next_one.seen, next_one.here, v n (omega arith)) refl)

pub reads_list : (o : Op) (bs : Bullets) → ReadsBullets bs → Reads (list o bs)
reads_list o bs hb = primary_reads (list o bs) (λ e d ts s. s.0) (λ e d ts s. (s.1, s.2)) begins prime
  where
    begins : (e : ℕ) → Good e (list o bs) → (ts : List Token) → Begins e (list o bs) ts
    begins e (b, l, g) ts = (let f = bullets_first o bs ts in record { first = token (first_bullet bs) (sign_of o); rest = f.0; same_as = f.1; right = l; as_operand = λ r c us. bullet_operand r e c (first_bullet bs) o us b; as_short = λ r us. bullet_short r e (first_bullet bs) o us b })

    prime : Prime (list o bs)
    prime e (b, l, g) ts (k, s) w out h =
        let c = (first_bullet bs).col in
        let us = spell_bullets o bs ts in
        let f = bullets_first o bs ts in
        let here : IsBullet e o c (first_bullet bs) us = rw f.1 (is_here e o c (first_bullet bs) f.0 b l refl) in
        let v = hb e o c b l g ts k s in
        (λ n m. rw (here.seen, b, v n (omega arith)) (h n (omega arith)))

-- ---- CASE
abbrev pub ReadsArms : Arms → Type 0
ReadsArms xs = (e : ℕ) → GoodArms e xs → (ts : List Token) → ArmsStop e xs ts → Soon (steps_arms xs) (λ r. r.arms e (spell_arms xs ts)) (Ok (xs, ts))

arms_end : (r : Readers) (e : ℕ) (a : Phrase) (p : Place) (b : Phrase) (q : Place) (k : TokenView) (ts : List Token) → is_box k ≡ false → arms_by r e a p b q k ts ≡ Ok (last_arm a p b, ts)
arms_end r e a p b q (tk.mark tk.box) ts h = absurd cc
arms_end r e a p b q k ts h = refl

pub reads_last_arm : (a : Phrase) (p : Place) (b : Phrase) → Reads a → Reads b → ReadsArms (last_arm a p b)
reads_last_arm a p b ha hb e (ga, gp, gb) ts (s, z, k) =
    let w = closed a ha e ga (mark p tk.arrow (spell b ts)) (rw gp refl) in
    let v = ended b hb e free tt gb refl ts s z in
    step (λ r. r.arms e (spell_arms (last_arm a p b) ts)) (Ok (last_arm a p b, ts)) (omega arith) (λ n l. rw (w n (omega arith), gp, v n (omega arith)) (arms_end (readers n None) e a p b (next e ts).place (next e ts).kind ts k))

-- before a `[]` that no CASE in it takes
boxed : (b : Phrase) → Reads b → (e : ℕ) → Good e b → (q : Place) (ts : List Token) → Right e q → not (takes_box q.col b) ≡ true → Soon (steps b + 3) (λ r. r.expr e free (spell b (mark q tk.box ts))) (Ok (b, mark q tk.box ts))
boxed b h e g q ts r k =
    let us = mark q tk.box ts in
    let s : next e us ≡ token q (tk.mark tk.box) = rw r refl in
    ended b h e free tt g refl us (box_stops e (Some free) b us q g (not-true (takes_box q.col b) k) s) (box_stays e 0 b us q s)

pub reads_other_arm : (a : Phrase) (p : Place) (b : Phrase) (q m s : Place) (d : Phrase) → Reads a → Reads b → Reads d → ReadsArms (other_arm a p b q m s d)
reads_other_arm a p b q m s d ha hb hd e (ga, gp, gb, z0, gq, gr, gs, gd) ts (y, z) =
    let us = key m tk.other_key (mark s tk.arrow (spell d ts)) in
    let w = closed a ha e ga (mark p tk.arrow (spell b (mark q tk.box us))) (rw gp refl) in
    let v = boxed b hb e gb q us gq z0 in
    let u = ended d hd e free tt gd refl ts y z in
    step (λ r. r.arms e (spell_arms (other_arm a p b q m s d) ts)) (Ok (other_arm a p b q m s d, ts)) (omega arith) (λ n l. rw (w n (omega arith), gp, v n (omega arith), gq, not-true (takes_box q.col b) z0, gr, gs, u n (omega arith)) refl)

starts_arms : (e : ℕ) (xs : Arms) → GoodArms e xs → (ts : List Token) → Starts e (spell_arms xs ts)
starts_arms e (last_arm a p b) g ts = starts e a g.0 (mark p tk.arrow (spell b ts))
starts_arms e (other_arm a p b q r s c) g ts = starts e a g.0 (mark p tk.arrow (spell b (mark q tk.box (key r tk.other_key (mark s tk.arrow (spell c ts))))))
starts_arms e (arm a p b q xs) g ts = starts e a g.0 (mark p tk.arrow (spell b (mark q tk.box (spell_arms xs ts))))

arms_by_start : (r : Readers) (e : ℕ) (a : Phrase) (p : Place) (b : Phrase) (q s : Place) (k : TokenView) (us : List Token) → is_start k ≡ true → arms_other r e a p b q s k us ≡ (r.arms e >>= λ xs. gives (arm a p b q xs)) us
arms_by_start r e a p b q s (tk.key tk.other_key) us h = absurd cc
arms_by_start r e a p b q s k us h = refl

arms_at : (r : Readers) (e : ℕ) (a : Phrase) (p : Place) (b : Phrase) (q : Place) (us : List Token) → Starts e us → peek e (arms_other r e a p b q) us ≡ (r.arms e >>= λ xs. gives (arm a p b q xs)) us
arms_at r e a p b q us s = rw (s.same_as, s.right) (arms_by_start r e a p b q s.first.place s.first.kind (s.first ∷ s.rest) s.start)

pub reads_arm : (a : Phrase) (p : Place) (b : Phrase) (q : Place) (xs : Arms) → Reads a → Reads b → ReadsArms xs → ReadsArms (arm a p b q xs)
reads_arm a p b q xs ha hb hx e (ga, gp, gb, z0, gq, gx) ts k =
    let us = spell_arms xs ts in
    let w = closed a ha e ga (mark p tk.arrow (spell b (mark q tk.box us))) (rw gp refl) in
    let v = boxed b hb e gb q us gq z0 in
    let u = hx e gx ts k in
    step (λ r. r.arms e (spell_arms (arm a p b q xs) ts)) (Ok (arm a p b q xs, ts)) (omega arith) (λ n l. rw (w n (omega arith), gp, v n (omega arith), gq, not-true (takes_box q.col b) z0) (arms_at (readers n None) e a p b q us (starts_arms e xs gx ts) ∙ rw (u n (omega arith)) refl))

pub reads_cases : (p : Place) (xs : Arms) → ReadsArms xs → Reads (cases p xs)
reads_cases p xs hx = record { begins = λ h. absurd cc; prime = λ h. absurd cc; brief = λ e g h. absurd cc; full = full }
  where
    full : Full (cases p xs)
    full e c f (gp, gx) t ts s w o h =
        let v = hx e gx ts s in
        step (λ r. r.expr e c (spell (cases p xs) ts)) o (omega arith) (λ n l. rw (gp, v n (omega arith)) (h n (omega arith)))
