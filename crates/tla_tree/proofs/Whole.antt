-- As many steps as are needed: the readers that have them are one step over themselves.
use Rattle.std.proofs.Common.{◌≡◌, ℕ, zero, suc, ◌+◌, ◌*◌, ◌≤◌, Bool, true, false, nat_le, min, List, [], ◌∷◌, length, Some, None, Err, refl, sym, ap, ◌∙◌, arith, option_map}
use Rattle.tla_token.specs.declared.place.Place.{Place}
use Rattle.tla_token.specs.declared.rule.Rule.TheVariants.{Syntax}
use Rattle.tla_token.specs.Limits.{deepest_expression}
use Rattle.tla_tree.specs.declared.op.Op.{Op}
use Rattle.tla_tree.specs.Tree.{Word}
use Rattle.tla_tree.specs.Lexical.{Mark, Token}
use Rattle.tla_tree.specs.Spelling.{Field, Phrase}
use Rattle.tla_tree.specs.Reader.{Limit, Readers, Room, room, within, less, Reader, Out, then_read, read_by, Context, free, one_step, readers, readers_in, read_limited, phrases_by, peek}
use Rattle.tla_tree.specs.Whole.{whole, whole_in}
use Rattle.tla_tree.proofs.Alike.{rest_of}
use Rattle.tla_tree.proofs.Opened.{in_bullets}
use Rattle.tla_tree.proofs.Enough.{IsFair}
use Rattle.tla_tree.proofs.EnoughSteps.{AreFair, fair_none, fair_one_step}

-- ---- each reader leaves no more than it was given
pub fair_same : (linked : Bool) (n : ℕ) (b : Limit) → AreFair n (readers_in linked n b) (readers_in linked n b)
unfolding readers_in
fair_same linked zero b = fair_none
fair_same linked (suc n) b = fair_one_step linked n (readers_in linked n) (readers_in linked n) (fair_same linked n) b

-- ---- at the end of the tokens one step is enough
expr_ends : (linked : Bool) (n : ℕ) (b : Limit) (e : ℕ) (c : Context) → (readers_in linked n b).expr e c [] ≡ Err (Syntax, [])
unfolding readers_in
expr_ends linked zero b e c = refl
expr_ends linked (suc n) b e c = refl

bullets_by : (f g : Limit → Readers) (t : Bool) (b k : ℕ) (e : ℕ) (o : Op) (c : ℕ) (i j : Room)
    → read_by (option_map f (less t b k)) (in_bullets e o c i) [] ≡ read_by (option_map g (less t b k)) (in_bullets e o c j) []
bullets_by f g true b k e o c i j = refl
bullets_by f g false b k e o c i j = refl

-- which is said of no tokens
only : {A : Type 0} {b : ℕ} {p q : Reader A} → b ≤ 3 → ((ts : List Token) → length (rest_of (p ts)) ≤ length ts) → p [] ≡ q [] → IsFair b p q
only {A} {b} {p} {q} l h e = record { less = h; same = here }
  where
    here : (ts : List Token) → 4 * length ts ≤ b → p ts ≡ q ts
    here [] m = e
    here (t ∷ ts) m = absurd (omega (arith, l, m))

module _ (linked : Bool) (n m : ℕ) (b : Limit) where
  bullets_end : (e : ℕ) (o : Op) (c : ℕ) → (readers_in linked (suc n) b).bullets e o c [] ≡ (readers_in linked (suc m) b).bullets e o c []
  unfolding readers_in
  bullets_end e o c = by b
    where
      by : (b : Limit) → (one_step (room linked (readers_in linked n) b) (readers_in linked n b)).bullets e o c [] ≡ (one_step (room linked (readers_in linked m) b) (readers_in linked m b)).bullets e o c []
      by None = refl
      by (Some k) = bullets_by (readers_in linked n) (readers_in linked m) (nat_le 1 k) k 1 e o c (within 0 (room linked (readers_in linked n) (Some k))) (within 0 (room linked (readers_in linked m) (Some k)))

  phrases_end : (e : ℕ) → (readers_in linked (suc n) b).phrases e [] ≡ (readers_in linked (suc m) b).phrases e []
  unfolding readers_in
  phrases_end e = ap (λ (o : Out Phrase). then_read o (λ a. peek e (phrases_by (readers_in linked n b) e a))) (expr_ends linked n b e free) ∙ sym (ap (λ (o : Out Phrase). then_read o (λ a. peek e (phrases_by (readers_in linked m b) e a))) (expr_ends linked m b e free))

  arms_end : (e : ℕ) → (readers_in linked (suc n) b).arms e [] ≡ (readers_in linked (suc m) b).arms e []
  unfolding readers_in
  arms_end e = rw (expr_ends linked n b e free, expr_ends linked m b e free) refl

  fair_first : AreFair 1 (readers_in linked (suc n) b) (readers_in linked (suc m) b)
  unfolding readers_in
  fair_first = (let h = fair_same linked (suc n) b in record {
    expr = λ e c. only (omega arith) (h.expr e c).less refl;
    short = λ e. only (omega arith) (h.short e).less refl;
    postfix = λ e a. only (omega arith) (h.postfix e a).less refl;
    climb = λ e c a. only (omega arith) (h.climb e c a).less refl;
    phrases = λ e. only (omega arith) (h.phrases e).less (phrases_end e);
    binds = λ e p x. only (omega arith) (h.binds e p x).less refl;
    fields = λ e m f. only (omega arith) (h.fields e m f).less refl;
    settings = λ e. only (omega arith) (h.settings e).less refl;
    path = λ e. only (omega arith) (h.path e).less refl;
    bullets = λ e o c. only (omega arith) (h.bullets e o c).less (bullets_end e o c);
    arms = λ e. only (omega arith) (h.arms e).less (arms_end e);
    locals = λ e. only (omega arith) (h.locals e).less refl;
  })

-- ---- with more steps the same
pub fair_readers : (linked : Bool) (j n m : ℕ) → j ≤ n → j ≤ m → (b : Limit) → AreFair (suc j) (readers_in linked (suc n) b) (readers_in linked (suc m) b)
unfolding readers_in
fair_readers linked zero n m i k b = fair_first linked n m b
fair_readers linked (suc j) zero m i k b = absurd (omega (arith, i))
fair_readers linked (suc j) (suc n) zero i k b = absurd (omega (arith, k))
fair_readers linked (suc j) (suc n) (suc m) i k b = fair_one_step linked (suc j) (readers_in linked (suc n)) (readers_in linked (suc m)) (fair_readers linked j n m (omega (arith, i)) (omega (arith, k))) b

-- ---- and with as many as there are tokens for
pub fair_whole : (linked : Bool) (n : ℕ) (b : Limit) → AreFair (suc n) (readers_in linked (suc n) b) (whole_in linked b)
fair_whole linked n b = record {
  expr = λ e c. record { less = ((fair_same linked (suc n) b).expr e c).less; same = λ ts l. ((fair_readers linked (min n (suc (4 * length ts))) n (suc (4 * length ts)) (omega arith) (omega arith) b).expr e c).same ts (omega (arith, l)) };
  short = λ e. record { less = ((fair_same linked (suc n) b).short e).less; same = λ ts l. ((fair_readers linked (min n (suc (4 * length ts))) n (suc (4 * length ts)) (omega arith) (omega arith) b).short e).same ts (omega (arith, l)) };
  postfix = λ e a. record { less = ((fair_same linked (suc n) b).postfix e a).less; same = λ ts l. ((fair_readers linked (min n (suc (4 * length ts))) n (suc (4 * length ts)) (omega arith) (omega arith) b).postfix e a).same ts (omega (arith, l)) };
  climb = λ e c a. record { less = ((fair_same linked (suc n) b).climb e c a).less; same = λ ts l. ((fair_readers linked (min n (suc (4 * length ts))) n (suc (4 * length ts)) (omega arith) (omega arith) b).climb e c a).same ts (omega (arith, l)) };
  phrases = λ e. record { less = ((fair_same linked (suc n) b).phrases e).less; same = λ ts l. ((fair_readers linked (min n (suc (4 * length ts))) n (suc (4 * length ts)) (omega arith) (omega arith) b).phrases e).same ts (omega (arith, l)) };
  binds = λ e p x. record { less = ((fair_same linked (suc n) b).binds e p x).less; same = λ ts l. ((fair_readers linked (min n (suc (4 * length ts))) n (suc (4 * length ts)) (omega arith) (omega arith) b).binds e p x).same ts (omega (arith, l)) };
  fields = λ e m f. record { less = ((fair_same linked (suc n) b).fields e m f).less; same = λ ts l. ((fair_readers linked (min n (suc (4 * length ts))) n (suc (4 * length ts)) (omega arith) (omega arith) b).fields e m f).same ts (omega (arith, l)) };
  settings = λ e. record { less = ((fair_same linked (suc n) b).settings e).less; same = λ ts l. ((fair_readers linked (min n (suc (4 * length ts))) n (suc (4 * length ts)) (omega arith) (omega arith) b).settings e).same ts (omega (arith, l)) };
  path = λ e. record { less = ((fair_same linked (suc n) b).path e).less; same = λ ts l. ((fair_readers linked (min n (suc (4 * length ts))) n (suc (4 * length ts)) (omega arith) (omega arith) b).path e).same ts (omega (arith, l)) };
  bullets = λ e o c. record { less = ((fair_same linked (suc n) b).bullets e o c).less; same = λ ts l. ((fair_readers linked (min n (suc (4 * length ts))) n (suc (4 * length ts)) (omega arith) (omega arith) b).bullets e o c).same ts (omega (arith, l)) };
  arms = λ e. record { less = ((fair_same linked (suc n) b).arms e).less; same = λ ts l. ((fair_readers linked (min n (suc (4 * length ts))) n (suc (4 * length ts)) (omega arith) (omega arith) b).arms e).same ts (omega (arith, l)) };
  locals = λ e. record { less = ((fair_same linked (suc n) b).locals e).less; same = λ ts l. ((fair_readers linked (min n (suc (4 * length ts))) n (suc (4 * length ts)) (omega arith) (omega arith) b).locals e).same ts (omega (arith, l)) };
}

fair_over : (linked : Bool) (n : ℕ) (b : Limit) → AreFair (suc (suc n)) (readers_in linked (suc (suc n)) b) (one_step (room linked (whole_in linked) b) (whole_in linked b))
unfolding readers_in
fair_over linked n b = fair_one_step linked (suc n) (readers_in linked (suc n)) (whole_in linked) (fair_whole linked n) b

-- ---- one step over themselves
module _ (linked : Bool) (b : Limit) where
  pub expr_is : (e : ℕ) (c : Context) (ts : List Token) → (whole_in linked b).expr e c ts ≡ (one_step (room linked (whole_in linked) b) (whole_in linked b)).expr e c ts
  expr_is e c ts = ((fair_over linked (4 * length ts) b).expr e c).same ts (omega arith)

  pub short_is : (e : ℕ) (ts : List Token) → (whole_in linked b).short e ts ≡ (one_step (room linked (whole_in linked) b) (whole_in linked b)).short e ts
  short_is e ts = ((fair_over linked (4 * length ts) b).short e).same ts (omega arith)

  pub postfix_is : (e : ℕ) (a : Phrase) (ts : List Token) → (whole_in linked b).postfix e a ts ≡ (one_step (room linked (whole_in linked) b) (whole_in linked b)).postfix e a ts
  postfix_is e a ts = ((fair_over linked (4 * length ts) b).postfix e a).same ts (omega arith)

  pub climb_is : (e : ℕ) (c : Context) (a : Phrase) (ts : List Token) → (whole_in linked b).climb e c a ts ≡ (one_step (room linked (whole_in linked) b) (whole_in linked b)).climb e c a ts
  climb_is e c a ts = ((fair_over linked (4 * length ts) b).climb e c a).same ts (omega arith)

  pub phrases_is : (e : ℕ) (ts : List Token) → (whole_in linked b).phrases e ts ≡ (one_step (room linked (whole_in linked) b) (whole_in linked b)).phrases e ts
  phrases_is e ts = ((fair_over linked (4 * length ts) b).phrases e).same ts (omega arith)

  pub binds_is : (e : ℕ) (p : Place) (x : Word) (ts : List Token) → (whole_in linked b).binds e p x ts ≡ (one_step (room linked (whole_in linked) b) (whole_in linked b)).binds e p x ts
  binds_is e p x ts = ((fair_over linked (4 * length ts) b).binds e p x).same ts (omega arith)

  pub fields_is : (e : ℕ) (m : Mark) (f : Field) (ts : List Token) → (whole_in linked b).fields e m f ts ≡ (one_step (room linked (whole_in linked) b) (whole_in linked b)).fields e m f ts
  fields_is e m f ts = ((fair_over linked (4 * length ts) b).fields e m f).same ts (omega arith)

  pub settings_is : (e : ℕ) (ts : List Token) → (whole_in linked b).settings e ts ≡ (one_step (room linked (whole_in linked) b) (whole_in linked b)).settings e ts
  settings_is e ts = ((fair_over linked (4 * length ts) b).settings e).same ts (omega arith)

  pub path_is : (e : ℕ) (ts : List Token) → (whole_in linked b).path e ts ≡ (one_step (room linked (whole_in linked) b) (whole_in linked b)).path e ts
  path_is e ts = ((fair_over linked (4 * length ts) b).path e).same ts (omega arith)

  pub bullets_is : (e : ℕ) (o : Op) (c : ℕ) (ts : List Token) → (whole_in linked b).bullets e o c ts ≡ (one_step (room linked (whole_in linked) b) (whole_in linked b)).bullets e o c ts
  bullets_is e o c ts = ((fair_over linked (4 * length ts) b).bullets e o c).same ts (omega arith)

  pub arms_is : (e : ℕ) (ts : List Token) → (whole_in linked b).arms e ts ≡ (one_step (room linked (whole_in linked) b) (whole_in linked b)).arms e ts
  arms_is e ts = ((fair_over linked (4 * length ts) b).arms e).same ts (omega arith)

  pub locals_is : (e : ℕ) (ts : List Token) → (whole_in linked b).locals e ts ≡ (one_step (room linked (whole_in linked) b) (whole_in linked b)).locals e ts
  locals_is e ts = ((fair_over linked (4 * length ts) b).locals e).same ts (omega arith)

  pub expr_less : (e : ℕ) (c : Context) (ts : List Token) → length (rest_of ((whole_in linked b).expr e c ts)) ≤ length ts
  expr_less e c ts = ((fair_same linked (suc (suc (4 * length ts))) b).expr e c).less ts

  pub short_less : (e : ℕ) (ts : List Token) → length (rest_of ((whole_in linked b).short e ts)) ≤ length ts
  short_less e ts = ((fair_same linked (suc (suc (4 * length ts))) b).short e).less ts

  pub postfix_less : (e : ℕ) (a : Phrase) (ts : List Token) → length (rest_of ((whole_in linked b).postfix e a ts)) ≤ length ts
  postfix_less e a ts = ((fair_same linked (suc (suc (4 * length ts))) b).postfix e a).less ts

  pub climb_less : (e : ℕ) (c : Context) (a : Phrase) (ts : List Token) → length (rest_of ((whole_in linked b).climb e c a ts)) ≤ length ts
  climb_less e c a ts = ((fair_same linked (suc (suc (4 * length ts))) b).climb e c a).less ts

  pub phrases_less : (e : ℕ) (ts : List Token) → length (rest_of ((whole_in linked b).phrases e ts)) ≤ length ts
  phrases_less e ts = ((fair_same linked (suc (suc (4 * length ts))) b).phrases e).less ts

  pub binds_less : (e : ℕ) (p : Place) (x : Word) (ts : List Token) → length (rest_of ((whole_in linked b).binds e p x ts)) ≤ length ts
  binds_less e p x ts = ((fair_same linked (suc (suc (4 * length ts))) b).binds e p x).less ts

  pub fields_less : (e : ℕ) (m : Mark) (f : Field) (ts : List Token) → length (rest_of ((whole_in linked b).fields e m f ts)) ≤ length ts
  fields_less e m f ts = ((fair_same linked (suc (suc (4 * length ts))) b).fields e m f).less ts

  pub settings_less : (e : ℕ) (ts : List Token) → length (rest_of ((whole_in linked b).settings e ts)) ≤ length ts
  settings_less e ts = ((fair_same linked (suc (suc (4 * length ts))) b).settings e).less ts

  pub path_less : (e : ℕ) (ts : List Token) → length (rest_of ((whole_in linked b).path e ts)) ≤ length ts
  path_less e ts = ((fair_same linked (suc (suc (4 * length ts))) b).path e).less ts

  pub bullets_less : (e : ℕ) (o : Op) (c : ℕ) (ts : List Token) → length (rest_of ((whole_in linked b).bullets e o c ts)) ≤ length ts
  bullets_less e o c ts = ((fair_same linked (suc (suc (4 * length ts))) b).bullets e o c).less ts

  pub arms_less : (e : ℕ) (ts : List Token) → length (rest_of ((whole_in linked b).arms e ts)) ≤ length ts
  arms_less e ts = ((fair_same linked (suc (suc (4 * length ts))) b).arms e).less ts

  pub locals_less : (e : ℕ) (ts : List Token) → length (rest_of ((whole_in linked b).locals e ts)) ≤ length ts
  locals_less e ts = ((fair_same linked (suc (suc (4 * length ts))) b).locals e).less ts

-- ---- what is asked of the code
-- four steps for each token are enough
pub read_is : (linked : Bool) (b : Limit) (e : ℕ) (ts : List Token) → (readers_in linked (4 * length ts) b).expr e free ts ≡ (whole_in linked b).expr e free ts
unfolding readers_in
read_is linked b e [] = refl
read_is linked b e (t ∷ ts) =
    let n = 4 * length ts in
    let four : 4 * length (t ∷ ts) ≡ suc (n + 3) = omega arith in
    ap (λ (k : ℕ). (readers_in linked k b).expr e free (t ∷ ts)) four
    ∙ ((fair_readers linked (n + 3) (n + 3) (suc (4 * length (t ∷ ts))) (omega arith) (omega arith) b).expr e free).same (t ∷ ts) (omega arith)

pub limited_is : (ts : List Token) → read_limited ts ≡ (whole (Some deepest_expression)).expr 0 free ts
limited_is ts = read_is true (Some deepest_expression) 0 ts
