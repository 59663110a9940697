-- Lists that code reads member by member: what was read goes before what is still to be read.
use Rattle.std.proofs.Common.{◌≡◌, ℕ, zero, suc, ◌+◌, ◌<◌, ◌≤◌, List, [], ◌∷◌, ◌++◌, length, map, Ok, Err, refl, sym, ap, ◌∙◌, subst, arith, length-append}
use Rattle.std.proofs.lemmas.List.{append_assoc, length-map, map-append}
use Rattle.tla_token.specs.declared.token.Tokens.{Tokens}
use Rattle.tla_token.specs.declared.rule.Rule.TheVariants as rule
use Rattle.tla_tree.specs.Tree.{Tree}
use Rattle.tla_tree.specs.Lexical.{Token}
use Rattle.tla_tree.specs.Pool.{Keeps}
use Rattle.tla_tree.specs.Reader.{Out, Reader, ◌>>=◌, then_read, gives}
use Rattle.tla_tree.specs.Nesting.{greatest}
use Rattle.expr_nodes.specs.declared.cursor.Halt.{Halt}
use Rattle.expr_nodes.specs.declared.cursor.Halt.TheVariants as halt
use Rattle.expr_nodes.specs.ReadIn.{Reads, Fails}
use Rattle.expr_nodes.specs.Ahead.{ahead}
use Rattle.pcal_tree.proofs.InMemoryGrown.{each_kept}
use Rattle.pcal_tree.proofs.InMemoryEach.{past_one_more}
use Rattle.algorithm_reader.specs.PartsRead.{Enough, StandsFor}

-- what is read, put after what was read
abbrev pub put_after : {A B : Type 0} → (A → B) → Out A → Out B
put_after f (Ok x) = Ok (f x.0, x.1)
put_after f (Err s) = Err s

pub gives_put : {A B : Type 0} (f : A → B) (o : Out A) → then_read o (λ a. gives (f a)) ≡ put_after f o
gives_put f (Ok x) = refl
gives_put f (Err s) = refl

put_itself : {A : Type 0} (o : Out A) → o ≡ put_after (λ a. a) o
put_itself (Ok x) = refl
put_itself (Err s) = refl

put_twice : {A B C : Type 0} (f : B → C) (g : A → B) (o : Out A) → put_after f (put_after g o) ≡ put_after (λ a. f (g a)) o
put_twice f g (Ok x) = refl
put_twice f g (Err s) = refl

pub fails_put : {A B : Type 0} (e : Halt) (f : A → B) (o : Out A) → Fails e o → Fails e (put_after f o)
fails_put halt.Memory f o h = tt
fails_put (halt.Refused r n) f (Ok x) h = absurd h
fails_put (halt.Refused r n) f (Err s) h = h

pub fails_then : {A B : Type 0} (e : Halt) (o : Out A) (f : A → Reader B) → Fails e o → Fails e (then_read o f)
fails_then halt.Memory o f h = tt
fails_then (halt.Refused r n) (Ok x) f h = absurd h
fails_then (halt.Refused r n) (Err s) f h = h

-- it is refused by the rule of syntax there
pub refused_as : {A : Type 0} (e : Halt) (us : List Token) (o : Out A) → e ≡ halt.Refused rule.Syntax (length us) → o ≡ Err (rule.Syntax, us) → Fails e o
refused_as e us o h g = rw h (rw g (refl, refl))

-- two that are read one after the other, as a pair
pair_on : {A B C : Type 0} (a : A) (o : Out B) (f : A → B → Reader C) → then_read o (f a) ≡ then_read {A = A × B} (then_read o (λ b. gives (a, b))) (λ z. f z.0 z.1)
pair_on a (Ok x) f = refl
pair_on a (Err s) f = refl

pub as_pair : {A B C : Type 0} (o : Out A) (g : A → Reader B) (f : A → B → Reader C) → then_read o (λ a. g a >>= f a) ≡ then_read {A = A × B} (then_read o (λ a. g a >>= λ b. gives (a, b))) (λ z. f z.0 z.1)
as_pair (Ok x) g f = pair_on x.0 (g x.0 x.1) f
as_pair (Err s) g f = refl

-- and three
third_on : {A B C D : Type 0} (a : A) (b : B) (o : Out C) (f : A → B → C → Reader D) → then_read o (f a b) ≡ then_read {A = A × (B × C)} (then_read o (λ c. gives (a, (b, c)))) (λ z. f z.0 z.1.0 z.1.1)
third_on a b (Ok x) f = refl
third_on a b (Err s) f = refl

second_on : {A B C D : Type 0} (a : A) (o : Out B) (h : B → Reader C) (f : A → B → C → Reader D) → then_read o (λ b. h b >>= f a b) ≡ then_read {A = A × (B × C)} (then_read o (λ b. h b >>= λ c. gives (a, (b, c)))) (λ z. f z.0 z.1.0 z.1.1)
second_on a (Ok x) h f = third_on a x.0 (h x.0 x.1) f
second_on a (Err s) h f = refl

pub as_triple : {A B C D : Type 0} (o : Out A) (g : A → Reader B) (h : A → B → Reader C) (f : A → B → C → Reader D)
    → then_read o (λ a. g a >>= λ b. h a b >>= f a b) ≡ then_read {A = A × (B × C)} (then_read o (λ a. g a >>= λ b. h a b >>= λ c. gives (a, (b, c)))) (λ z. f z.0 z.1.0 z.1.1)
as_triple (Ok x) g h f = second_on x.0 (g x.0 x.1) (h x.0) f
as_triple (Err s) g h f = refl

-- a list that a reader reads with so many steps, from one token on: up to another these members were read, each in a step
pub record SoFar {A T : Type 0} (read : ℕ → Reader A) (listed : A → List T) (v : Tokens) (all from i : ℕ) (done : List T) : Type 0 where
  pub steps : ℕ
  pub enough : length v.items.items ≤ steps + i
  pub count : suc steps + length done ≡ all
  pub before : A → A
  pub is : read all (ahead v from) ≡ put_after before (read (suc steps) (ahead v i))
  pub members : (a : A) → listed (before a) ≡ done ++ listed a

-- one more member, which goes before the rest that is read from there on with a step less
pub record GoesOn {A T : Type 0} (read : ℕ → Reader A) (listed : A → List T) (v : Tokens) (i j : ℕ) (d : T) (n : ℕ) : Type 0 where
  pub cons : A → A
  pub round : read (suc n) (ahead v i) ≡ put_after cons (read n (ahead v j))
  pub each : (a : A) → listed (cons a) ≡ d ∷ listed a

-- or the last one
pub record EndsAt {A T : Type 0} (read : ℕ → Reader A) (listed : A → List T) (v : Tokens) (i j : ℕ) (d : T) (n : ℕ) : Type 0 where
  pub last : A
  pub round : read (suc n) (ahead v i) ≡ Ok (last, ahead v j)
  pub alone : listed last ≡ d ∷ []

-- with the steps that are left at a token, behind so many members
abbrev pub WithSteps : Tokens → ℕ → ℕ → ℕ → (ℕ → Type 0) → Type 0
WithSteps v all k i P = (n : ℕ) → suc n + k ≡ all → length v.items.items ≤ n + i → P n

module _ {A T : Type 0} (read : ℕ → Reader A) (listed : A → List T) (v : Tokens) where
  pub none_so_far : (all from : ℕ) → Enough v from all → from ≤ length v.items.items → SoFar read listed v all from from []
  none_so_far zero from h b = absurd (omega (arith, h, b))
  none_so_far (suc n) from h b = record { steps = n; enough = omega (arith, h); count = omega arith; before = λ a. a; is = put_itself _; members = λ a. refl }

  -- one more, where others follow
  more_in : (all from i j : ℕ) (done : List T) (d : T) (s : SoFar read listed v all from i done) (n : ℕ) → s.steps ≡ n → i < j → j ≤ length v.items.items → GoesOn read listed v i j d s.steps → SoFar read listed v all from j (done ++ d ∷ [])
  more_in all from i j done d s zero e l b g = absurd (omega (arith, s.enough, e, l, b))
  more_in all from i j done d s (suc n) e l b g = record {
    steps = n;
    enough = omega (arith, s.enough, e, l);
    count = omega (arith, s.count, e, length-append done (d ∷ []));
    before = λ a. s.before (g.cons a);
    is = s.is ∙ ap (put_after s.before) (g.round ∙ ap (λ k. put_after g.cons (read k (ahead v j))) e) ∙ put_twice s.before g.cons (read (suc n) (ahead v j));
    members = λ a. s.members (g.cons a) ∙ ap (λ (l : List T). done ++ l) (g.each a) ∙ sym (append_assoc done (d ∷ []) (listed a));
  }

  pub one_more : (all from i j : ℕ) (done : List T) (d : T) (s : SoFar read listed v all from i done) → i < j → j ≤ length v.items.items → WithSteps v all (length done) i (GoesOn read listed v i j d) → SoFar read listed v all from j (done ++ d ∷ [])
  one_more all from i j done d s l b g = more_in all from i j done d s s.steps refl l b (g s.steps s.count s.enough)

  -- the last one
  pub last_one : (all from i j : ℕ) (done : List T) (d : T) (s : SoFar read listed v all from i done) → WithSteps v all (length done) i (EndsAt read listed v i j d) → Reads (λ a. done ++ d ∷ [] ≡ listed a) (ahead v j) (read all (ahead v from))
  last_one all from i j done d s g =
      let e = g s.steps s.count s.enough in
      record { what = s.before e.last; is = s.is ∙ ap (put_after s.before) e.round; told = sym (s.members e.last ∙ ap (λ (l : List T). done ++ l) e.alone) }

  -- where one is refused so is the list
  pub one_fails : (all from i : ℕ) (done : List T) (s : SoFar read listed v all from i done) (e : Halt) → WithSteps v all (length done) i (λ n. Fails e (read (suc n) (ahead v i))) → Fails e (read all (ahead v from))
  one_fails all from i done s e h = subst (Fails e) (sym s.is) (fails_put e s.before _ (h s.steps s.count s.enough))

-- ---- members in a pool that grows
pub record InPool {A X T : Type 0} (read : ℕ → Reader A) (listed : A → List T) (stands : List Tree → X → T) (past : X → ℕ) (v : Tokens) (ts : List Tree) (all from i : ℕ) (xs : List X) : Type 0 where
  pub so_far : SoFar read listed v all from i (map (stands ts) xs)
  pub below : greatest (map past xs) ≤ length ts

-- what numbers below stand for is kept
abbrev pub StaysSame : {X T : Type 0} → (List Tree → X → T) → (X → ℕ) → List Tree → List Tree → Type 0
StaysSame {X} stands past ts us = (x : X) → past x ≤ length ts → stands us x ≡ stands ts x

module _ {A X T : Type 0} (read : ℕ → Reader A) (listed : A → List T) (stands : List Tree → X → T) (past : X → ℕ) (v : Tokens) where
  pub none_in_pool : (ts : List Tree) (from : ℕ) (xs : List X) → xs ≡ [] → from ≤ length v.items.items → (all : ℕ) → Enough v from all → InPool read listed stands past v ts all from from xs
  none_in_pool ts from xs e b all h = rw e (record { so_far = none_so_far read listed v all from h b; below = omega arith })

  grown : (ts us : List Tree) (xs : List X) → Keeps ts us → StaysSame stands past ts us → greatest (map past xs) ≤ length ts → map (stands ts) xs ≡ map (stands us) xs
  grown ts us xs k same b = sym (each_kept ts us k (stands us) (stands ts) past same xs b)

  one_below : (ts us : List Tree) (xs : List X) (x : X) → Keeps ts us → greatest (map past xs) ≤ length ts → past x ≤ length us → greatest (map past (xs ++ x ∷ [])) ≤ length us
  one_below ts us xs x k b c = omega (arith, past_one_more past xs x, k.longer, b, c)

  pub one_more_in_pool : (ts us : List Tree) (all from i j : ℕ) (xs ys : List X) (x : X) → InPool read listed stands past v ts all from i xs → Keeps ts us → StaysSame stands past ts us → past x ≤ length us → ys ≡ xs ++ x ∷ []
      → i < j → j ≤ length v.items.items → WithSteps v all (length xs) i (GoesOn read listed v i j (stands us x)) → InPool read listed stands past v us all from j ys
  one_more_in_pool ts us all from i j xs ys x s k same b e l c g =
      let now = subst (λ (l : List T). SoFar read listed v all from i l) (grown ts us xs k same s.below) s.so_far in
      let next = one_more read listed v all from i j (map (stands us) xs) (stands us x) now l c (λ n h. g n (omega (arith, h, length-map xs (stands us)))) in
      rw e (record { so_far = subst (λ (l : List T). SoFar read listed v all from j l) (sym (map-append (stands us) xs (x ∷ []))) next; below = one_below ts us xs x k s.below b })

  pub last_in_pool : (ts us : List Tree) (all from i j : ℕ) (xs ys : List X) (x : X) → InPool read listed stands past v ts all from i xs → Keeps ts us → StaysSame stands past ts us → past x ≤ length us → ys ≡ xs ++ x ∷ []
      → WithSteps v all (length xs) i (EndsAt read listed v i j (stands us x)) → Reads (StandsFor (λ ws l. map (stands ws) l) (λ l. greatest (map past l)) listed us ys) (ahead v j) (read all (ahead v from))
  last_in_pool ts us all from i j xs ys x s k same b e g =
      let now = subst (λ (l : List T). SoFar read listed v all from i l) (grown ts us xs k same s.below) s.so_far in
      let whole = last_one read listed v all from i j (map (stands us) xs) (stands us x) now (λ n h. g n (omega (arith, h, length-map xs (stands us)))) in
      rw e (record { what = whole.what; is = whole.is; told = record { below = one_below ts us xs x k s.below b; tree = map-append (stands us) xs (x ∷ []) ∙ whole.told } })

  pub one_fails_in_pool : (ts : List Tree) (all from i : ℕ) (xs : List X) → InPool read listed stands past v ts all from i xs → (e : Halt) → WithSteps v all (length xs) i (λ n. Fails e (read (suc n) (ahead v i))) → Fails e (read all (ahead v from))
  one_fails_in_pool ts all from i xs s e h = one_fails read listed v all from i (map (stands ts) xs) s.so_far e (λ n g. h n (omega (arith, g, length-map xs (stands ts))))
