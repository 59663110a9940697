-- Lists that code reads member by member: what was read goes before what is still to be read.
use Rattle.std.proofs.Common.{◌≡◌, ℕ, ◌≤◌, List, [], ◌∷◌, ◌++◌, length, map, Ok, Err, refl, sym, ap, ◌∙◌, subst, arith}
use Rattle.std.proofs.lemmas.List.{append_assoc, map-append}
use Rattle.tla_tree.specs.Tree.{Tree}
use Rattle.tla_tree.specs.Lexical.{Token}
use Rattle.tla_tree.specs.Nesting.{greatest}
use Rattle.tla_tree.specs.Reader.{Out, Reader, then_read, gives}
use Rattle.expr_nodes.specs.declared.cursor.Halt.{Halt}
use Rattle.expr_nodes.specs.declared.cursor.Halt.TheVariants as halt
use Rattle.expr_nodes.specs.ReadIn.{Reads, Fails}

-- what is read, put after what was read
abbrev pub put_after : {A B : Type 0} → (A → B) → Out A → Out B
put_after f (Ok x) = Ok (f x.0, x.1)
put_after f (Err s) = Err s

pub gives_put : {A B : Type 0} (f : A → B) (o : Out A) → then_read o (λ a. gives (f a)) ≡ put_after f o
gives_put f (Ok x) = refl
gives_put f (Err s) = refl

put_itself : {A : Type 0} (o : Out A) → o ≡ put_after (λ a. a) o
put_itself (Ok x) = refl
put_itself (Err s) = refl

put_twice : {A B C : Type 0} (f : B → C) (g : A → B) (o : Out A) → put_after f (put_after g o) ≡ put_after (λ a. f (g a)) o
put_twice f g (Ok x) = refl
put_twice f g (Err s) = refl

fails_put : {A B : Type 0} (e : Halt) (f : A → B) (o : Out A) → Fails e o → Fails e (put_after f o)
fails_put halt.Memory f o h = tt
fails_put (halt.Refused r n) f (Ok x) h = absurd h
fails_put (halt.Refused r n) f (Err s) h = h

-- a list from some tokens on: up to others these members were read
pub record SoFar {A T : Type 0} (read : Reader A) (values : A → List T) (from here : List Token) (done : List T) : Type 0 where
  pub before : A → A
  pub is : read from ≡ put_after before (read here)
  pub members : (a : A) → values (before a) ≡ done ++ values a

-- one more member, which goes before the rest
pub record GoesOn {A T : Type 0} (read : Reader A) (values : A → List T) (here there : List Token) (d : T) : Type 0 where
  pub cons : A → A
  pub round : read here ≡ put_after cons (read there)
  pub each : (a : A) → values (cons a) ≡ d ∷ values a

-- or the last one
pub record EndsAt {A T : Type 0} (read : Reader A) (values : A → List T) (here there : List Token) (d : T) : Type 0 where
  pub last : A
  pub round : read here ≡ Ok (last, there)
  pub alone : values last ≡ d ∷ []

module _ {A T : Type 0} (read : Reader A) (values : A → List T) where
  pub none_so_far : (from : List Token) → SoFar read values from from []
  none_so_far from = record { before = λ a. a; is = put_itself (read from); members = λ a. refl }

  pub one_more : {from here there : List Token} {done : List T} {d : T} → SoFar read values from here done → GoesOn read values here there d → SoFar read values from there (done ++ d ∷ [])
  one_more {from} {here} {there} {done} {d} s g = record {
    before = λ a. s.before (g.cons a);
    is = s.is ∙ ap (put_after s.before) g.round ∙ put_twice s.before g.cons (read there);
    members = λ a. s.members (g.cons a) ∙ ap (λ (l : List T). done ++ l) (g.each a) ∙ sym (append_assoc done (d ∷ []) (values a));
  }

  pub last_one : {from here there : List Token} {done : List T} {d : T} → SoFar read values from here done → EndsAt read values here there d → Reads (λ a. done ++ d ∷ [] ≡ values a) there (read from)
  last_one {from} {here} {there} {done} {d} s g = record {
    what = s.before g.last;
    is = s.is ∙ ap (put_after s.before) g.round;
    told = sym (s.members g.last ∙ ap (λ (l : List T). done ++ l) g.alone);
  }

  pub one_fails : {from here : List Token} {done : List T} (e : Halt) → SoFar read values from here done → Fails e (read here) → Fails e (read from)
  one_fails e s h = subst (Fails e) (sym s.is) (fails_put e s.before _ h)

-- ---- members in a pool that grows
module _ {X T : Type 0} (at : List Tree → X → T) (past : X → ℕ) where
  pub each_kept : (ts us : List Tree) → ((x : X) → past x ≤ length ts → at us x ≡ at ts x) → (xs : List X) → greatest (map past xs) ≤ length ts → map (at us) xs ≡ map (at ts) xs
  each_kept ts us k [] h = refl
  each_kept ts us k (x ∷ xs) h = λ j. k x (omega (arith, h)) j ∷ each_kept ts us k xs (omega (arith, h)) j

  pub past_more : (n : ℕ) (xs : List X) (x : X) → greatest (map past xs) ≤ n → past x ≤ n → greatest (map past (xs ++ x ∷ [])) ≤ n
  past_more n [] x h l = (let one : greatest (past x ∷ []) ≤ n = omega (arith, l) in one)
  past_more n (y ∷ ys) x h l = (let rest = past_more n ys x (omega (arith, h)) l in omega (arith, h, rest))

  pub at_more : (ts us : List Tree) (xs : List X) (x : X) → map (at us) xs ≡ map (at ts) xs → map (at us) (xs ++ x ∷ []) ≡ map (at ts) xs ++ at us x ∷ []
  at_more ts us xs x e = map-append _ xs (x ∷ []) ∙ ap (λ (l : List T). l ++ at us x ∷ []) e
