-- Settings in a row: a part that is set again, and parts of different variables, which may be set in any order.
use Rattle.std.proofs.Common.{◌≡◌, List, [], ◌∷◌, ◌++◌, Bool, true, false, cond, bytes_eq, ◌⊎◌, Option, Some, None, refl, sym, ◌∙◌, ap, subst, inl, inr, if◌then◌else◌, Ok, Err}
use Rattle.std.specs.Option.{ok_or}
use Rattle.tla_token.specs.declared.place.Place.{Place}
use Rattle.tla_tree.specs.Tree.{Word}
use Rattle.tla_value.specs.declared.fault.FaultKind.TheVariants.{NotInDomain}
use Rattle.tla_value.specs.Value.{Value, truth, int, text, model, set, fun, Values, no_values, and, fault, Trouble, Outcome, ◌>>=◌, and_then, IsBad}
use Rattle.tla_value.specs.Order.{same, found_at}
use Rattle.tla_value.specs.Stops.{plain}
use Rattle.tla_value.specs.Strict.{changed, changed_at}
use Rattle.tla_value.proofs.Outcomes.{then_ok, then_then}
use Rattle.std.proofs.lemmas.Bool.{both_ways}
use Rattle.tla_token.proofs.Spelled.{same_bytes}
use Rattle.pcal_tree.specs.Scope.{State, put}
use Rattle.pcal_tree.specs.Assign.{Setting, set_one, set_all}
use Rattle.pcal_tree.specs.Program.{read_at}
use Rattle.pcal_tree.specs.Calls.{setting}
use Rattle.pcal_tree.specs.Processes.{OneOf}
use Rattle.action_builder.proofs.Equal.{eq-name, other-name}

-- ---- the same result, or neither has one

abbrev pub Like : {X : Type 0} → Outcome X → Outcome X → Type 0
Like a b = (a ≡ b) ⊎ (IsBad a × IsBad b)

pub like_refl : {X : Type 0} (a : Outcome X) → Like a a
like_refl a = inl refl

pub like_sym : {X : Type 0} (a b : Outcome X) → Like a b → Like b a
like_sym a b (inl e) = inl (sym e)
like_sym a b (inr h) = inr (h.1, h.0)

pub like_trans : {X : Type 0} (a b c : Outcome X) → Like a b → Like b c → Like a c
like_trans a b c (inl e) h = subst (λ z. Like z c) (sym e) h
like_trans a b c (inr h) (inl e) = inr (h.0, subst IsBad e h.1)
like_trans a b c (inr h) (inr k) = inr (h.0, k.1)

pub bad_then : {X Y : Type 0} (a : Outcome X) (f : X → Outcome Y) → IsBad a → IsBad (a >>= f)
bad_then (Ok x) f h = absurd h
bad_then (Err k) f h = tt

pub bad_in : {X Y : Type 0} (o : Outcome X) (f : X → Outcome Y) → ((x : X) → IsBad (f x)) → IsBad (o >>= f)
bad_in (Ok x) f h = h x
bad_in (Err k) f h = tt

pub bad_first : (p q : Outcome Bool) → IsBad p → IsBad (and_then p q)
bad_first (Ok b) q h = absurd h
bad_first (Err k) q h = tt

pub like_then : {X Y : Type 0} (a b : Outcome X) (f g : X → Outcome Y) → Like a b → ((x : X) → Like (f x) (g x)) → Like (a >>= f) (b >>= g)
like_then {X = X} a b f g (inl e) h = subst (λ z. Like (a >>= f) (z >>= g)) e (by a)
  where
    by : (a : Outcome X) → Like (a >>= f) (a >>= g)
    by (Ok x) = h x
    by (Err k) = inr (tt, tt)
like_then a b f g (inr h) k = inr (bad_then a f h.0, bad_then b g h.1)

-- between equal ends
pub like_ends : {X : Type 0} (a b c d : Outcome X) → a ≡ b → Like b c → c ≡ d → Like a d
like_ends a b c d e h k = subst (λ z. Like z d) (sym e) (subst (Like b) k h)

-- ---- a value that is changed at one path twice

abbrev changed_by : Bool → Value → (Value → Outcome Value) → Values → Value → Values → Outcome Values
changed_by b k g ds r rs = cond b (g r >>= (λ w. Ok (and w rs))) (changed k g ds rs >>= (λ us. Ok (and r us)))

changed_twice : (k : Value) (g h l : Value → Outcome Value) → ((r : Value) → Like (g r >>= h) (l r)) → (ds rs : Values) → Like (changed k g ds rs >>= changed k h ds) (changed k l ds rs)
changed_twice k g h l e no_values rs = inl refl
changed_twice k g h l e (and d ds) no_values = inl refl
changed_twice k g h l e (and d ds) (and r rs) = by (changed_twice k g h l e ds rs) (same k d) refl
  where
    by : Like (changed k g ds rs >>= changed k h ds) (changed k l ds rs) → (b : Bool) → same k d ≡ b → Like (changed_by b k g ds r rs >>= changed k h (and d ds)) (changed_by b k l ds r rs)
    by ih true p =
        like_ends _ ((g r >>= h) >>= (λ u. Ok (and u rs))) _ _
        (then_then (g r) (λ w. Ok (and w rs)) (changed k h (and d ds)) ∙ (λ i. g r >>= (λ w. changed_by (p i) k h ds w rs)) ∙ sym (then_then (g r) h (λ u. Ok (and u rs))))
        (like_then (g r >>= h) (l r) _ (λ u. Ok (and u rs)) (e r) (λ u. inl refl)) refl
    by ih false p =
        like_ends _ ((changed k g ds rs >>= changed k h ds) >>= (λ vs. Ok (and r vs))) _ _
        (then_then (changed k g ds rs) (λ us. Ok (and r us)) (changed k h (and d ds)) ∙ (λ i. changed k g ds rs >>= (λ us. changed_by (p i) k h ds r us)) ∙ sym (then_then (changed k g ds rs) (changed k h ds) (λ vs. Ok (and r vs))))
        (like_then (changed k g ds rs >>= changed k h ds) (changed k l ds rs) _ (λ vs. Ok (and r vs)) ih (λ vs. inl refl)) refl

pub path_twice : (a b : Place) (path : List Value) (w z old : Value) → Like (changed_at a path w old >>= changed_at b path z) (changed_at b path z old)
path_twice a b [] w z old = inl refl
path_twice a b (k ∷ ks) w z (fun ds rs) =
    like_ends _ ((changed k (changed_at a ks w) ds rs >>= changed k (changed_at b ks z) ds) >>= (λ vs. Ok (fun ds vs))) _ _
    (then_then (changed k (changed_at a ks w) ds rs) (λ us. Ok (fun ds us)) (changed_at b (k ∷ ks) z) ∙ sym (then_then (changed k (changed_at a ks w) ds rs) (changed k (changed_at b ks z) ds) (λ vs. Ok (fun ds vs))))
    (like_then _ (changed k (changed_at b ks z) ds rs) _ (λ vs. Ok (fun ds vs)) (changed_twice k (changed_at a ks w) (changed_at b ks z) (changed_at b ks z) (path_twice a b ks w z) ds rs) (λ vs. inl refl)) refl
path_twice a b (k ∷ ks) w z (truth v) = inr (tt, tt)
path_twice a b (k ∷ ks) w z (int v) = inr (tt, tt)
path_twice a b (k ∷ ks) w z (text v) = inr (tt, tt)
path_twice a b (k ∷ ks) w z (model v) = inr (tt, tt)
path_twice a b (k ∷ ks) w z (set v) = inr (tt, tt)

-- ---- a value that is read where it was changed

abbrev found_by : Bool → Value → Option Value → Option Value
found_by b w o = if b then Some w else o

no_some : {X P : Type 0} (x : X) → ◌≡◌ {A = Option X} None (Some x) → P
no_some x e = cc

same_some : {X : Type 0} (x y : X) → ◌≡◌ {A = Option X} (Some x) (Some y) → x ≡ y
same_some x y e = cc

same_ok : {X : Type 0} (x y : X) → ◌≡◌ {A = Outcome X} (Ok x) (Ok y) → x ≡ y
same_ok x y e = cc

no_ok : {X P : Type 0} (k : Trouble) (x : X) → ◌≡◌ {A = Outcome X} (Err k) (Ok x) → P
no_ok k x e = cc

abbrev Found : Value → (Value → Outcome Value) → Values → Values → Value → Type 0
Found k g ds us r = (u : Value) × (g r ≡ Ok u) × (found_at ds us k ≡ Some u)

changed_found : (k : Value) (g : Value → Outcome Value) (ds rs us : Values) (r : Value) → found_at ds rs k ≡ Some r → changed k g ds rs ≡ Ok us → Found k g ds us r
changed_found k g no_values rs us r f e = no_some r f
changed_found k g (and d ds) no_values us r f e = no_some r f
changed_found k g (and d ds) (and q rs) us r f e = by (λ vs m n. changed_found k g ds rs vs r m n) (same k d) refl (g q) refl (changed k g ds rs) refl f e
  where
    by : ((vs : Values) → found_at ds rs k ≡ Some r → changed k g ds rs ≡ Ok vs → Found k g ds vs r) → (b : Bool) → same k d ≡ b → (o : Outcome Value) → g q ≡ o → (p : Outcome Values) → changed k g ds rs ≡ p
        → found_by b q (found_at ds rs k) ≡ Some r → cond b (o >>= (λ v. Ok (and v rs))) (p >>= (λ vs. Ok (and q vs))) ≡ Ok us → Found k g (and d ds) us r
    by ih true s (Ok u) m p n f e = (
      u,
      ap g (sym (same_some q r f)) ∙ m,
      subst (λ z. found_at (and d ds) z k ≡ Some u) (same_ok (and u rs) us e) (λ i. found_by (s i) u (found_at ds rs k)),
    )
    by ih true s (Err j) m p n f e = no_ok j us e
    by ih false s o m (Ok vs) n f e =
        let x = ih vs f n in
        (x.0, x.1, subst (λ z. found_at (and d ds) z k ≡ Some x.0) (same_ok (and q vs) us e) ((λ i. found_by (s i) q (found_at ds vs k)) ∙ x.2))
    by ih false s o m (Err j) n f e = no_ok j us e

pub read_changed : (a b : Place) (path : List Value) (w old new r : Value) → read_at b path old ≡ Ok r → changed_at a path w old ≡ Ok new → read_at b path new ≡ Ok w
read_changed a b [] w old new r f e = ap Ok (sym (same_ok w new e))
read_changed a b (k ∷ ks) w (fun ds rs) new r f e = by (λ q u m n. read_changed a b ks w q u r m n) (found_at ds rs k) refl (changed k (changed_at a ks w) ds rs) refl f e
  where
    by : ((q u : Value) → read_at b ks q ≡ Ok r → changed_at a ks w q ≡ Ok u → read_at b ks u ≡ Ok w) → (o : Option Value) → found_at ds rs k ≡ o → (p : Outcome Values) → changed k (changed_at a ks w) ds rs ≡ p
        → ok_or o (fault NotInDomain b) >>= (λ v. read_at b ks v) ≡ Ok r → p >>= (λ us. Ok (fun ds us)) ≡ Ok new → read_at b (k ∷ ks) new ≡ Ok w
    by ih (Some q) m (Ok us) n f e =
        let x = changed_found k (changed_at a ks w) ds rs us q m n in
        subst (λ z. read_at b (k ∷ ks) z ≡ Ok w) (same_ok (fun ds us) new e) ((λ i. ok_or (x.2 i) (fault NotInDomain b) >>= (λ v. read_at b ks v)) ∙ ih q x.0 f x.1)
    by ih (Some q) m (Err j) n f e = no_ok j new e
    by ih None m p n f e = no_ok (fault NotInDomain b) r f
read_changed a b (k ∷ ks) w (truth v) new r f e = cc
read_changed a b (k ∷ ks) w (int v) new r f e = cc
read_changed a b (k ∷ ks) w (text v) new r f e = cc
read_changed a b (k ∷ ks) w (model v) new r f e = cc
read_changed a b (k ∷ ks) w (set v) new r f e = cc

-- ---- states

pub put_here : (x : Word) (v : Value) (s : State) → put x v s x ≡ v
put_here x v s = λ i. cond (eq-name x x refl i) v (s x)

pub put_else : (x y : Word) (v : Value) (s : State) → bytes_eq x y ≡ false → put x v s y ≡ s y
put_else x y v s e = λ i. cond (e i) v (s y)

put_again : (x : Word) (u v : Value) (s : State) → put x v (put x u s) ≡ put x v s
put_again x u v s = λ i y. by (bytes_eq x y) (s y) i
  where
    by : (b : Bool) (w : Value) → cond b v (cond b u w) ≡ cond b v w
    by true w = refl
    by false w = refl

put_swap : (x y : Word) (u v : Value) (s : State) → bytes_eq x y ≡ false → put y v (put x u s) ≡ put x u (put y v s)
put_swap x y u v s e = λ i z. by z (bytes_eq x z) refl (bytes_eq y z) refl i
  where
    by : (z : Word) (a : Bool) → bytes_eq x z ≡ a → (b : Bool) → bytes_eq y z ≡ b → cond b v (cond a u (s z)) ≡ cond a u (cond b v (s z))
    by z true p true q = absurd (both_ways (bytes_eq x y) e (eq-name x y (same_bytes x z p ∙ sym (same_bytes y z q))))
    by z true p false q = refl
    by z false p true q = refl
    by z false p false q = refl

-- ---- settings, without limits

pub set_twice : (a b : Place) (x : Word) (path : List Value) (w z : Value) (s : State) → Like (set_one plain (setting a x path w) s >>= set_one plain (setting b x path z)) (set_one plain (setting b x path z) s)
set_twice a b x path w z s =
    like_ends _ ((changed_at a path w (s x) >>= changed_at b path z) >>= (λ v. Ok (put x v s))) _ _
    (then_then (changed_at a path w (s x)) (λ u. Ok (put x u s)) (set_one plain (setting b x path z))
    ∙ (λ i. changed_at a path w (s x) >>= (λ u. changed_at b path z (put_here x u s i) >>= (λ v. Ok (put_again x u v s i))))
    ∙ sym (then_then (changed_at a path w (s x)) (changed_at b path z) (λ v. Ok (put x v s))))
    (like_then _ (changed_at b path z (s x)) _ (λ v. Ok (put x v s)) (path_twice a b path w z (s x)) (λ v. inl refl)) refl

-- two results, in any order
in_any_order : {X Y Z : Type 0} (o : Outcome X) (p : Outcome Y) (f g : X → Y → Z) → ((x : X) (y : Y) → f x y ≡ g x y) → Like (o >>= (λ x. p >>= (λ y. Ok (f x y)))) (p >>= (λ y. o >>= (λ x. Ok (g x y))))
in_any_order (Ok x) (Ok y) f g h = inl (ap Ok (h x y))
in_any_order (Ok x) (Err k) f g h = inr (tt, tt)
in_any_order (Err j) (Ok y) f g h = inr (tt, tt)
in_any_order (Err j) (Err k) f g h = inr (tt, tt)

-- one after the other, or the other way round
abbrev pub Commute : (State → Outcome State) → (State → Outcome State) → Type 0
Commute f g = (s : State) → Like (f s >>= g) (g s >>= f)

pub set_swap : (m n : Setting) → bytes_eq m.part.variable n.part.variable ≡ false → Commute (set_one plain m) (set_one plain n)
set_swap m n e s =
    let x : Word = m.part.variable in
    let y : Word = n.part.variable in
    let o : Outcome Value = changed_at m.place m.part.path m.value (s x) in
    let p : Outcome Value = changed_at n.place n.part.path n.value (s y) in
    like_ends _ (o >>= (λ u. p >>= (λ v. Ok (put y v (put x u s))))) _ _
    (then_then o (λ u. Ok (put x u s)) (set_one plain n) ∙ (λ i. o >>= (λ u. changed_at n.place n.part.path n.value (put_else x y u s e i) >>= (λ v. Ok (put y v (put x u s))))))
    (in_any_order o p (λ u v. put y v (put x u s)) (λ u v. put x u (put y v s)) (λ u v. put_swap x y u v s e))
    (sym (then_then p (λ v. Ok (put y v s)) (set_one plain m) ∙ (λ i. p >>= (λ v. changed_at m.place m.part.path m.value (put_else y x v s (other-name x y e) i) >>= (λ u. Ok (put x u (put y v s)))))))

pub commute_sym : (f g : State → Outcome State) → Commute f g → Commute g f
commute_sym f g h s = like_sym _ _ (h s)

abbrev pub then_do : (State → Outcome State) → (State → Outcome State) → State → Outcome State
then_do f g s = f s >>= g

pub commute_then : (f g h : State → Outcome State) → Commute f g → Commute f h → Commute f (then_do g h)
commute_then f g h p q s =
    like_ends _ ((f s >>= g) >>= h) _ _ (sym (then_then (f s) g h))
    (like_trans _ ((g s >>= f) >>= h) _ (like_then _ _ h h (p s) (λ t. inl refl))
    (like_ends _ (g s >>= (λ t. f t >>= h)) _ _ (then_then (g s) f h) (like_then (g s) (g s) _ _ (inl refl) (λ t. q t)) (sym (then_then (g s) h f))))
    refl

-- the settings are of other variables than x
abbrev pub Others : Word → List Setting → Type 0
Others x [] = Unit {0}
Others x (m ∷ ms) = (bytes_eq x m.part.variable ≡ false) × Others x ms

pub one_all : (m : Setting) (ms : List Setting) → Others m.part.variable ms → Commute (set_one plain m) (set_all plain ms)
one_all m [] h s = inl (then_ok (set_one plain m s))
one_all m (n ∷ ns) h s = commute_then (set_one plain m) (set_one plain n) (set_all plain ns) (set_swap m n h.0) (one_all m ns h.1) s

abbrev pub AllOthers : List Setting → List Setting → Type 0
AllOthers [] ns = Unit {0}
AllOthers (m ∷ ms) ns = Others m.part.variable ns × AllOthers ms ns

pub all_all : (ms ns : List Setting) → AllOthers ms ns → Commute (set_all plain ms) (set_all plain ns)
all_all [] ns h s = inl (sym (then_ok (set_all plain ns s)))
all_all (m ∷ ms) ns h s =
    commute_sym (set_all plain ns) (then_do (set_one plain m) (set_all plain ms))
    (commute_then (set_all plain ns) (set_one plain m) (set_all plain ms) (commute_sym (set_one plain m) (set_all plain ns) (one_all m ns h.0)) (commute_sym (set_all plain ms) (set_all plain ns) (all_all ms ns h.1))) s

-- past what is read, where f changes nothing that is read
pub commute_read : {X : Type 0} (f : State → Outcome State) (e : State → Outcome X) (g : X → State → Outcome State) → ((s t : State) → f s ≡ Ok t → Like (e t) (e s)) → ((x : X) → Commute f (g x)) → Commute f (λ s. e s >>= (λ x. g x s))
commute_read {X = X} f e g u c s = by (f s) refl
  where
    by_bad : (k : Trouble) → f s ≡ Err k → (o : Outcome X) → Like {X = State} (Err k) ((o >>= (λ x. g x s)) >>= f)
    by_bad k p (Ok x) = subst (λ z. Like (z >>= g x) (g x s >>= f)) p (c x s)
    by_bad k p (Err j) = inr (tt, tt)

    by : (o : Outcome State) → f s ≡ o → Like (o >>= (λ t. e t >>= (λ x. g x t))) ((e s >>= (λ x. g x s)) >>= f)
    by (Ok t) p = like_ends _ _ (e s >>= (λ x. g x s >>= f)) _ refl (like_then (e t) (e s) _ _ (u s t p) (λ x. subst (λ z. Like (z >>= g x) (g x s >>= f)) p (c x s))) (sym (then_then (e s) (λ x. g x s) f))
    by (Err k) p = by_bad k p (e s)

pub commute_all : (ms : List Setting) (g : State → Outcome State) → ((m : Setting) → OneOf m ms → Commute (set_one plain m) g) → Commute (set_all plain ms) g
commute_all [] g h s = inl (sym (then_ok (g s)))
commute_all (m ∷ ms) g h s =
    commute_sym g (then_do (set_one plain m) (set_all plain ms))
    (commute_then g (set_one plain m) (set_all plain ms) (commute_sym (set_one plain m) g (h m (inl refl))) (commute_sym (set_all plain ms) g (commute_all ms g (λ n k. h n (inr k))))) s

-- ---- what is set again later

-- what f sets makes no difference to what comes then
abbrev pub Absorbs : (State → Outcome State) → (State → Outcome State) → Type 0
Absorbs f go = (s : State) → Like (f s >>= go) (go s)

pub absorbs_again : (a b : Place) (x : Word) (path : List Value) (w z : Value) (go : State → Outcome State) → Absorbs (set_one plain (setting a x path w)) (then_do (set_one plain (setting b x path z)) go)
absorbs_again a b x path w z go s =
    like_ends _ ((set_one plain (setting a x path w) s >>= set_one plain (setting b x path z)) >>= go) _ _
    (sym (then_then (set_one plain (setting a x path w) s) (set_one plain (setting b x path z)) go))
    (like_then _ _ go go (set_twice a b x path w z s) (λ t. inl refl)) refl

pub absorbs_past : (f g go : State → Outcome State) → Commute f g → Absorbs f go → Absorbs f (then_do g go)
absorbs_past f g go c h s =
    like_ends _ ((f s >>= g) >>= go) _ _ (sym (then_then (f s) g go))
    (like_trans _ ((g s >>= f) >>= go) _ (like_then _ _ go go (c s) (λ t. inl refl))
    (like_ends _ (g s >>= (λ t. f t >>= go)) _ _ (then_then (g s) f go) (like_then (g s) (g s) _ _ (inl refl) (λ t. h t)) refl)) refl

-- past what is read, where f changes nothing that is read
pub absorbs_read : {X : Type 0} (f : State → Outcome State) (e : State → Outcome X) (go : X → State → Outcome State) → ((s t : State) → f s ≡ Ok t → Like (e t) (e s)) → ((x : X) → Absorbs f (go x)) → Absorbs f (λ s. e s >>= (λ x. go x s))
absorbs_read {X = X} f e go u h s = by (f s) refl
  where
    by_bad : (k : Trouble) → f s ≡ Err k → (o : Outcome X) → e s ≡ o → Like {X = State} (Err k) (o >>= (λ x. go x s))
    by_bad k p (Ok x) q = subst (λ z. Like (z >>= go x) (go x s)) p (h x s)
    by_bad k p (Err j) q = inr (tt, tt)

    by : (o : Outcome State) → f s ≡ o → Like (o >>= (λ t. e t >>= (λ x. go x t))) (e s >>= (λ x. go x s))
    by (Ok t) p = like_then (e t) (e s) _ _ (u s t p) (λ x. subst (λ z. Like (z >>= go x) (go x s)) p (h x s))
    by (Err k) p = by_bad k p (e s) refl

pub absorbs_all : (ms : List Setting) (go : State → Outcome State) → ((m : Setting) → OneOf m ms → Absorbs (set_one plain m) go) → Absorbs (set_all plain ms) go
absorbs_all [] go h s = inl refl
absorbs_all (m ∷ ms) go h s =
    like_ends _ (set_one plain m s >>= (λ t. set_all plain ms t >>= go)) _ _ (then_then (set_one plain m s) (set_all plain ms) go)
    (like_trans _ (set_one plain m s >>= go) _ (like_then (set_one plain m s) (set_one plain m s) _ go (inl refl) (λ t. absorbs_all ms go (λ n k. h n (inr k)) t)) (h m (inl refl) s)) refl

-- ---- what settings leave as it is

pub set_put : (m : Setting) (s t : State) → set_one plain m s ≡ Ok t → (u : Value) × (changed_at m.place m.part.path m.value (s m.part.variable) ≡ Ok u) × (t ≡ put m.part.variable u s)
set_put m s t e = by (changed_at m.place m.part.path m.value (s m.part.variable)) refl e
  where
    by : (o : Outcome Value) → changed_at m.place m.part.path m.value (s m.part.variable) ≡ o → o >>= (λ u. Ok (put m.part.variable u s)) ≡ Ok t → (u : Value) × (changed_at m.place m.part.path m.value (s m.part.variable) ≡ Ok u) × (t ≡ put m.part.variable u s)
    by (Ok u) p e = (u, p, sym (same_ok (put m.part.variable u s) t e))
    by (Err k) p e = no_ok k t e

pub all_else : (ms : List Setting) (x : Word) → Others x ms → (s t : State) → set_all plain ms s ≡ Ok t → t x ≡ s x
all_else [] x h s t e = ap (λ (f : State). f x) (sym (same_ok s t e))
all_else (m ∷ ms) x h s t e = by (λ u. all_else ms x h.1 u t) (set_one plain m s) refl e
  where
    by : ((u : State) → set_all plain ms u ≡ Ok t → t x ≡ u x) → (o : Outcome State) → set_one plain m s ≡ o → o >>= set_all plain ms ≡ Ok t → t x ≡ s x
    by ih (Ok u) p e = let q = set_put m s u p in ih u e ∙ ap (λ (f : State). f x) q.2 ∙ put_else m.part.variable x q.0 s (other-name x m.part.variable h.0)
    by ih (Err k) p e = no_ok k t e

pub all_both : (ms ns : List Setting) (s : State) → set_all plain (ms ++ ns) s ≡ set_all plain ms s >>= set_all plain ns
all_both [] ns s = refl
all_both (m ∷ ms) ns s = (λ i. set_one plain m s >>= (λ t. all_both ms ns t i)) ∙ sym (then_then (set_one plain m s) (set_all plain ms) (set_all plain ns))
