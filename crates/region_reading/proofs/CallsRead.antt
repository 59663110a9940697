-- What is read is spelled, and what is spelled is read: calls of actions, ways of a step, and conjuncts of Spec.
use Rattle.std.proofs.Common.{◌≡◌, ℕ, ◌≤◌, nat_lt, bytes_eq, Bool, true, false, cond, List, [], ◌∷◌, length, codes, Option, Some, None, Ok, refl, sym, ap, ◌∙◌, arith}
use Rattle.std.proofs.lemmas.Option.{none-some, same_Some}
use Rattle.tla_token.specs.declared.place.Place.{Place}
use Rattle.tla_token.proofs.Spelled.{same_bytes}
use Rattle.tla_tree.specs.declared.op.Op.TheVariants as op
use Rattle.tla_tree.specs.Tree.{Word}
use Rattle.tla_tree.specs.Lexical.{TokenView, Token, token, mark, sign, key}
use Rattle.tla_tree.specs.Lexical as tk
use Rattle.tla_tree.specs.Spelling.{Right, spell, word}
use Rattle.tla_tree.specs.Reader.{◌>>=◌, gives, next, tail, peek, take, is_mark}
use Rattle.tla_tree.proofs.SoundTokens.{then_ok, given, seen, take_ok, mark_ok, sign_ok, word_ok}
use Rattle.tla_tree.proofs.SoundLists.{read_is_spelled}
use Rattle.module_tree.specs.Grammar.{see, keyword, CallForm, call_form, call_with_form, spell_call, GoodCall, WayForm, one_form, some_form, spell_way, GoodWay}
use Rattle.module_tree.specs.Units.{OverForm, GuardForm, FairForm, spell_over, spell_guard, spell_fair, GoodOver, GoodGuard, GoodFair, SpecForm, start_line, steps_line, fair_line, spell_spec, GoodSpec, fair_specs}
use Rattle.module_tree.proofs.OneItem.{calm_at}
use Rattle.region_reading.specs.Bound.{Bound, unbounded}
use Rattle.region_reading.specs.CallReader.{call_by, call_in, way_by, way_in, over_by, behind_over, guard_by, behind_guard, strong_if, strong_of, fair_end, fair_from, fair_in, start_if, spec_by, spec_in, one_fair_more, fairs_of}
use Rattle.region_reading.proofs.NamesRead.{next_is, phrase_read, shorter, title_ok}
use Rattle.region_reading.proofs.ItemsRead.{keyword_seen}

-- ---- calls

abbrev IsCall : ℕ → List Token → CallForm → List Token → Type 0
IsCall e ts u us = GoodCall e u × (spell_call u us ≡ ts)

call_by_ok : (e : ℕ) (p : Place) (x : Word) → Right e p → (q : Place) (k : TokenView) (ts : List Token) (u : CallForm) (us : List Token) → next e ts ≡ token q k
    → call_by unbounded e p x q k ts ≡ Ok (u, us) → IsCall e (word p x ts) u us
call_by_ok e p x g q (mark tk.open_bracket) ts u us s o =
    let n = seen e ts q (mark tk.open_bracket) s refl in
    let v = then_ok o in
    let w = read_is_spelled e (tail ts) v.1 v.0 v.2 in
    let z = then_ok v.3 in
    let m = mark_ok e tk.close_bracket v.1 z.0 z.1 z.2 in
    given (λ d vs. IsCall e (word p x ts) d vs) z.3 ((g, n.0, w.0, m.0), rw (m.1, sym w.1, n.1) refl)
call_by_ok e p x g q k ts u us s o = given (λ d vs. IsCall e (word p x ts) d vs) o (g, refl)

pub call_ok : (e : ℕ) (ts : List Token) (u : CallForm) (us : List Token) → call_in unbounded e ts ≡ Ok (u, us) → GoodCall e u × (spell_call u us ≡ ts)
call_ok e ts u us o =
    let v = then_ok o in
    let w = word_ok e ts v.0 v.1 v.2 in
    let z = call_by_ok e v.0.0 v.0.1 w.0 (next e v.1).place (next e v.1).kind v.1 u us refl v.3 in
    (z.0, z.1 ∙ w.1)

-- no bracket goes on
abbrev pub NoBracket : ℕ → List Token → Type 0
NoBracket e ts = is_mark tk.open_bracket (next e ts).kind ≡ false

pub no_bracket_at : (e : ℕ) (t : Token) (ts : List Token) → is_mark tk.open_bracket t.kind ≡ false → NoBracket e (t ∷ ts)
no_bracket_at e t ts h = by (nat_lt e t.place.col) refl
  where
    by : (b : Bool) → nat_lt e t.place.col ≡ b → NoBracket e (t ∷ ts)
    by true l = rw l h
    by false l = rw l refl

bare_read : (e : ℕ) (p : Place) (x : Word) (q : Place) (k : TokenView) (r : List Token) → is_mark tk.open_bracket k ≡ false → call_by unbounded e p x q k r ≡ Ok (call_form p x, r)
bare_read e p x q (mark tk.open_bracket) r h = absurd cc
bare_read e p x q k r h = refl

pub call_read : (e : ℕ) (u : CallForm) → GoodCall e u → (r : List Token) → NoBracket e r → call_in unbounded e (spell_call u r) ≡ Ok (u, r)
call_read e (call_form p x) g r n = rw g (bare_read e p x (next e r).place (next e r).kind r n)
call_read e (call_with_form p x q a s) g r n =
    let w = phrase_read e a g.2 (see s (mark tk.close_bracket) r) (calm_at e s (mark tk.close_bracket) r g.3 refl) in
    rw (g.0, g.1, w, g.3) refl

call_shorter : (u : CallForm) (r : List Token) → length r ≤ length (spell_call u r)
call_shorter (call_form p x) r = omega arith
call_shorter (call_with_form p x q a s) r = omega (arith, shorter a (see s (mark tk.close_bracket) r))

-- ---- ways

abbrev IsWay : ℕ → List Token → WayForm → List Token → Type 0
IsWay e ts y us = GoodWay e y × (spell_way y us ≡ ts)

one_way_ok : (e : ℕ) (ts : List Token) (y : WayForm) (us : List Token) → (call_in unbounded e >>= λ u. gives (one_form u)) ts ≡ Ok (y, us) → IsWay e ts y us
one_way_ok e ts y us o =
    let v = then_ok o in
    let w = call_ok e ts v.0 v.1 v.2 in
    given (λ d vs. IsWay e ts d vs) v.3 (w.0, w.1)

way_by_ok : (e : ℕ) (p : Place) (k : TokenView) (ts : List Token) (y : WayForm) (us : List Token) → next e ts ≡ token p k → way_by unbounded e p k ts ≡ Ok (y, us) → IsWay e ts y us
way_by_ok e p (key tk.exists_key) ts y us s o =
    let n = seen e ts p (key tk.exists_key) s refl in
    let v = then_ok o in
    let x = word_ok e (tail ts) v.0 v.1 v.2 in
    let u = then_ok v.3 in
    let k = sign_ok e op.In v.1 u.0 u.1 u.2 in
    let z = then_ok u.3 in
    let w = read_is_spelled e u.1 z.1 z.0 z.2 in
    let i = then_ok z.3 in
    let m = mark_ok e tk.colon z.1 i.0 i.1 i.2 in
    let q = then_ok i.3 in
    let l = call_ok e i.1 q.0 q.1 q.2 in
    given (λ d vs. IsWay e ts d vs) q.3 ((n.0, x.0, k.0, w.0, m.0, l.0), rw (l.1, m.1, sym w.1, k.1, x.1, n.1) refl)
way_by_ok e p k ts y us s o = one_way_ok e ts y us o

pub way_ok : (e : ℕ) (ts : List Token) (y : WayForm) (us : List Token) → way_in unbounded e ts ≡ Ok (y, us) → GoodWay e y × (spell_way y us ≡ ts)
way_ok e ts y us o = way_by_ok e (next e ts).place (next e ts).kind ts y us refl o

by_word : (e : ℕ) (p : Place) (x : Word) (r : List Token) → Right e p → way_in unbounded e (word p x r) ≡ (call_in unbounded e >>= λ u. gives (one_form u)) (word p x r)
by_word e p x r g = ap (λ (t : Token). way_by unbounded e t.place t.kind (word p x r)) (next_is e p (tk.word x) r g)

by_call : (e : ℕ) (u : CallForm) (r : List Token) → GoodCall e u → way_in unbounded e (spell_call u r) ≡ (call_in unbounded e >>= λ u. gives (one_form u)) (spell_call u r)
by_call e (call_form p x) r g = by_word e p x r g
by_call e (call_with_form p x q a s) r g = by_word e p x (see q (mark tk.open_bracket) (spell a (see s (mark tk.close_bracket) r))) g.0

pub way_read : (e : ℕ) (y : WayForm) → GoodWay e y → (r : List Token) → NoBracket e r → way_in unbounded e (spell_way y r) ≡ Ok (y, r)
way_read e (one_form u) g r n = by_call e u r g ∙ rw (call_read e u g r n) refl
way_read e (some_form p q x s a t u) g r n =
    let us = see t (mark tk.colon) (spell_call u r) in
    let w = phrase_read e a g.3 us (calm_at e t (mark tk.colon) (spell_call u r) g.4 refl) in
    rw (g.0, g.1, g.2, w, g.4, call_read e u g.5 r n) refl

pub way_shorter : (y : WayForm) (r : List Token) → length r ≤ length (spell_way y r)
way_shorter (one_form u) r = call_shorter u r
way_shorter (some_form p q x s a t u) r = omega (arith, shorter a (see t (mark tk.colon) (spell_call u r)), call_shorter u r)

-- ---- fairness

over_by_ok : (e : ℕ) (p : Place) (k : TokenView) (ts : List Token) (f : Option OverForm) (us : List Token) → next e ts ≡ token p k → over_by unbounded e p k ts ≡ Ok (f, us)
    → GoodOver e f × (spell_over f us ≡ ts)
over_by_ok e p (key tk.for_all_key) ts f us s o =
    let n = seen e ts p (key tk.for_all_key) s refl in
    let v = then_ok o in
    let x = word_ok e (tail ts) v.0 v.1 v.2 in
    let u = then_ok v.3 in
    let k = sign_ok e op.In v.1 u.0 u.1 u.2 in
    let z = then_ok u.3 in
    let w = read_is_spelled e u.1 z.1 z.0 z.2 in
    let i = then_ok z.3 in
    let m = mark_ok e tk.colon z.1 i.0 i.1 i.2 in
    given (λ d vs. GoodOver e d × (spell_over d vs ≡ ts)) i.3 ((n.0, x.0, k.0, w.0, m.0), rw (m.1, sym w.1, k.1, x.1, n.1) refl)
over_by_ok e p k ts f us s o = given (λ d vs. GoodOver e d × (spell_over d vs ≡ ts)) o (tt, refl)

guard_by_ok : (e : ℕ) (p : Place) (k : TokenView) (ts : List Token) (f : Option GuardForm) (us : List Token) → next e ts ≡ token p k → guard_by unbounded e p k ts ≡ Ok (f, us)
    → GoodGuard e f × (spell_guard f us ≡ ts)
guard_by_ok e p (mark tk.open_bracket) ts f us s o =
    let n = seen e ts p (mark tk.open_bracket) s refl in
    let v = then_ok o in
    let w = read_is_spelled e (tail ts) v.1 v.0 v.2 in
    let u = then_ok v.3 in
    let m = mark_ok e tk.close_bracket v.1 u.0 u.1 u.2 in
    let z = then_ok u.3 in
    let k = sign_ok e op.And u.1 z.0 z.1 z.2 in
    given (λ d vs. GoodGuard e d × (spell_guard d vs ≡ ts)) z.3 ((n.0, w.0, m.0, k.0), rw (k.1, m.1, sym w.1, n.1) refl)
guard_by_ok e p k ts f us s o = given (λ d vs. GoodGuard e d × (spell_guard d vs ≡ ts)) o (tt, refl)

abbrev strength : Bool → Word
strength b = cond b (codes "SF_vars") (codes "WF_vars")

some_word : (b : Bool) → bytes_eq [] (strength b) ≡ false
some_word true = refl
some_word false = refl

strong_is : (p : Place) (k : TokenView) (x : Place × Bool) → strong_of p k ≡ Some x → (p ≡ x.0) × (k ≡ tk.other (strength x.1))
strong_is p (tk.other w) x h = by (bytes_eq w (codes "SF_vars")) refl (bytes_eq w (codes "WF_vars")) refl h
  where
    of : (b : Bool) → bytes_eq w (strength b) ≡ true → Some (p, b) ≡ Some x → (p ≡ x.0) × (tk.other w ≡ tk.other (strength x.1))
    of b q h =
        let it : ◌≡◌ {A = Place × Bool} (p, b) x = same_Some (p, b) x h in
        (ap (λ (z : Place × Bool). z.0) it, ap (λ (v : Word). tk.other v) (same_bytes w (strength b) q) ∙ ap (λ (z : Place × Bool). tk.other (strength z.1)) it)

    by : (b : Bool) → bytes_eq w (codes "SF_vars") ≡ b → (c : Bool) → bytes_eq w (codes "WF_vars") ≡ c → strong_if b c p ≡ Some x → (p ≡ x.0) × (tk.other w ≡ tk.other (strength x.1))
    by true q c z h = of true q h
    by false q true z h = of false z h
    by false q false z h = absurd (none-some x h)
strong_is p k x h = absurd (none-some x h)

strong_ok : (e : ℕ) (ts : List Token) (x : Place × Bool) (us : List Token) → take e strong_of ts ≡ Ok (x, us) → Right e x.0 × (keyword x.0 (strength x.1) us ≡ ts)
strong_ok e ts x us o =
    let w = take_ok e strong_of ts x us o in
    let v = strong_is (next e ts).place (next e ts).kind x w.0 in
    let s : next e ts ≡ token x.0 (tk.other (strength x.1)) = λ i. token (v.0 i) (v.1 i) in
    let n = keyword_seen e ts x.0 (strength x.1) s (some_word x.1) in
    (n.0, ap (λ (vs : List Token). keyword x.0 (strength x.1) vs) (sym w.1) ∙ n.1)

-- where there is no bound, there is none behind these
over_is : (o : Option OverForm) → behind_over unbounded o ≡ unbounded
over_is (Some f) = refl
over_is None = refl

guard_is : (o : Option GuardForm) → behind_guard unbounded o ≡ unbounded
guard_is (Some f) = refl
guard_is None = refl

fair_ok : (e : ℕ) (ts : List Token) (f : FairForm) (us : List Token) → fair_in unbounded e ts ≡ Ok (f, us) → GoodFair e f × (spell_fair f us ≡ ts)
fair_ok e ts f us o =
    let v = then_ok o in
    let a = over_by_ok e (next e ts).place (next e ts).kind ts v.0 v.1 refl v.2 in
    let u = then_ok (ap (λ (m : Bound). fair_from m e v.0 v.1) (sym (over_is v.0)) ∙ v.3) in
    let b = strong_ok e v.1 u.0 u.1 u.2 in
    let z = then_ok u.3 in
    let c = mark_ok e tk.open_bracket u.1 z.0 z.1 z.2 in
    let i = then_ok z.3 in
    let d = guard_by_ok e (next e z.1).place (next e z.1).kind z.1 i.0 i.1 refl i.2 in
    let j = then_ok (ap (λ (m : Bound). fair_end m e v.0 u.0 z.0 i.0 i.1) (sym (guard_is i.0)) ∙ i.3) in
    let g = call_ok e i.1 j.0 j.1 j.2 in
    let k = then_ok j.3 in
    let h = mark_ok e tk.close_bracket j.1 k.0 k.1 k.2 in
    given (λ d vs. GoodFair e d × (spell_fair d vs ≡ ts)) k.3 ((a.0, b.0, c.0, d.0, g.0, h.0), rw (h.1, g.1, d.1, c.1, b.1, a.1) refl)

over_read : (e : ℕ) (f : Option OverForm) (p : Place) (w : Word) (r : List Token) → GoodOver e f → Right e p → peek e (over_by unbounded e) (spell_over f (keyword p w r)) ≡ Ok (f, keyword p w r)
over_read e None p w r g h = rw h refl
over_read e (Some f) p w r g h =
    let us = keyword p w r in
    let v = phrase_read e f.set g.3 (see f.colon (mark tk.colon) us) (calm_at e f.colon (mark tk.colon) us g.4 refl) in
    rw (g.0, g.1, g.2, v, g.4) refl

strong_read : (e : ℕ) (b : Bool) (p : Place) (r : List Token) → Right e p → take e strong_of (keyword p (strength b) r) ≡ Ok ((p, b), r)
strong_read e true p r g = rw g refl
strong_read e false p r g = rw g refl

guard_read : (e : ℕ) (f : Option GuardForm) (u : CallForm) (r : List Token) → GoodGuard e f → GoodCall e u → peek e (guard_by unbounded e) (spell_guard f (spell_call u r)) ≡ Ok (f, spell_call u r)
guard_read e None (call_form p x) r g h = rw h refl
guard_read e None (call_with_form p x q a s) r g h = rw h.0 refl
guard_read e (Some f) u r g h =
    let us = see f.and_at (sign op.And) (spell_call u r) in
    let v = phrase_read e f.test g.1 (see f.right (mark tk.close_bracket) us) (calm_at e f.right (mark tk.close_bracket) us g.2 refl) in
    rw (g.0, v, g.2, g.3) refl

fair_read : (e : ℕ) (f : FairForm) → GoodFair e f → (r : List Token) → fair_in unbounded e (spell_fair f r) ≡ Ok (f, r)
fair_read e f g r =
    let r1 = see f.right (mark tk.close_bracket) r in
    let r2 = see f.left (mark tk.open_bracket) (spell_guard f.guard (spell_call f.action r1)) in
    let a = over_read e f.over f.at (strength f.strong) r2 g.0 g.1 in
    let b = strong_read e f.strong f.at r2 g.1 in
    let d = guard_read e f.guard f.action r1 g.3 g.4 in
    let c = call_read e f.action g.4 r1 (no_bracket_at e (token f.right (mark tk.close_bracket)) r refl) in
    rw (a, over_is f.over, b, g.2, d, guard_is f.guard, c, g.5) refl

fair_shorter : (f : FairForm) (r : List Token) → length r ≤ length (spell_fair f r)
fair_shorter f r =
    let r1 = see f.right (mark tk.close_bracket) r in
    let r2 = see f.left (mark tk.open_bracket) (spell_guard f.guard (spell_call f.action r1)) in
    omega (arith, over f.over (keyword f.at (strength f.strong) r2), guard f.guard (spell_call f.action r1), call_shorter f.action r1)
  where
    over : (f : Option OverForm) (r : List Token) → length r ≤ length (spell_over f r)
    over None r = omega arith
    over (Some f) r = omega (arith, shorter f.set (see f.colon (mark tk.colon) r))

    guard : (f : Option GuardForm) (r : List Token) → length r ≤ length (spell_guard f r)
    guard None r = omega arith
    guard (Some f) r = omega (arith, shorter f.test (see f.right (mark tk.close_bracket) (see f.and_at (sign op.And) r)))

-- ---- conjuncts of Spec

abbrev IsSpec : ℕ → List Token → SpecForm → List Token → Type 0
IsSpec e ts f us = GoodSpec e f × (spell_spec f us ≡ ts)

fair_line_ok : (e : ℕ) (ts : List Token) (f : SpecForm) (us : List Token) → (fair_in unbounded e >>= λ f. gives (fair_line f)) ts ≡ Ok (f, us) → IsSpec e ts f us
fair_line_ok e ts f us o =
    let v = then_ok o in
    let w = fair_ok e ts v.0 v.1 v.2 in
    given (λ d vs. IsSpec e ts d vs) v.3 (w.0, w.1)

spec_by_ok : (e : ℕ) (p : Place) (k : TokenView) (ts : List Token) (f : SpecForm) (us : List Token) → next e ts ≡ token p k → spec_by unbounded e p k ts ≡ Ok (f, us) → IsSpec e ts f us
spec_by_ok e p (tk.word x) ts f us s o = by (bytes_eq x (codes "Init")) refl o
  where
    by : (b : Bool) → bytes_eq x (codes "Init") ≡ b → start_if b p ts ≡ Ok (f, us) → IsSpec e ts f us
    by true q o =
        let n = seen e ts p (tk.word (codes "Init")) (s ∙ ap (λ (v : Word). token p (tk.word v)) (same_bytes x (codes "Init") q)) refl in
        given (λ d vs. IsSpec e ts d vs) o (n.0, n.1)
    by false q o = absurd cc
spec_by_ok e p (mark tk.box) ts f us s o =
    let n = seen e ts p (mark tk.box) s refl in
    let v = then_ok o in
    let a = mark_ok e tk.open_square (tail ts) v.0 v.1 v.2 in
    let u = then_ok v.3 in
    let b = title_ok e (codes "Next") v.1 u.0 u.1 u.2 in
    let z = then_ok u.3 in
    let c = mark_ok e tk.close_square u.1 z.0 z.1 z.2 in
    let i = then_ok z.3 in
    let d = title_ok e (codes "_vars") z.1 i.0 i.1 i.2 in
    given (λ d vs. IsSpec e ts d vs) i.3 ((n.0, a.0, b.0, c.0, d.0), rw (d.1, c.1, b.1, a.1, n.1) refl)
spec_by_ok e p k ts f us s o = fair_line_ok e ts f us o

pub spec_ok : (e : ℕ) (ts : List Token) (f : SpecForm) (us : List Token) → spec_in unbounded e ts ≡ Ok (f, us) → GoodSpec e f × (spell_spec f us ≡ ts)
spec_ok e ts f us o = spec_by_ok e (next e ts).place (next e ts).kind ts f us refl o

by_fair : (e : ℕ) (f : Option OverForm) (p : Place) (w : Word) (r : List Token) → GoodOver e f → Right e p
    → spec_in unbounded e (spell_over f (keyword p w r)) ≡ (fair_in unbounded e >>= λ f. gives (fair_line f)) (spell_over f (keyword p w r))
by_fair e None p w r g h = ap (λ (t : Token). spec_by unbounded e t.place t.kind (keyword p w r)) (next_is e p (tk.other w) r h)
by_fair e (Some f) p w r g h =
    let us = word f.at f.name (see f.in_at (sign op.In) (spell f.set (see f.colon (mark tk.colon) (keyword p w r)))) in
    ap (λ (t : Token). spec_by unbounded e t.place t.kind (see f.all (key tk.for_all_key) us)) (next_is e f.all (key tk.for_all_key) us g.0)

pub spec_read : (e : ℕ) (f : SpecForm) → GoodSpec e f → (r : List Token) → spec_in unbounded e (spell_spec f r) ≡ Ok (f, r)
spec_read e (start_line p) g r = rw g refl
spec_read e (steps_line p q s t u) g r = rw (g.0, g.1, g.2, g.3, g.4) refl
spec_read e (fair_line f) g r =
    let r1 = see f.right (mark tk.close_bracket) r in
    let r2 = see f.left (mark tk.open_bracket) (spell_guard f.guard (spell_call f.action r1)) in
    by_fair e f.over f.at (strength f.strong) r2 g.0 g.1 ∙ rw (fair_read e f g r) refl

pub spec_shorter : (f : SpecForm) (r : List Token) → length r ≤ length (spell_spec f r)
spec_shorter (start_line p) r = omega arith
spec_shorter (steps_line p q s t u) r = omega arith
spec_shorter (fair_line f) r = fair_shorter f r

pub fairs_ok : (xs : List (Place × SpecForm)) (fs : List (Place × FairForm)) → fairs_of xs ≡ Some fs → xs ≡ fair_specs fs
fairs_ok [] fs h = ap fair_specs (same_Some [] fs h)
fairs_ok (x ∷ xs) fs h = by x.1 refl h (fairs_ok xs)
  where
    more : (f : FairForm) → x.1 ≡ fair_line f → (o : Option (List (Place × FairForm))) → fairs_of xs ≡ o → one_fair_more x.0 f o ≡ Some fs
        → ((fs : List (Place × FairForm)) → fairs_of xs ≡ Some fs → xs ≡ fair_specs fs) → x ∷ xs ≡ fair_specs fs
    more f e (Some gs) q h go =
        let rest = go gs q in
        (λ i. (x.0, e i) ∷ rest i) ∙ ap fair_specs (same_Some ((x.0, f) ∷ gs) fs h)
    more f e None q h go = absurd (none-some fs h)

    by : (f : SpecForm) → x.1 ≡ f → fairs_of ((x.0, f) ∷ xs) ≡ Some fs → ((fs : List (Place × FairForm)) → fairs_of xs ≡ Some fs → xs ≡ fair_specs fs) → x ∷ xs ≡ fair_specs fs
    by (fair_line f) e h go = more f e (fairs_of xs) refl h go
    by (start_line p) e h go = absurd (none-some fs h)
    by (steps_line p q s t u) e h go = absurd (none-some fs h)

pub fairs_back : (fs : List (Place × FairForm)) → fairs_of (fair_specs fs) ≡ Some fs
fairs_back [] = refl
fairs_back (f ∷ fs) = rw (fairs_back fs) refl
