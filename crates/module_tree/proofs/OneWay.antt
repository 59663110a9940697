-- Calls of actions, the ways of a step, and formulas of fairness: each is the only one with its tokens.
use Rattle.std.proofs.Common.{eq-eqb, nat_eq, ◌≡◌, ℕ, Bool, true, false, List, [], ◌∷◌, codes, cond, Option, Some, None, subst, refl, sym, ap, ◌∙◌}
use Rattle.std.proofs.lemmas.Bool.{both_ways}
use Rattle.std.specs.Str.{bytes_eq}
use Rattle.tla_token.specs.declared.place.Place.{Place}
use Rattle.tla_tree.specs.declared.op.Op.TheVariants as op
use Rattle.tla_tree.specs.Tree.{Word}
use Rattle.tla_tree.specs.Lexical.{TokenView, Token, mark, sign}
use Rattle.tla_tree.specs.Lexical as tk
use Rattle.tla_tree.specs.Spelling.{tree_of}
use Rattle.module_tree.specs.Module.{call, call_with, one_way, some_way}
use Rattle.module_tree.specs.Grammar.{see, keyword, CallForm, call_form, call_with_form, spell_call, call_of, GoodCall, WayForm, one_form, some_form, spell_way, way_of, GoodWay, spell_bullets, GoodBullets, GoodSome, each}
use Rattle.module_tree.specs.Units.{OverForm, GuardForm, FairForm, spell_over, spell_guard, spell_fair, over_of, guard_of, fairness_of, GoodOver, GoodGuard, GoodFair, spell_spec, GoodSpec, fair_specs}
use Rattle.tla_tree.proofs.ReadAll.{one_before}
use Rattle.module_tree.proofs.OneItem.{tail, first_sort, first_word, first_col, apart, calm_at}

pub sorts_apart : (n m : ℕ) (ts us : List Token) → nat_eq n m ≡ false → first_sort ts ≡ n → first_sort us ≡ m → ts ≡ us → ⊥
sorts_apart n m ts us d h k same = both_ways (nat_eq n m) d (eq-eqb n m (sym h ∙ ap first_sort same ∙ k))

-- ---- calls

-- a call is followed by no bracket that it doesn't have
one_call : (e : ℕ) (c d : CallForm) → GoodCall e c → GoodCall e d → (r s : List Token) → nat_eq (first_sort r) 1 ≡ false
    → nat_eq (first_sort s) 1 ≡ false
    → spell_call c r ≡ spell_call d s → (call_of c ≡ call_of d) × (r ≡ s)
one_call e (call_form p x) (call_form q y) g h r s nr ns same =
    let d : x ≡ y = ap first_word same in
    ((λ i. call (d i)), ap tail same)
one_call e (call_form p x) (call_with_form q y t a u) g h r s nr ns same = absurd (apart r _ nr (ap tail same))
one_call e (call_with_form p x q a t) (call_form l y) g h r s nr ns same = absurd (apart s _ ns (ap tail (sym same)))
one_call e (call_with_form p x q a t) (call_with_form l y m b u) g h r s nr ns same =
    let d : x ≡ y = ap first_word same in
    let w = one_before e a b g.2 h.2 (see t (mark tk.close_bracket) r) (see u (mark tk.close_bracket) s)
    (calm_at e t (mark tk.close_bracket) r g.3 refl) (calm_at e u (mark tk.close_bracket) s h.3 refl)
    (ap (λ (ts : List Token). tail (tail ts)) same) in
    ((λ i. call_with (d i) (tree_of (w.0 i))), ap tail w.1)

call_first : (c : CallForm) (r : List Token) → first_sort (spell_call c r) ≡ 2
call_first (call_form p x) r = refl
call_first (call_with_form p x q a s) r = refl

-- ---- ways

one_way_alone : (e : ℕ) (y z : WayForm) → GoodWay e y → GoodWay e z → (r s : List Token) → nat_eq (first_sort r) 1 ≡ false
    → nat_eq (first_sort s) 1 ≡ false
    → spell_way y r ≡ spell_way z s → (way_of y ≡ way_of z) × (r ≡ s)
one_way_alone e (one_form c) (one_form d) g h r s nr ns same = (let w = one_call e c d g h r s nr ns same in ((λ i. one_way (w.0 i)), w.1))
one_way_alone e (one_form c) (some_form l m y n b o d) g h r s nr ns same = absurd
    (sorts_apart 2 5 (spell_call c r) _ refl (call_first c r) refl same)
one_way_alone e (some_form p q x t a u c) (one_form d) g h r s nr ns same = absurd
    (sorts_apart 2 5 (spell_call d s) _ refl (call_first d s) refl (sym same))
one_way_alone e (some_form p q x t a u c) (some_form l m y n b o d) g h r s nr ns same =
    let z : x ≡ y = ap (λ (ts : List Token). first_word (tail ts)) same in
    let w = one_before e a b g.3 h.3 (see u (mark tk.colon) (spell_call c r)) (see o (mark tk.colon) (spell_call d s))
    (calm_at e u (mark tk.colon) (spell_call c r) g.4 refl) (calm_at e o (mark tk.colon) (spell_call d s) h.4 refl)
    (ap (λ (ts : List Token). tail (tail (tail ts))) same) in
    let v = one_call e c d g.5 h.5 r s nr ns (ap tail w.1) in
    ((λ i. some_way (z i) (tree_of (w.0 i)) (v.0 i)), v.1)

abbrev pub disjuncts : List (Place × WayForm) → List Token
disjuncts ys = spell_bullets (sign op.Or) spell_way ys []

no_bracket : (ys : List (Place × WayForm)) → nat_eq (first_sort (disjuncts ys)) 1 ≡ false
no_bracket [] = refl
no_bracket (y ∷ ys) = refl

one_ways : (c : ℕ) (ys zs : List (Place × WayForm)) → GoodBullets GoodWay c ys → GoodBullets GoodWay c zs → disjuncts ys ≡ disjuncts zs
    → each way_of ys ≡ each way_of zs
one_ways c [] [] g h same = refl
one_ways c [] (z ∷ zs) g h same = absurd (apart _ _ refl same)
one_ways c (y ∷ ys) [] g h same = absurd (apart _ _ refl same)
one_ways c (y ∷ ys) (z ∷ zs) g h same =
    let w = one_way_alone c y.1 z.1 g.1 h.1 (disjuncts ys) (disjuncts zs) (no_bracket ys) (no_bracket zs) (ap tail same) in
    let more = one_ways c ys zs g.2 h.2 w.1 in
    λ i. w.0 i ∷ more i

pub some_ways : (ys zs : List (Place × WayForm)) → GoodSome GoodWay ys → GoodSome GoodWay zs → disjuncts ys ≡ disjuncts zs
    → each way_of ys ≡ each way_of zs
some_ways [] zs g h same = absurd g
some_ways (y ∷ ys) [] g h same = absurd h
some_ways (y ∷ ys) (z ∷ zs) g h same =
    let c : z.0.col ≡ y.0.col = ap first_col (sym same) in
    one_ways y.0.col (y ∷ ys) (z ∷ zs) g.1 (subst (λ (n : ℕ). GoodBullets GoodWay n (z ∷ zs)) c h.1) same

-- ---- fairness

one_over : (e : ℕ) (f g : Option OverForm) → GoodOver e f → GoodOver e g → (r s : List Token) → first_sort r ≡ 10 → first_sort s ≡ 10
    → spell_over f r ≡ spell_over g s → (over_of f ≡ over_of g) × (r ≡ s)
one_over e None None g h r s fr fs same = (refl, same)
one_over e None (Some y) g h r s fr fs same = absurd (sorts_apart 10 8 r _ refl fr refl same)
one_over e (Some x) None g h r s fr fs same = absurd (sorts_apart 10 8 s _ refl fs refl (sym same))
one_over e (Some x) (Some y) g h r s fr fs same =
    let d : x.name ≡ y.name = ap (λ (ts : List Token). first_word (tail ts)) same in
    let w = one_before e x.set y.set g.3 h.3 (see x.colon (mark tk.colon) r) (see y.colon (mark tk.colon) s)
    (calm_at e x.colon (mark tk.colon) r g.4 refl) (calm_at e y.colon (mark tk.colon) s h.4 refl)
    (ap (λ (ts : List Token). tail (tail (tail ts))) same) in
    ((λ i. Some (d i, tree_of (w.0 i))), ap tail w.1)

one_guard : (e : ℕ) (f g : Option GuardForm) → GoodGuard e f → GoodGuard e g → (r s : List Token) → first_sort r ≡ 2 → first_sort s ≡ 2
    → spell_guard f r ≡ spell_guard g s → (guard_of f ≡ guard_of g) × (r ≡ s)
one_guard e None None g h r s fr fs same = (refl, same)
one_guard e None (Some y) g h r s fr fs same = absurd (sorts_apart 2 1 r _ refl fr refl same)
one_guard e (Some x) None g h r s fr fs same = absurd (sorts_apart 2 1 s _ refl fs refl (sym same))
one_guard e (Some x) (Some y) g h r s fr fs same =
    let r2 = see x.and_at (sign op.And) r in
    let s2 = see y.and_at (sign op.And) s in
    let w = one_before e x.test y.test g.1 h.1 (see x.right (mark tk.close_bracket) r2) (see y.right (mark tk.close_bracket) s2)
    (calm_at e x.right (mark tk.close_bracket) r2 g.2 refl) (calm_at e y.right (mark tk.close_bracket) s2 h.2 refl) (ap tail same) in
    ((λ i. Some (tree_of (w.0 i))), ap (λ (ts : List Token). tail (tail ts)) w.1)

abbrev pub keyword_in : TokenView → Word
keyword_in (tk.other w) = w
keyword_in k = []

abbrev pub first_keyword : List Token → Word
first_keyword [] = []
first_keyword (t ∷ ts) = keyword_in t.kind

one_strength : (a b : Bool) → cond a (codes "SF_vars") (codes "WF_vars") ≡ cond b (codes "SF_vars") (codes "WF_vars") → a ≡ b
one_strength true true h = refl
one_strength true false h = ap (λ w. bytes_eq w (codes "SF_vars")) h
one_strength false true h = ap (λ w. bytes_eq w (codes "SF_vars")) h
one_strength false false h = refl

one_fair : (e : ℕ) (f g : FairForm) → GoodFair e f → GoodFair e g → (r s : List Token) → spell_fair f r ≡ spell_fair g s
    → (fairness_of f ≡ fairness_of g) × (r ≡ s)
one_fair e f g gf gg r s same =
    let r2 = see f.right (mark tk.close_bracket) r in
    let s2 = see g.right (mark tk.close_bracket) s in
    let r3 = spell_call f.action r2 in
    let s3 = spell_call g.action s2 in
    let over = one_over e f.over g.over gf.0 gg.0
    (keyword f.at (cond f.strong (codes "SF_vars") (codes "WF_vars")) (see f.left (mark tk.open_bracket) (spell_guard f.guard r3)))
    (keyword g.at (cond g.strong (codes "SF_vars") (codes "WF_vars"))
    (see g.left (mark tk.open_bracket) (spell_guard g.guard s3))) refl refl same in
    let strong = one_strength f.strong g.strong (ap first_keyword over.1) in
    let guard = one_guard e f.guard g.guard gf.3 gg.3 r3 s3 (call_first f.action r2) (call_first g.action s2)
    (ap (λ (ts : List Token). tail (tail ts)) over.1) in
    let action = one_call e f.action g.action gf.4 gg.4 r2 s2 refl refl guard.1 in
    ((λ i. record { over = over.0 i; strong = strong i; guard = guard.0 i; action = action.0 i }), ap tail action.1)

abbrev pub fair_lines : List (Place × FairForm) → List Token
fair_lines fs = spell_bullets (sign op.And) spell_spec (fair_specs fs) []

pub one_fairs : (c : ℕ) (fs gs : List (Place × FairForm)) → GoodBullets GoodSpec c (fair_specs fs) → GoodBullets GoodSpec c (fair_specs gs)
    → fair_lines fs ≡ fair_lines gs
    → each fairness_of fs ≡ each fairness_of gs
one_fairs c [] [] g h same = refl
one_fairs c [] (y ∷ gs) g h same = absurd (apart _ _ refl same)
one_fairs c (x ∷ fs) [] g h same = absurd (apart _ _ refl same)
one_fairs c (x ∷ fs) (y ∷ gs) g h same =
    let w = one_fair c x.1 y.1 g.1 h.1 (fair_lines fs) (fair_lines gs) (ap tail same) in
    let more = one_fairs c fs gs g.2 h.2 w.1 in
    λ i. w.0 i ∷ more i
