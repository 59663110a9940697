-- The tokens that are written for a tree are those of its bracketed phrase.
use Rattle.std.proofs.Common.{◌≡◌, ℕ, suc, ◌+◌, ◌≤◌, Bool, true, false, List, [], ◌∷◌, length, refl, sym, ap, subst, ◌∙◌, arith}
use Rattle.tla_tree.specs.declared.op.Op.{Op}
use Rattle.tla_tree.specs.declared.op.Op.TheVariants as op
use Rattle.tla_tree.specs.declared.op.Binder.{Binder}
use Rattle.tla_tree.specs.declared.op.Binder.TheVariants as binder
use Rattle.tla_tree.specs.Rank.{is_prefix}
use Rattle.tla_tree.specs.Tree.{Word, Name, PathStep, Slot, Strict, Form, Tree, Trees, node, no_trees, tree}
use Rattle.tla_tree.specs.Tree as tree
use Rattle.tla_tree.specs.Shapes.{Shaped, StrictShaped, BinderShaped, CaseShaped, HaveNames, HavePaths, operands, subscripts, settings}
use Rattle.tla_tree.specs.Lexical.{Mark, TokenView, Token, sign_of}
use Rattle.tla_tree.specs.Lexical as tk
use Rattle.tla_tree.specs.Spelling.{Phrase, Binds, Fields, Settings, Path, Arms, spell, spell_all, spell_binds, spell_fields, spell_settings, spell_path, spell_arms, spell_locals}
use Rattle.tla_tree.specs.Spelling as spelled
use Rattle.tla_tree.specs.Written.{Piece}
use Rattle.tla_tree.specs.Written as w
use Rattle.tla_tree.specs.laws.Bracketed.{kinds, tokens_of}
use Rattle.tla_tree.specs.laws.Bracketed as b
use Rattle.tla_tree.specs.laws.Writable.{count, IsWritable, AreWritable}
use Rattle.tla_tree.proofs.ReadStops.{sign_infix}

-- the same tokens
abbrev Same : List Token → List Piece → Type 0
Same ts ps = kinds ts ≡ tokens_of ps

-- the phrase of a part and its pieces, before the same tokens
abbrev Agree : b.Part → w.Part → Type 0
Agree a x = (o : Bool) (ts : List Token) (ps : List Piece) → Same ts ps → Same (spell (a o) ts) (x o ps)

abbrev Agrees : List b.Part → List w.Part → Type 0
Agrees [] [] = Unit {0}
Agrees (a ∷ xs) (x ∷ ys) = Agree a x × Agrees xs ys
Agrees xs ys = ⊥

cons : (k : TokenView) {ks ls : List TokenView} → ks ≡ ls → ◌≡◌ {A = List TokenView} (k ∷ ks) (k ∷ ls)
cons k h = ap (λ (l : List TokenView). k ∷ l) h

-- ---- operators
infix_tokens : (o : Op) (ps : List Piece) → tokens_of (w.infix_sign o ps) ≡ tk.sign o ∷ tokens_of ps
infix_tokens op.Range ps = refl
infix_tokens o ps = refl

prefix_tokens : (o : Op) (ps : List Piece) → tokens_of (w.prefix_sign o ps) ≡ sign_of o ∷ tokens_of ps
prefix_tokens op.Negate ps = refl
prefix_tokens op.Not ps = refl
prefix_tokens o ps = refl

infix_same : (o : Op) (xs : List b.Part) (ys : List w.Part) → length xs ≡ operands (is_prefix o) → Agrees xs ys → (ts : List Token) (ps : List Piece) → Same ts ps → Same (spell (b.infix_phrase o xs) ts) (w.infix_pieces o ys ps)
infix_same o (a ∷ []) (x ∷ []) n g ts ps s = cons (sign_of o) (g.0 true ts ps s) ∙ sym (prefix_tokens o (x true ps))
infix_same o (a ∷ c ∷ []) (x ∷ y ∷ []) n g ts ps s =
    g.0 true (spelled.sign b.nowhere o (spell (c true) ts)) (w.infix_sign o (y true ps)) (ap (λ (k : TokenView). k ∷ kinds (spell (c true) ts)) (sign_infix o (two (is_prefix o) n)) ∙ cons (tk.sign o) (g.1.0 true ts ps s) ∙ sym (infix_tokens o (y true ps)))
  where
    two : (p : Bool) → ◌≡◌ {A = ℕ} 2 (operands p) → p ≡ false
    two true h = absurd (omega (arith, h))
    two false h = refl
infix_same o [] ys n g ts ps s = absurd (none (is_prefix o) n)
  where
    none : (p : Bool) → ◌≡◌ {A = ℕ} 0 (operands p) → ⊥
    none true h = omega (arith, h)
    none false h = omega (arith, h)
infix_same o (a ∷ c ∷ d ∷ xs) ys n g ts ps s = absurd (many (is_prefix o) n)
  where
    many : (p : Bool) → ◌≡◌ {A = ℕ} (length (a ∷ c ∷ d ∷ xs)) (operands p) → ⊥
    many true h = omega (arith, h)
    many false h = omega (arith, h)
infix_same o (a ∷ []) [] n g ts ps s = absurd g
infix_same o (a ∷ []) (x ∷ y ∷ ys) n g ts ps s = absurd g.1
infix_same o (a ∷ c ∷ []) [] n g ts ps s = absurd g
infix_same o (a ∷ c ∷ []) (x ∷ []) n g ts ps s = absurd g.1
infix_same o (a ∷ c ∷ []) (x ∷ y ∷ z ∷ ys) n g ts ps s = absurd g.1.1

-- ---- lists
listed_same : (a : b.Part) (xs : List b.Part) (ys : List w.Part) → Agrees (a ∷ xs) ys → (ts : List Token) (ps : List Piece) → Same ts ps → Same (spell_all (b.phrases a xs) ts) (w.listed ys ps)
listed_same a [] (x ∷ []) g ts ps s = g.0 false ts ps s
listed_same a (c ∷ xs) (x ∷ y ∷ ys) g ts ps s = g.0 false _ _ (cons (tk.mark tk.comma) (listed_same c xs (y ∷ ys) g.1 ts ps s))
listed_same a [] [] g ts ps s = absurd g
listed_same a (c ∷ xs) [] g ts ps s = absurd g
listed_same a [] (x ∷ y ∷ ys) g ts ps s = absurd g.1
listed_same a (c ∷ xs) (x ∷ []) g ts ps s = absurd g.1

-- the sign between a field and what it has
abbrev Between : Mark → (List Piece → List Piece) → Type 0
Between m f = (ps : List Piece) → tokens_of (f ps) ≡ tk.mark m ∷ tokens_of ps

fields_same : (m : Mark) (f : List Piece → List Piece) → Between m f → (x : Word) (a : b.Part) (ys : List Word) (xs : List b.Part) (zs : List w.Part) → length ys ≡ length xs → Agrees (a ∷ xs) zs → (ts : List Token) (ps : List Piece) → Same ts ps → Same (spell_fields m (b.fields_of x a ys xs) ts) (w.field_pieces f (x ∷ ys) zs ps)
fields_same m f h x a [] [] (z ∷ []) n g ts ps s = cons _ (cons (tk.mark m) (g.0 false ts ps s) ∙ sym (h (z false ps)))
fields_same m f h x a (y ∷ ys) (c ∷ xs) (z ∷ zs) n g ts ps s = cons _ (cons (tk.mark m) (g.0 false _ _ (cons (tk.mark tk.comma) (fields_same m f h y c ys xs zs (omega (arith, n)) g.1 ts ps s))) ∙ sym (h _))
fields_same m f h x a [] [] [] n g ts ps s = absurd g
fields_same m f h x a [] [] (z ∷ v ∷ zs) n g ts ps s = absurd g.1
fields_same m f h x a [] (c ∷ xs) zs n g ts ps s = absurd (omega (arith, n))
fields_same m f h x a (y ∷ ys) [] zs n g ts ps s = absurd (omega (arith, n))
fields_same m f h x a (y ∷ ys) (c ∷ xs) [] n g ts ps s = absurd g

record_same : (m : Mark) (f : List Piece → List Piece) → Between m f → (ys : List Word) (xs : List b.Part) (zs : List w.Part) → 1 ≤ length xs → length xs ≡ length ys → Agrees xs zs → (k : Fields → Phrase) (ts : List Token) (ps : List Piece) → ((fs : Fields) → spell (k fs) ts ≡ spelled.mark b.nowhere tk.open_square (spell_fields m fs (spelled.mark b.nowhere tk.close_square ts))) → Same ts ps
    → Same (spell (b.record_phrase k ys xs) ts) (w.mark tk.open_square (w.field_pieces f ys zs (w.mark tk.close_square ps)))
record_same m f h (y ∷ ys) (a ∷ xs) zs o n g k ts ps t s = ap kinds (t (b.fields_of y a ys xs)) ∙ cons (tk.mark tk.open_square) (fields_same m f h y a ys xs zs (omega (arith, n)) g _ _ (cons (tk.mark tk.close_square) s))
record_same m f h [] (a ∷ xs) zs o n g k ts ps t s = absurd (omega (arith, n))
record_same m f h ys [] zs o n g k ts ps t s = absurd (omega (arith, o))

-- ---- bound names
group_same : (x : Name) (ys : List Name) (k : Word → Binds) (ts : List Token) (ps : List Piece) → ((v : Word) → Same (spell_binds (k v) ts) (w.word v ps)) → Same (spell_binds (b.group_of x ys k) ts) (w.name_pieces (x ∷ ys) ps)
group_same x [] k ts ps h = h x.word
group_same x (y ∷ ys) k ts ps h = cons (tk.word x.word) (cons (tk.mark tk.comma) (group_same y ys k ts ps h))

binds_same : (x : Name) (ys : List Name) (a : b.Part) (gs : List (List Name)) (xs : List b.Part) (zs : List w.Part) → HaveNames ((x ∷ ys) ∷ gs) → length xs ≡ suc (length gs) → Agrees (a ∷ xs) zs → (ts : List Token) (ps : List Piece) → Same ts ps → Same (spell_binds (b.binds_of x ys a gs xs) ts) (w.bind_pieces ((x ∷ ys) ∷ gs) zs ps)
binds_same x ys a [] xs (z ∷ zs) h n g ts ps s = group_same x ys (λ v. spelled.last_bind b.nowhere v b.nowhere (a true)) ts _ (λ v. cons (tk.word v) (cons (tk.sign op.In) (g.0 true ts ps s)))
binds_same x ys a ((y ∷ us) ∷ gs) (c ∷ xs) (z ∷ zs) h n g ts ps s =
    group_same x ys (λ v. spelled.bind b.nowhere v b.nowhere (a true) b.nowhere (b.binds_of y us c gs xs)) ts _ (λ v. cons (tk.word v) (cons (tk.sign op.In) (g.0 true _ _ (cons (tk.mark tk.comma) (binds_same y us c gs xs zs h.1 (omega (arith, n)) g.1 ts ps s)))))
binds_same x ys a ([] ∷ []) xs zs h n g ts ps s = absurd (omega (arith, h.1))
binds_same x ys a ([] ∷ k ∷ gs) xs zs h n g ts ps s = absurd (omega (arith, h.1.0))
binds_same x ys a ((y ∷ us) ∷ gs) [] zs h n g ts ps s = absurd (omega (arith, n))
binds_same x ys a ((y ∷ us) ∷ gs) (c ∷ xs) [] h n g ts ps s = absurd g
binds_same x ys a [] xs [] h n g ts ps s = absurd g

locals_same : (x : Name) (a : b.Part) (ys : List Name) (xs : List b.Part) (zs : List w.Part) → length xs ≡ suc (length ys) → Agrees (a ∷ xs) zs → (ts : List Token) (ps : List Piece) → Same ts ps → Same (spell_locals (b.locals_of x a ys xs) ts) (w.definition_pieces (x ∷ ys) zs ps)
locals_same x a [] xs (z ∷ zs) n g ts ps s = cons (tk.word x.word) (cons (tk.mark tk.defines) (g.0 false ts ps s))
locals_same x a (y ∷ ys) (c ∷ xs) (z ∷ zs) n g ts ps s = cons (tk.word x.word) (cons (tk.mark tk.defines) (g.0 false _ _ (locals_same y c ys xs zs (omega (arith, n)) g.1 ts ps s)))
locals_same x a [] xs [] n g ts ps s = absurd g
locals_same x a (y ∷ ys) [] zs n g ts ps s = absurd (omega (arith, n))
locals_same x a (y ∷ ys) (c ∷ xs) [] n g ts ps s = absurd g

body_same : {A : Type 0} (ys : List A) (xs : List b.Part) (zs : List w.Part) → length xs ≡ suc (length ys) → Agrees xs zs → Agree (b.body ys xs) (w.body ys zs)
body_same [] (a ∷ xs) (z ∷ zs) n g = g.0
body_same (y ∷ ys) (a ∷ xs) (z ∷ zs) n g = body_same ys xs zs (omega (arith, n)) g.1
body_same [] [] zs n g = absurd (omega (arith, n))
body_same (y ∷ ys) [] zs n g = absurd (omega (arith, n))
body_same [] (a ∷ xs) [] n g = absurd g
body_same (y ∷ ys) (a ∷ xs) [] n g = absurd g

bound_same : (o : Binder) (gs : List (List Name)) (xs : List b.Part) (zs : List w.Part) → BinderShaped o gs (length xs) → Agrees xs zs → (ts : List Token) (ps : List Piece) → Same ts ps → Same (spell (b.bound_phrase o gs xs) ts) (w.binding_pieces o gs zs ps)
bound_same binder.ForAll ((x ∷ ys) ∷ gs) (a ∷ xs) (z ∷ zs) h g ts ps s = cons (tk.key tk.for_all_key) (binds_same x ys a gs xs (z ∷ zs) h.0 (omega (arith, h.1)) g _ _ (cons (tk.mark tk.colon) (body_same gs xs zs (omega (arith, h.1)) g.1 false ts ps s)))
bound_same binder.Exists ((x ∷ ys) ∷ gs) (a ∷ xs) (z ∷ zs) h g ts ps s = cons (tk.key tk.exists_key) (binds_same x ys a gs xs (z ∷ zs) h.0 (omega (arith, h.1)) g _ _ (cons (tk.mark tk.colon) (body_same gs xs zs (omega (arith, h.1)) g.1 false ts ps s)))
bound_same binder.Image ((x ∷ ys) ∷ gs) (a ∷ xs) (z ∷ zs) h g ts ps s = cons (tk.mark tk.open_brace) (body_same gs xs zs (omega (arith, h.1)) g.1 true _ _ (cons (tk.mark tk.colon) (binds_same x ys a gs xs (z ∷ zs) h.0 (omega (arith, h.1)) g _ _ (cons (tk.mark tk.close_brace) s))))
bound_same binder.Function ((x ∷ ys) ∷ gs) (a ∷ xs) (z ∷ zs) h g ts ps s = cons (tk.mark tk.open_square) (binds_same x ys a gs xs (z ∷ zs) h.0 (omega (arith, h.1)) g _ _ (cons (tk.mark tk.maps) (body_same gs xs zs (omega (arith, h.1)) g.1 false _ _ (cons (tk.mark tk.close_square) s))))
bound_same binder.Filter ((x ∷ []) ∷ []) (a ∷ c ∷ xs) (z ∷ v ∷ zs) h g ts ps s = cons (tk.mark tk.open_brace) (cons (tk.word x.word) (cons (tk.sign op.In) (g.0 true _ _ (cons (tk.mark tk.colon) (g.1.0 false _ _ (cons (tk.mark tk.close_brace) s))))))
bound_same binder.ForAll [] xs zs h g ts ps s = absurd h.0
bound_same binder.ForAll ([] ∷ []) xs zs h g ts ps s = absurd (omega (arith, h.0))
bound_same binder.ForAll ([] ∷ k ∷ gs) xs zs h g ts ps s = absurd (omega (arith, h.0.0))
bound_same binder.ForAll ((x ∷ ys) ∷ gs) [] zs h g ts ps s = absurd (omega (arith, h.1))
bound_same binder.ForAll ((x ∷ ys) ∷ gs) (a ∷ xs) [] h g ts ps s = absurd g
bound_same binder.Exists [] xs zs h g ts ps s = absurd h.0
bound_same binder.Exists ([] ∷ []) xs zs h g ts ps s = absurd (omega (arith, h.0))
bound_same binder.Exists ([] ∷ k ∷ gs) xs zs h g ts ps s = absurd (omega (arith, h.0.0))
bound_same binder.Exists ((x ∷ ys) ∷ gs) [] zs h g ts ps s = absurd (omega (arith, h.1))
bound_same binder.Exists ((x ∷ ys) ∷ gs) (a ∷ xs) [] h g ts ps s = absurd g
bound_same binder.Image [] xs zs h g ts ps s = absurd h.0
bound_same binder.Image ([] ∷ []) xs zs h g ts ps s = absurd (omega (arith, h.0))
bound_same binder.Image ([] ∷ k ∷ gs) xs zs h g ts ps s = absurd (omega (arith, h.0.0))
bound_same binder.Image ((x ∷ ys) ∷ gs) [] zs h g ts ps s = absurd (omega (arith, h.1))
bound_same binder.Image ((x ∷ ys) ∷ gs) (a ∷ xs) [] h g ts ps s = absurd g
bound_same binder.Function [] xs zs h g ts ps s = absurd h.0
bound_same binder.Function ([] ∷ []) xs zs h g ts ps s = absurd (omega (arith, h.0))
bound_same binder.Function ([] ∷ k ∷ gs) xs zs h g ts ps s = absurd (omega (arith, h.0.0))
bound_same binder.Function ((x ∷ ys) ∷ gs) [] zs h g ts ps s = absurd (omega (arith, h.1))
bound_same binder.Function ((x ∷ ys) ∷ gs) (a ∷ xs) [] h g ts ps s = absurd g
bound_same binder.Filter [] xs zs h g ts ps s = absurd h.0
bound_same binder.Filter ([] ∷ gs) xs zs h g ts ps s = absurd h.0
bound_same binder.Filter ((x ∷ []) ∷ k ∷ gs) xs zs h g ts ps s = absurd h.0
bound_same binder.Filter ((x ∷ y ∷ ys) ∷ gs) xs zs h g ts ps s = absurd h.0
bound_same binder.Filter ((x ∷ []) ∷ []) [] zs h g ts ps s = absurd (omega (arith, h.1))
bound_same binder.Filter ((x ∷ []) ∷ []) (a ∷ []) zs h g ts ps s = absurd (omega (arith, h.1))
bound_same binder.Filter ((x ∷ []) ∷ []) (a ∷ c ∷ xs) [] h g ts ps s = absurd g
bound_same binder.Filter ((x ∷ []) ∷ []) (a ∷ c ∷ xs) (z ∷ []) h g ts ps s = absurd g.1

-- ---- EXCEPT
-- a path, and the parts after its subscripts
record PathSame (ss : List PathStep) (xs : List b.Part) (zs : List w.Part) (n : ℕ) : Type 0 where
  path : Path
  left : List b.Part
  right : List w.Part
  gives : (k : Path → List b.Part → Phrase) → b.path_of ss xs k ≡ k path left
  agree : Agrees left right
  long : length left ≡ n
  tokens : (rest : List w.Part → List Piece) (ts : List Token) → Same ts (rest right) → Same (spell_path path ts) (w.path_pieces ss zs rest)

path_same : (ss : List PathStep) (xs : List b.Part) (zs : List w.Part) (n : ℕ) → length xs ≡ subscripts ss + n → Agrees xs zs → PathSame ss xs zs n
path_same [] xs zs n h g = record { path = spelled.path_end; left = xs; right = zs; gives = λ k. refl; agree = g; long = omega (arith, h); tokens = λ rest ts s. s }
path_same (tree.index ∷ ss) (a ∷ xs) (z ∷ zs) n h g =
    let v = path_same ss xs zs n (omega (arith, h)) g.1 in
    record { path = spelled.index b.nowhere (spelled.last (a false)) b.nowhere v.path; left = v.left; right = v.right; gives = λ k. v.gives _; agree = v.agree; long = v.long; tokens = λ rest ts s. cons (tk.mark tk.open_square) (g.0 false _ _ (cons (tk.mark tk.close_square) (v.tokens rest ts s))) }
path_same (tree.field x ∷ ss) xs zs n h g =
    let v = path_same ss xs zs n h g in
    record { path = spelled.at_field b.nowhere (b.field_of x) v.path; left = v.left; right = v.right; gives = λ k. v.gives _; agree = v.agree; long = v.long; tokens = λ rest ts s. cons (tk.mark tk.dot) (cons _ (v.tokens rest ts s)) }
path_same (tree.index ∷ ss) [] zs n h g = absurd (omega (arith, h))
path_same (tree.index ∷ ss) (a ∷ xs) [] n h g = absurd g

record SettingsSame (t : Slot) (ss : List Slot) (xs : List b.Part) (zs : List w.Part) : Type 0 where
  made : Settings
  gives : (k : Settings → Phrase) → b.slots_of t ss xs k ≡ k made
  tokens : (ts : List Token) (ps : List Piece) → Same ts ps → Same (spell_settings made ts) (w.slot_pieces (t ∷ ss) zs ps)

one_setting : (t : Slot) (xs : List b.Part) (zs : List w.Part) → PathSame t.path xs zs 1 → SettingsSame t [] xs zs
one_setting t xs zs v = at v.left v.right v.agree v.long v.gives v.tokens
  where
    at : (left : List b.Part) (right : List w.Part) → Agrees left right → length left ≡ 1 → ((k : Path → List b.Part → Phrase) → b.path_of t.path xs k ≡ k v.path left)
        → ((rest : List w.Part → List Piece) (ts : List Token) → Same ts (rest right) → Same (spell_path v.path ts) (w.path_pieces t.path zs rest)) → SettingsSame t [] xs zs
    at (a ∷ rs) (z ∷ us) g n i h = record { made = spelled.last_setting b.nowhere v.path b.nowhere (a false); gives = λ k. i _; tokens = λ ts ps s. cons (tk.mark tk.bang) (h _ _ (cons (tk.sign op.Equal) (g.0 false ts ps s))) }
    at [] us g n i h = absurd (omega (arith, n))
    at (a ∷ rs) [] g n i h = absurd g

more_settings : (t u : Slot) (ss : List Slot) (xs : List b.Part) (zs : List w.Part) (n : ℕ) → PathSame t.path xs zs (suc n) → ((left : List b.Part) (right : List w.Part) → length left ≡ n → Agrees left right → SettingsSame u ss left right) → SettingsSame t (u ∷ ss) xs zs
more_settings t u ss xs zs n v more = at v.left v.right v.agree v.long v.gives v.tokens
  where
    at : (left : List b.Part) (right : List w.Part) → Agrees left right → length left ≡ suc n → ((k : Path → List b.Part → Phrase) → b.path_of t.path xs k ≡ k v.path left)
        → ((rest : List w.Part → List Piece) (ts : List Token) → Same ts (rest right) → Same (spell_path v.path ts) (w.path_pieces t.path zs rest)) → SettingsSame t (u ∷ ss) xs zs
    at (a ∷ rs) (z ∷ us) g l i h =
        let r = more rs us (omega (arith, l)) g.1 in
        record { made = spelled.setting b.nowhere v.path b.nowhere (a false) b.nowhere r.made; gives = λ k. i _ ∙ r.gives _; tokens = λ ts ps s. cons (tk.mark tk.bang) (h _ _ (cons (tk.sign op.Equal) (g.0 false _ _ (cons (tk.mark tk.comma) (r.tokens ts ps s))))) }
    at [] us g l i h = absurd (omega (arith, l))
    at (a ∷ rs) [] g l i h = absurd g

settings_same : (t : Slot) (ss : List Slot) (xs : List b.Part) (zs : List w.Part) → length xs ≡ settings (t ∷ ss) → Agrees xs zs → SettingsSame t ss xs zs
settings_same t [] xs zs n g = one_setting t xs zs (path_same t.path xs zs 1 (omega (arith, n)) g)
settings_same t (u ∷ ss) xs zs n g = more_settings t u ss xs zs (settings (u ∷ ss)) (path_same t.path xs zs (suc (settings (u ∷ ss))) (omega (arith, n)) g) (λ left right m i. settings_same u ss left right m i)

except_same : (ss : List Slot) (xs : List b.Part) (zs : List w.Part) → HavePaths ss → length xs ≡ suc (settings ss) → Agrees xs zs → (ts : List Token) (ps : List Piece) → Same ts ps → Same (spell (b.except_phrase ss xs) ts) (w.except_pieces ss zs ps)
except_same (t ∷ ss) (a ∷ xs) (z ∷ zs) h n g ts ps s =
    let v = settings_same t ss xs zs (omega (arith, n)) g.1 in
    ap (λ (x : Phrase). kinds (spell x ts)) (v.gives _) ∙ cons (tk.mark tk.open_square) (g.0 true _ _ (cons (tk.key tk.except_key) (v.tokens _ _ (cons (tk.mark tk.close_square) s))))
except_same [] xs zs h n g ts ps s = absurd h
except_same (t ∷ ss) [] zs h n g ts ps s = absurd (omega (arith, n))
except_same (t ∷ ss) (a ∷ xs) [] h n g ts ps s = absurd g

-- ---- CASE
record ArmsSame (o : Bool) (xs : List b.Part) (zs : List w.Part) : Type 0 where
  made : Arms
  gives : (k : Arms → Phrase) → b.arms_of o xs k ≡ k made
  tokens : (ts : List Token) (ps : List Piece) → Same ts ps → Same (spell_arms made ts) (w.arm_pieces o zs ps)

arms_same : (o : Bool) (xs : List b.Part) (zs : List w.Part) → CaseShaped o (length xs) → Agrees xs zs → ArmsSame o xs zs
arms_same false (c ∷ a ∷ []) (z ∷ y ∷ []) h g = record { made = spelled.last_arm (c true) b.nowhere (a true); gives = λ k. refl; tokens = λ ts ps s. g.0 true _ _ (cons (tk.mark tk.arrow) (g.1.0 true ts ps s)) }
arms_same true (c ∷ a ∷ d ∷ []) (z ∷ y ∷ x ∷ []) h g = record { made = spelled.other_arm (c true) b.nowhere (a true) b.nowhere b.nowhere b.nowhere (d true); gives = λ k. refl; tokens = λ ts ps s. g.0 true _ _ (cons (tk.mark tk.arrow) (g.1.0 true _ _ (cons (tk.mark tk.box) (cons (tk.key tk.other_key) (cons (tk.mark tk.arrow) (g.1.1.0 true ts ps s)))))) }
arms_same true (c ∷ a ∷ d ∷ e ∷ xs) (z ∷ y ∷ x ∷ v ∷ zs) h g =
    let r = arms_same true (d ∷ e ∷ xs) (x ∷ v ∷ zs) (fewer_true (length xs) h) g.1.1 in
    record { made = spelled.arm (c true) b.nowhere (a true) b.nowhere r.made; gives = λ k. r.gives _; tokens = λ ts ps s. g.0 true _ _ (cons (tk.mark tk.arrow) (g.1.0 true _ _ (cons (tk.mark tk.box) (r.tokens ts ps s)))) }
  where
    fewer_true : (n : ℕ) → CaseShaped true (suc (suc (suc (suc n)))) → CaseShaped true (suc (suc n))
    fewer_true n h = h
arms_same false (c ∷ a ∷ d ∷ xs) (z ∷ y ∷ x ∷ zs) h g =
    let r = arms_same false (d ∷ xs) (x ∷ zs) h g.1.1 in
    record { made = spelled.arm (c true) b.nowhere (a true) b.nowhere r.made; gives = λ k. r.gives _; tokens = λ ts ps s. g.0 true _ _ (cons (tk.mark tk.arrow) (g.1.0 true _ _ (cons (tk.mark tk.box) (r.tokens ts ps s)))) }
arms_same false [] zs h g = absurd h
arms_same false (c ∷ []) zs h g = absurd h
arms_same false (c ∷ a ∷ xs) [] h g = absurd g
arms_same false (c ∷ a ∷ xs) (z ∷ []) h g = absurd g.1
arms_same false (c ∷ a ∷ []) (z ∷ y ∷ x ∷ zs) h g = absurd g.1.1
arms_same false (c ∷ a ∷ d ∷ xs) (z ∷ y ∷ []) h g = absurd g.1.1
arms_same true [] zs h g = absurd h
arms_same true (c ∷ []) zs h g = absurd h
arms_same true (c ∷ a ∷ []) zs h g = absurd h
arms_same true (c ∷ a ∷ d ∷ xs) [] h g = absurd g
arms_same true (c ∷ a ∷ d ∷ xs) (z ∷ []) h g = absurd g.1
arms_same true (c ∷ a ∷ d ∷ xs) (z ∷ y ∷ []) h g = absurd g.1.1
arms_same true (c ∷ a ∷ d ∷ []) (z ∷ y ∷ x ∷ v ∷ zs) h g = absurd g.1.1.1
arms_same true (c ∷ a ∷ d ∷ e ∷ xs) (z ∷ y ∷ x ∷ []) h g = absurd g.1.1.1

-- ---- all forms
choice_same : (xs : List b.Part) (zs : List w.Part) → length xs ≡ 3 → Agrees xs zs → (ts : List Token) (ps : List Piece) → Same ts ps → Same (spell (b.choice_phrase xs) ts) (w.choice_pieces zs ps)
choice_same (a ∷ c ∷ d ∷ []) (z ∷ y ∷ x ∷ []) n g ts ps s = cons (tk.key tk.if_key) (g.0 false _ _ (cons (tk.key tk.then_key) (g.1.0 false _ _ (cons (tk.key tk.else_key) (g.1.1.0 false ts ps s)))))
choice_same [] zs n g ts ps s = absurd (omega (arith, n))
choice_same (a ∷ []) zs n g ts ps s = absurd (omega (arith, n))
choice_same (a ∷ c ∷ []) zs n g ts ps s = absurd (omega (arith, n))
choice_same (a ∷ c ∷ d ∷ e ∷ xs) zs n g ts ps s = absurd (omega (arith, n))
choice_same (a ∷ c ∷ d ∷ []) [] n g ts ps s = absurd g
choice_same (a ∷ c ∷ d ∷ []) (z ∷ []) n g ts ps s = absurd g.1
choice_same (a ∷ c ∷ d ∷ []) (z ∷ y ∷ []) n g ts ps s = absurd g.1.1
choice_same (a ∷ c ∷ d ∷ []) (z ∷ y ∷ x ∷ v ∷ zs) n g ts ps s = absurd g.1.1.1

-- two parts, or one
abbrev Two : (List b.Part → Phrase) → (List w.Part → List Piece → List Piece) → Type 0
Two f h = (a c : b.Part) (z y : w.Part) → Agree a z → Agree c y → (ts : List Token) (ps : List Piece) → Same ts ps → Same (spell (f (a ∷ c ∷ [])) ts) (h (z ∷ y ∷ []) ps)

two_same : (f : List b.Part → Phrase) (h : List w.Part → List Piece → List Piece) → Two f h → (xs : List b.Part) (zs : List w.Part) → length xs ≡ 2 → Agrees xs zs → (ts : List Token) (ps : List Piece) → Same ts ps → Same (spell (f xs) ts) (h zs ps)
two_same f h t (a ∷ c ∷ []) (z ∷ y ∷ []) n g ts ps s = t a c z y g.0 g.1.0 ts ps s
two_same f h t [] zs n g ts ps s = absurd (omega (arith, n))
two_same f h t (a ∷ []) zs n g ts ps s = absurd (omega (arith, n))
two_same f h t (a ∷ c ∷ d ∷ xs) zs n g ts ps s = absurd (omega (arith, n))
two_same f h t (a ∷ c ∷ []) [] n g ts ps s = absurd g
two_same f h t (a ∷ c ∷ []) (z ∷ []) n g ts ps s = absurd g.1
two_same f h t (a ∷ c ∷ []) (z ∷ y ∷ x ∷ zs) n g ts ps s = absurd g.1.1

strict_same : (m : Strict) (xs : List b.Part) (zs : List w.Part) → StrictShaped m (length xs) → Agrees xs zs → (ts : List Token) (ps : List Piece) → Same ts ps → Same (spell (b.strict_phrase m xs) ts) (w.strict_pieces m zs ps)
strict_same (tree.operator o) xs zs h g ts ps s = infix_same o xs zs h.1 g ts ps s
strict_same tree.set_of [] [] h g ts ps s = cons (tk.mark tk.open_brace) (cons (tk.mark tk.close_brace) s)
strict_same tree.set_of [] (z ∷ zs) h g ts ps s = absurd g
strict_same tree.set_of (a ∷ xs) zs h g ts ps s = cons (tk.mark tk.open_brace) (listed_same a xs zs g _ _ (cons (tk.mark tk.close_brace) s))
strict_same tree.tuple [] [] h g ts ps s = cons (tk.mark tk.open_tuple) (cons (tk.mark tk.close_tuple) s)
strict_same tree.tuple [] (z ∷ zs) h g ts ps s = absurd g
strict_same tree.tuple (a ∷ xs) zs h g ts ps s = cons (tk.mark tk.open_tuple) (listed_same a xs zs g _ _ (cons (tk.mark tk.close_tuple) s))
strict_same (tree.fields ys) xs zs h g ts ps s = record_same tk.maps (w.spaced (tk.mark tk.maps)) (λ qs. refl) ys xs zs h.0 h.1 g (λ fs. spelled.fields b.nowhere fs b.nowhere) ts ps (λ fs. refl) s
strict_same (tree.records ys) xs zs h g ts ps s = record_same tk.colon w.colon (λ qs. refl) ys xs zs h.0 h.1 g (λ fs. spelled.records b.nowhere fs b.nowhere) ts ps (λ fs. refl) s
strict_same tree.functions xs zs h g ts ps s = two_same (b.strict_phrase tree.functions) (w.strict_pieces tree.functions) (λ a c z y i j ts ps s. cons (tk.mark tk.open_square) (i false _ _ (cons (tk.mark tk.arrow) (j false _ _ (cons (tk.mark tk.close_square) s))))) xs zs h g ts ps s
strict_same tree.apply xs zs h g ts ps s = two_same (b.strict_phrase tree.apply) (w.strict_pieces tree.apply) (λ a c z y i j ts ps s. i true _ _ (cons (tk.mark tk.open_square) (j false _ _ (cons (tk.mark tk.close_square) s)))) xs zs h g ts ps s
strict_same (tree.select x) (a ∷ []) (z ∷ []) h g ts ps s = g.0 true _ _ (cons (tk.mark tk.dot) (cons _ s))
strict_same (tree.select x) [] zs h g ts ps s = absurd (omega (arith, h))
strict_same (tree.select x) (a ∷ c ∷ xs) zs h g ts ps s = absurd (omega (arith, h))
strict_same (tree.select x) (a ∷ []) [] h g ts ps s = absurd g
strict_same (tree.select x) (a ∷ []) (z ∷ y ∷ zs) h g ts ps s = absurd g.1
strict_same (tree.except ss) xs zs h g ts ps s = except_same ss xs zs h.0 h.1 g ts ps s

call_same : (x : Word) (xs : List b.Part) (zs : List w.Part) → 1 ≤ length xs → Agrees xs zs → (ts : List Token) (ps : List Piece) → Same ts ps → Same (spell (b.call_phrase x xs) ts) (w.form_pieces (tree.operator_call x) zs ps)
call_same x (a ∷ xs) zs h g ts ps s = cons (tk.word x) (cons (tk.mark tk.open_bracket) (listed_same a xs zs g _ _ (cons (tk.mark tk.close_bracket) s)))
call_same x [] zs h g ts ps s = absurd (omega (arith, h))

local_same : (ys : List Name) (xs : List b.Part) (zs : List w.Part) → 1 ≤ length ys → length xs ≡ suc (length ys) → Agrees xs zs → (ts : List Token) (ps : List Piece) → Same ts ps → Same (spell (b.local_phrase ys xs) ts) (w.local_pieces ys zs ps)
local_same (y ∷ ys) (a ∷ xs) (z ∷ zs) o n g ts ps s = cons (tk.key tk.let_key) (locals_same y a ys xs (z ∷ zs) (omega (arith, n)) g _ _ (cons (tk.key tk.in_key) (body_same ys xs zs (omega (arith, n)) g.1 false ts ps s)))
local_same [] xs zs o n g ts ps s = absurd (omega (arith, o))
local_same (y ∷ ys) [] zs o n g ts ps s = absurd (omega (arith, n))
local_same (y ∷ ys) (a ∷ xs) [] o n g ts ps s = absurd g

form_same : (m : Form) (xs : List b.Part) (zs : List w.Part) → Shaped m (length xs) → Agrees xs zs → (ts : List Token) (ps : List Piece) → Same ts ps → Same (spell (b.form_phrase m xs) ts) (w.form_pieces m zs ps)
form_same (tree.number n) xs zs h g ts ps s = cons (tk.number n) s
form_same (tree.string x) xs zs h g ts ps s = cons (tk.string x) s
form_same (tree.truth o) xs zs h g ts ps s = cons (tk.constant (tk.truth o)) s
form_same tree.booleans xs zs h g ts ps s = cons (tk.constant tk.booleans) s
form_same tree.strings xs zs h g ts ps s = cons (tk.constant tk.strings) s
form_same (tree.name x) xs zs h g ts ps s = cons (tk.word x) s
form_same (tree.next x) xs zs h g ts ps s = cons (tk.word x) (cons (tk.mark tk.prime) s)
form_same (tree.strict m) xs zs h g ts ps s = strict_same m xs zs h g ts ps s
form_same (tree.operator_call x) xs zs h g ts ps s = call_same x xs zs h g ts ps s
form_same tree.conjunction xs zs h g ts ps s = infix_same op.And xs zs h g ts ps s
form_same tree.disjunction xs zs h g ts ps s = infix_same op.Or xs zs h g ts ps s
form_same tree.implication xs zs h g ts ps s = infix_same op.Implies xs zs h g ts ps s
form_same (tree.member true) xs zs h g ts ps s = infix_same op.In xs zs h g ts ps s
form_same (tree.member false) xs zs h g ts ps s = infix_same op.NotIn xs zs h g ts ps s
form_same tree.if_then_else xs zs h g ts ps s = choice_same xs zs h g ts ps s
form_same (tree.cases o) xs zs h g ts ps s = (let v = arms_same o xs zs h g in ap (λ (x : Phrase). kinds (spell x ts)) (v.gives _) ∙ cons (tk.key tk.case_key) (v.tokens ts ps s))
form_same (tree.binding o gs) xs zs h g ts ps s = bound_same o gs xs zs h g ts ps s
form_same (tree.local ys) xs zs h g ts ps s = local_same ys xs zs h.0 h.1 g ts ps s

part_same : (m : Form) (xs : List b.Part) (zs : List w.Part) → Shaped m (length xs) → Agrees xs zs → Agree (b.form_part m xs) (w.form_part m zs)
part_same m xs zs h g false ts ps s = form_same m xs zs h g ts ps s
part_same m xs zs h g true ts ps s = by (w.is_bracketed m)
  where
    by : (o : Bool) → Same (spell (b.in_brackets o (b.form_phrase m xs)) ts) (w.bracketed o (w.form_pieces m zs) ps)
    by true = cons (tk.mark tk.open_bracket) (form_same m xs zs h g _ _ (cons (tk.mark tk.close_bracket) s))
    by false = form_same m xs zs h g ts ps s

pub counted : (ts : Trees) → count ts ≡ length (b.parts ts)
counted no_trees = refl
counted (tree t ts) = omega (arith, counted ts)

mutual
  tree_same : (t : Tree) → IsWritable t → Agree (b.part t) (w.part t)
  tree_same (node m at ts) v = part_same m (b.parts ts) (w.parts ts) (subst (λ (n : ℕ). Shaped m n) (counted ts) v.0) (trees_same ts v.4)

  trees_same : (ts : Trees) → AreWritable ts → Agrees (b.parts ts) (w.parts ts)
  trees_same no_trees v = tt
  trees_same (tree t ts) v = (tree_same t v.0, trees_same ts v.1)

pub written_phrase : (t : Tree) → IsWritable t → kinds (spell (b.phrase_of t) []) ≡ tokens_of (w.pieces t)
written_phrase t v = tree_same t v false [] [] refl

pub written_part : (t : Tree) → IsWritable t → (o : Bool) → kinds (spell (b.part t o) []) ≡ tokens_of (w.part t o [])
written_part t v o = tree_same t v o [] [] refl
