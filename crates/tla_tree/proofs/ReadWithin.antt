-- What is read within the limit is spelled, and fits.
use Rattle.std.proofs.Common.{◌≡◌, ℕ, ◌+◌, Bool, true, false, List, ◌∷◌, Some, Ok}
use Rattle.tla_token.specs.declared.place.Place.{Place}
use Rattle.tla_tree.specs.declared.op.Op.{Op}
use Rattle.tla_tree.specs.Tree.{Word}
use Rattle.tla_tree.specs.Rank.{is_bullet}
use Rattle.tla_tree.specs.Lexical.{Mark, TokenView, Token, token}
use Rattle.tla_tree.specs.Spelling.{Field, Phrase, Phrases, Binds, Fields, Settings, Path, Bullets, Arms, Locals}
use Rattle.tla_tree.specs.Spelling.{mark, sign, word, field_token, spell, spell_all, spell_binds, spell_fields, spell_settings, spell_path, spell_bullets, spell_arms, spell_locals, Right, Good, GoodAll, GoodBinds, GoodFields, GoodSettings, GoodPath, GoodBullets, GoodArms, GoodLocals, head, is_primary, first_bullet}
use Rattle.tla_tree.specs.Lexical as tk
use Rattle.tla_tree.specs.declared.op.Op.TheVariants as op
use Rattle.tla_tree.specs.Nesting.{counts, counts_all, counts_binds, counts_fields, counts_settings, counts_path, counts_bullets, counts_arms, counts_locals}
use Rattle.tla_tree.specs.Reader.{Room, next, bullet_of, Context, behind, fits, is_behind_in, Readers, named, from_name, braces, tuples, squares, bind_rest, operand}
use Rattle.tla_tree.proofs.SpellAhead.{held}
use Rattle.tla_tree.proofs.DeepCounts.{Fit}
use Rattle.tla_tree.proofs.SoundPhrases.{Sound, named_sound, from_name_sound}
use Rattle.tla_tree.proofs.SoundBraces.{braces_sound, tuples_sound, squares_sound, bind_rest_sound}
use Rattle.tla_tree.proofs.SoundForms.{operand_sound}
use Rattle.tla_tree.proofs.Limited.{told_ok}
use Rattle.tla_tree.proofs.Limited as within
use Rattle.tla_tree.proofs.LimitedRooms.{Alive, AreLimited, IsRoom}
use Rattle.tla_tree.proofs.LimitedBraces.{limited_named, limited_from, limited_tuples, limited_bind_rest}
use Rattle.tla_tree.proofs.LimitedMembers.{limited_braces, limited_squares}
use Rattle.tla_tree.proofs.LimitedForms.{limited_operand}

-- where there is a limit, its counts fit where those do that come after it
abbrev pub Small : {A : Type 0} → Bool → ℕ → (A → List ℕ → List ℕ) → A → Type 0
Small lim most y a = within.Fitting lim most (y a)

pub id_small : (lim : Bool) (most : ℕ) → within.Fitting lim most (λ u. u)
id_small lim most = λ z u i. i

pub record Read (lim : Bool) (most base : ℕ) (r : Readers) : Type 0 where
  pub expr : (e : ℕ) (c : Context) → is_behind_in c ≡ false → (ts : List Token) (a : Phrase) (us : List Token) → r.expr e c ts ≡ Ok (a, us) → Good e a × (fits c a ≡ true) × (spell a us ≡ ts) × Small lim most (counts base) a
  pub set : (e : ℕ) (p : Place) (x : Word) (q : Place) (ts : List Token) (a : Phrase) (us : List Token) → r.expr e (behind p x q) ts ≡ Ok (a, us) → Good e a × (spell a us ≡ ts) × Alive true lim most base p x q a
  pub postfix : (e : ℕ) (b : Phrase) → Good e b → is_primary (head b) ≡ true → Small lim most (counts base) b → (ts : List Token) (a : Phrase) (us : List Token) → r.postfix e b ts ≡ Ok (a, us) → Good e a × (is_primary (head a) ≡ true) × (spell a us ≡ spell b ts) × Small lim most (counts base) a
  pub climb : (e : ℕ) (c : Context) → is_behind_in c ≡ false → (b : Phrase) → Good e b → fits c b ≡ true → Small lim most (counts base) b → (ts : List Token) (a : Phrase) (us : List Token) → r.climb e c b ts ≡ Ok (a, us) → Good e a × (fits c a ≡ true) × (spell a us ≡ spell b ts) × Small lim most (counts base) a
  pub phrases : (e : ℕ) (ts : List Token) (xs : Phrases) (us : List Token) → r.phrases e ts ≡ Ok (xs, us) → GoodAll e xs × (spell_all xs us ≡ ts) × Small lim most (counts_all base) xs
  pub binds : (e : ℕ) (p : Place) (x : Word) → Right e p → (ts : List Token) (bs : Binds) (us : List Token) → r.binds e p x ts ≡ Ok (bs, us) → GoodBinds e bs × (spell_binds bs us ≡ word p x ts) × Small lim most (counts_binds base) bs
  pub fields : (e : ℕ) (m : Mark) (f : Field) → Right e f.place → (ts : List Token) (fs : Fields) (us : List Token) → r.fields e m f ts ≡ Ok (fs, us) → GoodFields e fs × (spell_fields m fs us ≡ field_token f ts) × Small lim most (counts_fields base) fs
  pub settings : (e : ℕ) (ts : List Token) (ss : Settings) (us : List Token) → r.settings e ts ≡ Ok (ss, us) → GoodSettings e ss × (spell_settings ss us ≡ ts) × Small lim most (counts_settings base) ss
  pub path : (e : ℕ) (ts : List Token) (path : Path) (us : List Token) → r.path e ts ≡ Ok (path, us) → GoodPath e path × (spell_path path us ≡ ts) × Small lim most (counts_path base) path
  pub bullets : (e : ℕ) (o : Op) (c : ℕ) → is_bullet o ≡ true → (ts : List Token) (p : Place) → bullet_of o c (next e ts).place (next e ts).kind ≡ Some p → (bs : Bullets) (us : List Token) → r.bullets e o c ts ≡ Ok (bs, us) → GoodBullets c bs × Right e (first_bullet bs) × (spell_bullets o bs us ≡ ts) × Small lim most (counts_bullets base) bs
  pub arms : (e : ℕ) (ts : List Token) (xs : Arms) (us : List Token) → r.arms e ts ≡ Ok (xs, us) → GoodArms e xs × (spell_arms xs us ≡ ts) × Small lim most (counts_arms base) xs
  pub locals : (e : ℕ) (ts : List Token) (ls : Locals) (us : List Token) → r.locals e ts ≡ Ok (ls, us) → GoodLocals e ls × (spell_locals ls us ≡ ts) × Small lim most (counts_locals base) ls

module _ (lim : Bool) (most base : ℕ) (r q : Readers) (s : Sound q) (h : AreLimited true lim most base r q) where
  one : lim ≡ true → (u : List ℕ) → Fit most u → Fit most (base ∷ u)
  one = λ z u i. (h.low z, i)

  pub are_read : Read lim most base r
  are_read = record {
    expr = λ e c n ts a us o. (let t = told_ok (h.expr e c n (λ u. u) held ts) o in let w = s.expr e c ts a us t.0 in (w.0, w.1, w.2, t.1 (id_small lim most)));
    set = λ e p x j ts a us o. (let t = told_ok (h.set e p x j (λ u. u) held ts) o in let w = s.expr e (behind p x j) ts a us t.0 in (w.0, w.2, (t.1 (id_small lim most)).1));
    postfix = λ e b g f small ts a us o. (let t = told_ok (h.postfix e b (λ u. u) held ts) o in let w = s.postfix e b g f ts a us t.0 in (w.0, w.1, w.2, t.1 small));
    climb = λ e c n b g f small ts a us o. (let t = told_ok (h.climb e c n b (λ u. u) held ts) o in let w = s.climb e c b g f ts a us t.0 in (w.0, w.1, w.2, t.1 small));
    phrases = λ e ts a us o. (let t = told_ok (h.phrases e (λ u. u) held ts) o in let w = s.phrases e ts a us t.0 in (w.0, w.1, t.1 (id_small lim most)));
    binds = λ e p x g ts a us o. (let t = told_ok (h.binds e p x (λ u. u) held ts) o in let w = s.binds e p x g ts a us t.0 in (w.0, w.1, t.1 one));
    fields = λ e m f g ts a us o. (let t = told_ok (h.fields e m f (λ u. u) held ts) o in let w = s.fields e m f g ts a us t.0 in (w.0, w.1, t.1 one));
    settings = λ e ts a us o. (let t = told_ok (h.settings e (λ u. u) held ts) o in let w = s.settings e ts a us t.0 in (w.0, w.1, t.1 (id_small lim most)));
    path = λ e ts a us o. (let t = told_ok (h.path e (λ u. u) held ts) o in let w = s.path e ts a us t.0 in (w.0, w.1, t.1 (id_small lim most)));
    bullets = λ e p c b ts at i a us o. (let t = told_ok (h.bullets e p c (λ u. u) held ts at i) o in let w = s.bullets e p c b ts a us t.0 in (w.0, w.1, w.2, t.1 (id_small lim most)));
    arms = λ e ts a us o. (let t = told_ok (h.arms e (λ u. u) held ts) o in let w = s.arms e ts a us t.0 in (w.0, w.1, t.1 (id_small lim most)));
    locals = λ e ts a us o. (let t = told_ok (h.locals e (λ u. u) held ts) o in let w = s.locals e ts a us t.0 in (w.0, w.1, t.1 (id_small lim most)));
  }

  pub bind_rest_read : (e : ℕ) (p : Place) (x : Word) (t : Place) → Right e p → Right e t → (b : Phrase) → Good e b → Small lim most (counts base) b → (j : Place) (k : TokenView) (ts : List Token) (bs : Binds) (us : List Token) → next e ts ≡ token j k → bind_rest r e p x t b j k ts ≡ Ok (bs, us)
      → GoodBinds e bs × (spell_binds bs us ≡ word p x (sign t op.In (spell b ts))) × Small lim most (counts_binds base) bs
  bind_rest_read e p x t gp gt b gb small j k ts bs us i o =
      let w = told_ok (limited_bind_rest true lim most base r q h (λ u. u) held e p x t b j k ts i) o in
      let v = bind_rest_sound q s e p x t gp gt b gb j k ts bs us i w.0 in
      (v.0, v.1, w.1 (λ z u i. (h.low z, (h.low z, small z u i))))

module _ (lim : Bool) (most base : ℕ) (m : Room) (r q : Readers) (s : Sound q) (h : AreLimited true lim most base r q) (v : IsRoom true lim most base m q) where
  low : lim ≡ true → (u : List ℕ) → Fit most u → Fit most (base ∷ u)
  low = λ z u i. (h.low z, i)

  pub named_read : (e : ℕ) (p : Place) (x : Word) → Right e p → (j : Place) (k : TokenView) (ts : List Token) (a : Phrase) (us : List Token) → next e ts ≡ token j k → named m e p x j k ts ≡ Ok (a, us) → Good e a × (is_primary (head a) ≡ true) × (spell a us ≡ word p x ts) × Small lim most (counts base) a
  named_read e p x g j k ts a us i o = (let t = told_ok (limited_named true lim most base m r q h v e p x (λ u. u) held j k ts i) o in let w = named_sound q s e p x g j k ts a us i t.0 in (w.0, w.1, w.2, t.1 low))

  pub from_read : (e : ℕ) (p : Place) (x : Word) → Right e p → (ts : List Token) (a : Phrase) (us : List Token) → from_name m r e p x ts ≡ Ok (a, us) → Good e a × (is_primary (head a) ≡ true) × (spell a us ≡ word p x ts) × Small lim most (counts base) a
  from_read e p x g ts a us o = (let t = told_ok (limited_from true lim most base m r q h v e p x (λ u. u) held ts) o in let w = from_name_sound q s e p x g ts a us t.0 in (w.0, w.1, w.2, t.1 low))

  pub operand_read : (e : ℕ) (c : Context) (p : Place) (k : TokenView) (ts : List Token) (a : Phrase) (us : List Token) → next e ts ≡ token p k → operand m r e c p k ts ≡ Ok (a, us) → Good e a × (fits c a ≡ true) × (spell a us ≡ ts) × Small lim most (counts base) a
  operand_read e c p k ts a us i o = (let t = told_ok (limited_operand true lim most base m r q h v e c p k (λ u. u) held ts i) o in let w = operand_sound q s e c p k ts a us i t.0 in (w.0, w.1, w.2, t.1 (id_small lim most)))

module _ (lim : Bool) (most base : ℕ) (m : Room) (r q : Readers) (s : Sound q) (h : AreLimited true lim most (base + 1) r q) (v : IsRoom true lim most (base + 1) m q) where
  up : lim ≡ true → (u : List ℕ) → Fit most u → Fit most ((base + 1) ∷ u)
  up = λ z u i. (h.low z, i)

  pub braces_read : (e : ℕ) (p : Place) → Right e p → (j : Place) (k : TokenView) (ts : List Token) (a : Phrase) (us : List Token) → next e ts ≡ token j k → braces m r e p j k ts ≡ Ok (a, us) → Good e a × (is_primary (head a) ≡ true) × (spell a us ≡ mark p tk.open_brace ts) × Small lim most (counts base) a
  braces_read e p g j k ts a us i o = (let t = told_ok (limited_braces true lim most base m r q h v (λ u. u) held e p j k ts i) o in let w = braces_sound q s e p g j k ts a us i t.0 in (w.0, w.1, w.2, t.1 up))

  pub tuples_read : (e : ℕ) (p : Place) → Right e p → (j : Place) (k : TokenView) (ts : List Token) (a : Phrase) (us : List Token) → next e ts ≡ token j k → tuples r e p j k ts ≡ Ok (a, us) → Good e a × (is_primary (head a) ≡ true) × (spell a us ≡ mark p tk.open_tuple ts) × Small lim most (counts base) a
  tuples_read e p g j k ts a us i o = (let t = told_ok (limited_tuples true lim most base r q h (λ u. u) held e p j k ts i) o in let w = tuples_sound q s e p g j k ts a us i t.0 in (w.0, w.1, w.2, t.1 up))

  pub squares_read : (e : ℕ) (p : Place) → Right e p → (j : Place) (k : TokenView) (ts : List Token) (a : Phrase) (us : List Token) → next e ts ≡ token j k → squares m r e p j k ts ≡ Ok (a, us) → Good e a × (is_primary (head a) ≡ true) × (spell a us ≡ mark p tk.open_square ts) × Small lim most (counts base) a
  squares_read e p g j k ts a us i o = (let t = told_ok (limited_squares true lim most base m r q h v (λ u. u) held e p j k ts i) o in let w = squares_sound q s e p g j k ts a us i t.0 in (w.0, w.1, w.2, t.1 up))
