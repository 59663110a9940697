-- A round of reading what a `with` names, and lists of it.
use Rattle.std.proofs.Common.{◌≡◌, ℕ, suc, ◌+◌, ◌-◌, ◌≤◌, Bool, true, false, ◌&&◌, List, [], ◌∷◌, length, map, Option, Some, None, is_some, Ok, Vec, Global, refl, sym, ap, ◌∙◌, arith}
use Rattle.std.proofs.lemmas.List.{length-map}
use Rattle.tla_token.specs.declared.place.Place.{Place}
use Rattle.tla_token.specs.declared.token.Tokens.{Tokens}
use Rattle.tla_tree.specs.Tree.{Name, Tree}
use Rattle.tla_tree.specs.Pool.{Keeps}
use Rattle.tla_tree.specs.Lexical.{TokenView, Token}
use Rattle.tla_tree.specs.Lexical as tk
use Rattle.tla_tree.specs.Spelling.{Phrase}
use Rattle.tla_tree.specs.Reader.{Out, Reader, ◌>>=◌, then_read}
use Rattle.tla_tree.specs.Nesting.{greatest}
use Rattle.expr_nodes.specs.declared.cursor.Halt.{Halt}
use Rattle.expr_nodes.specs.ReadIn.{Reads, Fails}
use Rattle.expr_nodes.specs.Ahead.{ahead}
use Rattle.pcal_tree.specs.declared.algorithm.Bind.{Bind}
use Rattle.pcal_tree.specs.declared.algorithm.Bind.TheVariants as in_memory
use Rattle.pcal_tree.specs.InMemory.{bind_at, binds_at, past_bind}
use Rattle.pcal_tree.specs.Algorithm as tree
use Rattle.pcal_tree.specs.OpenForms.{after_binds}
use Rattle.pcal_tree.specs.GrammarParts.{Separator, Binds, last_bind, bind, bound, binds_of}
use Rattle.syntax_reading.specs.TokenReaders.{first, by_next, past, name_of, name_within, Parts}
use Rattle.syntax_reading.specs.ReadParts.{read_separator, read_binds, bind_by, binds_by}
use Rattle.algorithm_reader.specs.PartsRead.{StandsFor, is_another, first_bound, bind_reader, all_bound_at, past_all_bound, bound_from}
use Rattle.algorithm_reader.proofs.Gathered.{put_after, gives_put, fails_then, as_triple, GoesOn, EndsAt, StaysSame}
use Rattle.algorithm_reader.proofs.GatheredVariables.{the_separator}

-- ---- a list, each of which goes before the rest
abbrev pub Bound : Type 0
Bound = tree.Binds → tree.Binds

abbrev pub members : Binds → List Bound
members (last_bind x b p e s) = bound b x e ∷ []
members (bind x b p e s bs) = bound b x e ∷ members bs

abbrev pub bound_in_row : List Bound → tree.Binds
bound_in_row [] = tree.no_binds
bound_in_row (f ∷ fs) = f (bound_in_row fs)

in_row : (bs : Binds) → binds_of bs ≡ bound_in_row (members bs)
in_row (last_bind x b p e s) = refl
in_row (bind x b p e s bs) = ap (bound b x e) (in_row bs)

row_in_memory : (ts : List Tree) (bs : List Bind) → binds_at ts bs ≡ bound_in_row (map (bind_at ts) bs)
row_in_memory ts [] = refl
row_in_memory ts (b ∷ bs) = ap (bind_at ts b) (row_in_memory ts bs)

deep_behind : (d : ℕ) (bs : Binds) → after_binds d bs ≡ d + length (members bs)
deep_behind d (last_bind x b p e s) = omega arith
deep_behind d (bind x b p e s bs) = omega (arith, deep_behind (d + 1) bs)

pub binds_told : (ts : List Tree) (bs : Vec Bind Global) (d deep : ℕ) (u : List Token) (o : Out Binds) → deep ≡ d + length bs.items
    → Reads (StandsFor (λ ws l. map (bind_at ws) l) (λ l. greatest (map past_bind l)) members ts bs.items) u o → Reads (StandsFor all_bound_at past_all_bound (bound_from d) ts (bs, deep)) u o
binds_told ts bs d deep u o e h = record {
  what = h.what;
  is = h.is;
  told = record {
    below = h.told.below;
    tree =
        (let row = row_in_memory ts bs.items ∙ ap bound_in_row h.told.tree ∙ sym (in_row h.what) in
        let deep_there : deep ≡ after_binds d h.what = omega (arith, e, length-map bs.items (bind_at ts), ap length h.told.tree, deep_behind d h.what) in
        λ j. (row j, deep_there j));
  };
}

-- ---- a round: with so many steps, as many forms are open as steps are gone
abbrev pub binds_below : Parts → ℕ → ℕ → Reader Binds
binds_below m top k = read_binds m k (top - k)

more_binds : (r : Reader Binds) (x : Name) (b : Bool) (q : Place) (e : Phrase) (s : Option Separator) (p : Place) (k : TokenView) (us : List Token) → (is_some s && is_some (name_of p k)) ≡ true → binds_by r x b q e s p k us ≡ put_after (bind x b q e (the_separator s)) (r us)
more_binds r x b q e (Some s) p (tk.word y) us h = gives_put (bind x b q e s) (r us)
more_binds r x b q e (Some s) p k us h = (let no : false ≡ true = h in absurd cc)
more_binds r x b q e None p k us h = (let no : false ≡ true = h in absurd cc)

no_more_binds : (r : Reader Binds) (x : Name) (b : Bool) (q : Place) (e : Phrase) (s : Option Separator) (p : Place) (k : TokenView) (us : List Token) → (is_some s && is_some (name_of p k)) ≡ false → binds_by r x b q e s p k us ≡ Ok (last_bind x b q e s, us)
no_more_binds r x b q e (Some s) p (tk.word y) us h = (let no : true ≡ false = h in absurd cc)
no_more_binds r x b q e (Some s) p k us h = refl
no_more_binds r x b q e None p k us h = refl

abbrev Bound_part : Type 0
Bound_part = Name × ((Bool × Place) × Phrase)

rest_of : (r : Reader Binds) → Bound_part → Reader Binds
rest_of r z = read_separator >>= λ s. by_next (binds_by r z.0 z.1.0.0 z.1.0.1 z.1.1 s)

-- one that is read where d are open
round_at : (m : Parts) (n d : ℕ) (ts : List Token) → read_binds m (suc n) d ts ≡ then_read (bind_reader m d ts) (rest_of (read_binds m n (d + 1)))
unfolding rest_of
round_at m n d ts = as_triple (name_within (m.room (d + 1)) ts) (λ x. past bind_by) (λ x b. m.expr) (λ x b e. read_separator >>= λ s. by_next (binds_by (read_binds m n (d + 1)) x b.0 b.1 e s))

below_next : (m : Parts) (top n : ℕ) → suc n ≤ top → read_binds m n ((top - suc n) + 1) ≡ binds_below m top n
below_next m top n h = (let e : (top - suc n) + 1 ≡ top - n = omega (arith, h) in ap (read_binds m n) e)

module _ (m : Parts) (v : Tokens) (top n i e j : ℕ) (d : Bound) (less : suc n ≤ top) (h : Reads (λ z. d ≡ first_bound z) (ahead v e) (bind_reader m (top - suc n) (ahead v i))) where
  one_read : (s : Option Separator) → read_separator (ahead v e) ≡ Ok (s, ahead v j) → binds_below m top (suc n) (ahead v i) ≡ by_next (binds_by (binds_below m top n) h.what.0 h.what.1.0.0 h.what.1.0.1 h.what.1.1 s) (ahead v j)
  unfolding rest_of
  one_read s g =
      round_at m n (top - suc n) (ahead v i)
      ∙ ap (λ (r : Reader Binds). then_read (bind_reader m (top - suc n) (ahead v i)) (rest_of r)) (below_next m top n less)
      ∙ ap (λ (o : Out Bound_part). then_read o (rest_of (binds_below m top n))) h.is
      ∙ ap (λ (o : Out (Option Separator)). then_read o (λ s. by_next (binds_by (binds_below m top n) h.what.0 h.what.1.0.0 h.what.1.0.1 h.what.1.1 s))) g

  pub binds_go_on : Reads (λ s. is_another s (first (ahead v j)) ≡ true) (ahead v j) (read_separator (ahead v e)) → GoesOn (binds_below m top) members v i j d n
  binds_go_on g = record {
    cons = bind h.what.0 h.what.1.0.0 h.what.1.0.1 h.what.1.1 (the_separator g.what);
    round = (one_read g.what g.is ∙ more_binds (binds_below m top n) h.what.0 h.what.1.0.0 h.what.1.0.1 h.what.1.1 g.what (first (ahead v j)).place (first (ahead v j)).kind (ahead v j) g.told);
    each = (λ a. ap (λ (c : Bound). c ∷ members a) (sym h.told));
  }

  pub binds_end : Reads (λ s. is_another s (first (ahead v j)) ≡ false) (ahead v j) (read_separator (ahead v e)) → EndsAt (binds_below m top) members v i j d n
  binds_end g = record {
    last = last_bind h.what.0 h.what.1.0.0 h.what.1.0.1 h.what.1.1 g.what;
    round = (one_read g.what g.is ∙ no_more_binds (binds_below m top n) h.what.0 h.what.1.0.0 h.what.1.0.1 h.what.1.1 g.what (first (ahead v j)).place (first (ahead v j)).kind (ahead v j) g.told);
    alone = ap (λ (c : Bound). c ∷ []) (sym h.told);
  }

pub binds_fail : (m : Parts) (e : Halt) (ts : List Token) (top n : ℕ) → Fails e (bind_reader m (top - suc n) ts) → Fails e (binds_below m top (suc n) ts)
binds_fail m e ts top n h = rw (round_at m n (top - suc n) ts) (fails_then e _ _ h)

-- ---- what was told of one, where as many are open as the steps tell
pub bind_told : {ts : List Tree} {x : Bind} {u : List Token} (m : Parts) (us : List Token) (d top n : ℕ) → d ≡ top - suc n → Reads (StandsFor bind_at past_bind first_bound ts x) u (bind_reader m d us) → Reads (λ z. bind_at ts x ≡ first_bound z) u (bind_reader m (top - suc n) us)
bind_told m us d top n e h = record { what = h.what; is = ap (λ (k : ℕ). bind_reader m k us) (sym e) ∙ h.is; told = h.told.tree }

pub bind_fails : (m : Parts) (us : List Token) (e : Halt) (d top n : ℕ) → d ≡ top - suc n → Fails e (bind_reader m d us) → Fails e (bind_reader m (top - suc n) us)
bind_fails m us e d top n i h = rw (sym i) h

pub binds_stay : (ts us : List Tree) → Keeps ts us → StaysSame bind_at past_bind ts us
binds_stay ts us k (in_memory.Among x e) h = λ j bs. tree.one_of x (k.same e (omega (arith, h)) j) bs
binds_stay ts us k (in_memory.Is x e) h = λ j bs. tree.is x (k.same e (omega (arith, h)) j) bs

-- with all steps, the list from its first member on
pub all_below : (m : Parts) (n d : ℕ) (us : List Token) → binds_below m (d + n) n us ≡ read_binds m n d us
all_below m n d us = (let e : (d + n) - n ≡ d = omega arith in ap (λ (k : ℕ). read_binds m n k us) e)
