-- Lists that end where no member begins: what was read so far is the list.
use Rattle.std.proofs.Common.{◌≡◌, ℕ, suc, List, [], ◌∷◌, ◌++◌, map, Ok, sym, ap, ◌∙◌}
use Rattle.std.proofs.lemmas.List.{append-nil}
use Rattle.tla_token.specs.declared.token.Tokens.{Tokens}
use Rattle.tla_tree.specs.Tree.{Tree}
use Rattle.tla_tree.specs.Lexical.{Token}
use Rattle.tla_tree.specs.Reader.{Out, Reader, ◌>>=◌, then_read, gives}
use Rattle.tla_tree.specs.Nesting.{greatest}
use Rattle.expr_nodes.specs.ReadIn.{Reads}
use Rattle.expr_nodes.specs.Ahead.{ahead}
use Rattle.syntax_reading.specs.ReadAround.{more_of}
use Rattle.algorithm_reader.specs.PartsRead.{StandsFor}
use Rattle.algorithm_reader.proofs.Gathered.{put_after, gives_put, SoFar, InPool}

-- no member begins at a token, and the tokens behind the list are those from another one on
pub record NoneAt {A T : Type 0} (read : ℕ → Reader A) (listed : A → List T) (v : Tokens) (i j n : ℕ) : Type 0 where
  pub last : A
  pub round : read (suc n) (ahead v i) ≡ Ok (last, ahead v j)
  pub none : listed last ≡ []

module _ {A T : Type 0} (read : ℕ → Reader A) (listed : A → List T) (v : Tokens) where
  no_more : (all from i j : ℕ) (done : List T) (s : SoFar read listed v all from i done) → NoneAt read listed v i j s.steps → Reads (λ a. done ≡ listed a) (ahead v j) (read all (ahead v from))
  no_more all from i j done s e = record {
    what = s.before e.last;
    is = s.is ∙ ap (put_after s.before) e.round;
    told = sym (s.members e.last ∙ ap (λ (l : List T). done ++ l) e.none ∙ append-nil done);
  }

module _ {A X T : Type 0} (read : ℕ → Reader A) (listed : A → List T) (stands : List Tree → X → T) (past : X → ℕ) (v : Tokens) where
  pub no_more_in_pool : (ts : List Tree) (all from i j : ℕ) (xs : List X) → InPool read listed stands past v ts all from i xs → ((n : ℕ) → NoneAt read listed v i j n)
      → Reads (StandsFor (λ us l. map (stands us) l) (λ l. greatest (map past l)) listed ts xs) (ahead v j) (read all (ahead v from))
  no_more_in_pool ts all from i j xs s g =
      let whole = no_more read listed v all from i j (map (stands ts) xs) s.so_far (g s.so_far.steps) in
      record { what = whole.what; is = whole.is; told = record { below = s.below; tree = whole.told } }

-- a member, and then the others
pub more_read : {A : Type 0} (r : Reader A) (rs : Reader (List A)) (ts us : List Token) (a : A) → r ts ≡ Ok (a, us) → more_of r rs ts ≡ put_after (λ xs. a ∷ xs) (rs us)
more_read {A} r rs ts us a e = ap (λ (o : Out A). then_read o (λ x. rs >>= λ xs. gives (x ∷ xs))) e ∙ gives_put (λ xs. a ∷ xs) (rs us)

-- what was told of a part, by its tree alone
pub tree_told : {X A T : Type 0} {at : List Tree → X → T} {past : X → ℕ} {tree_of : A → T} {ts : List Tree} {x : X} {u : List Token} {o : Out A} → Reads (StandsFor at past tree_of ts x) u o → Reads (λ a. at ts x ≡ tree_of a) u o
tree_told h = record { what = h.what; is = h.is; told = h.told.tree }
