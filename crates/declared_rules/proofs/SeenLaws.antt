-- What names may be used as, as more of them are known.
use Rattle.std.proofs.Common.{◌≡◌, ℕ, ◌+◌, ◌<◌, ◌≤◌, Bool, true, false, not, ◌&&◌, ◌||◌, nat_eq, List, [], ◌∷◌, ◌++◌, length, take, map, get_or, reverse, cond, bytes_eq, codes, Option, Some, None, refl, sym, ap, ◌∙◌, subst, eq-eqb, true≢false}
use Rattle.std.specs.Prelude.{if◌then◌else◌}
use Rattle.std.specs.List.{flat_map}
use Rattle.std.specs.Map.{lookup}
use Rattle.std.proofs.lemmas.List.{take_more, take_all, map-append, length-map, reverse-append}
use Rattle.std.proofs.lemmas.List.Folds.{list_any-append}
use Rattle.std.proofs.lemmas.Grind.{flat_map-append}
use Rattle.std.proofs.lemmas.Slice.Eq.{bytes_eq-Decides}
use Rattle.indexmap.specs.IndexMap.{insert_entry}
use Rattle.tla_token.specs.declared.place.Place.{Place}
use Rattle.tla_token.specs.declared.rule.Rule.TheVariants.{Arity, NeedsModule, Infinite}
use Rattle.tla_token.specs.Signs.{is_among}
use Rattle.tla_tree.specs.Tree.{Word, Name, Tree, words}
use Rattle.tla_value.specs.StandardModules.{StandardName, extends_one, number_modules, integer_modules, sequence_modules, finite_set_modules, tlc_modules, standard_table}
use Rattle.pcal_tree.specs.declared.algorithm.Declaration.{Declaration}
use Rattle.pcal_tree.specs.InMemory.{declarations_at}
use Rattle.pcal_tree.specs.Variables.{declared}
use Rattle.pcal_tree.specs.Offences.{offence_if}
use Rattle.pcal_tree.specs.NameUses as names
use Rattle.pcal_tree.specs.NameUses.{takes, standard, use_of, knowing, known_standard}
use Rattle.pcal_tree.specs.OffencesNames.{always_known, defined_outside}
use Rattle.pcal_tree.specs.laws.MacroUses.{offences_as}
use Rattle.algorithm_limits.proofs.Tables.{equal, equal_is, same_test}
use Rattle.module_outside.specs.declared.modules.Modules.{Modules}
use Rattle.module_outside.specs.declared.standard.Giver.TheVariants as giver
use Rattle.module_outside.specs.declared.standard.Standard.{Standard}
use Rattle.module_outside.specs.ModulesIn.{AreModules, gives, given, standard_of}
use Rattle.module_outside.specs.declared.definition.ReadDefinition.{ReadDefinition}
use Rattle.module_outside.specs.OutsideAt.{definition_seen}
use Rattle.declared_rules.specs.declared.using.Kind.{Kind}
use Rattle.declared_rules.specs.declared.using.Kind.TheVariants as kind
use Rattle.declared_rules.specs.declared.using.Use.{Use}
use Rattle.declared_rules.specs.declared.using.Use.TheVariants as known
use Rattle.declared_rules.specs.declared.use_sight.Sight.{Sight}
use Rattle.declared_rules.specs.UsesTold.{use_seen, use_as}
use Rattle.declared_rules.specs.UsesSeen.{Alike, standard_use, always_use, known_or, Sees}

-- ---- tables

module _ {V : Type 0} where
  pub inserted : (es : List (Word × V)) (x : Word) (v : V) (y : Word) → lookup (equal y) (insert_entry equal es x v) ≡ cond (bytes_eq x y) (Some v) (lookup (equal y) es)
  inserted [] x v y = ap (λ (b : Bool). cond b (Some v) None) (same_test y x)
  inserted (e ∷ es) x v y = by (equal x e.0) refl (inserted es x v y)
    where
      twice : (b : Bool) → cond b (Some v) (lookup (equal y) es) ≡ cond b (Some v) (cond b (Some e.1) (lookup (equal y) es))
      twice true = refl
      twice false = refl

      apart : equal x e.0 ≡ false → (a b : Bool) → equal y e.0 ≡ a → bytes_eq x y ≡ b → cond a (Some e.1) (cond b (Some v) (lookup (equal y) es)) ≡ cond b (Some v) (cond a (Some e.1) (lookup (equal y) es))
      apart h true true p q = absurd (true≢false (sym p ∙ ap (λ (z : Word). equal z e.0) (sym ((bytes_eq-Decides x y).0 q)) ∙ h))
      apart h true false p q = refl
      apart h false b p q = refl

      by : (b : Bool) → equal x e.0 ≡ b → lookup (equal y) (insert_entry equal es x v) ≡ cond (bytes_eq x y) (Some v) (lookup (equal y) es)
          → lookup (equal y) (if b then (e.0, v) ∷ es else e ∷ insert_entry equal es x v) ≡ cond (bytes_eq x y) (Some v) (cond (equal y e.0) (Some e.1) (lookup (equal y) es))
      by true h rest =
          let same = ap (equal y) (sym (equal_is x e.0 h)) ∙ same_test y x in
          ap (λ (b : Bool). cond b (Some v) (lookup (equal y) es)) same ∙ twice (bytes_eq x y)
          ∙ ap (λ (b : Bool). cond (bytes_eq x y) (Some v) (cond b (Some e.1) (lookup (equal y) es))) (sym same)
      by false h rest = ap (λ (o : Option V). cond (equal y e.0) (Some e.1) o) rest ∙ apart h (equal y e.0) (bytes_eq x y) refl refl

-- ---- one more name

pub one_seen : (old new : Sight) (x : Word) (k : Use) (s : names.Sight) (u : names.Use) → new.modules ≡ old.modules → new.uses.entries ≡ insert_entry equal old.uses.entries x k → Sees old s → use_seen k ≡ Some u → Sees new (knowing u x ∷ s)
one_seen old new x k s u m e h is = record {
  same = λ y l w p.
      ap (λ (o : Use). offences_as (use_seen o) (use_as l w p)) ((λ i. known_or ((ap (lookup (equal y)) e ∙ inserted old.uses.entries x k y) i) (always_use (m i) y)))
      ∙ by (bytes_eq x y) y l w p;
}
  where
    by : (b : Bool) (y : Word) (l : Kind) (w : Word) (p : Place)
        → offences_as (use_seen (known_or (cond b (Some k) (lookup (equal y) old.uses.entries)) (always_use old.modules y))) (use_as l w p) ≡ offences_as (cond b (Some u) (use_of s y)) (use_as l w p)
    by true y l w p = ap (λ (o : Option names.Use). offences_as o (use_as l w p)) is
    by false y l w p = h.same y l w p

sees_as : (v : Sight) (s r : names.Sight) → ((x : Word) → use_of s x ≡ use_of r x) → Sees v s → Sees v r
sees_as v s r e h = record { same = λ x l w p. h.same x l w p ∙ ap (λ (o : Option names.Use). offences_as o (use_as l w p)) (e x) }

pub sees_is : (v : Sight) (s r : names.Sight) → s ≡ r → Sees v s → Sees v r
sees_is v s r e h = subst (λ (z : names.Sight). Sees v z) e h

-- ---- names that are used alike

module _ (u : names.Use) where
  pub alike_among : (xs : List Word) (s : names.Sight) (w : Word) → use_of (map (knowing u) xs ++ s) w ≡ cond (is_among xs w) (Some u) (use_of s w)
  alike_among [] s w = refl
  alike_among (x ∷ xs) s w = by (bytes_eq x w) (alike_among xs s w)
    where
      by : (b : Bool) → use_of (map (knowing u) xs ++ s) w ≡ cond (is_among xs w) (Some u) (use_of s w)
          → cond b (Some u) (use_of (map (knowing u) xs ++ s) w) ≡ cond (b || is_among xs w) (Some u) (use_of s w)
      by true h = refl
      by false h = h

  either_order : (xs ys : List Word) (s : names.Sight) (w : Word) → use_of (map (knowing u) ys ++ (map (knowing u) xs ++ s)) w ≡ use_of (map (knowing u) (xs ++ ys) ++ s) w
  either_order xs ys s w =
      alike_among ys (map (knowing u) xs ++ s) w ∙ ap (λ (o : Option names.Use). cond (is_among ys w) (Some u) o) (alike_among xs s w) ∙ by (is_among ys w) (is_among xs w)
      ∙ ap (λ (b : Bool). cond b (Some u) (use_of s w)) (sym (list_any-append (λ (v : Word). bytes_eq v w) xs ys)) ∙ sym (alike_among (xs ++ ys) s w)
    where
      by : (a b : Bool) → cond a (Some u) (cond b (Some u) (use_of s w)) ≡ cond (b || a) (Some u) (use_of s w)
      by true true = refl
      by true false = refl
      by false true = refl
      by false false = refl

  pub more_seen : (v : Sight) (xs ys : List Word) (s : names.Sight) → Sees v (map (knowing u) ys ++ (map (knowing u) xs ++ s)) → Sees v (map (knowing u) (xs ++ ys) ++ s)
  more_seen v xs ys s h = sees_as v _ _ (either_order xs ys s) h

-- in a loop, of the things that have these names
module _ {X : Type 0} (f : X → List Word) (u : names.Use) where
  abbrev pub seen_of : List X → names.Sight → names.Sight
  seen_of xs s = map (knowing u) (flat_map f xs) ++ s

  pub things_more : (v : Sight) (xs : List X) (i : ℕ) (x : X) (s : names.Sight) → x ≡ get_or xs i x → i < length xs → Sees v (map (knowing u) (f x) ++ seen_of (take i xs) s) → Sees v (seen_of (take (i + 1) xs) s)
  things_more v xs i x s e l h =
      sees_is v _ _ (ap (λ (ws : List Word). map (knowing u) ws ++ s) (sym (ap (flat_map f) (take_more xs i x l ∙ ap (λ (z : X). take i xs ++ z ∷ []) (sym e)) ∙ flat_map-append f (take i xs) (x ∷ []) ∙ ap (λ (ws : List Word). flat_map f (take i xs) ++ ws) (plain (f x)))))
      (more_seen u v (flat_map f (take i xs)) (f x) s h)
    where
      plain : (ws : List Word) → ws ++ [] ≡ ws
      plain [] = refl
      plain (w ∷ ws) = ap (λ (zs : List Word). w ∷ zs) (plain ws)

  pub things_all : (v : Sight) (xs : List X) (i : ℕ) (s : names.Sight) → length xs ≤ i → Sees v (seen_of (take i xs) s) → Sees v (seen_of xs s)
  things_all v xs i s l h = sees_is v _ _ (ap (λ (ys : List X). seen_of ys s) (take_all i xs l)) h

pub one_placed : (xs : List Name) → flat_map (λ (x : Name). x.word ∷ []) xs ≡ words xs
one_placed [] = refl
one_placed (x ∷ xs) = ap (λ (ys : List Word). x.word ∷ ys) (one_placed xs)

pub all_declared : (ts : List Tree) (ds : List Declaration) → flat_map (λ (d : Declaration). d.name.word ∷ []) ds ≡ declared (declarations_at ts ds)
all_declared ts [] = refl
all_declared ts (d ∷ ds) = ap (λ (ys : List Word). d.name.word ∷ ys) (all_declared ts ds)

-- ---- the latest first

module _ {X : Type 0} (f : X → names.Known) where
  abbrev pub latest : List X → names.Sight → names.Sight
  latest xs s = reverse (map f xs) ++ s

  pub latest_more : (xs : List X) (i : ℕ) (x : X) (s : names.Sight) → x ≡ get_or xs i x → i < length xs → f x ∷ latest (take i xs) s ≡ latest (take (i + 1) xs) s
  latest_more xs i x s e l =
      ap (λ (ks : names.Sight). ks ++ s) (sym (reverse-append (map f (take i xs)) (f x ∷ [])) ∙ ap reverse (sym (map-append f (take i xs) (x ∷ []))))
      ∙ ap (λ (ys : List X). latest ys s) (ap (λ (z : X). take i xs ++ z ∷ []) e ∙ sym (take_more xs i x l))

  pub latest_next : (v : Sight) (xs : List X) (i : ℕ) (x : X) (s : names.Sight) → x ≡ get_or xs i x → i < length xs → Sees v (f x ∷ latest (take i xs) s) → Sees v (latest (take (i + 1) xs) s)
  latest_next v xs i x s e l h = sees_is v _ _ (latest_more xs i x s e l) h

  pub latest_all : (v : Sight) (xs : List X) (i : ℕ) (s : names.Sight) → length xs ≤ i → Sees v (latest (take i xs) s) → Sees v (latest xs s)
  latest_all v xs i s l h = sees_is v _ _ (ap (λ (ys : List X). latest ys s) (take_all i xs l)) h

pub turned : {X Y Z : Type 0} (g : Y → Z) (h : X → Y) (xs : List X) → reverse (map (λ x. g (h x)) xs) ≡ map g (reverse (map h xs))
turned g h [] = refl
turned {X} {Y} {Z} g h (x ∷ xs) =
    reverse-append (g (h x) ∷ []) (map (λ z. g (h z)) xs) ∙ ap (λ (zs : List Z). zs ++ g (h x) ∷ []) (turned g h xs)
    ∙ sym (map-append g (reverse (map h xs)) (h x ∷ [])) ∙ ap (map g) (sym (reverse-append (h x ∷ []) (map h xs)))

-- a definition that was read
abbrev pub read_known : ReadDefinition → names.Known
read_known d = knowing (takes (length d.params.items)) d.title.word

pub read_latest : (ts : List Tree) (ds : List ReadDefinition) (s : names.Sight) → reverse (map read_known ds) ++ s ≡ map defined_outside (reverse (map (definition_seen ts) ds)) ++ s
read_latest ts ds s = ap (λ (ks : names.Sight). ks ++ s) (ap reverse (each ds) ∙ turned defined_outside (definition_seen ts) ds)
  where
    each : (ds : List ReadDefinition) → map read_known ds ≡ map (λ (d : ReadDefinition). defined_outside (definition_seen ts d)) ds
    each [] = refl
    each (d ∷ ds) = λ i. knowing (takes (sym (length-map d.params.items (λ (x : Name). x.word)) i)) d.title.word ∷ each ds i

-- ---- what is always known

module _ (m : Modules) (ms : List Word) (h : AreModules m ms) where
  or_none : (a b : Bool) → a ≡ b → (a || false) ≡ b
  or_none true b e = e
  or_none false b e = e

  numbers : gives m giver.Numbers ≡ extends_one ms number_modules
  numbers = sym (λ i. h.naturals i || or_none (is_among ms (codes "Integers")) m.integers h.integers i)

  integers : gives m giver.Integers ≡ extends_one ms integer_modules
  integers = sym (or_none (is_among ms (codes "Integers")) m.integers h.integers)

  sequences : gives m giver.Sequences ≡ extends_one ms sequence_modules
  sequences = sym (or_none (is_among ms (codes "Sequences")) m.sequences h.sequences)

  finite_sets : gives m giver.FiniteSets ≡ extends_one ms finite_set_modules
  finite_sets = sym (or_none (is_among ms (codes "FiniteSets")) m.finite_sets h.finite_sets)

  tlc : gives m giver.Tlc ≡ extends_one ms tlc_modules
  tlc = sym (or_none (is_among ms (codes "TLC")) m.tlc h.tlc)

  by_giver : (s : Standard) → given m true (Some s) s.arity ≡ gives m s.giver
  by_giver s = (λ i. eq-eqb s.arity s.arity refl i && (gives m s.giver && true)) ∙ plain (gives m s.giver)
    where
      plain : (b : Bool) → (b && true) ≡ b
      plain true = refl
      plain false = refl

  standard_alike : (d : StandardName) (s : Standard) → s.arity ≡ d.arity → s.infinite ≡ d.infinite → gives m s.giver ≡ extends_one ms d.modules
      → Alike (use_seen (standard_use m (Some s))) (Some (standard d (extends_one ms d.modules)))
  standard_alike d s a f g (kind.Applied n right) x p =
      λ i. offence_if (not (nat_eq (a i) n)) Arity p ++ (offence_if (not ((by_giver s ∙ g) i)) NeedsModule p ++ offence_if (f i && not right) Infinite p)
  standard_alike d s a f g kind.Assigned x p = refl
  standard_alike d s a f g kind.Handed x p = refl

  row : (b : Bool) (d : StandardName) (s : Standard) (o : Option Standard) (q : Option names.Use) → s.arity ≡ d.arity → s.infinite ≡ d.infinite → gives m s.giver ≡ extends_one ms d.modules
      → Alike (use_seen (standard_use m o)) q → Alike (use_seen (standard_use m (cond b (Some s) o))) (cond b (Some (standard d (extends_one ms d.modules))) q)
  row true d s o q a f g r = standard_alike d s a f g
  row false d s o q a f g r = r

  rows : (x : Word) → Alike (use_seen (standard_use m (standard_of x))) (use_of (map (known_standard ms) standard_table) x)
  rows x =
      row (bytes_eq (codes "Nat") x) _ _ _ _ refl refl numbers
      (row (bytes_eq (codes "Int") x) _ _ _ _ refl refl integers
      (row (bytes_eq (codes "Seq") x) _ _ _ _ refl refl sequences
      (row (bytes_eq (codes "Len") x) _ _ _ _ refl refl sequences
      (row (bytes_eq (codes "Append") x) _ _ _ _ refl refl sequences
      (row (bytes_eq (codes "Head") x) _ _ _ _ refl refl sequences
      (row (bytes_eq (codes "Tail") x) _ _ _ _ refl refl sequences
      (row (bytes_eq (codes "SubSeq") x) _ _ _ _ refl refl sequences
      (row (bytes_eq (codes "Cardinality") x) _ _ _ _ refl refl finite_sets
      (row (bytes_eq (codes "IsFiniteSet") x) _ _ _ _ refl refl finite_sets
      (row (bytes_eq (codes "PrintT") x) _ _ _ _ refl refl tlc
      (row (bytes_eq (codes "Assert") x) _ _ _ _ refl refl tlc (λ k y p. refl))))))))))))

  always : (x : Word) → Alike (use_seen (always_use m x)) (use_of (always_known ms) x)
  always x = by (bytes_eq (codes "self") x) (rows x)
    where
      by : (b : Bool) → Alike (use_seen (standard_use m (standard_of x))) (use_of (map (known_standard ms) standard_table) x)
          → Alike (use_seen (cond b (known.Takes 0) (standard_use m (standard_of x)))) (cond b (Some (takes 0)) (use_of (map (known_standard ms) standard_table) x))
      by true h = λ k y p. refl
      by false h = h

  pub always_seen : (v : Sight) → v.uses.entries ≡ [] → v.modules ≡ m → Sees v (always_known ms)
  always_seen v e f = record {
    same = λ x k y p. (λ i. offences_as (use_seen (known_or (lookup (equal x) (e i)) (always_use (f i) x))) (use_as k y p)) ∙ always x k y p;
  }
