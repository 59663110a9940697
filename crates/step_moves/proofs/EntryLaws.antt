-- Processes in a map from identifiers to what they run: it has them in the order of their identifiers.
use Rattle.std.proofs.Common.{◌≡◌, ℕ, ◌+◌, ◌<◌, ◌≤◌, Bool, true, false, cond, List, [], ◌∷◌, ◌++◌, length, get_or, drop, map, refl, sym, ap, subst, ◌∙◌, append_assoc, arith, Option, Some, Ok, Err}
use Rattle.std.proofs.lemmas.List.{append-nil, map-append, drop_more, drop_all}
use Rattle.std.specs.Option.{is_some}
use Rattle.std.specs.Ordering.{is_eq, is_lt, match_ordering}
use Rattle.std.specs.Map.{lookup}
use Rattle.std.specs.BTreeMap.{insert_entry, is_at}
use Rattle.std.specs.declared.cmp.Ordering.{Ordering}
use Rattle.std.specs.declared.cmp.Ordering.TheVariants.{Less, Equal, Greater}
use Rattle.tla_tree.specs.Tree.{Tree}
use Rattle.tla_value.specs.declared.fault.FaultKind.TheVariants.{SameIdentifier}
use Rattle.tla_value.specs.Value.{Value, fault}
use Rattle.tla_value.specs.Order.{order, same}
use Rattle.pcal_tree.specs.Program as pure
use Rattle.pcal_tree.specs.Processes.{has_identifier, apart, placed, sorted}
use Rattle.step_spots.specs.declared.routine.Routine.{Routine}
use Rattle.step_moves.specs.declared.actor.Named.{Named}
use Rattle.step_moves.specs.declared.actor.Actor.{Actor}
use Rattle.step_moves.specs.InMemory.{actor_at, named_at, entry_at}
use Rattle.step_moves.proofs.SortedLaws.{has_sorted, neither, sorted_more, apart_new, apart_shared}

abbrev Entries : Type 0
Entries = List (Value × Routine)

abbrev pub entries_at : List Tree → Entries → List pure.Actor
entries_at ts es = map (entry_at ts) es

found_by : (b : Bool) (u : Routine) (o : Option Routine) (c : Bool) → c ≡ is_some o → cond b true c ≡ is_some (cond b (Some u) o)
found_by true u o c e = refl
found_by false u o c e = e

has_entry : (ts : List Tree) (k : Value) (es : Entries) → has_identifier k (entries_at ts es) ≡ is_some (lookup (is_at (order k)) es)
has_entry ts k [] = refl
has_entry ts k (e ∷ es) = found_by (is_eq (order k e.0)) e.1 (lookup (is_at (order k)) es) (has_identifier k (entries_at ts es)) (has_entry ts k es)

placed_by : (ts : List Tree) (r : Ordering) (k : Value) (u : Routine) (e : Value × Routine) (es more : Entries) (others : List pure.Actor) → is_eq r ≡ false → entries_at ts more ≡ others
    → entries_at ts (match_ordering r ((k, u) ∷ e ∷ es) ((e.0, u) ∷ es) (e ∷ more)) ≡ cond (is_lt r) (entry_at ts (k, u) ∷ entries_at ts (e ∷ es)) (entry_at ts e ∷ others)
placed_by ts Less k u e es more others h m = refl
placed_by ts Equal k u e es more others h m = cc
placed_by ts Greater k u e es more others h m = ap (λ (vs : List pure.Actor). entry_at ts e ∷ vs) m

entry_placed : (ts : List Tree) (k : Value) (u : Routine) (es : Entries) → has_identifier k (entries_at ts es) ≡ false
    → entries_at ts (insert_entry order es k u) ≡ placed (entry_at ts (k, u)) (entries_at ts es)
entry_placed ts k u [] h = refl
entry_placed ts k u (e ∷ es) h =
    let none = neither (same k e.0) (has_identifier k (entries_at ts es)) h in
    placed_by ts (order k e.0) k u e es (insert_entry order es k u) (placed (entry_at ts (k, u)) (entries_at ts es)) none.0 (entry_placed ts k u es none.1)

-- of all processes some were placed, and the rest are left
pub record Placing (ts : List Tree) (all left : List pure.Actor) (es : Entries) : Type 0 where
  pub done : List pure.Actor
  pub parts : done ++ left ≡ all
  pub so_far : apart done left ≡ apart [] all
  pub there : entries_at ts es ≡ sorted done

pub none_placed : (ts : List Tree) (all : List pure.Actor) (es : Entries) → es ≡ [] → Placing ts all all es
none_placed ts all es e = record { done = []; parts = refl; so_far = refl; there = ap (entries_at ts) e }

has_of : (ts : List Tree) (all left : List pure.Actor) (es : Entries) (k : Value) (s : Placing ts all left es) → has_identifier k s.done ≡ is_some (lookup (is_at (order k)) es)
has_of ts all left es k s = sym (has_sorted k s.done) ∙ ap (has_identifier k) (sym s.there) ∙ has_entry ts k es

pub one_placed : (ts : List Tree) (all left : List pure.Actor) (es more : Entries) (k : Value) (u : Routine) (o : Option Routine) → o ≡ lookup (is_at (order k)) es → is_some o ≡ false
    → more ≡ insert_entry order es k u → Placing ts all (entry_at ts (k, u) ∷ left) es → Placing ts all left more
one_placed ts all left es more k u o old is n s =
    let v = entry_at ts (k, u) in
    let not_found : is_some (lookup (is_at (order k)) es) ≡ false = ap (λ (q : Option Routine). is_some q) (sym old) ∙ is in
    let none : has_identifier k s.done ≡ false = has_of ts all (v ∷ left) es k s ∙ not_found in
    record {
      done = s.done ++ v ∷ [];
      parts = append_assoc s.done (v ∷ []) left ∙ s.parts;
      so_far = sym (apart_new s.done left v none) ∙ s.so_far;
      there = ap (entries_at ts) n ∙ entry_placed ts k u es (has_entry ts k es ∙ not_found) ∙ ap (placed v) s.there ∙ sym (sorted_more s.done v none);
    }

pub one_shared : (ts : List Tree) (all left : List pure.Actor) (es : Entries) (k : Value) (u : Routine) (o : Option Routine) → o ≡ lookup (is_at (order k)) es → is_some o ≡ true
    → Placing ts all (entry_at ts (k, u) ∷ left) es → apart [] all ≡ Err (fault SameIdentifier u.name.now.place)
one_shared ts all left es k u o old is s =
    let v = entry_at ts (k, u) in
    sym s.so_far ∙ apart_shared s.done left v (has_of ts all (v ∷ left) es k s ∙ ap (λ (q : Option Routine). is_some q) (sym old) ∙ is)

pub all_apart : (ts : List Tree) (all : List pure.Actor) (es : Entries) → Placing ts all [] es → apart [] all ≡ Ok all
all_apart ts all es s = sym s.so_far ∙ ap Ok (sym (append-nil s.done) ∙ s.parts)

pub all_sorted : (ts : List Tree) (all : List pure.Actor) (es : Entries) → Placing ts all [] es → entries_at ts es ≡ sorted all
all_sorted ts all es s = s.there ∙ ap sorted (sym (append-nil s.done) ∙ s.parts)

-- ---- the next of a list in memory

module _ (ts : List Tree) (all : List Named) where
  abbrev pub PlacingFrom : ℕ → Entries → Type 0
  PlacingFrom i es = Placing ts (map (named_at ts) all) (map (named_at ts) (drop i all)) es

  from_one : (i : ℕ) (one : Named) (es : Entries) → one ≡ get_or all i one → i < length all → PlacingFrom i es
      → Placing ts (map (named_at ts) all) (entry_at ts (one.identifier, one.own) ∷ map (named_at ts) (drop (i + 1) all)) es
  from_one i one es is less s =
      subst (λ (zs : List pure.Actor). Placing ts (map (named_at ts) all) zs es) (ap (map (named_at ts)) (drop_more all i one less ∙ ap (λ (y : Named). y ∷ drop (i + 1) all) (sym is))) s

  pub next_placed : (i : ℕ) (one : Named) → one ≡ get_or all i one → i < length all → (es more : Entries) (k : Value) (o : Option Routine) → k ≡ one.identifier
      → o ≡ lookup (is_at (order k)) es → is_some o ≡ false → more ≡ insert_entry order es k one.own → PlacingFrom i es → PlacingFrom (i + 1) more
  next_placed i one is less es more k o q old none n s =
      one_placed ts (map (named_at ts) all) (map (named_at ts) (drop (i + 1) all)) es more one.identifier one.own o (old ∙ ap (λ (z : Value). lookup (is_at (order z)) es) q) none
      (n ∙ ap (λ (z : Value). insert_entry order es z one.own) q) (from_one i one es is less s)

  pub next_shared : (i : ℕ) (one : Named) → one ≡ get_or all i one → i < length all → (es : Entries) (k : Value) (o : Option Routine) → k ≡ one.identifier
      → o ≡ lookup (is_at (order k)) es → is_some o ≡ true → PlacingFrom i es → apart [] (map (named_at ts) all) ≡ Err (fault SameIdentifier one.own.name.now.place)
  next_shared i one is less es k o q old some s =
      one_shared ts (map (named_at ts) all) (map (named_at ts) (drop (i + 1) all)) es one.identifier one.own o (old ∙ ap (λ (z : Value). lookup (is_at (order z)) es) q) some (from_one i one es is less s)

  pub none_left : (i : ℕ) (es : Entries) → length all ≤ i → PlacingFrom i es → Placing ts (map (named_at ts) all) [] es
  none_left i es le s = subst (λ (zs : List pure.Actor). Placing ts (map (named_at ts) all) zs es) (ap (map (named_at ts)) (drop_all i all le)) s

-- ---- taken from the map, one after another

pub moved_one : (ts : List Tree) (all more : List Actor) (es rest : Entries) (k : Value) (u : Routine) (whole : List pure.Actor) → es ≡ (k, u) ∷ rest
    → more ≡ all ++ record { identifier = Some k; own = u } ∷ [] → map (actor_at ts) all ++ entries_at ts es ≡ whole → map (actor_at ts) more ++ entries_at ts rest ≡ whole
moved_one ts all more es rest k u whole first n h =
    ap (λ (zs : List Actor). map (actor_at ts) zs ++ entries_at ts rest) n
    ∙ ap (λ (zs : List pure.Actor). zs ++ entries_at ts rest) (map-append (actor_at ts) all (record { identifier = Some k; own = u } ∷ []))
    ∙ append_assoc (map (actor_at ts) all) (entry_at ts (k, u) ∷ []) (entries_at ts rest)
    ∙ ap (λ (zs : Entries). map (actor_at ts) all ++ entries_at ts zs) (sym first)
    ∙ h

pub all_moved : (ts : List Tree) (all : List Actor) (es : Entries) (whole : List pure.Actor) → (0 < length es → ⊥) → map (actor_at ts) all ++ entries_at ts es ≡ whole → map (actor_at ts) all ≡ whole
all_moved ts all [] whole none h = sym (append-nil (map (actor_at ts) all)) ∙ h
all_moved ts all (e ∷ es) whole none h = absurd (none (omega arith))
