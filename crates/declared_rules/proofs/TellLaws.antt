-- What is found in one text after another.
use Rattle.std.proofs.Common.{◌≡◌, ℕ, ◌+◌, ◌<◌, ◌≤◌, Bool, List, [], ◌∷◌, ◌++◌, length, take, drop, map, get_or, Option, Some, None, refl, sym, ap, ◌∙◌, subst, append-nil, append_assoc}
use Rattle.std.specs.List.{flat_map}
use Rattle.std.proofs.lemmas.List.{drop_more, drop_all}
use Rattle.tla_token.specs.declared.rule.Refusal.{Refusal}
use Rattle.tla_tree.specs.Tree.{Word}
use Rattle.algorithm_limits.specs.DepthsIn.{Hides}
use Rattle.algorithm_limits.proofs.BoundLemmas.{first_kept}
use Rattle.algorithm_answer.specs.Joined.{joined}
use Rattle.algorithm_answer.proofs.Joins.{first_append}
use Rattle.pcal_tree.specs.Offences.{first}
use Rattle.pcal_tree.specs.OffencesRebind.{Standings, naming}
use Rattle.declared_rules.specs.declared.sight.Sight.{Sight}
use Rattle.declared_rules.specs.declared.bind_walk.Walk.{Walk}
use Rattle.declared_rules.specs.Telling.{sure, told, Around, Seen, Gains, Adds, AddsNaming}
use Rattle.declared_rules.proofs.ScopeLaws.{around_hides}

-- ---- first ones

pub first_same_after : (a b c : List Refusal) → first a ≡ first b → first (a ++ c) ≡ first (b ++ c)
first_same_after a b c e = first_append a c ∙ ap (λ (o : Option Refusal). joined o (first c)) e ∙ sym (first_append b c)

pub first_same_before : (a b c : List Refusal) → first b ≡ first c → first (a ++ b) ≡ first (a ++ c)
first_same_before a b c e = first_append a b ∙ ap (joined (first a)) e ∙ sym (first_append a c)

pub first_then : (a b c d e : List Refusal) → first a ≡ first (b ++ c) → first e ≡ first (a ++ d) → first e ≡ first (b ++ (c ++ d))
first_then a b c d e h k = k ∙ first_same_after a (b ++ c) d h ∙ ap first (append_assoc b c d)

pub first_sure : (o : Option Refusal) → first (sure o) ≡ o
first_sure None = refl
first_sure (Some r) = refl

-- ---- where it is seen

pub seen_kept : (g : Sight) (K : Word → Bool) (j k : Walk) (ms : List Word) (s r : Standings) → k.bound ≡ j.bound → Seen g K j ms s r → Seen g K k ms s r
seen_kept g K j k ms s r e h = record { modules = h.modules; lets = h.lets; around = subst (λ (xs : List Word). Around xs s r) (sym e) h.around }

pub seen_more : (g : Sight) (K : Word → Bool) (j k : Walk) (ms ys : List Word) (s r : Standings) → Hides j.bound k.bound ys → Seen g K j ms s r → Seen g K k ms s (naming ys r)
seen_more g K j k ms ys s r e h = record { modules = h.modules; lets = h.lets; around = around_hides j.bound k.bound ys s r e h.around }

-- ---- one after another

module _ (g : Sight) (K : Word → Bool) where
  pub adds_none : (w : Walk) → Adds g K w w (λ ms r. [])
  adds_none w = record { bound = refl; tells = λ ms s r h. ap first (sym (append-nil (told ms w s))) }

  pub adds_as : (j k : Walk) (f h : List Word → Standings → List Refusal) → ((ms : List Word) (r : Standings) → f ms r ≡ h ms r) → Adds g K j k f → Adds g K j k h
  adds_as j k f h e a = record { bound = a.bound; tells = λ ms s r q. a.tells ms s r q ∙ ap (λ (rs : List Refusal). first (told ms j s ++ rs)) (e ms r) }

  pub adds_then : (j k l : Walk) (f h : List Word → Standings → List Refusal) → Adds g K j k f → Adds g K k l h → Adds g K j l (λ ms r. f ms r ++ h ms r)
  adds_then j k l f h a b = record {
    bound = b.bound ∙ a.bound;
    tells = λ ms s r q. first_then (told ms k s) (told ms j s) (f ms r) (h ms r) (told ms l s) (a.tells ms s r q) (b.tells ms s r (seen_kept g K j k ms s r a.bound q));
  }

  -- names are bound, and unbound again
  pub adds_within : (j k l m : Walk) (ys : List Word) (f h : List Word → Standings → List Refusal) → AddsNaming g K j k ys f → Adds g K k l h → m.first ≡ l.first → m.free ≡ l.free
      → m.bound ≡ take (length j.bound) l.bound → Adds g K j m (λ ms r. f ms r ++ h ms (naming ys r))
  adds_within j k l m ys f h a b same free cut = record {
    bound = cut ∙ ap (take (length j.bound)) b.bound ∙ first_kept j.bound k.bound ys a.hides;
    tells = λ ms s r q.
        (λ i. first (told ms (record { bound = m.bound; first = same i; free = free i }) s))
        ∙ first_then (told ms k s) (told ms j s) (f ms r) (h ms (naming ys r)) (told ms l s) (a.tells ms s r q) (b.tells ms s (naming ys r) (seen_more g K j k ms ys s r a.hides q));
  }

  -- names are bound
  pub naming_alone : (j k : Walk) (ys : List Word) → k.first ≡ j.first → k.free ≡ j.free → Hides j.bound k.bound ys → AddsNaming g K j k ys (λ ms r. [])
  naming_alone j k ys same free h = record {
    hides = h;
    tells = λ ms s r q. (λ i. first (told ms (record { bound = k.bound; first = same i; free = free i }) s)) ∙ ap first (sym (append-nil (told ms j s)));
  }

  pub gains_adds : (j k : Walk) (f h : List Word → Standings → List Refusal) → Gains j k f
      → ((ms : List Word) (s r : Standings) → Seen g K j ms s r → first (f ms s) ≡ first (h ms r)) → Adds g K j k h
  gains_adds j k f h a e = record {
    bound = a.bound;
    tells = λ ms s r q. a.tells ms s ∙ first_same_before (told ms j s) (f ms s) (h ms r) (e ms s r q);
  }

  -- ---- lists: what is left of one still gives the whole
  pub list_then : {X : Type 0} (F : X → List Word → Standings → List Refusal) (j k l : Walk) (xs : List X) (i : ℕ) (x : X) → x ≡ get_or xs i x → i < length xs → Adds g K j k (F x)
      → Adds g K k l (λ ms r. flat_map (λ y. F y ms r) (drop (i + 1) xs)) → Adds g K j l (λ ms r. flat_map (λ y. F y ms r) (drop i xs))
  list_then {X = X} F j k l xs i x is less a b =
      adds_as j l _ _ (λ ms r. ap (flat_map (λ y. F y ms r)) (ap (λ (z : X). z ∷ drop (i + 1) xs) is ∙ sym (drop_more xs i x less)))
      (adds_then j k l (F x) (λ ms r. flat_map (λ y. F y ms r) (drop (i + 1) xs)) a b)

  pub list_done : {X : Type 0} (F : X → List Word → Standings → List Refusal) (k : Walk) (xs : List X) (i : ℕ) → length xs ≤ i → Adds g K k k (λ ms r. flat_map (λ y. F y ms r) (drop i xs))
  list_done F k xs i less = adds_as k k _ _ (λ ms r. ap (flat_map (λ y. F y ms r)) (sym (drop_all i xs less))) (adds_none k)

-- of things in memory, each with what it stands for
pub flat_mapped : {X Y Z : Type 0} (f : Y → List Z) (h : X → Y) (xs : List X) → flat_map (λ x. f (h x)) xs ≡ flat_map f (map h xs)
flat_mapped f h [] = refl
flat_mapped f h (x ∷ xs) = ap (λ (ys : List _). f (h x) ++ ys) (flat_mapped f h xs)
