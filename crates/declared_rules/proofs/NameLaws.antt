-- That the names of a list are looked at one by one.
use Rattle.std.proofs.Common.{◌≡◌, ℕ, ◌+◌, ◌<◌, ◌≤◌, List, [], ◌∷◌, ◌++◌, length, map, take, get_or, Bool, Vec, Global, refl, sym, ap, subst, ◌∙◌, append-nil, append_assoc, arith}
use Rattle.std.specs.List.{list_any, flat_map}
use Rattle.std.specs.Cmp.Lexicographic.{pointwise}
use Rattle.std.specs.Prelude.{◌==◌}
use Rattle.std.proofs.lemmas.List.{take_all}
use Rattle.tla_token.specs.Signs.{is_among}
use Rattle.tla_token.specs.declared.rule.Rule.TheVariants.{Duplicate}
use Rattle.tla_token.specs.declared.rule.Refusal.{Refusal}
use Rattle.tla_token.specs.declared.place.Place.{Place}
use Rattle.tla_tree.specs.Tree.{Name, Word, Tree}
use Rattle.pcal_tree.specs.BoundNames.{all_of}
use Rattle.pcal_tree.specs.Offences.{offence_if}
use Rattle.tla_pool.specs.FormOf.{groups_of}
use Rattle.algorithm_limits.specs.DepthsIn.{Hides}
use Rattle.module_outside.specs.declared.modules.Modules.{Modules}
use Rattle.module_outside.specs.SightIn.{Binds}
use Rattle.module_outside.proofs.SightLaws.{binds_more, none_bound}
use Rattle.declared_rules.specs.declared.found.Found.{Found}
use Rattle.declared_rules.specs.Parts.{bound, declares}
use Rattle.declared_rules.specs.Finding.{reserved_in, seen_offences, seen_after, Joins, Adds, AddsNames}
use Rattle.declared_rules.proofs.JoinLaws.{joins_none, joins_then, joins_as, adds_one}
use Rattle.declared_rules.proofs.ListLaws.{more_of}

-- ---- one name

-- what was found, where these names are seen
abbrev pub with_seen : Found → List Word → Found
with_seen l z = record { modules = l.modules; first = l.first; marks = l.marks; seen = z }

pub joins_seen : (ts : List Tree) (k l : Found) (z : List Word) (rs : List Refusal) → Joins ts k l rs → Joins ts k (with_seen l z) rs
joins_seen ts k l z rs h = record { modules = h.modules; many = h.many; value = h.value }

pub once_adds : (j k l : Found) (z : List Word) (n : Name) (x : Word) (p : Place) (b : Bool) → record { word = x; place = p } ≡ n → ((ts : List Tree) → Adds ts j k (declares n ∷ [])) → k.seen ≡ j.seen
    → b ≡ list_any (pointwise ◌==◌ x) k.seen → ((ts : List Tree) → Joins ts k l (offence_if b Duplicate p)) → l.seen ≡ k.seen → Hides l.seen z (x ∷ []) → AddsNames j (with_seen l z) (n ∷ [])
once_adds j k l z n x p b v g s e h t d = record {
  adds = λ ts w q.
      joins_as ts j (with_seen l z) _ _
      ((λ i. append-nil (reserved_in j.modules n) i ++ offence_if ((e ∙ ap (list_any (pointwise ◌==◌ x)) s ∙ q x ∙ (λ i. is_among w (v i).word)) i) Duplicate (v i).place)
      ∙ sym (append-nil (reserved_in j.modules n ++ offence_if (is_among w n.word) Duplicate n.place)))
      (joins_then ts j k (with_seen l z) _ _ ((g ts).joins) (joins_seen ts k l z _ (h ts)));
  seen = λ w q.
      binds_more l.seen z (n.word ∷ []) w (subst (λ (ws : List Word). Binds ws w) (sym (t ∙ s)) q)
      (subst (λ (m : Name). Hides l.seen z (m.word ∷ [])) v d);
}

-- ---- names after others

pub names_none : (k : Found) → AddsNames k k []
names_none k = record { adds = λ ts w q. joins_none ts k; seen = λ w q. q }

both_offences : (m : Modules) (w : List Word) (xs ys : List Name) → seen_offences m w (xs ++ ys) ≡ seen_offences m w xs ++ seen_offences m (seen_after w xs) ys
both_offences m w [] ys = refl
both_offences m w (n ∷ ns) ys =
    ap (λ (rs : List Refusal). (reserved_in m n ++ offence_if (is_among w n.word) Duplicate n.place) ++ rs) (both_offences m (n.word ∷ w) ns ys)
    ∙ sym (append_assoc (reserved_in m n ++ offence_if (is_among w n.word) Duplicate n.place) (seen_offences m (n.word ∷ w) ns) (seen_offences m (seen_after (n.word ∷ w) ns) ys))

both_after : (w : List Word) (xs ys : List Name) → seen_after w (xs ++ ys) ≡ seen_after (seen_after w xs) ys
both_after w [] ys = refl
both_after w (n ∷ ns) ys = both_after (n.word ∷ w) ns ys

pub names_then : (j k l : Found) (xs ys : List Name) → AddsNames j k xs → AddsNames k l ys → AddsNames j l (xs ++ ys)
names_then j k l xs ys g h = record {
  adds = λ ts w q.
      joins_as ts j l _ _ (sym (both_offences j.modules w xs ys))
      (joins_then ts j k l _ _ (g.adds ts w q)
      (subst (λ (m : Modules). Joins ts k l (seen_offences m (seen_after w xs) ys)) (g.adds ts w q).modules (h.adds ts (seen_after w xs) (g.seen w q))));
  seen = λ w q. subst (λ (ws : List Word). Binds l.seen ws) (sym (both_after w xs ys)) (h.seen (seen_after w xs) (g.seen w q));
}

pub names_as : (j k : Found) (xs ys : List Name) → xs ≡ ys → AddsNames j k xs → AddsNames j k ys
names_as j k xs ys e g = subst (λ (l : List Name). AddsNames j k l) e g

-- ---- one more in a loop

module _ {A : Type 0} (f : A → List Name) (xs : List A) where
  pub names_more : (j k l : Found) (i : ℕ) (x : A) → x ≡ get_or xs i x → i < length xs → AddsNames j k (flat_map f (take i xs)) → AddsNames k l (f x) → AddsNames j l (flat_map f (take (i + 1) xs))
  names_more j k l i x e less g h = names_as j l _ _ (more_of f xs i x e less) (names_then j k l (flat_map f (take i xs)) (f x) g h)

  pub names_all : (j k : Found) (i : ℕ) → length xs ≤ i → AddsNames j k (flat_map f (take i xs)) → AddsNames j k (flat_map f xs)
  names_all j k i less g = names_as j k _ _ (ap (flat_map f) (take_all i xs less)) g

pub one_each : {A : Type 0} (f : A → Name) (xs : List A) → flat_map (λ (x : A). f x ∷ []) xs ≡ map f xs
one_each f [] = refl
one_each f (x ∷ xs) = ap (λ (l : List Name). f x ∷ l) (one_each f xs)

pub themselves : (ns : List Name) → map (λ (n : Name). n) ns ≡ ns
themselves [] = refl
themselves (n ∷ ns) = ap (λ (l : List Name). n ∷ l) (themselves ns)

pub each_group : (gs : List (Vec Name Global)) → flat_map (λ (g : Vec Name Global). g.items) gs ≡ all_of (groups_of gs)
each_group [] = refl
each_group (g ∷ gs) = ap (λ (l : List Name). g.items ++ l) (each_group gs)

-- ---- a whole list

pub list_adds : (j k : Found) (z : List Word) (ns : List Name) → z ≡ [] → AddsNames (with_seen j z) k ns → (ts : List Tree) → Adds ts j k (bound ns ∷ [])
list_adds j k z ns e g ts =
    adds_one ts j k (bound ns) (let h = g.adds ts [] (subst (λ (ws : List Word). Binds ws []) (sym e) none_bound) in record { modules = h.modules; many = h.many; value = h.value })

-- ---- a list of one name

pub only_one : (gs : List (Vec Name Global)) (g : Vec Name Global) (n : Name) → length gs ≡ 1 → g ≡ get_or gs 0 g → length g.items ≡ 1 → n ≡ get_or g.items 0 n → all_of (groups_of gs) ≡ n ∷ []
only_one [] g n a b c d = absurd (omega (arith, a))
only_one (h ∷ []) g n a b c d = append-nil h.items ∙ ap (λ (v : Vec Name Global). v.items) (sym b) ∙ alone g.items c d
  where
    alone : (ns : List Name) → length ns ≡ 1 → n ≡ get_or ns 0 n → ns ≡ n ∷ []
    alone [] c d = absurd (omega (arith, c))
    alone (m ∷ []) c d = ap (λ (k : Name). k ∷ []) (sym d)
    alone (m ∷ k ∷ ns) c d = absurd (omega (arith, c))
only_one (h ∷ k ∷ gs) g n a b c d = absurd (omega (arith, a))

pub only_adds : (j k : Found) (ns : List Name) (n : Name) → ns ≡ n ∷ [] → ((ts : List Tree) → Adds ts j k (declares n ∷ [])) → (ts : List Tree) → Adds ts j k (bound ns ∷ [])
only_adds j k ns n e h ts =
    let rs = reserved_in j.modules n in
    subst (λ (ms : List Name). Adds ts j k (bound ms ∷ [])) (sym e)
    (record { joins = joins_as ts j k _ _ (sym (append-nil (rs ++ [])) ∙ sym (append-nil ((rs ++ []) ++ []))) ((h ts).joins) })
