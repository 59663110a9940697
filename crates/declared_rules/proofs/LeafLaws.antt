-- What one name offends, that is bound or for which other text may be put in.
use Rattle.std.proofs.Common.{◌≡◌, ℕ, ◌+◌, ◌<◌, ◌≤◌, length, drop, get_or, Bool, true, false, not, ◌&&◌, ◌||◌, List, [], ◌∷◌, ◌++◌, map, Option, cond, refl, sym, ap, ◌∙◌, append-nil, append_assoc, subst}
use Rattle.std.specs.Prelude.{if◌then◌else◌}
use Rattle.std.specs.List.{list_any, flat_map}
use Rattle.std.proofs.lemmas.Bool.{and_parts}
use Rattle.std.proofs.lemmas.List.{drop_more, drop_all}
use Rattle.std.proofs.lemmas.List.Folds.{list_any-append}
use Rattle.std.proofs.Math.Bool.{or-false}
use Rattle.indexmap.specs.IndexSet.{insert_key}
use Rattle.tla_token.specs.declared.rule.Rule.TheVariants.{Rebind}
use Rattle.tla_token.specs.declared.rule.Refusal.{Refusal}
use Rattle.tla_token.specs.Signs.{is_among}
use Rattle.tla_tree.specs.Tree.{Word, Name}
use Rattle.algorithm_limits.proofs.Tables.{equal}
use Rattle.algorithm_answer.specs.Joined.{joined}
use Rattle.algorithm_answer.proofs.Joins.{first_append}
use Rattle.algorithm_answer.proofs.Covers.{Covers, covers_behind, covers_if, covers_in}
use Rattle.module_outside.specs.ModulesIn.{AreModules}
use Rattle.pcal_tree.specs.Offences.{offence_if, first}
use Rattle.pcal_tree.specs.OffencesRebind.{Standings, naming, in_scope, brought, may_rebind, rebound, rebound_all}
use Rattle.pcal_tree.specs.laws.MacroBindings.{standing, beneath, offences_where, none_found, unsettled, bound_inside, standing_inside, offences_seen}
use Rattle.pcal_tree.proofs.FirstLaws.{same_first}
use Rattle.pcal_tree.proofs.SetLaws.{any_flat, any_union}
use Rattle.pcal_tree.proofs.RebindNames.{scope_of_names, says_bound, says_standing}
use Rattle.declared_rules.specs.Held.{same_held, held_sound}
use Rattle.declared_rules.specs.declared.binding.Binding.{Binding}
use Rattle.declared_rules.specs.declared.binding.Binding.TheVariants.{Bound, Standing, Beneath}
use Rattle.declared_rules.specs.declared.sight.Sight.{Sight}
use Rattle.declared_rules.specs.declared.bind_walk.Walk.{Walk}
use Rattle.declared_rules.specs.Telling.{binding_of, IsEarlier, sure, held_where, told, Seen, Gains, Adds}
use Rattle.declared_rules.proofs.ScopeLaws.{among_any}
use Rattle.declared_rules.proofs.TellLaws.{first_same_after, first_then, first_sure, gains_adds}

-- ---- an offence

pub first_turned : (a b c : List Refusal) → first ((a ++ b) ++ c) ≡ first ((a ++ c) ++ b)
first_turned a b c = same_first ((a ++ b) ++ c) ((a ++ c) ++ b) (λ f. parted f a b c ∙ turned (list_any f a) (list_any f b) (list_any f c) ∙ sym (parted f a c b))
  where
    parted : (f : Refusal → Bool) (a b c : List Refusal) → list_any f ((a ++ b) ++ c) ≡ ((list_any f a || list_any f b) || list_any f c)
    parted f a b c = list_any-append f (a ++ b) c ∙ ap (λ (t : Bool). t || list_any f c) (list_any-append f a b)

    turned : (x y z : Bool) → ((x || y) || z) ≡ ((x || z) || y)
    turned true y z = refl
    turned false true true = refl
    turned false true false = refl
    turned false false true = refl
    turned false false false = refl

pub gains_first : (j k : Walk) (R : List Refusal) → k.bound ≡ j.bound → k.free ≡ j.free → k.first ≡ joined j.first (first R) → Gains j k (λ ms s. R)
gains_first j k R e g h = record {
  bound = e;
  tells = λ ms s.
      let H = held_where ms s j.free.keys in
      (λ i. first (sure k.first ++ held_where ms s (g i).keys))
      ∙ first_same_after (sure k.first) (sure j.first ++ R) H (first_sure k.first ∙ h ∙ ap (λ (o : Option Refusal). joined o (first R)) (sym (first_sure j.first)) ∙ sym (first_append (sure j.first) R))
      ∙ first_turned (sure j.first) R H;
}

-- ---- what may offend, each once

insert_any : (F : Binding → Bool) (bs : List Binding) (b : Binding) → list_any F (insert_key same_held bs b) ≡ (list_any F bs || F b)
insert_any F bs b = by (list_any (same_held b) bs) refl
  where
    turned : (u x : Bool) → ((u || false) || x) ≡ (x || u)
    turned true true = refl
    turned true false = refl
    turned false true = refl
    turned false false = refl

    by : (c : Bool) → list_any (same_held b) bs ≡ c → list_any F (if c then bs else bs ++ b ∷ []) ≡ (list_any F bs || F b)
    by true e = ap (λ (c : Bool). list_any F (cond c bs (b ∷ bs))) (sym e) ∙ any_union same_held held_sound F (b ∷ []) bs ∙ turned (F b) (list_any F bs)
    by false e = list_any-append F bs (b ∷ []) ∙ ap (λ (t : Bool). list_any F bs || t) (or-false (F b))

pub gains_keep : (j k : Walk) (b : Binding) → k.bound ≡ j.bound → k.first ≡ j.first → k.free.keys ≡ insert_key same_held j.free.keys b → Gains j k (λ ms s. offences_where ms s (binding_of b))
gains_keep j k b e g h = record {
  bound = e;
  tells = λ ms s.
      let O : Binding → List Refusal = λ v. offences_where ms s (binding_of v) in
      (λ i. first (sure (g i) ++ held_where ms s (h i)))
      ∙ same_first (sure j.first ++ held_where ms s (insert_key same_held j.free.keys b)) ((sure j.first ++ held_where ms s j.free.keys) ++ O b) (λ f.
      list_any-append f (sure j.first) (held_where ms s (insert_key same_held j.free.keys b))
      ∙ ap (λ (t : Bool). list_any f (sure j.first) || t)
      (any_flat f O (insert_key same_held j.free.keys b) ∙ insert_any (λ v. list_any f (O v)) j.free.keys b ∙ ap (λ (t : Bool). t || list_any f (O b)) (sym (any_flat f O j.free.keys))
      ∙ sym (list_any-append f (held_where ms s j.free.keys) (O b)))
      ∙ sym (list_any-append f (sure j.first) (held_where ms s j.free.keys ++ O b)) ∙ ap (list_any f) (sym (append_assoc (sure j.first) (held_where ms s j.free.keys) (O b))));
}

-- ---- what an earlier one tells

covers_earlier : (ms : List Word) (s : Standings) (b : Binding) (n : Name) → IsEarlier b n → Covers (offences_where ms s (binding_of b)) (rebound ms s n)
covers_earlier ms s (Bound x) n h =
    subst (λ (y : Word). Covers (rebound ms s x) (offence_if (in_scope s y && may_rebind ms y) Rebind n.place)) h.0
    (covers_if (in_scope s x.word && may_rebind ms x.word) Rebind x.place n.place h.1)
covers_earlier ms s (Standing x) n h = cc
covers_earlier ms s (Beneath x y) n h = cc

pub gains_told : (w : Walk) (bs : List Binding) (i : ℕ) (b : Binding) (n : Name) → bs ≡ w.free.keys → b ≡ get_or bs i b → i < length bs → IsEarlier b n → Gains w w (λ ms s. rebound ms s n)
gains_told w bs i b n e g l h = record {
  bound = refl;
  tells = λ ms s.
      sym (first_append (told ms w s) (rebound ms s n)
      ∙ covers_behind (sure w.first) (held_where ms s w.free.keys) (rebound ms s n)
      (covers_in (λ v. offences_where ms s (binding_of v)) bs w.free.keys i b (rebound ms s n) e g l (covers_earlier ms s b n h)));
}

pub gains_then : (j k l : Walk) (f h : List Word → Standings → List Refusal) → Gains j k f → Gains k l h → Gains j l (λ ms s. f ms s ++ h ms s)
gains_then j k l f h a b = record {
  bound = b.bound ∙ a.bound;
  tells = λ ms s. first_then (told ms k s) (told ms j s) (f ms s) (h ms s) (told ms l s) (a.tells ms s) (b.tells ms s);
}

pub gains_none : (j : Walk) → Gains j j (λ ms s. [])
gains_none j = record { bound = refl; tells = λ ms s. ap first (sym (append-nil (told ms j s))) }

pub gains_as : (j k : Walk) (f h : List Word → Standings → List Refusal) → ((ms : List Word) (s : Standings) → f ms s ≡ h ms s) → Gains j k f → Gains j k h
gains_as j k f h e a = record { bound = a.bound; tells = λ ms s. a.tells ms s ∙ ap (λ (rs : List Refusal). first (told ms j s ++ rs)) (e ms s) }

-- ---- a name that is bound

pub name_adds : (g : Sight) (K : Word → Bool) (j k l : Walk) (n : Name) (a b : Bool) → a ≡ list_any (equal n.word) j.bound → ((ms : List Word) → AreModules g.modules ms → b ≡ (a && may_rebind ms n.word))
    → Gains j k (λ ms s. offence_if b Rebind n.place) → Gains k l (λ ms s. rebound ms s n) → Adds g K j l (λ ms r. rebound ms r n)
name_adds g K j k l n a b e h u v =
    gains_adds g K j l _ (λ ms r. rebound ms r n) (gains_then j k l (λ ms s. offence_if b Rebind n.place) (λ ms s. rebound ms s n) u v) (λ ms s r q.
    ap first ((λ i. offence_if (is ms q.modules i) Rebind n.place ++ sym (append-nil (rebound ms s n)) i))
    ∙ sym (same_first (rebound ms r n) (offences_seen ms (bound_inside ms j.bound n) s) (says_bound ms j.bound s r q.around n)))
  where
    is : (ms : List Word) → AreModules g.modules ms → b ≡ (in_scope (naming j.bound []) n.word && may_rebind ms n.word)
    is ms m = h ms m ∙ ap (λ (t : Bool). t && may_rebind ms n.word) (e ∙ among_any j.bound n.word ∙ sym (scope_of_names j.bound n.word))

-- ---- a name for which other text may be put in

abbrev pub Opens : Sight → Walk → Word → Bool
Opens g w x = list_any (equal x) g.stands && not (list_any (equal x) w.bound)

cond_same : {X : Type 0} (b : Bool) (x : X) → cond b x x ≡ x
cond_same true x = refl
cond_same false x = refl

-- what is put in where it is
pub put_seen : (g : Sight) (K : Word → Bool) (w : Walk) (ms : List Word) (s r : Standings) (x : Word) → Seen g K w ms s r → cond (K x) (brought r x) [] ≡ cond (is_among w.bound x) [] (cond (is_among g.stands x) (brought s x) [])
put_seen g K w ms s r x q = ap (λ (ns : List Name). cond (K x) ns []) (q.around.1 x) ∙ by (is_among w.bound x)
  where
    by : (b : Bool) → cond (K x) (cond b [] (brought s x)) [] ≡ cond b [] (cond (is_among g.stands x) (brought s x) [])
    by true = cond_same (K x) []
    by false = q.lets x

closed_is : (g : Sight) (K : Word → Bool) (w : Walk) (ms : List Word) (s r : Standings) (x : Word) → Seen g K w ms s r → Opens g w x ≡ false → cond (K x) (brought r x) [] ≡ []
closed_is g K w ms s r x q e = put_seen g K w ms s r x q ∙ by (is_among g.stands x) (is_among w.bound x) (sym (λ i. among_any g.stands x i && not (among_any w.bound x i)) ∙ e)
  where
    by : (a b : Bool) → (a && not b) ≡ false → cond b [] (cond a (brought s x) []) ≡ []
    by true true e = refl
    by true false e = cc
    by false true e = refl
    by false false e = refl

-- ---- where nothing may be put in

pub closed_standing : (g : Sight) (K : Word → Bool) (j : Walk) (x : Word) → Opens g j x ≡ false → Adds g K j j (λ ms r. rebound_all ms r (cond (K x) (brought r x) []))
closed_standing g K j x e = record {
  bound = refl;
  tells = λ ms s r q. ap first (sym (append-nil (told ms j s)) ∙ ap (λ (ns : List Name). told ms j s ++ rebound_all ms r ns) (sym (closed_is g K j ms s r x q e)));
}

pub closed_beneath : (g : Sight) (K : Word → Bool) (j : Walk) (x y : Word) → Opens g j x ≡ false → Adds g K j j (λ ms r. rebound_all ms (naming (y ∷ []) []) (cond (K x) (brought r x) []))
closed_beneath g K j x y e = record {
  bound = refl;
  tells = λ ms s r q. ap first (sym (append-nil (told ms j s)) ∙ ap (λ (ns : List Name). told ms j s ++ rebound_all ms (naming (y ∷ []) []) ns) (sym (closed_is g K j ms s r x q e)));
}

-- ---- where it may be put in

not_is : (b : Bool) → not b ≡ true → b ≡ false
not_is true e = sym e
not_is false e = refl

opens_is : (g : Sight) (w : Walk) (x : Word) → Opens g w x ≡ true → (is_among g.stands x ≡ true) × (is_among w.bound x ≡ false)
opens_is g w x e =
    let h = and_parts (is_among g.stands x) (not (is_among w.bound x)) (sym (λ i. among_any g.stands x i && not (among_any w.bound x i)) ∙ e) in (h.0, not_is (is_among w.bound x) h.1)

open_put : (g : Sight) (K : Word → Bool) (w : Walk) (ms : List Word) (s r : Standings) (x : Word) → Seen g K w ms s r → Opens g w x ≡ true → cond (K x) (brought r x) [] ≡ brought s x
open_put g K w ms s r x q e = let h = opens_is g w x e in put_seen g K w ms s r x q ∙ (λ i. cond (h.1 i) [] (cond (h.0 i) (brought s x) []))

open_brought : (g : Sight) (K : Word → Bool) (w : Walk) (ms : List Word) (s r : Standings) (x : Word) → Seen g K w ms s r → Opens g w x ≡ true → brought r x ≡ brought s x
open_brought g K w ms s r x q e = q.around.1 x ∙ ap (λ (b : Bool). cond b [] (brought s x)) (opens_is g w x e).1

pub open_standing : (g : Sight) (K : Word → Bool) (j k l : Walk) (x : Word) → Opens g j x ≡ true → Gains j k (λ ms s. rebound_all ms s (brought s x)) → Gains k l (λ ms s. flat_map (offences_where ms s) (map (beneath x) k.bound))
    → Adds g K j l (λ ms r. rebound_all ms r (cond (K x) (brought r x) []))
open_standing g K j k l x e a b =
    gains_adds g K j l _ (λ ms r. rebound_all ms r (cond (K x) (brought r x) [])) (gains_then j k l (λ ms s. rebound_all ms s (brought s x)) (λ ms s. flat_map (offences_where ms s) (map (beneath x) k.bound)) a b) (λ ms s r q.
    (λ i. first (rebound_all ms s (brought s x) ++ flat_map (offences_where ms s) (map (beneath x) (a.bound i))))
    ∙ ap (λ (t : Bool). first (offences_seen ms (cond t none_found (unsettled (standing x ∷ map (beneath x) j.bound))) s)) (sym (opens_is g j x e).1)
    ∙ sym (same_first (rebound_all ms r (brought r x)) (offences_seen ms (standing_inside j.bound x) s) (says_standing ms j.bound s r q.around x))
    ∙ ap (λ (ns : List Name). first (rebound_all ms r ns)) (open_brought g K j ms s r x q e ∙ sym (open_put g K j ms s r x q e)))

pub open_beneath : (g : Sight) (K : Word → Bool) (j k : Walk) (x y : Word) → Opens g j x ≡ true → Gains j k (λ ms s. rebound_all ms (naming (y ∷ []) []) (brought s x))
    → Adds g K j k (λ ms r. rebound_all ms (naming (y ∷ []) []) (cond (K x) (brought r x) []))
open_beneath g K j k x y e a =
    gains_adds g K j k _ (λ ms r. rebound_all ms (naming (y ∷ []) []) (cond (K x) (brought r x) [])) a (λ ms s r q. ap (λ (ns : List Name). first (rebound_all ms (naming (y ∷ []) []) ns)) (sym (open_put g K j ms s r x q e)))

-- ---- under each name that is bound

abbrev pub Beneaths : Word → List Word → List Word → Standings → List Refusal
Beneaths x ys ms s = flat_map (offences_where ms s) (map (beneath x) ys)

pub record UnderBound (old now : Walk) (x : Word) (i : ℕ) : Type 0 where
  pub bound : now.bound ≡ old.bound
  pub rest : (k : Walk) → Gains now k (Beneaths x (drop i old.bound)) → Gains old k (Beneaths x old.bound)

pub under_then : (old now next : Walk) (x y : Word) (i : ℕ) → y ≡ get_or old.bound i y → i < length old.bound → Gains now next (λ ms s. offences_where ms s (beneath x y)) → UnderBound old now x i → UnderBound old next x (i + 1)
under_then old now next x y i is less a h = record {
  bound = a.bound ∙ h.bound;
  rest = λ k g.
      h.rest k
      (gains_as now k _ _ (λ ms s. ap (λ (ys : List Word). Beneaths x ys ms s) (ap (λ (z : Word). z ∷ drop (i + 1) old.bound) is ∙ sym (drop_more old.bound i y less)))
      (gains_then now next k (λ ms s. offences_where ms s (beneath x y)) (Beneaths x (drop (i + 1) old.bound)) a g));
}

pub under_done : (old now : Walk) (x : Word) (i : ℕ) → length old.bound ≤ i → UnderBound old now x i → Gains old now (Beneaths x old.bound)
under_done old now x i less h = h.rest now (gains_as now now _ _ (λ ms s. ap (λ (ys : List Word). Beneaths x ys ms s) (sym (drop_all i old.bound less))) (gains_none now))
