-- What is kept of macros and procedures, as more is kept.
use Rattle.std.proofs.Common.{◌≡◌, ℕ, ◌+◌, ◌<◌, length, take, get_or, Bool, true, false, List, [], ◌∷◌, ◌++◌, Option, Some, None, refl, sym, ap, ◌∙◌, subst, cond, bytes_eq, true≢false}
use Rattle.std.specs.Prelude.{if◌then◌else◌}
use Rattle.std.specs.Map.{lookup}
use Rattle.std.proofs.lemmas.List.{take_more}
use Rattle.std.proofs.lemmas.Bool.{or_left, or_right}
use Rattle.std.proofs.lemmas.Slice.Eq.{bytes_eq-Decides}
use Rattle.indexmap.specs.IndexMap.{insert_entry}
use Rattle.tla_token.specs.declared.rule.Refusal.{Refusal}
use Rattle.tla_token.specs.Signs.{is_among}
use Rattle.tla_tree.specs.Tree.{Word, Name, Trees, no_trees, tree, words}
use Rattle.algorithm_limits.proofs.Tables.{equal, equal_is, equal_itself, same_test}
use Rattle.module_outside.specs.ModulesIn.{AreModules}
use Rattle.pcal_tree.specs.Offences.{first}
use Rattle.pcal_tree.proofs.RebindNames.{around_none}
use Rattle.pcal_tree.specs.OffencesRebind.{Standings, naming, brought, rebound_all, any_name, bound_by, Calls, putting_in}
use Rattle.declared_rules.specs.declared.sight.Sight.{Sight}
use Rattle.declared_rules.specs.declared.bind_walk.Walk.{Walk}
use Rattle.declared_rules.specs.declared.kept.Kept.{Kept}
use Rattle.declared_rules.specs.declared.kept.Keeps.{Keeps}
use Rattle.declared_rules.specs.Telling.{sure, held_where, told, Around, Lets, IsNew, Adds}
use Rattle.algorithm_limits.specs.DepthsIn.{Hides}
use Rattle.declared_rules.proofs.TellLaws.{adds_as, adds_then, adds_within, naming_alone}
use Rattle.declared_rules.specs.Keeping.{Within, kept_by, kept_tells, Tells, Means}

-- ---- what is found in a text that is gone through alone

pub found_tells : (g : Sight) (K : Word → Bool) (w v : Walk) (f : List Word → Standings → List Refusal) → IsNew w → Adds g K w v f → Tells g K v f
found_tells g K w v f n a ms s m l =
    a.tells ms s s (record { modules = m; lets = l; around = subst (λ (xs : List Word). Around xs s s) (sym n.bound) (around_none s) })
    ∙ (λ i. first ((sure (n.first i) ++ held_where ms s (n.free i)) ++ f ms s))

-- ---- one more is kept

lookup_insert : (es : List (Word × Kept)) (x : Word) (v : Kept) (y : Word) → lookup (equal y) (insert_entry equal es x v) ≡ cond (bytes_eq x y) (Some v) (lookup (equal y) es)
lookup_insert [] x v y = ap (λ (b : Bool). cond b (Some v) None) (same_test y x)
lookup_insert (e ∷ es) x v y = by (equal x e.0) refl (lookup_insert es x v y)
  where
    L : Option Kept
    L = lookup (equal y) es

    again : (b : Bool) → cond b (Some v) L ≡ cond b (Some v) (cond b (Some e.1) L)
    again true = refl
    again false = refl

    apart : equal x e.0 ≡ false → (b c : Bool) → equal y e.0 ≡ b → bytes_eq x y ≡ c → cond b (Some e.1) (cond c (Some v) L) ≡ cond c (Some v) (cond b (Some e.1) L)
    apart h true true k j = absurd (true≢false (sym (equal_itself e.0) ∙ ap (λ (z : Word). equal z e.0) (sym ((bytes_eq-Decides x y).0 j ∙ equal_is y e.0 k)) ∙ h))
    apart h true false k j = refl
    apart h false c k j = refl

    by : (b : Bool) → equal x e.0 ≡ b → lookup (equal y) (insert_entry equal es x v) ≡ cond (bytes_eq x y) (Some v) L
        → lookup (equal y) (if b then (e.0, v) ∷ es else e ∷ insert_entry equal es x v) ≡ cond (bytes_eq x y) (Some v) (cond (equal y e.0) (Some e.1) L)
    by true h rest =
        let is : equal y e.0 ≡ bytes_eq x y = ap (equal y) (sym (equal_is x e.0 h)) ∙ same_test y x in
        ap (λ (b : Bool). cond b (Some v) L) is ∙ again (bytes_eq x y) ∙ ap (λ (b : Bool). cond (bytes_eq x y) (Some v) (cond b (Some e.1) L)) (sym is)
    by false h rest = ap (λ (o : Option Kept). cond (equal y e.0) (Some e.1) o) rest ∙ apart h (equal y e.0) (bytes_eq x y) refl refl

-- ---- where arguments are put in

within_more : (P : List Word) (p : Name) (ps : List Name) → Within P (words (p ∷ ps)) → Within P (words ps)
within_more P p ps h x e = h x (or_right (bytes_eq p.word x) (is_among (words ps) x) e)

pub lets_putting : (P : List Word) (ps : List Name) (ts : Trees) (s r : Standings) → Within P (words ps) → Lets any_name P r → Lets any_name P (putting_in ps ts s r)
lets_putting P [] ts s r h l x = l x
lets_putting P (p ∷ ps) no_trees s r h l x = l x
lets_putting P (p ∷ ps) (tree t ts) s r h l x = by (bytes_eq p.word x) refl (lets_putting P ps ts s r (within_more P p ps h) l x)
  where
    inner : Standings
    inner = putting_in ps ts s r

    by : (b : Bool) → bytes_eq p.word x ≡ b → brought inner x ≡ cond (is_among P x) (brought inner x) [] → cond b (bound_by t s) (brought inner x) ≡ cond (is_among P x) (cond b (bound_by t s) (brought inner x)) []
    by true e k = ap (λ (c : Bool). cond c (bound_by t s) []) (sym (h x (or_left (bytes_eq p.word x) (is_among (words ps) x) e)))
    by false e k = k

pub means_none : (g : Sight) (P : List Word) (ks : Keeps) (C : List Word → Calls) → ((ms : List Word) (s : Standings) (x : Word) (ts : Trees) → C ms s x ts ≡ []) → ks.kept.entries ≡ [] → Means g P ks C
means_none g P ks C h e ms m s l x ts = ap (λ (es : List (Word × Kept)). first (kept_tells ms (lookup (equal x) es) s ts)) e ∙ ap first (sym (h ms s x ts))

pub means_more : (g : Sight) (P : List Word) (old new : Keeps) (C : List Word → Calls) (B : List Word → Standings → List Refusal) (title : Word) (d : Kept) (params : List Name)
    → new.kept.entries ≡ insert_entry equal old.kept.entries title d → d.params.items ≡ params → Within P (words params)
    → ((ms : List Word) (s : Standings) → AreModules g.modules ms → Lets any_name P s → first (told ms d.found s) ≡ first (B ms s)) → Means g P old C
    → Means g P new (λ ms s x ts. cond (bytes_eq title x) (B ms (putting_in params ts s s)) (C ms s x ts))
means_more g P old new C B title d params e is w f h ms m s l x ts =
    ap (λ (o : Option Kept). first (kept_tells ms o s ts)) (ap (lookup (equal x)) e ∙ lookup_insert old.kept.entries title d x) ∙ by (bytes_eq title x)
  where
    by : (b : Bool) → first (kept_tells ms (cond b (Some d) (kept_by old x)) s ts) ≡ first (cond b (B ms (putting_in params ts s s)) (C ms s x ts))
    by true = ap (λ (ps : List Name). first (told ms d.found (putting_in ps ts s s))) is ∙ f ms (putting_in params ts s s) m (lets_putting P params ts s s w l)
    by false = h ms m s l x ts

-- ---- a macro's own text

pub no_puts : (ps : List Name) (s r : Standings) → putting_in ps no_trees s r ≡ r
no_puts [] s r = refl
no_puts (p ∷ ps) s r = refl

pub text_adds : (g : Sight) (i j k l m : Walk) (d : Kept) → Adds g any_name i j (λ ms r. rebound_all ms r d.params.items) → k.first ≡ j.first → k.free ≡ j.free → Hides j.bound k.bound (words d.params.items)
    → Adds g any_name k l (λ ms r. told ms d.found (putting_in d.params.items no_trees r r)) → m.first ≡ l.first → m.free ≡ l.free → m.bound ≡ take (length j.bound) l.bound
    → Adds g any_name i m (λ ms r. rebound_all ms r d.params.items ++ told ms d.found (naming (words d.params.items) r))
text_adds g i j k l m d u first free h v same kept cut =
    adds_then g any_name i j m (λ ms r. rebound_all ms r d.params.items) (λ ms r. told ms d.found (naming xs r)) u
    (adds_as g any_name j m (λ ms r. [] ++ told ms d.found (putting_in d.params.items no_trees (naming xs r) (naming xs r))) (λ ms r. told ms d.found (naming xs r)) (λ ms r. ap (told ms d.found) (no_puts d.params.items (naming xs r) (naming xs r)))
    (adds_within g any_name j k l m xs (λ ms r. []) (λ ms r. told ms d.found (putting_in d.params.items no_trees r r)) (naming_alone g any_name j k xs first free h) v same kept cut))
  where
    xs : List Word
    xs = words d.params.items

pub copied_more : (ns : List Name) (i : ℕ) (n m : Name) (old new : List Name) → n ≡ get_or ns i n → i < length ns → m ≡ n → new ≡ old ++ m ∷ [] → old ≡ take i ns → new ≡ take (i + 1) ns
copied_more ns i n m old new e l is h k = h ∙ (λ j. k j ++ is j ∷ []) ∙ sym (take_more ns i n l ∙ ap (λ (z : Name). take i ns ++ z ∷ []) (sym e))
