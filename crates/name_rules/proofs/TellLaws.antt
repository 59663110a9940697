-- What is found of one thing after another.
use Rattle.std.proofs.Common.{◌≡◌, List, [], ◌∷◌, ◌++◌, Bool, true, false, ◌||◌, cond, bytes_eq, Option, Some, refl, sym, ap, ◌∙◌, subst}
use Rattle.std.specs.List.{list_any, flat_map}
use Rattle.std.proofs.lemmas.List.Folds.{list_any-append}
use Rattle.tla_token.specs.declared.place.Place.{Place}
use Rattle.tla_token.specs.declared.rule.Refusal.{Refusal}
use Rattle.tla_token.specs.Signs.{is_among}
use Rattle.tla_tree.specs.Tree.{Word}
use Rattle.pcal_tree.specs.Offences.{first}
use Rattle.pcal_tree.specs.NameUses as names
use Rattle.pcal_tree.specs.NameUses.{takes, Sight, use_of, seeing_plain}
use Rattle.pcal_tree.specs.laws.MacroUses.{offences_as}
use Rattle.pcal_tree.proofs.SetLaws.{Sound}
use Rattle.algorithm_answer.specs.Joined.{joined}
use Rattle.algorithm_answer.proofs.Joins.{joined_assoc, joined_none, first_append, joined_swapped}
use Rattle.algorithm_limits.specs.DepthsIn.{Hides}
use Rattle.algorithm_limits.proofs.Tables.{equal, same_test}
use Rattle.indexmap.specs.IndexSet.{insert_key}
use Rattle.declared_rules.specs.declared.using.Kind.{Kind}
use Rattle.declared_rules.specs.declared.using.NameUse.{NameUse}
use Rattle.name_rules.specs.declared.found.Found.{Found}
use Rattle.declared_rules.specs.UsesTold.{use_as, used, looked, told_by, Inside}
use Rattle.name_rules.specs.Finding.{told, Tells}
use Rattle.name_rules.proofs.JoinLaws.{kept_once}

-- ---- one after another

pub tells_none : (u : Found) → Tells u u (λ r. [])
tells_none u = record { bound = refl; tells = λ s r h. sym (joined_none (told u s)) }

pub tells_where : (j k : Found) (f g : Sight → List Refusal) → ((s r : Sight) → Inside j.bound s r → first (f r) ≡ first (g r)) → Tells j k f → Tells j k g
tells_where j k f g e a = record { bound = a.bound; tells = λ s r h. a.tells s r h ∙ ap (joined (told j s)) (e s r h) }

pub tells_first : (j k : Found) (f g : Sight → List Refusal) → ((r : Sight) → first (f r) ≡ first (g r)) → Tells j k f → Tells j k g
tells_first j k f g e a = tells_where j k f g (λ s r h. e r) a

pub tells_as : (j k : Found) (f g : Sight → List Refusal) → ((r : Sight) → f r ≡ g r) → Tells j k f → Tells j k g
tells_as j k f g e a = tells_where j k f g (λ s r h. ap first (e r)) a

pub tells_then : (j k l : Found) (f g : Sight → List Refusal) → Tells j k f → Tells k l g → Tells j l (λ r. f r ++ g r)
tells_then j k l f g a h = record {
  bound = h.bound ∙ a.bound;
  tells = λ s r i.
      h.tells s r (subst (λ (hs : List Word). Inside hs s r) (sym a.bound) i) ∙ ap (λ (o : Option Refusal). joined o (first (g r))) (a.tells s r i)
      ∙ joined_assoc (told j s) (first (f r)) (first (g r)) ∙ ap (joined (told j s)) (sym (first_append (f r) (g r)));
}

-- ---- an offence, and a use

pub tells_refused : (old new : Found) (o : Option Refusal) (rs : List Refusal) → o ≡ first rs → new.first ≡ joined old.first o → new.free.keys ≡ old.free.keys → new.bound ≡ old.bound
    → Tells old new (λ r. rs)
tells_refused old new o rs e f k b = record {
  bound = b;
  tells = λ s r h.
      (λ i. told_by (f i) (k i) s) ∙ joined_swapped old.first o (first (flat_map (looked s) old.free.keys)) ∙ ap (joined (told old s)) e;
}

pub tells_bound : (old new : Found) (k : Kind) (x : Word) (at : Place) → list_any (equal x) old.bound ≡ true → Tells old new (λ r. offences_as (Some (takes 0)) (use_as k x at)) → Tells old new (used k x at)
tells_bound old new k x at e a =
    tells_where old new (λ r. offences_as (Some (takes 0)) (use_as k x at)) (used k x at)
    (λ s r h. ap (λ (o : Option names.Use). first (offences_as o (use_as k x at))) (sym (h x ∙ ap (λ (b : Bool). cond b (Some (takes 0)) (use_of s x)) e))) a

pub tells_free : (same : NameUse → NameUse → Bool) → Sound same → (old new : Found) (v : NameUse) → list_any (equal v.name) old.bound ≡ false
    → new.first ≡ old.first → new.free.keys ≡ insert_key same old.free.keys v → new.bound ≡ old.bound → Tells old new (used v.kind v.name (record { line = v.line; col = v.col }))
tells_free same sound old new v e f k b = record {
  bound = b;
  tells = λ s r h.
      (λ i. told_by (f i) (k i) s) ∙ ap (joined old.first) (kept_once (looked s) same sound old.free.keys v)
      ∙ sym (joined_assoc old.first (first (flat_map (looked s) old.free.keys)) (first (looked s v)))
      ∙ ap (λ (o : Option names.Use). joined (told old s) (first (offences_as o (use_as v.kind v.name (record { line = v.line; col = v.col })))))
      (sym (h v.name ∙ ap (λ (c : Bool). cond c (Some (takes 0)) (use_of s v.name)) e));
}

pub tells_again : (k : Found) (d : Kind) (x : Word) (p : Place) → list_any (equal x) k.bound ≡ false → ((s : Sight) → joined (told k s) (first (used d x p s)) ≡ told k s) → Tells k k (used d x p)
tells_again k d x p e h = record {
  bound = refl;
  tells = λ s r i. sym (h s) ∙ ap (λ (o : Option names.Use). joined (told k s) (first (offences_as o (use_as d x p)))) (sym (i x ∙ ap (λ (c : Bool). cond c (Some (takes 0)) (use_of s x)) e));
}

-- ---- names that are bound

among_any : (bs : List Word) (x : Word) → list_any (equal x) bs ≡ is_among bs x
among_any [] x = refl
among_any (b ∷ bs) x = λ i. same_test x b i || among_any bs x i

around : (ys : List Word) (r : Sight) (x : Word) → use_of (seeing_plain ys r) x ≡ cond (is_among ys x) (Some (takes 0)) (use_of r x)
around [] r x = refl
around (y ∷ ys) r x = by (bytes_eq y x) (around ys r x)
  where
    by : (b : Bool) → use_of (seeing_plain ys r) x ≡ cond (is_among ys x) (Some (takes 0)) (use_of r x)
        → cond b (Some (takes 0)) (use_of (seeing_plain ys r) x) ≡ cond (b || is_among ys x) (Some (takes 0)) (use_of r x)
    by true h = refl
    by false h = h

pub inside_more : (old new ys : List Word) (s r : Sight) → Inside old s r → Hides old new ys → Inside new s (seeing_plain ys r)
inside_more old new ys s r h k x =
    around ys r x ∙ ap (λ (o : Option names.Use). cond (is_among ys x) (Some (takes 0)) o) (h x)
    ∙ by (is_among ys x) (list_any (equal x) old) (use_of s x)
    ∙ ap (λ (b : Bool). cond b (Some (takes 0)) (use_of s x)) (sym (k.has x ∙ list_any-append (equal x) old ys ∙ ap (λ (b : Bool). list_any (equal x) old || b) (among_any ys x)))
  where
    by : (a b : Bool) (o : Option names.Use) → cond a (Some (takes 0)) (cond b (Some (takes 0)) o) ≡ cond (b || a) (Some (takes 0)) o
    by true true o = refl
    by true false o = refl
    by false true o = refl
    by false false o = refl

pub inside_none : (s : Sight) → Inside [] s s
inside_none s x = refl

pub inside_all : (new ys : List Word) (s : Sight) → Hides [] new ys → Inside new s (seeing_plain ys s)
inside_all new ys s k = inside_more [] new ys s s (inside_none s) k
