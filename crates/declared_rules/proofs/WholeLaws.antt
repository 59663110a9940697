-- The first offence of an algorithm is what was found at last.
use Rattle.std.proofs.Common.{◌≡◌, ℕ, ◌+◌, ◌<◌, Bool, true, false, ◌||◌, List, [], ◌∷◌, ◌++◌, length, take, map, reverse, get_or, None, refl, sym, ap, ◌∙◌, subst, cond, bytes_eq, codes, append-nil}
use Rattle.std.specs.List.{list_any, flat_map}
use Rattle.std.proofs.lemmas.List.{take_more}
use Rattle.std.proofs.lemmas.List.Folds.{list_any-append}
use Rattle.std.proofs.lemmas.Grind.{flat_map-append}
use Rattle.std.proofs.lemmas.Bool.{or_left, or_right}
use Rattle.tla_token.specs.declared.rule.Refusal.{Refusal}
use Rattle.tla_token.specs.Signs.{is_among}
use Rattle.tla_tree.specs.Tree.{Word, Name, Tree, words}
use Rattle.tla_value.specs.Outside.{Outside}
use Rattle.algorithm_limits.specs.DepthsIn.{Hides}
use Rattle.algorithm_limits.proofs.BoundLemmas.{hides_then, hides_as}
use Rattle.module_outside.specs.declared.modules.Modules.{Modules}
use Rattle.module_outside.specs.ModulesIn.{AreModules}
use Rattle.module_outside.proofs.SightLaws.{binds_more}
use Rattle.pcal_tree.specs.declared.algorithm.Macro as declared
use Rattle.pcal_tree.specs.declared.algorithm.Algorithm as declared_algorithm
use Rattle.pcal_tree.specs.Algorithm.{Definition, Procedure, Algorithm}
use Rattle.pcal_tree.specs.InMemory.{macro_at, procedure_at, algorithm_at}
use Rattle.pcal_tree.specs.Offences.{first}
use Rattle.pcal_tree.specs.Outside.{unit_names}
use Rattle.pcal_tree.specs.Variables.{declared}
use Rattle.pcal_tree.specs.OffencesRebind.{Standings, any_name, self_alone, starts_rebind, call_rebinds, Calls, macro_rebinds, texts_rebind, procedure_rebinds, main_rebinds, definitions_rebind, standing_outside, standing_inside, rebind_offences_of}
use Rattle.pcal_tree.proofs.FirstLaws.{same_first}
use Rattle.pcal_tree.proofs.RebindNames.{around_none}
use Rattle.declared_rules.specs.declared.binding.Binding.{Binding}
use Rattle.declared_rules.specs.declared.binding.Binding.TheVariants as held
use Rattle.declared_rules.specs.declared.sight.Sight.{Sight}
use Rattle.declared_rules.specs.declared.bind_walk.Walk.{Walk}
use Rattle.declared_rules.specs.declared.kept.Keeps.{Keeps}
use Rattle.declared_rules.specs.declared.kept.Calls as kept
use Rattle.declared_rules.specs.declared.rebinds.Sights.{Sights}
use Rattle.declared_rules.specs.Telling.{sure, held_where, told, Seen, Adds, AddsNaming}
use Rattle.declared_rules.specs.Keeping.{Within, Means, KnowsCalls}
use Rattle.declared_rules.specs.Macros.{macro_names, Ready, MacrosAt}
use Rattle.declared_rules.specs.Processes.{Singles}
use Rattle.declared_rules.specs.Whole.{AreSights, Begins, insides}
use Rattle.declared_rules.proofs.ScopeLaws.{among_any, around_hides}
use Rattle.declared_rules.proofs.TellLaws.{first_then, first_sure, seen_more, adds_then}
use Rattle.declared_rules.proofs.KeepLaws.{means_none}

-- ---- what is kept serves wherever the same modules are extended

means_moved : (g h : Sight) (P : List Word) (ks : Keeps) (C : List Word → Calls) → g.modules ≡ h.modules → Means h P ks C → Means g P ks C
means_moved g h P ks C e f ms m s l x ts = f ms (subst (λ (z : Modules). AreModules z ms) e m) s l x ts

module _ (s : Sights) (ts : List Tree) (a : declared_algorithm.Algorithm) (k : kept.Calls) (b : Begins s ts a k) where
  abbrev pub ps : List Procedure
  ps = map (procedure_at ts) a.procedures.items

  same_far : (g : Sight) → g.modules ≡ b.modules → g.modules ≡ s.far.modules
  same_far g e = e ∙ sym b.sights.far_modules

  far_procedures : Means s.far s.far.stands k.procedures (λ ms z x us. call_rebinds ms ps x z)
  far_procedures = means_moved s.far s.own s.far.stands k.procedures (λ ms z x us. call_rebinds ms ps x z) (b.sights.far_modules ∙ sym b.sights.own_modules) b.procedures

  pub ready : Ready s.near s.far k ps (macro_names a.macros.items)
  ready = record { modules = same_far s.near b.sights.near_modules; process = b.process; alone = b.sights.alone; within = b.sights.far; procedures = far_procedures }

  pub no_macros : Means s.far s.far.stands k.macros (λ ms. macro_rebinds ms ps [])
  no_macros = means_none s.far s.far.stands k.macros (λ ms. macro_rebinds ms ps []) (λ ms z x us. refl) b.macros

  pub singles : Singles s.near s.own
  singles = record { modules = b.sights.near_modules ∙ sym b.sights.own_modules; alone = b.sights.alone; stands = b.sights.own }

  knows : (g : Sight) → g.modules ≡ b.modules → Within s.far.stands g.stands → (new : kept.Calls) (C : List Word → Calls) → new.procedures ≡ k.procedures → new.process ≡ k.process → Means s.far s.far.stands new.macros C → KnowsCalls g new C ps
  knows g e w new C p n m = record {
    macros = record { names = s.far.stands; within = w; means = means_moved g s.far s.far.stands new.macros C (same_far g e) m };
    process = n ∙ b.process;
    procedures = record {
      names = s.far.stands;
      within = w;
      means = means_moved g s.far s.far.stands new.procedures (λ ms z x us. call_rebinds ms ps x z) (same_far g e)
          (subst (λ (z : Keeps). Means s.far s.far.stands z (λ ms z x us. call_rebinds ms ps x z)) (sym p) far_procedures);
    };
  }

  none_within : Within s.far.stands s.near.stands
  none_within x h = absurd_none (sym (ap (λ (xs : List Word). is_among xs x) b.sights.alone) ∙ h)
    where
      absurd_none : false ≡ true → is_among s.far.stands x ≡ true
      absurd_none h = cc

  pub knows_near : (new : kept.Calls) (C : List Word → Calls) → new.procedures ≡ k.procedures → new.process ≡ k.process → Means s.far s.far.stands new.macros C → KnowsCalls s.near new C ps
  knows_near = knows s.near b.sights.near_modules none_within

  pub knows_own : (new : kept.Calls) (C : List Word → Calls) → new.procedures ≡ k.procedures → new.process ≡ k.process → Means s.far s.far.stands new.macros C → KnowsCalls s.own new C ps
  knows_own = knows s.own b.sights.own_modules b.sights.further

  pub insides_add : (i j l m n : Walk) (new : kept.Calls) → Adds s.near any_name i j (λ ms r. starts_rebind ms any_name (algorithm_at ts a).globals r)
      → MacrosAt s.near s.far ps j l k new (reverse (map (macro_at ts) a.macros.items))
      → Adds s.near any_name l m (λ ms r. flat_map (procedure_rebinds ms ps (macro_rebinds ms ps (reverse (map (macro_at ts) a.macros.items))) r) ps)
      → Adds s.near any_name m n (λ ms r. main_rebinds ms ps (macro_rebinds ms ps (reverse (map (macro_at ts) a.macros.items))) r (algorithm_at ts a).main)
      → Adds s.near any_name i n (λ ms r. insides ms (algorithm_at ts a) r)
  insides_add i j l m n new u v w x =
      adds_then s.near any_name i j n (λ ms r. starts_rebind ms any_name (algorithm_at ts a).globals r) (λ ms r. T ms r ++ (P ms r ++ M ms r)) u
      (adds_then s.near any_name j l n T (λ ms r. P ms r ++ M ms r) v.adds (adds_then s.near any_name l m n P M w x))
    where
      T : List Word → Standings → List Refusal
      T ms r = texts_rebind ms ps (macro_rebinds ms ps) r (reverse (map (macro_at ts) a.macros.items))

      P : List Word → Standings → List Refusal
      P ms r = flat_map (procedure_rebinds ms ps (macro_rebinds ms ps (reverse (map (macro_at ts) a.macros.items))) r) ps

      M : List Word → Standings → List Refusal
      M ms r = main_rebinds ms ps (macro_rebinds ms ps (reverse (map (macro_at ts) a.macros.items))) r (algorithm_at ts a).main

  pub insides_told : (i j l m n : Walk) (new : kept.Calls) → Adds s.near any_name i j (λ ms r. starts_rebind ms any_name (algorithm_at ts a).globals r)
      → ((qs : List Procedure) → Ready s.near s.far k qs (macro_names a.macros.items) → Means s.far s.far.stands k.macros (λ ms. macro_rebinds ms qs []) → MacrosAt s.near s.far qs j l k new (reverse (map (macro_at ts) a.macros.items)))
      → ((C : List Word → Calls) (qs : List Procedure) → KnowsCalls s.near new C qs → Adds s.near any_name l m (λ ms r. flat_map (procedure_rebinds ms qs (C ms) r) ps))
      → ((C : List Word → Calls) (qs : List Procedure) → Singles s.near s.own → KnowsCalls s.near new C qs → KnowsCalls s.own new C qs → Adds s.near any_name m n (λ ms r. main_rebinds ms qs (C ms) r (algorithm_at ts a).main))
      → Adds s.near any_name i n (λ ms r. insides ms (algorithm_at ts a) r)
  insides_told i j l m n new u v w x = from (v ps ready no_macros)
    where
      from : MacrosAt s.near s.far ps j l k new (reverse (map (macro_at ts) a.macros.items)) → Adds s.near any_name i n (λ ms r. insides ms (algorithm_at ts a) r)
      from h =
          insides_add i j l m n new u h (w C ps (knows_near new C h.procedures h.process h.macros)) (x C ps singles (knows_near new C h.procedures h.process h.macros) (knows_own new C h.procedures h.process h.macros))
        where
          C : List Word → Calls
          C ms = macro_rebinds ms ps (reverse (map (macro_at ts) a.macros.items))

-- ---- where nothing is around, what may offend doesn't

held_none : (ms : List Word) (bs : List Binding) → held_where ms [] bs ≡ []
held_none ms [] = refl
held_none ms (held.Bound x ∷ bs) = held_none ms bs
held_none ms (held.Standing x ∷ bs) = held_none ms bs
held_none ms (held.Beneath x y ∷ bs) = held_none ms bs

first_told : (ms : List Word) (w : Walk) → w.first ≡ first (told ms w [])
first_told ms w = sym (first_sure w.first) ∙ ap first (sym (append-nil (sure w.first)) ∙ ap (λ (rs : List Refusal). sure w.first ++ rs) (sym (held_none ms w.free.keys)))

first_exchanged : (a b c : List Refusal) → first (a ++ (b ++ c)) ≡ first (b ++ (a ++ c))
first_exchanged a b c = same_first (a ++ (b ++ c)) (b ++ (a ++ c)) (λ f. three f a b c ∙ turned (list_any f a) (list_any f b) (list_any f c) ∙ sym (three f b a c))
  where
    three : (f : Refusal → Bool) (a b c : List Refusal) → list_any f (a ++ (b ++ c)) ≡ (list_any f a || (list_any f b || list_any f c))
    three f a b c = list_any-append f a (b ++ c) ∙ ap (λ (t : Bool). list_any f a || t) (list_any-append f b c)

    turned : (x y z : Bool) → (x || (y || z)) ≡ (y || (x || z))
    turned true true z = refl
    turned true false z = refl
    turned false true z = refl
    turned false false z = refl

pub refusal_is : (near : Sight) (a : Algorithm) (o : Outside) (w u v : Walk) → AreModules near.modules o.extended → w.first ≡ None → w.free.keys ≡ [] → Hides [] w.bound (declared a.globals ++ unit_names o)
    → AddsNaming near any_name w u (map (λ (d : Definition). d.name.word) a.definitions) (λ ms r. definitions_rebind ms a.definitions r) → Adds near any_name u v (λ ms r. insides ms a r) → v.first ≡ first (rebind_offences_of a o)
refusal_is near a o w u v m f k h d i =
    first_told ms v
    ∙ first_then (told ms u []) (told ms w []) D (insides ms a inner) (told ms v []) (d.tells ms [] outer seen) (i.tells ms [] inner (seen_more near any_name w u ms (map (λ (d : Definition). d.name.word) a.definitions) [] outer d.hides seen))
    ∙ (λ j. first ((sure (f j) ++ held_where ms [] (k j)) ++ (D ++ insides ms a inner)))
    ∙ first_exchanged D (starts_rebind ms any_name a.globals inner) (T ++ (P ++ M))
  where
    ms : List Word
    ms = o.extended

    outer : Standings
    outer = standing_outside a o

    inner : Standings
    inner = standing_inside a o

    D : List Refusal
    D = definitions_rebind ms a.definitions outer

    T : List Refusal
    T = texts_rebind ms a.procedures (macro_rebinds ms a.procedures) inner (reverse a.macros)

    P : List Refusal
    P = flat_map (procedure_rebinds ms a.procedures (macro_rebinds ms a.procedures (reverse a.macros)) inner) a.procedures

    M : List Refusal
    M = main_rebinds ms a.procedures (macro_rebinds ms a.procedures (reverse a.macros)) inner a.main

    same_names : (b : Bool) (ns : List Name) → ns ≡ cond b ns ns
    same_names true ns = refl
    same_names false ns = refl

    seen : Seen near any_name w ms [] outer
    seen = record { modules = m; lets = λ x. same_names (is_among near.stands x) []; around = around_hides [] w.bound (declared a.globals ++ unit_names o) [] [] h (around_none []) }

pub refusal_told : (ts : List Tree) (a : declared_algorithm.Algorithm) (o : Outside) (w u v : Walk) (s : Sights) (m : Modules) → AreModules m o.extended → AreSights m a.macros.items s
    → w.first ≡ None → w.free.keys ≡ [] → Hides [] w.bound (declared (algorithm_at ts a).globals ++ unit_names o)
    → AddsNaming s.near any_name w u (map (λ (d : Definition). d.name.word) (algorithm_at ts a).definitions) (λ ms r. definitions_rebind ms (algorithm_at ts a).definitions r)
    → Adds s.near any_name u v (λ ms r. insides ms (algorithm_at ts a) r) → v.first ≡ first (rebind_offences_of (algorithm_at ts a) o)
refusal_told ts a o w u v s m e g f free h d i = refusal_is s.near (algorithm_at ts a) o w u v (subst (λ (z : Modules). AreModules z o.extended) (sym g.near_modules) e) f free h d i

-- ---- names for which text may be put in

among_hides : (old new ys : List Word) → Hides old new ys → (x : Word) → is_among new x ≡ is_among (ys ++ old) x
among_hides old new ys h x = sym (among_any new x) ∙ binds_more old new ys old (among_any old) h x

pub own_is : (names : List Word) → Hides [] names (codes "self" ∷ []) → (x : Word) → is_among names x ≡ self_alone x
own_is names h x = among_hides [] names (codes "self" ∷ []) h x ∙ last (bytes_eq (codes "self") x)
  where
    last : (b : Bool) → (b || false) ≡ b
    last true = refl
    last false = refl

pub far_within : (names xs : List Word) (x : Word) → Hides [] names (x ∷ xs) → Within names xs
far_within names xs x h y e = among_hides [] names (x ∷ xs) h y ∙ ap (λ (zs : List Word). is_among zs y) (append-nil (x ∷ xs)) ∙ or_right (bytes_eq x y) (is_among xs y) e

pub further_within : (names own xs : List Word) → Hides [] names (codes "self" ∷ xs) → Hides [] own (codes "self" ∷ []) → Within names own
further_within names own xs h k y e =
    among_hides [] names (codes "self" ∷ xs) h y ∙ ap (λ (zs : List Word). is_among zs y) (append-nil (codes "self" ∷ xs)) ∙ or_left (bytes_eq (codes "self") y) (is_among xs y) (sym (own_is own k y) ∙ e)

pub macro_more : (ms : List declared.Macro) (i : ℕ) (m : declared.Macro) (a b c : List Word) (x : Word) → m ≡ get_or ms i m → i < length ms → Hides a b (x ∷ macro_names (take i ms)) → Hides b c (words m.params.items) → Hides a c (x ∷ macro_names (take (i + 1) ms))
macro_more ms i m a b c x e l h k =
    hides_as a c _ _ (ap (λ (ws : List Word). x ∷ ws) (sym (ap macro_names (take_more ms i m l ∙ ap (λ (z : declared.Macro). take i ms ++ z ∷ []) (sym e))
    ∙ flat_map-append (λ (n : declared.Macro). words n.params.items) (take i ms) (m ∷ []) ∙ ap (λ (ws : List Word). macro_names (take i ms) ++ ws) (append-nil (words m.params.items)))))
    (hides_then a b c (x ∷ macro_names (take i ms)) (words m.params.items) h k)
