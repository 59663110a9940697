-- Definitions of an algorithm that may be read read nothing that a step assigns.
use Rattle.std.proofs.Common.{◌≡◌, ℕ, suc, List, [], ◌∷◌, ◌++◌, length, Bool, true, false, not, ◌||◌, ◌&&◌, cond, bytes_eq, map, filter, nat_eq, Some, inl, inr, refl, sym, ap, subst, ◌∙◌, arith}
use mathlib.Core.List.{reverse_aux}
use Rattle.std.specs.List.{flat_map, list_any, AllByRecursion}
use Rattle.std.proofs.lemmas.Bool.{both_ways, or_left, or_right, or_parts, eqb-true, not-true}
use Rattle.std.proofs.lemmas.Slice.Eq.{bytes_eq-Decides}
use Rattle.tla_token.specs.declared.place.Place.{Place}
use Rattle.tla_token.specs.declared.rule.Rule.TheVariants.{Arity, Rebind}
use Rattle.tla_token.specs.Signs.{is_among}
use Rattle.tla_token.proofs.Spelled.{same_bytes}
use Rattle.tla_tree.specs.Tree.{Word, Name, words, Form, name, operator_call, Tree, node, Trees, no_trees, tree, Each, Every, binders, seen_names}
use Rattle.tla_tree.specs.Shapes.{Shaped}
use Rattle.tla_tree.specs.laws.Writable as writable
use Rattle.tla_tree.specs.laws.Writable.{IsWritable, AreWritable}
use Rattle.tla_value.specs.Definitions.{Valuation}
use Rattle.tla_value.specs.Outside.{Outside}
use Rattle.tla_value.specs.StandardModules.{is_member, is_last}
use Rattle.tla_value.specs.laws.FreeNames.{Or, Also, Any, FormReads, FreeNames, FreeInParts}
use Rattle.tla_value.specs.Stops.{plain}
use Rattle.tla_value.specs.laws.Grafting.{In, OutOf, AllSettled}
use Rattle.tla_value.specs.laws.Untitled.{Untitled}
use Rattle.tla_value.proofs.Facts.{each_weaker}
use Rattle.tla_value.proofs.FreeNames.{also_any, other_of}
use Rattle.pcal_tree.specs.Algorithm.{Definition, Algorithm}
use Rattle.pcal_tree.specs.BoundNames.{lists_in, lists_in_declared}
use Rattle.pcal_tree.specs.NameUses.{takes, variable, Sight, seeing_plain, seeing_variables, knowing, use_of, use_offences, applied_offences}
use Rattle.pcal_tree.specs.OffencesNames.{form_offences, count, in_tree, in_parts, in_whole, in_declared, in_definitions, defined_inside, names_of, kept_names, repeated, sight_outside, sight_inside}
use Rattle.pcal_tree.specs.OffencesRebind.{any_name, starts_rebind, standing_outside, standing_inside, Standings, in_scope, may_rebind, naming, rebound, rebound_all, whole_rebinds, definitions_rebind}
use Rattle.pcal_tree.specs.OffencesReserved.{reserved_outside, reserved_name, declared_names, names_of_definition}
use Rattle.pcal_tree.specs.Outside.{unit_names}
use Rattle.pcal_tree.specs.Processes.{OneOf}
use Rattle.pcal_tree.specs.Program.{Program, inner}
use Rattle.pcal_tree.specs.Programs.{program_in}
use Rattle.pcal_tree.specs.Reads.{used, looked_at, among_looked_at, through, readings, readings_of}
use Rattle.pcal_tree.specs.Variables.{vars, declared}
use Rattle.pcal_tree.proofs.CallsFine as CallsFine
use Rattle.pcal_tree.proofs.CallsFine.{Usable, Sees, in_also, throughout_both, usable_is, among_also}
use Rattle.pcal_tree.proofs.ClearLabels.{both_none}
use Rattle.pcal_tree.proofs.NothingCaptured.{Free, BindsFree, written_bare}
use Rattle.pcal_tree.proofs.Uncaptured.{throughout_weaker}
use Rattle.action_builder.specs.Assigned.{Names}
use Rattle.action_builder.specs.laws.Ready.{IsWithin}
use Rattle.action_builder.specs.laws.WrittenScope.{AllRead, Common, titles}
use Rattle.translation.specs.laws.AcceptedAlgorithm.{IsAcceptedInFile}
use Rattle.translation.specs.laws.FreshReads.{readable}
use Rattle.translation.specs.laws.AcceptedLaws.{extra_of}
use Rattle.translation.specs.laws.TypedAlgorithm.{IsTypedDefinition}
use Rattle.translation.proofs.AcceptedNames.{no_offence, apart_from}
use Rattle.translation.proofs.BoundOf.{BindsAll, tree_bound, in_flat, in_both}
use Rattle.translation.proofs.MacrosSound.{typed, in_named, in_rest}
use Rattle.translation.proofs.NamesApart.{false_among, never, once}
use Rattle.translation.proofs.NamesFree.{AllOf, BindsOf, names_free}
use Rattle.translation.proofs.NamesGiven.{Bound, bound_all}
use Rattle.translation.proofs.NamesInSight.{sees_map, sees_outside}
use Rattle.translation.proofs.NamesOfRules.{Unreserved, turned, rules_of_names, names_unreserved, split, of_flat}
use Rattle.translation.proofs.OutsideSettled.{free_both, foreign_outside}
use Rattle.translation.proofs.PreparedSteps.{whole}
use Rattle.translation.proofs.ReadyNames.{through_none}
use Rattle.translation.proofs.RoutinesNamed.{among_before}
use Rattle.translation.proofs.VariableNames.{one_is_among}
use Rattle.translation.proofs.StepNames.{any_none, any_each, readings_global, negated}
use Rattle.action_builder.proofs.Names.{each_name}

-- ---- operators that are used

-- an operator that is used with arguments is of M
abbrev Applies : Sight → (Word → Type 0) → Type 0
Applies r M = (f : Word) (n : ℕ) (right : Bool) (at : Place) → applied_offences (use_of r f) (suc n) right at ≡ [] → M f

applies_seen : (r : Sight) (M : Word → Type 0) → Sees r M → Applies r M
applies_seen r M s f n right at e = s f (usable_is (use_of r f) (suc n) right at e)

none_taken : (n : ℕ) → not (nat_eq 0 (suc n)) ≡ false → ⊥
none_taken n e = by (nat_eq 0 (suc n)) refl e
  where
    by : (b : Bool) → nat_eq 0 (suc n) ≡ b → not b ≡ false → ⊥
    by true q k = (let z = eqb-true 0 (suc n) q in absurd (omega (arith, z)))
    by false q k = absurd cc

-- a bound name takes no arguments
applies_under : (xs : List Word) (r : Sight) (M : Word → Type 0) → Applies r M → Applies (seeing_plain xs r) M
applies_under [] r M h f n right at e = h f n right at e
applies_under (x ∷ xs) r M h f n right at e = by (bytes_eq x f) e (applies_under xs r M h f n right at)
  where
    by : (b : Bool) → applied_offences (cond b (Some (takes 0)) (use_of (seeing_plain xs r) f)) (suc n) right at ≡ [] → (applied_offences (use_of (seeing_plain xs r) f) (suc n) right at ≡ [] → M f) → M f
    by true k g = absurd (none_taken n (no_offence (not (nat_eq 0 (suc n))) Arity at (both_none (use_offences (Some (takes 0)) (suc n) at) _ k).0))
    by false k g = g k

mutual
  operators_seen : (M K : Word → Type 0) → ((y : Word) → K y) → (t : Tree) (right : Bool) (r : Sight) → Applies r M → in_tree t right r ≡ [] → IsWritable t → FreeNames K M t
  operators_seen M K k (node m at ts) right r h e w =
      let p = both_none (form_offences r right m (count ts) at) (in_parts (seen_names m) (is_member m) ts r) e in
      (form_operator m ts p.0 w.0, parts_seen M K k (seen_names m) (is_member m) ts r h p.1 w.4)
    where
      form_operator : (m : Form) (ts : Trees) → form_offences r right m (count ts) at ≡ [] → Shaped m (writable.count ts) → FormReads K M m
      form_operator (name x) ts q s = k x
      form_operator (operator_call f) (tree t us) q s = h f (count us) right at q
      form_operator (operator_call f) no_trees q s = absurd (omega (arith, s))
      form_operator _ ts q s = tt

  parts_seen : (M K : Word → Type 0) → ((y : Word) → K y) → (names : List (List Word)) (right : Bool) (ts : Trees) (r : Sight) → Applies r M → in_parts names right ts r ≡ [] → AreWritable ts → FreeInParts K M names ts
  parts_seen M K k names right no_trees r h e w = tt
  parts_seen M K k [] right (tree t ts) r h e w =
      let p = both_none (in_tree t (right && is_last ts) r) (in_parts [] right ts r) e in
      (operators_seen M K k t (right && is_last ts) r h p.0 w.0, parts_seen M K k [] right ts r h p.1 w.1)
  parts_seen M K k (xs ∷ names) right (tree t ts) r h e w =
      let p = both_none (in_tree t (right && is_last ts) (seeing_plain xs r)) (in_parts names right ts r) e in
      (operators_seen M (Also xs K) (also_any K k xs) t (right && is_last ts) (seeing_plain xs r) (applies_under xs r M h) p.0 w.0, parts_seen M K k names right ts r h p.1 w.1)

-- ---- names that are bound, and others

also_out : (N : Word → Type 0) (xs : List Word) (y : Word) → Also xs N y → is_among xs y ≡ false → N y
also_out N [] y h e = h
also_out N (x ∷ xs) y h e = (let p = or_parts (bytes_eq x y) (is_among xs y) e in other_of N x y (also_out (Or x N) xs y h p.1) p.0)

also_two : (N N' N'' : Word → Type 0) → ((y : Word) → N y → N' y → N'' y) → (xs : List Word) (y : Word) → Also xs N y → Also xs N' y → Also xs N'' y
also_two N N' N'' f xs y h k = by (is_among xs y) refl
  where
    by : (b : Bool) → is_among xs y ≡ b → Also xs N'' y
    by true e = among_also N'' xs y e
    by false e = in_also N'' xs y (f y (also_out N xs y h e) (also_out N' xs y k e))

mutual
  pub free_two : (N M N' M' N'' M'' : Word → Type 0) → ((y : Word) → N y → N' y → N'' y) → ((y : Word) → M y → M' y → M'' y) → (t : Tree) → FreeNames N M t → FreeNames N' M' t → FreeNames N'' M'' t
  free_two N M N' M' N'' M'' f g (node m at ts) h k = (form_two m h.0 k.0, parts_two N M N' M' N'' M'' f g (seen_names m) ts h.1 k.1)
    where
      form_two : (m : Form) → FormReads N M m → FormReads N' M' m → FormReads N'' M'' m
      form_two (name x) a b = f x a b
      form_two (operator_call x) a b = g x a b
      form_two _ a b = tt

  parts_two : (N M N' M' N'' M'' : Word → Type 0) → ((y : Word) → N y → N' y → N'' y) → ((y : Word) → M y → M' y → M'' y) → (names : List (List Word)) (ts : Trees) → FreeInParts N M names ts → FreeInParts N' M' names ts → FreeInParts N'' M'' names ts
  parts_two N M N' M' N'' M'' f g names no_trees h k = tt
  parts_two N M N' M' N'' M'' f g [] (tree t ts) h k = (free_two N M N' M' N'' M'' f g t h.0 k.0, parts_two N M N' M' N'' M'' f g [] ts h.1 k.1)
  parts_two N M N' M' N'' M'' f g (xs ∷ names) (tree t ts) h k =
      (free_two (Also xs N) M (Also xs N') M' (Also xs N'') M'' (also_two N N' N'' f xs) g t h.0 k.0, parts_two N M N' M' N'' M'' f g names ts h.1 k.1)

-- ---- what definitions read

-- none of them has the name
abbrev NotIn : List Definition → Word → Type 0
NotIn ds x = (d : Definition) → OneOf d ds → bytes_eq d.name.word x ≡ false

abbrev Distinct : List Definition → Type 0
Distinct [] = Unit {0}
Distinct (d ∷ ds) = NotIn ds d.name.word × Distinct ds

through_onto : (gs : List Word) (ds older : List Definition) (x : Word) → NotIn ds x → through (readings gs (reverse_aux ds older)) x ≡ through (readings gs older) x
through_onto gs [] older x n = refl
through_onto gs (d ∷ ds) older x n =
    through_onto gs ds (d ∷ older) x (λ c m. n c (inr m))
    ∙ ap (λ (b : Bool). cond b (filter (among_looked_at (readings gs older) (used d.body (words d.params))) gs) (through (readings gs older) x)) (n d (inl refl))

through_newest : (gs : List Word) (d : Definition) (older : List Definition) → through (readings gs (d ∷ older)) d.name.word ≡ filter (among_looked_at (readings gs older) (used d.body (words d.params))) gs
through_newest gs d older =
    ap (λ (b : Bool). cond b (filter (among_looked_at (readings gs older) (used d.body (words d.params))) gs) (through (readings gs older) d.name.word)) ((bytes_eq-Decides d.name.word d.name.word).1 refl)

in_filter : (f : Word → Bool) (xs : List Word) (y : Word) → is_among xs y ≡ true → f y ≡ true → is_among (filter f xs) y ≡ true
in_filter f [] y m e = m
in_filter f (x ∷ xs) y m e = by (bytes_eq x y) refl m (in_filter f xs y)
  where
    here : (b : Bool) → f x ≡ b → bytes_eq x y ≡ true → is_among (cond b (x ∷ filter f xs) (filter f xs)) y ≡ true
    here true q z = or_left (bytes_eq x y) (is_among (filter f xs) y) z
    here false q z = absurd (both_ways (f x) q (ap f (same_bytes x y z) ∙ e))

    later : (b : Bool) → is_among (filter f xs) y ≡ true → is_among (cond b (x ∷ filter f xs) (filter f xs)) y ≡ true
    later true z = or_right (bytes_eq x y) (is_among (filter f xs) y) z
    later false z = z

    by : (b : Bool) → bytes_eq x y ≡ b → (b || is_among xs y) ≡ true → (is_among xs y ≡ true → f y ≡ true → is_among (filter f xs) y ≡ true) → is_among (filter f (x ∷ xs)) y ≡ true
    by true q z k = here (f x) refl q
    by false q z k = later (f x) (k z e)

-- ---- of an accepted algorithm

module _ (o : Outside) (a : Algorithm) (h : IsAcceptedInFile o a) (values : Valuation) (A : Names) (w : IsWithin A (is_among (vars (program_in plain o a values)))) where
  abbrev P : Program
  P = program_in plain o a values

  abbrev gs : List Word
  gs = declared a.globals

  abbrev U : Word → Bool
  U = readable a A

  -- what it reads as one of the older definitions is not assigned, nor is it if it is a global
  abbrev Calm : List Definition → Word → Type 0
  Calm older x = ((y : Word) → is_among (through (readings gs older) x) y ≡ true → A y ≡ false) × (is_among gs x ≡ true → A x ≡ false)

  all_calm : (older : List Definition) (ns : List Name) → ((y : Word) → is_among gs y ≡ true → among_looked_at (readings gs older) ns y ≡ true → A y ≡ false) → AllOf (Calm older) ns
  all_calm older [] f = tt
  all_calm older (n ∷ ns) f = (
    (
      λ y m. f y (readings_global gs older n.word y m) (or_left (is_among (looked_at (readings gs older) n) y) (among_looked_at (readings gs older) ns y) (or_right (bytes_eq n.word y) (is_among (through (readings gs older) n.word) y) m)),
      λ m. f n.word m (or_left (is_among (looked_at (readings gs older) n) n.word) (among_looked_at (readings gs older) ns n.word) (or_left (bytes_eq n.word n.word) (is_among (through (readings gs older) n.word) n.word) ((bytes_eq-Decides n.word n.word).1 refl))),
    ),
    all_calm older ns (λ y m k. f y m (or_right (is_among (looked_at (readings gs older) n) y) (among_looked_at (readings gs older) ns y) k)),
  )

  -- of standings in which globals and older definitions are in scope
  abbrev Holds : List Definition → Standings → Type 0
  Holds older t = ((x : Word) → is_among gs x ≡ true → in_scope t x ≡ true) × ((c : Definition) → OneOf c older → (x : Word) → bytes_eq c.name.word x ≡ true → in_scope t x ≡ true)

  new_calm : (older : List Definition) (t : Standings) → Holds older t → (x : Word) → Unreserved o x → Free o.extended a.procedures t x → Calm older x
  new_calm older t k x u f = (
    (λ y m. absurd (nothing y (sym (ap (λ (zs : List Word). is_among zs y) (through_none gs older x (λ c n. false_among (bytes_eq c.name.word x) (λ q. out (k.1 c n x q))))) ∙ m))),
    λ m. absurd (out (k.0 x m)),
  )
    where
      out : in_scope t x ≡ true → ⊥
      out q = never (sym (λ i. q i && ap not u i) ∙ f)

      nothing : (y : Word) → is_among [] y ≡ true → ⊥
      nothing y e = cc

  each_calm : (older : List Definition) (t : Standings) → Holds older t → (xs : List Word) → Each (Unreserved o) xs → Each (Free o.extended a.procedures t) xs → Each (Calm older) xs
  each_calm older t k [] u f = tt
  each_calm older t k (x ∷ xs) u f = (new_calm older t k x u.0 f.0, each_calm older t k xs u.1 f.1)

  within_holds : (older : List Definition) (t : Standings) (xs : List Word) → Holds older t → Holds older (naming xs t)
  within_holds older t xs k = ((λ x m. in_rest xs t x (k.0 x m)), λ c n x q. in_rest xs t x (k.1 c n x q))

  params_free : (t : Standings) (ns : List Name) → rebound_all o.extended t ns ≡ [] → Each (Free o.extended a.procedures t) (words ns)
  params_free t [] e = tt
  params_free t (n ∷ ns) e = (let p = both_none (rebound o.extended t n) (rebound_all o.extended t ns) e in (no_offence (in_scope t n.word && may_rebind o.extended n.word) Rebind n.place p.0, params_free t ns p.1))

  params_unreserved : (d : Definition) → OneOf d a.definitions → Each (Unreserved o) (words d.params)
  params_unreserved d m =
      let x = both_none (reserved_outside o) _ (rules_of_names a o h.accepted.names).3 in
      let i = names_unreserved o (declared_names a) (both_none (flat_map (reserved_name o) (declared_names a)) _ x.1).0 in
      let s = split (Unreserved o) (flat_map names_of_definition a.definitions) _ (split (Unreserved o) (names_of a.globals) _ i).1 in
      (of_flat (Unreserved o) names_of_definition a.definitions s.0 d m).1

  body_calm : (older : List Definition) (t : Standings) → Holds older t → (d : Definition) → OneOf d a.definitions → whole_rebinds o.extended d.body t ≡ [] → Every (BindsOf (Calm older)) d.body
  body_calm older t k d m e =
      (throughout_weaker (λ n at. BindsAll (Bound o a h values) n at × BindsFree o.extended a.procedures t n at) (BindsOf (Calm older)) (λ x. Bound o a h values x × Free o.extended a.procedures t x) (λ x. Unit {0}) (λ n at f. each_calm older t k (binders n) (each_weaker (Bound o a h values) (Unreserved o) (λ x b. b.1) (binders n) f.0) f.1) (λ x f. tt) (whole d.body)
      (throughout_both (BindsAll (Bound o a h values)) (BindsFree o.extended a.procedures t) (Bound o a h values) (Free o.extended a.procedures t) (whole d.body)
      (tree_bound (Bound o a h values) d.body (in_flat (Bound o a h values) (λ (c : Definition). lists_in c.body) a.definitions (in_both (Bound o a h values) (flat_map (λ (c : Definition). lists_in c.body) a.definitions) _ (in_both (Bound o a h values) (lists_in_declared a.globals) _ (bound_all o a h values)).1).0 d m), tt)
      (written_bare o.extended a.procedures [] (whole d.body) t (λ i. e i ++ [])))).0

  -- ---- one definition after the other

  inner_from : (older ds : List Definition) → readings_of a ≡ readings gs (reverse_aux ds older) → Distinct ds → (s : Sight) → Sees s (NotIn ds) → in_definitions ds s ≡ [] → (t : Standings) → Holds older t → definitions_rebind o.extended ds t ≡ []
      → ((d : Definition) → OneOf d ds → OneOf d a.definitions) → AllRead (Common P (extra_of a)) (map inner ds) → ((x : Word) → is_among (vars P) x ≡ true → Untitled x (map inner ds)) → AllSettled A (In U) (map inner ds)
  inner_from older [] q k s e u t z v m r l = tt
  inner_from older (d ∷ ds) q k s e u t z v m r l =
      let here = m d (inl refl) in
      let i = both_none (in_whole d.body (seeing_plain (words d.params) s)) (in_definitions ds (defined_inside d ∷ s)) u in
      let j = both_none (rebound_all o.extended t d.params) _ v in
      let g = both_none (whole_rebinds o.extended d.body (naming (words d.params) t)) (definitions_rebind o.extended ds (naming (d.name.word ∷ []) t)) j.1 in
      let writable = (one_typed a.definitions (typed o a h.accepted).definitions d here).2 in
      let bound = body_calm older (naming (words d.params) t) (within_holds older t (words d.params) z) d here g.0 in
      let params = each_calm older t z (words d.params) (params_unreserved d here) (params_free t d.params j.0) in
      let seen = CallsFine.parts_seen (words d.params ∷ []) false (tree d.body no_trees) s (NotIn (d ∷ ds)) e (λ c. i.0 c ++ []) in
      let ops = operators_seen (NotIn (d ∷ ds)) Any (λ y. tt) d.body false (seeing_plain (words d.params) s) (applies_under (words d.params) s (NotIn (d ∷ ds)) (applies_seen s (NotIn (d ∷ ds)) e)) i.0 writable in (
        (λ f. record {
          title = false_among (A d.name.word) (λ b. never (sym ((bytes_eq-Decides d.name.word d.name.word).1 refl) ∙ (l d.name.word (w d.name.word b)).0));
          body =
              free_two (Also (words d.params) (λ y. Common P (extra_of a) y × NotIn (d ∷ ds) y)) (NotIn (d ∷ ds)) (Calm older) (Calm older) (Also (words d.params) (OutOf A (In U))) (In U)
              (out_also older d ds q) (λ y n c. fresh_of older d ds q y n c) d.body
              (free_two (Also (words d.params) (Common P (extra_of a))) Any (Also (words d.params) (NotIn (d ∷ ds))) (NotIn (d ∷ ds)) (Also (words d.params) (λ y. Common P (extra_of a) y × NotIn (d ∷ ds) y)) (NotIn (d ∷ ds))
              (also_two (Common P (extra_of a)) (NotIn (d ∷ ds)) (λ y. Common P (extra_of a) y × NotIn (d ∷ ds) y) (λ y a b. (a, b)) (words d.params)) (λ y a b. b) d.body r.0
              (free_both (Also (words d.params) (NotIn (d ∷ ds))) Any (NotIn (d ∷ ds)) d.body seen.0 ops))
              (names_free (Calm older) d.body (words d.params) writable bound (each_name (Calm older) (words d.params) params)
              (all_calm older (used d.body (words d.params)) (λ y n b. any_each A _ (not-true (list_any A (through (readings_of a) d.name.word)) f) y
              (subst (λ (zs : List Word). is_among zs y ≡ true) (sym (title_reads older d ds q k.0)) (in_filter (among_looked_at (readings gs older) (used d.body (words d.params))) gs y n b)))));
        }),
        inner_from (d ∷ older) ds q k.1 (defined_inside d ∷ s) (sees_next d ds s k.0 e) i.1 (naming (d.name.word ∷ []) t) (holds_next older d t z) g.1 (λ c n. m c (inr n)) r.1 (λ x n. (l x n).1),
      )
    where
      title_reads : (older : List Definition) (d : Definition) (ds : List Definition) → readings_of a ≡ readings gs (reverse_aux (d ∷ ds) older) → NotIn ds d.name.word
          → through (readings_of a) d.name.word ≡ filter (among_looked_at (readings gs older) (used d.body (words d.params))) gs
      title_reads older d ds q n = ap (λ R. through R d.name.word) q ∙ (through_onto gs ds (d ∷ older) d.name.word n ∙ through_newest gs d older)

      fresh_of : (older : List Definition) (d : Definition) (ds : List Definition) → readings_of a ≡ readings gs (reverse_aux (d ∷ ds) older) → (y : Word) → NotIn (d ∷ ds) y → Calm older y → U y ≡ true
      fresh_of older d ds q y n c =
          negated (list_any A (through (readings_of a) y)) (any_none A (through (readings_of a) y) (λ z m. c.0 z (subst (λ (zs : List Word). is_among zs z ≡ true) (ap (λ R. through R y) q ∙ through_onto gs (d ∷ ds) older y n) m)))

      common_global : (y : Word) → Common P (extra_of a) y → is_among (vars P) y ≡ true → is_among gs y ≡ true
      common_global y c v = by (is_among gs y) (is_among (vars P) y) (is_among (titles (extra_of a)) y) v c
        where
          by : (b c e : Bool) → c ≡ true → (b || not (c || e)) ≡ true → b ≡ true
          by true c e p z = refl
          by false true e p z = cc
          by false false e p z = cc

      out_also : (older : List Definition) (d : Definition) (ds : List Definition) → readings_of a ≡ readings gs (reverse_aux (d ∷ ds) older) → (y : Word) → Also (words d.params) (λ y. Common P (extra_of a) y × NotIn (d ∷ ds) y) y → Calm older y → Also (words d.params) (OutOf A (In U)) y
      out_also older d ds q y n c = by (is_among (words d.params) y) refl
        where
          out : Common P (extra_of a) y × NotIn (d ∷ ds) y → OutOf A (In U) y
          out b = (fresh_of older d ds q y b.1 c, false_among (A y) (λ e. never (sym e ∙ c.1 (common_global y b.0 (w y e)))))

          by : (b : Bool) → is_among (words d.params) y ≡ b → Also (words d.params) (OutOf A (In U)) y
          by true e = among_also (OutOf A (In U)) (words d.params) y e
          by false e = in_also (OutOf A (In U)) (words d.params) y (out (also_out (λ y. Common P (extra_of a) y × NotIn (d ∷ ds) y) (words d.params) y n e))

      sees_next : (d : Definition) (ds : List Definition) (s : Sight) → NotIn ds d.name.word → Sees s (NotIn (d ∷ ds)) → Sees (defined_inside d ∷ s) (NotIn ds)
      sees_next d ds s k e x n = by (bytes_eq d.name.word x) refl n
        where
          by : (b : Bool) → bytes_eq d.name.word x ≡ b → Usable (cond b (Some (takes (length d.params))) (use_of s x)) → NotIn ds x
          by true q z = subst (NotIn ds) (same_bytes d.name.word x q) k
          by false q z = (λ c p. e x z c (inr p))

      holds_next : (older : List Definition) (d : Definition) (t : Standings) → Holds older t → Holds (d ∷ older) (naming (d.name.word ∷ []) t)
      holds_next older d t z = ((λ x m. in_rest (d.name.word ∷ []) t x (z.0 x m)), λ c n x q. by c n x q)
        where
          by : (c : Definition) → OneOf c (d ∷ older) → (x : Word) → bytes_eq c.name.word x ≡ true → in_scope (naming (d.name.word ∷ []) t) x ≡ true
          by c (inl p) x q = in_named (d.name.word ∷ []) t x (or_left (bytes_eq d.name.word x) false (ap (λ (b : Definition). bytes_eq b.name.word x) (sym p) ∙ q))
          by c (inr p) x q = in_rest (d.name.word ∷ []) t x (z.1 c p x q)

      one_typed : (cs : List Definition) → AllByRecursion IsTypedDefinition cs → (c : Definition) → OneOf c cs → IsTypedDefinition c
      one_typed [] y c n = absurd n
      one_typed (b ∷ bs) y c (inl p) = subst IsTypedDefinition (sym p) y.0
      one_typed (b ∷ bs) y c (inr n) = one_typed bs y.1 c n

  -- definitions that may be read read nothing that is assigned
  pub inner_settled : AllRead (Common P (extra_of a)) (map inner a.definitions) → ((x : Word) → is_among (vars P) x ≡ true → Untitled x (map inner a.definitions)) → AllSettled A (In U) (map inner a.definitions)
  inner_settled r l =
      let rules = rules_of_names a o h.accepted.names in
      inner_from [] a.definitions refl (both_distinct (unit_names o) (names_of a.globals) a.definitions (both_none (repeated (unit_names o) (kept_names a)) _ rules.1).0) (seeing_variables gs (sight_outside o)) sees_first
      (both_none (in_definitions a.definitions (seeing_variables gs (sight_outside o))) _ (both_none (in_declared a.globals (sight_inside a o)) _ rules.0).1).0
      (standing_outside a o) ((λ x m. in_named (gs ++ unit_names o) [] x (among_before gs (unit_names o) x m)), λ c n. absurd n)
      (both_none (definitions_rebind o.extended a.definitions (standing_outside a o)) _ (both_none (starts_rebind o.extended any_name a.globals (standing_inside a o)) _ rules.2).1).0
      (λ d m. m) r l
    where
      sees_first : Sees (seeing_variables gs (sight_outside o)) (NotIn a.definitions)
      sees_first =
          sees_map (knowing variable) (NotIn a.definitions) gs (sight_outside o) (λ x m n d k. each_name (λ y. bytes_eq d.name.word y ≡ false) gs ((once o a h).defined d k) x (one_is_among gs x m))
          (sees_outside o (NotIn a.definitions) (record {
            constants = λ x e. ((foreign_outside o a h values).constants x e).1;
            definitions = λ d m. ((foreign_outside o a h values).definitions d m).1;
            self = (foreign_outside o a h values).self.1;
            standard = λ x e. ((foreign_outside o a h values).standard x e).1;
          }))

      distinct : (seen : List Word) (ds : List Definition) → repeated seen (map (λ (d : Definition). d.name) ds) ≡ [] → Distinct ds
      distinct seen [] e = tt
      distinct seen (d ∷ ds) e =
          let p = both_none _ (repeated (d.name.word ∷ seen) (map (λ (c : Definition). c.name) ds)) e in
          (others ds (apart_from (d.name.word ∷ seen) (map (λ (c : Definition). c.name) ds) p.1), distinct (d.name.word ∷ seen) ds p.1)
        where
          others : (cs : List Definition) → Each (λ x. is_among (d.name.word ∷ seen) x ≡ false) (words (map (λ (c : Definition). c.name) cs)) → NotIn cs d.name.word
          others [] q c m = absurd m
          others (b ∷ bs) q c (inl n) = subst (λ (z : Definition). bytes_eq z.name.word d.name.word ≡ false) (sym n) (turned d.name.word b.name.word (or_parts (bytes_eq d.name.word b.name.word) (is_among seen b.name.word) q.0).0)
          others (b ∷ bs) q c (inr m) = others bs q.1 c m

      both_distinct : (seen : List Word) (ns : List Name) (ds : List Definition) → repeated seen (ns ++ map (λ (d : Definition). d.name) ds) ≡ [] → Distinct ds
      both_distinct seen [] ds e = distinct seen ds e
      both_distinct seen (n ∷ ns) ds e = both_distinct (n.word ∷ seen) ns ds (both_none _ (repeated (n.word ∷ seen) (ns ++ map (λ (d : Definition). d.name) ds)) e).1
