-- Of an accepted algorithm each macro's text binds nothing again and no name of the translation, begins with a statement and jumps nowhere; and what may be used in a
-- routine's body is in scope there, or may never be bound.
use Rattle.std.proofs.Common.{◌≡◌, List, [], ◌∷◌, ◌++◌, true, false, not, map, reverse, ◌⊎◌, inl, inr, refl, ◌∙◌, ap, subst}
use Rattle.std.specs.List.{flat_map}
use Rattle.std.proofs.lemmas.Bool.{or_left, or_right}
use Rattle.tla_token.specs.Signs.{is_among}
use Rattle.tla_token.specs.Words.{is_own, is_standard, standard_names}
use Rattle.tla_tree.specs.Tree.{Word, words}
use Rattle.tla_value.specs.Outside.{Outside, ReadDefinition}
use Rattle.pcal_tree.specs.Algorithm.{Definition, Macro, Algorithm}
use Rattle.pcal_tree.specs.BoundNames.{all_of, lists_in, lists_in_body, lists_in_declared, bound_lists}
use Rattle.pcal_tree.specs.NameUses.{knowing, variable, seeing_variables}
use Rattle.pcal_tree.specs.OffencesNames.{sight_inside}
use Rattle.pcal_tree.specs.OffencesRebind.{Standings, naming, in_scope, may_rebind, rebound_all, starts_rebind, any_name, body_rebinds, macro_rebinds, texts_rebind, definitions_rebind, standing_outside, standing_inside}
use Rattle.pcal_tree.specs.Outside.{unit_names}
use Rattle.pcal_tree.specs.Processes.{OneOf}
use Rattle.pcal_tree.specs.Variables.{declared}
use Rattle.pcal_tree.specs.laws.Expansion.{BeginsUnlabelled, Stays}
use Rattle.pcal_tree.proofs.CallsFine.{Sees, Kept, R, SoundMacros}
use Rattle.pcal_tree.proofs.ClearLabels.{both_none}
use Rattle.pcal_tree.proofs.PlainMacros.{macros_stay, macros_begin}
use Rattle.pcal_tree.proofs.RebindNames.{scope_of_both}
use Rattle.pcal_tree.proofs.RoutineNames.{every_one}
use Rattle.translation.specs.laws.AcceptedAlgorithm.{IsAccepted, IsAcceptedInFile}
use Rattle.translation.specs.laws.TypedAlgorithm.{IsTypedMacro, IsTypedAlgorithm}
use Rattle.translation.specs.laws.WritableAlgorithm.{IsStarted}
use Rattle.translation.proofs.BoundOf.{AllIn, MacrosAll, in_both, in_flat, body_bound}
use Rattle.translation.proofs.FewNames.{tokens_within}
use Rattle.translation.proofs.NamesApart.{free, mapped_among}
use Rattle.translation.proofs.NamesInSight.{UsedOutside, sees_map, sees_inside}
use Rattle.translation.proofs.NamesOfRules.{Unreserved, rules_of_names}
use Rattle.translation.proofs.RoutinesNamed.{among_later, among_before}
use Rattle.translation.proofs.TypedLabels.{labelled_typed}
use Rattle.translation.proofs.TypedTexts.{text_typed}
use Rattle.translation.proofs.VariableNames.{each_to, one_is_among}
use Rattle.pcal_tree.proofs.StepVariables.{one_reverse}

pub typed : (o : Outside) (a : Algorithm) → IsAccepted o a → IsTypedAlgorithm a
typed o a h = subst IsTypedAlgorithm h.labels_added (labelled_typed h.forced h.typed (text_typed h.syntax h.text h.from h.to h.tokens h.typed h.tok (tokens_within h.tokens h.rules).0 h.spelled))

-- ---- macros

-- of each macro, with those that are older
record TextFine (o : Outside) (a : Algorithm) (d : Macro) : Type 0 where
  bound : AllIn (R o.extended a.procedures) (lists_in_body d.body)
  begins : BeginsUnlabelled d.body
  stays : Stays d.body

sound : (o : Outside) (a : Algorithm) (s : Standings) (ms : List Macro) → texts_rebind o.extended a.procedures (macro_rebinds o.extended a.procedures) s ms ≡ [] → ((d : Macro) → OneOf d ms → TextFine o a d)
    → SoundMacros o.extended a.procedures s ms
sound o a s [] e h = tt
sound o a s (d ∷ older) e h =
    let j = both_none (rebound_all o.extended s d.params ++ body_rebinds o.extended a.procedures (macro_rebinds o.extended a.procedures older) d.body (naming (words d.params) s)) _ e in
    let k = both_none (rebound_all o.extended s d.params) _ j.0 in
    let f = h d (inl refl) in
    (k.1, body_bound (R o.extended a.procedures) older (λ c m. (h c (inr m)).bound) d.body f.bound, f.begins, f.stays, sound o a s older j.1 (λ c m. h c (inr m)))

module _ (o : Outside) (a : Algorithm) (h : IsAcceptedInFile o a) where
  pub may_bind : (x : Word) → Unreserved o x → R o.extended a.procedures x
  may_bind x u = ap not u

  pub all_bound : AllIn (R o.extended a.procedures) (bound_lists a)
  all_bound = each_to (Unreserved o) (R o.extended a.procedures) may_bind (words (all_of (bound_lists a))) (free o a h).bound

  pub macros_bound : (N : Word → Type 0) → AllIn N (bound_lists a) → MacrosAll N (reverse a.macros)
  macros_bound N g d k =
      let i = in_both N (lists_in_declared a.globals) _ g in
      let j = in_both N (flat_map (λ (c : Definition). lists_in c.body) a.definitions) _ i.1 in
      let l = in_both N (flat_map (λ (c : Macro). lists_in_body c.body) a.macros) _ j.1 in
      in_flat N (λ (c : Macro). lists_in_body c.body) a.macros l.0 d (one_reverse d a.macros k)

  text_fine : (d : Macro) → OneOf d (reverse a.macros) → TextFine o a d
  text_fine d k =
      let m = one_reverse d a.macros k in
      let t = every_one IsTypedMacro d a.macros (typed o a h.accepted).macros m in
      record {
        bound = macros_bound (R o.extended a.procedures) all_bound d k;
        begins = macros_begin a h.accepted.labels d m (λ e. subst IsStarted e t.2.0);
        stays = macros_stay a h.accepted.labels d m;
      }

  texts_none : texts_rebind o.extended a.procedures (macro_rebinds o.extended a.procedures) (standing_inside a o) (reverse a.macros) ≡ []
  texts_none =
      let e = (rules_of_names a o h.accepted.names).2 in
      let i = both_none (starts_rebind o.extended any_name a.globals (standing_inside a o)) _ e in
      let j = both_none (definitions_rebind o.extended a.definitions (standing_outside a o)) _ i.1 in
      (both_none (texts_rebind o.extended a.procedures (macro_rebinds o.extended a.procedures) (standing_inside a o) (reverse a.macros)) _ j.1).0

  pub macros_sound : SoundMacros o.extended a.procedures (standing_inside a o) (reverse a.macros)
  macros_sound = sound o a (standing_inside a o) (reverse a.macros) texts_none text_fine

-- ---- what may be used is in scope

pub in_named : (xs : List Word) (s : Standings) (y : Word) → is_among xs y ≡ true → in_scope (naming xs s) y ≡ true
in_named xs s y e = scope_of_both xs s y ∙ or_left (is_among xs y) (in_scope s y) e

pub in_rest : (xs : List Word) (s : Standings) (y : Word) → in_scope s y ≡ true → in_scope (naming xs s) y ≡ true
in_rest xs s y e = scope_of_both xs s y ∙ or_right (is_among xs y) (in_scope s y) e

module _ (o : Outside) (a : Algorithm) where
  -- in scope among these, or a name that is never bound
  abbrev pub InScope : Standings → Word → Type 0
  InScope r y = (in_scope r y ≡ true) ⊎ (may_rebind o.extended y ≡ false)

  module _ (xs : List Word) where
    abbrev r : Standings
    r = naming xs (standing_inside a o)

    outer : (y : Word) → in_scope (standing_outside a o) y ≡ true → in_scope r y ≡ true
    outer y e = in_rest xs (standing_inside a o) y (in_rest (map (λ (d : Definition). d.name.word) a.definitions) (standing_outside a o) y e)

    unit : (y : Word) → is_among (unit_names o) y ≡ true → in_scope r y ≡ true
    unit y e = outer y (in_named (declared a.globals ++ unit_names o) [] y (among_later (declared a.globals) (unit_names o) y e))

    standard : (y : Word) → is_among standard_names y ≡ true → may_rebind o.extended y ≡ false
    standard y e = ap not (or_right (is_own y) (is_standard o.extended y) (or_left _ _ (or_left (is_among standard_names y) _ e)))

    used : UsedOutside o (InScope r)
    used = record {
      constants = λ y e. inl (unit y (among_before (words o.constants) _ y e));
      definitions = λ d m.
          inl (unit d.definition.title
          (among_later (words o.constants) _ d.definition.title
          (among_before (map (λ (c : ReadDefinition). c.definition.title) o.definitions) _ d.definition.title (mapped_among (λ (c : ReadDefinition). c.definition.title) o.definitions d m))));
      self = inr refl;
      standard = λ y e. inr (standard y e);
    }

    pub seen_in_scope : Sees (seeing_variables xs (sight_inside a o)) (InScope r)
    seen_in_scope =
        sees_map (knowing variable) (InScope r) xs (sight_inside a o) (λ x m u. inl (in_named xs (standing_inside a o) x (one_is_among xs x m)))
        (sees_inside o (InScope r) used a
        (λ x m. inl (outer x (in_named (declared a.globals ++ unit_names o) [] x (among_before (declared a.globals) (unit_names o) x (one_is_among (declared a.globals) x m)))))
        (λ d m. inl (in_rest xs (standing_inside a o) d.name.word (in_named (map (λ (c : Definition). c.name.word) a.definitions) (standing_outside a o) d.name.word (mapped_among (λ (c : Definition). c.name.word) a.definitions d m)))))

  pub kept_of : (r : Standings) (y : Word) → InScope r y → Kept o.extended a.procedures (record { base = r; others = [] }) y
  kept_of r y (inl e) = inl (or_left (in_scope r y) false e)
  kept_of r y (inr e) = inr e

-- ---- of an accepted algorithm
