-- The labels of a routine with its statements prepared are its labels, where macros have statements and no labels, as those of accepted algorithms.
use Rattle.std.proofs.Common.{◌≡◌, ℕ, List, [], ◌∷◌, map, reverse, Bool, true, false, ◌||◌, cond, bytes_eq, codes, Option, Some, None, refl, sym, ap, subst, ◌∙◌}
use Rattle.std.proofs.lemmas.Simd.{map-map}
use Rattle.std.specs.Option.{option_map}
use Rattle.tla_tree.specs.Tree.{Word, Graft}
use Rattle.tla_value.specs.Grafts.{owned}
use Rattle.tla_value.specs.Order.{same}
use Rattle.tla_value.specs.Outside.{Outside}
use Rattle.tla_value.specs.Value.{Value, text}
use Rattle.module_tree.specs.Formulas.{self}
use Rattle.pcal_tree.specs.Algorithm.{Statements, Routine, Algorithm}
use Rattle.pcal_tree.specs.Calls.{label_value}
use Rattle.pcal_tree.specs.Expand.{graft_all, written_out, expanded}
use Rattle.pcal_tree.specs.FirstTrouble.{stand_at}
use Rattle.pcal_tree.specs.OffencesLabels.{label_words}
use Rattle.pcal_tree.specs.Program.{Program}
use Rattle.pcal_tree.specs.Run.{unlabelled}
use Rattle.pcal_tree.specs.StepAnswers.{label_place}
use Rattle.pcal_tree.proofs.RoutineNames.{every_one}
use Rattle.action_builder.specs.OwnVariables.{is_own_variable}
use Rattle.action_builder.specs.WrittenNames.{renames}
use Rattle.step_forms.specs.Opened.{IsOpenable}
use Rattle.step_forms.proofs.OpenedBodies.{openable_bare}
use Rattle.translation.specs.laws.AcceptedAlgorithm.{IsAcceptedInFile}
use Rattle.translation.specs.laws.TypedAlgorithm.{IsTypedMacro}
use Rattle.translation.specs.laws.WritableAlgorithm.{IsStarted}
use Rattle.translation.proofs.MacrosSound.{typed}
use Rattle.step_walks.specs.WrittenFlows.{own_statements}
use Rattle.step_spots.specs.Spots.{Spot, spots, routine_spots, spot_named, place_of}
use Rattle.step_spots.proofs.SpotLaws.{labels_listed, place_listed}
use Rattle.written_runs.specs.Stands.{stand_of, stand_among, stand_in}
use Rattle.written_runs.specs.OwnSpots.{HasOwnStatements, prepared_spot, prepared_spots, prepared_stand}
use Rattle.written_runs.proofs.SpotsPut.{changed, all_written, all_put}

pub accepted_opens : (o : Outside) (g : Algorithm) → IsAcceptedInFile o g → IsOpenable g
accepted_opens o g h = record {
  labels = h.accepted.labels;
  started = λ d m e. subst IsStarted e (every_one IsTypedMacro d g.macros (typed o g h.accepted).macros m).2.0;
}

module _ (P : Program) (h : IsOpenable P.algorithm) (u : Routine) where
  abbrev out : Statements → Statements
  out ss = expanded (reverse P.algorithm.macros) ss

  abbrev names : Graft
  names = renames P u

  abbrev own : Graft
  own = owned self (is_own_variable P)

  pub own_spots : (here : Word) (ss : Statements) (x : Word) → spots here (own_statements P u ss) x ≡ prepared_spots P u (spots here ss x)
  own_spots here ss x =
      all_put own here (graft_all names (out ss)) x
      ∙ ap (map (changed (graft_all own))) (all_put names here (out ss) x ∙ ap (map (changed (graft_all names))) (all_written (written_out (reverse P.algorithm.macros)) (openable_bare P.algorithm h) here ss x))
      ∙ map-map (changed (graft_all own)) (changed (graft_all names)) (map (changed out) (spots here ss x))
      ∙ map-map (λ (s : Spot). changed (graft_all own) (changed (graft_all names) s)) (changed out) (spots here ss x)

  module _ (v : Routine) (p : HasOwnStatements P u v) where
    pub routine_prepared : routine_spots v ≡ prepared_spots P u (routine_spots u)
    routine_prepared = (λ i. spots unlabelled (p.body i) (p.exit i)) ∙ own_spots unlabelled u.body u.exit

    pub words_prepared : label_words v.body ≡ label_words u.body
    words_prepared =
        labels_listed v
        ∙ ap (map (λ (s : Spot). s.name.word)) routine_prepared
        ∙ map-map (λ (s : Spot). s.name.word) (prepared_spot P u) (routine_spots u)
        ∙ sym (labels_listed u)

-- ---- the first of a name

found : (P : Program) (u : Routine) (b : Bool) (s : Spot) (o q : Option Spot) → o ≡ option_map (prepared_spot P u) q → cond b (Some (prepared_spot P u s)) o ≡ option_map (prepared_spot P u) (cond b (Some s) q)
found P u true s o q e = refl
found P u false s o q e = e

pub named_prepared : (P : Program) (u : Routine) (ss : List Spot) (l : Word) → spot_named (prepared_spots P u ss) l ≡ option_map (prepared_spot P u) (spot_named ss l)
named_prepared P u [] l = refl
named_prepared P u (s ∷ ss) l = found P u (bytes_eq l s.name.word) s (spot_named (prepared_spots P u ss) l) (spot_named ss l) (named_prepared P u ss l)

same_place : (P : Program) (u : Routine) (o : Option Spot) → place_of (option_map (prepared_spot P u) o) ≡ place_of o
same_place P u None = refl
same_place P u (Some s) = refl

module _ (P : Program) (h : IsOpenable P.algorithm) (u v : Routine) (p : HasOwnStatements P u v) where
  pub place_prepared : (l : Word) → label_place v l ≡ label_place u l
  place_prepared l =
      place_listed v l
      ∙ ap (λ (ss : List Spot). place_of (spot_named ss l)) (routine_prepared P h u v p)
      ∙ ap place_of (named_prepared P u (routine_spots u) l)
      ∙ same_place P u (spot_named (routine_spots u) l)
      ∙ sym (place_listed u l)

  -- ---- the label that a value names

  value_prepared : (l : Word) → label_value P v l ≡ label_value P u l
  value_prepared l = ap (λ (n : ℕ). text (cond (bytes_eq (codes "Done") l || bytes_eq (codes "Error") l) l (P.naming.label n l))) p.number

  begins_prepared : (l : Word) (o : Option Spot) → stand_at v l (option_map (λ (z : Spot). z.begins) (option_map (prepared_spot P u) o)) ≡ option_map (prepared_stand P u v) (stand_at u l (option_map (λ (z : Spot). z.begins) o))
  begins_prepared l None = refl
  begins_prepared l (Some s) = refl

  of_prepared : (all : List Spot) (s : Spot) → stand_of v (prepared_spots P u all) (prepared_spot P u s) ≡ option_map (prepared_stand P u v) (stand_of u all s)
  of_prepared all s =
      ap (λ (o : Option Spot). stand_at v s.name.word (option_map (λ (z : Spot). z.begins) o)) (named_prepared P u all s.name.word)
      ∙ begins_prepared s.name.word (spot_named all s.name.word)

  among_prepared : (w : Value) (all ss : List Spot) → stand_among P w v (prepared_spots P u all) (prepared_spots P u ss) ≡ option_map (prepared_stand P u v) (stand_among P w u all ss)
  among_prepared w all [] = refl
  among_prepared w all (s ∷ ss) =
      (λ i. cond (same w (value_prepared s.name.word i)) (of_prepared all s i) (among_prepared w all ss i)) ∙ chosen (same w (label_value P u s.name.word))
    where
      chosen : (b : Bool) → cond b (option_map (prepared_stand P u v) (stand_of u all s)) (option_map (prepared_stand P u v) (stand_among P w u all ss)) ≡ option_map (prepared_stand P u v) (cond b (stand_of u all s) (stand_among P w u all ss))
      chosen true = refl
      chosen false = refl

  pub stand_prepared : (w : Value) → stand_in P w v ≡ option_map (prepared_stand P u v) (stand_in P w u)
  stand_prepared w = (λ i. stand_among P w v (routine_prepared P h u v p i) (routine_prepared P h u v p i)) ∙ among_prepared w (routine_spots u) (routine_spots u)
