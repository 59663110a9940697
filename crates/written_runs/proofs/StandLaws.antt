-- The first label of a routine that a value of pc names is the first spot that it names.
use Rattle.std.proofs.Common.{◌≡◌, List, [], ◌∷◌, map, Bool, true, false, cond, bytes_eq, Option, Some, None, refl, sym, ap, ◌∙◌}
use Rattle.std.specs.List.{AllByRecursion}
use Rattle.std.specs.Option.{option_or, option_map}
use Rattle.std.proofs.lemmas.Slice.Eq.{bytes_eq-Decides}
use Rattle.tla_tree.specs.Tree.{Word}
use Rattle.tla_value.specs.Value.{Value}
use Rattle.tla_value.specs.Order.{same}
use Rattle.pcal_tree.specs.Algorithm.{Routine}
use Rattle.pcal_tree.specs.OffencesLabels.{label_words}
use Rattle.pcal_tree.specs.Program.{Program}
use Rattle.pcal_tree.specs.Calls.{label_value}
use Rattle.pcal_tree.specs.Step.{Stand}
use Rattle.pcal_tree.specs.StepStart.{Begin, at_label}
use Rattle.pcal_tree.specs.FirstTrouble.{stand_at, label_named, stand_named}
use Rattle.step_spots.specs.Spots.{Spot, routine_spots, spot_named}
use Rattle.step_spots.proofs.SpotLaws.{begins_listed, labels_listed}
use Rattle.written_runs.specs.Stands.{stand_of, stand_among, stand_in, stand_by_spots}

-- ---- each spot is found by its name, or an earlier one of that name is

abbrev Knows : List Spot → Spot → Type 0
Knows all s = (t : Spot) × (spot_named all s.name.word ≡ Some t)

knows_more : (t : Spot) (all ss : List Spot) → AllByRecursion (Knows all) ss → AllByRecursion (Knows (t ∷ all)) ss
knows_more t all [] h = tt
knows_more t all (s ∷ ss) h = (by (bytes_eq s.name.word t.name.word) h.0, knows_more t all ss h.1)
  where
    by : (b : Bool) → Knows all s → (r : Spot) × (cond b (Some t) (spot_named all s.name.word) ≡ Some r)
    by true k = (t, refl)
    by false k = k

knows_all : (ss : List Spot) → AllByRecursion (Knows ss) ss
knows_all [] = tt
knows_all (s ∷ ss) = ((s, ap (λ b. cond b (Some s) (spot_named ss s.name.word)) ((bytes_eq-Decides s.name.word s.name.word).1 refl)), knows_more s ss ss (knows_all ss))

-- ---- the first that a value names

abbrev spot_words : List Spot → List Word
spot_words ss = map (λ (s : Spot). s.name.word) ss

module _ (P : Program) (w : Value) (u : Routine) where
  abbrev all : List Spot
  all = routine_spots u

  abbrev begins : Option Spot → Option Begin
  begins o = option_map (λ (z : Spot). z.begins) o

  here : (s : Spot) → Knows all s → (rest : Option Stand) → option_or (stand_at u s.name.word (at_label u s.name.word)) rest ≡ stand_of u all s
  here s k rest =
      ap (λ o. option_or (stand_at u s.name.word o) rest) (begins_listed u s.name.word ∙ ap begins k.1)
      ∙ sym (ap (λ o. stand_at u s.name.word (begins o)) k.1)

  among : (ss : List Spot) → AllByRecursion (Knows all) ss → stand_among P w u all ss ≡ label_named P w u (spot_words ss)
  among [] h = refl
  among (s ∷ ss) h = by (same w (label_value P u s.name.word)) (among ss h.1)
    where
      by : (b : Bool) → stand_among P w u all ss ≡ label_named P w u (spot_words ss)
          → cond b (stand_of u all s) (stand_among P w u all ss) ≡ option_or (cond b (stand_at u s.name.word (at_label u s.name.word)) None) (label_named P w u (spot_words ss))
      by true e = sym (here s h.0 (label_named P w u (spot_words ss)))
      by false e = e

  pub in_routine : stand_in P w u ≡ label_named P w u (label_words u.body)
  in_routine = among all (knows_all all) ∙ ap (label_named P w u) (sym (labels_listed u))

pub by_spots : (P : Program) (w : Value) (us : List Routine) → stand_by_spots P w us ≡ stand_named P w us
by_spots P w [] = refl
by_spots P w (u ∷ us) = λ i. option_or (in_routine P w u i) (by_spots P w us i)
