-- Proves that the labels of a routine are listed: a step at a label begins after the first of its name.
use Rattle.std.proofs.Common.{◌≡◌, List, [], ◌∷◌, ◌++◌, map, Bool, true, false, cond, bytes_eq, Option, Some, refl, sym, ap, ◌∙◌}
use Rattle.std.proofs.lemmas.List.{map-append}
use Rattle.std.proofs.lemmas.Simd.{map-map}
use Rattle.std.specs.Option.{option_or, option_map}
use Rattle.tla_token.specs.declared.place.Place.{Place}
use Rattle.tla_tree.specs.Tree.{Word, Name}
use Rattle.pcal_tree.specs.Algorithm.{nowhere, Statement, assign, await, print, assert, skip, branch, either, with, while, goto, macro, call, return, Statements, done, then, mark, Branches, no_branches, or, Routine}
use Rattle.pcal_tree.specs.Run.{unlabelled, label_of}
use Rattle.pcal_tree.specs.StepStart.{Begin, begin_in, begin, begin_some, at_label}
use Rattle.pcal_tree.specs.StepAnswers.{place_among, label_place}
use Rattle.pcal_tree.specs.OffencesLabels.{Label, labels_of_one, labels, labels_of_some, label_words}
use Rattle.step_spots.specs.Spots.{Spot, spots_in, spots, spots_some, routine_spots, spot_named, place_of}

-- ---- where a step begins

abbrev begins_at : List Spot → Word → Option Begin
begins_at ss l = option_map (λ (s : Spot). s.begins) (spot_named ss l)

first_begins : (b : Bool) (s : Spot) (o p : Option Spot) (q : Option Begin) → option_map (λ (z : Spot). z.begins) o ≡ option_or (option_map (λ (z : Spot). z.begins) p) q
    → option_map (λ (z : Spot). z.begins) (cond b (Some s) o) ≡ option_or (option_map (λ (z : Spot). z.begins) (cond b (Some s) p)) q
first_begins true s o p q e = refl
first_begins false s o p q e = e

begins_then : (ss us : List Spot) (l : Word) → begins_at (ss ++ us) l ≡ option_or (begins_at ss l) (begins_at us l)
begins_then [] us l = refl
begins_then (s ∷ ss) us l = first_begins (bytes_eq l s.name.word) s (spot_named (ss ++ us) l) (spot_named ss l) (begins_at us l) (begins_then ss us l)

here_first : (b : Bool) (s : Spot) (o : Option Spot) (p : Option Begin) → p ≡ option_map (λ (z : Spot). z.begins) o → cond b (Some s.begins) p ≡ option_map (λ (z : Spot). z.begins) (cond b (Some s) o)
here_first true s o p e = refl
here_first false s o p e = e

mutual
  begun_in : (l here : Word) (st : Statement) (x : Word) → begin_in l here st x ≡ begins_at (spots_in here st x) l
  begun_in l here (assign ms) x = refl
  begun_in l here (await e) x = refl
  begun_in l here (print e) x = refl
  begun_in l here (assert e) x = refl
  begun_in l here skip x = refl
  begun_in l here (branch e a b) x =
      (λ i. option_or (begun l unlabelled a x i) (begun l unlabelled b x i)) ∙ sym (begins_then (spots unlabelled a x) (spots unlabelled b x) l)
  begun_in l here (either bs) x = begun_some l bs x
  begun_in l here (with bs b) x = begun l unlabelled b x
  begun_in l here (while e b) x = begun l unlabelled b here
  begun_in l here (goto n) x = refl
  begun_in l here (macro m ts) x = refl
  begun_in l here (call p ts) x = refl
  begun_in l here return x = refl

  begun : (l here : Word) (ss : Statements) (x : Word) → begin l here ss x ≡ begins_at (spots here ss x) l
  begun l here done x = refl
  begun l here (then at st rest) x =
      (λ i. option_or (begun_in l here st (label_of rest x) i) (begun l unlabelled rest x i)) ∙ sym (begins_then (spots_in here st (label_of rest x)) (spots unlabelled rest x) l)
  begun l here (mark m k rest) x =
      here_first (bytes_eq l m.word) (record { name = m; begins = record { items = rest; exit = x } }) (spot_named (spots m.word rest x) l) (begin l m.word rest x) (begun l m.word rest x)

  begun_some : (l : Word) (bs : Branches) (x : Word) → begin_some l bs x ≡ begins_at (spots_some bs x) l
  begun_some l no_branches x = refl
  begun_some l (or b bs) x =
      (λ i. option_or (begun l unlabelled b x i) (begun_some l bs x i)) ∙ sym (begins_then (spots unlabelled b x) (spots_some bs x) l)

pub begins_listed : (u : Routine) (l : Word) → at_label u l ≡ option_map (λ (s : Spot). s.begins) (spot_named (routine_spots u) l)
begins_listed u l = begun l unlabelled u.body u.exit

-- ---- the labels themselves

abbrev label_names : List Label → List Name
label_names ms = map (λ (m : Label). m.name) ms

abbrev spot_names : List Spot → List Name
spot_names ss = map (λ (s : Spot). s.name) ss

both : (a b : List Label) (s u : List Spot) → label_names a ≡ spot_names s → label_names b ≡ spot_names u → label_names (a ++ b) ≡ spot_names (s ++ u)
both a b s u e f = map-append _ a b ∙ (λ i. e i ++ f i) ∙ sym (map-append _ s u)

mutual
  named_in : (here : Word) (st : Statement) (x : Word) → label_names (labels_of_one st) ≡ spot_names (spots_in here st x)
  named_in here (assign ms) x = refl
  named_in here (await e) x = refl
  named_in here (print e) x = refl
  named_in here (assert e) x = refl
  named_in here skip x = refl
  named_in here (branch e a b) x =
      both (labels false a) (labels false b) (spots unlabelled a x) (spots unlabelled b x) (named false unlabelled a x) (named false unlabelled b x)
  named_in here (either bs) x = named_some bs x
  named_in here (with bs b) x = named false unlabelled b x
  named_in here (while e b) x = named false unlabelled b here
  named_in here (goto n) x = refl
  named_in here (macro m ts) x = refl
  named_in here (call p ts) x = refl
  named_in here return x = refl

  named : (second : Bool) (here : Word) (ss : Statements) (x : Word) → label_names (labels second ss) ≡ spot_names (spots here ss x)
  named second here done x = refl
  named second here (then at st rest) x =
      both (labels_of_one st) (labels false rest) (spots_in here st (label_of rest x)) (spots unlabelled rest x) (named_in here st (label_of rest x)) (named false unlabelled rest x)
  named second here (mark m k rest) x = ap (λ (ns : List Name). m ∷ ns) (named true m.word rest x)

  named_some : (bs : Branches) (x : Word) → label_names (labels_of_some bs) ≡ spot_names (spots_some bs x)
  named_some no_branches x = refl
  named_some (or b bs) x = both (labels false b) (labels_of_some bs) (spots unlabelled b x) (spots_some bs x) (named false unlabelled b x) (named_some bs x)

pub labels_listed : (u : Routine) → label_words u.body ≡ map (λ (s : Spot). s.name.word) (routine_spots u)
labels_listed u =
    sym (map-map (λ (n : Name). n.word) (λ (m : Label). m.name) (labels false u.body))
    ∙ ap (map (λ (n : Name). n.word)) (named false unlabelled u.body u.exit)
    ∙ map-map (λ (n : Name). n.word) (λ (s : Spot). s.name) (routine_spots u)

-- ---- where a label is

abbrev place_in : Word → List Name → Place
place_in l [] = nowhere
place_in l (n ∷ ns) = cond (bytes_eq l n.word) n.place (place_in l ns)

label_place_in : (l : Word) (ms : List Label) → place_among l ms ≡ place_in l (label_names ms)
label_place_in l [] = refl
label_place_in l (m ∷ ms) = ap (cond (bytes_eq l m.name.word) m.name.place) (label_place_in l ms)

first_place : (b : Bool) (s : Spot) (o : Option Spot) (p : Place) → place_of o ≡ p → place_of (cond b (Some s) o) ≡ cond b s.name.place p
first_place true s o p e = refl
first_place false s o p e = e

spot_place_in : (l : Word) (ss : List Spot) → place_of (spot_named ss l) ≡ place_in l (spot_names ss)
spot_place_in l [] = refl
spot_place_in l (s ∷ ss) = first_place (bytes_eq l s.name.word) s (spot_named ss l) (place_in l (spot_names ss)) (spot_place_in l ss)

pub place_listed : (u : Routine) (l : Word) → label_place u l ≡ place_of (spot_named (routine_spots u) l)
place_listed u l =
    label_place_in l (labels false u.body) ∙ ap (place_in l) (named false unlabelled u.body u.exit) ∙ sym (spot_place_in l (routine_spots u))
