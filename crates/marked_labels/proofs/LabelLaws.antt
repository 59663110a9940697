-- Labels that are wanted, by a walk over statements, and as they are defined one kind after another.
use Rattle.std.proofs.Common.{◌≡◌, ℕ, false, List, [], ◌∷◌, ◌++◌, map, refl, sym, ap, ◌∙◌}
use Rattle.std.specs.List.{flat_map}
use Rattle.std.proofs.lemmas.List.{map-append}
use Rattle.std.proofs.lemmas.List.Concat.{flat_map-append}
use Rattle.tla_tree.specs.Tree.{Name, Word, Tree}
use Rattle.pcal_tree.specs.declared.algorithm.Simple as declared_simple
use Rattle.pcal_tree.specs.declared.algorithm.Simple.TheVariants as simple
use Rattle.pcal_tree.specs.InMemory.{simple_at}
use Rattle.pcal_tree.specs.declared.mark.Mark.{Mark}
use Rattle.pcal_tree.specs.declared.mark.Mark.TheVariants as marks
use Rattle.pcal_tree.specs.Algorithm.{Statement, branch, either, with, while, Statements, done, then, mark, Branches, no_branches, or, Naming, Routine, nowhere, alone}
use Rattle.pcal_tree.specs.OffencesLabels.{label_words}
use Rattle.pcal_tree.specs.Program.{Program}
use Rattle.pcal_tree.specs.Calls.{label_name}
use Rattle.tla_value.specs.Stops.{plain}
use Rattle.tla_value.specs.Definitions.{no_state}
use Rattle.pcal_tree.proofs.BodyLabels.{labels_in, labels, labels_of as labels_of_some, same_labels}
use Rattle.fairness.specs.MarkedLabels.{Marked, marked_in, marked, marked_some, left_out_labels, kept_labels, strong_labels, if_left_out, unless_left_out, if_strong}
use Rattle.marked_labels.specs.declared.labels.Wanted.{Wanted}
use Rattle.marked_labels.specs.declared.labels.Wanted.TheVariants as wanted
use Rattle.marked_labels.specs.Wanted.{if_wanted, chosen, written_label, written_labels, labels_of}
use Rattle.marked_labels.proofs.Walks.{IsWalk}

-- ---- a walk

module _ (f : Naming) (n : ℕ) (w : Wanted) where
  abbrev pub labels_some : Branches → List Word
  labels_some bs = written_labels f n w (marked_some bs)

  abbrev pub labels_inside : Statement → List Word
  labels_inside st = written_labels f n w (marked_in st)

  abbrev pub labels_here : Name → Mark → List Word
  labels_here l k = map (written_label f n) (if_wanted w l.word k)

  both : (ms ls : List Marked) → written_labels f n w (ms ++ ls) ≡ written_labels f n w ms ++ written_labels f n w ls
  both ms ls =
      ap (map (written_label f n)) (flat_map-append (λ (m : Marked). if_wanted w m.label m.mark) ms ls) ∙ map-append (written_label f n) (chosen w ms) (chosen w ls)

  pub labels_walk : IsWalk (labels_of f n w) labels_some labels_inside labels_here
  labels_walk = record {
    of_none = refl;
    of_label = λ l k rest. map-append (written_label f n) (if_wanted w l.word k) (chosen w (marked rest));
    of_one = λ p st rest. both (marked_in st) (marked rest);
    of_if = λ e a b. both (marked a) (marked b);
    of_either = λ bs. refl;
    of_with = λ bs b. refl;
    of_while = λ e b. refl;
    of_no_branch = refl;
    of_branch = λ b bs. both (marked b) (marked_some bs);
  }

  -- a statement without statements in it has no labels
  pub simple_none : (ts : List Tree) (x : declared_simple.Simple) → labels_inside (simple_at ts x) ≡ []
  simple_none ts (simple.Assign ms) = refl
  simple_none ts (simple.Await e) = refl
  simple_none ts (simple.Print e) = refl
  simple_none ts (simple.Assert e) = refl
  simple_none ts simple.Skip = refl
  simple_none ts (simple.Goto x) = refl
  simple_none ts (simple.Macro x es) = refl
  simple_none ts (simple.Call x es) = refl
  simple_none ts simple.Return = refl

-- ---- one label

abbrev nameless : Name
nameless = record { word = []; place = nowhere }

-- a program with these written names, and a routine with this number: what the name of a label needs of them
abbrev program_of : Naming → Program
program_of f = record {
  check = plain;
  constants = no_state;
  outside = [];
  algorithm = record { name = nameless; fair = false; globals = []; definitions = []; macros = []; procedures = []; main = alone done };
  naming = f;
}

abbrev routine_of : ℕ → Routine
routine_of n = record { number = n; name = nameless; params = []; variables = []; spread = false; body = done; exit = [] }

pub from_name : (f : Naming) (n : ℕ) (l w : Word) → ((P : Program) (u : Routine) → f ≡ P.naming → u.number ≡ n → w ≡ label_name P u l) → w ≡ written_label f n l
from_name f n l w h = h (program_of f) (routine_of n) refl refl

-- ---- each kind

each : (g h : Word → Mark → List Word) → ((l : Word) (k : Mark) → g l k ≡ h l k) → (ms : List Marked) → flat_map (λ m. g m.label m.mark) ms ≡ flat_map (λ m. h m.label m.mark) ms
each g h e [] = refl
each g h e (m ∷ ms) = λ i. e m.label m.mark i ++ each g h e ms i

pub chosen_left_out : (b : Statements) → chosen wanted.LeftOut (marked b) ≡ left_out_labels b
chosen_left_out b = each (if_wanted wanted.LeftOut) if_left_out by (marked b)
  where
    by : (l : Word) (k : Mark) → if_wanted wanted.LeftOut l k ≡ if_left_out l k
    by l marks.Plain = refl
    by l marks.Strong = refl
    by l marks.LeftOut = refl

pub chosen_kept : (b : Statements) → chosen wanted.Kept (marked b) ≡ kept_labels b
chosen_kept b = each (if_wanted wanted.Kept) unless_left_out by (marked b)
  where
    by : (l : Word) (k : Mark) → if_wanted wanted.Kept l k ≡ unless_left_out l k
    by l marks.Plain = refl
    by l marks.Strong = refl
    by l marks.LeftOut = refl

pub chosen_strong : (b : Statements) → chosen wanted.Strong (marked b) ≡ strong_labels b
chosen_strong b = each (if_wanted wanted.Strong) if_strong by (marked b)
  where
    by : (l : Word) (k : Mark) → if_wanted wanted.Strong l k ≡ if_strong l k
    by l marks.Plain = refl
    by l marks.Strong = refl
    by l marks.LeftOut = refl

mutual
  words_in : (st : Statement) → chosen wanted.All (marked_in st) ≡ labels_in st
  words_in (branch e a b) = flat_map-append (λ (m : Marked). if_wanted wanted.All m.label m.mark) (marked a) (marked b) ∙ (λ i. words a i ++ words b i)
  words_in (either bs) = words_some bs
  words_in (with bs b) = words b
  words_in (while e b) = words b
  words_in _ = refl

  words : (b : Statements) → chosen wanted.All (marked b) ≡ labels b
  words done = refl
  words (then at st rest) = flat_map-append (λ (m : Marked). if_wanted wanted.All m.label m.mark) (marked_in st) (marked rest) ∙ (λ i. words_in st i ++ words rest i)
  words (mark l k rest) = ap (λ (ls : List Word). l.word ∷ ls) (words rest)

  words_some : (bs : Branches) → chosen wanted.All (marked_some bs) ≡ labels_of_some bs
  words_some no_branches = refl
  words_some (or b bs) = flat_map-append (λ (m : Marked). if_wanted wanted.All m.label m.mark) (marked b) (marked_some bs) ∙ (λ i. words b i ++ words_some bs i)

pub chosen_all : (b : Statements) → chosen wanted.All (marked b) ≡ label_words b
chosen_all b = words b ∙ sym (same_labels b)
