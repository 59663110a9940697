-- The algorithm whose worked translation is put into a file is the one that stands in the file: by computation.
use Rattle.std.proofs.Common.{◌≡◌, ℕ, ◌+◌, [], ◌∷◌, true, false, Option, Some, None, inl, codes, refl, sym, subst}
use Rattle.std.proofs.lemmas.Option.{same_Some}
use Rattle.std.specs.Fmt.{digits}
use Rattle.tla_token.specs.declared.place.Place.{Place}
use Rattle.tla_tree.specs.declared.op.Op.TheVariants.{Plus, Minus, Greater}
use Rattle.tla_tree.specs.Tree.{Word, Name}
use Rattle.tla_tree.specs.Spelling.{Phrase, last, more, set_of, infix_of}
use Rattle.tla_tree.specs.Spelling as spelled
use Rattle.tla_tree.specs.Reader.{readers, readers_in}
use Rattle.tla_value.specs.Outside.{Outside}
use Rattle.pcal_tree.specs.Placeless.{placeless}
use Rattle.pcal_tree.specs.AlgorithmTokens.{views}
use Rattle.pcal_tree.specs.GrammarParts.{Labels, Initial, by_semicolon, equals, no_section, section, last_variable, last_parameter, some_parameters, some_arguments, colon, label, no_labels, assign, last_assignment, call, return}
use Rattle.pcal_tree.specs.GrammarP.{Sequence, simple, branch, no_else, last_statement, more_statements}
use Rattle.pcal_tree.specs.Grammar.{Text, algorithm, to_end, no_define, begin_end, begin, processes, unfair, bare, spell, algorithm_of, Good, p_syntax}
use Rattle.pcal_tree.specs.Algorithm.{Algorithm}
use Rattle.module_tree.specs.TextFront as front
use Rattle.module_tree.specs.Walk.{walk}
use Rattle.module_tree.specs.AlgorithmText.{AlgorithmText, algorithm_in, algorithm_tokens}
use Rattle.module_tree.specs.FileOffences.{offences_of, algorithm_offences}
use Rattle.module_tree.specs.laws.Kept.{only_large}
use Rattle.module_tree.proofs.AlgorithmIsCut.{algorithm_is_cut}
use Rattle.module_tree.specs.Module.{Region}
use Rattle.module_tree.specs.laws.Outsides.{HasOutside}
use Rattle.module_tree.specs.laws.WritableRegion.{IsWritten}
use Rattle.module_tree.proofs.SomeOutside.{outside_read, has_outside}
use Rattle.action_builder.specs.WrittenNames.{with_names}
use Rattle.promise.specs.Headline.{Stands}
use Rattle.translation.specs.Region.{region_of, written_region}
use Rattle.translation.proofs.Trees.{integers}
use Rattle.translation.proofs.RowsWhole as whole
use Rattle.translation.proofs.RowsProcedures as procedures
use Rattle.translation.proofs.RowsProcesses as kinds

-- an algorithm that the tokens of a file spell stands in it
stands_by : (x : front.Text) (t : Text) (o : Option AlgorithmText) → algorithm_in x ≡ o → Good p_syntax t → offences_of (walk x) ≡ [] → only_large (algorithm_offences o) ≡ true
    → front.on_some o (λ a. Some (views (algorithm_tokens x a))) ≡ Some (spell t []) → Stands x (algorithm_of t)
stands_by x t (Some a) is good fine large told = record {
  text = a;
  is_text = is;
  tokens = algorithm_tokens x a;
  tok = algorithm_is_cut x a fine is large;
  spelled = inl (t, good, same_Some (views (algorithm_tokens x a)) (spell t []) told, refl);
}
stands_by x t None is good fine large told = absurd cc

abbrev at : ℕ → ℕ → Place
at l k = record { line = l; col = k }

abbrev named : ℕ → ℕ → Word → Name
named l k w = record { word = w; place = at l k }

abbrev number : ℕ → ℕ → ℕ → Phrase
number l k n = spelled.number (at l k) n

abbrev name : ℕ → ℕ → Word → Phrase
name l k w = spelled.name (at l k) w

abbrev zero_at : ℕ → ℕ → Initial
zero_at l k = equals (at l k) (number l (k + 2) 0)

abbrev labelled : ℕ → ℕ → Word → Labels
labelled l k w = label (named l k w) (colon (at l (k + 1))) no_labels

abbrev body : Sequence
body =
    more_statements (labelled 9 3 (codes "P")) (simple (assign (last_assignment (name 9 6 (codes "r")) (at 9 8) (infix_of (name 9 11 (codes "r")) (at 9 13) Plus (name 9 15 (codes "k")))))) (at 9 16)
    (more_statements no_labels
    (branch (at 10 3) (infix_of (name 10 6 (codes "n")) (at 10 8) Greater (number 10 10 0)) (at 10 12)
    (last_statement no_labels (simple (call (at 10 17) (named 10 22 (codes "Add")) (some_arguments (at 10 25) (last (infix_of (name 10 26 (codes "n")) (at 10 28) Minus (number 10 30 1))) (at 10 31)))) (Some (at 10 32)))
    no_else (at 10 34) (at 10 38)) (at 10 40)
    (last_statement (labelled 11 3 (codes "Q")) (simple (return (at 11 6))) (Some (at 11 12))))

-- the text of the algorithm with the procedure Add
abbrev pub add_text : Text
add_text = record {
  head = algorithm (at 4 1);
  name = named 4 13 (codes "R");
  around = to_end (at 15 1) (at 15 5);
  variables = section (at 5 1) true (last_variable (named 5 11 (codes "r")) (zero_at 5 13) (Some (by_semicolon (at 5 16))));
  define = no_define;
  macros = [];
  procedures = record {
    place = at 6 1;
    name = named 6 11 (codes "Add");
    parameters = some_parameters (at 6 14) (last_parameter (named 6 15 (codes "n")) (zero_at 6 17)) (at 6 20);
    variables = section (at 7 1) false (last_variable (named 7 10 (codes "k")) (equals (at 7 12) (infix_of (name 7 14 (codes "n")) (at 7 16) Plus (number 7 18 1))) (Some (by_semicolon (at 7 19))));
    body = begin_end (at 8 1) body (at 12 1) (at 12 5) None;
  } ∷ [];
  main = begin (at 13 1) (last_statement (labelled 14 3 (codes "A")) (simple (call (at 14 6) (named 14 11 (codes "Add")) (some_arguments (at 14 14) (last (number 14 15 1)) (at 14 16)))) (Some (at 14 17)));
}

pub add_good : Good p_syntax add_text
add_good = search

pub add_stands : Stands procedures.file (algorithm_of add_text)
add_stands = stands_by procedures.file add_text (algorithm_in procedures.file) refl add_good refl refl refl

-- it is the algorithm whose translation the file has, in its places
pub add_same : placeless (algorithm_of add_text) ≡ placeless procedures.add_one
add_same = refl

-- ---- the first file, and the one with an old translation

abbrev inc_text : Text
inc_text = record {
  head = algorithm (at 4 1);
  name = named 4 13 (codes "Inc");
  around = to_end (at 8 1) (at 8 5);
  variables = section (at 5 1) true (last_variable (named 5 11 (codes "x")) (zero_at 5 13) (Some (by_semicolon (at 5 16))));
  define = no_define;
  macros = [];
  procedures = [];
  main = begin (at 6 1) (last_statement (labelled 7 3 (codes "A")) (simple (assign (last_assignment (name 7 6 (codes "x")) (at 7 8) (infix_of (name 7 11 (codes "x")) (at 7 13) Plus (number 7 15 1))))) (Some (at 7 16)));
}

inc_good : Good p_syntax inc_text
inc_good = search

inc_stands : Stands whole.file (algorithm_of inc_text)
inc_stands = stands_by whole.file inc_text (algorithm_in whole.file) refl inc_good refl refl refl

inc_stands_there : Stands whole.outdated (algorithm_of inc_text)
inc_stands_there = stands_by whole.outdated inc_text (algorithm_in whole.outdated) refl inc_good refl refl refl

inc_same : placeless (algorithm_of inc_text) ≡ placeless whole.inc
inc_same = refl

-- ---- the file with a single process and a process set

abbrev both_text : Text
both_text = record {
  head = algorithm (at 4 1);
  name = named 4 13 (codes "R");
  around = to_end (at 15 1) (at 15 5);
  variables = no_section;
  define = no_define;
  macros = [];
  procedures = [];
  main = processes
      record {
        fair = unfair;
        place = at 5 1;
        identity = bare (named 5 9 (codes "P")) false (at 5 11) (number 5 13 7);
        variables = section (at 6 1) false (last_variable (named 6 10 (codes "n")) (equals (at 6 12) (number 6 14 1)) (Some (by_semicolon (at 6 15))));
        body = begin_end (at 7 1) (last_statement (labelled 8 3 (codes "A")) (simple (assign (last_assignment (name 8 6 (codes "n")) (at 8 8) (infix_of (name 8 11 (codes "n")) (at 8 13) Plus (number 8 15 1))))) (Some (at 8 16))) (at 9 1) (at 9 5) None;
      }
      (record {
        fair = unfair;
        place = at 10 1;
        identity = bare (named 10 9 (codes "Q")) true (at 10 11) (set_of (at 10 15) (more (number 10 16 1) (at 10 17) (last (number 10 19 2))) (at 10 20));
        variables = section (at 11 1) false (last_variable (named 11 10 (codes "m")) (equals (at 11 12) (name 11 14 (codes "self"))) (Some (by_semicolon (at 11 18))));
        body = begin_end (at 12 1) (last_statement (labelled 13 3 (codes "B")) (simple (assign (last_assignment (name 13 6 (codes "m")) (at 13 8) (number 13 11 0)))) (Some (at 13 12))) (at 14 1) (at 14 5) None;
      } ∷ []);
}

both_good : Good p_syntax both_text
both_good = search

both_stand : Stands kinds.file (algorithm_of both_text)
both_stand = stands_by kinds.file both_text (algorithm_in kinds.file) refl both_good refl refl refl

both_same : placeless (algorithm_of both_text) ≡ placeless kinds.two_processes
both_same = refl

-- ---- what the files have outside; and so each is translated, with the names that are free there

-- places don't matter to what is put into a file
translated_by : (x w : front.Text) (o : Outside) (a g : Algorithm) → placeless a ≡ placeless g → IsWritten x w o (written_region false o g) → IsWritten x w o (written_region false o a)
translated_by x w o a g same is = subst (λ (b : Algorithm). IsWritten x w o (region_of false (with_names o b))) (sym same) is

add_outside : outside_read (walk procedures.file) ≡ procedures.sequences
unfolding readers_in
add_outside = refl

pub add_has : HasOutside (walk procedures.file) procedures.sequences
add_has = subst (λ (o : Outside). HasOutside (walk procedures.file) o) add_outside (has_outside (walk procedures.file))

add_translated : IsWritten procedures.file procedures.translated procedures.sequences (written_region false procedures.sequences (algorithm_of add_text))
add_translated =
    translated_by procedures.file procedures.translated procedures.sequences (algorithm_of add_text) procedures.add_one add_same
    (procedures.file_reads procedures.sequences add_has)

inc_outside : outside_read (walk whole.file) ≡ integers
unfolding readers_in
inc_outside = refl

inc_has : HasOutside (walk whole.file) integers
inc_has = subst (λ (o : Outside). HasOutside (walk whole.file) o) inc_outside (has_outside (walk whole.file))

inc_translated : IsWritten whole.file whole.translated integers (written_region false integers (algorithm_of inc_text))
inc_translated = translated_by whole.file whole.translated integers (algorithm_of inc_text) whole.inc inc_same (whole.file_reads integers inc_has)

both_outside : outside_read (walk kinds.file) ≡ integers
unfolding readers_in
both_outside = refl

pub both_have : HasOutside (walk kinds.file) integers
both_have = subst (λ (o : Outside). HasOutside (walk kinds.file) o) both_outside (has_outside (walk kinds.file))

both_translated : IsWritten kinds.file kinds.translated integers (written_region false integers (algorithm_of both_text))
both_translated = translated_by kinds.file kinds.translated integers (algorithm_of both_text) kinds.two_processes both_same (kinds.file_reads integers both_have)

-- with a unit behind the old translation, whose name is none that the algorithm wants
abbrev with_unit : Outside
with_unit = record integers { opaque = record { keyword = []; names = codes "Inv" ∷ []; place = at 13 1 } ∷ [] }

old_outside : outside_read (walk whole.outdated) ≡ with_unit
unfolding readers_in
old_outside = refl

old_has : HasOutside (walk whole.outdated) with_unit
old_has = subst (λ (o : Outside). HasOutside (walk whole.outdated) o) old_outside (has_outside (walk whole.outdated))

same_beside : written_region false integers whole.inc ≡ written_region false with_unit whole.inc
unfolding digits
same_beside = refl

old_translated : IsWritten whole.outdated whole.renewed with_unit (written_region false with_unit (algorithm_of inc_text))
old_translated =
    translated_by whole.outdated whole.renewed with_unit (algorithm_of inc_text) whole.inc inc_same
    (subst (λ (r : Region). IsWritten whole.outdated whole.renewed with_unit r) same_beside (whole.renewed_reads with_unit old_has))
