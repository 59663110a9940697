-- Written names: what a module's names would take from each other is told apart by numbers ("A PlusCal User's Manual", section 4, on names in the translation).
use Rattle.std.specs.Prelude.{ℕ, zero, suc, length, nat_eq, List, [], ◌∷◌, ◌++◌, Bool, true, false, ◌&&◌, ◌||◌, cond, bytes_eq, codes, map}
use Rattle.std.specs.List.{flat_map}
use Rattle.std.specs.Fmt.{decimal}
use Rattle.tla_token.specs.Signs.{is_among}
use Rattle.tla_token.specs.Words.{is_reserved, is_own, is_standard}
use Rattle.tla_tree.specs.Tree.{Word}
use Rattle.pcal_tree.specs.Algorithm.{Main, alone, processes, Algorithm, Routine, locals, procedure_routines, main_routines, Naming}
use Rattle.tla_tree.specs.Tree.{words}
use Rattle.pcal_tree.specs.OffencesLabels.{label_words}
use Rattle.tla_value.specs.Outside.{Outside}
use Rattle.pcal_tree.specs.BoundNames.{all_of, bound_lists}
use Rattle.pcal_tree.specs.Outside.{unit_names, bound_outside}
use Rattle.pcal_tree.specs.Variables.{declared}

-- ---- names that are taken from the start

-- globals, definitions, and all names that are bound, parameters among them
abbrev pub kept : Algorithm → List Word
kept a =
    declared a.globals
    ++ (flat_map (λ d. d.name.word ∷ words d.params) a.definitions
    ++ (flat_map (λ d. words d.params) a.macros ++ words (all_of (bound_lists a))))

abbrev pub taken_outside : Outside → List Word
taken_outside o = unit_names o ++ bound_outside o

-- the names that are taken from the start
abbrev pub taken_at_start : Algorithm → Outside → List Word
taken_at_start a o = taken_outside o ++ kept a

-- a name that no unit can have, or that is among those taken
abbrev pub is_taken : List Word → List Word → Word → Bool
is_taken extended taken w = is_reserved w || is_own w || is_standard extended w || is_among taken w

-- ---- the first free name

-- what is between a name and a number: words that begin with WF_ or SF_ are no names
abbrev pub joint : Word → Word
joint x = cond (bytes_eq (codes "WF") x || bytes_eq (codes "SF") x) [] (codes "_")

-- x_1, x_2, ..
abbrev pub with_number : Word → ℕ → Word
with_number x n = x ++ (joint x ++ decimal n)

-- the first of x_n, x_(n+1), .. that isn't taken, looking at so many and one more
abbrev pub free_from : ℕ → List Word → Word → ℕ → Word
free_from zero taken x n = with_number x n
free_from (suc more) taken x n = cond (is_among taken (with_number x n)) (free_from more taken x (suc n)) (with_number x n)

-- the first of x, x_1, x_2, .. that isn't taken; with a number after it a name is no word of a language or module
abbrev pub first_free : List Word → List Word → Word → Word
first_free extended taken x = cond (is_taken extended taken x) (free_from (length taken) taken x 1) x

-- ---- what takes names, in the order of the text

pub data Role : Type 0 where
  title : Role  -- the name of a procedure or process
  variable : Role  -- a variable or parameter of it
  label : Role

-- of the routine with this number
pub record Want : Type 0 where
  pub unit : ℕ
  pub role : Role
  pub word : Word

abbrev pub wants : ℕ → Role → List Word → List Want
wants n r ws = map (λ w. record { unit = n; role = r; word = w }) ws

abbrev pub wanted_within : Routine → List Want
wanted_within u = wants u.number variable (declared (locals u)) ++ wants u.number label (label_words u.body)

abbrev pub wanted_by : Routine → List Want
wanted_by u = record { unit = u.number; role = title; word = u.name.word } ∷ wanted_within u

-- the one body of a uniprocess algorithm has no name
abbrev pub wanted_by_main : Algorithm → Main → List Want
wanted_by_main a (alone b) = flat_map wanted_within (main_routines a (alone b))
wanted_by_main a (processes ps) = flat_map wanted_by (main_routines a (processes ps))

abbrev pub wanted : Algorithm → List Want
wanted a = flat_map wanted_by (procedure_routines a) ++ wanted_by_main a a.main

-- ---- names given

pub record Given : Type 0 where
  pub want : Want
  pub written : Word

-- each takes the first that is free
abbrev pub give : List Word → List Word → List Want → List Given
give extended taken [] = []
give extended taken (w ∷ ws) =
    record { want = w; written = first_free extended taken w.word } ∷ give extended (first_free extended taken w.word ∷ taken) ws

abbrev pub same_role : Role → Role → Bool
same_role title title = true
same_role variable variable = true
same_role label label = true
same_role _ _ = false

abbrev pub is_for : ℕ → Role → Want → Bool
is_for n r w = nat_eq w.unit n && same_role w.role r

abbrev pub written_for : List Given → ℕ → Role → Word → Word
written_for [] n r x = x
written_for (g ∷ gs) n r x = cond (is_for n r g.want && bytes_eq g.want.word x) g.written (written_for gs n r x)

abbrev pub title_for : List Given → ℕ → Word
title_for [] n = []
title_for (g ∷ gs) n = cond (is_for n title g.want) g.written (title_for gs n)

abbrev pub naming_by : List Given → Naming
naming_by gs = record {
  local = λ n x. written_for gs n variable x;
  label = λ n l. written_for gs n label l;
  title = title_for gs;
}

-- the written names of an algorithm in a module
abbrev pub given : Algorithm → Outside → List Given
given a o = give o.extended (taken_at_start a o) (wanted a)

-- the naming that looks them up
abbrev pub naming : Algorithm → Outside → Naming
naming a o = naming_by (given a o)
