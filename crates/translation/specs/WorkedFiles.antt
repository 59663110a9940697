-- Worked files of which the promise speaks, and runs of their algorithms.
use Rattle.std.specs.Prelude.{ℕ, List, [], ◌∷◌, codes, pos}
use Rattle.tla_tree.specs.Tree.{Word}
use Rattle.tla_value.specs.Value.{Value, int, text, set, fun, no_values, and, values_in}
use Rattle.tla_value.specs.Order.{seq_from, record_from}
use Rattle.pcal_tree.specs.Calls.{defaultInitValue}
use Rattle.pcal_tree.specs.Scope.{State}
use Rattle.module_tree.specs.TextFront.{Text}
use Rattle.translation.specs.Worked.{lines, constants, state, Example}

abbrev num : ℕ → Value
num n = int (pos n)

-- a function with these values at these arguments, in their order
abbrev on : List Value → List Value → Value
on ds vs = fun (values_in ds) (values_in vs)

-- ---- processes: a set of two and a single one, each with a variable, the set fair with marks; a procedure that calls itself, where call and return are one statement

abbrev pub adding_file : Text
adding_file =
    lines
    (
    codes "---- MODULE M ----" ∷
    codes "EXTENDS Integers, Sequences" ∷
    codes "(*" ∷
    codes "--algorithm Adding" ∷
    codes "variables total = 0;" ∷
    codes "procedure Add(n = 0)" ∷
    codes "begin" ∷
    codes "  P: total := total + n;" ∷
    codes "     if n > 0 then call Add(n - 1); return; end if;" ∷
    codes "  Q: return;" ∷
    codes "end procedure" ∷
    codes "fair process Left \\in {1, 2}" ∷
    codes "variable m = 0;" ∷
    codes "begin" ∷
    codes "  A:- m := self;" ∷
    codes "  B:+ call Add(m);" ∷
    codes "end process" ∷
    codes "fair process Right = 3" ∷
    codes "variable k = 1;" ∷
    codes "begin" ∷
    codes "  C: k := total;" ∷
    codes "end process" ∷
    codes "end algorithm" ∷
    codes "*)" ∷
    codes "====" ∷
    [])

-- at 1, at 2 and at 3
abbrev of_three : Value → Value → Value → Value
of_three u v w = on (num 1 ∷ num 2 ∷ num 3 ∷ []) (u ∷ v ∷ w ∷ [])

-- total, and of 1 the stack and n, and m; where 1 and 3 are; and k
abbrev adding_state : ℕ → List Value → ℕ → ℕ → Value → Value → ℕ → State
adding_state total frames n m left right k =
    state
    ((codes "total", num total)
    ∷ (codes "pc", of_three left (text (codes "A")) right)
    ∷ (codes "stack", of_three (seq_from frames) (seq_from []) (seq_from []))
    ∷ (codes "n", of_three (num n) (num 0) (num 0))
    ∷ (codes "m", on (num 1 ∷ num 2 ∷ []) (num m ∷ num 0 ∷ []))
    ∷ (codes "k", num k)
    ∷ [])

-- the record of a call from B, which ends its process
abbrev adding_frame : Value
adding_frame = record_from (codes "procedure" ∷ codes "pc" ∷ codes "n" ∷ []) (text (codes "Add") ∷ text (codes "Done") ∷ num 0 ∷ [])

abbrev pub adding_constants : List (Word × Value)
adding_constants = (codes "defaultInitValue", defaultInitValue) ∷ []

-- 1 sets m, and calls Add(1); there it adds 1, and by one statement returns and calls Add(0); it adds 0, and returns; and 3 takes its step
abbrev pub adding : Example
adding = record {
  values = constants adding_constants;
  first = adding_state 0 [] 0 0 (text (codes "A")) (text (codes "C")) 1;
  later =
      adding_state 0 [] 0 1 (text (codes "B")) (text (codes "C")) 1
      ∷ adding_state 0 (adding_frame ∷ []) 1 1 (text (codes "P")) (text (codes "C")) 1
      ∷ adding_state 1 (adding_frame ∷ []) 0 1 (text (codes "P")) (text (codes "C")) 1
      ∷ adding_state 1 (adding_frame ∷ []) 0 1 (text (codes "Q")) (text (codes "C")) 1
      ∷ adding_state 1 [] 0 1 (text (codes "Done")) (text (codes "C")) 1
      ∷ adding_state 1 [] 0 1 (text (codes "Done")) (text (codes "Done")) 1
      ∷ [];
  other = adding_state 0 [] 0 2 (text (codes "B")) (text (codes "C")) 1;
  ended = state ((codes "total", num 4) ∷ (codes "pc", of_three (text (codes "Done")) (text (codes "Done")) (text (codes "Done")))
      ∷ (codes "stack", of_three (seq_from []) (seq_from []) (seq_from [])) ∷ (codes "n", of_three (num 0) (num 0) (num 0)) ∷ (codes "m", on (num 1 ∷ num 2 ∷ []) (num 1 ∷ num 2 ∷ [])) ∷ (codes "k", num 1) ∷ []);
}

-- ---- one body without labels: some are added, one of them in a branch; a macro that assigns its parameter; a definition that reads a variable; a constant

abbrev pub counting_file : Text
counting_file =
    lines
    (
    codes "---- MODULE M ----" ∷
    codes "EXTENDS Integers" ∷
    codes "CONSTANT Most" ∷
    codes "(*" ∷
    codes "--algorithm Counting" ∷
    codes "variables x = Most, y = 0;" ∷
    codes "define" ∷
    codes "  more == x > 0" ∷
    codes "end define" ∷
    codes "macro take(v)" ∷
    codes "begin" ∷
    codes "  v := v - 1;" ∷
    codes "end macro" ∷
    codes "begin" ∷
    codes "  if more then" ∷
    codes "    while more do" ∷
    codes "      take(x);" ∷
    codes "      y := y + 1;" ∷
    codes "    end while;" ∷
    codes "  end if;" ∷
    codes "end algorithm" ∷
    codes "*)" ∷
    codes "====" ∷
    [])

abbrev counting_state : ℕ → ℕ → Value → State
counting_state a b l = state ((codes "x", num a) ∷ (codes "y", num b) ∷ (codes "pc", l) ∷ [])

abbrev pub counting_constants : List (Word × Value)
counting_constants = (codes "defaultInitValue", defaultInitValue) ∷ (codes "Most", num 1) ∷ []

-- Most is 1: into the branch, once through the loop, and out of it
abbrev pub counting : Example
counting = record {
  values = constants counting_constants;
  first = counting_state 1 0 (text (codes "Lbl_1"));
  later = counting_state 1 0 (text (codes "Lbl_2")) ∷ counting_state 0 1 (text (codes "Lbl_2")) ∷ counting_state 0 1 (text (codes "Done")) ∷ [];
  other = counting_state 1 1 (text (codes "Lbl_2"));
  ended = counting_state 0 1 (text (codes "Done"));
}

-- ---- a single process whose identifier is a set of which it asks what is in it

abbrev pub picking_file : Text
picking_file =
    lines
    (
    codes "---- MODULE M ----" ∷
    codes "(*" ∷
    codes "--algorithm Picking" ∷
    codes "variables x = {1};" ∷
    codes "process P = SUBSET {1}" ∷
    codes "begin" ∷
    codes "  A: await x \\in self;" ∷
    codes "     x := {};" ∷
    codes "end process" ∷
    codes "end algorithm" ∷
    codes "*)" ∷
    codes "====" ∷
    [])

-- x, and pc at the set of the empty set and {1}
abbrev picking_state : Value → Value → State
picking_state a l = state ((codes "x", a) ∷ (codes "pc", on (set (values_in (set no_values ∷ set (and (num 1) no_values) ∷ [])) ∷ []) (l ∷ [])) ∷ [])

abbrev pub picking_constants : List (Word × Value)
picking_constants = (codes "defaultInitValue", defaultInitValue) ∷ []

-- {1} is in the set
abbrev pub picking : Example
picking = record {
  values = constants picking_constants;
  first = picking_state (set (and (num 1) no_values)) (text (codes "A"));
  later = picking_state (set no_values) (text (codes "Done")) ∷ [];
  other = picking_state (set (and (num 1) no_values)) (text (codes "Done"));
  ended = picking_state (set no_values) (text (codes "Done"));
}

-- ---- a process set to which a label is added by the option, in a branch

abbrev pub marking_file : Text
marking_file =
    lines
    (
    codes "---- MODULE M ----" ∷
    codes "(*" ∷
    codes "--algorithm Marking" ∷
    codes "variables x = 0;" ∷
    codes "process P \\in {1, 2}" ∷
    codes "begin" ∷
    codes "  A: if x = 0 then" ∷
    codes "       x := self;" ∷
    codes "       x := 3;" ∷
    codes "     end if;" ∷
    codes "end process" ∷
    codes "end algorithm" ∷
    codes "*)" ∷
    codes "====" ∷
    [])

-- x, and where 1 and 2 are
abbrev marking_state : ℕ → Value → Value → State
marking_state a l m = state ((codes "x", num a) ∷ (codes "pc", on (num 1 ∷ num 2 ∷ []) (l ∷ m ∷ [])) ∷ [])

abbrev pub marking_constants : List (Word × Value)
marking_constants = (codes "defaultInitValue", defaultInitValue) ∷ []

-- 1 goes into the branch, and through the label there; 2 doesn't go into it
abbrev pub marking : Example
marking = record {
  values = constants marking_constants;
  first = marking_state 0 (text (codes "A")) (text (codes "A"));
  later =
      marking_state 1 (text (codes "Lbl_1")) (text (codes "A"))
      ∷ marking_state 3 (text (codes "Done")) (text (codes "A"))
      ∷ marking_state 3 (text (codes "Done")) (text (codes "Done"))
      ∷ [];
  other = marking_state 3 (text (codes "Done")) (text (codes "A"));
  ended = marking_state 3 (text (codes "Done")) (text (codes "Done"));
}
