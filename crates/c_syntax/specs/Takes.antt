-- Where reading goes on when the innermost takes an `else`, an `or` or a `}`, or another statement comes.
use Rattle.std.specs.Prelude.{List, Option, Some, None}
use Rattle.tla_token.specs.declared.place.Place.{Place}
use Rattle.tla_tree.specs.Tree.{Tree}
use Rattle.pcal_tree.specs.GrammarParts.{no_labels}
use Rattle.pcal_tree.specs.GrammarC.{Labelled, labelled, compound, last_statement}
use Rattle.c_reading.specs.ReadStatements.{Stack, bottom, in_block, in_then, in_else, in_either, later_arm, after, begin, ended, on, done, with_before}
use Rattle.c_reading.specs.ReadStatements as reader
use Rattle.c_syntax.specs.StatesRead.{StateStands, TurnStands}
use Rattle.c_syntax.specs.declared.open.State.{State}
use Rattle.c_syntax.specs.declared.open.Turn.{Turn}

abbrev pub else_taken : Option Place → Place → Labelled → Stack → Option Stack
else_taken s p a (in_then ls t st) = Some (in_else ls t a s p st)
else_taken s p a st = None

abbrev pub or_taken : Option Place → Place → Labelled → Stack → Option Stack
or_taken s p a (in_either t st) = Some (in_either (later_arm t a s p) st)
or_taken s p a st = None

abbrev pub brace_taken : Option Place → Place → Labelled → Stack → Option reader.Turn
brace_taken s p a (bottom b) = Some (done (with_before b (last_statement a s)))
brace_taken s p a (in_block ls q b st) = Some (on (ended (labelled ls (compound q (with_before b (last_statement a s)) p)) None st))
brace_taken s p a st = None

abbrev pub another_taken : Option Place → Labelled → Stack → Option Stack
another_taken s a (bottom b) = Some (bottom (after b a s))
another_taken s a (in_block ls q b st) = Some (in_block ls q (after b a s) st)
another_taken s a st = None

-- what is in memory stands where reading goes on
abbrev pub BeginStands : List Tree → Option State → Option Stack → Type 0
BeginStands ts (Some s) (Some st) = StateStands ts s (begin no_labels st)
BeginStands ts None None = Unit {0}
BeginStands _ _ _ = ⊥

abbrev pub MayTurn : List Tree → Option Turn → Option reader.Turn → Type 0
MayTurn ts (Some s) (Some t) = TurnStands ts s t
MayTurn ts None None = Unit {0}
MayTurn _ _ _ = ⊥
