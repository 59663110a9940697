-- What ends with a statement that has just ended, form by form, in memory and as the reader of tokens has it.
use Rattle.std.specs.Prelude.{◌≡◌, Bool, true, false, cond, List, [], Option, Some, None}
use Rattle.tla_token.specs.declared.place.Place.{Place}
use Rattle.tla_tree.specs.Tree.{Tree}
use Rattle.pcal_tree.specs.GrammarParts.{last_place}
use Rattle.pcal_tree.specs.GrammarC.{Labelled, no_else, else_then, last_branch, labelled_tokens, labelled_ends_in_block}
use Rattle.c_reading.specs.ReadStatements.{Stack, bottom, in_block, in_then, in_else, in_body, in_either, first_arm, later_arm, tested, opened, joined}
use Rattle.c_reading.specs.ReadStatements as reader
use Rattle.pcal_tree.specs.Tests.{is_empty}
use Rattle.c_syntax.specs.StatesRead.{is_first, past_one, Stands}
use Rattle.c_syntax.specs.declared.open.Frame.{Frame}
use Rattle.c_syntax.specs.declared.open.Frame.TheVariants as frame
use Rattle.c_syntax.specs.declared.open.State.{State}
use Rattle.c_syntax.specs.declared.close.Ask.{Ask}
use Rattle.c_syntax.specs.declared.close.Ask.TheVariants as ask
use Rattle.c_syntax.specs.declared.close.Fate.{Fate}
use Rattle.c_syntax.specs.declared.close.Fate.TheVariants as it

-- what is asked for
abbrev pub ask_seen : Ask → reader.Ask
ask_seen ask.Else = reader.ask_else
ask_seen ask.Or = reader.ask_or
ask_seen ask.Other = reader.ask_other

-- what a form does that stands open in memory
abbrev pub fate : Frame → Ask → Fate
fate frame.Block ask.Other = it.Takes
fate frame.Block q = it.Stops
fate (frame.Then g e) ask.Else = it.Takes
fate (frame.Then g e) q = it.Ends
fate (frame.Either g bs) ask.Or = it.Takes
fate (frame.Either g bs) q = cond (is_empty bs.items) it.Stops it.Ends
fate f q = it.Ends

-- the innermost may end with its last part, and the statement that it is then
abbrev pub can_end : Stack → Bool
can_end (bottom b) = false
can_end (in_block ls p b st) = false
can_end (in_then ls t st) = true
can_end (in_else ls t a s p st) = true
can_end (in_body ls o st) = true
can_end (in_either (first_arm ls p) st) = false
can_end (in_either (later_arm t a s p) st) = true

abbrev pub ended_with : Labelled → Stack → Labelled
ended_with a (in_then ls t st) = tested ls t a no_else
ended_with a (in_else ls t c s p st) = tested ls t c (else_then s p a)
ended_with a (in_body ls o st) = opened ls o a
ended_with a (in_either (later_arm t c s p) st) = joined t c (last_branch s p a)
ended_with a st = a

-- what the innermost of the reader of tokens does
abbrev pub fate_at : Stack → Ask → Fate
fate_at (bottom b) ask.Other = it.Takes
fate_at (bottom b) q = it.Stops
fate_at (in_block ls p b st) ask.Other = it.Takes
fate_at (in_block ls p b st) q = it.Stops
fate_at (in_then ls t st) ask.Else = it.Takes
fate_at (in_then ls t st) q = it.Ends
fate_at (in_else ls t a s p st) q = it.Ends
fate_at (in_body ls o st) q = it.Ends
fate_at (in_either t st) ask.Or = it.Takes
fate_at (in_either t st) q = cond (is_first t) it.Stops it.Ends

-- a statement that has ended with its last token, in its list; with true it ends in a block
pub record EndStands (ts : List Tree) (s : State) (last : Place) (b : Bool) (a : Labelled) (st : Stack) : Type 0 where
  pub place : last ≡ last_place (labelled_tokens a [])
  pub block : b ≡ labelled_ends_in_block a
  pub all : Stands ts s (past_one a st) st

-- the same where what ends with it has ended, up to the one that takes what comes; or none takes it
abbrev pub AllClosed : List Tree → Place → Bool → Option State → Option (Labelled × Stack) → Type 0
AllClosed ts last b (Some s) (Some (a, st)) = EndStands ts s last b a st
AllClosed ts last b None None = Unit {0}
AllClosed _ _ _ _ _ = ⊥

-- whether an `or` must stand right after a statement that is the next part of this form, where the form alone tells
abbrev pub or_by : Frame → Option Bool
or_by frame.Block = Some false
or_by (frame.Then g e) = Some false
or_by (frame.Either g bs) = Some (is_empty bs.items)
or_by f = None
