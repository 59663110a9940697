-- What holds of the answer to a command of which the text is at hand: why it comes, and what becomes of the output.
use Rattle.std.specs.Prelude.{◌≡◌, ◌⊎◌, ℕ, ◌+◌, ◌≤◌, List, Option}
use Rattle.outer_io.specs.Outer.{RoseBy}
use Rattle.command_words.specs.Commands.{Command}
use Rattle.pcal_cli.specs.declared.status.Status.{Status}
use Rattle.pcal_cli.specs.declared.status.Status.TheVariants.{Fine, Memory, WriteFault, Refused}
use Rattle.pcal_cli.specs.Asked.{HasOffence, Accepts}
use Rattle.pcal_cli.specs.Causes.{IsUnwritten, IsDone, LeavesOut, Writes, WritesInPart}

-- the answers
abbrev pub IsPut : Status → Type 0
IsPut Fine = Unit {0}
IsPut Memory = Unit {0}
IsPut WriteFault = Unit {0}
IsPut Refused = Unit {0}
IsPut s = ⊥

-- wrote, faults: what the output tells and counts; each clause is that of the same name in `Answered`
pub record Put {K : Type 0} (wrote : K → Option (List ℕ)) (faults : K → ℕ) (c : Command) (x : List ℕ) (s : Status) (out out_after : K) : Type 0 where
  pub answer : IsPut s
  pub write_fault : s ≡ WriteFault → RoseBy 1 (faults out) (faults out_after)
  pub refused : s ≡ Refused → HasOffence c x
  pub offends : HasOffence c x → IsUnwritten s
  pub complete : Accepts c x → (RoseBy 1 (faults out) (faults out_after) → ⊥) → IsDone s
  pub unused : LeavesOut s → out_after ≡ out
  pub fine : s ≡ Fine → Writes (wrote out) (wrote out_after) c x
  pub in_part : s ≡ WriteFault → WritesInPart (wrote out) (wrote out_after) c x
  pub write_faults_grow : faults out ≤ faults out_after
  pub write_counted : (s ≡ WriteFault) ⊎ (faults out_after ≡ faults out)
  pub one_write_fault : faults out_after ≤ faults out + 1
