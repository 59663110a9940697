-- The answers of the program: their numbers, and the line that each writes on the error output.
use Rattle.std.specs.Prelude.{ℕ, List, [], ◌++◌, codes}
use Rattle.tla_token.specs.declared.rule.Refusal.{Refusal}
use Rattle.tla_token.specs.Rules.{refusal_text}
use Rattle.tla_tree.specs.Tree.{Word}
use Rattle.pcal_cli.specs.declared.status.Answer.{Answer}
use Rattle.pcal_cli.specs.declared.status.Answer.TheVariants as answer
use Rattle.pcal_cli.specs.declared.status.Status.{Status}
use Rattle.pcal_cli.specs.declared.status.Status.TheVariants.{Fine, Memory, Usage, ReadFault, WriteFault, Refused, ScriptStep, NotAStep, Faulted, Limit, TooLong}

abbrev pub status_number : Status → ℕ
status_number Fine = 0
status_number Memory = 1
status_number Usage = 2
status_number ReadFault = 3
status_number WriteFault = 4
status_number Refused = 5
status_number ScriptStep = 6
status_number NotAStep = 7
status_number Faulted = 8
status_number Limit = 9
status_number TooLong = 10

-- ---- how a command ended that writes a module

abbrev pub status_of : Answer → Status
status_of answer.Fine = Fine
status_of answer.Memory = Memory
status_of answer.Usage = Usage
status_of answer.ReadFault = ReadFault
status_of answer.WriteFault = WriteFault
status_of (answer.Refused r) = Refused
status_of answer.TooLong = TooLong

-- the line of a refusal: pcal: FILE:12:3: 45 AssignTwice
abbrev pub refused_line : Word → Refusal → List ℕ
refused_line file r = codes "pcal: " ++ (file ++ (codes ":" ++ (refusal_text r ++ codes "\n")))

-- the line that it has on the error output; file: the file meant
abbrev pub line_of : Answer → Word → List ℕ
line_of answer.Fine file = []
line_of answer.Memory file = codes "pcal: out of memory\n"
line_of answer.Usage file = codes "pcal: usage\n"
line_of answer.ReadFault file = codes "pcal: cannot read " ++ (file ++ codes "\n")
line_of answer.WriteFault file = codes "pcal: cannot write\n"
line_of (answer.Refused r) file = refused_line file r
line_of answer.TooLong file = codes "pcal: " ++ (file ++ codes " is too long\n")
