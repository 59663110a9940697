-- The number and the printed name of each rule.
use Rattle.std.specs.Prelude.{ℕ, List, ◌++◌, codes}
use Rattle.std.specs.Fmt.{decimal}
use Rattle.tla_token.specs.declared.rule.Rule.{Rule}
use Rattle.tla_token.specs.declared.rule.Refusal.{Refusal}
use Rattle.tla_token.specs.declared.rule.Rule.TheVariants.{NotAscii, BadToken, OpenComment, OpenString, NoModule, NoAlgorithm, TwoAlgorithms, BadRegion, Placement, Options, LeftOutWord, NumberTooBig, TooMany, TooDeep, Syntax, Unknown, Duplicate, Rebind, Reserved, Arity, NotVariable, NeedsModule, OutsideVariable, OpaqueUnit, ProcessNotConstant, InitSelf, InitLater, Infinite, DefinedStale, SelfOutside, FirstLabel, WhileLabel, AfterJump, AfterBranch, LabelInside, AssignTwice, UnknownLabel, ReturnOutside, DoubleLabel, TooLarge, BadLine}

abbrev pub rule_number : Rule → ℕ
rule_number NotAscii = 1
rule_number BadToken = 2
rule_number OpenComment = 3
rule_number OpenString = 4
rule_number NoModule = 5
rule_number NoAlgorithm = 6
rule_number TwoAlgorithms = 7
rule_number BadRegion = 8
rule_number Placement = 9
rule_number Options = 10
rule_number LeftOutWord = 11
rule_number NumberTooBig = 12
rule_number TooMany = 13
rule_number TooDeep = 14
rule_number Syntax = 15
rule_number Unknown = 20
rule_number Duplicate = 21
rule_number Rebind = 22
rule_number Reserved = 23
rule_number Arity = 24
rule_number NotVariable = 25
rule_number NeedsModule = 26
rule_number OutsideVariable = 27
rule_number OpaqueUnit = 28
rule_number ProcessNotConstant = 29
rule_number InitSelf = 30
rule_number InitLater = 31
rule_number Infinite = 32
rule_number DefinedStale = 33
rule_number SelfOutside = 34
rule_number FirstLabel = 40
rule_number WhileLabel = 41
rule_number AfterJump = 42
rule_number AfterBranch = 43
rule_number LabelInside = 44
rule_number AssignTwice = 45
rule_number UnknownLabel = 46
rule_number ReturnOutside = 47
rule_number DoubleLabel = 48
rule_number TooLarge = 49
rule_number BadLine = 50

abbrev pub rule_name : Rule → List ℕ
rule_name NotAscii = codes "NotAscii"
rule_name BadToken = codes "BadToken"
rule_name OpenComment = codes "OpenComment"
rule_name OpenString = codes "OpenString"
rule_name NoModule = codes "NoModule"
rule_name NoAlgorithm = codes "NoAlgorithm"
rule_name TwoAlgorithms = codes "TwoAlgorithms"
rule_name BadRegion = codes "BadRegion"
rule_name Placement = codes "Placement"
rule_name Options = codes "Options"
rule_name LeftOutWord = codes "LeftOutWord"
rule_name NumberTooBig = codes "NumberTooBig"
rule_name TooMany = codes "TooMany"
rule_name TooDeep = codes "TooDeep"
rule_name Syntax = codes "Syntax"
rule_name Unknown = codes "Unknown"
rule_name Duplicate = codes "Duplicate"
rule_name Rebind = codes "Rebind"
rule_name Reserved = codes "Reserved"
rule_name Arity = codes "Arity"
rule_name NotVariable = codes "NotVariable"
rule_name NeedsModule = codes "NeedsModule"
rule_name OutsideVariable = codes "OutsideVariable"
rule_name OpaqueUnit = codes "OpaqueUnit"
rule_name ProcessNotConstant = codes "ProcessNotConstant"
rule_name InitSelf = codes "InitSelf"
rule_name InitLater = codes "InitLater"
rule_name Infinite = codes "Infinite"
rule_name DefinedStale = codes "DefinedStale"
rule_name SelfOutside = codes "SelfOutside"
rule_name FirstLabel = codes "FirstLabel"
rule_name WhileLabel = codes "WhileLabel"
rule_name AfterJump = codes "AfterJump"
rule_name AfterBranch = codes "AfterBranch"
rule_name LabelInside = codes "LabelInside"
rule_name AssignTwice = codes "AssignTwice"
rule_name UnknownLabel = codes "UnknownLabel"
rule_name ReturnOutside = codes "ReturnOutside"
rule_name DoubleLabel = codes "DoubleLabel"
rule_name TooLarge = codes "TooLarge"
rule_name BadLine = codes "BadLine"

-- as it is printed: 45 AssignTwice
abbrev pub rule_text : Rule → List ℕ
rule_text r = decimal (rule_number r) ++ (codes " " ++ rule_name r)

-- after its line and column: 12:3: 45 AssignTwice
abbrev pub refusal_text : Refusal → List ℕ
refusal_text r = decimal r.place.line ++ (codes ":" ++ (decimal r.place.col ++ (codes ": " ++ rule_text r.rule)))
