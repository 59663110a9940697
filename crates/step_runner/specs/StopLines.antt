-- The lines that are written on the error output where a run or a trace stops.
use Rattle.std.specs.Prelude.{ℕ, zero, suc, ◌++◌, codes, Option, option_map}
use Rattle.std.specs.Fmt.{decimal}
use Rattle.tla_tree.specs.Tree.{Word}
use Rattle.tla_value.specs.declared.fault.FaultKind.{FaultKind}
use Rattle.tla_value.specs.declared.fault.FaultKind.TheVariants.{NotBoolean, NotInteger, NotSet, NotFunction, NotSequence, EmptySequence, NotInDomain, BadDivisor, NoCase, AssertFailed, SameIdentifier}
use Rattle.tla_value.specs.Value.{Trouble, fault, over}
use Rattle.pcal_tree.specs.StepAnswers.{Reply}
use Rattle.source_map.specs.Lines.{place_text}
use Rattle.step_runner.specs.Fronts.{Text}
use Rattle.step_runner.specs.Shown.{why_text}

abbrev pub fault_name : FaultKind → Text
fault_name NotBoolean = codes "NotBoolean"
fault_name NotInteger = codes "NotInteger"
fault_name NotSet = codes "NotSet"
fault_name NotFunction = codes "NotFunction"
fault_name NotSequence = codes "NotSequence"
fault_name EmptySequence = codes "EmptySequence"
fault_name NotInDomain = codes "NotInDomain"
fault_name BadDivisor = codes "BadDivisor"
fault_name NoCase = codes "NoCase"
fault_name AssertFailed = codes "AssertFailed"
fault_name SameIdentifier = codes "SameIdentifier"

-- a step of a script that can't be taken; step 0 is `init`
abbrev pub script_line : {X : Type 0} → ℕ → Reply X → Option Text
script_line n r = option_map (λ w. codes "pcal: script step " ++ (decimal n ++ (codes ": " ++ (w ++ codes "\n")))) (why_text r)

-- a state of a trace that isn't initial, or no step
abbrev pub state_line : ℕ → Text
state_line zero = codes "pcal: state 0 is not initial\n"
state_line (suc n) = codes "pcal: state " ++ (decimal (suc n) ++ codes " is no step\n")

abbrev pub trouble_text : Trouble → Text
trouble_text (fault k at) = place_text at ++ (codes ": fault " ++ fault_name k)
trouble_text (over at) = place_text at ++ codes ": limit"

-- a fault, or a value past the limits, at a place of the file
abbrev pub trouble_line : Word → Trouble → Text
trouble_line file k = codes "pcal: " ++ (file ++ (codes ":" ++ (trouble_text k ++ codes "\n")))
