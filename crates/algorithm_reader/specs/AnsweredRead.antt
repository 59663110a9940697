-- What is wrong with the tokens of an algorithm by what code read of them: the place at which reading stopped, and the one offence that counts.
use Rattle.std.specs.Prelude.{◌≡◌, ℕ, List, [], ◌∷◌, ◌++◌, Option, Result, Ok, Err}
use Rattle.tla_token.specs.declared.rule.Refusal.{Refusal}
use Rattle.tla_token.specs.declared.token.Tokens.{Tokens}
use Rattle.tla_token.specs.TokensSeen.{tokens_seen}
use Rattle.tla_tree.specs.Tree.{Tree}
use Rattle.expr_nodes.specs.Ahead.{place_before}
use Rattle.expr_nodes.specs.declared.cursor.Halt.{Halt}
use Rattle.expr_nodes.specs.declared.cursor.Halt.TheVariants as halt
use Rattle.pcal_tree.specs.declared.algorithm.Algorithm.{Algorithm}
use Rattle.pcal_tree.specs.InMemory.{algorithm_at}
use Rattle.pcal_tree.specs.Offences.{first}
use Rattle.pcal_tree.specs.OffencesCounts.{count_offences}
use Rattle.algorithm_answer.specs.TokensRefused.{token_refusals}

-- of what tokens offend one by one and of these offences, the one that counts, if there is any
abbrev pub Answers : Tokens → List Refusal → Option Refusal → Type 0
Answers v rs answer = answer ≡ first (token_refusals (tokens_seen v) ++ rs)

-- with what was read is wrong what is past a limit in it, over these trees, or that reading stopped there; for want of memory there is no answer
abbrev pub AnswersRead : Tokens → List Tree → Result (Algorithm × ℕ) Halt → Option Refusal → Type 0
AnswersRead v ts (Ok x) answer = Answers v (count_offences (algorithm_at ts x.0)) answer
AnswersRead v ts (Err halt.Memory) answer = ⊥
AnswersRead v ts (Err (halt.Refused r n)) answer = Answers v (record { rule = r; place = place_before v n } ∷ []) answer
