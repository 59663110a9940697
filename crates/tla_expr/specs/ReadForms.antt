-- Forms in braces and in square brackets: what the code reads of them.
use Rattle.std.specs.Prelude.{ℕ, ◌||◌, if◌then◌else◌}
use Rattle.tla_token.specs.declared.place.Place.{Place}
use Rattle.tla_token.specs.declared.rule.Rule.{Rule}
use Rattle.tla_token.specs.declared.rule.Rule.TheVariants.{TooDeep, Syntax}
use Rattle.tla_tree.specs.Tree.{Word}
use Rattle.tla_tree.specs.Lexical.{TokenView}
use Rattle.tla_tree.specs.Lexical as tk
use Rattle.tla_tree.specs.Spelling.{Phrase}
use Rattle.tla_tree.specs.Reader.{Room, Reader, Readers, free, behind, from_name, brace_rest, member_rest, square_rest, square_member, ◌>>=◌, is_mark, is_key, peek}

-- ---- behind `{x \in`
-- what refuses an element that is too deep, before this token
abbrev pub deep_rule : TokenView → Rule
deep_rule k = if is_mark tk.comma k || is_mark tk.close_brace k then TooDeep else Syntax

-- behind `{x \in`
abbrev pub membered : Room → Readers → ℕ → Place → Place → Word → Place → Reader Phrase
membered m d e p q x s = d.expr e (behind q x s) >>= λ a. peek e (member_rest m d e p q x s a)

-- ---- behind `{`
-- an expression that begins with this name, and what comes after it
abbrev pub braced : Room → Readers → ℕ → Place → Place → Word → Reader Phrase
braced m d e p q x = from_name m d e q x >>= λ a. d.climb e free a >>= λ b. peek e (brace_rest d e p b)

-- another expression, and what comes after it
abbrev pub braced_other : Readers → ℕ → Place → Reader Phrase
braced_other d e p = d.expr e free >>= λ a. peek e (brace_rest d e p a)

-- ---- behind `[`
-- what refuses an element that is too deep, before this token
abbrev pub square_rule : TokenView → Rule
square_rule k = if is_mark tk.arrow k || is_key tk.except_key k then TooDeep else Syntax

-- behind `[x \in`
abbrev pub mapped : Room → Readers → ℕ → Place → Place → Word → Place → Reader Phrase
mapped m d e p q x s = d.expr e (behind q x s) >>= λ a. peek e (square_member m d e p q x s a)

-- an expression that begins with this name, and what comes after it
abbrev pub squared : Room → Readers → ℕ → Place → Place → Word → Reader Phrase
squared m d e p q x = from_name m d e q x >>= λ a. d.climb e free a >>= λ b. peek e (square_rest d e p b)

-- another expression, and what comes after it
abbrev pub squared_other : Readers → ℕ → Place → Reader Phrase
squared_other d e p = d.expr e free >>= λ a. peek e (square_rest d e p a)
