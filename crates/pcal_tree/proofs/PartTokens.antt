-- What the parts that both syntaxes spell alike keep of the tokens after them, as expressions do.
use Rattle.std.proofs.Common.{◌≡◌, true, List, Option, Some, None, refl}
use Rattle.tla_token.specs.declared.place.Place.{Place}
use Rattle.tla_tree.specs.Lexical.{Token}
use Rattle.tla_tree.specs.Lexical as tk
use Rattle.pcal_tree.specs.GrammarParts as part
use Rattle.pcal_tree.specs.Grammar as g
use Rattle.pcal_tree.proofs.ExpressionTokens.{begins_phrase, Kept, Keeps, held, put, both, operand, phrase_begins, keep, keep_all}

pub keep_maybe_semicolon : {H : List Token → Type 0} → Kept H → (x : Option Place) → Keeps H (part.maybe_semicolon x)
keep_maybe_semicolon l None = held
keep_maybe_semicolon l (Some p) = put l refl held

pub keep_separator : {H : List Token → Type 0} → Kept H → (x : part.Separator) → Keeps H (part.separator x)
keep_separator l (part.by_semicolon p) = put l refl held
keep_separator l (part.by_comma p) = put l refl held

pub keep_maybe_separator : {H : List Token → Type 0} → Kept H → (x : Option part.Separator) → Keeps H (part.maybe_separator x)
keep_maybe_separator l None = held
keep_maybe_separator l (Some s) = keep_separator l s

pub keep_initial : {H : List Token → Type 0} → Kept H → (x : part.Initial) → Keeps H (part.initial x)
keep_initial l part.unset = held
keep_initial l (part.equals p e) = operand l e (keep l e) held
keep_initial l (part.among p e) = operand l e (keep l e) held

pub keep_variables : {H : List Token → Type 0} → Kept H → (x : part.Variables) → Keeps H (part.variables x)
keep_variables l (part.last_variable x i s) = put l refl (both (keep_initial l i) (keep_maybe_separator l s))
keep_variables l (part.variable x i s vs) = put l refl (both (keep_initial l i) (both (keep_separator l s) (keep_variables l vs)))

pub keep_section_tokens : {H : List Token → Type 0} → Kept H → (x : part.Section) → Keeps H (part.section_tokens x)
keep_section_tokens l part.no_section = held
keep_section_tokens l (part.section p b vs) = put l refl (keep_variables l vs)

pub keep_names : {H : List Token → Type 0} → Kept H → (x : part.Names) → Keeps H (part.names x)
keep_names l (part.last_name x) = put l refl held
keep_names l (part.more_names x p xs) = put l refl (put l refl (keep_names l xs))

pub keep_macro_parameters : {H : List Token → Type 0} → Kept H → (x : part.MacroParameters) → Keeps H (part.macro_parameters x)
keep_macro_parameters l (part.no_names p q) = put l refl (put l refl held)
keep_macro_parameters l (part.some_names p xs q) = put l refl (both (keep_names l xs) (put l refl held))

pub keep_parameters : {H : List Token → Type 0} → Kept H → (x : part.Parameters) → Keeps H (part.parameters x)
keep_parameters l (part.last_parameter x i) = put l refl (keep_initial l i)
keep_parameters l (part.parameter x i p xs) = put l refl (both (keep_initial l i) (put l refl (keep_parameters l xs)))

pub keep_procedure_parameters : {H : List Token → Type 0} → Kept H → (x : part.ProcedureParameters) → Keeps H (part.procedure_parameters x)
keep_procedure_parameters l (part.no_parameters p q) = put l refl (put l refl held)
keep_procedure_parameters l (part.some_parameters p xs q) = put l refl (both (keep_parameters l xs) (put l refl held))

pub keep_heading : {H : List Token → Type 0} → Kept H → (x : part.Heading) → Keeps H (part.heading x)
keep_heading l (part.plain x) = put l refl held
keep_heading l (part.applied x p xs q) = put l refl (put l refl (both (keep_names l xs) (put l refl held)))

pub keep_definitions : {H : List Token → Type 0} → Kept H → (x : part.Definitions) → Keeps H (part.definitions x)
keep_definitions l (part.last_definition h p e) = both (keep_heading l h) (put l refl (keep l e))
keep_definitions l (part.more_definitions h p e ds) = both (keep_heading l h) (put l refl (both (keep l e) (keep_definitions l ds)))

pub keep_binds : {H : List Token → Type 0} → Kept H → (x : part.Binds) → Keeps H (part.binds x)
keep_binds l (part.last_bind x b p e s) = put l refl (operand l e (keep l e) (keep_maybe_separator l s))
keep_binds l (part.bind x b p e s bs) = put l refl (operand l e (keep l e) (both (keep_separator l s) (keep_binds l bs)))

pub keep_arguments : {H : List Token → Type 0} → Kept H → (x : part.Arguments) → Keeps H (part.arguments x)
keep_arguments l (part.no_arguments p q) = put l refl (put l refl held)
keep_arguments l (part.some_arguments p xs q) = put l refl (both (keep_all l xs) (put l refl held))

pub keep_assignments : {H : List Token → Type 0} → Kept H → (x : part.Assignments) → Keeps H (part.assignments x)
keep_assignments l (part.last_assignment a p e) = both (keep l a) (operand l e (keep l e) held)
keep_assignments l (part.assignment a p e q ms) = both (keep l a) (operand l e (keep l e) (put l refl (keep_assignments l ms)))

pub assignments_begin : (x : part.Assignments) (ts : List Token) → begins_phrase (part.assignments x ts) ≡ true
assignments_begin (part.last_assignment a p e) ts = phrase_begins a (part.mark p tk.assigns (part.expression e ts))
assignments_begin (part.assignment a p e q ms) ts = phrase_begins a (part.mark p tk.assigns (part.expression e (part.mark q tk.beside (part.assignments ms ts))))

pub keep_simple_tokens : {H : List Token → Type 0} → Kept H → (x : part.Simple) → Keeps H (part.simple_tokens x)
keep_simple_tokens l (part.assign ms) = keep_assignments l ms
keep_simple_tokens l (part.await p e) = put l refl (keep l e)
keep_simple_tokens l (part.when p e) = put l refl (keep l e)
keep_simple_tokens l (part.print p e) = put l refl (keep l e)
keep_simple_tokens l (part.assert p e) = put l refl (keep l e)
keep_simple_tokens l (part.skip p) = put l refl held
keep_simple_tokens l (part.goto p x) = put l refl (put l refl held)
keep_simple_tokens l (part.call p x xs) = put l refl (put l refl (keep_arguments l xs))
keep_simple_tokens l (part.return p) = put l refl held
keep_simple_tokens l (part.macro x xs) = put l refl (keep_arguments l xs)

pub keep_identity : {H : List Token → Type 0} → Kept H → (x : g.Identity) → Keeps H (g.identity x)
keep_identity l (g.bare x b a e) = put l refl (operand l e (keep l e) held)
keep_identity l (g.bracketed q x b a e r) = put l refl (put l refl (operand l e (keep l e) (put l refl held)))

pub keep_define : {H : List Token → Type 0} → Kept H → (x : g.Define) → Keeps H (g.define x)
keep_define l g.no_define = held
keep_define l (g.define_end a ds b d s) = put l refl (both (keep_definitions l ds) (put l refl (put l refl (keep_maybe_semicolon l s))))
keep_define l (g.define_braces a b ds d s) = put l refl (put l refl (both (keep_definitions l ds) (put l refl (keep_maybe_semicolon l s))))
