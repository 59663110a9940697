-- An algorithm as it is spelled, again from tokens of the same kinds in the same columns.
use Rattle.std.proofs.Common.{◌≡◌, List, [], ◌∷◌, Option, Some, None, codes, map, refl, ◌∙◌, ap}
use Rattle.std.specs.Option.{option_map}
use Rattle.tla_token.specs.declared.place.Place.{Place}
use Rattle.tla_tree.specs.declared.op.Op.TheVariants as op
use Rattle.tla_tree.specs.Tree.{Word, Name}
use Rattle.tla_tree.specs.Lexical.{Token, sign_of}
use Rattle.tla_tree.specs.Lexical as tk
use Rattle.tla_tree.specs.Spelling.{spell, spell_all}
use Rattle.tla_tree.specs.FirstStop.{looks}
use Rattle.tla_tree.specs.laws.Columns.{lineless_place}
use Rattle.tla_tree.proofs.ColumnsPut.{Put, one_token, put, put_all}
use Rattle.pcal_tree.specs.GrammarParts as part
use Rattle.pcal_tree.specs.GrammarP as psyntax
use Rattle.pcal_tree.specs.GrammarC as csyntax
use Rattle.pcal_tree.specs.Grammar as g
use Rattle.pcal_tree.specs.laws.Lines.{lineless_name, separator_lineless, initial_lineless, variables_lineless, section_lineless, names_lineless, macro_parameters_lineless, parameters_lineless, procedure_parameters_lineless, heading_lineless, definitions_lineless, colon_lineless, labels_lineless, binds_lineless, arguments_lineless, assignments_lineless, simple_lineless, p_statement_lineless, p_else_lineless, p_branches_lineless, p_sequence_lineless, c_statement_lineless, c_labelled_lineless, c_else_lineless, c_branches_lineless, c_sequence_lineless, body_lineless, macro_lineless, procedure_lineless, fair_lineless, identity_lineless, process_lineless, head_lineless, define_lineless, main_lineless, text_lineless}

put_name : (x : Name) (ts us : List Token) → looks us ≡ looks (part.name x ts) → Put Name lineless_name part.name x ts us
put_name x ts us h =
    let v0 = one_token x.place (tk.word x.word) ts us h in
    record { again = record { word = x.word; place = v0.again }; rest = v0.rest; tokens = v0.tokens; same = λ z. record { word = x.word; place = v0.same z }; looks_same = v0.looks_same }

put_list : {A : Type 0} (bare : A → A) (spells : A → List Token → List Token) → ((x : A) (ts us : List Token) → looks us ≡ looks (spells x ts) → Put A bare spells x ts us)
    → (xs : List A) (ts us : List Token) → looks us ≡ looks (g.each spells xs ts) → Put (List A) (map bare) (g.each spells) xs ts us
put_list bare spells f [] ts us h = record { again = []; rest = us; tokens = refl; same = refl; looks_same = h }
put_list bare spells f (x ∷ xs) ts us h =
    let v0 = f x (g.each spells xs ts) us h in
    let v1 = put_list bare spells f xs ts v0.rest v0.looks_same in
    record { again = v0.again ∷ v1.again; rest = v1.rest; tokens = ap (λ (w' : List Token). spells v0.again w') v1.tokens ∙ v0.tokens; same = λ z. v0.same z ∷ v1.same z; looks_same = v1.looks_same }

put_separator : (x : part.Separator) (ts us : List Token) → looks us ≡ looks (part.separator x ts) → Put part.Separator separator_lineless part.separator x ts us
put_separator (part.by_semicolon p) ts us h =
    let v0 = one_token p (tk.mark tk.semicolon) ts us h in
    record { again = part.by_semicolon v0.again; rest = v0.rest; tokens = v0.tokens; same = λ z. part.by_semicolon (v0.same z); looks_same = v0.looks_same }
put_separator (part.by_comma p) ts us h =
    let v0 = one_token p (tk.mark tk.comma) ts us h in
    record { again = part.by_comma v0.again; rest = v0.rest; tokens = v0.tokens; same = λ z. part.by_comma (v0.same z); looks_same = v0.looks_same }

put_maybe_separator : (x : Option part.Separator) (ts us : List Token) → looks us ≡ looks (part.maybe_separator x ts) → Put (Option part.Separator) (option_map separator_lineless) part.maybe_separator x ts us
put_maybe_separator None ts us h = record { again = None; rest = us; tokens = refl; same = refl; looks_same = h }
put_maybe_separator (Some s) ts us h =
    let v0 = put_separator s ts us h in
    record { again = Some v0.again; rest = v0.rest; tokens = v0.tokens; same = λ z. Some (v0.same z); looks_same = v0.looks_same }

put_maybe_semicolon : (x : Option Place) (ts us : List Token) → looks us ≡ looks (part.maybe_semicolon x ts) → Put (Option Place) (option_map lineless_place) part.maybe_semicolon x ts us
put_maybe_semicolon None ts us h = record { again = None; rest = us; tokens = refl; same = refl; looks_same = h }
put_maybe_semicolon (Some p) ts us h =
    let v0 = one_token p (tk.mark tk.semicolon) ts us h in
    record { again = Some v0.again; rest = v0.rest; tokens = v0.tokens; same = λ z. Some (v0.same z); looks_same = v0.looks_same }

put_initial : (x : part.Initial) (ts us : List Token) → looks us ≡ looks (part.initial x ts) → Put part.Initial initial_lineless part.initial x ts us
put_initial part.unset ts us h = record { again = part.unset; rest = us; tokens = refl; same = refl; looks_same = h }
put_initial (part.equals p e) ts us h =
    let v0 = one_token p (sign_of op.Equal) (spell e (ts)) us h in
    let v1 = put e ts v0.rest v0.looks_same in
    record { again = part.equals v0.again v1.again; rest = v1.rest; tokens = ap (λ (w' : List Token). tk.token v0.again (sign_of op.Equal) ∷ w') (v1.tokens) ∙ v0.tokens; same = λ z. part.equals (v0.same z) (v1.same z); looks_same = v1.looks_same }
put_initial (part.among p e) ts us h =
    let v0 = one_token p (sign_of op.In) (spell e (ts)) us h in
    let v1 = put e ts v0.rest v0.looks_same in
    record { again = part.among v0.again v1.again; rest = v1.rest; tokens = ap (λ (w' : List Token). tk.token v0.again (sign_of op.In) ∷ w') (v1.tokens) ∙ v0.tokens; same = λ z. part.among (v0.same z) (v1.same z); looks_same = v1.looks_same }

put_variables : (x : part.Variables) (ts us : List Token) → looks us ≡ looks (part.variables x ts) → Put part.Variables variables_lineless part.variables x ts us
put_variables (part.last_variable x j s) ts us h =
    let v0 = put_name x (part.initial j ((part.maybe_separator s (ts)))) us h in
    let v1 = put_initial j (part.maybe_separator s (ts)) v0.rest v0.looks_same in
    let v2 = put_maybe_separator s ts v1.rest v1.looks_same in
    record { again = part.last_variable v0.again v1.again v2.again; rest = v2.rest; tokens = ap (λ (w' : List Token). part.name v0.again (w')) (ap (λ (w' : List Token). part.initial v1.again (w')) (v2.tokens) ∙ v1.tokens) ∙ v0.tokens; same = λ z. part.last_variable (v0.same z) (v1.same z) (v2.same z); looks_same = v2.looks_same }
put_variables (part.variable x j s vs) ts us h =
    let v0 = put_name x (part.initial j ((part.separator s ((part.variables vs (ts)))))) us h in
    let v1 = put_initial j (part.separator s ((part.variables vs (ts)))) v0.rest v0.looks_same in
    let v2 = put_separator s (part.variables vs (ts)) v1.rest v1.looks_same in
    let v3 = put_variables vs ts v2.rest v2.looks_same in
    record { again = part.variable v0.again v1.again v2.again v3.again; rest = v3.rest; tokens = ap (λ (w' : List Token). part.name v0.again (w')) (ap (λ (w' : List Token). part.initial v1.again (w')) (ap (λ (w' : List Token). part.separator v2.again (w')) (v3.tokens) ∙ v2.tokens) ∙ v1.tokens) ∙ v0.tokens; same = λ z. part.variable (v0.same z) (v1.same z) (v2.same z) (v3.same z); looks_same = v3.looks_same }

put_section : (x : part.Section) (ts us : List Token) → looks us ≡ looks (part.section_tokens x ts) → Put part.Section section_lineless part.section_tokens x ts us
put_section part.no_section ts us h = record { again = part.no_section; rest = us; tokens = refl; same = refl; looks_same = h }
put_section (part.section p b vs) ts us h =
    let v0 = one_token p (tk.reserved (part.variable_word b)) (part.variables vs (ts)) us h in
    let v1 = put_variables vs ts v0.rest v0.looks_same in
    record { again = part.section v0.again b v1.again; rest = v1.rest; tokens = ap (λ (w' : List Token). tk.token v0.again (tk.reserved (part.variable_word b)) ∷ w') (v1.tokens) ∙ v0.tokens; same = λ z. part.section (v0.same z) b (v1.same z); looks_same = v1.looks_same }

put_names : (x : part.Names) (ts us : List Token) → looks us ≡ looks (part.names x ts) → Put part.Names names_lineless part.names x ts us
put_names (part.last_name x) ts us h =
    let v0 = put_name x ts us h in
    record { again = part.last_name v0.again; rest = v0.rest; tokens = v0.tokens; same = λ z. part.last_name (v0.same z); looks_same = v0.looks_same }
put_names (part.more_names x p xs) ts us h =
    let v0 = put_name x (tk.token p (tk.mark tk.comma) ∷ (part.names xs (ts))) us h in
    let v1 = one_token p (tk.mark tk.comma) (part.names xs (ts)) v0.rest v0.looks_same in
    let v2 = put_names xs ts v1.rest v1.looks_same in
    record { again = part.more_names v0.again v1.again v2.again; rest = v2.rest; tokens = ap (λ (w' : List Token). part.name v0.again (w')) (ap (λ (w' : List Token). tk.token v1.again (tk.mark tk.comma) ∷ w') (v2.tokens) ∙ v1.tokens) ∙ v0.tokens; same = λ z. part.more_names (v0.same z) (v1.same z) (v2.same z); looks_same = v2.looks_same }

put_macro_parameters : (x : part.MacroParameters) (ts us : List Token) → looks us ≡ looks (part.macro_parameters x ts) → Put part.MacroParameters macro_parameters_lineless part.macro_parameters x ts us
put_macro_parameters (part.no_names p q) ts us h =
    let v0 = one_token p (tk.mark tk.open_bracket) (tk.token q (tk.mark tk.close_bracket) ∷ ts) us h in
    let v1 = one_token q (tk.mark tk.close_bracket) ts v0.rest v0.looks_same in
    record { again = part.no_names v0.again v1.again; rest = v1.rest; tokens = ap (λ (w' : List Token). tk.token v0.again (tk.mark tk.open_bracket) ∷ w') (v1.tokens) ∙ v0.tokens; same = λ z. part.no_names (v0.same z) (v1.same z); looks_same = v1.looks_same }
put_macro_parameters (part.some_names p xs q) ts us h =
    let v0 = one_token p (tk.mark tk.open_bracket) (part.names xs ((tk.token q (tk.mark tk.close_bracket) ∷ ts))) us h in
    let v1 = put_names xs (tk.token q (tk.mark tk.close_bracket) ∷ ts) v0.rest v0.looks_same in
    let v2 = one_token q (tk.mark tk.close_bracket) ts v1.rest v1.looks_same in
    record { again = part.some_names v0.again v1.again v2.again; rest = v2.rest; tokens = ap (λ (w' : List Token). tk.token v0.again (tk.mark tk.open_bracket) ∷ w') (ap (λ (w' : List Token). part.names v1.again (w')) (v2.tokens) ∙ v1.tokens) ∙ v0.tokens; same = λ z. part.some_names (v0.same z) (v1.same z) (v2.same z); looks_same = v2.looks_same }

put_parameters : (x : part.Parameters) (ts us : List Token) → looks us ≡ looks (part.parameters x ts) → Put part.Parameters parameters_lineless part.parameters x ts us
put_parameters (part.last_parameter x j) ts us h =
    let v0 = put_name x (part.initial j (ts)) us h in
    let v1 = put_initial j ts v0.rest v0.looks_same in
    record { again = part.last_parameter v0.again v1.again; rest = v1.rest; tokens = ap (λ (w' : List Token). part.name v0.again (w')) (v1.tokens) ∙ v0.tokens; same = λ z. part.last_parameter (v0.same z) (v1.same z); looks_same = v1.looks_same }
put_parameters (part.parameter x j p xs) ts us h =
    let v0 = put_name x (part.initial j ((tk.token p (tk.mark tk.comma) ∷ (part.parameters xs (ts))))) us h in
    let v1 = put_initial j (tk.token p (tk.mark tk.comma) ∷ (part.parameters xs (ts))) v0.rest v0.looks_same in
    let v2 = one_token p (tk.mark tk.comma) (part.parameters xs (ts)) v1.rest v1.looks_same in
    let v3 = put_parameters xs ts v2.rest v2.looks_same in
    record { again = part.parameter v0.again v1.again v2.again v3.again; rest = v3.rest; tokens = ap (λ (w' : List Token). part.name v0.again (w')) (ap (λ (w' : List Token). part.initial v1.again (w')) (ap (λ (w' : List Token). tk.token v2.again (tk.mark tk.comma) ∷ w') (v3.tokens) ∙ v2.tokens) ∙ v1.tokens) ∙ v0.tokens; same = λ z. part.parameter (v0.same z) (v1.same z) (v2.same z) (v3.same z); looks_same = v3.looks_same }

put_procedure_parameters : (x : part.ProcedureParameters) (ts us : List Token) → looks us ≡ looks (part.procedure_parameters x ts) → Put part.ProcedureParameters procedure_parameters_lineless part.procedure_parameters x ts us
put_procedure_parameters (part.no_parameters p q) ts us h =
    let v0 = one_token p (tk.mark tk.open_bracket) (tk.token q (tk.mark tk.close_bracket) ∷ ts) us h in
    let v1 = one_token q (tk.mark tk.close_bracket) ts v0.rest v0.looks_same in
    record { again = part.no_parameters v0.again v1.again; rest = v1.rest; tokens = ap (λ (w' : List Token). tk.token v0.again (tk.mark tk.open_bracket) ∷ w') (v1.tokens) ∙ v0.tokens; same = λ z. part.no_parameters (v0.same z) (v1.same z); looks_same = v1.looks_same }
put_procedure_parameters (part.some_parameters p xs q) ts us h =
    let v0 = one_token p (tk.mark tk.open_bracket) (part.parameters xs ((tk.token q (tk.mark tk.close_bracket) ∷ ts))) us h in
    let v1 = put_parameters xs (tk.token q (tk.mark tk.close_bracket) ∷ ts) v0.rest v0.looks_same in
    let v2 = one_token q (tk.mark tk.close_bracket) ts v1.rest v1.looks_same in
    record { again = part.some_parameters v0.again v1.again v2.again; rest = v2.rest; tokens = ap (λ (w' : List Token). tk.token v0.again (tk.mark tk.open_bracket) ∷ w') (ap (λ (w' : List Token). part.parameters v1.again (w')) (v2.tokens) ∙ v1.tokens) ∙ v0.tokens; same = λ z. part.some_parameters (v0.same z) (v1.same z) (v2.same z); looks_same = v2.looks_same }

put_heading : (x : part.Heading) (ts us : List Token) → looks us ≡ looks (part.heading x ts) → Put part.Heading heading_lineless part.heading x ts us
put_heading (part.plain x) ts us h =
    let v0 = put_name x ts us h in
    record { again = part.plain v0.again; rest = v0.rest; tokens = v0.tokens; same = λ z. part.plain (v0.same z); looks_same = v0.looks_same }
put_heading (part.applied x p xs q) ts us h =
    let v0 = put_name x (tk.token p (tk.mark tk.open_bracket) ∷ (part.names xs ((tk.token q (tk.mark tk.close_bracket) ∷ ts)))) us h in
    let v1 = one_token p (tk.mark tk.open_bracket) (part.names xs ((tk.token q (tk.mark tk.close_bracket) ∷ ts))) v0.rest v0.looks_same in
    let v2 = put_names xs (tk.token q (tk.mark tk.close_bracket) ∷ ts) v1.rest v1.looks_same in
    let v3 = one_token q (tk.mark tk.close_bracket) ts v2.rest v2.looks_same in
    record { again = part.applied v0.again v1.again v2.again v3.again; rest = v3.rest; tokens = ap (λ (w' : List Token). part.name v0.again (w')) (ap (λ (w' : List Token). tk.token v1.again (tk.mark tk.open_bracket) ∷ w') (ap (λ (w' : List Token). part.names v2.again (w')) (v3.tokens) ∙ v2.tokens) ∙ v1.tokens) ∙ v0.tokens; same = λ z. part.applied (v0.same z) (v1.same z) (v2.same z) (v3.same z); looks_same = v3.looks_same }

put_definitions : (x : part.Definitions) (ts us : List Token) → looks us ≡ looks (part.definitions x ts) → Put part.Definitions definitions_lineless part.definitions x ts us
put_definitions (part.last_definition hd p e) ts us h =
    let v0 = put_heading hd (tk.token p (tk.mark tk.defines) ∷ (spell e (ts))) us h in
    let v1 = one_token p (tk.mark tk.defines) (spell e (ts)) v0.rest v0.looks_same in
    let v2 = put e ts v1.rest v1.looks_same in
    record { again = part.last_definition v0.again v1.again v2.again; rest = v2.rest; tokens = ap (λ (w' : List Token). part.heading v0.again (w')) (ap (λ (w' : List Token). tk.token v1.again (tk.mark tk.defines) ∷ w') (v2.tokens) ∙ v1.tokens) ∙ v0.tokens; same = λ z. part.last_definition (v0.same z) (v1.same z) (v2.same z); looks_same = v2.looks_same }
put_definitions (part.more_definitions hd p e ds) ts us h =
    let v0 = put_heading hd (tk.token p (tk.mark tk.defines) ∷ (spell e ((part.definitions ds (ts))))) us h in
    let v1 = one_token p (tk.mark tk.defines) (spell e ((part.definitions ds (ts)))) v0.rest v0.looks_same in
    let v2 = put e (part.definitions ds (ts)) v1.rest v1.looks_same in
    let v3 = put_definitions ds ts v2.rest v2.looks_same in
    record { again = part.more_definitions v0.again v1.again v2.again v3.again; rest = v3.rest; tokens = ap (λ (w' : List Token). part.heading v0.again (w')) (ap (λ (w' : List Token). tk.token v1.again (tk.mark tk.defines) ∷ w') (ap (λ (w' : List Token). spell v2.again (w')) (v3.tokens) ∙ v2.tokens) ∙ v1.tokens) ∙ v0.tokens; same = λ z. part.more_definitions (v0.same z) (v1.same z) (v2.same z) (v3.same z); looks_same = v3.looks_same }

put_colon : (x : part.Colon) (ts us : List Token) → looks us ≡ looks (part.colon_tokens x ts) → Put part.Colon colon_lineless part.colon_tokens x ts us
put_colon (part.colon p) ts us h =
    let v0 = one_token p (tk.mark tk.colon) ts us h in
    record { again = part.colon v0.again; rest = v0.rest; tokens = v0.tokens; same = λ z. part.colon (v0.same z); looks_same = v0.looks_same }
put_colon (part.colon_plus p q) ts us h =
    let v0 = one_token p (tk.mark tk.colon) (tk.token q (sign_of op.Plus) ∷ ts) us h in
    let v1 = one_token q (sign_of op.Plus) ts v0.rest v0.looks_same in
    record { again = part.colon_plus v0.again v1.again; rest = v1.rest; tokens = ap (λ (w' : List Token). tk.token v0.again (tk.mark tk.colon) ∷ w') (v1.tokens) ∙ v0.tokens; same = λ z. part.colon_plus (v0.same z) (v1.same z); looks_same = v1.looks_same }
put_colon (part.colon_minus p q) ts us h =
    let v0 = one_token p (tk.mark tk.colon) (tk.token q (sign_of op.Minus) ∷ ts) us h in
    let v1 = one_token q (sign_of op.Minus) ts v0.rest v0.looks_same in
    record { again = part.colon_minus v0.again v1.again; rest = v1.rest; tokens = ap (λ (w' : List Token). tk.token v0.again (tk.mark tk.colon) ∷ w') (v1.tokens) ∙ v0.tokens; same = λ z. part.colon_minus (v0.same z) (v1.same z); looks_same = v1.looks_same }

put_labels : (x : part.Labels) (ts us : List Token) → looks us ≡ looks (part.labels x ts) → Put part.Labels labels_lineless part.labels x ts us
put_labels part.no_labels ts us h = record { again = part.no_labels; rest = us; tokens = refl; same = refl; looks_same = h }
put_labels (part.label x k ls) ts us h =
    let v0 = put_name x (part.colon_tokens k ((part.labels ls (ts)))) us h in
    let v1 = put_colon k (part.labels ls (ts)) v0.rest v0.looks_same in
    let v2 = put_labels ls ts v1.rest v1.looks_same in
    record { again = part.label v0.again v1.again v2.again; rest = v2.rest; tokens = ap (λ (w' : List Token). part.name v0.again (w')) (ap (λ (w' : List Token). part.colon_tokens v1.again (w')) (v2.tokens) ∙ v1.tokens) ∙ v0.tokens; same = λ z. part.label (v0.same z) (v1.same z) (v2.same z); looks_same = v2.looks_same }

put_binds : (x : part.Binds) (ts us : List Token) → looks us ≡ looks (part.binds x ts) → Put part.Binds binds_lineless part.binds x ts us
put_binds (part.last_bind x b p e s) ts us h =
    let v0 = put_name x (tk.token p (sign_of (part.bind_sign b)) ∷ (spell e ((part.maybe_separator s (ts))))) us h in
    let v1 = one_token p (sign_of (part.bind_sign b)) (spell e ((part.maybe_separator s (ts)))) v0.rest v0.looks_same in
    let v2 = put e (part.maybe_separator s (ts)) v1.rest v1.looks_same in
    let v3 = put_maybe_separator s ts v2.rest v2.looks_same in
    record { again = part.last_bind v0.again b v1.again v2.again v3.again; rest = v3.rest; tokens = ap (λ (w' : List Token). part.name v0.again (w')) (ap (λ (w' : List Token). tk.token v1.again (sign_of (part.bind_sign b)) ∷ w') (ap (λ (w' : List Token). spell v2.again (w')) (v3.tokens) ∙ v2.tokens) ∙ v1.tokens) ∙ v0.tokens; same = λ z. part.last_bind (v0.same z) b (v1.same z) (v2.same z) (v3.same z); looks_same = v3.looks_same }
put_binds (part.bind x b p e s bs) ts us h =
    let v0 = put_name x (tk.token p (sign_of (part.bind_sign b)) ∷ (spell e ((part.separator s ((part.binds bs (ts))))))) us h in
    let v1 = one_token p (sign_of (part.bind_sign b)) (spell e ((part.separator s ((part.binds bs (ts)))))) v0.rest v0.looks_same in
    let v2 = put e (part.separator s ((part.binds bs (ts)))) v1.rest v1.looks_same in
    let v3 = put_separator s (part.binds bs (ts)) v2.rest v2.looks_same in
    let v4 = put_binds bs ts v3.rest v3.looks_same in
    record { again = part.bind v0.again b v1.again v2.again v3.again v4.again; rest = v4.rest; tokens = ap (λ (w' : List Token). part.name v0.again (w')) (ap (λ (w' : List Token). tk.token v1.again (sign_of (part.bind_sign b)) ∷ w') (ap (λ (w' : List Token). spell v2.again (w')) (ap (λ (w' : List Token). part.separator v3.again (w')) (v4.tokens) ∙ v3.tokens) ∙ v2.tokens) ∙ v1.tokens) ∙ v0.tokens; same = λ z. part.bind (v0.same z) b (v1.same z) (v2.same z) (v3.same z) (v4.same z); looks_same = v4.looks_same }

put_arguments : (x : part.Arguments) (ts us : List Token) → looks us ≡ looks (part.arguments x ts) → Put part.Arguments arguments_lineless part.arguments x ts us
put_arguments (part.no_arguments p q) ts us h =
    let v0 = one_token p (tk.mark tk.open_bracket) (tk.token q (tk.mark tk.close_bracket) ∷ ts) us h in
    let v1 = one_token q (tk.mark tk.close_bracket) ts v0.rest v0.looks_same in
    record { again = part.no_arguments v0.again v1.again; rest = v1.rest; tokens = ap (λ (w' : List Token). tk.token v0.again (tk.mark tk.open_bracket) ∷ w') (v1.tokens) ∙ v0.tokens; same = λ z. part.no_arguments (v0.same z) (v1.same z); looks_same = v1.looks_same }
put_arguments (part.some_arguments p xs q) ts us h =
    let v0 = one_token p (tk.mark tk.open_bracket) (spell_all xs ((tk.token q (tk.mark tk.close_bracket) ∷ ts))) us h in
    let v1 = put_all xs (tk.token q (tk.mark tk.close_bracket) ∷ ts) v0.rest v0.looks_same in
    let v2 = one_token q (tk.mark tk.close_bracket) ts v1.rest v1.looks_same in
    record { again = part.some_arguments v0.again v1.again v2.again; rest = v2.rest; tokens = ap (λ (w' : List Token). tk.token v0.again (tk.mark tk.open_bracket) ∷ w') (ap (λ (w' : List Token). spell_all v1.again (w')) (v2.tokens) ∙ v1.tokens) ∙ v0.tokens; same = λ z. part.some_arguments (v0.same z) (v1.same z) (v2.same z); looks_same = v2.looks_same }

put_assignments : (x : part.Assignments) (ts us : List Token) → looks us ≡ looks (part.assignments x ts) → Put part.Assignments assignments_lineless part.assignments x ts us
put_assignments (part.last_assignment l p e) ts us h =
    let v0 = put l (tk.token p (tk.mark tk.assigns) ∷ (spell e (ts))) us h in
    let v1 = one_token p (tk.mark tk.assigns) (spell e (ts)) v0.rest v0.looks_same in
    let v2 = put e ts v1.rest v1.looks_same in
    record { again = part.last_assignment v0.again v1.again v2.again; rest = v2.rest; tokens = ap (λ (w' : List Token). spell v0.again (w')) (ap (λ (w' : List Token). tk.token v1.again (tk.mark tk.assigns) ∷ w') (v2.tokens) ∙ v1.tokens) ∙ v0.tokens; same = λ z. part.last_assignment (v0.same z) (v1.same z) (v2.same z); looks_same = v2.looks_same }
put_assignments (part.assignment l p e q ms) ts us h =
    let v0 = put l (tk.token p (tk.mark tk.assigns) ∷ (spell e ((tk.token q (tk.mark tk.beside) ∷ (part.assignments ms (ts)))))) us h in
    let v1 = one_token p (tk.mark tk.assigns) (spell e ((tk.token q (tk.mark tk.beside) ∷ (part.assignments ms (ts))))) v0.rest v0.looks_same in
    let v2 = put e (tk.token q (tk.mark tk.beside) ∷ (part.assignments ms (ts))) v1.rest v1.looks_same in
    let v3 = one_token q (tk.mark tk.beside) (part.assignments ms (ts)) v2.rest v2.looks_same in
    let v4 = put_assignments ms ts v3.rest v3.looks_same in
    record { again = part.assignment v0.again v1.again v2.again v3.again v4.again; rest = v4.rest; tokens = ap (λ (w' : List Token). spell v0.again (w')) (ap (λ (w' : List Token). tk.token v1.again (tk.mark tk.assigns) ∷ w') (ap (λ (w' : List Token). spell v2.again (w')) (ap (λ (w' : List Token). tk.token v3.again (tk.mark tk.beside) ∷ w') (v4.tokens) ∙ v3.tokens) ∙ v2.tokens) ∙ v1.tokens) ∙ v0.tokens; same = λ z. part.assignment (v0.same z) (v1.same z) (v2.same z) (v3.same z) (v4.same z); looks_same = v4.looks_same }

put_simple : (x : part.Simple) (ts us : List Token) → looks us ≡ looks (part.simple_tokens x ts) → Put part.Simple simple_lineless part.simple_tokens x ts us
put_simple (part.assign ms) ts us h =
    let v0 = put_assignments ms ts us h in
    record { again = part.assign v0.again; rest = v0.rest; tokens = v0.tokens; same = λ z. part.assign (v0.same z); looks_same = v0.looks_same }
put_simple (part.await p e) ts us h =
    let v0 = one_token p (tk.reserved (codes "await")) (spell e (ts)) us h in
    let v1 = put e ts v0.rest v0.looks_same in
    record { again = part.await v0.again v1.again; rest = v1.rest; tokens = ap (λ (w' : List Token). tk.token v0.again (tk.reserved (codes "await")) ∷ w') (v1.tokens) ∙ v0.tokens; same = λ z. part.await (v0.same z) (v1.same z); looks_same = v1.looks_same }
put_simple (part.when p e) ts us h =
    let v0 = one_token p (tk.reserved (codes "when")) (spell e (ts)) us h in
    let v1 = put e ts v0.rest v0.looks_same in
    record { again = part.when v0.again v1.again; rest = v1.rest; tokens = ap (λ (w' : List Token). tk.token v0.again (tk.reserved (codes "when")) ∷ w') (v1.tokens) ∙ v0.tokens; same = λ z. part.when (v0.same z) (v1.same z); looks_same = v1.looks_same }
put_simple (part.print p e) ts us h =
    let v0 = one_token p (tk.reserved (codes "print")) (spell e (ts)) us h in
    let v1 = put e ts v0.rest v0.looks_same in
    record { again = part.print v0.again v1.again; rest = v1.rest; tokens = ap (λ (w' : List Token). tk.token v0.again (tk.reserved (codes "print")) ∷ w') (v1.tokens) ∙ v0.tokens; same = λ z. part.print (v0.same z) (v1.same z); looks_same = v1.looks_same }
put_simple (part.assert p e) ts us h =
    let v0 = one_token p (tk.reserved (codes "assert")) (spell e (ts)) us h in
    let v1 = put e ts v0.rest v0.looks_same in
    record { again = part.assert v0.again v1.again; rest = v1.rest; tokens = ap (λ (w' : List Token). tk.token v0.again (tk.reserved (codes "assert")) ∷ w') (v1.tokens) ∙ v0.tokens; same = λ z. part.assert (v0.same z) (v1.same z); looks_same = v1.looks_same }
put_simple (part.skip p) ts us h =
    let v0 = one_token p (tk.reserved (codes "skip")) ts us h in
    record { again = part.skip v0.again; rest = v0.rest; tokens = v0.tokens; same = λ z. part.skip (v0.same z); looks_same = v0.looks_same }
put_simple (part.goto p x) ts us h =
    let v0 = one_token p (tk.reserved (codes "goto")) (part.name x (ts)) us h in
    let v1 = put_name x ts v0.rest v0.looks_same in
    record { again = part.goto v0.again v1.again; rest = v1.rest; tokens = ap (λ (w' : List Token). tk.token v0.again (tk.reserved (codes "goto")) ∷ w') (v1.tokens) ∙ v0.tokens; same = λ z. part.goto (v0.same z) (v1.same z); looks_same = v1.looks_same }
put_simple (part.call p x xs) ts us h =
    let v0 = one_token p (tk.reserved (codes "call")) (part.name x ((part.arguments xs (ts)))) us h in
    let v1 = put_name x (part.arguments xs (ts)) v0.rest v0.looks_same in
    let v2 = put_arguments xs ts v1.rest v1.looks_same in
    record { again = part.call v0.again v1.again v2.again; rest = v2.rest; tokens = ap (λ (w' : List Token). tk.token v0.again (tk.reserved (codes "call")) ∷ w') (ap (λ (w' : List Token). part.name v1.again (w')) (v2.tokens) ∙ v1.tokens) ∙ v0.tokens; same = λ z. part.call (v0.same z) (v1.same z) (v2.same z); looks_same = v2.looks_same }
put_simple (part.return p) ts us h =
    let v0 = one_token p (tk.reserved (codes "return")) ts us h in
    record { again = part.return v0.again; rest = v0.rest; tokens = v0.tokens; same = λ z. part.return (v0.same z); looks_same = v0.looks_same }
put_simple (part.macro x xs) ts us h =
    let v0 = put_name x (part.arguments xs (ts)) us h in
    let v1 = put_arguments xs ts v0.rest v0.looks_same in
    record { again = part.macro v0.again v1.again; rest = v1.rest; tokens = ap (λ (w' : List Token). part.name v0.again (w')) (v1.tokens) ∙ v0.tokens; same = λ z. part.macro (v0.same z) (v1.same z); looks_same = v1.looks_same }

mutual
  put_p_statement : (x : psyntax.Statement) (ts us : List Token) → looks us ≡ looks (psyntax.statement x ts) → Put psyntax.Statement p_statement_lineless psyntax.statement x ts us
  put_p_statement (psyntax.simple s) ts us h =
      let v0 = put_simple s ts us h in
      record { again = psyntax.simple v0.again; rest = v0.rest; tokens = v0.tokens; same = λ z. psyntax.simple (v0.same z); looks_same = v0.looks_same }
  put_p_statement (psyntax.branch p e q a b r s) ts us h =
      let v0 = one_token p (tk.reserved (codes "if")) (spell e ((tk.token q (tk.reserved (codes "then")) ∷ (psyntax.sequence a ((psyntax.else_tokens b ((tk.token r (tk.reserved (codes "end")) ∷ (tk.token s (tk.reserved (codes "if")) ∷ ts))))))))) us h in
      let v1 = put e (tk.token q (tk.reserved (codes "then")) ∷ (psyntax.sequence a ((psyntax.else_tokens b ((tk.token r (tk.reserved (codes "end")) ∷ (tk.token s (tk.reserved (codes "if")) ∷ ts))))))) v0.rest v0.looks_same in
      let v2 = one_token q (tk.reserved (codes "then")) (psyntax.sequence a ((psyntax.else_tokens b ((tk.token r (tk.reserved (codes "end")) ∷ (tk.token s (tk.reserved (codes "if")) ∷ ts)))))) v1.rest v1.looks_same in
      let v3 = put_p_sequence a (psyntax.else_tokens b ((tk.token r (tk.reserved (codes "end")) ∷ (tk.token s (tk.reserved (codes "if")) ∷ ts)))) v2.rest v2.looks_same in
      let v4 = put_p_else b (tk.token r (tk.reserved (codes "end")) ∷ (tk.token s (tk.reserved (codes "if")) ∷ ts)) v3.rest v3.looks_same in
      let v5 = one_token r (tk.reserved (codes "end")) (tk.token s (tk.reserved (codes "if")) ∷ ts) v4.rest v4.looks_same in
      let v6 = one_token s (tk.reserved (codes "if")) ts v5.rest v5.looks_same in
      record { again = psyntax.branch v0.again v1.again v2.again v3.again v4.again v5.again v6.again; rest = v6.rest; tokens = ap (λ (w' : List Token). tk.token v0.again (tk.reserved (codes "if")) ∷ w') (ap (λ (w' : List Token). spell v1.again (w')) (ap (λ (w' : List Token). tk.token v2.again (tk.reserved (codes "then")) ∷ w') (ap (λ (w' : List Token). psyntax.sequence v3.again (w')) (ap (λ (w' : List Token). psyntax.else_tokens v4.again (w')) (ap (λ (w' : List Token). tk.token v5.again (tk.reserved (codes "end")) ∷ w') (v6.tokens) ∙ v5.tokens) ∙ v4.tokens) ∙ v3.tokens) ∙ v2.tokens) ∙ v1.tokens) ∙ v0.tokens; same = λ z. psyntax.branch (v0.same z) (v1.same z) (v2.same z) (v3.same z) (v4.same z) (v5.same z) (v6.same z); looks_same = v6.looks_same }
  put_p_statement (psyntax.either p a bs r s) ts us h =
      let v0 = one_token p (tk.reserved (codes "either")) (psyntax.sequence a ((psyntax.branches bs ((tk.token r (tk.reserved (codes "end")) ∷ (tk.token s (tk.reserved (codes "either")) ∷ ts)))))) us h in
      let v1 = put_p_sequence a (psyntax.branches bs ((tk.token r (tk.reserved (codes "end")) ∷ (tk.token s (tk.reserved (codes "either")) ∷ ts)))) v0.rest v0.looks_same in
      let v2 = put_p_branches bs (tk.token r (tk.reserved (codes "end")) ∷ (tk.token s (tk.reserved (codes "either")) ∷ ts)) v1.rest v1.looks_same in
      let v3 = one_token r (tk.reserved (codes "end")) (tk.token s (tk.reserved (codes "either")) ∷ ts) v2.rest v2.looks_same in
      let v4 = one_token s (tk.reserved (codes "either")) ts v3.rest v3.looks_same in
      record { again = psyntax.either v0.again v1.again v2.again v3.again v4.again; rest = v4.rest; tokens = ap (λ (w' : List Token). tk.token v0.again (tk.reserved (codes "either")) ∷ w') (ap (λ (w' : List Token). psyntax.sequence v1.again (w')) (ap (λ (w' : List Token). psyntax.branches v2.again (w')) (ap (λ (w' : List Token). tk.token v3.again (tk.reserved (codes "end")) ∷ w') (v4.tokens) ∙ v3.tokens) ∙ v2.tokens) ∙ v1.tokens) ∙ v0.tokens; same = λ z. psyntax.either (v0.same z) (v1.same z) (v2.same z) (v3.same z) (v4.same z); looks_same = v4.looks_same }
  put_p_statement (psyntax.with p bs q a r s) ts us h =
      let v0 = one_token p (tk.reserved (codes "with")) (part.binds bs ((tk.token q (tk.reserved (codes "do")) ∷ (psyntax.sequence a ((tk.token r (tk.reserved (codes "end")) ∷ (tk.token s (tk.reserved (codes "with")) ∷ ts))))))) us h in
      let v1 = put_binds bs (tk.token q (tk.reserved (codes "do")) ∷ (psyntax.sequence a ((tk.token r (tk.reserved (codes "end")) ∷ (tk.token s (tk.reserved (codes "with")) ∷ ts))))) v0.rest v0.looks_same in
      let v2 = one_token q (tk.reserved (codes "do")) (psyntax.sequence a ((tk.token r (tk.reserved (codes "end")) ∷ (tk.token s (tk.reserved (codes "with")) ∷ ts)))) v1.rest v1.looks_same in
      let v3 = put_p_sequence a (tk.token r (tk.reserved (codes "end")) ∷ (tk.token s (tk.reserved (codes "with")) ∷ ts)) v2.rest v2.looks_same in
      let v4 = one_token r (tk.reserved (codes "end")) (tk.token s (tk.reserved (codes "with")) ∷ ts) v3.rest v3.looks_same in
      let v5 = one_token s (tk.reserved (codes "with")) ts v4.rest v4.looks_same in
      record { again = psyntax.with v0.again v1.again v2.again v3.again v4.again v5.again; rest = v5.rest; tokens = ap (λ (w' : List Token). tk.token v0.again (tk.reserved (codes "with")) ∷ w') (ap (λ (w' : List Token). part.binds v1.again (w')) (ap (λ (w' : List Token). tk.token v2.again (tk.reserved (codes "do")) ∷ w') (ap (λ (w' : List Token). psyntax.sequence v3.again (w')) (ap (λ (w' : List Token). tk.token v4.again (tk.reserved (codes "end")) ∷ w') (v5.tokens) ∙ v4.tokens) ∙ v3.tokens) ∙ v2.tokens) ∙ v1.tokens) ∙ v0.tokens; same = λ z. psyntax.with (v0.same z) (v1.same z) (v2.same z) (v3.same z) (v4.same z) (v5.same z); looks_same = v5.looks_same }
  put_p_statement (psyntax.while p e q a r s) ts us h =
      let v0 = one_token p (tk.reserved (codes "while")) (spell e ((tk.token q (tk.reserved (codes "do")) ∷ (psyntax.sequence a ((tk.token r (tk.reserved (codes "end")) ∷ (tk.token s (tk.reserved (codes "while")) ∷ ts))))))) us h in
      let v1 = put e (tk.token q (tk.reserved (codes "do")) ∷ (psyntax.sequence a ((tk.token r (tk.reserved (codes "end")) ∷ (tk.token s (tk.reserved (codes "while")) ∷ ts))))) v0.rest v0.looks_same in
      let v2 = one_token q (tk.reserved (codes "do")) (psyntax.sequence a ((tk.token r (tk.reserved (codes "end")) ∷ (tk.token s (tk.reserved (codes "while")) ∷ ts)))) v1.rest v1.looks_same in
      let v3 = put_p_sequence a (tk.token r (tk.reserved (codes "end")) ∷ (tk.token s (tk.reserved (codes "while")) ∷ ts)) v2.rest v2.looks_same in
      let v4 = one_token r (tk.reserved (codes "end")) (tk.token s (tk.reserved (codes "while")) ∷ ts) v3.rest v3.looks_same in
      let v5 = one_token s (tk.reserved (codes "while")) ts v4.rest v4.looks_same in
      record { again = psyntax.while v0.again v1.again v2.again v3.again v4.again v5.again; rest = v5.rest; tokens = ap (λ (w' : List Token). tk.token v0.again (tk.reserved (codes "while")) ∷ w') (ap (λ (w' : List Token). spell v1.again (w')) (ap (λ (w' : List Token). tk.token v2.again (tk.reserved (codes "do")) ∷ w') (ap (λ (w' : List Token). psyntax.sequence v3.again (w')) (ap (λ (w' : List Token). tk.token v4.again (tk.reserved (codes "end")) ∷ w') (v5.tokens) ∙ v4.tokens) ∙ v3.tokens) ∙ v2.tokens) ∙ v1.tokens) ∙ v0.tokens; same = λ z. psyntax.while (v0.same z) (v1.same z) (v2.same z) (v3.same z) (v4.same z) (v5.same z); looks_same = v5.looks_same }

  put_p_else : (x : psyntax.Else) (ts us : List Token) → looks us ≡ looks (psyntax.else_tokens x ts) → Put psyntax.Else p_else_lineless psyntax.else_tokens x ts us
  put_p_else psyntax.no_else ts us h = record { again = psyntax.no_else; rest = us; tokens = refl; same = refl; looks_same = h }
  put_p_else (psyntax.else_then p a) ts us h =
      let v0 = one_token p (tk.reserved (codes "else")) (psyntax.sequence a (ts)) us h in
      let v1 = put_p_sequence a ts v0.rest v0.looks_same in
      record { again = psyntax.else_then v0.again v1.again; rest = v1.rest; tokens = ap (λ (w' : List Token). tk.token v0.again (tk.reserved (codes "else")) ∷ w') (v1.tokens) ∙ v0.tokens; same = λ z. psyntax.else_then (v0.same z) (v1.same z); looks_same = v1.looks_same }
  put_p_else (psyntax.else_if p e q a b) ts us h =
      let v0 = one_token p (tk.reserved (codes "elsif")) (spell e ((tk.token q (tk.reserved (codes "then")) ∷ (psyntax.sequence a ((psyntax.else_tokens b (ts))))))) us h in
      let v1 = put e (tk.token q (tk.reserved (codes "then")) ∷ (psyntax.sequence a ((psyntax.else_tokens b (ts))))) v0.rest v0.looks_same in
      let v2 = one_token q (tk.reserved (codes "then")) (psyntax.sequence a ((psyntax.else_tokens b (ts)))) v1.rest v1.looks_same in
      let v3 = put_p_sequence a (psyntax.else_tokens b (ts)) v2.rest v2.looks_same in
      let v4 = put_p_else b ts v3.rest v3.looks_same in
      record { again = psyntax.else_if v0.again v1.again v2.again v3.again v4.again; rest = v4.rest; tokens = ap (λ (w' : List Token). tk.token v0.again (tk.reserved (codes "elsif")) ∷ w') (ap (λ (w' : List Token). spell v1.again (w')) (ap (λ (w' : List Token). tk.token v2.again (tk.reserved (codes "then")) ∷ w') (ap (λ (w' : List Token). psyntax.sequence v3.again (w')) (v4.tokens) ∙ v3.tokens) ∙ v2.tokens) ∙ v1.tokens) ∙ v0.tokens; same = λ z. psyntax.else_if (v0.same z) (v1.same z) (v2.same z) (v3.same z) (v4.same z); looks_same = v4.looks_same }

  put_p_branches : (x : psyntax.Branches) (ts us : List Token) → looks us ≡ looks (psyntax.branches x ts) → Put psyntax.Branches p_branches_lineless psyntax.branches x ts us
  put_p_branches (psyntax.last_branch p a) ts us h =
      let v0 = one_token p (tk.reserved (codes "or")) (psyntax.sequence a (ts)) us h in
      let v1 = put_p_sequence a ts v0.rest v0.looks_same in
      record { again = psyntax.last_branch v0.again v1.again; rest = v1.rest; tokens = ap (λ (w' : List Token). tk.token v0.again (tk.reserved (codes "or")) ∷ w') (v1.tokens) ∙ v0.tokens; same = λ z. psyntax.last_branch (v0.same z) (v1.same z); looks_same = v1.looks_same }
  put_p_branches (psyntax.more_branches p a bs) ts us h =
      let v0 = one_token p (tk.reserved (codes "or")) (psyntax.sequence a ((psyntax.branches bs (ts)))) us h in
      let v1 = put_p_sequence a (psyntax.branches bs (ts)) v0.rest v0.looks_same in
      let v2 = put_p_branches bs ts v1.rest v1.looks_same in
      record { again = psyntax.more_branches v0.again v1.again v2.again; rest = v2.rest; tokens = ap (λ (w' : List Token). tk.token v0.again (tk.reserved (codes "or")) ∷ w') (ap (λ (w' : List Token). psyntax.sequence v1.again (w')) (v2.tokens) ∙ v1.tokens) ∙ v0.tokens; same = λ z. psyntax.more_branches (v0.same z) (v1.same z) (v2.same z); looks_same = v2.looks_same }

  put_p_sequence : (x : psyntax.Sequence) (ts us : List Token) → looks us ≡ looks (psyntax.sequence x ts) → Put psyntax.Sequence p_sequence_lineless psyntax.sequence x ts us
  put_p_sequence (psyntax.last_statement ls st s) ts us h =
      let v0 = put_labels ls (psyntax.statement st ((part.maybe_semicolon s (ts)))) us h in
      let v1 = put_p_statement st (part.maybe_semicolon s (ts)) v0.rest v0.looks_same in
      let v2 = put_maybe_semicolon s ts v1.rest v1.looks_same in
      record { again = psyntax.last_statement v0.again v1.again v2.again; rest = v2.rest; tokens = ap (λ (w' : List Token). part.labels v0.again (w')) (ap (λ (w' : List Token). psyntax.statement v1.again (w')) (v2.tokens) ∙ v1.tokens) ∙ v0.tokens; same = λ z. psyntax.last_statement (v0.same z) (v1.same z) (v2.same z); looks_same = v2.looks_same }
  put_p_sequence (psyntax.more_statements ls st p ss) ts us h =
      let v0 = put_labels ls (psyntax.statement st ((tk.token p (tk.mark tk.semicolon) ∷ (psyntax.sequence ss (ts))))) us h in
      let v1 = put_p_statement st (tk.token p (tk.mark tk.semicolon) ∷ (psyntax.sequence ss (ts))) v0.rest v0.looks_same in
      let v2 = one_token p (tk.mark tk.semicolon) (psyntax.sequence ss (ts)) v1.rest v1.looks_same in
      let v3 = put_p_sequence ss ts v2.rest v2.looks_same in
      record { again = psyntax.more_statements v0.again v1.again v2.again v3.again; rest = v3.rest; tokens = ap (λ (w' : List Token). part.labels v0.again (w')) (ap (λ (w' : List Token). psyntax.statement v1.again (w')) (ap (λ (w' : List Token). tk.token v2.again (tk.mark tk.semicolon) ∷ w') (v3.tokens) ∙ v2.tokens) ∙ v1.tokens) ∙ v0.tokens; same = λ z. psyntax.more_statements (v0.same z) (v1.same z) (v2.same z) (v3.same z); looks_same = v3.looks_same }

mutual
  put_c_statement : (x : csyntax.Statement) (ts us : List Token) → looks us ≡ looks (csyntax.statement x ts) → Put csyntax.Statement c_statement_lineless csyntax.statement x ts us
  put_c_statement (csyntax.simple s) ts us h =
      let v0 = put_simple s ts us h in
      record { again = csyntax.simple v0.again; rest = v0.rest; tokens = v0.tokens; same = λ z. csyntax.simple (v0.same z); looks_same = v0.looks_same }
  put_c_statement (csyntax.branch p q e r a b) ts us h =
      let v0 = one_token p (tk.reserved (codes "if")) (tk.token q (tk.mark tk.open_bracket) ∷ (spell e ((tk.token r (tk.mark tk.close_bracket) ∷ (csyntax.labelled_tokens a ((csyntax.else_tokens b (ts)))))))) us h in
      let v1 = one_token q (tk.mark tk.open_bracket) (spell e ((tk.token r (tk.mark tk.close_bracket) ∷ (csyntax.labelled_tokens a ((csyntax.else_tokens b (ts))))))) v0.rest v0.looks_same in
      let v2 = put e (tk.token r (tk.mark tk.close_bracket) ∷ (csyntax.labelled_tokens a ((csyntax.else_tokens b (ts))))) v1.rest v1.looks_same in
      let v3 = one_token r (tk.mark tk.close_bracket) (csyntax.labelled_tokens a ((csyntax.else_tokens b (ts)))) v2.rest v2.looks_same in
      let v4 = put_c_labelled a (csyntax.else_tokens b (ts)) v3.rest v3.looks_same in
      let v5 = put_c_else b ts v4.rest v4.looks_same in
      record { again = csyntax.branch v0.again v1.again v2.again v3.again v4.again v5.again; rest = v5.rest; tokens = ap (λ (w' : List Token). tk.token v0.again (tk.reserved (codes "if")) ∷ w') (ap (λ (w' : List Token). tk.token v1.again (tk.mark tk.open_bracket) ∷ w') (ap (λ (w' : List Token). spell v2.again (w')) (ap (λ (w' : List Token). tk.token v3.again (tk.mark tk.close_bracket) ∷ w') (ap (λ (w' : List Token). csyntax.labelled_tokens v4.again (w')) (v5.tokens) ∙ v4.tokens) ∙ v3.tokens) ∙ v2.tokens) ∙ v1.tokens) ∙ v0.tokens; same = λ z. csyntax.branch (v0.same z) (v1.same z) (v2.same z) (v3.same z) (v4.same z) (v5.same z); looks_same = v5.looks_same }
  put_c_statement (csyntax.either p a bs) ts us h =
      let v0 = one_token p (tk.reserved (codes "either")) (csyntax.labelled_tokens a ((csyntax.branches bs (ts)))) us h in
      let v1 = put_c_labelled a (csyntax.branches bs (ts)) v0.rest v0.looks_same in
      let v2 = put_c_branches bs ts v1.rest v1.looks_same in
      record { again = csyntax.either v0.again v1.again v2.again; rest = v2.rest; tokens = ap (λ (w' : List Token). tk.token v0.again (tk.reserved (codes "either")) ∷ w') (ap (λ (w' : List Token). csyntax.labelled_tokens v1.again (w')) (v2.tokens) ∙ v1.tokens) ∙ v0.tokens; same = λ z. csyntax.either (v0.same z) (v1.same z) (v2.same z); looks_same = v2.looks_same }
  put_c_statement (csyntax.with p q bs r a) ts us h =
      let v0 = one_token p (tk.reserved (codes "with")) (tk.token q (tk.mark tk.open_bracket) ∷ (part.binds bs ((tk.token r (tk.mark tk.close_bracket) ∷ (csyntax.labelled_tokens a (ts)))))) us h in
      let v1 = one_token q (tk.mark tk.open_bracket) (part.binds bs ((tk.token r (tk.mark tk.close_bracket) ∷ (csyntax.labelled_tokens a (ts))))) v0.rest v0.looks_same in
      let v2 = put_binds bs (tk.token r (tk.mark tk.close_bracket) ∷ (csyntax.labelled_tokens a (ts))) v1.rest v1.looks_same in
      let v3 = one_token r (tk.mark tk.close_bracket) (csyntax.labelled_tokens a (ts)) v2.rest v2.looks_same in
      let v4 = put_c_labelled a ts v3.rest v3.looks_same in
      record { again = csyntax.with v0.again v1.again v2.again v3.again v4.again; rest = v4.rest; tokens = ap (λ (w' : List Token). tk.token v0.again (tk.reserved (codes "with")) ∷ w') (ap (λ (w' : List Token). tk.token v1.again (tk.mark tk.open_bracket) ∷ w') (ap (λ (w' : List Token). part.binds v2.again (w')) (ap (λ (w' : List Token). tk.token v3.again (tk.mark tk.close_bracket) ∷ w') (v4.tokens) ∙ v3.tokens) ∙ v2.tokens) ∙ v1.tokens) ∙ v0.tokens; same = λ z. csyntax.with (v0.same z) (v1.same z) (v2.same z) (v3.same z) (v4.same z); looks_same = v4.looks_same }
  put_c_statement (csyntax.while p q e r a) ts us h =
      let v0 = one_token p (tk.reserved (codes "while")) (tk.token q (tk.mark tk.open_bracket) ∷ (spell e ((tk.token r (tk.mark tk.close_bracket) ∷ (csyntax.labelled_tokens a (ts)))))) us h in
      let v1 = one_token q (tk.mark tk.open_bracket) (spell e ((tk.token r (tk.mark tk.close_bracket) ∷ (csyntax.labelled_tokens a (ts))))) v0.rest v0.looks_same in
      let v2 = put e (tk.token r (tk.mark tk.close_bracket) ∷ (csyntax.labelled_tokens a (ts))) v1.rest v1.looks_same in
      let v3 = one_token r (tk.mark tk.close_bracket) (csyntax.labelled_tokens a (ts)) v2.rest v2.looks_same in
      let v4 = put_c_labelled a ts v3.rest v3.looks_same in
      record { again = csyntax.while v0.again v1.again v2.again v3.again v4.again; rest = v4.rest; tokens = ap (λ (w' : List Token). tk.token v0.again (tk.reserved (codes "while")) ∷ w') (ap (λ (w' : List Token). tk.token v1.again (tk.mark tk.open_bracket) ∷ w') (ap (λ (w' : List Token). spell v2.again (w')) (ap (λ (w' : List Token). tk.token v3.again (tk.mark tk.close_bracket) ∷ w') (v4.tokens) ∙ v3.tokens) ∙ v2.tokens) ∙ v1.tokens) ∙ v0.tokens; same = λ z. csyntax.while (v0.same z) (v1.same z) (v2.same z) (v3.same z) (v4.same z); looks_same = v4.looks_same }
  put_c_statement (csyntax.compound p ss q) ts us h =
      let v0 = one_token p (tk.mark tk.open_brace) (csyntax.sequence ss ((tk.token q (tk.mark tk.close_brace) ∷ ts))) us h in
      let v1 = put_c_sequence ss (tk.token q (tk.mark tk.close_brace) ∷ ts) v0.rest v0.looks_same in
      let v2 = one_token q (tk.mark tk.close_brace) ts v1.rest v1.looks_same in
      record { again = csyntax.compound v0.again v1.again v2.again; rest = v2.rest; tokens = ap (λ (w' : List Token). tk.token v0.again (tk.mark tk.open_brace) ∷ w') (ap (λ (w' : List Token). csyntax.sequence v1.again (w')) (v2.tokens) ∙ v1.tokens) ∙ v0.tokens; same = λ z. csyntax.compound (v0.same z) (v1.same z) (v2.same z); looks_same = v2.looks_same }

  put_c_labelled : (x : csyntax.Labelled) (ts us : List Token) → looks us ≡ looks (csyntax.labelled_tokens x ts) → Put csyntax.Labelled c_labelled_lineless csyntax.labelled_tokens x ts us
  put_c_labelled (csyntax.labelled ls st) ts us h =
      let v0 = put_labels ls (csyntax.statement st (ts)) us h in
      let v1 = put_c_statement st ts v0.rest v0.looks_same in
      record { again = csyntax.labelled v0.again v1.again; rest = v1.rest; tokens = ap (λ (w' : List Token). part.labels v0.again (w')) (v1.tokens) ∙ v0.tokens; same = λ z. csyntax.labelled (v0.same z) (v1.same z); looks_same = v1.looks_same }

  put_c_else : (x : csyntax.Else) (ts us : List Token) → looks us ≡ looks (csyntax.else_tokens x ts) → Put csyntax.Else c_else_lineless csyntax.else_tokens x ts us
  put_c_else csyntax.no_else ts us h = record { again = csyntax.no_else; rest = us; tokens = refl; same = refl; looks_same = h }
  put_c_else (csyntax.else_then s p a) ts us h =
      let v0 = put_maybe_semicolon s (tk.token p (tk.reserved (codes "else")) ∷ (csyntax.labelled_tokens a (ts))) us h in
      let v1 = one_token p (tk.reserved (codes "else")) (csyntax.labelled_tokens a (ts)) v0.rest v0.looks_same in
      let v2 = put_c_labelled a ts v1.rest v1.looks_same in
      record { again = csyntax.else_then v0.again v1.again v2.again; rest = v2.rest; tokens = ap (λ (w' : List Token). part.maybe_semicolon v0.again (w')) (ap (λ (w' : List Token). tk.token v1.again (tk.reserved (codes "else")) ∷ w') (v2.tokens) ∙ v1.tokens) ∙ v0.tokens; same = λ z. csyntax.else_then (v0.same z) (v1.same z) (v2.same z); looks_same = v2.looks_same }

  put_c_branches : (x : csyntax.Branches) (ts us : List Token) → looks us ≡ looks (csyntax.branches x ts) → Put csyntax.Branches c_branches_lineless csyntax.branches x ts us
  put_c_branches (csyntax.last_branch s p a) ts us h =
      let v0 = put_maybe_semicolon s (tk.token p (tk.reserved (codes "or")) ∷ (csyntax.labelled_tokens a (ts))) us h in
      let v1 = one_token p (tk.reserved (codes "or")) (csyntax.labelled_tokens a (ts)) v0.rest v0.looks_same in
      let v2 = put_c_labelled a ts v1.rest v1.looks_same in
      record { again = csyntax.last_branch v0.again v1.again v2.again; rest = v2.rest; tokens = ap (λ (w' : List Token). part.maybe_semicolon v0.again (w')) (ap (λ (w' : List Token). tk.token v1.again (tk.reserved (codes "or")) ∷ w') (v2.tokens) ∙ v1.tokens) ∙ v0.tokens; same = λ z. csyntax.last_branch (v0.same z) (v1.same z) (v2.same z); looks_same = v2.looks_same }
  put_c_branches (csyntax.more_branches s p a bs) ts us h =
      let v0 = put_maybe_semicolon s (tk.token p (tk.reserved (codes "or")) ∷ (csyntax.labelled_tokens a ((csyntax.branches bs (ts))))) us h in
      let v1 = one_token p (tk.reserved (codes "or")) (csyntax.labelled_tokens a ((csyntax.branches bs (ts)))) v0.rest v0.looks_same in
      let v2 = put_c_labelled a (csyntax.branches bs (ts)) v1.rest v1.looks_same in
      let v3 = put_c_branches bs ts v2.rest v2.looks_same in
      record { again = csyntax.more_branches v0.again v1.again v2.again v3.again; rest = v3.rest; tokens = ap (λ (w' : List Token). part.maybe_semicolon v0.again (w')) (ap (λ (w' : List Token). tk.token v1.again (tk.reserved (codes "or")) ∷ w') (ap (λ (w' : List Token). csyntax.labelled_tokens v2.again (w')) (v3.tokens) ∙ v2.tokens) ∙ v1.tokens) ∙ v0.tokens; same = λ z. csyntax.more_branches (v0.same z) (v1.same z) (v2.same z) (v3.same z); looks_same = v3.looks_same }

  put_c_sequence : (x : csyntax.Sequence) (ts us : List Token) → looks us ≡ looks (csyntax.sequence x ts) → Put csyntax.Sequence c_sequence_lineless csyntax.sequence x ts us
  put_c_sequence (csyntax.last_statement a s) ts us h =
      let v0 = put_c_labelled a (part.maybe_semicolon s (ts)) us h in
      let v1 = put_maybe_semicolon s ts v0.rest v0.looks_same in
      record { again = csyntax.last_statement v0.again v1.again; rest = v1.rest; tokens = ap (λ (w' : List Token). csyntax.labelled_tokens v0.again (w')) (v1.tokens) ∙ v0.tokens; same = λ z. csyntax.last_statement (v0.same z) (v1.same z); looks_same = v1.looks_same }
  put_c_sequence (csyntax.more_statements a s ss) ts us h =
      let v0 = put_c_labelled a (part.maybe_semicolon s ((csyntax.sequence ss (ts)))) us h in
      let v1 = put_maybe_semicolon s (csyntax.sequence ss (ts)) v0.rest v0.looks_same in
      let v2 = put_c_sequence ss ts v1.rest v1.looks_same in
      record { again = csyntax.more_statements v0.again v1.again v2.again; rest = v2.rest; tokens = ap (λ (w' : List Token). csyntax.labelled_tokens v0.again (w')) (ap (λ (w' : List Token). part.maybe_semicolon v1.again (w')) (v2.tokens) ∙ v1.tokens) ∙ v0.tokens; same = λ z. csyntax.more_statements (v0.same z) (v1.same z) (v2.same z); looks_same = v2.looks_same }

put_body : (w : Word) (x : g.Body) (ts us : List Token) → looks us ≡ looks (g.body w x ts) → Put g.Body body_lineless (g.body w) x ts us
put_body w (g.begin_end a ss b d s) ts us h =
    let v0 = one_token a (tk.reserved (codes "begin")) (psyntax.sequence ss ((tk.token b (tk.reserved (codes "end")) ∷ (tk.token d (tk.reserved w) ∷ (part.maybe_semicolon s (ts)))))) us h in
    let v1 = put_p_sequence ss (tk.token b (tk.reserved (codes "end")) ∷ (tk.token d (tk.reserved w) ∷ (part.maybe_semicolon s (ts)))) v0.rest v0.looks_same in
    let v2 = one_token b (tk.reserved (codes "end")) (tk.token d (tk.reserved w) ∷ (part.maybe_semicolon s (ts))) v1.rest v1.looks_same in
    let v3 = one_token d (tk.reserved w) (part.maybe_semicolon s (ts)) v2.rest v2.looks_same in
    let v4 = put_maybe_semicolon s ts v3.rest v3.looks_same in
    record { again = g.begin_end v0.again v1.again v2.again v3.again v4.again; rest = v4.rest; tokens = ap (λ (w' : List Token). tk.token v0.again (tk.reserved (codes "begin")) ∷ w') (ap (λ (w' : List Token). psyntax.sequence v1.again (w')) (ap (λ (w' : List Token). tk.token v2.again (tk.reserved (codes "end")) ∷ w') (ap (λ (w' : List Token). tk.token v3.again (tk.reserved w) ∷ w') (v4.tokens) ∙ v3.tokens) ∙ v2.tokens) ∙ v1.tokens) ∙ v0.tokens; same = λ z. g.begin_end (v0.same z) (v1.same z) (v2.same z) (v3.same z) (v4.same z); looks_same = v4.looks_same }
put_body w (g.braces a ss b s) ts us h =
    let v0 = one_token a (tk.mark tk.open_brace) (csyntax.sequence ss ((tk.token b (tk.mark tk.close_brace) ∷ (part.maybe_semicolon s (ts))))) us h in
    let v1 = put_c_sequence ss (tk.token b (tk.mark tk.close_brace) ∷ (part.maybe_semicolon s (ts))) v0.rest v0.looks_same in
    let v2 = one_token b (tk.mark tk.close_brace) (part.maybe_semicolon s (ts)) v1.rest v1.looks_same in
    let v3 = put_maybe_semicolon s ts v2.rest v2.looks_same in
    record { again = g.braces v0.again v1.again v2.again v3.again; rest = v3.rest; tokens = ap (λ (w' : List Token). tk.token v0.again (tk.mark tk.open_brace) ∷ w') (ap (λ (w' : List Token). csyntax.sequence v1.again (w')) (ap (λ (w' : List Token). tk.token v2.again (tk.mark tk.close_brace) ∷ w') (v3.tokens) ∙ v2.tokens) ∙ v1.tokens) ∙ v0.tokens; same = λ z. g.braces (v0.same z) (v1.same z) (v2.same z) (v3.same z); looks_same = v3.looks_same }

put_macro : (x : g.Macro) (ts us : List Token) → looks us ≡ looks (g.macro x ts) → Put g.Macro macro_lineless g.macro x ts us
put_macro x ts us h =
    let v0 = one_token x.place (tk.reserved (codes "macro")) (part.name x.name ((part.macro_parameters x.parameters ((g.body (codes "macro") x.body (ts)))))) us h in
    let v1 = put_name x.name (part.macro_parameters x.parameters ((g.body (codes "macro") x.body (ts)))) v0.rest v0.looks_same in
    let v2 = put_macro_parameters x.parameters (g.body (codes "macro") x.body (ts)) v1.rest v1.looks_same in
    let v3 = put_body (codes "macro") x.body ts v2.rest v2.looks_same in
    record { again = record { place = v0.again; name = v1.again; parameters = v2.again; body = v3.again }; rest = v3.rest; tokens = ap (λ (w' : List Token). tk.token v0.again (tk.reserved (codes "macro")) ∷ w') (ap (λ (w' : List Token). part.name v1.again (w')) (ap (λ (w' : List Token). part.macro_parameters v2.again (w')) (v3.tokens) ∙ v2.tokens) ∙ v1.tokens) ∙ v0.tokens; same = λ z. record { place = v0.same z; name = v1.same z; parameters = v2.same z; body = v3.same z }; looks_same = v3.looks_same }

put_procedure : (x : g.Procedure) (ts us : List Token) → looks us ≡ looks (g.procedure x ts) → Put g.Procedure procedure_lineless g.procedure x ts us
put_procedure x ts us h =
    let v0 = one_token x.place (tk.reserved (codes "procedure")) (part.name x.name ((part.procedure_parameters x.parameters ((part.section_tokens x.variables ((g.body (codes "procedure") x.body (ts)))))))) us h in
    let v1 = put_name x.name (part.procedure_parameters x.parameters ((part.section_tokens x.variables ((g.body (codes "procedure") x.body (ts)))))) v0.rest v0.looks_same in
    let v2 = put_procedure_parameters x.parameters (part.section_tokens x.variables ((g.body (codes "procedure") x.body (ts)))) v1.rest v1.looks_same in
    let v3 = put_section x.variables (g.body (codes "procedure") x.body (ts)) v2.rest v2.looks_same in
    let v4 = put_body (codes "procedure") x.body ts v3.rest v3.looks_same in
    record { again = record { place = v0.again; name = v1.again; parameters = v2.again; variables = v3.again; body = v4.again }; rest = v4.rest; tokens = ap (λ (w' : List Token). tk.token v0.again (tk.reserved (codes "procedure")) ∷ w') (ap (λ (w' : List Token). part.name v1.again (w')) (ap (λ (w' : List Token). part.procedure_parameters v2.again (w')) (ap (λ (w' : List Token). part.section_tokens v3.again (w')) (v4.tokens) ∙ v3.tokens) ∙ v2.tokens) ∙ v1.tokens) ∙ v0.tokens; same = λ z. record { place = v0.same z; name = v1.same z; parameters = v2.same z; variables = v3.same z; body = v4.same z }; looks_same = v4.looks_same }

put_fair : (x : g.Fair) (ts us : List Token) → looks us ≡ looks (g.fair x ts) → Put g.Fair fair_lineless g.fair x ts us
put_fair g.unfair ts us h = record { again = g.unfair; rest = us; tokens = refl; same = refl; looks_same = h }
put_fair (g.weak a) ts us h =
    let v0 = one_token a (tk.reserved (codes "fair")) ts us h in
    record { again = g.weak v0.again; rest = v0.rest; tokens = v0.tokens; same = λ z. g.weak (v0.same z); looks_same = v0.looks_same }
put_fair (g.strong a b) ts us h =
    let v0 = one_token a (tk.reserved (codes "fair")) (tk.token b (sign_of op.Plus) ∷ ts) us h in
    let v1 = one_token b (sign_of op.Plus) ts v0.rest v0.looks_same in
    record { again = g.strong v0.again v1.again; rest = v1.rest; tokens = ap (λ (w' : List Token). tk.token v0.again (tk.reserved (codes "fair")) ∷ w') (v1.tokens) ∙ v0.tokens; same = λ z. g.strong (v0.same z) (v1.same z); looks_same = v1.looks_same }

put_identity : (x : g.Identity) (ts us : List Token) → looks us ≡ looks (g.identity x ts) → Put g.Identity identity_lineless g.identity x ts us
put_identity (g.bare x b a e) ts us h =
    let v0 = put_name x (tk.token a (sign_of (part.bind_sign b)) ∷ (spell e (ts))) us h in
    let v1 = one_token a (sign_of (part.bind_sign b)) (spell e (ts)) v0.rest v0.looks_same in
    let v2 = put e ts v1.rest v1.looks_same in
    record { again = g.bare v0.again b v1.again v2.again; rest = v2.rest; tokens = ap (λ (w' : List Token). part.name v0.again (w')) (ap (λ (w' : List Token). tk.token v1.again (sign_of (part.bind_sign b)) ∷ w') (v2.tokens) ∙ v1.tokens) ∙ v0.tokens; same = λ z. g.bare (v0.same z) b (v1.same z) (v2.same z); looks_same = v2.looks_same }
put_identity (g.bracketed q x b a e r) ts us h =
    let v0 = one_token q (tk.mark tk.open_bracket) (part.name x ((tk.token a (sign_of (part.bind_sign b)) ∷ (spell e ((tk.token r (tk.mark tk.close_bracket) ∷ ts)))))) us h in
    let v1 = put_name x (tk.token a (sign_of (part.bind_sign b)) ∷ (spell e ((tk.token r (tk.mark tk.close_bracket) ∷ ts)))) v0.rest v0.looks_same in
    let v2 = one_token a (sign_of (part.bind_sign b)) (spell e ((tk.token r (tk.mark tk.close_bracket) ∷ ts))) v1.rest v1.looks_same in
    let v3 = put e (tk.token r (tk.mark tk.close_bracket) ∷ ts) v2.rest v2.looks_same in
    let v4 = one_token r (tk.mark tk.close_bracket) ts v3.rest v3.looks_same in
    record { again = g.bracketed v0.again v1.again b v2.again v3.again v4.again; rest = v4.rest; tokens = ap (λ (w' : List Token). tk.token v0.again (tk.mark tk.open_bracket) ∷ w') (ap (λ (w' : List Token). part.name v1.again (w')) (ap (λ (w' : List Token). tk.token v2.again (sign_of (part.bind_sign b)) ∷ w') (ap (λ (w' : List Token). spell v3.again (w')) (v4.tokens) ∙ v3.tokens) ∙ v2.tokens) ∙ v1.tokens) ∙ v0.tokens; same = λ z. g.bracketed (v0.same z) (v1.same z) b (v2.same z) (v3.same z) (v4.same z); looks_same = v4.looks_same }

put_process : (x : g.Process) (ts us : List Token) → looks us ≡ looks (g.process x ts) → Put g.Process process_lineless g.process x ts us
put_process x ts us h =
    let v0 = put_fair x.fair (tk.token x.place (tk.reserved (codes "process")) ∷ (g.identity x.identity ((part.section_tokens x.variables ((g.body (codes "process") x.body (ts))))))) us h in
    let v1 = one_token x.place (tk.reserved (codes "process")) (g.identity x.identity ((part.section_tokens x.variables ((g.body (codes "process") x.body (ts)))))) v0.rest v0.looks_same in
    let v2 = put_identity x.identity (part.section_tokens x.variables ((g.body (codes "process") x.body (ts)))) v1.rest v1.looks_same in
    let v3 = put_section x.variables (g.body (codes "process") x.body (ts)) v2.rest v2.looks_same in
    let v4 = put_body (codes "process") x.body ts v3.rest v3.looks_same in
    record { again = record { fair = v0.again; place = v1.again; identity = v2.again; variables = v3.again; body = v4.again }; rest = v4.rest; tokens = ap (λ (w' : List Token). g.fair v0.again (w')) (ap (λ (w' : List Token). tk.token v1.again (tk.reserved (codes "process")) ∷ w') (ap (λ (w' : List Token). g.identity v2.again (w')) (ap (λ (w' : List Token). part.section_tokens v3.again (w')) (v4.tokens) ∙ v3.tokens) ∙ v2.tokens) ∙ v1.tokens) ∙ v0.tokens; same = λ z. record { fair = v0.same z; place = v1.same z; identity = v2.same z; variables = v3.same z; body = v4.same z }; looks_same = v4.looks_same }

put_head : (x : g.Head) (ts us : List Token) → looks us ≡ looks (g.head x ts) → Put g.Head head_lineless g.head x ts us
put_head (g.algorithm a) ts us h =
    let v0 = one_token a (tk.word (codes "--algorithm")) ts us h in
    record { again = g.algorithm v0.again; rest = v0.rest; tokens = v0.tokens; same = λ z. g.algorithm (v0.same z); looks_same = v0.looks_same }
put_head (g.fair_algorithm a b) ts us h =
    let v0 = one_token a (tk.word (codes "--fair")) (tk.token b (tk.reserved (codes "algorithm")) ∷ ts) us h in
    let v1 = one_token b (tk.reserved (codes "algorithm")) ts v0.rest v0.looks_same in
    record { again = g.fair_algorithm v0.again v1.again; rest = v1.rest; tokens = ap (λ (w' : List Token). tk.token v0.again (tk.word (codes "--fair")) ∷ w') (v1.tokens) ∙ v0.tokens; same = λ z. g.fair_algorithm (v0.same z) (v1.same z); looks_same = v1.looks_same }

put_define : (x : g.Define) (ts us : List Token) → looks us ≡ looks (g.define x ts) → Put g.Define define_lineless g.define x ts us
put_define g.no_define ts us h = record { again = g.no_define; rest = us; tokens = refl; same = refl; looks_same = h }
put_define (g.define_end a ds b d s) ts us h =
    let v0 = one_token a (tk.reserved (codes "define")) (part.definitions ds ((tk.token b (tk.reserved (codes "end")) ∷ (tk.token d (tk.reserved (codes "define")) ∷ (part.maybe_semicolon s (ts)))))) us h in
    let v1 = put_definitions ds (tk.token b (tk.reserved (codes "end")) ∷ (tk.token d (tk.reserved (codes "define")) ∷ (part.maybe_semicolon s (ts)))) v0.rest v0.looks_same in
    let v2 = one_token b (tk.reserved (codes "end")) (tk.token d (tk.reserved (codes "define")) ∷ (part.maybe_semicolon s (ts))) v1.rest v1.looks_same in
    let v3 = one_token d (tk.reserved (codes "define")) (part.maybe_semicolon s (ts)) v2.rest v2.looks_same in
    let v4 = put_maybe_semicolon s ts v3.rest v3.looks_same in
    record { again = g.define_end v0.again v1.again v2.again v3.again v4.again; rest = v4.rest; tokens = ap (λ (w' : List Token). tk.token v0.again (tk.reserved (codes "define")) ∷ w') (ap (λ (w' : List Token). part.definitions v1.again (w')) (ap (λ (w' : List Token). tk.token v2.again (tk.reserved (codes "end")) ∷ w') (ap (λ (w' : List Token). tk.token v3.again (tk.reserved (codes "define")) ∷ w') (v4.tokens) ∙ v3.tokens) ∙ v2.tokens) ∙ v1.tokens) ∙ v0.tokens; same = λ z. g.define_end (v0.same z) (v1.same z) (v2.same z) (v3.same z) (v4.same z); looks_same = v4.looks_same }
put_define (g.define_braces a b ds d s) ts us h =
    let v0 = one_token a (tk.reserved (codes "define")) (tk.token b (tk.mark tk.open_brace) ∷ (part.definitions ds ((tk.token d (tk.mark tk.close_brace) ∷ (part.maybe_semicolon s (ts)))))) us h in
    let v1 = one_token b (tk.mark tk.open_brace) (part.definitions ds ((tk.token d (tk.mark tk.close_brace) ∷ (part.maybe_semicolon s (ts))))) v0.rest v0.looks_same in
    let v2 = put_definitions ds (tk.token d (tk.mark tk.close_brace) ∷ (part.maybe_semicolon s (ts))) v1.rest v1.looks_same in
    let v3 = one_token d (tk.mark tk.close_brace) (part.maybe_semicolon s (ts)) v2.rest v2.looks_same in
    let v4 = put_maybe_semicolon s ts v3.rest v3.looks_same in
    record { again = g.define_braces v0.again v1.again v2.again v3.again v4.again; rest = v4.rest; tokens = ap (λ (w' : List Token). tk.token v0.again (tk.reserved (codes "define")) ∷ w') (ap (λ (w' : List Token). tk.token v1.again (tk.mark tk.open_brace) ∷ w') (ap (λ (w' : List Token). part.definitions v2.again (w')) (ap (λ (w' : List Token). tk.token v3.again (tk.mark tk.close_brace) ∷ w') (v4.tokens) ∙ v3.tokens) ∙ v2.tokens) ∙ v1.tokens) ∙ v0.tokens; same = λ z. g.define_braces (v0.same z) (v1.same z) (v2.same z) (v3.same z) (v4.same z); looks_same = v4.looks_same }

put_main : (x : g.Main) (ts us : List Token) → looks us ≡ looks (g.main x ts) → Put g.Main main_lineless g.main x ts us
put_main (g.begin a ss) ts us h =
    let v0 = one_token a (tk.reserved (codes "begin")) (psyntax.sequence ss (ts)) us h in
    let v1 = put_p_sequence ss ts v0.rest v0.looks_same in
    record { again = g.begin v0.again v1.again; rest = v1.rest; tokens = ap (λ (w' : List Token). tk.token v0.again (tk.reserved (codes "begin")) ∷ w') (v1.tokens) ∙ v0.tokens; same = λ z. g.begin (v0.same z) (v1.same z); looks_same = v1.looks_same }
put_main (g.block a ss b s) ts us h =
    let v0 = one_token a (tk.mark tk.open_brace) (csyntax.sequence ss ((tk.token b (tk.mark tk.close_brace) ∷ (part.maybe_semicolon s (ts))))) us h in
    let v1 = put_c_sequence ss (tk.token b (tk.mark tk.close_brace) ∷ (part.maybe_semicolon s (ts))) v0.rest v0.looks_same in
    let v2 = one_token b (tk.mark tk.close_brace) (part.maybe_semicolon s (ts)) v1.rest v1.looks_same in
    let v3 = put_maybe_semicolon s ts v2.rest v2.looks_same in
    record { again = g.block v0.again v1.again v2.again v3.again; rest = v3.rest; tokens = ap (λ (w' : List Token). tk.token v0.again (tk.mark tk.open_brace) ∷ w') (ap (λ (w' : List Token). csyntax.sequence v1.again (w')) (ap (λ (w' : List Token). tk.token v2.again (tk.mark tk.close_brace) ∷ w') (v3.tokens) ∙ v2.tokens) ∙ v1.tokens) ∙ v0.tokens; same = λ z. g.block (v0.same z) (v1.same z) (v2.same z) (v3.same z); looks_same = v3.looks_same }
put_main (g.processes x xs) ts us h =
    let v0 = put_process x (g.each g.process xs (ts)) us h in
    let v1 = put_list process_lineless g.process put_process xs ts v0.rest v0.looks_same in
    record { again = g.processes v0.again v1.again; rest = v1.rest; tokens = ap (λ (w' : List Token). g.process v0.again (w')) (v1.tokens) ∙ v0.tokens; same = λ z. g.processes (v0.same z) (v1.same z); looks_same = v1.looks_same }

abbrev around_set : g.Around → g.Text → g.Text
around_set r x = record { head = x.head; name = x.name; around = r; variables = x.variables; define = x.define; macros = x.macros; procedures = x.procedures; main = x.main }

put_around : (r : g.Around) (x : g.Text) (ts us : List Token) → looks us ≡ looks (g.spell (around_set r x) ts) → Put g.Text text_lineless g.spell (around_set r x) ts us
put_around (g.to_end a b) x ts us h =
    let v0 = put_head x.head (part.name x.name ((part.section_tokens x.variables ((g.define x.define ((g.each g.macro x.macros ((g.each g.procedure x.procedures ((g.main x.main ((tk.token a (tk.reserved (codes "end")) ∷ (tk.token b (tk.reserved (codes "algorithm")) ∷ ts)))))))))))))) us h in
    let v1 = put_name x.name (part.section_tokens x.variables ((g.define x.define ((g.each g.macro x.macros ((g.each g.procedure x.procedures ((g.main x.main ((tk.token a (tk.reserved (codes "end")) ∷ (tk.token b (tk.reserved (codes "algorithm")) ∷ ts)))))))))))) v0.rest v0.looks_same in
    let v2 = put_section x.variables (g.define x.define ((g.each g.macro x.macros ((g.each g.procedure x.procedures ((g.main x.main ((tk.token a (tk.reserved (codes "end")) ∷ (tk.token b (tk.reserved (codes "algorithm")) ∷ ts)))))))))) v1.rest v1.looks_same in
    let v3 = put_define x.define (g.each g.macro x.macros ((g.each g.procedure x.procedures ((g.main x.main ((tk.token a (tk.reserved (codes "end")) ∷ (tk.token b (tk.reserved (codes "algorithm")) ∷ ts)))))))) v2.rest v2.looks_same in
    let v4 = put_list macro_lineless g.macro put_macro x.macros (g.each g.procedure x.procedures ((g.main x.main ((tk.token a (tk.reserved (codes "end")) ∷ (tk.token b (tk.reserved (codes "algorithm")) ∷ ts)))))) v3.rest v3.looks_same in
    let v5 = put_list procedure_lineless g.procedure put_procedure x.procedures (g.main x.main ((tk.token a (tk.reserved (codes "end")) ∷ (tk.token b (tk.reserved (codes "algorithm")) ∷ ts)))) v4.rest v4.looks_same in
    let v6 = put_main x.main (tk.token a (tk.reserved (codes "end")) ∷ (tk.token b (tk.reserved (codes "algorithm")) ∷ ts)) v5.rest v5.looks_same in
    let v7 = one_token a (tk.reserved (codes "end")) (tk.token b (tk.reserved (codes "algorithm")) ∷ ts) v6.rest v6.looks_same in
    let v8 = one_token b (tk.reserved (codes "algorithm")) ts v7.rest v7.looks_same in
    record { again = record { head = v0.again; name = v1.again; around = g.to_end v7.again v8.again; variables = v2.again; define = v3.again; macros = v4.again; procedures = v5.again; main = v6.again }; rest = v8.rest; tokens = ap (λ (w' : List Token). g.head v0.again (w')) (ap (λ (w' : List Token). part.name v1.again (w')) (ap (λ (w' : List Token). part.section_tokens v2.again (w')) (ap (λ (w' : List Token). g.define v3.again (w')) (ap (λ (w' : List Token). g.each g.macro v4.again (w')) (ap (λ (w' : List Token). g.each g.procedure v5.again (w')) (ap (λ (w' : List Token). g.main v6.again (w')) (ap (λ (w' : List Token). tk.token v7.again (tk.reserved (codes "end")) ∷ w') (v8.tokens) ∙ v7.tokens) ∙ v6.tokens) ∙ v5.tokens) ∙ v4.tokens) ∙ v3.tokens) ∙ v2.tokens) ∙ v1.tokens) ∙ v0.tokens; same = λ z. record { head = v0.same z; name = v1.same z; around = g.to_end (v7.same z) (v8.same z); variables = v2.same z; define = v3.same z; macros = v4.same z; procedures = v5.same z; main = v6.same z }; looks_same = v8.looks_same }
put_around (g.in_braces a b) x ts us h =
    let v0 = put_head x.head (part.name x.name ((tk.token a (tk.mark tk.open_brace) ∷ (part.section_tokens x.variables ((g.define x.define ((g.each g.macro x.macros ((g.each g.procedure x.procedures ((g.main x.main ((tk.token b (tk.mark tk.close_brace) ∷ ts)))))))))))))) us h in
    let v1 = put_name x.name (tk.token a (tk.mark tk.open_brace) ∷ (part.section_tokens x.variables ((g.define x.define ((g.each g.macro x.macros ((g.each g.procedure x.procedures ((g.main x.main ((tk.token b (tk.mark tk.close_brace) ∷ ts)))))))))))) v0.rest v0.looks_same in
    let v2 = one_token a (tk.mark tk.open_brace) (part.section_tokens x.variables ((g.define x.define ((g.each g.macro x.macros ((g.each g.procedure x.procedures ((g.main x.main ((tk.token b (tk.mark tk.close_brace) ∷ ts))))))))))) v1.rest v1.looks_same in
    let v3 = put_section x.variables (g.define x.define ((g.each g.macro x.macros ((g.each g.procedure x.procedures ((g.main x.main ((tk.token b (tk.mark tk.close_brace) ∷ ts))))))))) v2.rest v2.looks_same in
    let v4 = put_define x.define (g.each g.macro x.macros ((g.each g.procedure x.procedures ((g.main x.main ((tk.token b (tk.mark tk.close_brace) ∷ ts))))))) v3.rest v3.looks_same in
    let v5 = put_list macro_lineless g.macro put_macro x.macros (g.each g.procedure x.procedures ((g.main x.main ((tk.token b (tk.mark tk.close_brace) ∷ ts))))) v4.rest v4.looks_same in
    let v6 = put_list procedure_lineless g.procedure put_procedure x.procedures (g.main x.main ((tk.token b (tk.mark tk.close_brace) ∷ ts))) v5.rest v5.looks_same in
    let v7 = put_main x.main (tk.token b (tk.mark tk.close_brace) ∷ ts) v6.rest v6.looks_same in
    let v8 = one_token b (tk.mark tk.close_brace) ts v7.rest v7.looks_same in
    record { again = record { head = v0.again; name = v1.again; around = g.in_braces v2.again v8.again; variables = v3.again; define = v4.again; macros = v5.again; procedures = v6.again; main = v7.again }; rest = v8.rest; tokens = ap (λ (w' : List Token). g.head v0.again (w')) (ap (λ (w' : List Token). part.name v1.again (w')) (ap (λ (w' : List Token). tk.token v2.again (tk.mark tk.open_brace) ∷ w') (ap (λ (w' : List Token). part.section_tokens v3.again (w')) (ap (λ (w' : List Token). g.define v4.again (w')) (ap (λ (w' : List Token). g.each g.macro v5.again (w')) (ap (λ (w' : List Token). g.each g.procedure v6.again (w')) (ap (λ (w' : List Token). g.main v7.again (w')) (v8.tokens) ∙ v7.tokens) ∙ v6.tokens) ∙ v5.tokens) ∙ v4.tokens) ∙ v3.tokens) ∙ v2.tokens) ∙ v1.tokens) ∙ v0.tokens; same = λ z. record { head = v0.same z; name = v1.same z; around = g.in_braces (v2.same z) (v8.same z); variables = v3.same z; define = v4.same z; macros = v5.same z; procedures = v6.same z; main = v7.same z }; looks_same = v8.looks_same }

pub put_text : (x : g.Text) (ts us : List Token) → looks us ≡ looks (g.spell x ts) → Put g.Text text_lineless g.spell x ts us
put_text x ts us h = put_around x.around x ts us h
