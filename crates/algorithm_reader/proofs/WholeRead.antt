-- A whole algorithm is read part by part.
use Rattle.std.proofs.Common.{◌≡◌, ℕ, true, List, Ok, sym, ap, subst, ◌∙◌}
use Rattle.tla_token.specs.declared.place.Place.{Place}
use Rattle.tla_token.specs.declared.token.Tokens.{Tokens}
use Rattle.tla_tree.specs.Tree.{Name}
use Rattle.tla_tree.specs.Lexical.{Token}
use Rattle.tla_tree.specs.Reader.{Out, Reader, ◌>>=◌, then_read, gives}
use Rattle.expr_nodes.specs.declared.cursor.Halt.{Halt}
use Rattle.expr_nodes.specs.ReadIn.{Reads, Fails}
use Rattle.expr_nodes.specs.Ahead.{ahead}
use Rattle.pcal_tree.specs.GrammarParts.{Section}
use Rattle.pcal_tree.specs.Grammar.{Head, Define, Macro, Procedure, Main, Around, Text}
use Rattle.syntax_reading.specs.TokenReaders.{a_name, Parts}
use Rattle.syntax_reading.specs.ReadParts.{read_section}
use Rattle.syntax_reading.specs.ReadAround.{read_head}
use Rattle.syntax_reading.specs.ReadRoutines.{Ways, read_macros, read_procedures, read_define}
use Rattle.algorithm_reader.proofs.Gathered.{fails_then}
use Rattle.syntax_reading.specs.ReadWhole.{Frames, read_whole}

abbrev made : Head → Name → Section → Define → List Macro → List Procedure → Main → Around → Text
made h x vs d ms ps b a = record { head = h; name = x; around = a; variables = vs; define = d; macros = ms; procedures = ps; main = b }

-- one part more was read, or it is refused
went_on : {A B : Type 0} (o : Out B) (r : Reader A) (g : A → Reader B) (ts us : List Token) (a : A) → o ≡ then_read (r ts) g → r ts ≡ Ok (a, us) → o ≡ g a us
went_on {A} o r g ts us a e h = e ∙ ap (λ (q : Out A). then_read q g) h

stopped : {A B : Type 0} (o : Out B) (q : Out A) (g : A → Reader B) (e : Halt) → o ≡ then_read q g → Fails e q → Fails e o
stopped o q g e h f = subst (Fails e) (sym h) (fails_then e q g f)

-- ---- what is still to be read behind each part
module _ (m : Parts) (f : Ways) (g : Frames) (n : ℕ) where
  abbrev behind_main : Head → Name → Place → Section → Define → List Macro → List Procedure → Main → Reader Text
  behind_main h x e vs d ms ps b = g.closing e >>= λ a. gives (made h x vs d ms ps b a)

  abbrev behind_procedures : Head → Name → Place → Section → Define → List Macro → List Procedure → Reader Text
  behind_procedures h x e vs d ms ps = g.main n >>= behind_main h x e vs d ms ps

  abbrev behind_macros : Head → Name → Place → Section → Define → List Macro → Reader Text
  behind_macros h x e vs d ms = read_procedures m f n >>= behind_procedures h x e vs d ms

  abbrev behind_define : Head → Name → Place → Section → Define → Reader Text
  behind_define h x e vs d = read_macros f n >>= behind_macros h x e vs d

  abbrev behind_variables : Head → Name → Place → Section → Reader Text
  behind_variables h x e vs = read_define f n >>= behind_define h x e vs

  abbrev behind_opening : Head → Name → Place → Reader Text
  behind_opening h x e = read_section true m n >>= behind_variables h x e

  abbrev behind_name : Head → Name → Reader Text
  behind_name h x = g.opening >>= behind_opening h x

  abbrev behind_head : Head → Reader Text
  behind_head h = a_name >>= behind_name h

  -- past each of them, or where one is refused
  module _ (o : Out Text) (v : Tokens) (i j : ℕ) where
    pub head_passed : {P : Head → Type 0} → o ≡ read_whole m f g n (ahead v i) → (r : Reads P (ahead v j) (read_head (ahead v i))) → o ≡ behind_head r.what (ahead v j)
    head_passed e r = went_on o read_head behind_head (ahead v i) (ahead v j) _ e r.is

    pub no_head : (e : Halt) → o ≡ read_whole m f g n (ahead v i) → Fails e (read_head (ahead v i)) → Fails e o
    no_head e h k = stopped o (read_head (ahead v i)) behind_head e h k

    module _ (h : Head) where
      pub name_passed : (x : Name) → o ≡ behind_head h (ahead v i) → a_name (ahead v i) ≡ Ok (x, ahead v j) → o ≡ behind_name h x (ahead v j)
      name_passed x e r = went_on o a_name (behind_name h) (ahead v i) (ahead v j) _ e r

      pub no_name : (e : Halt) → o ≡ behind_head h (ahead v i) → Fails e (a_name (ahead v i)) → Fails e o
      no_name e k l = stopped o (a_name (ahead v i)) (behind_name h) e k l

      module _ (x : Name) where
        pub opening_passed : {P : Place → Type 0} → o ≡ behind_name h x (ahead v i) → (r : Reads P (ahead v j) (g.opening (ahead v i))) → o ≡ behind_opening h x r.what (ahead v j)
        opening_passed e r = went_on o g.opening (behind_opening h x) (ahead v i) (ahead v j) _ e r.is

        pub no_opening : (e : Halt) → o ≡ behind_name h x (ahead v i) → Fails e (g.opening (ahead v i)) → Fails e o
        no_opening e k l = stopped o (g.opening (ahead v i)) (behind_opening h x) e k l

        module _ (p : Place) where
          pub variables_passed : {P : Section → Type 0} → o ≡ behind_opening h x p (ahead v i) → (r : Reads P (ahead v j) (read_section true m n (ahead v i))) → o ≡ behind_variables h x p r.what (ahead v j)
          variables_passed e r = went_on o (read_section true m n) (behind_variables h x p) (ahead v i) (ahead v j) _ e r.is

          pub no_variables : (e : Halt) → o ≡ behind_opening h x p (ahead v i) → Fails e (read_section true m n (ahead v i)) → Fails e o
          no_variables e k l = stopped o (read_section true m n (ahead v i)) (behind_variables h x p) e k l

          module _ (vs : Section) where
            pub define_passed : {P : Define → Type 0} → o ≡ behind_variables h x p vs (ahead v i) → (r : Reads P (ahead v j) (read_define f n (ahead v i))) → o ≡ behind_define h x p vs r.what (ahead v j)
            define_passed e r = went_on o (read_define f n) (behind_define h x p vs) (ahead v i) (ahead v j) _ e r.is

            pub no_define_there : (e : Halt) → o ≡ behind_variables h x p vs (ahead v i) → Fails e (read_define f n (ahead v i)) → Fails e o
            no_define_there e k l = stopped o (read_define f n (ahead v i)) (behind_define h x p vs) e k l

            module _ (d : Define) where
              pub macros_passed : {P : List Macro → Type 0} → o ≡ behind_define h x p vs d (ahead v i) → (r : Reads P (ahead v j) (read_macros f n (ahead v i))) → o ≡ behind_macros h x p vs d r.what (ahead v j)
              macros_passed e r = went_on o (read_macros f n) (behind_macros h x p vs d) (ahead v i) (ahead v j) _ e r.is

              pub no_macros : (e : Halt) → o ≡ behind_define h x p vs d (ahead v i) → Fails e (read_macros f n (ahead v i)) → Fails e o
              no_macros e k l = stopped o (read_macros f n (ahead v i)) (behind_macros h x p vs d) e k l

              module _ (ms : List Macro) where
                pub procedures_passed : {P : List Procedure → Type 0} → o ≡ behind_macros h x p vs d ms (ahead v i) → (r : Reads P (ahead v j) (read_procedures m f n (ahead v i))) → o ≡ behind_procedures h x p vs d ms r.what (ahead v j)
                procedures_passed e r = went_on o (read_procedures m f n) (behind_procedures h x p vs d ms) (ahead v i) (ahead v j) _ e r.is

                pub no_procedures : (e : Halt) → o ≡ behind_macros h x p vs d ms (ahead v i) → Fails e (read_procedures m f n (ahead v i)) → Fails e o
                no_procedures e k l = stopped o (read_procedures m f n (ahead v i)) (behind_procedures h x p vs d ms) e k l

                module _ (ps : List Procedure) where
                  pub main_passed : {P : Main → Type 0} → o ≡ behind_procedures h x p vs d ms ps (ahead v i) → (r : Reads P (ahead v j) (g.main n (ahead v i))) → o ≡ behind_main h x p vs d ms ps r.what (ahead v j)
                  main_passed e r = went_on o (g.main n) (behind_main h x p vs d ms ps) (ahead v i) (ahead v j) _ e r.is

                  pub no_main : (e : Halt) → o ≡ behind_procedures h x p vs d ms ps (ahead v i) → Fails e (g.main n (ahead v i)) → Fails e o
                  no_main e k l = stopped o (g.main n (ahead v i)) (behind_main h x p vs d ms ps) e k l

                  module _ (b : Main) where
                    pub closing_passed : {P : Around → Type 0} → o ≡ behind_main h x p vs d ms ps b (ahead v i) → (r : Reads P (ahead v j) (g.closing p (ahead v i))) → o ≡ Ok (made h x vs d ms ps b r.what, ahead v j)
                    closing_passed e r = went_on o (g.closing p) (λ a. gives (made h x vs d ms ps b a)) (ahead v i) (ahead v j) _ e r.is

                    pub no_closing : (e : Halt) → o ≡ behind_main h x p vs d ms ps b (ahead v i) → Fails e (g.closing p (ahead v i)) → Fails e o
                    no_closing e k l = stopped o (g.closing p (ahead v i)) (λ a. gives (made h x vs d ms ps b a)) e k l
