-- Reading an algorithm goes through the lists of statements in it: where one begins, reading goes on from the first state of that list.
use Rattle.std.proofs.Common.{◌≡◌, ℕ, suc, true, false, List, [], ◌∷◌, ◌++◌, Ok, refl, sym, ap, ◌∙◌, append_assoc, codes}
use Rattle.tla_token.specs.declared.place.Place.{Place}
use Rattle.tla_tree.specs.Tree.{Name}
use Rattle.tla_tree.specs.Lexical.{Token}
use Rattle.tla_tree.specs.Reader.{Out, Reader, ◌>>=◌, gives, then_read}
use Rattle.pcal_tree.specs.GrammarParts.{name, key, no_labels, Section, MacroParameters, ProcedureParameters}
use Rattle.pcal_tree.specs.Grammar.{Body, Macro, Procedure, Fair, unfair, weak, strong, fair, Identity, Process, Main, processes, Text}
use Rattle.syntax_reading.specs.TokenReaders.{a_name, Parts}
use Rattle.syntax_reading.specs.ReadParts.{read_section, read_macro_parameters, read_procedure_parameters}
use Rattle.syntax_reading.specs.ReadAround.{read_head}
use Rattle.syntax_reading.specs.ReadRoutines.{read_process, read_define, read_macros, read_procedures, read_processes}
use Rattle.syntax_reading.specs.Owners.{in_macro, in_procedure, in_process, main_of}
use Rattle.syntax_reading.proofs.OneAfter.{then_assoc, then_same, more_then, made_then, main_moved}
use Rattle.p_reading.specs.ReadStatements.{State, none, bottom}
use Rattle.p_reading.specs.ReadStatements as machine
use Rattle.p_reading.specs.ReadAlgorithm.{ways, read_identity, read_text}
use Rattle.p_reading.specs.Resume.{Front, finish, body_from, main_from, procedures_from, macros_from, processes_from, text_from, resume}

abbrev first_state : State
first_state = machine.begin none no_labels bottom

-- ---- where a list begins
module _ (m : Parts) (k j : ℕ) (f : Front) where
  pub macro_resumed : (ns : List Macro) (p : Place) (x : Name) (xs : MacroParameters) (a : Place) (ts us : List Token) → read_macro_parameters j ts ≡ Ok (xs, key a (codes "begin") us)
      → macros_from m k (suc j) f ns (key p (codes "macro") (name x ts)) ≡ resume m k j j f (in_macro ns p x xs a) first_state us
  macro_resumed ns p x xs a ts us e =
      (let make : Body → Macro = λ b. record { place = p; name = x; parameters = xs; body = b } in
      let rs = read_macros (ways m) j in
      let go : List Macro → Reader Text = λ ms. procedures_from m k k f (ns ++ ms) [] in
      let o = body_from m j a (codes "macro") first_state us in
      ap (λ (z : Out MacroParameters). then_read (then_read (then_read z (λ ps. (ways m).body j (codes "macro") >>= λ b. gives (record { place = p; name = x; parameters = ps; body = b }))) (λ y. rs >>= λ ys. gives (y ∷ ys))) go) e
      ∙ more_then (then_read o (λ b. gives (make b))) rs go
      ∙ made_then o make (λ y. rs >>= λ ys. go (y ∷ ys))
      ∙ then_same o _ _ (λ b vs. then_same (rs vs) _ _ (λ ms ws. ap (λ (ls : List Macro). procedures_from m k k f ls [] ws) (sym (append_assoc ns (make b ∷ []) ms)))))

  pub procedure_resumed : (ms : List Macro) (qs : List Procedure) (p : Place) (x : Name) (xs : ProcedureParameters) (vs : Section) (a : Place) (ts us ws : List Token) → read_procedure_parameters m j ts ≡ Ok (xs, us) → read_section false m j us ≡ Ok (vs, key a (codes "begin") ws)
      → procedures_from m (suc j) k f ms qs (key p (codes "procedure") (name x ts)) ≡ resume m k j j f (in_procedure ms qs p x xs vs a) first_state ws
  procedure_resumed ms qs p x xs vs a ts us ws e i =
      (let make : Body → Procedure = λ b. record { place = p; name = x; parameters = xs; variables = vs; body = b } in
      let rs = read_procedures m (ways m) j in
      let go : List Procedure → Reader Text = λ ps. main_from m k f ms (qs ++ ps) in
      let o = body_from m j a (codes "procedure") first_state ws in
      ap (λ (z : Out ProcedureParameters). then_read (then_read (then_read z (λ ys. read_section false m j >>= λ zs. (ways m).body j (codes "procedure") >>= λ b. gives (record { place = p; name = x; parameters = ys; variables = zs; body = b }))) (λ y. rs >>= λ ys. gives (y ∷ ys))) go) e
      ∙ ap (λ (z : Out Section). then_read (then_read (then_read z (λ zs. (ways m).body j (codes "procedure") >>= λ b. gives (record { place = p; name = x; parameters = xs; variables = zs; body = b }))) (λ y. rs >>= λ ys. gives (y ∷ ys))) go) i
      ∙ more_then (then_read o (λ b. gives (make b))) rs go
      ∙ made_then o make (λ y. rs >>= λ ys. go (y ∷ ys))
      ∙ then_same o _ _ (λ b vs. then_same (rs vs) _ _ (λ ps zs. ap (λ (ls : List Procedure). main_from m k f ms ls zs) (sym (append_assoc qs (make b ∷ []) ps)))))

  -- a process after its words
  abbrev process_read : ℕ → Fair → Place → List Token → Out Process
  process_read n q p ts = read_process m (ways m) n q p ts

  first_words : (ms : List Macro) (ps : List Procedure) (q : Fair) (p : Place) (ts : List Token) → main_from m j f ms ps (fair q (key p (codes "process") ts)) ≡ then_read (then_read (process_read j q p ts) (λ x. read_processes m (ways m) j >>= λ xs. gives (processes x xs))) (finish f ms ps)
  first_words ms ps unfair p ts = refl
  first_words ms ps (weak o) p ts = refl
  first_words ms ps (strong o c) p ts = refl

  pub first_process_resumed : (ms : List Macro) (ps : List Procedure) (q : Fair) (p : Place) (i : Identity) (vs : Section) (a : Place) (ts us ws : List Token) → read_identity m ts ≡ Ok (i, us) → read_section true m j us ≡ Ok (vs, key a (codes "begin") ws)
      → main_from m j f ms ps (fair q (key p (codes "process") ts)) ≡ resume m k j j f (in_process ms ps [] q p i vs a) first_state ws
  first_process_resumed ms ps q p i vs a ts us ws e d =
      (let make : Body → Process = λ b. record { fair = q; place = p; identity = i; variables = vs; body = b } in
      let rs = read_processes m (ways m) j in
      let all : Process → Reader Main = λ x. rs >>= λ xs. gives (processes x xs) in
      let go = finish f ms ps in
      let o = body_from m j a (codes "process") first_state ws in
      first_words ms ps q p ts
      ∙ ap (λ (z : Out Identity). then_read (then_read (then_read z (λ y. read_section true m j >>= λ zs. (ways m).body j (codes "process") >>= λ b. gives (record { fair = q; place = p; identity = y; variables = zs; body = b }))) all) go) e
      ∙ ap (λ (z : Out Section). then_read (then_read (then_read z (λ zs. (ways m).body j (codes "process") >>= λ b. gives (record { fair = q; place = p; identity = i; variables = zs; body = b }))) all) go) d
      ∙ ap (λ (z : Out Main). then_read z go) (made_then o make all)
      ∙ then_assoc o (λ b. all (make b)) go
      ∙ then_same o _ _ (λ b zs. then_assoc (rs zs) (λ xs. gives (processes (make b) xs)) go))

  next_words : (ms : List Macro) (ps : List Procedure) (ys : List Process) (x : Process) (q : Fair) (p : Place) (ts : List Token)
      → processes_from m (suc j) f ms ps ys x (fair q (key p (codes "process") ts)) ≡ then_read (then_read (process_read j q p ts) (λ y. read_processes m (ways m) j >>= λ xs. gives (y ∷ xs))) (λ xs. finish f ms ps (main_of ys x xs))
  next_words ms ps ys x unfair p ts = refl
  next_words ms ps ys x (weak o) p ts = refl
  next_words ms ps ys x (strong o c) p ts = refl

  pub next_process_resumed : (ms : List Macro) (ps : List Procedure) (ys : List Process) (x : Process) (q : Fair) (p : Place) (i : Identity) (vs : Section) (a : Place) (ts us ws : List Token) → read_identity m ts ≡ Ok (i, us) → read_section true m j us ≡ Ok (vs, key a (codes "begin") ws)
      → processes_from m (suc j) f ms ps ys x (fair q (key p (codes "process") ts)) ≡ resume m k j j f (in_process ms ps (ys ++ x ∷ []) q p i vs a) first_state ws
  next_process_resumed ms ps ys x q p i vs a ts us ws e d =
      (let make : Body → Process = λ b. record { fair = q; place = p; identity = i; variables = vs; body = b } in
      let rs = read_processes m (ways m) j in
      let go : List Process → Reader Text = λ xs. finish f ms ps (main_of ys x xs) in
      let o = body_from m j a (codes "process") first_state ws in
      next_words ms ps ys x q p ts
      ∙ ap (λ (z : Out Identity). then_read (then_read (then_read z (λ y. read_section true m j >>= λ zs. (ways m).body j (codes "process") >>= λ b. gives (record { fair = q; place = p; identity = y; variables = zs; body = b }))) (λ y. rs >>= λ xs. gives (y ∷ xs))) go) e
      ∙ ap (λ (z : Out Section). then_read (then_read (then_read z (λ zs. (ways m).body j (codes "process") >>= λ b. gives (record { fair = q; place = p; identity = i; variables = zs; body = b }))) (λ y. rs >>= λ xs. gives (y ∷ xs))) go) d
      ∙ more_then (then_read o (λ b. gives (make b))) rs go
      ∙ made_then o make (λ y. rs >>= λ xs. go (y ∷ xs))
      ∙ then_same o _ _ (λ b zs. then_same (rs zs) _ _ (λ xs ls. ap (λ (c : Main). finish f ms ps c ls) (main_moved ys x (make b) xs))))

-- ---- from the first token on
pub text_resumed : (m : Parts) (n : ℕ) (ts : List Token) → read_text m n ts ≡ text_from m n ts
text_resumed m n ts =
    sym (then_assoc (read_head ts) _ _ ∙ then_same (read_head ts) _ _ (λ h us. then_assoc (a_name us) _ _ ∙ then_same (a_name us) _ _ (λ x vs. then_assoc (read_section true m n vs) _ _ ∙ then_same (read_section true m n vs) _ _ (λ s ws.
    then_assoc (read_define (ways m) n ws) _ _ ∙ then_same (read_define (ways m) n ws) _ _ (λ d zs. refl)))))
