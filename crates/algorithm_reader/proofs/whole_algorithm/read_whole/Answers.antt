-- Proves what is asked of `read_whole`.
use Rattle.std.proofs.Common.{refl, arith}
use Rattle.std.proofs.lemmas.Result.{err_from_is_err_and}
use Rattle.expr_nodes.specs.Ahead.{ahead}
use Rattle.pcal_tree.specs.declared.algorithm.Algorithm as code
use Rattle.algorithm_reader.specs.PartsRead.{parts_in}
use Rattle.syntax_reading.specs.ReadWhole.{read_whole}
use Rattle.algorithm_reader.proofs.WholeRead.{head_passed, name_passed, opening_passed, variables_passed, define_passed, macros_passed, procedures_passed, main_passed, closing_passed, no_head, no_name, no_opening, no_variables, no_define_there, no_macros, no_procedures, no_main, no_closing}
use Rattle.algorithm_reader.proofs.TextStands.{text_stands}
use Rattle.algorithm_reader.proofs.whole_algorithm.read_whole.Goals as goal

pub returns-clause-read : goal.returns-clause-read
returns-clause-read g c n h =
    let v = c.args.tokens.now in
    let m = parts_in v in
    let f = g.W.Ways.readers m in
    let r = g.W.Frames.frames m in
    let o = read_whole m f r n (ahead v c.args.at) in
    let head = c.in_ok-fair.ensures.read in
    let e1 = head_passed m f r n o v c.args.at c.in_ok-fair.at refl head in
    let named = c.in_ok-name.ensures.value in
    let e2 = name_passed m f r n o v c.in_ok-fair.at c.in_ok-name.at head.what c.in_ok-name.name e1 named in
    let opened = c.in_ok-at.ensures.read in
    let e3 = opening_passed m f r n o v c.in_ok-name.at c.in_ok-at.at head.what c.in_ok-name.name e2 opened in
    let vars = c.in_ok-globals.ensures.read n (omega (arith, h, c.in_ok-fair.ensures.further, c.in_ok-name.ensures.further, c.in_ok-at.ensures.further)) in
    let e4 = variables_passed m f r n o v c.in_ok-at.at c.in_ok-globals.at head.what c.in_ok-name.name opened.what e3 vars in
    let defs = c.in_ok-definitions.ensures.read n (omega (arith, h, c.in_ok-fair.ensures.further, c.in_ok-name.ensures.further, c.in_ok-at.ensures.further, c.in_ok-globals.ensures.further)) in
    let e5 = define_passed m f r n o v c.in_ok-globals.at c.in_ok-definitions.at head.what c.in_ok-name.name opened.what vars.what e4 defs in
    let macros = c.in_ok-macros.ensures.read n (omega (arith, h, c.in_ok-fair.ensures.further, c.in_ok-name.ensures.further, c.in_ok-at.ensures.further, c.in_ok-globals.ensures.further, c.in_ok-definitions.ensures.further)) in
    let e6 = macros_passed m f r n o v c.in_ok-definitions.at c.in_ok-macros.at head.what c.in_ok-name.name opened.what vars.what defs.what e5 macros in
    let procs = c.in_ok-procedures.ensures.read n (omega (arith, h, c.in_ok-fair.ensures.further, c.in_ok-name.ensures.further, c.in_ok-at.ensures.further, c.in_ok-globals.ensures.further, c.in_ok-definitions.ensures.further, c.in_ok-macros.ensures.further)) in
    let e7 = procedures_passed m f r n o v c.in_ok-macros.at c.in_ok-procedures.at head.what c.in_ok-name.name opened.what vars.what defs.what macros.what e6 procs in
    let runs = c.in_ok-main.ensures.read n (omega (arith, h, c.in_ok-fair.ensures.further, c.in_ok-name.ensures.further, c.in_ok-at.ensures.further, c.in_ok-globals.ensures.further, c.in_ok-definitions.ensures.further, c.in_ok-macros.ensures.further, c.in_ok-procedures.ensures.further)) in
    let e8 = main_passed m f r n o v c.in_ok-procedures.at c.in_ok-main.at head.what c.in_ok-name.name opened.what vars.what defs.what macros.what procs.what e7 runs in
    let closed = c.in_ok-end.ensures.read opened.what in
    let e9 = closing_passed m f r n o v c.in_ok-main.at c.in_ok-end.end head.what c.in_ok-name.name opened.what vars.what defs.what macros.what procs.what runs.what e8 closed in
    let a : code.Algorithm = record { name = c.in_ok-name.name; fair = c.in_ok-fair.fair; globals = c.in_ok-globals.globals; definitions = c.in_ok-definitions.definitions; macros = c.in_ok-macros.macros; procedures = c.in_ok-procedures.procedures; main = c.in_ok-main.main } in
    record {
      what = _;
      is = e9;
      told = text_stands c.read_section.new.pool c.read_define.new.pool c.read_macros.new.pool c.read_procedures.new.pool c.main.new.pool a _ c.in_ok-definitions.ensures.kept c.in_ok-macros.ensures.kept c.in_ok-procedures.ensures.kept c.in_ok-main.ensures.kept refl head.told vars.told defs.told macros.told procs.told runs.told;
    }

pub returns-in_err-fair-clause-read : goal.returns-in_err-fair-clause-read
returns-in_err-fair-clause-read g c n h =
    let v = c.args.tokens.now in
    let m = parts_in v in
    let f = g.W.Ways.readers m in
    let r = g.W.Frames.frames m in
    let o = read_whole m f r n (ahead v c.args.at) in
    let p = err_from_is_err_and c.from_residual.result c.from_residual.ensures.1 in
    rw (p.1, p.2) (no_head m f r n o v c.args.at c.args.at c.in_err-fair.field-0.0 refl (c.in_err-fair.ensures.read))

pub returns-in_err-name-clause-read : goal.returns-in_err-name-clause-read
returns-in_err-name-clause-read g c n h =
    let v = c.args.tokens.now in
    let m = parts_in v in
    let f = g.W.Ways.readers m in
    let r = g.W.Frames.frames m in
    let o = read_whole m f r n (ahead v c.args.at) in
    let head = c.in_ok-fair.ensures.read in
    let e1 = head_passed m f r n o v c.args.at c.in_ok-fair.at refl head in
    let p = err_from_is_err_and c.from_residual-in_err-name.result c.from_residual-in_err-name.ensures.1 in
    rw (p.1, p.2) (no_name m f r n o v c.in_ok-fair.at c.in_ok-fair.at head.what c.in_err-name.field-0.0 e1 (c.in_err-name.ensures.value))

pub returns-in_err-at-clause-read : goal.returns-in_err-at-clause-read
returns-in_err-at-clause-read g c n h =
    let v = c.args.tokens.now in
    let m = parts_in v in
    let f = g.W.Ways.readers m in
    let r = g.W.Frames.frames m in
    let o = read_whole m f r n (ahead v c.args.at) in
    let head = c.in_ok-fair.ensures.read in
    let e1 = head_passed m f r n o v c.args.at c.in_ok-fair.at refl head in
    let named = c.in_ok-name.ensures.value in
    let e2 = name_passed m f r n o v c.in_ok-fair.at c.in_ok-name.at head.what c.in_ok-name.name e1 named in
    let p = err_from_is_err_and c.from_residual-in_err-at.result c.from_residual-in_err-at.ensures.1 in
    rw (p.1, p.2) (no_opening m f r n o v c.in_ok-name.at c.in_ok-name.at head.what c.in_ok-name.name c.in_err-at.field-0.0 e2 (c.in_err-at.ensures.read))

pub returns-in_err-globals-clause-read : goal.returns-in_err-globals-clause-read
returns-in_err-globals-clause-read g c n h =
    let v = c.args.tokens.now in
    let m = parts_in v in
    let f = g.W.Ways.readers m in
    let r = g.W.Frames.frames m in
    let o = read_whole m f r n (ahead v c.args.at) in
    let head = c.in_ok-fair.ensures.read in
    let e1 = head_passed m f r n o v c.args.at c.in_ok-fair.at refl head in
    let named = c.in_ok-name.ensures.value in
    let e2 = name_passed m f r n o v c.in_ok-fair.at c.in_ok-name.at head.what c.in_ok-name.name e1 named in
    let opened = c.in_ok-at.ensures.read in
    let e3 = opening_passed m f r n o v c.in_ok-name.at c.in_ok-at.at head.what c.in_ok-name.name e2 opened in
    let p = err_from_is_err_and c.from_residual-in_err-globals.result c.from_residual-in_err-globals.ensures.1 in
    rw (p.1, p.2) (no_variables m f r n o v c.in_ok-at.at c.in_ok-at.at head.what c.in_ok-name.name opened.what c.in_err-globals.field-0.0 e3 (c.in_err-globals.ensures.read n (omega (arith, h, c.in_ok-fair.ensures.further, c.in_ok-name.ensures.further, c.in_ok-at.ensures.further))))

pub returns-in_err-definitions-clause-read : goal.returns-in_err-definitions-clause-read
returns-in_err-definitions-clause-read g c n h =
    let v = c.args.tokens.now in
    let m = parts_in v in
    let f = g.W.Ways.readers m in
    let r = g.W.Frames.frames m in
    let o = read_whole m f r n (ahead v c.args.at) in
    let head = c.in_ok-fair.ensures.read in
    let e1 = head_passed m f r n o v c.args.at c.in_ok-fair.at refl head in
    let named = c.in_ok-name.ensures.value in
    let e2 = name_passed m f r n o v c.in_ok-fair.at c.in_ok-name.at head.what c.in_ok-name.name e1 named in
    let opened = c.in_ok-at.ensures.read in
    let e3 = opening_passed m f r n o v c.in_ok-name.at c.in_ok-at.at head.what c.in_ok-name.name e2 opened in
    let vars = c.in_ok-globals.ensures.read n (omega (arith, h, c.in_ok-fair.ensures.further, c.in_ok-name.ensures.further, c.in_ok-at.ensures.further)) in
    let e4 = variables_passed m f r n o v c.in_ok-at.at c.in_ok-globals.at head.what c.in_ok-name.name opened.what e3 vars in
    let p = err_from_is_err_and c.from_residual-in_err-definitions.result c.from_residual-in_err-definitions.ensures.1 in
    rw (p.1, p.2) (no_define_there m f r n o v c.in_ok-globals.at c.in_ok-globals.at head.what c.in_ok-name.name opened.what vars.what c.in_err-definitions.field-0.0 e4 (c.in_err-definitions.ensures.read n (omega (arith, h, c.in_ok-fair.ensures.further, c.in_ok-name.ensures.further, c.in_ok-at.ensures.further, c.in_ok-globals.ensures.further))))

pub returns-in_err-macros-clause-read : goal.returns-in_err-macros-clause-read
returns-in_err-macros-clause-read g c n h =
    let v = c.args.tokens.now in
    let m = parts_in v in
    let f = g.W.Ways.readers m in
    let r = g.W.Frames.frames m in
    let o = read_whole m f r n (ahead v c.args.at) in
    let head = c.in_ok-fair.ensures.read in
    let e1 = head_passed m f r n o v c.args.at c.in_ok-fair.at refl head in
    let named = c.in_ok-name.ensures.value in
    let e2 = name_passed m f r n o v c.in_ok-fair.at c.in_ok-name.at head.what c.in_ok-name.name e1 named in
    let opened = c.in_ok-at.ensures.read in
    let e3 = opening_passed m f r n o v c.in_ok-name.at c.in_ok-at.at head.what c.in_ok-name.name e2 opened in
    let vars = c.in_ok-globals.ensures.read n (omega (arith, h, c.in_ok-fair.ensures.further, c.in_ok-name.ensures.further, c.in_ok-at.ensures.further)) in
    let e4 = variables_passed m f r n o v c.in_ok-at.at c.in_ok-globals.at head.what c.in_ok-name.name opened.what e3 vars in
    let defs = c.in_ok-definitions.ensures.read n (omega (arith, h, c.in_ok-fair.ensures.further, c.in_ok-name.ensures.further, c.in_ok-at.ensures.further, c.in_ok-globals.ensures.further)) in
    let e5 = define_passed m f r n o v c.in_ok-globals.at c.in_ok-definitions.at head.what c.in_ok-name.name opened.what vars.what e4 defs in
    let p = err_from_is_err_and c.from_residual-in_err-macros.result c.from_residual-in_err-macros.ensures.1 in
    rw (p.1, p.2) (no_macros m f r n o v c.in_ok-definitions.at c.in_ok-definitions.at head.what c.in_ok-name.name opened.what vars.what defs.what c.in_err-macros.field-0.0 e5 (c.in_err-macros.ensures.read n (omega (arith, h, c.in_ok-fair.ensures.further, c.in_ok-name.ensures.further, c.in_ok-at.ensures.further, c.in_ok-globals.ensures.further, c.in_ok-definitions.ensures.further))))

pub returns-in_err-procedures-clause-read : goal.returns-in_err-procedures-clause-read
returns-in_err-procedures-clause-read g c n h =
    let v = c.args.tokens.now in
    let m = parts_in v in
    let f = g.W.Ways.readers m in
    let r = g.W.Frames.frames m in
    let o = read_whole m f r n (ahead v c.args.at) in
    let head = c.in_ok-fair.ensures.read in
    let e1 = head_passed m f r n o v c.args.at c.in_ok-fair.at refl head in
    let named = c.in_ok-name.ensures.value in
    let e2 = name_passed m f r n o v c.in_ok-fair.at c.in_ok-name.at head.what c.in_ok-name.name e1 named in
    let opened = c.in_ok-at.ensures.read in
    let e3 = opening_passed m f r n o v c.in_ok-name.at c.in_ok-at.at head.what c.in_ok-name.name e2 opened in
    let vars = c.in_ok-globals.ensures.read n (omega (arith, h, c.in_ok-fair.ensures.further, c.in_ok-name.ensures.further, c.in_ok-at.ensures.further)) in
    let e4 = variables_passed m f r n o v c.in_ok-at.at c.in_ok-globals.at head.what c.in_ok-name.name opened.what e3 vars in
    let defs = c.in_ok-definitions.ensures.read n (omega (arith, h, c.in_ok-fair.ensures.further, c.in_ok-name.ensures.further, c.in_ok-at.ensures.further, c.in_ok-globals.ensures.further)) in
    let e5 = define_passed m f r n o v c.in_ok-globals.at c.in_ok-definitions.at head.what c.in_ok-name.name opened.what vars.what e4 defs in
    let macros = c.in_ok-macros.ensures.read n (omega (arith, h, c.in_ok-fair.ensures.further, c.in_ok-name.ensures.further, c.in_ok-at.ensures.further, c.in_ok-globals.ensures.further, c.in_ok-definitions.ensures.further)) in
    let e6 = macros_passed m f r n o v c.in_ok-definitions.at c.in_ok-macros.at head.what c.in_ok-name.name opened.what vars.what defs.what e5 macros in
    let p = err_from_is_err_and c.from_residual-in_err-procedures.result c.from_residual-in_err-procedures.ensures.1 in
    rw (p.1, p.2) (no_procedures m f r n o v c.in_ok-macros.at c.in_ok-macros.at head.what c.in_ok-name.name opened.what vars.what defs.what macros.what c.in_err-procedures.field-0.0 e6 (c.in_err-procedures.ensures.read n (omega (arith, h, c.in_ok-fair.ensures.further, c.in_ok-name.ensures.further, c.in_ok-at.ensures.further, c.in_ok-globals.ensures.further, c.in_ok-definitions.ensures.further, c.in_ok-macros.ensures.further))))

pub returns-in_err-main-clause-read : goal.returns-in_err-main-clause-read
returns-in_err-main-clause-read g c n h =
    let v = c.args.tokens.now in
    let m = parts_in v in
    let f = g.W.Ways.readers m in
    let r = g.W.Frames.frames m in
    let o = read_whole m f r n (ahead v c.args.at) in
    let head = c.in_ok-fair.ensures.read in
    let e1 = head_passed m f r n o v c.args.at c.in_ok-fair.at refl head in
    let named = c.in_ok-name.ensures.value in
    let e2 = name_passed m f r n o v c.in_ok-fair.at c.in_ok-name.at head.what c.in_ok-name.name e1 named in
    let opened = c.in_ok-at.ensures.read in
    let e3 = opening_passed m f r n o v c.in_ok-name.at c.in_ok-at.at head.what c.in_ok-name.name e2 opened in
    let vars = c.in_ok-globals.ensures.read n (omega (arith, h, c.in_ok-fair.ensures.further, c.in_ok-name.ensures.further, c.in_ok-at.ensures.further)) in
    let e4 = variables_passed m f r n o v c.in_ok-at.at c.in_ok-globals.at head.what c.in_ok-name.name opened.what e3 vars in
    let defs = c.in_ok-definitions.ensures.read n (omega (arith, h, c.in_ok-fair.ensures.further, c.in_ok-name.ensures.further, c.in_ok-at.ensures.further, c.in_ok-globals.ensures.further)) in
    let e5 = define_passed m f r n o v c.in_ok-globals.at c.in_ok-definitions.at head.what c.in_ok-name.name opened.what vars.what e4 defs in
    let macros = c.in_ok-macros.ensures.read n (omega (arith, h, c.in_ok-fair.ensures.further, c.in_ok-name.ensures.further, c.in_ok-at.ensures.further, c.in_ok-globals.ensures.further, c.in_ok-definitions.ensures.further)) in
    let e6 = macros_passed m f r n o v c.in_ok-definitions.at c.in_ok-macros.at head.what c.in_ok-name.name opened.what vars.what defs.what e5 macros in
    let procs = c.in_ok-procedures.ensures.read n (omega (arith, h, c.in_ok-fair.ensures.further, c.in_ok-name.ensures.further, c.in_ok-at.ensures.further, c.in_ok-globals.ensures.further, c.in_ok-definitions.ensures.further, c.in_ok-macros.ensures.further)) in
    let e7 = procedures_passed m f r n o v c.in_ok-macros.at c.in_ok-procedures.at head.what c.in_ok-name.name opened.what vars.what defs.what macros.what e6 procs in
    let p = err_from_is_err_and c.from_residual-in_err-main.result c.from_residual-in_err-main.ensures.1 in
    rw (p.1, p.2) (no_main m f r n o v c.in_ok-procedures.at c.in_ok-procedures.at head.what c.in_ok-name.name opened.what vars.what defs.what macros.what procs.what c.in_err-main.field-0.0 e7 (c.in_err-main.ensures.read n (omega (arith, h, c.in_ok-fair.ensures.further, c.in_ok-name.ensures.further, c.in_ok-at.ensures.further, c.in_ok-globals.ensures.further, c.in_ok-definitions.ensures.further, c.in_ok-macros.ensures.further, c.in_ok-procedures.ensures.further))))

pub returns-in_err-end-clause-read : goal.returns-in_err-end-clause-read
returns-in_err-end-clause-read g c n h =
    let v = c.args.tokens.now in
    let m = parts_in v in
    let f = g.W.Ways.readers m in
    let r = g.W.Frames.frames m in
    let o = read_whole m f r n (ahead v c.args.at) in
    let head = c.in_ok-fair.ensures.read in
    let e1 = head_passed m f r n o v c.args.at c.in_ok-fair.at refl head in
    let named = c.in_ok-name.ensures.value in
    let e2 = name_passed m f r n o v c.in_ok-fair.at c.in_ok-name.at head.what c.in_ok-name.name e1 named in
    let opened = c.in_ok-at.ensures.read in
    let e3 = opening_passed m f r n o v c.in_ok-name.at c.in_ok-at.at head.what c.in_ok-name.name e2 opened in
    let vars = c.in_ok-globals.ensures.read n (omega (arith, h, c.in_ok-fair.ensures.further, c.in_ok-name.ensures.further, c.in_ok-at.ensures.further)) in
    let e4 = variables_passed m f r n o v c.in_ok-at.at c.in_ok-globals.at head.what c.in_ok-name.name opened.what e3 vars in
    let defs = c.in_ok-definitions.ensures.read n (omega (arith, h, c.in_ok-fair.ensures.further, c.in_ok-name.ensures.further, c.in_ok-at.ensures.further, c.in_ok-globals.ensures.further)) in
    let e5 = define_passed m f r n o v c.in_ok-globals.at c.in_ok-definitions.at head.what c.in_ok-name.name opened.what vars.what e4 defs in
    let macros = c.in_ok-macros.ensures.read n (omega (arith, h, c.in_ok-fair.ensures.further, c.in_ok-name.ensures.further, c.in_ok-at.ensures.further, c.in_ok-globals.ensures.further, c.in_ok-definitions.ensures.further)) in
    let e6 = macros_passed m f r n o v c.in_ok-definitions.at c.in_ok-macros.at head.what c.in_ok-name.name opened.what vars.what defs.what e5 macros in
    let procs = c.in_ok-procedures.ensures.read n (omega (arith, h, c.in_ok-fair.ensures.further, c.in_ok-name.ensures.further, c.in_ok-at.ensures.further, c.in_ok-globals.ensures.further, c.in_ok-definitions.ensures.further, c.in_ok-macros.ensures.further)) in
    let e7 = procedures_passed m f r n o v c.in_ok-macros.at c.in_ok-procedures.at head.what c.in_ok-name.name opened.what vars.what defs.what macros.what e6 procs in
    let runs = c.in_ok-main.ensures.read n (omega (arith, h, c.in_ok-fair.ensures.further, c.in_ok-name.ensures.further, c.in_ok-at.ensures.further, c.in_ok-globals.ensures.further, c.in_ok-definitions.ensures.further, c.in_ok-macros.ensures.further, c.in_ok-procedures.ensures.further)) in
    let e8 = main_passed m f r n o v c.in_ok-procedures.at c.in_ok-main.at head.what c.in_ok-name.name opened.what vars.what defs.what macros.what procs.what e7 runs in
    let p = err_from_is_err_and c.from_residual-in_err-end.result c.from_residual-in_err-end.ensures.1 in
    rw (p.1, p.2) (no_closing m f r n o v c.in_ok-main.at c.in_ok-main.at head.what c.in_ok-name.name opened.what vars.what defs.what macros.what procs.what runs.what c.in_err-end.field-0.0 e8 (c.in_err-end.ensures.read opened.what))
