-- What a view in memory stands for.
use Rattle.std.specs.Prelude.{ℕ, List, [], unwrap_or}
use Rattle.tla_token.specs.TokensSeen.{span_bytes}
use Rattle.tla_token.specs.Lexemes.{number_of, unquoted}
use Rattle.expr_nodes.specs.declared.view.Mark.{Mark}
use Rattle.expr_nodes.specs.declared.view.Mark.TheVariants as mark
use Rattle.expr_nodes.specs.declared.view.Key.{Key}
use Rattle.expr_nodes.specs.declared.view.Key.TheVariants as key
use Rattle.expr_nodes.specs.declared.view.Constant.{Constant}
use Rattle.expr_nodes.specs.declared.view.Constant.TheVariants as constant
use Rattle.expr_nodes.specs.declared.view.View.{View}
use Rattle.expr_nodes.specs.declared.view.View.TheVariants as view
use Rattle.tla_tree.specs.Lexical as tk

abbrev pub mark_seen : Mark → tk.Mark
mark_seen mark.OpenBracket = tk.open_bracket
mark_seen mark.CloseBracket = tk.close_bracket
mark_seen mark.OpenSquare = tk.open_square
mark_seen mark.CloseSquare = tk.close_square
mark_seen mark.OpenBrace = tk.open_brace
mark_seen mark.CloseBrace = tk.close_brace
mark_seen mark.OpenTuple = tk.open_tuple
mark_seen mark.CloseTuple = tk.close_tuple
mark_seen mark.Comma = tk.comma
mark_seen mark.Colon = tk.colon
mark_seen mark.Dot = tk.dot
mark_seen mark.Bang = tk.bang
mark_seen mark.Arrow = tk.arrow
mark_seen mark.Maps = tk.maps
mark_seen mark.Defines = tk.defines
mark_seen mark.Box = tk.box
mark_seen mark.Prime = tk.prime
mark_seen mark.Assigns = tk.assigns
mark_seen mark.Beside = tk.beside
mark_seen mark.Semicolon = tk.semicolon

abbrev pub key_seen : Key → tk.Key
key_seen key.If = tk.if_key
key_seen key.Then = tk.then_key
key_seen key.Else = tk.else_key
key_seen key.Case = tk.case_key
key_seen key.Other = tk.other_key
key_seen key.Let = tk.let_key
key_seen key.In = tk.in_key
key_seen key.Except = tk.except_key
key_seen key.ForAll = tk.for_all_key
key_seen key.Exists = tk.exists_key

abbrev pub constant_seen : Constant → tk.Constant
constant_seen (constant.Truth b) = tk.truth b
constant_seen constant.Booleans = tk.booleans
constant_seen constant.Strings = tk.strings

-- words are among these bytes
abbrev pub view_seen : List ℕ → View → tk.TokenView
view_seen bytes (view.Sign o) = tk.sign o
view_seen bytes (view.Word s) = tk.word (span_bytes bytes s)
view_seen bytes (view.Reserved s) = tk.reserved (span_bytes bytes s)
view_seen bytes (view.Number n) = tk.number n
view_seen bytes (view.BigNumber s) = tk.number (number_of (span_bytes bytes s))
view_seen bytes (view.Quote s) = tk.string (unwrap_or (unquoted (span_bytes bytes s)) [])
view_seen bytes (view.Constant c) = tk.constant (constant_seen c)
view_seen bytes (view.Mark m) = tk.mark (mark_seen m)
view_seen bytes (view.Key k) = tk.key (key_seen k)
view_seen bytes (view.Other s) = tk.other (span_bytes bytes s)
