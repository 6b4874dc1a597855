-- The pieces of small texts.
use Rattle.std.proofs.Common.{◌≡◌, [], ◌∷◌, refl}
use Rattle.std.specs.Prelude.{codes}
use Rattle.dart_scan.specs.declared.piece.Class.TheVariants as class
use Rattle.dart_scan.specs.Comments.{comment_end}
use Rattle.dart_scan.specs.Strings.{plain_size}
use Rattle.dart_scan.specs.Pieces.{pieces, pieces_within, within_steps}

-- `>` is a mark by itself, however many stand together
greater_signs_stand_alone : pieces (codes "a>>=b") ≡ (class.Word, codes "a") ∷ (class.Mark, codes ">") ∷ (class.Mark, codes ">") ∷ (class.Mark, codes "=") ∷ (class.Word, codes "b") ∷ []
unfolding pieces pieces_within within_steps plain_size
greater_signs_stand_alone = refl

-- of the marks that begin at a place the longest is taken
marks_are_the_longest : pieces (codes "?..~/=??=....<<=?[=>=") ≡ (class.Mark, codes "?..") ∷ (class.Mark, codes "~/=") ∷ (class.Mark, codes "??=") ∷ (class.Mark, codes "...") ∷ (class.Mark, codes ".") ∷ (class.Mark, codes "<<=") ∷ (class.Mark, codes "?[") ∷ (class.Mark, codes "=>") ∷ (class.Mark, codes "=") ∷ []
unfolding pieces pieces_within within_steps plain_size
marks_are_the_longest = refl

-- marks of two characters
marks_of_two : pieces (codes "--->+=&&&|=^==") ≡ (class.Mark, codes "--") ∷ (class.Mark, codes "-") ∷ (class.Mark, codes ">") ∷ (class.Mark, codes "+=") ∷ (class.Mark, codes "&&") ∷ (class.Mark, codes "&") ∷ (class.Mark, codes "|=") ∷ (class.Mark, codes "^=") ∷ (class.Mark, codes "=") ∷ []
unfolding pieces pieces_within within_steps plain_size
marks_of_two = refl

-- a `.` without digits behind it is a mark
a_fraction_has_digits : pieces (codes "1.e3") ≡ (class.Integer, codes "1") ∷ (class.Mark, codes ".") ∷ (class.Word, codes "e3") ∷ []
unfolding pieces pieces_within within_steps plain_size
a_fraction_has_digits = refl

-- doubles
doubles : pieces (codes "1.5e-3.5.6") ≡ (class.Double, codes "1.5e-3") ∷ (class.Double, codes ".5") ∷ (class.Double, codes ".6") ∷ []
unfolding pieces pieces_within within_steps plain_size
doubles = refl

-- an `e` without digits behind it is a word
an_exponent_has_digits : pieces (codes "1e9 1e+") ≡ (class.Double, codes "1e9") ∷ (class.Gap, codes " ") ∷ (class.Integer, codes "1") ∷ (class.Word, codes "e") ∷ (class.Mark, codes "+") ∷ []
unfolding pieces pieces_within within_steps plain_size
an_exponent_has_digits = refl

-- hexadecimal integers
hexadecimal_digits : pieces (codes "0x1Fg0xg") ≡ (class.Integer, codes "0x1F") ∷ (class.Word, codes "g0xg") ∷ []
unfolding pieces pieces_within within_steps plain_size
hexadecimal_digits = refl

-- `0x` without digits behind it is `0` and a word
no_hexadecimal_digits : pieces (codes "0xg") ≡ (class.Integer, codes "0") ∷ (class.Word, codes "xg") ∷ []
unfolding pieces pieces_within within_steps plain_size
no_hexadecimal_digits = refl

-- a `$` may stand in a word, and a digit not first
words : pieces (codes "$a_1$9 9a") ≡ (class.Word, codes "$a_1$9") ∷ (class.Gap, codes " ") ∷ (class.Integer, codes "9") ∷ (class.Word, codes "a") ∷ []
unfolding pieces pieces_within within_steps plain_size
words = refl

-- white space is one gap
white_space_is_one_gap : pieces (codes "a \t\r\n b") ≡ (class.Word, codes "a") ∷ (class.Gap, codes " \t\r\n ") ∷ (class.Word, codes "b") ∷ []
unfolding pieces pieces_within within_steps plain_size
white_space_is_one_gap = refl

-- a comment of one line ends before its end
a_line_ends_a_comment : pieces (codes "//a/*\rb") ≡ (class.Gap, codes "//a/*") ∷ (class.Gap, codes "\r") ∷ (class.Word, codes "b") ∷ []
unfolding pieces pieces_within within_steps plain_size comment_end
a_line_ends_a_comment = refl

-- comments nest
comments_nest : pieces (codes "/*/**/*/x") ≡ (class.Gap, codes "/*/**/*/") ∷ (class.Word, codes "x") ∷ []
unfolding pieces pieces_within within_steps plain_size comment_end
comments_nest = refl

-- a comment that never ends takes the rest
a_comment_may_never_end : pieces (codes "a/*/**/b") ≡ (class.Word, codes "a") ∷ (class.UnterminatedComment, codes "/*/**/b") ∷ []
unfolding pieces pieces_within within_steps plain_size comment_end
a_comment_may_never_end = refl

-- characters that begin no lexeme, one at a time
a_character_may_begin_nothing : pieces (codes "`\\a") ≡ (class.IllegalCharacter, codes "`") ∷ (class.IllegalCharacter, codes "\\") ∷ (class.Word, codes "a") ∷ []
unfolding pieces pieces_within within_steps plain_size
a_character_may_begin_nothing = refl

-- empty strings
an_empty_string : pieces (codes "''\"\"") ≡ (class.StringLiteral, codes "''") ∷ (class.StringLiteral, codes "\"\"") ∷ []
unfolding pieces pieces_within within_steps plain_size
an_empty_string = refl

-- the other quote is text
the_other_quote_is_text : pieces (codes "'\"'\"'\"") ≡ (class.StringLiteral, codes "'\"'") ∷ (class.StringLiteral, codes "\"'\"") ∷ []
unfolding pieces pieces_within within_steps plain_size
the_other_quote_is_text = refl

-- three quotes open a string
three_quotes_are_one_opening : pieces (codes "''''a''''''''") ≡ (class.StringLiteral, codes "''''a'''") ∷ (class.UnterminatedString, codes "'''''") ∷ []
unfolding pieces pieces_within within_steps plain_size
three_quotes_are_one_opening = refl

-- a backslash takes the quote behind it
a_backslash_takes_a_quote : pieces (codes "'\\''x'\\\\'") ≡ (class.StringLiteral, codes "'\\''") ∷ (class.Word, codes "x") ∷ (class.StringLiteral, codes "'\\\\'") ∷ []
unfolding pieces pieces_within within_steps plain_size
a_backslash_takes_a_quote = refl

-- a backslash takes the `$` behind it
a_backslash_takes_a_dollar : pieces (codes "'\\$a'") ≡ (class.StringLiteral, codes "'\\$a'") ∷ []
unfolding pieces pieces_within within_steps plain_size
a_backslash_takes_a_dollar = refl

-- a backslash doesn't take the end of the line with it
a_line_ends_an_escape : pieces (codes "'\\\n'") ≡ (class.UnterminatedString, codes "'\\") ∷ (class.Gap, codes "\n") ∷ (class.UnterminatedString, codes "'") ∷ []
unfolding pieces pieces_within within_steps plain_size
a_line_ends_an_escape = refl

-- raw strings of one quote and of three
raw_strings_have_no_interpolations : pieces (codes "r'$a'r'''\n${'''") ≡ (class.StringLiteral, codes "r'$a'") ∷ (class.StringLiteral, codes "r'''\n${'''") ∷ []
unfolding pieces pieces_within within_steps plain_size
raw_strings_have_no_interpolations = refl

-- `$this` is an interpolation
this_is_interpolated : pieces (codes "'$this.a'") ≡ (class.StringOpening, codes "'") ∷ (class.InterpolationMark, codes "$") ∷ (class.Word, codes "this") ∷ (class.StringClosing, codes ".a'") ∷ []
unfolding pieces pieces_within within_steps plain_size
this_is_interpolated = refl

-- nothing stands between two interpolations
interpolations_may_touch : pieces (codes "'$a$b${c}${}'") ≡ (class.StringOpening, codes "'") ∷ (class.InterpolationMark, codes "$") ∷ (class.Word, codes "a") ∷ (class.InterpolationMark, codes "$") ∷ (class.Word, codes "b") ∷ (class.InterpolationOpening, codes "${") ∷ (class.Word, codes "c") ∷ (class.InterpolationClosing, codes "}") ∷ (class.InterpolationOpening, codes "${") ∷ (class.InterpolationClosing, codes "}") ∷ (class.StringClosing, codes "'") ∷ []
unfolding pieces pieces_within within_steps plain_size
interpolations_may_touch = refl

-- a part between two interpolations
a_part_stands_between : pieces (codes "'${a}-$b'") ≡ (class.StringOpening, codes "'") ∷ (class.InterpolationOpening, codes "${") ∷ (class.Word, codes "a") ∷ (class.InterpolationClosing, codes "}") ∷ (class.StringPart, codes "-") ∷ (class.InterpolationMark, codes "$") ∷ (class.Word, codes "b") ∷ (class.StringClosing, codes "'") ∷ []
unfolding pieces pieces_within within_steps plain_size
a_part_stands_between = refl

-- a `$` before anything else is text
a_dollar_alone_is_text : pieces (codes "'$1$ $'") ≡ (class.StringLiteral, codes "'$1$ $'") ∷ []
unfolding pieces pieces_within within_steps plain_size
a_dollar_alone_is_text = refl

-- the name of an interpolation has no `$`
a_name_has_no_dollar : pieces (codes "'$a$'") ≡ (class.StringOpening, codes "'") ∷ (class.InterpolationMark, codes "$") ∷ (class.Word, codes "a") ∷ (class.StringClosing, codes "$'") ∷ []
unfolding pieces pieces_within within_steps plain_size
a_name_has_no_dollar = refl

-- a string in a string of the same quote
the_same_quote_inside : pieces (codes "'${'${a}'}'") ≡ (class.StringOpening, codes "'") ∷ (class.InterpolationOpening, codes "${") ∷ (class.StringOpening, codes "'") ∷ (class.InterpolationOpening, codes "${") ∷ (class.Word, codes "a") ∷ (class.InterpolationClosing, codes "}") ∷ (class.StringClosing, codes "'") ∷ (class.InterpolationClosing, codes "}") ∷ (class.StringClosing, codes "'") ∷ []
unfolding pieces pieces_within within_steps plain_size
the_same_quote_inside = refl

-- the end of a line ends the outermost string of one quote, with all that is open in it
a_line_ends_the_outermost : pieces (codes "'${\"${'''\na") ≡ (class.UnterminatedString, codes "'${\"${'''") ∷ (class.Gap, codes "\n") ∷ (class.Word, codes "a") ∷ []
unfolding pieces pieces_within within_steps plain_size
a_line_ends_the_outermost = refl

-- in a string of three quotes it ends an inner string alone
a_line_ends_an_inner_string : pieces (codes "'''${'a\n}'''") ≡ (class.StringOpening, codes "'''") ∷ (class.InterpolationOpening, codes "${") ∷ (class.UnterminatedString, codes "'a") ∷ (class.Gap, codes "\n") ∷ (class.InterpolationClosing, codes "}") ∷ (class.StringClosing, codes "'''") ∷ []
unfolding pieces pieces_within within_steps plain_size
a_line_ends_an_inner_string = refl

-- the end of the text ends the outermost string of all
the_text_ends_all : pieces (codes "a'''${'b") ≡ (class.Word, codes "a") ∷ (class.UnterminatedString, codes "'''${'b") ∷ []
unfolding pieces pieces_within within_steps plain_size
the_text_ends_all = refl

-- a comment inside a string of one quote sees its line alone
a_comment_ends_with_the_line : pieces (codes "'${/*'\n*/") ≡ (class.UnterminatedString, codes "'${/*'") ∷ (class.Gap, codes "\n") ∷ (class.Mark, codes "*") ∷ (class.Mark, codes "/") ∷ []
unfolding pieces pieces_within within_steps plain_size comment_end
a_comment_ends_with_the_line = refl

-- a comment in an interpolation
a_comment_hides_a_brace : pieces (codes "'${a/*}*/}'") ≡ (class.StringOpening, codes "'") ∷ (class.InterpolationOpening, codes "${") ∷ (class.Word, codes "a") ∷ (class.Gap, codes "/*}*/") ∷ (class.InterpolationClosing, codes "}") ∷ (class.StringClosing, codes "'") ∷ []
unfolding pieces pieces_within within_steps plain_size comment_end
a_comment_hides_a_brace = refl

-- a `}` outside strings is a mark
a_brace_outside_strings : pieces (codes "}'${}'}") ≡ (class.Mark, codes "}") ∷ (class.StringOpening, codes "'") ∷ (class.InterpolationOpening, codes "${") ∷ (class.InterpolationClosing, codes "}") ∷ (class.StringClosing, codes "'") ∷ (class.Mark, codes "}") ∷ []
unfolding pieces pieces_within within_steps plain_size
a_brace_outside_strings = refl

-- characters beyond ASCII are one gap, and so is a byte order mark where it stands first of all
beyond_ascii : pieces (239 ∷ 187 ∷ 191 ∷ 97 ∷ 239 ∷ 187 ∷ 191 ∷ 195 ∷ 169 ∷ []) ≡ (class.Gap, 239 ∷ 187 ∷ 191 ∷ []) ∷ (class.Word, 97 ∷ []) ∷ (class.BeyondAscii, 239 ∷ 187 ∷ 191 ∷ 195 ∷ 169 ∷ []) ∷ []
unfolding pieces pieces_within within_steps plain_size
beyond_ascii = refl
