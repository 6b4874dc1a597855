-- The interface parts of short texts.
use Rattle.std.proofs.Common.{◌≡◌, ℕ, Bool, true, false, List, [], ◌∷◌, codes, refl}
use Rattle.dart_tokens.specs.declared.token.Token.{Token}
use Rattle.dart_tokens.specs.declared.token.Kind.{Kind}
use Rattle.dart_tokens.specs.declared.token.Kind.TheVariants as kind
use Rattle.dart_tree.specs.Tree.{Tree, trees_of, absent, present, block, empty_body, getter, identifier, void_type, variable_list, variable, function_declaration, variable_declaration, method_declaration, mixin_declaration, unit}
use Rattle.dart_tree.specs.declared.names.Name.{Name}
use Rattle.dart_tree.specs.declared.places.Place.{Place}
use Rattle.interface_part.specs.declared.hidden.Hidden.{Hidden}
use Rattle.interface_part.specs.Hidden.{hidden_in}
use Rattle.interface_part.specs.Parts.{Part, mark, lexeme}
use Rattle.interface_part.specs.Interface.{parts_of}

-- a node over this range
abbrev over : (start end : ℕ) → Place
over start end = record { node = record { 0 = 0 }; span = record { start = start; end = end } }

abbrev token : Kind → (start end word : ℕ) → Token
token k start end word = record { kind = k; start = start; end = end; word = word }

abbrev range : (start end : ℕ) → (in_mixin : Bool) → Hidden
range start end in_mixin = record { span = record { start = start; end = end }; in_mixin = in_mixin }

-- `f(){super;}`
abbrev words : List (List ℕ)
words = codes "f" ∷ codes "(" ∷ codes ")" ∷ codes "{" ∷ codes "super" ∷ codes ";" ∷ codes "}" ∷ []

abbrev text : List Token
text =
    token kind.Identifier 0 1 0 ∷ token kind.OpenParenthesis 1 2 1 ∷ token kind.CloseParenthesis 2 3 2 ∷ token kind.OpenBrace 3 4 3 ∷
    token kind.Super 4 9 4 ∷ token kind.Semicolon 9 10 5 ∷ token kind.CloseBrace 10 11 6 ∷ []

abbrev head : List Part → List Part
head rest = lexeme kind.Identifier (codes "f") false ∷ lexeme kind.OpenParenthesis (codes "(") false ∷ lexeme kind.CloseParenthesis (codes ")") false ∷ rest

body : parts_of words (range 3 11 false ∷ []) text ≡ head (mark ∷ [])
body = refl

body_with_super_in_mixin : parts_of words (range 3 11 true ∷ []) text
    ≡ head (lexeme kind.OpenBrace (codes "{") false ∷ lexeme kind.Super (codes "super") false ∷ lexeme kind.Semicolon (codes ";") false ∷ lexeme kind.CloseBrace (codes "}") false ∷ [])
body_with_super_in_mixin = refl

-- `>> >`
adjacent : parts_of (codes ">" ∷ []) [] (token kind.Greater 0 1 0 ∷ token kind.Greater 1 2 0 ∷ token kind.Greater 3 4 0 ∷ [])
    ≡ lexeme kind.Greater (codes ">") true ∷ lexeme kind.Greater (codes ">") false ∷ lexeme kind.Greater (codes ">") false ∷ []
adjacent = refl

-- `{)}` `)`: a bracket that closes nothing goes with the body that it stands in
unopened : parts_of words (range 3 11 false ∷ []) (token kind.OpenBrace 3 4 3 ∷ token kind.CloseParenthesis 4 5 2 ∷ token kind.CloseBrace 10 11 6 ∷ token kind.CloseParenthesis 11 12 2 ∷ [])
    ≡ mark ∷ lexeme kind.CloseParenthesis (codes ")") false ∷ []
unopened = refl

abbrev name : Name
name = record { at = over 0 1; word = 0 }

-- `get f{}`, and with `;` for a body
abbrev item : Tree → List Hidden
item declared = hidden_in (unit (over 0 20) (trees_of (declared ∷ [])))

with_body : item (function_declaration (over 0 7) (trees_of []) (getter (over 0 7) absent name (block (over 5 7) (trees_of [])))) ≡ range 5 7 false ∷ []
with_body = refl

without_body : item (function_declaration (over 0 7) (trees_of []) (getter (over 0 7) absent name (empty_body (over 5 6)))) ≡ []
without_body = refl

in_mixin : item (mixin_declaration (over 0 20) (trees_of []) name (trees_of []) (trees_of []) (trees_of [])
    (trees_of (method_declaration (over 9 16) (trees_of []) false (getter (over 9 16) absent name (block (over 14 16) (trees_of []))) ∷ []))) ≡ range 14 16 true ∷ []
in_mixin = refl

-- `void f=g;` and `var f=g;`
abbrev variables : Tree
variables = variable (over 5 8) name (present (identifier (over 7 8) 1))

typed : item (variable_declaration (over 0 9) (trees_of []) (variable_list (over 0 8) false (present (void_type (over 0 4))) (trees_of (variables ∷ [])))) ≡ range 7 8 false ∷ []
typed = refl

untyped : item (variable_declaration (over 0 9) (trees_of []) (variable_list (over 0 8) false absent (trees_of (variables ∷ [])))) ≡ []
untyped = refl
