-- Groups of small lists of tokens.
use Rattle.std.proofs.Common.{◌≡◌, List, [], ◌∷◌, Some, None, refl}
use Rattle.dart_tokens.specs.declared.token.Token.{Token}
use Rattle.dart_tokens.specs.declared.token.Kind.{Kind}
use Rattle.dart_tokens.specs.declared.token.Kind.TheVariants.{Identifier, OpenParenthesis, CloseParenthesis, OpenBracket, QuestionBracket, CloseBracket, OpenBrace, CloseBrace, InterpolationOpening, InterpolationClosing}
use Rattle.dart_tokens.specs.declared.groups.GroupFaultKind.TheVariants.{UnclosedGroup, UnopenedGroup}
use Rattle.dart_tokens.specs.Groups.{partners_of, partners_from, faults_of, faults_from, fault_at, group_end}

-- tokens of these kinds
abbrev of_kinds : List Kind → List Token
of_kinds [] = []
of_kinds (kind ∷ kinds) = record { kind = kind; start = 0; end = 1; word = 0 } ∷ of_kinds kinds

-- `( a )`
plain_partners : partners_of (of_kinds (OpenParenthesis ∷ Identifier ∷ CloseParenthesis ∷ [])) ≡ Some 2 ∷ None ∷ Some 0 ∷ []
unfolding partners_from group_end
plain_partners = refl

plain_faults : faults_of (of_kinds (OpenParenthesis ∷ Identifier ∷ CloseParenthesis ∷ [])) ≡ []
unfolding faults_from group_end
plain_faults = refl

-- `( [ ) ]`
crossed_partners : partners_of (of_kinds (OpenParenthesis ∷ OpenBracket ∷ CloseParenthesis ∷ CloseBracket ∷ [])) ≡ Some 2 ∷ Some 2 ∷ Some 0 ∷ None ∷ []
unfolding partners_from group_end
crossed_partners = refl

crossed_faults : faults_of (of_kinds (OpenParenthesis ∷ OpenBracket ∷ CloseParenthesis ∷ CloseBracket ∷ [])) ≡ fault_at 1 UnclosedGroup ∷ fault_at 3 UnopenedGroup ∷ []
unfolding faults_from group_end
crossed_faults = refl

-- `( ]`
other_kind_partners : partners_of (of_kinds (OpenParenthesis ∷ CloseBracket ∷ [])) ≡ Some 2 ∷ None ∷ []
unfolding partners_from group_end
other_kind_partners = refl

other_kind_faults : faults_of (of_kinds (OpenParenthesis ∷ CloseBracket ∷ [])) ≡ fault_at 0 UnclosedGroup ∷ fault_at 1 UnopenedGroup ∷ []
unfolding faults_from group_end
other_kind_faults = refl

-- `{ ( }`
left_open_partners : partners_of (of_kinds (OpenBrace ∷ OpenParenthesis ∷ CloseBrace ∷ [])) ≡ Some 2 ∷ Some 2 ∷ Some 0 ∷ []
unfolding partners_from group_end
left_open_partners = refl

left_open_faults : faults_of (of_kinds (OpenBrace ∷ OpenParenthesis ∷ CloseBrace ∷ [])) ≡ fault_at 1 UnclosedGroup ∷ []
unfolding faults_from group_end
left_open_faults = refl

-- `)`
unopened_partners : partners_of (of_kinds (CloseParenthesis ∷ [])) ≡ None ∷ []
unfolding partners_from group_end
unopened_partners = refl

unopened_faults : faults_of (of_kinds (CloseParenthesis ∷ [])) ≡ fault_at 0 UnopenedGroup ∷ []
unfolding faults_from group_end
unopened_faults = refl

-- `?[ ]`
question_partners : partners_of (of_kinds (QuestionBracket ∷ CloseBracket ∷ [])) ≡ Some 1 ∷ Some 0 ∷ []
unfolding partners_from group_end
question_partners = refl

question_faults : faults_of (of_kinds (QuestionBracket ∷ CloseBracket ∷ [])) ≡ []
unfolding faults_from group_end
question_faults = refl

-- `?[ ( ]`
question_left_open_partners : partners_of (of_kinds (QuestionBracket ∷ OpenParenthesis ∷ CloseBracket ∷ [])) ≡ Some 2 ∷ Some 2 ∷ Some 0 ∷ []
unfolding partners_from group_end
question_left_open_partners = refl

question_left_open_faults : faults_of (of_kinds (QuestionBracket ∷ OpenParenthesis ∷ CloseBracket ∷ [])) ≡ fault_at 1 UnclosedGroup ∷ []
unfolding faults_from group_end
question_left_open_faults = refl

-- `${ ( }`
interpolation_partners : partners_of (of_kinds (InterpolationOpening ∷ OpenParenthesis ∷ InterpolationClosing ∷ [])) ≡ Some 2 ∷ Some 2 ∷ Some 0 ∷ []
unfolding partners_from group_end
interpolation_partners = refl

interpolation_faults : faults_of (of_kinds (InterpolationOpening ∷ OpenParenthesis ∷ InterpolationClosing ∷ [])) ≡ fault_at 1 UnclosedGroup ∷ []
unfolding faults_from group_end
interpolation_faults = refl

-- `( ${ ) } )`
border_partners : partners_of (of_kinds (OpenParenthesis ∷ InterpolationOpening ∷ CloseParenthesis ∷ InterpolationClosing ∷ CloseParenthesis ∷ [])) ≡ Some 4 ∷ Some 3 ∷ None ∷ Some 1 ∷ Some 0 ∷ []
unfolding partners_from group_end
border_partners = refl

border_faults : faults_of (of_kinds (OpenParenthesis ∷ InterpolationOpening ∷ CloseParenthesis ∷ InterpolationClosing ∷ CloseParenthesis ∷ [])) ≡ fault_at 2 UnopenedGroup ∷ []
unfolding faults_from group_end
border_faults = refl

-- `{ ${ { } }`
braces_partners : partners_of (of_kinds (OpenBrace ∷ InterpolationOpening ∷ OpenBrace ∷ CloseBrace ∷ InterpolationClosing ∷ [])) ≡ Some 5 ∷ Some 4 ∷ Some 3 ∷ Some 2 ∷ Some 1 ∷ []
unfolding partners_from group_end
braces_partners = refl

braces_faults : faults_of (of_kinds (OpenBrace ∷ InterpolationOpening ∷ OpenBrace ∷ CloseBrace ∷ InterpolationClosing ∷ [])) ≡ fault_at 0 UnclosedGroup ∷ []
unfolding faults_from group_end
braces_faults = refl

-- `{ ( a`
open_at_the_end_partners : partners_of (of_kinds (OpenBrace ∷ OpenParenthesis ∷ Identifier ∷ [])) ≡ Some 3 ∷ Some 3 ∷ None ∷ []
unfolding partners_from group_end
open_at_the_end_partners = refl

open_at_the_end_faults : faults_of (of_kinds (OpenBrace ∷ OpenParenthesis ∷ Identifier ∷ [])) ≡ fault_at 0 UnclosedGroup ∷ fault_at 1 UnclosedGroup ∷ []
unfolding faults_from group_end
open_at_the_end_faults = refl

-- `{ ( [ ] ) }`
nested_partners : partners_of (of_kinds (OpenBrace ∷ OpenParenthesis ∷ OpenBracket ∷ CloseBracket ∷ CloseParenthesis ∷ CloseBrace ∷ [])) ≡ Some 5 ∷ Some 4 ∷ Some 3 ∷ Some 2 ∷ Some 1 ∷ Some 0 ∷ []
unfolding partners_from group_end
nested_partners = refl

nested_faults : faults_of (of_kinds (OpenBrace ∷ OpenParenthesis ∷ OpenBracket ∷ CloseBracket ∷ CloseParenthesis ∷ CloseBrace ∷ [])) ≡ []
unfolding faults_from group_end
nested_faults = refl

-- `( ( ) ]`
nearest_partners : partners_of (of_kinds (OpenParenthesis ∷ OpenParenthesis ∷ CloseParenthesis ∷ CloseBracket ∷ [])) ≡ Some 4 ∷ Some 2 ∷ Some 1 ∷ None ∷ []
unfolding partners_from group_end
nearest_partners = refl

nearest_faults : faults_of (of_kinds (OpenParenthesis ∷ OpenParenthesis ∷ CloseParenthesis ∷ CloseBracket ∷ [])) ≡ fault_at 0 UnclosedGroup ∷ fault_at 3 UnopenedGroup ∷ []
unfolding faults_from group_end
nearest_faults = refl
