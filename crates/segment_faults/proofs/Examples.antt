-- Small segments, and what is wrong with them.
use Rattle.std.proofs.Common.{◌≡◌, ℕ, ◌+◌, true, false, List, [], ◌∷◌, ◌++◌, length, map, replicate, refl}
use Rattle.dart_tokens.specs.declared.token.Kind.{Kind}
use Rattle.dart_tokens.specs.declared.token.Kind.TheVariants as kind
use Rattle.dart_tokens.specs.declared.grouped_token.GroupedToken.{GroupedToken as Token}
use Rattle.dart_tokens.specs.Read.{past}
use Rattle.segment_faults.specs.declared.fault.SegmentFault.{SegmentFault}
use Rattle.segment_faults.specs.declared.fault.SegmentFault.TheVariants as fault
use Rattle.segment_faults.specs.Nesting.{groups_around, is_deep, is_long}
use Rattle.segment_faults.specs.Faults.{fault_of}

-- a token; each stands right behind the one before
abbrev lone : Kind → Token
lone k = record { kind = k; is_closed = false; start = 1; end = 1; word = 0; width = 0 }

-- one behind a gap
abbrev apart : Kind → Token
apart k = record { kind = k; is_closed = false; start = 2; end = 2; word = 0; width = 0 }

-- a bracket that opens a group of so many tokens, with its counterpart behind them
abbrev opening : Kind → ℕ → Token
opening k n = record { kind = k; is_closed = true; start = 1; end = 1; word = 0; width = n }

abbrev names : List Kind → List Token
names = map lone

-- the fault of a whole text
abbrev fault_in : List Token → SegmentFault
fault_in text = fault_of text 0 (length text)

abbrev a : Kind
a = kind.Identifier

-- int = ;
plain : fault_in (names (a ∷ kind.Equals ∷ kind.Semicolon ∷ [])) ≡ fault.Syntax
unfolding past
plain = refl

-- assert(1<2);
assertion : fault_in (lone kind.Assert ∷ opening kind.OpenParenthesis 3 ∷ names (kind.Integer ∷ kind.Less ∷ kind.Integer ∷ kind.CloseParenthesis ∷ kind.Semicolon ∷ [])) ≡ fault.Assert
unfolding past
assertion = refl

-- enum E{a}
enumeration : fault_in (lone kind.Enum ∷ lone a ∷ opening kind.OpenBrace 1 ∷ names (a ∷ kind.CloseBrace ∷ [])) ≡ fault.Enum
unfolding past
enumeration = refl

-- @a late int x; and late @a int x;
annotation_first : fault_in (names (kind.At ∷ a ∷ kind.Late ∷ a ∷ a ∷ kind.Semicolon ∷ [])) ≡ fault.Annotation
unfolding past
annotation_first = refl

late_first : fault_in (names (kind.Late ∷ kind.At ∷ a ∷ a ∷ a ∷ kind.Semicolon ∷ [])) ≡ fault.Late
unfolding past
late_first = refl

-- x y '${late}';
in_interpolation : fault_in (lone a ∷ lone a ∷ lone kind.StringOpening ∷ opening kind.InterpolationOpening 1 ∷ names (kind.Late ∷ kind.InterpolationClosing ∷ kind.StringClosing ∷ kind.Semicolon ∷ []))
    ≡ fault.Late
unfolding past
in_interpolation = refl

-- [if a]; and a if;
element : fault_in (opening kind.OpenBracket 2 ∷ names (kind.If ∷ a ∷ kind.CloseBracket ∷ kind.Semicolon ∷ [])) ≡ fault.CollectionElement
unfolding past
element = refl

no_element : fault_in (names (a ∷ kind.If ∷ kind.Semicolon ∷ [])) ≡ fault.Syntax
unfolding past
no_element = refl

-- import 'a' if; and, as an element counts before it, import 'a', if;
conditional : fault_in (names (kind.Import ∷ kind.StringLiteral ∷ kind.If ∷ kind.Semicolon ∷ [])) ≡ fault.ConditionalUri
unfolding past
conditional = refl

element_before_conditional : fault_in (names (kind.Import ∷ kind.StringLiteral ∷ kind.Comma ∷ kind.If ∷ kind.Semicolon ∷ [])) ≡ fault.CollectionElement
unfolding past
element_before_conditional = refl

-- a>>>b; and a>> >b;
shift : fault_in (names (a ∷ kind.Greater ∷ kind.Greater ∷ kind.Greater ∷ a ∷ kind.Semicolon ∷ [])) ≡ fault.TripleShift
unfolding past
shift = refl

no_shift : fault_in (names (a ∷ kind.Greater ∷ kind.Greater ∷ []) ++ apart kind.Greater ∷ names (a ∷ kind.Semicolon ∷ [])) ≡ fault.Syntax
unfolding past
no_shift = refl

-- class A=B; and class A<T>=B;
application : fault_in (names (kind.Class ∷ a ∷ kind.Equals ∷ a ∷ kind.Semicolon ∷ [])) ≡ fault.MixinApplication
unfolding past
application = refl

generic_application : fault_in (names (kind.Class ∷ a ∷ kind.Less ∷ a ∷ kind.Greater ∷ kind.Equals ∷ a ∷ kind.Semicolon ∷ [])) ≡ fault.Syntax
unfolding past
generic_application = refl

-- factory A.b()=C; and factory A.b()=>C;
redirection : fault_in (names (kind.Factory ∷ a ∷ kind.Period ∷ a ∷ []) ++ opening kind.OpenParenthesis 0 ∷ names (kind.CloseParenthesis ∷ kind.Equals ∷ a ∷ kind.Semicolon ∷ []))
    ≡ fault.RedirectingFactory
unfolding past
redirection = refl

no_redirection : fault_in (names (kind.Factory ∷ a ∷ kind.Period ∷ a ∷ []) ++ opening kind.OpenParenthesis 0 ∷ names (kind.CloseParenthesis ∷ kind.Arrow ∷ a ∷ kind.Semicolon ∷ []))
    ≡ fault.Syntax
unfolding past
no_redirection = refl

-- typedef: before a case, where the label ends the segment; and typedef A;
label : fault_of (names (kind.Typedef ∷ kind.Colon ∷ kind.Case ∷ [])) 0 2 ≡ fault.ContinueCase
unfolding past
label = refl

alias : fault_in (names (kind.Typedef ∷ a ∷ kind.Semicolon ∷ [])) ≡ fault.Typedef
unfolding past
alias = refl

-- what stands before a segment or behind it is no place in it: late; a b; late;
elsewhere : fault_of (names (kind.Late ∷ kind.Semicolon ∷ a ∷ a ∷ kind.Semicolon ∷ kind.Late ∷ kind.Semicolon ∷ [])) 2 3 ≡ fault.Syntax
unfolding past
elsewhere = refl

-- ((a)): a bracket doesn't lie in its own group
abbrev nested : List Token
nested = opening kind.OpenParenthesis 3 ∷ opening kind.OpenParenthesis 1 ∷ names (a ∷ kind.CloseParenthesis ∷ kind.CloseParenthesis ∷ [])

depths : groups_around 0 nested ∷ groups_around 1 nested ∷ groups_around 2 nested ∷ groups_around 3 nested ∷ groups_around 4 nested ∷ [] ≡ 0 ∷ 1 ∷ 2 ∷ 1 ∷ 0 ∷ []
unfolding past
depths = refl

-- 100 groups around a token aren't too many, 101 are
deep_100 : is_deep (replicate 102 (opening kind.OpenParenthesis 500)) 0 101 ≡ false
deep_100 = refl

deep_101 : is_deep (replicate 102 (opening kind.OpenParenthesis 500)) 0 102 ≡ true
deep_101 = refl

-- so are 101 lexemes outside groups, brackets among them; what stands in groups isn't counted, nor are names
long_100 : is_long (replicate 98 (lone kind.Comma) ++ opening kind.OpenParenthesis 2 ∷ names (kind.Comma ∷ kind.Comma ∷ kind.CloseParenthesis ∷ a ∷ [])) ≡ false
long_100 = refl

long_101 : is_long (replicate 99 (lone kind.Comma) ++ opening kind.OpenParenthesis 0 ∷ names (kind.CloseParenthesis ∷ [])) ≡ true
long_101 = refl

-- `${` isn't counted, and the `}` behind it is
long_interpolation : is_long (replicate 100 (lone kind.Comma) ++ opening kind.InterpolationOpening 0 ∷ []) ≡ false
unfolding past
long_interpolation = refl
