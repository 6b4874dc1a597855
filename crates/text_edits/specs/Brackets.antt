-- The kinds of the groups that are open in a text, and where a body may begin.
use Rattle.std.specs.Prelude.{ℕ, suc, Bool, true, false, not, ◌&&◌, ◌==◌, nat_lt, List, [], ◌∷◌, length, if◌then◌else◌, Option, None, Some, unwrap_or}
use denote.Enum.Bare.{sameb}
use Rattle.dart_tokens.specs.declared.token.Kind.{Kind}
use Rattle.dart_tokens.specs.contracts.token.Kind as kinds
use Rattle.dart_tokens.specs.declared.token.Kind.TheVariants as kind
use Rattle.dart_tokens.specs.declared.token.Token.{Token}
use Rattle.dart_tokens.specs.Groups.{Bracket, Round, Square, Curly, Interpolation, opens, closes, is_same}
use Rattle.body_laws.specs.Bodies.{Freedom, none, is_free, is_plain, in_braces}

-- Of the kinds of the open groups, innermost first, those that stay open when one of this kind is closed.
abbrev pub kinds_closed : Bracket → List Bracket → Option (List Bracket)
kinds_closed bracket [] = None
kinds_closed bracket (group ∷ more) =
    if is_same bracket group then Some more
    else (if is_same Interpolation group then None else kinds_closed bracket more)

-- those that are open behind a token that closes one, or none
abbrev pub kinds_after_closing : Option Bracket → List Bracket → List Bracket
kinds_after_closing None around = around
kinds_after_closing (Some bracket) around = unwrap_or (kinds_closed bracket around) around

-- behind a token that opens one, or else may close one
abbrev pub kinds_after_opening : (opened closed : Option Bracket) → List Bracket → List Bracket
kinds_after_opening None closed around = kinds_after_closing closed around
kinds_after_opening (Some bracket) closed around = bracket ∷ around

-- and behind any token
abbrev pub kinds_after : Kind → List Bracket → List Bracket
kinds_after k around = kinds_after_opening (opens k) (closes k) around

-- fewer groups are open behind the token than these many
abbrev pub falls_below : (least : ℕ) → Kind → List Bracket → Bool
falls_below least k around = nat_lt (length (kinds_after k around)) least

-- a `)` that closes a group
abbrev pub closes_parameters : Kind → List Bracket → Bool
closes_parameters k around = falls_below (length around) k around && sameb kinds.the_type k kind.CloseParenthesis

-- where bodies may differ within these groups
abbrev pub freedom_within : Freedom → List Bracket → Freedom
freedom_within f [] = f
freedom_within f (Round ∷ around) = none
freedom_within f (Square ∷ around) = none
freedom_within f (Curly ∷ around) = in_braces (freedom_within f around)
freedom_within f (Interpolation ∷ around) = none

-- a token of the kind may stand within these groups: `Function` may not where no function type stands
abbrev pub may_stand : Freedom → Kind → List Bracket → Bool
may_stand f k around = not (is_plain (freedom_within f around) && sameb kinds.the_type k kind.Function)

-- each token may stand where it does, and what comes behind them passes a test
abbrev pub all_may_stand : Freedom → (behind : Bool → List Bracket → Bool) → (closed : Bool) → List Bracket → List Token → Bool
all_may_stand f behind closed around [] = behind closed around
all_may_stand f behind closed around (t ∷ ts) =
    may_stand f t.kind around && all_may_stand f behind (closes_parameters t.kind around) (kinds_after t.kind around) ts

-- of at least so many open groups the last ends at the token behind these, which closes it alone, and none of them before
abbrev pub ends_group : (least : ℕ) → List Bracket → List Token → (closing : Kind) → Bool
ends_group least around [] closing = suc (length (kinds_after closing around)) == least
ends_group least around (t ∷ ts) closing = not (falls_below least t.kind around) && ends_group least (kinds_after t.kind around) ts closing

-- a brace that is opened within these groups, with these tokens inside, is closed by the token behind them
abbrev pub is_body : List Bracket → (inside : List Token) → (closing : Kind) → Bool
is_body around inside closing = ends_group (suc (length around)) (Curly ∷ around) inside closing

-- A body may differ in two texts that begins within these groups: behind parameters, where it is free; what its braces hold in both texts is closed in each by the token behind it, and each token behind may stand where it does.
abbrev pub may_differ : Freedom → (inside : List Token) → (close : Kind) → (instead : List Token) → (closing : Kind) → (behind : List Token) → (closed : Bool) → List Bracket → Bool
may_differ f inside close instead closing behind closed around =
    closed && (is_free (freedom_within f around) && (is_body around inside close && (is_body around instead closing && all_may_stand f (λ closed around. true) true around behind)))

-- these tokens lead to such a body
abbrev pub leads_to_body : Freedom → (inside : List Token) → (close : Kind) → (instead : List Token) → (closing : Kind) → (behind before : List Token) → Bool
leads_to_body f inside close instead closing behind before = all_may_stand f (may_differ f inside close instead closing behind) false [] before
