-- No constructor is read where what comes behind its parameters isn't the rest of one.
use Rattle.std.proofs.Common.{◌≡◌, ℕ, Bool, true, false, ◌||◌, List, [], ◌∷◌, drop, Option, Some, None, option_map, refl}
use Rattle.readings.specs.Readings.{next, made, behind}
use Rattle.readings.specs.Descent.{Descent, bind, complete, take_token, take_maybe, take_turn, take_where, ◌▸◌}
use Rattle.dart_tokens.specs.declared.token.Kind.TheVariants as kind
use Rattle.dart_tree.specs.Tree.{Tree}
use Rattle.dart_tree.specs.declared.names.ConstructorName.{ConstructorName}
use Rattle.dart_tokens.specs.declared.grouped_token.GroupedToken.{GroupedToken as Token}
use Rattle.grammar.specs.Tokens.{is, heads, past}
use Rattle.grammar.specs.Types.{parameter_list_of}
use Rattle.grammar.specs.Declarations.{empty_of}
use Rattle.grammar.specs.Descents.{Lower, take_separated, take_parameter_list}
use Rattle.grammar.specs.DeclarationDescents.{take_initializer, take_constructor_name, take_constructor}
use Rattle.parse_members.specs.Next.{goes_on_constructor, heads_constructor}
use Rattle.parse_members.proofs.Tests.{first_false, second_false}

-- what stands behind the parameters of a constructor
abbrev take_rest : Lower → Descent Token (Option (Token × List Tree) × Tree)
take_rest l = take_maybe (take_token (is kind.Colon) ▸ take_separated (take_initializer l)) ▸ take_where (heads kind.OpenBrace) l.block (take_turn empty_of (take_token (is kind.Semicolon)))

no_rest : (l : Lower) (vs : List Token) → next goes_on_constructor vs ≡ false → take_rest l vs ≡ None
no_rest l [] e = refl
no_rest l (v ∷ vs) e =
    let more : (is kind.Colon v || is kind.OpenBrace v) ≡ false = first_false (is kind.Colon v || is kind.OpenBrace v) (is kind.Semicolon v) e in
    let colon : is kind.Colon v ≡ false = first_false (is kind.Colon v) (is kind.OpenBrace v) more in
    let brace : is kind.OpenBrace v ≡ false = second_false (is kind.Colon v) (is kind.OpenBrace v) more in
    let semicolon : is kind.Semicolon v ≡ false = second_false (is kind.Colon v || is kind.OpenBrace v) (is kind.Semicolon v) e in
    rw (colon, brace, semicolon) refl

behind_group : {A : Type 0} (f : List Token → Token × A → Tree) (l : Lower) (u : Token) (us vs : List Token) (o : Option A) → take_rest l vs ≡ None →
    bind (bind (option_map (λ a. ((u, a), vs)) o) (λ x. Some (made f us x))) (λ x. bind (take_rest l x.1) (λ y. Some (behind x.0 y))) ≡ None
behind_group f l u us vs None e = refl
behind_group f l u us vs (Some a) e = rw e refl

no_parameters : (l : Lower) (us : List Token) → heads_constructor us ≡ false → (take_parameter_list l ▸ take_rest l) us ≡ None
unfolding take_parameter_list
no_parameters l [] e = refl
no_parameters l (u ∷ us) e = by (is kind.OpenParenthesis u) refl
  where
    by : (b : Bool) → is kind.OpenParenthesis u ≡ b → (take_parameter_list l ▸ take_rest l) (u ∷ us) ≡ None
    by true d = let none : take_rest l (drop (past u) us) ≡ None = no_rest l (drop (past u) us) (rw d at e) in rw d (behind_group parameter_list_of l u (u ∷ us) (drop (past u) us) (complete _) none)
    by false d = rw d refl

pub no_constructor : (class : Option ℕ) (l : Lower) (ts us : List Token) (name : ConstructorName) → take_constructor_name class ts ≡ Some (name, us) → heads_constructor us ≡ false → take_constructor class l ts ≡ None
unfolding take_constructor
no_constructor class l ts us name e d = rw (e, no_parameters l us d) refl
