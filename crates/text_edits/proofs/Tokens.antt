-- Tokens that are the same but for what stands in a body are read alike.
use Rattle.std.proofs.Common.{◌≡◌, ℕ, ◌+◌, ◌≤◌, false, List, ◌∷◌, ◌++◌, length, sym, ap, ◌∙◌, subst, arith, length-append}
use Rattle.dart_tokens.specs.declared.token.Token.{Token}
use Rattle.grammar.specs.Tokens.{grammar_tokens}
use Rattle.body_laws.specs.Bodies.{Moves, Freedom, Alike}
use Rattle.text_edits.specs.EditedTokens.{EditedTokens}
use Rattle.text_edits.proofs.Braces.{texts_alike}

pub tokens_alike : (m : Moves) (f : Freedom) (ts us : List Token) → EditedTokens m f ts us → (n : ℕ) → length ts ≤ n → Alike m f n false (grammar_tokens ts) (grammar_tokens us)
tokens_alike m f ts us e n le =
    let size : length ts ≡ length e.before + length (e.left ∷ (e.inside ++ (e.right ∷ e.behind))) = ap (λ (xs : List Token). length xs) e.tokens ∙ length-append e.before (e.left ∷ (e.inside ++ (e.right ∷ e.behind))) in
    let rest : length (e.inside ++ (e.right ∷ e.behind)) ≡ length e.inside + length (e.right ∷ e.behind) = length-append e.inside (e.right ∷ e.behind) in
    subst (λ (xs : List Token). Alike m f n false (grammar_tokens xs) (grammar_tokens us)) (sym e.tokens)
    (subst (λ (ys : List Token). Alike m f n false (grammar_tokens (e.before ++ (e.left ∷ (e.inside ++ (e.right ∷ e.behind))))) (grammar_tokens ys)) (sym e.edited)
    (texts_alike m f e.left e.left_there e.right e.right_there e.inside e.instead e.behind e.later e.opens e.closes e.move e.brace e.before e.earlier n (omega (arith, size, rest, le)) e.stay e.leads))
